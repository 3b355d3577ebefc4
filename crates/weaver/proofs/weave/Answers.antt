use Rattle.std.proofs.Common.{◌≡◌, length, Ok, Err, sym, ap, ◌∙◌, arith}
use Rattle.std.proofs.lemmas.Result.{err_from_is_err_and, IfOk-from_err}
use Rattle.model.specs.Files.{policy_limits, plain_of}
use Rattle.model.proofs.Weaving.{limited}
use Rattle.applet.specs.Applets.{meant, read_seen}
use Rattle.weaver.specs.Weaves.{forget}
use Rattle.weaver.proofs.Passes.{read_sound}
use Rattle.weaver.proofs.WovenFile.{plain_err, file_plain, ends_err}
use Rattle.weaver.proofs.WholeWeave.{read_short, limits_refused, read_refused, read_woven, strips}
use Rattle.weaver.proofs.weave.Goals as goal
use Rattle.weaver.proofs.weave.Goals.{In_ok-limits}

module _ (g : _) (c : In_ok-limits g) where
  within : policy_limits (g.P.Policy.meaning c.args.policy.now) (g.P.Policy.blocks c.args.policy.now) ≡ Ok tt
  within = sym c.limits.ensures ∙ c.in_ok-limits.was

pub returns-in_err-limits : goal.returns-in_err-limits
returns-in_err-limits g c =
    let r = err_from_is_err_and c.from_residual.result c.from_residual.ensures.1 in
    let e = limits_refused (g.P.Policy.meaning c.args.policy.now) (g.P.Policy.blocks c.args.policy.now) c.args.plain.now c.args.area.now _
    (sym c.limits.ensures ∙ c.in_err-limits.was) in
    record { answer = r.1 ∙ ap Err r.2 ∙ e.0; area = e.1; stripped = IfOk-from_err c.from_residual.result _ c.from_residual.ensures.0 }

pub returns-in_err-applet : goal.returns-in_err-applet
returns-in_err-applet g c =
    let k = (goal.at.returns-in_err-applet g c).In_ok-limits in
    let r = err_from_is_err_and c.from_residual-in_err-applet.result c.from_residual-in_err-applet.ensures.1 in
    let e = read_refused (g.P.Policy.meaning c.args.policy.now) (g.P.Policy.blocks c.args.policy.now) c.args.plain.now c.args.area.now (within g k) _
    (sym c.read.ensures.value ∙ ap read_seen c.in_err-applet.was) in
    record { answer = r.1 ∙ ap Err r.2 ∙ e.0; area = e.1; stripped = IfOk-from_err c.from_residual-in_err-applet.result _ c.from_residual-in_err-applet.ensures.0 }

pub plain_applet-requires : goal.plain_applet-requires
plain_applet-requires g c =
    let x = c.in_ok-applet.ensures in
    let f = c.args.plain.now in
    let l = ap length x.kept.written in
    let n = read_short f (meant c.in_ok-applet.applet) (sym x.value) in
    read_sound c.in_ok-applet.applet x.places x.kept.valid (omega arith)

pub returns-in_err-plain_applet : goal.returns-in_err-plain_applet
returns-in_err-plain_applet g c =
    let A = g.P.Policy.meaning c.args.policy.now in
    let B = g.P.Policy.blocks c.args.policy.now in
    let f = c.args.plain.now in
    let xs = c.args.area.now in
    let k = (goal.at.returns-in_err-plain_applet g c).In_ok-limits in
    let a = meant c.in_ok-applet.applet in
    let r = err_from_is_err_and c.from_residual-in_err-plain_applet.result c.from_residual-in_err-plain_applet.ensures.1 in
    let w = read_woven A B f xs (within g k) a (sym c.in_ok-applet.ensures.value) in
    let e = ends_err A B a xs _ (file_plain A B a (length xs) _ (plain_err a _ (sym c.in_err-plain_applet.was ∙ c.plain_applet.ensures))) in
    record { answer = r.1 ∙ ap Err r.2 ∙ e.0 ∙ w.0; area = e.1 ∙ w.1; stripped = IfOk-from_err c.from_residual-in_err-plain_applet.result _ c.from_residual-in_err-plain_applet.ensures.0 }

pub new-requires : goal.new-requires
new-requires g c =
    let k = (goal.at.new-requires g c).In_ok-limits in
    let x = c.in_ok-applet.ensures in
    let f = c.args.plain.now in
    let l = ap length x.kept.written in
    let n = read_short f (meant c.in_ok-applet.applet) (sym x.value) in
    record {
      limited = limited (g.P.Policy.meaning c.args.policy.now) (g.P.Policy.blocks c.args.policy.now) tt (within g k);
      sound = read_sound c.in_ok-applet.applet x.places x.kept.valid (omega arith);
    }

pub weave-requires : goal.weave-requires
weave-requires g c = sym c.in_ok-plain_applet.was ∙ c.plain_applet.ensures ∙ ap (λ a. forget (plain_of (meant a))) (sym c.new.ensures.applet)

pub returns : goal.returns
returns g c =
    let A = g.P.Policy.meaning c.args.policy.now in
    let B = g.P.Policy.blocks c.args.policy.now in
    let f = c.args.plain.now in
    let xs = c.args.area.now in
    let k = (goal.at.returns g c).In_ok-limits in
    let e = read_woven A B f xs (within g k) (meant c.in_ok-applet.applet) (sym c.in_ok-applet.ensures.value) in
    let p = c.new.ensures.policy in
    let q = c.new.ensures.applet in
    let r = (rw (p, q) at c.weave.ensures.answer) ∙ e.0 in
    let n = (rw (p, q) at c.weave.ensures.area) ∙ e.1 in
    record { answer = r; area = n; stripped = strips A B f xs (g.P.Policy.shows c.args.policy.now) c.weave.result c.weave.new.area r n }
