use Rattle.std.proofs.Common.{length, Ok, Err, sym, ap, ◌∙◌, ap₂, arith, rules}
use Rattle.std.proofs.lemmas.Result.{err_from_is_err_and}
use Rattle.model.specs.Reading.{write_applet, method_place}
use Rattle.applet.specs.Applets.{meant}
use Rattle.policy.specs.Calls.{put_at}
use Rattle.policy.proofs.Writes.{put_front}
use Rattle.weaver.specs.Weaves.{woven_of}
use Rattle.weaver.proofs.WovenFile.{plain_ok, length_ok, length_err, sized_all, file_sized, file_long, file_wide, file_done, ends_err, ends_ok}
use Rattle.weaver.proofs.weaving.Weaving.weave.Goals as goal

pub returns-in_err-len : goal.returns-in_err-len
returns-in_err-len g c =
    let A = g.P.Policy.meaning c.args.self.now.policy.now in
    let B = g.P.Policy.blocks c.args.self.now.policy.now in
    let a = meant c.args.self.now.applet.now in
    let xs = c.args.area.now in
    let r = err_from_is_err_and c.from_residual.result c.from_residual.ensures.1 in
    let e = ends_err A B a xs _ (file_sized A B a (length xs) (plain_ok a c.requires) _ (length_err A B a _ (sym c.in_err-len.was ∙ c.woven_len.ensures))) in
    record { answer = r.1 ∙ ap Err r.2 ∙ e.0; area = e.1 }

pub returns-then-len-gt65535 : goal.returns-then-len-gt65535
returns-then-len-gt65535 g c =
    let A = g.P.Policy.meaning c.args.self.now.policy.now in
    let B = g.P.Policy.blocks c.args.self.now.policy.now in
    let a = meant c.args.self.now.applet.now in
    let xs = c.args.area.now in
    let m = length_ok A B a c.in_ok-len.len (sym c.in_ok-len.was ∙ c.woven_len.ensures) in
    let l = m.1 in
    let e = ends_err A B a xs _ (file_long A B a (length xs) (plain_ok a c.requires) m.0 (omega arith)) in
    record { answer = e.0; area = e.1 }

pub returns-then-len-area : goal.returns-then-len-area
returns-then-len-area g c =
    let A = g.P.Policy.meaning c.args.self.now.policy.now in
    let B = g.P.Policy.blocks c.args.self.now.policy.now in
    let a = meant c.args.self.now.applet.now in
    let xs = c.args.area.now in
    let m = length_ok A B a c.in_ok-len.len (sym c.in_ok-len.was ∙ c.woven_len.ensures) in
    let l = m.1 in
    let e = ends_err A B a xs _ (file_wide A B a (length xs) (plain_ok a c.requires) m.0 (omega arith) (omega arith)) in
    record { answer = e.0; area = e.1 }

pub put_file-requires : goal.put_file-requires
put_file-requires g c =
    let A = g.P.Policy.meaning c.args.self.now.policy.now in
    let B = g.P.Policy.blocks c.args.self.now.policy.now in
    let a = meant c.args.self.now.applet.now in
    let m = length_ok A B a c.in_ok-len.len (sym c.in_ok-len.was ∙ c.woven_len.ensures) in
    let l = m.1 in
    let e = c.new.ensures.at in
    let z = ap length c.new.ensures.area in
    record {
      short = sized_all (method_place a) 0 (woven_of A B a).methods m.0;
      room = omega arith;
    }

pub returns : goal.returns
returns g c =
    let A = g.P.Policy.meaning c.args.self.now.policy.now in
    let B = g.P.Policy.blocks c.args.self.now.policy.now in
    let a = meant c.args.self.now.applet.now in
    let xs = c.args.area.now in
    let m = length_ok A B a c.in_ok-len.len (sym c.in_ok-len.was ∙ c.woven_len.ensures) in
    let l = m.1 in
    let e = ends_ok A B a xs (write_applet (woven_of A B a)) (file_done A B a (length xs) (plain_ok a c.requires) m.0 (omega arith) (omega arith)) in
    let w = write_applet (woven_of A B a) in
    let z = c.put_file.ensures.area ∙ ap₂ (λ xs n. put_at xs n w) c.new.ensures.area c.new.ensures.at ∙ put_front xs w ∙ e.1 in
    record { answer = ap Ok l ∙ e.0; area = ◌∙◌ {b = c.put_file.new.pen.area.now} (search rules) z }
