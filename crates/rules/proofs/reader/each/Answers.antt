use Rattle.std.proofs.Common.{◌≡◌, ◌+◌, ◌-◌, ◌<◌, None, Ok, Err, length, drop, take, sym, ap, ap₂, ◌∙◌, arith}
use Rattle.std.proofs.lemmas.Result.{err_from_is_err_and}
use Rattle.std.proofs.lemmas.List.{length-take-le}
use Rattle.std.specs.Iterator.Adapters.{enumerate_source, enumerate_count}
use Rattle.std.specs.Option.{option_or}
use Rattle.model.specs.declared.Refusal.TheVariants.{BadPolicySize}
use Rattle.model.specs.Fields.{fields}
use Rattle.policy.specs.Rows.{goes_to}
use Rattle.rules.specs.Reader.{faulty}
use Rattle.rules.proofs.Reading.{Here, here, due_known, at_end, at_broken, at_many, at_fault, at_more, one_self}
use Rattle.rules.proofs.reader.each.Goals as goal
use Rattle.rules.proofs.reader.each.Goals.{In-Some, In_ok-field}

-- the place is within the holder
within : (g : _) (c : In-Some g) → (enumerate_source c.loop-i.i-iterator).at < length c.args.holder.now
within g c = omega (arith, c.in-Some.ensures.steps.0.2.0, ap length c.loop-i.invariant.held)

-- the field that was handed out
stands : (g : _) (c : In_ok-field g) → Here c.args.holder.now c.args.tag (enumerate_source c.loop-i.i-iterator).at c.in_ok-field.field.contents.now c.in_ok-field.field.next
stands g c =
    let s = enumerate_source c.loop-i.i-iterator in
    let inv = c.loop-i.invariant in
    here c.args.holder.now c.args.tag s.at c.in_ok-field.field.contents.now c.in_ok-field.field.next
    ((rw c.in_ok-field.was at c.in-Some.ensures.steps.0.2.2) ∙ due_known c.args.holder.now s.holder.now c.args.tag s.tag s.at inv.held inv.tagged c.requires.tag)

pub loop-i-init : goal.loop-i-init
loop-i-init g c =
    let e = ap enumerate_source c.into_iter-i-iterator.ensures.into_iter_gives ∙ c.enumerate-i-items.ensures.source in
    let z = ap enumerate_count c.into_iter-i-iterator.ensures.into_iter_gives ∙ c.enumerate-i-items.ensures.count in
    let m : c.args.most - enumerate_count c.into_iter-i-iterator.result ≡ c.args.most = omega (arith, z) in
    record {
      few = omega (arith, z);
      held = ap (λ s. s.holder.now) e ∙ c.new.ensures.holder;
      tagged = ap (λ s. s.tag) e ∙ c.new.ensures.tag;
      same = λ one h. ap₂ (λ m p. faulty (λ b. b) None (fields m c.args.tag one p (drop p c.args.holder.now))) m (ap (λ s. s.at) e ∙ c.new.ensures.at);
    }

pub returns-in_err-field : goal.returns-in_err-field
returns-in_err-field g c one h =
    let s = enumerate_source c.loop-i.i-iterator in
    let inv = c.loop-i.invariant in
    let p = err_from_is_err_and c.from_residual.result c.from_residual.ensures.1 in
    let e = (rw c.in_err-field.was at c.in-Some.ensures.steps.0.2.2) ∙ due_known c.args.holder.now s.holder.now c.args.tag s.tag s.at inv.held inv.tagged c.requires.tag in
    rw (p.1, p.2)
    (sym (at_broken c.args.tag one (λ b. b) c.args.holder.now s.at c.loop-i.bad (c.args.most - enumerate_count c.loop-i.i-iterator) c.in_err-field.field-0.0
    (within g (goal.at.returns-in_err-field g c).In-Some) e) ∙ inv.same one h)

pub returns-then-i-most : goal.returns-then-i-most
returns-then-i-most g c one h =
    let s = enumerate_source c.loop-i.i-iterator in
    let k = enumerate_count c.loop-i.i-iterator in
    let steps = c.in-Some.ensures.steps in
    let none : c.args.most - k ≡ 0 = omega (arith, steps.1, c.if-i-most.true) in
    ap (λ p. Err (BadPolicySize p)) steps.0.2.1
    ∙ sym (at_many c.args.tag one (λ b. b) c.args.holder.now s.at c.loop-i.bad (c.args.most - k) _ _ (within g (goal.at.returns-then-i-most g c).In-Some)
    (stands g (goal.at.returns-then-i-most g c).In_ok-field) none) ∙ c.loop-i.invariant.same one h

pub slice_bounds-read-end : goal.slice_bounds-read-end
slice_bounds-read-end g c = sym (length-take-le c.in_ok-field.field.next c.args.holder.now (stands g (goal.at.slice_bounds-read-end g c).In_ok-field).ends)

pub read-requires : goal.read-requires
read-requires g c =
    let w = stands g (goal.at.read-requires g c).In_ok-field in
    let l = length-take-le c.in_ok-field.field.next c.args.holder.now w.ends in
    c.requires.may _ c.in-Some.at (omega (arith, l, w.behind, c.in-Some.ensures.steps.0.2.1))

pub returns-in_err-one : goal.returns-in_err-one
returns-in_err-one g c one h =
    let s = enumerate_source c.loop-i.i-iterator in
    let k = enumerate_count c.loop-i.i-iterator in
    let inv = c.loop-i.invariant in
    let steps = c.in-Some.ensures.steps in
    let p = err_from_is_err_and c.from_residual-in_err-one.result c.from_residual-in_err-one.ensures.1 in
    let w = stands g (goal.at.returns-in_err-one g c).In_ok-field in
    let next = c.in_ok-field.field.next in
    let e : Err c.in_err-one.field-0.0 ≡ one s.at c.in_ok-field.field.contents.now =
    h _ c.in-Some.at _ c.in_err-one.ensures ∙ ap (λ p. one p (drop (p + 3) (take next c.args.holder.now))) steps.0.2.1 ∙ ap (one s.at) w.inside in
    rw (p.1, p.2)
    (sym (at_fault c.args.tag one (λ b. b) c.args.holder.now s.at c.loop-i.bad (c.args.most - k) _ _ (within g (goal.at.returns-in_err-one g c).In-Some) w c.in_err-one.field-0.0
    (omega (arith, steps.1, inv.few, c.if-i-most.false)) (e ∙ sym (one_self (one s.at c.in_ok-field.field.contents.now)))) ∙ inv.same one h)

pub loop-i-preserved : goal.loop-i-preserved
loop-i-preserved g c =
    let s = enumerate_source c.loop-i.i-iterator in
    let t = enumerate_source c.next.new.self in
    let k = enumerate_count c.loop-i.i-iterator in
    let j = enumerate_count c.next.new.self in
    let inv = c.loop-i.invariant in
    let steps = c.in-Some.ensures.steps in
    let holder = c.args.holder.now in
    let w = stands g (goal.at.loop-i-preserved g c).In_ok-field in
    let next = c.in_ok-field.field.next in
    let left : c.args.most - j ≡ c.args.most - k - 1 = omega (arith, steps.1, steps.2) in
    let at : t.at ≡ next = steps.0.2.3 ∙ ap (goes_to (length s.holder.now)) c.in_ok-field.was in
    record {
      few = omega (arith, steps.1, steps.2, inv.few, c.if-i-most.false);
      held = steps.0.0 ∙ inv.held;
      tagged = steps.0.1 ∙ inv.tagged;
      same = λ one h.
          let e : Ok c.in_ok-one.one ≡ one s.at c.in_ok-field.field.contents.now =
          h _ c.in-Some.at _ c.in_ok-one.ensures ∙ ap (λ p. one p (drop (p + 3) (take next holder))) steps.0.2.1 ∙ ap (one s.at) w.inside in
          ap (λ b. faulty (λ o. o) b (fields (c.args.most - j) c.args.tag one t.at (drop t.at holder))) c.or-bad.ensures
          ∙ ap₂ (λ m p. faulty (λ o. o) (option_or c.loop-i.bad c.in_ok-one.one) (fields m c.args.tag one p (drop p holder))) left at
          ∙ sym (at_more c.args.tag one (λ b. b) holder s.at c.loop-i.bad (c.args.most - k) _ _ (within g (goal.at.loop-i-preserved g c).In-Some) w c.in_ok-one.one
          (omega (arith, steps.1, inv.few, c.if-i-most.false)) (e ∙ sym (one_self (one s.at c.in_ok-field.field.contents.now)))) ∙ inv.same one h;
    }

pub returns : goal.returns
returns g c one h =
    let s = enumerate_source c.loop-i.i-iterator in
    let inv = c.loop-i.invariant in
    let end = c.in-None.ensures.steps.0.2 in
    sym (at_end c.args.tag one (λ b. b) c.args.holder.now s.at c.loop-i.bad (c.args.most - enumerate_count c.loop-i.i-iterator) (omega (arith, end.0, ap length inv.held))) ∙ inv.same one h
