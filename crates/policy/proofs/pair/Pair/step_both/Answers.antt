use Rattle.std.proofs.Common.{◌≡◌, ◌-◌, length, take, drop, Some, sym, ap, ◌∙◌, arith, length-append, length-drop, length-take}
use Rattle.policy.specs.Calls.{is_taken}
use Rattle.policy.proofs.Pairs.{first_answer, first_after, second_answer, second_after, refused_first, refused_second, taken_both, after_both, behind_two, same_rest, stays_none, differ}
use Rattle.policy.proofs.pair.Pair.step_both.Goals as goal

pub returns-then-not-taken-clause-answer : goal.returns-then-not-taken-clause-answer
returns-then-not-taken-clause-answer g c =
    let A = g.P.Policy.meaning c.args.self.now.first in
    let C = g.Q.Policy.meaning c.args.self.now.second in
    let row = c.args.cells.now in
    let e = c.args.event.now in
    let no = sym (c.if-not-taken.ensures ∙ ap is_taken (c.step.ensures.answer ∙
    first_answer A C e row c.args.a c.args.w c.requires.known c.requires.first c.requires.both c.requires.narrow c.requires.room)) in
    refused_first (A.step e (take A.width (take c.args.w row))) (C.step e (drop A.width (take c.args.w row))) no

pub returns-then-not-taken-2 : goal.returns-then-not-taken-2
returns-then-not-taken-2 g c =
    let A = g.P.Policy.meaning c.args.self.now.first in
    let C = g.Q.Policy.meaning c.args.self.now.second in
    let row = c.args.cells.now in
    let e = c.args.event.now in
    let s = A.step e (take A.width (take c.args.w row)) in
    let t = C.step e (drop A.width (take c.args.w row)) in
    let lx : length c.step.new.row ≡ c.args.a = c.step.auto.row ∙ (length-take (c.args.a - 0) row ∙ omega arith) in
    let no = sym (c.if-not-taken-2.ensures ∙ ap is_taken (c.step-2.ensures.answer ∙
    second_answer A C e row c.args.a c.args.w c.requires.known c.requires.first c.requires.both c.requires.narrow c.requires.room c.step.new.row lx)) in
    let r₂ = c.step-2.ensures.row ∙ second_after A C e row c.args.a c.args.w c.requires.known c.requires.first c.requires.both c.requires.narrow c.requires.room c.step.new.row lx in
    let y₂ = stays_none t c.step-2.new.row (drop A.width (take c.args.w row)) no r₂ ∙ ap (λ n. drop n (take c.args.w row)) (sym c.requires.first) in
    record {
      answer = refused_second s t no;
      cells = λ y. differ y;
      past = λ y. differ y;
      kept = λ _. same_rest row c.step.new.row c.step-2.new.row c.args.a c.args.w lx (omega arith) y₂;
    }

pub returns : goal.returns
returns g c =
    let A = g.P.Policy.meaning c.args.self.now.first in
    let C = g.Q.Policy.meaning c.args.self.now.second in
    let row = c.args.cells.now in
    let e = c.args.event.now in
    let s = A.step e (take A.width (take c.args.w row)) in
    let t = C.step e (drop A.width (take c.args.w row)) in
    let x = c.step.new.row in
    let y = c.step-2.new.row in
    let lx : length x ≡ c.args.a = c.step.auto.row ∙ (length-take (c.args.a - 0) row ∙ omega arith) in
    let ly : length y ≡ c.args.w - c.args.a = c.step-2.auto.row ∙ simp (length-take, length-drop, length-append) (omega arith) in
    let yes₁ = sym (c.if-not-taken.ensures ∙ ap is_taken (c.step.ensures.answer ∙
    first_answer A C e row c.args.a c.args.w c.requires.known c.requires.first c.requires.both c.requires.narrow c.requires.room)) in
    let yes₂ = sym (c.if-not-taken-2.ensures ∙ ap is_taken (c.step-2.ensures.answer ∙
    second_answer A C e row c.args.a c.args.w c.requires.known c.requires.first c.requires.both c.requires.narrow c.requires.room x lx)) in
    let r₁ = c.step.ensures.row ∙ first_after A C e row c.args.a c.args.w c.requires.known c.requires.first c.requires.both c.requires.narrow c.requires.room in
    let r₂ = c.step-2.ensures.row ∙ second_after A C e row c.args.a c.args.w c.requires.known c.requires.first c.requires.both c.requires.narrow c.requires.room x lx in
    let b = taken_both s t x y _ _ yes₁ yes₂ r₁ r₂ in
    record {
      answer = b.0;
      cells = λ k. ap Some (after_both row x y c.args.a c.args.w lx ly (omega arith)) ∙ b.1;
      past = λ _. behind_two row x y c.args.a c.args.w lx ly (omega arith);
      kept = λ k. differ (sym k);
    }
