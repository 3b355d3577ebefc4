use Rattle.std.proofs.Common.{◌≡◌, ◌+◌, Ok, ap, ◌∙◌, inl, inr, arith}
use Rattle.std.proofs.lemmas.Bool.{cases_eq}
use Rattle.model.specs.Kinds.{pair_automaton, pair_block}
use Rattle.model.proofs.PairBlocks.{pair_showing}
use Rattle.policy.proofs.Pairs.{pair_length, pair_writes}
use Rattle.policy.proofs.Asked.{passed, block_refused, block_allowed}
use Rattle.policy.proofs.pair.PairPolicy.write_block.Goals as goal

pub returns-in_err-may_write : goal.returns-in_err-may_write
returns-in_err-may_write g c =
    let p = c.args.self.now.first in
    let q = c.args.self.now.second in
    let A = g.P.Policy.meaning p in
    let C = g.Q.Policy.meaning q in
    let S = pair_showing A C (g.P.Policy.blocks p) (g.Q.Policy.blocks q) (g.P.Policy.shows p) (g.Q.Policy.shows q) in
    let h = block_refused (pair_automaton A C) (pair_block A.width (g.P.Policy.blocks p) (g.Q.Policy.blocks q)) S c.args.call c.args.moment c.args.first
    c.args.area.now c.in_err-may_write.field-0.0 (rw (c.block_len-n.ensures, c.width.ensures) at c.in_err-may_write.ensures) in
    record { answer = passed _ c.from_residual.ensures.1 ∙ h.0; area = h.1 }

pub returns : goal.returns
returns g c =
    let p = c.args.self.now.first in
    let q = c.args.self.now.second in
    let A = g.P.Policy.meaning p in
    let C = g.Q.Policy.meaning q in
    let S = pair_showing A C (g.P.Policy.blocks p) (g.Q.Policy.blocks q) (g.P.Policy.shows p) (g.Q.Policy.shows q) in
    let w = block_allowed (pair_automaton A C) (pair_block A.width (g.P.Policy.blocks p) (g.Q.Policy.blocks q)) S c.args.call c.args.moment c.args.first
    c.args.area.now (rw (c.block_len-n.ensures, c.width.ensures) at c.in_ok-may_write.ensures) in
    let n = pair_length A C (g.P.Policy.blocks p) (g.Q.Policy.blocks q) (g.P.Policy.shows p) (g.Q.Policy.shows q) c.args.call c.args.moment c.args.first in
    let short = w.short in
    let second : c.saturating_add-second.result ≡ c.args.first + A.width =
    elim (cases_eq A.width 0) [ inl z ↦ omega arith | inr z ↦ let y = w.wide (λ i. z (omega arith)) in omega arith ] in
    record {
      answer = ap Ok (c.from.ensures ∙ c.block_len-n.ensures ∙ w.told) ∙ w.answer;
      area = pair_writes A C (g.P.Policy.blocks p) (g.Q.Policy.blocks q) (g.P.Policy.shows p) (g.Q.Policy.shows q) c.args.call c.args.moment c.args.first c.args.area.now
          c.write_block.new.area c.write_behind.new.area c.from-at.result w (omega arith) c.write_block.ensures.area (rw second at c.write_behind.ensures);
    }
