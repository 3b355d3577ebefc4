use Rattle.std.proofs.Common.{◌≡◌, ℕ, ◌+◌, ◌-◌, ◌≤◌, List, Option, drop, None}
use Rattle.std.specs.Iterator.Adapters.{enumerate_source, enumerate_count}
use Rattle.model.specs.Fields.{Read, fields}
use Rattle.rules.specs.Reader.{faulty}
use Rattle.rules.proofs.reader.each.Given as goal

-- what is still to be read, behind what was found, comes to what all comes to
abbrev pub invariant-loop-i : goal.invariant-loop-i
invariant-loop-i g l =
    let it = enumerate_source l.i-iterator in
    let k = enumerate_count l.i-iterator in
    record {
      few : k ≤ l.most;
      held : it.holder.now ≡ l.holder;
      tagged : it.tag ≡ l.tag;
      same : (one : ℕ → List ℕ → Read (Option ℕ)) → ((h : _) (p : ℕ) (r : _) → goal.F-post g l.read h p r → r ≡ one p (drop (p + 3) h.now)) →
          faulty (λ b. b) l.bad (fields (l.most - k) l.tag one it.at (drop it.at l.holder)) ≡ faulty (λ b. b) None (fields l.most l.tag one l.from (drop l.from l.holder));
    }
