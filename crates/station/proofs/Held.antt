-- What a file holds that is read by its kind.
use Rattle.std.proofs.Common.{◌≡◌, ℕ, List, Ok, Err, ap, ◌∙◌, refl, arith}
use Rattle.model.specs.declared.Refusal.{Refusal}
use Rattle.model.specs.Fields.{Read, ◌>>=◌}
use Rattle.model.specs.Kinds.{Policy, automaton, blocks, read_policy, rules, table}
use Rattle.model.specs.Rules.{read_rules, rules_in, rules_automaton, rules_block, refusing_rules}
use Rattle.model.specs.Tables.{read_table, table_answer, table_in, table_automaton, table_block, refusing_table}
use Rattle.rules.specs.Pieces.{forget}
use Rattle.station.specs.Held.{Holds}

-- what was read, or else another value
abbrev or_else : {A : Type 0} → A → Read A → A
or_else d (Ok p) = p
or_else d (Err r) = d

-- a file that reads holds what it reads as
holds_read : {A : Type 0} (f : List ℕ) (k : A → Policy) (d : A) (r : Read A) → Ok tt ≡ forget r → read_policy f ≡ (r >>= (λ p. Ok (k p))) → Holds f (automaton (k (or_else d r))) (blocks (k (or_else d r)))
unfolding ◌>>=◌
holds_read f k d (Ok p) e h = record { policy = k p; read = h; means = refl; has = refl }
holds_read f k d (Err r) e h = absurd (let z : ◌≡◌ {A = ℕ} 0 1 = cc in omega arith)

-- a file that does not read is refused so
refused_read : {A : Type 0} (f : List ℕ) (k : A → Policy) (x : Refusal) (r : Read A) → Err x ≡ forget r → read_policy f ≡ (r >>= (λ p. Ok (k p))) → read_policy f ≡ Err x
unfolding ◌>>=◌
refused_read f k x (Ok p) e h = absurd (let z : ◌≡◌ {A = ℕ} 0 1 = cc in omega arith)
refused_read f k x (Err r) e h = let i : r ≡ x = cc in h ∙ ap Err i

pub holds_rules : (f : List ℕ) → Ok tt ≡ forget (read_rules f) → read_policy f ≡ (read_rules f >>= (λ p. Ok (rules p))) → Holds f (rules_automaton (rules_in f)) (rules_block (rules_in f))
unfolding rules_in
holds_rules f e h = holds_read f rules refusing_rules (read_rules f) e h

pub refused_rules : (f : List ℕ) (x : Refusal) → Err x ≡ forget (read_rules f) → read_policy f ≡ (read_rules f >>= (λ p. Ok (rules p))) → read_policy f ≡ Err x
refused_rules f x e h = refused_read f rules x (read_rules f) e h

then_forgotten : {A : Type 0} (r : Read A) → (r >>= (λ a. Ok tt)) ≡ forget r
unfolding ◌>>=◌
then_forgotten (Ok a) = refl
then_forgotten (Err x) = refl

pub holds_table : (f : List ℕ) → Ok tt ≡ table_answer f → read_policy f ≡ (read_table f >>= (λ p. Ok (table p))) → Holds f (table_automaton (table_in f)) (table_block (table_in f))
unfolding table_in
holds_table f e h = holds_read f table refusing_table (read_table f) (e ∙ then_forgotten (read_table f)) h

pub refused_table : (f : List ℕ) (x : Refusal) → Err x ≡ table_answer f → read_policy f ≡ (read_table f >>= (λ p. Ok (table p))) → read_policy f ≡ Err x
refused_table f x e h = refused_read f table x (read_table f) (e ∙ then_forgotten (read_table f)) h
