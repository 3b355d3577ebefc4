-- One turn more of the loops that count.
use Rattle.std.proofs.Common.{◌≡◌, ℕ, ◌+◌, ◌≤◌, Bool, true, false, List, ℤ, refl, add-one, arith}
use mir.Val.{bool_byte}
use Rattle.model.specs.declared.Event.{Event}
use Rattle.model.specs.Policy.{Automaton}
use Rattle.model.specs.Calls.{row_after, step_answer}
use Rattle.model.specs.Machine.{Applet, Machine, step}
use Rattle.policy.specs.Calls.{is_taken}
use Rattle.bench_calls.specs.Counts.{one_if, rows, takes, worked, served, next_of, turn_of, turned, works}

-- what a Bool counts
pub byte : (b : Bool) → bool_byte b ≡ one_if b
byte true = refl
byte false = refl

pub small : (b : Bool) → bool_byte b ≤ 1
small true = omega arith
small false = omega arith

module _ (A : Automaton) (e : Event) (row here : List ℤ) (i : ℕ) where
  pub rows_more : (there : List ℤ) → here ≡ rows A e row i → there ≡ row_after A e here → there ≡ rows A e row (i + 1)
  rows_more there p q = rw add-one (cc)

  pub takes_more : (n : ℕ) (b : Bool) → here ≡ rows A e row i → n ≡ takes A e row i → b ≡ is_taken (step_answer A e here) → n + one_if b ≡ takes A e row (i + 1)
  takes_more n b p q r = rw add-one (cc)

module _ (p : Applet) (m k : Machine) (last t i : ℕ) where
  pub turn_more : (u : ℕ) → t ≡ turn_of last i → u ≡ next_of last t → u ≡ turn_of last (i + 1)
  turn_more u a b = rw add-one (cc)

  pub turned_more : (l : Machine) → t ≡ turn_of last i → k ≡ turned p m last i → l ≡ served p k t (step p k t) → l ≡ turned p m last (i + 1)
  turned_more l a b c = rw add-one (cc)

  pub works_more : (n : ℕ) (b : Bool) → t ≡ turn_of last i → k ≡ turned p m last i → n ≡ works p m last i → b ≡ worked (step p k t) →
      n + one_if b ≡ works p m last (i + 1)
  works_more n b a c d e = rw add-one (cc)
