-- What is seen of acts, written one after the other.
use Rattle.std.proofs.Common.{◌≡◌, ℕ, zero, suc, ◌+◌, ◌-◌, ◌<◌, ◌≤◌, Bool, List, [], ◌∷◌, ◌++◌, map, length, get_or, take, drop, set, ℤ, Some, None, Err, Option, sym, refl, ap, ◌∙◌, append_assoc, add-one, arith, drop-cons}
use Rattle.std.proofs.lemmas.List.{drop_all, drop-drop}
use Rattle.model.specs.declared.Refusal.{Refusal}
use Rattle.model.specs.Machine as machine
use Rattle.model.specs.Runs as model
use Rattle.model.specs.Runs.{act, sees, run, trace}
use Rattle.machine.specs.declared.acts.Act.{Act}
use Rattle.machine.specs.declared.acts.Seen.{Seen}
use Rattle.machine.specs.Machines.{replied}
use Rattle.machine.specs.Acts.{act_of, seen_of, seen_list}

pub none_seen : (s : machine.Stepped) (e : Refusal) (t : ℕ) (b : Bool) (v : ℤ) → Err e ≡ replied s → [] ≡ model.replied t b v s
none_seen (machine.Stepped.done m o) e t b v h = absurd (let z : ◌≡◌ {A = ℕ} 0 1 = cc in omega arith)
none_seen (machine.Stepped.refused r) e t b v h = refl

front_from : (xs : List Seen) (n : ℕ) (s : Seen) → n < length xs → take (suc n) (map seen_of (set xs n s)) ≡ take n (map seen_of xs) ++ seen_of s ∷ []
front_from [] n s l = absurd (omega arith)
front_from (x ∷ xs) zero s l = refl
front_from (x ∷ xs) (suc n) s l = ap {B = List model.Seen} (λ r. seen_of x ∷ r) (front_from xs n s (omega arith))

behind_from : (xs : List Seen) (n : ℕ) (s : Seen) → drop (suc n) (map seen_of (set xs n s)) ≡ drop (suc n) (map seen_of xs)
behind_from [] n s = refl
behind_from (x ∷ xs) zero s = refl
behind_from (x ∷ xs) (suc n) s = behind_from xs n s

pub front : (xs : List Seen) (n : ℕ) (s : Seen) → n < length xs → take (n + 1) (map seen_of (set xs n s)) ≡ take n (map seen_of xs) ++ seen_of s ∷ []
front xs n s l = rw (add-one n) (front_from xs n s l)

pub behind : (xs : List Seen) (n : ℕ) (s : Seen) → drop (n + 1) (map seen_of (set xs n s)) ≡ drop (n + 1) (map seen_of xs)
behind xs n s = rw (add-one n) (behind_from xs n s)

pub one_at_most : (s : Option Seen) → length (seen_list s) ≤ 1
one_at_most None = omega arith
one_at_most (Some s) = omega arith

drop_more : {X : Type 0} (n k : ℕ) (xs ys : List X) → drop n xs ≡ drop n ys → drop (n + k) xs ≡ drop (n + k) ys
drop_more n k xs ys h = sym (drop-drop k n xs) ∙ ap (drop k) h ∙ drop-drop k n ys

pub drop_later : {X : Type 0} (n m : ℕ) (xs ys : List X) → n ≤ m → drop n xs ≡ drop n ys → drop m xs ≡ drop m ys
drop_later n m xs ys l h = let e : n + (m - n) ≡ m = omega arith in rw e at (drop_more n (m - n) xs ys h)

module _ (p : machine.Applet) (m k : machine.Machine) (xs : List Act) (i : ℕ) (l : i < length xs) where
  abbrev now_act : model.Act
  now_act = act_of (get_or xs i (Act.Step 0))

  rest : map act_of (drop i xs) ≡ now_act ∷ map act_of (drop (i + 1) xs)
  rest = rw (add-one i) (ap (map act_of) (drop-cons xs i (Act.Step 0) l))

  -- one act more has been carried out
  pub ran_on : k ≡ act p m now_act → run p k (map act_of (drop (i + 1) xs)) ≡ run p m (map act_of (drop i xs))
  ran_on h = rw (h, rest)

  pub seen_on : (a b o all : List model.Seen) → k ≡ act p m now_act → o ≡ sees p m now_act → b ≡ a ++ o → a ++ trace p m (map act_of (drop i xs)) ≡ all →
      b ++ trace p k (map act_of (drop (i + 1) xs)) ≡ all
  seen_on a b o all h s e q =
      let t : trace p m (map act_of (drop i xs)) ≡ o ++ trace p k (map act_of (drop (i + 1) xs)) = rw (rest, s, h) in
      rw e (append_assoc a o (trace p k (map act_of (drop (i + 1) xs))) ∙ ap (λ (r : List model.Seen). a ++ r) (sym t) ∙ q)

-- all acts have been carried out
pub nothing_left : (xs : List Act) (i : ℕ) → length xs ≤ i → map act_of (drop i xs) ≡ []
nothing_left xs i l = ap (map act_of) (drop_all i xs l)
