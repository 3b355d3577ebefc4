-- A step gives cells of signed 32 bits.
use Rattle.std.proofs.Common.{◌≡◌, ℕ, zero, suc, ◌+◌, Bool, true, false, not, ◌&&◌, ◌||◌, List, [], ◌∷◌, ◌++◌, length, get_or, set, ℤ, pos, negsuc, ◌+ℤ◌, ◌-ℤ◌, Some, refl, ap, ◌∙◌, subst, arith, take_at, w16, w32, SFits}
use lib.Signed.{lt_z}
use Rattle.std.specs.List.{AllByRecursion}
use Rattle.std.proofs.ByRecursion.{All-append, All-take}
use Rattle.std.proofs.lemmas.Int.{SFits-int_wrap}
use Rattle.model.specs.declared.Moment.{Moment}
use Rattle.model.specs.declared.Operator.{Operator}
use Rattle.model.specs.declared.Operator.TheVariants.{Plus, Minus, Less, Equal, Both, Either}
use Rattle.model.specs.declared.Test.{Test}
use Rattle.model.specs.declared.Test.TheVariants.{Skip, Skz, Viol, Mset, Mcell, Marg, Store, Op}
use Rattle.model.specs.Policy.{Automaton, Blocks, Showing, StaysSigned, Formed, Turn, turn, Ran, reached, stopped, astray, exec, end, due, eqZ, flag, operate}
use Rattle.model.specs.Machine.{zeros}

-- signed 32 bits each
abbrev Signed : List ℤ → Type 0
Signed = AllByRecursion (SFits w32)

getD_all : (xs : List ℤ) (i : ℕ) → Signed xs → SFits w32 (get_or xs i (pos 0))
getD_all [] i h = record { sfits = omega arith }
getD_all (x ∷ xs) zero h = h.0
getD_all (x ∷ xs) (suc i) h = getD_all xs i h.1

set_all : (xs : List ℤ) (i : ℕ) (v : ℤ) → Signed xs → SFits w32 v → Signed (set xs i v)
set_all [] i v h k = tt
set_all (x ∷ xs) zero v h k = (k, h.1)
set_all (x ∷ xs) (suc i) v h k = (h.0, set_all xs i v h.1 k)

zeros_all : (n : ℕ) → Signed (zeros n)
zeros_all zero = tt
zeros_all (suc n) = (record { sfits = omega arith }, zeros_all n)

flag_fits : (b : Bool) → SFits w32 (flag b)
flag_fits true = record { sfits = omega arith }
flag_fits false = record { sfits = omega arith }

operate_fits : (o : Operator) (a b : ℤ) → SFits w32 (operate o a b)
operate_fits Plus a b = SFits-int_wrap w32 (a +ℤ b)
operate_fits Minus a b = SFits-int_wrap w32 (a -ℤ b)
operate_fits Less a b = flag_fits (lt_z a b)
operate_fits Equal a b = flag_fits (eqZ a b)
operate_fits Both a b = flag_fits (not (eqZ a (pos 0)) && not (eqZ b (pos 0)))
operate_fits Either a b = flag_fits (not (eqZ a (pos 0)) || not (eqZ b (pos 0)))

wider_fits : (z : ℤ) → SFits w16 z → SFits w32 z
wider_fits (pos n) h = record { sfits = omega (arith, h.sfits) }
wider_fits (negsuc n) h = record { sfits = omega (arith, h.sfits) }

-- cells and scratch numbers of signed 32 bits behind a test
abbrev SignedTurn : Turn → Type 0
SignedTurn (Turn.went n s m) = Signed s × Signed m
SignedTurn Turn.halts = Unit {0}

-- and where a run came to
abbrev SignedRan : Ran → Type 0
SignedRan (reached s m) = Signed s × Signed m
SignedRan stopped = Unit {0}
SignedRan astray = Unit {0}

module _ (t : Moment) (low high : ℕ) (a : List ℤ) (sa : Signed a) where
  turn_signed : (i : Test) (s m : List ℤ) → Formed t low high i → Signed s → Signed m → SignedTurn (turn a i s m)
  turn_signed (Skip n) s m f hs hm = (hs, hm)
  turn_signed (Skz x n) s m f hs hm = (hs, hm)
  turn_signed Viol s m f hs hm = tt
  turn_signed (Mset x y) s m f hs hm = (hs, set_all m x y hm (wider_fits y f.1))
  turn_signed (Mcell x y) s m f hs hm = (hs, set_all m x _ hm (getD_all s y hs))
  turn_signed (Marg x y) s m f hs hm = (hs, set_all m x _ hm (getD_all a y sa))
  turn_signed (Store x y) s m f hs hm = (set_all s y _ hs (getD_all m x hm), hm)
  turn_signed (Op x o) s m f hs hm = (hs, set_all m x _ hm (operate_fits o _ _))

  exec_signed : (k : ℕ) (b : List Test) (s m : List ℤ) → AllByRecursion (Formed t low high) b → Signed s → Signed m → SignedRan (exec a k b s m)
  exec_signed zero [] s m f hs hm = (hs, hm)
  exec_signed (suc k) [] s m f hs hm = tt
  exec_signed (suc k) (i ∷ b) s m f hs hm = exec_signed k b s m f.1 hs hm
  exec_signed zero (i ∷ b) s m f hs hm = go (turn a i s m) (turn_signed i s m f.0 hs hm) (λ k s m. exec_signed k b s m f.1)
    where
      go : (u : Turn) → SignedTurn u → ((k : ℕ) (s m : List ℤ) → Signed s → Signed m → SignedRan (exec a k b s m)) →
          SignedRan (elim u [ Turn.went n s' m' ↦ exec a n b s' m' | Turn.halts ↦ stopped ])
      go (Turn.went n s' m') h ih = ih n s' m' h.0 h.1
      go Turn.halts h ih = tt

ran_signed : (x : Ran) (d : List ℤ) → SignedRan x → end x ≡ due [] [] (Some d) → Signed d
ran_signed (reached s m) d h e =
    let z : s ≡ d ++ [] = cc in
    subst Signed (take_at d [] (length d) refl) (All-take (SFits w32) (length d) (d ++ []) (subst Signed z h.0))
ran_signed stopped d h e = let z : ◌≡◌ {A = ℕ} 0 1 = cc in absurd (omega arith)
ran_signed astray d h e = let z : ◌≡◌ {A = ℕ} 0 1 = cc in absurd (omega arith)

pub stays_signed : (A : Automaton) (B : Blocks) → Showing A B → StaysSigned A
stays_signed A B S e c d lc lx hc hx hv h =
    let a = e.args ++ (e.answer ∷ []) in
    let b = B e.call e.moment 0 in
    ran_signed (exec a 0 b (c ++ []) (zeros 8)) d
    (exec_signed e.moment 0 (0 + A.width) a (All-append (SFits w32) e.args (e.answer ∷ []) hx (hv, tt)) 0 b (c ++ []) (zeros 8)
    (S.formed e.call e.moment 0) (All-append (SFits w32) c [] hc tt) (zeros_all 8))
    (S.runs e.call e.moment 0 [] c [] refl lc e.args e.answer (zeros 8) lx refl ∙ ap (due [] []) h)
