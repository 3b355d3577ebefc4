-- Registers and frames as lists.
use Rattle.std.proofs.Common.{◌≡◌, ℕ, zero, suc, ◌+◌, ◌<◌, ◌≤◌, min, true, ltb, ◌≢◌, List, [], ◌∷◌, length, get_or, take, set, ℤ, pos, refl, ap, arith, w32, SFits, to_z, of_z, get_or-set_other, get_or-set_same, false}
use Rattle.std.proofs.lemmas.Bool.{lt-ltb, le-ltb}
use Rattle.std.proofs.lemmas.Int.{to_z-of_z}
use Rattle.model.specs.Machine as model
use Rattle.model.specs.declared.Status.{Status}
use Rattle.machine.specs.declared.frames.Frame.{Frame}
use Rattle.machine.specs.declared.frames.Callers.{Callers}
use Rattle.machine.specs.declared.threads.Thread.{Thread}
use Rattle.machine.specs.Views.{waiting, index_of, no_frame, frame_of, caller_of, first_callers, callers_of, thread_of, Runs}

-- what holds of every eight numbers holds of a list of eight
pub eight : (P : List ℤ → Type 0) → ((a b c d e f g h : ℤ) → P (a ∷ b ∷ c ∷ d ∷ e ∷ f ∷ g ∷ h ∷ [])) → (xs : List ℤ) → length xs ≡ 8 → P xs
eight P p [] l = absurd (omega arith)
eight P p (a ∷ []) l = absurd (omega arith)
eight P p (a ∷ b ∷ []) l = absurd (omega arith)
eight P p (a ∷ b ∷ c ∷ []) l = absurd (omega arith)
eight P p (a ∷ b ∷ c ∷ d ∷ []) l = absurd (omega arith)
eight P p (a ∷ b ∷ c ∷ d ∷ e ∷ []) l = absurd (omega arith)
eight P p (a ∷ b ∷ c ∷ d ∷ e ∷ f ∷ []) l = absurd (omega arith)
eight P p (a ∷ b ∷ c ∷ d ∷ e ∷ f ∷ g ∷ []) l = absurd (omega arith)
eight P p (a ∷ b ∷ c ∷ d ∷ e ∷ f ∷ g ∷ h ∷ []) l = p a b c d e f g h
eight P p (a ∷ b ∷ c ∷ d ∷ e ∷ f ∷ g ∷ h ∷ k ∷ xs) l = absurd (omega arith)

-- four registers that were read
abbrev read_four : List ℤ → List ℤ
read_four xs = to_z w32 (of_z w32 (get_or xs 0 (pos 0))) ∷ to_z w32 (of_z w32 (get_or xs 1 (pos 0))) ∷ to_z w32 (of_z w32 (get_or xs 2 (pos 0))) ∷ to_z w32 (of_z w32 (get_or xs 3 (pos 0))) ∷ []

pub first_four : (xs : List ℤ) → length xs ≡ 8 → SFits w32 (get_or xs 0 (pos 0)) → SFits w32 (get_or xs 1 (pos 0)) → SFits w32 (get_or xs 2 (pos 0)) → SFits w32 (get_or xs 3 (pos 0)) → read_four xs ≡ take 4 xs
first_four xs l p q r s =
    rw (to_z-of_z w32 (get_or xs 0 (pos 0)) p, to_z-of_z w32 (get_or xs 1 (pos 0)) q, to_z-of_z w32 (get_or xs 2 (pos 0)) r, to_z-of_z w32 (get_or xs 3 (pos 0)) s)
    (eight (λ xs. get_or xs 0 (pos 0) ∷ get_or xs 1 (pos 0) ∷ get_or xs 2 (pos 0) ∷ get_or xs 3 (pos 0) ∷ [] ≡ take 4 xs) (λ a b c d e f g h. refl) xs l)

-- a frame past the first n
pub above : (n d : ℕ) (fs : List Frame) (f : Frame) → n ≤ d → first_callers n (set fs d f) ≡ first_callers n fs
above zero d fs f h = refl
above (suc n) d fs f h =
    let ne : n ≢ d = omega arith in
    let e : get_or (set fs d f) n no_frame ≡ get_or fs n no_frame = rw get_or-set_other in
    λ i. caller_of (e i) ∷ above n d fs f (omega arith) i

pub length_callers : (n : ℕ) (fs : List Frame) → length (first_callers n fs) ≡ n
length_callers zero fs = refl
length_callers (suc n) fs = ap suc (length_callers n fs)

module _ (c : Callers) where
  pub no_room : 15 ≤ c.depth → ltb (length (callers_of c)) 15 ≡ false
  no_room d = rw (length_callers (min c.depth 15) c.frames) (le-ltb (min c.depth 15) 15 (omega arith))

  pub room : c.depth < 15 → ltb (length (callers_of c)) 15 ≡ true
  room d = rw (length_callers (min c.depth 15) c.frames) (lt-ltb (min c.depth 15) 15 (omega arith))

  pub pushed : (f : Frame) → c.depth < 15 → length c.frames ≡ 15 → callers_of (record { depth = c.depth + 1; frames = set c.frames c.depth f }) ≡ caller_of f ∷ callers_of c
  pushed f d l =
      let n : min (c.depth + 1) 15 ≡ suc c.depth = omega arith in
      let m : min c.depth 15 ≡ c.depth = omega arith in
      let lt : c.depth < length c.frames = omega arith in
      let e : get_or (set c.frames c.depth f) c.depth no_frame ≡ f = rw get_or-set_same in
      rw (n, m, e, above c.depth c.depth c.frames f (omega arith))

  pub none_left : min c.depth 15 ≡ 0 → callers_of c ≡ []
  none_left h = rw h

  pub popped : (d : ℕ) → min c.depth 15 ≡ suc d → callers_of c ≡ caller_of (get_or c.frames d no_frame) ∷ callers_of (record { depth = d; frames = c.frames })
  popped d n = let m : min d 15 ≡ d = omega arith in rw (n, m)

-- the topmost frame of a thread that runs, as a caller
pub as_caller : (u : Thread) → Runs u → caller_of u.top ≡ (thread_of u).top
as_caller u h = let w : waiting u.top.index ≡ u.top.index = omega (arith, h.low) in rw (h.ready, w)

-- the topmost frame of a thread that is ready
pub as_top : (s : Status) (f : Frame) (g : model.Frame) → s ≡ Status.Ready → frame_of f ≡ g → record { method = f.method; index = index_of s f.index; regs = f.regs } ≡ g
as_top s f g r e = rw r e
