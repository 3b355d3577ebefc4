-- Threads that were just started.
use Rattle.std.proofs.Common.{◌≡◌, ℕ, zero, suc, ◌+◌, ◌<◌, ◌≤◌, ◌≢◌, List, [], ◌∷◌, ◌++◌, map, length, get_or, take, drop, set, ℤ, pos, Ok, Err, sym, refl, ap, ◌∙◌, add-one, arith, get_or-set_other, get_or-set_same, below_more}
use Rattle.std.specs.Option.{unwrap_or}
use Rattle.applet.specs.Applets.{nth}
use Rattle.model.specs.Machine as model
use Rattle.model.specs.declared.Refusal.{Refusal}
use Rattle.model.specs.Machine.{new_thread, fresh}
use Rattle.model.specs.Fields.{◌>>=◌}
use Rattle.model.specs.Reading.{read_applet}
use Rattle.model.specs.Files.{load_file}
use Rattle.model.proofs.Accepted.{accepted}
use Rattle.machine.specs.declared.threads.Thread.{Thread}
use Rattle.machine.specs.Views.{no_thread, thread_of, threads_of}

pub started : (es : List ℕ) (us : List Thread) → length es ≤ length us → ((k : ℕ) → k < length es → thread_of (get_or us k no_thread) ≡ new_thread (get_or es k 0)) →
    threads_of (length es) us ≡ map new_thread es
started [] us l h = refl
started (e ∷ es) [] l h = absurd (omega arith)
started (e ∷ es) (u ∷ us) l h =
    let p : thread_of u ≡ new_thread e = h 0 (omega arith) in
    let q = started es us (omega arith) (λ k b. h (suc k) (omega arith)) in
    λ i. p i ∷ q i

pub one_more : (us : List Thread) (i : ℕ) (u : Thread) (f : ℕ → model.Thread) → i < length us → ((k : ℕ) → k < i → thread_of (get_or us k no_thread) ≡ f k) → thread_of u ≡ f i →
    (k : ℕ) → k < i + 1 → thread_of (get_or (set us i u) k no_thread) ≡ f k
one_more us i u f l h e =
    below_more (λ (k : ℕ). thread_of (get_or (set us i u) k no_thread) ≡ f k) i
    (λ k b. let ne : k ≢ i = omega arith in let s : get_or (set us i u) k no_thread ≡ get_or us k no_thread = rw get_or-set_other in ap thread_of s ∙ h k b)
    (let s : get_or (set us i u) i no_thread ≡ u = rw get_or-set_same in ap thread_of s ∙ e)

filled_from : (xs ys : List ℤ) (i : ℕ) → i < length xs → i < length ys → set (take i xs ++ drop i ys) i (get_or xs i (pos 0)) ≡ take (suc i) xs ++ drop (suc i) ys
filled_from [] ys i k l = absurd (omega arith)
filled_from (x ∷ xs) [] i k l = absurd (omega arith)
filled_from (x ∷ xs) (y ∷ ys) zero k l = refl
filled_from (x ∷ xs) (y ∷ ys) (suc i) k l = ap {B = List ℤ} (λ r. x ∷ r) (filled_from xs ys i (omega arith) (omega arith))

-- one start value more
pub filled : (xs ys zs : List ℤ) (i : ℕ) (v : ℤ) → zs ≡ take i xs ++ drop i ys → v ≡ get_or xs i (pos 0) → i < length xs → i < length ys →
    set zs i v ≡ take (i + 1) xs ++ drop (i + 1) ys
filled xs ys zs i v f e k l = rw (f, e, add-one i) (filled_from xs ys i k l)

-- what stands at an index, or the default
pub nth_or : (xs : List ℤ) (i : ℕ) → unwrap_or (nth xs i) (pos 0) ≡ get_or xs i (pos 0)
nth_or [] i = refl
nth_or (x ∷ xs) zero = refl
nth_or (x ∷ xs) (suc i) = nth_or xs i

-- what is read is loaded
pub load_ok : (f : List ℕ) (a : model.Applet) (m : model.Machine) → Ok a ≡ read_applet f → m ≡ fresh a → Ok (record { applet = a; machine = m }) ≡ load_file f
unfolding ◌>>=◌
load_ok f a m e h = rw (← e, h)

pub load_err : (f : List ℕ) (e : Refusal) → Err e ≡ read_applet f → Err e ≡ load_file f
unfolding ◌>>=◌
load_err f e h = rw (← h)

-- what is read is within the limits
pub few : (f : List ℕ) (a : model.Applet) → Ok a ≡ read_applet f → (length a.entries ≤ 8) × (length a.starts ≤ 32)
few f a e = let v = (accepted f a (sym e)).1 in (v.threads.1, v.cells)
