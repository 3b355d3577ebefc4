-- Instructions written one after the other.
use Rattle.std.proofs.Common.{◌≡◌, ℕ, ◌+◌, ◌*◌, ◌≤◌, List, [], ◌∷◌, ◌++◌, length, sym, refl, ap, ◌∙◌, ap₂, append_assoc, append-nil, arith, length-append, length-drop, length-take}
use Rattle.model.specs.declared.Test.{Test}
use Rattle.model.specs.Calls.{block_bytes}
use Rattle.std.proofs.lemmas.Bool.{le-leb}
use Rattle.policy.specs.Calls.{put_at, put_if_room, behind_put}
use Rattle.policy.proofs.Writes.{put_none, put_put, bytes_append, bytes_length}
use Rattle.rules.specs.Writer.{Puts}

length_put : (xs ys : List ℕ) (at : ℕ) → at + length ys ≤ length xs → length (put_at xs at ys) ≡ length xs
length_put xs ys at h = simp (length-append, length-take, length-drop) (omega arith)

-- one instruction
pub puts : (area : List ℕ) (at : ℕ) (test : Test) (to : ℕ) (after : List ℕ) → to ≡ behind_put area at (block_bytes (test ∷ [])) → after ≡ put_if_room area at (block_bytes (test ∷ [])) →
    Puts area at (test ∷ []) to after
puts area at test to after b a h = let t = le-leb (at + 4) (length area) h in (rw t at b, rw t at a)

-- from place at on, what is written of the whole, so that the rest is left to write at place to
pub record Wrote (area : List ℕ) (at : ℕ) (whole rest : List Test) (to : ℕ) (after : List ℕ) : Type 0 where
  pub done : List Test
  pub all : whole ≡ done ++ rest
  pub place : to ≡ at + 4 * length done
  pub bytes : after ≡ put_at area at (block_bytes done)
  pub room : at + 4 * length whole ≤ length area

module _ (area : List ℕ) (at : ℕ) (whole : List Test) where
  pub wrote_none : at + 4 * length whole ≤ length area → Wrote area at whole whole at area
  wrote_none h = record { done = []; all = refl; place = omega arith; bytes = sym (put_none area at); room = h }

  module _ (part rest : List Test) (to : ℕ) (after : List ℕ) (w : Wrote area at whole (part ++ rest) to after) where
    whole_long : length whole ≡ length w.done + (length part + length rest)
    whole_long = ap length w.all ∙ length-append w.done (part ++ rest) ∙ ap (λ k. length w.done + k) (length-append part rest)

    after_long : length after ≡ length area
    after_long =
        let l = bytes_length w.done in
        let k = whole_long in
        let r = w.room in
        ap length w.bytes ∙ length_put area (block_bytes w.done) at (omega arith)

    pub wrote_more : (to' : ℕ) (after' : List ℕ) → Puts after to part to' after' → Wrote area at whole rest to' after'
    wrote_more to' after' p =
        let k = whole_long in
        let r = w.room in
        let q = w.place in
        let a = after_long in
        let l = bytes_length w.done in
        let b = length-append w.done part in
        let u = p (omega arith) in
        let u0 = u.0 in
        let j : to ≡ at + length (block_bytes w.done) = omega arith in
        record {
          done = w.done ++ part;
          all = w.all ∙ sym (append_assoc w.done part rest);
          place = omega arith;
          bytes = u.1 ∙ ap₂ (λ x y. put_at x y (block_bytes part)) w.bytes j ∙ put_put area (block_bytes w.done) (block_bytes part) at (omega arith)
              ∙ ap (put_at area at) (sym (bytes_append w.done part));
          room = r;
        }

  pub wrote_all : (to : ℕ) (after : List ℕ) → Wrote area at whole [] to after → (to ≡ at + 4 * length whole) × (after ≡ put_at area at (block_bytes whole))
  wrote_all to after w =
      let e = w.all ∙ append-nil w.done in
      (w.place ∙ ap (λ b. at + 4 * length b) (sym e), w.bytes ∙ ap (λ b. put_at area at (block_bytes b)) (sym e))
