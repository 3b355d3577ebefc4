-- The woven code of a method, piece by piece.
use Rattle.std.proofs.Common.{◌≡◌, ℕ, ◌+◌, ◌*◌, ◌<◌, ◌≤◌, Bool, List, [], ◌++◌, ◌∷◌, map, length, get_or, drop, sym, ap, ◌∙◌, subst, ap₂, append_assoc, arith, length-append}
use Rattle.std.proofs.lemmas.List.{append-nil, drop_more, drop_all}
use Rattle.model.specs.declared.Own.{Own}
use Rattle.model.specs.declared.Instr.{Instr}
use Rattle.model.specs.declared.Test.{Test}
use Rattle.model.specs.declared.Moment.{Moment}
use Rattle.model.specs.Reading.{write_code}
use Rattle.model.specs.Weave.{retarget, watched_call, piece, size, start, laid, woven}
use Rattle.model.proofs.WovenCode.{piece_size, size_retarget}
use Rattle.weaver.specs.declared.pen.Pen.{Pen}
use Rattle.weaver.specs.Pens.{Room, Wrote}
use Rattle.weaver.proofs.Starts.{start_first, start_next, start_below}
use Rattle.weaver.proofs.Bytes.{wrote_none, code_more, write_length}

module _ (w : ℕ → Bool) (block : ℕ → Moment → List Test) (cs : List Own) where
  abbrev f : ℕ → ℕ
  f t = start w block cs t

  -- the pieces of the first i instructions are written
  pub record Laid (p q : Pen) (i : ℕ) : Type 0 where
    pub done : List Instr
    pub wrote : Wrote p (write_code done) q
    pub size : length done ≡ start w block cs i
    pub rest : done ++ laid w block (start w block cs i) (map (retarget f) (drop i cs)) ≡ woven w block cs

  pub laid_none : (p : Pen) → Laid p p 0
  laid_none p = record {
    done = [];
    wrote = wrote_none p;
    size = sym (start_first w block cs);
    rest = ap (λ n. laid w block n (map (retarget f) cs)) (start_first w block cs);
  }

  module _ (p q : Pen) (i : ℕ) (l : Laid p q i) (h : i < length cs) (room : Room p (4 * length (woven w block cs))) (d : Own) (k : d ≡ retarget f (get_or cs i Own.End)) where
    same_size : size w block d ≡ size w block (get_or cs i Own.End)
    same_size = ap (size w block) k ∙ size_retarget w block f (get_or cs i Own.End)

    -- there is room for the next piece
    pub piece_room : Room q (4 * size w block d)
    piece_room =
        let z = same_size in
        let s = start_next w block cs i Own.End h in
        let n = start_below w block cs (i + 1) in
        let e = write_length l.done in
        let lo = l.size in
        let a = l.wrote.at in
        let b = l.wrote.long in
        omega arith

    pub laid_more : (r : Pen) (j : ℕ) → j ≡ start w block cs i → Wrote q (write_code (piece block j d (watched_call w d))) r → Laid p r (i + 1)
    laid_more r j jj x =
        let e = piece block j d (watched_call w d) in
        let ps = piece_size block j d (watched_call w d) in
        let s = start_next w block cs i Own.End h in
        let z = same_size in
        let lo = l.size in
        let n : start w block cs (i + 1) ≡ start w block cs i + size w block d = omega arith in
        let g = piece_room in
        let b = l.wrote.long in
        let t : laid w block (start w block cs i) (map (retarget f) (drop i cs)) ≡ e ++ laid w block (start w block cs (i + 1)) (map (retarget f) (drop (i + 1) cs)) =
        ap (λ xs. laid w block (start w block cs i) (map (retarget f) xs)) (drop_more cs i Own.End h) ∙
        ap (λ x. laid w block (start w block cs i) (x ∷ map (retarget f) (drop (i + 1) cs))) (sym k) ∙
        ap₂ (λ m n. piece block m d (watched_call w d) ++ laid w block n (map (retarget f) (drop (i + 1) cs))) (sym jj) (sym n) in
        record {
          done = l.done ++ e;
          wrote = code_more l.done e l.wrote x (omega arith);
          size = length-append l.done e ∙ omega arith;
          rest = append_assoc l.done e _ ∙ ap (λ x. l.done ++ x) (sym t) ∙ l.rest;
        }

  pub laid_all : (p q : Pen) (i : ℕ) → Laid p q i → length cs ≤ i → Wrote p (write_code (woven w block cs)) q
  laid_all p q i l h =
      let e : l.done ≡ woven w block cs = sym (append-nil l.done) ∙ ap (λ ds. l.done ++ laid w block (start w block cs i) (map (retarget f) ds)) (sym (drop_all i cs h)) ∙ l.rest in
      subst (λ d. Wrote p (write_code d) q) e l.wrote
