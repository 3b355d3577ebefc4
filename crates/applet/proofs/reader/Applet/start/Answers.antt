use Rattle.std.proofs.Common.{◌≡◌, ℕ, ◌*◌, ◌+◌, ◌<◌, ◌≤◌, [], List, map, length, get_or, ℤ, Some, None, ap, ◌∙◌, arith, w32, to_z, of_z, rules}
use Rattle.std.proofs.lemmas.Int.{to_z-of_z}
use borrow.Author.Gap.{read_sfits}
use Rattle.model.specs.Words.{quads, quad_at, signed_of, word}
use Rattle.applet.proofs.Loops.{nth_start, no_start}
use Rattle.applet.specs.Applets.{nth}
use Rattle.applet.proofs.reader.Applet.start.Goals as goal

pub returns-in_err-get : goal.returns-in_err-get
returns-in_err-get c =
    let h : length c.as_chunks.result.0.now ≤ c.args.cell = search rules in
    let e : c.from_residual.result ≡ None = search rules in
    e ∙ no_start c.start_bytes.result.now c.as_chunks.result.0.now c.args.cell c.as_chunks.ensures.front h ∙
    ap (λ (ys : List ℕ). nth (map signed_of (quads ys)) c.args.cell) c.start_bytes.ensures

pub returns : goal.returns
returns c =
    let h : c.args.cell < length c.as_chunks.result.0.now = search rules in
    let e : c.in_ok-get.field-0.now ≡ get_or c.as_chunks.result.0.now c.args.cell [] = search rules in
    let bs = c.in_ok-get.field-0.now in
    let w : get_or bs 0 0 * 16777216 + get_or bs 1 0 * 65536 + get_or bs 2 0 * 256 + get_or bs 3 0 ≡ word (word (word (get_or bs 0 0) (get_or bs 1 0)) (get_or bs 2 0)) (get_or bs 3 0) =
    omega arith in
    ap (λ (z : ℤ). Some (to_z w32 (of_z w32 z))) (c.from_be_bytes.ensures ∙ ap (to_z w32) w) ∙ ap Some (to_z-of_z w32 (signed_of (quad_at c.in_ok-get.field-0.now 0)) (read_sfits w32 _)) ∙
    ap (λ (bs : List ℕ). Some (signed_of (quad_at bs 0))) e ∙
    nth_start c.start_bytes.result.now c.as_chunks.result.0.now c.args.cell c.as_chunks.ensures.front h ∙
    ap (λ (ys : List ℕ). nth (map signed_of (quads ys)) c.args.cell) c.start_bytes.ensures
