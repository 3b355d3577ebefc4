use Rattle.std.proofs.Common.{◌≡◌, ℕ, Bool, false, cond, Some, Ok, ap, ap₂, refl, ◌∙◌, arith}
use Rattle.std.specs.Option.{option_map}
use Rattle.model.specs.declared.Refusal.TheVariants.{BadInstruction, BadLanding}
use Rattle.model.specs.Fields.{refuse}
use Rattle.model.specs.Reading.{landed}
use Rattle.model.specs.Words.{Quad, quad_at, word, decode, find, table}
use Rattle.opcodes.specs.Table.{Row, row, ranges, row_fits}
use Rattle.opcodes.specs.Judging.{passed, row_lands}
use Rattle.opcodes.proofs.Decoding.{judged_row, judged_none}
use Rattle.applet.proofs.reader.judge.Goals as goal

-- an instruction by what the two tests of its row say
by_tests : (n size i p : ℕ) (q : Quad) (y : ℕ) (r : Row) → Some r ≡ option_map ranges (find q.a table) → y ≡ word q.c q.d →
    (f l : Bool) → f ≡ row_fits n r q.b y → l ≡ row_lands size i r y →
    cond f (cond l (Ok tt) (refuse (BadLanding p))) (refuse (BadInstruction p)) ≡ passed (landed size i p (decode n q)) (Ok tt)
by_tests n size i p q y r h e f l a b =
    ap₂ (λ f l. cond f (cond l (Ok tt) (refuse (BadLanding p))) (refuse (BadInstruction p))) (a ∙ ap (row_fits n r q.b) e) (b ∙ ap (row_lands size i r) e) ∙
    judged_row n q size i p r h

pub returns-in_default : goal.returns-in_default
returns-in_default c = judged_none c.args.methods (quad_at c.args.bytes 0) c.args.spot.size c.args.spot.index c.args.spot.place c.in_default.ensures

pub returns-then-not-fits : goal.returns-then-not-fits
returns-then-not-fits c =
    by_tests _ c.args.spot.size c.args.spot.index c.args.spot.place (quad_at c.args.bytes 0) c.from_be_bytes-y.result (row c.in-Some.entry) c.in-Some.ensures (omega arith) false _ c.if-not-fits.ensures refl

pub returns-then-not-lands : goal.returns-then-not-lands
returns-then-not-lands c =
    by_tests _ c.args.spot.size c.args.spot.index c.args.spot.place (quad_at c.args.bytes 0) c.from_be_bytes-y.result (row c.in-Some.entry) c.in-Some.ensures (omega arith) _ _ c.if-not-fits.ensures c.if-not-lands.ensures

pub returns : goal.returns
returns c =
    by_tests _ c.args.spot.size c.args.spot.index c.args.spot.place (quad_at c.args.bytes 0) c.from_be_bytes-y.result (row c.in-Some.entry) c.in-Some.ensures (omega arith) _ _ c.if-not-fits.ensures c.if-not-lands.ensures
