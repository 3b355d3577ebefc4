use Rattle.std.proofs.Common.{◌≡◌, ◌<◌, ◌++◌, [], ◌∷◌, List, ℕ, length, Ok, sym, ap, ◌∙◌, arith}
use Rattle.std.proofs.lemmas.List.Elements.{All-push}
use Rattle.model.specs.Fields.{standing, behind}
use Rattle.applet.specs.Stages.{method_of, due_at, listed, places_in}
use Rattle.applet.proofs.Loops.{failed, place_stops, place_more, method_inside}
use Rattle.applet.proofs.reader.read_places.Goals as goal
use Rattle.applet.proofs.reader.read_places.Goals.{After-read_method}

-- the method that was read, in the holder
reads : (c : After-read_method) → c.read_method.result ≡ method_of c.loop.fields.at (due_at 4 c.args.fields.now.holder.now c.loop.fields.at)
reads c = c.read_method.ensures.value ∙ ap (λ (f : List ℕ). method_of c.loop.fields.at (due_at 4 f c.loop.fields.at)) c.loop.invariant.holder

pub returns-in_err-read_method-clause-value : goal.returns-in_err-read_method-clause-value
returns-in_err-read_method-clause-value c =
    ap places_in (failed c.from_residual.result _ c.from_residual.ensures.1) ∙
    place_stops _ _ _ c.loop.places.count c.loop.fields.at (listed c.loop.places) _ (omega arith)
    (sym (reads (goal.at.returns-in_err-read_method-clause-value c).After-read_method) ∙ c.in_err-read_method.was) c.loop.invariant.still

pub loop-preserved : goal.loop-preserved
loop-preserved c =
    let f = c.args.fields.now.holder.now in
    let at = c.loop.fields.at in
    let ok : method_of at (due_at 4 f at) ≡ Ok tt = sym (reads (goal.at.loop-preserved c).After-read_method) ∙ c.in_ok-read_method.was in
    let more : listed c.push.new.self ≡ listed c.loop.places ++ at ∷ [] = c.push.ensures.places ∙ ap {B = List ℕ} (λ p. listed c.loop.places ++ p ∷ []) c.place.ensures in
    let next : c.read_method.new.fields.at ≡ behind at (standing f at) =
    c.read_method.ensures.at ∙ ap (λ (g : List ℕ). behind at (standing g at)) c.loop.invariant.holder in
    record {
      holder = c.read_method.ensures.holder ∙ c.loop.invariant.holder;
      counted = omega arith;
      inside = rw more (All-push (λ p. p < length f) (listed c.loop.places) at c.loop.invariant.inside (method_inside f at ok));
      still = rw (more, next, c.push.ensures.count) (place_more f _ _ c.loop.places.count at (listed c.loop.places) (omega arith) ok c.loop.invariant.still);
    }
