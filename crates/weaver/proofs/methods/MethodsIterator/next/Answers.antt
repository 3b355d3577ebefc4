use Rattle.std.proofs.Common.{◌≡◌, sym, refl, ap, ◌∙◌, rules}
use Rattle.std.specs.Option.{option_map}
use Rattle.model.specs.Fields.{contents_at}
use Rattle.applet.specs.Applets.{meant, shown}
use Rattle.weaver.specs.Weaves.{MethodAt}
use Rattle.weaver.proofs.Passes.{method_found}
use Rattle.weaver.proofs.methods.MethodsIterator.next.Goals as goal
use Rattle.weaver.proofs.methods.MethodsIterator.next.Goals.{After-as_chunks}

module _ (c : After-as_chunks) where
  found : MethodAt (meant c.args.self.now.applet.now) c.args.self.now.next c.in_ok-place.place c.as_chunks.result.0.now
  found =
      let a = c.args.self.now.applet.now in
      let e = sym c.place.ensures ∙ c.in_ok-place.was in
      let k = sym (ap shown c.in_ok-code.was) ∙ c.code.ensures.value ∙ ap (option_map (contents_at a.file.now)) e in
      let here : c.in_ok-code.field-0.now ≡ contents_at a.file.now c.in_ok-place.place = cc k in
      method_found a c.args.self.now.next c.args.self.now.sound _ _ _ e here c.as_chunks.ensures.front

pub returns-clause-steps : goal.returns-clause-steps
returns-clause-steps c = record { same_applet = refl; method = (found (goal.at.returns-clause-steps c).After-as_chunks, refl) }

pub returns-clause-goes : goal.returns-clause-goes
returns-clause-goes c = let h = (found (goal.at.returns-clause-goes c).After-as_chunks).there in search rules
