use Rattle.std.proofs.Common.{◌≡◌, ℕ, Ok, Err, refl, ap, ◌∙◌}
use Rattle.std.specs.Result.{result_unwrap_or}
use Rattle.model.specs.Fields.{Read}
use Rattle.bench_calls.specs.Answers.{number_of, place_of, length_of}
use Rattle.bench_calls.proofs.weaves.station_weave.Goals as goal

long : (r : Read ℕ) → result_unwrap_or r 0 ≡ length_of r
long (Ok n) = refl
long (Err e) = refl

pub returns : goal.returns
returns c =
    let e = c.weave_rules-woven.ensures in
    let w = c.weave_rules-woven.result in
    record {
      number = c.of-number.ensures.number ∙ ap number_of e.answer;
      place = c.of-number.ensures.place ∙ ap place_of e.answer;
      length = c.unwrap_or-length.ensures ∙ long w ∙ ap length_of e.answer;
      area = e.area;
    }
