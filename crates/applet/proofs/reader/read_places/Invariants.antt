use Rattle.std.proofs.Common.{◌≡◌, ◌<◌, length}
use Rattle.std.specs.List.{All}
use Rattle.applet.specs.Stages.{listed}
use Rattle.applet.proofs.Loops.{Still}
use Rattle.applet.proofs.reader.read_places.Given as goal

-- what was gathered, and what is still to come, is what was to be found
abbrev pub invariant-loop : goal.invariant-loop
invariant-loop l = record {
  holder : l.fields.holder.now ≡ l.initial.fields.holder.now;
  counted : l.places.count ≡ l.counter;
  inside : All (λ p. p < length l.initial.fields.holder.now) (listed l.places);
  still : Still l.initial.fields.holder.now l.methods l.initial.fields.at l.places.count l.fields.at (listed l.places);
}
