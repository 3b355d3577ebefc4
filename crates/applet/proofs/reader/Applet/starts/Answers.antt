use Rattle.std.proofs.Common.{ℕ, ◌/◌, List, length, sym, ap, ◌∙◌}
use lib.ListN.{length-map}
use Rattle.applet.proofs.Loops.{length_quads}
use Rattle.applet.proofs.reader.Applet.starts.Goals as goal

pub returns : goal.returns
returns c = ap (λ (xs : List ℕ). length xs / 4) c.start_bytes.ensures ∙ sym (length-map _ _ ∙ length_quads _)
