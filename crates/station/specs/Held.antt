-- Policies of whichever kind, from their files.
use Rattle.std.specs.Prelude.{◌≡◌, ℕ, List, Ok}
use Rattle.model.specs.Policy.{Automaton, Blocks}
use Rattle.model.specs.Kinds.{Policy, automaton, blocks, read_policy}

-- a file holds a policy of this meaning and these blocks
pub record Holds (file : List ℕ) (meaning : Automaton) (parts : Blocks) : Type 0 where
  pub policy : Policy
  pub read : read_policy file ≡ Ok policy
  pub means : meaning ≡ automaton policy
  pub has : parts ≡ blocks policy
