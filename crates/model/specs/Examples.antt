-- Worked examples: one policy file and one applet file, and what each call says of them.
use Rattle.std.specs.Prelude.{◌≡◌, ℕ, List, [], ◌∷◌, length, replicate, ℤ, pos, negsuc, Some, None, Ok, Option, slice_set}
use Rattle.model.specs.declared.Operator.TheVariants.{Plus, Less}
use Rattle.model.specs.declared.Moment.{Moment}
use Rattle.model.specs.declared.Test.{Test}
use Rattle.model.specs.declared.Test.TheVariants.{Skip, Skz, Viol, Mset, Mcell, Marg, Store, Op}
use Rattle.model.specs.declared.Outcome.{Outcome}
use Rattle.model.specs.Machine.{Stepped, step}
use Rattle.model.specs.Runs.{Act, run}
use Rattle.model.specs.Fields.{Read, refuse, ◌>>=◌}
use Rattle.model.specs.Files.{load_file, weave_file}
use Rattle.model.specs.Kinds.{automaton, blocks, read_policy, check_bytes}
use Rattle.model.specs.declared.Refusal.TheVariants.{StillAwaiting, MachineStopped, OtherStarts, NoEntry}

-- P: one cell, start 0; call 5 before, guard a0 < 10, s0 becomes s0 + a0
abbrev pub policy_file : List ℕ
policy_file =
    65 ∷ 0 ∷ 2 ∷ 1 ∷ 1 ∷
    66 ∷ 0 ∷ 4 ∷ 0 ∷ 0 ∷ 0 ∷ 0 ∷
    67 ∷ 0 ∷ 27 ∷ 5 ∷ 0 ∷
    68 ∷ 0 ∷ 9 ∷ 2 ∷ 0 ∷ 0 ∷ 0 ∷ 0 ∷ 10 ∷ 3 ∷ 0 ∷ 2 ∷
    69 ∷ 0 ∷ 10 ∷ 0 ∷ 1 ∷ 0 ∷ 0 ∷ 2 ∷ 0 ∷ 0 ∷ 3 ∷ 0 ∷ 0 ∷ []

-- A: one thread; SET r0 v, HOST 5 to 2, END, with v = 7
abbrev pub plain_file : ℕ → List ℕ
plain_file v =
    1 ∷ 0 ∷ 2 ∷ 1 ∷ 1 ∷
    2 ∷ 0 ∷ 1 ∷ 0 ∷
    3 ∷ 0 ∷ 0 ∷
    4 ∷ 0 ∷ 12 ∷
    0x01 ∷ 0 ∷ 0 ∷ v ∷
    0x0D ∷ 5 ∷ 0 ∷ 2 ∷
    0x0E ∷ 0 ∷ 0 ∷ 0 ∷ []

-- A woven with P: HOST at index 12 to 15, JUMP 17 at index 16
abbrev pub woven_file : ℕ → List ℕ
woven_file v =
    1 ∷ 0 ∷ 2 ∷ 1 ∷ 1 ∷
    2 ∷ 0 ∷ 1 ∷ 0 ∷
    3 ∷ 0 ∷ 4 ∷ 0 ∷ 0 ∷ 0 ∷ 0 ∷
    4 ∷ 0 ∷ 72 ∷
    0x01 ∷ 0 ∷ 0 ∷ v ∷
    0x20 ∷ 5 ∷ 0 ∷ 0 ∷
    0x27 ∷ 0 ∷ 0 ∷ 0 ∷
    0x25 ∷ 1 ∷ 0 ∷ 10 ∷
    0x29 ∷ 0 ∷ 0 ∷ 2 ∷
    0x23 ∷ 0 ∷ 0 ∷ 5 ∷
    0x26 ∷ 0 ∷ 0 ∷ 0 ∷
    0x27 ∷ 1 ∷ 0 ∷ 0 ∷
    0x29 ∷ 0 ∷ 0 ∷ 0 ∷
    0x28 ∷ 0 ∷ 0 ∷ 0 ∷
    0x22 ∷ 0 ∷ 0 ∷ 1 ∷
    0x24 ∷ 0 ∷ 0 ∷ 0 ∷
    0x0D ∷ 5 ∷ 0 ∷ 15 ∷
    0x21 ∷ 0 ∷ 0 ∷ 0 ∷
    0x22 ∷ 0 ∷ 0 ∷ 2 ∷
    0x21 ∷ 0 ∷ 0 ∷ 0 ∷
    0x09 ∷ 0 ∷ 0 ∷ 17 ∷
    0x0E ∷ 0 ∷ 0 ∷ 0 ∷ []

-- the block of a policy file for a call, a moment and a first cell
abbrev pub block_in : List ℕ → ℕ → Moment → ℕ → Read (List Test)
block_in f k t first = do
  p ← read_policy f
  Ok (blocks p k t first)

-- the step of a policy file before call 5 with first argument v
abbrev pub step_in : List ℕ → ℤ → List ℤ → Read (Option (List ℤ))
step_in f v c = do
  p ← read_policy f
  Ok ((automaton p).step (record { moment = Moment.Before; call = 5; args = v ∷ pos 0 ∷ pos 0 ∷ pos 0 ∷ []; answer = pos 0 }) c)

-- the weaving of two files, into an area of n bytes
abbrev pub weave_in : List ℕ → List ℕ → ℕ → Read (List ℕ)
weave_in f applet n = do
  p ← read_policy f
  weave_file (automaton p) (blocks p) applet n

-- what a step says, or why it is refused
abbrev pub said : Stepped → Read Outcome
said (Stepped.done m o) = Ok o
said (Stepped.refused r) = refuse r

-- what a step of thread 0 says after n steps of it
abbrev pub step_after : ℕ → List ℕ → Read Outcome
step_after n f = do
  l ← load_file f
  said (step l.applet (run l.applet l.machine (replicate n (Act.step_of 0))) 0)

-- what the calls say of the examples
pub record Answers : Type 0 where
  pub block : Read (List Test)
  pub at_nine : Read (Option (List ℤ))
  pub at_ten : Read (Option (List ℤ))
  pub wrapping : Read (Option (List ℤ))
  pub plain_size : ℕ
  pub woven_size : ℕ
  pub weaving : Read (List ℕ)
  pub weaving_ten : Read (List ℕ)
  pub woven : Read (Unit {0})
  pub jump_astray : Read (Unit {0})
  pub other_start : Read (Unit {0})
  pub unwoven : Read (Unit {0})
  pub twelfth : Read Outcome
  pub thirteenth : Read Outcome
  pub seventh : Read Outcome
  pub eighth : Read Outcome

-- by the definitions
abbrev pub computed : Answers
computed = record {
  block = block_in policy_file 5 Moment.Before 0;
  at_nine = step_in policy_file (pos 9) (pos 0 ∷ []);
  at_ten = step_in policy_file (pos 10) (pos 0 ∷ []);
  wrapping = step_in policy_file (pos 1) (pos 2147483647 ∷ []);
  plain_size = length (plain_file 7);
  woven_size = length (woven_file 7);
  weaving = weave_in policy_file (plain_file 7) 91;
  weaving_ten = weave_in policy_file (plain_file 10) 91;
  woven = check_bytes policy_file None (woven_file 7) 18;
  jump_astray = check_bytes policy_file None (slice_set (woven_file 7) 86 13) 18;
  other_start = check_bytes policy_file None (slice_set (woven_file 7) 15 1) 18;
  unwoven = check_bytes policy_file None (plain_file 7) 18;
  twelfth = step_after 11 (woven_file 7);
  thirteenth = step_after 12 (woven_file 7);
  seventh = step_after 6 (woven_file 10);
  eighth = step_after 7 (woven_file 10);
}

-- as they were worked out by hand
abbrev pub expected : Answers
expected = record {
  block = Ok (Marg 0 0 ∷ Mset 1 (pos 10) ∷ Op 0 Less ∷ Skz 0 5 ∷ Mcell 0 0 ∷ Marg 1 0 ∷ Op 0 Plus ∷ Store 0 0 ∷ Skip 1 ∷ Viol ∷ []);
  at_nine = Ok (Some (pos 9 ∷ []));
  at_ten = Ok None;
  wrapping = Ok (Some (negsuc 2147483647 ∷ []));
  plain_size = 27;
  woven_size = 91;
  weaving = Ok (woven_file 7);
  weaving_ten = Ok (woven_file 10);
  woven = Ok tt;
  jump_astray = refuse (NoEntry 83);
  other_start = refuse (OtherStarts 9);
  unwoven = refuse (OtherStarts 9);
  twelfth = Ok (Outcome.Called 5 (pos 7 ∷ pos 0 ∷ pos 0 ∷ pos 0 ∷ []));
  thirteenth = refuse StillAwaiting;
  seventh = Ok Outcome.Stop;
  eighth = refuse MachineStopped;
}

-- the definitions give what was worked out by hand
abbrev pub Worked : Type 0
Worked = computed ≡ expected
