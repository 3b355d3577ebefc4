-- Files that are refused, each with its number and place.
use Rattle.std.specs.Prelude.{◌≡◌, ℕ, zero, suc, List, [], ◌∷◌, ◌++◌, map, take, drop, None, Ok, slice_set}
use Rattle.model.specs.Machine.{Applet}
use Rattle.model.specs.Fields.{Read, refuse, field}
use Rattle.model.specs.Kinds.{Policy, read_policy, check_bytes}
use Rattle.model.specs.Reading.{read_applet}
use Rattle.model.specs.Words.{limit, table}
use Rattle.model.specs.Examples.{policy_file, plain_file, woven_file, weave_in}
use Rattle.model.specs.declared.Refusal.TheVariants.{AreaTooShort, BadField, BadSize, BadInstruction, BadLanding, NotPlain, MethodTooLong, FileTooLong, BadPolicyField, BadPolicySize, BadExpression, SecondRow, BlockTooLong, OutsideSite, OffSite}

-- a list n times
abbrev pub repeat : ℕ → List ℕ → List ℕ
repeat zero c = []
repeat (suc n) c = c ++ repeat n c

-- the plain file of the worked examples
abbrev A : List ℕ
A = plain_file 7

-- reading an applet
abbrev pub applets : List (List ℕ × Read Applet)
applets =
    -- fields: contents past the end, a head cut off, a field missing, one left out, a byte left over, a method too many, one too few
    (take 26 A, refuse (BadField 12)) ∷
    (take 11 A, refuse (BadField 9)) ∷
    (take 9 A, refuse (BadField 9)) ∷
    (take 9 A ++ drop 12 A, refuse (BadField 9)) ∷
    (A ++ (4 ∷ []), refuse (BadField 27)) ∷
    (A ++ drop 12 A, refuse (BadField 27)) ∷
    (slice_set A 4 2, refuse (BadField 27)) ∷
    -- sizes and counts: format, entry, no whole number of items
    (slice_set A 3 2, refuse (BadSize 0)) ∷
    (slice_set A 8 1, refuse (BadSize 5)) ∷
    (slice_set (take 26 A) 14 11, refuse (BadSize 12)) ∷
    -- instructions: opcode, filled dash, missing method, landing, last instruction; an earlier landing before a later opcode
    (slice_set A 19 0x0F, refuse (BadInstruction 19)) ∷
    (slice_set A 26 1, refuse (BadInstruction 23)) ∷
    (slice_set (slice_set (slice_set A 19 0x0B) 20 0) 22 1, refuse (BadInstruction 19)) ∷
    (slice_set A 22 3, refuse (BadLanding 19)) ∷
    (slice_set A 23 0x21, refuse (BadLanding 23)) ∷
    (slice_set (slice_set A 22 3) 23 0x0F, refuse (BadLanding 19)) ∷
    -- fields come before instructions
    (slice_set A 15 0x0F ++ (9 ∷ []), refuse (BadField 27)) ∷ []

-- a table of two states: call 1 leads from 0 to 1, call 2 from 1 to 0
abbrev pub latch_file : List ℕ
latch_file = 97 ∷ 0 ∷ 3 ∷ 1 ∷ 2 ∷ 0 ∷ 98 ∷ 0 ∷ 4 ∷ 1 ∷ 0 ∷ 1 ∷ 255 ∷ 98 ∷ 0 ∷ 4 ∷ 2 ∷ 0 ∷ 255 ∷ 0 ∷ []

-- reading a policy
abbrev pub policies : List (List ℕ × Read Policy)
policies =
    -- an empty file, a strange first tag
    ([], refuse (BadPolicyField 0)) ∷
    (slice_set policy_file 0 66, refuse (BadPolicyField 0)) ∷
    -- a guard cut off, a rule without a guard
    (slice_set policy_file 14 3, refuse (BadPolicyField 17)) ∷
    (slice_set (take 17 policy_file) 14 2, refuse (BadPolicyField 17)) ∷
    -- starts, call, updated cell
    (slice_set policy_file 4 2, refuse (BadPolicySize 5)) ∷
    (slice_set policy_file 15 64, refuse (BadPolicySize 12)) ∷
    (slice_set policy_file 32 1, refuse (BadPolicySize 29)) ∷
    -- the 65th rule, the ninth update
    (take 12 policy_file ++ repeat 65 (drop 12 policy_file), refuse (BadPolicySize 1932)) ∷
    (slice_set (take 29 policy_file ++ repeat 9 (drop 29 policy_file)) 14 131, refuse (BadPolicySize 133)) ∷
    -- a4 in a before rule, three values at the end
    (slice_set policy_file 22 4, refuse (BadExpression 17)) ∷
    (slice_set policy_file 39 2, refuse (BadExpression 29)) ∷
    -- 64 rules of 17 instructions and the VIOL are 1,089
    (take 12 policy_file ++ repeat 64 (slice_set (take 17 (drop 12 policy_file) ++ repeat 3 (drop 29 policy_file)) 2 53), refuse BlockTooLong) ∷
    -- tables: a next state that is none, a second row
    (slice_set latch_file 18 2, refuse (BadPolicySize 13)) ∷
    (slice_set latch_file 16 1, refuse (SecondRow 13)) ∷ []

-- check, with a work area of 18 bytes
abbrev pub checks : List (List ℕ × Read (Unit {0}))
checks =
    (woven_file 7, Ok tt) ∷
    (take 90 (woven_file 7), refuse (BadField 16)) ∷
    (slice_set (woven_file 7) 23 0x26, refuse (OffSite 23)) ∷
    -- a watched HOST outside a site
    (take 9 (woven_file 7) ++ (3 ∷ 0 ∷ 4 ∷ 0 ∷ 0 ∷ 0 ∷ 0 ∷ drop 12 A), refuse (OutsideSite 23)) ∷ []

-- h watched HOSTs and an END
abbrev hosts : ℕ → List ℕ
hosts zero = 0x0E ∷ 0 ∷ 0 ∷ 0 ∷ []
hosts (suc h) = 0x0D ∷ 5 ∷ 0 ∷ 0 ∷ hosts h

-- n methods, each with h watched HOSTs and an END
abbrev pub large : ℕ → ℕ → List ℕ
large n h = 1 ∷ 0 ∷ 2 ∷ 1 ∷ n ∷ 2 ∷ 0 ∷ 1 ∷ 0 ∷ 3 ∷ 0 ∷ 0 ∷ repeat n (field 4 (hosts h))

-- weave, into an area of 90 bytes
abbrev pub weavings : List (List ℕ × Read (List ℕ))
weavings =
    (woven_file 7, refuse (NotPlain 9)) ∷
    -- 256 sites of 16 instructions and the END are 4,097; six methods of 3,201
    (large 1 256, refuse (MethodTooLong 12)) ∷
    (large 6 200, refuse FileTooLong) ∷
    (A, refuse AreaTooShort) ∷ []

-- each file is refused, or accepted, as it was worked out by hand
pub record Refused : Type 0 where
  pub reading : map (λ c. read_applet c.0) applets ≡ map (λ c. c.1) applets
  pub policy_reading : map (λ c. read_policy c.0) policies ≡ map (λ c. c.1) policies
  pub checking : map (λ c. check_bytes policy_file None c.0 18) checks ≡ map (λ c. c.1) checks
  pub weaving : map (λ c. weave_in policy_file c.0 90) weavings ≡ map (λ c. c.1) weavings

-- the list of opcodes once more in numbers, with 32 methods: opcode, how many values x has, how many y has
abbrev pub Listed : Type 0
Listed = map (λ e. e.op ∷ limit 32 e.x ∷ limit 32 e.y ∷ []) table ≡
    (0x01 ∷ 8 ∷ 65536 ∷ []) ∷ (0x02 ∷ 8 ∷ 8 ∷ []) ∷ (0x03 ∷ 8 ∷ 8 ∷ []) ∷ (0x04 ∷ 8 ∷ 8 ∷ []) ∷ (0x05 ∷ 8 ∷ 8 ∷ []) ∷ (0x06 ∷ 8 ∷ 8 ∷ []) ∷
    (0x07 ∷ 8 ∷ 64 ∷ []) ∷ (0x08 ∷ 8 ∷ 64 ∷ []) ∷ (0x09 ∷ 1 ∷ 65536 ∷ []) ∷ (0x0A ∷ 8 ∷ 65536 ∷ []) ∷ (0x0B ∷ 1 ∷ 32 ∷ []) ∷ (0x0C ∷ 1 ∷ 1 ∷ []) ∷
    (0x0D ∷ 64 ∷ 65536 ∷ []) ∷ (0x0E ∷ 1 ∷ 1 ∷ []) ∷ (0x20 ∷ 64 ∷ 1 ∷ []) ∷ (0x21 ∷ 1 ∷ 1 ∷ []) ∷ (0x22 ∷ 1 ∷ 65536 ∷ []) ∷ (0x23 ∷ 8 ∷ 65536 ∷ []) ∷
    (0x24 ∷ 1 ∷ 1 ∷ []) ∷ (0x25 ∷ 8 ∷ 65536 ∷ []) ∷ (0x26 ∷ 8 ∷ 32 ∷ []) ∷ (0x27 ∷ 8 ∷ 5 ∷ []) ∷ (0x28 ∷ 8 ∷ 32 ∷ []) ∷ (0x29 ∷ 7 ∷ 6 ∷ []) ∷ []
