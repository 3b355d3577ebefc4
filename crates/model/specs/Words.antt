-- Numbers in bytes, and instructions in four bytes, by one list of opcodes.
use Rattle.std.specs.Prelude.{◌≡◌, ℕ, zero, suc, ◌+◌, ◌*◌, ◌/◌, ◌%◌, ◌<◌, Bool, true, false, cond, not, ◌&&◌, ◌||◌, List, [], ◌∷◌, ℤ, Some, None, Option, ◌==◌, nat_lt, slice_index}
use Rattle.std.specs.Int.{w16, w32}
use Rattle.std.proofs.Common.{to_z, of_z}
use Rattle.model.specs.declared.Own.{Own}
use Rattle.model.specs.declared.Operator.{Operator}
use Rattle.model.specs.declared.Operator.TheVariants.{Plus, Minus, Less, Equal, Both, Either}
use Rattle.model.specs.declared.Test.{Test}
use Rattle.model.specs.declared.Instr.{Instr}

-- a number of two bytes, the high one first
abbrev pub word : ℕ → ℕ → ℕ
word h l = h * 256 + l

-- the high byte
abbrev pub high : ℕ → ℕ
high n = n / 256

-- the low byte
abbrev pub low : ℕ → ℕ
low n = n % 256

-- a group of four bytes: an instruction, or a signed number
pub record Quad : Type 0 where
  pub a : ℕ
  pub b : ℕ
  pub c : ℕ
  pub d : ℕ

-- the four bytes at a place of a file
abbrev pub quad_at : List ℕ → ℕ → Quad
quad_at f p = record { a = slice_index f p; b = slice_index f (p + 1); c = slice_index f (p + 2); d = slice_index f (p + 3) }

-- the bytes of groups
abbrev pub flat : List Quad → List ℕ
flat [] = []
flat (q ∷ qs) = q.a ∷ q.b ∷ q.c ∷ q.d ∷ flat qs

-- the whole groups of four in a row
abbrev pub quads : List ℕ → List Quad
quads [] = []
quads (a ∷ []) = []
quads (a ∷ b ∷ []) = []
quads (a ∷ b ∷ c ∷ []) = []
quads (a ∷ b ∷ c ∷ d ∷ r) = record { a = a; b = b; c = c; d = d } ∷ quads r

-- four bytes as a signed number
abbrev pub signed_of : Quad → ℤ
signed_of q = to_z w32 (word (word (word q.a q.b) q.c) q.d)

-- a signed number in four bytes
abbrev pub quad_of : ℤ → Quad
quad_of z = let n = of_z w32 z in record { a = n / 16777216; b = n / 65536 % 256; c = n / 256 % 256; d = n % 256 }

-- the number of an operator
abbrev pub operator_number : Operator → ℕ
operator_number Plus = 0
operator_number Minus = 1
operator_number Less = 2
operator_number Equal = 3
operator_number Both = 4
operator_number Either = 5

-- the operator of a number; there are six
abbrev pub operator_of : ℕ → Operator
operator_of zero = Plus
operator_of (suc zero) = Minus
operator_of (suc (suc zero)) = Less
operator_of (suc (suc (suc zero))) = Equal
operator_of (suc (suc (suc (suc zero)))) = Both
operator_of (suc (suc (suc (suc (suc n))))) = Either

-- what an operand may be: a number below k, a signed number, an index in the method, how many to pass over, a method
pub data Operand : Type 0 where
  under : ℕ → Operand
  signed : Operand
  target : Operand
  count : Operand
  method : Operand

-- all operands of the kind lie below this, where there are n methods
abbrev pub limit : ℕ → Operand → ℕ
limit n (under k) = k
limit n Operand.signed = 65536
limit n Operand.target = 65536
limit n Operand.count = 65536
limit n Operand.method = n

-- a zero
abbrev pub dash : Operand
dash = under 1

-- r0 to r7
abbrev pub reg : Operand
reg = under 8

-- g0 to g63
abbrev pub shared : Operand
shared = under 64

-- m0 to m7
abbrev pub scratch : Operand
scratch = under 8

-- s0 to s31
abbrev pub cell : Operand
cell = under 32

-- calls 0 to 63
abbrev pub call : Operand
call = under 64

-- a row of the list: an opcode, what its operands may be, whether a thread may go on behind it (falls), and the instruction
pub record Entry : Type 0 where
  pub op : ℕ
  pub x : Operand
  pub y : Operand
  pub falls : Bool
  pub make : ℕ → ℕ → Instr

-- an entry for an instruction of the applet's own
abbrev pub own : ℕ → Operand → Operand → Bool → (ℕ → ℕ → Own) → Entry
own o x y f m = record { op = o; x = x; y = y; falls = f; make = λ a b. Instr.Own (m a b) }

-- an entry for a test
abbrev pub test : ℕ → Operand → Operand → (ℕ → ℕ → Test) → Entry
test o x y m = record { op = o; x = x; y = y; falls = true; make = λ a b. Instr.Test (m a b) }

-- the one list of opcodes and operand ranges
unfoldable pub table : List Entry
table =
    own 0x01 reg Operand.signed true (λ x y. Own.Set x (to_z w16 y)) ∷
    own 0x02 reg reg true Own.Mov ∷
    own 0x03 reg reg true Own.Add ∷
    own 0x04 reg reg true Own.Sub ∷
    own 0x05 reg reg true Own.Lt ∷
    own 0x06 reg reg true Own.Eq ∷
    own 0x07 reg shared true Own.Get ∷
    own 0x08 reg shared true Own.Put ∷
    own 0x09 dash Operand.target false (λ x y. Own.Jump y) ∷
    own 0x0A reg Operand.target true Own.Brz ∷
    own 0x0B dash Operand.method true (λ x y. Own.Call y) ∷
    own 0x0C dash dash false (λ x y. Own.Ret) ∷
    own 0x0D call Operand.target true Own.Host ∷
    own 0x0E dash dash false (λ x y. Own.End) ∷
    record { op = 0x20; x = call; y = dash; falls = true; make = λ x y. Instr.Lock x } ∷
    record { op = 0x21; x = dash; y = dash; falls = true; make = λ x y. Instr.Unlock } ∷
    test 0x22 dash Operand.count (λ x y. Test.Skip y) ∷
    test 0x23 scratch Operand.count Test.Skz ∷
    test 0x24 dash dash (λ x y. Test.Viol) ∷
    test 0x25 scratch Operand.signed (λ x y. Test.Mset x (to_z w16 y)) ∷
    test 0x26 scratch cell Test.Mcell ∷
    test 0x27 scratch (under 5) Test.Marg ∷
    test 0x28 scratch cell Test.Store ∷
    test 0x29 (under 7) (under 6) (λ x y. Test.Op x (operator_of y)) ∷ []

-- the entry of an opcode
abbrev pub find : ℕ → List Entry → Option Entry
find o [] = None
find o (e ∷ es) = let r = find o es in cond (o == e.op) (Some e) r

-- an instruction as numbers: opcode and operands
pub record Word : Type 0 where
  pub op : ℕ
  pub x : ℕ
  pub y : ℕ

-- an opcode with its operands
abbrev pub wd : ℕ → ℕ → ℕ → Word
wd o x y = record { op = o; x = x; y = y }

-- opcode and operands of an instruction of the applet's own
abbrev pub own_word : Own → Word
own_word (Own.Set x y) = wd 0x01 x (of_z w16 y)
own_word (Own.Mov x y) = wd 0x02 x y
own_word (Own.Add x y) = wd 0x03 x y
own_word (Own.Sub x y) = wd 0x04 x y
own_word (Own.Lt x y) = wd 0x05 x y
own_word (Own.Eq x y) = wd 0x06 x y
own_word (Own.Get x y) = wd 0x07 x y
own_word (Own.Put x y) = wd 0x08 x y
own_word (Own.Jump y) = wd 0x09 0 y
own_word (Own.Brz x y) = wd 0x0A x y
own_word (Own.Call y) = wd 0x0B 0 y
own_word Own.Ret = wd 0x0C 0 0
own_word (Own.Host x y) = wd 0x0D x y
own_word Own.End = wd 0x0E 0 0

-- opcode and operands of a test
abbrev pub test_word : Test → Word
test_word (Test.Skip y) = wd 0x22 0 y
test_word (Test.Skz x y) = wd 0x23 x y
test_word Test.Viol = wd 0x24 0 0
test_word (Test.Mset x y) = wd 0x25 x (of_z w16 y)
test_word (Test.Mcell x y) = wd 0x26 x y
test_word (Test.Marg x y) = wd 0x27 x y
test_word (Test.Store x y) = wd 0x28 x y
test_word (Test.Op x o) = wd 0x29 x (operator_number o)

-- opcode and operands of an instruction
abbrev pub word_of : Instr → Word
word_of (Instr.Own i) = own_word i
word_of (Instr.Lock x) = wd 0x20 x 0
word_of Instr.Unlock = wd 0x21 0 0
word_of (Instr.Test i) = test_word i

-- the four bytes of an instruction
abbrev pub encode : Instr → Quad
encode i = let w = word_of i in record { a = w.op; b = w.x; c = high w.y; d = low w.y }

-- two instructions with the same bytes
abbrev pub same : Instr → Instr → Bool
same i j = (word_of i).op == (word_of j).op && (word_of i).x == (word_of j).x && (word_of i).y == (word_of j).y

-- the entry of an instruction
abbrev pub entry_of : Instr → Option Entry
entry_of i = find (word_of i).op table

-- both operands lie in their ranges
abbrev pub fits : ℕ → Entry → ℕ → ℕ → Bool
fits n e x y = nat_lt x (limit n e.x) && nat_lt y (limit n e.y)

-- the instruction of an entry, if its operands fit
abbrev pub made : ℕ → ℕ → ℕ → Option Entry → Option Instr
made n x y None = None
made n x y (Some e) = cond (fits n e x y) (Some (e.make x y)) None

-- the instruction of four bytes, where there are n methods
unfoldable pub decode : ℕ → Quad → Option Instr
decode n q = made n q.b (word q.c q.d) (find q.a table)

-- with n methods: the operands lie in their ranges, and are what their bytes say
pub record Ranged (n : ℕ) (i : Instr) : Type 0 where
  pub entry : Entry
  pub listed : entry_of i ≡ Some entry
  pub x : (word_of i).x < limit n entry.x
  pub y : (word_of i).y < limit n entry.y
  pub same : entry.make (word_of i).x (word_of i).y ≡ i

-- in a method of that size, at index i: where operand y leads lies inside
abbrev pub leads : ℕ → ℕ → ℕ → Operand → Bool
leads size i y (under k) = true
leads size i y Operand.signed = true
leads size i y Operand.target = nat_lt y size
leads size i y Operand.count = nat_lt (i + 1 + y) size
leads size i y Operand.method = true

-- and so does the next instruction, if a thread may go on there
abbrev pub lands_by : ℕ → ℕ → ℕ → Option Entry → Bool
lands_by size i y None = false
lands_by size i y (Some e) = leads size i y e.y && (not e.falls || nat_lt (i + 1) size)

-- instruction c at index i of a method of that size leads nowhere outside
abbrev pub lands : ℕ → ℕ → Instr → Bool
lands size i c = lands_by size i (word_of c).y (entry_of c)
