-- Rows of fields, and what reading them gives.
use Rattle.std.specs.Prelude.{ℕ, zero, suc, ◌+◌, ◌-◌, ◌/◌, ◌%◌, ◌<◌, ◌≤◌, Bool, true, false, cond, ◌&&◌, ◌||◌, List, [], ◌∷◌, length, take, drop, Ok, Err, Result, ◌==◌, nat_le, nat_lt, slice_index}
use Rattle.std.specs.List.{AllByRecursion}
use Rattle.model.specs.declared.Refusal.{Refusal}
use Rattle.model.specs.Words.{word, high, low}
use Rattle.model.specs.declared.Refusal.TheVariants.{BadPolicyField, BadPolicySize}

-- a list of bytes
abbrev pub Bytes : List ℕ → Type 0
Bytes = AllByRecursion (λ b. b < 256)

-- what is read, or a refusal
abbrev pub Read : Type 0 → Type 0
Read A = Result A Refusal

-- refused
abbrev pub refuse : {A : Type 0} → Refusal → Read A
refuse r = Err r

-- refused unless the test holds
abbrev pub need : Bool → Refusal → Read (Unit {0})
need true r = Ok tt
need false r = refuse r

infixl 20 ◌>>=◌
infixl 20 ◌>>◌
-- one after the other
unfoldable pub ◌>>=◌ : {A B : Type 0} → Read A → (A → Read B) → Read B
Ok a >>= f = f a
Err e >>= f = Err e

-- a test, and then the rest
abbrev pub ◌>>◌ : {B : Type 0} → Read (Unit {0}) → Read B → Read B
r >> s = r >>= (λ u. s)

-- from a to b, as a test
abbrev pub within : ℕ → ℕ → ℕ → Bool
within a b n = nat_le a n && nat_le n b

-- from a to b
abbrev pub Within : ℕ → ℕ → ℕ → Type 0
Within a b n = (a ≤ n) × (n ≤ b)

-- a test holds of each
abbrev pub every : {X : Type 0} → (X → Bool) → List X → Bool
every f [] = true
every f (x ∷ xs) = f x && every f xs

-- a to b items of four bytes
abbrev pub items : ℕ → ℕ → List ℕ → Bool
items a b c = length c % 4 == 0 && within a b (length c / 4)

-- the length that a field at place p of a file announces: the two bytes behind its tag
abbrev pub announced : List ℕ → ℕ → ℕ
announced f p = word (slice_index f (p + 1)) (slice_index f (p + 2))

-- the contents of the field at place p: the part of the file behind its tag and its length, as long as announced
abbrev pub contents_at : List ℕ → ℕ → List ℕ
contents_at f p = take (announced f p) (drop (p + 3) f)

-- the tags that files have: those of applets, of rule policies and of state tables
abbrev pub a_tag : ℕ → Bool
a_tag t = within 1 4 t || within 65 69 t || within 97 98 t

-- what stands at a place of a holder: nothing more, a field that is broken or of no known tag, or a field by its tag, place and contents
pub data Standing : Type 0 where
  nothing : Standing
  broken : ℕ → Standing
  found : ℕ → ℕ → List ℕ → Standing

-- what stands at place p of the holder f
abbrev pub standing : List ℕ → ℕ → Standing
standing f p =
    cond (nat_le (length f) p) nothing
    (cond (nat_lt (length f - p) 3) (broken p)
    (cond (nat_lt (length f - p - 3) (announced f p)) (broken p)
    (cond (a_tag (slice_index f p)) (found (slice_index f p) p (contents_at f p)) (broken p))))

-- the place behind what stands at place p
abbrev pub behind : ℕ → Standing → ℕ
behind p nothing = p
behind p (broken q) = p
behind p (found tag q c) = p + 3 + length c

-- a field at its place
pub record Field : Type 0 where
  pub place : ℕ
  pub contents : List ℕ

-- a field at its place, and the bytes behind it
pub record Part : Type 0 where
  pub place : ℕ
  pub contents : List ℕ
  pub rest : List ℕ

-- the place behind a field
abbrev pub next : Part → ℕ
next p = p.place + (3 + length p.contents)

-- the bytes of a holder from place p on are to begin with a field of that tag: if there are none, or it is broken or another, that is refused at p, for the reason why
unfoldable pub expect : (ℕ → Refusal) → ℕ → ℕ → List ℕ → Read Part
expect why tag p [] = refuse (why p)
expect why tag p (t ∷ []) = refuse (why p)
expect why tag p (t ∷ h ∷ []) = refuse (why p)
expect why tag p (t ∷ h ∷ l ∷ r) =
    cond (t == tag && nat_le (word h l) (length r)) (Ok (record { place = p; contents = take (word h l) r; rest = drop (word h l) r })) (refuse (why p))

-- nothing is left over
unfoldable pub over : (ℕ → Refusal) → ℕ → List ℕ → Read (Unit {0})
over why p [] = Ok tt
over why p (b ∷ bs) = refuse (why p)

-- to the end of a policy's holder: at most m fields of that tag, each read by its place and contents
unfoldable pub fields : {X : Type 0} → ℕ → ℕ → (ℕ → List ℕ → Read X) → ℕ → List ℕ → Read (List X)
fields m tag one p [] = Ok []
fields zero tag one p (b ∷ r) = do
  x ← expect BadPolicyField tag p (b ∷ r)
  refuse (BadPolicySize p)
fields (suc m) tag one p (b ∷ r) = do
  x ← expect BadPolicyField tag p (b ∷ r)
  y ← one p x.contents
  ys ← fields m tag one (next x) x.rest
  Ok (y ∷ ys)

-- the contents of a field, if they pass a test
abbrev pub tested : Bool → ℕ → List ℕ → Read Field
tested t p c = need t (BadPolicySize p) >> Ok (record { place = p; contents = c })

-- a field: its tag, its length in two bytes, its contents
unfoldable pub field : ℕ → List ℕ → List ℕ
field tag c = tag ∷ high (length c) ∷ low (length c) ∷ c
