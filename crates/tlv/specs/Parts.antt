-- Fields and their kinds, as the field reader hands them out.
use Rattle.std.specs.Prelude.{◌≡◌, ℕ, true, false, cond, List, Some, None, Ok, Err, Option, Result, ◌==◌}
use Rattle.std.specs.Borrow.{Bor}
use Rattle.tlv.specs.declared.rows.Field.{Field}
use Rattle.tlv.specs.declared.rows.Fault.{Fault}
use Rattle.tlv.specs.declared.rows.Part.{Part}
use Rattle.tlv.specs.declared.rows.Part.TheVariants.{Head, Entries, Cells, Method, RulesHead, RulesStarts, Rule, Guard, Update, TableHead, TableRow}
use Rattle.model.specs.Fields.{a_tag, Standing, nothing, broken, found}

-- the tag of each kind of field
abbrev pub part_tag : Part → ℕ
part_tag (Head c) = 1
part_tag (Entries c) = 2
part_tag (Cells c) = 3
part_tag (Method c) = 4
part_tag (RulesHead c) = 65
part_tag (RulesStarts c) = 66
part_tag (Rule c) = 67
part_tag (Guard c) = 68
part_tag (Update c) = 69
part_tag (TableHead c) = 97
part_tag (TableRow c) = 98

-- the contents of a field
abbrev pub part_contents : Part → List ℕ
part_contents (Head c) = c.now
part_contents (Entries c) = c.now
part_contents (Cells c) = c.now
part_contents (Method c) = c.now
part_contents (RulesHead c) = c.now
part_contents (RulesStarts c) = c.now
part_contents (Rule c) = c.now
part_contents (Guard c) = c.now
part_contents (Update c) = c.now
part_contents (TableHead c) = c.now
part_contents (TableRow c) = c.now

-- a field was made of that tag and these contents, or none since files do not have the tag
abbrev pub MadePart : ℕ → List ℕ → Option Part → Type 0
MadePart t c None = a_tag t ≡ false
MadePart t c (Some p) = (part_tag p ≡ t) × (part_contents p ≡ c) × (a_tag t ≡ true)

-- what the field reader found
abbrev pub stood : Result (Option Field) Fault → Standing
stood (Ok None) = nothing
stood (Ok (Some f)) = found (part_tag f.part) f.place (part_contents f.part)
stood (Err e) = broken e.place

-- the contents of a field that was due, or the place where it was
pub data Due : Type 0 where
  contents : List ℕ → Due
  missing : ℕ → Due

-- the field of that tag that is due at place p
abbrev pub due : ℕ → ℕ → Standing → Due
due tag p nothing = missing p
due tag p (broken q) = missing p
due tag p (found t q c) = cond (t == tag) (contents c) (missing p)

-- the contents that the field reader handed out
abbrev pub due_stood : Result (Bor (List ℕ)) Fault → Due
due_stood (Ok c) = contents c.now
due_stood (Err e) = missing e.place
