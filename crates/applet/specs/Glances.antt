-- What the reader's quick test of an instruction may let pass.
use Rattle.std.specs.Prelude.{◌≡◌, ℕ, ◌+◌, ◌<◌, true, Ok}
use Rattle.model.specs.Words.{Quad, word, decode}
use Rattle.model.specs.Reading.{landed}
use Rattle.applet.specs.declared.glance.Leads.{Leads}
use Rattle.applet.specs.declared.glance.Leads.TheVariants.{Nowhere, To, Over}
use Rattle.applet.specs.declared.glance.Glance.{Glance}
use Rattle.opcodes.specs.Table.{Row, row_fits}
use Rattle.opcodes.specs.Judging.{passed, row_lands}

-- nothing passes
abbrev pub blind : Glance
blind = record { x = 0; y = 0; leads = Nowhere }

-- where operand y leads at index i: nowhere, to index y, or over y instructions
abbrev pub lead_by : Leads → ℕ → ℕ → ℕ
lead_by Nowhere y i = 0
lead_by To y i = y
lead_by Over y i = y + (i + 1)

-- the same, as a quick test has it
abbrev pub lead : Glance → ℕ → ℕ → ℕ
lead g y i = lead_by g.leads y i

-- what passes is in the ranges of the row, and leads inside
abbrev pub Sees : ℕ → Row → Glance → Type 0
Sees n r g = (x y i size : ℕ) → x < 256 → y < 65536 → x < g.x → y < g.y → lead g y i < size → i + 1 < size → (row_fits n r x y ≡ true) × (row_lands size i r y ≡ true)

-- what passes under an opcode is an instruction that reads
abbrev pub Seen : ℕ → ℕ → Glance → Type 0
Seen n op g = (q : Quad) (i size p : ℕ) → q.a ≡ op → q.b < 256 → word q.c q.d < 65536 → q.b < g.x → word q.c q.d < g.y → lead g (word q.c q.d) i < size → i + 1 < size →
    passed (landed size i p (decode n q)) (Ok tt) ≡ Ok tt
