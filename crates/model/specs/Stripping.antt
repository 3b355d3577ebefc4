-- Woven code stripped of its sites again.
use Rattle.std.specs.Prelude.{◌≡◌, ℕ, zero, suc, ◌-◌, Bool, cond, List, [], ◌∷◌, map, Some, None, Ok, Option, slice_index_or}
use Rattle.model.specs.declared.Own.{Own}
use Rattle.model.specs.declared.Instr.{Instr}
use Rattle.model.specs.Policy.{Automaton, Blocks, Showing}
use Rattle.model.specs.Machine.{Applet}
use Rattle.model.specs.Weave.{Plain, plain_applet, woven_applet, retarget, behind}
use Rattle.model.specs.Check.{target_of, marks}
use Rattle.model.specs.Fields.{Bytes}
use Rattle.model.specs.Reading.{read_applet, write_applet}
use Rattle.model.specs.Files.{weave_file, check_file}

-- a target, or 0
abbrev pub aim : Option ℕ → ℕ
aim None = 0
aim (Some t) = t

-- how many entries stand before index t
abbrev pub rank : List Bool → ℕ → ℕ
rank [] t = 0
rank (e ∷ es) zero = 0
rank (e ∷ es) (suc t) = cond e (suc (rank es t)) (rank es t)

module _ (B : Blocks) where
  -- how many instructions a site of call k has behind its LOCK
  abbrev pub site_rest : ℕ → ℕ
  site_rest k = behind (λ k t. B k t 0) k

  -- code with a HOST in place of each site, raised to where the site's last JUMP goes; the first n instructions are the rest of a site
  abbrev pub unsited : ℕ → List Instr → List Own
  unsited n [] = []
  unsited (suc n) (c ∷ cs) = unsited n cs
  unsited zero (Instr.Own o ∷ cs) = o ∷ unsited zero cs
  unsited zero (Instr.Lock k ∷ cs) = Own.Host k (aim (target_of (slice_index_or cs (site_rest k - 1) Instr.Unlock))) ∷ unsited (site_rest k) cs
  unsited zero (Instr.Unlock ∷ cs) = unsited zero cs
  unsited zero (Instr.Test c ∷ cs) = unsited zero cs

  -- the plain code of woven code: a HOST for a site, and for a target the number of entries before it
  abbrev pub strip : List Instr → List Own
  strip code = map (retarget (rank (marks (λ k t. B k t 0) zero code))) (unsited zero code)

  -- the plain applet of a woven one
  abbrev pub strip_applet : Applet → Plain
  strip_applet w = record { entries = w.entries; code = map strip w.methods }

-- a woven file, and the plain file that it was woven from
pub record Stripped (A : Automaton) (B : Blocks) (plain woven : List ℕ) : Type 0 where
  -- the woven file reads as an applet
  pub applet : Applet
  pub reads : read_applet woven ≡ Ok applet
  -- its cells start with the policy's starts
  pub starts : applet.starts ≡ A.starts
  -- without its sites it is the applet of the plain file, with the same entries
  pub stripped : read_applet plain ≡ Ok (plain_applet (strip_applet B applet))
  -- a plain file of bytes is thus what stripping gives back
  pub back : Bytes plain → write_applet (plain_applet (strip_applet B applet)) ≡ plain

-- stripping undoes weaving
pub record Stripping (A : Automaton) (B : Blocks) : Type 0 where
  -- what weave writes can be stripped, which gives back what was woven
  pub undoes : (f g : List ℕ) (room : ℕ) → weave_file A B f room ≡ Ok g → Stripped A B f g
  -- what check accepts is woven from what stripping it gives
  pub undone : (g : List ℕ) (area : ℕ) (w : Applet) → check_file A B g area ≡ Ok tt → read_applet g ≡ Ok w → woven_applet A B (strip_applet B w) ≡ w

-- of every policy that shows what it must
abbrev pub StrippingUndoes : Type 0
StrippingUndoes = (A : Automaton) (B : Blocks) → Showing A B → Stripping A B
