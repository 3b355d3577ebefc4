-- Where the rules for each call and moment stand in a file.
use Rattle.std.specs.Prelude.{◌≡◌, ℕ, ◌+◌, ◌*◌, ◌<◌, Bool, cond, ◌&&◌, ◌||◌, List, [], ◌∷◌, length, replicate, ◌==◌, nat_lt, slice_index_or}
use Rattle.model.specs.declared.Moment.{Moment}
use Rattle.model.specs.Moments.{moment_number, same_moment}
use Rattle.model.specs.Rules.{Rule, rule_bytes, rules_of, rules_in}
use Rattle.rules.specs.Views.{Written}
use Rattle.rules.specs.declared.index.Index.{Index}
use Rattle.rules.specs.declared.index.Span.{Span}

-- past the last call
abbrev pub no_span : Span
no_span = record { from = 0; to = 0 }

-- every span is empty, at the same place
abbrev pub all_at : ℕ → Index
all_at p = record { spans = replicate 3 (replicate 64 (record { from = p; to = p })) }

-- the span for a call and a moment
abbrev pub span_of : Index → ℕ → Moment → Span
span_of i k t = slice_index_or (slice_index_or i.spans (moment_number t) []) k no_span

-- the place of the first rule for a call and a moment, where the rules stand from place p on; their end if there is none
abbrev pub first_place : List Rule → ℕ → Moment → ℕ → ℕ
first_place [] k t p = p
first_place (r ∷ rs) k t p = cond (r.call == k && same_moment r.moment t) p (first_place rs k t (p + length (rule_bytes r)))

-- the place behind the last one; e if there is none
abbrev pub last_place : List Rule → ℕ → Moment → ℕ → ℕ → ℕ
last_place [] k t p e = e
last_place (r ∷ rs) k t p e = last_place rs k t (p + length (rule_bytes r)) (cond (r.call == k && same_moment r.moment t) (p + length (rule_bytes r)) e)

-- where a span begins once a rule at p was met: the first that is met stays, and without one it begins at the end
abbrev pub kept_first : ℕ → ℕ → ℕ → ℕ
kept_first end p q = cond (q == end) p q

-- a span once a rule r was met
abbrev pub met_span : ℕ → Span → Span → Span
met_span end r s = record { from = kept_first end r.from s.from; to = r.to }

-- the spans of one moment once a rule r for call c was met
abbrev pub RowMet : ℕ → Span → ℕ → List Span → List Span → Type 0
RowMet end r c row new = (k : ℕ) → k < 64 → slice_index_or new k no_span ≡ cond (c == k) (met_span end r (slice_index_or row k no_span)) (slice_index_or row k no_span)

-- an index once a rule r for call c and moment m was met
abbrev pub Met : ℕ → Span → ℕ → Moment → Index → Index → Type 0
Met end r c m i new = (k : ℕ) (t : Moment) → k < 64 → span_of new k t ≡ cond (c == k && same_moment m t) (met_span end r (span_of i k t)) (span_of i k t)

-- a call has a rule, by its spans in a file that ends there
abbrev pub any_span : Index → ℕ → ℕ → Bool
any_span i k end = nat_lt (span_of i k Moment.Before).from end || nat_lt (span_of i k Moment.After).from end || nat_lt (span_of i k Moment.Raised).from end

-- the spans begin with the first rules, where the rules rs stand from place p on
abbrev pub Firsts : List Rule → ℕ → Index → Type 0
Firsts rs p i = (k : ℕ) (t : Moment) → k < 64 → (span_of i k t).from ≡ first_place rs k t p

-- they end behind the last ones, or with the file
abbrev pub Lasts : List Rule → ℕ → ℕ → Index → Type 0
Lasts rs p end i = (k : ℕ) (t : Moment) → k < 64 → (span_of i k t).to ≡ last_place rs k t p end

-- where the rules of a file begin
abbrev pub rules_place : List ℕ → ℕ
rules_place f = 8 + 4 * length (rules_in f).starts

-- the same of the rules of a file
abbrev pub FirstsIn : List ℕ → Index → Type 0
FirstsIn f i = Firsts (rules_in f).rules (rules_place f) i

abbrev pub LastsIn : List ℕ → Index → Type 0
LastsIn f i = Lasts (rules_in f).rules (rules_place f) (length f) i

-- the bytes of rules of a policy of n cells, those for call k and moment t among them being those of rs
abbrev pub WrittenFor : ℕ → ℕ → Moment → List ℕ → List Rule → Type 0
WrittenFor n k t b rs = (vs : List Rule) × Written n b vs × (rules_of vs k t ≡ rules_of rs k t)
