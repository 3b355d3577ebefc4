-- Where the rules for a call and a moment stand.
use Rattle.std.proofs.Common.{◌≡◌, ℕ, ◌+◌, ◌-◌, ◌<◌, ◌≤◌, Bool, true, false, cond, ◌&&◌, ◌||◌, eqb, ltb, ◌⊎◌, List, [], ◌∷◌, ◌++◌, length, get_or, take, drop, set, sym, refl, ap, ◌∙◌, subst, ap₂, inl, inr, append_assoc, append-nil, arith, length-append, length-drop}
use Rattle.std.specs.List.{flat_map, AllByRecursion}
use Rattle.std.proofs.lemmas.List.{take_at, take_rest, drop-drop, drop_at, get_or-set_same, get_or-set_other, get_or-replicate}
use Rattle.std.proofs.lemmas.Bool.{eq-eqb, ne_eqb, eqb-true, lt-ltb, le-ltb, leb-true, and_left, and_right, cond_both, cases_eq, cases_Bool}
use Rattle.model.specs.declared.Moment.{Moment}
use Rattle.model.specs.Moments.{moment_number, same_moment}
use Rattle.model.specs.Fields.{Bytes, field}
use Rattle.model.specs.Rules.{Rule, rule_bytes, rules_of, has_rule, rules_in, reads_rules, ValidRule}
use Rattle.model.proofs.Moments.{same_moment_true}
use Rattle.model.proofs.Accepted.{needed}
use Rattle.model.proofs.RuleFiles.{rules_read_in, rules_laid, rules_valid_in}
use Rattle.rules.specs.Views.{Written}
use Rattle.rules.specs.Index.{no_span, all_at, span_of, kept_first, met_span, RowMet, Met, first_place, last_place, any_span, Firsts, FirstsIn, LastsIn, rules_place, WrittenFor}
use Rattle.rules.specs.declared.index.Index.{Index}
use Rattle.rules.specs.declared.index.Span.{Span}
use Rattle.rules.proofs.Acts.{for_it, for_other}

-- ---- the spans of an index

pub row_met : (l : List Span) (end : ℕ) (r : Span) (c : ℕ) → c < length l → RowMet end r c l (set l c (met_span end r (get_or l c no_span)))
row_met l end r c h k z = go (cases_eq c k)
  where
    go : (c ≡ k) ⊎ (c ≡ k → ⊥) → get_or (set l c (met_span end r (get_or l c no_span))) k no_span ≡ cond (eqb c k) (met_span end r (get_or l k no_span)) (get_or l k no_span)
    go (inl y) =
        ap (λ i. get_or (set l c (met_span end r (get_or l c no_span))) i no_span) (sym y) ∙ get_or-set_same l c (met_span end r (get_or l c no_span)) no_span h
        ∙ ap (λ i. met_span end r (get_or l i no_span)) y ∙ sym (ap (λ b. cond b (met_span end r (get_or l k no_span)) (get_or l k no_span)) (eq-eqb c k y))
    go (inr n) =
        get_or-set_other l c k (met_span end r (get_or l c no_span)) no_span (λ y. n (sym y)) ∙ sym (ap (λ b. cond b (met_span end r (get_or l k no_span)) (get_or l k no_span)) (ne_eqb c k n))

pub span_all : (p k : ℕ) (t : Moment) → k < 64 → span_of (all_at p) k t ≡ record { from = p; to = p }
span_all p k Moment.Before h = get_or-replicate 64 k (record { from = p; to = p }) no_span h
span_all p k Moment.After h = get_or-replicate 64 k (record { from = p; to = p }) no_span h
span_all p k Moment.Raised h = get_or-replicate 64 k (record { from = p; to = p }) no_span h

pub moment_low : (t : Moment) → moment_number t < 3
moment_low Moment.Before = omega arith
moment_low Moment.After = omega arith
moment_low Moment.Raised = omega arith

moments_apart : (m t : Moment) → same_moment m t ≡ false → moment_number t ≡ moment_number m → ⊥
moments_apart Moment.Before Moment.Before e q = cc
moments_apart Moment.Before Moment.After e q = omega arith
moments_apart Moment.Before Moment.Raised e q = omega arith
moments_apart Moment.After Moment.Before e q = omega arith
moments_apart Moment.After Moment.After e q = cc
moments_apart Moment.After Moment.Raised e q = omega arith
moments_apart Moment.Raised Moment.Before e q = omega arith
moments_apart Moment.Raised Moment.After e q = omega arith
moments_apart Moment.Raised Moment.Raised e q = cc

and_same : (b : Bool) (m : Moment) → b && same_moment m m ≡ b
and_same true Moment.Before = refl
and_same true Moment.After = refl
and_same true Moment.Raised = refl
and_same false m = refl

-- a rule taken in by the spans of its moment
pub row_taken : (i : Index) (end : ℕ) (r : Span) (c j : ℕ) (m : Moment) (row : List Span) → j ≡ moment_number m → j < length i.spans → RowMet end r c (get_or i.spans j []) row →
    Met end r c m i (record { spans = set i.spans j row })
row_taken i end r c j m row e l h k t z = go (cases_Bool (same_moment m t))
  where
    at : (u : Moment) → j ≡ moment_number u → span_of (record { spans = set i.spans j row }) k u ≡ cond (eqb c k && same_moment u u) (met_span end r (span_of i k u)) (span_of i k u)
    at u q =
        ap (λ x. get_or x k no_span) (ap (λ p. get_or (set i.spans j row) p []) (sym q) ∙ get_or-set_same i.spans j row [] l) ∙ h k z
        ∙ ap (λ p. cond (eqb c k) (met_span end r (get_or (get_or i.spans p []) k no_span)) (get_or (get_or i.spans p []) k no_span)) q
        ∙ sym (ap (λ b. cond b (met_span end r (span_of i k u)) (span_of i k u)) (and_same (eqb c k) u))

    go : ((same_moment m t ≡ true) ⊎ (same_moment m t ≡ false)) → span_of (record { spans = set i.spans j row }) k t ≡ cond (eqb c k && same_moment m t) (met_span end r (span_of i k t)) (span_of i k t)
    go (inl y) = subst (λ u. span_of (record { spans = set i.spans j row }) k u ≡ cond (eqb c k && same_moment m u) (met_span end r (span_of i k u)) (span_of i k u)) (same_moment_true m t y) (at m e)
    go (inr n) =
        ap (λ x. get_or x k no_span) (get_or-set_other i.spans j (moment_number t) row [] (λ q. moments_apart m t n (q ∙ e)))
        ∙ sym (ap (λ b. cond b (met_span end r (span_of i k t)) (span_of i k t)) (and_right (eqb c k) (same_moment m t) n))

pub cond_from : (b : Bool) (x y : Span) → (cond b x y).from ≡ cond b x.from y.from
cond_from true x y = refl
cond_from false x y = refl

pub cond_to : (b : Bool) (x y : Span) → (cond b x y).to ≡ cond b x.to y.to
cond_to true x y = refl
cond_to false x y = refl

-- ---- rules taken in one by one

-- what is left decides where no rule was met
pub first_none : (end y : ℕ) → kept_first end y end ≡ y
first_none end y = ap (λ b. cond b y end) (eq-eqb end end refl)

-- and at the end nothing is left
pub first_all : (end q : ℕ) → kept_first end end q ≡ q
first_all end q = cond_both (eqb q end) end q (λ x. x ≡ q) (λ y. sym (eqb-true q end y)) (λ n. refl)

first_stays : (end y q : ℕ) → (q ≡ end → ⊥) → kept_first end y q ≡ q
first_stays end y q h = ap (λ b. cond b y q) (ne_eqb q end h)

-- one rule more, at a place before the end
pub first_more : (b : Bool) (end p q y : ℕ) → p < end → kept_first end y (cond b (kept_first end p q) q) ≡ kept_first end (cond b p y) q
first_more false end p q y h = refl
first_more true end p q y h = go (cases_eq q end)
  where
    go : (q ≡ end) ⊎ (q ≡ end → ⊥) → kept_first end y (kept_first end p q) ≡ kept_first end p q
    go (inl e) = let s = ap (λ b. cond b p q) (eq-eqb q end e) in ap (kept_first end y) s ∙ first_stays end y p (λ z. omega arith) ∙ sym s
    go (inr e) = let s = first_stays end p q e in ap (kept_first end y) s ∙ first_stays end y q e ∙ sym s

-- ---- the rules from the first one on

-- a rule has bytes
rule_long : (r : Rule) → 0 < length (rule_bytes r)
unfolding field
rule_long r = omega arith

-- the rules behind the first
behind_rule : (n p : ℕ) (f : List ℕ) (r : Rule) (rs : List Rule) → Written n (drop p f) (r ∷ rs) → Written n (drop (p + length (rule_bytes r)) f) rs
behind_rule n p f r rs w = (sym (drop-drop (length (rule_bytes r)) p f) ∙ ap (drop (length (rule_bytes r))) w.0 ∙ drop_at (rule_bytes r) (flat_map rule_bytes rs) _ refl, w.1.1)

-- the rules from place q on, those from p on being rs: the same ones for the call and moment, up to the same place
pub record FromFirst (n : ℕ) (f : List ℕ) (k : ℕ) (t : Moment) (p : ℕ) (rs : List Rule) (q : ℕ) : Type 0 where
  pub rules : List Rule
  pub written : Written n (drop q f) rules
  pub same : rules_of rules k t ≡ rules_of rs k t
  pub last : (e : ℕ) → last_place rs k t p e ≡ last_place rules k t q e
  pub inside : q ≤ length f

from_first : (n : ℕ) (f : List ℕ) (k : ℕ) (t : Moment) (p : ℕ) (rs : List Rule) → p ≤ length f → Written n (drop p f) rs → FromFirst n f k t p rs (first_place rs k t p)
from_first n f k t p [] l w = record { rules = []; written = w; same = refl; last = λ e. refl; inside = l }
from_first n f k t p (r ∷ rs) l w =
    let m = length (rule_bytes r) in
    let a = sym (length-drop p f) ∙ ap length w.0 ∙ length-append (rule_bytes r) (flat_map rule_bytes rs) in
    let h = from_first n f k t (p + m) rs (omega arith) (behind_rule n p f r rs w) in
    cond_both (eqb r.call k && same_moment r.moment t) p (first_place rs k t (p + m)) (FromFirst n f k t p (r ∷ rs))
    (λ y. record { rules = r ∷ rs; written = w; same = refl; last = λ e. refl; inside = l })
    (λ z. record {
      rules = h.rules;
      written = h.written;
      same = h.same ∙ sym (for_other k t r rs z);
      last = λ e. ap (λ b. last_place rs k t (p + m) (cond b (p + m) e)) z ∙ h.last e;
      inside = h.inside;
    })

-- rules up to behind the last one for a call and moment
pub record UpToLast (n k : ℕ) (t : Moment) (p : ℕ) (rs : List Rule) : Type 0 where
  pub rules : List Rule
  pub behind : List ℕ
  pub bytes : flat_map rule_bytes rs ≡ flat_map rule_bytes rules ++ behind
  pub valid : AllByRecursion (ValidRule n) rules
  pub same : rules_of rules k t ≡ rules_of rs k t
  pub last : (e : ℕ) → last_place rs k t p e ≡ p + length (flat_map rule_bytes rules)

-- no rule for a call and moment
abbrev NoLast : ℕ → Moment → ℕ → List Rule → Type 0
NoLast k t p rs = (rules_of rs k t ≡ []) × ((e : ℕ) → last_place rs k t p e ≡ e)

up_to_last : (n k : ℕ) (t : Moment) (p : ℕ) (rs : List Rule) → AllByRecursion (ValidRule n) rs → NoLast k t p rs ⊎ UpToLast n k t p rs
up_to_last n k t p [] v = inl (refl, λ e. refl)
up_to_last n k t p (r ∷ rs) v = by (up_to_last n k t (p + length (rule_bytes r)) rs v.1) (cases_Bool (eqb r.call k && same_moment r.moment t))
  where
    by : NoLast k t (p + length (rule_bytes r)) rs ⊎ UpToLast n k t (p + length (rule_bytes r)) rs →
        ((eqb r.call k && same_moment r.moment t ≡ true) ⊎ (eqb r.call k && same_moment r.moment t ≡ false)) → NoLast k t p (r ∷ rs) ⊎ UpToLast n k t p (r ∷ rs)
    by (inl z) (inl y) = inr (record {
      rules = r ∷ [];
      behind = flat_map rule_bytes rs;
      bytes = sym (ap (λ x. x ++ flat_map rule_bytes rs) (append-nil (rule_bytes r)));
      valid = (v.0, tt);
      same = for_it k t r [] y ∙ sym (for_it k t r rs y ∙ ap (λ x. r ∷ x) z.0);
      last = λ e. z.1 _ ∙ ap (λ b. cond b (p + length (rule_bytes r)) e) y ∙ (let l = length-append (rule_bytes r) [] in omega arith);
    })
    by (inl z) (inr x) = inl (for_other k t r rs x ∙ z.0, λ e. z.1 _ ∙ ap (λ b. cond b (p + length (rule_bytes r)) e) x)
    by (inr z) c = inr (record {
      rules = r ∷ z.rules;
      behind = z.behind;
      bytes = ap (λ x. rule_bytes r ++ x) z.bytes ∙ sym (append_assoc (rule_bytes r) (flat_map rule_bytes z.rules) z.behind);
      valid = (v.0, z.valid);
      same = one_more c z.rules z.same;
      last = λ e. z.last _ ∙ (let l = length-append (rule_bytes r) (flat_map rule_bytes z.rules) in omega arith);
    })
      where
        one_more : ((eqb r.call k && same_moment r.moment t ≡ true) ⊎ (eqb r.call k && same_moment r.moment t ≡ false)) →
            (us : List Rule) → rules_of us k t ≡ rules_of rs k t → rules_of (r ∷ us) k t ≡ rules_of (r ∷ rs) k t
        one_more (inl y) us e = for_it k t r us y ∙ ap (λ x. r ∷ x) e ∙ sym (for_it k t r rs y)
        one_more (inr x) us e = for_other k t r us x ∙ e ∙ sym (for_other k t r rs x)

-- what stands in the span of a call and moment
pub record InSpan (n : ℕ) (f : List ℕ) (k : ℕ) (t : Moment) (rs : List Rule) (from to : ℕ) : Type 0 where
  pub order : from ≤ to
  pub inside : to ≤ length f
  pub written : WrittenFor n k t (take (to - from) (drop from f)) rs

-- with the rules from place q on
module _ (n : ℕ) (f : List ℕ) (k : ℕ) (t : Moment) (p : ℕ) (rs : List Rule) (q : ℕ) (h : FromFirst n f k t p rs q) where
  -- without a rule behind them they are all that is left
  all_left : NoLast k t q h.rules → InSpan n f k t rs q (length f)
  all_left z = record { order = h.inside; inside = omega arith; written = (h.rules, (take_rest f q ∙ h.written.0, h.written.1), h.same) }

  up_to : UpToLast n k t q h.rules → (e : ℕ) → e ≡ length f → (to : ℕ) → to ≡ last_place h.rules k t q e → InSpan n f k t rs q to
  up_to z e g to d =
      let u = flat_map rule_bytes z.rules in
      let w = h.written.0 ∙ z.bytes in
      let a = sym (length-drop q f) ∙ ap length w ∙ length-append u z.behind in
      let i = h.inside in
      let j : to ≡ q + length u = d ∙ z.last e in
      let m : to - q ≡ length u = omega arith in
      record {
        order = omega arith;
        inside = omega arith;
        written = (z.rules, (ap₂ take m w ∙ take_at u z.behind (length u) refl, z.valid), z.same ∙ h.same);
      }

  spans : NoLast k t q h.rules ⊎ UpToLast n k t q h.rules → InSpan n f k t rs q (last_place rs k t p (length f))
  spans (inl z) = subst (InSpan n f k t rs q) (sym (h.last (length f) ∙ z.1 (length f))) (all_left z)
  spans (inr z) = up_to z (length f) refl (last_place rs k t p (length f)) (h.last (length f))

pub in_span : (n : ℕ) (f : List ℕ) (k : ℕ) (t : Moment) (p : ℕ) (rs : List Rule) → p ≤ length f → Written n (drop p f) rs →
    InSpan n f k t rs (first_place rs k t p) (last_place rs k t p (length f))
in_span n f k t p rs l w =
    let q = first_place rs k t p in
    let h = from_first n f k t p rs l w in
    spans n f k t p rs q h (up_to_last n k t q h.rules h.written.1)

-- no rule is for a call past 63
pub none_past : (n : ℕ) (rs : List Rule) (k : ℕ) (t : Moment) → AllByRecursion (ValidRule n) rs → 63 < k → rules_of rs k t ≡ []
none_past n [] k t v h = refl
none_past n (r ∷ rs) k t v h =
    let c = v.0.call in
    for_other k t r rs (and_left (eqb r.call k) (same_moment r.moment t) (ne_eqb r.call k (λ e. omega arith))) ∙ none_past n rs k t v.1 h

-- ---- whether a call has a rule

-- a place before the end for one of the moments
abbrev pub any_first : List Rule → ℕ → ℕ → ℕ → Bool
any_first rs k p end = ltb (first_place rs k Moment.Before p) end || ltb (first_place rs k Moment.After p) end || ltb (first_place rs k Moment.Raised p) end

or_second : (a c : Bool) → a || true || c ≡ true
or_second true c = refl
or_second false c = refl

or_third : (a b : Bool) → a || b || true ≡ true
or_third true b = refl
or_third false true = refl
or_third false false = refl

-- with a rule for the call at the front
any_here : (r : Rule) (rs : List Rule) (k p end : ℕ) → p < end → eqb r.call k ≡ true → any_first (r ∷ rs) k p end ≡ true
unfolding field
any_here r rs k p end h e = go r.moment refl
  where
    go : (m : Moment) → r.moment ≡ m → any_first (r ∷ rs) k p end ≡ true
    go Moment.Before q = rw (e, q, lt-ltb p end h)
    go Moment.After q =
        rw (e, q, lt-ltb p end h) (or_second (ltb (first_place rs k Moment.Before (p + length (rule_bytes r))) end) (ltb (first_place rs k Moment.Raised (p + length (rule_bytes r))) end))
    go Moment.Raised q =
        rw (e, q, lt-ltb p end h) (or_third (ltb (first_place rs k Moment.Before (p + length (rule_bytes r))) end) (ltb (first_place rs k Moment.After (p + length (rule_bytes r))) end))

pub any_rule : (rs : List Rule) (k p end : ℕ) → p + length (flat_map rule_bytes rs) ≡ end → has_rule k rs ≡ any_first rs k p end
any_rule [] k p end e = rw (le-ltb p end (omega arith))
any_rule (r ∷ rs) k p end e =
    let l = length-append (rule_bytes r) (flat_map rule_bytes rs) in
    let z = rule_long r in
    let h = any_rule rs k (p + length (rule_bytes r)) end (omega arith) in
    go h (cases_Bool (eqb r.call k)) (omega arith)
  where
    go : has_rule k rs ≡ any_first rs k (p + length (rule_bytes r)) end → ((eqb r.call k ≡ true) ⊎ (eqb r.call k ≡ false)) → p < end → has_rule k (r ∷ rs) ≡ any_first (r ∷ rs) k p end
    go h (inl y) l = ap (λ b. b || has_rule k rs) y ∙ sym (any_here r rs k p end l y)
    go h (inr n) l = rw n h

-- the spans of an index tell it
pub any_placed : (i : Index) (rs : List Rule) (k p end : ℕ) → Firsts rs p i → k < 64 → p + length (flat_map rule_bytes rs) ≡ end → any_span i k end ≡ has_rule k rs
any_placed i rs k p end h l e = rw (h k Moment.Before l, h k Moment.After l, h k Moment.Raised l) (sym (any_rule rs k p end e))

-- ---- files

module _ (f : List ℕ) (reads : reads_rules f ≡ true) where
  pub file_short : length f ≤ 65535
  file_short = needed _ _ _ _ (rules_read_in f reads) (λ short e. leb-true (length f) 65535 short)

  module _ (bytes : Bytes f) where
    -- the rules of a file, from their place on
    pub file_rules : Written (length (rules_in f).starts) (drop (rules_place f) f) (rules_in f).rules
    file_rules = ((rules_laid f reads).rules bytes, (rules_valid_in f reads).rules)

    -- they end with it
    pub file_end : rules_place f + length (flat_map rule_bytes (rules_in f).rules) ≡ length f
    file_end =
        let l = (rules_laid f reads).long in
        let e = sym (ap length file_rules.0) ∙ length-drop (rules_place f) f in
        omega arith

    -- what stands in a span of its index
    pub file_span : (i : Index) (k : ℕ) (t : Moment) (s : Span) (from to : ℕ) → FirstsIn f i → LastsIn f i → k < 64 → s ≡ span_of i k t → from ≡ s.from → to ≡ s.to →
        InSpan (length (rules_in f).starts) f k t (rules_in f).rules from to
    file_span i k t s from to a b l e x y =
        let n = length (rules_in f).starts in
        let rs = (rules_in f).rules in
        let p = x ∙ ap (λ (z : Span). z.from) e ∙ a k t l in
        let q = y ∙ ap (λ (z : Span). z.to) e ∙ b k t l in
        let h = in_span n f k t (rules_place f) rs (rules_laid f reads).long file_rules in
        subst (λ z. InSpan n f k t rs z to) (sym p) (subst (InSpan n f k t rs (first_place rs k t (rules_place f))) (sym q) h)
