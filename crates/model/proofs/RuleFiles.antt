-- The file of a rule policy: what stands where.
use Rattle.std.proofs.Common.{◌≡◌, ℕ, ◌+◌, ◌*◌, ◌<◌, ◌≤◌, true, false, eqb, leb, List, map, length, get_or, take, drop, is_ok, Ok, Err, sym, refl, ap, ◌∙◌, subst, ap₂, arith}
use lib.ListN.{length-map}
use Rattle.std.specs.List.{flat_map}
use Rattle.std.proofs.ByRecursion.{All-drop}
use Rattle.std.proofs.lemmas.List.{get_or-take, get_or-drop}
use Rattle.std.proofs.lemmas.Bool.{false≢true, eqb-true}
use Rattle.model.specs.Policy.{Showing}
use Rattle.model.specs.declared.Refusal.TheVariants.{BadPolicyField}
use Rattle.model.specs.Words.{quads, signed_of}
use Rattle.model.specs.Fields.{Bytes, Read, announced, next, field, expect, fields, ◌>>=◌}
use Rattle.model.specs.Rules.{Rules, read_rules, reads_rules, rules_in, rules_or_refusing, refusing_rules, rules_automaton, rules_block, rule_bytes, write_rules, ValidRules}
use Rattle.model.proofs.Words.{length_flat, flat_quads}
use Rattle.model.proofs.Accepted.{bound, needed}
use Rattle.model.proofs.Parts.{parts_of_files}
use Rattle.model.proofs.PolicyAccepted.{rules_accepted, rules_written, all_three}
use Rattle.model.proofs.RuleBlocks.{rules_showing}

-- a file that reads, reads as its policy
pub rules_read_in : (f : List ℕ) → reads_rules f ≡ true → read_rules f ≡ Ok (rules_in f)
unfolding rules_in
rules_read_in f h = go (read_rules f) h
  where
    go : (r : Read Rules) → is_ok r ≡ true → r ≡ Ok (rules_or_refusing r)
    go (Ok p) h = refl
    go (Err x) h = absurd (false≢true h)

pub rules_valid_in : (f : List ℕ) → reads_rules f ≡ true → ValidRules (rules_in f)
rules_valid_in f h = (rules_accepted f (rules_in f) (rules_read_in f h)).1

pub rules_shown : (f : List ℕ) → reads_rules f ≡ true → Showing (rules_automaton (rules_in f)) (rules_block (rules_in f))
rules_shown f h = rules_showing (rules_in f) (rules_valid_in f h)

-- where the parts of a rule policy stand in its file
pub record RulesLaid (f : List ℕ) (p : Rules) : Type 0 where
  pub cells : get_or f 4 0 ≡ length p.starts
  pub long : 8 + 4 * length p.starts ≤ length f
  pub starts : map signed_of (quads (take (4 * length p.starts) (drop 8 f))) ≡ p.starts
  pub rules : Bytes f → drop (8 + 4 * length p.starts) f ≡ flat_map rule_bytes p.rules

laid : (f : List ℕ) (p : Rules) → read_rules f ≡ Ok p → RulesLaid f p
laid f p whole =
    needed _ _ _ _ whole λ short e.
    bound _ _ _ e λ h eh e.
    needed _ _ _ _ e λ th e.
    bound _ _ _ e λ s es e.
    needed _ _ _ _ e λ ts e.
    bound _ _ _ e λ xs ex e.
    bound _ _ _ e λ rs er e.
    needed _ _ _ _ e λ tb e.
    let n = get_or h.contents 1 0 in
    let wh = parts_of_files.in_file f BadPolicyField 65 0 h eh in
    let ws = parts_of_files.in_file f BadPolicyField 66 (next h) s (ap (expect BadPolicyField 66 (next h)) (sym wh.rest) ∙ es) in
    let a = all_three (eqb (length h.contents) 2) (eqb (get_or h.contents 0 0) 1) (leb n 16) th in
    let two = eqb-true (length h.contents) 2 a.0 in
    let l = eqb-true (length s.contents) (4 * n) ts in
    let q = flat_quads s.contents (omega arith) in
    let ln = sym (length_flat (quads s.contents)) ∙ ap length q in
    let b : Rules = record { starts = map signed_of (quads s.contents); rules = rs } in
    let lb : length b.starts ≡ n = length-map (quads s.contents) signed_of ∙ omega arith in
    let hs = wh.stands.sized in
    let hc = ap length wh.contents in
    let ph = wh.place in
    let ps = ws.place in
    let ss = ws.stands.sized in
    let sc = ap length ws.contents in
    let se = ws.stands.ends in
    let k : announced f 0 ≡ 2 = omega arith in
    let five : next h ≡ 5 = omega arith in
    let size : announced f (next h) ≡ 4 * length b.starts = omega arith in
    let eight : next h + 3 ≡ 8 = omega arith in
    let at : n ≡ get_or f 4 0 = ap (λ x. get_or x 1 0) wh.contents ∙ get_or-take (announced f 0) (drop 3 f) 1 0 (omega arith) ∙ get_or-drop 3 f 1 0 in
    let w : s.contents ≡ take (4 * length b.starts) (drop 8 f) = ws.contents ∙ ap₂ (λ i j. take i (drop j f)) size eight in
    let rest : s.rest ≡ drop (8 + 4 * length b.starts) f = (let j : next s ≡ 8 + 4 * length b.starts = omega arith in ws.rest ∙ ap (λ i. drop i f) j) in
    let rw' = rules_written n (next s) s.rest xs rs ex er in
    let z : b ≡ p = cc in
    subst (RulesLaid f) z (record {
      cells = sym at ∙ sym lb;
      long = omega arith;
      starts = ap (λ c. map signed_of (quads c)) (sym w);
      rules = λ y. sym rest ∙ sym (rw'.0 (subst Bytes (sym rest) (All-drop (λ b. b < 256) _ f y)));
    })

pub rules_laid : (f : List ℕ) → reads_rules f ≡ true → RulesLaid f (rules_in f)
rules_laid f h = laid f (rules_in f) (rules_read_in f h)

-- the file of the policy that refuses every call reads as that policy
pub refusing_rules_read : read_rules (write_rules refusing_rules) ≡ Ok refusing_rules
unfolding field expect fields ◌>>=◌ refusing_rules
refusing_rules_read = refl

pub refusing_rules_in : rules_in (write_rules refusing_rules) ≡ refusing_rules
unfolding rules_in
refusing_rules_in = ap rules_or_refusing refusing_rules_read

-- over a file that does not read stands the policy that refuses every call
pub rules_refused_in : (f : List ℕ) → reads_rules f ≡ false → rules_in f ≡ refusing_rules
unfolding rules_in
rules_refused_in f h = go (read_rules f) h
  where
    go : (r : Read Rules) → is_ok r ≡ false → rules_or_refusing r ≡ refusing_rules
    go (Ok p) h = absurd (false≢true (sym h))
    go (Err x) h = refl
