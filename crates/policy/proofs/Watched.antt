-- The calls on a watch, by those on its policy.
use Rattle.std.proofs.Common.{◌≡◌, Bool, true, false, List, ℤ, Ok, Err, Option, sym, refl, ap}
use mathlib.Core.Path.{subst⁻¹}
use Rattle.model.specs.declared.Refusal.{Refusal}
use Rattle.model.specs.declared.Verdict.{Verdict}
use Rattle.model.specs.declared.Event.{Event}
use Rattle.model.specs.Policy.{Automaton}
use Rattle.model.specs.Fields.{Read, ◌>>=◌, ◌>>◌}
use Rattle.model.specs.Calls.{starts_answer, starts_row, step_answer, row_after, row_by, row_behind, roomy_row, over_row, stepped_row, verdict_of}
use Rattle.model.specs.Watch.{Watch, watch_by, begin_answer, begun_after, judged, goes_on, judge_answer, judged_after}
use Rattle.policy.proofs.Asked.{clash, same}

-- the watch with the row s
abbrev pub at : List ℤ → Bool → Watch
at s b = record { cells = s; begun = b }

-- that a call worked
abbrev worked : Read Watch → Read (Unit {0})
worked r = r >>= (λ v. Ok tt)

module _ (A : Automaton) (row : List ℤ) (b : Bool) where
  -- begin, by the test of the row
  abbrev begun : Read (Unit {0}) → Read Watch
  begun r = r >> Ok (over_row A A.starts row) >>= (λ s. Ok (at s true))

  pub begin_refused : (x : Refusal) (new : List ℤ) → Err x ≡ starts_answer A row → new ≡ starts_row A row → (Err x ≡ begin_answer A (at row b)) × (at new b ≡ begun_after A (at row b))
  unfolding ◌>>=◌
  begin_refused x new h e = go (roomy_row A row) h e
    where
      go : (r : Read (Unit {0})) → Err x ≡ r → new ≡ row_by row (r >> Ok (over_row A A.starts row)) →
          (Err x ≡ worked (begun r)) × (at new b ≡ watch_by (at row b) (begun r))
      go (Ok u) h e = clash h
      go (Err r) h e = (h, ap (λ s. at s b) e)

  pub begin_done : (new : List ℤ) → Ok tt ≡ starts_answer A row → new ≡ starts_row A row → (Ok tt ≡ begin_answer A (at row b)) × (at new true ≡ begun_after A (at row b))
  unfolding ◌>>=◌
  begin_done new h e = go (roomy_row A row) h e
    where
      go : (r : Read (Unit {0})) → Ok tt ≡ r → new ≡ row_by row (r >> Ok (over_row A A.starts row)) →
          (Ok tt ≡ worked (begun r)) × (at new true ≡ watch_by (at row b) (begun r))
      go (Ok u) h e = (refl, ap (λ s. at s true) e)
      go (Err r) h e = clash (sym h)

module _ (A : Automaton) (e : Event) (row : List ℤ) where
  -- the answer of a watch, by what the step of its row gave
  abbrev says : Bool → Read (Option (List ℤ)) → Read Verdict
  says b x = x >>= (λ o. Ok (judged e.moment (at row b) o b)) >>= (λ j. Ok j.verdict)

  -- the watch behind it
  abbrev behind : Bool → Read (Option (List ℤ)) → Watch
  behind b x = watch_by (at row b) (x >>= (λ o. Ok (judged e.moment (at row b) o b)) >>= (λ j. Ok j.watch))

  -- the step is refused
  pub judge_refused : (b : Bool) (x : Refusal) (new : List ℤ) → Err x ≡ step_answer A e row → new ≡ row_after A e row →
      (Err x ≡ judge_answer A (at row b) e) × (at new b ≡ judged_after A (at row b) e)
  unfolding ◌>>=◌
  judge_refused b x new h q = go (stepped_row A e row) h q
    where
      go : (y : Read (Option (List ℤ))) → Err x ≡ (y >>= (λ o. Ok (verdict_of o))) → new ≡ row_by row (y >>= (λ o. Ok (row_behind row o))) →
          (Err x ≡ says b y) × (at new b ≡ behind b y)
      go (Ok o) h q = clash h
      go (Err r) h q = (same h, ap (λ s. at s b) q)

  -- a begun watch steps
  pub judge_begun : (b : Bool) (v : Verdict) (new : List ℤ) → b ≡ true → Ok v ≡ step_answer A e row → new ≡ row_after A e row →
      (Ok v ≡ judge_answer A (at row b) e) × (at new (goes_on v e.moment) ≡ judged_after A (at row b) e)
  unfolding ◌>>=◌
  judge_begun b v new t h q =
      subst⁻¹ (λ b. (Ok v ≡ judge_answer A (at row b) e) × (at new (goes_on v e.moment) ≡ judged_after A (at row b) e)) t (go (stepped_row A e row) h q)
    where
      go : (y : Read (Option (List ℤ))) → Ok v ≡ (y >>= (λ o. Ok (verdict_of o))) → new ≡ row_by row (y >>= (λ o. Ok (row_behind row o))) →
          (Ok v ≡ says true y) × (at new (goes_on v e.moment) ≡ behind true y)
      go (Ok o) h q = let z : v ≡ verdict_of o = cc in (h, λ i. at (q i) (goes_on (z i) e.moment))
      go (Err r) h q = clash (sym h)

  -- an unbegun watch refuses, and stays
  pub judge_unbegun : (b : Bool) (v : Verdict) → b ≡ false → Ok v ≡ step_answer A e row →
      (Ok Verdict.Refused ≡ judge_answer A (at row b) e) × (at row b ≡ judged_after A (at row b) e)
  unfolding ◌>>=◌
  judge_unbegun b v t h = subst⁻¹ (λ b. (Ok Verdict.Refused ≡ judge_answer A (at row b) e) × (at row b ≡ judged_after A (at row b) e)) t (go (stepped_row A e row) h)
    where
      go : (y : Read (Option (List ℤ))) → Ok v ≡ (y >>= (λ o. Ok (verdict_of o))) → (Ok Verdict.Refused ≡ says false y) × (at row false ≡ behind false y)
      go (Ok o) h = (refl, refl)
      go (Err r) h = clash (sym h)
