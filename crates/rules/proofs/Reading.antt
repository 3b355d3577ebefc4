-- The reader's loops: fields one behind the other, by their first bad expression.
use Rattle.std.proofs.Common.{◌≡◌, ℕ, zero, suc, ◌+◌, ◌-◌, ◌*◌, ◌<◌, ◌≤◌, true, false, List, [], ◌∷◌, length, get_or, take, drop, Some, None, Ok, Err, Option, sym, refl, ap, ◌∙◌, ap₂, subst₂, arith}
use Rattle.std.proofs.lemmas.List.{length-drop, drop-take, drop_all, drop-drop}
use Rattle.std.proofs.lemmas.Bool.{le-leb, lt-leb, eq-eqb, ne_eqb}
use Rattle.model.specs.declared.Refusal.{Refusal}
use Rattle.model.specs.declared.Refusal.TheVariants.{BadPolicyField, BadPolicySize}
use Rattle.model.specs.Fields.{Read, Part, Field, refuse, a_tag, announced, next, expect, fields, ◌>>=◌}
use Rattle.model.specs.Rules.{triples, update_field, rule_field}
use Rattle.model.specs.Policy.{arguments}
use Rattle.model.specs.Moments.{moment_of}
use Rattle.model.proofs.Parts.{parts_of_files}
use Rattle.policy.specs.Pieces.{Found, piece_of, due_piece}
use Rattle.policy.proofs.Places.{piece_known}
use Rattle.std.specs.Option.{option_or}
use Rattle.rules.specs.Reader.{first_of, bad_expr, bad_update, bad_rule, one_bad, faulty, updating, headed, heading, opened}

-- ---- a field that was handed out

-- a field of contents c that stands at place p of a holder and ends at place n
pub record Here (h : List ℕ) (tag p : ℕ) (c : List ℕ) (n : ℕ) : Type 0 where
  pub met : expect BadPolicyField tag p (drop p h) ≡ Ok (record { place = p; contents = c; rest = drop n h })
  pub behind : n ≡ p + (3 + length c)
  pub ends : n ≤ length h
  pub inside : drop (p + 3) (take n h) ≡ c

module _ (h : List ℕ) (tag p : ℕ) where
  pub read_here : (m : Part) → expect BadPolicyField tag p (drop p h) ≡ Ok m → Here h tag p m.contents (next m)
  read_here m e =
      let w = parts_of_files.in_file h BadPolicyField tag p m e in
      let s = w.stands in
      let q = w.place in
      let k = ap length w.contents in
      let z = s.sized in
      let t = s.ends in
      let n : next m ≡ p + 3 + announced h p = omega arith in
      record {
        met = e ∙ ap₂ (λ a b. Ok (record { place = a; contents = m.contents; rest = b })) q w.rest;
        behind = omega arith;
        ends = omega arith;
        inside = ap (λ k. drop (p + 3) (take k h)) n ∙ drop-take (p + 3) (announced h p) h ∙ sym w.contents;
      }

  pub here : (c : List ℕ) (n : ℕ) → Ok (record { contents = c; next = n }) ≡ piece_of (expect BadPolicyField tag p (drop p h)) → Here h tag p c n
  here c n e = go (expect BadPolicyField tag p (drop p h)) refl e
    where
      go : (r : Read Part) → expect BadPolicyField tag p (drop p h) ≡ r → Ok (record { contents = c; next = n }) ≡ piece_of r → Here h tag p c n
      go (Ok m) q e =
          let z : record { contents = c; next = n } ≡ record { contents = m.contents; next = next m } = cc in
          subst₂ (Here h tag p) (sym (ap (λ (f : Found). f.contents) z)) (sym (ap (λ (f : Found). f.next) z)) (read_here m q)
      go (Err x) q e = absurd (let z : ◌≡◌ {A = ℕ} 0 1 = cc in omega arith)

  pub not_here : (x : Refusal) → Err x ≡ piece_of (expect BadPolicyField tag p (drop p h)) → expect BadPolicyField tag p (drop p h) ≡ Err x
  not_here x e = go (expect BadPolicyField tag p (drop p h)) e
    where
      go : (r : Read Part) → Err x ≡ piece_of r → r ≡ Err x
      go (Ok m) e = absurd (let z : ◌≡◌ {A = ℕ} 0 1 = cc in omega arith)
      go (Err y) e = cc

-- what is due at a place of a holder g, which is h, by a tag that some field has
pub due_known : (h g : List ℕ) (tag t p : ℕ) → g ≡ h → t ≡ tag → a_tag tag ≡ true → due_piece t p g ≡ piece_of (expect BadPolicyField tag p (drop p h))
due_known h g tag t p held tagged known = ap₂ (λ t g. due_piece t p g) tagged held ∙ piece_known h tag p known

-- ---- fields one behind the other

or_again : (a b c : Option ℕ) → option_or a (option_or b c) ≡ option_or (option_or a b) c
or_again (Some p) b c = refl
or_again None b c = refl

module _ {X : Type 0} (tag : ℕ) (one : ℕ → List ℕ → Read X) (g : X → Option ℕ) where
  one_err : (r : Read X) (x : Refusal) → Err x ≡ one_bad g r → r ≡ Err x
  one_err (Ok y) x e = absurd (let z : ◌≡◌ {A = ℕ} 0 1 = cc in omega arith)
  one_err (Err y) x e = cc

  pushed : (b : Option ℕ) (y : X) (r : Read (List X)) → faulty g b (r >>= (λ ys. Ok (y ∷ ys))) ≡ faulty g (option_or b (g y)) r
  unfolding ◌>>=◌
  pushed b y (Ok ys) = ap Ok (or_again b (g y) (first_of g ys))
  pushed b y (Err e) = refl

  -- by the bytes left
  by_expect : (m p : ℕ) (r : List ℕ) (x : Refusal) → 0 < length r → expect BadPolicyField tag p r ≡ Err x → fields m tag one p r ≡ Err x
  unfolding fields ◌>>=◌
  by_expect m p [] x l e = absurd (omega arith)
  by_expect zero p (b ∷ r) x l e = rw e
  by_expect (suc m) p (b ∷ r) x l e = rw e

  by_count : (p : ℕ) (r : List ℕ) (x : Part) → 0 < length r → expect BadPolicyField tag p r ≡ Ok x → fields 0 tag one p r ≡ Err (BadPolicySize p)
  unfolding fields ◌>>=◌
  by_count p [] x l e = absurd (omega arith)
  by_count p (b ∷ r) x l e = rw e

  by_one : (m p : ℕ) (r : List ℕ) (x : Part) (o : Refusal) → 0 < m → 0 < length r → expect BadPolicyField tag p r ≡ Ok x → one p x.contents ≡ Err o →
      fields m tag one p r ≡ Err o
  unfolding fields ◌>>=◌
  by_one m p [] x o k l e q = absurd (omega arith)
  by_one zero p (b ∷ r) x o k l e q = absurd (omega arith)
  by_one (suc m) p (b ∷ r) x o k l e q = rw (e, q)

  by_more : (b : Option ℕ) (m p : ℕ) (r : List ℕ) (x : Part) (y : X) → 0 < m → 0 < length r → expect BadPolicyField tag p r ≡ Ok x → one p x.contents ≡ Ok y →
      faulty g b (fields m tag one p r) ≡ faulty g (option_or b (g y)) (fields (m - 1) tag one (next x) x.rest)
  unfolding fields ◌>>=◌
  by_more b m p [] x y k l e q = absurd (omega arith)
  by_more b zero p (c ∷ r) x y k l e q = absurd (omega arith)
  by_more b (suc m) p (c ∷ r) x y k l e q =
      let z : m ≡ suc m - 1 = omega arith in
      rw (e, q) (pushed b y (fields m tag one (next x) x.rest) ∙ ap (λ k. faulty g (option_or b (g y)) (fields k tag one (next x) x.rest)) z)

  module _ (h : List ℕ) (p : ℕ) where
    some_left : p < length h → 0 < length (drop p h)
    some_left l = rw (length-drop p h) (omega arith)

    -- nothing is left
    pub at_end : (b : Option ℕ) (m : ℕ) → length h ≤ p → faulty g b (fields m tag one p (drop p h)) ≡ Ok b
    unfolding fields
    at_end b m l = ap (λ r. faulty g b (fields m tag one p r)) (drop_all p h l) ∙ ap Ok (none_more b)
      where
        none_more : (b : Option ℕ) → option_or b None ≡ b
        none_more (Some p) = refl
        none_more None = refl

    pub at_broken : (b : Option ℕ) (m : ℕ) (x : Refusal) → p < length h → Err x ≡ piece_of (expect BadPolicyField tag p (drop p h)) →
        faulty g b (fields m tag one p (drop p h)) ≡ Err x
    at_broken b m x l e = ap (faulty g b) (by_expect m p (drop p h) x (some_left l) (not_here h tag p x e))

    module _ (b : Option ℕ) (m : ℕ) (c : List ℕ) (n : ℕ) (l : p < length h) (w : Here h tag p c n) where
      pub at_many : m ≡ 0 → faulty g b (fields m tag one p (drop p h)) ≡ Err (BadPolicySize p)
      at_many z = ap (λ k. faulty g b (fields k tag one p (drop p h))) z ∙ ap (faulty g b) (by_count p (drop p h) _ (some_left l) w.met)

      pub at_fault : (x : Refusal) → 0 < m → Err x ≡ one_bad g (one p c) → faulty g b (fields m tag one p (drop p h)) ≡ Err x
      at_fault x k e = ap (faulty g b) (by_one m p (drop p h) _ x k (some_left l) w.met (one_err (one p c) x e))

      pub at_more : (o : Option ℕ) → 0 < m → Ok o ≡ one_bad g (one p c) →
          faulty g b (fields m tag one p (drop p h)) ≡ faulty g (option_or b o) (fields (m - 1) tag one n (drop n h))
      at_more o k e = go (one p c) refl e
        where
          go : (r : Read X) → one p c ≡ r → Ok o ≡ one_bad g r → faulty g b (fields m tag one p (drop p h)) ≡ faulty g (option_or b o) (fields (m - 1) tag one n (drop n h))
          go (Ok y) q e =
              let z : g y ≡ o = cc in
              by_more b m p (drop p h) _ y k (some_left l) w.met q
              ∙ ap₂ (λ a k. faulty g (option_or b a) (fields (m - 1) tag one k (drop n h))) z (sym w.behind)
          go (Err x) q e = absurd (let z : ◌≡◌ {A = ℕ} 0 1 = cc in omega arith)

pub one_self : (r : Read (Option ℕ)) → one_bad (λ b. b) r ≡ r
one_self (Ok x) = refl
one_self (Err e) = refl

-- the places alone, read as they are found
module _ {X : Type 0} (tag : ℕ) (one : ℕ → List ℕ → Read X) (g : X → Option ℕ) where
  abbrev pub found : ℕ → List ℕ → Read (Option ℕ)
  found p c = one_bad g (one p c)

  same_list : (b : Option ℕ) (y : X) (r : Read (List X)) (q : Read (List (Option ℕ))) → ((b : Option ℕ) → faulty (λ o. o) b q ≡ faulty g b r) →
      faulty (λ o. o) b (q >>= (λ ys. Ok (g y ∷ ys))) ≡ faulty g b (r >>= (λ ys. Ok (y ∷ ys)))
  unfolding ◌>>=◌
  same_list b y (Ok xs) (Ok ys) h = ap Ok (or_again b (g y) (first_of (λ o. o) ys)) ∙ h (option_or b (g y)) ∙ sym (ap Ok (or_again b (g y) (first_of g xs)))
  same_list b y (Ok xs) (Err e) h = absurd (let q = h b in let z : ◌≡◌ {A = ℕ} 0 1 = cc in omega arith)
  same_list b y (Err e) (Ok ys) h = absurd (let q = h b in let z : ◌≡◌ {A = ℕ} 0 1 = cc in omega arith)
  same_list b y (Err e) (Err f) h = h b

  same_one : (b : Option ℕ) (r : Read X) (k : X → Read (List X)) (l : Read (List (Option ℕ))) → ((y : X) (b : Option ℕ) → faulty (λ o. o) b l ≡ faulty g b (k y)) →
      faulty (λ o. o) b (one_bad g r >>= (λ o. l >>= (λ ys. Ok (o ∷ ys)))) ≡ faulty g b (r >>= (λ y. k y >>= (λ ys. Ok (y ∷ ys))))
  unfolding ◌>>=◌
  same_one b (Ok y) k l h = same_list b y (k y) l (h y)
  same_one b (Err e) k l h = refl

  places_more : (m p : ℕ) (c : List ℕ) (b : Option ℕ) (k : ℕ → List ℕ → Read (List (Option ℕ))) (l : ℕ → List ℕ → Read (List X)) →
      ((p : ℕ) (r : List ℕ) (b : Option ℕ) → faulty (λ o. o) b (k p r) ≡ faulty g b (l p r)) → (x : Read Part) →
      faulty (λ o. o) b (x >>= (λ w. one_bad g (one p w.contents) >>= (λ o. k (next w) w.rest >>= (λ ys. Ok (o ∷ ys)))))
      ≡ faulty g b (x >>= (λ w. one p w.contents >>= (λ y. l (next w) w.rest >>= (λ ys. Ok (y ∷ ys)))))
  unfolding ◌>>=◌
  places_more m p c b k l h (Ok w) = same_one b (one p w.contents) (λ y. l (next w) w.rest) (k (next w) w.rest) (λ y b. h (next w) w.rest b)
  places_more m p c b k l h (Err e) = refl

  places_none : (p : ℕ) (b : Option ℕ) (x : Read Part) →
      faulty (λ o. o) b (x >>= (λ w. refuse {A = List (Option ℕ)} (BadPolicySize p))) ≡ faulty g b (x >>= (λ w. refuse {A = List X} (BadPolicySize p)))
  unfolding ◌>>=◌
  places_none p b (Ok w) = refl
  places_none p b (Err e) = refl

  pub places_alone : (m p : ℕ) (r : List ℕ) (b : Option ℕ) → faulty (λ o. o) b (fields m tag found p r) ≡ faulty g b (fields m tag one p r)
  unfolding fields
  places_alone m p [] b = refl
  places_alone zero p (c ∷ r) b = places_none p b (expect BadPolicyField tag p (c ∷ r))
  places_alone (suc m) p (c ∷ r) b = places_more m p (c ∷ r) b (fields m tag found) (fields m tag one) (λ q s d. places_alone m q s d) (expect BadPolicyField tag p (c ∷ r))

-- ---- updates

pub update_bad : (n a p : ℕ) (c : List ℕ) → updating n c ≡ false → one_bad (bad_update n a) (update_field n p c) ≡ Err (BadPolicySize p)
unfolding ◌>>=◌
update_bad n a p c e = rw e

pub update_good : (n a p : ℕ) (c : List ℕ) → updating n c ≡ true → one_bad (bad_update n a) (update_field n p c) ≡ Ok (bad_expr n a p (drop 1 c))
unfolding ◌>>=◌
update_good n a p c e = rw e

-- ---- rules

-- what is found in the updates, behind a guard
abbrev pub behind_guard : Option ℕ → Read (Option ℕ) → Read (Option ℕ)
behind_guard b (Ok o) = Ok (option_or b o)
behind_guard b (Err e) = Err e

module _ (n p : ℕ) (h : List ℕ) where
  -- the contents of the rule
  abbrev inner : List ℕ
  inner = drop (p + 3) h

  past_head : drop 2 inner ≡ drop (p + 5) h
  past_head = let j : p + 3 + 2 ≡ p + 5 = omega arith in drop-drop 2 (p + 3) h ∙ ap (λ k. drop k h) j

  pub rule_unheaded : headed inner ≡ false → one_bad (bad_rule n) (rule_field n p inner) ≡ Err (BadPolicySize p)
  unfolding ◌>>=◌
  rule_unheaded e = rw e

  module _ (e : headed inner ≡ true) where
    pub rule_unguarded : (x : Refusal) → Err x ≡ piece_of (expect BadPolicyField 68 (p + 5) (drop (p + 5) h)) → one_bad (bad_rule n) (rule_field n p inner) ≡ Err x
    unfolding ◌>>=◌
    rule_unguarded x q =
        let k : expect BadPolicyField 68 (p + 5) (drop 2 inner) ≡ Err x = ap (expect BadPolicyField 68 (p + 5)) past_head ∙ not_here h 68 (p + 5) x q in
        rw (e, k)

    module _ (c : List ℕ) (m : ℕ) (w : Here h 68 (p + 5) c m) where
      guarded : expect BadPolicyField 68 (p + 5) (drop 2 inner) ≡ Ok (record { place = p + 5; contents = c; rest = drop m h })
      guarded = ap (expect BadPolicyField 68 (p + 5)) past_head ∙ w.met

      pub rule_missized : triples 1 32 c ≡ false → one_bad (bad_rule n) (rule_field n p inner) ≡ Err (BadPolicySize (p + 5))
      unfolding ◌>>=◌
      rule_missized t = rw (e, guarded, t)

      pub rule_rest : triples 1 32 c ≡ true →
          one_bad (bad_rule n) (rule_field n p inner)
          ≡ behind_guard (bad_expr n (arguments (moment_of (get_or inner 1 0))) (p + 5) c)
          (faulty (bad_update n (arguments (moment_of (get_or inner 1 0)))) None (fields 8 69 (update_field n) m (drop m h)))
      unfolding ◌>>=◌
      rule_rest t = rw (e, guarded, t, sym w.behind) (go (fields 8 69 (update_field n) m (drop m h)))
        where
          go : (r : Read (List Field)) →
              one_bad (bad_rule n) (r >>= (λ us. Ok (record { call = get_or inner 0 0; moment = moment_of (get_or inner 1 0); guard = record { place = p + 5; contents = c }; updates = us })))
              ≡ behind_guard (bad_expr n (arguments (moment_of (get_or inner 1 0))) (p + 5) c) (faulty (bad_update n (arguments (moment_of (get_or inner 1 0)))) None r)
          go (Ok us) = refl
          go (Err x) = refl

-- ---- how a file begins

module _ (f : List ℕ) where
  pub too_long : 65535 < length f → opened f ≡ Err (BadPolicyField 0)
  unfolding ◌>>=◌
  too_long l = rw (lt-leb (length f) 65535 l)

  module _ (l : length f ≤ 65535) where
    pub unheaded : (x : Refusal) → Err x ≡ piece_of (expect BadPolicyField 65 0 (drop 0 f)) → opened f ≡ Err x
    unfolding ◌>>=◌
    unheaded x e = rw (le-leb (length f) 65535 l, not_here f 65 0 x e)

    module _ (c : List ℕ) (m : ℕ) (w : Here f 65 0 c m) where
      pub misheaded : heading c ≡ false → opened f ≡ Err (BadPolicySize 0)
      unfolding ◌>>=◌
      misheaded t = rw (le-leb (length f) 65535 l, w.met, t)

      module _ (t : heading c ≡ true) where
        pub unstarted : (x : Refusal) → Err x ≡ piece_of (expect BadPolicyField 66 m (drop m f)) → opened f ≡ Err x
        unfolding ◌>>=◌
        unstarted x e = rw (le-leb (length f) 65535 l, w.met, t, sym w.behind, not_here f 66 m x e)

        module _ (d : List ℕ) (k : ℕ) (v : Here f 66 m d k) where
          pub misstarted : (length d ≡ 4 * get_or c 1 0 → ⊥) → opened f ≡ Err (BadPolicySize m)
          unfolding ◌>>=◌
          misstarted s = rw (le-leb (length f) 65535 l, w.met, t, sym w.behind, v.met, ne_eqb (length d) (4 * get_or c 1 0) s)

          pub started : length d ≡ 4 * get_or c 1 0 → opened f ≡ Ok (record { cells = get_or c 1 0; rules = k })
          unfolding ◌>>=◌
          started s = rw (le-leb (length f) 65535 l, w.met, t, sym w.behind, v.met, eq-eqb (length d) (4 * get_or c 1 0) s, sym v.behind)
