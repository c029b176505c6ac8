-- The changes by one fact more.
use Rattle.std.proofs.Common.{◌≡◌, ℕ, zero, suc, ◌*◌, ◌<◌, ◌≤◌, Bool, true, false, List, [], ◌∷◌, ◌++◌, length, map, get_or, set, refl, sym, ap, ◌∙◌, arith, eqb, eq-eqb, ne_eqb, Option, Some, None, ⊎_elim}
use Rattle.std.specs.Prelude.{All, slice_index}
use Rattle.std.proofs.lemmas.Bool.{cases_eq, cases_lt}
use Rattle.std.proofs.lemmas.List.{length-map, length-set, get_or-set_same, get_or-set_other, get_or-map, map-append, same_lists}
use Rattle.std.proofs.lemmas.List.Kept.{AllPairs-from_increasing}
use Rattle.std.specs.List.Sorted.{IsStrictlyIncreasing}
use Rattle.fdr.specs.declared.fact.Fact.{Fact}
use Rattle.abstraction.specs.declared.digit.Digit.{Digit}
use Rattle.abstraction.specs.Digits.{digits_from}
use Rattle.abstraction.specs.Facts.{value_in}
use Rattle.abstraction_groups.specs.declared.change.Change.{Change}
use Rattle.abstraction_groups.specs.declared.change.Change.TheVariants.{Kept}
use Rattle.abstraction_groups.specs.Changes.{change_by, with_condition, with_effect, plain, plain_all}
use Rattle.abstraction_groups.specs.Factors.{Factors, class_fact, changes_by, digits_of}

-- the value so far, or else the value of one fact more
abbrev or_else : Option ℕ → ℕ → Option ℕ
or_else None x = Some x
or_else (Some y) x = Some y

value_same : (fs : List Fact) (f : Fact) (v : ℕ) → f.variable ≡ v → value_in (fs ++ f ∷ []) v ≡ or_else (value_in fs v) f.value
value_same [] f v e = rw (eq-eqb f.variable v e) refl
value_same (g ∷ fs) f v e = go (eqb g.variable v) refl (value_same fs f v e)
  where
    go : (b : Bool) → eqb g.variable v ≡ b → value_in (fs ++ f ∷ []) v ≡ or_else (value_in fs v) f.value → value_in (g ∷ (fs ++ f ∷ [])) v ≡ or_else (value_in (g ∷ fs) v) f.value
    go true q rest = rw (q) refl
    go false q rest = rw (q) rest

value_other : (fs : List Fact) (f : Fact) (v : ℕ) → (f.variable ≡ v → ⊥) → value_in (fs ++ f ∷ []) v ≡ value_in fs v
value_other [] f v ne = rw (ne_eqb f.variable v ne) refl
value_other (g ∷ fs) f v ne = go (eqb g.variable v) refl (value_other fs f v ne)
  where
    go : (b : Bool) → eqb g.variable v ≡ b → value_in (fs ++ f ∷ []) v ≡ value_in fs v → value_in (g ∷ (fs ++ f ∷ [])) v ≡ value_in (g ∷ fs) v
    go true q rest = rw (q) refl
    go false q rest = rw (q) rest

condition_added : (o : Option ℕ) (x : ℕ) → with_condition (change_by o None) x ≡ change_by (or_else o x) None
condition_added None x = refl
condition_added (Some c) x = refl

effect_added : (p o : Option ℕ) (x : ℕ) → with_effect (change_by p o) x ≡ change_by p (or_else o x)
effect_added None None x = refl
effect_added (Some c) None x = refl
effect_added None (Some e) x = refl
effect_added (Some c) (Some e) x = refl

-- strictly increasing numbers at two indices differ
apart : (xs : List ℕ) (m k : ℕ) → IsStrictlyIncreasing xs → m < length xs → k < length xs → get_or xs m 0 ≡ get_or xs k 0 → m ≡ k
apart xs m k rising l h e =
    ⊎_elim (λ (q : m < k). let less = AllPairs-from_increasing xs rising m k 0 q h in absurd (omega arith))
    (λ (q : k ≤ m). ⊎_elim (λ (r : k < m). let less = AllPairs-from_increasing xs rising k m 0 r l in absurd (omega arith)) (λ (r : m ≤ k). omega arith) (cases_lt k m))
    (cases_lt m k)

module _ (f : Factors) where
  changes_at : (condition effect : List Fact) (k : ℕ) (d : Change) → k < length f.variables →
      get_or (changes_by f condition effect) k d ≡ change_by (value_in (map (class_fact f) condition) (get_or f.variables k 0)) (value_in (map (class_fact f) effect) (get_or f.variables k 0))
  changes_at condition effect k d l = get_or-map (λ v. change_by (value_in (map (class_fact f) condition) v) (value_in (map (class_fact f) effect) v)) f.variables k 0 d l

  pub length-changes : (condition effect : List Fact) → length (changes_by f condition effect) ≡ length f.variables
  length-changes condition effect = length-map f.variables _

  classes_push : (fs : List Fact) (x : Fact) → map (class_fact f) (fs ++ x ∷ []) ≡ map (class_fact f) fs ++ class_fact f x ∷ []
  classes_push fs x = map-append (class_fact f) fs (x ∷ [])

  -- a fact on a variable adds to its change alone
  pub condition_more : IsStrictlyIncreasing f.variables → (fs : List Fact) (x : Fact) (k class : ℕ) → k < length f.variables → get_or f.variables k 0 ≡ x.variable → class ≡ f.class x.variable x.value →
      (d : Change) → set (changes_by f fs []) k (with_condition (get_or (changes_by f fs []) k d) class) ≡ changes_by f (fs ++ x ∷ []) []
  condition_more rising fs x k class l at is d =
      same_lists (set (changes_by f fs []) k (with_condition (get_or (changes_by f fs []) k d) class)) (changes_by f (fs ++ x ∷ []) [])
      (length-set (changes_by f fs []) k (with_condition (get_or (changes_by f fs []) k d) class) ∙ length-changes fs [] ∙ sym (length-changes (fs ++ x ∷ []) []))
      (λ m e lm. let short : m < length f.variables = omega (arith, length-set (changes_by f fs []) k (with_condition (get_or (changes_by f fs []) k d) class), length-changes fs []) in
      ⊎_elim (here m e short) (there m e short) (cases_eq m k))
    where
      here : (m : ℕ) (e : Change) → m < length f.variables → m ≡ k → get_or (set (changes_by f fs []) k (with_condition (get_or (changes_by f fs []) k d) class)) m e ≡ get_or (changes_by f (fs ++ x ∷ []) []) m e
      here m e short q =
          let v : get_or f.variables m 0 ≡ x.variable = ap (λ (j : ℕ). get_or f.variables j 0) q ∙ at in
          ap (λ (j : ℕ). get_or (set (changes_by f fs []) k (with_condition (get_or (changes_by f fs []) k d) class)) j e) q
          ∙ get_or-set_same (changes_by f fs []) k (with_condition (get_or (changes_by f fs []) k d) class) e (omega (arith, length-changes fs []))
          ∙ ap (λ (c : Change). with_condition c class) (ap (λ (j : ℕ). get_or (changes_by f fs []) j d) (sym q) ∙ changes_at fs [] m d short)
          ∙ condition_added (value_in (map (class_fact f) fs) (get_or f.variables m 0)) class
          ∙ ap (λ (o : Option ℕ). change_by o None) (ap (or_else (value_in (map (class_fact f) fs) (get_or f.variables m 0))) is
          ∙ sym (value_same (map (class_fact f) fs) (class_fact f x) (get_or f.variables m 0) (sym v)) ∙ ap (λ (xs : List Fact). value_in xs (get_or f.variables m 0)) (sym (classes_push fs x)))
          ∙ sym (changes_at (fs ++ x ∷ []) [] m e short)

      there : (m : ℕ) (e : Change) → m < length f.variables → (m ≡ k → ⊥) → get_or (set (changes_by f fs []) k (with_condition (get_or (changes_by f fs []) k d) class)) m e ≡ get_or (changes_by f (fs ++ x ∷ []) []) m e
      there m e short ne =
          let other : x.variable ≡ get_or f.variables m 0 → ⊥ = λ q. ne (apart f.variables m k rising short l (sym q ∙ sym at)) in
          get_or-set_other (changes_by f fs []) k m (with_condition (get_or (changes_by f fs []) k d) class) e ne ∙ changes_at fs [] m e short
          ∙ ap (λ (o : Option ℕ). change_by o None) (sym (value_other (map (class_fact f) fs) (class_fact f x) (get_or f.variables m 0) other) ∙ ap (λ (xs : List Fact). value_in xs (get_or f.variables m 0)) (sym (classes_push fs x)))
          ∙ sym (changes_at (fs ++ x ∷ []) [] m e short)

  pub condition_absent : (fs : List Fact) (x : Fact) → All (λ v. v ≡ x.variable → ⊥) f.variables → changes_by f fs [] ≡ changes_by f (fs ++ x ∷ []) []
  condition_absent fs x none =
      same_lists (changes_by f fs []) (changes_by f (fs ++ x ∷ []) []) (length-changes fs [] ∙ sym (length-changes (fs ++ x ∷ []) []))
      (λ m e lm. let short : m < length f.variables = omega (arith, length-changes fs []) in
      let other : x.variable ≡ get_or f.variables m 0 → ⊥ = λ q. none m 0 short (sym q) in
      changes_at fs [] m e short
      ∙ ap (λ (o : Option ℕ). change_by o None) (sym (value_other (map (class_fact f) fs) (class_fact f x) (get_or f.variables m 0) other) ∙ ap (λ (xs : List Fact). value_in xs (get_or f.variables m 0)) (sym (classes_push fs x)))
      ∙ sym (changes_at (fs ++ x ∷ []) [] m e short))

  pub effect_more : IsStrictlyIncreasing f.variables → (pre fs : List Fact) (x : Fact) (k class : ℕ) → k < length f.variables → get_or f.variables k 0 ≡ x.variable → class ≡ f.class x.variable x.value →
      (d : Change) → set (changes_by f pre fs) k (with_effect (get_or (changes_by f pre fs) k d) class) ≡ changes_by f pre (fs ++ x ∷ [])
  effect_more rising pre fs x k class l at is d =
      same_lists (set (changes_by f pre fs) k (with_effect (get_or (changes_by f pre fs) k d) class)) (changes_by f pre (fs ++ x ∷ []))
      (length-set (changes_by f pre fs) k (with_effect (get_or (changes_by f pre fs) k d) class) ∙ length-changes pre fs ∙ sym (length-changes pre (fs ++ x ∷ [])))
      (λ m e lm. let short : m < length f.variables = omega (arith, length-set (changes_by f pre fs) k (with_effect (get_or (changes_by f pre fs) k d) class), length-changes pre fs) in
      ⊎_elim (here m e short) (there m e short) (cases_eq m k))
    where
      here : (m : ℕ) (e : Change) → m < length f.variables → m ≡ k → get_or (set (changes_by f pre fs) k (with_effect (get_or (changes_by f pre fs) k d) class)) m e ≡ get_or (changes_by f pre (fs ++ x ∷ [])) m e
      here m e short q =
          let v : get_or f.variables m 0 ≡ x.variable = ap (λ (j : ℕ). get_or f.variables j 0) q ∙ at in
          ap (λ (j : ℕ). get_or (set (changes_by f pre fs) k (with_effect (get_or (changes_by f pre fs) k d) class)) j e) q
          ∙ get_or-set_same (changes_by f pre fs) k (with_effect (get_or (changes_by f pre fs) k d) class) e (omega (arith, length-changes pre fs))
          ∙ ap (λ (c : Change). with_effect c class) (ap (λ (j : ℕ). get_or (changes_by f pre fs) j d) (sym q) ∙ changes_at pre fs m d short)
          ∙ effect_added (value_in (map (class_fact f) pre) (get_or f.variables m 0)) (value_in (map (class_fact f) fs) (get_or f.variables m 0)) class
          ∙ ap (λ (o : Option ℕ). change_by (value_in (map (class_fact f) pre) (get_or f.variables m 0)) o) (ap (or_else (value_in (map (class_fact f) fs) (get_or f.variables m 0))) is
          ∙ sym (value_same (map (class_fact f) fs) (class_fact f x) (get_or f.variables m 0) (sym v)) ∙ ap (λ (xs : List Fact). value_in xs (get_or f.variables m 0)) (sym (classes_push fs x)))
          ∙ sym (changes_at pre (fs ++ x ∷ []) m e short)

      there : (m : ℕ) (e : Change) → m < length f.variables → (m ≡ k → ⊥) → get_or (set (changes_by f pre fs) k (with_effect (get_or (changes_by f pre fs) k d) class)) m e ≡ get_or (changes_by f pre (fs ++ x ∷ [])) m e
      there m e short ne =
          let other : x.variable ≡ get_or f.variables m 0 → ⊥ = λ q. ne (apart f.variables m k rising short l (sym q ∙ sym at)) in
          get_or-set_other (changes_by f pre fs) k m (with_effect (get_or (changes_by f pre fs) k d) class) e ne ∙ changes_at pre fs m e short
          ∙ ap (λ (o : Option ℕ). change_by (value_in (map (class_fact f) pre) (get_or f.variables m 0)) o) (sym (value_other (map (class_fact f) fs) (class_fact f x) (get_or f.variables m 0) other) ∙ ap (λ (xs : List Fact). value_in xs (get_or f.variables m 0)) (sym (classes_push fs x)))
          ∙ sym (changes_at pre (fs ++ x ∷ []) m e short)

  pub effect_absent : (pre fs : List Fact) (x : Fact) → All (λ v. v ≡ x.variable → ⊥) f.variables → changes_by f pre fs ≡ changes_by f pre (fs ++ x ∷ [])
  effect_absent pre fs x none =
      same_lists (changes_by f pre fs) (changes_by f pre (fs ++ x ∷ [])) (length-changes pre fs ∙ sym (length-changes pre (fs ++ x ∷ [])))
      (λ m e lm. let short : m < length f.variables = omega (arith, length-changes pre fs) in
      let other : x.variable ≡ get_or f.variables m 0 → ⊥ = λ q. none m 0 short (sym q) in
      changes_at pre fs m e short
      ∙ ap (λ (o : Option ℕ). change_by (value_in (map (class_fact f) pre) (get_or f.variables m 0)) o) (sym (value_other (map (class_fact f) fs) (class_fact f x) (get_or f.variables m 0) other) ∙ ap (λ (xs : List Fact). value_in xs (get_or f.variables m 0)) (sym (classes_push fs x)))
      ∙ sym (changes_at pre (fs ++ x ∷ []) m e short))

  -- the plain changes
  plain_whole_from : (w : ℕ) (vs : List ℕ) (h : ℕ → Change) → plain_all (digits_from f.counts w vs) (map h vs) ≡ map (λ v. plain (slice_index f.counts v) (h v)) vs
  plain_whole_from w [] h = refl
  plain_whole_from w (v ∷ vs) h = ap (λ (cs : List Change). plain (slice_index f.counts v) (h v) ∷ cs) (plain_whole_from (w * slice_index f.counts v) vs h)

  pub plain_whole : (h : ℕ → Change) → plain_all (digits_from f.counts 1 f.variables) (map h f.variables) ≡ map (λ v. plain (slice_index f.counts v) (h v)) f.variables
  plain_whole h = plain_whole_from 1 f.variables h

  pub cleared : (changes : List Change) → length changes ≡ length f.variables → ((k : ℕ) (d : Change) → k < length changes → get_or changes k d ≡ Kept) → changes ≡ changes_by f [] []
  cleared changes long all = same_lists changes (changes_by f [] []) (long ∙ sym (length-changes [] [])) (λ m d l. all m d l ∙ sym (changes_at [] [] m d (omega arith)))

pub plain_at_place : (ds : List Digit) (cs : List Change) (k : ℕ) (d : Digit) (c : Change) → length ds ≡ length cs → k < length cs → get_or (plain_all ds cs) k c ≡ plain (get_or ds k d).range (get_or cs k c)
plain_at_place [] cs k d c e l = absurd (omega arith)
plain_at_place (x ∷ ds) [] k d c e l = absurd (omega arith)
plain_at_place (x ∷ ds) (y ∷ cs) zero d c e l = refl
plain_at_place (x ∷ ds) (y ∷ cs) (suc k) d c e l = plain_at_place ds cs k d c (omega arith) (omega arith)

pub length-plain : (ds : List Digit) (cs : List Change) → length ds ≡ length cs → length (plain_all ds cs) ≡ length cs
length-plain [] [] e = refl
length-plain [] (c ∷ cs) e = absurd (omega arith)
length-plain (d ∷ ds) [] e = absurd (omega arith)
length-plain (d ∷ ds) (c ∷ cs) e = let rest = length-plain ds cs (omega arith) in omega arith

length-digits_from : (rs : List ℕ) (w : ℕ) (ps : List ℕ) → length (digits_from rs w ps) ≡ length ps
length-digits_from rs w [] = refl
length-digits_from rs w (p ∷ ps) = let rest = length-digits_from rs (w * slice_index rs p) ps in omega arith

pub length-digits : (f : Factors) → length (digits_of f) ≡ length f.variables
length-digits f = length-digits_from f.counts 1 f.variables
