-- What is computed from the literals of an action is its operator in the translation.
use Rattle.std.proofs.Common.{◌≡◌, ℕ, suc, Bool, true, false, ◌&&◌, ◌||◌, not, cond, List, [], ◌∷◌, length, Option, Some, None, refl, sym, ap, ◌∙◌, arith, ⊎_elim, eqb}
use Rattle.std.specs.Prelude.{slice_get, option_and_then}
use Rattle.std.specs.List.{list_all, list_any, position_or_len}
use Rattle.std.specs.Option.{option_map, option_map_or}
use Rattle.std.proofs.lemmas.Bool.{and_parts, and_from, or_cases, or_left, or_right, eqb-true, eq-eqb, not-true, not_from_false, false_from_ne_true, both_ways}
use Rattle.fdr.specs.declared.fact.Fact.{Fact}
use Rattle.pddl_task.specs.Atoms.{Atom, State, Literal, same_atom, contains, at_most_one, wants, excludes, is_contradictory}
use Rattle.pddl_task.specs.Planning.{Vocabulary, Action}
use Rattle.pddl_task.proofs.Lists.{Mem, bool_same, mem_get, get_of_mem, all_at, all_from, any_at, any_from, none_at, position_below, common_first}
use Rattle.pddl_task.proofs.AtomLaws.{same_atom_true, same_atom_self, contains_mem, mem_contains, one_from, not_both, consistent_from}
use Rattle.mutex_index.specs.Groups.{removes}
use Rattle.translate_theory.specs.Names.{action_name}
use Rattle.translate_theory.specs.Translations.{Variable, condition_on, is_single, target_on, unless_equal, effect_on, facts, has_operator, operator_of}
use Rattle.translate_assembly.specs.declared.slot.Slot.{Slot}
use Rattle.translate_assembly.specs.Slots.{Lookup}
use Rattle.translate_assembly.specs.Facts.{are_from, value_at, has_fact}
use Rattle.translate_assembly.specs.Operators.{own_fact, none_fact, fact_of, wanted_fact, excluded_fact, condition_facts, agrees, removed_fact, target_facts, effect_facts, made_operator}
use Rattle.translate_assembly.proofs.FactLaws.{are_facts, filter_from, filter_value, kept_value}
use Rattle.translate_assembly.proofs.SlotLaws.{IsLookup}
use Rattle.translate_assembly.proofs.LayerLaws.{place_of_one, Names, Leaves, layers, layers_from, layers_facts}

map_some : {X Y : Type 0} (f : X → Y) (o : Option X) (y : Y) → option_map f o ≡ Some y → (x : X) × (o ≡ Some x) × (y ≡ f x)
map_some f None y e = cc e
map_some f (Some x) y e = let q : f x ≡ y = cc e in (x, refl, sym q)

module _ (vs : List Variable) (slots : Lookup) (ok : IsLookup vs slots) where
  -- two atoms of one variable with one value are one
  same_slot : (p q : Atom) (s t : Slot) → slots p ≡ Some s → slots q ≡ Some t → s.variable ≡ t.variable → s.value ≡ t.value → p ≡ q
  same_slot p q s t e g v x =
      let a = ok.sound p s e in
      let b = ok.sound q t g in
      let at : Some a.variable ≡ Some b.variable = sym a.here ∙ ap (slice_get vs) v ∙ b.here in
      let same : a.variable ≡ b.variable = cc at in
      let there : contains a.variable.atoms q ≡ true = ap (λ (v : Variable). contains v.atoms q) same ∙ b.there in
      let places : position_or_len (same_atom p) a.variable.atoms ≡ position_or_len (same_atom q) a.variable.atoms =
      sym a.value ∙ x ∙ b.value ∙ ap (λ (v : Variable). position_or_len (same_atom q) v.atoms) (sym same) in
      let w = common_first (same_atom p) (same_atom q) a.variable.atoms places there in
      same_atom_true p w.0 w.2 ∙ sym (same_atom_true q w.0 w.3)

  module _ (literals : List Literal) where
    abbrev named : List Fact
    named = condition_facts slots literals

    wanted_names : Names vs slots ok (wants literals) (λ v. excludes literals) (wanted_fact slots) literals
    wanted_names = record {
      sound = λ l f m e. sound l f m l.positive refl e;
      complete = λ p s t e.
          let w = any_at (λ (l : Literal). l.positive && same_atom p l.atom) literals t in
          let parts = and_parts w.0.positive (same_atom p w.0.atom) w.2 in
          let at : slots w.0.atom ≡ Some s = ap slots (sym (same_atom_true p w.0.atom parts.1)) ∙ e in
          (w.0, w.1, rw (parts.0, at) refl);
    }
      where
        sound : (l : Literal) (f : Fact) → Mem l literals → (b : Bool) → l.positive ≡ b → cond b (fact_of slots l.atom) None ≡ Some f
            → (p : Atom) × (s : Slot) × (wants literals p ≡ true) × (slots p ≡ Some s) × (f ≡ own_fact s)
        sound l f m true q e =
            let w = map_some own_fact (slots l.atom) f e in
            (l.atom, w.0, any_from (λ (k : Literal). k.positive && same_atom l.atom k.atom) literals l m (and_from _ _ q (same_atom_self l.atom)), w.1, w.2)
        sound l f m false q e = cc e

    excluded_leaves : Leaves vs slots ok (wants literals) (λ v. excludes literals) (excluded_fact slots) literals
    excluded_leaves = record {
      sound = λ l f m e. sound l f m l.positive refl e;
      complete = λ p s v e at t there count.
          let w = any_at (λ (l : Literal). not l.positive && same_atom p l.atom) literals t in
          let parts = and_parts (not w.0.positive) (same_atom p w.0.atom) w.2 in
          let at : slots w.0.atom ≡ Some s = ap slots (sym (same_atom_true p w.0.atom parts.1)) ∙ e in
          (w.0, w.1, rw (not-true w.0.positive parts.0, at) refl);
    }
      where
        sound : (l : Literal) (f : Fact) → Mem l literals → (b : Bool) → l.positive ≡ b → cond b None (option_map none_fact (slots l.atom)) ≡ Some f
            → (p : Atom) × (s : Slot) × (slots p ≡ Some s) × (f ≡ none_fact s)
            × ((v : Variable) → slice_get vs s.variable ≡ Some v → contains v.atoms p ≡ true → s.count ≡ length v.atoms → list_any (wants literals) v.atoms ≡ false → excludes literals p ≡ true)
        sound l f m true q e = cc e
        sound l f m false q e =
            let w = map_some none_fact (slots l.atom) f e in (
              l.atom,
              w.0,
              w.1,
              w.2,
              (λ v at there count free.
                  any_from (λ (k : Literal). not k.positive && same_atom l.atom k.atom) literals l m (and_from _ _ (not_from_false l.positive q) (same_atom_self l.atom))),
            )

    module _ (one : (v : Variable) → Mem v vs → at_most_one (wants literals) v.atoms ≡ true) where
      pub condition_is : named ≡ facts (condition_on literals) vs
      condition_is =
          layers_facts vs slots ok (wants literals) (λ v. excludes literals) (wanted_fact slots) literals (excluded_fact slots) literals wanted_names excluded_leaves one

      condition_at : (k : ℕ) → value_at named k ≡ option_and_then (condition_on literals) (slice_get vs k)
      condition_at =
          layers vs slots ok (wants literals) (λ v. excludes literals) (wanted_fact slots) literals (excluded_fact slots) literals wanted_names excluded_leaves one

      pub condition_from : are_from 0 named ≡ true
      condition_from =
          layers_from vs slots ok (wants literals) (λ v. excludes literals) (wanted_fact slots) literals (excluded_fact slots) literals wanted_names excluded_leaves one

      -- a fact on a variable's atom is among them where the atom is wanted
      pub tells : (p : Atom) (s : Slot) → slots p ≡ Some s → has_fact named (own_fact s) ≡ wants literals p
      tells p s e =
          let a = ok.sound p s e in
          let v = a.variable in
          let at : value_at named s.variable ≡ condition_on literals v = condition_at s.variable ∙ ap (option_and_then (condition_on literals)) a.here in
          let mem = mem_get vs s.variable v a.here in
          ap (λ (o : Option ℕ). option_map_or (λ x. eqb s.value x) o false) at
          ∙ bool_same (option_map_or (λ x. eqb s.value x) (condition_on literals v) false) (wants literals p)
          (λ h. forth v a.there a.value (list_any (wants literals) v.atoms) (list_any (excludes literals) v.atoms) refl h)
          (λ h.
          let some : list_any (wants literals) v.atoms ≡ true = any_from (wants literals) v.atoms p (contains_mem v.atoms p a.there) h in
          let place : s.value ≡ position_or_len (wants literals) v.atoms = a.value ∙ sym (place_of_one (wants literals) v.atoms p (one v mem) a.there h) in
          rw some (eq-eqb s.value (position_or_len (wants literals) v.atoms) place))
        where
          forth : (v : Variable) → contains v.atoms p ≡ true → s.value ≡ position_or_len (same_atom p) v.atoms → (b c : Bool) → list_any (wants literals) v.atoms ≡ b
              → option_map_or (λ x. eqb s.value x) (cond b (Some (position_or_len (wants literals) v.atoms)) (cond c (Some (length v.atoms)) None)) false ≡ true → wants literals p ≡ true
          forth v there value true c q h =
              let same : s.value ≡ position_or_len (wants literals) v.atoms = eqb-true s.value (position_or_len (wants literals) v.atoms) h in
              let w = common_first (wants literals) (same_atom p) v.atoms (sym same ∙ value) there in
              let x : p ≡ w.0 = same_atom_true p w.0 w.3 in rw x w.2
          forth v there value false true q h =
              let same : s.value ≡ length v.atoms = eqb-true s.value (length v.atoms) h in
              absurd (omega (arith, same, value, position_below (same_atom p) v.atoms there))
          forth v there value false false q h = cc h

    -- the literals agree with what they name where at most one of each variable is wanted, and none that is excluded
    module _ (inside : (p : Atom) → wants literals p ≡ true → excludes literals p ≡ true → (s : Slot) × (slots p ≡ Some s)) where
      agree_at : list_all (agrees slots named) literals ≡ true → (l : Literal) → Mem l literals → (s : Slot) → slots l.atom ≡ Some s
          → cond l.positive (has_fact named (own_fact s)) (not (has_fact named (own_fact s))) ≡ true
      agree_at h l m s e =
          let w = all_at (agrees slots named) literals l h m in
          ap (λ (o : Option Slot). option_map_or (λ f. cond l.positive (has_fact named f) (not (has_fact named f))) (option_map own_fact o) true) (sym e) ∙ w

      wanted_there : list_all (agrees slots named) literals ≡ true → (p : Atom) (s : Slot) → wants literals p ≡ true → slots p ≡ Some s → has_fact named (own_fact s) ≡ true
      wanted_there h p s t e =
          let w = any_at (λ (l : Literal). l.positive && same_atom p l.atom) literals t in
          let parts = and_parts w.0.positive (same_atom p w.0.atom) w.2 in
          let at : slots w.0.atom ≡ Some s = ap slots (sym (same_atom_true p w.0.atom parts.1)) ∙ e in
          sym (ap (λ (b : Bool). cond b (has_fact named (own_fact s)) (not (has_fact named (own_fact s)))) parts.0) ∙ agree_at h w.0 w.1 s at

      excluded_out : list_all (agrees slots named) literals ≡ true → (p : Atom) (s : Slot) → excludes literals p ≡ true → slots p ≡ Some s → has_fact named (own_fact s) ≡ false
      excluded_out h p s t e =
          let w = any_at (λ (l : Literal). not l.positive && same_atom p l.atom) literals t in
          let parts = and_parts (not w.0.positive) (same_atom p w.0.atom) w.2 in
          let at : slots w.0.atom ≡ Some s = ap slots (sym (same_atom_true p w.0.atom parts.1)) ∙ e in
          not-true (has_fact named (own_fact s))
          (sym (ap (λ (b : Bool). cond b (has_fact named (own_fact s)) (not (has_fact named (own_fact s)))) (not-true w.0.positive parts.0)) ∙ agree_at h w.0 w.1 s at)

      has_value : (s : Slot) → has_fact named (own_fact s) ≡ true → value_at named s.variable ≡ Some s.value
      has_value s h = go (value_at named s.variable) refl h
        where
          go : (o : Option ℕ) → value_at named s.variable ≡ o → option_map_or (λ x. eqb s.value x) o false ≡ true → value_at named s.variable ≡ Some s.value
          go None e h = cc h
          go (Some x) e h = e ∙ ap Some (sym (eqb-true s.value x h))

      one_wanted : list_all (agrees slots named) literals ≡ true → (v : Variable) → Mem v vs → at_most_one (wants literals) v.atoms ≡ true
      one_wanted h v m =
          let k = get_of_mem vs v m in
          one_from (wants literals) v.atoms (λ p q mp mq tp tq.
          let s = ok.complete p k.0 v k.1 (mem_contains v.atoms p mp) in
          let t = ok.complete q k.0 v k.1 (mem_contains v.atoms q mq) in
          let variable : s.0.variable ≡ t.0.variable = s.2 ∙ sym t.2 in
          let a = has_value s.0 (wanted_there h p s.0 tp s.1) in
          let b = has_value t.0 (wanted_there h q t.0 tq t.1) in
          let both : Some s.0.value ≡ Some t.0.value = sym a ∙ ap (value_at named) variable ∙ b in
          let value : s.0.value ≡ t.0.value = cc both in
          same_slot p q s.0 t.0 s.1 t.1 variable value)

      pub agreement : list_all (agrees slots named) literals ≡ (not (is_contradictory literals) && list_all (λ v. at_most_one (wants literals) v.atoms) vs)
      agreement =
          bool_same (list_all (agrees slots named) literals) (not (is_contradictory literals) && list_all (λ v. at_most_one (wants literals) v.atoms) vs)
          (λ h. and_from _ _
          (not_from_false (is_contradictory literals) (consistent_from literals (λ p w x.
          let s = inside p w x in
          both_ways (has_fact named (own_fact s.0)) (excluded_out h p s.0 x s.1) (wanted_there h p s.0 w s.1))))
          (all_from (λ v. at_most_one (wants literals) v.atoms) vs (λ v m. one_wanted h v m)))
          (λ h.
          let parts = and_parts (not (is_contradictory literals)) (list_all (λ v. at_most_one (wants literals) v.atoms) vs) h in
          let one = (λ (v : Variable) (m : Mem v vs). all_at (λ v. at_most_one (wants literals) v.atoms) vs v parts.1 m) in
          all_from (agrees slots named) literals (λ l m. each (not-true (is_contradictory literals) parts.0) one l m (slots l.atom) refl l.positive refl))
        where
          each : is_contradictory literals ≡ false → ((v : Variable) → Mem v vs → at_most_one (wants literals) v.atoms ≡ true) → (l : Literal) → Mem l literals
              → (o : Option Slot) → slots l.atom ≡ o → (b : Bool) → l.positive ≡ b
              → option_map_or (λ f. cond b (has_fact named f) (not (has_fact named f))) (option_map own_fact o) true ≡ true
          each free one l m None e b q = refl
          each free one l m (Some s) e true q =
              tells one l.atom s e ∙ any_from (λ (k : Literal). k.positive && same_atom l.atom k.atom) literals l m (and_from _ _ q (same_atom_self l.atom))
          each free one l m (Some s) e false q =
              not_from_false (has_fact named (own_fact s)) (tells one l.atom s e ∙ false_from_ne_true (wants literals l.atom) (λ w.
              not_both literals l.atom free w (any_from (λ (k : Literal). not k.positive && same_atom l.atom k.atom) literals l m (and_from _ _ (not_from_false l.positive q) (same_atom_self l.atom)))))

  module _ (a : Action) (one : (v : Variable) → Mem v vs → at_most_one (wants a.precondition) v.atoms ≡ true)
      (adds : (v : Variable) → Mem v vs → at_most_one (contains a.adds) v.atoms ≡ true) where
    abbrev condition : List Fact
    condition = condition_facts slots a.precondition

    abbrev gone : Variable → State
    gone v p = removes a p && (wants a.precondition p || is_single v.atoms)

    added_names : Names vs slots ok (contains a.adds) gone (fact_of slots) a.adds
    added_names = record {
      sound = λ p f m e. let w = map_some own_fact (slots p) f e in (p, w.0, mem_contains a.adds p m, w.1, w.2);
      complete = λ p s t e. (p, contains_mem a.adds p t, ap (option_map own_fact) e);
    }

    single_count : (atoms : List Atom) → is_single atoms ≡ eqb (length atoms) 1
    single_count [] = refl
    single_count (p ∷ []) = refl
    single_count (p ∷ q ∷ rest) = sym (false_from_ne_true (eqb (suc (suc (length rest))) 1) (λ e. omega (arith, eqb-true (suc (suc (length rest))) 1 e)))

    removed_leaves : Leaves vs slots ok (contains a.adds) gone (removed_fact slots condition) a.deletes
    removed_leaves = record {
      sound = λ p f m e. sound p f m (slots p) refl e;
      complete = λ p s v e at t there count.
          let parts = and_parts (removes a p) (wants a.precondition p || is_single v.atoms) t in
          let deleted = (and_parts (contains a.deletes p) (not (contains a.adds p)) parts.0).0 in
          let test : (eqb s.count 1 || has_fact condition (own_fact s)) ≡ true = ⊎_elim
          (λ w. or_right (eqb s.count 1) (has_fact condition (own_fact s)) (tells a.precondition one p s e ∙ w))
          (λ w. or_left (eqb s.count 1) (has_fact condition (own_fact s)) (ap (λ n. eqb n 1) count ∙ sym (single_count v.atoms) ∙ w))
          (or_cases (wants a.precondition p) (is_single v.atoms) parts.1) in
          (p, contains_mem a.deletes p deleted, rw (e, test) refl);
    }
      where
        sound : (p : Atom) (f : Fact) → Mem p a.deletes → (o : Option Slot) → slots p ≡ o
            → option_and_then (λ s. cond (eqb s.count 1 || has_fact condition (own_fact s)) (Some (none_fact s)) None) o ≡ Some f
            → (q : Atom) × (s : Slot) × (slots q ≡ Some s) × (f ≡ none_fact s)
            × ((v : Variable) → slice_get vs s.variable ≡ Some v → contains v.atoms q ≡ true → s.count ≡ length v.atoms → list_any (contains a.adds) v.atoms ≡ false → gone v q ≡ true)
        sound p f m None q e = cc e
        sound p f m (Some s) q e = go (eqb s.count 1 || has_fact condition (own_fact s)) refl e
          where
            go : (b : Bool) → (eqb s.count 1 || has_fact condition (own_fact s)) ≡ b → cond b (Some (none_fact s)) None ≡ Some f
                → (q : Atom) × (s : Slot) × (slots q ≡ Some s) × (f ≡ none_fact s)
                × ((v : Variable) → slice_get vs s.variable ≡ Some v → contains v.atoms q ≡ true → s.count ≡ length v.atoms → list_any (contains a.adds) v.atoms ≡ false → gone v q ≡ true)
            go false t e = cc e
            go true t e =
                let same : none_fact s ≡ f = cc e in (
                  p,
                  s,
                  q,
                  sym same,
                  (λ v at there count free.
                      and_from (removes a p) (wants a.precondition p || is_single v.atoms)
                      (and_from (contains a.deletes p) (not (contains a.adds p)) (mem_contains a.deletes p m)
                      (not_from_false (contains a.adds p) (none_at (contains a.adds) v.atoms p free (contains_mem v.atoms p there))))
                      (⊎_elim
                      (λ w. or_right (wants a.precondition p) (is_single v.atoms) (single_count v.atoms ∙ ap (λ n. eqb n 1) (sym count) ∙ w))
                      (λ w. or_left (wants a.precondition p) (is_single v.atoms) (sym (tells a.precondition one p s q) ∙ w))
                      (or_cases (eqb s.count 1) (has_fact condition (own_fact s)) t))),
                )

    target_at : (k : ℕ) → value_at (target_facts slots condition a) k ≡ option_and_then (target_on a) (slice_get vs k)
    target_at = layers vs slots ok (contains a.adds) gone (fact_of slots) a.adds (removed_fact slots condition) a.deletes added_names removed_leaves adds

    target_from : are_from 0 (target_facts slots condition a) ≡ true
    target_from = layers_from vs slots ok (contains a.adds) gone (fact_of slots) a.adds (removed_fact slots condition) a.deletes added_names removed_leaves adds

    pub effect_is : effect_facts slots condition a ≡ facts (effect_on a) vs
    effect_is =
        are_facts (effect_on a) vs (effect_facts slots condition a)
        (filter_from (λ f. not (has_fact condition f)) 0 (target_facts slots condition a) target_from)
        (λ k. filter_value (λ f. not (has_fact condition f)) 0 (target_facts slots condition a) k target_from
        ∙ ap (option_and_then (kept_value (λ f. not (has_fact condition f)) k)) (target_at k)
        ∙ at k (slice_get vs k) refl)
      where
        differs : (t c : Option ℕ) → option_and_then (λ x. cond (not (option_map_or (λ y. eqb x y) c false)) (Some x) None) t ≡ unless_equal t c
        differs None c = refl
        differs (Some x) None = refl
        differs (Some x) (Some y) = go (eqb x y)
          where
            go : (b : Bool) → cond (not b) (Some x) None ≡ cond b None (Some x)
            go true = refl
            go false = refl

        at : (k : ℕ) (o : Option Variable) → slice_get vs k ≡ o
            → option_and_then (kept_value (λ f. not (has_fact condition f)) k) (option_and_then (target_on a) o) ≡ option_and_then (effect_on a) o
        at k None e = refl
        at k (Some v) e =
            let is : value_at condition k ≡ condition_on a.precondition v = condition_at a.precondition one k ∙ ap (option_and_then (condition_on a.precondition)) e in
            ap (λ (c : Option ℕ). option_and_then (λ x. cond (not (option_map_or (λ y. eqb x y) c false)) (Some x) None) (target_on a v)) is
            ∙ differs (target_on a v) (condition_on a.precondition v)

  -- the operator
  pub operator_is : (names : Vocabulary) (a : Action) → ((p : Atom) → wants a.precondition p ≡ true → excludes a.precondition p ≡ true → (s : Slot) × (slots p ≡ Some s))
      → ((v : Variable) → Mem v vs → at_most_one (contains a.adds) v.atoms ≡ true)
      → made_operator slots names a ≡ cond (has_operator vs a) (Some (operator_of names vs a)) None
  operator_is names a inside adds =
      rw (agreement a.precondition inside) (go (has_operator vs a) refl)
    where
      go : (b : Bool) → has_operator vs a ≡ b
          → cond b (Some (record {
            name = action_name names a;
            precondition = condition_facts slots a.precondition;
            effect = effect_facts slots (condition_facts slots a.precondition) a;
            cost = a.cost;
          })) None ≡ cond b (Some (operator_of names vs a)) None
      go false e = refl
      go true e =
          let parts = and_parts (not (is_contradictory a.precondition)) (list_all (λ v. at_most_one (wants a.precondition) v.atoms) vs) e in
          let one = (λ (v : Variable) (m : Mem v vs). all_at (λ v. at_most_one (wants a.precondition) v.atoms) vs v parts.1 m) in
          let before = condition_is a.precondition one in
          let after = effect_is a one adds in
          λ i. Some (record { name = action_name names a; precondition = before i; effect = after i; cost = a.cost })
