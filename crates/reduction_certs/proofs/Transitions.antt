-- Abstract transitions of operators: equal operators have the same, and one that leaves states leaves abstract states.
use Rattle.std.proofs.Common.{◌≡◌, ℕ, ◌/◌, ◌%◌, ◌<◌, ◌≤◌, Bool, true, false, List, [], ◌∷◌, map, get_or, Option, Some, None, refl, sym, ap, subst, ◌∙◌, arith, cond, eqb, inl, inr, ⊎_elim}
use Rattle.std.specs.Prelude.{All, Contains, IfSome, unwrap_or, slice_index}
use Rattle.std.specs.List.{list_all}
use Rattle.std.proofs.lemmas.Bool.{eqb-true, eq-eqb}
use Rattle.std.proofs.lemmas.Nat.{mod_below}
use Rattle.std.proofs.lemmas.List.Elements.{All-head, All-tail, All-map, All-contains}
use Rattle.fdr.specs.declared.fact.Fact.{Fact}
use Rattle.fdr.specs.Tasks.{Operator, IsOperator, IsAssignment, IsInRange, are_distinct}
use Rattle.abstraction.specs.Projections.{size_of, agrees, value_after, index_after, transition_of}
use Rattle.abstraction.proofs.DigitLaws.{Rising}
use Rattle.abstraction.proofs.FactLaws.{effect_gives}
use Rattle.abstraction_domain.specs.Rows.{Row, class_count, AreNumbered}
use Rattle.abstraction_domain.specs.Domains.{variables, class_counts, class_fact, class_facts, class_operator, IsFit}
use Rattle.abstraction_domain.specs.DomainLaws.{count_of, read_counts, class_in_range, class_assignment}
use Rattle.checker_tables.proofs.UntriedOperators.{index_stays}
use Rattle.reduction_classes.proofs.Limits.{count_within}
use Rattle.reduction.specs.Retained.{SameFacts}
use Rattle.reduction.specs.Represented.{IsGiven, LeavesStates}
use Rattle.reduction.proofs.Members.{all_at, all_from, Contains-here, Contains-there, Contains-cases, none_in}
use Rattle.reduction.proofs.FactLists.{same_values}

-- ---- equal operators

-- two tests with the same outcome
pub same_test : (a b : Bool) → (a ≡ true → b ≡ true) → (b ≡ true → a ≡ true) → a ≡ b
same_test true b f g = sym (f refl)
same_test false true f g = g refl
same_test false false f g = refl

pub same_all : (p : Fact → Bool) (xs ys : List Fact) → SameFacts xs ys → list_all p xs ≡ list_all p ys
same_all p xs ys same =
    same_test (list_all p xs) (list_all p ys) (λ h. all_from p ys (λ f c. all_at p xs f h ((same f).1 c))) (λ h. all_from p xs (λ f c. all_at p ys f h ((same f).0 c)))

module _ (rs : List ℕ) where
  index_same : (ps : List ℕ) (i : ℕ) (xs ys : List Fact) → ((v x : ℕ) → value_after xs v x ≡ value_after ys v x) → index_after rs ps i xs ≡ index_after rs ps i ys
  index_same [] i xs ys e = refl
  index_same (p ∷ ps) i xs ys e = rw (e p (i % slice_index rs p), index_same ps (i / slice_index rs p) xs ys e) refl

  -- equal operators have the same transitions
  pub transition_same : (ps : List ℕ) (i : ℕ) (a b : Operator) → SameFacts a.precondition b.precondition → SameFacts a.effect b.effect → are_distinct a.effect ≡ true → are_distinct b.effect ≡ true →
      transition_of rs ps i a ≡ transition_of rs ps i b
  transition_same ps i a b conditions effects da db =
      rw (
        same_all (agrees rs ps i) a.precondition b.precondition conditions,
        index_same ps i a.effect b.effect (λ v x. effect_gives v x a.effect da ∙ ap (λ (r : Option ℕ). unwrap_or r x) (same_values a.effect b.effect v da db effects) ∙ sym (effect_gives v x b.effect db)),
      )
      refl

-- the images of the same facts are the same
of_map : {X Y : Type 0} (f : X → Y) (xs : List X) (y : Y) → Contains (map f xs) y → (x : X) × Contains xs x × (f x ≡ y)
of_map f [] y c = absurd (none_in y c)
of_map f (x ∷ xs) y c =
    ⊎_elim (λ (e : f x ≡ y). (x, Contains-here x xs, e)) (λ (d : Contains (map f xs) y). let rest = of_map f xs y d in (rest.0, Contains-there x rest.0 xs rest.1, rest.2)) (Contains-cases (f x) y (map f xs) c)

in_map : {X Y : Type 0} (f : X → Y) (xs : List X) (x : X) → Contains xs x → Contains (map f xs) (f x)
in_map f [] x c = absurd (none_in x c)
in_map f (y ∷ ys) x c =
    ⊎_elim (λ (e : y ≡ x). subst (λ z. Contains (map f (y ∷ ys)) (f z)) e (Contains-here (f y) (map f ys))) (λ (d : Contains ys x). Contains-there (f y) (f x) (map f ys) (in_map f ys x d)) (Contains-cases y x ys c)

same_classes : (rows : List Row) (xs ys : List Fact) → SameFacts xs ys → SameFacts (class_facts rows xs) (class_facts rows ys)
same_classes rows xs ys same f = (move xs ys (λ g. (same g).0), move ys xs (λ g. (same g).1))
  where
    move : (ps qs : List Fact) → ((g : Fact) → Contains ps g → Contains qs g) → Contains (class_facts rows ps) f → Contains (class_facts rows qs) f
    move ps qs moves c = let from = of_map (class_fact rows) ps f c in subst (Contains (class_facts rows qs)) from.2 (in_map (class_fact rows) qs from.0 (moves from.0 from.1))

pub domain_transition_same : (rs : List ℕ) (rows : List Row) → All (IsFit rs) rows → (i : ℕ) (a b : Operator) → SameFacts a.precondition b.precondition → SameFacts a.effect b.effect → IsAssignment rs a.effect → IsAssignment rs b.effect →
    transition_of (class_counts rows rs) (variables rows) i (class_operator rows a) ≡ transition_of (class_counts rows rs) (variables rows) i (class_operator rows b)
domain_transition_same rs rows fit i a b conditions effects wa wb =
    transition_same (class_counts rows rs) (variables rows) i (class_operator rows a) (class_operator rows b) (same_classes rows a.precondition b.precondition conditions) (same_classes rows a.effect b.effect effects)
    (class_assignment rs rows fit a.effect wa).distinct (class_assignment rs rows fit b.effect wb).distinct

-- ---- operators that leave states

module _ (rs : List ℕ) where
  -- a fact on a variable with a single value agrees with each abstract state
  single_agrees : (ps : List ℕ) (i : ℕ) (f : Fact) → slice_index rs f.variable ≡ 1 → f.value ≡ 0 → agrees rs ps i f ≡ true
  single_agrees [] i f one none = refl
  single_agrees (p ∷ ps) i f one none = go (eqb p f.variable) refl (single_agrees ps (i / slice_index rs p) f one none)
    where
      go : (b : Bool) → eqb p f.variable ≡ b → agrees rs ps (i / slice_index rs p) f ≡ true → cond b (eqb (i % slice_index rs p) f.value) (agrees rs ps (i / slice_index rs p) f) ≡ true
      go true e rest =
          let range : slice_index rs p ≡ 1 = ap (slice_index rs) (eqb-true p f.variable e) ∙ one in
          let below = mod_below i (slice_index rs p) (omega (arith, range)) in
          eq-eqb (i % slice_index rs p) f.value (omega (arith, below, range, none))
      go false e rest = rest

  -- an operator whose effects are given leaves each abstract state from which it has a transition
  pub transition_stays : (ps : List ℕ) (i : ℕ) (op : Operator) → Rising ps → i < size_of rs ps → All (IsInRange rs) op.effect → LeavesStates rs op → IfSome (transition_of rs ps i op) (λ j. j ≡ i)
  transition_stays ps i op rising l range leaves = go (list_all (agrees rs ps i) op.precondition) refl
    where
      agreeing : list_all (agrees rs ps i) op.precondition ≡ true → list_all (agrees rs ps i) op.effect ≡ true
      agreeing h =
          all_from (agrees rs ps i) op.effect
          (λ f c. ⊎_elim
          (λ (d : Contains op.precondition f). all_at (agrees rs ps i) op.precondition f h d)
          (λ (one : slice_index rs f.variable ≡ 1). single_agrees ps i f one (let below = All-contains (IsInRange rs) op.effect f range c in omega (arith, below.1, one)))
          (All-contains (IsGiven rs op.precondition) op.effect f leaves c))

      go : (b : Bool) → list_all (agrees rs ps i) op.precondition ≡ b → IfSome (cond b (Some (index_after rs ps i op.effect)) None) (λ j. j ≡ i)
      go false e = tt
      go true e = index_stays rs ps i op.effect rising l (agreeing e)

module _ (rs : List ℕ) (rows : List Row) (fit : All (IsFit rs) rows) (numbered : All (λ r. AreNumbered r.classes) rows) where
  -- a variable has at most as many classes as values
  count_few : (v : ℕ) → slice_index (class_counts rows rs) v ≤ slice_index rs v
  count_few v = subst (λ (n : ℕ). n ≤ slice_index rs v) (sym (read_counts rs rows v fit)) (go rows fit numbered)
    where
      go : (xs : List Row) → All (IsFit rs) xs → All (λ r. AreNumbered r.classes) xs → count_of xs v (slice_index rs v) ≤ slice_index rs v
      go [] fits numbers = omega arith
      go (r ∷ xs) fits numbers = here (eqb r.variable v) refl (go xs (All-tail (IsFit rs) r xs fits) (All-tail (λ (x : Row). AreNumbered x.classes) r xs numbers))
        where
          here : (b : Bool) → eqb r.variable v ≡ b → count_of xs v (slice_index rs v) ≤ slice_index rs v → cond b (class_count r.classes) (count_of xs v (slice_index rs v)) ≤ slice_index rs v
          here false e rest = rest
          here true e rest =
              let head = All-head (IsFit rs) r xs fits in
              let same : r.variable ≡ v = eqb-true r.variable v e in
              let few = count_within r.classes (All-head (λ (x : Row). AreNumbered x.classes) r xs numbers) in
              omega (arith, few, head.as_long, ap (slice_index rs) same)

  class_leaves : (op : Operator) → IsOperator rs op → LeavesStates rs op → LeavesStates (class_counts rows rs) (class_operator rows op)
  class_leaves op well leaves =
      All-map (IsGiven (class_counts rows rs) (class_facts rows op.precondition)) (class_fact rows) op.effect
      (λ k d l. go (get_or op.effect k d) (well.effect.in_range k d l) (leaves k d l))
    where
      go : (f : Fact) → IsInRange rs f → IsGiven rs op.precondition f → IsGiven (class_counts rows rs) (class_facts rows op.precondition) (class_fact rows f)
      go f range given =
          ⊎_elim
          (λ (c : Contains op.precondition f). inl (in_map (class_fact rows) op.precondition f c))
          (λ (one : slice_index rs f.variable ≡ 1). inr (let few = count_few f.variable in let below = class_in_range rs rows fit f range in omega (arith, few, below.1, one)))
          given

  pub domain_transition_stays : (i : ℕ) (op : Operator) → Rising (variables rows) → i < size_of (class_counts rows rs) (variables rows) → IsOperator rs op → LeavesStates rs op →
      IfSome (transition_of (class_counts rows rs) (variables rows) i (class_operator rows op)) (λ j. j ≡ i)
  domain_transition_stays i op rising l well leaves =
      transition_stays (class_counts rows rs) (variables rows) i (class_operator rows op) rising l (class_assignment rs rows fit op.effect well.effect).in_range (class_leaves op well leaves)
