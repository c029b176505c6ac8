-- Where two texts spell a task, no goal is there both ways.
use Rattle.std.proofs.Common.{◌≡◌, ℕ, Bool, true, false, ◌&&◌, ◌||◌, not, List, [], ◌∷◌, ◌++◌, map, refl, sym, ap, subst, ◌∙◌, ◌⊎◌, inl, inr}
use Rattle.std.specs.Prelude.{None, if◌then◌else◌, codes}
use Rattle.std.specs.List.{list_any}
use Rattle.std.proofs.lemmas.Bool.{and_parts, true≢false, not-true}
use Rattle.sexp.specs.Forms.{Forms, none, word, group}
use Rattle.pddl_task.specs.Atoms.{Atom, Literal, same_atom, wants, excludes, is_contradictory}
use Rattle.pddl_task.specs.Planning.{PlanningTask, IsPlanningTask}
use Rattle.pddl_task.proofs.AtomLaws.{consistent_from, same_atom_true}
use Rattle.pddl_syntax.specs.declared.fault.Fault.{Fault}
use Rattle.pddl_syntax.specs.declared.fault.FaultKind.TheVariants.{GoalBothWays}
use Rattle.pddl_syntax.specs.Faults.{fault, faults_if}
use Rattle.pddl_syntax.specs.Sections.{more_faults}
use Rattle.pddl_syntax.proofs.Firsts.{none_kept}
use Rattle.pddl_terms.specs.Terms.{Scope}
use Rattle.pddl_problem.specs.Goals.{Placed, goals, goals_faults, goal_literals, goal_faults, has_opposite, opposite_faults}
use Rattle.pddl.specs.Passes.{first_pass}
use Rattle.pddl.specs.Texts.{SpellTask, inside_of, place_in, goal_of, scope_over, declarations_of, constants_of, objects_of, problem_passes}
use Rattle.pddl_laws.proofs.Clean.{empty_parts, kept_clean}

-- no atom is wanted and excluded by the literals
abbrev IsConsistent : List Literal → Type 0
IsConsistent literals = (p : Atom) → wants literals p ≡ true → excludes literals p ≡ true → ⊥

any_behind : {X : Type 0} (test : X → Bool) (xs : List X) (y : X) → list_any test (xs ++ y ∷ []) ≡ true → (list_any test xs ≡ true) ⊎ (test y ≡ true)
any_behind test [] y h = inr (go (test y) h) where
  go : (b : Bool) → (b || false) ≡ true → b ≡ true
  go true e = refl
  go false e = absurd cc
any_behind test (x ∷ xs) y h = go (test x) h (any_behind test xs y) where
  go : (b : Bool) → (b || list_any test (xs ++ y ∷ [])) ≡ true → (list_any test (xs ++ y ∷ []) ≡ true → (list_any test xs ≡ true) ⊎ (test y ≡ true))
      → ((b || list_any test xs) ≡ true) ⊎ (test y ≡ true)
  go true e later = inl refl
  go false e later = later e

opposite_wanted : (literals : List Literal) (l : Literal) → has_opposite literals l ≡ false → l.positive ≡ true → excludes literals l.atom ≡ false
opposite_wanted literals l h e = subst (λ (b : Bool). (if b then excludes literals l.atom else wants literals l.atom) ≡ false) e h

opposite_excluded : (literals : List Literal) (l : Literal) → has_opposite literals l ≡ false → l.positive ≡ false → wants literals l.atom ≡ false
opposite_excluded literals l h e = subst (λ (b : Bool). (if b then excludes literals l.atom else wants literals l.atom) ≡ false) e h

one_more : (before : List Literal) (l : Literal) → IsConsistent before → has_opposite before l ≡ false → IsConsistent (before ++ l ∷ [])
one_more before l ok opposite p w x =
    go (any_behind (λ (k : Literal). k.positive && same_atom p k.atom) before l w) (any_behind (λ (k : Literal). not k.positive && same_atom p k.atom) before l x)
  where
    go : ((wants before p ≡ true) ⊎ ((l.positive && same_atom p l.atom) ≡ true)) → ((excludes before p ≡ true) ⊎ ((not l.positive && same_atom p l.atom) ≡ true)) → ⊥
    go (inl a) (inl b) = ok p a b
    go (inl a) (inr b) =
        let parts = and_parts (not l.positive) (same_atom p l.atom) b in
        let none_ = opposite_excluded before l opposite (not-true l.positive parts.0) in
        true≢false (sym a ∙ ap (wants before) (same_atom_true p l.atom parts.1) ∙ none_)
    go (inr a) (inl b) =
        let parts = and_parts l.positive (same_atom p l.atom) a in
        let none_ = opposite_wanted before l opposite parts.0 in
        true≢false (sym b ∙ ap (excludes before) (same_atom_true p l.atom parts.1) ∙ none_)
    go (inr a) (inr b) =
        let left = and_parts l.positive (same_atom p l.atom) a in
        let right = and_parts (not l.positive) (same_atom p l.atom) b in
        true≢false (sym left.0 ∙ not-true l.positive right.0)

fault_left_out : (b : Bool) (f : Fault) (fs : List Fault) → faults_if b f fs ≡ [] → (b ≡ false) × (fs ≡ [])
fault_left_out true f fs e = absurd cc
fault_left_out false f fs e = (refl, e)

all_consistent : (before : List Literal) (ls : List Placed) → IsConsistent before → opposite_faults before ls ≡ []
    → IsConsistent (before ++ map (λ l. l.literal) ls)
all_consistent before [] ok clear = subst IsConsistent (sym (append_nil before)) ok where
  append_nil : (xs : List Literal) → xs ++ [] ≡ xs
  append_nil [] = refl
  append_nil (x ∷ xs) = ap (λ (zs : List Literal). x ∷ zs) (append_nil xs)
all_consistent before (l ∷ ls) ok clear =
    let parts = fault_left_out (has_opposite before l.literal) (fault GoalBothWays l.at) (opposite_faults (before ++ l.literal ∷ []) ls) clear in
    subst IsConsistent (moved before l.literal (map (λ k. k.literal) ls))
    (all_consistent (before ++ l.literal ∷ []) ls (one_more before l.literal ok parts.0) parts.1)
  where
    moved : (xs : List Literal) (y : Literal) (zs : List Literal) → (xs ++ y ∷ []) ++ zs ≡ xs ++ y ∷ zs
    moved [] y zs = refl
    moved (x ∷ xs) y zs = ap (λ (ws : List Literal). x ∷ ws) (moved xs y zs)

-- where a goal section has no fault, its literals are consistent
clear_goal : (scope : Scope) (home : ℕ) (f : Forms) → goal_faults scope home f ≡ [] → is_contradictory (map (λ l. l.literal) (goal_literals scope f)) ≡ false
clear_goal scope home none e = absurd cc
clear_goal scope home (word s e t f) clear = absurd cc
clear_goal scope home (group s e i f) clear =
    let parts = empty_parts (goals_faults scope (group s e i none) ++ opposite_faults [] (goals scope (group s e i none))) (more_faults f) clear in
    let opposite = empty_parts (goals_faults scope (group s e i none)) (opposite_faults [] (goals scope (group s e i none))) parts.0 in
    consistent_from (map (λ l. l.literal) (goals scope (group s e i none)))
    (all_consistent [] (goals scope (group s e i none)) (λ p w x. absurd cc) opposite.1)

clear_problem : (d p : Forms) → first_pass (problem_passes d p) ≡ None
    → goal_faults (scope_over (declarations_of d) (objects_of (declarations_of d) (constants_of d) p)) (place_in p (codes ":goal")) (inside_of p (codes ":goal")) ≡ []
clear_problem d p h =
    let a = kept_clean _ _ h in
    let b = kept_clean _ _ a.1 in
    let c = kept_clean _ _ b.1 in
    let g = kept_clean _ _ c.1 in
    none_kept _ g.0

pub spelled_well : (domain problem : List ℕ) (t : PlanningTask) → SpellTask domain problem t → IsPlanningTask t
unfolding goal_of
spelled_well domain problem t s =
    subst IsPlanningTask (sym s.task_is)
    (record { goal = clear_goal (scope_over (declarations_of s.d) (objects_of (declarations_of s.d) (constants_of s.d) s.p)) (place_in s.p (codes ":goal")) (inside_of s.p (codes ":goal")) (clear_problem s.d s.p s.problem_sections) })
