-- The atoms of the initial state, of the goal, and those that actions add, are atoms of the task.
use Rattle.std.proofs.Common.{◌≤◌, ◌<◌, ℕ, List, [], length, codes, sym, subst, arith}
use Rattle.std.specs.Prelude.{slice_index_or, All}
use Rattle.std.proofs.lemmas.List.Elements.{All-nil, All-map}
use Rattle.sexp.specs.Forms.{Forms}
use Rattle.pddl_task.specs.Atoms.{Literal}
use Rattle.pddl_task.specs.Lifted.{Lifted}
use Rattle.pddl_task.specs.Planning.{PlanningTask, IsAtomOf, ground_atom}
use Rattle.pddl_terms.specs.Terms.{Scope}
use Rattle.pddl_action.specs.Actions.{schema_of}
use Rattle.pddl_problem.specs.Goals.{Placed, first_alone, goal_literals}
use Rattle.pddl.specs.Texts.{SpellTask, scope_over, declarations_of, constants_of, objects_of, actions_of, types_of, declared_in, inside_of, goal_of, task_of}
use Rattle.pddl_laws.specs.Known.{KnowsItsAtoms}
use Rattle.pddl_laws.proofs.Counts.{objects_grow, objects_many}
use Rattle.pddl_laws.proofs.LiftedAtoms.{IsLifted, is_atom}
use Rattle.pddl_laws.proofs.StatedAtoms.{initial_known, goals_known}
use Rattle.pddl_laws.proofs.AddedAtoms.{IsSchema, schema_read, action_known}

module _ (d p : Forms) where
  abbrev scope : Scope
  scope = scope_over (declarations_of d) (objects_of (declarations_of d) (constants_of d) p)

  -- there is a type for each object's name
  as_many : length scope.objects ≤ length (task_of d p).object_types
  as_many = let same = objects_many d p in omega (arith, same)

  constants_stay : length (declarations_of d).objects ≤ length (task_of d p).object_types
  constants_stay =
      let more = objects_grow (types_of d) (constants_of d) (declared_in p (codes ":objects")) in
      let same = objects_many d p in
      omega (arith, more, same)

  read_there : (a : Lifted) → IsLifted scope.predicates.arities (length scope.variables) (length scope.objects) a → IsAtomOf (task_of d p) (ground_atom [] a)
  read_there a h = is_atom (task_of d p) 0 (length scope.objects) [] a (omega arith) as_many (All-nil (λ (o : ℕ). o < length (task_of d p).object_types)) h

  goal_there : All (λ (l : Literal). IsAtomOf (task_of d p) l.atom) (task_of d p).goal
  unfolding goal_of
  goal_there =
      All-map (λ (l : Literal). IsAtomOf (task_of d p) l.atom) (λ (l : Placed). l.literal) (goal_literals scope (inside_of p (codes ":goal")))
      (goals_known scope (IsAtomOf (task_of d p)) read_there (first_alone (inside_of p (codes ":goal"))))

  schemas_read : All (IsSchema (task_of d p).arities (length (declarations_of d).objects)) (task_of d p).schemas
  schemas_read =
      All-map (IsSchema (task_of d p).arities (length (declarations_of d).objects)) (schema_of (declarations_of d)) (actions_of d)
      (λ k other lt. schema_read (declarations_of d) (slice_index_or (actions_of d) k other))

  task_known : KnowsItsAtoms (task_of d p)
  task_known = record {
    initial = initial_known scope (IsAtomOf (task_of d p)) read_there (inside_of p (codes ":init"));
    goals = goal_there;
    added = action_known (task_of d p) (length (declarations_of d).objects) constants_stay schemas_read;
  }

pub spelled_known : (domain problem : List ℕ) (t : PlanningTask) → SpellTask domain problem t → KnowsItsAtoms t
spelled_known domain problem t s = subst KnowsItsAtoms (sym s.task_is) (task_known s.d s.p)
