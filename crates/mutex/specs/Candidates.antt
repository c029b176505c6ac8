-- The mutex groups that are proposed for a task: the instances of candidates that are usable groups.
use Rattle.std.specs.Prelude.{ℕ, zero, suc, Bool, true, false, ◌&&◌, ◌==◌, nat_lt, nat_le, if◌then◌else◌, List, [], ◌∷◌, ◌++◌, length, map, take, filter, Some, None, is_some, slice_get, slice_index}
use Rattle.std.specs.List.{list_all, list_any, flat_map, fold, range_with_len}
use Rattle.std.specs.Option.{option_map_or}
use Rattle.pddl_task.specs.Atoms.{Atom}
use Rattle.pddl_task.specs.Planning.{PlanningTask}
use Rattle.mutex_index.specs.Groups.{is_usable}
use Rattle.mutex_index.specs.Places.{Indexed, atoms_at}
use Rattle.mutex.specs.declared.parts.Part.{Part}
use Rattle.mutex.specs.Proposals.{is_movable, with_group}

-- the predicate occurs in an effect of a schema
abbrev pub is_fluent : PlanningTask → ℕ → Bool
is_fluent task predicate = list_any (λ s. list_any (λ e. e.atom.predicate == predicate) s.effect) task.schemas

-- the predicate with its argument at the position bound to the parameter
abbrev pub bound_at : ℕ → ℕ → Part
bound_at predicate position = record { predicate = predicate; position = Some position }

-- the parts with a bound argument of a predicate with this arity: at most one argument is not bound
abbrev pub bound_parts_of : ℕ → ℕ → List Part
bound_parts_of predicate arity =
    if arity == 1 then bound_at predicate 0 ∷ []
    else if arity == 2 then bound_at predicate 0 ∷ bound_at predicate 1 ∷ [] else []

-- the predicate with no argument bound
abbrev pub free_part : ℕ → Part
free_part predicate = record { predicate = predicate; position = None }

-- the part without a bound argument of a predicate with this arity, which may have at most one argument
abbrev pub free_parts_of : ℕ → ℕ → List Part
free_parts_of predicate arity = if nat_le arity 1 then free_part predicate ∷ [] else []

-- the parts of the fluent predicates, in the order of the predicates
abbrev pub fluent_parts : (ℕ → ℕ → List Part) → PlanningTask → List Part
fluent_parts parts_of task =
    flat_map (λ q. if is_fluent task q then parts_of q (slice_index task.arities q) else []) (range_with_len 0 (length task.arities))

-- a candidate is a list of parts
abbrev pub Candidate : Type 0
Candidate = List Part

-- the lists of `n` of the parts, in lexicographic order
abbrev pub lists_of : ℕ → List Part → List Candidate
lists_of zero parts = [] ∷ []
lists_of (suc n) parts = flat_map (λ list. map (λ part. list ++ part ∷ []) parts) (lists_of n parts)

-- the predicate numbers increase, so the predicates are distinct
abbrev pub is_increasing : Candidate → Bool
is_increasing [] = true
is_increasing (part ∷ parts) = list_all (λ other. nat_lt part.predicate other.predicate) parts && is_increasing parts

-- the candidates of one to three of the parts, those with fewer parts first
abbrev pub candidates_of : List Part → List Candidate
candidates_of parts = flat_map (λ n. filter is_increasing (lists_of n parts)) (1 ∷ 2 ∷ 3 ∷ [])

-- the candidates of a task, those with a parameter first
abbrev pub candidates : PlanningTask → List Candidate
candidates task = candidates_of (fluent_parts bound_parts_of task) ++ candidates_of (fluent_parts free_parts_of task)

-- the candidates that are proposed: the first 4,096
abbrev pub proposed_candidates : PlanningTask → List Candidate
proposed_candidates task = take 4096 (candidates task)

-- the object that the part binds to the parameter in an atom; 0 for a part that binds none
abbrev pub bound_object : Part → Atom → ℕ
bound_object part p = option_map_or (slice_index p.objects) part.position 0

-- a part with the atom's predicate binds this object in it
abbrev pub is_covered : Candidate → ℕ → Atom → Bool
is_covered candidate object p =
    list_any (λ part. p.predicate == part.predicate && bound_object part p == object) candidate

-- the indices of the atoms that the candidate covers for the object, without constant and excluded ones
abbrev pub instance : Indexed → Candidate → ℕ → List ℕ
instance index candidate object =
    filter (λ place. is_movable index place && option_map_or (is_covered candidate object) (slice_get index.atoms place) false)
    (range_with_len 0 (length index.atoms))

-- one instance for each object of the task, and a single one for a candidate without a parameter
abbrev pub count_of_instances : PlanningTask → Candidate → ℕ
count_of_instances task candidate =
    if list_any (λ part. is_some part.position) candidate then length task.object_types else 1

abbrev pub instances : Indexed → Candidate → List (List ℕ)
instances index candidate = map (instance index candidate) (range_with_len 0 (count_of_instances index.task candidate))

-- two or more atoms that are a usable group
abbrev pub is_proposal : Indexed → List ℕ → Bool
is_proposal index places =
    nat_le 2 (length places) && is_usable index.task index.actions (atoms_at index.atoms places)

-- the instances of the proposed candidates that are proposals, in order and without repetitions
unfoldable pub proposed_groups : Indexed → List (List ℕ)
proposed_groups index =
    fold with_group [] (filter (is_proposal index) (flat_map (instances index) (proposed_candidates index.task)))
