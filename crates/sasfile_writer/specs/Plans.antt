-- The text of a plan for a finite-domain task: a line for each operator, and a comment that states the cost (the plan
-- files of Fast Downward).
use Rattle.std.specs.Prelude.{ℕ, Bool, if◌then◌else◌, List, [], ◌++◌, slice_get, flat_map, codes, decimal}
use Rattle.std.specs.Option.{option_map_or}
use Rattle.fdr.specs.Tasks.{FiniteDomainTask}

-- the name of the operator with this number, in parentheses
abbrev pub operator_line : FiniteDomainTask → ℕ → List ℕ
operator_line task o = codes "(" ++ option_map_or (λ op. op.name) (slice_get task.operators o) [] ++ codes ")\n"

-- with the metric operators have costs of their own, and without it each costs 1
abbrev pub cost_kind : Bool → List ℕ
cost_kind metric = if metric then codes " (general cost)\n" else codes " (unit cost)\n"

abbrev pub sas_plan_text : FiniteDomainTask → List ℕ → ℕ → List ℕ
sas_plan_text task plan cost =
    flat_map (operator_line task) plan ++ codes "; cost = " ++ decimal cost ++ cost_kind task.metric
