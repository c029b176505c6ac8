-- Abstraction mappings: what a table distinguishes of a state. A pattern distinguishes the values of its variables
-- (Culberson and Schaeffer 1998), and rows of classes the classes of the values of theirs (Hernádvölgyi and Holte
-- 2000).
use Rattle.std.specs.Prelude.{ℕ, ◌^◌, Bool, true, ◌==◌, ◌&&◌, nat_lt, nat_le, List, [], ◌∷◌, length, slice_index}
use Rattle.std.specs.List.{list_all}
use Rattle.fdr.specs.declared.fact.Fact.{Fact}
use Rattle.fdr.specs.Tasks.{FiniteDomainTask, ranges}
use Rattle.abstraction.specs.Abstractions.{Abstraction}
use Rattle.abstraction.specs.Projections.{projection}
use Rattle.abstraction_domain.specs.Rows.{Row}
use Rattle.abstraction_domain.specs.Domains.{variables, class_counts, class_fact, class_facts, domain}

pub data Mapping : Type 0 where
  Pattern : List ℕ → Mapping
  Domains : List Row → Mapping

-- the variables of the pattern or of the rows
abbrev pub variables_of : Mapping → List ℕ
variables_of (Pattern pattern) = pattern
variables_of (Domains rows) = variables rows

-- the abstraction of the task: the projection to the pattern, or the domain abstraction by the rows
abbrev pub abstraction_by : FiniteDomainTask → Mapping → Abstraction
abstraction_by task (Pattern pattern) = projection task pattern
abstraction_by task (Domains rows) = domain task rows

-- the numbers are strictly increasing
abbrev pub is_increasing : List ℕ → Bool
is_increasing [] = true
is_increasing (x ∷ []) = true
is_increasing (x ∷ y ∷ ys) = nat_lt x y && is_increasing (y ∷ ys)

-- the variable exists, and the row has exactly one class for each of its values
abbrev pub is_fit : List ℕ → Row → Bool
is_fit ranges r = nat_lt r.variable (length ranges) && (length r.classes == slice_index ranges r.variable)

-- the task has the variables, and rows have exactly one class for each value
abbrev pub is_of_task : FiniteDomainTask → Mapping → Bool
is_of_task task (Pattern pattern) = list_all (λ v. nat_lt v (length task.value_names)) pattern
is_of_task task (Domains rows) = list_all (is_fit (ranges task)) rows

-- the variables are strictly increasing, the mapping fits the task, and there are at most 2^24 abstract states
abbrev pub is_mapping : FiniteDomainTask → Mapping → Bool
is_mapping task m =
    is_increasing (variables_of m) && is_of_task task m && nat_le (abstraction_by task m).size (2 ^ 24)

-- ---- a mapping as a projection of a task with classes for values

-- the number of values of each variable, or of classes if it has a row
abbrev pub counts_by : Mapping → List ℕ → List ℕ
counts_by (Pattern pattern) ranges = ranges
counts_by (Domains rows) ranges = class_counts rows ranges

-- the fact, with the class of its value if the variable has a row
abbrev pub fact_by : Mapping → Fact → Fact
fact_by (Pattern pattern) f = f
fact_by (Domains rows) f = class_fact rows f

abbrev pub facts_by : Mapping → List Fact → List Fact
facts_by (Pattern pattern) facts = facts
facts_by (Domains rows) facts = class_facts rows facts
