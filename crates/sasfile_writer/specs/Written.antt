-- The text written for a finite-domain task (output.sas, version 3; Helmert 2006), line by line.
use Rattle.std.specs.Prelude.{ℕ, Bool, ◌==◌, not, nat_le, if◌then◌else◌, List, [], ◌∷◌, ◌++◌, length, map, filter, find, Option, codes, decimal}
use Rattle.std.specs.List.{flat_map, enumerate_from, range_with_len}
use Rattle.std.specs.Option.{option_map, option_map_or}
use Rattle.fdr.specs.declared.fact.Fact.{Fact}
use Rattle.fdr.specs.Tasks.{FiniteDomainTask, Operator, names_variable}

-- each line with its line feed
abbrev pub text_of_lines : List (List ℕ) → List ℕ
text_of_lines lines = flat_map (λ l. l ++ 10 ∷ []) lines

-- two numbers separated by a blank
abbrev pub pair_line : ℕ → ℕ → List ℕ
pair_line m n = decimal m ++ codes " " ++ decimal n

abbrev pub fact_line : Fact → List ℕ
fact_line f = pair_line f.variable f.value

-- a line with the number of facts, and one line for each of them
abbrev pub fact_lines : List Fact → List (List ℕ)
fact_lines facts = decimal (length facts) ∷ map fact_line facts

abbrev pub version_lines : List (List ℕ)
version_lines = codes "begin_version" ∷ codes "3" ∷ codes "end_version" ∷ []

abbrev pub metric_lines : Bool → List (List ℕ)
metric_lines metric = codes "begin_metric" ∷ (if metric then codes "1" else codes "0") ∷ codes "end_metric" ∷ []

-- the variable with this number, whose values have these names
abbrev pub variable_lines : ℕ → List (List ℕ) → List (List ℕ)
variable_lines number names =
    codes "begin_variable" ∷ (codes "var" ++ decimal number) ∷ codes "-1" ∷ decimal (length names) ∷ (names ++ codes "end_variable" ∷ [])

-- a mutex group of the first `size` values of the variable
abbrev pub group_lines : ℕ → ℕ → List (List ℕ)
group_lines number size =
    codes "begin_mutex_group" ∷ decimal size ∷ (map (pair_line number) (range_with_len 0 size) ++ codes "end_mutex_group" ∷ [])

-- the variables with at least two atoms, by their numbers, each with its number of atoms
abbrev pub groups_of : List ℕ → List (ℕ × ℕ)
groups_of sizes = filter (λ e. nat_le 2 e.1) (enumerate_from 0 sizes)

-- the value of the fact on the variable, if there is one
abbrev pub value_of : List Fact → ℕ → Option ℕ
value_of facts v = option_map (λ f. f.value) (find (λ f. f.variable == v) facts)

-- an effect, with the value before it, or -1 for any value
abbrev pub effect_line : List Fact → Fact → List ℕ
effect_line precondition f =
    codes "0 " ++ decimal f.variable ++ codes " " ++ option_map_or decimal (value_of precondition f.variable) (codes "-1")
    ++ codes " " ++ decimal f.value

-- the prevail conditions: facts of the precondition on variables that the effect does not name
abbrev pub prevail : Operator → List Fact
prevail op = filter (λ f. not (names_variable op.effect f.variable)) op.precondition

abbrev pub operator_lines : Operator → List (List ℕ)
operator_lines op =
    codes "begin_operator" ∷ op.name ∷ (fact_lines (prevail op)
    ++ (decimal (length op.effect) ∷ map (effect_line op.precondition) op.effect)
    ++ decimal op.cost ∷ codes "end_operator" ∷ [])

-- The lines of a task. `sizes` has for each variable the number of its atoms, which are its first values.
abbrev pub written_lines : FiniteDomainTask → List ℕ → List (List ℕ)
written_lines task sizes =
    version_lines ++ metric_lines task.metric
    ++ (decimal (length task.value_names) ∷ flat_map (λ e. variable_lines e.0 e.1) (enumerate_from 0 task.value_names))
    ++ (decimal (length (groups_of sizes)) ∷ flat_map (λ e. group_lines e.0 e.1) (groups_of sizes))
    ++ codes "begin_state" ∷ (map decimal task.initial ++ codes "end_state" ∷ [])
    ++ codes "begin_goal" ∷ (fact_lines task.goal ++ codes "end_goal" ∷ [])
    ++ (decimal (length task.operators) ∷ flat_map operator_lines task.operators)
    ++ codes "0" ∷ []

abbrev pub written : FiniteDomainTask → List ℕ → List ℕ
written task sizes = text_of_lines (written_lines task sizes)
