-- Typed variables: the parameters of an action, a predicate or a function.
use Rattle.std.specs.Prelude.{ℕ, ◌+◌, nat_le, Bool, true, List, [], ◌∷◌, ◌++◌, map}
use Rattle.std.specs.Option.{option_map_or}
use Rattle.sexp.specs.Forms.{Forms}
use Rattle.pddl_names.specs.Names.{is_there, with_name, number_of}
use Rattle.pddl_syntax.specs.declared.fault.Fault.{Fault}
use Rattle.pddl_syntax.specs.declared.fault.FaultKind.TheVariants.{TwiceDeclared, Limit}
use Rattle.pddl_syntax.specs.declared.fault.LimitedTable.TheVariants.{Arguments}
use Rattle.pddl_syntax.specs.Faults.{fault, faults_if}
use Rattle.pddl_syntax.specs.declared.typed.Run.{Run}
use Rattle.pddl_syntax.specs.Typed.{Declared, declared, typed_faults, parent_text}
use Rattle.pddl_syntax.specs.Limits.{max_arguments}

-- the names, with those of the declarations added
abbrev pub names_with : List (List ℕ) → List Declared → List (List ℕ)
names_with names [] = names
names_with names (d ∷ ds) = names_with (with_name names d.name) ds

-- the number of a declaration's type, or that of `object` if the type cannot be read
abbrev pub type_number : List (List ℕ) → Declared → ℕ
type_number types d = option_map_or (number_of types) d.parent 0

-- the faults of declarations that follow `count` others of the same list, which declare `names`
abbrev pub variable_faults : List (List ℕ) → ℕ → List Declared → List Fault
variable_faults names count [] = []
variable_faults names count (d ∷ ds) =
    faults_if (is_there names d.name) (fault TwiceDeclared d.at)
    (faults_if (nat_le max_arguments count) (fault (Limit Arguments) d.at) (variable_faults (with_name names d.name) (count + 1) ds))

-- the faults of typed variables in the list at `home`
abbrev pub parameters_faults : (List ℕ → Bool) → ℕ → Forms → List Fault
parameters_faults known home f = typed_faults true known home true f ++ variable_faults [] 0 (declared true f)

-- the names of the parameters, without repetitions
abbrev pub parameter_names : Forms → List (List ℕ)
parameter_names f = names_with [] (declared true f)

abbrev pub parameter_types : List (List ℕ) → Forms → List ℕ
parameter_types types f = map (type_number types) (declared true f)

-- ---- the runs of the code

-- the number of a run's type
abbrev pub run_type : List (List ℕ) → Run → ℕ
run_type types run = option_map_or (number_of types) (parent_text run) 0
