use Rattle.std.proofs.Common.{◌≡◌, map, take}
use Rattle.fdr.specs.Tasks.{names_in}
use Rattle.translate_theory.specs.Translations.{value_names_of}
use Rattle.translate_theory.specs.Variables.{variables_at}
use Rattle.translate_assembly.proofs.texts.value_names.Given as goal

abbrev pub invariant-loop-variable : goal.invariant-loop-variable
invariant-loop-variable l =
    names_in l.names.items ≡ map (value_names_of l.vocabulary) (variables_at l.atoms (take l.variable-index l.variables))
