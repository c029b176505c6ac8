-- The kind of certificates for a translated planning task: its atoms, by their names, and its variables.
use Rattle.std.specs.Prelude.{map}
use Rattle.pddl_task.specs.Planning.{PlanningTask}
use Rattle.translate_theory.specs.Variables.{PlacedVariable}
use Rattle.translate.specs.Translated.{TranslatedTask}
use Rattle.cert_value.specs.Certificates.{Kind, Planning, Variable}
use Rattle.checker.specs.Naming.{words_of}

-- a variable as a certificate lists it
abbrev pub listing : PlacedVariable → Variable
listing v = record { has_none_value = v.has_none; atoms = v.places }

-- the kind of certificates for the translation of a task: its atoms, by their names, and its variables
abbrev pub translation_kind : PlanningTask → TranslatedTask → Kind
translation_kind task t = Planning (map (words_of task.vocabulary) t.atoms) (map listing t.variables)
