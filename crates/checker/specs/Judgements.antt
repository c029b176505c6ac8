-- The verdict on a certificate for a planning task.
use Rattle.std.specs.Prelude.{◌≡◌, ℕ, List, ◌++◌, slice_get, map, IsSomeAnd, codes, decimal}
use Rattle.std.specs.String.{string_bytes}
use Rattle.pddl_task.specs.Atoms.{contains}
use Rattle.pddl_task.specs.Planning.{PlanningTask}
use Rattle.ground_theory.specs.Grounding.{actions_over}
use Rattle.translate_theory.specs.Translations.{translation}
use Rattle.translate_theory.specs.Variables.{PlacedVariable, variables_at}
use Rattle.translate_vars.specs.Parts.{AreFit}
use Rattle.translate_vars.specs.Faults.{IsFirstFault}
use Rattle.translate_vars.specs.declared.fault.TranslateFault.{TranslateFault}
use Rattle.translate_vars.specs.declared.fault.TranslateFault.TheVariants as fault
use Rattle.fdr.specs.Tasks.{FiniteDomainTask}
use Rattle.cert_value.specs.Certificates.{Variable, CertificateValue}
use Rattle.cert_value.specs.declared.certificate.AtomParts.{AtomParts}
use Rattle.cert_value.specs.Views.{atom_of, variable_of}
use Rattle.checker_clauses.specs.Violations as finite
use Rattle.checker_fdr.specs.Verdicts.{IsVerdict, bound_text}
use Rattle.checker_fdr.specs.declared.verdict.Verdict.TheVariants as over_variables
use Rattle.checker.specs.declared.verdict.PlanningViolation.{PlanningViolation}
use Rattle.checker.specs.declared.verdict.PlanningViolation.TheVariants.{Atom, Variable as VariablePlace, Uncovered, Task}
use Rattle.checker.specs.declared.verdict.PlanningVerdict.{PlanningVerdict}
use Rattle.checker.specs.declared.verdict.PlanningVerdict.TheVariants.{Accepted, Rejected}
use Rattle.checker.specs.Naming.{named_atoms, listed, words_text, words_of}

-- the text of a violation
abbrev pub violation_text : PlanningViolation → List ℕ
violation_text (Atom atom) = codes "C1 atom " ++ string_bytes atom
violation_text (VariablePlace v) = codes "C2 var " ++ decimal v
violation_text (Uncovered atom) = codes "C2 atom " ++ string_bytes atom
violation_text (Task v) = finite.violation_text v

-- the text of a verdict
abbrev pub verdict_text : PlanningVerdict → List ℕ
verdict_text (Accepted bound) = codes "accepted " ++ bound_text bound
verdict_text (Rejected v) = codes "rejected " ++ violation_text v

-- a task, and the listed atoms and the variables of a certificate for it
pub record Judged : Type 0 where
  pub task : PlanningTask
  pub words : List (List (List ℕ))
  pub variables : List Variable

abbrev pub atoms_of : Judged → List Rattle.pddl_task.specs.Atoms.Atom
atoms_of j = named_atoms j.task.vocabulary j.words

abbrev pub placed_of : Judged → List PlacedVariable
placed_of j = map listed j.variables

-- the finite-domain task over these atoms and variables
abbrev pub finite_domain_task : Judged → FiniteDomainTask
finite_domain_task j = translation j.task (variables_at (atoms_of j) (placed_of j)) (actions_over j.task (contains (atoms_of j)))

-- the text of the listed atom at index `k`
abbrev pub IsListedText : Judged → ℕ → List ℕ → Type 0
IsListedText j k text = IsSomeAnd (slice_get j.words k) (λ words. text ≡ words_text words)

-- the violation that the first fault of atoms and variables denotes
abbrev pub IsPlaceOf : Judged → TranslateFault → PlanningViolation → Type 0
IsPlaceOf j (fault.BadAtom k) (Atom text) = IsListedText j k (string_bytes text)
IsPlaceOf j (fault.Missing p) (Atom text) = string_bytes text ≡ words_text (words_of j.task.vocabulary p)
IsPlaceOf j (fault.NotClosed p) (Atom text) = string_bytes text ≡ words_text (words_of j.task.vocabulary p)
IsPlaceOf j (fault.Misplaced v) (VariablePlace u) = v ≡ u
IsPlaceOf j (fault.NotGroup v) (VariablePlace u) = v ≡ u
IsPlaceOf j (fault.NotFull v) (VariablePlace u) = v ≡ u
IsPlaceOf j (fault.Uncovered k) (Uncovered text) = IsListedText j k (string_bytes text)
IsPlaceOf j e v = ⊥

-- The certificate is accepted with its bound if its atoms and variables are fit for the task and it has no violation
-- for the finite-domain task over them, and otherwise rejected with its first violation.
abbrev pub IsPlanningVerdict : Judged → CertificateValue → PlanningVerdict → Type 0
IsPlanningVerdict j c (Accepted bound) =
    AreFit j.task (atoms_of j) (placed_of j) × IsVerdict (finite_domain_task j) c (over_variables.Accepted bound)
IsPlanningVerdict j c (Rejected (Task v)) =
    AreFit j.task (atoms_of j) (placed_of j) × IsVerdict (finite_domain_task j) c (over_variables.Rejected v)
IsPlanningVerdict j c (Rejected v) = (e : TranslateFault) × IsFirstFault j.task (atoms_of j) (placed_of j) e × IsPlaceOf j e v

-- the task, and the parts that a certificate lists for it
abbrev pub judged_of : PlanningTask → AtomParts → Judged
judged_of task parts = record { task = task; words = map atom_of parts.atoms.items; variables = map variable_of parts.variables.items }

-- the verdict on a certificate for a finite-domain task, as one for the planning task
abbrev pub IsFiniteDomainVerdict : FiniteDomainTask → CertificateValue → PlanningVerdict → Type 0
IsFiniteDomainVerdict task c (Accepted bound) = IsVerdict task c (over_variables.Accepted bound)
IsFiniteDomainVerdict task c (Rejected (Task v)) = IsVerdict task c (over_variables.Rejected v)
IsFiniteDomainVerdict task c (Rejected v) = ⊥
