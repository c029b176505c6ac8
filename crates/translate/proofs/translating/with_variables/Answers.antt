use Rattle.std.proofs.Common.{List, sym, subst}
use Rattle.pddl_task.specs.Atoms.{Atom}
use Rattle.translate_vars.specs.Parts.{AreFit}
use Rattle.translate_vars.specs.Faults.{IsFirstFault}
use Rattle.translate.specs.Translated.{IsTooLarge}
use Rattle.translate.proofs.Promises.{same_plans_are, large_is_first}
use Rattle.translate.proofs.translating.with_variables.Goals as goal

pub returns-in-Ok-clause-plans : goal.returns-in-Ok-clause-plans
returns-in-Ok-clause-plans c = λ well. same_plans_are c.args.task.now _ well c.in-Ok.ensures.translation

pub returns-in-Err-clause-fault : goal.returns-in-Err-clause-fault
returns-in-Err-clause-fault c =
    subst (IsFirstFault c.args.task.now c.args.atoms.now c.args.variables.items) (sym c.parts_fault.ensures)
    (large_is_first c.args.task.now c.args.atoms.now c.args.variables.items c.in-Err.fault c.requires.placed
    (subst (AreFit c.args.task.now c.args.atoms.now) c.deref.ensures.value c.in_ok-parts.ensures.fit)
    (subst (λ (atoms : List Atom). IsTooLarge c.args.task.now atoms c.args.variables.items c.in-Err.fault) c.in_ok-parts.ensures.atoms c.in-Err.ensures.large))
