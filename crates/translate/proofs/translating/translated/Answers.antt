use Rattle.std.proofs.Common.{◌≡◌, List, subst, ◌∙◌}
use Rattle.fdr.specs.Tasks.{IsPastLimit}
use Rattle.fdr.specs.declared.task.TaskLimit.{TaskLimit}
use Rattle.pddl_task.specs.Planning.{Action}
use Rattle.ground.proofs.SearchLaws.{fault_passed}
use Rattle.translate_theory.specs.Translations.{translation}
use Rattle.translate_theory.specs.Variables.{PlacedVariable, variables_at}
use Rattle.translate_assembly.specs.Carried.{AreCarriedAt}
use Rattle.translate_assembly.specs.declared.assembly.AssemblyFault.TheVariants as assembly
use Rattle.translate.proofs.Promises.{listed_actions, translation_from, assembly_is_too_large}
use Rattle.translate.proofs.translating.translated.Goals as goal

pub assemble-requires-clause-complete : goal.assemble-requires-clause-complete
assemble-requires-clause-complete c =
    listed_actions c.args.task.now c.args.parts.atoms c.deref.result.now (c.deref.ensures.value ∙ c.requires.over)

pub assemble-requires-clause-costs : goal.assemble-requires-clause-costs
assemble-requires-clause-costs c =
    let listed = listed_actions c.args.task.now c.args.parts.atoms c.deref.result.now (c.deref.ensures.value ∙ c.requires.over) in
    λ k d l. c.requires.costs _ (listed.grounded k d l)

pub returns-in_err-made-clause-large : goal.returns-in_err-made-clause-large
returns-in_err-made-clause-large c =
    let past : (l : TaskLimit) → c.in_err-made.field-0.0 ≡ assembly.Limit l
    → IsPastLimit (translation c.args.task.now (variables_at c.args.parts.atoms c.args.variables.items) c.args.parts.actions.items) l =
    λ l e.
    subst (λ (vs : List PlacedVariable). IsPastLimit (translation c.args.task.now (variables_at c.args.parts.atoms vs) c.args.parts.actions.items) l) c.deref-2.ensures.value
    (subst (λ (listed : List Action). IsPastLimit (translation c.args.task.now (variables_at c.args.parts.atoms c.deref-2.result.now) listed) l) c.deref.ensures.value
    (c.in_err-made.ensures.limit l e)) in
    fault_passed _ c.in_err-made.field-0.0 _ c.from_residual.ensures.1
    (assembly_is_too_large c.args.task.now c.args.parts.atoms c.args.variables.items c.args.parts.actions.items c.in_err-made.field-0.0 c.requires.over past)

pub returns-clause-translation : goal.returns-clause-translation
returns-clause-translation c =
    translation_from c.args.task.now _ c.requires.placed c.requires.listed c.requires.few_atoms c.args.parts.actions.items c.requires.over c.requires.few_actions c.requires.fit
    (subst (λ (vs : List PlacedVariable). c.in_ok-made.made.task ≡ translation c.args.task.now (variables_at c.args.parts.atoms vs) c.args.parts.actions.items) c.deref-2.ensures.value
    (subst (λ (listed : List Action). c.in_ok-made.made.task ≡ translation c.args.task.now (variables_at c.args.parts.atoms c.deref-2.result.now) listed) c.deref.ensures.value c.in_ok-made.ensures.task))
    (subst (λ (vs : List PlacedVariable). AreCarriedAt (variables_at c.args.parts.atoms vs) c.args.parts.actions.items c.in_ok-made.made.places.items) c.deref-2.ensures.value
    (subst (λ (listed : List Action). AreCarriedAt (variables_at c.args.parts.atoms c.deref-2.result.now) listed c.in_ok-made.made.places.items) c.deref.ensures.value c.in_ok-made.ensures.carried))
    c.recall.ensures.limits
