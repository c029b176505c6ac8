use Rattle.std.proofs.Common.{sym, ◌≡◌, Some, rules, true, false, ◌∙◌}
use Rattle.std.specs.Prelude.{slice_get}
use Rattle.std.specs.List.{filter_map}
use Rattle.pddl_task.specs.Planning.{has_instance, literal_of, atoms_of}
use Rattle.pddl_task.proofs.ActionLaws.{action_of-made}
use Rattle.pddl_task.proofs.CostLaws.{cost_small}
use Rattle.pddl_task.proofs.task.Task.action_of.Goals as goal

pub exact_cost_of-requires : goal.exact_cost_of-requires
exact_cost_of-requires c =
    let there : slice_get c.args.self.now.schemas c.args.number ≡ Some c.in-Some.schema.now = sym c.in-Some.ensures in
    cost_small c.args.self.now c.args.objects.now c.args.number c.in-Some.schema.now c.requires there

pub returns : goal.returns
returns c =
    let there : slice_get c.args.self.now.schemas c.args.number ≡ Some c.in-Some.schema.now = sym c.in-Some.ensures in
    let has : has_instance c.args.self.now c.in-Some.schema.now c.args.objects.now ≡ true = sym c.in_ok-has_instance.ensures ∙ c.if-not-branch.false in
    let named : c.in_ok-from_slice.field-0.items ≡ c.args.objects.now = search rules in
    let precondition : c.in_ok-literals_of.field-0.items ≡ filter_map (literal_of c.args.objects.now) c.in-Some.schema.now.precondition = search rules in
    let adds : c.in_ok-atoms_of.field-0.items ≡ atoms_of c.args.objects.now true c.in-Some.schema.now.effect = search rules in
    let deletes : c.in_ok-atoms_of-2.field-0.items ≡ atoms_of c.args.objects.now false c.in-Some.schema.now.effect = search rules in
    action_of-made c.args.self.now c.args.number c.args.objects.now c.in-Some.schema.now c.in_ok-from_slice.field-0.items c.in_ok-literals_of.field-0.items
    c.in_ok-atoms_of.field-0.items c.in_ok-atoms_of-2.field-0.items c.in_ok-exact_cost_of.field-0 there has named precondition adds deletes c.in_ok-exact_cost_of.ensures
