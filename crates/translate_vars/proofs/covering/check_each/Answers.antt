use Rattle.std.proofs.Common.{rules, arith, ◌≡◌, ◌<◌, ◌||◌, ◌+◌, ◌++◌, drop, ℕ, List, Some, None, length, refl, sym, ap, ◌∙◌, take, subst}
use Rattle.std.specs.Prelude.{slice_get}
use Rattle.std.proofs.lemmas.Option.{slice_get_read, slice_get-map}
use Rattle.pddl_task.proofs.Lists.{all_mem, mem_get}
use Rattle.translate_theory.specs.Variables.{IsPlaced, variable_at, variables_at}
use Rattle.mutex_index.specs.Groups.{is_constant}
use Rattle.index_rows.specs.Numbers.{has}
use Rattle.pddl_task.specs.Planning.{Action}
use Rattle.translate_vars.specs.Faults.{IsFirstUncovered}
use Rattle.translate_vars.specs.Flags.{Tell, flag_at}
use Rattle.translate_vars.proofs.CountLaws.{written}
use Rattle.translate_vars.proofs.CoverLaws.{one_more_told, covered_variables, uncovered_first}
use Rattle.translate_vars.proofs.OrderLaws.{are_in, fault_is, fault_first, fault_with, one_more_in_order}
use Rattle.translate_vars.proofs.covering.check_each.Goals as goal

pub returns-in-Some-clause-fault : goal.returns-in-Some-clause-fault
returns-in-Some-clause-fault c = λ within grounded over.
    let i = c.args.index.now in
    let v = c.index-variables-number.result in
    let number = c.loop-number.number in
    let vs = variables_at i.atoms c.args.variables.now in
    let there : slice_get c.args.variables.now number ≡ Some v = slice_get_read c.args.variables.now (length c.args.variables.now) number v refl (search rules) c.index-variables-number.is in
    let placed : IsPlaced (length i.atoms) v = all_mem (IsPlaced (length i.atoms)) c.args.variables.now v c.requires.placed (mem_get c.args.variables.now number v there) in
    let told : Tell i.atoms (are_in (take number vs)) c.deref.result.now = rw c.deref.ensures.value c.loop-number.invariant.told in
    let here : slice_get vs number ≡ Some (variable_at i.atoms v) = slice_get-map (variable_at i.atoms) c.args.variables.now number ∙ ap (Rattle.std.specs.Option.option_map (variable_at i.atoms)) there in
    let is : fault_with i.task i.actions (take number vs) number (variable_at i.atoms v) ≡ Some c.in-Some.fault
    = sym (fault_is i c.in_ok-flags.flags c.deref.result.now (take number vs) c.requires.distinct c.in_ok-flags.ensures told number v placed) ∙ sym c.in-Some.ensures in
    fault_first i.task i.atoms c.args.variables.now within grounded i.actions over number (variable_at i.atoms v) here c.loop-number.invariant.in_order c.in-Some.fault is

pub loop-number-preserved : goal.loop-number-preserved
loop-number-preserved c =
    let i = c.args.index.now in
    let v = c.index-variables-number.result in
    let number = c.loop-number.number in
    let vs = variables_at i.atoms c.args.variables.now in
    let there : slice_get c.args.variables.now number ≡ Some v = slice_get_read c.args.variables.now (length c.args.variables.now) number v refl (search rules) c.index-variables-number.is in
    let placed : IsPlaced (length i.atoms) v = all_mem (IsPlaced (length i.atoms)) c.args.variables.now v c.requires.placed (mem_get c.args.variables.now number v there) in
    let told : Tell i.atoms (are_in (take number vs)) c.deref.result.now = rw c.deref.ensures.value c.loop-number.invariant.told in
    let here : slice_get vs number ≡ Some (variable_at i.atoms v) = slice_get-map (variable_at i.atoms) c.args.variables.now number ∙ ap (Rattle.std.specs.Option.option_map (variable_at i.atoms)) there in
    let is : fault_with i.task i.actions (take number vs) number (variable_at i.atoms v) ≡ None
    = sym (fault_is i c.in_ok-flags.flags c.deref.result.now (take number vs) c.requires.distinct c.in_ok-flags.ensures told number v placed) ∙ sym c.in_default.ensures in
    let size : c.loop-number.taken.len ≡ length c.mark.new.flags = omega (arith, c.loop-number.taken.ok.0, c.mark.auto.flags, ap length c.deref_mut.ensures.value) in
    let all : take c.loop-number.taken.len (c.mark.new.flags ++ drop (length c.mark.new.flags) c.loop-number.taken.items) ≡ c.mark.new.flags
    = written c.loop-number.taken.len c.mark.new.flags c.loop-number.taken.items size in
    let marked : (k : ℕ) → k < length c.loop-number.taken.items → flag_at c.mark.new.flags k ≡ (flag_at c.loop-number.taken.items k || has v.places k) = search rules in
    let more : Tell i.atoms (are_in (take (number + 1) vs)) c.mark.new.flags
    = one_more_told i.atoms c.requires.distinct c.args.variables.now number v c.loop-number.taken.items c.mark.new.flags there c.loop-number.invariant.count c.loop-number.invariant.told marked in
    record {
      count = rw all (c.mark.auto.flags ∙ ap length c.deref_mut.ensures.value ∙ c.loop-number.invariant.count);
      in_order = one_more_in_order i.task i.actions vs number (variable_at i.atoms v) here is c.loop-number.invariant.in_order;
      told = rw all more;
    }

pub returns-in-Some-first_unset-clause-fault : goal.returns-in-Some-first_unset-clause-fault
returns-in-Some-first_unset-clause-fault c = λ within grounded over.
    let i = c.args.index.now in
    let constant : Tell i.atoms (is_constant i.task i.actions) c.deref-2.result.now = rw c.deref-2.ensures.value c.in_ok-flags.ensures.constant in
    let taken : Tell i.atoms (are_in (take c.loop-number.number (variables_at i.atoms c.args.variables.now))) c.deref-3.result.now = rw c.deref-3.ensures.value c.loop-number.invariant.told in
    let size : c.len-2.result ≡ length i.atoms = search rules in
    let first : IsFirstUncovered i.task i.actions i.atoms (variables_at i.atoms c.args.variables.now) c.in-Some-first_unset.place
    = uncovered_first i.task i.actions i.atoms c.requires.distinct c.args.variables.now c.requires.placed c.deref-2.result.now c.deref-3.result.now
    c.loop-number.number c.len-2.result c.loop-number-test.false size constant taken c.loop-number.invariant.in_order c.in-Some-first_unset.place c.in-Some-first_unset.ensures.some in
    (within, grounded, subst (λ (as_ : List Action). IsFirstUncovered i.task as_ i.atoms (variables_at i.atoms c.args.variables.now) c.in-Some-first_unset.place) over first)

pub returns-clause-variables : goal.returns-clause-variables
returns-clause-variables c =
    let i = c.args.index.now in
    let constant : Tell i.atoms (is_constant i.task i.actions) c.deref-2.result.now = rw c.deref-2.ensures.value c.in_ok-flags.ensures.constant in
    let taken : Tell i.atoms (are_in (take c.loop-number.number (variables_at i.atoms c.args.variables.now))) c.deref-3.result.now = rw c.deref-3.ensures.value c.loop-number.invariant.told in
    let size : c.len-2.result ≡ length i.atoms = search rules in
    covered_variables i.task i.actions i.atoms c.requires.distinct c.args.variables.now c.requires.placed c.deref-2.result.now c.deref-3.result.now
    c.loop-number.number c.len-2.result c.loop-number-test.false size constant taken c.loop-number.invariant.in_order (c.in-None.ensures.none refl)
