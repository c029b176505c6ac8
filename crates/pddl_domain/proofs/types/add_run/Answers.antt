use Rattle.std.proofs.Common.{List, drop, length, map, take, ◌-◌, sym, ap, ◌∙◌}
use Rattle.std.proofs.lemmas.Result.{on_ok_weaker}
use Rattle.pddl_names.specs.Names.{with_name}
use Rattle.pddl_syntax.specs.declared.typed.Named.{Named}
use Rattle.pddl_syntax.specs.Typed.{with_type, parent_text}
use Rattle.pddl_syntax.specs.Parameters.{names_with}
use Rattle.pddl_domain.specs.Types.{all_types, with_parent}
use Rattle.pddl_domain.proofs.TypeSteps.{types_of_run, first_and_others}
use Rattle.pddl_domain.proofs.types.add_run.Goals as goal

pub returns-in_ok-add_parent-in-len1-up : goal.returns-in_ok-add_parent-in-len1-up
returns-in_ok-add_parent-in-len1-up c =
    let ns = c.as_slice.result.now in let n = c.head-item.result in let p = parent_text c.args.run.now in let names = c.args.names.now in
    let others = take (length ns - 1) (drop 1 ns) in
    on_ok_weaker c.add_names.result (λ h.
    h p
    ∙ ap (λ (k : List (List _)). names_with k (map (with_type p) others))
    (c.in_ok-add_parent-in-len1-up.ensures ∙ ap (λ (k : List (List _)). with_parent k p) (c.in_ok-add-in-len1-up.ensures.names ∙ ap (with_name names) c.as_str.ensures.value))
    ∙ sym (ap (λ (xs : List Named). all_types names (map (with_type p) xs)) (sym c.as_slice.ensures.value ∙ first_and_others ns n c.in-len1-up.len_at_least c.head-item.is)
    ∙ types_of_run p n others names)) c.add_names.ensures
