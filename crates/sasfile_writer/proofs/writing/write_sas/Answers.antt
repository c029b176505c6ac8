use Rattle.std.proofs.Common.{ℕ, List, [], ◌∷◌, ◌++◌, length, map, ap, ◌∙◌}
use Rattle.std.specs.Prelude.{codes, decimal}
use Rattle.std.specs.List.{flat_map, enumerate_from}
use Rattle.fdr.specs.Tasks.{FiniteDomainTask, names_in}
use Rattle.sasfile_writer.specs.Written.{version_lines, metric_lines, variable_lines, group_lines, groups_of, fact_lines, operator_lines, written}
use Rattle.sasfile_writer.proofs.Appends.{more_lines, same_task}
use Rattle.sasfile_writer.proofs.writing.write_sas.Goals as goal

pub returns : goal.returns
returns c =
    let names = names_in c.value_names.result.now in let sizes = c.args.sizes.now in let groups = groups_of sizes in
    let metric = version_lines ++ metric_lines c.has_metric.result in
    let variables = decimal (length names) ∷ flat_map (λ (e : ℕ × List (List ℕ)). variable_lines e.0 e.1) (enumerate_from 0 names) in
    let group_list = decimal (length groups) ∷ flat_map (λ (e : ℕ × ℕ). group_lines e.0 e.1) groups in
    let state = codes "begin_state" ∷ (map decimal c.initial.result.now ++ codes "end_state" ∷ []) in
    let goal_lines = codes "begin_goal" ∷ (fact_lines c.goal.result.now ++ codes "end_goal" ∷ []) in
    let operators = decimal (length c.operators.result.now) ∷ flat_map operator_lines c.operators.result.now in
    let two = more_lines version_lines (metric_lines c.has_metric.result) [] c.in_ok-out.out.items c.push_metric.new.out.items c.in_ok-out.ensures.items c.in_ok-push_metric.ensures in
    let three = more_lines metric variables [] c.push_metric.new.out.items c.push_variable_list.new.out.items two c.in_ok-push_variable_list.ensures in
    let four = more_lines (metric ++ variables) group_list [] c.push_variable_list.new.out.items c.push_group_list.new.out.items three c.in_ok-push_group_list.ensures in
    let five = more_lines ((metric ++ variables) ++ group_list) state [] c.push_group_list.new.out.items c.push_state.new.out.items four c.in_ok-push_state.ensures in
    let six = more_lines (((metric ++ variables) ++ group_list) ++ state) goal_lines [] c.push_state.new.out.items c.push_goal.new.out.items five c.in_ok-push_goal.ensures in
    let seven = more_lines ((((metric ++ variables) ++ group_list) ++ state) ++ goal_lines) operators [] c.push_goal.new.out.items c.push_operator_list.new.out.items six c.in_ok-push_operator_list.ensures in
    let all = more_lines (((((metric ++ variables) ++ group_list) ++ state) ++ goal_lines) ++ operators) (codes "0" ∷ []) [] c.push_operator_list.new.out.items c.extend_from_slice.new.self.items seven c.in_ok-extend_from_slice.ensures.items in
    let same = same_task c.args.task.now c.has_metric.result names c.initial.result.now c.goal.result.now c.operators.result.now
    c.has_metric.ensures c.value_names.ensures c.initial.ensures.value c.goal.ensures.value c.operators.ensures.value in
    all ∙ ap (λ (task : FiniteDomainTask). written task sizes) same
