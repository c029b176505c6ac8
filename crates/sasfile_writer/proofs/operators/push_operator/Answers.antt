use Rattle.std.proofs.Common.{◌≡◌, ℕ, List, [], ◌∷◌, ◌++◌, length, map, append_assoc, ap, ◌∙◌}
use Rattle.std.specs.Prelude.{codes, decimal, filter, not}
use Rattle.std.proofs.lemmas.Result.{on_ok_weaker}
use Rattle.fdr.specs.declared.fact.Fact.{Fact}
use Rattle.fdr.specs.Tasks.{Operator, names_variable}
use Rattle.sasfile_writer.specs.Written.{text_of_lines, fact_lines, effect_line, operator_lines}
use Rattle.sasfile_writer.proofs.Appends.{more_lines, same_operator}
use Rattle.sasfile_writer.proofs.operators.push_operator.Goals as goal

pub returns : goal.returns
returns c =
    let o = c.args.out.now.items in let name = c.as_bytes.result.now in let precondition = c.as_slice-precondition.result.now in let effect = c.as_slice-effect.result.now in let cost = c.operator.inside.cost in
    let p = fact_lines (filter (λ (f : Fact). not (names_variable effect f.variable)) precondition) in
    let e = decimal (length effect) ∷ map (effect_line precondition) effect in
    let begin = codes "begin_operator" ∷ [] in let end = codes "end_operator" ∷ [] in
    let two = more_lines begin (name ∷ []) o c.push_line.new.out.items c.push_line-2.new.out.items c.in_ok-push_line.ensures c.in_ok-push_line-2.ensures in
    let three = more_lines (begin ++ name ∷ []) p o c.push_line-2.new.out.items c.push_prevail_list.new.out.items two c.in_ok-push_prevail_list.ensures in
    let four = more_lines ((begin ++ name ∷ []) ++ p) e o c.push_prevail_list.new.out.items c.push_effect_list.new.out.items three c.in_ok-push_effect_list.ensures in
    let five = more_lines (((begin ++ name ∷ []) ++ p) ++ e) (decimal cost ∷ []) o c.push_effect_list.new.out.items c.push_cost.new.out.items four c.in_ok-push_cost.ensures in
    let all = more_lines ((((begin ++ name ∷ []) ++ p) ++ e) ++ decimal cost ∷ []) end o c.push_cost.new.out.items c.push_line-3.new.out.items five in
    let is_name : name ≡ c.args.operator.now.name = c.as_bytes.ensures.value ∙ ap (λ (x : Operator). x.name) c.operator.view_is in
    let is_precondition : precondition ≡ c.args.operator.now.precondition = c.as_slice-precondition.ensures.value ∙ ap (λ (x : Operator). x.precondition) c.operator.view_is in
    let is_effect : effect ≡ c.args.operator.now.effect = c.as_slice-effect.ensures.value ∙ ap (λ (x : Operator). x.effect) c.operator.view_is in
    let is_cost : cost ≡ c.args.operator.now.cost = ap (λ (x : Operator). x.cost) c.operator.view_is in
    let same = same_operator c.args.operator.now name precondition effect cost is_name is_precondition is_effect is_cost in
    on_ok_weaker c.push_line-3.result (λ h. all h ∙ ap (λ (ls : List (List ℕ)). o ++ text_of_lines ls) (append_assoc (((begin ++ name ∷ []) ++ p) ++ e) (decimal cost ∷ []) end) ∙ ap (λ (op : Operator). o ++ text_of_lines (operator_lines op)) same) c.push_line-3.ensures
