use Rattle.std.proofs.Common.{◌+◌, ◌++◌, ℕ, List, take, map, ap, ◌∙◌, arith}
use Rattle.std.specs.Prelude.{Vec, String}
use Rattle.std.specs.List.{flat_map, enumerate_from}
use Rattle.std.specs.String.{string_bytes}
use Rattle.sasfile_writer.specs.Written.{text_of_lines, variable_lines}
use Rattle.sasfile_writer.proofs.Appends.{more_lines_as, numbered_item}
use Rattle.sasfile_writer.proofs.variables.push_variables.Goals as goal

pub loop-number-preserved : goal.loop-number-preserved
loop-number-preserved c =
    let g = λ (e : ℕ × List (List ℕ)). variable_lines e.0 e.1 in let f = λ (names : Vec (String _) _). map string_bytes names.items in
    let i = c.loop-number.number in let all = c.args.value_names.now in let names = c.index-value_names-number.result in
    let new = c.in_ok-push_variable.ensures ∙ ap (λ (ns : List (String _)). c.loop-number.out.items ++ text_of_lines (variable_lines i (map string_bytes ns))) c.deref.ensures.value in
    more_lines_as (flat_map g (enumerate_from 0 (map f (take (i + 1) all)))) (flat_map g (enumerate_from 0 (map f (take i all)))) (g (i, f names)) c.args.out.now.items c.loop-number.out.items c.push_variable.new.out.items
    (numbered_item g f all i names (omega arith) c.index-value_names-number.is) c.loop-number.invariant new
