use Rattle.std.proofs.Common.{◌+◌, take, arith}
use Rattle.std.specs.List.{flat_map}
use Rattle.sasfile_writer.specs.Written.{operator_lines}
use Rattle.sasfile_writer.proofs.Appends.{more_lines_as, flat_map_item}
use Rattle.sasfile_writer.proofs.operators.push_operators.Goals as goal

pub loop-operator-preserved : goal.loop-operator-preserved
loop-operator-preserved c =
    let i = c.loop-operator.operator-index in let operators = c.args.operators.now in
    more_lines_as (flat_map operator_lines (take (i + 1) operators)) (flat_map operator_lines (take i operators)) (operator_lines c.operator-item.result) c.args.out.now.items c.loop-operator.out.items c.push_operator.new.out.items
    (flat_map_item operator_lines operators i c.operator-item.result (omega arith) c.operator-item.is) c.loop-operator.invariant c.in_ok-push_operator.ensures
