use Rattle.std.proofs.Common.{◌+◌, [], ◌∷◌, map, arith}
use Rattle.std.specs.List.{range_with_len}
use Rattle.std.proofs.lemmas.List.FromFn.{map-range_with_len_more}
use Rattle.sasfile_writer.specs.Written.{pair_line}
use Rattle.sasfile_writer.proofs.Appends.{more_lines_as}
use Rattle.sasfile_writer.proofs.groups.push_atoms.Goals as goal

pub loop-value-preserved : goal.loop-value-preserved
loop-value-preserved c =
    let line = pair_line c.args.variable in let value = c.loop-value.value in
    more_lines_as (map line (range_with_len 0 (value + 1))) (map line (range_with_len 0 value)) (line value ∷ []) c.args.out.now.items c.loop-value.out.items c.push_pair_line.new.out.items
    (map-range_with_len_more line 0 value value (omega arith)) c.loop-value.invariant c.in_ok-push_pair_line.ensures
