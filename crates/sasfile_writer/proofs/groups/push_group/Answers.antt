use Rattle.std.proofs.Common.{[], ◌∷◌, ◌++◌, map}
use Rattle.std.specs.Prelude.{codes, decimal}
use Rattle.std.specs.List.{range_with_len}
use Rattle.std.proofs.lemmas.Result.{on_ok_weaker}
use Rattle.sasfile_writer.specs.Written.{pair_line}
use Rattle.sasfile_writer.proofs.Appends.{more_lines}
use Rattle.sasfile_writer.proofs.groups.push_group.Goals as goal

pub returns : goal.returns
returns c =
    let o = c.args.out.now.items in let begin = codes "begin_mutex_group" ∷ [] in let count = decimal c.args.size ∷ [] in
    let atoms = map (pair_line c.args.variable) (range_with_len 0 c.args.size) in
    let two = more_lines begin count o c.push_line.new.out.items c.push_number_line.new.out.items c.in_ok-push_line.ensures c.in_ok-push_number_line.ensures in
    let three = more_lines (begin ++ count) atoms o c.push_number_line.new.out.items c.push_atoms.new.out.items two c.in_ok-push_atoms.ensures in
    on_ok_weaker c.push_line-2.result
    (more_lines ((begin ++ count) ++ atoms) (codes "end_mutex_group" ∷ []) o c.push_atoms.new.out.items c.push_line-2.new.out.items three) c.push_line-2.ensures
