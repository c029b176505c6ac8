use Rattle.std.proofs.Common.{◌++◌, [], ◌∷◌, ℕ, length, sym, ap, ◌∙◌}
use Rattle.std.specs.Prelude.{decimal}
use Rattle.std.specs.List.{flat_map}
use Rattle.std.proofs.lemmas.Result.{on_ok_weaker}
use Rattle.sasfile_writer.specs.Written.{text_of_lines, group_lines, groups_of}
use Rattle.sasfile_writer.proofs.Appends.{more_lines, groups_counted}
use Rattle.sasfile_writer.proofs.groups.push_group_list.Goals as goal

pub returns : goal.returns
returns c =
    let o = c.args.out.now.items in let groups = groups_of c.args.sizes.now in
    let same = c.group_count.ensures ∙ sym (groups_counted c.args.sizes.now) in
    let one = c.in_ok-push_number_line.ensures ∙ ap (λ (n : ℕ). o ++ text_of_lines (decimal n ∷ [])) same in
    on_ok_weaker c.push_groups.result
    (more_lines (decimal (length groups) ∷ []) (flat_map (λ (e : ℕ × ℕ). group_lines e.0 e.1) groups) o c.push_number_line.new.out.items c.push_groups.new.out.items one) c.push_groups.ensures
