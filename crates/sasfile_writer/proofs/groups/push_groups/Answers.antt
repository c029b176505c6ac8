use Rattle.std.proofs.Common.{◌≡◌, ◌+◌, ℕ, List, ◌++◌, take, get_or, refl, ap, sym, ◌∙◌, true, false, arith}
use Rattle.std.specs.Prelude.{nat_le}
use Rattle.std.specs.List.{flat_map}
use Rattle.std.proofs.lemmas.Bool.Decides.{nat_tests}
use Rattle.sasfile_writer.specs.Written.{text_of_lines, group_lines, groups_of}
use Rattle.sasfile_writer.proofs.Appends.{more_lines_as, group_item, group_none}
use Rattle.sasfile_writer.proofs.groups.push_groups.Goals as goal
use Rattle.sasfile_writer.proofs.groups.push_groups.Goals.{then-are_several+in_ok-push_group, else-are_several}

pub loop-variable-preserved : goal.loop-variable-preserved
loop-variable-preserved c =
    let g = λ (e : ℕ × ℕ). group_lines e.0 e.1 in let i = c.loop-variable.variable in let sizes = c.args.sizes.now in
    elim c.if-are_several.branch [
      | then-are_several+in_ok-push_group w ↦ (
          let many : nat_le 2 (get_or sizes i 0) ≡ true = grind (arith, nat_tests) in
          let same : c.if-are_several.out.items ≡ w.push_group.new.out.items = cc in
          more_lines_as (flat_map g (groups_of (take (i + 1) sizes))) (flat_map g (groups_of (take i sizes))) (g (i, get_or sizes i 0)) c.args.out.now.items c.loop-variable.out.items c.if-are_several.out.items
          (group_item g sizes i (get_or sizes i 0) (omega arith) refl many) c.loop-variable.invariant (same ∙ w.in_ok-push_group.ensures))
      | else-are_several w ↦ (
          let few : nat_le 2 (get_or sizes i 0) ≡ false = grind (arith, nat_tests) in
          let same : c.if-are_several.out.items ≡ c.loop-variable.out.items = cc in
          same ∙ c.loop-variable.invariant ∙ ap (λ (es : List (ℕ × ℕ)). c.args.out.now.items ++ text_of_lines (flat_map g es)) (sym (group_none sizes i (get_or sizes i 0) (omega arith) refl few)))
    ]
