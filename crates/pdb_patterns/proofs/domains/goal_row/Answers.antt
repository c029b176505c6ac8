use Rattle.std.proofs.Common.{◌≡◌, ◌≤◌, map, ap, ◌∙◌, sym, subst}
use Rattle.std.specs.List.{range_with_len}
use Rattle.abstraction_domain.specs.Rows.{Row, class_count}
use Rattle.abstraction_domain.proofs.Numbering.{numbered_by_test}
use Rattle.pdb_patterns.specs.GoalClasses.{AreGoalClasses, goal_class}
use Rattle.pdb_patterns.proofs.Classes.{goal_classes, few_goal_classes}
use Rattle.pdb_patterns.proofs.domains.goal_row.Goals as goal

pub unreachable-requires : goal.unreachable-requires
unreachable-requires c =
    let is = rw c.in_ok-classes.ensures at c.in-Err.ensures.misnumbered in
    let classes = map (goal_class c.args.limit c.args.goal) (range_with_len 0 c.args.range) in
    is.misnumbered ((numbered_by_test classes).0 (goal_classes c.args.limit c.args.goal c.requires.some c.args.range).numbered _ is.within)

pub returns-clause-classes : goal.returns-clause-classes
returns-clause-classes c =
    let are : c.in-Ok.row.classes ≡ map (goal_class c.args.limit c.args.goal) (range_with_len 0 c.args.range) =
    ap (λ (r : Row). r.classes) c.in-Ok.ensures.row ∙ c.in_ok-classes.ensures in
    subst (AreGoalClasses c.args.limit c.args.goal c.args.range) (sym are) (goal_classes c.args.limit c.args.goal c.requires.some c.args.range)

pub returns-clause-few : goal.returns-clause-few
returns-clause-few c =
    let are : c.in-Ok.row.classes ≡ map (goal_class c.args.limit c.args.goal) (range_with_len 0 c.args.range) =
    ap (λ (r : Row). r.classes) c.in-Ok.ensures.row ∙ c.in_ok-classes.ensures in
    subst (λ classes. class_count classes ≤ c.args.limit) (sym are) (few_goal_classes c.args.limit c.args.goal c.requires.some c.args.range)
