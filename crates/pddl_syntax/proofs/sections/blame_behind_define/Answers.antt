use Rattle.std.proofs.Common.{[], ap, ◌∙◌}
use Rattle.sexp.specs.Forms.{Forms, views}
use Rattle.pddl_syntax.specs.Faults.{first_of}
use Rattle.pddl_syntax.specs.Sections as spec
use Rattle.pddl_syntax.proofs.HeadSteps.{noted_3}
use Rattle.pddl_syntax.proofs.sections.blame_behind_define.Goals as goal

pub returns : goal.returns
returns c =
    let file = c.args.file in let home = c.args.home in let f = views c.args.items.now in
    noted_3 c.args.first.now c.blame_title_part.new.first c.blame_sections.new.first c.blame_missing_goal.new.first
    (spec.second_faults file home f) (spec.section_faults file [] (spec.behind f)) (spec.goal_missing_faults file home (spec.behind f))
    c.blame_title_part.ensures
    (c.in_ok-blame_sections.ensures ∙ ap (λ (g : Forms). first_of c.blame_title_part.new.first (spec.section_faults file [] g)) c.without_first-sections.ensures)
    (c.blame_missing_goal.ensures ∙ ap (λ (g : Forms). first_of c.blame_sections.new.first (spec.goal_missing_faults file home g)) c.without_first-sections.ensures)
