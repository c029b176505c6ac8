use Rattle.std.proofs.Common.{[], sym, ap, ◌∙◌}
use Rattle.sexp.specs.Forms.{Forms, views}
use Rattle.pddl_syntax.specs.declared.fault.FaultKind.TheVariants.{Shape}
use Rattle.pddl_syntax.specs.Faults.{fault, first_of}
use Rattle.pddl_syntax.specs.Sections as spec
use Rattle.pddl_syntax.proofs.Trees.{first_of_nil}
use Rattle.pddl_syntax.proofs.HeadSteps.{views_first, views_none, noted_one}
use Rattle.pddl_syntax.proofs.sections.blame_title_part.Goals as goal

pub returns-in-empty : goal.returns-in-empty
returns-in-empty c =
    sym (noted_one c.args.first.now c.blame.new.first (fault Shape c.args.home) [] c.blame.ensures ∙ first_of_nil c.blame.new.first)
    ∙ sym (ap (λ (f : Forms). first_of c.args.first.now (spec.second_faults c.args.file c.args.home f)) (views_none c.args.items.now c.in-empty.len_below))

pub returns-in-len1-up : goal.returns-in-len1-up
returns-in-len1-up c =
    let ts = c.args.items.now in
    c.blame_second.ensures c.args.home (spec.behind (views ts))
    ∙ sym (ap (λ (f : Forms). first_of c.args.first.now (spec.second_faults c.args.file c.args.home f)) (views_first ts c.title-item.result c.in-len1-up.len_at_least c.title-item.is))
