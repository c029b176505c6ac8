use Rattle.std.proofs.Common.{ℕ, [], ◌∷◌, sym, ap, ◌∙◌}
use Rattle.sexp.specs.Forms.{Forms, views}
use Rattle.pddl_syntax.specs.declared.fault.FaultKind.TheVariants.{Shape}
use Rattle.pddl_syntax.specs.Faults.{fault, first_of}
use Rattle.pddl_syntax.specs.Sections as spec
use Rattle.pddl_syntax.proofs.Trees.{first_of_nil}
use Rattle.pddl_syntax.proofs.HeadSteps.{views_first, noted_one, more_step}
use Rattle.pddl_syntax.proofs.sections.blame_more.Goals as goal

pub returns-in-len1-up : goal.returns-in-len1-up
returns-in-len1-up c =
    let ts = c.args.items.now in let t = c.extra-item.result in let g = spec.behind (views ts) in
    sym (noted_one c.args.first.now c.blame.new.first (fault Shape c.start_of.result) [] c.blame.ensures ∙ first_of_nil c.blame.new.first)
    ∙ ap (λ (p : ℕ). first_of c.args.first.now (fault Shape p ∷ [])) (c.start_of.ensures g)
    ∙ sym (ap (λ (f : Forms). first_of c.args.first.now (spec.more_faults f)) (views_first ts t c.in-len1-up.len_at_least c.extra-item.is) ∙ ap (first_of c.args.first.now) (more_step t g))
