use Rattle.std.proofs.Common.{[], sym, ap, ◌∙◌}
use Rattle.sexp.specs.Forms.{Forms}
use Rattle.pddl_syntax.specs.declared.fault.FaultKind.TheVariants.{Shape}
use Rattle.pddl_syntax.specs.Faults.{fault, first_of}
use Rattle.pddl_syntax.specs.Sections as spec
use Rattle.pddl_syntax.proofs.Trees.{first_of_nil}
use Rattle.pddl_syntax.proofs.HeadSteps.{views_none, noted_one, tested_first, name_step}
use Rattle.pddl_syntax.proofs.sections.blame_name.Goals as goal

pub returns-in-empty : goal.returns-in-empty
returns-in-empty c =
    sym (noted_one c.args.first.now c.blame.new.first (fault Shape c.args.home) [] c.blame.ensures ∙ first_of_nil c.blame.new.first)
    ∙ sym (ap (λ (f : Forms). first_of c.args.first.now (spec.name_faults c.args.home f)) (views_none c.args.items.now c.in-empty.len_below))

pub returns-in-len1-up : goal.returns-in-len1-up
returns-in-len1-up c =
    let ts = c.args.items.now in let t = c.name-item.result in
    tested_first c.args.first.now c.blame_if.new.first c.blame_more.new.first ts t (spec.name_faults c.args.home) spec.more_faults spec.has_name c.is_name.result c.start_of.result
    c.in-len1-up.len_at_least c.name-item.is (name_step c.args.home t) c.is_name.ensures c.start_of.ensures c.blame_if.ensures
    (c.blame_more.ensures ∙ ap (λ (f : Forms). first_of c.blame_if.new.first (spec.more_faults f)) c.without_first.ensures)
