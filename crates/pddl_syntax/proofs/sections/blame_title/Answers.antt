use Rattle.std.proofs.Common.{ℕ, List, [], sym, ap, ◌∙◌}
use Rattle.sexp.specs.Forms.{Forms, before}
use Rattle.pddl_syntax.specs.declared.fault.FaultKind.TheVariants.{Shape}
use Rattle.pddl_syntax.specs.Faults.{fault, first_of}
use Rattle.pddl_syntax.specs.Sections as spec
use Rattle.pddl_syntax.proofs.Trees.{first_of_nil}
use Rattle.pddl_syntax.proofs.HeadSteps.{views_none, noted_one, tested_first, title_step}
use Rattle.pddl_syntax.proofs.sections.blame_title.Goals as goal

pub returns-in-empty : goal.returns-in-empty
returns-in-empty c =
    sym (noted_one c.args.first.now c.blame.new.first (fault Shape c.args.home) [] c.blame.ensures ∙ first_of_nil c.blame.new.first)
    ∙ sym (ap (λ (f : Forms). first_of c.args.first.now (spec.title_faults c.args.file c.args.home f)) (views_none c.args.items.now c.in-empty.len_below))

pub returns-in-len1-up : goal.returns-in-len1-up
returns-in-len1-up c =
    let ts = c.args.items.now in let t = c.word-item.result in
    tested_first c.args.first.now c.blame_if.new.first c.blame_name.new.first ts t (spec.title_faults c.args.file c.args.home) (spec.name_faults c.args.home) (spec.has_head (spec.title_word c.args.file)) c.is_word.result c.start_of.result
    c.in-len1-up.len_at_least c.word-item.is (title_step c.args.file c.args.home t)
    (λ g. c.is_word.ensures g ∙ ap (λ (w : List ℕ). spec.has_head w (before t g)) c.title_word.ensures) c.start_of.ensures c.blame_if.ensures
    (c.blame_name.ensures ∙ ap (λ (f : Forms). first_of c.blame_if.new.first (spec.name_faults c.args.home f)) c.without_first.ensures)
