use Rattle.std.proofs.Common.{ap, ◌∙◌, codes}
use Rattle.sexp.specs.Forms.{Forms}
use Rattle.pddl_syntax.specs.Faults.{first_of}
use Rattle.pddl_syntax.specs.Sections as spec
use Rattle.pddl_syntax.proofs.Trees.{on_ok}
use Rattle.pddl_syntax.proofs.HeadSteps.{tested_first, define_step}
use Rattle.pddl_syntax.proofs.sections.blame_root.Goals as goal

pub returns-in-len1-up : goal.returns-in-len1-up
returns-in-len1-up c =
    let ts = c.args.items.now in let t = c.define-item.result in let file = c.args.file in let home = c.args.home in
    on_ok c.blame_behind_define.result _ _ (λ e.
    tested_first c.args.first.now c.blame_if.new.first c.blame_behind_define.new.first ts t (spec.root_faults file home) (spec.behind_define_faults file home) (spec.has_head (codes "define")) c.is_word.result c.start_of.result
    c.in-len1-up.len_at_least c.define-item.is (define_step file home t) c.is_word.ensures c.start_of.ensures c.blame_if.ensures
    (e ∙ ap (λ (f : Forms). first_of c.blame_if.new.first (spec.behind_define_faults file home f)) c.without_first.ensures))
    c.blame_behind_define.ensures
