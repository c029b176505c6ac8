use Rattle.std.proofs.Common.{ℕ, List, refl, sym, ap, ◌∙◌}
use Rattle.sexp.specs.Forms.{Forms, group}
use Rattle.pddl_syntax.specs.declared.fault.FaultKind.TheVariants.{Shape}
use Rattle.pddl_syntax.specs.Faults.{fault, first_of}
use Rattle.pddl_syntax.specs.Sections as spec
use Rattle.pddl_syntax.proofs.Trees.{word_is, list_is, noted}
use Rattle.pddl_syntax.proofs.HeadSteps.{noted_one, on_ok_2}
use Rattle.pddl_syntax.proofs.sections.blame_section_head.Goals as goal

pub returns-in-Word : goal.returns-in-Word
returns-in-Word c =
    let file = c.args.file in let seen = c.args.seen.now in let old = c.args.first.now in let new = c.blame_head.new.first in let t = c.as_str.result.now in
    on_ok_2 c.blame_head.result _ _ _ (λ seen_is faults_is s e inner rest.
    ap (λ (h : Forms). first_of old (spec.section_faults file seen (group s e h rest))) (word_is c.args.head.now c.in-Word.text c.in-Word.span t inner c.in-Word.is c.as_str.ensures.value)
    ∙ noted old new (spec.section_head_faults file seen c.in-Word.span.start t) (spec.section_faults file (spec.with_head file seen t) rest) faults_is
    ∙ ap (λ (n : List (List ℕ)). first_of new (spec.section_faults file n rest)) (sym seen_is))
    c.blame_head.ensures.seen c.blame_head.ensures.faults

pub returns-in-List : goal.returns-in-List
returns-in-List c = λ s e inner rest.
    let old = c.args.first.now in
    ap (λ (h : Forms). first_of old (spec.section_faults c.args.file c.args.seen.now (group s e h rest))) (list_is c.args.head.now c.in-List.items c.in-List.span c.in-List.items.items inner c.in-List.is refl)
    ∙ noted_one old c.blame.new.first (fault Shape c.in-List.span.start) (spec.section_faults c.args.file c.args.seen.now rest) c.blame.ensures
