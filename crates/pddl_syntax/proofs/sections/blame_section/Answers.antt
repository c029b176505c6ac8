use Rattle.std.proofs.Common.{refl, ap, ◌∙◌}
use Rattle.std.specs.String.{string_bytes}
use Rattle.sexp.specs.Forms.{Forms, group, views}
use Rattle.pddl_syntax.specs.declared.fault.FaultKind.TheVariants.{Shape}
use Rattle.pddl_syntax.specs.Faults.{fault, first_of}
use Rattle.pddl_syntax.specs.Sections as spec
use Rattle.pddl_syntax.proofs.Trees.{word_is, list_is}
use Rattle.pddl_syntax.proofs.HeadSteps.{views_first, views_none, noted_one}
use Rattle.pddl_syntax.proofs.sections.blame_section.Goals as goal

pub returns-in-Word : goal.returns-in-Word
returns-in-Word c = λ rest.
    let old = c.args.first.now in
    ap (λ (f : Forms). first_of old (spec.section_faults c.args.file c.args.seen.now f)) (word_is c.args.tree.now c.in-Word.text c.in-Word.span (string_bytes c.in-Word.text) rest c.in-Word.is refl)
    ∙ noted_one old c.blame.new.first (fault Shape c.in-Word.span.start) (spec.section_faults c.args.file c.args.seen.now rest) c.blame.ensures

pub returns-in-empty : goal.returns-in-empty
returns-in-empty c = λ rest.
    let old = c.args.first.now in let s = c.in-List.span in
    ap (λ (f : Forms). first_of old (spec.section_faults c.args.file c.args.seen.now f)) (list_is c.args.tree.now c.in-List.items s c.as_slice.result.now rest c.in-List.is c.as_slice.ensures.value)
    ∙ ap (λ (i : Forms). first_of old (spec.section_faults c.args.file c.args.seen.now (group s.start s.end i rest))) (views_none c.as_slice.result.now c.in-empty.len_below)
    ∙ noted_one old c.blame-in-empty.new.first (fault Shape s.start) (spec.section_faults c.args.file c.args.seen.now rest) c.blame-in-empty.ensures

pub returns-in_ok-blame_section_head-in-len1-up : goal.returns-in_ok-blame_section_head-in-len1-up
returns-in_ok-blame_section_head-in-len1-up c = λ rest.
    let old = c.args.first.now in let s = c.in-List.span in let ts = c.as_slice.result.now in
    ap (λ (f : Forms). first_of old (spec.section_faults c.args.file c.args.seen.now f)) (list_is c.args.tree.now c.in-List.items s ts rest c.in-List.is c.as_slice.ensures.value)
    ∙ ap (λ (i : Forms). first_of old (spec.section_faults c.args.file c.args.seen.now (group s.start s.end i rest))) (views_first ts c.head-item.result c.in-len1-up.len_at_least c.head-item.is)
    ∙ c.in_ok-blame_section_head-in-len1-up.ensures s.start s.end (spec.behind (views ts)) rest
