use Rattle.std.proofs.Common.{[], refl, sym, ap, ◌∙◌}
use Rattle.std.specs.String.{string_bytes}
use Rattle.sexp.specs.Forms.{Forms}
use Rattle.pddl_syntax.specs.declared.fault.FaultKind.TheVariants.{Shape}
use Rattle.pddl_syntax.specs.Faults.{fault, first_of}
use Rattle.pddl_syntax.specs.Sections as spec
use Rattle.pddl_syntax.proofs.Trees.{word_is, list_is, first_of_nil}
use Rattle.pddl_syntax.proofs.HeadSteps.{noted_one}
use Rattle.pddl_syntax.proofs.sections.blame_second.Goals as goal

pub returns-in-Word : goal.returns-in-Word
returns-in-Word c = λ home rest.
    sym (noted_one c.args.first.now c.blame.new.first (fault Shape c.in-Word.span.start) [] c.blame.ensures ∙ first_of_nil c.blame.new.first)
    ∙ sym (ap (λ (f : Forms). first_of c.args.first.now (spec.second_faults c.args.file home f)) (word_is c.args.tree.now c.in-Word.text c.in-Word.span (string_bytes c.in-Word.text) rest c.in-Word.is refl))

pub returns-in-List : goal.returns-in-List
returns-in-List c = λ home rest.
    c.blame_title.ensures ∙ sym (ap (λ (f : Forms). first_of c.args.first.now (spec.second_faults c.args.file home f)) (list_is c.args.tree.now c.in-List.items c.in-List.span c.deref.result.now rest c.in-List.is c.deref.ensures.value))
