use Rattle.std.proofs.Common.{refl, sym, ap, ◌∙◌}
use Rattle.std.specs.String.{string_bytes}
use Rattle.sexp.specs.Forms.{none}
use Rattle.pddl_syntax.specs.Sections as spec
use Rattle.pddl_syntax.proofs.Trees.{word_is, list_is}
use Rattle.pddl_syntax.proofs.sections.sections_of.Goals as goal

pub returns-in-Word : goal.returns-in-Word
returns-in-Word c = let rest = none in sym (ap spec.sections (word_is c.args.root.now c.in-Word.text c.in-Word.span (string_bytes c.in-Word.text) rest c.in-Word.is refl))

pub returns-in-List : goal.returns-in-List
returns-in-List c = let rest = none in
    c.without_first.ensures ∙ ap spec.behind c.without_first-behind_define.ensures
    ∙ sym (ap spec.sections (list_is c.args.root.now c.in-List.items c.in-List.span c.deref.result.now rest c.in-List.is c.deref.ensures.value))
