use Rattle.std.proofs.Common.{refl, sym, ap, ◌∙◌}
use Rattle.pddl_syntax.specs.Sections as spec
use Rattle.pddl_syntax.proofs.Trees.{word_is, list_is}
use Rattle.pddl_syntax.proofs.sections.is_word.Goals as goal

pub returns-in-Word : goal.returns-in-Word
returns-in-Word c = λ rest. c.eq.ensures ∙ sym (ap (spec.has_head c.args.wanted.now) (word_is c.args.tree.now c.in-Word.text c.in-Word.span c.as_str.result.now rest c.in-Word.is c.as_str.ensures.value))

pub returns-in-List : goal.returns-in-List
returns-in-List c = λ rest. sym (ap (spec.has_head c.args.wanted.now) (list_is c.args.tree.now c.in-List.items c.in-List.span c.in-List.items.items rest c.in-List.is refl))
