use Rattle.std.proofs.Common.{◌≡◌, rules, refl, sym, ap, ◌∙◌}
use Rattle.pddl_syntax.specs.Sections as spec
use Rattle.pddl_syntax.proofs.Trees.{word_is, list_is}
use Rattle.pddl_syntax.proofs.sections.is_name.Goals as goal
use Rattle.pddl_syntax.specs.Words.{is_name}

pub returns-in-Word : goal.returns-in-Word
returns-in-Word c = λ rest. let e : c.eq.result ≡ is_name c.as_str.result.now = search rules in e ∙ sym (ap spec.has_name (word_is c.args.tree.now c.in-Word.text c.in-Word.span c.as_str.result.now rest c.in-Word.is c.as_str.ensures.value))

pub returns-in-List : goal.returns-in-List
returns-in-List c = λ rest. sym (ap spec.has_name (list_is c.args.tree.now c.in-List.items c.in-List.span c.in-List.items.items rest c.in-List.is refl))
