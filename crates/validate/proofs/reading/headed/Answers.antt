use Rattle.std.proofs.Common.{refl, ◌∙◌}
use Rattle.std.specs.String.{string_bytes}
use Rattle.sexp.specs.Forms.{before, views}
use Rattle.sexp.proofs.Walking.{word_is}
use Rattle.pddl_names.specs.Names.{texts_of}
use Rattle.validate.proofs.SpelledPlans.{step_made}
use Rattle.validate.proofs.reading.headed.Goals as goal

pub returns-in_ok-arguments-in-Word : goal.returns-in_ok-arguments-in-Word
returns-in_ok-arguments-in-Word c =
    let rest = views c.args.arguments.now in
    let text = string_bytes c.in-Word.text in
    step_made c.new.result (before c.args.name.now rest) rest c.in-Word.span.start c.in-Word.span.end text (string_bytes c.in_ok-name-in-Word.name) (texts_of c.in_ok-arguments-in-Word.arguments.items)
    (word_is c.args.name.now c.in-Word.text c.in-Word.span text rest c.in-Word.is refl)
    (c.in_ok-name-in-Word.ensures.ok ∙ c.as_str.ensures.value) c.in_ok-arguments-in-Word.ensures c.requires c.new.ensures.some c.new.ensures.none
