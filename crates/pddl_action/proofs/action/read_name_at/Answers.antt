use Rattle.std.proofs.Common.{sym, ap, ◌∙◌}
use Rattle.sexp.specs.Forms.{Forms}
use Rattle.pddl_syntax.specs.Faults.{first_of}
use Rattle.pddl_syntax.proofs.Trees.{word_is}
use Rattle.pddl_action.specs.Actions.{with_action_name, named_faults}
use Rattle.pddl_action.proofs.action.read_name_at.Goals as goal

pub returns-in_ok-read_name_word-in-Word-clause-names : goal.returns-in_ok-read_name_word-in-Word-clause-names
returns-in_ok-read_name_word-in-Word-clause-names c = λ rest.
    c.in_ok-read_name_word-in-Word.ensures.names c.in-Word.span.end rest
    ∙ sym (ap (with_action_name c.args.names.now) (word_is c.args.tree.now c.in-Word.text c.in-Word.span c.as_str.result.now rest c.in-Word.is c.as_str.ensures.value))

pub returns-in_ok-read_name_word-in-Word-clause-faults : goal.returns-in_ok-read_name_word-in-Word-clause-faults
returns-in_ok-read_name_word-in-Word-clause-faults c = λ home rest.
    c.in_ok-read_name_word-in-Word.ensures.faults home c.in-Word.span.end rest
    ∙ sym (ap (λ (f : Forms). first_of c.args.first.now (named_faults c.args.names.now home f))
    (word_is c.args.tree.now c.in-Word.text c.in-Word.span c.as_str.result.now rest c.in-Word.is c.as_str.ensures.value))
