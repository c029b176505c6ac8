use Rattle.std.proofs.Common.{◌++◌, ℕ, List, ap, sym, ◌∙◌, append_assoc}
use Rattle.std.specs.Prelude.{codes}
use Rattle.std.specs.String.{string_bytes}
use Rattle.std.specs.Fmt.{decimal}
use Rattle.validate.specs.Written.{verdict_text}
use Rattle.validate.specs.declared.verdict.Verdict.{Verdict}
use Rattle.validate.proofs.writing.push_verdict.Goals as goal

pub returns-in_ok-push_number-in-NoSuchAction : goal.returns-in_ok-push_number-in-NoSuchAction
returns-in_ok-push_number-in-NoSuchAction c =
    c.in_ok-push_number-in-NoSuchAction.ensures
    ∙ ap (λ (bytes : List ℕ). bytes ++ decimal c.in-NoSuchAction.number) c.in_ok-push_str-in-NoSuchAction.ensures.bytes
    ∙ append_assoc (string_bytes c.args.text.now) (codes "no such action ") (decimal c.in-NoSuchAction.number)
    ∙ sym (ap (λ (v : Verdict). string_bytes c.args.text.now ++ verdict_text c.args.vocabulary.now v) c.in-NoSuchAction.is)
