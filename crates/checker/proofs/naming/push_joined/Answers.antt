use Rattle.std.proofs.Common.{ap, ◌∙◌, ◌++◌, string_bytes}
use Rattle.checker.proofs.Lists.{on_ok_map, joined_parts}
use Rattle.checker.proofs.naming.push_joined.Goals as goal

pub returns-in_ok-push_str-in-len1-up : goal.returns-in_ok-push_str-in-len1-up
returns-in_ok-push_str-in-len1-up c =
    on_ok_map _ _ c.push_words.result
    (λ e. joined_parts c.args.words.now c.first-item.result (string_bytes c.args.text.now) (string_bytes c.push_str.new.self) (string_bytes c.push_words.new.text)
    c.in-len1-up.len_at_least c.first-item.is
    (c.in_ok-push_str-in-len1-up.ensures.bytes ∙ ap (λ ys. string_bytes c.args.text.now ++ ys) c.as_str.ensures.value) e)
    c.push_words.ensures
