use Rattle.std.proofs.Common.{arith, rules}
use Rattle.std.proofs.lemmas.List.{take_all}
use Rattle.cert_text.proofs.LeadingNumbers.{only_number, number_before_others}
use Rattle.cert_text.proofs.numbers.first_number.Goals as goal

pub returns-in-empty : goal.returns-in-empty
returns-in-empty c =
    rw c.if-words.false (only_number c.args.words.rest.now c.split_at.result.0.now c.split_at.result.1.now c.args.end c.in_ok-number.number c.in_ok-number.count c.in_ok-number.ensures c.split_at.ensures.front c.split_at.ensures.back_len (omega arith))

pub returns-then-separator-eq32 : goal.returns-then-separator-eq32
returns-then-separator-eq32 c =
    rw c.if-words.false (number_before_others c.args.words.rest.now c.split_at.result.0.now c.split_at.result.1.now _ c.args.end c.in_ok-number.number c.in_ok-number.count c.in_ok-number.ensures c.split_at.ensures.front c.split_at.ensures.back c.split_at.ensures.back_len (omega arith) (search rules) (take_all _ _ (search rules)))
