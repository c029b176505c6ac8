use Rattle.std.proofs.Common.{arith, rules}
use Rattle.std.proofs.lemmas.List.{take_all}
use Rattle.cert_text.proofs.PieceLaws.{split_whole, split_first}
use Rattle.cert_text.proofs.words.Words.first.Goals as goal

pub returns-in-empty-clause-words : goal.returns-in-empty-clause-words
returns-in-empty-clause-words c =
    rw c.if-self.false (split_whole 32 c.args.self.rest.now c.split_at.result.0.now c.split_at.result.1.now c.piece_length.result c.piece_length.ensures.within c.piece_length.ensures.before c.split_at.ensures.front c.split_at.ensures.back_len (omega arith))

pub returns-in-len1-up-clause-words : goal.returns-in-len1-up-clause-words
returns-in-len1-up-clause-words c =
    rw c.if-self.false (split_first 32 c.args.self.rest.now c.split_at.result.0.now c.split_at.result.1.now _ c.piece_length.result c.piece_length.ensures.before c.piece_length.ensures.found c.split_at.ensures.front c.split_at.ensures.back c.split_at.ensures.back_len (omega arith) (take_all _ _ (search rules)))
