use Rattle.sasfile_reader.proofs.Cuts.{split_last, split_first}
use Rattle.sasfile_reader.proofs.pieces.first_piece.Goals as goal

pub returns-in-empty-clause-pieces : goal.returns-in-empty-clause-pieces
returns-in-empty-clause-pieces c =
    split_last c.args.separator c.piece_length-end.result c.args.bytes.now c.split_at.result.0.now c.split_at.result.1.now c.requires c.piece_length-end.ensures.within c.piece_length-end.ensures.before c.split_at.ensures.front c.split_at.ensures.back c.in-empty.len_below

pub returns-in-len1-up-clause-pieces : goal.returns-in-len1-up-clause-pieces
returns-in-len1-up-clause-pieces c =
    split_first c.args.separator c.piece_length-end.result c.args.bytes.now c.split_at.result.0.now c.split_at.result.1.now c.piece_length-end.ensures.within c.piece_length-end.ensures.before c.piece_length-end.ensures.found c.split_at.ensures.front c.split_at.ensures.back c.in-len1-up.len_at_least
