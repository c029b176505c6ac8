use Rattle.std.proofs.Common.{◌<◌, ◌^◌, arith}
use Rattle.pdb_regression.specs.Words.{room_of}
use Rattle.pdb_regression.proofs.WordLaws.{bits_small, room_small}
use Rattle.pdb_regression.proofs.word.room_of.Goals as goal

pub overflow_shl-result : goal.overflow_shl-result
overflow_shl-result c = bits_small c.args.range c.requires.some c.requires.small

pub returns : goal.returns
returns c = let small : room_of c.args.range < 2 ^ 25 = room_small c.args.range c.requires.some c.requires.small in omega arith
