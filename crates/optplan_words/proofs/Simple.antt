-- The program's commands are of those whose matches the parser's definitions give.
use Rattle.std.specs.Prelude.{◌≡◌, true, refl}
use Rattle.clap.specs.Words.{is_simple, is_simple_and_free}
use Rattle.optplan_words.specs.Commands.{program}

pub program_is_simple : is_simple program ≡ true
program_is_simple = refl

-- and no rule ties one argument to another
pub program_is_free : is_simple_and_free program ≡ true
program_is_free = refl
