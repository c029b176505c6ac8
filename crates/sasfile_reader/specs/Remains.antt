-- The values of the definitions that the data structures of the code represent.
use Rattle.std.specs.Prelude.{ℕ, List}
use Rattle.sasfile_reader.specs.declared.variables.Variables.{Variables}
use Rattle.sasfile_reader.specs.declared.lines.Lines.{Lines}
use Rattle.sasfile_reader.specs.declared.effects.Halves.{Halves as KeptHalves}
use Rattle.sasfile_reader.specs.declared.reading.Head.{Head as KeptHead}
use Rattle.sasfile_reader.specs.declared.reading.Body.{Body as KeptBody}
use Rattle.fdr.specs.Tasks.{names_in}
use Rattle.sasfile_reader.specs.Lines.{lines}
use Rattle.sasfile_reader.specs.Reading.{Remaining, Halves, Head, Body}

abbrev pub remaining : Lines → Remaining
remaining l = record { number = l.number; lines = lines l.rest.now }

abbrev pub halves : KeptHalves → Halves
halves h = record { precondition = h.precondition.items; effect = h.effect.items }

-- the names of the values of each variable
abbrev pub names_of : Variables → List (List (List ℕ))
names_of v = names_in v.value_names.items

-- the number of values of each variable, as it is stored
abbrev pub ranges_of : Variables → List ℕ
ranges_of v = v.ranges.items

abbrev pub head : KeptHead → Head
head h = record { metric = h.metric; variables = names_of h.variables }

abbrev pub body : KeptBody → Body
body b = record { initial = b.initial.items; goal = b.goal.items; operators = b.operators.items }
