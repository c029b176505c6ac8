-- The tables of columns as blocks of rows.
use Rattle.std.specs.Prelude.{ℕ, List, Vec}
use Rattle.std.specs.Global.{Global}
use Rattle.scp_rows.specs.declared.flat.Flat.{Flat}
use Rattle.scp_rows.specs.declared.flat.Flat.TheVariants.{Short, Middle, Long}
use Rattle.scp_rows.specs.declared.flat.BlockSums.{BlockSums}
use Rattle.scp_rows.specs.declared.flat.BlockSums.TheVariants.{Short as ShortSums, Middle as MiddleSums, Long as LongSums}
use Rattle.scp_rows.specs.Rows.{MappingRows}

-- the greatest word
abbrev pub most_in : Flat → ℕ
most_in (Short blocks) = 65535
most_in (Middle blocks) = 4294967295
most_in (Long blocks) = 9223372036854775809

abbrev pub blocks_in : Flat → List (Vec MappingRows Global)
blocks_in (Short blocks) = blocks.items
blocks_in (Middle blocks) = blocks.items
blocks_in (Long blocks) = blocks.items

-- the sums, one for each lane
abbrev pub words_in : BlockSums → List ℕ
words_in (ShortSums row) = row.words
words_in (MiddleSums row) = row.words
words_in (LongSums row) = row.words
