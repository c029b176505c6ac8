-- Trees of the same shape: they differ only in the byte offsets of words and lists.
use Rattle.std.specs.Prelude.{◌≡◌}
use Rattle.sexp.specs.Forms.{Forms, none, word, group}

-- the expressions, with 0 for each byte offset
abbrev pub erased : Forms → Forms
erased none = none
erased (word s e t f) = word 0 0 t (erased f)
erased (group s e i f) = group 0 0 (erased i) (erased f)

abbrev pub SameShape : Forms → Forms → Type 0
SameShape f g = erased f ≡ erased g
