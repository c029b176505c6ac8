-- The kinds of words.
use Rattle.std.specs.Prelude.{ℕ, ◌==◌, ◌||◌, Bool, true, false, if◌then◌else◌, List, [], ◌∷◌}
use Rattle.std.specs.List.{list_any}
use Rattle.pddl_names.specs.Names.{same_text}
use Rattle.pddl_syntax.specs.declared.word.WordKind.{WordKind}
use Rattle.pddl_syntax.specs.declared.word.WordKind.TheVariants.{Dash, Name, Variable, Other}

-- A lone hyphen, a name, which begins with neither a colon nor a question mark, a variable, which is a question mark
-- and more, or none of these.
abbrev pub word_kind : List ℕ → WordKind
word_kind [] = Other
word_kind (b ∷ []) = if b == 45 then Dash else (if b == 58 || b == 63 then Other else Name)
word_kind (b ∷ c ∷ cs) = if b == 58 then Other else (if b == 63 then Variable else Name)

abbrev pub is_name_kind : WordKind → Bool
is_name_kind Name = true
is_name_kind kind = false

abbrev pub is_name : List ℕ → Bool
is_name t = is_name_kind (word_kind t)

abbrev pub starts_with_colon : List ℕ → Bool
starts_with_colon [] = false
starts_with_colon (b ∷ bs) = b == 58

-- the text is one of these words
abbrev pub is_one_of : List (List ℕ) → List ℕ → Bool
is_one_of ws t = list_any (λ w. same_text t w) ws
