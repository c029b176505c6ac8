-- The words of a text are words, also in its sections.
use Rattle.std.proofs.Common.{◌≡◌, ◌+◌, ◌&&◌, ◌||◌, ◌==◌, ℕ, Bool, true, false, List, [], ◌∷◌, map, refl, sym, subst, arith, if◌then◌else◌}
use Rattle.std.specs.Prelude.{Option, Some, None, nat_le, option_to_list, All}
use Rattle.std.specs.List.{AllByRecursion}
use Rattle.std.specs.Option.{IfSome}
use Rattle.std.specs.Char.{to_ascii_lowercase}
use Rattle.std.proofs.lemmas.Bool.Decides.{nat_tests}
use Rattle.std.proofs.lemmas.List.Elements.{All-nil, All-cons, All-append, All-map, All-weaker, All-from_recursion}
use Rattle.sexp.specs.declared.byte_kind.ByteKind.TheVariants.{Blank, Semicolon, Open, Close, Letter, Strange}
use Rattle.sexp.specs.Bytes.{kind}
use Rattle.sexp.specs.Forms.{Forms, none, word, group, behind}
use Rattle.sexp.specs.Grammar.{Spells}
use Rattle.pddl_syntax.specs.Sections.{Part, root_parts, sections, has_head, one_section, or_else, section, all_sections}
use Rattle.pddl.specs.Texts.{inside, inside_of}
use Rattle.pddl_laws.specs.Known.{IsWordByte, IsWord}

-- ---- the words of a text

letter_is : (b : ℕ) → kind b ≡ Letter → IsWordByte b
letter_is b e = by (b == 9 || b == 10 || b == 13 || b == 32) (b == 59) (b == 40) (b == 41) (nat_le 33 b && nat_le b 126) refl e where
  between : (nat_le 33 b && nat_le b 126) ≡ true → IsWordByte b
  between h = (grind (arith, nat_tests), grind (arith, nat_tests))

  by : (blank semicolon open_ close letter : Bool) → (nat_le 33 b && nat_le b 126) ≡ letter
      → (if blank then Blank else (if semicolon then Semicolon else (if open_ then Open else (if close then Close else (if letter then Letter else Strange))))) ≡ Letter → IsWordByte b
  by true semicolon open_ close letter h k = absurd cc
  by false true open_ close letter h k = absurd cc
  by false false true close letter h k = absurd cc
  by false false false true letter h k = absurd cc
  by false false false false true h k = between h
  by false false false false false h k = absurd cc

lower_is : (b : ℕ) → IsWordByte b → IsWordByte (to_ascii_lowercase b)
lower_is b h = let low = h.0 in let high = h.1 in (grind (arith, nat_tests), grind (arith, nat_tests))

word_is : (letter : ℕ) (letters text : List ℕ) → kind letter ≡ Letter → AllByRecursion (λ b. kind b ≡ Letter) letters → text ≡ map to_ascii_lowercase (letter ∷ letters) → IsWord text
word_is letter letters text first others is =
    subst IsWord (sym is) (record { some = λ e. absurd cc; printed = All-map IsWordByte to_ascii_lowercase (letter ∷ letters) lower })
  where
    lower : All (λ (b : ℕ). IsWordByte (to_ascii_lowercase b)) (letter ∷ letters)
    lower =
        All-weaker (λ (b : ℕ). kind b ≡ Letter) (λ (b : ℕ). IsWordByte (to_ascii_lowercase b)) (λ (b : ℕ) k. lower_is b (letter_is b k)) (letter ∷ letters)
        (All-cons (λ (b : ℕ). kind b ≡ Letter) letter letters first (All-from_recursion (λ (b : ℕ). kind b ≡ Letter) letters others))

-- each word of the forms, also within lists, is a word
abbrev pub AreWords : Forms → Type 0
AreWords none = Unit {0}
AreWords (word s e t f) = IsWord t × AreWords f
AreWords (group s e i f) = AreWords i × AreWords f

pub spelled_are_words : (last : Bool) (levels at : ℕ) (bytes : List ℕ) (f : Forms) → Spells last levels at bytes f → AreWords f
spelled_are_words last levels at bytes none h = tt
spelled_are_words last levels at bytes (word s e t f) h =
    let begins = h.4 in
    (word_is h.1 h.2 t begins.first begins.others begins.text_is, spelled_are_words last levels e h.3 f h.5)
spelled_are_words last levels at bytes (group s e i f) h =
    (spelled_are_words false (levels + 1) (s + 1) h.1 i h.5, spelled_are_words last levels e h.2 f h.6)

-- ---- the sections

behind_words : (f : Forms) → AreWords f → AreWords (behind f)
behind_words none h = tt
behind_words (word s e t f) h = h.1
behind_words (group s e i f) h = h.1

pub sections_words : (root : Forms) → AreWords root → AreWords (sections root)
sections_words root h = behind_words (behind (root_parts root)) (behind_words (root_parts root) (parts root h)) where
  parts : (f : Forms) → AreWords f → AreWords (root_parts f)
  parts none h = tt
  parts (word s e t f) h = tt
  parts (group s e i f) h = h.0

abbrev pub HasWordsInside : Part → Type 0
HasWordsInside a = AreWords a.inside

one_section_words : (w : List ℕ) (s : ℕ) (i : Forms) → AreWords i → IfSome (one_section w s i) HasWordsInside
one_section_words w s i h = by (has_head w i) where
  by : (b : Bool) → IfSome (if b then Some (record { at = s; inside = behind i }) else None) HasWordsInside
  by true = behind_words i h
  by false = tt

section_words : (w : List ℕ) (f : Forms) → AreWords f → IfSome (section w f) HasWordsInside
section_words w none h = tt
section_words w (word s e t f) h = section_words w f h.1
section_words w (group s e i f) h = by (one_section w s i) (section w f) (one_section_words w s i h.0) (section_words w f h.1) where
  by : (here later : Option Part) → IfSome here HasWordsInside → IfSome later HasWordsInside → IfSome (or_else here later) HasWordsInside
  by (Some a) later k l = k
  by None later k l = l

pub inside_words : (root : Forms) (name : List ℕ) → AreWords root → AreWords (inside_of root name)
inside_words root name h = by (section name (sections root)) (section_words name (sections root) (sections_words root h)) where
  by : (o : Option Part) → IfSome o HasWordsInside → AreWords (inside o)
  by None k = tt
  by (Some a) k = k

pub all_sections_words : (w : List ℕ) (f : Forms) → AreWords f → All HasWordsInside (all_sections w f)
all_sections_words w none h = All-nil HasWordsInside
all_sections_words w (word s e t f) h = all_sections_words w f h.1
all_sections_words w (group s e i f) h =
    All-append HasWordsInside (option_to_list (one_section w s i)) (all_sections w f) (by (one_section w s i) (one_section_words w s i h.0)) (all_sections_words w f h.1)
  where
    by : (o : Option Part) → IfSome o HasWordsInside → All HasWordsInside (option_to_list o)
    by None k = All-nil HasWordsInside
    by (Some a) k = All-cons HasWordsInside a [] k (All-nil HasWordsInside)
