-- The tokens of a text that spells expressions are those of the expressions, and the case of letters changes no token.
use Rattle.std.proofs.Common.{◌≡◌, ◌≢◌, ℕ, ◌+◌, ◌==◌, Bool, true, false, inl, inr, List, [], ◌∷◌, ◌++◌, map, length, refl, sym, ap, ap₂, subst, ◌∙◌, arith, if◌then◌else◌, append_assoc, append-nil}
use Rattle.std.specs.List.{AllByRecursion}
use Rattle.std.specs.Char.{to_ascii_lowercase}
use Rattle.std.proofs.lemmas.Bool.{ne_eqb, eq-eqb}
use Rattle.std.proofs.lemmas.Bool.Decides.{nat_tests}
use Rattle.std.proofs.lemmas.List.{length-map}
use Rattle.sexp.specs.declared.byte_kind.ByteKind.{ByteKind}
use Rattle.sexp.specs.declared.byte_kind.ByteKind.TheVariants.{Blank, Semicolon, Open, Close, Letter, Strange}
use Rattle.sexp.specs.Forms.{Forms, none, word, group}
use Rattle.sexp.specs.Bytes.{kind}
use Rattle.sexp.specs.Grammar.{IsGap, IsComment, IsApart, Spells, SpellsAll}
use Rattle.pddl_task.specs.Planning.{PlanningTask}
use Rattle.pddl.specs.Texts.{IsTree, SpellTask}
use Rattle.pddl_layout.specs.Shapes.{erased, SameShape}
use Rattle.pddl_layout.specs.Tokens.{Token, opening, closing, letters, from_byte, from_word, tokens, tokens_in_comment, tokens_in_word, tokens_of}
use Rattle.pddl_layout.proofs.SectionShapes.{same_value}
use Rattle.pddl_layout.proofs.TokenReading.{tokens_task}

-- ---- gaps

-- nothing follows the end of the text
abbrev IsLast : Bool → List ℕ → Type 0
IsLast last rest = last ≡ true → rest ≡ []

by_kind : (b : ℕ) (bs : List ℕ) (k : ByteKind) → kind b ≡ k → tokens (b ∷ bs) ≡ from_byte k (tokens bs) (tokens_in_comment bs) (tokens_in_word (to_ascii_lowercase b ∷ []) bs)
by_kind b bs k e = ap (λ (x : ByteKind). from_byte x (tokens bs) (tokens_in_comment bs) (tokens_in_word (to_ascii_lowercase b ∷ []) bs)) e

mutual
  gap_tokens : (last : Bool) (bs rest : List ℕ) → IsLast last rest → IsGap last bs → tokens (bs ++ rest) ≡ tokens rest
  gap_tokens last [] rest end h = refl
  gap_tokens last (b ∷ bs) rest end (inl h) = by_kind b (bs ++ rest) Blank h.0 ∙ gap_tokens last bs rest end h.1
  gap_tokens last (b ∷ bs) rest end (inr h) = by_kind b (bs ++ rest) Semicolon h.0 ∙ comment_tokens last bs rest end h.1

  comment_tokens : (last : Bool) (bs rest : List ℕ) → IsLast last rest → IsComment last bs → tokens_in_comment (bs ++ rest) ≡ tokens rest
  comment_tokens true [] rest end h = subst (λ (x : List ℕ). tokens_in_comment x ≡ tokens x) (sym (end refl)) refl
  comment_tokens false [] rest end h = absurd h
  comment_tokens last (b ∷ bs) rest end (inl h) = ap (λ (x : Bool). if x then tokens (bs ++ rest) else tokens_in_comment (bs ++ rest)) (eq-eqb b 10 h.0) ∙ gap_tokens last bs rest end h.1
  comment_tokens last (b ∷ bs) rest end (inr h) = ap (λ (x : Bool). if x then tokens (bs ++ rest) else tokens_in_comment (bs ++ rest)) (ne_eqb b 10 h.0) ∙ comment_tokens last bs rest end h.1

-- ---- words

letters_tokens : (bs rest t : List ℕ) → AllByRecursion (λ b. kind b ≡ Letter) bs → tokens_in_word t (bs ++ rest) ≡ tokens_in_word (t ++ map to_ascii_lowercase bs) rest
letters_tokens [] rest t h = ap (λ (x : List ℕ). tokens_in_word x rest) (sym (append-nil t))
letters_tokens (b ∷ bs) rest t h =
    ap (λ (k : ByteKind). from_word k t (tokens_in_word (t ++ to_ascii_lowercase b ∷ []) (bs ++ rest)) (from_byte k (tokens (bs ++ rest)) (tokens_in_comment (bs ++ rest)) [])) h.0
    ∙ letters_tokens bs rest (t ++ to_ascii_lowercase b ∷ []) h.1
    ∙ ap (λ (x : List ℕ). tokens_in_word x rest) (append_assoc t (to_ascii_lowercase b ∷ []) (map to_ascii_lowercase bs))

ended_by : (k : ByteKind) (t : List ℕ) (more later comment begun : List Token) → k ≢ Letter → from_word k t more (from_byte k later comment []) ≡ letters t ∷ from_byte k later comment begun
ended_by Blank t more later comment begun ne = refl
ended_by Semicolon t more later comment begun ne = refl
ended_by Open t more later comment begun ne = refl
ended_by Close t more later comment begun ne = refl
ended_by Letter t more later comment begun ne = absurd (ne refl)
ended_by Strange t more later comment begun ne = refl

word_tokens : (t rest : List ℕ) → IsApart rest → tokens_in_word t rest ≡ letters t ∷ tokens rest
word_tokens t [] h = refl
word_tokens t (b ∷ bs) h = ended_by (kind b) t (tokens_in_word (t ++ to_ascii_lowercase b ∷ []) bs) (tokens bs) (tokens_in_comment bs) (tokens_in_word (to_ascii_lowercase b ∷ []) bs) h

apart_before : (bs rest : List ℕ) → IsApart bs → IsApart rest → IsApart (bs ++ rest)
apart_before [] rest h k = k
apart_before (b ∷ bs) rest h k = h

-- ---- expressions

not_letter : kind 41 ≢ Letter
not_letter e = absurd cc

spelled_tokens : (last : Bool) (levels at : ℕ) (bytes rest : List ℕ) (f : Forms) → IsApart rest → IsLast last rest → Spells last levels at bytes f → tokens (bytes ++ rest) ≡ tokens_of f ++ tokens rest
spelled_tokens last levels at bytes rest none apart end h = gap_tokens last bytes rest end h
spelled_tokens last levels at bytes rest (word s e t f) apart end (front, letter, more, back, w, others) =
    ap (λ (x : List ℕ). tokens (x ++ rest)) w.parts
    ∙ ap tokens (append_assoc front (letter ∷ (more ++ back)) rest)
    ∙ gap_tokens false front (letter ∷ ((more ++ back) ++ rest)) (λ x. absurd cc) w.gap
    ∙ by_kind letter ((more ++ back) ++ rest) Letter w.first
    ∙ ap (tokens_in_word (to_ascii_lowercase letter ∷ [])) (append_assoc more back rest)
    ∙ letters_tokens more (back ++ rest) (to_ascii_lowercase letter ∷ []) w.others
    ∙ ap (λ (x : List ℕ). tokens_in_word x (back ++ rest)) (sym w.text_is)
    ∙ word_tokens t (back ++ rest) (apart_before back rest w.longest apart)
    ∙ ap (λ (ts : List Token). letters t ∷ ts) (spelled_tokens last levels e back rest f apart end others)
spelled_tokens last levels at bytes rest (group s e i f) apart end (front, inside, back, g, within, inner, others) =
    ap (λ (x : List ℕ). tokens (x ++ rest)) g.parts
    ∙ ap tokens (append_assoc front (40 ∷ (inside ++ (41 ∷ back))) rest)
    ∙ gap_tokens false front (40 ∷ ((inside ++ (41 ∷ back)) ++ rest)) (λ x. absurd cc) g.gap
    ∙ ap (λ (x : List ℕ). opening ∷ tokens x) (append_assoc inside (41 ∷ back) rest)
    ∙ ap (λ (ts : List Token). opening ∷ ts) (spelled_tokens false (levels + 1) (s + 1) inside (41 ∷ (back ++ rest)) i not_letter (λ x. absurd cc) inner)
    ∙ ap (λ (ts : List Token). opening ∷ (tokens_of i ++ closing ∷ ts)) (spelled_tokens last levels e back rest f apart end others)
    ∙ ap (λ (ts : List Token). opening ∷ ts) (sym (append_assoc (tokens_of i) (closing ∷ tokens_of f) (tokens rest)))

-- a text has the tokens of its expressions
pub tree_tokens : (text : List ℕ) (f : Forms) → SpellsAll text f → tokens text ≡ tokens_of f
tree_tokens text f h = ap tokens (sym (append-nil text)) ∙ spelled_tokens true 0 0 text [] f tt (λ x. refl) h.1 ∙ append-nil (tokens_of f)

tokens_of_erased : (f : Forms) → tokens_of (erased f) ≡ tokens_of f
tokens_of_erased none = refl
tokens_of_erased (word s e t f) = ap (λ (ts : List Token). letters t ∷ ts) (tokens_of_erased f)
tokens_of_erased (group s e i f) = ap₂ (λ (ts us : List Token). opening ∷ (ts ++ closing ∷ us)) (tokens_of_erased i) (tokens_of_erased f)

pub shape_tokens : (text other : List ℕ) (f g : Forms) → IsTree text f → IsTree other g → SameShape f g → tokens text ≡ tokens other
shape_tokens text other f g tree under e = tree_tokens text f tree.1 ∙ same_value tokens_of f g tokens_of_erased e ∙ sym (tree_tokens other g under.1)

-- ---- the case of letters

kind_lower : (b : ℕ) → kind (to_ascii_lowercase b) ≡ kind b
kind_lower b = grind (arith, nat_tests)

lower_twice : (b : ℕ) → to_ascii_lowercase (to_ascii_lowercase b) ≡ to_ascii_lowercase b
lower_twice b = grind (arith, nat_tests)

line_feed_lower : (b : ℕ) → (to_ascii_lowercase b == 10) ≡ (b == 10)
line_feed_lower b = grind (arith, nat_tests)

abbrev lower : List ℕ → List ℕ
lower bs = map to_ascii_lowercase bs

from_both : (k : ByteKind) {a b c x y z : List Token} → a ≡ x → b ≡ y → c ≡ z → from_byte k a b c ≡ from_byte k x y z
from_both k p q r = ap₂ (λ (f : List Token → List Token) (ts : List Token). f ts) (ap₂ (from_byte k) p q) r

mutual
  tokens_lower : (bs : List ℕ) → tokens (lower bs) ≡ tokens bs
  tokens_lower [] = refl
  tokens_lower (b ∷ bs) =
      rw (kind_lower b, lower_twice b) (from_both (kind b) (tokens_lower bs) (comment_lower bs) (word_lower (to_ascii_lowercase b ∷ []) bs))

  comment_lower : (bs : List ℕ) → tokens_in_comment (lower bs) ≡ tokens_in_comment bs
  comment_lower [] = refl
  comment_lower (b ∷ bs) =
      rw (line_feed_lower b) (ap₂ (λ (ts us : List Token). if b == 10 then ts else us) (tokens_lower bs) (comment_lower bs))

  word_lower : (t bs : List ℕ) → tokens_in_word t (lower bs) ≡ tokens_in_word t bs
  word_lower t [] = refl
  word_lower t (b ∷ bs) =
      rw (kind_lower b, lower_twice b)
      (ap₂ (from_word (kind b) t) (word_lower (t ++ to_ascii_lowercase b ∷ []) bs) (from_both (kind b) (tokens_lower bs) (comment_lower bs) refl))

pub case_tokens : (text other : List ℕ) → lower text ≡ lower other → tokens text ≡ tokens other
case_tokens text other e = sym (tokens_lower text) ∙ ap tokens e ∙ tokens_lower other

same_length : (text other : List ℕ) → lower text ≡ lower other → length other ≡ length text
same_length text other e = sym (length-map other to_ascii_lowercase) ∙ ap length (sym e) ∙ length-map text to_ascii_lowercase

pub case_task : (domain problem other_domain other_problem : List ℕ) (t : PlanningTask) → lower domain ≡ lower other_domain → lower problem ≡ lower other_problem
    → SpellTask domain problem t → SpellTask other_domain other_problem t
case_task domain problem other_domain other_problem t e g s =
    tokens_task domain problem other_domain other_problem t (case_tokens domain other_domain e) (case_tokens problem other_problem g)
    (omega (arith, same_length domain other_domain e, s.domain_tree.1.0)) (omega (arith, same_length problem other_problem g, s.problem_tree.1.0)) s
