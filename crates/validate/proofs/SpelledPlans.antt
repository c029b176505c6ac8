-- The words that a text spells are plan words, and so are those of its steps.
use Rattle.std.proofs.Common.{◌≡◌, ◌+◌, ℕ, Bool, false, List, [], ◌∷◌, map, Option, Some, None, sym, ap, subst, ◌∙◌, arith}
use Rattle.std.specs.Prelude.{IfSome, IfNone}
use Rattle.std.specs.List.{AllByRecursion}
use Rattle.std.specs.Char.{to_ascii_lowercase}
use Rattle.std.proofs.lemmas.Bool.Decides.{nat_tests}
use Rattle.sexp.specs.declared.byte_kind.ByteKind.TheVariants.{Letter}
use Rattle.sexp.specs.Bytes.{kind}
use Rattle.sexp.specs.declared.tree.Tree.{Tree}
use Rattle.sexp.specs.Forms.{Forms, none, word, group, before}
use Rattle.sexp.specs.Grammar.{Spells}
use Rattle.sexp.proofs.Walking.{at_tree}
use Rattle.validate.specs.Steps.{Step}
use Rattle.validate.specs.PlanTexts.{words_of, step_of, steps_of, with_step}
use Rattle.validate.specs.PlanWords.{IsPlanByte, IsPlanWord, IsPlanStep, AreAll}

lower_letter : (b : ℕ) → kind b ≡ Letter → kind (to_ascii_lowercase b) ≡ Letter
lower_letter b e = grind (arith, nat_tests)

lower_twice : (b : ℕ) → to_ascii_lowercase (to_ascii_lowercase b) ≡ to_ascii_lowercase b
lower_twice b = grind (arith, nat_tests)

plan_bytes : (bs : List ℕ) → AllByRecursion (λ b. kind b ≡ Letter) bs → AllByRecursion IsPlanByte (map to_ascii_lowercase bs)
plan_bytes [] h = tt
plan_bytes (b ∷ bs) h = ((lower_letter b h.0, lower_twice b), plan_bytes bs h.1)

word_is : (letter : ℕ) (letters text : List ℕ) → kind letter ≡ Letter → AllByRecursion (λ b. kind b ≡ Letter) letters → text ≡ map to_ascii_lowercase (letter ∷ letters) → IsPlanWord text
word_is letter letters text first others is = subst IsPlanWord (sym is) (record { some = λ e. absurd cc; bytes = plan_bytes (letter ∷ letters) (first, others) })

pub spelled_are_plan_words : (last : Bool) (levels at : ℕ) (bytes : List ℕ) (f : Forms) → Spells last levels at bytes f → AreAll IsPlanWord f
spelled_are_plan_words last levels at bytes none h = tt
spelled_are_plan_words last levels at bytes (word s e t f) h =
    let begins = h.4 in
    (word_is h.1 h.2 t begins.first begins.others begins.text_is, spelled_are_plan_words last levels e h.3 f h.5)
spelled_are_plan_words last levels at bytes (group s e i f) h =
    (spelled_are_plan_words false (levels + 1) (s + 1) h.1 i h.5, spelled_are_plan_words last levels e h.2 f h.6)

words_plan : (f : Forms) → AreAll IsPlanWord f → AllByRecursion IsPlanWord (words_of f)
words_plan none h = tt
words_plan (word s e t f) h = (h.0, words_plan f h.1)
words_plan (group s e i f) h = words_plan f h.1

-- a list of words, with what is behind it
listed : (i : Forms) (steps : List Step) → AreAll IsPlanWord i → AllByRecursion IsPlanStep steps → AllByRecursion IsPlanStep (with_step (step_of i) steps)
listed none steps h k = k
listed (word s e t f) steps h k = (record { name = h.0; arguments = words_plan f h.1 }, k)
listed (group s e i f) steps h k = k

pub steps_plan : (f : Forms) → AreAll IsPlanWord f → AllByRecursion IsPlanStep (steps_of f)
steps_plan none h = tt
steps_plan (word s e t f) h = steps_plan f h.1
steps_plan (group s e i f) h = listed i (steps_of f) h.0 (steps_plan f h.1)

-- ---- trees

-- what stands behind a tree
pub all_behind : (P : List ℕ → Type 0) (t : Tree) (rest : Forms) → AreAll P (before t rest) → AreAll P rest
all_behind P t rest = at_tree (λ f g. AreAll P f → AreAll P g) (λ s e text g h. h.1) (λ s e inner g h. h.1) t rest

-- the step of a word with what stands behind it, if it is made of these words exactly where they are plan words
pub step_made : (r : Option Step) (f g : Forms) (s e : ℕ) (t name : List ℕ) (arguments : List (List ℕ)) → f ≡ word s e t g → name ≡ t → arguments ≡ words_of g → AreAll IsPlanWord f
    → IfSome r (λ x. x ≡ record { name = name; arguments = arguments }) → IfNone r (IsPlanStep (record { name = name; arguments = arguments }) → ⊥) → r ≡ step_of f
step_made (Some x) f g s e t name arguments is n a all made refused =
    ap Some made ∙ ap (λ (w : List ℕ). Some (record { name = w; arguments = arguments })) n
    ∙ ap (λ (ws : List (List ℕ)). Some (record { name = t; arguments = ws })) a ∙ ap step_of (sym is)
step_made None f g s e t name arguments is n a all made refused =
    let h : AreAll IsPlanWord (word s e t g) = subst (λ (x : Forms). AreAll IsPlanWord x) is all in
    absurd (refused (record { name = subst IsPlanWord (sym n) h.0; arguments = subst (λ (ws : List (List ℕ)). AllByRecursion IsPlanWord ws) (sym a) (words_plan g h.1) }))
