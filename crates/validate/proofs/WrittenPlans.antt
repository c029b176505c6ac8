-- The text of a plan spells the plan.
use Rattle.std.proofs.Common.{◌≡◌, ℕ, ◌+◌, ◌^◌, ◌<◌, ◌≤◌, Bool, true, false, inl, List, [], ◌∷◌, ◌++◌, length, map, refl, sym, ap, subst, ◌∙◌, arith, append_assoc}
use Rattle.std.specs.List.{flat_map, AllByRecursion}
use Rattle.std.specs.Char.{to_ascii_lowercase}
use Rattle.sexp.specs.declared.byte_kind.ByteKind.TheVariants.{Letter}
use Rattle.sexp.specs.Bytes.{kind}
use Rattle.sexp.specs.Forms.{Forms, none, word, group}
use Rattle.sexp.specs.Grammar.{IsGap, IsApart, Spells}
use Rattle.sexp.specs.Limits.{max_bytes}
use Rattle.validate.specs.Steps.{Step}
use Rattle.validate.specs.Written.{spaced, step_line, plan_text_of}
use Rattle.validate.specs.PlanTexts.{words_of, steps_of, lists_in, shape_faults, max_steps, SpellsPlan}
use Rattle.validate.specs.PlanWords.{IsPlanByte, IsPlanWord, IsPlanStep}
use Rattle.validate.proofs.Comments.{cost_line, cost_gap}

-- ---- words

letters_are : (bs : List ℕ) → AllByRecursion IsPlanByte bs → AllByRecursion (λ b. kind b ≡ Letter) bs
letters_are [] h = tt
letters_are (b ∷ bs) h = (h.0.0, letters_are bs h.1)

lower_is : (bs : List ℕ) → AllByRecursion IsPlanByte bs → bs ≡ map to_ascii_lowercase bs
lower_is [] h = refl
lower_is (b ∷ bs) h = ap (λ (c : ℕ). c ∷ bs) (sym h.0.1) ∙ ap (λ (cs : List ℕ). to_ascii_lowercase b ∷ cs) (lower_is bs h.1)

-- words, each behind a blank, from a place on
abbrev words_forms : ℕ → List (List ℕ) → Forms
words_forms at [] = none
words_forms at (w ∷ ws) = word (at + 1) (at + 1 + length w) w (words_forms (at + 1 + length w) ws)

apart : (ws : List (List ℕ)) → IsApart (spaced ws)
apart [] = tt
apart (w ∷ ws) = λ e. absurd cc

spells_words : (at : ℕ) (ws : List (List ℕ)) → AllByRecursion IsPlanWord ws → Spells false 1 at (spaced ws) (words_forms at ws)
spells_words at [] h = tt
spells_words at ([] ∷ ws) h = absurd (h.0.some refl)
spells_words at ((b ∷ bs) ∷ ws) h = (
  32 ∷ [],
  b,
  bs,
  spaced ws,
  record {
    parts = refl;
    gap = inl (refl, tt);
    first = h.0.bytes.0.0;
    others = letters_are bs h.0.bytes.1;
    longest = apart ws;
    text_is = lower_is (b ∷ bs) h.0.bytes;
    start_is = refl;
    stop_is = refl;
  },
  spells_words (at + 1 + length (b ∷ bs)) ws h.1,
)

-- ---- steps

abbrev step_words : Step → List ℕ
step_words s = s.name ++ spaced s.arguments

abbrev named_forms : ℕ → List ℕ → List (List ℕ) → Forms
named_forms at name arguments = word at (at + length name) name (words_forms (at + length name) arguments)

named_by : (at : ℕ) (name : List ℕ) (arguments : List (List ℕ)) → IsPlanWord name → AllByRecursion IsPlanWord arguments → Spells false 1 at (name ++ spaced arguments) (named_forms at name arguments)
named_by at [] arguments h k = absurd (h.some refl)
named_by at (b ∷ bs) arguments h k = (
  [],
  b,
  bs,
  spaced arguments,
  record {
    parts = refl;
    gap = tt;
    first = h.bytes.0.0;
    others = letters_are bs h.bytes.1;
    longest = apart arguments;
    text_is = lower_is (b ∷ bs) h.bytes;
    start_is = omega arith;
    stop_is = refl;
  },
  spells_words (at + length (b ∷ bs)) arguments k,
)

-- where the list of a step ends that begins at a place
abbrev step_stop : ℕ → Step → ℕ
step_stop start s = start + 1 + length (step_words s) + 1

-- steps in lists, with this many bytes before the first and one before each other
abbrev plan_forms : ℕ → ℕ → List Step → Forms
plan_forms at before [] = none
plan_forms at before (s ∷ steps) = group (at + before) (step_stop (at + before) s) (named_forms (at + before + 1) s.name s.arguments) (plan_forms (step_stop (at + before) s) 1 steps)

line_is : (s : Step) (rest : List ℕ) → step_line s ++ rest ≡ 40 ∷ (step_words s ++ (41 ∷ 10 ∷ rest))
line_is s rest = simp append_assoc

lines_are : (s : Step) (steps : List Step) (tail : List ℕ) → flat_map step_line (s ∷ steps) ++ tail ≡ 40 ∷ (step_words s ++ (41 ∷ 10 ∷ (flat_map step_line steps ++ tail)))
lines_are s steps tail = append_assoc (step_line s) (flat_map step_line steps) tail ∙ line_is s (flat_map step_line steps ++ tail)

spells_steps : (at : ℕ) (before : List ℕ) (steps : List Step) (tail : List ℕ) → IsGap false before → IsGap true (before ++ tail) → IsGap true (10 ∷ tail) → AllByRecursion IsPlanStep steps
    → Spells true 0 at (before ++ (flat_map step_line steps ++ tail)) (plan_forms at (length before) steps)
spells_steps at before [] tail gap end later h = end
spells_steps at before (s ∷ steps) tail gap end later h = (
  before,
  step_words s,
  10 ∷ (flat_map step_line steps ++ tail),
  record { parts = ap (λ (bs : List ℕ). before ++ bs) (lines_are s steps tail); gap = gap; start_is = refl; stop_is = refl },
  omega arith,
  named_by (at + length before + 1) s.name s.arguments h.0.name h.0.arguments,
  spells_steps (step_stop (at + length before) s) (10 ∷ []) steps tail (inl (refl, tt)) later later h.1,
)

-- ---- what these expressions are

no_lists : (at : ℕ) (ws : List (List ℕ)) → lists_in (words_forms at ws) ≡ []
no_lists at [] = refl
no_lists at (w ∷ ws) = no_lists (at + 1 + length w) ws

words_are : (at : ℕ) (ws : List (List ℕ)) → words_of (words_forms at ws) ≡ ws
words_are at [] = refl
words_are at (w ∷ ws) = ap (λ (xs : List (List ℕ)). w ∷ xs) (words_are (at + 1 + length w) ws)

no_faults : (at before : ℕ) (steps : List Step) → shape_faults (plan_forms at before steps) ≡ []
no_faults at before [] = refl
no_faults at before (s ∷ steps) =
    ap (λ (ps : List ℕ). ps ++ shape_faults (plan_forms (step_stop (at + before) s) 1 steps)) (no_lists (at + before + 1 + length s.name) s.arguments) ∙ no_faults (step_stop (at + before) s) 1 steps

steps_are : (at before : ℕ) (steps : List Step) → steps_of (plan_forms at before steps) ≡ steps
steps_are at before [] = refl
steps_are at before (s ∷ steps) =
    ap (λ (ws : List (List ℕ)). record { name = s.name; arguments = ws } ∷ steps_of (plan_forms (step_stop (at + before) s) 1 steps)) (words_are (at + before + 1 + length s.name) s.arguments)
    ∙ ap (λ (xs : List Step). s ∷ xs) (steps_are (step_stop (at + before) s) 1 steps)

text_is : (steps : List Step) (cost : ℕ) (unit : Bool) → plan_text_of steps cost unit ≡ flat_map step_line steps ++ cost_line cost unit
text_is steps cost unit = simp append_assoc

pub written_is : (steps : List Step) (cost : ℕ) (unit : Bool) → AllByRecursion IsPlanStep steps → length steps ≤ max_steps → cost < 2 ^ 64 → length (plan_text_of steps cost unit) ≤ max_bytes → SpellsPlan (plan_text_of steps cost unit) steps
written_is steps cost unit h few room short = record {
  forms = plan_forms 0 0 steps;
  spelled = (short, rw (text_is steps cost unit) (spells_steps 0 [] steps (cost_line cost unit) tt (cost_gap cost unit room) (inl (refl, cost_gap cost unit room)) h));
  lists_of_words = no_faults 0 0 steps;
  steps_are = sym (steps_are 0 0 steps);
  few = few;
}

-- the same of a text, for steps that go by two names
pub written_by : (text : List ℕ) (plan steps : List Step) (cost : ℕ) (unit : Bool) → text ≡ plan_text_of steps cost unit → steps ≡ plan → AllByRecursion IsPlanStep plan → length plan ≤ max_steps
    → cost < 2 ^ 64 → length text ≤ max_bytes → SpellsPlan text plan
written_by text plan steps cost unit is same h few room short =
    let whole = is ∙ ap (λ (xs : List Step). plan_text_of xs cost unit) same in
    subst (λ (bytes : List ℕ). SpellsPlan bytes plan) (sym whole) (written_is plan cost unit h few room (subst (λ (bytes : List ℕ). length bytes ≤ max_bytes) whole short))
