-- The names of operators spell the steps of their actions.
use Rattle.std.proofs.Common.{◌≡◌, ℕ, ◌+◌, zero, suc, ◌<◌, lit<, get_or, take, false, List, [], ◌∷◌, ◌++◌, Option, Some, refl, sym, ap, subst, ◌∙◌, arith}
use Rattle.std.specs.Prelude.{◌==◌, All, map, length, codes, slice_get, slice_index_or}
use Rattle.std.specs.List.{flat_map, position_or_len, before_first, after_first}
use Rattle.std.specs.Option.{option_map, option_map_or}
use Rattle.std.specs.Str.{NoCharPasses}
use Rattle.std.proofs.lemmas.Bool.{ne_eqb}
use Rattle.std.proofs.lemmas.Bool.Decides.{nat_tests}
use Rattle.std.proofs.lemmas.List.{append-nil, map_more}
use Rattle.std.proofs.lemmas.List.Elements.{All-nil, All-cons, All-head, All-tail, All-weaker, All-from_get_or}
use Rattle.std.proofs.lemmas.List.Splits.{slice_split_none, slice_split_at, slice_split_first}
use Rattle.std.proofs.lemmas.Option.{slice_get-map, slice_get_read, unwrap_or-slice_get}
use Rattle.std.proofs.lemmas.Str.Pattern.{NoCharPasses-char}
use Rattle.fdr.specs.Tasks.{FiniteDomainTask, Operator}
use Rattle.pddl_task.specs.Planning.{PlanningTask, Vocabulary, Action}
use Rattle.pddl_laws.specs.Known.{IsWordByte, IsWord, HasWords}
use Rattle.translate_theory.specs.Names.{object_name, action_name}
use Rattle.translate_theory.specs.Translations.{operator_of}
use Rattle.translate_theory.specs.Variables.{variables_at}
use Rattle.translate.specs.Translated.{TranslatedTask, IsTranslation, AreOperatorsOf, operator_actions}
use Rattle.validate.specs.Steps.{Step}
use Rattle.validate.specs.Written.{name_of, spaced}
use Rattle.optplan_pddl.specs.Plans.{step_of}
use Rattle.validate.specs.PlanWords.{IsPlanStep}
use Rattle.optplan_pddl.specs.Steps.{words_of, step_of_words, HasStepNames, operator_step}

-- ---- the name of an action, from the words of its step

pub name_is : (names : List (List ℕ)) (n : ℕ) → slice_index_or names n [] ≡ name_of names n
name_is names n = sym (unwrap_or-slice_get names n [])

spaced_objects : (names : Vocabulary) (os : List ℕ) → flat_map (λ o. codes " " ++ object_name names o) os ≡ spaced (map (name_of names.objects) os)
spaced_objects names [] = refl
spaced_objects names (o ∷ os) =
    ap (λ (w : List ℕ). (codes " " ++ w) ++ flat_map (λ o. codes " " ++ object_name names o) os) (name_is names.objects o)
    ∙ ap (λ (rest : List ℕ). (codes " " ++ name_of names.objects o) ++ rest) (spaced_objects names os)

pub action_words : (names : Vocabulary) (a : Action) → action_name names a ≡ name_of names.schemas a.schema ++ spaced (map (name_of names.objects) a.objects)
action_words names a =
    ap (λ (w : List ℕ). w ++ flat_map (λ o. codes " " ++ object_name names o) a.objects) (name_is names.schemas a.schema)
    ∙ ap (λ (rest : List ℕ). name_of names.schemas a.schema ++ rest) (spaced_objects names a.objects)

-- ---- the words of a name

-- there is no blank in it
abbrev IsClear : List ℕ → Type 0
IsClear w = All (λ b. (b == 32) ≡ false) w

clear_byte : (b : ℕ) → IsWordByte b → (b == 32) ≡ false
clear_byte b h = let low = h.0 in grind (arith, nat_tests)

word_clear : (w : List ℕ) → IsWord w → IsClear w
word_clear w h = All-weaker IsWordByte (λ b. (b == 32) ≡ false) clear_byte w h.printed

name_clear : (names : List (List ℕ)) (n : ℕ) → All IsWord names → IsClear (name_of names n)
name_clear [] n h = All-nil (λ b. (b == 32) ≡ false)
name_clear (w ∷ ws) zero h = word_clear w (All-head IsWord w ws h)
name_clear (w ∷ ws) (suc n) h = name_clear ws n (All-tail IsWord w ws h)

-- words with single blanks between them are found again
words_again : (w : List ℕ) (ws : List (List ℕ)) → IsClear w → All IsClear ws → words_of (w ++ spaced ws) ≡ w ∷ ws
words_again w [] h k = ap words_of (append-nil w) ∙ slice_split_none (λ b. b == 32) w h
words_again w (v ∷ ws) h k =
    slice_split_at (λ b. b == 32) w 32 (v ++ spaced ws) h refl
    ∙ ap (λ (rest : List (List ℕ)). w ∷ rest) (words_again v ws (All-head IsClear v ws k) (All-tail IsClear v ws k))

names_clear : (names : List (List ℕ)) (ns : List ℕ) → All IsWord names → All IsClear (map (name_of names) ns)
names_clear names [] h = All-nil IsClear
names_clear names (n ∷ ns) h = All-cons IsClear (name_of names n) (map (name_of names) ns) (name_clear names n h) (names_clear names ns h)

pub spelled_again : (names : Vocabulary) (a : Action) → HasWords names → step_of_words (words_of (action_name names a)) ≡ step_of names a
spelled_again names a h =
    ap (λ (text : List ℕ). step_of_words (words_of text)) (action_words names a)
    ∙ ap step_of_words (words_again (name_of names.schemas a.schema) (map (name_of names.objects) a.objects)
    (name_clear names.schemas a.schema h.of_schemas) (names_clear names.objects a.objects h.of_objects))

-- ---- a name, cut at its first blank

pub step_cut : (text name : List ℕ) (arguments : List (List ℕ)) → position_or_len (λ b. b == 32) text < length text → name ≡ before_first (λ b. b == 32) text
    → arguments ≡ words_of (after_first (λ b. b == 32) text) → record { name = name; arguments = arguments } ≡ step_of_words (words_of text)
step_cut text name arguments within n a =
    ap (λ (w : List ℕ). step_of_words (w ∷ arguments)) n
    ∙ ap (λ (ws : List (List ℕ)). step_of_words (before_first (λ b. b == 32) text ∷ ws)) a
    ∙ ap step_of_words (sym (slice_split_first (λ b. b == 32) text 0 within))

pub step_alone : (text name : List ℕ) (arguments : List (List ℕ)) → NoCharPasses (λ b. b == 32) text → name ≡ text → arguments ≡ []
    → record { name = name; arguments = arguments } ≡ step_of_words (words_of text)
step_alone text name arguments free n a =
    ap (λ (w : List ℕ). step_of_words (w ∷ arguments)) n ∙ ap (λ (ws : List (List ℕ)). step_of_words (text ∷ ws)) a
    ∙ ap step_of_words (sym (slice_split_none (λ b. b == 32) text
    (All-from_get_or (λ b. (b == 32) ≡ false) text 0 (λ i l. ne_eqb (get_or text i 0) 32 (NoCharPasses-char 32 text i free (lit< tt) l)))))

-- ---- the operators of a translation

pub operator_step_at : (f : FiniteDomainTask) (ops : List Operator) (o : ℕ) (op : Operator) → ops ≡ f.operators → o < length f.operators → op ≡ get_or ops o op
    → step_of_words (words_of op.name) ≡ operator_step f o
operator_step_at f ops o op same within at =
    ap (λ (r : Option Operator). step_of_words (words_of (option_map_or (λ (x : Operator). x.name) r [])))
    (sym (ap (λ (xs : List Operator). slice_get xs o) (sym same) ∙ slice_get_read ops (length f.operators) o op (ap length (sym same)) within at))

-- the name of an operator spells a step, where all do
pub step_name_at : (f : FiniteDomainTask) (ops : List Operator) (o : ℕ) (op : Operator) → ops ≡ f.operators → HasStepNames f → o < length f.operators → op ≡ get_or ops o op
    → IsPlanStep (step_of_words (words_of op.name))
step_name_at f ops o op same names within at =
    subst (λ (x : Operator). IsPlanStep (step_of_words (words_of x.name))) (sym (at ∙ ap (λ (xs : List Operator). get_or xs o op) same)) (names o op within)

-- with the step of one operator more
pub steps_more : (f : FiniteDomainTask) (plan : List ℕ) (i : ℕ) (steps more : List Step) (step : Step) → i < length plan → step ≡ operator_step f (get_or plan i 0)
    → steps ≡ map (operator_step f) (take i plan) → more ≡ steps ++ step ∷ [] → more ≡ map (operator_step f) (take (i + 1) plan)
steps_more f plan i steps more step within last first is =
    is ∙ ap (λ (x : Step). steps ++ x ∷ []) last ∙ ap (λ (xs : List Step). xs ++ operator_step f (get_or plan i 0) ∷ []) first
    ∙ sym (map_more (operator_step f) plan i 0 within)

module _ (task : PlanningTask) (t : TranslatedTask) (made : IsTranslation task t) where
  -- the operators are those of the actions
  pub operators_are : t.task.operators ≡ map (operator_of task.vocabulary (variables_at t.atoms t.variables)) (operator_actions task t)
  operators_are =
      ap (λ (f : FiniteDomainTask). f.operators) made.task_is
      ∙ ap (map (operator_of task.vocabulary (variables_at t.atoms t.variables))) (sym made.actions_are)

  pub operator_at : (a : Action) (o : ℕ) → slice_get (operator_actions task t) o ≡ Some a
      → slice_get t.task.operators o ≡ Some (operator_of task.vocabulary (variables_at t.atoms t.variables) a)
  operator_at a o e =
      ap (λ (ops : List Operator). slice_get ops o) operators_are
      ∙ slice_get-map (operator_of task.vocabulary (variables_at t.atoms t.variables)) (operator_actions task t) o
      ∙ ap (option_map (operator_of task.vocabulary (variables_at t.atoms t.variables))) e

  -- the name of an operator, if there is such an operator
  pub operator_name : (a : Action) (o : ℕ) → slice_get (operator_actions task t) o ≡ Some a
      → option_map_or (λ (op : Operator). op.name) (slice_get t.task.operators o) [] ≡ action_name task.vocabulary a
  operator_name a o e = ap (λ (r : Option Operator). option_map_or (λ (op : Operator). op.name) r []) (operator_at a o e)

  pub steps_are_named : (actions : List Action) (plan : List ℕ) → HasWords task.vocabulary → AreOperatorsOf task t actions plan
      → map (operator_step t.task) plan ≡ map (step_of task.vocabulary) actions
  steps_are_named [] [] h pairs = refl
  steps_are_named [] (o ∷ plan) h pairs = absurd pairs
  steps_are_named (a ∷ actions) [] h pairs = absurd pairs
  steps_are_named (a ∷ actions) (o ∷ plan) h pairs =
      rw (ap (λ (text : List ℕ). step_of_words (words_of text)) (operator_name a o pairs.0) ∙ spelled_again task.vocabulary a h, steps_are_named actions plan h pairs.1) refl
