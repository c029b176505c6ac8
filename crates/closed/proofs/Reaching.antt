-- Messages that are reached one after the other.
use Rattle.std.proofs.Common.{◌≡◌, ℕ, ◌+◌, ◌<◌, List, [], ◌∷◌, ◌++◌, length, map, drop, fold, get_or, sym, ap, ◌∙◌, arith, append_assoc}
use Rattle.std.specs.Hash.{HashWrites}
use Rattle.std.proofs.lemmas.List.{drop_more, length-map, get_or-map}
use Rattle.owner_theory.specs.Owners.{Node}
use Rattle.closed.specs.declared.message.Message.{Message}
use Rattle.closed.specs.declared.table.Outcome.{Outcome}
use Rattle.closed.specs.declared.rows.Hint.{Hint}
use Rattle.closed.specs.Tables.{reached, outcome_of, outcomes_of, arrival}
use Rattle.closed.specs.Rows.{tag_of}
use Rattle.closed.specs.Hints.{IsHintFor, AreHintsFor}

module _ {F : Type 0} (values : F → List ℕ) (ms : List (Message F)) (i : ℕ) (m : Message F) (before after : List Node) (lt : i < length ms) (is : m ≡ get_or ms i m)
    (step : after ≡ reached before (arrival values m)) where
  -- the nodes of the messages behind
  abbrev pub rest : List Node
  rest = map (arrival values) (drop (i + 1) ms)

  here : map (arrival values) (drop i ms) ≡ arrival values m ∷ rest
  here = ap (λ (xs : List (Message F)). map (arrival values) xs) (drop_more ms i m lt) ∙ ap (λ (x : Message F). arrival values x ∷ rest) (sym is)

  pub one_reached : (all : List Node) → fold reached before (map (arrival values) (drop i ms)) ≡ all → fold reached after rest ≡ all
  one_reached all so_far =
      ap (λ (ns : List Node). fold reached ns rest) step ∙ ap (λ (es : List Node). fold reached before es) (sym here) ∙ so_far

  pub one_outcome : (old new : List Outcome) (outcome : Outcome) (all : List Outcome) → new ≡ old ++ outcome ∷ []
      → outcome ≡ outcome_of before (arrival values m) → old ++ outcomes_of before (map (arrival values) (drop i ms)) ≡ all → new ++ outcomes_of after rest ≡ all
  one_outcome old new outcome all pushed was so_far =
      ap (λ (os : List Outcome). os ++ outcomes_of after rest) pushed
      ∙ append_assoc old (outcome ∷ []) (outcomes_of after rest)
      ∙ ap (λ (o : Outcome). old ++ o ∷ outcomes_of after rest) was
      ∙ ap (λ (ns : List Node). old ++ outcome_of before (arrival values m) ∷ outcomes_of ns rest) step
      ∙ ap (λ (es : List Node). old ++ outcomes_of before es) (sym here)
      ∙ so_far

-- the hint for a message
pub hint_at : {F : Type 0} (writes : F → HashWrites) (ms : List (Message F)) (hints : List Hint) (k : ℕ) (m : Message F) (none : Hint)
    → AreHintsFor writes ms hints → k < length ms → m ≡ get_or ms k m → IsHintFor writes m.state (get_or hints k none)
hint_at {F = F} writes ms hints k m none are lt is =
    let tag = λ (h : Hint). h.tag in
    let its = λ (x : Message F). tag_of (writes x.state) in
    let long : length hints ≡ length ms = sym (length-map hints tag) ∙ ap length are ∙ length-map ms its in
    sym (get_or-map tag hints k none 0 (omega (arith, lt, long)))
    ∙ ap (λ (ts : List ℕ). get_or ts k 0) are
    ∙ get_or-map its ms k m 0 lt
    ∙ ap its (sym is)
