-- One worker more whose seat is joined, of those that are left.
use Rattle.std.proofs.Common.{◌≡◌, ℕ, suc, ◌+◌, List, [], ◌∷◌, ◌++◌, map, Option, sym, ap, ◌∙◌, subst, append_assoc, arith}
use Rattle.std.specs.Prelude.{All}
use Rattle.std.proofs.lemmas.List.Elements.{All-cons, All-head, All-tail}
use Rattle.board.specs.declared.views.View.{View}
use Rattle.board.specs.declared.words.Board.{Board}
use Rattle.board.specs.Rule.{joined}
use Rattle.board.specs.Seats.{IsSeatOf, view}
use Rattle.worker.specs.Workers.{WorkerOf}
use Rattle.engine_round.specs.Turns.{WorkedOf}
use Rattle.engine_round.specs.declared.fault.TurnFault.{TurnFault}
use Rattle.engine_round.specs.Jobs.{HasMemory, joined_all}
use Rattle.engine_round.specs.Rounds.{earlier}
use Rattle.engine_round.proofs.Faults.{first_of, first_more}

module _ {S F : Type 0} where
  pub seat_next : (b : Board) (r x : WorkedOf S F) (left rest : List (WorkedOf S F)) → left ≡ r ∷ rest → x ≡ r → All (λ y. IsSeatOf b y.seat) left → IsSeatOf b x.seat
  seat_next b r x left rest e same seats =
      let P : WorkedOf S F → Type 0 = λ y. IsSeatOf b y.seat in
      subst P (sym same) (All-head P r rest (subst (All P) e seats))

  pub seats_left : (b : Board) (r : WorkedOf S F) (left rest : List (WorkedOf S F)) → left ≡ r ∷ rest → All (λ y. IsSeatOf b y.seat) left
      → All (λ y. IsSeatOf b y.seat) rest
  seats_left b r left rest e seats = let P : WorkedOf S F → Type 0 = λ y. IsSeatOf b y.seat in All-tail P r rest (subst (All P) e seats)

  pub joined_next : (v w all : View) (r x : WorkedOf S F) (left rest : List (WorkedOf S F)) → left ≡ r ∷ rest → x ≡ r → w ≡ joined v (view x.seat)
      → joined_all v left ≡ all → joined_all w rest ≡ all
  joined_next v w all r x left rest e same now before =
      ap (λ u. joined_all u rest) (now ∙ ap (λ (y : WorkedOf S F). joined v (view y.seat)) same) ∙ (ap (joined_all v) (sym e) ∙ before)

  pub worker_next : (ws new all : List (WorkerOf S F)) (w : WorkerOf S F) (r x : WorkedOf S F) (left rest : List (WorkedOf S F)) → left ≡ r ∷ rest → x ≡ r
      → w ≡ x.worker → new ≡ ws ++ w ∷ [] → ws ++ map (λ y. y.worker) left ≡ all → new ++ map (λ y. y.worker) rest ≡ all
  worker_next ws new all w r x left rest e same is pushed before =
      let f : List (WorkedOf S F) → List (WorkerOf S F) = map (λ (y : WorkedOf S F). y.worker) in
      ap (λ vs. vs ++ f rest) pushed
      ∙ (append_assoc ws (w ∷ []) (f rest)
      ∙ (ap (λ u. ws ++ (u ∷ f rest)) (is ∙ ap (λ (y : WorkedOf S F). y.worker) same) ∙ (ap (λ ys. ws ++ f ys) (sym e) ∙ before)))

  pub fault_next : (first now all : Option (ℕ × TurnFault)) (n m : ℕ) (f : Option TurnFault) (r x : WorkedOf S F) (left rest : List (WorkedOf S F)) → left ≡ r ∷ rest
      → x ≡ r → f ≡ x.fault → now ≡ earlier first n f → m ≡ n + 1 → first_of first n (map (λ y. y.fault) left) ≡ all
      → first_of now m (map (λ y. y.fault) rest) ≡ all
  fault_next first now all n m f r x left rest e same is earlier_is grown before =
      let fs : List (Option TurnFault) = map (λ (y : WorkedOf S F). y.fault) rest in
      let next : m ≡ suc n = omega (arith, grown) in
      ap (λ y. first_of y m fs) earlier_is
      ∙ (ap (λ k. first_of (earlier first n f) k fs) next
      ∙ (first_more first n f fs
      ∙ (ap (λ y. first_of first n (y ∷ fs)) (is ∙ ap (λ (y : WorkedOf S F). y.fault) same)
      ∙ (ap (λ ys. first_of first n (map (λ (y : WorkedOf S F). y.fault) ys)) (sym e) ∙ before))))

  pub memory_next : (all : List (WorkedOf S F)) (r x : WorkedOf S F) (left rest : List (WorkedOf S F)) → left ≡ r ∷ rest → x ≡ r → HasMemory x
      → (All HasMemory left → All HasMemory all) → All HasMemory rest → All HasMemory all
  memory_next all r x left rest e same has before those =
      before (subst (All HasMemory) (sym e) (All-cons HasMemory r rest (subst HasMemory same has) those))
