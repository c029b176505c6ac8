-- Seats that were split from one.
use Rattle.std.proofs.Common.{◌≡◌, ℕ, ◌+◌, ◌-◌, ◌/◌, ◌≤◌, List, [], ◌∷◌, ◌++◌, map, ap, ◌∙◌, subst, arith}
use Rattle.std.specs.Prelude.{All}
use Rattle.std.proofs.lemmas.List.{map-append, length-append}
use Rattle.std.proofs.lemmas.List.Elements.{All-append}
use Rattle.cost.specs.Distances.{Distance, Infinite, lesser, least}
use Rattle.cost.proofs.DistanceLaws.{least-append, lesser_left, at_most_infinite}
use Rattle.board.specs.declared.views.View.{View}
use Rattle.board.specs.declared.words.Board.{Board}
use Rattle.board.specs.Rule.{total_parts, kept_part, new_part}
use Rattle.board.specs.Seats.{BoardSeat, IsSeatOf, view}
use Rattle.engine_round.specs.Jobs.{AreSplit}

parts_append : (vs ws : List View) → total_parts (vs ++ ws) ≡ total_parts vs + total_parts ws
parts_append [] ws = omega arith
parts_append (v ∷ vs) ws = let e = parts_append vs ws in omega arith

seat_offered : BoardSeat → Distance
seat_offered s = (view s).offered

pub both_halves : (b : Board) (v w x : View) (n half : ℕ) (ss ts all : List BoardSeat) → half ≤ n → w ≡ kept_part v → x ≡ new_part v
    → AreSplit b w half ss → AreSplit b x (n - half) ts → all ≡ ss ++ ts → AreSplit b v n all
unfolding seat_offered
both_halves b v w x n half ss ts all within kept other first second e = rw e (record {
  count_is = omega (arith, length-append ss ts, first.count_is, second.count_is);
  each = All-append (λ (s : BoardSeat). IsSeatOf b s × ((view s).seen ≡ v.seen)) ss ts
      (subst (λ (d : Distance). All (λ (s : BoardSeat). IsSeatOf b s × ((view s).seen ≡ d)) ss) (ap (λ (y : View). y.seen) kept) first.each)
      (subst (λ (d : Distance). All (λ (s : BoardSeat). IsSeatOf b s × ((view s).seen ≡ d)) ts) (ap (λ (y : View). y.seen) other) second.each);
  parts = ap total_parts (map-append view ss ts)
      ∙ (parts_append (map view ss) (map view ts)
      ∙ whole (total_parts (map view ss)) (total_parts (map view ts)) v.parts (first.parts ∙ ap (λ (y : View). y.parts) kept)
      (second.parts ∙ ap (λ (y : View). y.parts) other));
  offered = ap least (map-append seat_offered ss ts)
      ∙ (least-append (map seat_offered ss) (map seat_offered ts)
      ∙ (ap (λ (d : Distance). lesser d (least (map seat_offered ts))) (first.offered ∙ ap (λ (y : View). y.offered) kept)
      ∙ (ap (lesser v.offered) (second.offered ∙ ap (λ (y : View). y.offered) other)
      ∙ lesser_left v.offered Infinite (at_most_infinite v.offered))));
})
  where
    whole : (p q n : ℕ) → p ≡ n / 2 → q ≡ n - n / 2 → p + q ≡ n
    whole p q n first second = omega arith
