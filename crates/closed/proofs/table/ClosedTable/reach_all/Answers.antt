use Rattle.std.proofs.Common.{◌≡◌, ℕ, Bool, List, length, take, sym, ap, ◌∙◌, subst, arith, rules}
use Rattle.std.proofs.lemmas.List.{take_all}
use Rattle.closed.specs.declared.small_entry.SmallEntry.{SmallEntry}
use Rattle.closed.specs.Entries.{taken_back}
use Rattle.closed.specs.Tables.{padded, reached, arrival, outcome_of}
use Rattle.closed.proofs.Reaching.{one_reached, one_outcome, hint_at}
use Rattle.closed.proofs.Ever.{padded_same, padded_more, take_padded}
use Rattle.closed.proofs.table.ClosedTable.reach_all.Goals as goal

pub reach_noting-requires-clause-hint : goal.reach_noting-requires-clause-hint
reach_noting-requires-clause-hint g c =
    hint_at g.F.Hash.hash_input c.args.messages.now c.args.hints.now c.loop-place.place c.index-messages-place.result _ c.requires.hints
    (omega (arith, c.loop-place-test.true, c.loop-place.auto.place-end)) c.index-messages-place.is

pub loop-place-preserved : goal.loop-place-preserved
loop-place-preserved g c =
    let ms = c.args.messages.now in
    let i = c.loop-place.place in
    let m = c.index-messages-place.result in
    let before = c.loop-place.self.nodes in
    let after = c.reach_noting.new.self.nodes in
    let values = g.F.StateForm.values c.args.self.now.ranges in
    let ranges = c.loop-place.invariant.ranges in
    let step : after ≡ reached before (arrival values m) =
    subst (λ (r : List ℕ). after ≡ reached before (arrival (g.F.StateForm.values r) m)) ranges c.in_ok-outcome.ensures.nodes in
    let was : c.in_ok-outcome.outcome ≡ outcome_of before (arrival values m) =
    subst (λ (r : List ℕ). c.in_ok-outcome.outcome ≡ outcome_of before (arrival (g.F.StateForm.values r) m)) ranges
    c.in_ok-outcome.ensures.outcome in
    record {
      nodes = one_reached values ms i m before after c.loop-place-test.true c.index-messages-place.is step _ c.loop-place.invariant.nodes;
      outcomes = one_outcome values ms i m before after c.loop-place-test.true c.index-messages-place.is step c.loop-place.outcomes.items c.push.new.self.items
          c.in_ok-outcome.outcome _ c.in_ok-push.ensures.items was c.loop-place.invariant.outcomes;
      ranges = c.reach_noting.ensures.ranges ∙ c.loop-place.invariant.ranges;
      ever = c.in_ok-outcome.ensures.ever
          ∙ ap (λ (bits : List Bool). padded bits (length after)) c.loop-place.invariant.ever
          ∙ padded_more c.args.self.now.ever (length before) (length after) c.reach_noting.ensures.no_fewer;
      no_fewer = omega (arith, c.reach_noting.ensures.no_fewer, c.loop-place.invariant.no_fewer);
      taken_back = c.reach_noting.ensures.taken_back (length c.args.self.now.nodes) c.loop-place.invariant.no_fewer ∙ c.loop-place.invariant.taken_back;
    }

pub returns-in_err-outcome-clause-first : goal.returns-in_err-outcome-clause-first
returns-in_err-outcome-clause-first g c =
    let bits = c.args.self.now.ever in
    ap (take (length bits)) (c.in_err-outcome.ensures.same_ever ∙ c.loop-place.invariant.ever)
    ∙ take_padded bits (length c.loop-place.self.nodes)

pub returns-in_err-push-clause-first : goal.returns-in_err-push-clause-first
returns-in_err-push-clause-first g c =
    let bits = c.args.self.now.ever in
    let before = c.loop-place.self.nodes in
    let after = c.reach_noting.new.self.nodes in
    ap (take (length bits)) (c.in_ok-outcome.ensures.ever
    ∙ ap (λ (bs : List Bool). padded bs (length after)) c.loop-place.invariant.ever
    ∙ padded_more bits (length before) (length after) c.reach_noting.ensures.no_fewer)
    ∙ take_padded bits (length after)

pub returns-clause-first : goal.returns-clause-first
returns-clause-first g c =
    let bits = c.args.self.now.ever in
    ap (take (length bits)) c.loop-place.invariant.ever ∙ take_padded bits (length c.loop-place.self.nodes)

pub loop-place-init : goal.loop-place-init
loop-place-init g c = record {
  nodes = search rules;
  outcomes = search rules;
  ranges = search rules;
  ever = sym (padded_same c.args.self.now.ever (length c.args.self.now.nodes) (omega (arith, c.requires.ever)));
  no_fewer = search rules;
  taken_back =
      ap (λ (ps : List (ℕ × SmallEntry)). taken_back ps (take (length c.args.self.now.nodes) c.args.self.now.nodes)) c.requires.replaced
      ∙ take_all (length c.args.self.now.nodes) c.args.self.now.nodes (omega arith);
}
