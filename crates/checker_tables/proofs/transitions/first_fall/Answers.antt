use Rattle.std.proofs.Common.{ℕ, Option, List, ◌+◌, take, sym, ap, ◌∙◌, subst}
use Rattle.std.specs.Option.{option_map_or}
use Rattle.abstraction_mapping.specs.Views.{abstraction_in}
use Rattle.checker_tables.specs.declared.transitions.Spender.{Spender}
use Rattle.checker_tables.specs.TableFaults.{IsFirstFall}
use Rattle.checker_tables.proofs.FallLaws.{lower_fall, same_fall, all_taken}
use Rattle.checker_tables.proofs.transitions.first_fall.Goals as goal
use Rattle.checker_tables.proofs.transitions.first_fall.Goals.{then-state-limit, else-state-limit}

pub loop-spender-preserved : goal.loop-spender-preserved
loop-spender-preserved c =
    let abs = abstraction_in c.args.abstraction.now in
    let values = c.args.values.now in
    let ss = c.args.spenders.now in
    let i = c.loop-spender.spender-index in
    let d : Spender = record { operator = 0; share = 0 } in
    let limit = c.loop-spender.limit in
    let state = c.in_ok-state.state in
    elim c.if-state-limit.branch [
      | then-state-limit w ↦ record {
        first = subst (λ (r : Option (ℕ × ℕ)). IsFirstFall abs values (take (i + 1) ss) r) (sym w.found-is)
            (lower_fall abs values ss i d c.loop-spender-test.true limit state c.in_ok-state.ensures c.loop-spender.found c.loop-spender.invariant.first c.loop-spender.invariant.limit w.if-state-limit.true);
        limit = w.limit-is ∙ sym (ap (λ (r : Option (ℕ × ℕ)). option_map_or (λ f. f.0) r abs.size) w.found-is);
      }
      | else-state-limit w ↦ record {
        first = subst (λ (r : Option (ℕ × ℕ)). IsFirstFall abs values (take (i + 1) ss) r) (sym w.found-is)
            (same_fall abs values ss i d c.loop-spender-test.true limit state c.in_ok-state.ensures c.loop-spender.found c.loop-spender.invariant.first c.loop-spender.invariant.limit w.if-state-limit.false);
        limit = w.limit-is ∙ c.loop-spender.invariant.limit ∙ sym (ap (λ (r : Option (ℕ × ℕ)). option_map_or (λ f. f.0) r abs.size) w.found-is);
      }
    ]

pub returns : goal.returns
returns c =
    let abs = abstraction_in c.args.abstraction.now in
    subst (λ (xs : List Spender). IsFirstFall abs c.args.values.now xs c.loop-spender.found)
    (all_taken c.args.spenders.now c.loop-spender.spender-index c.loop-spender-test.false) c.loop-spender.invariant.first
