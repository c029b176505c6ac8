use Rattle.std.proofs.Common.{◌≡◌, arith, ap, drop, false, subst, sym, true, ◌∙◌}
use Rattle.openlist.specs.Groups.{IsAbove, is_lower_key}
use Rattle.openlist.proofs.GroupLists.{IsAbove-drop, IsBelow-place}
use Rattle.openlist.proofs.GroupOrder.{is_lower_key-lt, is_same_key}
use Rattle.openlist.proofs.groups.group_of.Goals as goal

pub halving-preserved-then-lt : goal.halving-preserved-then-lt
halving-preserved-then-lt c =
    let lower : is_lower_key c.index-groups-middle.result.key c.args.key.now ≡ true =
    ap (λ k. is_lower_key k c.args.key.now) (sym c.key.ensures) ∙ sym (is_lower_key-lt c.key.result.now c.args.key.now)
    ∙ sym c.lt.ensures ∙ c.if-lt.true in
    record {
      order = omega arith;
      bound = omega arith;
      not_below = c.halving.invariant.not_below;
      above = IsAbove-drop c.args.key.now c.args.groups.now _ c.index-groups-middle.result (omega arith)
          c.index-groups-middle.is lower c.requires;
    }

pub returns-else-eq-clause-after : goal.returns-else-eq-clause-after
returns-else-eq-clause-after c =
    subst (λ n. IsAbove c.args.key.now (drop n c.args.groups.now)) (omega arith) c.halving.invariant.above

pub returns-else-eq-clause-before : goal.returns-else-eq-clause-before
returns-else-eq-clause-before c =
    let other : is_same_key c.index-groups-low.result.key c.args.key.now ≡ false =
    ap (λ k. is_same_key k c.args.key.now) (sym c.key-2.ensures) ∙ sym c.eq.ensures ∙ c.if-eq.false in
    let not_lower : is_lower_key c.index-groups-low.result.key c.args.key.now ≡ false =
    ap (λ g. is_lower_key g.key c.args.key.now) c.index-groups-low.is
    ∙ c.halving.invariant.not_below c.index-groups-low.result (omega arith) in
    IsBelow-place c.args.key.now c.args.groups.now c.halving.low c.index-groups-low.result (omega arith) (omega arith)
    c.index-groups-low.is not_lower other c.requires
