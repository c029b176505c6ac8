use Rattle.std.proofs.Common.{List, [], ◌∷◌, map, All, sym, ap, ◌∙◌, subst}
use Rattle.std.proofs.lemmas.List.Elements.{All-nil, All-cons, All-append}
use Rattle.owner.specs.declared.successors.Successor.{Successor}
use Rattle.owner.specs.Owned.{space_of}
use Rattle.owner.specs.Successors.{IsSuccessor}
use Rattle.owner.proofs.Passing.{operators_more}
use Rattle.owner.proofs.successors.make_successors.Goals as goal

pub loop-operator-preserved : goal.loop-operator-preserved
loop-operator-preserved g c =
    let inv = c.loop-operator.invariant in
    let os = c.args.operators.now in
    let ss = c.loop-operator.successors.items in
    let s = c.in_ok-successor.successor in
    let P = λ (x : Successor g.row.F.Denot). IsSuccessor g.F.StateForm.IsForm g.F.StateForm.values (space_of g.S.Spread.owner c.args.holdings.now) c.args.state.now x in
    record {
      operators = ap (λ (l : List (Successor g.row.F.Denot)). map (λ x. x.operator) l) c.in_ok-push.ensures.items
          ∙ operators_more ss s os c.loop-operator.operator-index c.loop-operator-test.true inv.operators c.in_ok-successor.ensures.operator;
      each = subst (λ (l : List (Successor g.row.F.Denot)). All P l) (sym c.in_ok-push.ensures.items)
          (All-append P ss (s ∷ []) inv.each (All-cons P s [] c.in_ok-successor.ensures.made (All-nil P)));
    }
