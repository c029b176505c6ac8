use Rattle.std.proofs.Common.{◌≡◌, ◌∙◌, true, ap, sym, subst, length}
use Rattle.translate_choice.specs.Choices.{IsNext}
use Rattle.translate_choice.specs.Greedy.{is_fit, variable_of, group_at, left_of}
use Rattle.translate_choice.proofs.PlacedLaws.{group_next}
use Rattle.translate_choice.proofs.GreedyLaws.{still_queued, found}
use Rattle.translate_choice.proofs.choice.next_variable.Goals as goal
use Rattle.translate_choice.proofs.choice.next_variable.Goals.{else-len-candidate-via-then-len-candidate+else-is_fit, else-len-candidate-via-else-len-candidate}

pub returns-then-is_fit-clause-found : goal.returns-then-is_fit-clause-found
returns-then-is_fit-clause-found c =
    let index = c.args.offers.now.index.now in
    let groups = c.args.offers.now.groups.now in
    let taken = c.args.taken.now in
    let d = c.in-Some.candidate in
    let left = left_of taken (group_at groups d.group.0) in
    let places = c.in_ok-places.places.items in
    let is : places ≡ left = c.in_ok-places.ensures.places in
    let size : length left ≡ d.size = ap length (sym is) ∙ (let e = c.len.ensures in let t = c.if-len-candidate.true in cc) in
    let fits : is_fit index left ≡ true = ap (is_fit index) (sym is) ∙ ap (is_fit index) (sym c.deref.ensures.value) ∙ sym c.is_fit.ensures ∙ c.if-is_fit.true in
    found index groups taken c.loop-candidate.queue c.pop.new.self d c.loop-candidate.invariant c.in-Some.ensures.rest c.in-Some.ensures.first size fits
    c.variable.result (c.variable.ensures ∙ ap (variable_of index) is)

pub returns-then-is_fit-clause-fit : goal.returns-then-is_fit-clause-fit
returns-then-is_fit-clause-fit c =
    let index = c.args.offers.now.index.now in
    let places = c.in_ok-places.places.items in
    let fits : is_fit index places ≡ true = ap (is_fit index) (sym c.deref.ensures.value) ∙ sym c.is_fit.ensures ∙ c.if-is_fit.true in
    subst (IsNext index c.args.taken.now) (sym c.variable.ensures) (group_next index c.args.taken.now places c.in_ok-places.ensures.rest fits)

pub loop-candidate-preserved : goal.loop-candidate-preserved
loop-candidate-preserved c =
    let index = c.args.offers.now.index.now in
    let groups = c.args.offers.now.groups.now in
    let taken = c.args.taken.now in
    let d = c.in-Some.candidate in
    let left = left_of taken (group_at groups d.group.0) in
    let is : c.in_ok-places.places.items ≡ left = c.in_ok-places.ensures.places in
    still_queued index groups taken c.loop-candidate.queue c.pop.new.self d c.loop-candidate.invariant c.in-Some.ensures.rest
    (λ size fits.
    elim c.else-len-candidate.branch [
      | else-len-candidate-via-then-len-candidate+else-is_fit w ↦
          let same = w.deref.ensures.value in
          let told = w.is_fit.ensures in
          let test = w.if-is_fit.false in
          let both : is_fit index w.deref.result.now ≡ true = ap (is_fit index) (same ∙ is) ∙ fits in
          absurd (cc (told, test, both))
      | else-len-candidate-via-else-len-candidate w ↦
          let same : length c.in_ok-places.places.items ≡ d.size = ap length is ∙ size in
          let told = c.len.ensures in
          let long : c.len.result ≡ d.size = cc (told, same) in
          absurd (w.if-len-candidate.false long)
    ])
