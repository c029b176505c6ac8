use Rattle.std.proofs.Common.{◌≡◌, ◌∙◌, true, arith, length, sym, refl}
use Rattle.std.specs.Prelude.{nat_lt}
use Rattle.std.proofs.lemmas.Bool.{lt-ltb, false_from_ne_true}
use Rattle.pddl_task.specs.Atoms.{at_most_one, wants}
use Rattle.mutex_index.specs.Places.{atoms_at}
use Rattle.translate_choice.specs.Greedy.{is_fit}
use Rattle.translate_choice.proofs.PlacedLaws.{one_goal_is, fit_parts}
use Rattle.translate_choice.proofs.offers.Offers.is_fit.Goals as goal
use Rattle.translate_choice.proofs.offers.Offers.is_fit.Goals.{then-places-lt2-via-then-places-lt2, then-places-lt2-via-else-places-lt2+then-not-has_one_goal}

pub returns-then-places-lt2 : goal.returns-then-places-lt2
returns-then-places-lt2 c =
    let index = c.args.self.now.index.now in
    let places = c.args.places.now in
    sym (elim c.then-places-lt2.branch [
      | then-places-lt2-via-then-places-lt2 w ↦ false_from_ne_true (is_fit index places) (λ fit.
          let many = (fit_parts index places fit).0 in let few = w.if-places-lt2.true in omega (arith, many, few))
      | then-places-lt2-via-else-places-lt2+then-not-has_one_goal w ↦ false_from_ne_true (is_fit index places) (λ fit.
          let one = one_goal_is index c.args.self.now.goals.items places c.args.self.now.distinct c.args.self.now.goals_marked c.requires.rising c.requires.within in
          let h = (fit_parts index places fit).1 in
          let told = w.has_one_goal.ensures in
          let test = w.if-not-has_one_goal.true in
          cc)
    ])

pub returns : goal.returns
returns c =
    let index = c.args.self.now.index.now in
    let places = c.args.places.now in
    let many : nat_lt 1 (length places) ≡ true = lt-ltb 1 (length places) (let l = c.if-places-lt2.false in omega (arith, l)) in
    let one : at_most_one (wants index.task.goal) (atoms_at index.atoms places) ≡ true =
    sym (one_goal_is index c.args.self.now.goals.items places c.args.self.now.distinct c.args.self.now.goals_marked c.requires.rising c.requires.within)
    ∙ cc in
    c.is_usable.ensures
    ∙ sym (rw (many, one) refl)
