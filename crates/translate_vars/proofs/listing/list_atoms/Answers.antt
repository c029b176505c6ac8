use Rattle.std.proofs.Common.{rules, ◌≡◌, true, false, take, sym, ◌∙◌, ap, List}
use Rattle.std.proofs.lemmas.Bool.{true≢false}
use Rattle.pddl_task.specs.Atoms.{Atom, contains}
use Rattle.pddl_task.specs.Planning.{IsAtomOf}
use Rattle.translate_vars.specs.Faults.{IsBadAtom}
use Rattle.translate_vars.proofs.ListingLaws.{one_more_listed, bad_if_unknown, bad_if_repeated, listed_with}
use Rattle.translate_vars.proofs.listing.list_atoms.Goals as goal
use Rattle.translate_vars.proofs.listing.list_atoms.Goals.{then-not-is_atom_of-via-then-not-is_atom_of, then-not-is_atom_of-via-else-not-is_atom_of+then-contains}

pub returns-then-not-is_atom_of-clause-fault : goal.returns-then-not-is_atom_of-clause-fault
returns-then-not-is_atom_of-clause-fault c = λ variables within.
    let p = c.index-atoms-place.result in
    let bad : IsBadAtom c.args.task.now c.args.atoms.now c.loop-place.place = elim c.then-not-is_atom_of.branch [
      | then-not-is_atom_of-via-then-not-is_atom_of w ↦
          let out : IsAtomOf c.args.task.now p → ⊥ = λ k. true≢false (sym (c.is_atom_of.ensures.1 k) ∙ search rules) in
          bad_if_unknown c.args.task.now c.args.atoms.now c.loop-place.place p c.loop-place-test.true c.index-atoms-place.is c.loop-place.invariant.known out
      | then-not-is_atom_of-via-else-not-is_atom_of+then-contains w ↦
          let there : contains (take c.loop-place.place c.args.atoms.now) p ≡ true
          = ap (λ (xs : List Atom). contains xs p) (sym c.loop-place.invariant.listed) ∙ search rules in
          bad_if_repeated c.args.task.now c.args.atoms.now c.loop-place.place p c.loop-place-test.true c.index-atoms-place.is c.loop-place.invariant.known there
    ] in
    (within, bad)

pub loop-place-preserved : goal.loop-place-preserved
loop-place-preserved c =
    let p = c.index-atoms-place.result in
    let new : contains (take c.loop-place.place c.args.atoms.now) p ≡ false
    = ap (λ (xs : List Atom). contains xs p) (sym c.loop-place.invariant.listed) ∙ search rules in
    let known : IsAtomOf c.args.task.now p = c.is_atom_of.ensures.0 (search rules) in
    record {
      listed = listed_with c.args.atoms.now c.loop-place.place p c.loop-place-test.true c.index-atoms-place.is c.loop-place.listed _ c.loop-place.invariant.listed new (search rules);
      known = one_more_listed c.args.task.now c.args.atoms.now c.loop-place.place p c.loop-place-test.true c.index-atoms-place.is c.loop-place.invariant.known known new;
    }
