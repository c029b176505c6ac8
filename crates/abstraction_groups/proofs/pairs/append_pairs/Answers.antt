use Rattle.std.proofs.Common.{◌≡◌, ℕ, ◌+◌, ◌-◌, ◌<◌, List, [], ◌∷◌, ◌++◌, length, drop, get_or, sym, ap, ◌∙◌, subst, arith, ⊎_elim}
use Rattle.std.specs.Prelude.{◌⊎◌}
use Rattle.keyed_lists.specs.declared.lists.Keyed.{Keyed}
use Rattle.abstraction.specs.declared.digit.Digit.{Digit}
use Rattle.abstraction_groups.specs.declared.backward.Transition.{Transition}
use Rattle.abstraction_groups.specs.declared.change.Change.{Change}
use Rattle.abstraction_groups.specs.declared.change.Change.TheVariants.{Kept, Required, Moved}
use Rattle.abstraction_groups.specs.declared.change.DigitChange.{DigitChange}
use Rattle.abstraction_groups.specs.Changes.{at_digits}
use Rattle.abstraction_groups.specs.Pairs.{first_entry, entries_from, copies, copies_at, AreSmall}
use Rattle.abstraction_groups.proofs.RowSums.{fit_place, at_end, kept_small, assigned_small, made_behind, pairs_step, pairs_same}
use Rattle.abstraction_groups.proofs.pairs.append_pairs.Goals as goal

abbrev none : Digit
none = record { weight = 0; range = 0 }

pub repeat-requires-clause-range : goal.repeat-requires-clause-range
repeat-requires-clause-range c =
    let ds = c.args.digits.now in
    let cs = c.args.changes.now in
    let k = c.loop-place.place - 1 in
    let digit = (fit_place ds cs k none Kept c.requires.long (omega arith) c.requires.row.fit).digit in
    digit.range

pub repeat-requires-clause-source : goal.repeat-requires-clause-source
repeat-requires-clause-source c =
    let ds = c.args.digits.now in
    let cs = c.args.changes.now in
    let k = c.loop-place.place - 1 in
    let digit = (fit_place ds cs k none Kept c.requires.long (omega arith) c.requires.row.fit).digit in
    digit.within

pub repeat-requires-clause-target : goal.repeat-requires-clause-target
repeat-requires-clause-target c =
    let ds = c.args.digits.now in
    let cs = c.args.changes.now in
    let k = c.loop-place.place - 1 in
    let digit = (fit_place ds cs k none Kept c.requires.long (omega arith) c.requires.row.fit).digit in
    digit.within

pub repeat-requires-in-Assigned-clause-range : goal.repeat-requires-in-Assigned-clause-range
repeat-requires-in-Assigned-clause-range c =
    let ds = c.args.digits.now in
    let cs = c.args.changes.now in
    let k = c.loop-place.place - 1 in
    let digit = (fit_place ds cs k none Kept c.requires.long (omega arith) c.requires.row.fit).digit in
    digit.range

pub repeat-requires-in-Assigned-clause-source : goal.repeat-requires-in-Assigned-clause-source
repeat-requires-in-Assigned-clause-source c =
    let ds = c.args.digits.now in
    let cs = c.args.changes.now in
    let k = c.loop-place.place - 1 in
    let digit = (fit_place ds cs k none Kept c.requires.long (omega arith) c.requires.row.fit).digit in
    digit.within

pub repeat-requires-clause-small : goal.repeat-requires-clause-small
repeat-requires-clause-small c =
    let ds : List Digit = c.args.digits.now in
    let cs : List Change = c.args.changes.now in
    let old : List (Keyed Transition) = c.args.entries.now.items in
    let k = c.loop-place.place - 1 in
    let l : k < length cs = omega (arith, c.loop-place.invariant.low) in
    let first : c.len-first.result ≡ length old = omega (arith, c.len-first.ensures, c.args.entries.now.ok.0) in
    let next : c.loop-place.place ≡ k + 1 = omega arith in
    subst (AreSmall (get_or ds k none).range (get_or ds k none).weight (get_or ds k none).weight) (sym (made_behind ds cs c.requires.long c.requires.row k none Kept l c.args.class c.loop-place.place old c.loop-place.entries.items c.len-first.result next first c.loop-place.invariant.made))
    (kept_small ds cs c.requires.long c.requires.row k none Kept l c.args.class c.in-Kept.is)

pub repeat-requires-in-Assigned-clause-small : goal.repeat-requires-in-Assigned-clause-small
repeat-requires-in-Assigned-clause-small c =
    let ds : List Digit = c.args.digits.now in
    let cs : List Change = c.args.changes.now in
    let old : List (Keyed Transition) = c.args.entries.now.items in
    let k = c.loop-place.place - 1 in
    let l : k < length cs = omega (arith, c.loop-place.invariant.low) in
    let first : c.len-first.result ≡ length old = omega (arith, c.len-first.ensures, c.args.entries.now.ok.0) in
    let next : c.loop-place.place ≡ k + 1 = omega arith in
    subst (AreSmall (get_or ds k none).range (get_or ds k none).weight 0) (sym (made_behind ds cs c.requires.long c.requires.row k none Kept l c.args.class c.loop-place.place old c.loop-place.entries.items c.len-first.result next first c.loop-place.invariant.made))
    (assigned_small ds cs c.requires.long c.requires.row k none Kept l c.args.class c.in-Assigned.field-0 c.in-Assigned.is)

pub loop-place-init : goal.loop-place-init
loop-place-init c =
    let row = at_digits c.args.digits.now c.args.changes.now in
    let end : drop (length c.args.changes.now) row ≡ [] = at_end c.args.digits.now c.args.changes.now (length c.args.changes.now) c.requires.long (omega arith) in
    record {
      low = omega arith;
      made = c.in_ok-push.ensures.items ∙ ap (λ (e : Keyed Transition). c.args.entries.now.items ++ e ∷ []) c.first_entry.ensures
          ∙ ap (λ (xs : List DigitChange). c.args.entries.now.items ++ entries_from (first_entry c.args.class row) xs) (sym end);
    }

pub loop-place-preserved-in-Continue-branch-2 : goal.loop-place-preserved-in-Continue-branch-2
loop-place-preserved-in-Continue-branch-2 c =
    let ds : List Digit = c.args.digits.now in
    let cs : List Change = c.args.changes.now in
    let old : List (Keyed Transition) = c.args.entries.now.items in
    let k = c.loop-place.place - 1 in
    let l : k < length cs = omega (arith, c.loop-place.invariant.low) in
    let first : c.len-first.result ≡ length old = omega (arith, c.len-first.ensures, c.args.entries.now.ok.0) in
    let next : c.loop-place.place ≡ k + 1 = omega arith in
    let behind = drop c.len-first.result c.loop-place.entries.items in
    record {
      low = omega (arith, c.loop-place.invariant.low);
      made = pairs_step ds cs c.requires.long c.requires.row k none Kept l c.args.class c.loop-place.place old c.loop-place.entries.items c.len-first.result next first c.loop-place.invariant.made _ (copies (get_or ds k none).range (get_or ds k none).weight (get_or ds k none).weight behind) c.in_ok-repeat-in-Kept.ensures
          (ap (λ (b : Change). copies_at b (get_or ds k none) behind) c.in-Kept.is);
    }

pub loop-place-preserved-in-Continue-branch-3 : goal.loop-place-preserved-in-Continue-branch-3
loop-place-preserved-in-Continue-branch-3 c =
    let ds : List Digit = c.args.digits.now in
    let cs : List Change = c.args.changes.now in
    let old : List (Keyed Transition) = c.args.entries.now.items in
    let k = c.loop-place.place - 1 in
    let l : k < length cs = omega (arith, c.loop-place.invariant.low) in
    let first : c.len-first.result ≡ length old = omega (arith, c.len-first.ensures, c.args.entries.now.ok.0) in
    let next : c.loop-place.place ≡ k + 1 = omega arith in
    let behind = drop c.len-first.result c.loop-place.entries.items in
    record {
      low = omega (arith, c.loop-place.invariant.low);
      made = pairs_step ds cs c.requires.long c.requires.row k none Kept l c.args.class c.loop-place.place old c.loop-place.entries.items c.len-first.result next first c.loop-place.invariant.made _ (copies (get_or ds k none).range (get_or ds k none).weight 0 behind) c.in_ok-repeat-in-Assigned.ensures
          (ap (λ (b : Change). copies_at b (get_or ds k none) behind) c.in-Assigned.is);
    }

unchanged : (c : Change) (d : Digit) → ((x : ℕ) × (c ≡ Required x)) ⊎ ((x : ℕ) × (y : ℕ) × (c ≡ Moved x y)) → (es : List (Keyed Transition)) → copies_at c d es ≡ es
unchanged c d h es =
    ⊎_elim
    (λ (q : (x : ℕ) × (c ≡ Required x)). ap (λ (b : Change). copies_at b d es) q.1)
    (λ (q : (x : ℕ) × (y : ℕ) × (c ≡ Moved x y)). ap (λ (b : Change). copies_at b d es) q.2)
    h

pub loop-place-preserved : goal.loop-place-preserved
loop-place-preserved c =
    let ds : List Digit = c.args.digits.now in
    let cs : List Change = c.args.changes.now in
    let old : List (Keyed Transition) = c.args.entries.now.items in
    let k = c.loop-place.place - 1 in
    let l : k < length cs = omega (arith, c.loop-place.invariant.low) in
    let first : c.len-first.result ≡ length old = omega (arith, c.len-first.ensures, c.args.entries.now.ok.0) in
    let next : c.loop-place.place ≡ k + 1 = omega arith in
    record {
      low = omega (arith, c.loop-place.invariant.low);
      made = pairs_same ds cs c.requires.long c.requires.row k none Kept l c.args.class c.loop-place.place old c.loop-place.entries.items c.len-first.result next first c.loop-place.invariant.made
          (unchanged (get_or cs k Kept) (get_or ds k none) c.in-Required.is);
    }
