use Rattle.std.proofs.Common.{◌≡◌, ◌<◌, ℕ, List, length, ap, sym, ◌∙◌, arith}
use Rattle.std.specs.Prelude.{slice_index, sum, take}
use Rattle.std.proofs.lemmas.List.{length-map}
use Rattle.std.proofs.lemmas.Bool.{cond-false}
use Rattle.fdr.specs.Tasks.{FiniteDomainTask, ranges}
use Rattle.packed_spread.specs.Spreads.{firsts_of}
use Rattle.packed_spread.specs.Projections.{is_among, cleared}
use Rattle.packed_spread.proofs.Places.{firsts_count, first_is, words_exist}
use Rattle.packed_spread.proofs.words.clear_unless_chosen.Goals as goal

has_first : (task : FiniteDomainTask) (firsts : List ℕ) (v : ℕ) → firsts ≡ firsts_of (ranges task) → v < length task.value_names → v < length firsts
has_first task firsts v placed exists =
    omega (arith, exists, length-map task.value_names length, ap (λ (xs : List ℕ). length xs) placed ∙ firsts_count (ranges task))

pub bounds-firsts-variable : goal.bounds-firsts-variable
bounds-firsts-variable c = has_first c.args.task.now c.args.firsts.now c.args.variable c.requires.firsts c.requires.variable

pub offset_bounds-firsts-variable : goal.offset_bounds-firsts-variable
offset_bounds-firsts-variable c =
    omega (arith, has_first c.args.task.now c.args.firsts.now c.args.variable c.requires.firsts c.requires.variable)

pub clear-requires : goal.clear-requires
clear-requires c =
    let task = c.args.task.now in
    omega (
      arith,
      c.range.ensures,
      words_exist (ranges task) c.args.words.now c.args.firsts.now c.requires.words c.requires.firsts c.args.variable
          (omega (arith, c.requires.variable, length-map task.value_names length)),
    )

pub returns-then-not-contains : goal.returns-then-not-contains
returns-then-not-contains c =
    let task = c.args.task.now in
    let exists : c.args.variable < length (ranges task) = omega (arith, c.requires.variable, length-map task.value_names length) in
    let first = sum (take c.args.variable (ranges task)) in
    let words = c.args.words.now in
    record {
      words =
          c.clear.ensures
          ∙ ap (λ (place : ℕ). cleared words place c.range.result) (first_is (ranges task) c.args.firsts.now c.requires.firsts c.args.variable exists)
          ∙ ap (λ (count : ℕ). cleared words first count) c.range.ensures
          ∙ sym (cond-false (is_among c.args.chosen.now c.args.variable) words (cleared words first (slice_index (ranges task) c.args.variable)) (sym c.contains.ensures.value ∙ c.if-not-contains.true));
    }
