use Rattle.std.proofs.Common.{◌≡◌, ℕ, ◌+◌, ◌<◌, ◌≤◌, ◌^◌, List, [], ◌∷◌, ◌++◌, length, map, take, drop, get_or, true, false, sym, ap, ◌∙◌, subst, arith, Some}
use Rattle.std.specs.Prelude.{slice_get}
use Rattle.std.proofs.lemmas.List.{length-map, length-take-le}
use Rattle.std.proofs.lemmas.List.Elements.{All-take}
use Rattle.std.proofs.lemmas.Option.{slice_get-get_or}
use Rattle.fdr.specs.Limits.{max_operators}
use Rattle.fdr.specs.Tasks.{FiniteDomainTask, Operator, ranges, IsOperator}
use Rattle.abstraction.specs.declared.digit.Digit.{Digit}
use Rattle.abstraction_groups.specs.declared.change.Change.{Change}
use Rattle.abstraction_groups.specs.declared.groups.Collected.{Collected}
use Rattle.abstraction_groups.specs.Changes.{at_digits, moves, with_row, distinct_moves}
use Rattle.abstraction_groups.specs.Collected.{AreMembers, changes_by_number, count_in}
use Rattle.abstraction_groups.specs.Factors.{Factors, digits_of, transition_count}
use Rattle.abstraction_groups.specs.Pairs.{IsRow}
use Rattle.abstraction_groups.specs.Tables.{AreChained}
use Rattle.abstraction_groups.proofs.AffectingLaws.{affecting_below, affecting_few, affecting_groups, changes_at}
use Rattle.abstraction_groups.proofs.CollectLaws.{replaced}
use Rattle.abstraction_groups.proofs.CountLaws.{number_row, rows_few, rows_count, first_count}
use Rattle.abstraction_groups.proofs.MemberLaws.{members_none, next_still, next_moves}
use Rattle.abstraction_groups.proofs.ReadLaws.{length-digits}
use Rattle.abstraction_groups.proofs.groups.collect.Goals as goal
use Rattle.abstraction_groups.proofs.groups.collect.Goals.{After-moves, then-moves+in_ok-add, else-moves}

pub loop-operator-init : goal.loop-operator-init
loop-operator-init g c =
    let task = g.A.Abstraction.task c.args.abstraction.now in
    let f = g.A.FactoredAbstraction.factors c.args.abstraction.now in
    let rows : c.in_ok-new.field-0.rows ≡ [] = c.in_ok-new.ensures.rows in
    let long : length c.in_ok-changes.changes.items ≡ length f.variables = omega (arith, c.in_ok-changes.ensures.len, c.in_ok-changes.changes.ok.0, ap (λ (ds : List Digit). length ds) c.digits-digits.ensures, length-digits f) in (
      c.in_ok-new.ensures.chained,
      subst (λ (rs : List (List Change)). AreMembers task f [] rs c.new-2.result.items) (sym rows) (subst (AreMembers task f [] []) (sym c.new-2.ensures.items) (members_none task f)),
      ap (count_in (digits_of f)) (sym rows),
      omega arith,
      long,
    )

pub bounds-operators-operator : goal.bounds-operators-operator
bounds-operators-operator g c =
    let task = g.A.Abstraction.task c.args.abstraction.now in
    let f = g.A.FactoredAbstraction.factors c.args.abstraction.now in
    let below = affecting_below task f c.args.operators.now c.requires c.loop-operator.operator-index 0 (omega arith) in
    let same : c.operators.result.now ≡ task.operators = c.operators.ensures.value ∙ ap (λ (t : FiniteDomainTask). t.operators) c.task-task.ensures in
    let long = ap length same in
    omega arith

pub read_changes-requires-clause-operator : goal.read_changes-requires-clause-operator
read_changes-requires-clause-operator g c =
    let task = g.A.Abstraction.task c.args.abstraction.now in
    let f = g.A.FactoredAbstraction.factors c.args.abstraction.now in
    let is = g.met.A.FactoredAbstraction.factored c.args.abstraction.now in
    let o = get_or c.args.operators.now c.loop-operator.operator-index 0 in
    let below = affecting_below task f c.args.operators.now c.requires c.loop-operator.operator-index 0 (omega arith) in
    let same : c.operators.result.now ≡ task.operators = c.operators.ensures.value ∙ ap (λ (t : FiniteDomainTask). t.operators) c.task-task.ensures in
    let op : Operator = c.index-operators-operator.result in
    let at : op ≡ get_or task.operators o op = c.index-operators-operator.is ∙ ap (λ (xs : List Operator). get_or xs o op) same in
    subst (IsOperator (ranges task)) (sym at) (is.well.operators o op below)

-- ---- the changes that were read

-- the number of the operator, and its changes
abbrev number : (g : _) (c : After-moves g) → ℕ
number g c = get_or c.args.operators.now c.loop-operator.operator-index 0

abbrev changes : (g : _) (c : After-moves g) → List Change
changes g c = changes_by_number (g.A.Abstraction.task c.args.abstraction.now) (g.A.FactoredAbstraction.factors c.args.abstraction.now) (number g c)

within : (g : _) (c : After-moves g) → number g c < length (g.A.Abstraction.task c.args.abstraction.now).operators
within g c =
    affecting_below (g.A.Abstraction.task c.args.abstraction.now) (g.A.FactoredAbstraction.factors c.args.abstraction.now) c.args.operators.now c.requires c.loop-operator.operator-index 0 (omega arith)

read : (g : _) (c : After-moves g) → c.read_changes.new.changes ≡ changes g c
read g c =
    let task = g.A.Abstraction.task c.args.abstraction.now in
    let f = g.A.FactoredAbstraction.factors c.args.abstraction.now in
    let o = number g c in
    let same : c.operators.result.now ≡ task.operators = c.operators.ensures.value ∙ ap (λ (t : FiniteDomainTask). t.operators) c.task-task.ensures in
    let op : Operator = c.index-operators-operator.result in
    let at : op ≡ get_or task.operators o op = c.index-operators-operator.is ∙ ap (λ (xs : List Operator). get_or xs o op) same in
    let there : slice_get task.operators o ≡ Some op = slice_get-get_or task.operators o op (within g c) ∙ ap Some (sym at) in
    c.read_changes.ensures ∙ sym (changes_at task f o op there)

long : (g : _) (c : After-moves g) → length c.read_changes.new.changes ≡ length c.loop-operator.changes.items
long g c =
    let f = g.A.FactoredAbstraction.factors c.args.abstraction.now in
    ap (λ (cs : List Change). length cs) c.read_changes.ensures ∙ length-map f.variables _ ∙ sym c.loop-operator.invariant.4

buffer : (g : _) (c : After-moves g) → take c.loop-operator.changes.len (c.read_changes.new.changes ++ drop (length c.read_changes.new.changes) c.loop-operator.changes.items) ≡ c.read_changes.new.changes
buffer g c = replaced c.loop-operator.changes.len c.read_changes.new.changes c.loop-operator.changes.items (omega (arith, c.loop-operator.changes.ok.0)) (long g c)

moving : (g : _) (c : After-moves g) → c.moves.result ≡ moves (changes g c)
moving g c = c.moves.ensures ∙ ap moves (c.deref.ensures.value ∙ buffer g c ∙ read g c)

-- ---- the groups so far

-- the groups of the first n operators
abbrev AreFirst : FiniteDomainTask → Factors → List ℕ → ℕ → Collected → Type 0
AreFirst task f operators n collected =
    AreChained collected.table.rows collected.table.heads.items collected.table.links.items
    × AreMembers task f (take n operators) collected.table.rows collected.members.items
    × (collected.transition_count ≡ count_in (digits_of f) collected.table.rows)

few : (g : _) (c : After-moves g) → (length c.loop-operator.collected.table.rows < 4294967295) × (c.loop-operator.collected.transition_count + 2 ^ 24 < 2 ^ 64)
few g c =
    let task = g.A.Abstraction.task c.args.abstraction.now in
    let f = g.A.FactoredAbstraction.factors c.args.abstraction.now in
    let a = g.A.Abstraction.abstraction c.args.abstraction.now in
    let is = g.met.A.FactoredAbstraction.factored c.args.abstraction.now in
    let operators : List ℕ = c.args.operators.now in
    let i = c.loop-operator.operator-index in
    let below = All-take (λ o. o < length task.operators) i operators (affecting_below task f operators c.requires) in
    let rows : c.loop-operator.collected.table.rows ≡ distinct_moves (map (changes_by_number task f) (take i operators)) = c.loop-operator.invariant.1.changes in
    let short = rows_few task f a is (take i operators) below in
    let most = rows_count task f a is (take i operators) below in
    let first = length-take-le i operators (omega arith) in
    let all = affecting_few task f operators c.requires in
    let limit : length task.operators ≤ max_operators = subst (λ (t : FiniteDomainTask). length t.operators ≤ max_operators) c.task.ensures c.recall.ensures.limits.operators in
    let same = ap (λ (rs : List (List Change)). length rs) rows in
    let count : c.loop-operator.collected.transition_count ≡ count_in (digits_of f) (distinct_moves (map (changes_by_number task f) (take i operators))) =
    c.loop-operator.invariant.2 ∙ ap (count_in (digits_of f)) rows in
    (omega arith, omega arith)

module _ (g : _) (c : After-moves g) where
  abbrev AreNext : Collected → Type 0
  AreNext = AreFirst (g.A.Abstraction.task c.args.abstraction.now) (g.A.FactoredAbstraction.factors c.args.abstraction.now) c.args.operators.now (c.loop-operator.operator-index + 1)

  after_still : c.moves.result ≡ false → AreNext c.loop-operator.collected
  after_still still = (
    c.loop-operator.invariant.0,
    next_still (g.A.Abstraction.task c.args.abstraction.now) (g.A.FactoredAbstraction.factors c.args.abstraction.now) c.args.operators.now c.loop-operator.operator-index (omega arith)
        c.loop-operator.collected.table.rows c.loop-operator.collected.members.items c.loop-operator.invariant.1 (sym (moving g c) ∙ still),
    c.loop-operator.invariant.2,
  )

  after_move : c.moves.result ≡ true → (new : Collected) (added : List Change) → added ≡ c.deref.result.now → AreChained new.table.rows new.table.heads.items new.table.links.items →
      new.table.rows ≡ with_row c.loop-operator.collected.table.rows added →
      (group : ℕ) × (slice_get new.table.rows group ≡ Some added) × (new.members.items ≡ c.loop-operator.collected.members.items ++ record { key = group; item = number g c } ∷ []) →
      new.transition_count ≡ count_in c.digits-digits.result.now new.table.rows → AreNext new
  after_move moved new added same chained rows member count =
      let told : added ≡ changes g c = same ∙ c.deref.ensures.value ∙ buffer g c ∙ read g c in (
        chained,
        next_moves (g.A.Abstraction.task c.args.abstraction.now) (g.A.FactoredAbstraction.factors c.args.abstraction.now) c.args.operators.now c.loop-operator.operator-index (omega arith)
            c.loop-operator.collected.table.rows c.loop-operator.collected.members.items c.loop-operator.invariant.1 (sym (moving g c) ∙ moved)
            new.table.rows (rows ∙ ap (with_row c.loop-operator.collected.table.rows) told) member.0 (member.1 ∙ ap Some told) new.members.items member.2,
        count ∙ ap (λ (ds : List Digit). count_in ds new.table.rows) c.digits-digits.ensures,
      )

-- ---- the goals

pub add-requires-clause-few : goal.add-requires-clause-few
add-requires-clause-few g c = (few g (goal.at.add-requires-clause-few g c).After-moves).0

pub add-requires-clause-room : goal.add-requires-clause-room
add-requires-clause-room g c = (few g (goal.at.add-requires-clause-room g c).After-moves).1

pub add-requires-clause-row : goal.add-requires-clause-row
add-requires-clause-row g c =
    let task = g.A.Abstraction.task c.args.abstraction.now in
    let f = g.A.FactoredAbstraction.factors c.args.abstraction.now in
    let before = (goal.at.add-requires-clause-row g c).After-moves in
    subst (λ (ds : List Digit). IsRow (at_digits ds c.deref-then-moves.result.now)) (sym c.digits-digits.ensures)
    (subst (λ (cs : List Change). IsRow (at_digits (digits_of f) cs)) (sym (c.deref-then-moves.ensures.value ∙ buffer g before ∙ read g before))
    (number_row task f (g.A.Abstraction.abstraction c.args.abstraction.now) (g.met.A.FactoredAbstraction.factored c.args.abstraction.now) (number g before) (within g before)))

pub returns-then-collected-limit-clause-none : goal.returns-then-collected-limit-clause-none
returns-then-collected-limit-clause-none g c =
    let task = g.A.Abstraction.task c.args.abstraction.now in
    let f = g.A.FactoredAbstraction.factors c.args.abstraction.now in
    let before = (goal.at.returns-then-collected-limit-clause-none g c).After-moves in
    let operators : List ℕ = c.args.operators.now in
    let n = c.loop-operator.operator-index + 1 in
    let next : AreNext g before c.if-moves.collected =
    elim c.if-moves.branch [
      | then-moves+in_ok-add w ↦
          let made = w.in_ok-add.ensures in
          subst (AreNext g before) (sym w.collected-is)
          (after_move g before w.if-moves.true w.add.new.self w.deref-then-moves.result.now (w.deref-then-moves.ensures.value ∙ sym c.deref.ensures.value) made.chained made.rows made.member made.count)
      | else-moves w ↦ subst (AreNext g before) (sym w.collected-is) (after_still g before w.if-moves.false)
    ] in
    let first = first_count task f (g.A.Abstraction.abstraction c.args.abstraction.now) (g.met.A.FactoredAbstraction.factored c.args.abstraction.now) operators n in
    let count : c.if-moves.collected.transition_count ≡ count_in (digits_of f) (distinct_moves (map (changes_by_number task f) (take n operators))) = next.2 ∙ ap (count_in (digits_of f)) next.1.changes in
    let all : count_in (digits_of f) (distinct_moves (map (changes_by_number task f) operators)) ≡ transition_count task f = ap (count_in (digits_of f)) (affecting_groups task f operators c.requires) in
    let past = c.if-collected-limit.true in
    omega arith

pub loop-operator-preserved : goal.loop-operator-preserved
loop-operator-preserved g c =
    let before = (goal.at.loop-operator-preserved g c).After-moves in
    let next : AreNext g before c.if-moves.collected =
    elim c.if-moves.branch [
      | then-moves+in_ok-add w ↦
          let made = w.in_ok-add.ensures in
          subst (AreNext g before) (sym w.collected-is)
          (after_move g before w.if-moves.true w.add.new.self w.deref-then-moves.result.now (w.deref-then-moves.ensures.value ∙ sym c.deref.ensures.value) made.chained made.rows made.member made.count)
      | else-moves w ↦ subst (AreNext g before) (sym w.collected-is) (after_still g before w.if-moves.false)
    ] in
    let kept : c.if-moves.collected.transition_count ≤ c.args.limit = omega (arith, c.if-collected-limit.false) in
    (next.0, next.1, next.2, kept, ap (λ (cs : List Change). length cs) (buffer g before) ∙ long g before ∙ c.loop-operator.invariant.4)
