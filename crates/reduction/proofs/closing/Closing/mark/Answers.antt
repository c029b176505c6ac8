use Rattle.std.proofs.Common.{◌≡◌, ◌<◌, Bool, true, false, List, length, map, get_or, sym, ap, subst, ◌∙◌, arith, rules}
use Rattle.std.specs.Prelude.{All, slice_set}
use Rattle.std.proofs.lemmas.List.{get_or_read, get_or-set_same}
use Rattle.fdr.specs.Tasks.{Operator, ranges, IsOperator, IsInRange}
use Rattle.reduction.specs.Facts.{is_in}
use Rattle.reduction.specs.Closing.{IsClosing, Asks}
use Rattle.reduction.proofs.ClosingSteps.{due_exists, due_within, conditions_in_range, mark_closing}
use Rattle.reduction.proofs.closing.Closing.mark.Goals as goal

pub index-requires : goal.index-requires
index-requires c =
    let within = due_within c.args.task.now c.args.self.now.asked c.args.self.now.changing.items c.args.number c.requires.closing c.requires.due in
    omega (arith, within, c.args.self.now.changing.ok.0)

pub returns-then-index-clause-marked : goal.returns-then-index-clause-marked
returns-then-index-clause-marked c =
    let within = due_within c.args.task.now c.args.self.now.asked c.args.self.now.changing.items c.args.number c.requires.closing c.requires.due in
    sym (get_or_read c.args.self.now.changing.items c.args.number c.index.result.now within c.index.ensures false) ∙ c.if-index.true

pub bounds-operators-number : goal.bounds-operators-number
bounds-operators-number c =
    let exists = due_exists c.args.task.now (is_in c.args.self.now.asked) c.args.number c.requires.due in
    omega (arith, exists, ap (λ (ops : List Operator). length ops) c.operators.ensures.value)

pub offset_bounds-operators-number : goal.offset_bounds-operators-number
offset_bounds-operators-number c =
    let exists = due_exists c.args.task.now (is_in c.args.self.now.asked) c.args.number c.requires.due in
    let inside : c.args.number < length c.operators.result.now = omega (arith, exists, ap (λ (ops : List Operator). length ops) c.operators.ensures.value) in
    search rules

pub ask_all-requires : goal.ask_all-requires
ask_all-requires c =
    let task = c.args.task.now in
    let n = c.args.number in
    let op : Operator = c.index-operators-number.result in
    let ops : c.operators.result.now ≡ task.operators = c.operators.ensures.value in
    let l : n < length task.operators = due_exists task (is_in c.args.self.now.asked) n c.requires.due in
    let is : op ≡ get_or task.operators n op = c.index-operators-number.is ∙ ap (λ (xs : List Operator). get_or xs n op) ops in
    let all : All (IsOperator (ranges task)) task.operators = subst (All (IsOperator (ranges task))) ops c.operators.ensures.operators in
    let conditions : c.deref.result.now ≡ op.precondition = c.deref.ensures.value ∙ ap (λ (o : Operator). o.precondition) c.operator.view_is in
    subst (All (IsInRange (map length c.args.self.now.asked))) (sym conditions)
    (conditions_in_range task c.args.self.now.asked c.args.self.now.changing.items n op c.requires.closing all l is)

pub index_mut-requires : goal.index_mut-requires
index_mut-requires c =
    let within = due_within c.args.task.now c.args.self.now.asked c.args.self.now.changing.items c.args.number c.requires.closing c.requires.due in
    omega (arith, within, c.ask_all.new.self.changing.ok.0, ap (λ (bs : List Bool). length bs) c.in_ok-ask_all.ensures.changing)

pub returns-clause-closing : goal.returns-clause-closing
returns-clause-closing c =
    let task = c.args.task.now in
    let n = c.args.number in
    let op : Operator = c.index-operators-number.result in
    let is : op ≡ get_or task.operators n op = c.index-operators-number.is ∙ ap (λ (xs : List Operator). get_or xs n op) c.operators.ensures.value in
    let conditions : c.deref.result.now ≡ op.precondition = c.deref.ensures.value ∙ ap (λ (o : Operator). o.precondition) c.operator.view_is in
    let asks : Asks c.args.self.now.asked c.ask_all.new.self.asked c.args.self.now.pending.items c.ask_all.new.self.pending.items op.precondition =
    subst (Asks c.args.self.now.asked c.ask_all.new.self.asked c.args.self.now.pending.items c.ask_all.new.self.pending.items) conditions c.in_ok-ask_all.ensures.asks in
    subst (λ (bs : List Bool). IsClosing task c.ask_all.new.self.asked (slice_set bs n true)) (sym c.in_ok-ask_all.ensures.changing)
    (mark_closing task c.args.self.now.asked c.ask_all.new.self.asked c.args.self.now.changing.items c.args.self.now.pending.items c.ask_all.new.self.pending.items n op c.requires.closing c.requires.due is asks)

pub returns-clause-marked : goal.returns-clause-marked
returns-clause-marked c =
    let within = due_within c.args.task.now c.args.self.now.asked c.args.self.now.changing.items c.args.number c.requires.closing c.requires.due in
    get_or-set_same c.ask_all.new.self.changing.items c.args.number true false (omega (arith, within, ap (λ (bs : List Bool). length bs) c.in_ok-ask_all.ensures.changing))
