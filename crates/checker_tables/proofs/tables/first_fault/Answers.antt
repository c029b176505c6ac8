use Rattle.std.proofs.Common.{◌≡◌, ℕ, ◌<◌, Bool, true, not, List, length, map, sym, ap, ◌∙◌, arith}
use Rattle.std.specs.Prelude.{slice_index}
use Rattle.std.proofs.lemmas.List.{length-map}
use Rattle.fdr.specs.Tasks.{FiniteDomainTask, Operator}
use Rattle.abstraction_mapping.specs.Views.{abstraction_in}
use Rattle.cert_value.specs.declared.table.Share.{Share}
use Rattle.cert_value.specs.Certificates.{Table}
use Rattle.cert_value.specs.Views as kept
use Rattle.checker_clauses.specs.Clauses.{has_form, share_of}
use Rattle.checker_tables.specs.Changes.{leaves_states, changes_of, is_tried}
use Rattle.checker_tables.specs.TableFaults.{touching_from, spender_of}
use Rattle.checker_tables.proofs.TableViolations.{goal_is_first, fall_is_first, none_falls}
use Rattle.checker_tables.proofs.tables.first_fault.Goals as goal

pub returns-in-Some-goal : goal.returns-in-Some-goal
returns-in-Some-goal c =
    let t = kept.table_of c.args.table.now in
    let made = rw c.in-Some.is at c.in_ok-mapped.ensures in
    let formed : has_form c.args.task.now t ≡ true =
    ap (λ (u : FiniteDomainTask). has_form u t) (sym made.0) ∙ ap (λ (x : Table). has_form c.in-Some.mapped.task x) (sym made.1) ∙ c.abstraction-abstraction.ensures.formed
    in
    goal_is_first c.abstraction-abstraction.result.now c.args.task.now t (c.abstraction-abstraction.ensures.task ∙ made.0) (c.abstraction-abstraction.ensures.mapping ∙ ap (λ (x : Table). x.mapping) made.1)
    formed c.in-Some-goal.state (rw c.in-Some-goal.is at c.in_ok-goal.ensures)

pub returns-in-Some-fall : goal.returns-in-Some-fall
returns-in-Some-fall c =
    let t = kept.table_of c.args.table.now in
    let made = rw c.in-Some.is at c.in_ok-mapped.ensures in
    let formed : has_form c.args.task.now t ≡ true =
    ap (λ (u : FiniteDomainTask). has_form u t) (sym made.0) ∙ ap (λ (x : Table). has_form c.in-Some.mapped.task x) (sym made.1) ∙ c.abstraction-abstraction.ensures.formed
    in
    let a = c.abstraction-abstraction.result.now in
    let sums = c.in_ok-shares.shares.sums in
    let shares : (o : ℕ) → o < length c.args.task.now.operators → slice_index sums o ≡ share_of t.shares o =
    λ o l. c.in_ok-shares.ensures.shares o (omega (arith, l, c.operator_count.ensures)) ∙ ap (λ (ss : List Share). share_of ss o) c.deref.ensures.value
    in
    let are : c.deref-2.result.now ≡ map (spender_of (slice_index sums)) (touching_from (is_tried (changes_of c.args.task.now) (abstraction_in a).touches) 0 (length c.args.task.now.operators)) =
    c.deref-2.ensures.value ∙ c.in_ok-spenders.ensures
    ∙ ap (λ (flags : List Bool). map (spender_of (slice_index sums)) (touching_from (is_tried flags (abstraction_in a).touches) 0 (length flags))) c.requires
    ∙ ap (λ (n : ℕ). map (spender_of (slice_index sums)) (touching_from (is_tried (changes_of c.args.task.now) (abstraction_in a).touches) 0 n)) (length-map c.args.task.now.operators (λ (op : Operator). not (leaves_states op)))
    in
    fall_is_first a c.args.task.now t (c.abstraction-abstraction.ensures.task ∙ made.0) (c.abstraction-abstraction.ensures.mapping ∙ ap (λ (x : Table). x.mapping) made.1)
    sums shares c.deref-2.result.now are formed (rw c.in_default-goal.is at c.in_ok-goal.ensures)
    c.in-Some-fall.state c.in-Some-fall.operator (rw c.in-Some-fall.is at c.in_ok-fall.ensures)

pub returns : goal.returns
returns c =
    let t = kept.table_of c.args.table.now in
    let made = rw c.in-Some.is at c.in_ok-mapped.ensures in
    let formed : has_form c.args.task.now t ≡ true =
    ap (λ (u : FiniteDomainTask). has_form u t) (sym made.0) ∙ ap (λ (x : Table). has_form c.in-Some.mapped.task x) (sym made.1) ∙ c.abstraction-abstraction.ensures.formed
    in
    let a = c.abstraction-abstraction.result.now in
    let sums = c.in_ok-shares.shares.sums in
    let shares : (o : ℕ) → o < length c.args.task.now.operators → slice_index sums o ≡ share_of t.shares o =
    λ o l. c.in_ok-shares.ensures.shares o (omega (arith, l, c.operator_count.ensures)) ∙ ap (λ (ss : List Share). share_of ss o) c.deref.ensures.value
    in
    let are : c.deref-2.result.now ≡ map (spender_of (slice_index sums)) (touching_from (is_tried (changes_of c.args.task.now) (abstraction_in a).touches) 0 (length c.args.task.now.operators)) =
    c.deref-2.ensures.value ∙ c.in_ok-spenders.ensures
    ∙ ap (λ (flags : List Bool). map (spender_of (slice_index sums)) (touching_from (is_tried flags (abstraction_in a).touches) 0 (length flags))) c.requires
    ∙ ap (λ (n : ℕ). map (spender_of (slice_index sums)) (touching_from (is_tried (changes_of c.args.task.now) (abstraction_in a).touches) 0 n)) (length-map c.args.task.now.operators (λ (op : Operator). not (leaves_states op)))
    in
    none_falls a c.args.task.now t (c.abstraction-abstraction.ensures.task ∙ made.0) (c.abstraction-abstraction.ensures.mapping ∙ ap (λ (x : Table). x.mapping) made.1)
    sums shares c.deref-2.result.now are formed (rw c.in_default-goal.is at c.in_ok-goal.ensures)
    (rw c.in-None.is at c.in_ok-fall.ensures)
