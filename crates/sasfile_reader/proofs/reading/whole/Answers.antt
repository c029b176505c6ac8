use Rattle.std.proofs.Common.{◌≡◌, ℕ, List, sym, ap, subst, ◌∙◌, Ok}
use Rattle.std.proofs.lemmas.Result.{err_from_is_err_and}
use Rattle.fdr.specs.Tasks.{FiniteDomainTask}
use Rattle.sasfile_reader.specs.Reading.{Fails, Remaining, body_at, task_at}
use Rattle.sasfile_reader.specs.Remains.{remaining, head, body}
use Rattle.sasfile_reader.proofs.Whole.{joined_task, joined_few, within_not_past, task_made, head_fails, body_fails}
use Rattle.sasfile_reader.proofs.reading.whole.Goals as goal

pub new-requires-2 : goal.new-requires-2
new-requires-2 c =
    let ks = c.deref.ensures.value ∙ c.in_ok-head.ensures.ranges in
    let b = subst (λ (ks : List ℕ). body_at ks (remaining c.in_ok-head.lines) ≡ Ok (body c.in_ok-body.body)) ks c.in_ok-body.ensures in
    joined_task (head c.in_ok-head.head) (body c.in_ok-body.body) _ _ _ c.in_ok-head.ensures.head b

pub returns-in_err-head : goal.returns-in_err-head
returns-in_err-head c =
    let p = err_from_is_err_and c.from_residual.result c.from_residual.ensures.1 in
    rw (p.1, p.2) (subst (λ (r : Remaining). Fails c.in_err-head.field-0.0 (task_at r)) c.new.ensures (head_fails c.in_err-head.field-0.0 (remaining c.new.result) c.in_err-head.ensures.head))

pub returns-in_err-body : goal.returns-in_err-body
returns-in_err-body c =
    let p = err_from_is_err_and c.from_residual-in_err-body.result c.from_residual-in_err-body.ensures.1 in
    let ks = c.deref.ensures.value ∙ c.in_ok-head.ensures.ranges in
    let b = subst (λ (ks : List ℕ). Fails c.in_err-body.field-0.0 (body_at ks (remaining c.in_ok-head.lines))) ks c.in_err-body.ensures in
    rw (p.1, p.2) (subst (λ (r : Remaining). Fails c.in_err-body.field-0.0 (task_at r)) c.new.ensures (body_fails c.in_err-body.field-0.0 (remaining c.new.result) (remaining c.in_ok-head.lines) (head c.in_ok-head.head) c.in_ok-head.ensures.head b))

pub returns-in-Ok : goal.returns-in-Ok
returns-in-Ok c =
    let ks = c.deref.ensures.value ∙ c.in_ok-head.ensures.ranges in
    let b = subst (λ (ks : List ℕ). body_at ks (remaining c.in_ok-head.lines) ≡ Ok (body c.in_ok-body.body)) ks c.in_ok-body.ensures in
    let made = task_made (remaining c.new.result) (remaining c.in_ok-head.lines) (head c.in_ok-head.head) (body c.in_ok-body.body) c.in_ok-head.ensures.head b in
    ap task_at (sym c.new.ensures) ∙ made ∙ ap (λ (t : FiniteDomainTask). Ok t) (sym c.in-Ok.ensures.task)

pub returns : goal.returns
returns c =
    let ks = c.deref.ensures.value ∙ c.in_ok-head.ensures.ranges in
    let b = subst (λ (ks : List ℕ). body_at ks (remaining c.in_ok-head.lines) ≡ Ok (body c.in_ok-body.body)) ks c.in_ok-body.ensures in
    let few = joined_few (head c.in_ok-head.head) (body c.in_ok-body.body) _ _ _ c.in_ok-head.ensures.head b in
    absurd (within_not_past _ c.in-Err.limit few c.in-Err.ensures.past)
