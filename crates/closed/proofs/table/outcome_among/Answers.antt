use Rattle.std.proofs.Common.{◌≡◌, Bool, true, false, sym, ap, ◌∙◌, refl, subst, if◌then◌else◌}
use Rattle.owner_theory.specs.Owners.{rank_less}
use Rattle.openlist.specs.declared.entry.Rank.{Rank}
use Rattle.closed.specs.declared.table.Outcome.TheVariants.{New, Better, Kept}
use Rattle.closed.specs.Tables.{fresh}
use Rattle.closed.proofs.Entries.{is_lt-rank_less, compares, outcome_of-missing, outcome_of-found, form-found}
use Rattle.closed.proofs.table.outcome_among.Goals as goal

pub returns-in-None-clause-outcome : goal.returns-in-None-clause-outcome
returns-in-None-clause-outcome g c ranges parent form keys =
    let values = g.F.StateForm.values ranges in
    let key = c.args.form.now in
    ap New c.len.ensures.len
    ∙ sym
    (outcome_of-missing values (g.F.StateForm.IsForm ranges) g.F.PartialEq.eq
    (compares values (g.F.StateForm.IsForm ranges) g.F.PartialEq.eq (g.met.F.StateForm.equal ranges) (g.met.F.StateForm.same ranges))
    key form (fresh (values key) c.args.rank parent) refl c.args.rows.now keys (sym c.in-None.ensures.index))

pub returns-in-Some-clause-outcome : goal.returns-in-Some-clause-outcome
returns-in-Some-clause-outcome g c ranges parent form keys =
    let values = g.F.StateForm.values ranges in
    let key = c.args.form.now in
    let m = fresh (values key) c.args.rank parent in
    let entry = c.entry.result in
    let less : rank_less m.cost m.steps entry.cost entry.steps ≡ true =
    subst (λ (r : Rank). rank_less c.args.rank.cost c.args.rank.steps r.cost r.steps ≡ true) c.rank.ensures
    (sym (is_lt-rank_less c.args.rank c.rank.result) ∙ sym c.lt.ensures ∙ c.if-lt.true) in
    ap (λ (b : Bool). if b then Better c.in-Some.index else Kept) (sym less)
    ∙ sym
    (outcome_of-found values (g.F.StateForm.IsForm ranges) g.F.PartialEq.eq
    (compares values (g.F.StateForm.IsForm ranges) g.F.PartialEq.eq (g.met.F.StateForm.equal ranges) (g.met.F.StateForm.same ranges))
    key form m refl c.args.rows.now c.in-Some.index entry keys (sym c.in-Some.ensures.index) c.entry.ensures)

pub returns-in-Some-2-clause-outcome : goal.returns-in-Some-2-clause-outcome
returns-in-Some-2-clause-outcome g c ranges parent form keys =
    let values = g.F.StateForm.values ranges in
    let key = c.args.form.now in
    let m = fresh (values key) c.args.rank parent in
    let entry = c.entry.result in
    let less : rank_less m.cost m.steps entry.cost entry.steps ≡ false =
    subst (λ (r : Rank). rank_less c.args.rank.cost c.args.rank.steps r.cost r.steps ≡ false) c.rank.ensures
    (sym (is_lt-rank_less c.args.rank c.rank.result) ∙ sym c.lt.ensures ∙ c.if-lt.false) in
    ap (λ (b : Bool). if b then Better c.in-Some.index else Kept) (sym less)
    ∙ sym
    (outcome_of-found values (g.F.StateForm.IsForm ranges) g.F.PartialEq.eq
    (compares values (g.F.StateForm.IsForm ranges) g.F.PartialEq.eq (g.met.F.StateForm.equal ranges) (g.met.F.StateForm.same ranges))
    key form m refl c.args.rows.now c.in-Some.index entry keys (sym c.in-Some.ensures.index) c.entry.ensures)

pub returns-in-Some-2-clause-form : goal.returns-in-Some-2-clause-form
returns-in-Some-2-clause-form g c kept ranges keys =
    form-found (g.F.StateForm.IsForm ranges) g.F.PartialEq.eq c.args.form.now
    (λ p form same. g.met.F.StateForm.like ranges c.args.form.now p form same)
    c.args.rows.now c.in-Some.index keys (sym c.in-Some.ensures.index)
