use Rattle.std.proofs.Common.{◌≡◌, ℕ, Bool, List, ◌++◌, ◌∷◌, [], length, Some, refl, sym, ap, ◌∙◌, subst, arith, if◌then◌else◌}
use Rattle.std.specs.Prelude.{All, slice_get}
use Rattle.std.specs.Map.{values_of}
use Rattle.std.proofs.lemmas.List.{length-map}
use Rattle.closed.specs.declared.small_entry.SmallEntry.{SmallEntry}
use Rattle.closed.specs.declared.table.Entry.{Entry}
use Rattle.closed.specs.declared.table.Outcome.TheVariants.{New, Better, Kept}
use Rattle.closed.specs.Tables.{node_with, padded, outcome_of}
use Rattle.closed.specs.Entries.{entry_in, nodes_of, ever_of, with_entry, set_entry_at}
use Rattle.closed.proofs.Reached.{outcome_of-Kept}
use Rattle.closed.proofs.Entries.{compares, outcome_of-missing, outcome_of-tested, nodes_of-pushed, nodes_of-set_entry_at, with_entry-reached, node_at-value, All-set_entry_at}
use Rattle.closed.proofs.Indexing.{none_pushed, some_same}
use Rattle.closed.proofs.Ever.{padded_same, ever_of-pushed, ever_of-replaced}
use Rattle.closed.proofs.table.enter.Goals as goal
use Rattle.closed.proofs.table.enter.Goals.{In-None, After-set_entry, Else-lt}

-- no row had the form, and one was appended
pushed : (g : _) (c : In-None g) → c.index_or_push.new.self ≡ c.args.rows.now ++ (c.in_ok-key.key, c.args.entry) ∷ []
pushed g c = none_pushed c.in_ok-index_or_push.field-0 _ c.in-None.is c.in_ok-index_or_push.ensures.pushed

pub returns-in-None-clause-outcome : goal.returns-in-None-clause-outcome
returns-in-None-clause-outcome g c ranges form keys =
    let values = g.F.StateForm.values ranges in
    let key = c.in_ok-key.key in
    ap New c.len-len.ensures.len
    ∙ sym
    (outcome_of-missing values (g.F.StateForm.IsForm ranges) g.F.PartialEq.eq
    (compares values (g.F.StateForm.IsForm ranges) g.F.PartialEq.eq (g.met.F.StateForm.equal ranges) (g.met.F.StateForm.same ranges))
    key (c.in_ok-key.ensures.form ranges form) (node_with (values c.args.form.now) (entry_in c.args.entry)) (c.in_ok-key.ensures.values ranges form)
    c.args.rows.now keys (sym c.in_ok-index_or_push.ensures.index ∙ c.in-None.is))

pub returns-in-None-clause-nodes : goal.returns-in-None-clause-nodes
returns-in-None-clause-nodes g c ranges form keys =
    let values = g.F.StateForm.values ranges in
    ap (λ (es : List (g.row.F.Denot × SmallEntry)). nodes_of values es) (pushed g c)
    ∙ nodes_of-pushed values c.args.rows.now c.in_ok-key.key c.args.entry (values c.args.form.now) c.len-len.result
    (c.in_ok-key.ensures.values ranges form) (sym (returns-in-None-clause-outcome g c ranges form keys))

pub returns-in-None-clause-ever : goal.returns-in-None-clause-ever
returns-in-None-clause-ever g c =
    ever_of-pushed c.args.rows.now c.index_or_push.new.self c.in_ok-key.key c.args.entry (pushed g c) c.requires.never

-- the row with the form
module _ (g : _) (c : After-set_entry g) where
  kept : c.index_or_push.new.self ≡ c.args.rows.now
  kept = some_same c.in_ok-index_or_push.field-0 c.in-Some.index _ c.in-Some.is c.in_ok-index_or_push.ensures.same

  found : (ranges : List ℕ) → g.F.StateForm.IsForm ranges c.args.form.now → All (λ p. g.F.StateForm.IsForm ranges p.0) c.args.rows.now
      → outcome_of (nodes_of (g.F.StateForm.values ranges) c.args.rows.now) (node_with (g.F.StateForm.values ranges c.args.form.now) (entry_in c.args.entry))
      ≡ (if c.lt.result then Better c.in-Some.index else Kept)
  found ranges form keys =
      let values = g.F.StateForm.values ranges in
      outcome_of-tested values (g.F.StateForm.IsForm ranges) g.F.PartialEq.eq
      (compares values (g.F.StateForm.IsForm ranges) g.F.PartialEq.eq (g.met.F.StateForm.equal ranges) (g.met.F.StateForm.same ranges))
      c.in_ok-key.key (c.in_ok-key.ensures.form ranges form) (node_with (values c.args.form.now) (entry_in c.args.entry)) (c.in_ok-key.ensures.values ranges form)
      c.args.rows.now c.index_or_push.new.self c.in-Some.index c.entry-old.result c.args.entry c.rank.result c.rank-2.result
      c.in_ok-index_or_push.field-0 c.lt.result keys c.in_ok-index_or_push.ensures.index c.in-Some.is kept
      c.entry-old.ensures refl refl c.rank.ensures c.rank-2.ensures c.lt.ensures

there : (g : _) (c : After-set_entry g) → slice_get (values_of c.args.rows.now) c.in-Some.index ≡ Some c.entry-old.result
there g c = subst (λ (rs : List (g.row.F.Denot × SmallEntry)). slice_get (values_of rs) c.in-Some.index ≡ Some c.entry-old.result) (kept g c) c.entry-old.ensures

pub returns-then-lt-clause-outcome : goal.returns-then-lt-clause-outcome
returns-then-lt-clause-outcome g c ranges form keys =
    sym (found g c ranges form keys ∙ ap (λ (b : Bool). if b then Better c.in-Some.index else Kept) c.if-lt.true)

set : (g : _) (c : After-set_entry g) → c.set_entry.new.self ≡ set_entry_at c.args.rows.now c.in-Some.index c.in_place_of.result
set g c = c.set_entry.ensures ∙ ap (λ (rs : List (g.row.F.Denot × SmallEntry)). set_entry_at rs c.in-Some.index c.in_place_of.result) (kept g c)

pub returns-then-lt-clause-keys : goal.returns-then-lt-clause-keys
returns-then-lt-clause-keys g c ranges form keys =
    subst (λ (es : List (g.row.F.Denot × SmallEntry)). All (λ p. g.F.StateForm.IsForm ranges p.0) es) (sym (set g c))
    (All-set_entry_at (g.F.StateForm.IsForm ranges) c.args.rows.now c.in-Some.index c.in_place_of.result keys)

pub returns-then-lt-clause-nodes : goal.returns-then-lt-clause-nodes
returns-then-lt-clause-nodes g c ranges form keys =
    let values = g.F.StateForm.values ranges in
    let entries = c.args.rows.now in
    ap (λ (es : List (g.row.F.Denot × SmallEntry)). nodes_of values es) (set g c)
    ∙ nodes_of-set_entry_at values entries c.in-Some.index c.in_place_of.result
    ∙ ap (λ (e : Entry). with_entry (nodes_of values entries) c.in-Some.index e) c.in_place_of.ensures.entry
    ∙ with_entry-reached (nodes_of values entries) (values c.args.form.now) (entry_in c.args.entry) c.in-Some.index
    (found g c ranges form keys ∙ ap (λ (b : Bool). if b then Better c.in-Some.index else Kept) c.if-lt.true)

pub returns-then-lt-clause-noted : goal.returns-then-lt-clause-noted
returns-then-lt-clause-noted g c ranges = (
  c.entry-old.result,
  c.in_ok-push.ensures.items,
  λ n at. node_at-value (g.F.StateForm.values ranges) c.args.rows.now c.in-Some.index c.entry-old.result n (there g c) at,
)

pub returns-then-lt-clause-ever : goal.returns-then-lt-clause-ever
returns-then-lt-clause-ever g c =
    let rows = c.args.rows.now in
    let same = ap (λ (rs : List (g.row.F.Denot × SmallEntry)). ever_of rs) (set g c)
    ∙ ever_of-replaced rows c.in-Some.index c.entry-old.result c.in_place_of.result (there g c) c.in_place_of.ensures.ever in
    same ∙ sym (padded_same (ever_of rows) (length c.set_entry.new.self) (omega (
      arith,
      ap length same,
      length-map rows (λ (p : g.row.F.Denot × SmallEntry). p.1.ever),
      length-map c.set_entry.new.self (λ (p : g.row.F.Denot × SmallEntry). p.1.ever),
    )))

-- the row with the form
module _ (g : _) (c : Else-lt g) where
  kept-else : c.index_or_push.new.self ≡ c.args.rows.now
  kept-else = some_same c.in_ok-index_or_push.field-0 c.in-Some.index _ c.in-Some.is c.in_ok-index_or_push.ensures.same

  found-else : (ranges : List ℕ) → g.F.StateForm.IsForm ranges c.args.form.now → All (λ p. g.F.StateForm.IsForm ranges p.0) c.args.rows.now
      → outcome_of (nodes_of (g.F.StateForm.values ranges) c.args.rows.now) (node_with (g.F.StateForm.values ranges c.args.form.now) (entry_in c.args.entry))
      ≡ (if c.lt.result then Better c.in-Some.index else Kept)
  found-else ranges form keys =
      let values = g.F.StateForm.values ranges in
      outcome_of-tested values (g.F.StateForm.IsForm ranges) g.F.PartialEq.eq
      (compares values (g.F.StateForm.IsForm ranges) g.F.PartialEq.eq (g.met.F.StateForm.equal ranges) (g.met.F.StateForm.same ranges))
      c.in_ok-key.key (c.in_ok-key.ensures.form ranges form) (node_with (values c.args.form.now) (entry_in c.args.entry)) (c.in_ok-key.ensures.values ranges form)
      c.args.rows.now c.index_or_push.new.self c.in-Some.index c.entry-old.result c.args.entry c.rank.result c.rank-2.result
      c.in_ok-index_or_push.field-0 c.lt.result keys c.in_ok-index_or_push.ensures.index c.in-Some.is kept-else
      c.entry-old.ensures refl refl c.rank.ensures c.rank-2.ensures c.lt.ensures

pub returns-clause-outcome : goal.returns-clause-outcome
returns-clause-outcome g c ranges form keys =
    sym (found-else g c ranges form keys ∙ ap (λ (b : Bool). if b then Better c.in-Some.index else Kept) c.if-lt.false)

pub returns-clause-nodes : goal.returns-clause-nodes
returns-clause-nodes g c ranges form keys =
    let values = g.F.StateForm.values ranges in
    ap (λ (es : List (g.row.F.Denot × SmallEntry)). nodes_of values es) (kept-else g c)
    ∙ sym (outcome_of-Kept (nodes_of values c.args.rows.now) (node_with (values c.args.form.now) (entry_in c.args.entry))
    (found-else g c ranges form keys ∙ ap (λ (b : Bool). if b then Better c.in-Some.index else Kept) c.if-lt.false)).same

pub returns-clause-ever : goal.returns-clause-ever
returns-clause-ever g c =
    let rows = c.args.rows.now in
    subst (λ (rs : List (g.row.F.Denot × SmallEntry)). ever_of rs ≡ padded (ever_of rows) (length rs)) (sym (kept-else g c))
    (sym (padded_same (ever_of rows) (length rows) (omega (arith, length-map rows (λ (p : g.row.F.Denot × SmallEntry). p.1.ever)))))
