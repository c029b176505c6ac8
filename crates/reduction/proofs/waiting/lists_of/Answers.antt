use Rattle.std.proofs.Common.{◌≡◌, ℕ, ◌<◌, [], List, length, sym, ap, subst, ◌∙◌, arith}
use Rattle.std.specs.Prelude.{All, slice_index, slice_index_or}
use Rattle.std.proofs.lemmas.List.FromFn.{length-map-range_with_len}
use Rattle.fdr.specs.Tasks.{ranges}
use Rattle.keyed_lists.specs.declared.lists.Keyed.{Keyed}
use Rattle.keyed_lists.specs.Lists.{lists_by, items_with}
use Rattle.reduction.proofs.EntryLaws.{keys_with, lists_more, list_of}
use Rattle.reduction.proofs.waiting.lists_of.Goals as goal

pub get-requires : goal.get-requires
get-requires c =
    omega (arith, ap (λ (ls : List (List (Keyed ℕ))). length ls) c.in_ok-by_variable.ensures, length-map-range_with_len (λ (k : ℕ). items_with k c.args.entries.now) 0 c.variable_count-count.result, c.loop-variable-test.true)

pub new-requires-in-loop-variable : goal.new-requires-in-loop-variable
new-requires-in-loop-variable c =
    let v = c.loop-variable.variable in
    let entries = c.args.entries.now in
    let listed : c.get.result.now ≡ items_with c.loop-variable.variable c.args.entries.now =
    c.get.ensures ∙ ap (λ (ls : List (List (Keyed ℕ))). slice_index_or ls c.loop-variable.variable []) c.in_ok-by_variable.ensures ∙ list_of entries c.variable_count-count.result v c.loop-variable-test.true in
    subst (λ (es : List (Keyed ℕ)). All (λ e. e.key < c.range.result) es) (sym listed)
    (subst (λ (n : ℕ). All (λ e. e.key < n) (items_with c.loop-variable.variable c.args.entries.now)) (sym c.range.ensures) (keys_with (ranges c.args.task.now) v entries c.requires))

pub loop-variable-preserved : goal.loop-variable-preserved
loop-variable-preserved c =
    let v = c.loop-variable.variable in
    let entries = c.args.entries.now in
    let listed : c.get.result.now ≡ items_with c.loop-variable.variable c.args.entries.now =
    c.get.ensures ∙ ap (λ (ls : List (List (Keyed ℕ))). slice_index_or ls c.loop-variable.variable []) c.in_ok-by_variable.ensures ∙ list_of entries c.variable_count-count.result v c.loop-variable-test.true in
    let is : c.in_ok-listed.listed ≡ lists_by (slice_index (ranges c.args.task.now) c.loop-variable.variable) (items_with c.loop-variable.variable c.args.entries.now) =
    c.in_ok-listed.ensures ∙ ap (λ (es : List (Keyed ℕ)). lists_by c.range.result es) listed ∙ ap (λ (n : ℕ). lists_by n (items_with c.loop-variable.variable c.args.entries.now)) c.range.ensures in
    lists_more (λ (w : ℕ). lists_by (slice_index (ranges c.args.task.now) w) (items_with w c.args.entries.now)) v c.loop-variable.lists.items c.push.new.self.items c.in_ok-listed.listed c.loop-variable.invariant is c.in_ok-push.ensures.items
