use Rattle.std.proofs.Common.{◌≡◌, ℕ, ◌+◌, ◌-◌, ◌<◌, List, [], ◌∷◌, ◌++◌, length, take, drop, map, get_or, sym, ap, ◌∙◌, subst, arith, append_assoc}
use Rattle.std.specs.Prelude.{Contains}
use Rattle.keyed_lists.specs.declared.lists.Keyed.{Keyed}
use Rattle.abstraction_groups.specs.declared.backward.Transition.{Transition}
use Rattle.std.proofs.lemmas.List.{get_or_append_left}
use Rattle.abstraction_groups.specs.Pairs.{shifted}
use Rattle.abstraction_groups.proofs.RowSums.{copy_next, entry_in}
use Rattle.abstraction_groups.proofs.pairs.append_shifted.Goals as goal

read_old : (old more entries : List (Keyed Transition)) (i : ℕ) (x : Keyed Transition) → entries ≡ old ++ more → i < length old → x ≡ get_or entries i x → x ≡ get_or old i x
read_old old more entries i x is l read = read ∙ ap (λ (xs : List (Keyed Transition)). get_or xs i x) is ∙ get_or_append_left old more x i l

pub overflow_add-entry : goal.overflow_add-entry
overflow_add-entry c =
    let old : List (Keyed Transition) = c.args.entries.now.items in
    let i = c.loop-index.index in
    let x : Keyed Transition = c.index-entry.result.now in
    let is : x ≡ get_or old i x = read_old old (map (shifted c.args.source c.args.target) (take (i - c.args.first) (drop c.args.first old))) c.loop-index.entries.items i x c.loop-index.invariant (omega arith) c.index-entry.ensures in
    let there : Contains (take c.args.count (drop c.args.first old)) x = subst (λ (y : Keyed Transition). Contains (take c.args.count (drop c.args.first old)) y) (sym is) (entry_in c.args.first old c.args.count i x (omega arith) (omega arith) (omega arith)) in
    let small = c.requires.small x there in
    let fits = small.1 in
    omega arith

pub overflow_add-entry-in-loop-index : goal.overflow_add-entry-in-loop-index
overflow_add-entry-in-loop-index c =
    let old : List (Keyed Transition) = c.args.entries.now.items in
    let i = c.loop-index.index in
    let x : Keyed Transition = c.index-entry.result.now in
    let is : x ≡ get_or old i x = read_old old (map (shifted c.args.source c.args.target) (take (i - c.args.first) (drop c.args.first old))) c.loop-index.entries.items i x c.loop-index.invariant (omega arith) c.index-entry.ensures in
    let there : Contains (take c.args.count (drop c.args.first old)) x = subst (λ (y : Keyed Transition). Contains (take c.args.count (drop c.args.first old)) y) (sym is) (entry_in c.args.first old c.args.count i x (omega arith) (omega arith) (omega arith)) in
    let small = c.requires.small x there in
    let fits = small.0 in
    omega arith

pub loop-index-preserved : goal.loop-index-preserved
loop-index-preserved c =
    let s = c.args.source in
    let t = c.args.target in
    let old : List (Keyed Transition) = c.args.entries.now.items in
    let i = c.loop-index.index in
    let x : Keyed Transition = c.index-entry.result.now in
    let is : x ≡ get_or old i x = read_old old (map (shifted c.args.source c.args.target) (take (i - c.args.first) (drop c.args.first old))) c.loop-index.entries.items i x c.loop-index.invariant (omega arith) c.index-entry.ensures in
    let done = map (shifted s t) (take (i - c.args.first) (drop c.args.first old)) in
    let next : map (shifted s t) (take (i + 1 - c.args.first) (drop c.args.first old)) ≡ done ++ shifted s t x ∷ [] =
    copy_next c.args.first old s t i x (omega arith) (omega arith) ∙ ap (λ (y : Keyed Transition). done ++ shifted s t y ∷ []) (sym is) in
    let made : c.push.new.self.items ≡ c.loop-index.entries.items ++ shifted s t x ∷ [] = c.in_ok-push.ensures.items in
    made ∙ ap (λ (xs : List (Keyed Transition)). xs ++ shifted s t x ∷ []) c.loop-index.invariant ∙ append_assoc old done (shifted s t x ∷ []) ∙ ap (λ (xs : List (Keyed Transition)). old ++ xs) (sym next)
