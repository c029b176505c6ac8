-- Text that is written at the end of other text.
use Rattle.std.proofs.Common.{◌≡◌, ℕ, suc, ◌+◌, ◌<◌, Bool, true, false, cond, List, [], ◌∷◌, ◌++◌, length, get_or, take, map, refl, sym, ap, ◌∙◌, append_assoc, arith}
use Rattle.std.specs.Prelude.{filter, nat_le, count_by}
use Rattle.std.specs.List.{flat_map, enumerate_from}
use Rattle.std.proofs.lemmas.List.{map-append, append-nil, take_more, length-take, length-map}
use Rattle.std.proofs.lemmas.List.Elements.{filter-append}
use Rattle.std.proofs.lemmas.Grind.{flat_map-append}
use Rattle.std.proofs.lemmas.List.Sums.{length-filter}
use Rattle.fdr.specs.declared.fact.Fact.{Fact}
use Rattle.fdr.specs.Tasks.{Operator, FiniteDomainTask}
use Rattle.sasfile_writer.specs.Written.{text_of_lines, groups_of}

pub ruleset appending = (append_assoc, map-append, flat_map-append, append-nil)

-- more lines behind those that were written
pub more_lines : (ls ms : List (List ℕ)) (old out new : List ℕ) → out ≡ old ++ text_of_lines ls → new ≡ out ++ text_of_lines ms → new ≡ old ++ text_of_lines (ls ++ ms)
more_lines ls ms old out new so_far is =
    is ∙ ap (λ (xs : List ℕ). xs ++ text_of_lines ms) so_far ∙ append_assoc old (text_of_lines ls) (text_of_lines ms)
    ∙ ap (λ (xs : List ℕ). old ++ xs) (sym (flat_map-append (λ (l : List ℕ). l ++ 10 ∷ []) ls ms))

-- the same, where the lines have another spelling
pub more_lines_as : (all ls ms : List (List ℕ)) (old out new : List ℕ) → all ≡ ls ++ ms → out ≡ old ++ text_of_lines ls → new ≡ out ++ text_of_lines ms → new ≡ old ++ text_of_lines all
more_lines_as all ls ms old out new e so_far is = more_lines ls ms old out new so_far is ∙ ap (λ (xs : List (List ℕ)). old ++ text_of_lines xs) (sym e)

-- one more of a list
pub take_item : {X : Type 0} (xs : List X) (i : ℕ) (x : X) → i < length xs → x ≡ get_or xs i x → take (i + 1) xs ≡ take i xs ++ x ∷ []
take_item xs i x lt is = take_more xs i x lt ∙ ap (λ y. take i xs ++ y ∷ []) (sym is)

pub flat_map_item : {X : Type 0} (f : X → List (List ℕ)) (xs : List X) (i : ℕ) (x : X) → i < length xs → x ≡ get_or xs i x → flat_map f (take (i + 1) xs) ≡ flat_map f (take i xs) ++ f x
flat_map_item f xs i x lt is =
    ap (flat_map f) (take_item xs i x lt is) ∙ flat_map-append f (take i xs) (x ∷ []) ∙ ap (λ ys. flat_map f (take i xs) ++ ys) (append-nil (f x))

enumerate_push : {X : Type 0} (n : ℕ) (xs : List X) (x : X) → enumerate_from n (xs ++ x ∷ []) ≡ enumerate_from n xs ++ (n + length xs, x) ∷ []
enumerate_push n [] x = let e : n ≡ n + 0 = omega arith in ap (λ (m : ℕ). (m, x) ∷ []) e
enumerate_push n (y ∷ ys) x =
    let e : n + 1 + length ys ≡ n + suc (length ys) = omega arith in
    ap (λ zs. (n, y) ∷ zs) (enumerate_push (n + 1) ys x ∙ ap (λ (m : ℕ). enumerate_from (n + 1) ys ++ (m, x) ∷ []) e)

-- one more of a list, with its number
enumerate_item : {X Y : Type 0} (f : X → Y) (xs : List X) (i : ℕ) (x : X) → i < length xs → x ≡ get_or xs i x → enumerate_from 0 (map f (take (i + 1) xs)) ≡ enumerate_from 0 (map f (take i xs)) ++ (i, f x) ∷ []
enumerate_item f xs i x lt is =
    let long : 0 + length (map f (take i xs)) ≡ i = omega (arith, length-map (take i xs) f, length-take i xs) in
    ap (λ ys. enumerate_from 0 (map f ys)) (take_item xs i x lt is) ∙ ap (enumerate_from 0) (map-append f (take i xs) (x ∷ []))
    ∙ enumerate_push 0 (map f (take i xs)) (f x) ∙ ap (λ (m : ℕ). enumerate_from 0 (map f (take i xs)) ++ (m, f x) ∷ []) long

pub numbered_item : {X Y : Type 0} (g : ℕ × Y → List (List ℕ)) (f : X → Y) (xs : List X) (i : ℕ) (x : X) → i < length xs → x ≡ get_or xs i x
    → flat_map g (enumerate_from 0 (map f (take (i + 1) xs))) ≡ flat_map g (enumerate_from 0 (map f (take i xs))) ++ g (i, f x)
numbered_item g f xs i x lt is =
    ap (flat_map g) (enumerate_item f xs i x lt is) ∙ flat_map-append g (enumerate_from 0 (map f (take i xs))) ((i, f x) ∷ [])
    ∙ ap (λ ys. flat_map g (enumerate_from 0 (map f (take i xs))) ++ ys) (append-nil (g (i, f x)))

-- ---- variables of several atoms

groups_item : (sizes : List ℕ) (i : ℕ) → i < length sizes → groups_of (take (i + 1) sizes) ≡ groups_of (take i sizes) ++ cond (nat_le 2 (get_or sizes i 0)) ((i, get_or sizes i 0) ∷ []) []
groups_item sizes i lt =
    let long : 0 + length (take i sizes) ≡ i = omega (arith, length-take i sizes) in
    ap groups_of (take_more sizes i 0 lt)
    ∙ ap (filter (λ (e : ℕ × ℕ). nat_le 2 e.1)) (enumerate_push 0 (take i sizes) (get_or sizes i 0) ∙ ap (λ (m : ℕ). enumerate_from 0 (take i sizes) ++ (m, get_or sizes i 0) ∷ []) long)
    ∙ filter-append (λ (e : ℕ × ℕ). nat_le 2 e.1) (enumerate_from 0 (take i sizes)) ((i, get_or sizes i 0) ∷ [])

pub group_item : (g : ℕ × ℕ → List (List ℕ)) (sizes : List ℕ) (i size : ℕ) → i < length sizes → size ≡ get_or sizes i 0 → nat_le 2 size ≡ true
    → flat_map g (groups_of (take (i + 1) sizes)) ≡ flat_map g (groups_of (take i sizes)) ++ g (i, size)
group_item g sizes i size lt is many =
    let here : cond (nat_le 2 (get_or sizes i 0)) ((i, get_or sizes i 0) ∷ []) [] ≡ (i, size) ∷ [] = rw (← is, many) refl in
    ap (flat_map g) (groups_item sizes i lt ∙ ap (λ (es : List (ℕ × ℕ)). groups_of (take i sizes) ++ es) here)
    ∙ flat_map-append g (groups_of (take i sizes)) ((i, size) ∷ []) ∙ ap (λ ys. flat_map g (groups_of (take i sizes)) ++ ys) (append-nil (g (i, size)))

pub group_none : (sizes : List ℕ) (i size : ℕ) → i < length sizes → size ≡ get_or sizes i 0 → nat_le 2 size ≡ false → groups_of (take (i + 1) sizes) ≡ groups_of (take i sizes)
group_none sizes i size lt is few =
    let here : cond (nat_le 2 (get_or sizes i 0)) ((i, get_or sizes i 0) ∷ []) [] ≡ [] = rw (← is, few) refl in
    groups_item sizes i lt ∙ ap (λ (es : List (ℕ × ℕ)). groups_of (take i sizes) ++ es) here ∙ append-nil (groups_of (take i sizes))

counted_by : (t : Bool) (m size n : ℕ) (es : List (ℕ × ℕ)) → length es ≡ n → length (cond t ((m, size) ∷ es) es) ≡ cond t (suc n) n
counted_by true m size n es e = ap suc e
counted_by false m size n es e = e

longer_by : (t : Bool) (size n : ℕ) (xs : List ℕ) → length xs ≡ n → length (cond t (size ∷ xs) xs) ≡ cond t (suc n) n
longer_by true size n xs e = ap suc e
longer_by false size n xs e = e

groups_from : (m : ℕ) (sizes : List ℕ) → length (filter (λ (e : ℕ × ℕ). nat_le 2 e.1) (enumerate_from m sizes)) ≡ length (filter (nat_le 2) sizes)
groups_from m [] = refl
groups_from m (size ∷ sizes) =
    counted_by (nat_le 2 size) m size (length (filter (nat_le 2) sizes)) (filter (λ (e : ℕ × ℕ). nat_le 2 e.1) (enumerate_from (m + 1) sizes)) (groups_from (m + 1) sizes)
    ∙ sym (longer_by (nat_le 2 size) size (length (filter (nat_le 2) sizes)) (filter (nat_le 2) sizes) refl)

pub groups_counted : (sizes : List ℕ) → length (groups_of sizes) ≡ count_by (nat_le 2) sizes
groups_counted sizes = groups_from 0 sizes ∙ length-filter (nat_le 2) sizes

-- ---- the same parts

pub same_operator : (op : Operator) (name : List ℕ) (precondition effect : List Fact) (cost : ℕ) → name ≡ op.name → precondition ≡ op.precondition → effect ≡ op.effect → cost ≡ op.cost
    → record { name = name; precondition = precondition; effect = effect; cost = cost } ≡ op
same_operator op name precondition effect cost a b c d =
    let first : record { name = name; precondition = precondition; effect = effect; cost = cost } ≡ record op { precondition = precondition; effect = effect; cost = cost } = ap (λ (x : List ℕ). record op { name = x; precondition = precondition; effect = effect; cost = cost }) a in
    first ∙ ap (λ (x : List Fact). record op { precondition = x; effect = effect; cost = cost }) b
    ∙ ap (λ (x : List Fact). record op { effect = x; cost = cost }) c ∙ ap (λ (x : ℕ). record op { cost = x }) d

pub same_task : (task : FiniteDomainTask) (metric : Bool) (value_names : List (List (List ℕ))) (initial : List ℕ) (goal : List Fact) (operators : List Operator)
    → metric ≡ task.metric → value_names ≡ task.value_names → initial ≡ task.initial → goal ≡ task.goal → operators ≡ task.operators
    → record { metric = metric; value_names = value_names; initial = initial; goal = goal; operators = operators } ≡ task
same_task task metric value_names initial goal operators a b c d e =
    let first : record { metric = metric; value_names = value_names; initial = initial; goal = goal; operators = operators } ≡ record task { value_names = value_names; initial = initial; goal = goal; operators = operators } =
    ap (λ (x : Bool). record task { metric = x; value_names = value_names; initial = initial; goal = goal; operators = operators }) a in
    first ∙ ap (λ (x : List (List (List ℕ))). record task { value_names = x; initial = initial; goal = goal; operators = operators }) b
    ∙ ap (λ (x : List ℕ). record task { initial = x; goal = goal; operators = operators }) c
    ∙ ap (λ (x : List Fact). record task { goal = x; operators = operators }) d
    ∙ ap (λ (x : List Operator). record task { operators = x }) e
