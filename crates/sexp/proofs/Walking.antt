-- What a match on a tree, or on trees, says of the expressions that they stand for.
use Rattle.std.proofs.Common.{◌≡◌, ◌<◌, ◌≤◌, ◌+◌, suc, ℕ, List, [], ◌∷◌, length, drop, get_or, slice_range, refl, sym, ap, subst, ◌∙◌, arith}
use Rattle.std.proofs.Math.ListN.{drop_of_length-le}
use Rattle.std.proofs.Math.Seq.{drop-cons}
use Rattle.std.proofs.lemmas.List.{nil_from_length, take_rest}
use Rattle.std.specs.String.{string_bytes}
use Rattle.sexp.specs.declared.tree.Tree.{Tree}
use Rattle.sexp.specs.declared.tree.Span.{Span}
use Rattle.sexp.specs.declared.tree.Tree.TheVariants as tree
use Rattle.sexp.specs.declared.tree.Tree.TheOpen as layer
use Rattle.sexp.specs.declared.tree.Tree.TheViews.{roll-Tree, out-Tree, roll-out-Tree}
use Rattle.sexp.specs.Forms.{Forms, none, word, group, before, views, IsOne, alone, behind}
use Rattle.sexp.proofs.Trees.{before_roll, before_word, before_list}

-- a tree that is a word, whose letters go by another name
pub word_is : (t : Tree) (text : _) (span : Span) (letters : List ℕ) (rest : Forms) → t ≡ tree.Word text span → letters ≡ string_bytes text → before t rest ≡ word span.start span.end letters rest
word_is t text span letters rest is letters_is =
    ap (λ (u : Tree). before u rest) is ∙ before_word text span rest ∙ ap (λ (x : List ℕ). word span.start span.end x rest) (sym letters_is)

-- a tree that is a list, whose items go by another name
pub list_is : (t : Tree) (items : _) (span : Span) (inner : List Tree) (rest : Forms) → t ≡ tree.List items span → inner ≡ items.items → before t rest ≡ group span.start span.end (views inner) rest
list_is t items span inner rest is inner_is =
    ap (λ (u : Tree). before u rest) is ∙ before_list items span rest ∙ ap (λ (x : List Tree). group span.start span.end (views x) rest) (sym inner_is)

-- What holds of a word and of a list, each with any other expressions behind it, holds of each tree.
at_roll : (P : Forms → Forms → Type 0) → ((s e : ℕ) (text : List ℕ) (rest : Forms) → P (word s e text rest) rest) → ((s e : ℕ) (inner rest : Forms) → P (group s e inner rest) rest)
    → (x : layer.Tree-F Tree) (rest : Forms) → P (before (roll-Tree x) rest) rest
at_roll P w g (layer.Word text span) rest = rw before_roll (w span.start span.end (string_bytes text) rest)
at_roll P w g (layer.List items span) rest = rw before_roll (g span.start span.end (views items.items) rest)

pub at_tree : (P : Forms → Forms → Type 0) → ((s e : ℕ) (text : List ℕ) (rest : Forms) → P (word s e text rest) rest) → ((s e : ℕ) (inner rest : Forms) → P (group s e inner rest) rest)
    → (t : Tree) (rest : Forms) → P (before t rest) rest
at_tree P w g t rest = subst (λ (u : Tree). P (before u rest) rest) (roll-out-Tree t) (at_roll P w g (out-Tree t) rest)

-- a tree alone is one expression
pub one_alone : (t : Tree) → IsOne (alone t)
one_alone t = at_tree (λ f g. (g ≡ none) → IsOne f) (λ s e text g is. is) (λ s e inner g is. is) t none refl

-- behind a tree stands what stands there
pub behind_before : (t : Tree) (rest : Forms) → behind (before t rest) ≡ rest
behind_before t rest = at_tree (λ f g. behind f ≡ g) (λ s e text g. refl) (λ s e inner g. refl) t rest

-- an empty slice of trees
pub views_empty : (ts : List Tree) → length ts < 1 → views ts ≡ none
views_empty ts lt = ap views (nil_from_length ts (omega arith))

-- a slice `[head, rest @ ..]` of trees
pub views_slice : (ts : List Tree) (head : Tree) → 1 ≤ length ts → head ≡ get_or ts 0 head → views ts ≡ before head (views (slice_range ts 1 (length ts)))
views_slice [] head le is = absurd (omega arith)
views_slice (t ∷ ts) head le is =
    ap (λ (u : Tree). before u (views ts)) (sym is) ∙ ap (λ (us : List Tree). before head (views us)) (sym (take_rest (t ∷ ts) 1))

-- the trees from a place on
pub views_at : (ts : List Tree) (i : ℕ) (t : Tree) → i < length ts → t ≡ get_or ts i t → views (drop i ts) ≡ before t (views (drop (i + 1) ts))
views_at ts i t lt is =
    ap views (drop-cons ts i t lt ∙ ap (λ (u : Tree). u ∷ drop (suc i) ts) (sym is) ∙ ap (λ (k : ℕ). t ∷ drop k ts) (let e : suc i ≡ i + 1 = omega arith in e))

-- The same, told of an item that a pattern such as `[one, two, rest @ ..]` names. The first part shows `grind` where
-- to use it.
pub views_item : (ts : List Tree) (i : ℕ) (t : Tree) → i < length ts → t ≡ get_or ts i t
    → (get_or ts i t ≡ t) × (views (drop i ts) ≡ before t (views (drop (i + 1) ts))) × (views (drop i ts) ≡ before t (views (slice_range ts (i + 1) (length ts))))
views_item ts i t lt is =
    let e = views_at ts i t lt is in
    (sym is, e, e ∙ ap (λ (us : List Tree). before t (views us)) (sym (take_rest ts (i + 1))))

-- behind the last tree
pub views_end : (ts : List Tree) (i : ℕ) → length ts ≤ i → views (drop i ts) ≡ none
views_end ts i le = ap views (drop_of_length-le ts le)

-- for a function that matches on trees: `using(sexp::proofs::Walking::walking)`
pub ruleset walking = (before_word, before_list, behind_before, views_empty, views_item, views_end)
