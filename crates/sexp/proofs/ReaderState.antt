-- What the reader does to its trees and its open lists, seen as a state.
use Rattle.std.proofs.Common.{◌≡◌, ℕ, suc, ◌+◌, not, eqb, List, [], ◌∷◌, ◌++◌, length, true, false, refl, sym, ap, subst, arith}
use Rattle.std.specs.Prelude.{Ok}
use Rattle.std.specs.String.{string_bytes}
use Rattle.std.proofs.lemmas.Bool.{ne_eqb}
use Rattle.std.proofs.lemmas.List.{reverse-append, map-append}
use Rattle.sexp.specs.declared.tree.Tree.{Tree}
use Rattle.sexp.specs.declared.tree.Tree.TheVariants as tree
use Rattle.sexp.specs.declared.tree.Tree.TheOpen as layer
use Rattle.sexp.specs.declared.tree.Tree.TheViews.{roll-Tree, out-Tree, roll-out-Tree}
use Rattle.sexp.specs.declared.reader.Level.{Level}
use Rattle.sexp.specs.declared.reader.Mode.{Mode}
use Rattle.sexp.specs.declared.reader.Mode.TheVariants as mode
use Rattle.sexp.specs.Forms.{Forms, before, views}
use Rattle.sexp.specs.Running.{is_full, around, arounds, closed, state_of, settled, gap}
use Rattle.sexp.proofs.Trees.{before_roll, views_push_word, views_push_list}

is_full_roll : (x : layer.Tree-F Tree) (g : Forms) → is_full true (before (roll-Tree x) g) [] ≡ true
is_full_roll (layer.Word text span) g = rw before_roll refl
is_full_roll (layer.List items span) g = rw before_roll refl

pub is_full_before : (t : Tree) (g : Forms) → is_full true (before t g) [] ≡ true
is_full_before t g = subst (λ (u : Tree). is_full true (before u g) [] ≡ true) (roll-out-Tree t) (is_full_roll (out-Tree t) g)

pub is_full_of : (ts : List Tree) (ls : List Level) → length ls ≡ 0 → not (eqb (length ts) 0) ≡ is_full true (views ts) (arounds ls)
is_full_of [] ls e = refl
is_full_of (t ∷ ts) [] e = let ne : eqb (suc (length ts)) 0 ≡ false = ne_eqb (suc (length ts)) 0 (λ h. omega arith) in rw ne (sym (is_full_before t (views ts)))
is_full_of (t ∷ ts) (l ∷ ls) e = absurd (omega (arith, e))

pub arounds_push : (ls : List Level) (l : Level) → arounds (ls ++ l ∷ []) ≡ around l ∷ arounds ls
arounds_push ls l = rw (map-append, reverse-append) refl

pub closes : (at : ℕ) (m : Mode) (w : List ℕ) (inner : _) (old new : List Level) (l : Level) (pushed : List Tree) → m ≡ mode.Gap → old ≡ new ++ l ∷ []
    → pushed ≡ l.before.items ++ tree.List inner (record { start = l.start; end = at + 1 }) ∷ []
    → closed at (views inner.items) (arounds old) ≡ Ok (state_of m w (views pushed) (arounds new))
closes at m w inner old new l pushed gap_is old_is pushed_is =
    rw (gap_is, old_is, pushed_is) (rw (arounds_push, views_push_list) refl)

pub settles : (at start : ℕ) (m : Mode) (w t : List ℕ) (items pushed : List Tree) (o : List Level) (text : _) → m ≡ mode.Word start → string_bytes text ≡ w
    → pushed ≡ items ++ tree.Word text (record { start = start; end = at }) ∷ []
    → gap (views pushed) (arounds o) ≡ settled at (state_of m w (views items) (arounds o))
settles at start m w t items pushed o text m_is text_is pushed_is =
    rw (m_is, ← text_is, pushed_is) (ap (λ (f : Forms). gap f (arounds o)) (views_push_word items text (record { start = start; end = at })))
