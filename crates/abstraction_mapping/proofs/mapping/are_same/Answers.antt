use Rattle.std.proofs.Common.{◌≡◌, ℕ, ◌+◌, ◌<◌, Bool, true, false, not, List, [], ◌∷◌, ◌++◌, length, get_or, take, refl, sym, ap, ◌∙◌, arith}
use Rattle.std.proofs.lemmas.List.{take_more}
use Rattle.std.specs.Cmp.Lexicographic.{same_text}
use Rattle.abstraction_domain.specs.Rows.{Row}
use Rattle.abstraction_mapping.proofs.mapping.are_same.Goals as goal

same_row : (r s : Row) → r.variable ≡ s.variable → r.classes ≡ s.classes → r ≡ s
same_row r s e f =
    ap (λ (v : ℕ). record { variable = v; classes = r.classes }) e ∙ ap (λ (xs : List ℕ). record { variable = s.variable; classes = xs }) f

same_more : (rows others : List Row) (k : ℕ) (r s : Row) → k < length rows → k < length others → r ≡ get_or rows k r → s ≡ get_or others k s → r ≡ s
    → take k rows ≡ take k others → take (k + 1) rows ≡ take (k + 1) others
same_more rows others k r s l m is are same so_far =
    take_more rows k r l
    ∙ ap (λ (x : Row). take k rows ++ x ∷ []) (sym is ∙ same ∙ are)
    ∙ ap (λ (xs : List Row). xs ++ get_or others k s ∷ []) so_far ∙ sym (take_more others k s m)

told : (t r : Bool) → r ≡ not t → r ≡ false → true ≡ t
told true r e f = refl
told false r e f = absurd cc

pub loop-place-preserved : goal.loop-place-preserved
loop-place-preserved c =
    let classes = sym c.classes.ensures.value ∙ same_text c.classes.result.now c.classes-else-variable.result.now (told _ c.ne.result c.ne.ensures c.if-ne.false) ∙ c.classes-else-variable.ensures.value in
    let variable : c.index-rows-place.result.variable ≡ c.index-others-place.result.variable = omega (arith, c.variable.ensures, c.variable-in-loop-place.ensures, c.if-variable.false) in
    same_more c.args.rows.now c.args.others.now c.loop-place.place c.index-rows-place.result c.index-others-place.result c.loop-place-test.true (omega (arith, c.if-rows-others.false, c.loop-place-test.true))
    c.index-rows-place.is c.index-others-place.is (same_row c.index-rows-place.result c.index-others-place.result variable classes) c.loop-place.invariant
