-- Words without a line feed.
use Rattle.std.proofs.Common.{◌≡◌, Bor, ℕ, Bool, true, List, [], ◌∷◌, ◌++◌, map, refl, ◌∙◌, arith}
use Rattle.std.specs.Prelude.{◌&&◌, Option, Some, None, IfSome, option_map}
use Rattle.std.proofs.lemmas.Bool.Decides.{nat_tests}
use Rattle.std.proofs.lemmas.List.Folds.{list_all-append}
use Rattle.optplan_explain.specs.Places.{is_in_line, IsInLine}
use Rattle.optplan_explain.specs.Shown.{printable}

printable_in_line : (b : ℕ) → is_in_line (printable b) ≡ true
printable_in_line b = grind (arith, nat_tests)

both : (x y : Bool) → x ≡ true → y ≡ true → (x && y) ≡ true
both x y ex ey = rw (ex) ey

-- what is shown has no line feed
pub shown_in_line : (bytes : List ℕ) → IsInLine (map printable bytes)
shown_in_line [] = refl
shown_in_line (b ∷ bs) = both _ _ (printable_in_line b) (shown_in_line bs)

-- words after words
pub joined : (xs ys : List ℕ) → IsInLine xs → IsInLine ys → IsInLine (xs ++ ys)
joined xs ys x y = list_all-append is_in_line xs ys ∙ both _ _ x y

pub joined_shown : (xs bytes : List ℕ) → IsInLine xs → IsInLine (xs ++ map printable bytes)
joined_shown xs bytes x = joined xs (map printable bytes) x (shown_in_line bytes)

-- a name that is shown, if there is one
pub hint_in_line : (nearest : Option (Bor (List ℕ))) → IfSome (option_map (λ name. map printable name.now) nearest) IsInLine
hint_in_line None = tt
hint_in_line (Some name) = shown_in_line name.now
