-- The lines of a text that goes on behind a line feed.
use Rattle.std.proofs.Common.{◌≡◌, ℕ, Bool, true, false, cond, eqb, List, [], ◌∷◌, ◌++◌, map, refl, ap, ◌∙◌}
use Rattle.std.proofs.lemmas.List.{map-append}
use Rattle.sasfile_reader.specs.Lines.{into_first, pieces, trimmed, lines}

pub record Some_piece (ps : List (List ℕ)) : Type 0 where
  pub first : List ℕ
  pub others : List (List ℕ)
  pub is : ps ≡ first ∷ others

into_some : (t : Bool) (b : ℕ) (ps : List (List ℕ)) → Some_piece ps → Some_piece (cond t ([] ∷ ps) (into_first b ps))
into_some true b ps h = record { first = []; others = ps; is = refl }
into_some false b ps h = record { first = b ∷ h.first; others = h.others; is = ap (into_first b) h.is }

some_piece : (bs : List ℕ) → Some_piece (pieces 10 (bs ++ 10 ∷ []))
unfolding pieces
some_piece [] = record { first = []; others = []; is = refl }
some_piece (b ∷ bs) = into_some (eqb b 10) b (pieces 10 (bs ++ 10 ∷ [])) (some_piece bs)

into_append : (t : Bool) (b : ℕ) (ps qs : List (List ℕ)) → Some_piece ps → cond t ([] ∷ (ps ++ qs)) (into_first b (ps ++ qs)) ≡ cond t ([] ∷ ps) (into_first b ps) ++ qs
into_append true b ps qs h = refl
into_append false b ps qs h = rw h.is refl

pieces_on : (front rest : List ℕ) → pieces 10 (front ++ 10 ∷ rest) ≡ pieces 10 (front ++ 10 ∷ []) ++ pieces 10 rest
unfolding pieces
pieces_on [] rest = refl
pieces_on (b ∷ bs) rest =
    ap (λ (ps : List (List ℕ)). cond (eqb b 10) ([] ∷ ps) (into_first b ps)) (pieces_on bs rest)
    ∙ into_append (eqb b 10) b (pieces 10 (bs ++ 10 ∷ [])) (pieces 10 rest) (some_piece bs)

pub lines_on : (front rest : List ℕ) → lines (front ++ 10 ∷ rest) ≡ lines (front ++ 10 ∷ []) ++ lines rest
unfolding lines
lines_on front rest = ap (λ (ps : List (List ℕ)). map trimmed ps) (pieces_on front rest) ∙ map-append trimmed (pieces 10 (front ++ 10 ∷ [])) (pieces 10 rest)
