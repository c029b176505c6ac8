-- The pieces of a text that goes on behind a line feed.
use Rattle.std.proofs.Common.{◌≡◌, ℕ, Bool, true, false, cond, eqb, List, [], ◌∷◌, ◌++◌, length, refl, ap, ◌∙◌, arith}
use Rattle.cert_text.specs.Pieces.{into_first, pieces}
use Rattle.cert_text.proofs.PieceLaws.{some_piece}
use Rattle.line_laws.specs.CertFaultLines.{line_count_of, line_count}

into_append : (t : Bool) (b : ℕ) (ps qs : List (List ℕ)) (p : List ℕ) (others : List (List ℕ)) → ps ≡ p ∷ others → cond t ([] ∷ (ps ++ qs)) (into_first b (ps ++ qs)) ≡ cond t ([] ∷ ps) (into_first b ps) ++ qs
into_append true b ps qs p others is = refl
into_append false b ps qs p others is = rw is refl

pub pieces_on : (front rest : List ℕ) → pieces 10 (front ++ 10 ∷ rest) ≡ pieces 10 front ++ pieces 10 rest
unfolding pieces
pieces_on [] rest = refl
pieces_on (b ∷ bs) rest =
    let some = some_piece 10 bs in
    ap (λ (ps : List (List ℕ)). cond (eqb b 10) ([] ∷ ps) (into_first b ps)) (pieces_on bs rest)
    ∙ into_append (eqb b 10) b (pieces 10 bs) (pieces 10 rest) some.0 some.1 some.2

count_whole : (ls : List (List ℕ)) → line_count_of (ls ++ [] ∷ []) ≡ length ls
count_whole [] = refl
count_whole (l ∷ []) = refl
count_whole (l ∷ k ∷ ks) = let more = count_whole (k ∷ ks) in omega arith

-- as many lines as there are line feeds
pub count_front : (front : List ℕ) → line_count (front ++ 10 ∷ []) ≡ length (pieces 10 front)
unfolding pieces
count_front front = ap line_count_of (pieces_on front []) ∙ count_whole (pieces 10 front)
