-- A row that is put behind the others.
use Rattle.std.proofs.Common.{◌≡◌, ℕ, suc, ◌+◌, ◌-◌, ◌≤◌, List, [], ◌∷◌, ◌++◌, length, map, take, drop, refl, ap, ◌∙◌, arith, length-drop}
use Rattle.std.proofs.Math.Seq.{drop-append_seam, take-length}
use Rattle.std.proofs.lemmas.List.{drop-append-le, take-append-le, map-append}
use Rattle.index_rows.specs.declared.rows.Span.{Span}
use Rattle.index_rows.specs.Spans.{part, LieWithin}

module _ (numbers more : List ℕ) where
  part_kept : (s : Span) → (s.start ≤ s.end) × (s.end ≤ length numbers) → part (numbers ++ more) s ≡ part numbers s
  part_kept s h =
      let low : s.start ≤ length numbers = omega (arith, h.0, h.1) in
      let high : s.end - s.start ≤ length (drop s.start numbers) = omega (arith, h.0, h.1, length-drop s.start numbers) in
      ap (take (s.end - s.start)) (drop-append-le s.start numbers more low)
      ∙ take-append-le (s.end - s.start) (drop s.start numbers) more high

  parts_kept : (spans : List Span) → LieWithin spans (length numbers) → map (part (numbers ++ more)) spans ≡ map (part numbers) spans
  parts_kept [] h = refl
  parts_kept (s ∷ spans) h = rw (part_kept s (h 0), parts_kept spans (λ k. h (suc k))) refl

  part_new : (start end : ℕ) → start ≡ length numbers → end ≡ length numbers + length more → part (numbers ++ more) (record { start = start; end = end }) ≡ more
  part_new start end e f =
      let size : end - start ≡ length more = omega (arith, e, f) in
      ap (λ n. take (end - start) (drop n (numbers ++ more))) e
      ∙ ap (take (end - start)) (drop-append_seam numbers more)
      ∙ ap (λ n. take n more) size
      ∙ take-length more

pub appended : (spans after : List Span) (numbers grown row : List ℕ) (start end : ℕ) → LieWithin spans (length numbers)
    → grown ≡ numbers ++ row → start ≡ length numbers → end ≡ length numbers + length row → after ≡ spans ++ record { start = start; end = end } ∷ []
    → map (part grown) after ≡ map (part numbers) spans ++ row ∷ []
appended spans after numbers grown row start end within g s f a =
    rw (g, a)
    (map-append (part (numbers ++ row)) spans (record { start = start; end = end } ∷ [])
    ∙ ap (λ (xs : List (List ℕ)). xs ++ part (numbers ++ row) (record { start = start; end = end }) ∷ []) (parts_kept numbers row spans within)
    ∙ ap (λ (x : List ℕ). map (part numbers) spans ++ x ∷ []) (part_new numbers row start end s f))
