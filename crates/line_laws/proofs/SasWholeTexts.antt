-- The reader of a whole text keeps every frame.
use Rattle.std.proofs.Common.{◌⊎◌, inl, inr, ◌≡◌, ℕ, ◌+◌, List, [], ◌∷◌, length, map, refl, sym, ap, subst, ◌∙◌, Result, Ok}
use Rattle.sasfile_reader.specs.declared.fault.SasFault.{SasFault}
use Rattle.sasfile_reader.specs.declared.fault.SasFault.TheVariants as fault
use Rattle.sasfile_reader.specs.Reading.{◌>>=◌, Remaining, line_at, empty_from, body_at, joined, task_at}
use Rattle.sasfile_reader.proofs.Endings.{ok_is, line_is}
use Rattle.line_laws.proofs.Frames.{Frame, Ends, Like, ends_like, Finishes, finishes_then, finishes_map}
use Rattle.line_laws.proofs.SasReading.{Sas}
use Rattle.line_laws.proofs.SasReaders.{groups, state, goal, operators, axioms, head}

abbrev pub lines_from : ℕ → List (List ℕ) → Remaining
lines_from n ls = record { number = n; lines = ls }

first_line : (n : ℕ) (l : List ℕ) (ls : List (List ℕ)) → line_at (lines_from n (l ∷ ls)) ≡ Ok (l, lines_from (n + 1) ls)
unfolding line_at
first_line n l ls = refl

same_rest : {p : Result (List ℕ × Remaining) SasFault} {l k : List ℕ} {q s : Remaining} → p ≡ Ok (l, q) → p ≡ Ok (k, s) → s ≡ q
same_rest {l = l} {k = k} {q = q} {s = s} e f = ap (λ (x : List ℕ × Remaining). x.1) (ok_is (k, s) (l, q) (sym f ∙ e))

-- ---- behind the last part

empty_ends : (F : Frame Sas) (n : ℕ) (ls : List (List ℕ)) → F.Past (lines_from n ls) → Ends F (λ (x : Unit {0}). Unit {0}) (empty_from n ls)
unfolding empty_from
empty_ends F n [] p = tt
empty_ends F n ([] ∷ ls) p = empty_ends F (n + 1) ls (F.past_next (lines_from n ([] ∷ ls)) (lines_from (n + 1) ls) [] p (first_line n [] ls))
empty_ends F n ((b ∷ bs) ∷ ls) p = F.past_fault (lines_from n ((b ∷ bs) ∷ ls)) (lines_from (n + 1) ls) (b ∷ bs) (fault.Trailing n) p (first_line n (b ∷ bs) ls) refl

-- two readings that go on together, as a frame tells it
abbrev Goes : Frame Sas → Remaining → Remaining → Type 0
Goes F r q = F.Past r ⊎ ((l : List ℕ) × (s : Remaining) × (t : Remaining) × (r.number ≡ q.number) × (line_at r ≡ Ok (l, s)) × (line_at q ≡ Ok (l, t)) × F.Together s t)

abbrev EmptyLike : Frame Sas → ℕ → List (List ℕ) → Remaining → Type 0
EmptyLike F n ls q = Like F (λ (x : Unit {0}). Unit {0}) (λ x y. x ≡ y) (empty_from n ls) (empty_from q.number q.lines)

past_like : (F : Frame Sas) (n : ℕ) (ls : List (List ℕ)) (q : Remaining) → F.Past (lines_from n ls) → EmptyLike F n ls q
past_like F n ls q p = ends_like F (λ (x : Unit {0}). Unit {0}) (λ x y. x ≡ y) (empty_from n ls) (empty_from q.number q.lines) (empty_ends F n ls p)

no_lines : (F : Frame Sas) (n : ℕ) (q : Remaining) → Goes F (lines_from n []) q → EmptyLike F n [] q
no_lines F n q (inl p) = past_like F n [] q p
no_lines F n q (inr g) = let parts = line_is (lines_from n []) g.0 g.1 g.4 in absurd cc

an_empty_line : (F : Frame Sas) (n : ℕ) (ls : List (List ℕ)) (q : Remaining) → ((t : Remaining) → F.Together (lines_from (n + 1) ls) t → EmptyLike F (n + 1) ls t) → Goes F (lines_from n ([] ∷ ls)) q → EmptyLike F n ([] ∷ ls) q
unfolding empty_from
an_empty_line F n ls q more (inl p) = past_like F n ([] ∷ ls) q p
an_empty_line F n ls q more (inr g) =
    let here = line_is (lines_from n ([] ∷ ls)) g.0 g.1 g.4 in
    let there = line_is q g.0 g.2 g.5 in
    let nil : [] ≡ g.0 = cc in
    let same : g.1 ≡ lines_from (n + 1) ls = same_rest (first_line n [] ls) g.4 in
    rw (there.0, ← nil, ← there.1) (more g.2 (subst (λ s. F.Together s g.2) same g.6))

a_filled_line : (F : Frame Sas) (n b : ℕ) (bs : List ℕ) (ls : List (List ℕ)) (q : Remaining) → Goes F (lines_from n ((b ∷ bs) ∷ ls)) q → EmptyLike F n ((b ∷ bs) ∷ ls) q
unfolding empty_from
a_filled_line F n b bs ls q (inl p) = past_like F n ((b ∷ bs) ∷ ls) q p
a_filled_line F n b bs ls q (inr g) =
    let here = line_is (lines_from n ((b ∷ bs) ∷ ls)) g.0 g.1 g.4 in
    let there = line_is q g.0 g.2 g.5 in
    let full : b ∷ bs ≡ g.0 = cc in
    inr (rw (there.0, ← full, ← g.3) refl)

empty_like : (F : Frame Sas) (n : ℕ) (ls : List (List ℕ)) (q : Remaining) → F.Together (lines_from n ls) q → EmptyLike F n ls q
empty_like F n [] q h = no_lines F n q (F.step (lines_from n []) q h)
empty_like F n ([] ∷ ls) q h = an_empty_line F n ls q (λ t k. empty_like F (n + 1) ls t k) (F.step (lines_from n ([] ∷ ls)) q h)
empty_like F n ((b ∷ bs) ∷ ls) q h = a_filled_line F n b bs ls q (F.step (lines_from n ((b ∷ bs) ∷ ls)) q h)

empty : (F : Frame Sas) → Finishes F (λ r. empty_from r.number r.lines)
empty F = record { ends = λ r p. empty_ends F r.number r.lines p; like = λ r q h. empty_like F r.number r.lines q h }

-- ---- the whole text

body : (F : Frame Sas) (ranges : List ℕ) → Finishes F (body_at ranges)
unfolding body_at
body F ranges =
    finishes_then F (λ x. x.0) (λ x. x.1) _ _ (groups F ranges) (λ u.
    finishes_then F (λ x. x.0) (λ x. x.1) _ _ (state F ranges) (λ initial.
    finishes_then F (λ x. x.0) (λ x. x.1) _ _ (goal F ranges) (λ facts.
    finishes_then F (λ x. x.0) (λ x. x.1) _ _ (operators F ranges) (λ ops.
    finishes_then F (λ q. tt) (λ q. q) _ (λ v q. empty_from q.number q.lines >>= λ end. Ok (record { initial = initial; goal = facts; operators = ops })) (axioms F) (λ v.
    finishes_map F (λ q. empty_from q.number q.lines) (λ end. record { initial = initial; goal = facts; operators = ops }) (empty F))))))

pub task : (F : Frame Sas) → Finishes F task_at
unfolding task_at
task F = finishes_then F (λ x. x.0) (λ x. x.1) _ _ (head F) (λ h. finishes_map F (body_at (map length h.variables)) (joined h) (body F (map length h.variables)))
