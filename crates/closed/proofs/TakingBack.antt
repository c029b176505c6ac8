-- What was written is taken back: what was kept before is put back, the last one first, and what is new is cut off.
use Rattle.std.proofs.Common.{◌≡◌, ℕ, zero, suc, ◌≤◌, List, [], ◌∷◌, ◌++◌, length, take, Some, refl, sym, ap, ◌∙◌, arith}
use Rattle.std.specs.Prelude.{slice_get, slice_set}
use Rattle.std.proofs.lemmas.List.{take-append-le}
use Rattle.owner_theory.specs.Owners.{Node}
use Rattle.closed.specs.declared.table.Entry.{Entry}
use Rattle.closed.specs.declared.small_entry.SmallEntry.{SmallEntry}
use Rattle.closed.specs.declared.table.Outcome.{Outcome}
use Rattle.closed.specs.declared.table.Outcome.TheVariants.{New, Better, Kept}
use Rattle.closed.specs.Tables.{node_with, reached, outcome_of}
use Rattle.closed.specs.Entries.{entry_in, with_entry, taken_back, Notes}
use Rattle.closed.proofs.Reached.{outcome_of-New, outcome_of-Better, outcome_of-Kept}

pub with_entry-past : (nodes : List Node) (i : ℕ) (e : Entry) → length nodes ≤ i → with_entry nodes i e ≡ nodes
with_entry-past [] i e past = refl
with_entry-past (n ∷ ns) zero e past = absurd (omega arith)
with_entry-past (n ∷ ns) (suc i) e past = ap (λ (xs : List Node). n ∷ xs) (with_entry-past ns i e (omega arith))

take-with_entry : (len : ℕ) (nodes : List Node) (i : ℕ) (e : Entry) →
    with_entry (take len nodes) i e ≡ take len (with_entry nodes i e)
take-with_entry zero nodes i e = refl
take-with_entry (suc len) [] i e = refl
take-with_entry (suc len) (n ∷ ns) zero e = refl
take-with_entry (suc len) (n ∷ ns) (suc i) e = ap (λ (xs : List Node). n ∷ xs) (take-with_entry len ns i e)

pub taken_back-push : (ps : List (ℕ × SmallEntry)) (p : ℕ × SmallEntry) (nodes : List Node) →
    taken_back (ps ++ p ∷ []) nodes ≡ taken_back ps (with_entry nodes p.0 (entry_in p.1))
taken_back-push [] p nodes = refl
taken_back-push (q ∷ qs) p nodes = ap (λ (xs : List Node). with_entry xs q.0 (entry_in q.1)) (taken_back-push qs p nodes)

pub taken_back-none : (ps : List (ℕ × SmallEntry)) (nodes : List Node) → length ps ≡ 0 → taken_back ps nodes ≡ nodes
taken_back-none [] nodes none = refl
taken_back-none (p ∷ ps) nodes none = absurd (omega arith)

-- what is kept at a place, put there again
with_entry-same : (nodes : List Node) (i : ℕ) (e : Entry) → ((n : Node) → slice_get nodes i ≡ Some n → n ≡ node_with n.state e) →
    with_entry nodes i e ≡ nodes
with_entry-same [] i e is = refl
with_entry-same (n ∷ ns) zero e is = ap (λ (x : Node). x ∷ ns) (sym (is n refl))
with_entry-same (n ∷ ns) (suc i) e is = ap (λ (xs : List Node). n ∷ xs) (with_entry-same ns i e is)

-- what was kept at a place, put back
with_entry-back : (nodes : List Node) (i : ℕ) (n m : Node) (e : Entry) → slice_get nodes i ≡ Some n → n.state ≡ m.state →
    n ≡ node_with n.state e → with_entry (slice_set nodes i m) i e ≡ nodes
with_entry-back [] i n m e there same is = refl
with_entry-back (x ∷ xs) zero n m e there same is =
    let here : x ≡ n = cc in
    ap (λ (s : List ℕ). node_with s e ∷ xs) (sym same) ∙ ap (λ (y : Node). y ∷ xs) (sym (here ∙ is))
with_entry-back (x ∷ xs) (suc i) n m e there same is =
    ap (λ (ys : List Node). x ∷ ys) (with_entry-back xs i n m e there same is)

-- the last of what was replaced is taken back first
taken_back-last : (old : List (ℕ × SmallEntry)) (i : ℕ) (e : SmallEntry) (len : ℕ) (nodes : List Node) →
    taken_back (old ++ (i, e) ∷ []) (take len nodes) ≡ taken_back old (take len (with_entry nodes i (entry_in e)))
taken_back-last old i e len nodes =
    taken_back-push old (i, e) (take len nodes)
    ∙ ap (λ (xs : List Node). taken_back old xs) (take-with_entry len nodes i (entry_in e))

module _ (nodes : List Node) (old : List (ℕ × SmallEntry)) (len : ℕ) where
  -- noted, and not written
  pub taken_back-noted : (o : Outcome) (new : List (ℕ × SmallEntry)) → Notes nodes o old new →
      taken_back new (take len nodes) ≡ taken_back old (take len nodes)
  taken_back-noted (New i) new noted = ap (λ (ps : List (ℕ × SmallEntry)). taken_back ps (take len nodes)) noted
  taken_back-noted (Better i) new (e, pushed, is) =
      ap (λ (ps : List (ℕ × SmallEntry)). taken_back ps (take len nodes)) pushed
      ∙ taken_back-last old i e len nodes
      ∙ ap (λ (xs : List Node). taken_back old (take len xs)) (with_entry-same nodes i (entry_in e) is)
  taken_back-noted Kept new noted = ap (λ (ps : List (ℕ × SmallEntry)). taken_back ps (take len nodes)) noted

  -- noted, and written
  pub taken_back-reached : (m : Node) (o : Outcome) (new : List (ℕ × SmallEntry)) → o ≡ outcome_of nodes m → len ≤ length nodes →
      Notes nodes o old new → taken_back new (take len (reached nodes m)) ≡ taken_back old (take len nodes)
  taken_back-reached m (New i) new h within noted =
      ap (λ (ps : List (ℕ × SmallEntry)). taken_back ps (take len (reached nodes m))) noted
      ∙ ap (λ (xs : List Node). taken_back old (take len xs)) (outcome_of-New nodes m i (sym h)).appended
      ∙ ap (λ (xs : List Node). taken_back old xs) (take-append-le len nodes (m ∷ []) within)
  taken_back-reached m (Better i) new h within (e, pushed, is) =
      let told = outcome_of-Better nodes m i (sym h) in
      ap (λ (ps : List (ℕ × SmallEntry)). taken_back ps (take len (reached nodes m))) pushed
      ∙ taken_back-last old i e len (reached nodes m)
      ∙ ap (λ (xs : List Node). taken_back old (take len (with_entry xs i (entry_in e)))) told.replaced
      ∙ ap (λ (xs : List Node). taken_back old (take len xs))
      (with_entry-back nodes i told.node m (entry_in e) told.there told.state (is told.node told.there))
  taken_back-reached m Kept new h within noted =
      ap (λ (ps : List (ℕ × SmallEntry)). taken_back ps (take len (reached nodes m))) noted
      ∙ ap (λ (xs : List Node). taken_back old (take len xs)) (outcome_of-Kept nodes m (sym h)).same
