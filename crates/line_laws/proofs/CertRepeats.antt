-- Two values of a variable share a class exactly if a class occurs twice in its row.
use Rattle.std.proofs.Common.{◌≡◌, ℕ, zero, suc, ◌+◌, ◌<◌, ◌≤◌, max, ◌⊎◌, inl, inr, ◌↔◌, true, List, [], ◌∷◌, length, get_or, refl, sym, ap, ◌∙◌, arith, ⊎_elim}
use Rattle.std.specs.Prelude.{nat_le, slice_index}
use Rattle.std.specs.List.{range_with_len}
use Rattle.std.proofs.lemmas.Bool.{cases_lt}
use Rattle.std.proofs.lemmas.Bool.Decides.{nat_tests}
use Rattle.std.proofs.lemmas.List.FromFn.{get_or-range_with_len}
use Rattle.abstraction_domain.specs.Rows.{class_count, numbered_from, are_numbered, shares_class}
use Rattle.cert_text.proofs.Steps.{and_parts, le_is, lt_is}
use Rattle.line_laws.specs.CertRepeats.{OccursTwice}

-- no more classes than values, after n classes
most : (n : ℕ) (cs : List ℕ) → numbered_from n cs ≡ true → max n (class_count cs) ≤ n + length cs
most n [] e = omega arith
most n (c ∷ cs) e =
    let parts = and_parts (nat_le c n) (numbered_from (max n (c + 1)) cs) e in
    omega (arith, le_is c n parts.0, most (max n (c + 1)) cs parts.1)

-- after n classes each class is new
record AreNew (n : ℕ) (cs : List ℕ) : Type 0 where
  pub are : cs ≡ range_with_len n (length cs)
  pub count : max n (class_count cs) ≡ n + length cs

-- after n classes the class at a place is an earlier one, and those before it are new
record HasOld (n : ℕ) (cs : List ℕ) : Type 0 where
  pub place : ℕ
  pub within : place < length cs
  pub old : get_or cs place 0 < n + place
  pub before : (j : ℕ) → j < place → get_or cs j 0 ≡ n + j
  pub few : max n (class_count cs) < n + length cs

before_more : (n c : ℕ) (cs : List ℕ) (k : ℕ) → c ≡ n → ((j : ℕ) → j < k → get_or cs j 0 ≡ n + 1 + j) → (j : ℕ) → j < suc k → get_or (c ∷ cs) j 0 ≡ n + j
before_more n c cs k is h zero l = omega (arith, is)
before_more n c cs k is h (suc j) l = omega (arith, h j (omega (arith, l)))

more : (n c : ℕ) (cs : List ℕ) → c ≡ n → AreNew (n + 1) cs ⊎ HasOld (n + 1) cs → AreNew n (c ∷ cs) ⊎ HasOld n (c ∷ cs)
more n c cs is (inl new) = inl (record { are = ap (λ (x : ℕ). x ∷ cs) is ∙ ap (λ (xs : List ℕ). n ∷ xs) new.are; count = omega (arith, is, new.count) })
more n c cs is (inr old) =
    inr (record {
      place = suc old.place;
      within = omega (arith, old.within);
      old = omega (arith, old.old);
      before = before_more n c cs old.place is old.before;
      few = omega (arith, is, old.few);
    })

either : (n : ℕ) (cs : List ℕ) → numbered_from n cs ≡ true → AreNew n cs ⊎ HasOld n cs
either n [] e = inl (record { are = refl; count = omega arith })
either n (c ∷ cs) e =
    let parts = and_parts (nat_le c n) (numbered_from (max n (c + 1)) cs) e in
    let le = le_is c n parts.0 in
    let fewest = most (max n (c + 1)) cs parts.1 in
    ⊎_elim
    (λ (old : c < n). inr (record {
      place = 0;
      within = omega arith;
      old = omega (arith, old);
      before = λ j l. absurd (omega (arith, l));
      few = omega (arith, old, fewest);
    }))
    (λ (new : n ≤ c).
    let next : max n (c + 1) ≡ n + 1 = omega (arith, le, new) in
    let is : c ≡ n = omega (arith, le, new) in
    more n c cs is (either (n + 1) cs (ap (λ (m : ℕ). numbered_from m cs) (sym next) ∙ parts.1))) (cases_lt c n)

twice : (cs : List ℕ) → HasOld 0 cs → OccursTwice cs
twice cs old =
    let order : get_or cs old.place 0 < old.place = omega (arith, old.old) in
    record {
      first = get_or cs old.place 0;
      second = old.place;
      order = order;
      within = old.within;
      same = omega (arith, old.before (get_or cs old.place 0) order);
    }

shared_twice : (cs : List ℕ) → AreNew 0 cs ⊎ HasOld 0 cs → shares_class cs ≡ true → OccursTwice cs
shared_twice cs (inl new) shared = absurd (omega (arith, new.count, lt_is (class_count cs) (length cs) shared))
shared_twice cs (inr old) shared = twice cs old

new_at : (cs : List ℕ) → AreNew 0 cs → (k : ℕ) → k < length cs → slice_index cs k ≡ k
new_at cs new k l = ap (λ (xs : List ℕ). get_or xs k 0) new.are ∙ (let at = get_or-range_with_len 0 (length cs) k 0 l in omega arith)

twice_shared : (cs : List ℕ) → AreNew 0 cs ⊎ HasOld 0 cs → OccursTwice cs → shares_class cs ≡ true
twice_shared cs (inl new) t = absurd (omega (arith, t.order, t.same, new_at cs new t.first (omega (arith, t.order, t.within)), new_at cs new t.second t.within))
twice_shared cs (inr old) t = let few : class_count cs < length cs = omega (arith, old.few) in grind (arith, nat_tests)

pub shared_is_twice : (classes : List ℕ) → are_numbered classes ≡ true → (shares_class classes ≡ true) ↔ OccursTwice classes
shared_is_twice classes numbered = let cases = either 0 classes numbered in (shared_twice classes cases, twice_shared classes cases)
