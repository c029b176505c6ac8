-- The operators of a class, one operator after another.
use Rattle.std.specs.Prelude.{Contains, ◌↔◌, slice_get, slice_index_or}
use Rattle.std.specs.List.Sorted.{IsStrictlyIncreasing}
use Rattle.std.proofs.Common.{◌≡◌, ℕ, ◌+◌, ◌-◌, ◌<◌, ◌≤◌, ◌⊎◌, Bool, true, false, cond, nat_lt, List, [], ◌∷◌, ◌++◌, length, Option, Some, None, slice_index, refl, sym, ap, ◌∙◌, subst, inl, inr, ⊎_elim, below_more, arith}
use Rattle.std.proofs.Math.Seq.{get_or-append_seam}
use Rattle.std.proofs.lemmas.Bool.{cases_eq, cases_lt}
use Rattle.std.proofs.lemmas.Bool.Decides.{nat_tests}
use Rattle.std.proofs.lemmas.List.{get_or_append_left, get_or_default, get_or_push, length-append}
use Rattle.std.proofs.lemmas.List.Elements.{Contains-append_left, Contains-push, Contains-push_cases, Contains-get_or}
use Rattle.std.proofs.lemmas.Option.{slice_get-get_or, slice_get_past}
use Rattle.test_walks.specs.Graphs.{kind_of, AreMembers, AreListed}

-- exactly those of the first n operators that are of the class, by increasing numbers
pub record AreMembersBelow (kinds : List ℕ) (c n : ℕ) (operators : List ℕ) : Type 0 where
  pub increasing : IsStrictlyIncreasing operators
  pub below : (k : ℕ) → k < length operators → slice_index operators k < n
  pub are : (o : ℕ) → Contains operators o → slice_index kinds o ≡ c
  pub all : (o : ℕ) → o < n → slice_index kinds o ≡ c → Contains operators o

pub none_yet : (kinds : List ℕ) (c : ℕ) → AreMembersBelow kinds c 0 []
none_yet kinds c =
    record {
      increasing = λ k l. absurd (omega arith);
      below = λ k l. absurd (omega arith);
      are = λ o has. absurd (omega (arith, has.1));
      all = λ o l e. absurd (omega arith);
    }

pub one_more : (kinds : List ℕ) (c n : ℕ) (operators : List ℕ) → slice_index kinds n ≡ c → AreMembersBelow kinds c n operators → AreMembersBelow kinds c (n + 1) (operators ++ n ∷ [])
one_more kinds c n operators is before =
    record {
      increasing = λ k l. ⊎_elim
          (λ (h : k + 1 < length operators). omega (arith, front k (omega arith), front (k + 1) h, before.increasing k h))
          (λ (h : length operators ≤ k + 1).
          let e : k + 1 ≡ length operators = omega (arith, long) in
          let last : slice_index (operators ++ n ∷ []) (k + 1) ≡ n = subst (λ (i : ℕ). slice_index (operators ++ n ∷ []) i ≡ n) (sym e) end in
          omega (arith, front k (omega arith), before.below k (omega arith)))
          (cases_lt (k + 1) (length operators));
      below = λ k l. ⊎_elim
          (λ (h : k < length operators). omega (arith, front k h, before.below k h))
          (λ (h : length operators ≤ k).
          let e : k ≡ length operators = omega (arith, long) in
          let last : slice_index (operators ++ n ∷ []) k ≡ n = subst (λ (i : ℕ). slice_index (operators ++ n ∷ []) i ≡ n) (sym e) end in
          omega arith)
          (cases_lt k (length operators));
      are = λ o has. ⊎_elim
          (λ (h : Contains operators o). before.are o h)
          (λ (e : n ≡ o). subst (λ (x : ℕ). slice_index kinds x ≡ c) e is)
          (Contains-push_cases operators n o has);
      all = below_more (λ o. slice_index kinds o ≡ c → Contains (operators ++ n ∷ []) o) n
          (λ o l e. Contains-append_left operators (n ∷ []) o (before.all o l e))
          (λ e. Contains-push operators n);
    }
  where
    long : length (operators ++ n ∷ []) ≡ length operators + 1
    long = length-append operators (n ∷ [])

    front : (k : ℕ) → k < length operators → slice_index (operators ++ n ∷ []) k ≡ slice_index operators k
    front k l = get_or_append_left operators (n ∷ []) 0 k l

    end : slice_index (operators ++ n ∷ []) (length operators) ≡ n
    end = get_or-append_seam operators n [] 0

pub no_more : (kinds : List ℕ) (c n : ℕ) (operators : List ℕ) → (slice_index kinds n ≡ c → ⊥) → AreMembersBelow kinds c n operators → AreMembersBelow kinds c (n + 1) operators
no_more kinds c n operators other before =
    record {
      increasing = before.increasing;
      below = λ k l. omega (arith, before.below k l);
      are = before.are;
      all = below_more (λ o. slice_index kinds o ≡ c → Contains operators o) n before.all (λ e. absurd (other e));
    }

kind_at : (count : ℕ) (kinds : List ℕ) (o c : ℕ) → o < length kinds → slice_index kinds o ≡ c → c < count → kind_of count (slice_get kinds o) ≡ Some c
kind_at count kinds o c inside is l =
    ap (kind_of count) (slice_get-get_or kinds o 0 inside ∙ ap Some is) ∙ below c l
  where
    below : (c : ℕ) → c < count → kind_of count (Some c) ≡ Some c
    below c l = grind (arith, nat_tests)

kind_from : (count : ℕ) (kinds : List ℕ) (o c : ℕ) → kind_of count (slice_get kinds o) ≡ Some c → (o < length kinds) × (slice_index kinds o ≡ c)
kind_from count kinds o c e =
    ⊎_elim
    (λ (l : o < length kinds). (l, from (slice_index kinds o) (sym (ap (kind_of count) (slice_get-get_or kinds o 0 l)) ∙ e)))
    (λ (l : length kinds ≤ o). let none = slice_get_past kinds o l in absurd (cc))
    (cases_lt o (length kinds))
  where
    from : (k : ℕ) → kind_of count (Some k) ≡ Some c → k ≡ c
    from k f = go (nat_lt k count) f
      where
        go : (b : Bool) → cond b (Some k) None ≡ Some c → k ≡ c
        go true f = cc
        go false f = absurd (cc)

pub AreMembers-all : (count : ℕ) (kinds : List ℕ) (c : ℕ) (operators : List ℕ) → c < count → AreMembersBelow kinds c (length kinds) operators → AreMembers count kinds c operators
AreMembers-all count kinds c operators l all =
    record {
      increasing = all.increasing;
      listed = λ o. (
        λ has.
            let at : slice_index operators has.0 ≡ o = get_or_default operators has.0 0 o has.1 ∙ has.2 in
            let inside : o < length kinds = omega (arith, all.below has.0 has.1) in
            kind_at count kinds o c inside (all.are o has) l,
        λ e. let w = kind_from count kinds o c e in all.all o w.0 w.1,
      );
    }

-- the members of one more class
pub AreListed-more : (count : ℕ) (kinds : List ℕ) (n : ℕ) (members : List (List ℕ)) (operators : List ℕ) → AreListed count kinds n members → AreMembers count kinds n operators →
    AreListed count kinds (n + 1) (members ++ operators ∷ [])
AreListed-more count kinds n members operators before here =
    record {
      full = omega (arith, before.full, length-append members (operators ∷ []));
      each = below_more (λ (c : ℕ). AreMembers count kinds c (slice_index_or (members ++ operators ∷ []) c [])) n
          (λ c l. let within : c < length members = omega (arith, before.full) in
          subst (λ (os : List ℕ). AreMembers count kinds c os) (sym (get_or_append_left members (operators ∷ []) [] c within)) (before.each c l))
          (subst (λ (os : List ℕ). AreMembers count kinds n os) (sym (get_or_push members operators [] n before.full)) here);
    }
