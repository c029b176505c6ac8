-- Shares of the operators of classes, one operator and one class after another.
use Rattle.std.specs.Prelude.{Contains, ◌↔◌}
use Rattle.std.specs.List.Sorted.{IsStrictlyIncreasing}
use Rattle.std.proofs.Common.{◌≡◌, ℕ, zero, suc, ◌+◌, ◌-◌, ◌<◌, ◌≤◌, ◌⊎◌, nat_lt, cond, min, List, [], ◌∷◌, ◌++◌, length, Option, Some, None, slice_index, slice_set, refl, sym, ap, ◌∙◌, subst, inl, inr, ⊎_elim, below_more, arith}
use Rattle.std.specs.Option.{option_map_or}
use Rattle.std.proofs.Math.Seq.{get_or-append_seam}
use Rattle.std.proofs.lemmas.Bool.{cases_eq, cases_lt}
use Rattle.std.proofs.lemmas.Bool.Decides.{nat_tests}
use Rattle.std.proofs.lemmas.List.{get_or_append_left, get_or_default, get_or_past, length-append}
use Rattle.std.proofs.lemmas.List.Elements.{Contains-get_or, Contains-append_left, Contains-push, Contains-push_cases}
use Rattle.abstraction_groups.specs.Entrances.{Classes}
use Rattle.pdb.specs.Classes.{share_by, share_below, AreLeast, IsLeastOf}
use Rattle.pdb.proofs.Lowering.{cases_set}

-- a number after one more
cases_push : (xs : List ℕ) (m c : ℕ) → ((c ≡ length xs) × (slice_index (xs ++ m ∷ []) c ≡ m)) ⊎ ((c ≡ length xs → ⊥) × (slice_index (xs ++ m ∷ []) c ≡ slice_index xs c))
cases_push xs m c =
    ⊎_elim
    (λ (e : c ≡ length xs). inl (e, subst (λ (k : ℕ). slice_index (xs ++ m ∷ []) k ≡ m) (sym e) (get_or-append_seam xs m [] 0)))
    (λ (ne : c ≡ length xs → ⊥). ⊎_elim
    (λ (l : c < length xs). inr (ne, get_or_append_left xs (m ∷ []) 0 c l))
    (λ (l : length xs ≤ c). inr (ne, get_or_past (xs ++ m ∷ []) c 0 (omega (arith, length-append xs (m ∷ []), more c ne l)) ∙ sym (get_or_past xs c 0 l)))
    (cases_lt c (length xs)))
    (cases_eq c (length xs))
  where
    more : (c : ℕ) → (c ≡ length xs → ⊥) → length xs ≤ c → length xs + 1 ≤ c
    more c ne l = ⊎_elim (λ (h : length xs < c). omega arith) (λ (h : c ≤ length xs). absurd (ne (omega arith))) (cases_lt (length xs) c)

-- the index of an element
index_of : (xs : List ℕ) (o : ℕ) → Contains xs o → (k : ℕ) × (k < length xs) × (slice_index xs k ≡ o)
index_of xs o has = (has.0, has.1, get_or_default xs has.0 0 o has.1 ∙ has.2)

element_at : (xs : List ℕ) (k : ℕ) → k < length xs → Contains xs (slice_index xs k)
element_at xs k l = Contains-get_or xs k 0 l

-- one more operator, whose share may lower the least one
pub IsLeastOf-with : (shares xs : List ℕ) (most least o m : ℕ) → m ≡ min least (slice_index shares o) → IsLeastOf shares xs most least → IsLeastOf shares (xs ++ o ∷ []) most m
IsLeastOf-with shares xs most least o m is before =
    record {
      small = omega (arith, before.small);
      at_most = λ p has l. ⊎_elim
          (λ (h : Contains xs p). omega (arith, before.at_most p h l))
          (λ (e : o ≡ p). let same = ap (slice_index shares) e in omega arith)
          (Contains-push_cases xs o p has);
      reached = ⊎_elim
          (λ (l : slice_index shares o < least). inr (o, Contains-push xs o, omega arith))
          (λ (l : least ≤ slice_index shares o).
          let same : least ≡ m = omega arith in
          ⊎_elim
          (λ (e : least ≡ most). inl (omega arith))
          (λ (r : (p : ℕ) × Contains xs p × (slice_index shares p ≡ least)). inr (r.0, Contains-append_left xs (o ∷ []) r.0 r.1, omega (arith, r.2)))
          before.reached)
          (cases_lt (slice_index shares o) least);
    }

-- one more operator, which does not exist
pub IsLeastOf-without : (shares xs : List ℕ) (most least o : ℕ) → length shares ≤ o → IsLeastOf shares xs most least → IsLeastOf shares (xs ++ o ∷ []) most least
IsLeastOf-without shares xs most least o past before =
    record {
      small = before.small;
      at_most = λ p has l. ⊎_elim
          (λ (h : Contains xs p). before.at_most p h l)
          (λ (e : o ≡ p). absurd (omega arith))
          (Contains-push_cases xs o p has);
      reached = ⊎_elim
          (λ (e : least ≡ most). inl e)
          (λ (r : (p : ℕ) × Contains xs p × (slice_index shares p ≡ least)). inr (r.0, Contains-append_left xs (o ∷ []) r.0 r.1, r.2))
          before.reached;
    }

-- the number is the least share of the operators of one class, or `most`
pub record IsLeastAt (classes : Classes) (shares : List ℕ) (most c n : ℕ) : Type 0 where
  pub at_most : (o : ℕ) → o < length shares → classes.class o ≡ Some c → n ≤ slice_index shares o
  pub reached : (n ≡ most) ⊎ ((p : ℕ) × (classes.class p ≡ Some c) × (slice_index shares p ≡ n))

-- one more class
module _ (classes : Classes) (shares least operators : List ℕ) (most c m : ℕ) (long : length least ≡ c)
    (listed : (o : ℕ) → Contains operators o ↔ (classes.class o ≡ Some c)) (is : IsLeastOf shares operators most m) where
  at_here : IsLeastAt classes shares most c m
  at_here =
      record {
        at_most = λ o l e. is.at_most o ((listed o).1 e) l;
        reached = ⊎_elim
            (λ (e : m ≡ most). inl e)
            (λ (r : (p : ℕ) × Contains operators p × (slice_index shares p ≡ m)). inr (r.0, (listed r.0).0 r.1, r.2))
            is.reached;
      }

  pub least_pushed : ((p : ℕ) → p < c → IsLeastAt classes shares most p (slice_index least p)) → (p : ℕ) → p < c + 1 → IsLeastAt classes shares most p (slice_index (least ++ m ∷ []) p)
  least_pushed before =
      below_more (λ p. IsLeastAt classes shares most p (slice_index (least ++ m ∷ []) p)) c
      (λ p l. subst (λ (n : ℕ). IsLeastAt classes shares most p n) (sym (get_or_append_left least (m ∷ []) 0 p (omega arith))) (before p l))
      (subst (λ (n : ℕ). IsLeastAt classes shares most c n) (sym (subst (λ (k : ℕ). slice_index (least ++ m ∷ []) k ≡ m) long (get_or-append_seam least m [] 0))) at_here)

  pub small_pushed : ((p : ℕ) → slice_index least p ≤ most) → (p : ℕ) → slice_index (least ++ m ∷ []) p ≤ most
  small_pushed before p =
      ⊎_elim
      (λ (w : (p ≡ length least) × (slice_index (least ++ m ∷ []) p ≡ m)). omega (arith, w.1, is.small))
      (λ (w : (p ≡ length least → ⊥) × (slice_index (least ++ m ∷ []) p ≡ slice_index least p)). omega (arith, w.1, before p))
      (cases_push least m p)

pub AreLeast-each : (classes : Classes) (shares least : List ℕ) (most : ℕ) → ((o c : ℕ) → classes.class o ≡ Some c → c < classes.count) → ((o : ℕ) → slice_index shares o ≤ most) →
    ((c : ℕ) → c < classes.count → IsLeastAt classes shares most c (slice_index least c)) → AreLeast classes shares least
AreLeast-each classes shares least most inside small each =
    record {
      at_most = λ o c l e. (each c (inside o c e)).at_most o l e;
      reached = λ o c l e.
          let at = each c (inside o c e) in
          ⊎_elim
          (λ (h : slice_index least c ≡ most). (o, e, omega (arith, small o, at.at_most o l e)))
          (λ (r : (p : ℕ) × (classes.class p ≡ Some c) × (slice_index shares p ≡ slice_index least c)). r)
          at.reached;
    }

-- numbers after a write at an index, which may be past the end
pub record HasSet (old new : List ℕ) (i y : ℕ) : Type 0 where
  pub here : i < length old → slice_index new i ≡ y
  pub past : length old ≤ i → slice_index new i ≡ 0
  pub other : (o : ℕ) → (o ≡ i → ⊥) → slice_index new o ≡ slice_index old o

pub HasSet-write : (old : List ℕ) (i y : ℕ) → i < length old → HasSet old (slice_set old i y) i y
HasSet-write old i y l =
    record {
      here = λ _. ⊎_elim
          (λ (w : (i ≡ i) × (slice_index (slice_set old i y) i ≡ y)). w.1)
          (λ (w : (i ≡ i → ⊥) × (slice_index (slice_set old i y) i ≡ slice_index old i)). absurd (w.0 refl))
          (cases_set old i y i l);
      past = λ p. absurd (omega arith);
      other = λ o ne. ⊎_elim
          (λ (w : (o ≡ i) × (slice_index (slice_set old i y) o ≡ y)). absurd (ne w.0))
          (λ (w : (o ≡ i → ⊥) × (slice_index (slice_set old i y) o ≡ slice_index old o)). w.1)
          (cases_set old i y o l);
    }

pub HasSet-past : (old : List ℕ) (i y : ℕ) → length old ≤ i → HasSet old old i y
HasSet-past old i y l =
    record {
      here = λ h. absurd (omega arith);
      past = λ _. get_or_past old i 0 l;
      other = λ o ne. refl;
    }

-- the numbers at the first n of these indices are set, and the others are as at the start
pub record AreSet (indices start new : List ℕ) (n y : ℕ) : Type 0 where
  pub set : (k : ℕ) → k < n → slice_index indices k < length start → slice_index new (slice_index indices k) ≡ y
  pub others : (o : ℕ) → ((k : ℕ) → k < n → slice_index indices k ≡ o → ⊥) → slice_index new o ≡ slice_index start o

pub AreSet-more : (indices start old new : List ℕ) (n y : ℕ) → length old ≡ length start → AreSet indices start old n y → HasSet old new (slice_index indices n) y → AreSet indices start new (n + 1) y
AreSet-more indices start old new n y long before now =
    record {
      set = below_more (λ k. slice_index indices k < length start → slice_index new (slice_index indices k) ≡ y) n
          (λ k l inside. ⊎_elim
          (λ (e : slice_index indices k ≡ slice_index indices n). ap (slice_index new) e ∙ now.here (omega arith))
          (λ (ne : slice_index indices k ≡ slice_index indices n → ⊥). now.other (slice_index indices k) ne ∙ before.set k l inside)
          (cases_eq (slice_index indices k) (slice_index indices n)))
          (λ inside. now.here (omega arith));
      others = λ o away. now.other o (λ e. away n (omega arith) (sym e)) ∙ before.others o (λ k l e. away k (omega arith) e);
    }

pub AreSet-write : (indices start old : List ℕ) (n y : ℕ) → length old ≡ length start → slice_index indices n < length old → AreSet indices start old n y → AreSet indices start (slice_set old (slice_index indices n) y) (n + 1) y
AreSet-write indices start old n y long l before = AreSet-more indices start old (slice_set old (slice_index indices n) y) n y long before (HasSet-write old (slice_index indices n) y l)

pub AreSet-past : (indices start old : List ℕ) (n y : ℕ) → length old ≡ length start → length old ≤ slice_index indices n → AreSet indices start old n y → AreSet indices start old (n + 1) y
AreSet-past indices start old n y long l before = AreSet-more indices start old old n y long before (HasSet-past old (slice_index indices n) y l)

pub AreSet-here : (indices start new : List ℕ) (y : ℕ) → AreSet indices start new (length indices) y → (o : ℕ) → o < length start → Contains indices o → slice_index new o ≡ y
AreSet-here indices start new y all o inside has =
    let at = index_of indices o has in
    subst (λ (x : ℕ). slice_index new x ≡ y) at.2 (all.set at.0 at.1 (omega (arith, at.2)))

pub AreSet-others : (indices start new : List ℕ) (y : ℕ) → AreSet indices start new (length indices) y → (o : ℕ) → (Contains indices o → ⊥) → slice_index new o ≡ slice_index start o
AreSet-others indices start new y all o away =
    all.others o (λ k l e. away (subst (λ (x : ℕ). Contains indices x) e (element_at indices k l)))

increases_by : (xs : List ℕ) → IsStrictlyIncreasing xs → (j d : ℕ) → j + d + 1 < length xs → slice_index xs j < slice_index xs (j + d + 1)
increases_by xs up j zero l = let h : slice_index xs j < slice_index xs (j + 1) = up j (omega arith) in let e : j + 0 + 1 ≡ j + 1 = omega arith in rw e h
increases_by xs up j (suc d) l =
    let before : slice_index xs j < slice_index xs (j + d + 1) = increases_by xs up j d (omega arith) in
    let next : slice_index xs (j + d + 1) < slice_index xs (j + d + 1 + 1) = up (j + d + 1) (omega arith) in
    let e : j + suc d + 1 ≡ j + d + 1 + 1 = omega arith in
    rw e (omega arith)

increases : (xs : List ℕ) → IsStrictlyIncreasing xs → (j k : ℕ) → j < k → k < length xs → slice_index xs j < slice_index xs k
increases xs up j k l inside =
    let e : j + (k - j - 1) + 1 ≡ k = omega arith in
    let h : slice_index xs j < slice_index xs (j + (k - j - 1) + 1) = increases_by xs up j (k - j - 1) (omega arith) in
    let same = ap (slice_index xs) e in
    omega arith

-- the numbers at the first n of these indices are less by the share, and the others are as at the start
pub record AreLess (indices start new : List ℕ) (n share : ℕ) : Type 0 where
  pub less : (k : ℕ) → k < n → slice_index new (slice_index indices k) ≡ slice_index start (slice_index indices k) - share
  pub others : (o : ℕ) → ((k : ℕ) → k < n → slice_index indices k ≡ o → ⊥) → slice_index new o ≡ slice_index start o

pub AreLess-more : (indices start old new : List ℕ) (n share : ℕ) → IsStrictlyIncreasing indices → n < length indices → length old ≡ length start → AreLess indices start old n share →
    HasSet old new (slice_index indices n) (slice_index old (slice_index indices n) - share) → AreLess indices start new (n + 1) share
AreLess-more indices start old new n share up inside long before now =
    record {
      less = below_more (λ k. slice_index new (slice_index indices k) ≡ slice_index start (slice_index indices k) - share) n
          (λ k l. now.other (slice_index indices k) (λ e. earlier k l e) ∙ before.less k l)
          (⊎_elim
          (λ (l : slice_index indices n < length old). omega (arith, now.here l, untouched))
          (λ (l : length old ≤ slice_index indices n). omega (arith, now.past l, untouched, get_or_past old (slice_index indices n) 0 l))
          (cases_lt (slice_index indices n) (length old)));
      others = λ o away. now.other o (λ e. away n (omega arith) (sym e)) ∙ before.others o (λ k l e. away k (omega arith) e);
    }
  where
    earlier : (k : ℕ) → k < n → slice_index indices k ≡ slice_index indices n → ⊥
    earlier k l e = let h = increases indices up k n l inside in omega arith

    untouched : slice_index old (slice_index indices n) ≡ slice_index start (slice_index indices n)
    untouched = before.others (slice_index indices n) earlier

pub AreLess-write : (indices start old : List ℕ) (n share y : ℕ) → y ≡ slice_index old (slice_index indices n) - share → IsStrictlyIncreasing indices → n < length indices → length old ≡ length start →
    slice_index indices n < length old → AreLess indices start old n share → AreLess indices start (slice_set old (slice_index indices n) y) (n + 1) share
AreLess-write indices start old n share y is up inside long l before =
    AreLess-more indices start old (slice_set old (slice_index indices n) y) n share up inside long before
    (subst (λ (x : ℕ). HasSet old (slice_set old (slice_index indices n) y) (slice_index indices n) x) is (HasSet-write old (slice_index indices n) y l))

pub AreLess-past : (indices start old : List ℕ) (n share : ℕ) → IsStrictlyIncreasing indices → n < length indices → length old ≡ length start →
    length old ≤ slice_index indices n → AreLess indices start old n share → AreLess indices start old (n + 1) share
AreLess-past indices start old n share up inside long l before =
    AreLess-more indices start old old n share up inside long before (HasSet-past old (slice_index indices n) (slice_index old (slice_index indices n) - share) l)

pub AreLess-here : (indices start new : List ℕ) (share : ℕ) → AreLess indices start new (length indices) share → (o : ℕ) → Contains indices o → slice_index new o ≡ slice_index start o - share
AreLess-here indices start new share all o has =
    let at = index_of indices o has in
    subst (λ (x : ℕ). slice_index new x ≡ slice_index start x - share) at.2 (all.less at.0 at.1)

pub AreLess-others : (indices start new : List ℕ) (share : ℕ) → AreLess indices start new (length indices) share → (o : ℕ) → (Contains indices o → ⊥) → slice_index new o ≡ slice_index start o
AreLess-others indices start new share all o away =
    all.others o (λ k l e. away (subst (λ (x : ℕ). Contains indices x) e (element_at indices k l)))

-- the number of an operator among those of the first n classes
below_none : (classes : Classes) (numbers : List ℕ) (n o : ℕ) → classes.class o ≡ None → share_below classes numbers n o ≡ 0
below_none classes numbers n o e = ap (λ (r : Option ℕ). option_map_or (λ c. cond (nat_lt c n) (slice_index numbers c) 0) r 0) e

below_some : (classes : Classes) (numbers : List ℕ) (n o c : ℕ) → classes.class o ≡ Some c → share_below classes numbers n o ≡ cond (nat_lt c n) (slice_index numbers c) 0
below_some classes numbers n o c e = ap (λ (r : Option ℕ). option_map_or (λ c. cond (nat_lt c n) (slice_index numbers c) 0) r 0) e

is_below : (c n x : ℕ) → c < n → cond (nat_lt c n) x 0 ≡ x
is_below c n x l = grind (arith, nat_tests)

is_not_below : (c n x : ℕ) → n ≤ c → cond (nat_lt c n) x 0 ≡ 0
is_not_below c n x l = grind (arith, nat_tests)

pub below_first : (classes : Classes) (numbers : List ℕ) (o : ℕ) → share_below classes numbers 0 o ≡ 0
below_first classes numbers o = go (classes.class o) refl
  where
    go : (r : Option ℕ) → classes.class o ≡ r → share_below classes numbers 0 o ≡ 0
    go None e = below_none classes numbers 0 o e
    go (Some c) e = below_some classes numbers 0 o c e ∙ is_not_below c 0 (slice_index numbers c) (omega arith)

pub below_all : (classes : Classes) (numbers : List ℕ) (n o : ℕ) → ((c : ℕ) → classes.class o ≡ Some c → c < n) → share_below classes numbers n o ≡ share_by classes numbers o
below_all classes numbers n o inside = go (classes.class o) refl
  where
    go : (r : Option ℕ) → classes.class o ≡ r → share_below classes numbers n o ≡ share_by classes numbers o
    go None e = below_none classes numbers n o e ∙ sym (ap (λ (r : Option ℕ). option_map_or (λ c. slice_index numbers c) r 0) e)
    go (Some c) e =
        below_some classes numbers n o c e ∙ is_below c n (slice_index numbers c) (inside c e)
        ∙ sym (ap (λ (r : Option ℕ). option_map_or (λ c. slice_index numbers c) r 0) e)

-- an operator is of this class, with a share that is new, or of another class, or of none
abbrev StepCases : Classes → List ℕ → ℕ → ℕ → Type 0
StepCases classes numbers n o =
    ((classes.class o ≡ Some n) × (share_below classes numbers n o ≡ 0) × (share_below classes numbers (n + 1) o ≡ slice_index numbers n))
    ⊎ ((classes.class o ≡ Some n → ⊥) × (share_below classes numbers (n + 1) o ≡ share_below classes numbers n o))

step_cases : (classes : Classes) (numbers : List ℕ) (n o : ℕ) → StepCases classes numbers n o
step_cases classes numbers n o = go (classes.class o) refl
  where
    other : (c : ℕ) → classes.class o ≡ Some c → (c ≡ n → ⊥) → share_below classes numbers (n + 1) o ≡ share_below classes numbers n o
    other c e ne =
        ⊎_elim
        (λ (l : c < n). below_some classes numbers (n + 1) o c e ∙ is_below c (n + 1) (slice_index numbers c) (omega arith)
        ∙ sym (below_some classes numbers n o c e ∙ is_below c n (slice_index numbers c) l))
        (λ (l : n ≤ c).
        let past : n + 1 ≤ c = ⊎_elim (λ (h : n < c). omega arith) (λ (h : c ≤ n). absurd (ne (omega arith))) (cases_lt n c) in
        below_some classes numbers (n + 1) o c e ∙ is_not_below c (n + 1) (slice_index numbers c) past
        ∙ sym (below_some classes numbers n o c e ∙ is_not_below c n (slice_index numbers c) l))
        (cases_lt c n)

    go : (r : Option ℕ) → classes.class o ≡ r → StepCases classes numbers n o
    go None e = inr (λ f. absurd (cc), below_none classes numbers (n + 1) o e ∙ sym (below_none classes numbers n o e))
    go (Some c) e =
        ⊎_elim
        (λ (same : c ≡ n).
        let mine : classes.class o ≡ Some n = e ∙ ap Some same in
        inl (mine, below_some classes numbers n o n mine ∙ is_not_below n n (slice_index numbers n) (omega arith), below_some classes numbers (n + 1) o n mine ∙ is_below n (n + 1) (slice_index numbers n) (omega arith)))
        (λ (ne : c ≡ n → ⊥). inr (λ f. let same : c ≡ n = cc in absurd (ne same), other c e ne))
        (cases_eq c n)

module _ (classes : Classes) (numbers operators : List ℕ) (n : ℕ) (listed : (o : ℕ) → Contains operators o ↔ (classes.class o ≡ Some n)) where
  -- the shares of one more class are set
  pub shares_set : (old new : List ℕ) (count : ℕ) → ((o : ℕ) → o < count → Contains operators o → slice_index new o ≡ slice_index numbers n) →
      ((o : ℕ) → (Contains operators o → ⊥) → slice_index new o ≡ slice_index old o) → ((o : ℕ) → o < count → slice_index old o ≡ share_below classes numbers n o) →
      (o : ℕ) → o < count → slice_index new o ≡ share_below classes numbers (n + 1) o
  shares_set old new count set others before o inside =
      ⊎_elim
      (λ (w : (classes.class o ≡ Some n) × (share_below classes numbers n o ≡ 0) × (share_below classes numbers (n + 1) o ≡ slice_index numbers n)).
      set o inside ((listed o).1 w.0) ∙ sym w.2)
      (λ (w : (classes.class o ≡ Some n → ⊥) × (share_below classes numbers (n + 1) o ≡ share_below classes numbers n o)).
      others o (λ has. w.0 ((listed o).0 has)) ∙ before o inside ∙ sym w.1)
      (step_cases classes numbers n o)

  -- the share of one more class is subtracted
  pub shares_subtracted : (start old new : List ℕ) → ((o : ℕ) → Contains operators o → slice_index new o ≡ slice_index old o - slice_index numbers n) →
      ((o : ℕ) → (Contains operators o → ⊥) → slice_index new o ≡ slice_index old o) → ((o : ℕ) → slice_index old o ≡ slice_index start o - share_below classes numbers n o) →
      (o : ℕ) → slice_index new o ≡ slice_index start o - share_below classes numbers (n + 1) o
  shares_subtracted start old new less others before o =
      ⊎_elim
      (λ (w : (classes.class o ≡ Some n) × (share_below classes numbers n o ≡ 0) × (share_below classes numbers (n + 1) o ≡ slice_index numbers n)).
      omega (arith, less o ((listed o).1 w.0), before o, w.1, w.2))
      (λ (w : (classes.class o ≡ Some n → ⊥) × (share_below classes numbers (n + 1) o ≡ share_below classes numbers n o)).
      omega (arith, others o (λ has. w.0 ((listed o).0 has)), before o, w.1))
      (step_cases classes numbers n o)

-- a class with the share 0 is left out
pub shares_left_out : (classes : Classes) (numbers start old : List ℕ) (n : ℕ) → slice_index numbers n ≡ 0 → ((o : ℕ) → slice_index old o ≡ slice_index start o - share_below classes numbers n o) →
    (o : ℕ) → slice_index old o ≡ slice_index start o - share_below classes numbers (n + 1) o
shares_left_out classes numbers start old n none before o =
    ⊎_elim
    (λ (w : (classes.class o ≡ Some n) × (share_below classes numbers n o ≡ 0) × (share_below classes numbers (n + 1) o ≡ slice_index numbers n)).
    omega (arith, before o, w.1, w.2))
    (λ (w : (classes.class o ≡ Some n → ⊥) × (share_below classes numbers (n + 1) o ≡ share_below classes numbers n o)).
    omega (arith, before o, w.1))
    (step_cases classes numbers n o)
