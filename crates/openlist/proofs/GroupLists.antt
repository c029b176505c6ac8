-- Groups of a bucket: their entries, and the order of their keys, after a change of one of them.
use Rattle.std.specs.Prelude.{Contains, IsPermutation}
use Rattle.std.proofs.Common.{◌≡◌, ℕ, zero, suc, ◌+◌, ◌-◌, ◌<◌, ◌≤◌, List, [], ◌∷◌, ◌++◌, length, map, get_or, set, take, drop, refl, sym, ap, ◌∙◌, subst, arith, true, false, Bool, cond, ◌==◌}
use Rattle.std.specs.List.{insert}
use Rattle.std.proofs.lemmas.Bool.{false≢true}
use Rattle.std.proofs.lemmas.Bool.Decides.{nat_tests}
use Rattle.std.proofs.lemmas.List.{get_or-set_same, length-append, length-map, take-set}
use Rattle.std.proofs.lemmas.List.Elements.{All-append, All-cons, All-nil, All-tail, All-set, All-take, Contains-append_left, Contains-append_right}
use Rattle.std.proofs.lemmas.List.Sorted.{IsPermutation-append_left, IsPermutation-append_right, IsPermutation-map, IsPermutation-middle, IsPermutation-refl, IsPermutation-sym, IsPermutation-trans, length_permutation}
use Rattle.openlist.specs.declared.bucket_entry.BucketEntry.{BucketEntry}
use Rattle.openlist.specs.declared.bucket_entry.GroupKey.{GroupKey}
use Rattle.openlist.specs.BucketOrder.{comes_before, IsBefore}
use Rattle.openlist.specs.Groups.{AreGroups, GroupHeld, entries_in, entry_in, grouped, IsAbove, IsBelow, is_lower_key, key_of}
use Rattle.openlist.specs.Halves.{lower_of}
use Rattle.openlist.proofs.GroupOrder.{entry_in-key_of, IsAbove-trans, IsBefore-higher, is_lower_key-other, is_lower_key-trans, is_same_key}

-- the entries after one more was put into a group
pub grouped-push : (e : BucketEntry) (gs : List GroupHeld) (n : ℕ) (old new : GroupHeld) → n < length gs →
    old ≡ get_or gs n old → IsPermutation (e ∷ entries_in old) (entries_in new) →
    IsPermutation (e ∷ grouped gs) (grouped (set gs n new))
grouped-push e [] n old new inside is pushed = absurd (omega arith)
grouped-push e (g ∷ gs) zero old new inside is pushed =
    IsPermutation-append_left (grouped gs) (e ∷ entries_in g) (entries_in new)
    (subst (λ h. IsPermutation (e ∷ entries_in h) (entries_in new)) is pushed)
grouped-push e (g ∷ gs) (suc n) old new inside is pushed =
    IsPermutation-trans (e ∷ (entries_in g ++ grouped gs)) (entries_in g ++ e ∷ grouped gs)
    (entries_in g ++ grouped (set gs n new))
    (IsPermutation-sym _ _ (IsPermutation-middle (entries_in g) e (grouped gs)))
    (IsPermutation-append_right (entries_in g) (e ∷ grouped gs) (grouped (set gs n new))
    (grouped-push e gs n old new (omega arith) is pushed))

-- the entries after one was taken out of a group
pub grouped-pop : (e : BucketEntry) (gs : List GroupHeld) (n : ℕ) (old new : GroupHeld) → n < length gs →
    old ≡ get_or gs n old → entries_in old ≡ e ∷ entries_in new →
    IsPermutation (grouped gs) (e ∷ grouped (set gs n new))
grouped-pop e [] n old new inside is popped = absurd (omega arith)
grouped-pop e (g ∷ gs) zero old new inside is popped =
    let same : entries_in g ≡ e ∷ entries_in new = ap entries_in (sym is) ∙ popped in
    subst (λ v. IsPermutation (v ++ grouped gs) (e ∷ entries_in new ++ grouped gs)) (sym same)
    (IsPermutation-refl (e ∷ entries_in new ++ grouped gs))
grouped-pop e (g ∷ gs) (suc n) old new inside is popped =
    IsPermutation-trans (entries_in g ++ grouped gs) (entries_in g ++ e ∷ grouped (set gs n new))
    (e ∷ (entries_in g ++ grouped (set gs n new)))
    (IsPermutation-append_right (entries_in g) (grouped gs) (e ∷ grouped (set gs n new))
    (grouped-pop e gs n old new (omega arith) is popped))
    (IsPermutation-middle (entries_in g) e (grouped (set gs n new)))

-- the entries after a group of one entry was inserted
pub grouped-insert : (e : BucketEntry) (gs : List GroupHeld) (n : ℕ) (g : GroupHeld) → entries_in g ≡ e ∷ [] →
    IsPermutation (e ∷ grouped gs) (grouped (insert gs n g))
grouped-insert e gs zero g one =
    subst (λ v. IsPermutation (e ∷ grouped gs) (v ++ grouped gs)) (sym one) (IsPermutation-refl (e ∷ grouped gs))
grouped-insert e [] (suc n) g one =
    subst (λ v. IsPermutation (e ∷ []) (v ++ [])) (sym one) (IsPermutation-refl (e ∷ []))
grouped-insert e (h ∷ gs) (suc n) g one =
    IsPermutation-trans (e ∷ (entries_in h ++ grouped gs)) (entries_in h ++ e ∷ grouped gs)
    (entries_in h ++ grouped (insert gs n g))
    (IsPermutation-sym _ _ (IsPermutation-middle (entries_in h) e (grouped gs)))
    (IsPermutation-append_right (entries_in h) (e ∷ grouped gs) (grouped (insert gs n g))
    (grouped-insert e gs n g one))

-- the entries of groups the last of which is empty
pub grouped-empty_last : (gs : List GroupHeld) (n : ℕ) (new : GroupHeld) → n + 1 ≡ length gs → new.lowers ≡ [] →
    grouped (set gs n new) ≡ grouped (take n gs)
grouped-empty_last [] n new at empty = absurd (omega arith)
grouped-empty_last (g ∷ []) zero new at empty = ap (λ v. map (entry_in new.key) v ++ []) empty
grouped-empty_last (g ∷ h ∷ gs) zero new at empty = absurd (omega arith)
grouped-empty_last (g ∷ gs) (suc n) new at empty =
    ap (λ v. entries_in g ++ v) (grouped-empty_last gs n new (omega arith) empty)

is_zero : (n : ℕ) → (n == 0) ≡ true → n ≡ 0
is_zero n none = grind (arith, nat_tests)

-- groups have no entry only if there are none
pub no_groups : (gs : List GroupHeld) → AreGroups gs → grouped gs ≡ [] → length gs ≡ 0
no_groups [] are none = refl
no_groups (g ∷ gs) are none =
    absurd (omega (
      arith,
      are.0,
      ap length none,
      length-append (entries_in g) (grouped gs),
      length-map g.lowers (entry_in g.key),
    ))

pub no_entries : (gs : List GroupHeld) (n : ℕ) → n ≡ length gs → (n == 0) ≡ true → grouped gs ≡ []
no_entries [] n long none = refl
no_entries (g ∷ gs) n long none =
    let zero_long : n ≡ 0 = is_zero n none in
    absurd (omega arith)

IsAbove-set : (key : GroupKey) (gs : List GroupHeld) (n : ℕ) (old new : GroupHeld) → n < length gs → old ≡ get_or gs n old →
    new.key ≡ old.key → IsAbove key gs → IsAbove key (set gs n new)
IsAbove-set key gs n old new inside is same above =
    let at : is_lower_key old.key key ≡ true =
    subst (λ g. is_lower_key g.key key ≡ true) (sym is) (above n old inside) in
    All-set (λ g. is_lower_key g.key key ≡ true) gs n new (subst (λ k. is_lower_key k key ≡ true) (sym same) at) above

-- a group may change that keeps its key and is not empty then
pub AreGroups-set : (gs : List GroupHeld) (n : ℕ) (old new : GroupHeld) → n < length gs → old ≡ get_or gs n old →
    new.key ≡ old.key → 0 < length new.lowers → AreGroups gs → AreGroups (set gs n new)
AreGroups-set [] n old new inside is same filled are = tt
AreGroups-set (g ∷ gs) zero old new inside is same filled are =
    let key : g.key ≡ new.key = ap (λ h. h.key) (sym is) ∙ sym same in
    (filled, subst (λ k. IsAbove k gs) key are.1, are.2)
AreGroups-set (g ∷ gs) (suc n) old new inside is same filled are = (
  are.0,
  IsAbove-set g.key gs n old new (omega arith) is same are.1,
  AreGroups-set gs n old new (omega arith) is same filled are.2,
)

pub AreGroups-take : (n : ℕ) (gs : List GroupHeld) → AreGroups gs → AreGroups (take n gs)
AreGroups-take zero gs are = tt
AreGroups-take (suc n) [] are = tt
AreGroups-take (suc n) (g ∷ gs) are =
    (are.0, All-take (λ h. is_lower_key h.key g.key ≡ true) n gs are.1, AreGroups-take n gs are.2)

-- a new group between those of higher and those of lower keys
pub AreGroups-insert : (gs : List GroupHeld) (n : ℕ) (g : GroupHeld) → 0 < length g.lowers →
    IsBelow g.key (take n gs) → IsAbove g.key (drop n gs) → AreGroups gs → AreGroups (insert gs n g)
AreGroups-insert gs zero g filled below above are = (filled, above, are)
AreGroups-insert [] (suc n) g filled below above are = (filled, above, are)
AreGroups-insert (h ∷ gs) (suc n) g filled below above are =
    let lower : is_lower_key g.key h.key ≡ true = below 0 h (omega arith) in (
      are.0,
      All-append (λ k. is_lower_key k.key h.key ≡ true) (take n gs) (g ∷ drop n gs)
          (All-take (λ k. is_lower_key k.key h.key ≡ true) n gs are.1)
          (All-cons (λ k. is_lower_key k.key h.key ≡ true) g (drop n gs) lower
          (IsAbove-trans h.key g.key (drop n gs) lower above)),
      AreGroups-insert gs n g filled (All-tail (λ k. is_lower_key g.key k.key ≡ true) h (take n gs) below) above are.2,
    )

-- a key that is below that of a group is below those before it
pub IsBelow-take : (key : GroupKey) (gs : List GroupHeld) (n : ℕ) (g : GroupHeld) → n < length gs → g ≡ get_or gs n g →
    is_lower_key key g.key ≡ true → AreGroups gs → IsBelow key (take (suc n) gs)
IsBelow-take key [] n g inside is lower are = absurd (omega arith)
IsBelow-take key (h ∷ gs) zero g inside is lower are =
    All-cons (λ k. is_lower_key key k.key ≡ true) h [] (subst (λ k. is_lower_key key k.key ≡ true) is lower)
    (All-nil (λ k. is_lower_key key k.key ≡ true))
IsBelow-take key (h ∷ gs) (suc n) g inside is lower are =
    let here : is_lower_key g.key h.key ≡ true =
    subst (λ k. is_lower_key k.key h.key ≡ true) (sym is) (are.1 n g (omega arith)) in
    All-cons (λ k. is_lower_key key k.key ≡ true) h (take (suc n) gs) (is_lower_key-trans key g.key h.key lower here)
    (IsBelow-take key gs n g (omega arith) is lower are.2)

-- a key that is neither below nor the same as that of the group before a place is below those before it
pub IsBelow-place : (key : GroupKey) (gs : List GroupHeld) (place : ℕ) (g : GroupHeld) → 0 < place → place ≤ length gs →
    g ≡ get_or gs (place - 1) g → is_lower_key g.key key ≡ false → is_same_key g.key key ≡ false → AreGroups gs →
    IsBelow key (take place gs)
IsBelow-place key gs zero g some inside is not_lower other are = absurd (omega arith)
IsBelow-place key gs (suc n) g some inside is not_lower other are =
    let at : suc n - 1 ≡ n = omega arith in
    IsBelow-take key gs n g (omega arith) (subst (λ k. g ≡ get_or gs k g) at is)
    (is_lower_key-other g.key key not_lower other) are

-- a key that is above that of a group is above those after it
pub IsAbove-drop : (key : GroupKey) (gs : List GroupHeld) (n : ℕ) (g : GroupHeld) → n < length gs → g ≡ get_or gs n g →
    is_lower_key g.key key ≡ true → AreGroups gs → IsAbove key (drop n gs)
IsAbove-drop key [] n g inside is lower are = absurd (omega arith)
IsAbove-drop key (h ∷ gs) zero g inside is lower are =
    let here : is_lower_key h.key key ≡ true = subst (λ k. is_lower_key k.key key ≡ true) is lower in
    All-cons (λ k. is_lower_key k.key key ≡ true) h gs here (IsAbove-trans key h.key gs here are.1)
IsAbove-drop key (h ∷ gs) (suc n) g inside is lower are = IsAbove-drop key gs n g (omega arith) is lower are.2

-- the first entry of the last group comes before all others
pub IsBefore-grouped : (e : BucketEntry) (gs : List GroupHeld) (n : ℕ) (g : GroupHeld) → n + 1 ≡ length gs →
    g ≡ get_or gs n g → key_of e ≡ g.key → IsBefore e (entries_in g) → AreGroups gs → IsBefore e (grouped gs)
IsBefore-grouped e [] n g at is key first are = absurd (omega arith)
IsBefore-grouped e (h ∷ []) zero g at is key first are =
    All-append (λ y. comes_before e y ≡ true) (entries_in h) [] (subst (λ k. IsBefore e (entries_in k)) is first)
    (All-nil (λ y. comes_before e y ≡ true))
IsBefore-grouped e (h ∷ k ∷ gs) zero g at is key first are = absurd (omega arith)
IsBefore-grouped e (h ∷ gs) (suc n) g at is key first are =
    let lower : is_lower_key g.key h.key ≡ true =
    subst (λ k. is_lower_key k.key h.key ≡ true) (sym is) (are.1 n g (omega arith)) in
    All-append (λ y. comes_before e y ≡ true) (entries_in h) (grouped gs)
    (IsBefore-higher e h (subst (λ k. is_lower_key k h.key ≡ true) (sym key) lower))
    (IsBefore-grouped e gs n g (omega arith) is key first are.2)

pub Contains-grouped : (e : BucketEntry) (gs : List GroupHeld) (n : ℕ) (g : GroupHeld) → n < length gs →
    g ≡ get_or gs n g → Contains (entries_in g) e → Contains (grouped gs) e
Contains-grouped e [] n g inside is member = absurd (omega arith)
Contains-grouped e (h ∷ gs) zero g inside is member =
    Contains-append_left (entries_in h) (grouped gs) e (subst (λ k. Contains (entries_in k) e) is member)
Contains-grouped e (h ∷ gs) (suc n) g inside is member =
    Contains-append_right (entries_in h) (grouped gs) e (Contains-grouped e gs n g (omega arith) is member)

-- a group of a bucket has an entry
pub filled_at : (gs : List GroupHeld) (n : ℕ) (g : GroupHeld) → n < length gs → g ≡ get_or gs n g → AreGroups gs →
    0 < length g.lowers
filled_at [] n g inside is are = absurd (omega arith)
filled_at (h ∷ gs) zero g inside is are = subst (λ k. 0 < length k.lowers) (sym is) are.0
filled_at (h ∷ gs) (suc n) g inside is are = filled_at gs n g (omega arith) is are.2

pub never_empty : (gs : List GroupHeld) (n : ℕ) (g : GroupHeld) → n < length gs → g ≡ get_or gs n g → AreGroups gs →
    g.lowers ≡ [] → ⊥
never_empty gs n g inside is are empty =
    let filled : 0 < length g.lowers = filled_at gs n g inside is are in
    omega (arith, ap length empty)

-- what is read where a group was written
pub same_as_set : (gs : List GroupHeld) (n : ℕ) (new g : GroupHeld) → n < length gs → g ≡ get_or (set gs n new) n g →
    g ≡ new
same_as_set gs n new g inside is = is ∙ get_or-set_same gs n new g inside

pub filled_unless : (xs : List ℕ) → (xs ≡ [] → false ≡ true) → 0 < length xs
filled_unless [] h = absurd (false≢true (h refl))
filled_unless (x ∷ xs) h = omega arith

-- a push leaves a group that had an entry with one
pub filled_after_push : (b : Bool) (lower : ℕ) (old new : List ℕ) → 0 < length old →
    (b ≡ true → IsPermutation (lower ∷ old) new) → (b ≡ false → new ≡ old) → 0 < length new
filled_after_push true lower old new filled pushed unchanged =
    omega (arith, length_permutation (lower ∷ old) new (pushed refl))
filled_after_push false lower old new filled pushed unchanged = subst (λ v. 0 < length v) (sym (unchanged refl)) filled

-- the entries of a group after a push
pub entries-pushed : (e : BucketEntry) (lower : ℕ) (old new : GroupHeld) → old.key ≡ key_of e → lower ≡ lower_of e.index →
    new.key ≡ old.key → IsPermutation (lower ∷ old.lowers) new.lowers → IsPermutation (e ∷ entries_in old) (entries_in new)
entries-pushed e lower old new key low same pushed =
    let one : entry_in old.key lower ≡ e =
    ap (λ k. entry_in k lower) key ∙ ap (λ l. entry_in (key_of e) l) low ∙ entry_in-key_of e in
    subst (λ x. IsPermutation (x ∷ entries_in old) (entries_in new)) one
    (subst (λ k. IsPermutation (entry_in old.key lower ∷ entries_in old) (map (entry_in k) new.lowers)) (sym same)
    (IsPermutation-map (entry_in old.key) (lower ∷ old.lowers) new.lowers pushed))

pub entries-same : (old new : GroupHeld) → new.key ≡ old.key → new.lowers ≡ old.lowers → entries_in new ≡ entries_in old
entries-same old new key lowers =
    ap (λ k. map (entry_in k) new.lowers) key ∙ ap (λ l. map (entry_in old.key) l) lowers

pub grouped-same : (gs : List GroupHeld) (n : ℕ) (old new : GroupHeld) → old ≡ get_or gs n old →
    entries_in new ≡ entries_in old → grouped (set gs n new) ≡ grouped gs
grouped-same [] n old new is same = refl
grouped-same (g ∷ gs) zero old new is same = ap (λ v. v ++ grouped gs) (same ∙ ap entries_in is)
grouped-same (g ∷ gs) (suc n) old new is same = ap (λ v. entries_in g ++ v) (grouped-same gs n old new is same)

-- groups after the insertion of one, which may have failed
pub AreGroups-inserted : (b : Bool) (gs after : List GroupHeld) (n : ℕ) (key : GroupKey) (lower : ℕ) (g : GroupHeld) →
    after ≡ cond b (insert gs n g) gs → g.key ≡ key → g.lowers ≡ lower ∷ [] → IsBelow key (take n gs) →
    IsAbove key (drop n gs) → AreGroups gs → AreGroups after
AreGroups-inserted true gs after n key lower g is same one below above are =
    subst AreGroups (sym is)
    (AreGroups-insert gs n g (subst (λ v. 0 < length v) (sym one) (omega arith))
    (subst (λ k. IsBelow k (take n gs)) (sym same) below) (subst (λ k. IsAbove k (drop n gs)) (sym same) above) are)
AreGroups-inserted false gs after n key lower g is same one below above are = subst AreGroups (sym is) are

pub grouped-inserted : (b : Bool) (gs after : List GroupHeld) (n : ℕ) (key : GroupKey) (lower : ℕ) (g : GroupHeld) →
    after ≡ cond b (insert gs n g) gs → g.key ≡ key → g.lowers ≡ lower ∷ [] → b ≡ true →
    IsPermutation (entry_in key lower ∷ grouped gs) (grouped after)
grouped-inserted b gs after n key lower g is same one pushed =
    let entry : entries_in g ≡ entry_in key lower ∷ [] =
    ap (λ k. map (entry_in k) g.lowers) same ∙ ap (λ l. map (entry_in key) l) one in
    subst (λ v. IsPermutation (entry_in key lower ∷ grouped gs) (grouped v))
    (sym (is ∙ ap (λ v. cond v (insert gs n g) gs) pushed)) (grouped-insert (entry_in key lower) gs n g entry)

-- groups without the last one
pub AreGroups-removed : (gs after : List GroupHeld) (n m : ℕ) (new : GroupHeld) → m ≡ n → after ≡ take m (set gs n new) →
    AreGroups gs → AreGroups after
AreGroups-removed gs after n m new same is are =
    subst AreGroups (sym (is ∙ ap (λ k. take k (set gs n new)) same ∙ take-set gs n new)) (AreGroups-take n gs are)

pub grouped-removed : (gs after : List GroupHeld) (n m : ℕ) (new : GroupHeld) → n + 1 ≡ length gs → m ≡ n →
    after ≡ take m (set gs n new) → new.lowers ≡ [] → grouped (set gs n new) ≡ grouped after
grouped-removed gs after n m new at same is empty =
    grouped-empty_last gs n new at empty
    ∙ ap grouped (sym (is ∙ ap (λ k. take k (set gs n new)) same ∙ take-set gs n new))

pub lowers_of_last : (gs : List GroupHeld) (n m : ℕ) (new g : GroupHeld) → n < length gs → m ≡ n → new.lowers ≡ [] →
    (get_or (set gs n new) m g).lowers ≡ []
lowers_of_last gs n m new g inside same empty =
    ap (λ k. (get_or (set gs n new) k g).lowers) same ∙ ap (λ h. h.lowers) (get_or-set_same gs n new g inside) ∙ empty
