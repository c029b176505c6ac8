-- States that lie one behind the other in one list of values.
use Rattle.std.proofs.Common.{◌≡◌, ℕ, zero, suc, ◌+◌, ◌*◌, ◌-◌, ◌<◌, ◌≤◌, List, [], ◌∷◌, ◌++◌, length, take, drop, Some, refl, sym, ap, ◌∙◌, arith}
use Rattle.std.specs.List.{AllByRecursion}
use Rattle.std.specs.Prelude.{option_map, slice_get, Option, None, nat_eq, false, All, IsSomeAnd}
use Rattle.std.proofs.lemmas.List.Elements.{All-nil, All-cons}
use Rattle.std.proofs.lemmas.Option.{slice_get_within}
use Rattle.std.specs.Option.{option_map_or}
use Rattle.std.specs.Cmp.Lexicographic.{pointwise, unequal}
use Rattle.std.proofs.Math.Nat.{suc-mul, zero-mul, mul-le-mul_right}
use Rattle.std.proofs.lemmas.List.{take_all, take-append-le, drop-append-le, length-take-le, length-drop, length-append, drop-drop, nil_from_length}
use Rattle.cert_value.specs.Certificates.{Entry}
use Rattle.cert_value.specs.Kept.{entries}
use Rattle.cert_value.specs.Certificates.{width_of}

first_fits : (width k len : ℕ) → len ≡ suc k * width → (width ≤ len) × (len - width ≡ k * width)
first_fits width k len e = let h = suc-mul k width in (omega arith, omega arith)

-- the width of the first state
pub width_is : (width : ℕ) (costs values : List ℕ) → 0 < length costs → length values ≡ length costs * width → width_of (entries width costs values) ≡ Some width
width_is width [] values some e = absurd (omega arith)
width_is width (c ∷ cs) values some e = ap Some (length-take-le width values (first_fits width (length cs) (length values) e).0)

-- states that are all as wide as this are so kept
pub as_wide : (width n : ℕ) (costs values : List ℕ) → length values ≡ length costs * width → AllByRecursion (λ (e : Entry). length e.state ≡ n) (entries width costs values)
    → (length values ≡ length costs * n) × (entries width costs values ≡ entries n costs values)
as_wide width n [] values e all = (e ∙ zero-mul width ∙ sym (zero-mul n), refl)
as_wide width n (c ∷ cs) values e all =
    let same : width ≡ n = sym (length-take-le width values (first_fits width (length cs) (length values) e).0) ∙ all.0 in
    (e ∙ ap (λ (w : ℕ). suc (length cs) * w) same, ap (λ (w : ℕ). entries w (c ∷ cs) values) same)

-- one more state
pub entries_push : (n : ℕ) (costs values state : List ℕ) (cost : ℕ) → length values ≡ length costs * n → length state ≡ n
    → entries n (costs ++ cost ∷ []) (values ++ state) ≡ entries n costs values ++ record { cost = cost; state = state } ∷ []
entries_push n [] values state cost e wide =
    let none : values ≡ [] = nil_from_length values (e ∙ zero-mul n) in
    ap (λ (vs : List ℕ). record { cost = cost; state = take n (vs ++ state) } ∷ []) none ∙ ap (λ (vs : List ℕ). record { cost = cost; state = vs } ∷ []) (take_all n state (omega arith))
entries_push n (c ∷ cs) values state cost e wide =
    let fits = first_fits n (length cs) (length values) e in
    let rest : length (drop n values) ≡ length cs * n = length-drop n values ∙ fits.1 in
    ap (λ (vs : List ℕ). record { cost = c; state = vs } ∷ entries n (cs ++ cost ∷ []) (drop n (values ++ state))) (take-append-le n values state fits.0)
    ∙ ap (λ (vs : List ℕ). record { cost = c; state = take n values } ∷ entries n (cs ++ cost ∷ []) vs) (drop-append-le n values state fits.0)
    ∙ ap (λ (es : List Entry). record { cost = c; state = take n values } ∷ es) (entries_push n cs (drop n values) state cost rest wide)

-- and as many values as states of that width
pub length_push : (n : ℕ) (costs values state : List ℕ) (cost : ℕ) → length values ≡ length costs * n → length state ≡ n → length (values ++ state) ≡ length (costs ++ cost ∷ []) * n
length_push n costs values state cost e wide =
    let k : length (costs ++ cost ∷ []) ≡ suc (length costs) = length-append costs (cost ∷ []) ∙ omega arith in
    length-append values state ∙ (let h = suc-mul (length costs) n in omega arith) ∙ ap (λ (m : ℕ). m * n) (sym k)

pub length_entries : (width : ℕ) (costs values : List ℕ) → length (entries width costs values) ≡ length costs
length_entries width [] values = refl
length_entries width (c ∷ cs) values = ap suc (length_entries width cs (drop width values))

pub cost_at : (width : ℕ) (costs values : List ℕ) (i : ℕ) → option_map (λ (e : Entry). e.cost) (slice_get (entries width costs values) i) ≡ slice_get costs i
cost_at width [] values i = refl
cost_at width (c ∷ cs) values zero = refl
cost_at width (c ∷ cs) values (suc i) = cost_at width cs (drop width values) i

-- a state lies within the values
pub state_within : (width k len i : ℕ) → len ≡ k * width → i < k → i * width + width ≤ len
state_within width k len i e lt =
    let a = suc-mul i width in
    let b : suc i * width ≤ k * width = mul-le-mul_right width lt in
    omega arith

pub state_at : (width : ℕ) (costs values : List ℕ) (i : ℕ) → i < length costs → option_map (λ (e : Entry). e.state) (slice_get (entries width costs values) i) ≡ Some (take width (drop (i * width) values))
state_at width [] values i lt = absurd (omega arith)
state_at width (c ∷ cs) values zero lt = ap (λ (k : ℕ). Some (take width (drop k values))) (sym (zero-mul width))
state_at width (c ∷ cs) values (suc i) lt =
    let more : width + i * width ≡ suc i * width = (let a = suc-mul i width in omega arith) in
    state_at width cs (drop width values) i (omega arith) ∙ ap (λ (vs : List ℕ). Some (take width vs)) (drop-drop (i * width) width values ∙ ap (λ (k : ℕ). drop k values) more)

-- a state is as wide as the list
state_wide : (width : ℕ) (costs values : List ℕ) (i : ℕ) → length values ≡ length costs * width → i < length costs → length (take width (drop (i * width) values)) ≡ width
state_wide width costs values i e lt =
    let w = state_within width (length costs) (length values) i e lt in
    length-take-le width (drop (i * width) values) (omega (arith, length-drop (i * width) values))

-- a state that is there has the width of the list
pub wide_given : (width n : ℕ) (costs values : List ℕ) (i : ℕ) → length values ≡ length costs * width → IsSomeAnd (slice_get (entries width costs values) i) (λ (x : Entry). length x.state ≡ n) → (i < length costs) × (width ≡ n)
wide_given width n costs values i e h = go (slice_get (entries width costs values) i) refl h
  where
    go : (r : Option Entry) → slice_get (entries width costs values) i ≡ r → IsSomeAnd r (λ (x : Entry). length x.state ≡ n) → (i < length costs) × (width ≡ n)
    go None is k = absurd k
    go (Some x) is k =
        let within : i < length costs = omega (arith, slice_get_within (entries width costs values) i x is, length_entries width costs values) in
        let at : option_map (λ (y : Entry). y.state) (Some x) ≡ Some (take width (drop (i * width) values)) = rw is at (state_at width costs values i within) in
        let same : x.state ≡ take width (drop (i * width) values) = cc at in
        (within, sym (state_wide width costs values i e within) ∙ ap (λ (xs : List ℕ). length xs) (sym same) ∙ k)

-- each state has the width of the list
pub all_wide : (width : ℕ) (costs values : List ℕ) → length values ≡ length costs * width → All (λ (x : Entry). length x.state ≡ width) (entries width costs values)
all_wide width [] values e = All-nil (λ (x : Entry). length x.state ≡ width)
all_wide width (c ∷ cs) values e =
    let fits = first_fits width (length cs) (length values) e in
    All-cons (λ (x : Entry). length x.state ≡ width) (record { cost = c; state = take width values }) (entries width cs (drop width values))
    (length-take-le width values fits.0) (all_wide width cs (drop width values) (length-drop width values ∙ fits.1))

-- whether a state is this one
pub has_at : (width : ℕ) (costs values : List ℕ) (i : ℕ) → i < length costs → (state : List ℕ) → width ≡ length state
    → option_map_or (λ (x : Entry). pointwise nat_eq x.state state) (slice_get (entries width costs values) i) false ≡ pointwise nat_eq (take (length state) (drop (i * length state) values)) state
has_at width costs values i lt state wide = go (slice_get (entries width costs values) i) (state_at width costs values i lt)
  where
    go : (r : Option Entry) → option_map (λ (e : Entry). e.state) r ≡ Some (take width (drop (i * width) values))
        → option_map_or (λ (x : Entry). pointwise nat_eq x.state state) r false ≡ pointwise nat_eq (take (length state) (drop (i * length state) values)) state
    go None h = cc h
    go (Some x) h = let same : x.state ≡ take width (drop (i * width) values) = cc h in rw (same, wide) refl

-- a state of another width is not
pub has_not_at : (width : ℕ) (costs values : List ℕ) (i : ℕ) → length values ≡ length costs * width → i < length costs → (state : List ℕ) → (width ≡ length state → ⊥)
    → option_map_or (λ (x : Entry). pointwise nat_eq x.state state) (slice_get (entries width costs values) i) false ≡ false
has_not_at width costs values i e lt state other = go (slice_get (entries width costs values) i) (state_at width costs values i lt)
  where
    go : (r : Option Entry) → option_map (λ (x : Entry). x.state) r ≡ Some (take width (drop (i * width) values))
        → option_map_or (λ (x : Entry). pointwise nat_eq x.state state) r false ≡ false
    go None h = cc h
    go (Some x) h =
        let same : x.state ≡ take width (drop (i * width) values) = cc h in
        unequal nat_eq x.state state (λ l. other (sym (state_wide width costs values i e lt) ∙ ap (λ (xs : List ℕ). length xs) (sym same) ∙ l))
