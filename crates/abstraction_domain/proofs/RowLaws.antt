-- Rows on strictly increasing variables: their numbers of classes, and the class at a place.
use Rattle.std.proofs.Common.{◌≡◌, ℕ, zero, suc, ◌+◌, ◌*◌, ◌/◌, ◌^◌, ◌<◌, ◌≤◌, true, false, List, [], ◌∷◌, ◌++◌, length, take, drop, get_or, Some, None, refl, ap, sym, ◌∙◌, arith, eqb, ne_eqb, eq-eqb, append_assoc, ◌-◌, ⊎_elim}
use Rattle.std.specs.Prelude.{slice_index, All}
use Rattle.std.specs.List.Sorted.{IsStrictlyIncreasing}
use Rattle.std.proofs.lemmas.List.{length-map, get_or-map, get_or_default, at_drop_more}
use Rattle.std.proofs.lemmas.List.Elements.{All-map, All-head, All-tail}
use Rattle.std.proofs.lemmas.Bool.{cases_eq}
use Rattle.std.proofs.lemmas.Nat.{mul-le}
use Rattle.std.proofs.Math.Nat.{div-mul-le_self}
use Rattle.fdr.specs.Tasks.{FiniteDomainTask, ranges, IsTask, IsState}
use Rattle.abstraction.specs.declared.digit.Digit.{Digit}
use Rattle.fdr.specs.declared.fact.Fact.{Fact}
use Rattle.abstraction.specs.Digits.{digits_from, digit_of, value_of, with_value, with_fact, IsDigitBelow}
use Rattle.abstraction.specs.Projections.{size_of, index_of, weighted_sum, agrees}
use Rattle.abstraction.specs.ProjectionLaws.{weighted_index as projected_index}
use Rattle.abstraction.proofs.DigitLaws.{Rising, rising_from, agrees_by_digit}
use Rattle.abstraction.proofs.PatternLaws.{length-digits_from, found_is, found_range, found_below, index_step, index_fits}
use Rattle.abstraction_domain.specs.Rows.{Row, class_count}
use Rattle.abstraction_domain.specs.Domains.{variables, class_of, class_counts, class_state, weighted_classes, IsFit}
use Rattle.abstraction_domain.specs.DomainLaws.{count_of, read_counts, read_state, class_within, class_is_state, variables_exist}

-- the variable of a row at a place is above that of the first row
later_variable : (r : Row) (rs : List Row) (k : ℕ) (d : Row) → Rising (variables (r ∷ rs)) → k < length rs → eqb r.variable (get_or rs k d).variable ≡ false
later_variable r rs k d rising l =
    let long : k < length (variables rs) = rw length-map l in
    let at : get_or (variables rs) k 0 ≡ (get_or rs k d).variable = get_or-map (λ (x : Row). x.variable) rs k d 0 l in
    let above : r.variable < get_or (variables rs) k 0 = rising.0 k 0 long in
    ne_eqb r.variable (get_or rs k d).variable (λ e. omega (arith, at, above, e))

class_at : (rows : List Row) (k x : ℕ) (d : Row) → Rising (variables rows) → k < length rows → class_of rows (get_or rows k d).variable x ≡ slice_index (get_or rows k d).classes x
class_at [] k x d rising l = absurd (omega arith)
class_at (r ∷ rs) zero x d rising l = rw (eq-eqb r.variable r.variable refl) refl
class_at (r ∷ rs) (suc k) x d rising l =
    let less : k < length rs = omega arith in rw (later_variable r rs k d rising less) (class_at rs k x d rising.1 less)

count_at : (rows : List Row) (k n : ℕ) (d : Row) → Rising (variables rows) → k < length rows → count_of rows (get_or rows k d).variable n ≡ class_count (get_or rows k d).classes
count_at [] k n d rising l = absurd (omega arith)
count_at (r ∷ rs) zero n d rising l = rw (eq-eqb r.variable r.variable refl) refl
count_at (r ∷ rs) (suc k) n d rising l =
    let less : k < length rs = omega arith in rw (later_variable r rs k d rising less) (count_at rs k n d rising.1 less)

-- each variable of a row has a class
pub counts_positive : (task : FiniteDomainTask) (rows : List Row) → IsTask task → All (IsFit (ranges task)) rows → All (λ p. 0 < slice_index (class_counts rows (ranges task)) p) (variables rows)
counts_positive task rows well fit =
    All-map (λ p. 0 < slice_index (class_counts rows (ranges task)) p) (λ (r : Row). r.variable) rows
    (λ k d l.
    let v : ℕ = (get_or rows k d).variable in
    let exists : v < length (ranges task) = (fit k d l).exists in
    omega (arith, class_within (ranges task) rows v (slice_index task.initial v) fit (well.initial.in_range v exists)))

module _ (ranges : List ℕ) (rows : List Row) (fit : All (IsFit ranges) rows) (increasing : IsStrictlyIncreasing (variables rows)) (k : ℕ) (l : k < length rows) (r : Row) (is : r ≡ get_or rows k r) where
  -- the row at the place tells the number of classes of its variable
  pub row_count : slice_index (class_counts rows ranges) r.variable ≡ class_count r.classes
  row_count =
      let found = rw (← is) at (count_at rows k (slice_index ranges r.variable) r (rising_from (variables rows) increasing) l) in
      rw (read_counts ranges rows r.variable fit) found

  pub row_variable : get_or (variables rows) k 0 ≡ r.variable
  row_variable = rw is (get_or-map (λ (x : Row). x.variable) rows k r 0 l)

  pub row_class : (x : ℕ) → class_of rows r.variable x ≡ slice_index r.classes x
  row_class x = rw (← is) at (class_at rows k x r (rising_from (variables rows) increasing) l)

  pub row_fits : IsFit ranges r
  row_fits = rw is (fit k r l)

  -- the class of the variable's value in a state
  pub row_state : (s : List ℕ) → IsState ranges s → slice_index (class_state rows s) r.variable ≡ slice_index r.classes (slice_index s r.variable)
  row_state s state = rw (read_state ranges rows s r.variable state.as_long fit) (row_class (slice_index s r.variable))

-- the row and the digit at the place at which a variable stands
module _ (task : FiniteDomainTask) (well : IsTask task) (rows : List Row) (fit : All (IsFit (ranges task)) rows) (increasing : IsStrictlyIncreasing (variables rows))
    (vs : List ℕ) (vs_are : vs ≡ variables rows) (ds : List Digit) (ds_are : ds ≡ digits_from (class_counts rows (ranges task)) 1 (variables rows))
    (k v : ℕ) (found : (k < length vs) × (slice_index vs k ≡ v)) where
  within : k < length (variables rows)
  within = rw (← vs_are) found.0

  stands : slice_index (variables rows) k ≡ v
  stands = rw (← vs_are) found.1

  pub row_within : k < length rows
  row_within = let long : length (variables rows) ≡ length rows = length-map rows (λ (r : Row). r.variable) in omega (arith, long, within)

  pub digit_within : k < length ds
  digit_within = let long : length ds ≡ length (variables rows) = rw ds_are (length-digits_from (class_counts rows (ranges task)) (variables rows) 1) in omega (arith, long, within)

  module _ (d : Digit) (d_is : d ≡ get_or ds k d) where
    pub placed_digit : Some d ≡ digit_of (class_counts rows (ranges task)) (variables rows) v
    placed_digit = found_is (class_counts rows (ranges task)) (variables rows) ds ds_are increasing k v within stands d d_is

    placed_range : d.range ≡ slice_index (class_counts rows (ranges task)) v
    placed_range = found_range (class_counts rows (ranges task)) (variables rows) ds ds_are increasing k v within stands d d_is

    pub placed_below : size_of (class_counts rows (ranges task)) (variables rows) ≤ 2 ^ 24 → IsDigitBelow (2 ^ 24) d
    placed_below small =
        found_below (class_counts rows (ranges task)) (variables rows) ds ds_are increasing k v within stands d d_is (counts_positive task rows well fit) small

  module _ (r : Row) (r_is : r ≡ get_or rows k r) where
    same_variable : r.variable ≡ v
    same_variable = sym (row_variable (ranges task) rows fit increasing k row_within r r_is) ∙ stands

    pub placed_class : (x : ℕ) → slice_index r.classes x ≡ class_of rows v x
    placed_class x = rw (← same_variable) (sym (row_class (ranges task) rows fit increasing k row_within r r_is x))

    pub placed_fits : (x : ℕ) → x < slice_index (ranges task) v → x < length r.classes
    placed_fits x l = let long : length r.classes ≡ slice_index (ranges task) v = rw (← same_variable) (row_fits (ranges task) rows fit increasing k row_within r r_is).as_long in omega (arith, long, l)

    pub placed_within : (d : Digit) → d ≡ get_or ds k d → (x : ℕ) → x < slice_index (ranges task) v → slice_index r.classes x < d.range
    placed_within d d_is x l = rw (placed_class x, placed_range d d_is) (class_within (ranges task) rows v x fit l)

-- the class of a row at a place adds to the index what a projection's value does
module _ (task : FiniteDomainTask) (well : IsTask task) (rows : List Row) (fit : All (IsFit (ranges task)) rows) (increasing : IsStrictlyIncreasing (variables rows))
    (ds : List Digit) (ds_are : ds ≡ digits_from (class_counts rows (ranges task)) 1 (variables rows)) (k : ℕ) (l : k < length rows)
    (r : Row) (r_is : r ≡ get_or rows k r) (d : Digit) (d_is : d ≡ get_or ds k d) (s : List ℕ) (state : IsState (ranges task) s)
    (x : ℕ) (x_is : x ≡ slice_index r.classes (slice_index s r.variable)) where
  among : k < length (variables rows)
  among = rw length-map l

  here : r.variable ≡ get_or (variables rows) k r.variable
  here = sym (get_or-map (λ (y : Row). y.variable) rows k r r.variable l ∙ ap (λ (y : Row). y.variable) (sym r_is))

  -- what the class adds, that the index stays below the number of abstract states so far, and that this is small
  pub class_more : size_of (class_counts rows (ranges task)) (variables rows) ≤ 2 ^ 24
      → (index_of (class_counts rows (ranges task)) (take (k + 1) (variables rows)) (class_state rows s)
      ≡ index_of (class_counts rows (ranges task)) (take k (variables rows)) (class_state rows s) + x * d.weight)
      × (index_of (class_counts rows (ranges task)) (take (k + 1) (variables rows)) (class_state rows s) < size_of (class_counts rows (ranges task)) (take (k + 1) (variables rows)))
      × (size_of (class_counts rows (ranges task)) (take (k + 1) (variables rows)) ≤ 2 ^ 24)
  class_more small =
      let seen : slice_index (class_state rows s) r.variable ≡ x = row_state (ranges task) rows fit increasing k l r r_is s state ∙ sym x_is in
      let fits =
      index_fits (class_counts rows (ranges task)) (variables rows) ds ds_are k among d d_is (class_state rows s) r.variable here
      (class_is_state (ranges task) rows fit s state) (variables_exist task rows well fit) (counts_positive task rows well fit) small in (
        rw (← seen) (index_step (class_counts rows (ranges task)) (variables rows) ds ds_are k among d d_is (class_state rows s) r.variable here),
        fits.0,
        fits.1,
      )

-- the variable of the row at a place
pub variable_at : (rows : List Row) (k : ℕ) (r : Row) → k < length rows → r ≡ get_or rows k r → slice_index (variables rows) k ≡ r.variable
variable_at rows k r l is = get_or-map (λ (y : Row). y.variable) rows k r 0 l ∙ ap (λ (y : Row). y.variable) (sym is)

module _ (rows : List Row) (k : ℕ) (a b : Row) (some : 1 ≤ k) (l : k < length rows) (a_is : a ≡ get_or rows (k - 1) a) (b_is : b ≡ get_or rows k b) where
  before : slice_index (variables rows) (k - 1) ≡ a.variable
  before = variable_at rows (k - 1) a (omega arith) a_is

  after : slice_index (variables rows) k ≡ b.variable
  after = variable_at rows k b l b_is

  same_place : k - 1 + 1 ≡ k
  same_place = omega arith

  -- variables that do not increase at a place
  pub not_increasing : b.variable ≤ a.variable → IsStrictlyIncreasing (variables rows) → ⊥
  not_increasing h increasing =
      let long : length (variables rows) ≡ length rows = length-map rows (λ (y : Row). y.variable) in
      let step : slice_index (variables rows) (k - 1) < slice_index (variables rows) k = rw same_place at (increasing (k - 1) (omega arith)) in
      omega (arith, step, before, after, h)

  pub increasing_more : a.variable < b.variable → ((j : ℕ) → j + 1 < k → slice_index (variables rows) j < slice_index (variables rows) (j + 1))
      → (j : ℕ) → j + 1 < k + 1 → slice_index (variables rows) j < slice_index (variables rows) (j + 1)
  increasing_more h so_far j m =
      ⊎_elim (λ (e : j ≡ k - 1). rw (e, same_place) (omega (arith, before, after, h))) (λ (n : j ≡ k - 1 → ⊥). so_far j (omega arith)) (cases_eq j (k - 1))

-- the number of classes of the row at a place, as a range of the variable at that place
pub range_at : (task : FiniteDomainTask) (rows : List Row) → All (IsFit (ranges task)) rows → IsStrictlyIncreasing (variables rows) → (k : ℕ) → k < length rows → (r : Row) → r ≡ get_or rows k r
    → (n : ℕ) → n ≡ class_count r.classes → slice_index (class_counts rows (ranges task)) (get_or (variables rows) k 0) ≡ n
range_at task rows fit increasing k l r is n e = rw (variable_at rows k r l is, row_count (ranges task) rows fit increasing k l r is) (sym e)

pub range_positive : (task : FiniteDomainTask) (rows : List Row) → IsTask task → All (IsFit (ranges task)) rows → (k n : ℕ) → k < length rows
    → slice_index (class_counts rows (ranges task)) (get_or (variables rows) k 0) ≡ n → 0 < n
range_positive task rows well fit k n l e =
    let among : k < length (variables rows) = rw length-map l in omega (arith, e, counts_positive task rows well fit k 0 among)

pub product_positive : (m n : ℕ) → 0 < m → 0 < n → 0 < m * n
product_positive m n l k = omega (arith, mul-le 1 1 m n l k)

pub product_within : (most m n : ℕ) → n ≤ most / m → m * n ≤ most
product_within most m n h = omega (arith, mul-le m n m (most / m) (omega arith) h, div-mul-le_self most m)

-- one more digit
pub digits_step : (counts vs : List ℕ) (done whole : List Digit) (size range k : ℕ) → k < length vs → slice_index counts (get_or vs k 0) ≡ range
    → done ++ digits_from counts size (drop k vs) ≡ whole
    → (done ++ record { weight = size; range = range } ∷ []) ++ digits_from counts (size * range) (drop (k + 1) vs) ≡ whole
digits_step counts vs done whole size range k l is so_far =
    let split : digits_from counts size (drop k vs) ≡ record { weight = size; range = range } ∷ digits_from counts (size * range) (drop (k + 1) vs) =
    rw (← is) (at_drop_more (digits_from counts size) vs k 0 l) in
    rw append_assoc (rw split at so_far)

pub size_step : (counts vs : List ℕ) (whole size range k : ℕ) → k < length vs → slice_index counts (get_or vs k 0) ≡ range
    → size * size_of counts (drop k vs) ≡ whole → size * range * size_of counts (drop (k + 1) vs) ≡ whole
size_step counts vs whole size range k l is so_far =
    let split : size_of counts (drop k vs) ≡ range * size_of counts (drop (k + 1) vs) = rw (← is) (at_drop_more (size_of counts) vs k 0 l) in
    let product : size * (range * size_of counts (drop (k + 1) vs)) ≡ whole = rw split at so_far in
    omega (arith, product)

-- a fact agrees where its value is the one at the variable's digit, or the variable has no digit
pub agrees_at_digit : (counts vs : List ℕ) (i : ℕ) (f : Fact) (d : Digit) → Some d ≡ digit_of counts vs f.variable → eqb (value_of d i) f.value ≡ agrees counts vs i f
agrees_at_digit counts vs i f d e = rw (agrees_by_digit counts vs i f, ← e) refl

pub agrees_at_none : (counts vs : List ℕ) (i : ℕ) (f : Fact) → None ≡ digit_of counts vs f.variable → true ≡ agrees counts vs i f
agrees_at_none counts vs i f e = rw (agrees_by_digit counts vs i f, ← e) refl

-- what the value of a fact makes of an abstract state, by the variable's digit
pub with_fact_at_digit : (counts vs : List ℕ) (i : ℕ) (f : Fact) (d : Digit) → Some d ≡ digit_of counts vs f.variable → with_value d i f.value ≡ with_fact counts vs i f
with_fact_at_digit counts vs i f d e = rw (← e) refl

-- a row tells the number of classes of its variable and its class in the state
record TellsAt (counts classes s : List ℕ) (r : Row) : Type 0 where
  count : slice_index counts r.variable ≡ class_count r.classes
  class : slice_index classes r.variable ≡ slice_index r.classes (slice_index s r.variable)

weighted_by_rows : (counts classes s : List ℕ) (rows : List Row) (w : ℕ) → All (TellsAt counts classes s) rows → weighted_sum counts (variables rows) classes w ≡ weighted_classes rows s w
weighted_by_rows counts classes s [] w tells = refl
weighted_by_rows counts classes s (r ∷ rs) w tells =
    let here = All-head (TellsAt counts classes s) r rs tells in
    rw (here.count, here.class, weighted_by_rows counts classes s rs (w * class_count r.classes) (All-tail (TellsAt counts classes s) r rs tells)) refl

-- the index of a state is the sum of its classes times their weights
pub weighted_index : (task : FiniteDomainTask) (rows : List Row) (s : List ℕ) → All (IsFit (ranges task)) rows → IsStrictlyIncreasing (variables rows) → IsState (ranges task) s
    → index_of (class_counts rows (ranges task)) (variables rows) (class_state rows s) ≡ weighted_classes rows s 1
weighted_index task rows s fit increasing state =
    sym (projected_index (class_counts rows (ranges task)) (variables rows) (class_state rows s))
    ∙ weighted_by_rows (class_counts rows (ranges task)) (class_state rows s) s rows 1 tells
  where
    tells : All (TellsAt (class_counts rows (ranges task)) (class_state rows s) s) rows
    tells = λ k d l.
        let r : Row = get_or rows k d in
        let is : get_or rows k d ≡ get_or rows k (get_or rows k d) = get_or_default rows k d (get_or rows k d) l in
        record {
          count = row_count (ranges task) rows fit increasing k l r is;
          class = row_state (ranges task) rows fit increasing k l r is s state;
        }

-- a variable without a row keeps its values
pub class_of_others : (rows : List Row) (v x : ℕ) → All (λ p. p ≡ v → ⊥) (variables rows) → class_of rows v x ≡ x
class_of_others [] v x absent = refl
class_of_others (r ∷ rs) v x absent =
    rw (ne_eqb r.variable v (All-head (λ p. p ≡ v → ⊥) r.variable (variables rs) absent)) (class_of_others rs v x (All-tail (λ p. p ≡ v → ⊥) r.variable (variables rs) absent))
