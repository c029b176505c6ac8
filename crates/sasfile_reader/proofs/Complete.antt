-- What is spelled is read.
use Rattle.std.proofs.Common.{◌≡◌, ℕ, suc, ◌+◌, ◌-◌, ◌<◌, ◌≤◌, ◌^◌, Bool, true, false, ◌&&◌, eqb, ltb, List, [], ◌∷◌, ◌++◌, length, get_or, refl, sym, ap, subst, ◌∙◌, arith, append_assoc, Some}
use Rattle.std.specs.Prelude.{Result, Ok, codes, not}
use Rattle.std.specs.List.{AllByRecursion}
use Rattle.std.specs.Str.{bytes_eq}
use Rattle.std.proofs.lemmas.Bool.{lt-ltb, le-ltb, ne_eqb, eq-eqb}
use Rattle.std.proofs.lemmas.List.{append-nil, length-append}
use Rattle.fdr.specs.declared.fact.Fact.{Fact}
use Rattle.fdr.specs.Tasks.{IsInRange, names_variable, are_distinct}
use Rattle.sasfile_reader.specs.declared.fault.SasFault.{SasFault}
use Rattle.sasfile_reader.specs.declared.number.Number.{Number}
use Rattle.sasfile_reader.specs.declared.number.Number.TheVariants.{Natural, Negative}
use Rattle.sasfile_reader.specs.SasTexts.{SpellsNumbers, SpellsCount, IsText, SpellsFact, SpellsEach, SpellsParts, SpellsLines, SpellsList, SpellsVersion, SpellsMetric, flag_number, SpellsVariable, SpellsGroup, SpellsValues, SpellsState, SpellsGoal}
use Rattle.sasfile_reader.specs.Reading.{Remaining, flag, line_at, keyword_at, text_at, number_at, count_at, repeated, version_at, metric_at, layer_at, range_at, text_step, variable_at, variable_step, variables_at, is_in_range, fact_of, fact_at, fact_step, facts_at, skip_step, group_step, groups_at, value_step, values_at, state_at, goal_at}
use Rattle.sasfile_reader.proofs.Numbers.{IsKept, alone_again, pair_again}
use Rattle.sasfile_reader.proofs.Assignments.{and_left, and_right, or_left_false, or_right_false}
use Rattle.sasfile_reader.proofs.Sound.{pushed, pushed_list}
use Rattle.sasfile_reader.proofs.SoundBody.{AreSmall}

-- a place in a text
abbrev pub place : ℕ → List (List ℕ) → Remaining
place n ls = record { number = n; lines = ls }

-- ---- one line

same_bytes : (a : List ℕ) → bytes_eq a a ≡ true
same_bytes [] = refl
same_bytes (x ∷ xs) = let e : eqb x x ≡ true = eq-eqb x x refl in rw (e, same_bytes xs) refl

pub keyword_reads : (w : List ℕ) (n : ℕ) (rest : List (List ℕ)) → keyword_at w (place n (w ∷ rest)) ≡ Ok (place (n + 1) rest)
unfolding keyword_at line_at
keyword_reads w n rest = rw (same_bytes w) refl

pub text_reads : (t : List ℕ) → IsText t → (n : ℕ) (rest : List (List ℕ)) → text_at (place n (t ∷ rest)) ≡ Ok (t, place (n + 1) rest)
unfolding text_at line_at
text_reads t is n rest = rw is refl

pub number_reads : (line : List ℕ) (k : Number) → SpellsNumbers line (k ∷ []) → IsKept k → (n : ℕ) (rest : List (List ℕ)) → number_at (place n (line ∷ rest)) ≡ Ok (k, place (n + 1) rest)
unfolding number_at line_at
number_reads line k is kept n rest = rw (alone_again line k is kept) refl

pub count_reads : (line : List ℕ) (k : ℕ) → SpellsCount line k → k < 2 ^ 64 - 1 → (n : ℕ) (rest : List (List ℕ)) → count_at (place n (line ∷ rest)) ≡ Ok (k, place (n + 1) rest)
unfolding count_at
count_reads line k is kept n rest = rw (number_reads line (Natural k) is kept n rest) refl

-- ---- several lines

-- the lines are read so, whatever follows them
abbrev pub Reads : {X : Type 0} → (Remaining → Result (X × Remaining) SasFault) → List (List ℕ) → X → Type 0
Reads {X} p ls x = (n : ℕ) (rest : List (List ℕ)) → (m : ℕ) × (p (place n (ls ++ rest)) ≡ Ok (x, place m rest))

-- each item may come where it comes
abbrev pub Along : {S X : Type 0} → (S → X → Type 0) → (S → X → S) → S → List X → Type 0
Along H push s [] = Unit {0}
Along H push s (x ∷ xs) = H s x × Along H push (push s x) xs

pub each_reads : {S X : Type 0} (P : List ℕ → X → Type 0) (H : S → X → Type 0) (push : S → X → S) (step : S → Remaining → Result (S × Remaining) SasFault)
    → ((s : S) (x : X) (line : List ℕ) → P line x → H s x → (n : ℕ) (rest : List (List ℕ)) → step s (place n (line ∷ rest)) ≡ Ok (push s x, place (n + 1) rest))
    → (s : S) (xs : List X) (ls : List (List ℕ)) → SpellsEach P ls xs → Along H push s xs → Reads (repeated step (length xs) s) ls (pushed push s xs)
unfolding repeated
each_reads P H push step one s [] [] h a n rest = (n, refl)
each_reads P H push step one s [] (l ∷ ls) h a n rest = absurd h
each_reads P H push step one s (x ∷ xs) [] h a n rest = absurd h
each_reads P H push step one s (x ∷ xs) (l ∷ ls) h a n rest =
    let more = each_reads P H push step one (push s x) xs ls h.1 a.1 (n + 1) rest in
    (more.0, rw (one s x l h.0 a.0 n (ls ++ rest)) more.1)

pub parts_read : {S X : Type 0} (P : List (List ℕ) → X → Type 0) (push : S → X → S) (step : S → Remaining → Result (S × Remaining) SasFault)
    → ((s : S) (x : X) (part : List (List ℕ)) → length part < 2 ^ 64 - 1 → P part x → Reads (step s) part (push s x))
    → (s : S) (xs : List X) (ls : List (List ℕ)) → length ls < 2 ^ 64 - 1 → SpellsParts P ls xs → Reads (repeated step (length xs) s) ls (pushed push s xs)
unfolding repeated
parts_read P push step one s [] ls room h n rest = (n, rw h refl)
parts_read P push step one s (x ∷ xs) ls room h n rest =
    let part = h.0 in
    let others = h.1 in
    let long : length ls ≡ length part + length others = ap length h.2 ∙ length-append part others in
    let here = one s x part (omega arith) h.3 n (others ++ rest) in
    let more = parts_read P push step one (push s x) xs others (omega arith) h.4 here.0 rest in
    let e : repeated step (suc (length xs)) s (place n ((part ++ others) ++ rest)) ≡ Ok (pushed push (push s x) xs, place more.0 rest) = rw (append_assoc part others rest, here.1) more.1 in
    (more.0, subst (λ (z : List (List ℕ)). repeated step (suc (length xs)) s (place n (z ++ rest)) ≡ Ok (pushed push (push s x) xs, place more.0 rest)) (sym h.2) e)

pub along_none : {S X : Type 0} (push : S → X → S) (s : S) (xs : List X) → Along (λ (s : S) (x : X). Unit {0}) push s xs
along_none push s [] = tt
along_none push s (x ∷ xs) = (tt, along_none push (push s x) xs)

each_long : {X : Type 0} (P : List ℕ → X → Type 0) (ls : List (List ℕ)) (xs : List X) → SpellsEach P ls xs → length xs ≡ length ls
each_long P [] [] h = refl
each_long P [] (x ∷ xs) h = absurd h
each_long P (l ∷ ls) [] h = absurd h
each_long P (l ∷ ls) (x ∷ xs) h = ap suc (each_long P ls xs h.1)

-- ---- version and metric

pub version_reads : (ls : List (List ℕ)) → SpellsVersion ls → (n : ℕ) (rest : List (List ℕ)) → (m : ℕ) × (version_at (place n (ls ++ rest)) ≡ Ok (place m rest))
unfolding version_at
version_reads ls v n rest =
    (n + 1 + 1 + 1, rw (v.lines_are, keyword_reads (codes "begin_version") n (v.version ∷ codes "end_version" ∷ rest), number_reads v.version (Natural 3) v.version_is (omega arith) (n + 1) (codes "end_version" ∷ rest)) (keyword_reads (codes "end_version") (n + 1 + 1) rest))

flag_again : (m : Bool) → flag (Natural (flag_number m)) ≡ Some m
flag_again false = refl
flag_again true = refl

flag_kept : (m : Bool) → flag_number m < 2 ^ 64 - 1
flag_kept false = omega arith
flag_kept true = omega arith

pub metric_reads : (ls : List (List ℕ)) (m : Bool) → SpellsMetric ls m → Reads metric_at ls m
unfolding metric_at
metric_reads ls m v n rest =
    (n + 1 + 1 + 1, rw (v.lines_are, keyword_reads (codes "begin_metric") n (v.flag ∷ codes "end_metric" ∷ rest), number_reads v.flag (Natural (flag_number m)) v.flag_is (flag_kept m) (n + 1) (codes "end_metric" ∷ rest), flag_again m, keyword_reads (codes "end_metric") (n + 1 + 1) rest) refl)

-- ---- variables

layer_reads : (line : List ℕ) → SpellsNumbers line (Negative 1 ∷ []) → (n : ℕ) (rest : List (List ℕ)) → layer_at (place n (line ∷ rest)) ≡ Ok (place (n + 1) rest)
unfolding layer_at
layer_reads line is n rest = rw (number_reads line (Negative 1) is (omega arith) n rest) refl

range_reads : (line : List ℕ) (k : ℕ) → SpellsCount line k → 0 < k → k ≤ 65536 → (n : ℕ) (rest : List (List ℕ)) → range_at (place n (line ∷ rest)) ≡ Ok (k, place (n + 1) rest)
unfolding range_at
range_reads line k is some few n rest =
    let ne : eqb k 0 ≡ false = ne_eqb k 0 (λ z. omega arith) in
    let le : ltb 65536 k ≡ false = le-ltb 65536 k few in
    rw (count_reads line k is (omega arith) n rest, ne, le) refl

abbrev IsLine : List ℕ → List ℕ → Type 0
IsLine line text = (line ≡ text) × IsText text

lines_of_texts : (ts : List (List ℕ)) → AllByRecursion IsText ts → SpellsEach IsLine ts ts
lines_of_texts [] h = tt
lines_of_texts (t ∷ ts) h = ((refl, h.0), lines_of_texts ts h.1)

text_one : (s : List (List ℕ)) (t line : List ℕ) → IsLine line t → Unit {0} → (n : ℕ) (rest : List (List ℕ)) → text_step s (place n (line ∷ rest)) ≡ Ok (s ++ t ∷ [], place (n + 1) rest)
text_one s t line h u n rest = rw (h.0, text_reads t h.1 n rest) refl

texts_read : (ts : List (List ℕ)) → AllByRecursion IsText ts → Reads (repeated text_step (length ts) []) ts ts
texts_read ts h n rest =
    let r = each_reads IsLine (λ (s : List (List ℕ)) (x : List ℕ). Unit {0}) (λ (zs : List (List ℕ)) (z : List ℕ). zs ++ z ∷ []) text_step text_one [] ts ts (lines_of_texts ts h) (along_none (λ (zs : List (List ℕ)) (z : List ℕ). zs ++ z ∷ []) [] ts) n rest in
    (r.0, r.1 ∙ ap (λ (z : List (List ℕ)). Ok (z, place r.0 rest)) (pushed_list [] ts))

variable_reads : (ls ts : List (List ℕ)) → SpellsVariable ls ts → Reads variable_at ls ts
unfolding variable_at
variable_reads ls ts v n rest =
    let inner = texts_read ts v.texts_are (n + 1 + 1 + 1 + 1) (codes "end_variable" ∷ rest) in (
      inner.0 + 1,
      rw (
        v.lines_are,
        append_assoc ts (codes "end_variable" ∷ []) rest,
        keyword_reads (codes "begin_variable") n (v.name ∷ v.layer ∷ v.range ∷ (ts ++ codes "end_variable" ∷ rest)),
        text_reads v.name v.name_is (n + 1) (v.layer ∷ v.range ∷ (ts ++ codes "end_variable" ∷ rest)),
        layer_reads v.layer v.layer_is (n + 1 + 1) (v.range ∷ (ts ++ codes "end_variable" ∷ rest)),
        range_reads v.range (length ts) v.range_is v.some v.few (n + 1 + 1 + 1) (ts ++ codes "end_variable" ∷ rest),
        inner.1,
        keyword_reads (codes "end_variable") inner.0 rest,
      ) refl,
    )

variable_one : (s : List (List (List ℕ))) (ts : List (List ℕ)) (part : List (List ℕ)) → length part < 2 ^ 64 - 1 → SpellsVariable part ts → Reads (variable_step s) part (s ++ ts ∷ [])
variable_one s ts part room v n rest = let r = variable_reads part ts v n rest in (r.0, rw r.1 refl)

pub variables_read_again : (ls : List (List ℕ)) (vs : List (List (List ℕ))) → length ls < 2 ^ 64 - 1 → length vs ≤ 65536 → SpellsList SpellsVariable ls vs → Reads variables_at ls vs
unfolding variables_at
variables_read_again ls vs room few v n rest =
    let le : ltb 65536 (length vs) ≡ false = le-ltb 65536 (length vs) few in
    let long : length v.others < 2 ^ 64 - 1 = let e : length ls ≡ suc (length v.others) = ap length v.lines_are in omega arith in
    let r = parts_read SpellsVariable (λ (zs : List (List (List ℕ))) (z : List (List ℕ)). zs ++ z ∷ []) variable_step variable_one [] vs v.others long v.items (n + 1) rest in
    let e : variables_at (place n (v.count ∷ (v.others ++ rest))) ≡ Ok (vs, place r.0 rest) =
    rw (count_reads v.count (length vs) v.count_is (omega arith) n (v.others ++ rest), le, r.1) (ap (λ (z : List (List (List ℕ))). Ok (z, place r.0 rest)) (pushed_list [] vs)) in
    (r.0, subst (λ (z : List (List ℕ)). variables_at (place n (z ++ rest)) ≡ Ok (vs, place r.0 rest)) (sym v.lines_are) e)

-- ---- facts

pub both_true : (a b : Bool) → a ≡ true → b ≡ true → (a && b) ≡ true
both_true a b p q = rw (p, q) refl

pub fact_again : (ks : List ℕ) (f : Fact) → IsInRange ks f → fact_of ks (Natural f.variable) (Natural f.value) ≡ Some f
fact_again ks f h =
    let e : is_in_range ks f.variable f.value ≡ true = both_true _ _ (lt-ltb f.variable (length ks) h.0) (lt-ltb f.value (get_or ks f.variable 0) h.1) in
    rw e refl

fact_reads : (ks : List ℕ) → AreSmall ks → (f : Fact) (line : List ℕ) → SpellsFact ks line f → (n : ℕ) (rest : List (List ℕ)) → fact_at ks (place n (line ∷ rest)) ≡ Ok (f, place (n + 1) rest)
unfolding fact_at line_at
fact_reads ks small f line h n rest =
    let few = small.few in
    let range = small.each f.variable in
    let low : f.variable < length ks = h.1.0 in
    let below : f.value < get_or ks f.variable 0 = h.1.1 in
    rw (pair_again line (Natural f.variable) (Natural f.value) h.0 (omega arith) (omega arith), fact_again ks f h.1) refl

fact_one : (ks : List ℕ) → AreSmall ks → (s : List Fact) (f : Fact) (line : List ℕ) → SpellsFact ks line f → names_variable s f.variable ≡ false → (n : ℕ) (rest : List (List ℕ)) → fact_step ks s (place n (line ∷ rest)) ≡ Ok (s ++ f ∷ [], place (n + 1) rest)
unfolding fact_step
fact_one ks small s f line h none n rest = rw (fact_reads ks small f line h n rest, none) refl

skip_one : (ks : List ℕ) → AreSmall ks → (s : Unit {0}) (f : Fact) (line : List ℕ) → SpellsFact ks line f → Unit {0} → (n : ℕ) (rest : List (List ℕ)) → skip_step ks s (place n (line ∷ rest)) ≡ Ok (tt, place (n + 1) rest)
unfolding skip_step
skip_one ks small s f line h u n rest = rw (fact_reads ks small f line h n rest) refl

pub not_false : (b : Bool) → not b ≡ true → b ≡ false
not_false true e = absurd cc
not_false false e = refl

swap_false : (a b : ℕ) → eqb a b ≡ false → eqb b a ≡ false
swap_false a b e = grind arith

pub names_middle : (fs : List Fact) (f : Fact) (gs : List Fact) (v : ℕ) → names_variable (fs ++ f ∷ gs) v ≡ false → eqb f.variable v ≡ false
names_middle [] f gs v e = or_left_false (eqb f.variable v) (names_variable gs v) e
names_middle (g ∷ fs) f gs v e = names_middle fs f gs v (or_right_false (eqb g.variable v) (names_variable (fs ++ f ∷ gs) v) e)

-- of facts on different variables, the front names no variable of the rest
pub names_apart : (fs : List Fact) (f : Fact) (gs : List Fact) → are_distinct (fs ++ f ∷ gs) ≡ true → names_variable fs f.variable ≡ false
names_apart [] f gs d = refl
names_apart (g ∷ fs) f gs d =
    let none : names_variable (fs ++ f ∷ gs) g.variable ≡ false = not_false _ (and_left (not (names_variable (fs ++ f ∷ gs) g.variable)) (are_distinct (fs ++ f ∷ gs)) d) in
    let other : eqb f.variable g.variable ≡ false = names_middle fs f gs g.variable none in
    let swapped : eqb g.variable f.variable ≡ false = swap_false f.variable g.variable other in
    rw swapped (names_apart fs f gs (and_right (not (names_variable (fs ++ f ∷ gs) g.variable)) (are_distinct (fs ++ f ∷ gs)) d))

along_facts : (s fs : List Fact) → are_distinct (s ++ fs) ≡ true → Along (λ (s : List Fact) (f : Fact). names_variable s f.variable ≡ false) (λ (zs : List Fact) (z : Fact). zs ++ z ∷ []) s fs
along_facts s [] d = tt
along_facts s (f ∷ fs) d = (names_apart s f fs d, along_facts (s ++ f ∷ []) fs (subst (λ (z : List Fact). are_distinct z ≡ true) (sym (append_assoc s (f ∷ []) fs)) d))

-- the number of items fits where their lines do
pub count_small : {X : Type 0} (P : List ℕ → X → Type 0) (ls : List (List ℕ)) (xs : List X) → (v : SpellsLines P ls xs) → length ls < 2 ^ 64 - 1 → length xs < 2 ^ 64 - 1
count_small P ls xs v room = let e : length ls ≡ suc (length v.others) = ap length v.lines_are in let f = each_long P v.others xs v.items in omega arith

pub facts_read_again : (ks : List ℕ) → AreSmall ks → (ls : List (List ℕ)) (fs : List Fact) → length ls < 2 ^ 64 - 1 → are_distinct fs ≡ true → SpellsLines (SpellsFact ks) ls fs → Reads (facts_at ks) ls fs
unfolding facts_at
facts_read_again ks small ls fs room d v n rest =
    let few = count_small (SpellsFact ks) ls fs v room in
    let r = each_reads (SpellsFact ks) (λ (s : List Fact) (f : Fact). names_variable s f.variable ≡ false) (λ (zs : List Fact) (z : Fact). zs ++ z ∷ []) (fact_step ks) (fact_one ks small) [] fs v.others v.items (along_facts [] fs d) (n + 1) rest in
    let e : facts_at ks (place n (v.count ∷ (v.others ++ rest))) ≡ Ok (fs, place r.0 rest) =
    rw (count_reads v.count (length fs) v.count_is few n (v.others ++ rest), r.1) (ap (λ (z : List Fact). Ok (z, place r.0 rest)) (pushed_list [] fs)) in
    (r.0, subst (λ (z : List (List ℕ)). facts_at ks (place n (z ++ rest)) ≡ Ok (fs, place r.0 rest)) (sym v.lines_are) e)

-- ---- mutex groups

pushed_nothing : {X : Type 0} (s : Unit {0}) (xs : List X) → pushed (λ (u : Unit {0}) (z : X). tt) s xs ≡ tt
pushed_nothing s [] = refl
pushed_nothing s (x ∷ xs) = pushed_nothing tt xs

group_one : (ks : List ℕ) → AreSmall ks → (s : Unit {0}) (fs : List Fact) (part : List (List ℕ)) → length part < 2 ^ 64 - 1 → SpellsGroup ks part fs → Reads (group_step ks s) part tt
unfolding group_step
group_one ks small s fs part room g n rest =
    let v = g.facts_are in
    let long : length part ≡ suc (length (g.inner ++ codes "end_mutex_group" ∷ [])) = ap length g.lines_are in
    let inner : length g.inner < 2 ^ 64 - 1 = omega (arith, length-append g.inner (codes "end_mutex_group" ∷ [])) in
    let few = count_small (SpellsFact ks) g.inner fs v inner in
    let r = each_reads (SpellsFact ks) (λ (s : Unit {0}) (f : Fact). Unit {0}) (λ (u : Unit {0}) (z : Fact). tt) (skip_step ks) (skip_one ks small) tt fs v.others v.items (along_none (λ (u : Unit {0}) (z : Fact). tt) tt fs) (n + 1 + 1) (codes "end_mutex_group" ∷ rest) in
    let e : group_step ks s (place n (codes "begin_mutex_group" ∷ v.count ∷ (v.others ++ codes "end_mutex_group" ∷ rest))) ≡ Ok (tt, place (r.0 + 1) rest) =
    rw (keyword_reads (codes "begin_mutex_group") n (v.count ∷ (v.others ++ codes "end_mutex_group" ∷ rest)), count_reads v.count (length fs) v.count_is few (n + 1) (v.others ++ codes "end_mutex_group" ∷ rest), r.1, keyword_reads (codes "end_mutex_group") r.0 rest) refl in
    let lines : part ++ rest ≡ codes "begin_mutex_group" ∷ v.count ∷ (v.others ++ codes "end_mutex_group" ∷ rest) =
    ap (λ (z : List (List ℕ)). z ++ rest) g.lines_are ∙ ap (λ (z : List (List ℕ)). codes "begin_mutex_group" ∷ z) (append_assoc g.inner (codes "end_mutex_group" ∷ []) rest ∙ ap (λ (z : List (List ℕ)). z ++ codes "end_mutex_group" ∷ rest) v.lines_are) in
    (r.0 + 1, subst (λ (z : List (List ℕ)). group_step ks s (place n z) ≡ Ok (tt, place (r.0 + 1) rest)) (sym lines) e)

parts_long : {X : Type 0} (P : List (List ℕ) → X → Type 0) → ((x : X) (part : List (List ℕ)) → P part x → 0 < length part) → (ls : List (List ℕ)) (xs : List X) → SpellsParts P ls xs → length xs ≤ length ls
parts_long P some ls [] h = omega arith
parts_long P some ls (x ∷ xs) h =
    let long : length ls ≡ length h.0 + length h.1 = ap length h.2 ∙ length-append h.0 h.1 in
    let one = some x h.0 h.3 in
    let more = parts_long P some h.1 xs h.4 in
    omega arith

group_some : (ks : List ℕ) (fs : List Fact) (part : List (List ℕ)) → SpellsGroup ks part fs → 0 < length part
group_some ks fs part g = let long : length part ≡ suc (length (g.inner ++ codes "end_mutex_group" ∷ [])) = ap length g.lines_are in omega arith

pub groups_read_again : (ks : List ℕ) → AreSmall ks → (ls : List (List ℕ)) (gs : List (List Fact)) → length ls < 2 ^ 64 - 1 → SpellsList (SpellsGroup ks) ls gs → Reads (groups_at ks) ls tt
unfolding groups_at
groups_read_again ks small ls gs room v n rest =
    let long : length ls ≡ suc (length v.others) = ap length v.lines_are in
    let few = parts_long (SpellsGroup ks) (group_some ks) v.others gs v.items in
    let r = parts_read (SpellsGroup ks) (λ (u : Unit {0}) (z : List Fact). tt) (group_step ks) (group_one ks small) tt gs v.others (omega arith) v.items (n + 1) rest in
    let e : groups_at ks (place n (v.count ∷ (v.others ++ rest))) ≡ Ok (tt, place r.0 rest) =
    rw (count_reads v.count (length gs) v.count_is (omega arith) n (v.others ++ rest), r.1) refl in
    (r.0, subst (λ (z : List (List ℕ)). groups_at ks (place n (z ++ rest)) ≡ Ok (tt, place r.0 rest)) (sym v.lines_are) e)

-- ---- initial state and goal

value_reads : (k : ℕ) (s : List ℕ) (x : ℕ) (line : List ℕ) → k ≤ 65536 → SpellsCount line x → x < k → (n : ℕ) (rest : List (List ℕ)) → value_step k s (place n (line ∷ rest)) ≡ Ok (s ++ x ∷ [], place (n + 1) rest)
unfolding value_step
value_reads k s x line small is low n rest = rw (count_reads line x is (omega arith) n rest, lt-ltb x k low) refl

values_read : (ks : List ℕ) → ((v : ℕ) → get_or ks v 0 ≤ 65536) → (s : List ℕ) (ls : List (List ℕ)) (xs : List ℕ) → SpellsValues ks ls xs → Reads (values_at ks s) ls (s ++ xs)
unfolding values_at
values_read [] small s [] [] h n rest = (n, ap (λ (z : List ℕ). Ok (z, place n rest)) (sym (append-nil s)))
values_read [] small s [] (x ∷ xs) h n rest = absurd h
values_read [] small s (l ∷ ls) xs h n rest = absurd h
values_read (k ∷ ks) small s [] xs h n rest = absurd h
values_read (k ∷ ks) small s (l ∷ ls) [] h n rest = absurd h
values_read (k ∷ ks) small s (l ∷ ls) (x ∷ xs) h n rest =
    let more = values_read ks (λ v. small (suc v)) (s ++ x ∷ []) ls xs h.2 (n + 1) rest in
    (more.0, rw (value_reads k s x l (small 0) h.0 h.1 n (ls ++ rest)) (more.1 ∙ ap (λ (z : List ℕ). Ok (z, place more.0 rest)) (append_assoc s (x ∷ []) xs)))

pub state_reads : (ks : List ℕ) → AreSmall ks → (ls : List (List ℕ)) (vs : List ℕ) → SpellsState ks ls vs → Reads (state_at ks) ls vs
unfolding state_at
state_reads ks small ls vs v n rest =
    let r = values_read ks small.each [] v.inner vs v.values_are (n + 1) (codes "end_state" ∷ rest) in
    (r.0 + 1, rw (v.lines_are, append_assoc v.inner (codes "end_state" ∷ []) rest, keyword_reads (codes "begin_state") n (v.inner ++ codes "end_state" ∷ rest), r.1, keyword_reads (codes "end_state") r.0 rest) refl)

pub goal_reads : (ks : List ℕ) → AreSmall ks → (ls : List (List ℕ)) (fs : List Fact) → length ls < 2 ^ 64 - 1 → SpellsGoal ks ls fs → Reads (goal_at ks) ls fs
unfolding goal_at
goal_reads ks small ls fs room v n rest =
    let long : length ls ≡ suc (length (v.inner ++ codes "end_goal" ∷ [])) = ap length v.lines_are in
    let inner : length v.inner < 2 ^ 64 - 1 = omega (arith, length-append v.inner (codes "end_goal" ∷ [])) in
    let r = facts_read_again ks small v.inner fs inner v.distinct v.facts_are (n + 1) (codes "end_goal" ∷ rest) in
    let e : goal_at ks (place n (codes "begin_goal" ∷ (v.inner ++ codes "end_goal" ∷ rest))) ≡ Ok (fs, place (r.0 + 1) rest) =
    rw (keyword_reads (codes "begin_goal") n (v.inner ++ codes "end_goal" ∷ rest), r.1, keyword_reads (codes "end_goal") r.0 rest) refl in
    let lines : ls ++ rest ≡ codes "begin_goal" ∷ (v.inner ++ codes "end_goal" ∷ rest) =
    ap (λ (z : List (List ℕ)). z ++ rest) v.lines_are ∙ ap (λ (z : List (List ℕ)). codes "begin_goal" ∷ z) (append_assoc v.inner (codes "end_goal" ∷ []) rest) in
    (r.0 + 1, subst (λ (z : List (List ℕ)). goal_at ks (place n z) ≡ Ok (fs, place (r.0 + 1) rest)) (sym lines) e)
