-- Each reader of a part of the text keeps every frame.
use Rattle.std.proofs.Common.{◌≡◌, ℕ, Bool, true, false, cond, eqb, ltb, List, [], ◌∷◌, ◌++◌, refl, sym, Result, Ok, Err}
use Rattle.std.specs.Prelude.{codes}
use Rattle.std.specs.Str.{bytes_eq}
use Rattle.std.specs.List.{list_all}
use Rattle.fdr.specs.declared.fact.Fact.{Fact}
use Rattle.fdr.specs.declared.task.TaskLimit.TheVariants as limit
use Rattle.fdr.specs.Tasks.{Operator, names_variable}
use Rattle.sasfile_reader.specs.declared.fault.SasFault.{SasFault}
use Rattle.sasfile_reader.specs.declared.fault.SasFault.TheVariants as fault
use Rattle.fdr.specs.Limits.{max_variables, max_values, max_operators}
use Rattle.cost.specs.Limits.{max_cost}
use Rattle.sasfile_reader.specs.Lines.{words, is_text_byte}
use Rattle.sasfile_reader.specs.Reading.{◌>>=◌, Remaining, formed, ranged, line_at, keyword_at, text_at, alone, number_at, natural, count_at, repeated, is_natural, is_minus, version_at, flag, metric_at, layer_at, range_at, text_step, variable_at, variable_step, variables_at, pair, fact_of, fact_at, fact_step, facts_at, skip_step, group_step, groups_at, value_step, values_at, state_at, goal_at, Halves, is_conditional, quadruple, change_of, change_in, change_at, is_named, with_change, change_step, cost_at, halves_at, operator_at, operator_step, operators_at, axioms_at, head_at}
use Rattle.line_laws.proofs.Readings.{given, then_then}
use Rattle.line_laws.proofs.Frames.{Frame, Pairs, Rests, pure_pair, pure_rest, reads_then, then_pair, after_rest, OnLine, on_then}
use Rattle.line_laws.proofs.Lines.{Single, single_line, single_tested, reads_single, reads_tested}
use Rattle.line_laws.proofs.SasReading.{IsOn, Sas, repeated_reads}
use Rattle.line_laws.proofs.SasTests.{kept_if, value_if, value_unless, refused_value, on_formed, on_ranged, on_if, on_unless}

pub keyword : (F : Frame Sas) (word : List ℕ) → Rests F (keyword_at word)
unfolding keyword_at
keyword F word = reads_tested F (λ q. tt) (λ q. q) line_at (single_line Sas) (λ m a. cond (bytes_eq a word) (Ok tt) (Err (fault.Expected m))) (λ m a. on_if m (bytes_eq a word) (fault.Expected m) tt refl)
    (λ m a q. cond (bytes_eq a word) (Ok q) (Err (fault.Expected m))) (λ v q. Ok q) (λ m a q. kept_if (bytes_eq a word) (fault.Expected m) (Ok q)) (λ v. pure_rest F)

text_single : Single Sas text_at
unfolding text_at
text_single = single_tested Sas line_at (single_line Sas) (λ m a. cond (list_all is_text_byte a) (Ok a) (Err (fault.Expected m))) (λ m a. on_if m (list_all is_text_byte a) (fault.Expected m) a refl)
    (λ m a q. cond (list_all is_text_byte a) (Ok (a, q)) (Err (fault.Expected m))) (λ m a q. value_if (list_all is_text_byte a) (fault.Expected m) a q)

text : (F : Frame Sas) → Pairs F text_at
text F = reads_single F text_at text_single

number_single : Single Sas number_at
unfolding number_at
number_single = single_tested Sas line_at (single_line Sas) (λ m a. formed m (alone (words a))) (λ m a. on_formed m (alone (words a))) (λ m a q. formed m (alone (words a)) >>= λ n. Ok (n, q)) (λ m a q. refl)

count_single : Single Sas count_at
unfolding count_at
count_single = single_tested Sas number_at number_single (λ m a. ranged m (natural a)) (λ m a. on_ranged m (natural a)) (λ m a q. ranged m (natural a) >>= λ c. Ok (c, q)) (λ m a q. refl)

count : (F : Frame Sas) → Pairs F count_at
count F = reads_single F count_at count_single

-- ---- version and metric

version : (F : Frame Sas) → Rests F version_at
unfolding version_at
version F = reads_then F (λ q. tt) (λ q. q) (λ q. tt) (λ q. q) (keyword_at (codes "begin_version")) (λ u q. number_at q >>= λ n. cond (is_natural 3 n.0) (keyword_at (codes "end_version") n.1) (Err (fault.Version q.number)))
    (keyword F (codes "begin_version"))
    (λ u. reads_tested F (λ q. tt) (λ q. q) number_at number_single (λ m n. cond (is_natural 3 n) (Ok tt) (Err (fault.Version m))) (λ m n. on_if m (is_natural 3 n) (fault.Version m) tt refl)
    (λ m n q. cond (is_natural 3 n) (keyword_at (codes "end_version") q) (Err (fault.Version m))) (λ v q. keyword_at (codes "end_version") q)
    (λ m n q. kept_if (is_natural 3 n) (fault.Version m) (keyword_at (codes "end_version") q)) (λ v. keyword F (codes "end_version")))

-- a value and the line that ends its part
closing : {A : Type 0} (F : Frame Sas) (word : List ℕ) (v : A) → Pairs F (λ r. keyword_at word r >>= λ q. Ok (v, q))
closing F word v = reads_then F (λ q. tt) (λ q. q) (λ x. x.0) (λ x. x.1) (keyword_at word) (λ u q. given Sas v q) (keyword F word) (λ u. pure_pair F v)

metric : (F : Frame Sas) → Pairs F metric_at
unfolding metric_at
metric F = reads_then F (λ q. tt) (λ q. q) (λ x. x.0) (λ x. x.1) (keyword_at (codes "begin_metric"))
    (λ u q. number_at q >>= λ n. ranged q.number (flag n.0) >>= λ b. keyword_at (codes "end_metric") n.1 >>= λ rest. Ok (b, rest))
    (keyword F (codes "begin_metric"))
    (λ u. reads_tested F (λ x. x.0) (λ x. x.1) number_at number_single (λ m n. ranged m (flag n)) (λ m n. on_ranged m (flag n))
    (λ m n q. ranged m (flag n) >>= λ b. keyword_at (codes "end_metric") q >>= λ rest. Ok (b, rest)) (λ b q. keyword_at (codes "end_metric") q >>= λ rest. Ok (b, rest))
    (λ m n q. refl) (λ b. closing F (codes "end_metric") b))

-- ---- variables

layer : (F : Frame Sas) → Rests F layer_at
unfolding layer_at
layer F = reads_tested F (λ q. tt) (λ q. q) number_at number_single (λ m n. cond (is_minus 1 n) (Ok tt) (Err (fault.Axioms m))) (λ m n. on_if m (is_minus 1 n) (fault.Axioms m) tt refl)
    (λ m n q. cond (is_minus 1 n) (Ok q) (Err (fault.Axioms m))) (λ v q. Ok q) (λ m n q. kept_if (is_minus 1 n) (fault.Axioms m) (Ok q)) (λ v. pure_rest F)

range_test : ℕ → ℕ → Result ℕ SasFault
range_test m n = cond (eqb n 0) (Err (fault.Range m)) (cond (ltb max_values n) (Err (fault.Limit limit.Values)) (Ok n))

range_is : (m n : ℕ) (q : Remaining) (zero many : Bool)
    → cond zero (Err (fault.Range m)) (cond many (Err (fault.Limit limit.Values)) (given Sas n q)) ≡ (cond zero (Err (fault.Range m)) (cond many (Err (fault.Limit limit.Values)) (Ok n)) >>= λ (v : ℕ). given Sas v q)
range_is m n q true many = refl
range_is m n q false true = refl
range_is m n q false false = refl

range_single : Single Sas range_at
unfolding range_at range_test
range_single = single_tested Sas count_at count_single range_test
    (λ m n. on_unless m (eqb n 0) (fault.Range m) (cond (ltb max_values n) (Err (fault.Limit limit.Values)) (Ok n)) refl (on_unless m (ltb max_values n) (fault.Limit limit.Values) (Ok n) tt tt))
    (λ m n q. cond (eqb n 0) (Err (fault.Range m)) (cond (ltb max_values n) (Err (fault.Limit limit.Values)) (Ok (n, q)))) (λ m n q. range_is m n q (eqb n 0) (ltb max_values n))

variable_text : (F : Frame Sas) (texts : List (List ℕ)) → Pairs F (text_step texts)
variable_text F texts = reads_then F (λ x. x.0) (λ x. x.1) (λ x. x.0) (λ x. x.1) text_at (λ t q. given Sas (texts ++ t ∷ []) q) (text F) (λ t. pure_pair F (texts ++ t ∷ []))

variable : (F : Frame Sas) → Pairs F variable_at
unfolding variable_at
variable F =
    after_rest F (keyword F (codes "begin_variable")) (then_pair F (text F) (λ n. after_rest F (layer F) (then_pair F (reads_single F range_at range_single) (λ k.
    then_pair F (repeated_reads F text_step (variable_text F) k []) (λ ts. closing F (codes "end_variable") ts)))))

one_variable : (F : Frame Sas) (variables : List (List (List ℕ))) → Pairs F (variable_step variables)
one_variable F variables = then_pair F (variable F) (λ ts. pure_pair F (variables ++ ts ∷ []))

-- a count up to a limit
limited : {A : Type 0} (F : Frame Sas) (most : ℕ) (e : SasFault) → ((m : ℕ) → IsOn m e) → (g : ℕ → Remaining → Result (A × Remaining) SasFault) → ((n : ℕ) → Pairs F (g n))
    → Pairs F (λ r. count_at r >>= λ n. cond (ltb most n.0) (Err e) (g n.0 n.1))
limited F most e on g more = reads_tested F (λ x. x.0) (λ x. x.1) count_at count_single (λ m n. cond (ltb most n) (Err e) (Ok n)) (λ m n. on_unless m (ltb most n) e (Ok n) (on m) tt)
    (λ m n q. cond (ltb most n) (Err e) (g n q)) g (λ m n q. refused_value (ltb most n) e n (λ v. g v q)) more

variables : (F : Frame Sas) → Pairs F variables_at
unfolding variables_at
variables F = limited F max_variables (fault.Limit limit.Variables) (λ m. tt) (λ n q. repeated variable_step n [] q) (λ n. repeated_reads F variable_step (one_variable F) n [])

-- ---- values of variables

fact_test : List ℕ → ℕ → List ℕ → Result Fact SasFault
fact_test ranges m a = formed m (pair (words a)) >>= λ numbers. ranged m (fact_of ranges numbers.0 numbers.1)

fact_single : (ranges : List ℕ) → Single Sas (fact_at ranges)
unfolding fact_at fact_test
fact_single ranges = single_tested Sas line_at (single_line Sas) (fact_test ranges) (λ m a. on_then Sas m (formed m (pair (words a))) (λ numbers. ranged m (fact_of ranges numbers.0 numbers.1)) (on_formed m (pair (words a))) (λ numbers. on_ranged m (fact_of ranges numbers.0 numbers.1)))
    (λ m a q. formed m (pair (words a)) >>= λ numbers. ranged m (fact_of ranges numbers.0 numbers.1) >>= λ fact. Ok (fact, q))
    (λ m a q. sym (then_then Sas (formed m (pair (words a))) (λ numbers. ranged m (fact_of ranges numbers.0 numbers.1)) (λ fact. given Sas fact q)))

fact_step_single : (ranges : List ℕ) (facts : List Fact) → Single Sas (fact_step ranges facts)
unfolding fact_step
fact_step_single ranges facts = single_tested Sas (fact_at ranges) (fact_single ranges) (λ m f. cond (names_variable facts f.variable) (Err (fault.Range m)) (Ok (facts ++ f ∷ [])))
    (λ m f. on_unless m (names_variable facts f.variable) (fault.Range m) (Ok (facts ++ f ∷ [])) refl tt)
    (λ m f q. cond (names_variable facts f.variable) (Err (fault.Range m)) (Ok (facts ++ f ∷ [], q))) (λ m f q. value_unless (names_variable facts f.variable) (fault.Range m) (facts ++ f ∷ []) q)

facts : (F : Frame Sas) (ranges : List ℕ) → Pairs F (facts_at ranges)
unfolding facts_at
facts F ranges = then_pair F (count F) (λ n. repeated_reads F (fact_step ranges) (λ fs. reads_single F (fact_step ranges fs) (fact_step_single ranges fs)) n [])

-- ---- mutex groups, initial state and goal

skip : (F : Frame Sas) (ranges : List ℕ) (u : Unit {0}) → Pairs F (skip_step ranges u)
unfolding skip_step
skip F ranges u = then_pair F (reads_single F (fact_at ranges) (fact_single ranges)) (λ f. pure_pair F u)

group : (F : Frame Sas) (ranges : List ℕ) (u : Unit {0}) → Pairs F (group_step ranges u)
unfolding group_step
group F ranges u = after_rest F (keyword F (codes "begin_mutex_group")) (then_pair F (count F) (λ n.
    then_pair F (repeated_reads F (skip_step ranges) (skip F ranges) n tt) (λ v. closing F (codes "end_mutex_group") tt)))

pub groups : (F : Frame Sas) (ranges : List ℕ) → Pairs F (groups_at ranges)
unfolding groups_at
groups F ranges = then_pair F (count F) (λ n. repeated_reads F (group_step ranges) (group F ranges) n tt)

value_single : (range : ℕ) (values : List ℕ) → Single Sas (value_step range values)
unfolding value_step
value_single range values = single_tested Sas count_at count_single (λ m v. cond (ltb v range) (Ok (values ++ v ∷ [])) (Err (fault.Range m))) (λ m v. on_if m (ltb v range) (fault.Range m) (values ++ v ∷ []) refl)
    (λ m v q. cond (ltb v range) (Ok (values ++ v ∷ [], q)) (Err (fault.Range m))) (λ m v q. value_if (ltb v range) (fault.Range m) (values ++ v ∷ []) q)

values : (F : Frame Sas) (ranges before : List ℕ) → Pairs F (values_at ranges before)
unfolding values_at
values F [] before = pure_pair F before
values F (range ∷ ranges) before = then_pair F (reads_single F (value_step range before) (value_single range before)) (λ vs. values F ranges vs)

pub state : (F : Frame Sas) (ranges : List ℕ) → Pairs F (state_at ranges)
unfolding state_at
state F ranges = after_rest F (keyword F (codes "begin_state")) (then_pair F (values F ranges []) (λ vs. closing F (codes "end_state") vs))

pub goal : (F : Frame Sas) (ranges : List ℕ) → Pairs F (goal_at ranges)
unfolding goal_at
goal F ranges = after_rest F (keyword F (codes "begin_goal")) (then_pair F (facts F ranges) (λ fs. closing F (codes "end_goal") fs))

-- ---- operators

on_change : (m : ℕ) (ranges : List ℕ) (ws : List (List ℕ)) → OnLine Sas m (change_in m ranges ws)
on_change m ranges ws = on_unless m (is_conditional ws) (fault.ConditionalEffect m) (formed m (quadruple ws) >>= λ numbers. ranged m (change_of ranges numbers)) refl
    (on_then Sas m (formed m (quadruple ws)) (λ numbers. ranged m (change_of ranges numbers)) (on_formed m (quadruple ws)) (λ numbers. on_ranged m (change_of ranges numbers)))

change_single : (ranges : List ℕ) → Single Sas (change_at ranges)
unfolding change_at
change_single ranges = single_tested Sas line_at (single_line Sas) (λ m a. change_in m ranges (words a)) (λ m a. on_change m ranges (words a))
    (λ m a q. change_in m ranges (words a) >>= λ change. Ok (change, q)) (λ m a q. refl)

change_step_single : (ranges : List ℕ) (h : Halves) → Single Sas (change_step ranges h)
unfolding change_step
change_step_single ranges h = single_tested Sas (change_at ranges) (change_single ranges) (λ m c. cond (is_named h c.after.variable) (Err (fault.Range m)) (Ok (with_change h c)))
    (λ m c. on_unless m (is_named h c.after.variable) (fault.Range m) (Ok (with_change h c)) refl tt)
    (λ m c q. cond (is_named h c.after.variable) (Err (fault.Range m)) (Ok (with_change h c, q))) (λ m c q. value_unless (is_named h c.after.variable) (fault.Range m) (with_change h c) q)

cost_single : Single Sas cost_at
unfolding cost_at
cost_single = single_tested Sas count_at count_single (λ m n. cond (ltb max_cost n) (Err (fault.Range m)) (Ok n)) (λ m n. on_unless m (ltb max_cost n) (fault.Range m) (Ok n) refl tt)
    (λ m n q. cond (ltb max_cost n) (Err (fault.Range m)) (Ok (n, q))) (λ m n q. value_unless (ltb max_cost n) (fault.Range m) n q)

halves : (F : Frame Sas) (ranges : List ℕ) → Pairs F (halves_at ranges)
unfolding halves_at
halves F ranges = then_pair F (facts F ranges) (λ prevail. then_pair F (count F) (λ n.
    repeated_reads F (change_step ranges) (λ h. reads_single F (change_step ranges h) (change_step_single ranges h)) n (record { precondition = prevail; effect = [] })))

operator : (F : Frame Sas) (ranges : List ℕ) → Pairs F (operator_at ranges)
unfolding operator_at
operator F ranges = after_rest F (keyword F (codes "begin_operator")) (then_pair F (text F) (λ name. then_pair F (halves F ranges) (λ h. then_pair F (reads_single F cost_at cost_single) (λ cost.
    closing F (codes "end_operator") (record { name = name; precondition = h.precondition; effect = h.effect; cost = cost })))))

one_operator : (F : Frame Sas) (ranges : List ℕ) (operators : List Operator) → Pairs F (operator_step ranges operators)
one_operator F ranges operators = then_pair F (operator F ranges) (λ op. pure_pair F (operators ++ op ∷ []))

pub operators : (F : Frame Sas) (ranges : List ℕ) → Pairs F (operators_at ranges)
unfolding operators_at
operators F ranges = limited F max_operators (fault.Limit limit.Operators) (λ m. tt) (λ n q. repeated (operator_step ranges) n [] q) (λ n. repeated_reads F (operator_step ranges) (one_operator F ranges) n [])

-- ---- the whole text

pub axioms : (F : Frame Sas) → Rests F axioms_at
unfolding axioms_at
axioms F = reads_tested F (λ q. tt) (λ q. q) number_at number_single (λ m n. cond (is_natural 0 n) (Ok tt) (Err (fault.Axioms m))) (λ m n. on_if m (is_natural 0 n) (fault.Axioms m) tt refl)
    (λ m n q. cond (is_natural 0 n) (Ok q) (Err (fault.Axioms m))) (λ v q. Ok q) (λ m n q. kept_if (is_natural 0 n) (fault.Axioms m) (Ok q)) (λ v. pure_rest F)

pub head : (F : Frame Sas) → Pairs F head_at
unfolding head_at
head F = after_rest F (version F) (then_pair F (metric F) (λ m. then_pair F (variables F) (λ vs. pure_pair F (record { metric = m; variables = vs }))))
