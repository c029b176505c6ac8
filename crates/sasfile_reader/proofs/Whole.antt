-- What is read is a task within its limits.
use Rattle.std.proofs.Common.{◌≡◌, ℕ, zero, suc, ◌+◌, ◌<◌, ◌≤◌, true, false, eqb, ltb, List, [], ◌∷◌, ◌++◌, length, map, get_or, refl, sym, ap, subst, ◌∙◌, arith, append_assoc}
use Rattle.std.specs.Prelude.{Ok, All, codes}
use Rattle.std.proofs.lemmas.Bool.{ltb-true, ltb-false, le-ltb}
use Rattle.std.proofs.lemmas.List.{append-nil, length-append}
use Rattle.std.proofs.lemmas.List.Folds.{list_any-append}
use Rattle.std.proofs.lemmas.List.Elements.{All-push, All-nil}
use Rattle.fdr.specs.declared.fact.Fact.{Fact}
use Rattle.fdr.specs.declared.task.TaskLimit.{TaskLimit}
use Rattle.fdr.specs.declared.task.TaskLimit.TheVariants.{Variables, Values, Operators}
use Rattle.fdr.specs.Tasks.{Operator, FiniteDomainTask, IsState, IsAssignment, IsOperator, IsTask, has_long_range, IsWithinLimits, IsPastLimit}
use Rattle.sasfile_reader.specs.declared.fault.SasFault.{SasFault}
use Rattle.sasfile_reader.proofs.Loops.{fails_bind}
use Rattle.sasfile_reader.specs.Reading.{Fails, Remaining, keyword_at, text_at, count_at, layer_at, range_at, text_step, variable_at, variable_step, variables_at, version_at, metric_at, repeated, value_step, values_at, state_at, facts_at, goal_at, groups_at, halves_at, cost_at, operator_at, operator_step, operators_at, axioms_at, empty_from, Head, head_at, Body, body_at, joined, task_at}
use Rattle.sasfile_reader.proofs.Steps.{ok_is, bind_ok, passed, held, repeated_keeps, repeated_counts}
use Rattle.sasfile_reader.proofs.Assignments.{facts_assigned, halves_assigned}

-- ---- the initial state

-- each number is below the one at its place
abbrev pub Below : List ℕ → List ℕ → Type 0
Below [] [] = Unit {0}
Below [] (x ∷ xs) = ⊥
Below (k ∷ ks) [] = ⊥
Below (k ∷ ks) (x ∷ xs) = (x < k) × Below ks xs

value_is : (k : ℕ) (before vs : List ℕ) (r q : Remaining) → value_step k before r ≡ Ok (vs, q) → (x : ℕ) × (vs ≡ before ++ x ∷ []) × (x < k)
unfolding value_step
value_is k before vs r q e =
    let n = bind_ok (count_at r) _ (vs, q) e in
    let p = held (ltb n.0.0 k) _ _ (vs, q) n.2 in
    (n.0.0, sym (ap (λ (x : List ℕ × Remaining). x.0) (ok_is (before ++ n.0.0 ∷ [], n.0.1) (vs, q) p.1)), ltb-true n.0.0 k p.0)

values_below : (ks before vs : List ℕ) (r q : Remaining) → values_at ks before r ≡ Ok (vs, q) → (xs : List ℕ) × (vs ≡ before ++ xs) × Below ks xs
unfolding values_at
values_below [] before vs r q e = ([], sym (ap (λ (x : List ℕ × Remaining). x.0) (ok_is (before, r) (vs, q) e)) ∙ sym (append-nil before), tt)
values_below (k ∷ ks) before vs r q e =
    let s = bind_ok (value_step k before r) (λ x. values_at ks x.0 x.1) (vs, q) e in
    let v = value_is k before s.0.0 r s.0.1 s.1 in
    let more = values_below ks s.0.0 vs s.0.1 q s.2 in
    (v.0 ∷ more.0, more.1 ∙ ap (λ (z : List ℕ). z ++ more.0) v.1 ∙ append_assoc before (v.0 ∷ []) more.0, (v.2, more.2))

below_long : (ks xs : List ℕ) → Below ks xs → length xs ≡ length ks
below_long [] [] h = refl
below_long [] (x ∷ xs) h = absurd h
below_long (k ∷ ks) [] h = absurd h
below_long (k ∷ ks) (x ∷ xs) h = ap suc (below_long ks xs h.1)

below_at : (ks xs : List ℕ) → Below ks xs → (v : ℕ) → v < length ks → get_or xs v 0 < get_or ks v 0
below_at [] [] h v lt = absurd (omega arith)
below_at [] (x ∷ xs) h v lt = absurd h
below_at (k ∷ ks) [] h v lt = absurd h
below_at (k ∷ ks) (x ∷ xs) h zero lt = h.0
below_at (k ∷ ks) (x ∷ xs) h (suc v) lt = below_at ks xs h.1 v (omega arith)

pub below_state : (ks xs : List ℕ) → Below ks xs → IsState ks xs
below_state ks xs h = record { as_long = below_long ks xs h; in_range = below_at ks xs h }

state_read : (ks vs : List ℕ) (r q : Remaining) → state_at ks r ≡ Ok (vs, q) → IsState ks vs
unfolding state_at
state_read ks vs r q e =
    let b = bind_ok (keyword_at (codes "begin_state") r) _ (vs, q) e in
    let v = bind_ok (values_at ks [] b.0) _ (vs, q) b.2 in
    let w = bind_ok (keyword_at (codes "end_state") v.0.1) _ (vs, q) v.2 in
    let same : v.0.0 ≡ vs = ap (λ (x : List ℕ × Remaining). x.0) (ok_is (v.0.0, w.0) (vs, q) w.2) in
    let p = values_below ks [] v.0.0 b.0 v.0.1 v.1 in
    below_state ks vs (subst (Below ks) (sym p.1 ∙ same) p.2)

goal_read : (ks : List ℕ) (fs : List Fact) (r q : Remaining) → goal_at ks r ≡ Ok (fs, q) → IsAssignment ks fs
unfolding goal_at
goal_read ks fs r q e =
    let b = bind_ok (keyword_at (codes "begin_goal") r) _ (fs, q) e in
    let v = bind_ok (facts_at ks b.0) _ (fs, q) b.2 in
    let w = bind_ok (keyword_at (codes "end_goal") v.0.1) _ (fs, q) v.2 in
    let same : v.0.0 ≡ fs = ap (λ (x : List Fact × Remaining). x.0) (ok_is (v.0.0, w.0) (fs, q) w.2) in
    subst (IsAssignment ks) same (facts_assigned ks b.0 v.0.1 v.0.0 v.1)

-- ---- operators

operator_read : (ks : List ℕ) (o : Operator) (r q : Remaining) → operator_at ks r ≡ Ok (o, q) → IsOperator ks o
unfolding operator_at
operator_read ks o r q e =
    let b = bind_ok (keyword_at (codes "begin_operator") r) _ (o, q) e in
    let n = bind_ok (text_at b.0) _ (o, q) b.2 in
    let h = bind_ok (halves_at ks n.0.1) _ (o, q) n.2 in
    let c = bind_ok (cost_at h.0.1) _ (o, q) h.2 in
    let w = bind_ok (keyword_at (codes "end_operator") c.0.1) _ (o, q) c.2 in
    let made : Operator = record { name = n.0.0; precondition = h.0.0.precondition; effect = h.0.0.effect; cost = c.0.0 } in
    let same : made ≡ o = ap (λ (x : Operator × Remaining). x.0) (ok_is (made, w.0) (o, q) w.2) in
    let a = halves_assigned ks n.0.1 h.0.1 h.0.0 h.1 in
    subst (IsOperator ks) same (record { precondition = a.precondition; effect = a.effect })

operator_keeps : (ks : List ℕ) (os ps : List Operator) (r q : Remaining) → All (IsOperator ks) os → operator_step ks os r ≡ Ok (ps, q) → All (IsOperator ks) ps
operator_keeps ks os ps r q a e =
    let o = bind_ok (operator_at ks r) _ (ps, q) e in
    let same : os ++ o.0.0 ∷ [] ≡ ps = ap (λ (x : List Operator × Remaining). x.0) (ok_is (os ++ o.0.0 ∷ [], o.0.1) (ps, q) o.2) in
    subst (All (IsOperator ks)) same (All-push (IsOperator ks) os o.0.0 a (operator_read ks o.0.0 r o.0.1 o.1))

operator_counts : (ks : List ℕ) (os ps : List Operator) (r q : Remaining) → operator_step ks os r ≡ Ok (ps, q) → length ps ≡ suc (length os)
operator_counts ks os ps r q e =
    let o = bind_ok (operator_at ks r) _ (ps, q) e in
    let same : length (os ++ o.0.0 ∷ []) ≡ length ps = ap (λ (x : List Operator × Remaining). length x.0) (ok_is (os ++ o.0.0 ∷ [], o.0.1) (ps, q) o.2) in
    omega (arith, length-append os (o.0.0 ∷ []))

pub record AreOperators (ks : List ℕ) (os : List Operator) : Type 0 where
  pub each : All (IsOperator ks) os
  pub few : length os ≤ 4294967295

operators_read : (ks : List ℕ) (os : List Operator) (r q : Remaining) → operators_at ks r ≡ Ok (os, q) → AreOperators ks os
unfolding operators_at
operators_read ks os r q e =
    let n = bind_ok (count_at r) _ (os, q) e in
    let p = passed (ltb 4294967295 n.0.0) _ (repeated (operator_step ks) n.0.0 [] n.0.1) (os, q) n.2 in
    let many : length os ≡ 0 + n.0.0 = repeated_counts length (operator_step ks) (operator_counts ks) n.0.0 [] os n.0.1 q p.1 in
    record {
      each = repeated_keeps (All (IsOperator ks)) (operator_step ks) (operator_keeps ks) n.0.0 [] os n.0.1 q (All-nil (IsOperator ks)) p.1;
      few = let le = ltb-false 4294967295 n.0.0 p.0 in omega arith;
    }

-- ---- variables

text_counts : (ts us : List (List ℕ)) (r q : Remaining) → text_step ts r ≡ Ok (us, q) → length us ≡ suc (length ts)
text_counts ts us r q e =
    let o = bind_ok (text_at r) _ (us, q) e in
    let same : length (ts ++ o.0.0 ∷ []) ≡ length us = ap (λ (x : List (List ℕ) × Remaining). length x.0) (ok_is (ts ++ o.0.0 ∷ [], o.0.1) (us, q) o.2) in
    omega (arith, length-append ts (o.0.0 ∷ []))

range_few : (r q : Remaining) (n : ℕ) → range_at r ≡ Ok (n, q) → n ≤ 65536
unfolding range_at
range_few r q n e =
    let c = bind_ok (count_at r) _ (n, q) e in
    let z = passed (eqb c.0.0 0) _ _ (n, q) c.2 in
    let p = passed (ltb 65536 c.0.0) _ _ (n, q) z.1 in
    let same : c.0.0 ≡ n = ap (λ (x : ℕ × Remaining). x.0) (ok_is c.0 (n, q) p.1) in
    let le = ltb-false 65536 c.0.0 p.0 in
    omega arith

variable_few : (ts : List (List ℕ)) (r q : Remaining) → variable_at r ≡ Ok (ts, q) → length ts ≤ 65536
unfolding variable_at
variable_few ts r q e =
    let b = bind_ok (keyword_at (codes "begin_variable") r) _ (ts, q) e in
    let n = bind_ok (text_at b.0) _ (ts, q) b.2 in
    let l = bind_ok (layer_at n.0.1) _ (ts, q) n.2 in
    let k = bind_ok (range_at l.0) _ (ts, q) l.2 in
    let t = bind_ok (repeated text_step k.0.0 [] k.0.1) _ (ts, q) k.2 in
    let w = bind_ok (keyword_at (codes "end_variable") t.0.1) _ (ts, q) t.2 in
    let same : length t.0.0 ≡ length ts = ap (λ (x : List (List ℕ) × Remaining). length x.0) (ok_is (t.0.0, w.0) (ts, q) w.2) in
    let many : length t.0.0 ≡ 0 + k.0.0 = repeated_counts length text_step text_counts k.0.0 [] t.0.0 k.0.1 t.0.1 t.1 in
    let few = range_few l.0 k.0.1 k.0.0 k.1 in
    omega arith

variable_keeps : (vs ws : List (List (List ℕ))) (r q : Remaining) → has_long_range vs ≡ false → variable_step vs r ≡ Ok (ws, q) → has_long_range ws ≡ false
variable_keeps vs ws r q h e =
    let o = bind_ok (variable_at r) _ (ws, q) e in
    let same : vs ++ o.0.0 ∷ [] ≡ ws = ap (λ (x : List (List (List ℕ)) × Remaining). x.0) (ok_is (vs ++ o.0.0 ∷ [], o.0.1) (ws, q) o.2) in
    let one : ltb 65536 (length o.0.0) ≡ false = le-ltb _ _ (variable_few o.0.0 r o.0.1 o.1) in
    subst (λ (z : List (List (List ℕ))). has_long_range z ≡ false) same (list_any-append (λ names. ltb 65536 (length names)) vs (o.0.0 ∷ []) ∙ rw (h, one) refl)

variable_counts : (vs ws : List (List (List ℕ))) (r q : Remaining) → variable_step vs r ≡ Ok (ws, q) → length ws ≡ suc (length vs)
variable_counts vs ws r q e =
    let o = bind_ok (variable_at r) _ (ws, q) e in
    let same : length (vs ++ o.0.0 ∷ []) ≡ length ws = ap (λ (x : List (List (List ℕ)) × Remaining). length x.0) (ok_is (vs ++ o.0.0 ∷ [], o.0.1) (ws, q) o.2) in
    omega (arith, length-append vs (o.0.0 ∷ []))

pub record AreVariables (vs : List (List (List ℕ))) : Type 0 where
  pub short : has_long_range vs ≡ false
  pub few : length vs ≤ 65536

pub variables_read : (vs : List (List (List ℕ))) (r q : Remaining) → variables_at r ≡ Ok (vs, q) → AreVariables vs
unfolding variables_at
variables_read vs r q e =
    let n = bind_ok (count_at r) _ (vs, q) e in
    let p = passed (ltb 65536 n.0.0) _ (repeated variable_step n.0.0 [] n.0.1) (vs, q) n.2 in
    let many : length vs ≡ 0 + n.0.0 = repeated_counts length variable_step variable_counts n.0.0 [] vs n.0.1 q p.1 in
    record {
      short = repeated_keeps (λ (z : List (List (List ℕ))). has_long_range z ≡ false) variable_step variable_keeps n.0.0 [] vs n.0.1 q refl p.1;
      few = let le = ltb-false 65536 n.0.0 p.0 in omega arith;
    }

-- ---- the whole

head_read : (h : Head) (r q : Remaining) → head_at r ≡ Ok (h, q) → AreVariables h.variables
unfolding head_at
head_read h r q e =
    let v = bind_ok (version_at r) _ (h, q) e in
    let m = bind_ok (metric_at v.0) _ (h, q) v.2 in
    let vs = bind_ok (variables_at m.0.1) _ (h, q) m.2 in
    let made : Head = record { metric = m.0.0; variables = vs.0.0 } in
    let same : made ≡ h = ap (λ (x : Head × Remaining). x.0) (ok_is (made, vs.0.1) (h, q) vs.2) in
    subst (λ (z : Head). AreVariables z.variables) same (variables_read vs.0.0 m.0.1 vs.0.1 vs.1)

pub record IsBody (ks : List ℕ) (b : Body) : Type 0 where
  pub initial : IsState ks b.initial
  pub goal : IsAssignment ks b.goal
  pub operators : AreOperators ks b.operators

body_read : (ks : List ℕ) (b : Body) (r : Remaining) → body_at ks r ≡ Ok b → IsBody ks b
unfolding body_at
body_read ks b r e =
    let g = bind_ok (groups_at ks r) _ b e in
    let s = bind_ok (state_at ks g.0.1) _ b g.2 in
    let o = bind_ok (goal_at ks s.0.1) _ b s.2 in
    let p = bind_ok (operators_at ks o.0.1) _ b o.2 in
    let a = bind_ok (axioms_at p.0.1) _ b p.2 in
    let w = bind_ok (empty_from a.0.number a.0.lines) _ b a.2 in
    let made : Body = record { initial = s.0.0; goal = o.0.0; operators = p.0.0 } in
    subst (IsBody ks) (ok_is made b w.2) (record {
      initial = state_read ks s.0.0 g.0.1 s.0.1 s.1;
      goal = goal_read ks o.0.0 s.0.1 o.0.1 o.1;
      operators = operators_read ks p.0.0 o.0.1 p.0.1 p.1;
    })

pub joined_task : (h : Head) (b : Body) (r q s : Remaining) → head_at r ≡ Ok (h, q) → body_at (map length h.variables) s ≡ Ok b → IsTask (joined h b)
joined_task h b r q s e f =
    let body = body_read (map length h.variables) b s f in
    record { initial = body.initial; goal = body.goal; operators = body.operators.each }

pub joined_few : (h : Head) (b : Body) (r q s : Remaining) → head_at r ≡ Ok (h, q) → body_at (map length h.variables) s ≡ Ok b → IsWithinLimits (joined h b)
joined_few h b r q s e f =
    let head = head_read h r q e in
    let body = body_read (map length h.variables) b s f in
    record { variables = head.few; values = head.short; operators = body.operators.few }

-- a task within the limits is past none
pub within_not_past : (t : FiniteDomainTask) (limit : TaskLimit) → IsWithinLimits t → IsPastLimit t limit → ⊥
within_not_past t Variables w p = let v = w.variables in omega arith
within_not_past t Values w p = let a = w.values in let b = p.1 in let z : true ≡ false = sym b ∙ a in absurd cc
within_not_past t Operators w p = let v = w.operators in let b = p.2 in omega arith

-- ---- the parts together

pub task_made : (r q : Remaining) (h : Head) (b : Body) → head_at r ≡ Ok (h, q) → body_at (map length h.variables) q ≡ Ok b → task_at r ≡ Ok (joined h b)
unfolding task_at
task_made r q h b e f = rw (e, f) refl

pub head_fails : (d : SasFault) (r : Remaining) → Fails d (head_at r) → Fails d (task_at r)
unfolding task_at
head_fails d r f = fails_bind d (head_at r) _ f

pub body_fails : (d : SasFault) (r q : Remaining) (h : Head) → head_at r ≡ Ok (h, q) → Fails d (body_at (map length h.variables) q) → Fails d (task_at r)
unfolding task_at
body_fails d r q h e f = rw e (fails_bind d (body_at (map length h.variables) q) _ f)
