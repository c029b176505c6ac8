-- Violations of a certificate, and which of them is the first.
use Rattle.std.specs.Prelude.{◌≡◌, ℕ, zero, suc, ◌<◌, false, ◌&&◌, List, [], ◌∷◌, ◌++◌, length, Option, Some, None, option_and_then, slice_get, IsSomeAnd, codes, decimal}
use Rattle.fdr.specs.Tasks.{FiniteDomainTask, ranges}
use Rattle.cert_value.specs.Certificates.{Table, CertificateValue}
use Rattle.checker_clauses.specs.declared.violation.Violation.{Violation}
use Rattle.checker_clauses.specs.declared.violation.Violation.TheVariants.{Classes, Shares, TableForm, GoalValue, Fall, ClosedState, Start, ClosedGoal, Successor}
use Rattle.checker_clauses.specs.Clauses.{fits_row, judged_task, abstraction_of, is_within_cost, has_form, is_goal_at_zero, falls_within_share, is_state, is_behind, is_covered, is_dear_if_goal, covers_successor, comes_before}

-- the table with the number j in the column with the number i
abbrev pub table_at : List (List Table) → ℕ → ℕ → Option Table
table_at columns i j = option_and_then (λ column. slice_get column j) (slice_get columns i)

-- the certificate has this violation, for the task that the clause is about
abbrev pub Violates : FiniteDomainTask → CertificateValue → Violation → Type 0
Violates task c (Classes v) = (0 < length c.classes) × (fits_row task c.classes v ≡ false)
Violates task c (Shares i o) = IsSomeAnd (slice_get c.columns i) (λ column. is_within_cost task column o ≡ false)
Violates task c (TableForm i j) = IsSomeAnd (table_at c.columns i j) (λ t. has_form task t ≡ false)
Violates task c (GoalValue i j a) =
    IsSomeAnd (table_at c.columns i j) (λ t. (a < (abstraction_of task t).size) × (is_goal_at_zero task t a ≡ false))
Violates task c (Fall i j a o) =
    IsSomeAnd (table_at c.columns i j) (λ t. (a < (abstraction_of task t).size) × (falls_within_share task t a o ≡ false))
Violates task c (ClosedState i) =
    IsSomeAnd (slice_get c.closed i) (λ e. (is_state (ranges task) e.state && is_behind c.closed i e.state) ≡ false)
Violates task c Start = is_covered task c task.initial 0 ≡ false
Violates task c (ClosedGoal i) = IsSomeAnd (slice_get c.closed i) (λ e. is_dear_if_goal task c e ≡ false)
Violates task c (Successor i o) = IsSomeAnd (slice_get c.closed i) (λ e. covers_successor task c e o ≡ false)

-- the number of the clause
abbrev pub clause_of : Violation → ℕ
clause_of (Classes v) = 0
clause_of (Shares i o) = 3
clause_of (TableForm i j) = 4
clause_of (GoalValue i j a) = 4
clause_of (Fall i j a o) = 4
clause_of (ClosedState i) = 5
clause_of Start = 6
clause_of (ClosedGoal i) = 7
clause_of (Successor i o) = 8

-- the place within the clause; of one table its form comes first, then its abstract goals, then its transitions
abbrev pub place_of : Violation → List ℕ
place_of (Classes v) = v ∷ []
place_of (Shares i o) = i ∷ o ∷ []
place_of (TableForm i j) = i ∷ j ∷ 0 ∷ []
place_of (GoalValue i j a) = i ∷ j ∷ 1 ∷ a ∷ []
place_of (Fall i j a o) = i ∷ j ∷ 2 ∷ a ∷ o ∷ []
place_of (ClosedState i) = i ∷ []
place_of Start = []
place_of (ClosedGoal i) = i ∷ []
place_of (Successor i o) = i ∷ o ∷ []

-- the certificate satisfies the clause: it has no violation of it
abbrev pub IsMet : FiniteDomainTask → CertificateValue → ℕ → Type 0
IsMet task c k = (v : Violation) → clause_of v ≡ k → Violates task c v → ⊥

-- the certificate has this violation, and none before it of the same clause
pub record IsFirstOfClause (task : FiniteDomainTask) (c : CertificateValue) (v : Violation) : Type 0 where
  pub there : Violates task c v
  pub first : (w : Violation) → clause_of w ≡ clause_of v → Violates task c w → comes_before (place_of w) (place_of v) ≡ false

-- the result of the test of one clause: the first violation, or none
abbrev pub IsFoundIn : FiniteDomainTask → CertificateValue → ℕ → Option Violation → Type 0
IsFoundIn task c k None = IsMet task c k
IsFoundIn task c k (Some v) = (clause_of v ≡ k) × IsFirstOfClause task c v

-- the task that a clause is about, in a certificate for a task: C0 is about the task itself, the others about the
-- judged one
abbrev pub clause_task : FiniteDomainTask → CertificateValue → ℕ → FiniteDomainTask
clause_task task c zero = task
clause_task task c (suc k) = judged_task task c.classes

-- the certificate has this violation, and none before it: every earlier clause is satisfied
pub record IsFirstViolation (task : FiniteDomainTask) (c : CertificateValue) (v : Violation) : Type 0 where
  pub of_clause : IsFirstOfClause (clause_task task c (clause_of v)) c v
  pub before : (k : ℕ) → k < clause_of v → IsMet (clause_task task c k) c k

-- the certificate has no violation
abbrev pub IsHeld : FiniteDomainTask → CertificateValue → Type 0
IsHeld task c = (v : Violation) → Violates (clause_task task c (clause_of v)) c v → ⊥

-- a blank, a word, a blank and a number
abbrev pub numbered : List ℕ → ℕ → List ℕ
numbered word n = 32 ∷ word ++ (32 ∷ decimal n)

-- the text of a violation: clause and place
abbrev pub violation_text : Violation → List ℕ
violation_text (Classes v) = codes "C0" ++ numbered (codes "var") v
violation_text (Shares i o) = codes "C3" ++ (numbered (codes "column") i ++ numbered (codes "op") o)
violation_text (TableForm i j) = codes "C4" ++ (numbered (codes "column") i ++ numbered (codes "table") j)
violation_text (GoalValue i j a) =
    codes "C4" ++ (numbered (codes "column") i ++ (numbered (codes "table") j ++ numbered (codes "state") a))
violation_text (Fall i j a o) =
    codes "C4" ++ (numbered (codes "column") i ++ (numbered (codes "table") j ++ (numbered (codes "state") a ++ numbered (codes "op") o)))
violation_text (ClosedState i) = codes "C5" ++ numbered (codes "state") i
violation_text Start = codes "C6"
violation_text (ClosedGoal i) = codes "C7" ++ numbered (codes "state") i
violation_text (Successor i o) = codes "C8" ++ (numbered (codes "state") i ++ numbered (codes "op") o)
