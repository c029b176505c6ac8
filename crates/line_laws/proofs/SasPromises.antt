-- What the laws promise.
use Rattle.std.proofs.Common.{◌⊎◌, inl, inr, ◌≡◌, ◌≢◌, ℕ, ◌≤◌, ◌<◌, ◌-◌, ◌^◌, List, [], ◌∷◌, ◌++◌, length, map, min, take, drop, refl, sym, ap, subst, ◌∙◌, arith, Some, Result, Ok, Err}
use Rattle.std.proofs.lemmas.List.{take-append-drop, length-take, length-take-le, take_all}
use Rattle.fdr.specs.Tasks.{FiniteDomainTask, IsTask}
use Rattle.sasfile_reader.specs.declared.fault.SasFault.{SasFault}
use Rattle.sasfile_reader.specs.declared.fault.SasFault.TheVariants as fault
use Rattle.sasfile_reader.specs.Lines.{lines}
use Rattle.sasfile_reader.specs.SasTexts.{SpellsTask}
use Rattle.sasfile_reader.specs.Reading.{Remaining, joined, head_at, body_at, task_at, task_in}
use Rattle.sasfile_reader.proofs.Steps.{ok_is, bind_ok}
use Rattle.sasfile_reader.proofs.Whole.{joined_task}
use Rattle.sasfile_reader.proofs.CompleteWhole.{task_complete}
use Rattle.sasfile_reader.proofs.Promises.{no_fault_is}
use Rattle.line_laws.specs.SasFaultLines.{line_of, IsWithin, HaveSameLines}
use Rattle.line_laws.proofs.SasWholeTexts.{lines_from}
use Rattle.line_laws.proofs.SasKept.{within_kept, whole_kept, named_there}
use Rattle.line_laws.proofs.SasTexts.{lines_on}

-- ---- what is spelled is a task

read_is_task : (r : Remaining) (t : FiniteDomainTask) → task_at r ≡ Ok t → IsTask t
unfolding task_at
read_is_task r t e =
    let h = bind_ok (head_at r) _ t e in
    let b = bind_ok (body_at (map length h.0.0.variables) h.0.1) _ t h.2 in
    subst IsTask (ok_is (joined h.0.0 b.0) t b.2) (joined_task h.0.0 b.0 r h.0.1 h.0.1 h.1 b.1)

pub spelled_is_task_is : (text : List ℕ) (t : FiniteDomainTask) → length text < 2 ^ 64 - 1 → SpellsTask text t → IsTask t
spelled_is_task_is text t room h = read_is_task (lines_from 1 (lines text)) t (task_complete text t room h)

-- ---- the first lines

abbrev fault_of : List (List ℕ) → Result FiniteDomainTask SasFault
fault_of ls = task_at (lines_from 1 ls)

same_by : (n : ℕ) (s t : List ℕ) (e : SasFault) → (n ≤ length (lines s)) ⊎ (length (lines s) < n) → HaveSameLines n s t → IsWithin n e → task_in s ≡ Err e → task_in t ≡ Err e
same_by n s t e (inl enough) same within is =
    let here : lines s ≡ take n (lines s) ++ drop n (lines s) = sym (take-append-drop n (lines s)) in
    let there : lines t ≡ take n (lines s) ++ drop n (lines t) = sym (take-append-drop n (lines t)) ∙ ap (λ (ls : List (List ℕ)). ls ++ drop n (lines t)) (sym same) in
    ap fault_of there ∙ within_kept n e (take n (lines s)) (drop n (lines s)) (drop n (lines t)) (length-take-le n (lines s) enough) within (ap fault_of (sym here) ∙ is)
same_by n s t e (inr few) same within is =
    let here : take n (lines s) ≡ lines s = take_all n (lines s) (omega arith) in
    let long : length (lines s) ≡ min n (length (lines t)) = ap (λ (ls : List (List ℕ)). length ls) (sym here ∙ same) ∙ length-take n (lines t) in
    let there : take n (lines t) ≡ lines t = take_all n (lines t) (grind arith) in
    ap fault_of (sym there ∙ sym same ∙ here) ∙ is

pub same_lines_is : (n : ℕ) (s t : List ℕ) (e : SasFault) → HaveSameLines n s t → IsWithin n e → task_in s ≡ Err e → task_in t ≡ Err e
same_lines_is n s t e same within is = let either : (n ≤ length (lines s)) ⊎ (length (lines s) < n) = grind arith in same_by n s t e either same within is

pub same_bytes_is : (front s t : List ℕ) (e : SasFault) → IsWithin (length (lines (front ++ 10 ∷ []))) e → task_in (front ++ 10 ∷ s) ≡ Err e → task_in (front ++ 10 ∷ t) ≡ Err e
same_bytes_is front s t e within is =
    ap fault_of (lines_on front t)
    ∙ within_kept (length (lines (front ++ 10 ∷ []))) e (lines (front ++ 10 ∷ [])) (lines s) (lines t) refl within (ap fault_of (sym (lines_on front s)) ∙ is)

pub nothing_spelled_is : (n : ℕ) (s t : List ℕ) (e : SasFault) (task : FiniteDomainTask) → HaveSameLines n s t → IsWithin n e → task_in s ≡ Err e → length t < 2 ^ 64 - 1 → SpellsTask t task → ⊥
nothing_spelled_is n s t e task h within is room spelled = no_fault_is t task e room spelled (same_lines_is n s t e h within is)

-- ---- whole lines

pub whole_lines_is : (front rest : List ℕ) (e : SasFault) → e ≢ fault.Truncated → task_in (front ++ 10 ∷ []) ≡ Err e → task_in (front ++ 10 ∷ rest) ≡ Err e
whole_lines_is front rest e other is =
    ap fault_of (lines_on front rest) ∙ whole_kept e (lines (front ++ 10 ∷ [])) (lines rest) other is

pub on_a_line_is : (text : List ℕ) (e : SasFault) (m : ℕ) → task_in text ≡ Err e → line_of e ≡ Some m → (1 ≤ m) × (m ≤ length (lines text))
on_a_line_is text e m is names = let there = named_there (lines text) e m is names in (there.some, there.most)

err_is : (d e : SasFault) → (r : Result FiniteDomainTask SasFault) → r ≡ Err d → r ≡ Err e → d ≡ e
err_is d e r f g = let z : Err d ≡ Err e = sym f ∙ g in cc

-- a fault that whole lines have is that of the text, which names a later line: so they were too few
pub before_by : (front rest : List ℕ) (e d : SasFault) (m : ℕ) → task_in (front ++ 10 ∷ rest) ≡ Err e → line_of e ≡ Some m → length (lines (front ++ 10 ∷ [])) < m → task_in (front ++ 10 ∷ []) ≡ Err d → d ≢ fault.Truncated → ⊥
before_by front rest e d m is names few alone other =
    let same : d ≡ e = err_is d e (task_in (front ++ 10 ∷ rest)) (whole_lines_is front rest d other alone) is in
    let there = on_a_line_is (front ++ 10 ∷ []) d m alone (ap line_of same ∙ names) in
    omega (arith, there.1)

truncated_by : (d : SasFault) → (d ≢ fault.Truncated → ⊥) → d ≡ fault.Truncated
truncated_by fault.OutOfMemory h = absurd (h (λ z. cc))
truncated_by (fault.Limit t) h = absurd (h (λ z. cc))
truncated_by (fault.Version n) h = absurd (h (λ z. cc))
truncated_by (fault.Expected n) h = absurd (h (λ z. cc))
truncated_by (fault.Range n) h = absurd (h (λ z. cc))
truncated_by (fault.Axioms n) h = absurd (h (λ z. cc))
truncated_by (fault.ConditionalEffect n) h = absurd (h (λ z. cc))
truncated_by fault.Truncated h = refl
truncated_by (fault.Trailing n) h = absurd (h (λ z. cc))

pub lines_before_is : (front rest : List ℕ) (e d : SasFault) (m : ℕ) → task_in (front ++ 10 ∷ rest) ≡ Err e → line_of e ≡ Some m → length (lines (front ++ 10 ∷ [])) < m → task_in (front ++ 10 ∷ []) ≡ Err d → d ≡ fault.Truncated
lines_before_is front rest e d m is names few alone = truncated_by d (before_by front rest e d m is names few alone)
