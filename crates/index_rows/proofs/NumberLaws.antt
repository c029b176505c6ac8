-- Numbers in lists.
use Rattle.std.proofs.Common.{◌≡◌, ℕ, Bool, true, List, length, take, drop, refl, sym, ap, ◌∙◌, arith, eqb}
use Rattle.std.specs.List.{list_any, dedup, refill}
use Rattle.std.specs.List.Sorted.{IsPermutation}
use Rattle.std.proofs.Math.Seq.{take-length}
use Rattle.std.proofs.lemmas.Bool.{eqb-true, eq-eqb}
use Rattle.std.proofs.lemmas.List.{take-append-le}
use Rattle.std.proofs.lemmas.List.Kept.{Contains-dedup_nat, Contains-from_dedup}
use Rattle.std.proofs.lemmas.List.Sorted.{Contains-permutation, IsPermutation-sym}
use Rattle.pddl_task.proofs.Lists.{Mem, bool_same, mem_from_contains, contains_from_mem, any_at, any_from}
use Rattle.index_rows.specs.Numbers.{has, AreSameSet}

pub has_mem : (numbers : List ℕ) (k : ℕ) → has numbers k ≡ true → Mem k numbers
has_mem numbers k h = let w = any_at (λ n. eqb n k) numbers h in rw (← eqb-true w.0 k w.2) w.1

pub mem_has : (numbers : List ℕ) (k : ℕ) → Mem k numbers → has numbers k ≡ true
mem_has numbers k m = any_from (λ n. eqb n k) numbers k m (eq-eqb k k refl)

-- numbers that were sorted, and of which the repeats were dropped
pub sorted_same : (numbers sorted kept : List ℕ) → IsPermutation numbers sorted → kept ≡ dedup eqb sorted → AreSameSet kept numbers
sorted_same numbers sorted kept order e p =
    ap (λ (ps : List ℕ). has ps p) e
    ∙ bool_same (has (dedup eqb sorted) p) (has numbers p)
    (λ h. mem_has numbers p (mem_from_contains numbers p
    (Contains-permutation sorted numbers p (IsPermutation-sym numbers sorted order)
    (Contains-from_dedup eqb sorted p (contains_from_mem (dedup eqb sorted) p (has_mem (dedup eqb sorted) p h))))))
    (λ h. mem_has (dedup eqb sorted) p (mem_from_contains (dedup eqb sorted) p
    (Contains-dedup_nat sorted p (Contains-permutation numbers sorted p order (contains_from_mem numbers p (has_mem numbers p h))))))

-- as many elements in the place of those that were there
pub refill_same : (xs ws : List ℕ) → length ws ≡ length xs → refill (length xs) xs ws ≡ ws
refill_same xs ws e = take-append-le (length xs) ws (drop (length ws) xs) (omega (arith, e)) ∙ ap (λ n. take n ws) (sym e) ∙ take-length ws
