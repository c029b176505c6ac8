-- Steps through the lists of predicates and of functions.
use Rattle.std.proofs.Common.{◌≡◌, ◌≤◌, ◌+◌, arith, ℕ, Bool, true, false, List, [], ◌∷◌, ◌++◌, refl, ap, if◌then◌else◌}
use Rattle.std.specs.Prelude.{nat_le}
use Rattle.sexp.specs.declared.tree.Tree.{Tree}
use Rattle.sexp.specs.Forms.{Forms, none, word, group, before}
use Rattle.pddl_syntax.specs.declared.fault.Fault.{Fault}
use Rattle.pddl_syntax.specs.declared.fault.FaultKind.TheVariants.{Shape, Limit}
use Rattle.pddl_syntax.specs.declared.fault.LimitedTable.TheVariants.{Predicates, Functions}
use Rattle.pddl_syntax.specs.Faults.{fault, faults_if}
use Rattle.pddl_syntax.specs.Words.{word_kind}
use Rattle.pddl_syntax.specs.Heads.{Heads}
use Rattle.pddl_syntax.proofs.Trees.{at_tree}
use Rattle.pddl_domain.specs.DeclaredHeads.{with_item, with_list, item_faults, list_faults, count_after, has_equals, empty_after, predicate_heads, predicates_faults, function_heads, heads_behind, functions_faults}

if_append : (b : Bool) (f : Fault) (fs gs : List Fault) → faults_if b f (fs ++ gs) ≡ faults_if b f fs ++ gs
if_append true f fs gs = refl
if_append false f fs gs = refl

module _ (known : List ℕ → Bool) (heads : Heads) (count at end : ℕ) where
  -- ---- predicates

  pub equals_heads : (i rest : Forms) → has_equals i ≡ true → predicate_heads heads (group at end i rest) ≡ predicate_heads heads rest
  equals_heads none rest skipped = refl
  equals_heads (word hs he t i) rest skipped = ap (λ (b : Bool). predicate_heads (if b then heads else with_item (word_kind t) heads t i) rest) skipped
  equals_heads (group hs he head i) rest skipped = refl

  pub equals_faults : (i rest : Forms) → has_equals i ≡ true → predicates_faults known heads count (group at end i rest) ≡ predicates_faults known heads count rest
  equals_faults none rest skipped = absurd cc
  equals_faults (word hs he t i) rest skipped =
      ap (λ (b : Bool). if b then predicates_faults known heads count rest
      else item_faults known Predicates heads count at hs (word_kind t) t i ++ predicates_faults known (with_item (word_kind t) heads t i) (count + 1) rest) skipped
  equals_faults (group hs he head i) rest skipped = absurd cc

  pub predicate_heads_step : (i rest : Forms) → has_equals i ≡ false → predicate_heads heads (group at end i rest) ≡ predicate_heads (with_list heads i) rest
  predicate_heads_step none rest other = refl
  predicate_heads_step (word hs he t i) rest other = ap (λ (b : Bool). predicate_heads (if b then heads else with_item (word_kind t) heads t i) rest) other
  predicate_heads_step (group hs he head i) rest other = refl

  pub predicate_faults_step : (i rest : Forms) → has_equals i ≡ false
      → predicates_faults known heads count (group at end i rest)
      ≡ list_faults known Predicates heads count at i ++ predicates_faults known (with_list heads i) (count_after count i) rest
  predicate_faults_step none rest other = refl
  predicate_faults_step (word hs he t i) rest other =
      ap (λ (b : Bool). if b then predicates_faults known heads count rest
      else item_faults known Predicates heads count at hs (word_kind t) t i ++ predicates_faults known (with_item (word_kind t) heads t i) (count + 1) rest) other
  predicate_faults_step (group hs he head i) rest other =
      if_append (nat_le 512 count) (fault (Limit Predicates) at) (fault Shape hs ∷ []) (predicates_faults known heads (count + 1) rest)

  -- ---- functions

  pub function_heads_step : (i rest : Forms) → function_heads heads (group at end i rest) ≡ function_heads (with_list heads i) rest
  function_heads_step none rest = refl
  function_heads_step (word hs he t i) rest = refl
  function_heads_step (group hs he head i) rest = refl

  pub function_faults_step : (home : ℕ) (empty : Bool) (i rest : Forms)
      → functions_faults known home empty heads count (group at end i rest)
      ≡ list_faults known Functions heads count at i ++ functions_faults known home (empty_after empty i) (with_list heads i) (count_after count i) rest
  function_faults_step home empty none rest = refl
  function_faults_step home empty (word hs he t i) rest = refl
  function_faults_step home empty (group hs he head i) rest =
      if_append (nat_le 512 count) (fault (Limit Functions) at) (fault Shape hs ∷ []) (functions_faults known home false heads (count + 1) rest)

pub not_empty_after : (empty : Bool) (t : Tree) (rest : Forms) → empty_after empty (before t rest) ≡ false
not_empty_after empty = at_tree (λ f rest. empty_after empty f ≡ false) (λ s e text rest. refl) (λ s e inner rest. refl)

pub at_most_one : (count new : ℕ) (f : Forms) → new ≡ count_after count f → new ≤ count + 1
at_most_one count new none e = omega arith
at_most_one count new (word s e t f) is = omega arith
at_most_one count new (group s e i f) is = omega arith

-- one tree is stepped over behind a hyphen
pub behind_number : (heads : Heads) (t : Tree) (rest : Forms) → heads_behind heads (before t rest) ≡ function_heads heads rest
behind_number heads = at_tree (λ f rest. heads_behind heads f ≡ function_heads heads rest) (λ s e text rest. refl) (λ s e inner rest. refl)
