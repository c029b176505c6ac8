-- An owner and its log: what an event changes in both.
use Rattle.std.proofs.Common.{◌≡◌, ◌≢◌, ℕ, suc, ◌+◌, ◌≤◌, Option, Some, None, refl, sym, ap, ◌∙◌, subst, arith, is_some, if◌then◌else◌}
use Rattle.std.specs.Prelude.{slice_get, IfSome}
use Rattle.cost.specs.Distances.{Distance}
use Rattle.owner_theory.specs.Owners.{SearchSpace, Node, Owner, Log, Expand, count_at, expanded_at, happens}
use Rattle.owner_theory.proofs.Lists.{get_at}
use Rattle.owner.specs.Spaces.{SpaceOf}
use Rattle.owner.specs.Owned.{OwnerOf, under, counted_under, IsLogOf, IsNext}
use Rattle.owner.proofs.NextNodes.{next_may}

-- ---- counting
-- one expansion more is counted, if there is a limit
expansion_counted : (limit : Option ℕ) (before after expansions one : ℕ) → one ≡ 1 → before ≡ counted_under limit expansions
    → after ≡ (if is_some limit then suc before else before) → after ≡ counted_under limit (expansions + one)
expansion_counted None before after expansions one is counted more = more ∙ counted
expansion_counted (Some limit) before after expansions one is counted more = omega (arith, is, counted, more)

expansion_allowed : (limit : Option ℕ) (before expansions one : ℕ) → one ≡ 1 → before ≡ counted_under limit expansions
    → IfSome limit (λ l. expansions ≤ l) → limit ≢ Some before → IfSome limit (λ l. expansions + one ≤ l)
expansion_allowed None before expansions one is counted allowed below = tt
expansion_allowed (Some limit) before expansions one is counted allowed below =
    let apart : limit ≢ before = λ same. below (ap Some same) in
    omega (arith, is, counted, allowed, apart)

none_counted : (limit : Option ℕ) → counted_under limit 0 ≡ 0
none_counted None = refl
none_counted (Some limit) = refl

none_allowed : (limit : Option ℕ) → IfSome limit (λ l. 0 ≤ l)
none_allowed None = tt
none_allowed (Some limit) = omega arith

module _ {S : Type 0} where
  -- ---- events
  -- at the start
  pub first_log : (log : Log) (o : OwnerOf S) (b : Distance) → log.owner ≡ under o b → log.expansions ≡ 0 → o.expansions ≡ 0 → IsLogOf log o b
  first_log log o b is none zero = record {
    owner = is;
    counted = subst (λ n. o.expansions ≡ counted_under o.space.limit n) (sym none) (zero ∙ sym (none_counted o.space.limit));
    allowed = subst (λ n. IfSome o.space.limit (λ l. n ≤ l)) (sym none) (none_allowed o.space.limit);
  }

  -- an event other than an expansion
  pub log_after : (old new : Log) (o p : OwnerOf S) (b c : Distance) → IsLogOf old o b → new.owner ≡ under p c → new.expansions ≡ old.expansions
      → p.space ≡ o.space → p.expansions ≡ o.expansions → IsLogOf new p c
  log_after old new o p b c log is count space same = record {
    owner = is;
    counted = same ∙ (log.counted ∙ (ap (counted_under o.space.limit) (sym count) ∙ ap (λ (s : SpaceOf S). counted_under s.limit new.expansions) (sym space)));
    allowed = subst (λ (s : SpaceOf S). IfSome s.limit (λ l. new.expansions ≤ l)) (sym space)
        (subst (λ n. IfSome o.space.limit (λ l. n ≤ l)) (sym count) log.allowed);
  }

  -- the expansion of the owner's next node
  pub log_expanded : (space : SearchSpace) (log : Log) (o p : OwnerOf S) (b : Distance) (me index : ℕ) (node : Node) → IsLogOf log o b
      → IsNext o.space.ties space o.nodes o.ever b index node → o.space.limit ≢ Some o.expansions
      → under p b ≡ expanded_at space me (under o b) index (Some node) → p.space ≡ o.space
      → p.expansions ≡ (if is_some o.space.limit then suc o.expansions else o.expansions) → IsLogOf (happens space me log (Expand index)) p b
  log_expanded space log o p b me index node is next allowed after same counts =
      let there : slice_get o.nodes index ≡ Some node = get_at o.nodes index node next.there in
      let one : count_at space log.owner (slice_get log.owner.nodes index) ≡ 1 =
      ap (λ (w : Owner). count_at space w (slice_get w.nodes index)) is.owner
      ∙ (ap (count_at space (under o b)) there ∙ ap (λ t. if t then 1 else 0) (next_may space o.ever (under o b) index node next)) in
      let count = log.expansions + count_at space log.owner (slice_get log.owner.nodes index) in
      record {
        owner = ap (λ (w : Owner). expanded_at space me w index (slice_get w.nodes index)) is.owner
            ∙ (ap (expanded_at space me (under o b) index) there ∙ sym after);
        counted = subst (λ (s : SpaceOf S). p.expansions ≡ counted_under s.limit count) (sym same)
            (expansion_counted o.space.limit o.expansions p.expansions log.expansions _ one is.counted counts);
        allowed = subst (λ (s : SpaceOf S). IfSome s.limit (λ l. count ≤ l)) (sym same)
            (expansion_allowed o.space.limit o.expansions log.expansions _ one is.counted is.allowed allowed);
      }
