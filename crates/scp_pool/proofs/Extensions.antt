-- Extensions of pools.
use Rattle.std.proofs.Common.{◌≡◌, ℕ, ◌+◌, ◌≤◌, ◌<◌, Bool, true, false, List, [], ◌∷◌, ◌++◌, length, min, max, refl, sym, ap, ◌∙◌, subst, arith, append_assoc, length-append}
use Rattle.std.specs.Prelude.{All}
use Rattle.std.proofs.lemmas.List.{append-nil}
use Rattle.std.proofs.lemmas.List.Elements.{All-nil, All-cons, All-append, All-weaker}
use Rattle.fdr.specs.Tasks.{FiniteDomainTask}
use Rattle.abstraction_mapping.specs.Mappings.{Mapping}
use Rattle.pdb_patterns.specs.Choices.{IsMappingWithin}
use Rattle.scp_pool.specs.Pools.{PoolOf, IsExtension, IsPoolWith}

pub mapping_wider : (task : FiniteDomainTask) (limit larger : ℕ) (m : Mapping) → limit ≤ larger → IsMappingWithin task limit m → IsMappingWithin task larger m
mapping_wider task limit larger m le is = record { mapping = is.mapping; within = omega (arith, le, is.within); some = is.some; numbered = is.numbered }

pub extended_same : (limit : ℕ) (p : PoolOf) → IsExtension limit p p
extended_same limit p = record { task = refl; added = []; front = sym (append-nil p.mappings); within = All-nil (IsMappingWithin p.task limit) }

pub extended_twice : (limit : ℕ) (p q r : PoolOf) → IsExtension limit p q → IsExtension limit q r → IsExtension limit p r
extended_twice limit p q r a b = record {
  task = b.task ∙ a.task;
  added = a.added ++ b.added;
  front = b.front ∙ ap (λ ms. ms ++ b.added) a.front ∙ append_assoc p.mappings a.added b.added;
  within = All-append (IsMappingWithin p.task limit) a.added b.added a.within (subst (λ t. All (IsMappingWithin t limit) b.added) a.task b.within);
}

pub extended_wider : (limit larger : ℕ) (p q : PoolOf) → limit ≤ larger → IsExtension limit p q → IsExtension larger p q
extended_wider limit larger p q le is = record {
  task = is.task;
  added = is.added;
  front = is.front;
  within = All-weaker (IsMappingWithin p.task limit) (IsMappingWithin p.task larger) (λ m w. mapping_wider p.task limit larger m le w) is.added is.within;
}

pub extended_by : (limit : ℕ) (m : Mapping) (p q : PoolOf) (is_new : Bool) → IsMappingWithin p.task limit m → IsPoolWith m p q is_new → IsExtension limit p q
extended_by limit m p q true within is = let e = is.longer refl in record {
  task = ap (λ (r : PoolOf). r.task) e;
  added = m ∷ [];
  front = ap (λ (r : PoolOf). r.mappings) e;
  within = All-cons (IsMappingWithin p.task limit) m [] within (All-nil (IsMappingWithin p.task limit));
}
extended_by limit m p q false within is = subst (λ (r : PoolOf). IsExtension limit p r) (sym (is.same refl)) (extended_same limit p)

pub one_more : (m : Mapping) (p q : PoolOf) (is_new : Bool) → IsPoolWith m p q is_new → length q.mappings ≤ length p.mappings + 1
one_more m p q true is = omega (arith, ap (λ (r : PoolOf). length r.mappings) (is.longer refl), length-append p.mappings (m ∷ []))
one_more m p q false is = omega (arith, ap (λ (r : PoolOf). length r.mappings) (is.same refl))

-- an extension within one limit, and one within another
pub extended_both : (most first second : ℕ) (p q r : PoolOf) → IsExtension (min most first) p q → IsExtension (min most second) q r → IsExtension (min most (max first second)) p r
extended_both most first second p q r a b =
    let limit : ℕ = min most (max first second) in
    let low : min most first ≤ min most (max first second) = omega arith in
    let high : min most second ≤ min most (max first second) = omega arith in
    extended_twice limit p q r (extended_wider (min most first) limit p q low a) (extended_wider (min most second) limit q r high b)

pub extended_once : (most first second : ℕ) (p q : PoolOf) → IsExtension (min most first) p q → IsExtension (min most (max first second)) p q
extended_once most first second p q a =
    let low : min most first ≤ min most (max first second) = omega arith in extended_wider (min most first) (min most (max first second)) p q low a
