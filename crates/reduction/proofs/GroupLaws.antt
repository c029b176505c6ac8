-- Groups of equal operators, operator by operator.
use Rattle.std.proofs.Common.{◌≡◌, ℕ, zero, suc, ◌+◌, ◌-◌, ◌<◌, ◌≤◌, Bool, true, false, List, [], ◌∷◌, ◌++◌, length, get_or, ltb, Option, Some, None, refl, sym, ap, subst, ◌∙◌, arith, inl, inr, ⊎_elim}
use Rattle.std.specs.Prelude.{◌⊎◌, ◌↔◌, All, Contains, IsSomeAnd, slice_get, slice_set}
use Rattle.std.proofs.lemmas.Bool.{false≢true, cond_both, ltb-true, ltb-false, cases_eq, cases_lt, cases_order}
use Rattle.std.proofs.lemmas.Option.{none-some, same_Some, slice_get-get_or, slice_get_within, get_or_from_slice_get}
use Rattle.std.proofs.lemmas.List.{length-set, length_push}
use Rattle.std.specs.List.Sorted.{IsStrictlyIncreasing}
use Rattle.std.proofs.lemmas.List.Elements.{Contains-get_or}
use Rattle.fdr.specs.declared.fact.Fact.{Fact}
use Rattle.fdr.specs.Tasks.{FiniteDomainTask, Operator, ranges, cost_of}
use Rattle.reduction.specs.Facts.{Facts}
use Rattle.reduction.specs.Asked.{ChangesClass, changes_classes}
use Rattle.reduction.specs.Retained.{AreEqual, AreEqualAt, IsBefore, IsRetained, AreRetained, Covers}
use Rattle.reduction.specs.Images.{IsImageOf, HasImage}
use Rattle.reduction.specs.Groups.{IsBest, AreGroups}
use Rattle.reduction.specs.Adding.{Adds}
use Rattle.reduction.specs.Closing.{is_marked}
use Rattle.reduction.proofs.OrderLaws.{equal_by_image, image_by_equal, one_image}

-- ---- elements by index

push_get : {X : Type 0} (xs : List X) (y : X) (g : ℕ) (z : X) → slice_get (xs ++ y ∷ []) g ≡ Some z → (slice_get xs g ≡ Some z) ⊎ ((g ≡ length xs) × (y ≡ z))
push_get [] y zero z h = inr (refl, same_Some y z h)
push_get [] y (suc g) z h = absurd (none-some z h)
push_get (x ∷ xs) y zero z h = inl h
push_get (x ∷ xs) y (suc g) z h =
    ⊎_elim (λ (e : slice_get xs g ≡ Some z). inl e) (λ (e : (g ≡ length xs) × (y ≡ z)). inr (omega (arith, e.0), e.1)) (push_get xs y g z h)

pub push_old : {X : Type 0} (xs : List X) (y : X) (g : ℕ) (z : X) → slice_get xs g ≡ Some z → slice_get (xs ++ y ∷ []) g ≡ Some z
push_old [] y g z h = absurd (none-some z h)
push_old (x ∷ xs) y zero z h = h
push_old (x ∷ xs) y (suc g) z h = push_old xs y g z h

pub push_new : {X : Type 0} (xs : List X) (y : X) → slice_get (xs ++ y ∷ []) (length xs) ≡ Some y
push_new [] y = refl
push_new (x ∷ xs) y = push_new xs y

set_get : (xs : List ℕ) (g y h z : ℕ) → slice_get (slice_set xs g y) h ≡ Some z → ((h ≡ g) × (y ≡ z)) ⊎ ((h ≡ g → ⊥) × (slice_get xs h ≡ Some z))
set_get [] g y h z e = absurd (none-some z e)
set_get (x ∷ xs) zero y zero z e = inl (refl, same_Some y z e)
set_get (x ∷ xs) zero y (suc h) z e = inr (λ (q : suc h ≡ zero). absurd (omega arith), e)
set_get (x ∷ xs) (suc g) y zero z e = inr (λ (q : zero ≡ suc g). absurd (omega arith), e)
set_get (x ∷ xs) (suc g) y (suc h) z e =
    ⊎_elim (λ (s : (h ≡ g) × (y ≡ z)). inl (omega (arith, s.0), s.1)) (λ (s : (h ≡ g → ⊥) × (slice_get xs h ≡ Some z)). inr (λ (q : suc h ≡ suc g). s.0 (omega arith), s.1)) (set_get xs g y h z e)

-- an index below the length has an element
pub has_element : {X : Type 0} (xs : List X) (g : ℕ) → g < length xs → (x : X) × (slice_get xs g ≡ Some x)
has_element [] g l = absurd (omega arith)
has_element (x ∷ xs) zero l = (x, refl)
has_element (x ∷ xs) (suc g) l = has_element xs g (omega arith)

contains_at : (xs : List ℕ) (g x : ℕ) → slice_get xs g ≡ Some x → Contains xs x
contains_at xs g x h = (g, slice_get_within xs g x h, get_or_from_slice_get xs g x x h)

at_contains : (xs : List ℕ) (x : ℕ) → Contains xs x → (g : ℕ) × (slice_get xs g ≡ Some x)
at_contains xs x h = (h.0, slice_get-get_or xs h.0 x h.1 ∙ ap Some h.2)

-- ---- images

-- an operator has one image
same_image : (task : FiniteDomainTask) (classes : List (List ℕ)) (o : ℕ) (i q : List Fact × List Fact) → HasImage task classes o i.0 i.1 → HasImage task classes o q.0 q.1 → i ≡ q
same_image task classes o i q a b = go (slice_get task.operators o) a b
  where
    go : (r : Option Operator) → IsSomeAnd r (λ op. IsImageOf classes op i.0 i.1) → IsSomeAnd r (λ op. IsImageOf classes op q.0 q.1) → i ≡ q
    go None a b = absurd a
    go (Some op) a b =
        let same = one_image classes op i.0 i.1 q.0 q.1 a b in
        ap (λ (p : List Fact). (p, i.1)) same.0 ∙ ap (λ (e : List Fact). (q.0, e)) same.1

pub equal_at : (task : FiniteDomainTask) (classes : List (List ℕ)) (o p : ℕ) (i : List Fact × List Fact) → HasImage task classes o i.0 i.1 → HasImage task classes p i.0 i.1 → AreEqualAt task classes o p
equal_at task classes o p i a b = go (slice_get task.operators o) a (slice_get task.operators p) b
  where
    go : (r : Option Operator) → IsSomeAnd r (λ op. IsImageOf classes op i.0 i.1) → (q : Option Operator) → IsSomeAnd q (λ op. IsImageOf classes op i.0 i.1) → IsSomeAnd r (λ x. IsSomeAnd q (λ y. AreEqual classes x y))
    go None a q b = absurd a
    go (Some x) a None b = absurd b
    go (Some x) a (Some y) b = equal_by_image classes x y i.0 i.1 a b

image_at_equal : (task : FiniteDomainTask) (classes : List (List ℕ)) (o p : ℕ) (i : List Fact × List Fact) → HasImage task classes o i.0 i.1 → AreEqualAt task classes o p → HasImage task classes p i.0 i.1
image_at_equal task classes o p i a e = go (slice_get task.operators o) a (slice_get task.operators p) e
  where
    go : (r : Option Operator) → IsSomeAnd r (λ op. IsImageOf classes op i.0 i.1) → (q : Option Operator) → IsSomeAnd r (λ x. IsSomeAnd q (λ y. AreEqual classes x y)) → IsSomeAnd q (λ op. IsImageOf classes op i.0 i.1)
    go None a q e = absurd a
    go (Some x) a None e = absurd e
    go (Some x) a (Some y) e = image_by_equal classes x y i.0 i.1 a e

-- ---- one operator more

pub groups_none : (task : FiniteDomainTask) (classes : List (List ℕ)) (marks : List Bool) → AreGroups task classes marks 0 [] []
groups_none task classes marks =
    record {
      as_many = refl;
      distinct = λ g h i a b. absurd (none-some i a);
      bests = λ g o i a b. absurd (none-some o b);
      covered = λ o l m. absurd (omega arith);
    }

module _ (task : FiniteDomainTask) (classes : List (List ℕ)) (marks : List Bool) (n : ℕ) where
  -- an operator that is not before itself
  not_before : (o : ℕ) → IsBefore task o o → ⊥
  not_before o h = ⊎_elim (λ (l : cost_of task o < cost_of task o). absurd (omega arith)) (λ (l : (cost_of task o ≡ cost_of task o) × (o < o)). let k : o < o = l.1 in absurd (omega arith)) h

  -- the best stays, if the next operator has other images or is not marked or is not before it
  best_stays : (p e : List Fact) (o : ℕ) → IsBest task classes marks n p e o → (is_marked marks n ≡ true → HasImage task classes n p e → IsBefore task n o → ⊥) → IsBest task classes marks (n + 1) p e o
  best_stays p e o best next =
      record {
        below = omega (arith, best.below);
        marked = best.marked;
        image = best.image;
        first = λ q l m i. ⊎_elim
            (λ (s : q ≡ n). λ (b : IsBefore task q o). next (subst (λ (k : ℕ). is_marked marks k ≡ true) s m) (subst (λ (k : ℕ). HasImage task classes k p e) s i) (subst (λ (k : ℕ). IsBefore task k o) s b))
            (λ (s : q ≡ n → ⊥). best.first q (omega arith) m i)
            (cases_eq q n);
      }

  pub groups_skip : (images : List (List Fact × List Fact)) (best : List ℕ) → AreGroups task classes marks n images best → is_marked marks n ≡ false → AreGroups task classes marks (n + 1) images best
  groups_skip images best are u =
      record {
        as_many = are.as_many;
        distinct = are.distinct;
        bests = λ g o i a b. best_stays i.0 i.1 o (are.bests g o i a b) (λ m. absurd (false≢true (sym u ∙ m)));
        covered = λ o l m. ⊎_elim
            (λ (s : o ≡ n). absurd (false≢true (sym u ∙ subst (λ (k : ℕ). is_marked marks k ≡ true) s m)))
            (λ (s : o ≡ n → ⊥). are.covered o (omega arith) m) (cases_eq o n);
      }

  module _ (images : List (List Fact × List Fact)) (best : List ℕ) (are : AreGroups task classes marks n images best)
      (marked : is_marked marks n ≡ true) (q : List Fact × List Fact) (image : HasImage task classes n q.0 q.1) where
    covered_more : (more : List (List Fact × List Fact)) → ((g : ℕ) (i : List Fact × List Fact) → slice_get images g ≡ Some i → slice_get more g ≡ Some i) → (g : ℕ) → slice_get more g ≡ Some q →
        (o : ℕ) → o < n + 1 → is_marked marks o ≡ true → (h : ℕ) × (i : List Fact × List Fact) × (slice_get more h ≡ Some i) × HasImage task classes o i.0 i.1
    covered_more more keeps g at o l m =
        ⊎_elim
        (λ (s : o ≡ n). (g, q, at, subst (λ (k : ℕ). HasImage task classes k q.0 q.1) (sym s) image))
        (λ (s : o ≡ n → ⊥). let was = are.covered o (omega arith) m in (was.0, was.1, keeps was.0 was.1 was.2, was.3))
        (cases_eq o n)

    -- ---- new images

    module _ (absent : (g : ℕ) → slice_get images g ≡ Some q → ⊥) where
      not_same : (g : ℕ) (i : List Fact × List Fact) → slice_get images g ≡ Some i → i ≡ q → ⊥
      not_same g i a e = absent g (a ∙ ap Some e)

      best_new : IsBest task classes marks (n + 1) q.0 q.1 n
      best_new =
          record {
            below = omega arith;
            marked = marked;
            image = image;
            first = λ p l m i. ⊎_elim
                (λ (s : p ≡ n). λ (b : IsBefore task p n). not_before n (subst (λ (k : ℕ). IsBefore task k n) s b))
                (λ (s : p ≡ n → ⊥). let was = are.covered p (omega arith) m in absurd (not_same was.0 was.1 was.2 (same_image task classes p was.1 q was.3 i)))
                (cases_eq p n);
          }

      pub groups_new : AreGroups task classes marks (n + 1) (images ++ q ∷ []) (best ++ n ∷ [])
      groups_new =
          record {
            as_many = omega (arith, length_push best n, length_push images q, are.as_many);
            distinct = λ g h i a b. ⊎_elim
                (λ (x : slice_get images g ≡ Some i).
                ⊎_elim (λ (y : slice_get images h ≡ Some i). are.distinct g h i x y) (λ (y : (h ≡ length images) × (q ≡ i)). absurd (not_same g i x (sym y.1))) (push_get images q h i b))
                (λ (x : (g ≡ length images) × (q ≡ i)).
                ⊎_elim (λ (y : slice_get images h ≡ Some i). absurd (not_same h i y (sym x.1))) (λ (y : (h ≡ length images) × (q ≡ i)). x.0 ∙ sym y.0) (push_get images q h i b))
                (push_get images q g i a);
            bests = λ g o i a b. ⊎_elim
                (λ (x : slice_get images g ≡ Some i).
                ⊎_elim
                (λ (y : slice_get best g ≡ Some o). best_stays i.0 i.1 o (are.bests g o i x y) (λ m k. absurd (not_same g i x (same_image task classes n i q k image))))
                (λ (y : (g ≡ length best) × (n ≡ o)). let within = slice_get_within images g i x in absurd (omega (arith, within, y.0, are.as_many)))
                (push_get best n g o b))
                (λ (x : (g ≡ length images) × (q ≡ i)).
                ⊎_elim
                (λ (y : slice_get best g ≡ Some o). let within = slice_get_within best g o y in absurd (omega (arith, within, x.0, are.as_many)))
                (λ (y : (g ≡ length best) × (n ≡ o)).
                subst (λ (k : ℕ). IsBest task classes marks (n + 1) i.0 i.1 k) y.1 (subst (λ (j : List Fact × List Fact). IsBest task classes marks (n + 1) j.0 j.1 n) x.1 best_new))
                (push_get best n g o b))
                (push_get images q g i a);
            covered = covered_more (images ++ q ∷ []) (λ g i a. push_old images q g i a) (length images) (push_new images q);
          }

    -- ---- known images

    module _ (g b : ℕ) (at : slice_get images g ≡ Some q) (its : slice_get best g ≡ Some b) where
      -- the best of another group stays
      other_stays : (h o : ℕ) (i : List Fact × List Fact) → (h ≡ g → ⊥) → slice_get images h ≡ Some i → slice_get best h ≡ Some o → IsBest task classes marks (n + 1) i.0 i.1 o
      other_stays h o i ne a c =
          best_stays i.0 i.1 o (are.bests h o i a c) (λ m k. absurd (ne (are.distinct h g q (a ∙ ap Some (same_image task classes n i q k image)) at)))

      image_of_group : (h : ℕ) (i : List Fact × List Fact) → h ≡ g → slice_get images h ≡ Some i → i ≡ q
      image_of_group h i e a = same_Some i q (sym a ∙ ap (slice_get images) e ∙ at)

      pub groups_same : (cost_of task n < cost_of task b → ⊥) → AreGroups task classes marks (n + 1) images best
      groups_same dear =
          record {
            as_many = are.as_many;
            distinct = are.distinct;
            bests = λ h o i a c. ⊎_elim
                (λ (e : h ≡ g).
                let same : o ≡ b = same_Some o b (sym c ∙ ap (slice_get best) e ∙ its) in
                best_stays i.0 i.1 o (are.bests h o i a c) (λ m k. λ (before : IsBefore task n o).
                let low : o < n = (are.bests h o i a c).below in
                ⊎_elim
                (λ (l : cost_of task n < cost_of task o). dear (subst (λ (k : ℕ). cost_of task n < cost_of task k) same l))
                (λ (l : (cost_of task n ≡ cost_of task o) × (n < o)). let k : n < o = l.1 in absurd (omega arith))
                before))
                (λ (ne : h ≡ g → ⊥). other_stays h o i ne a c)
                (cases_eq h g);
            covered = covered_more images (λ h i a. a) g at;
          }

      best_cheaper : cost_of task n < cost_of task b → IsBest task classes marks (n + 1) q.0 q.1 n
      best_cheaper cheap =
          record {
            below = omega arith;
            marked = marked;
            image = image;
            first = λ p l m i. ⊎_elim
                (λ (s : p ≡ n). λ (before : IsBefore task p n). not_before n (subst (λ (k : ℕ). IsBefore task k n) s before))
                (λ (s : p ≡ n → ⊥). λ (before : IsBefore task p n).
                (are.bests g b q at its).first p (omega arith) m i
                (⊎_elim (λ (k : cost_of task p < cost_of task n). inl (omega arith)) (λ (k : (cost_of task p ≡ cost_of task n) × (p < n)). let e : cost_of task p ≡ cost_of task n = k.0 in inl (omega arith)) before))
                (cases_eq p n);
          }

      pub groups_cheaper : cost_of task n < cost_of task b → AreGroups task classes marks (n + 1) images (slice_set best g n)
      groups_cheaper cheap =
          record {
            as_many = length-set best g n ∙ are.as_many;
            distinct = are.distinct;
            bests = λ h o i a c. ⊎_elim
                (λ (x : (h ≡ g) × (n ≡ o)).
                subst (λ (k : ℕ). IsBest task classes marks (n + 1) i.0 i.1 k) x.1
                (subst (λ (j : List Fact × List Fact). IsBest task classes marks (n + 1) j.0 j.1 n) (sym (image_of_group h i x.0 a)) (best_cheaper cheap)))
                (λ (x : (h ≡ g → ⊥) × (slice_get best h ≡ Some o)). other_stays h o i x.0 a x.1)
                (set_get best g n h o c);
            covered = covered_more images (λ h i a. a) g at;
          }

-- ---- all operators

module _ (task : FiniteDomainTask) (classes : List (List ℕ)) (marks : List Bool) (images : List (List Fact × List Fact)) (best : List ℕ)
    (are : AreGroups task classes marks (length task.operators) images best) (asked : Facts) (marked : (o : ℕ) → (is_marked marks o ≡ true) ↔ ChangesClass task asked o) where
  exists : (o : ℕ) → ChangesClass task asked o → o < length task.operators
  exists o h = go (slice_get task.operators o) refl h
    where
      go : (r : Option Operator) → slice_get task.operators o ≡ r → IsSomeAnd r (λ op. changes_classes (ranges task) asked op ≡ true) → o < length task.operators
      go None e h = absurd h
      go (Some op) e h = slice_get_within task.operators o op e

  -- each group has a best operator
  best_at : (g : ℕ) (i : List Fact × List Fact) → slice_get images g ≡ Some i → (o : ℕ) × (slice_get best g ≡ Some o)
  best_at g i a = has_element best g (let within = slice_get_within images g i a in omega (arith, within, are.as_many))

  retained_best : (o : ℕ) → Contains best o → IsRetained task asked classes o
  retained_best o h =
      let g = at_contains best o h in
      let within = slice_get_within best g.0 o g.1 in
      let i = has_element images g.0 (omega (arith, within, are.as_many)) in
      let is = are.bests g.0 o i.0 i.1 g.1 in
      record {
        changes = (marked o).0 is.marked;
        first = λ p changes equal. is.first p (exists p changes) ((marked p).1 changes) (image_at_equal task classes o p i.0 is.image equal);
      }

  -- the best of an operator's group
  record Better (o : ℕ) : Type 0 where
    best' : ℕ
    is_best : Contains best best'
    changes : ChangesClass task asked best'
    equal : AreEqualAt task classes o best'
    last : IsBefore task o best' → ⊥

  better : (o : ℕ) → ChangesClass task asked o → Better o
  better o h =
      let group = are.covered o (exists o h) ((marked o).1 h) in
      let b = best_at group.0 group.1 group.2 in
      let is = are.bests group.0 b.0 group.1 group.2 b.1 in
      record {
        best' = b.0;
        is_best = contains_at best group.0 b.0 b.1;
        changes = (marked b.0).0 is.marked;
        equal = equal_at task classes o b.0 group.1 group.3 is.image;
        last = is.first o (exists o h) ((marked o).1 h) group.3;
      }

  best_retained : (o : ℕ) → IsRetained task asked classes o → Contains best o
  best_retained o retained =
      let b = better o retained.changes in
      let later : IsBefore task b.best' o → ⊥ = retained.first b.best' b.changes b.equal in
      subst (Contains best) (same b.best' later b.last) b.is_best
    where
      same : (p : ℕ) → (IsBefore task p o → ⊥) → (IsBefore task o p → ⊥) → p ≡ o
      same p one two =
          ⊎_elim
          (λ (e : cost_of task p ≡ cost_of task o).
          ⊎_elim (λ (q : p ≡ o). q)
          (λ (r : (p < o) ⊎ (o < p)). ⊎_elim (λ (l : p < o). absurd (one (inr (e, l)))) (λ (l : o < p). absurd (two (inr (sym e, l)))) r)
          (cases_order p o))
          (λ (r : (cost_of task p < cost_of task o) ⊎ (cost_of task o < cost_of task p)). ⊎_elim (λ (l : cost_of task p < cost_of task o). absurd (one (inl l))) (λ (l : cost_of task o < cost_of task p). absurd (two (inl l))) r)
          (cases_order (cost_of task p) (cost_of task o))

  pub bests_are_retained : AreRetained task asked classes best
  bests_are_retained o = (retained_best o, best_retained o)

  pub bests_cover : Covers task asked classes best
  bests_cover o h =
      let b = better o h in (
        b.best',
        b.is_best,
        b.equal,
        ⊎_elim (λ (l : cost_of task o < cost_of task b.best'). absurd (b.last (inl l))) (λ (l : cost_of task b.best' ≤ cost_of task o). l) (cases_lt (cost_of task o) (cost_of task b.best')),
      )

-- an operator that was added
pub groups_add : (task : FiniteDomainTask) (classes : List (List ℕ)) (marks : List Bool) (n : ℕ) (old new : List (List Fact × List Fact)) (best after : List ℕ) (q : List Fact × List Fact) →
    AreGroups task classes marks n old best → is_marked marks n ≡ true → HasImage task classes n q.0 q.1 → Adds task old new best after q n → AreGroups task classes marks (n + 1) new after
groups_add task classes marks n old new best after q are marked image (inl begins) =
    subst (λ (xs : List (List Fact × List Fact)). AreGroups task classes marks (n + 1) xs after) (sym begins.images)
    (subst (AreGroups task classes marks (n + 1) (old ++ q ∷ [])) (sym begins.best) (groups_new task classes marks n old best are marked q image begins.absent))
groups_add task classes marks n old new best after q are marked image (inr joins) =
    subst (λ (xs : List (List Fact × List Fact)). AreGroups task classes marks (n + 1) xs after) (sym joins.images)
    (subst (AreGroups task classes marks (n + 1) old) (sym joins.best)
    (cond_both (ltb (cost_of task n) (cost_of task joins.least)) (slice_set best joins.group n) best (AreGroups task classes marks (n + 1) old)
    (λ e. groups_cheaper task classes marks n old best are marked q image joins.group joins.least joins.known joins.least_is (ltb-true (cost_of task n) (cost_of task joins.least) e))
    (λ e. groups_same task classes marks n old best are marked q image joins.group joins.least joins.known joins.least_is (λ (l : cost_of task n < cost_of task joins.least). let m = ltb-false (cost_of task n) (cost_of task joins.least) e in omega arith))))

-- the best operators are among the first n
pub groups_below : (task : FiniteDomainTask) (classes : List (List ℕ)) (marks : List Bool) (n : ℕ) (images : List (List Fact × List Fact)) (best : List ℕ) → AreGroups task classes marks n images best → All (λ o. o < n) best
groups_below task classes marks n images best are k d l =
    let i = has_element images k (omega (arith, l, are.as_many)) in
    (are.bests k (get_or best k d) i.0 i.1 (slice_get-get_or best k d l)).below

-- increasing numbers below n are at most n
at_least : (xs : List ℕ) → IsStrictlyIncreasing xs → (k : ℕ) → k < length xs → k ≤ get_or xs k 0
at_least xs h zero l = omega arith
at_least xs h (suc k) l =
    let same : k + 1 ≡ suc k = omega arith in
    let before : k ≤ get_or xs k 0 = at_least xs h k (omega arith) in
    let step : get_or xs k 0 < get_or xs (suc k) 0 = subst (λ (m : ℕ). get_or xs k 0 < get_or xs m 0) same (h k (omega arith)) in omega (arith, before, step)

pub increasing_few : (xs : List ℕ) (n : ℕ) → IsStrictlyIncreasing xs → All (λ x. x < n) xs → length xs ≤ n
increasing_few xs n h all =
    ⊎_elim (λ (e : length xs ≡ 0). omega arith)
    (λ (ne : length xs ≡ 0 → ⊥).
    let k : ℕ = length xs - 1 in
    let inside : length xs - 1 < length xs = omega (arith, ne) in
    let low : length xs - 1 ≤ get_or xs (length xs - 1) 0 = at_least xs h (length xs - 1) inside in
    let high : get_or xs (length xs - 1) 0 < n = all (length xs - 1) 0 inside in omega (arith, low, high, inside))
    (cases_eq (length xs) 0)

-- retained operators exist
pub retained_exist : (task : FiniteDomainTask) (asked : Facts) (classes : List (List ℕ)) (retained : List ℕ) → AreRetained task asked classes retained → All (λ o. o < length task.operators) retained
retained_exist task asked classes retained are k d l = go (slice_get task.operators (get_or retained k d)) refl ((are (get_or retained k d)).0 (Contains-get_or retained k d l)).changes
  where
    go : (r : Option Operator) → slice_get task.operators (get_or retained k d) ≡ r → IsSomeAnd r (λ op. changes_classes (ranges task) asked op ≡ true) → get_or retained k d < length task.operators
    go None e h = absurd h
    go (Some op) e h = slice_get_within task.operators (get_or retained k d) op e

-- the same numbers in another order
pub retained_same : (task : FiniteDomainTask) (asked : Facts) (classes : List (List ℕ)) (xs ys : List ℕ) → ((n : ℕ) → Contains ys n ↔ Contains xs n) → AreRetained task asked classes xs → AreRetained task asked classes ys
retained_same task asked classes xs ys same are o = (λ h. (are o).0 ((same o).0 h), λ h. (same o).1 ((are o).1 h))

pub covers_same : (task : FiniteDomainTask) (asked : Facts) (classes : List (List ℕ)) (xs ys : List ℕ) → ((n : ℕ) → Contains ys n ↔ Contains xs n) → Covers task asked classes xs → Covers task asked classes ys
covers_same task asked classes xs ys same covers o h = let k = covers o h in (k.0, (same k.0).1 k.1, k.2, k.3)
