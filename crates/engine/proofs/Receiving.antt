-- The worker that empties the rings to it, beside the others.
use Rattle.std.proofs.Common.{◌≡◌, ℕ, suc, ◌+◌, ◌<◌, ◌≤◌, ◌^◌, false, List, [], length, get_or, sym, ap, ◌∙◌, subst, arith}
use Rattle.std.specs.Prelude.{slice_set}
use Rattle.std.specs.List.{insert, remove}
use Rattle.fdr.specs.Tasks.{ranges}
use Rattle.owner_theory.specs.Owners.{At}
use Rattle.owner_theory.specs.Families.{IsSearchSpace}
use Rattle.owner_theory.proofs.Lists.{at_once}
use Rattle.owner.specs.Spaces.{SpaceOf}
use Rattle.owner.specs.Owned.{OwnerOf, space_of}
use Rattle.extract.proofs.Places.{at_read}
use Rattle.worker.specs.Workers.{WorkerOf, values_in, IsKept}
use Rattle.worker.specs.declared.outcome.Received.{Received}
use Rattle.worker.specs.Turns.{HasReceived}
use Rattle.engine.specs.Teams.{AreMembers, sent_by}
use Rattle.engine.specs.Draining.{AreLookedAt, IsLinkMatched, IsLinkEmptied, AreLinksEmptied}
use Rattle.engine.proofs.Beside.{length_inserted, at_inserted, insert_here, put_back, count_is, space_here, values_here, kept_beside}
use Rattle.engine.proofs.Emptying.{AreMatching, IsEmptying, looked_have, emptying_have, links_have, begins_emptying, ends_emptying, mid_members, one_message_more, no_links_emptied, one_ring_more}
use Rattle.engine.proofs.Fitting.{none_aside}
use Rattle.engine.proofs.Members.{members_kept, sent_kept}

pub countable : (t : ℕ) → t ≡ 0 → t + 1 < 2 ^ 64
countable t e = omega (arith, e)

pub vec_within : (p n long : ℕ) → p < n → long ≡ n → p < long
vec_within p n long lt is = omega (arith, lt, is)

pub le_as : (k n m : ℕ) → k ≤ n → m ≡ n → k ≤ m
le_as k n m le e = omega (arith, le, e)

pub lt_as : (k count n m : ℕ) → k < count → count ≡ n → m ≡ n → k < m
lt_as k count n m lt is len = omega (arith, lt, is, len)

pub end_is : (k count n : ℕ) → count ≤ k → k ≤ count → count ≡ n → k ≡ n
end_is k count n le ge is = omega (arith, le, ge, is)

from_inside : (from count n m k : ℕ) → from < count → count ≡ n → n ≡ suc m → k ≡ m → from ≤ k
from_inside from count n m k lt is long len = omega (arith, lt, is, long, len)

module _ {S F : Type 0} (owner : S → List ℕ → ℕ → ℕ) (values : List ℕ → F → List ℕ) (space : SpaceOf S) (to : ℕ) (xs : List (WorkerOf S F))
    (r : WorkerOf S F) (within : to ≤ length xs) (are : AreMembers space (insert xs to r)) where
  abbrev all : List (WorkerOf S F)
  all = insert xs to r

  -- the values of a form, as the receiver's task has them
  abbrev read : F → List ℕ
  read = values_in values r

  is_read : values (ranges space.task) ≡ read
  is_read = values_here owner space xs r to within are values

  -- the receiver is the worker at its place
  none_at : (b : WorkerOf S F) → r.misfits ≡ [] → At all to b → b.misfits ≡ []
  none_at b none at = subst (λ (w : WorkerOf S F). w.misfits ≡ []) (at_once all to r b (at_inserted xs to r within) at) none

  pub still_within : (ys : List (WorkerOf S F)) → length ys ≡ length xs → to ≤ length ys
  still_within ys len = le_as to (length xs) (length ys) within len

  pub still_inside : (ys : List (WorkerOf S F)) → length ys ≡ length xs → (from count : ℕ) → from < count → count ≡ length r.outs → from ≤ length ys
  still_inside ys len from count lt is =
      from_inside from count (length all) (length xs) (length ys) lt (count_is owner space xs r to within are count is) (length_inserted xs to r) len

  pub counts_all : (count : ℕ) → count ≡ length r.outs → count ≡ length all
  counts_all count is = count_is owner space xs r to within are count is

  -- ---- looking
  pub matching_members : (from : ℕ) (ys : List (WorkerOf S F)) (s : WorkerOf S F) → AreMatching owner from to all (insert ys to s)
      → AreMembers space (insert ys to s)
  matching_members from ys s p = members_kept all (insert ys to s) (looked_have owner all (insert ys to s) p.looked) space are p.looked.links

  pub matching_done : (from count : ℕ) (ys : List (WorkerOf S F)) (s : WorkerOf S F) → length ys ≡ length xs → count ≤ from → count ≡ length r.outs
      → AreMatching owner from to all (insert ys to s) → ((v : ℕ) (w : WorkerOf S F) → At ys v w → IsKept owner values w) → IsKept owner values s
      → (o : OwnerOf S) → o ≡ s.owner → IsSearchSpace (space_of owner o) → s.misfits ≡ []
  matching_done from count ys s len le is p kept_others kept_one o same ok =
      let here = still_within ys len in
      let now = matching_members from ys s p in
      let long : length (insert ys to s) ≡ length all = p.looked.len in
      let total = counts_all count is in
      let ok_now = space_here owner space ys s to here now values kept_one (subst (λ q. IsSearchSpace (space_of owner q)) same ok) in
      let at_s = at_inserted ys to s here in
      none_aside owner values space (insert ys to s) now (kept_beside owner values ys s to kept_others kept_one) read is_read ok_now to s at_s
      (λ u lt. let (rest, link) = p.links read u (omega (arith, lt, long, total, le)) s at_s in
      (rest, link ∙ sent_same u ys s p))
    where
      sent_same : (u : ℕ) (ys : List (WorkerOf S F)) (s : WorkerOf S F) → AreMatching owner from to all (insert ys to s)
          → sent_by read all u to ≡ sent_by read (insert ys to s) u to
      sent_same u ys s p = sym (sent_kept all (insert ys to s) (looked_have owner all (insert ys to s) p.looked) read u to)

  -- ---- one ring
  pub ring_begun : (from n : ℕ) (ys : List (WorkerOf S F)) (s : WorkerOf S F) → r.misfits ≡ [] → IsLinkMatched owner from to all (insert ys to s) n
      → IsEmptying owner read from to all (insert ys to s) n 0
  ring_begun from n ys s none m = begins_emptying owner read from to n all (insert ys to s) (λ b at. none_at b none at) m

  pub ring_done : (from n i : ℕ) (ys : List (WorkerOf S F)) (s : WorkerOf S F) → length ys ≡ length xs → n ≤ i → IsEmptying owner read from to all (insert ys to s) n i
      → IsLinkEmptied owner read from to all (insert ys to s)
  ring_done from n i ys s len le e =
      let few = e.few s (at_inserted ys to s (still_within ys len)) in
      let same : i ≡ n = omega (arith, few, le) in
      ends_emptying owner read from to n all (insert ys to s) (subst (λ k. IsEmptying owner read from to all (insert ys to s) n k) same e)

  module _ (from n i : ℕ) (ys : List (WorkerOf S F)) (s c : WorkerOf S F) (len : length ys ≡ length xs) (e : IsEmptying owner read from to all (insert ys to s) n i)
      (begun : c ≡ record s { resting = false; uncounted = 0; taken = 0 }) where
    here : to ≤ length ys
    here = still_within ys len

    now_members : AreMembers space (insert ys to s)
    now_members = members_kept all (insert ys to s) (emptying_have owner read from to n i all (insert ys to s) e) space are e.links

    at_s : At (insert ys to s) to s
    at_s = at_inserted ys to s here

    pub receive_inside : from ≤ length xs → from < length c.ins
    receive_inside inside =
        let ins = (now_members.each to s at_s).ins in let long = length_inserted ys to s in
        let same = ap (λ (w : WorkerOf S F). length w.ins) begun in
        omega (arith, inside, ins, long, same, len)

    pub receive_none_aside : c.misfits ≡ []
    receive_none_aside = ap (λ (w : WorkerOf S F). w.misfits) begun ∙ e.none_aside s at_s

    pub receive_countable : c.taken + 1 < 2 ^ 64
    receive_countable = countable c.taken (ap (λ (w : WorkerOf S F). w.taken) begun)

    module _ (d : WorkerOf S F) (got : Received) (has : HasReceived owner values from c d got) where
      mid_is : insert ys to d ≡ slice_set (slice_set (insert ys to s) to c) to d
      mid_is = sym (ap (λ l. slice_set l to d) (insert_here ys to s c here) ∙ insert_here ys to c d here)

      pub ring_members : AreMembers space (insert ys to d)
      ring_members = mid_members owner values space read is_read from to (insert ys to s) (insert ys to d) now_members s c d at_s begun got has mid_is

      pub ring_step : (zs : List (WorkerOf S F)) (q : WorkerOf S F) (k : ℕ) → length zs ≡ length xs → IsLinkMatched owner from to (insert ys to d) (insert zs to q) k
          → i < n → from ≤ length xs → ((v : ℕ) (w : WorkerOf S F) → At zs v w → IsKept owner values w) → IsKept owner values q → (o : OwnerOf S) → o ≡ q.owner
          → IsSearchSpace (space_of owner o) → IsEmptying owner read from to all (insert zs to q) n (i + 1)
      ring_step zs q k long m lt inside kept_others kept_one o same ok =
          let after = members_kept (insert ys to d) (insert zs to q) (looked_have owner (insert ys to d) (insert zs to q) m.looked) space ring_members m.looked.links in
          let kept = kept_beside owner values zs q to kept_others kept_one in
          let total = length_inserted ys to s in
          one_message_more owner values space read is_read from to (insert ys to s) (insert ys to d) now_members s c d at_s begun got has mid_is (insert zs to q) k m all n i e lt
          (omega (arith, inside, total, len))
          (space_here owner space zs q to (still_within zs long) after values kept_one (subst (λ p. IsSearchSpace (space_of owner p)) same ok))
          (λ w at. kept from w at) (λ w at. kept to w at)

  -- ---- all rings
  pub rings_members : (n : ℕ) (ys : List (WorkerOf S F)) (s : WorkerOf S F) → AreLinksEmptied owner read n to all (insert ys to s) → AreMembers space (insert ys to s)
  rings_members n ys s p = members_kept all (insert ys to s) (links_have owner read n to all (insert ys to s) p) space are p.links

  pub looked_members : (ys : List (WorkerOf S F)) (s : WorkerOf S F) → AreLookedAt owner all (insert ys to s) → AreMembers space (insert ys to s)
  looked_members ys s p = members_kept all (insert ys to s) (looked_have owner all (insert ys to s) p) space are p.links

  pub rings_begun : (ys : List (WorkerOf S F)) (s : WorkerOf S F) → length ys ≡ length xs → AreLookedAt owner all (insert ys to s) → s.misfits ≡ []
      → AreLinksEmptied owner read 0 to all (insert ys to s)
  rings_begun ys s len p none = no_links_emptied owner read to all (insert ys to s) p
      (λ b at. subst (λ (w : WorkerOf S F). w.misfits ≡ []) (at_once (insert ys to s) to s b (at_inserted ys to s (still_within ys len)) at) none)

  pub rings_none_aside : (n : ℕ) (ys : List (WorkerOf S F)) (s : WorkerOf S F) → length ys ≡ length xs → AreLinksEmptied owner read n to all (insert ys to s) → s.misfits ≡ []
  rings_none_aside n ys s len p = p.none_aside s (at_inserted ys to s (still_within ys len))

  -- one more ring is emptied, where the values are those that the receiver's task has now
  pub rings_more : (n : ℕ) (ys zs : List (WorkerOf S F)) (s q : WorkerOf S F) → length ys ≡ length xs → AreLinksEmptied owner read n to all (insert ys to s)
      → IsLinkEmptied owner (values_in values s) n to (insert ys to s) (insert zs to q) → AreLinksEmptied owner read (n + 1) to all (insert zs to q)
  rings_more n ys zs s q len p e =
      let same : values_in values s ≡ read = sym (values_here owner space ys s to (still_within ys len) (rings_members n ys s p) values) ∙ is_read in
      one_ring_more owner read n to all (insert ys to s) (insert zs to q) p
      (subst (λ (f : F → List ℕ). IsLinkEmptied owner f n to (insert ys to s) (insert zs to q)) same e)

  -- as many workers as the receiver has links, after it was looked at
  pub looked_count : (ys : List (WorkerOf S F)) (s : WorkerOf S F) → length ys ≡ length xs → AreLookedAt owner all (insert ys to s) → (count : ℕ)
      → count ≡ length s.outs → count ≡ length all
  looked_count ys s len p count is =
      count_is owner space ys s to (still_within ys len) (looked_members ys s p) count is ∙ p.len

  pub looked_inside : (ys : List (WorkerOf S F)) → length ys ≡ length xs → (from count : ℕ) → from < count → count ≡ length all → from ≤ length ys
  looked_inside ys len from count lt is = from_inside from count (length all) (length xs) (length ys) lt is (length_inserted xs to r) len

-- ---- a worker is taken out of the list, and put back
pub taken_out : {S F : Type 0} (space : SpaceOf S) (ws others : List (WorkerOf S F)) (to : ℕ) (r : WorkerOf S F) → to < length ws → r ≡ get_or ws to r
    → others ≡ remove ws to → AreMembers space ws → AreMembers space (insert others to r)
taken_out space ws others to r lt is others_are are = subst (AreMembers space) (sym (ap (λ xs. insert xs to r) others_are ∙ put_back ws to r lt is)) are

pub put_in : {S F : Type 0} (owner : S → List ℕ → ℕ → ℕ) (values : List ℕ → F → List ℕ) (ws others : List (WorkerOf S F)) (to : ℕ) (r : WorkerOf S F)
    → to < length ws → r ≡ get_or ws to r → others ≡ remove ws to → (next : List (WorkerOf S F))
    → AreLinksEmptied owner (values_in values r) (length (insert others to r)) to (insert others to r) next
    → (space : SpaceOf S) → AreMembers space ws → AreLinksEmptied owner (values (ranges space.task)) (length ws) to ws next
put_in {F = F} owner values ws others to r lt is others_are next e space are =
    subst (λ (f : F → List ℕ). AreLinksEmptied owner f (length ws) to ws next)
    (ap (λ s. values (ranges s.task)) (are.each to r (at_read ws to r lt is)).space)
    (subst (λ xs. AreLinksEmptied owner (values_in values r) (length xs) to xs next) (ap (λ xs. insert xs to r) others_are ∙ put_back ws to r lt is) e)

pub out_within : {S F : Type 0} (ws others : List (WorkerOf S F)) (to : ℕ) (r : WorkerOf S F) → to < length ws → r ≡ get_or ws to r → others ≡ remove ws to
    → to ≤ length others
out_within ws others to r lt is others_are =
    let a = length_inserted others to r in
    let b = ap length (ap (λ xs. insert xs to r) others_are ∙ put_back ws to r lt is) in
    omega (arith, lt, a, b)
