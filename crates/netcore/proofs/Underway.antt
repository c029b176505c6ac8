-- The queues of packets of a world in memory, of which one is changed.
use Rattle.std.proofs.Common.{◌≡◌, ℕ, ◌<◌, List, [], ◌∷◌, ◌++◌, length, map, get_or, Some, refl, sym, ap, ◌∙◌, arith, set-set}
use Rattle.std.specs.Prelude.{slice_get, slice_set}
use Rattle.std.specs.List.{insert, remove}
use Rattle.std.specs.Option.{option_map}
use Rattle.std.specs.Global.{Global}
use Rattle.std.specs.declared.collections.VecDeque.{VecDeque}
use Rattle.std.proofs.lemmas.List.{length-set, map-set, map-append}
use Rattle.std.proofs.lemmas.Option.{slice_get-map}
use Rattle.owner_theory.specs.Owners.{At}
use Rattle.extract.specs.declared.packet.Packet.{Packet}
use Rattle.extract.specs.Views.{packet_of, packets_in}
use Rattle.netcore.proofs.Places.{at_here, map_at, map_remove, map_put_back, set_same, set_there}

-- what is in the place of an element that was changed
pub changed_here : {X : Type 0} (xs : List X) (i : ℕ) (y x : X) → i < length xs → x ≡ get_or (slice_set xs i y) i x → y ≡ x
changed_here xs i y x lt is = let long = length-set xs i y in set_there xs i y x (at_here (slice_set xs i y) i x (omega arith) is)

-- queue q of number i
module _ {F : Type 0} (values : F → List ℕ) (queues : List (VecDeque (Packet F) Global)) (i : ℕ) (q : VecDeque (Packet F) Global)
    (lt : i < length queues) (is : q ≡ get_or queues i q) where
  pub queue_at : At (map (packets_in values) queues) i (packets_in values q)
  queue_at = map_at (packets_in values) queues i q (at_here queues i q lt is)

  pub packet_at : (k : ℕ) (x : Packet F) → slice_get q.items k ≡ Some x → slice_get (packets_in values q) k ≡ Some (packet_of values x)
  packet_at k x there = slice_get-map (packet_of values) q.items k ∙ ap (option_map (packet_of values)) there

  changed_as : (r : VecDeque (Packet F) Global) (items : List (Packet F)) → r.items ≡ items
      → map (packets_in values) (slice_set queues i r) ≡ slice_set (map (packets_in values) queues) i (map (packet_of values) items)
  changed_as r items e = map-set (packets_in values) queues i r ∙ ap (λ xs. slice_set (map (packets_in values) queues) i (map (packet_of values) xs)) e

  -- its packets are as they were
  pub queues_same : (r : VecDeque (Packet F) Global) → r.items ≡ q.items → map (packets_in values) (slice_set queues i r) ≡ map (packets_in values) queues
  queues_same r e = changed_as r q.items e ∙ set_same (map (packets_in values) queues) i (packets_in values q) queue_at

  -- a packet was taken out
  pub queues_without : (k : ℕ) (r : VecDeque (Packet F) Global) → r.items ≡ remove q.items k
      → map (packets_in values) (slice_set queues i r) ≡ slice_set (map (packets_in values) queues) i (remove (packets_in values q) k)
  queues_without k r e = changed_as r (remove q.items k) e
      ∙ ap (λ ps. slice_set (map (packets_in values) queues) i ps) (map_remove (packet_of values) q.items k)

  -- there was room for a packet, and then it was appended
  pub queues_with : (r p : VecDeque (Packet F) Global) (x : Packet F) → r.items ≡ q.items → p.items ≡ r.items ++ x ∷ []
      → map (packets_in values) (slice_set (slice_set queues i r) i p)
      ≡ slice_set (map (packets_in values) queues) i (packets_in values q ++ packet_of values x ∷ [])
  queues_with r p x same more = ap (map (packets_in values)) (set-set queues i r p)
      ∙ (changed_as p (q.items ++ x ∷ []) (more ∙ ap (λ xs. xs ++ x ∷ []) same)
      ∙ ap (λ ps. slice_set (map (packets_in values) queues) i ps) (map-append (packet_of values) q.items (x ∷ [])))

  -- a packet was taken out, and in its place one was put of which the same is seen
  pub queues_put_back : (k : ℕ) (r p : VecDeque (Packet F) Global) (x y : Packet F) → slice_get q.items k ≡ Some x → packet_of values y ≡ packet_of values x
      → r.items ≡ remove q.items k → p.items ≡ insert r.items k y
      → map (packets_in values) (slice_set (slice_set queues i r) i p) ≡ map (packets_in values) queues
  queues_put_back k r p x y there seen out back = ap (map (packets_in values)) (set-set queues i r p)
      ∙ (changed_as p (insert (remove q.items k) k y) (back ∙ ap (λ xs. insert xs k y) out)
      ∙ (ap (λ ps. slice_set (map (packets_in values) queues) i ps) (map_put_back (packet_of values) q.items k x y there seen)
      ∙ set_same (map (packets_in values) queues) i (packets_in values q) queue_at))
