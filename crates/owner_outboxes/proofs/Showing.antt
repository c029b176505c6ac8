-- Outboxes, and the messages that they are, where a form of a state has these values.
use Rattle.std.proofs.Common.{◌≡◌, ℕ, zero, suc, List, [], ◌∷◌, ◌++◌, map, length, Option, Some, None, refl, sym, ap, ◌∙◌, not, cond, ◌+◌}
use Rattle.std.specs.Prelude.{slice_set, replicate, IfNone}
use Rattle.std.specs.List.{list_all}
use Rattle.std.specs.Option.{option_to_list}
use Rattle.std.proofs.lemmas.List.{map_push, map-append, map-set, length-map}
use Rattle.owner_theory.specs.Owners.{list_at}
use Rattle.owner_theory.specs.Worlds.{is_empty, waiting}
use Rattle.closed.specs.declared.message.Message.{Message}
use Rattle.closed.specs.Tables.{message_of}
use Rattle.owner_outboxes.specs.Outboxes.{shown, count_in_use, message_count}
use Rattle.owner_outboxes.proofs.Using.{one_more}

module _ {F : Type 0} (values : F → List ℕ) where
  pub shown_length : (bs : List (List (Message F))) → length (shown values bs) ≡ length bs
  shown_length bs = length-map bs (map (message_of values))

  pub shown_none : (n : ℕ) → shown values (replicate n []) ≡ replicate n []
  shown_none zero = refl
  shown_none (suc n) = ap (λ l. [] ∷ l) (shown_none n)

  pub shown_at : (bs : List (List (Message F))) (v : ℕ) → list_at (shown values bs) v ≡ map (message_of values) (list_at bs v)
  shown_at [] v = refl
  shown_at (b ∷ bs) zero = refl
  shown_at (b ∷ bs) (suc v) = shown_at bs v

  -- a message pushed at the end of an outbox
  pub shown_posted : (bs bs' : List (List (Message F))) (v : ℕ) (m : Message F) → bs' ≡ slice_set bs v (list_at bs v ++ m ∷ [])
      → shown values bs' ≡ slice_set (shown values bs) v (list_at (shown values bs) v ++ message_of values m ∷ [])
  shown_posted bs bs' v m is =
      ap (shown values) is
      ∙ (map-set (map (message_of values)) bs v (list_at bs v ++ m ∷ [])
      ∙ ap (slice_set (shown values bs) v)
      (map_push (message_of values) (list_at bs v) m ∙ ap (λ l. l ++ message_of values m ∷ []) (sym (shown_at bs v))))

  -- a message taken from the front of an outbox
  pub shown_first : (bs bs' : List (List (Message F))) (v : ℕ) (r : Option (Message F)) → list_at bs v ≡ option_to_list r ++ list_at bs' v
      → list_at (shown values bs) v ≡ map (message_of values) (option_to_list r) ++ list_at (shown values bs') v
  shown_first bs bs' v r is =
      shown_at bs v
      ∙ (ap (map (message_of values)) is
      ∙ (map-append (message_of values) (option_to_list r) (list_at bs' v)
      ∙ ap (λ l. map (message_of values) (option_to_list r) ++ l) (sym (shown_at bs' v))))

  pub shown_others : (bs bs' : List (List (Message F))) (v : ℕ) → bs' ≡ slice_set bs v (list_at bs' v)
      → shown values bs' ≡ slice_set (shown values bs) v (list_at (shown values bs') v)
  shown_others bs bs' v is =
      ap (shown values) is
      ∙ (map-set (map (message_of values)) bs v (list_at bs' v) ∙ ap (slice_set (shown values bs) v) (sym (shown_at bs' v)))

  pub shown_emptied : (r : Option (Message F)) (bs : List (List (Message F))) (v : ℕ) → IfNone r (list_at bs v ≡ [])
      → IfNone r (list_at (shown values bs) v ≡ [])
  shown_emptied None bs v none = shown_at bs v ∙ ap (map (message_of values)) none
  shown_emptied (Some m) bs v none = tt

  -- ---- as many messages in as many outboxes

  pub shown_count : (bs : List (List (Message F))) → message_count bs ≡ waiting (shown values bs)
  shown_count [] = refl
  shown_count (b ∷ bs) = λ j. sym (length-map b (message_of values)) j + shown_count bs j

  box_shown : (b : List (Message F)) → is_empty b ≡ is_empty (map (message_of values) b)
  box_shown [] = refl
  box_shown (m ∷ b) = refl

  pub shown_in_use : (bs : List (List (Message F))) → count_in_use bs ≡ count_in_use (shown values bs)
  shown_in_use [] = refl
  shown_in_use (b ∷ bs) =
      one_more b bs
      ∙ ((λ j. cond (not (box_shown b j)) 1 0 + shown_in_use bs j) ∙ sym (one_more (map (message_of values) b) (shown values bs)))

  pub shown_empty : (bs : List (List (Message F))) → list_all is_empty bs ≡ list_all is_empty (shown values bs)
  shown_empty [] = refl
  shown_empty ([] ∷ bs) = shown_empty bs
  shown_empty ((m ∷ b) ∷ bs) = refl
