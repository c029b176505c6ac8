-- Expanded states that are listed one after the other.
use Rattle.std.proofs.Common.{◌≡◌, ℕ, ◌+◌, ◌*◌, ◌<◌, ◌≤◌, true, false, List, [], ◌∷◌, ◌++◌, length, get_or, take, Some, refl, sym, ap, ◌∙◌, append_assoc}
use Rattle.std.specs.Prelude.{slice_get}
use Rattle.std.proofs.lemmas.Bool.{cond_both}
use Rattle.std.proofs.lemmas.List.{take_more, take_all, append-nil}
use Rattle.std.proofs.lemmas.Grind.{flat_map-append}
use Rattle.std.proofs.lemmas.Option.{slice_get-get_or}
use Rattle.owner_theory.specs.Owners.{Node}
use Rattle.owner_theory.specs.Families as families
use Rattle.owner_theory.specs.Families.{expanded_of}
use Rattle.cert_value.specs.Certificates.{Entry}
use Rattle.cert_value.specs.Kept.{entries}
use Rattle.cert_value.proofs.KeptLaws.{entries_push, length_push}
use Rattle.closed.specs.declared.table.Entry.{Entry as KeptEntry}
use Rattle.closed.specs.Tables.{node_with}
use Rattle.owner.specs.Owned.{OwnerOf}
use Rattle.cert.specs.Expanded.{closed_in}
use Rattle.cert.proofs.Copies.{one_copied}

-- the entry of a node, if it is expanded
expanded_alone : (n : Node) (ns : List Node) → expanded_of (n ∷ ns) ≡ expanded_of (n ∷ []) ++ expanded_of ns
expanded_alone n ns =
    cond_both n.expanded (families.entry_of n ∷ expanded_of ns) (expanded_of ns) (λ es. es ≡ expanded_of (n ∷ []) ++ expanded_of ns)
    (λ done. rw done refl) (λ not_done. rw not_done refl)

expanded_append : (ms ns : List Node) → expanded_of (ms ++ ns) ≡ expanded_of ms ++ expanded_of ns
expanded_append [] ns = refl
expanded_append (m ∷ ms) ns =
    expanded_alone m (ms ++ ns) ∙ ap (λ es. expanded_of (m ∷ []) ++ es) (expanded_append ms ns)
    ∙ sym (append_assoc (expanded_of (m ∷ [])) (expanded_of ms) (expanded_of ns))
    ∙ ap (λ es. es ++ expanded_of ns) (sym (expanded_alone m ms))

one_of : (n : Node) → n.expanded ≡ true → expanded_of (n ∷ []) ≡ families.entry_of n ∷ []
one_of n done = rw done refl

none_of : (n : Node) → n.expanded ≡ false → expanded_of (n ∷ []) ≡ []
none_of n not_done = rw not_done refl

module _ (width : ℕ) (nodes : List Node) (before : List Entry) where
  -- the states of this many nodes are added to those before
  pub record AreAdded (i : ℕ) (costs values : List ℕ) : Type 0 where
    pub states : entries width costs values ≡ before ++ expanded_of (take i nodes)
    pub long : length values ≡ length costs * width

  one_more : (i : ℕ) (n : Node) → slice_get nodes i ≡ Some n → before ++ expanded_of (take (i + 1) nodes) ≡ (before ++ expanded_of (take i nodes)) ++ expanded_of (n ∷ [])
  one_more i n there =
      ap (λ ns. before ++ expanded_of ns) (sym (one_copied nodes i n there (take i nodes) refl))
      ∙ ap (λ es. before ++ es) (expanded_append (take i nodes) (n ∷ []))
      ∙ sym (append_assoc before (expanded_of (take i nodes)) (expanded_of (n ∷ [])))

  -- what is kept of the node at a place
  abbrev IsKeptAt : ℕ → KeptEntry → Type 0
  IsKeptAt i e = (n : Node) → slice_get nodes i ≡ Some n → n ≡ node_with n.state e

  pub none_added : (i : ℕ) (costs values : List ℕ) (e : KeptEntry) → AreAdded i costs values → i < length nodes → IsKeptAt i e → e.expanded ≡ false → AreAdded (i + 1) costs values
  none_added i costs values e so_far low known not_done =
      let n : Node = get_or nodes i (node_with [] e) in
      let there : slice_get nodes i ≡ Some n = slice_get-get_or nodes i (node_with [] e) low in
      let is : n.expanded ≡ false = ap (λ (m : Node). m.expanded) (known n there) ∙ not_done in
      record {
        states = so_far.states ∙ sym (one_more i n there ∙ ap (λ es. (before ++ expanded_of (take i nodes)) ++ es) (none_of n is) ∙ append-nil (before ++ expanded_of (take i nodes)));
        long = so_far.long;
      }

  pub one_added : (i : ℕ) (costs values : List ℕ) (e : KeptEntry) → AreAdded i costs values → i < length nodes → IsKeptAt i e → e.expanded ≡ true
      → (state : List ℕ) → length state ≡ width → ((n : Node) → slice_get nodes i ≡ Some n → state ≡ n.state) → AreAdded (i + 1) (costs ++ e.rank.cost ∷ []) (values ++ state)
  one_added i costs values e so_far low known done state wide same =
      let n : Node = get_or nodes i (node_with [] e) in
      let there : slice_get nodes i ≡ Some n = slice_get-get_or nodes i (node_with [] e) low in
      let is : n.expanded ≡ true = ap (λ (m : Node). m.expanded) (known n there) ∙ done in
      let cost : n.cost ≡ e.rank.cost = ap (λ (m : Node). m.cost) (known n there) in
      let put : families.entry_of n ≡ record { cost = e.rank.cost; state = state } = ap (λ g. record { cost = g; state = n.state }) cost ∙ ap (λ s. record { cost = e.rank.cost; state = s }) (sym (same n there)) in
      record {
        states =
            entries_push width costs values state e.rank.cost so_far.long wide
            ∙ ap (λ es. es ++ record { cost = e.rank.cost; state = state } ∷ []) so_far.states
            ∙ sym (one_more i n there ∙ ap (λ es. (before ++ expanded_of (take i nodes)) ++ es) (one_of n is ∙ ap (λ x. x ∷ []) put));
        long = length_push width costs values state e.rank.cost so_far.long wide;
      }

  pub all_added : (i : ℕ) (costs values : List ℕ) → AreAdded i costs values → length nodes ≤ i → entries width costs values ≡ before ++ expanded_of nodes
  all_added i costs values so_far past = so_far.states ∙ ap (λ ns. before ++ expanded_of ns) (take_all i nodes past)

-- the states of one owner more
pub one_owner_more : {S : Type 0} (owners : List (OwnerOf S)) (i : ℕ) (o : OwnerOf S) → i < length owners → o ≡ get_or owners i o → (states more : List Entry)
    → states ≡ closed_in (take i owners) → more ≡ states ++ expanded_of o.nodes → more ≡ closed_in (take (i + 1) owners)
one_owner_more {S} owners i o low there states more so_far is =
    is ∙ ap (λ es. es ++ expanded_of o.nodes) so_far
    ∙ ap (λ es. closed_in (take i owners) ++ es) (sym (append-nil (expanded_of o.nodes)) ∙ ap (λ (x : OwnerOf S). closed_in (x ∷ [])) there)
    ∙ sym (ap closed_in (take_more owners i o low) ∙ flat_map-append (λ (x : OwnerOf S). expanded_of x.nodes) (take i owners) (get_or owners i o ∷ []))
