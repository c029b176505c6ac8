-- The successors of a node before it is marked, and what is put into outboxes meanwhile.
use Rattle.std.proofs.Common.{◌≡◌, ℕ, zero, suc, ◌+◌, ◌<◌, ◌≤◌, ◌^◌, Bool, List, [], ◌∷◌, ◌++◌, map, length, length-append, length-set, All, refl, sym, ap, ◌∙◌, subst, arith, cond}
use Rattle.std.specs.Prelude.{slice_set, fold}
use Rattle.std.proofs.lemmas.List.Elements.{All-nil, All-cons, All-append}
use Rattle.cost.specs.Distances.{Distance, Finite, ◌+ᵈ◌}
use Rattle.fdr.specs.Tasks.{ranges}
use Rattle.owner_theory.specs.Owners as machine
use Rattle.owner_theory.specs.Owners.{At, Node, Owner, SearchSpace, list_at, same_state, rank_less, f_value, improve, marked, mark_node, took, posted, treat, treat_all}
use Rattle.owner_theory.specs.Worlds.{waiting}
use Rattle.closed.specs.declared.message.Message.{Message}
use Rattle.closed.specs.declared.table.Outcome.{Outcome}
use Rattle.closed.specs.declared.table.Outcome.TheVariants.{Better, Kept}
use Rattle.closed.specs.Tables.{message_of, outcome_from}
use Rattle.owner_space.specs.Spaces.{searched}
use Rattle.owner.specs.declared.batch.Batch.{Batch}
use Rattle.owner.specs.Owned.{OwnerOf, space_of, under, IsMessageTo}
use Rattle.owner_reached.specs.Queues.{h_of}
use Rattle.owner.specs.Successors.{AreKnown}
use Rattle.owner.specs.Batches.{pending, IsBatch, ArePosted}
use Rattle.owner_outboxes.proofs.Withdrawing.{withdrawn_posted}
use Rattle.owner.proofs.Stepping.{same_space}

-- ---- marking a node changes no outcome

marked_outcome : (k : ℕ) (ns : List Node) (i : ℕ) (n m : Node) → At ns i n → outcome_from k (slice_set ns i (marked n)) m ≡ outcome_from k ns m
marked_outcome k [] i n m at = absurd at
marked_outcome k (x ∷ ns) zero n m at =
    ap (λ (y : Node). cond (same_state y.state m.state) (cond (rank_less m.cost m.steps y.cost y.steps) (Better k) Kept) (outcome_from (suc k) ns m)) (sym at)
marked_outcome k (x ∷ ns) (suc i) n m at =
    ap (λ (o : Outcome). cond (same_state x.state m.state) (cond (rank_less m.cost m.steps x.cost x.steps) (Better k) Kept) o) (marked_outcome (suc k) ns i n m at)

pub known_marked : (space : SearchSpace) (me index : ℕ) (n x : Node) (nodes : List Node) (i : ℕ) (os : List ℕ) (known : List Bool) → At nodes i x
    → AreKnown space me index n nodes os known → AreKnown space me index n (slice_set nodes i (marked x)) os known
known_marked space me index n x nodes i os known at h k e t leads =
    let c = h k e t leads in record { own = c.own; no_goal = c.no_goal; kept = marked_outcome 0 nodes i x _ at ∙ c.kept }

-- ---- a message goes into an outbox

length_pushed : (xs : List ℕ) (x : ℕ) → length (xs ++ x ∷ []) ≡ length xs + 1
length_pushed xs x = length-append xs (x ∷ [])

waiting_set : (bs : List (List machine.Message)) (v : ℕ) (m : machine.Message) → v < length bs
    → waiting (slice_set bs v (list_at bs v ++ m ∷ [])) ≡ waiting bs + 1
waiting_set [] v m lt = absurd (omega arith)
waiting_set (b ∷ bs) zero m lt = omega (arith, length-append b (m ∷ []))
waiting_set (b ∷ bs) (suc v) m lt = omega (arith, waiting_set bs v m (omega arith))

module _ {S : Type 0} where
  pub posted_then : (a b c : OwnerOf S) (us vs ws : List ℕ) → ArePosted a b us vs → ArePosted b c vs ws → ArePosted a c us ws
  posted_then a b c us vs ws p q = record {
    others = q.others ∙ ap (λ (o : OwnerOf S). record o { outboxes = c.outboxes }) p.others;
    withdraws = q.withdraws ∙ p.withdraws;
    put_out = omega (arith, p.put_out, q.put_out);
    owners = q.owners ∙ p.owners;
    there = λ h. subst (λ n. All (λ to. to < n) ws) p.owners (q.there (subst (λ n. All (λ to. to < n) vs) (sym p.owners) (p.there h)));
  }

  pub posted_one : (o new : OwnerOf S) (to : ℕ) (m : machine.Message) (vs ws : List ℕ) → to < length o.outboxes
      → new ≡ record o { outboxes = slice_set o.outboxes to (list_at o.outboxes to ++ m ∷ []) } → ws ≡ vs ++ to ∷ [] → ArePosted o new vs ws
  posted_one o new to m vs ws lt is more =
      subst (λ (x : OwnerOf S). ArePosted o x vs ws) (sym is)
      (subst (λ (l : List ℕ). ArePosted o (record o { outboxes = slice_set o.outboxes to (list_at o.outboxes to ++ m ∷ []) }) vs l) (sym more) (record {
        others = refl;
        withdraws = withdrawn_posted vs to o.outboxes m lt;
        put_out = omega (arith, waiting_set o.outboxes to m lt, length_pushed vs to);
        owners = length-set o.outboxes to (list_at o.outboxes to ++ m ∷ []);
        there = λ h. All-append (λ t. t < length o.outboxes) vs (to ∷ []) h
            (All-cons (λ t. t < length o.outboxes) to [] lt (All-nil (λ t. t < length o.outboxes)));
      }))

  pub posted_space : (owner : S → List ℕ → ℕ → ℕ) (a b : OwnerOf S) (us vs : List ℕ) → ArePosted a b us vs → space_of owner b ≡ space_of owner a
  posted_space owner a b us vs p = same_space owner b a (ap (λ (o : OwnerOf S). o.space) p.others) p.owners

-- ---- f-values

-- ---- the batch

module _ {S F : Type 0} (IsForm : List ℕ → F → Type 0) (values : List ℕ → F → List ℕ) (owner : S → List ℕ → ℕ → ℕ) (o : OwnerOf S) where
  abbrev of_form : Message F → machine.Message
  of_form = message_of (values (ranges o.space.task))

  pub moved_batch : (new : OwnerOf S) (us vs : List ℕ) (b b' : Batch F) → ArePosted o new us vs → b'.own ≡ b.own → b'.fs ≡ b.fs
      → IsBatch IsForm values owner o b → IsBatch IsForm values owner new b'
  moved_batch new us vs b b' p own fs h =
      subst (λ (x : OwnerOf S). IsBatch IsForm values owner x b') (sym p.others) (record {
        messages = subst (λ k. All (λ m. IsMessageTo (searched owner o.space k) o.worker (of_form m)) b'.own.items) (sym p.owners)
            (subst (λ (l : List (Message F)). All (λ m. IsMessageTo (space_of owner o) o.worker (of_form m)) l) (sym items) h.messages);
        forms = subst (λ (l : List (Message F)). All (λ m. IsForm (ranges o.space.task) m.state) l) (sym items) h.forms;
        fs = ap (λ (l : List (Message F)). map (λ m. Finite m.rank.cost +ᵈ h_of o.space (values (ranges o.space.task) m.state)) l) items
            ∙ (h.fs ∙ ap (map Finite) (sym values_same));
        bounded = subst (λ (l : List ℕ). All (λ f. f ≤ 2 ^ 63) l) (sym values_same) h.bounded;
      })
    where
      items : b'.own.items ≡ b.own.items
      items = λ j. (own j).items

      values_same : b'.fs.items ≡ b.fs.items
      values_same = λ j. (fs j).items

-- ---- the node is marked, and the batch is taken

module _ {S F : Type 0} (values : List ℕ → F → List ℕ) (o mid new : OwnerOf S) (b : Batch F) (us vs : List ℕ) (p : ArePosted o mid us vs) where
  pub taken_pending : (bound : Distance) (i : ℕ) (n : Node) (ever : List Bool) (expansions : ℕ)
      → new ≡ record mid { nodes = fold improve (slice_set mid.nodes i (marked n)) (map (message_of (values (ranges mid.space.task))) b.own.items); ever = ever; best = b.best; expansions = expansions }
      → under new bound ≡ pending values bound (slice_set o.nodes i (marked n)) mid b
  taken_pending bound i n ever expansions is =
      ap (λ (x : OwnerOf S). under x bound) is
      ∙ (λ j. pending values bound (slice_set (p.others j).nodes i (marked n)) mid b)

pub empty_pending : {S F : Type 0} (values : List ℕ → F → List ℕ) (o : OwnerOf S) (b : Batch F) (bound : Distance) (i : ℕ) (n : Node)
    → b.own.items ≡ [] → b.best ≡ o.best → pending values bound (slice_set o.nodes i (marked n)) o b ≡ mark_node (under o bound) i n
empty_pending {F = F} values o b bound i n own best =
    λ j. record {
      nodes = fold improve (slice_set o.nodes i (marked n)) (map (message_of (values (ranges o.space.task))) (own j));
      outboxes = o.outboxes;
      bound = bound;
      best = best j;
    }
