-- Messages that are taken one after the other.
use Rattle.std.proofs.Common.{◌≡◌, ℕ, suc, Bool, List, [], ◌∷◌, ◌++◌, length, refl, sym, ap, ◌∙◌}
use Rattle.owner_theory.specs.Owners.{SearchSpace, Message, Owner, took}
use Rattle.owner.specs.Owned.{OwnerOf, space_of, under}
use Rattle.links.specs.declared.ends.Out.{Out}
use Rattle.links.specs.declared.ends.In.{In}
use Rattle.worker.specs.Workers.{WorkerOf, sent_to}
use Rattle.worker.specs.Turns.{HasTaken}
use Rattle.engine.specs.Draining.{took_each, HasTakenEach}

took_more : (space : SearchSpace) (o : Owner) (ms ns : List Message) → took_each space o (ms ++ ns) ≡ took_each space (took_each space o ms) ns
took_more space o [] ns = refl
took_more space o (m ∷ ms) ns = took_more space (took space o m) ms ns

module _ {S F : Type 0} where
  -- what became of a worker, told by the worker that it became
  pub changed : (old new : WorkerOf S F) (o : OwnerOf S) (outs : List (Out F)) (ins : List (In F)) (r : Bool) (t : ℕ)
      → new ≡ record old { owner = o; outs = outs; ins = ins; resting = r; taken = t }
      → new ≡ record old { owner = new.owner; outs = new.outs; ins = new.ins; resting = new.resting; taken = new.taken }
  changed old new o outs ins r t e = e ∙ (λ j. let now : WorkerOf S F = sym e j in
      let after : WorkerOf S F = record old { owner = now.owner; outs = now.outs; ins = now.ins; resting = now.resting; taken = now.taken } in after)

module _ {S F : Type 0} (owner : S → List ℕ → ℕ → ℕ) where
  -- nothing is taken
  pub takes_none : (old new : WorkerOf S F) (outs : List (Out F)) (ins : List (In F)) (r : Bool) (t : ℕ)
      → new ≡ record old { outs = outs; ins = ins; resting = r; taken = t } → ((values : F → List ℕ) (to : ℕ) → sent_to values outs to ≡ sent_to values old.outs to)
      → length outs ≡ length old.outs → length ins ≡ length old.ins → HasTakenEach owner [] old new
  takes_none old new outs ins r t e sent same_outs same_ins =
      let same : new.owner ≡ old.owner = ap (λ (w : WorkerOf S F). w.owner) e in
      record {
        took = λ bound. ap (λ (o : OwnerOf S). under o bound) same;
        others = same ∙ (λ j. let o : OwnerOf S = sym same j in let after : OwnerOf S = record old.owner { nodes = o.nodes; ever = o.ever; best = o.best } in after);
        sent = λ values to. ap (λ (w : WorkerOf S F). sent_to values w.outs to) e ∙ sent values to;
        outs = ap (λ (w : WorkerOf S F). length w.outs) e ∙ same_outs;
        ins = ap (λ (w : WorkerOf S F). length w.ins) e ∙ same_ins;
        worker = changed old new old.owner outs ins r t e;
      }

  -- it is the same worker
  pub takes_nothing : (w : WorkerOf S F) → HasTakenEach owner [] w w
  takes_nothing w = takes_none w w w.outs w.ins w.resting w.taken refl (λ values to. refl) refl refl

  pub takes_one : (values : List ℕ → F → List ℕ) (from : ℕ) (old new : WorkerOf S F) (t : HasTaken owner values from old new)
      → HasTakenEach owner (t.message ∷ []) old new
  takes_one values from old new t =
      let same : new.outs ≡ old.outs = ap (λ (w : WorkerOf S F). w.outs) t.worker in
      record {
        took = t.took;
        others = t.others;
        sent = λ read to. ap (λ (os : List (Out F)). sent_to read os to) same;
        outs = ap length same;
        ins = t.popped.ends.len;
        worker = changed old new new.owner old.outs new.ins old.resting (suc old.taken) t.worker;
      }

  pub takes_through : (ms ns : List Message) (a b c : WorkerOf S F) → HasTakenEach owner ms a b → HasTakenEach owner ns b c
      → HasTakenEach owner (ms ++ ns) a c
  takes_through ms ns a b c p q = record {
    took = λ bound. q.took bound
        ∙ (ap (λ (o : OwnerOf S). took_each (space_of owner o) (under b.owner bound) ns) p.others
        ∙ (ap (λ (o : Owner). took_each (space_of owner a.owner) o ns) (p.took bound)
        ∙ sym (took_more (space_of owner a.owner) (under a.owner bound) ms ns)));
    others = q.others ∙ ap (λ (o : OwnerOf S). let after : OwnerOf S = record o { nodes = c.owner.nodes; ever = c.owner.ever; best = c.owner.best } in after) p.others;
    sent = λ values to. q.sent values to ∙ p.sent values to;
    outs = q.outs ∙ p.outs;
    ins = q.ins ∙ p.ins;
    worker = q.worker ∙ ap (λ (w : WorkerOf S F).
        let after : WorkerOf S F = record w { owner = c.owner; outs = c.outs; ins = c.ins; resting = c.resting; taken = c.taken } in after) p.worker;
  }
