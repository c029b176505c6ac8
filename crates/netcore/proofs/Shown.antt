-- What a world in memory shows after a step, and what it keeps.
use Rattle.std.proofs.Common.{◌≡◌, ◌≢◌, ℕ, ◌≤◌, Bool, false, List, [], ◌∷◌, ◌++◌, length, map, All, refl, sym, ap, ◌∙◌, subst, arith}
use Rattle.std.proofs.Math.Logic.{∥∥₁_elim}
use Rattle.std.proofs.lemmas.Bool.{eqb-false}
use Rattle.std.proofs.lemmas.List.{map-append}
use Rattle.cost.specs.Distances.{Distance}
use Rattle.owner_theory.specs.Owners.{At, put, SearchSpace, Packet, Log}
use Rattle.owner_theory.specs.Worlds.{World, Step, Request, Does, IsRunOf, world_after, world_start, world_run}
use Rattle.owner_theory.proofs.Lists.{put_cases}
use Rattle.owner.specs.Spaces.{searched}
use Rattle.owner.specs.Owned.{OwnerOf, IsLogOf, IsMessageTo}
use Rattle.owner.proofs.Logs.{log_after}
use Rattle.netcore.specs.declared.step.WorldStep.{WorldStep}
use Rattle.netcore.specs.Worlds.{WorldOf, space_in, packets_to, IsVoid, Shows, Steps, IsAfter, request_of, world_after_run, would_change}
use Rattle.netcore.specs.Kept.{IsStepDone, IsWorld}

-- ---- runs
pub run_more : (space : SearchSpace) (world : World) (xs : List Request) (ss : List Step) (x : Request) (s : Step) → IsRunOf space world xs ss
    → Does space (world_run space world ss) x s → IsRunOf space world (xs ++ x ∷ []) (ss ++ s ∷ [])
run_more space world [] [] x s run does = (does, tt)
run_more space world (y ∷ xs) (r ∷ ss) x s run does = (run.0, run_more space (world_after space world r) xs ss x s run.1 does)
run_more space world [] (r ∷ ss) x s run does = absurd run
run_more space world (y ∷ xs) [] x s run does = absurd run

pub world_more : (space : SearchSpace) (world : World) (ss : List Step) (s : Step)
    → world_run space world (ss ++ s ∷ []) ≡ world_after space (world_run space world ss) s
world_more space world [] s = refl
world_more space world (r ∷ ss) s = world_more space (world_after space world r) ss s

module _ {S : Type 0} (owner : S → List ℕ → ℕ → ℕ) where
  pub same_in : (old new : WorldOf S) → new.space ≡ old.space → length new.owners ≡ length old.owners → space_in owner new ≡ space_in owner old
  same_in old new e n = ap (λ s. searched owner s (length new.owners)) e ∙ ap (λ k. searched owner old.space k) n

  -- one log is another one, and what lies in memory differs from what it was there alone
  pub shown : (old new : WorldOf S) (world : World) (v : ℕ) (l : Log) (underway : List Packet) (bound : Distance) (resting : ℕ → Bool)
      → Shows owner old world → new.space ≡ old.space → length new.owners ≡ length old.owners
      → ((o : OwnerOf S) (b : Distance) → At new.owners v o → At new.seen v b → IsLogOf l o b)
      → ((u : ℕ) (o : OwnerOf S) (b : Distance) → u ≢ v → At new.owners u o → At new.seen u b → At old.owners u o × At old.seen u b)
      → (length old.owners ≤ v → IsVoid l.owner)
      → ((u : ℕ) (ps : List Packet) → At new.underway u ps → packets_to (space_in owner old) u underway ≡ ps)
      → bound ≡ new.bound
      → ((u : ℕ) (r : Bool) → At new.resting u r → resting u ≡ r)
      → Shows owner new (record { logs = put world.logs v l; underway = underway; bound = bound; resting = resting })
  shown old new world v l underway bound resting shows e n here there void queues bounds rests = record {
    owners = λ u o b at seen. put_cases world.logs v l u (λ (x : Log). IsLogOf x o b)
        (λ is. here o b (subst (λ k. At new.owners k o) is at) (subst (λ k. At new.seen k b) is seen))
        (λ not_it. let old_one = there u o b (λ is. eqb-false u v not_it is) at seen in shows.owners u o b old_one.0 old_one.1);
    underway = λ u ps at. subst (λ s. packets_to s u underway ≡ ps) (sym (same_in old new e n)) (queues u ps at);
    bound = bounds;
    resting = rests;
    others = λ u le. put_cases world.logs v l u (λ (x : Log). IsVoid x.owner)
        (λ is. void (omega arith)) (λ _. shows.others u (omega arith));
  }

  -- a log with the same owner and as many expansions shows no difference
  pub shown_same : (old : WorldOf S) (world : World) (v : ℕ) (l : Log) → Shows owner old world → l.owner ≡ (world.logs v).owner
      → l.expansions ≡ (world.logs v).expansions → Shows owner old (record { logs = put world.logs v l; underway = world.underway; bound = world.bound; resting = world.resting })
  shown_same old world v l shows same count =
      shown old old world v l world.underway world.bound world.resting shows refl refl
      (λ o b at seen. let log = shows.owners v o b at seen in log_after (world.logs v) l o o b b log (same ∙ log.owner) count refl refl)
      (λ u o b ne at seen. (at, seen))
      (λ le. subst IsVoid (sym same) (shows.others v le))
      shows.underway shows.bound shows.resting

  -- a step that changes nothing
  pub nothing_done : (old : WorldOf S) (asked : WorldStep) (changed : Bool) → changed ≡ false → would_change owner old asked ≡ false
      → ((world : World) → Shows owner old world → Steps owner old world asked old) → IsStepDone owner old old asked changed
  nothing_done old asked changed is test steps = record {
    stepped = steps;
    changed_is = is ∙ sym test;
    unchanged = λ _. refl;
    limited = refl;
    space = refl;
    owners = refl;
  }

  pub after_step : (old new : WorldOf S) (asked : List WorldStep) (step : WorldStep)
      → ((world : World) → Shows owner old world → Steps owner old world step new)
      → IsAfter owner (space_in owner old) asked old → IsAfter owner (space_in owner old) (asked ++ step ∷ []) new
  after_step old new asked step stepped after =
      let space = space_in owner old in
      let one : Steps owner old (world_after_run space after.steps) step new = stepped (world_after_run space after.steps) after.shown in
      record {
        steps = after.steps ++ one.step ∷ [];
        run = subst (λ xs. IsRunOf space (world_start space) xs (after.steps ++ one.step ∷ [])) (sym (map-append request_of asked (step ∷ [])))
            (run_more space (world_start space) (map request_of asked) after.steps (request_of step) one.step after.run one.does);
        shown = subst (Shows owner new) (sym (world_more space (world_start space) after.steps one.step)) one.shown;
      }

  abbrev pub HasRun : WorldOf S → Type 0
  HasRun w = ∥ ((asked : List WorldStep) × IsAfter owner (space_in owner w) asked w) ∥₁

  pub run_after : (old new : WorldOf S) (step : WorldStep) (changed : Bool) → IsStepDone owner old new step changed → IsWorld owner old
      → HasRun new
  run_after old new step changed done kept =
      ∥∥₁_elim kept.run squash₁
      (λ some. let (asked, after) = some in ∣ (
        asked ++ step ∷ [],
        subst (λ s. IsAfter owner s (asked ++ step ∷ []) new) (sym (same_in old new done.space done.owners)) (after_step old new asked step done.stepped after),
      ) ∣₁)

  -- what a step keeps
  pub kept : (old new : WorldOf S) → IsWorld owner old → new.space ≡ old.space → length new.owners ≡ length old.owners
      → length new.underway ≡ length old.underway → length new.seen ≡ length old.seen → length new.resting ≡ length old.resting
      → ((u : ℕ) (o : OwnerOf S) → At new.owners u o → (p : OwnerOf S) × At old.owners u p × (o.space ≡ p.space) × (o.worker ≡ p.worker) × (length o.outboxes ≡ length p.outboxes))
      → ((u : ℕ) (ps : List Packet) → At new.underway u ps → All (λ p. IsMessageTo (space_in owner old) u p.message) ps)
      → HasRun new
      → IsWorld owner new
  kept old new is e n queues bounds flags owners messages run = record {
    some = omega (arith, is.some);
    queues = queues ∙ (is.queues ∙ sym n);
    bounds = bounds ∙ (is.bounds ∙ sym n);
    flags = flags ∙ (is.flags ∙ sym n);
    spaces = λ u o at. let (p, there, a, b, c) = owners u o at in a ∙ (is.spaces u p there ∙ sym e);
    workers = λ u o at. let (p, there, a, b, c) = owners u o at in b ∙ is.workers u p there;
    outboxes = λ u o at. let (p, there, a, b, c) = owners u o at in c ∙ (is.outboxes u p there ∙ sym n);
    messages = λ u ps at. subst (λ s. All (λ p. IsMessageTo s u p.message) ps) (sym (same_in old new e n)) (messages u ps at);
    run = run;
  }

  -- the same, where the owners are as they were
  pub same_owners : (old new : WorldOf S) → new.owners ≡ old.owners → (u : ℕ) (o : OwnerOf S) → At new.owners u o
      → (p : OwnerOf S) × At old.owners u p × (o.space ≡ p.space) × (o.worker ≡ p.worker) × (length o.outboxes ≡ length p.outboxes)
  same_owners old new e u o at = (o, subst (λ os. At os u o) e at, refl, refl, refl)
