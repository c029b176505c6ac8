-- Findings and refusals by threads, of the task itself or of what its reduction leaves.
use Rattle.std.proofs.Common.{◌≡◌, Bool, true, false, Option, refl, sym, subst}
use Rattle.std.specs.Option.{option_map}
use Rattle.fdr.specs.Tasks.{FiniteDomainTask}
use Rattle.cert_value.specs.Views.{kind_of}
use Rattle.cert_value.specs.declared.certificate.CertificateKind.{CertificateKind}
use Rattle.packed_spread.specs.Spreads as spread
use Rattle.packed_spread.specs.Spreads.{zobrist_owner}
use Rattle.engine_round.specs.Turns.{MayStop}
use Rattle.reduction.specs.declared.reduction.Reduction.{Reduction}
use Rattle.optplan_options.specs.Choices.{Choices}
use Rattle.optplan_search.specs.SearchEnds.{EndsOf}
use Rattle.optplan_search.specs.Findings.{Found, plain, wants, IsFoundFor, IsOwnFinding, IsFinding}
use Rattle.optplan_solver.specs.ThreadedSearches.{EndsIn, EndsByThreads, IsSearchedFor, IsRefusedIn, IsRefusedByThreads}
use Rattle.optplan_solver.specs.Reduced.{IsReductionOf, stated_classes}
use Rattle.optplan_search.specs.declared.fault.SearchFault.{SearchFault}
use Rattle.optplan_search.specs.declared.fault.SearchFault.TheVariants.{OutOfMemory, TotalTooLarge}
use Rattle.optplan_search.proofs.OwnFindings.{own_is_finding}

module _ (choices : Choices) (may_stop : MayStop) (task : FiniteDomainTask) where
  module _ (searched : FiniteDomainTask) (is_searched : IsSearchedFor choices.reduction task searched) where
    -- a search of the task that is searched is refused
    pub refused_by_threads : (e : SearchFault) → IsRefusedIn choices may_stop searched e → IsRefusedByThreads choices may_stop task e
    refused_by_threads OutOfMemory why = tt
    refused_by_threads TotalTooLarge why = (searched, is_searched, why)

  -- without a reduction the task itself is searched
  pub itself : choices.reduction ≡ false → IsSearchedFor choices.reduction task task
  itself off = subst (λ (b : Bool). IsSearchedFor b task task) (sym off) refl

  -- with one, what it leaves
  pub reduced : choices.reduction ≡ true → (r : Reduction) → IsReductionOf task r → IsSearchedFor choices.reduction task r.task
  reduced on r is = subst (λ (b : Bool). IsSearchedFor b task r.task) (sym on) (r.classes, (r.retained.items, is.reduction, is.task_is))

  -- what is found without a reduction
  pub found_itself : choices.reduction ≡ false → (wanted : Option CertificateKind) (f : Found)
      → IsOwnFinding task (option_map plain wanted) (EndsIn choices.tables choices may_stop task) f
      → IsFinding task (option_map kind_of wanted) (EndsByThreads choices may_stop task) f
  found_itself off wanted f own =
      let found = own_is_finding task wanted (EndsIn choices.tables choices may_stop task) f own in
      record { at = found.at; ended = (task, itself off, found.ended); classes = found.classes; found = found.found }

  -- what is found with one
  pub found_reduced : choices.reduction ≡ true → (r : Reduction) → IsReductionOf task r → (wanted : Option CertificateKind) (f made : Found)
      → IsOwnFinding r.task (option_map plain wanted) (EndsIn choices.tables choices may_stop r.task) f
      → ((es : EndsOf spread.Zobrist) → IsFoundFor r.task zobrist_owner es (option_map plain wanted) f
      → IsFoundFor task zobrist_owner es (wants (stated_classes r.classes) (option_map kind_of wanted)) made)
      → IsFinding task (option_map kind_of wanted) (EndsByThreads choices may_stop task) made
  found_reduced on r is wanted f made own in_task = record {
    at = own.at;
    ended = (r.task, reduced on r is, own.ended);
    classes = stated_classes r.classes;
    found = in_task own.at (subst (λ (t : FiniteDomainTask). IsFoundFor t zobrist_owner own.at (option_map plain wanted) f) own.task_is own.found);
  }
