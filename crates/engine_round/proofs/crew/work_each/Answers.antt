use mir.Syntax.{of_param}
use denote.Exit.{unseen}
use denote.Param.Send.{Quiet-if}
use Rattle.engine_round.proofs.crew.work_each.Goals as goal

-- the closure may be called: all that it captures crosses threads as the bounds say
pub scoped-requires : goal.scoped-requires
scoped-requires g c = record {
  at = λ a. (
    (record { shared = c.type_bounds.sync-R.shared }, c.requires.own, c.requires.jobs),
    (
      record { owned = c.type_bounds.send-W.owned; leaving = λ k. Quiet-if (k (of_param 1)) unseen unseen (λ x w. tt {0}) (λ x w. tt {0}) },
      record { owned = c.type_bounds.send-J.owned; leaving = λ k. Quiet-if (k (of_param 2)) unseen unseen (λ x w. tt {0}) (λ x w. tt {0}) },
      record { shared = c.type_bounds.sync-R.shared },
      record { shared = c.type_bounds.sync-G.shared },
    ),
  );
}
