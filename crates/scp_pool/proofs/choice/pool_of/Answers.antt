use Rattle.std.proofs.Common.{◌^◌}
use Rattle.scp_pool.proofs.Extensions.{extended_both}
use Rattle.scp_pool.proofs.choice.pool_of.Goals as goal

pub returns-clause-extended : goal.returns-clause-extended
returns-clause-extended g c =
    extended_both (2 ^ 24) c.args.stage.now.refined_states c.args.stage.now.grown_states c.args.taken_over c.add_kinds.new.pool c.add_patterns.new.pool
    c.in_ok-finding.ensures.extended c.in_ok-add_patterns.ensures.extended
