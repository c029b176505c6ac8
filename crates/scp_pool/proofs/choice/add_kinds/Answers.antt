use Rattle.std.proofs.Common.{◌^◌, min}
use Rattle.scp_pool.proofs.Extensions.{extended_twice}
use Rattle.scp_pool.proofs.choice.add_kinds.Goals as goal

pub returns-clause-extended : goal.returns-clause-extended
returns-clause-extended g c =
    extended_twice (min (2 ^ 24) c.args.stage.now.refined_states) c.args.pool.now c.add_kind.new.pool c.add_kind-2.new.pool
    c.in_ok-first.ensures.extended c.in_ok-second.ensures.extended
