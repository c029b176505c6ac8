use Rattle.closed.proofs.Reached.{reached-node_of, arrival-message_of, reached_all-arrival, reached-fresh}
use Rattle.closed.proofs.laws.reaching_is_improving.Goals as goal

pub returns-clause-message : goal.returns-clause-message
returns-clause-message g c = reached-node_of

pub returns-clause-arrival : goal.returns-clause-arrival
returns-clause-arrival g c = arrival-message_of

pub returns-clause-all : goal.returns-clause-all
returns-clause-all g c values nodes ms = reached_all-arrival values ms nodes

pub returns-clause-own : goal.returns-clause-own
returns-clause-own g c = reached-fresh
