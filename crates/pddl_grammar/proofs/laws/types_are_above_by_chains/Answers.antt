use Rattle.pddl_grammar.proofs.Chains.{below_fits, fits_below}
use Rattle.pddl_grammar.proofs.laws.types_are_above_by_chains.Goals as goal

pub returns-clause-fits : goal.returns-clause-fits
returns-clause-fits c = below_fits

pub returns-clause-chain : goal.returns-clause-chain
returns-clause-chain c = fits_below
