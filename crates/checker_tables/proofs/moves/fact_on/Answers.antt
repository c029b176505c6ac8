use Rattle.std.proofs.Common.{◌∙◌, nat_eq, rules, tests}
use Rattle.std.proofs.lemmas.Iterator.{YieldsList-from_slice}
use Rattle.std.proofs.lemmas.Iterator.Search.{find_from_yields_List}
use Rattle.checker_tables.proofs.moves.fact_on.Goals as goal

pub returns : goal.returns
returns c =
    c.copied.ensures
    ∙ find_from_yields_List (λ f. nat_eq f.variable c.args.variable) _ _ c.find.result c.find.ensures.ran (YieldsList-from_slice c.args.facts.now cc) (λ x b q k. search (rules, tests))
