use Rattle.std.proofs.Common.{subst}
use Rattle.std.specs.Option.{option_map}
use Rattle.optplan_search.specs.Findings.{plain, IsFound}
use Rattle.optplan_search.specs.SearchEnds.{single}
use Rattle.optplan_search.proofs.Ends.{settled_bound_of}
use Rattle.optplan_search.proofs.Settled.{finding_of, settled_finding}
use Rattle.optplan_search.proofs.found.found_when_settled.Goals as goal

pub returns-in-Some : goal.returns-in-Some
returns-in-Some g c =
    let e = c.args.joined.now in
    let least = settled_bound_of g.S.Spread.owner e c.recall.ensures.space c.recall.ensures.lower c.recall.ensures.lawful c.requires.settled.0 c.requires.settled.1 in
    subst (λ b. IsFound g.S.Spread.owner (single e) (option_map plain c.args.wanted) (finding_of b c.in_ok-certificate.certificate)) c.in-Some.is
    (settled_finding g.S.Spread.owner e (option_map plain c.args.wanted) c.requires.settled.0 _ c.in_ok-certificate.certificate c.requires.settled.1 least
    c.in_ok-found.ensures.best c.in_ok-found.ensures.settled c.in_ok-certificate.ensures.settled)

pub returns-in-None : goal.returns-in-None
returns-in-None g c =
    let e = c.args.joined.now in
    let least = settled_bound_of g.S.Spread.owner e c.recall.ensures.space c.recall.ensures.lower c.recall.ensures.lawful c.requires.settled.0 c.requires.settled.1 in
    subst (λ b. IsFound g.S.Spread.owner (single e) (option_map plain c.args.wanted) (finding_of b c.in_ok-certificate.certificate)) c.in-None.is
    (settled_finding g.S.Spread.owner e (option_map plain c.args.wanted) c.requires.settled.0 _ c.in_ok-certificate.certificate c.requires.settled.1 least
    c.in_ok-found.ensures.best c.in_ok-found.ensures.settled c.in_ok-certificate.ensures.settled)
