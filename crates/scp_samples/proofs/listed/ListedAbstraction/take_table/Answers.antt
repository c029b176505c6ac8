use Rattle.abstraction.specs.Projections.{projection}
use Rattle.abstraction_domain.specs.Domains.{domain}
use Rattle.pdb.specs.Numbers.{distances_in}
use Rattle.scp_samples.proofs.Falls.{still_small}
use Rattle.scp_samples.proofs.listed.ListedAbstraction.take_table.Goals as goal

pub returns-in-Projection : goal.returns-in-Projection
returns-in-Projection c =
    let listed = c.in-Projection.listed in
    still_small (projection listed.task listed.pattern) (distances_in c.take_table.new.scratch) c.args.left.now c.take_table.new.left c.take_table.result c.take_table.ensures.left c.take_table.ensures.refused c.requires.small

pub returns-in-Domain : goal.returns-in-Domain
returns-in-Domain c =
    let listed = c.in-Domain.listed in
    still_small (domain listed.task listed.rows) (distances_in c.take_table-in-Domain.new.scratch) c.args.left.now c.take_table-in-Domain.new.left c.take_table-in-Domain.result c.take_table-in-Domain.ensures.left c.take_table-in-Domain.ensures.refused c.requires.small
