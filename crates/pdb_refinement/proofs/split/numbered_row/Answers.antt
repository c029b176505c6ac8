use Rattle.abstraction_domain.proofs.Numbering.{numbered_by_test}
use Rattle.pdb_refinement.proofs.split.numbered_row.Goals as goal

pub unreachable-requires : goal.unreachable-requires
unreachable-requires c =
    let is = c.in-Err.ensures.misnumbered in is.misnumbered ((numbered_by_test c.args.classes.items).0 c.requires _ is.within)
