use Rattle.std.proofs.Common.{drop, take}
use Rattle.abstraction.specs.Projections.{size_of}
use Rattle.abstraction_mapping.specs.Mappings.{facts_by}
use Rattle.abstraction_mapping.specs.Views.{mapping_in, counts_in}
use Rattle.checker_tables.specs.Moves.{AreMoves}
use Rattle.checker_tables.proofs.moves.Moves.new.Given as goal

abbrev pub invariant-loop-place : goal.invariant-loop-place
invariant-loop-place l =
    AreMoves (counts_in l.abstraction) (drop l.place l.variables) (size_of (counts_in l.abstraction) (take l.place l.variables))
    (facts_by (mapping_in l.abstraction) l.precondition) (facts_by (mapping_in l.abstraction) l.effect) l.moves
