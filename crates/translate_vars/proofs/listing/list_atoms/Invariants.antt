use Rattle.std.proofs.Common.{◌≡◌, take}
use Rattle.translate_vars.specs.Faults.{AreAtomsOf}
use Rattle.translate_vars.proofs.listing.list_atoms.Given as goal

abbrev pub invariant-loop-place : goal.invariant-loop-place
invariant-loop-place l = record {
  listed : l.listed ≡ take l.place l.atoms;
  known : AreAtomsOf l.task (take l.place l.atoms);
}
