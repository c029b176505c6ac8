use Rattle.std.proofs.Common.{◌≡◌, map, take}
use Rattle.std.specs.Prelude.{string_bytes}
use Rattle.mutex_index.specs.Places.{atoms_at}
use Rattle.translate_theory.specs.Names.{atom_names}
use Rattle.translate_assembly.proofs.texts.place_names.Given as goal

abbrev pub invariant-loop-place : goal.invariant-loop-place
invariant-loop-place l =
    map string_bytes l.texts.items ≡ atom_names l.vocabulary (atoms_at l.atoms (take l.place-index l.places))
