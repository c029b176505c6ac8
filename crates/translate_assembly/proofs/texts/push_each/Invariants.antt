use Rattle.std.proofs.Common.{◌≡◌, ◌++◌, take}
use Rattle.std.specs.Prelude.{string_bytes}
use Rattle.std.specs.List.{flat_map}
use Rattle.translate_theory.specs.Names.{object_name}
use Rattle.translate_assembly.proofs.texts.push_each.Given as goal

abbrev pub invariant-loop-object : goal.invariant-loop-object
invariant-loop-object l =
    string_bytes l.text ≡ string_bytes l.fn.text ++ flat_map (λ o. l.before ++ object_name l.vocabulary o) (take l.object-index l.objects)
