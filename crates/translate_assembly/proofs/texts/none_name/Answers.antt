use Rattle.std.proofs.Common.{◌≡◌, ◌<◌, ◌∙◌, ap, refl, length, get_or, List, arith}
use Rattle.pddl_task.specs.Atoms.{Atom}
use Rattle.translate_assembly.proofs.TextLaws.{none_of_several, none_of_one}
use Rattle.translate_assembly.proofs.texts.none_name.Goals as goal

pub returns-then-places-ne1 : goal.returns-then-places-ne1
returns-then-places-ne1 c =
    rw (none_of_several c.args.vocabulary.now c.args.atoms.now c.args.places.now c.requires c.if-places-ne1.true) c.from_str.ensures.ok

pub returns : goal.returns
returns c =
    let x = c.index-as_slice-places.result in
    let p = get_or c.args.places.now 0 0 in
    let within : p < length c.args.atoms.now = c.requires 0 0 (omega (arith, c.if-places-ne1.false)) in
    let at : x ≡ get_or c.args.atoms.now p x = c.index-as_slice-places.is ∙ ap (λ (l : List Atom). get_or l p x) c.as_slice.ensures.atoms in
    rw (none_of_one c.args.vocabulary.now c.args.atoms.now c.args.places.now p x c.if-places-ne1.false refl within at) c.atom_name.ensures
