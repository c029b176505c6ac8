use Rattle.std.proofs.Common.{◌≡◌, ◌++◌, [], ◌∷◌, map, get_or, ◌∙◌, ap, sym, List, ℕ, Option, Some}
use Rattle.std.specs.Prelude.{slice_get, string_bytes}
use Rattle.std.specs.List.{cons_option}
use Rattle.std.proofs.lemmas.List.{append-nil}
use Rattle.pddl_task.specs.Atoms.{Atom}
use Rattle.translate_theory.specs.Names.{atom_names}
use Rattle.translate_assembly.proofs.TextLaws.{names_more, pushed}
use Rattle.translate_assembly.proofs.texts.place_names.Goals as goal
use Rattle.translate_assembly.proofs.texts.place_names.Goals.{in-Some+in_ok-atom_name+in_ok-push, in_default}

pub loop-place-preserved : goal.loop-place-preserved
loop-place-preserved c =
    let names = c.args.vocabulary.now in
    let atoms = c.args.atoms.now in
    let places = c.args.places.now in
    let i = c.loop-place.place-index in
    elim c.match-get.branch [
      | in-Some+in_ok-atom_name+in_ok-push w ↦
          let at : Some w.in-Some.atom.now ≡ slice_get atoms (get_or places i 0) = w.in-Some.ensures in
          names_more names atoms places i _ _ c.loop-place-test.true c.loop-place.invariant
          (ap (λ t. map string_bytes t.items) w.texts-is
          ∙ pushed c.loop-place.texts.items w.push.new.self.items w.in_ok-atom_name.field-0 w.in_ok-push.ensures.items
          ∙ ap (λ (t : List ℕ). map string_bytes c.loop-place.texts.items ++ t ∷ []) w.in_ok-atom_name.ensures
          ∙ ap (λ (o : Option Atom). map string_bytes c.loop-place.texts.items ++ atom_names names (cons_option o [])) at)
      | in_default w ↦
          names_more names atoms places i _ _ c.loop-place-test.true c.loop-place.invariant
          (ap (λ t. map string_bytes t.items) w.texts-is
          ∙ sym (append-nil (map string_bytes c.loop-place.texts.items))
          ∙ ap (λ (o : Option Atom). map string_bytes c.loop-place.texts.items ++ atom_names names (cons_option o [])) w.in_default.ensures)
    ]
