use Rattle.std.proofs.Common.{◌≡◌, ◌++◌, rules}
use Rattle.std.specs.Prelude.{string_bytes}
use Rattle.translate_theory.specs.Names.{object_name}
use Rattle.translate_assembly.proofs.TextLaws.{objects_pushed}
use Rattle.translate_assembly.proofs.texts.push_objects.Goals as goal

pub returns-in_ok-push_each : goal.returns-in_ok-push_each
returns-in_ok-push_each c =
    let first : string_bytes c.push_str.new.self ≡ string_bytes c.args.text.now ++ object_name c.args.vocabulary.now c.in-Some.first.now = search rules in
    objects_pushed c.args.vocabulary.now c.args.objects.now c.in-Some.others.now c.in-Some.first.now _ _ _ c.in-Some.ensures.cases.0 first c.in_ok-push_each.ensures
