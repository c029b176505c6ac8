use Rattle.std.proofs.Common.{true, sym, ap, ◌∙◌}
use Rattle.sexp.specs.Forms.{Forms, views}
use Rattle.pddl_syntax.specs.Faults.{first_of}
use Rattle.pddl_syntax.specs.Words.{word_kind}
use Rattle.pddl_syntax.specs.Typed.{is_known, type_at, type_faults, typed_faults, type_word_faults, type_group_faults}
use Rattle.pddl_syntax.proofs.Trees.{word_is, list_is, noted, on_ok, if_ok}
use Rattle.pddl_syntax.proofs.typed.read_type.Goals as goal

pub returns-in-Word-clause-parent : goal.returns-in-Word-clause-parent
returns-in-Word-clause-parent c =
    if_ok c.read_type_word.result _ _ (λ p e rest. e ∙ sym (ap type_at (word_is c.args.tree.now c.in-Word.text c.in-Word.span c.as_str.result.now rest c.in-Word.is c.as_str.ensures.value))) c.read_type_word.ensures.parent

pub returns-in-Word-clause-faults : goal.returns-in-Word-clause-faults
returns-in-Word-clause-faults c =
    let known = is_known c.args.any c.args.types.now in let t = c.as_str.result.now in
    on_ok c.read_type_word.result _ _ (λ e v home rest.
    ap (λ (f : Forms). first_of c.args.first.now (type_faults v known home f)) (word_is c.args.tree.now c.in-Word.text c.in-Word.span t rest c.in-Word.is c.as_str.ensures.value)
    ∙ noted c.args.first.now c.read_type_word.new.first (type_word_faults known t c.in-Word.span.start (word_kind t)) (typed_faults v known home true rest) e) c.read_type_word.ensures.faults

pub returns-in-List-clause-parent : goal.returns-in-List-clause-parent
returns-in-List-clause-parent c = λ rest. sym (ap type_at (list_is c.args.tree.now c.in-List.items c.in-List.span c.deref.result.now rest c.in-List.is c.deref.ensures.value))

pub returns-in-List-clause-faults : goal.returns-in-List-clause-faults
returns-in-List-clause-faults c =
    let known = is_known c.args.any c.args.types.now in
    λ v home rest.
    ap (λ (f : Forms). first_of c.args.first.now (type_faults v known home f)) (list_is c.args.tree.now c.in-List.items c.in-List.span c.deref.result.now rest c.in-List.is c.deref.ensures.value)
    ∙ noted c.args.first.now c.blame_type_list.new.first (type_group_faults c.in-List.span.start (views c.deref.result.now)) (typed_faults v known home true rest) c.blame_type_list.ensures
