use Rattle.std.proofs.Common.{ℕ, Bool, sym, ap, ◌∙◌}
use Rattle.sexp.specs.Forms.{Forms, before, views}
use Rattle.pddl_names.specs.Names.{is_there}
use Rattle.pddl_syntax.specs.declared.fault.LimitedTable.TheVariants.{Functions as FunctionTable}
use Rattle.pddl_syntax.specs.Faults.{first_of}
use Rattle.pddl_syntax.specs.Heads.{Heads}
use Rattle.pddl_syntax.proofs.Trees.{word_is, list_is, noted, on_ok, on_ok_3}
use Rattle.pddl_domain.specs.DeclaredHeads.{with_list, count_after, list_faults, empty_after, function_heads, functions_faults, heads_from, faults_from}
use Rattle.pddl_domain.proofs.HeadItems.{behind_number, function_heads_step, function_faults_step, at_most_one}
use Rattle.pddl_domain.proofs.heads_sections.Functions.read.Goals as goal

pub returns-then-self-clause-heads : goal.returns-then-self-clause-heads
returns-then-self-clause-heads c = λ rest.
    let d = c.args.self.now.declarations in
    ap (λ (b : Bool). heads_from b d.heads (before c.args.tree.now rest)) c.if-self.true ∙ behind_number d.heads c.args.tree.now rest

pub returns-in-Word-clause-heads : goal.returns-in-Word-clause-heads
returns-in-Word-clause-heads c = λ rest.
    let d = c.args.self.now.declarations in
    ap (λ (b : Bool). heads_from b d.heads (before c.args.tree.now rest)) c.if-self.false
    ∙ ap (function_heads d.heads) (word_is c.args.tree.now c.in-Word.text c.in-Word.span c.as_str.result.now rest c.in-Word.is c.as_str.ensures.value)
    ∙ c.read_word.ensures.heads c.in-Word.span.end rest
    ∙ ap (λ (e : _). heads_from c.read_word.new.self.wants_number e.heads rest) (sym c.read_word.ensures.declarations)

pub returns-in-Word-clause-faults : goal.returns-in-Word-clause-faults
returns-in-Word-clause-faults c = λ home rest.
    let s = c.args.self.now in let d = s.declarations in let known = is_there c.args.types.now.names in let n = c.read_word.new.self in
    ap (λ (b : Bool). first_of c.args.first.now (faults_from b known home s.is_empty d.heads d.count (before c.args.tree.now rest))) c.if-self.false
    ∙ ap (λ (f : Forms). first_of c.args.first.now (functions_faults known home s.is_empty d.heads d.count f))
    (word_is c.args.tree.now c.in-Word.text c.in-Word.span c.as_str.result.now rest c.in-Word.is c.as_str.ensures.value)
    ∙ c.read_word.ensures.faults known home c.in-Word.span.end d.heads d.count rest
    ∙ ap (λ (e : _). first_of c.read_word.new.first (faults_from n.wants_number known home n.is_empty e.heads e.count rest)) (sym c.read_word.ensures.declarations)

pub returns-in-List-clause-count : goal.returns-in-List-clause-count
returns-in-List-clause-count c =
    on_ok c.read_list.result _ _ (at_most_one c.args.self.now.declarations.count c.read_list.new.self.count (views c.as_slice-items.result.now)) c.read_list.ensures.count

pub returns-in-List-clause-heads : goal.returns-in-List-clause-heads
returns-in-List-clause-heads c =
    let d = c.args.self.now.declarations in let i = views c.as_slice-items.result.now in
    on_ok c.read_list.result _ _ (λ heads_are rest.
    ap (λ (b : Bool). heads_from b d.heads (before c.args.tree.now rest)) c.if-self.false
    ∙ ap (function_heads d.heads) (list_is c.args.tree.now c.in-List.items c.in-List.span c.as_slice-items.result.now rest c.in-List.is c.as_slice-items.ensures.value)
    ∙ function_heads_step (is_there c.args.types.now.names) d.heads d.count c.in-List.span.start c.in-List.span.end i rest
    ∙ ap (λ (h : Heads). function_heads h rest) (sym heads_are)
    ∙ sym (ap (λ (b : Bool). heads_from b c.read_list.new.self.heads rest) c.if-self.false)) c.read_list.ensures.heads

pub returns-in-List-clause-faults : goal.returns-in-List-clause-faults
returns-in-List-clause-faults c =
    let s = c.args.self.now in let d = s.declarations in let known = is_there c.args.types.now.names in let n = c.read_list.new.self in
    let old = c.args.first.now in let new = c.read_list.new.first in let i = views c.as_slice-items.result.now in let at = c.in-List.span.start in
    on_ok_3 c.read_list.result _ _ _ _ (λ heads_are counted e home rest.
    ap (λ (b : Bool). first_of old (faults_from b known home s.is_empty d.heads d.count (before c.args.tree.now rest))) c.if-self.false
    ∙ ap (λ (f : Forms). first_of old (functions_faults known home s.is_empty d.heads d.count f))
    (list_is c.args.tree.now c.in-List.items c.in-List.span c.as_slice-items.result.now rest c.in-List.is c.as_slice-items.ensures.value)
    ∙ ap (first_of old) (function_faults_step known d.heads d.count at c.in-List.span.end home s.is_empty i rest)
    ∙ noted old new (list_faults known FunctionTable d.heads d.count at i) (functions_faults known home (empty_after s.is_empty i) (with_list d.heads i) (count_after d.count i) rest) e
    ∙ ap (λ (h : Heads). first_of new (functions_faults known home (empty_after s.is_empty i) h (count_after d.count i) rest)) (sym heads_are)
    ∙ ap (λ (k : ℕ). first_of new (functions_faults known home (empty_after s.is_empty i) n.heads k rest)) (sym counted)
    ∙ ap (λ (b : Bool). first_of new (functions_faults known home b n.heads n.count rest)) (sym c.is_empty_after-self.ensures)
    ∙ sym (ap (λ (b : Bool). first_of new (faults_from b known home c.is_empty_after-self.result n.heads n.count rest)) c.if-self.false))
    c.read_list.ensures.heads c.read_list.ensures.count c.read_list.ensures.faults
