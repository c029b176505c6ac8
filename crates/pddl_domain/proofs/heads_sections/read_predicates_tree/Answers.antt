use Rattle.std.proofs.Common.{ℕ, refl, sym, ap, ◌∙◌}
use Rattle.std.specs.Prelude.{Option}
use Rattle.sexp.specs.Forms.{Forms, views}
use Rattle.pddl_names.specs.Names.{is_there}
use Rattle.pddl_syntax.specs.Faults.{first_of, fault}
use Rattle.pddl_syntax.specs.Heads.{Heads}
use Rattle.pddl_syntax.specs.declared.fault.Fault.{Fault}
use Rattle.pddl_syntax.specs.declared.fault.FaultKind.TheVariants.{Shape}
use Rattle.pddl_syntax.specs.declared.fault.LimitedTable.TheVariants.{Predicates}
use Rattle.pddl_syntax.proofs.Trees.{word_is, list_is, on_ok, on_ok_3, noted, first_of_cons}
use Rattle.pddl_domain.specs.DeclaredHeads.{with_list, count_after, list_faults, predicate_heads, predicates_faults}
use Rattle.pddl_domain.proofs.HeadItems.{equals_heads, equals_faults, predicate_heads_step, predicate_faults_step, at_most_one}
use Rattle.pddl_domain.proofs.heads_sections.read_predicates_tree.Goals as goal

pub returns-in-Word-clause-heads : goal.returns-in-Word-clause-heads
returns-in-Word-clause-heads c = λ rest.
    ap (predicate_heads c.args.predicates.now.heads) (word_is c.args.tree.now c.in-Word.text c.in-Word.span _ rest c.in-Word.is refl)

pub returns-in-Word-clause-faults : goal.returns-in-Word-clause-faults
returns-in-Word-clause-faults c = λ rest.
    let known = is_there c.args.types.now.names in let p = c.args.predicates.now in let old = c.args.first.now in
    ap (λ (f : Forms). first_of old (predicates_faults known p.heads p.count f)) (word_is c.args.tree.now c.in-Word.text c.in-Word.span _ rest c.in-Word.is refl)
    ∙ first_of_cons old (fault Shape c.in-Word.span.start) (predicates_faults known p.heads p.count rest)
    ∙ ap (λ (k : Option Fault). first_of k (predicates_faults known p.heads p.count rest)) (sym c.blame.ensures)

pub returns-then-has_equals-clause-heads : goal.returns-then-has_equals-clause-heads
returns-then-has_equals-clause-heads c = λ rest.
    let p = c.args.predicates.now in let i = c.as_slice-items.result.now in
    ap (predicate_heads p.heads) (list_is c.args.tree.now c.in-List.items c.in-List.span i rest c.in-List.is c.as_slice-items.ensures.value)
    ∙ equals_heads (is_there c.args.types.now.names) p.heads p.count c.in-List.span.start c.in-List.span.end (views i) rest (sym c.has_equals.ensures ∙ c.if-has_equals.true)

pub returns-then-has_equals-clause-faults : goal.returns-then-has_equals-clause-faults
returns-then-has_equals-clause-faults c = λ rest.
    let known = is_there c.args.types.now.names in let p = c.args.predicates.now in let i = c.as_slice-items.result.now in
    ap (λ (f : Forms). first_of c.args.first.now (predicates_faults known p.heads p.count f))
    (list_is c.args.tree.now c.in-List.items c.in-List.span i rest c.in-List.is c.as_slice-items.ensures.value)
    ∙ ap (first_of c.args.first.now)
    (equals_faults known p.heads p.count c.in-List.span.start c.in-List.span.end (views i) rest (sym c.has_equals.ensures ∙ c.if-has_equals.true))

pub returns-else-has_equals-clause-count : goal.returns-else-has_equals-clause-count
returns-else-has_equals-clause-count c =
    on_ok c.read_list.result _ _ (at_most_one c.args.predicates.now.count c.read_list.new.self.count (views c.as_slice-items.result.now)) c.read_list.ensures.count

pub returns-else-has_equals-clause-heads : goal.returns-else-has_equals-clause-heads
returns-else-has_equals-clause-heads c =
    let p = c.args.predicates.now in let i = c.as_slice-items.result.now in
    on_ok c.read_list.result _ _ (λ heads_are rest.
    ap (predicate_heads p.heads) (list_is c.args.tree.now c.in-List.items c.in-List.span i rest c.in-List.is c.as_slice-items.ensures.value)
    ∙ predicate_heads_step (is_there c.args.types.now.names) p.heads p.count c.in-List.span.start c.in-List.span.end (views i) rest (sym c.has_equals.ensures ∙ c.if-has_equals.false)
    ∙ ap (λ (h : Heads). predicate_heads h rest) (sym heads_are)) c.read_list.ensures.heads

pub returns-else-has_equals-clause-faults : goal.returns-else-has_equals-clause-faults
returns-else-has_equals-clause-faults c =
    let known = is_there c.args.types.now.names in let p = c.args.predicates.now in let q = c.read_list.new.self in
    let old = c.args.first.now in let new = c.read_list.new.first in let i = views c.as_slice-items.result.now in
    on_ok_3 c.read_list.result _ _ _ _ (λ heads_are counted e rest.
    ap (λ (f : Forms). first_of old (predicates_faults known p.heads p.count f))
    (list_is c.args.tree.now c.in-List.items c.in-List.span c.as_slice-items.result.now rest c.in-List.is c.as_slice-items.ensures.value)
    ∙ ap (first_of old) (predicate_faults_step known p.heads p.count c.in-List.span.start c.in-List.span.end i rest (sym c.has_equals.ensures ∙ c.if-has_equals.false))
    ∙ noted old new (list_faults known Predicates p.heads p.count c.in-List.span.start i) (predicates_faults known (with_list p.heads i) (count_after p.count i) rest) e
    ∙ ap (λ (h : Heads). first_of new (predicates_faults known h (count_after p.count i) rest)) (sym heads_are)
    ∙ ap (λ (n : ℕ). first_of new (predicates_faults known q.heads n rest)) (sym counted))
    c.read_list.ensures.heads c.read_list.ensures.count c.read_list.ensures.faults
