use Rattle.std.proofs.Common.{◌+◌, List, drop, map, arith, sym, ap, ◌∙◌}
use Rattle.std.specs.Option.{option_map}
use Rattle.sexp.specs.Forms.{alone}
use Rattle.pddl_syntax.specs.declared.parameters.Parameters.{Parameters as ParameterList}
use Rattle.pddl_syntax.specs.Faults.{first_of}
use Rattle.pddl_action.specs.declared.keyword.Keyword.TheVariants.{Parameters}
use Rattle.pddl_action.specs.Keywords.{KeywordPart, part_of}
use Rattle.pddl_action.specs.Readings.{value_or, names_of_list, types_of_list, list_faults, lists_faults}
use Rattle.pddl_action.proofs.Noted.{noted_step}
use Rattle.pddl_action.proofs.Parts.{part_at, parts_end, unwrapped_at_end}
use Rattle.pddl_action.proofs.schema.read_parameters.Goals as goal

pub loop-part-preserved : goal.loop-part-preserved
loop-part-preserved c =
    let types = c.args.types.now.names in let p = c.part-item.result in let old = c.loop-part.parameters in
    let left = map part_of (drop (c.loop-part.part-index + 1) c.args.parts.now) in
    let e = sym (part_at c.args.parts.now c.loop-part.part-index p (omega arith) c.part-item.is) in
    record {
      names = sym (c.in_ok-read_list.ensures.names left)
          ∙ ap (λ (ps : List KeywordPart). value_or (option_map (λ p. p.names) old) names_of_list Parameters ps) e ∙ c.loop-part.invariant.names;
      types = sym (c.in_ok-read_list.ensures.types left)
          ∙ ap (λ (ps : List KeywordPart). value_or (option_map (λ p. p.types.items) old) (types_of_list types) Parameters ps) e ∙ c.loop-part.invariant.types;
      faults = noted_step c.loop-part.first _ _ (list_faults types p.keyword (alone p.value.now)) (lists_faults types left) c.in_ok-read_list.ensures.faults
          (ap (λ (ps : List KeywordPart). first_of c.loop-part.first (lists_faults types ps)) e ∙ c.loop-part.invariant.faults);
    }

pub returns-clause-names : goal.returns-clause-names
returns-clause-names c =
    let l = c.loop-part in let d : ParameterList = record { names = c.new.result; types = c.new-2.result } in
    ap (λ (p : ParameterList). p.names) c.unwrap_or.ensures
    ∙ unwrapped_at_end l.parameters d (λ (p : ParameterList). p.names) names_of_list Parameters (sym c.new.ensures)
    ∙ sym (ap (λ (ps : List KeywordPart). value_or (option_map (λ p. p.names) l.parameters) names_of_list Parameters ps) (parts_end c.args.parts.now l.part-index c.loop-part-test.false))
    ∙ l.invariant.names

pub returns-clause-types : goal.returns-clause-types
returns-clause-types c =
    let l = c.loop-part in let types = c.args.types.now.names in let d : ParameterList = record { names = c.new.result; types = c.new-2.result } in
    ap (λ (p : ParameterList). p.types.items) c.unwrap_or.ensures
    ∙ unwrapped_at_end l.parameters d (λ (p : ParameterList). p.types.items) (types_of_list types) Parameters (sym c.new-2.ensures.items)
    ∙ sym (ap (λ (ps : List KeywordPart). value_or (option_map (λ p. p.types.items) l.parameters) (types_of_list types) Parameters ps)
    (parts_end c.args.parts.now l.part-index c.loop-part-test.false))
    ∙ l.invariant.types

pub returns-clause-faults : goal.returns-clause-faults
unfolding first_of
returns-clause-faults c =
    let l = c.loop-part in
    sym (ap (λ (ps : List KeywordPart). first_of l.first (lists_faults c.args.types.now.names ps)) (parts_end c.args.parts.now l.part-index c.loop-part-test.false))
    ∙ l.invariant.faults
