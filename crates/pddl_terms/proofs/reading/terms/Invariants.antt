use Rattle.std.proofs.Common.{◌≡◌, drop}
use Rattle.sexp.specs.Forms.{views}
use Rattle.pddl_syntax.specs.Faults.{first_of}
use Rattle.pddl_terms.specs.Terms.{terms, terms_faults}
use Rattle.pddl_terms.proofs.TermSteps.{with_terms}
use Rattle.pddl_terms.proofs.reading.terms.Given as goal

-- the terms so far and those behind them are all
abbrev pub invariant-loop-tree : goal.invariant-loop-tree
invariant-loop-tree l = record {
  meaning : with_terms l.are_read l.terms.items (terms l.reader (views (drop l.tree-index l.items))) ≡ terms l.reader (views l.items);
  faults : first_of l.first (terms_faults l.reader (views (drop l.tree-index l.items))) ≡ first_of l.fn.first (terms_faults l.reader (views l.items));
}
