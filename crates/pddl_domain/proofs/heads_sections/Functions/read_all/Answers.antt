use Rattle.std.proofs.Common.{◌≡◌, ℕ, Bool, true, false, List, [], refl, sym, ap, ◌∙◌}
use Rattle.sexp.specs.Forms.{Forms, none}
use Rattle.sexp.proofs.Walking.{views_end}
use Rattle.pddl_names.specs.Names.{is_there}
use Rattle.pddl_syntax.specs.declared.fault.FaultKind.TheVariants.{Shape}
use Rattle.pddl_syntax.specs.Faults.{first_of, fault, faults_if}
use Rattle.pddl_syntax.specs.Heads.{Heads}
use Rattle.pddl_domain.specs.DeclaredHeads.{faults_from}
use Rattle.pddl_domain.proofs.heads_sections.Functions.read_all.Goals as goal

-- a number that is missing at the end
faults_from-none : (known : List ℕ → Bool) (home : ℕ) (empty : Bool) (heads : Heads) (count : ℕ) (wants : Bool)
    → faults_from wants known home empty heads count none ≡ faults_if wants (fault Shape home) []
faults_from-none known home empty heads count true = refl
faults_from-none known home empty heads count false = refl

pub returns-clause-faults : goal.returns-clause-faults
unfolding first_of
returns-clause-faults c =
    let l = c.loop-tree in let s = l.self in let d = s.declarations in let known = is_there c.args.types.now.names in let home = c.args.home in
    sym (c.blame_if.ensures [])
    ∙ ap (first_of l.first) (sym (faults_from-none known home s.is_empty d.heads d.count s.wants_number))
    ∙ ap (λ (f : Forms). first_of l.first (faults_from s.wants_number known home s.is_empty d.heads d.count f)) (sym (views_end c.args.items.now l.tree-index c.loop-tree-test.false))
    ∙ l.invariant.faults
