-- Texts that agree in the parts of earlier passes.
use Rattle.std.specs.Prelude.{◌≡◌, List, [], ◌∷◌, codes}
use Rattle.sexp.specs.Forms.{Forms}
use Rattle.pddl_syntax.specs.declared.fault.PlanningFile.TheVariants.{Domain, Problem}
use Rattle.pddl_syntax.specs.Sections.{head_faults}
use Rattle.pddl.specs.Passes.{Pass}
use Rattle.pddl.specs.Texts.{part, declarations_of, constants_of, problem_heads_pass, objects_pass}

-- the trees of two domains agree in all but their actions
pub record AgreeInDeclarations (d c : Forms) : Type 0 where
  pub heads : head_faults Domain d ≡ head_faults Domain c
  pub requirements : part d (codes ":requirements") ≡ part c (codes ":requirements")
  pub types : part d (codes ":types") ≡ part c (codes ":types")
  pub constants : part d (codes ":constants") ≡ part c (codes ":constants")
  pub predicates : part d (codes ":predicates") ≡ part c (codes ":predicates")
  pub functions : part d (codes ":functions") ≡ part c (codes ":functions")

-- the trees of two problems agree in their objects
pub record AgreeInObjects (p q : Forms) : Type 0 where
  pub heads : head_faults Problem p ≡ head_faults Problem q
  pub objects : part p (codes ":objects") ≡ part q (codes ":objects")

-- the passes over the heads and the objects of a problem for this domain
abbrev pub object_passes : Forms → Forms → List Pass
object_passes d p = problem_heads_pass p ∷ objects_pass (declarations_of d) (constants_of d) p ∷ []
