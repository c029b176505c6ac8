use Rattle.openlist.proofs.Order.{comes_first-refl, comes_first-total, comes_first-trans, comes_first-antisym, comes_first-f, IsFirst-permutation, IsFirst-unique}
use Rattle.openlist.proofs.laws.entries_are_ordered.Goals as goal

pub returns-clause-reflexive : goal.returns-clause-reflexive
returns-clause-reflexive c = comes_first-refl

pub returns-clause-total : goal.returns-clause-total
returns-clause-total c = comes_first-total

pub returns-clause-transitive : goal.returns-clause-transitive
returns-clause-transitive c = comes_first-trans

pub returns-clause-antisymmetric : goal.returns-clause-antisymmetric
returns-clause-antisymmetric c = comes_first-antisym

pub returns-clause-rises : goal.returns-clause-rises
returns-clause-rises c = comes_first-f

pub returns-clause-arranged : goal.returns-clause-arranged
returns-clause-arranged c = IsFirst-permutation

pub returns-clause-unique : goal.returns-clause-unique
returns-clause-unique c = IsFirst-unique
