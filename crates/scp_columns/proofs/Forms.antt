-- A mapping of a task gives with values a table that has its form.
use Rattle.std.proofs.Common.{◌≡◌, true, List, length, eq-eqb}
use Rattle.std.proofs.lemmas.Bool.{and_from}
use Rattle.cost.specs.Distances.{Distance}
use Rattle.fdr.specs.Tasks.{FiniteDomainTask}
use Rattle.abstraction_mapping.specs.Mappings.{Mapping, abstraction_by, is_mapping}
use Rattle.cert_value.specs.declared.table.Share.{Share}
use Rattle.checker_clauses.specs.Clauses.{has_form}

pub formed : (task : FiniteDomainTask) (m : Mapping) (shares : List Share) (values : List Distance) → is_mapping task m ≡ true → length values ≡ (abstraction_by task m).size
    → has_form task (record { mapping = m; shares = shares; values = values }) ≡ true
formed task m shares values is as_long = and_from _ _ is (eq-eqb _ _ as_long)
