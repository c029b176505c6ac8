-- Certificates of a lower bound on the cost of every plan, as values.
use Rattle.std.specs.Prelude.{ℕ, Bool, List, [], ◌∷◌, length, Option, Some, None}
use Rattle.cost.specs.Distances.{Distance}
use Rattle.abstraction_mapping.specs.Mappings.{Mapping}
use Rattle.cert_value.specs.declared.table.Share.{Share}
use Rattle.cert_value.specs.declared.certificate.Version.{Version}

-- Atoms of a planning task that make up one variable, by their indices in the list of atoms. If the variable has the
-- none value, there may be states in which none of them is true.
pub record Variable : Type 0 where
  pub has_none_value : Bool
  pub atoms : List ℕ

-- A certificate for a planning task lists the atoms and the variables that it refers to. An atom is a list of words,
-- the name of a predicate and its arguments.
pub data Kind : Type 0 where
  FiniteDomain : Kind
  Planning : List (List (List ℕ)) → List Variable → Kind

-- a table of the abstraction by a mapping: a share for each operator, and a value for each abstract state
pub record Table : Type 0 where
  pub mapping : Mapping
  pub shares : List Share
  pub values : List Distance

-- a state and the cost at which it was reached
pub record Entry : Type 0 where
  pub cost : ℕ
  pub state : List ℕ

-- in version 3 the classes of the values of each variable of the task, in the order of the variables, and the columns
-- and closed states of the reduced task; without classes those of the task itself
pub record CertificateValue : Type 0 where
  pub version : Version
  pub kind : Kind
  pub bound : Distance
  pub classes : List (List ℕ)
  pub columns : List (List Table)
  pub closed : List Entry

-- the number of values of the first state
abbrev pub width_of : List Entry → Option ℕ
width_of [] = None
width_of (e ∷ es) = Some (length e.state)
