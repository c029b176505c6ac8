-- Examples: a road of three towns, from the first to the last, with two operators of cost 1, and certificates for it;
-- and certificates with classes, for a road with a lamp that no goal needs.
use Rattle.std.specs.Prelude.{ℕ, false, List, [], ◌∷◌}
use Rattle.cost.specs.Distances.{Distance, Finite}
use Rattle.fdr.specs.declared.fact.Fact.{Fact}
use Rattle.fdr.specs.Tasks.{FiniteDomainTask, Operator}
use Rattle.abstraction_mapping.specs.Mappings.{Pattern}
use Rattle.cert_value.specs.declared.certificate.Version.TheVariants.{One, Three}
use Rattle.cert_value.specs.Certificates.{FiniteDomain, Table, Entry, CertificateValue}

-- the location is this town
abbrev pub town : ℕ → List Fact
town value = record { variable = 0; value = value } ∷ []

-- the operator from one town to another
abbrev pub drive : ℕ → ℕ → Operator
drive from to = record { name = []; precondition = town from; effect = town to; cost = 1 }

abbrev pub road : FiniteDomainTask
road =
    record {
      metric = false;
      value_names = ([] ∷ [] ∷ [] ∷ []) ∷ [];
      initial = 0 ∷ [];
      goal = town 2;
      operators = drive 0 1 ∷ drive 1 2 ∷ [];
    }

-- an entry: the town was reached at this cost
abbrev pub reached : ℕ → ℕ → Entry
reached cost value = record { cost = cost; state = value ∷ [] }

-- a certificate with closed states and no table
abbrev pub with_closed : Distance → List Entry → CertificateValue
with_closed bound closed = record { version = One; kind = FiniteDomain; bound = bound; classes = []; columns = []; closed = closed }

-- a certificate in which the first two towns are closed
abbrev pub two_closed : Distance → CertificateValue
two_closed bound = with_closed bound (reached 0 0 ∷ reached 1 1 ∷ [])

-- a table of the variable, by the share of the second operator and the value of the first town
abbrev pub table : ℕ → ℕ → Table
table second first =
    record {
      mapping = Pattern (0 ∷ []);
      shares = record { operator = 0; amount = 1 } ∷ record { operator = 1; amount = second } ∷ [];
      values = Finite first ∷ Finite 1 ∷ Finite 0 ∷ [];
    }

-- a table that lists this operator with a share of 0
abbrev pub listing : ℕ → Table
listing o =
    record {
      mapping = Pattern (0 ∷ []);
      shares = record { operator = o; amount = 0 } ∷ [];
      values = Finite 0 ∷ Finite 0 ∷ Finite 0 ∷ [];
    }

-- a certificate with one column and no closed state
abbrev pub with_column : Distance → List Table → CertificateValue
with_column bound column = record { version = One; kind = FiniteDomain; bound = bound; classes = []; columns = column ∷ []; closed = [] }

-- a certificate with these classes and closed states, and no table
abbrev pub with_classes : Distance → List (List ℕ) → List Entry → CertificateValue
with_classes bound classes closed =
    record { version = Three; kind = FiniteDomain; bound = bound; classes = classes; columns = []; closed = closed }

-- each of the three locations is a class of its own
abbrev pub locations : List ℕ
locations = 0 ∷ 1 ∷ 2 ∷ []

-- the first two locations are one class
abbrev pub first_two_merged : List ℕ
first_two_merged = 0 ∷ 0 ∷ 1 ∷ []

-- both values of the lamp are one class
abbrev pub lamp_merged : List ℕ
lamp_merged = 0 ∷ 0 ∷ []
