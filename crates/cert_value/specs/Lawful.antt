-- Which certificates have a text: each number is within its limit, and lists that must be strictly increasing are.
use Rattle.std.specs.Prelude.{◌≡◌, ◌≢◌, ℕ, ◌<◌, ◌≤◌, ◌^◌, true, List, [], ◌∷◌, length, map}
use Rattle.std.specs.List.{list_any, AllByRecursion}
use Rattle.cost.specs.Distances.{Distance, IsWithin}
use Rattle.abstraction_domain.specs.Rows.{Row, are_numbered, shares_class}
use Rattle.abstraction_domain.specs.Domains.{variables}
use Rattle.abstraction_mapping.specs.Mappings.{Mapping, Pattern, Domains}
use Rattle.cert_value.specs.declared.certificate.Version.{Version}
use Rattle.cert_value.specs.declared.certificate.Version.TheVariants.{One, Two, Three}
use Rattle.cert_value.specs.declared.table.Share.{Share}
use Rattle.cert_value.specs.Certificates.{Kind, FiniteDomain, Planning, Variable, Table, Entry, CertificateValue}

-- a count, or the number of a variable, an operator or a value
abbrev pub IsShort : ℕ → Type 0
IsShort n = n < 2 ^ 32

abbrev pub IsIncreasing : List ℕ → Type 0
IsIncreasing [] = Unit {0}
IsIncreasing (n ∷ []) = Unit {0}
IsIncreasing (m ∷ n ∷ ns) = (m < n) × IsIncreasing (n ∷ ns)

-- a printable byte other than a blank
abbrev pub IsPrinted : ℕ → Type 0
IsPrinted b = (33 ≤ b) × (b ≤ 126)

pub record IsAtomWord (w : List ℕ) : Type 0 where
  pub some : w ≢ []
  pub printed : AllByRecursion IsPrinted w

pub record IsAtom (atom : List (List ℕ)) : Type 0 where
  pub some : atom ≢ []
  pub each_word : AllByRecursion IsAtomWord atom

-- a variable over `count` atoms
pub record IsVariable (count : ℕ) (v : Variable) : Type 0 where
  pub some : v.atoms ≢ []
  pub few : IsShort (length v.atoms)
  pub atoms : AllByRecursion (λ a. a < count) v.atoms
  pub increasing : IsIncreasing v.atoms

pub record ArePlanningParts (atoms : List (List (List ℕ))) (variables : List Variable) : Type 0 where
  pub few_atoms : IsShort (length atoms)
  pub each_atom : AllByRecursion IsAtom atoms
  pub few_variables : IsShort (length variables)
  pub each_variable : AllByRecursion (IsVariable (length atoms)) variables

abbrev pub IsLawfulKind : Kind → Type 0
IsLawfulKind FiniteDomain = Unit {0}
IsLawfulKind (Planning atoms variables) = ArePlanningParts atoms variables

pub record IsShare (s : Share) : Type 0 where
  pub operator : IsShort s.operator
  pub least : 1 ≤ s.amount
  pub most : s.amount < 2 ^ 31

pub record IsPattern (pattern : List ℕ) : Type 0 where
  pub some : pattern ≢ []
  pub few : IsShort (length pattern)
  pub variables : AllByRecursion IsShort pattern
  pub increasing : IsIncreasing pattern

-- a variable with the class of each of its values, the classes numbered in the order of their first occurrences
pub record IsRow (r : Row) : Type 0 where
  pub variable : IsShort r.variable
  pub some : r.classes ≢ []
  pub few : IsShort (length r.classes)
  pub classes : AllByRecursion IsShort r.classes
  pub numbered : are_numbered r.classes ≡ true

pub record AreRows (rows : List Row) : Type 0 where
  pub some : rows ≢ []
  pub few : IsShort (length rows)
  pub each : AllByRecursion IsRow rows
  pub increasing : IsIncreasing (variables rows)

-- the class of each value of a variable, the classes numbered in the order of their first occurrences
pub record AreClasses (classes : List ℕ) : Type 0 where
  pub some : classes ≢ []
  pub few : IsShort (length classes)
  pub each : AllByRecursion IsShort classes
  pub numbered : are_numbered classes ≡ true

-- the classes of the values of all variables: two values of some variable share a class
pub record AreClassesOfAll (rows : List (List ℕ)) : Type 0 where
  pub few : IsShort (length rows)
  pub each : AllByRecursion AreClasses rows
  pub shared : list_any shares_class rows ≡ true

-- versions 1 and 2 have no classes
abbrev pub AreLawfulClasses : Version → List (List ℕ) → Type 0
AreLawfulClasses One rows = rows ≡ []
AreLawfulClasses Two rows = rows ≡ []
AreLawfulClasses Three rows = AreClassesOfAll rows

-- version 1 has only patterns
abbrev pub IsLawfulMapping : Version → Mapping → Type 0
IsLawfulMapping version (Pattern pattern) = IsPattern pattern
IsLawfulMapping One (Domains rows) = ⊥
IsLawfulMapping Two (Domains rows) = AreRows rows
IsLawfulMapping Three (Domains rows) = AreRows rows

pub record AreShares (shares : List Share) : Type 0 where
  pub few : IsShort (length shares)
  pub each : AllByRecursion IsShare shares
  pub increasing : IsIncreasing (map (λ s. s.operator) shares)

pub record AreValues (values : List Distance) : Type 0 where
  pub few : length values ≤ 2 ^ 24
  pub each : AllByRecursion (IsWithin (2 ^ 55)) values

pub record IsTable (version : Version) (t : Table) : Type 0 where
  pub mapping : IsLawfulMapping version t.mapping
  pub shares : AreShares t.shares
  pub values : AreValues t.values

pub record IsColumn (version : Version) (column : List Table) : Type 0 where
  pub some : column ≢ []
  pub few : length column ≤ 64
  pub tables : AllByRecursion (IsTable version) column

pub record AreColumns (version : Version) (columns : List (List Table)) : Type 0 where
  pub few : length columns ≤ 64
  pub each : AllByRecursion (IsColumn version) columns

-- an entry whose state has `width` values
pub record IsEntry (width : ℕ) (e : Entry) : Type 0 where
  pub cost : e.cost ≤ 2 ^ 62
  pub as_wide : length e.state ≡ width
  pub values : AllByRecursion IsShort e.state

-- all entries have the same number of values
pub record AreEntries (entries : List Entry) : Type 0 where
  pub few : IsShort (length entries)
  pub width : ℕ
  pub each : AllByRecursion (IsEntry width) entries

pub record IsLawful (c : CertificateValue) : Type 0 where
  pub kind : IsLawfulKind c.kind
  pub bound : IsWithin (2 ^ 62) c.bound
  pub classes : AreLawfulClasses c.version c.classes
  pub columns : AreColumns c.version c.columns
  pub closed : AreEntries c.closed
