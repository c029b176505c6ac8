-- An example: a certificate for a road from a by b to c with a lamp that no goal needs. The atoms are (at a), (at b),
-- (at c), (road a b), (road b c) and (on), and both values of the lamp are in one class.
use Rattle.std.specs.Prelude.{ℕ, true, false, List, [], ◌∷◌, ◌++◌, codes}
use Rattle.cost.specs.Distances.{Finite}
use Rattle.cert_value.specs.declared.certificate.Version.TheVariants.{Three}
use Rattle.cert_value.specs.Certificates.{Planning, CertificateValue}

-- the text of version `version` with these lines of classes
unfoldable pub lamp_text : List ℕ → List ℕ → List ℕ
lamp_text version classes =
    codes "optplan-cert " ++ version
    ++ codes "\npddl\nbound 2\natoms 6\nat a\nat b\nat c\nroad a b\nroad b c\non\nvars 2\n0 3 0 1 2\n1 1 5\n"
    ++ classes
    ++ codes "columns 0\nclosed 2\n0 0\n1 1\nend\n"

-- the text of version 3 with this line of the classes of the lamp's values, which is line 16
unfoldable pub lamp_text_with : List ℕ → List ℕ
lamp_text_with line = lamp_text (codes "3") (codes "classes 2\n3 0 1 2\n" ++ line ++ codes "\n")

unfoldable pub lamp_certificate : CertificateValue
lamp_certificate = record {
  version = Three;
  kind = Planning
      ((codes "at" ∷ codes "a" ∷ []) ∷ (codes "at" ∷ codes "b" ∷ []) ∷ (codes "at" ∷ codes "c" ∷ []) ∷
      (codes "road" ∷ codes "a" ∷ codes "b" ∷ []) ∷ (codes "road" ∷ codes "b" ∷ codes "c" ∷ []) ∷ (codes "on" ∷ []) ∷ [])
      (record { has_none_value = false; atoms = 0 ∷ 1 ∷ 2 ∷ [] } ∷ record { has_none_value = true; atoms = 5 ∷ [] } ∷ []);
  bound = Finite 2;
  classes = (0 ∷ 1 ∷ 2 ∷ []) ∷ (0 ∷ 0 ∷ []) ∷ [];
  columns = [];
  closed = record { cost = 0; state = 0 ∷ [] } ∷ record { cost = 1; state = 1 ∷ [] } ∷ [];
}
