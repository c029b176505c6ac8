-- The parts of a certificate, one after another.
use Rattle.std.proofs.Common.{◌≡◌, ℕ, Bool, false, List, [], ◌∷◌, ◌++◌, length, map, Option, refl, sym, ap, subst, ◌∙◌, arith, cond, ltb, append_assoc}
use Rattle.std.specs.Prelude.{All}
use Rattle.std.proofs.lemmas.Bool.{ltb-false}
use Rattle.std.proofs.lemmas.List.{map-append, append-nil}
use Rattle.std.proofs.lemmas.List.Elements.{All-nil, All-cons, All-head, All-tail, All-push}
use Rattle.cost.specs.Distances.{Distance}
use Rattle.cert_value.specs.declared.certificate.Version.TheVariants.{Two, Three}
use Rattle.cert_value.specs.Certificates.{Kind, Table, Entry, CertificateValue}
use Rattle.reduction_certs.specs.InTask.{share_classes, table_in_task, columns_in_task, certificate_in_task, HasNumberedRows, HaveNumberedRows}

-- one element more is made of one element less
pub one_more : {X Y : Type 0} (view : X → Y) (f : Y → Y) (made more whole old rest : List X) (x y : X) → map view made ++ map f (map view old) ≡ map f (map view whole) → old ≡ x ∷ rest → view y ≡ f (view x) → more ≡ made ++ y ∷ [] →
    map view more ++ map f (map view rest) ≡ map f (map view whole)
one_more view f made more whole old rest x y so_far step is pushed =
    ap (λ (ys : List _). map view ys ++ map f (map view rest)) pushed
    ∙ ap (λ (ys : List _). ys ++ map f (map view rest)) (map-append view made (y ∷ []))
    ∙ append_assoc (map view made) (view y ∷ []) (map f (map view rest))
    ∙ ap (λ z. map view made ++ z ∷ map f (map view rest)) is
    ∙ ap (λ (xs : List _). map view made ++ map f (map view xs)) (sym step)
    ∙ so_far

pub one_more_numbered : {X Y : Type 0} (P : Y → Type 0) (view : X → Y) (made more : List X) (y : X) → All P (map view made) → P (view y) → more ≡ made ++ y ∷ [] → All P (map view more)
one_more_numbered P view made more y all p pushed =
    subst (λ (xs : List _). All P (map view xs)) (sym pushed) (subst (All P) (sym (map-append view made (y ∷ []))) (All-push P (map view made) (view y) all p))

-- shares do not matter to rows
pub numbered_before : (representatives : List (Option ℕ)) (column : List Table) → All (λ (t : Table). HasNumberedRows t.mapping) (map (table_in_task representatives) column) → All (λ (t : Table). HasNumberedRows t.mapping) column
numbered_before representatives [] all = All-nil (λ (t : Table). HasNumberedRows t.mapping)
numbered_before representatives (t ∷ ts) all =
    All-cons (λ (x : Table). HasNumberedRows x.mapping) t ts (All-head (λ (x : Table). HasNumberedRows x.mapping) (table_in_task representatives t) (map (table_in_task representatives) ts) all)
    (numbered_before representatives ts (All-tail (λ (x : Table). HasNumberedRows x.mapping) (table_in_task representatives t) (map (table_in_task representatives) ts) all))

pub all_numbered_before : (representatives : List (Option ℕ)) (columns : List (List Table)) → HaveNumberedRows (columns_in_task representatives columns) → HaveNumberedRows columns
all_numbered_before representatives [] all = All-nil (All (λ (t : Table). HasNumberedRows t.mapping))
all_numbered_before representatives (c ∷ cs) all =
    All-cons (All (λ (t : Table). HasNumberedRows t.mapping)) c cs
    (numbered_before representatives c (All-head (All (λ (t : Table). HasNumberedRows t.mapping)) (map (table_in_task representatives) c) (columns_in_task representatives cs) all))
    (all_numbered_before representatives cs (All-tail (All (λ (t : Table). HasNumberedRows t.mapping)) (map (table_in_task representatives) c) (columns_in_task representatives cs) all))

-- the certificate is made of its parts
pub made_of : (classes rows : List (List ℕ)) (representatives : List (Option ℕ)) (c : CertificateValue) (kind : Kind) (bound : Distance) (columns : List (List Table)) (closed : List Entry) (b : Bool) →
    kind ≡ c.kind → bound ≡ c.bound → columns ≡ columns_in_task representatives c.columns → closed ≡ c.closed → rows ≡ classes → share_classes classes ≡ b →
    ◌≡◌ {A = CertificateValue} (record { version = cond b Three Two; kind = kind; bound = bound; classes = cond b rows []; columns = columns; closed = closed }) (certificate_in_task classes representatives c)
made_of classes rows representatives c kind bound columns closed b k l m n e s = rw (k, l, m, n, e, s) refl

empty : {X : Type 0} (xs : List X) → length xs ≡ 0 → xs ≡ []
empty [] e = refl
empty (x ∷ xs) e = absurd (omega (arith, e))

-- at the end nothing is left
pub none_left : {X Y : Type 0} (view : X → Y) (f : Y → Y) (made whole old : List X) → map view made ++ map f (map view old) ≡ map f (map view whole) → length old ≡ 0 → map view made ≡ map f (map view whole)
none_left view f made whole old so_far e = sym (append-nil (map view made)) ∙ ap (λ (xs : List _). map view made ++ map f (map view xs)) (sym (empty old e)) ∙ so_far

-- versions 1 and 2 have no classes
pub no_classes : {X : Type 0} (view : X → List ℕ) (rows : List X) (classes : List (List ℕ)) → ltb 0 (length rows) ≡ false → map view rows ≡ classes → classes ≡ []
no_classes view rows classes h e = sym e ∙ ap (λ (xs : List _). map view xs) (empty rows (let none = ltb-false 0 (length rows) h in omega (arith, none)))
