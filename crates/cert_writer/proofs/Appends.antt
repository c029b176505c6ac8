-- Text that is written at the end of other text.
use Rattle.std.proofs.Common.{◌≡◌, ℕ, zero, suc, ◌+◌, List, [], ◌∷◌, ◌++◌, map, take, Option, Some, None, refl, sym, ap, ◌∙◌, append_assoc, arith}
use Rattle.std.specs.Prelude.{option_map, slice_get, codes}
use Rattle.std.specs.List.{flat_map}
use Rattle.std.proofs.lemmas.List.{map-append, append-nil}
use Rattle.std.proofs.lemmas.Grind.{flat_map-append}
use Rattle.cost.specs.Distances.{Distance, distance_text}
use Rattle.cert_value.specs.declared.certificate.Version.{Version}
use Rattle.cert_value.specs.Certificates.{Kind, Table, Entry, CertificateValue}
use Rattle.cert_text.specs.Spelling.{line_text, text_of, kind_line, kind_lines, classes_lines, columns_lines, closed_lines, version_text, spelling}
use Rattle.cert_text.proofs.Steps.{some_is}

pub ruleset appending = (append_assoc, map-append, flat_map-append)

-- one more of a list
pub take_get : {X : Type 0} (xs : List X) (i : ℕ) (x : X) → slice_get xs i ≡ Some x → take (suc i) xs ≡ take i xs ++ x ∷ []
take_get [] i x e = absurd cc
take_get (y ∷ ys) zero x e = ap (λ z. z ∷ []) (some_is y x e)
take_get (y ∷ ys) (suc i) x e = ap (λ zs. y ∷ zs) (take_get ys i x e)

-- text of one more, behind what was written
pub one_more : {X : Type 0} (f : X → List ℕ) (xs : List X) (i : ℕ) (x : X) (old out new : List ℕ) → slice_get xs i ≡ Some x → out ≡ old ++ flat_map f (take i xs) → new ≡ out ++ f x → new ≡ old ++ flat_map f (take (i + 1) xs)
one_more f xs i x old out new e so_far is =
    let one : i + 1 ≡ suc i = omega arith in
    let more : flat_map f (take (i + 1) xs) ≡ flat_map f (take i xs) ++ f x =
    ap (λ n. flat_map f (take n xs)) one ∙ ap (flat_map f) (take_get xs i x e) ∙ flat_map-append f (take i xs) (x ∷ []) ∙ ap (λ ys. flat_map f (take i xs) ++ ys) (append-nil (f x)) in
    is ∙ ap (λ ys. ys ++ f x) so_far ∙ append_assoc old (flat_map f (take i xs)) (f x) ∙ ap (λ ys. old ++ ys) (sym more)

-- an entry by its parts
pub entry_by : (o : Option Entry) (cost : ℕ) (state : List ℕ) → option_map (λ (e : Entry). e.cost) o ≡ Some cost → option_map (λ (e : Entry). e.state) o ≡ Some state → o ≡ Some (record { cost = cost; state = state })
entry_by None cost state e f = absurd cc
entry_by (Some x) cost state e f = ap (λ (c : ℕ). Some (record { cost = c; state = x.state })) (some_is x.cost cost e) ∙ ap (λ (s : List ℕ). Some (record { cost = cost; state = s })) (some_is x.state state f)

pub flat_map-map : {X Y : Type 0} (f : Y → List ℕ) (g : X → Y) (xs : List X) → flat_map f (map g xs) ≡ flat_map (λ x. f (g x)) xs
flat_map-map f g [] = refl
flat_map-map f g (x ∷ xs) = ap (λ ys. f (g x) ++ ys) (flat_map-map f g xs)

regrouped : (a b d k x c e f : List ℕ) → a ++ (b ++ (d ++ ((((k ++ x) ++ c) ++ e) ++ (f ++ [])))) ≡ ((((((a ++ b) ++ d) ++ k) ++ x) ++ c) ++ e) ++ f
regrouped a b d k x c e f = simp (append_assoc, append-nil)

text_append : (a b : List (List (List ℕ))) → text_of (a ++ b) ≡ text_of a ++ text_of b
text_append a b = flat_map-append line_text a b

-- the text of all lines, as it is written
whole_text : (a b d e : List (List ℕ)) (ks xs cs es : List (List (List ℕ))) → text_of (a ∷ b ∷ d ∷ ks ++ xs ++ cs ++ es ++ e ∷ [])
    ≡ ((((((line_text a ++ line_text b) ++ line_text d) ++ text_of ks) ++ text_of xs) ++ text_of cs) ++ text_of es) ++ line_text e
whole_text a b d e ks xs cs es =
    let two = text_append ks xs in
    let three = text_append (ks ++ xs) cs ∙ ap (λ (ys : List ℕ). ys ++ text_of cs) two in
    let four = text_append ((ks ++ xs) ++ cs) es ∙ ap (λ (ys : List ℕ). ys ++ text_of es) three in
    let rest = text_append (((ks ++ xs) ++ cs) ++ es) (e ∷ []) ∙ ap (λ (ys : List ℕ). ys ++ text_of (e ∷ [])) four in
    ap (λ (ys : List ℕ). line_text a ++ (line_text b ++ (line_text d ++ ys))) rest
    ∙ regrouped (line_text a) (line_text b) (line_text d) (text_of ks) (text_of xs) (text_of cs) (text_of es) (line_text e)

same_parts : (v : CertificateValue) (version : Version) (k l : Kind) (bound : Distance) (classes : List (List ℕ)) (columns : List (List Table)) (closed : List Entry)
    → version ≡ v.version → k ≡ v.kind → l ≡ v.kind → bound ≡ v.bound → classes ≡ v.classes → columns ≡ v.columns → closed ≡ v.closed
    → text_of ((codes "optplan-cert" ∷ version_text version ∷ []) ∷ kind_line k ∷ (codes "bound" ∷ distance_text bound ∷ []) ∷ kind_lines l ++ classes_lines classes ++ columns_lines columns ++ closed_lines closed ++ (codes "end" ∷ []) ∷ []) ≡ spelling v
same_parts v version k l bound classes columns closed d e f g h i j = rw (d, e, f, g, h, i, j) refl

-- the text of a certificate, written part by part
pub written : (v : CertificateValue) (version : Version) (k l : Kind) (bound : Distance) (classes : List (List ℕ)) (columns : List (List Table)) (closed : List Entry) (o1 o2 o3 o4 o5 o6 o7 o8 : List ℕ)
    → version ≡ v.version → k ≡ v.kind → l ≡ v.kind → bound ≡ v.bound → classes ≡ v.classes → columns ≡ v.columns → closed ≡ v.closed
    → o1 ≡ line_text (codes "optplan-cert" ∷ version_text version ∷ []) → o2 ≡ o1 ++ line_text (kind_line k) → o3 ≡ o2 ++ line_text (codes "bound" ∷ distance_text bound ∷ []) → o4 ≡ o3 ++ text_of (kind_lines l)
    → o5 ≡ o4 ++ text_of (classes_lines classes) → o6 ≡ o5 ++ text_of (columns_lines columns) → o7 ≡ o6 ++ text_of (closed_lines closed) → o8 ≡ o7 ++ line_text (codes "end" ∷ []) → o8 ≡ spelling v
written v version k l bound classes columns closed o1 o2 o3 o4 o5 o6 o7 o8 t a b d x e f h1 h2 h3 h4 h5 h6 h7 h8 =
    let w = whole_text (codes "optplan-cert" ∷ version_text version ∷ []) (kind_line k) (codes "bound" ∷ distance_text bound ∷ []) (codes "end" ∷ []) (kind_lines l) (classes_lines classes) (columns_lines columns) (closed_lines closed) in
    let s = same_parts v version k l bound classes columns closed t a b d x e f in
    let two = h2 ∙ ap (λ (xs : List ℕ). xs ++ line_text (kind_line k)) h1 in
    let three = h3 ∙ ap (λ (xs : List ℕ). xs ++ line_text (codes "bound" ∷ distance_text bound ∷ [])) two in
    let four = h4 ∙ ap (λ (xs : List ℕ). xs ++ text_of (kind_lines l)) three in
    let five = h5 ∙ ap (λ (xs : List ℕ). xs ++ text_of (classes_lines classes)) four in
    let six = h6 ∙ ap (λ (xs : List ℕ). xs ++ text_of (columns_lines columns)) five in
    let seven = h7 ∙ ap (λ (xs : List ℕ). xs ++ text_of (closed_lines closed)) six in
    h8 ∙ ap (λ (xs : List ℕ). xs ++ line_text (codes "end" ∷ [])) seven ∙ sym w ∙ s

-- a word, more of a line, and a line feed behind them
pub line_parts : (word more old one two new : List ℕ) → one ≡ old ++ word → two ≡ one ++ more → new ≡ two ++ 10 ∷ [] → new ≡ old ++ ((word ++ more) ++ 10 ∷ [])
line_parts word more old one two new e f g = g ∙ ap (λ (xs : List ℕ). xs ++ 10 ∷ []) (f ∙ ap (λ (xs : List ℕ). xs ++ more) e) ∙ simp append_assoc
