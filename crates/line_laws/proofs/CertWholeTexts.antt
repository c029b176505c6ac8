-- The reader of a whole text keeps every frame, from the first line on.
use Rattle.std.proofs.Common.{◌⊎◌, inl, inr, ◌≡◌, ℕ, Bool, true, false, cond, List, [], ◌∷◌, refl, sym, ap, subst, Result, Ok, Err}
use Rattle.std.specs.Prelude.{codes}
use Rattle.std.specs.Str.{bytes_eq}
use Rattle.cert_value.specs.declared.certificate.Version.{Version}
use Rattle.cert_value.specs.declared.certificate.Version.TheVariants.{One, Two, Three}
use Rattle.cert_value.specs.Certificates.{CertificateValue}
use Rattle.cert_text.specs.declared.fault.CertFault.{CertFault}
use Rattle.cert_text.specs.declared.fault.CertFault.TheVariants as fault
use Rattle.cert_text.specs.Reading.{◌>>=◌, Remaining, first_of, line_at, fixed_at, header_at, kind_at, bound_at, parts_at, classes_at, columns_at, closed_at, is_nothing, end_at, certificate_at}
use Rattle.line_laws.proofs.Readings.{one}
use Rattle.line_laws.proofs.Frames.{Frame, Ends, Like, ends_then, ends_like, like_then, Finishes, finishes_then, finishes_map, OnLine, one_past, one_like}
use Rattle.line_laws.proofs.CertReading.{Cert}
use Rattle.line_laws.proofs.CertReaders.{fixed, kind, bound, parts, classes, columns, closed}

abbrev pub lines_from : ℕ → List (List ℕ) → Remaining
lines_from n ls = record { number = n; lines = ls }

-- a frame that also says which bytes behind the end are at fault
pub record EndFrame : Type 1 where
  pub frame : Frame Cert
  pub past_bytes : (r : Remaining) → frame.Past r → is_nothing r.lines ≡ false → frame.Late (fault.Trailing r.number)

-- ---- the end

more_by : (n : ℕ) (ls : List (List ℕ)) (l : List ℕ) (q : Remaining) → first_of n ls ≡ Ok (l, q) → is_nothing ls ≡ false
more_by n [] l q is = absurd cc
more_by n (k ∷ []) l q is = absurd cc
more_by n ([] ∷ m ∷ ms) l q is = refl
more_by n ((b ∷ bs) ∷ m ∷ ms) l q is = refl

-- where there is a line, there are bytes
pub more_is : (r q : Remaining) (l : List ℕ) → line_at r ≡ Ok (l, q) → is_nothing r.lines ≡ false
unfolding line_at
more_is r q l is = more_by r.number r.lines l q is

abbrev last : Remaining → Result (Unit {0}) CertFault
last r = cond (is_nothing r.lines) (Ok tt) (Err (fault.Trailing r.number))

last_ends : (G : EndFrame) (r : Remaining) → G.frame.Past r → (b : Bool) → is_nothing r.lines ≡ b → Ends G.frame (λ (x : Unit {0}). Unit {0}) (cond b (Ok tt) (Err (fault.Trailing r.number)))
last_ends G r p true is = tt
last_ends G r p false is = G.past_bytes r p is

last_like : (G : EndFrame) (r q : Remaining)
    → G.frame.Past r ⊎ ((l : List ℕ) × (s : Remaining) × (t : Remaining) × (r.number ≡ q.number) × (line_at r ≡ Ok (l, s)) × (line_at q ≡ Ok (l, t)) × G.frame.Together s t)
    → Like G.frame (λ (x : Unit {0}). Unit {0}) (λ x y. x ≡ y) (last r) (last q)
last_like G r q (inl p) = ends_like G.frame (λ (x : Unit {0}). Unit {0}) (λ x y. x ≡ y) (last r) (last q) (last_ends G r p (is_nothing r.lines) refl)
last_like G r q (inr g) = rw (more_is r g.1 g.0 g.4, more_is q g.2 g.0 g.5) (inr (ap (λ (n : ℕ). Err (fault.Trailing n)) (sym g.3)))

end_of_text : (G : EndFrame) → Finishes G.frame end_at
unfolding end_at
end_of_text G = finishes_then G.frame (λ q. tt) (λ q. q) (fixed_at (codes "end")) (λ u q. last q) (fixed G.frame (codes "end"))
    (λ u. record { ends = λ r p. last_ends G r p (is_nothing r.lines) refl; like = λ r q h. last_like G r q (G.frame.step r q h) })

-- ---- the first line

-- the version, by whether the line is the first of each
abbrev version_by : Bool → Bool → Bool → Result Version CertFault
version_by one two three = cond one (Ok One) (cond two (Ok Two) (cond three (Ok Three) (Err fault.Header)))

header_made : ℕ → List ℕ → Result Version CertFault
header_made m l = version_by (bytes_eq l (codes "optplan-cert 1")) (bytes_eq l (codes "optplan-cert 2")) (bytes_eq l (codes "optplan-cert 3"))

abbrev with_version : Remaining → Version → Result (Version × Remaining) CertFault
with_version q version = Ok (version, q)

abbrev header_with : Bool → Bool → Bool → Remaining → Result (Version × Remaining) CertFault
header_with one two three q = cond one (with_version q One) (cond two (with_version q Two) (cond three (with_version q Three) (Err fault.Header)))

header_if : (one two three : Bool) (q : Remaining) → header_with one two three q ≡ (version_by one two three >>= with_version q)
header_if true two three q = refl
header_if false true three q = refl
header_if false false true q = refl
header_if false false false q = refl

header_by : (p : Result (List ℕ × Remaining) CertFault)
    → (p >>= λ l. header_with (bytes_eq l.0 (codes "optplan-cert 1")) (bytes_eq l.0 (codes "optplan-cert 2")) (bytes_eq l.0 (codes "optplan-cert 3")) l.1)
    ≡ (p >>= λ l. version_by (bytes_eq l.0 (codes "optplan-cert 1")) (bytes_eq l.0 (codes "optplan-cert 2")) (bytes_eq l.0 (codes "optplan-cert 3")) >>= with_version l.1)
header_by (Ok l) = header_if (bytes_eq l.0 (codes "optplan-cert 1")) (bytes_eq l.0 (codes "optplan-cert 2")) (bytes_eq l.0 (codes "optplan-cert 3")) l.1
header_by (Err e) = refl

header_is : (r : Remaining) → header_at r ≡ one Cert header_made r
unfolding header_at header_made
header_is r = header_by (line_at r)

on_header : (m : ℕ) (one two three : Bool) → m ≡ 1 → OnLine Cert m (version_by one two three)
on_header m true two three first = tt
on_header m false true three first = tt
on_header m false false true first = tt
on_header m false false false first = sym first

header_on : (m : ℕ) (l : List ℕ) → m ≡ 1 → OnLine Cert m (header_made m l)
unfolding header_made
header_on m l first = on_header m (bytes_eq l (codes "optplan-cert 1")) (bytes_eq l (codes "optplan-cert 2")) (bytes_eq l (codes "optplan-cert 3")) first

header_ends : (F : Frame Cert) (r : Remaining) → r.number ≡ 1 → F.Past r → Ends F (λ (x : Version × Remaining). F.Past x.1) (header_at r)
header_ends F r first p = rw (header_is r) (one_past F header_made r (λ l. header_on r.number l first) p)

header_like : (F : Frame Cert) (r q : Remaining) → r.number ≡ 1 → F.Together r q
    → Like F (λ (x : Version × Remaining). F.Past x.1) (λ x y. (x.0 ≡ y.0) × F.Together x.1 y.1) (header_at r) (header_at q)
header_like F r q first h = rw (header_is r, header_is q) (one_like F header_made r q (λ l. header_on r.number l first) h)

-- ---- the whole text

abbrev behind_header : Version → Remaining → Result CertificateValue CertFault
behind_header version header = kind_at header >>= λ planning. bound_at planning.1 >>= λ bound. parts_at planning.0 bound.1 >>= λ kind. classes_at version kind.1 >>= λ classes. columns_at version classes.1 >>= λ columns. closed_at columns.1 >>= λ closed.
    end_at closed.1 >>= λ end. Ok (record { version = version; kind = kind.0; bound = bound.0; classes = classes.0; columns = columns.0; closed = closed.0 })

body : (G : EndFrame) (version : Version) → Finishes G.frame (behind_header version)
body G version =
    finishes_then G.frame (λ x. x.0) (λ x. x.1) _ _ (kind G.frame) (λ planning.
    finishes_then G.frame (λ x. x.0) (λ x. x.1) _ _ (bound G.frame) (λ b.
    finishes_then G.frame (λ x. x.0) (λ x. x.1) _ _ (parts G.frame planning) (λ k.
    finishes_then G.frame (λ x. x.0) (λ x. x.1) _ _ (classes G.frame version) (λ rows.
    finishes_then G.frame (λ x. x.0) (λ x. x.1) _ _ (columns G.frame version) (λ cs.
    finishes_then G.frame (λ x. x.0) (λ x. x.1) _ _ (closed G.frame) (λ es.
    finishes_map G.frame end_at (λ end. record { version = version; kind = k; bound = b; classes = rows; columns = cs; closed = es }) (end_of_text G)))))))

pub certificate_ends : (G : EndFrame) (r : Remaining) → r.number ≡ 1 → G.frame.Past r → Ends G.frame (λ (c : CertificateValue). Unit {0}) (certificate_at r)
unfolding certificate_at
certificate_ends G r first p =
    ends_then G.frame (λ (x : Version × Remaining). G.frame.Past x.1) (λ c. Unit {0}) (header_at r) (λ x. behind_header x.0 x.1) (header_ends G.frame r first p) (λ x h. (body G x.0).ends x.1 h)

pub certificate_like : (G : EndFrame) (r q : Remaining) → r.number ≡ 1 → G.frame.Together r q → Like G.frame (λ (c : CertificateValue). Unit {0}) (λ c d. c ≡ d) (certificate_at r) (certificate_at q)
unfolding certificate_at
certificate_like G r q first h =
    like_then G.frame (λ (x : Version × Remaining). G.frame.Past x.1) (λ x y. (x.0 ≡ y.0) × G.frame.Together x.1 y.1) (λ c. Unit {0}) (λ c d. c ≡ d) (header_at r) (header_at q)
    (λ x. behind_header x.0 x.1) (λ x. behind_header x.0 x.1) (header_like G.frame r q first h)
    (λ x k. (body G x.0).ends x.1 k)
    (λ x y k. subst (λ v. Like G.frame (λ (c : CertificateValue). Unit {0}) (λ c d. c ≡ d) (behind_header x.0 x.1) (behind_header v y.1)) k.0 ((body G x.0).like x.1 y.1 k.1))
