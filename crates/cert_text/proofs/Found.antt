-- What is read was spelled so, line by line.
use Rattle.std.proofs.Common.{◌≡◌, ℕ, suc, ◌+◌, ◌^◌, ◌<◌, ◌≤◌, Bool, true, false, cond, List, [], ◌∷◌, ◌++◌, length, map, Option, Some, None, Ok, refl, sym, ap, subst, ◌∙◌, arith, append_assoc}
use Rattle.std.specs.Prelude.{◌&&◌, not, nat_le, decimal, codes, option_map}
use Rattle.std.specs.Str.{bytes_eq}
use Rattle.std.specs.List.{flat_map, AllByRecursion}
use Rattle.std.proofs.lemmas.Slice.Eq.{bytes_eq-Decides}
use Rattle.std.proofs.lemmas.List.{map-append, append-nil}
use Rattle.cost.specs.Distances.{Distance, Finite, Infinite, IsWithin, distance_text}
use Rattle.cert_value.specs.declared.table.Share.{Share}
use Rattle.cert_text.specs.Pieces.{pieces, joined}
use Rattle.cert_text.specs.Spelling.{counted, share_words}
use Rattle.cert_value.specs.Lawful.{IsIncreasing, IsShare}
use Rattle.cert_text.specs.Reading.{◌>>=◌, ◌>>?◌, Remaining, first_of, line_at, number, number_in, numbers_behind, distance_in, distances_behind, share_in, shares_behind, increases_from, filled, formed, numbered, fixed_at, second_of, count_at, agrees, Counted, counted_of, headed_of}
use Rattle.cert_text.proofs.Steps.{bind_ok, formed_ok, numbered_ok, ok_is, some_is, then_some, and_parts, le_is, eq_is, between_ok, filled_length}
use Rattle.cert_text.proofs.Decimals.{number_is}
use Rattle.cert_text.proofs.Joining.{joined_pieces}

-- what was taken from the lines
pub record Takes (r : Remaining) (ls : List (List (List ℕ))) (q : Remaining) : Type 0 where
  pub parts : r.lines ≡ map (joined 32) ls ++ q.lines

pub Takes-then : (r q s : Remaining) (a b : List (List (List ℕ))) → Takes r a q → Takes q b s → Takes r (a ++ b) s
Takes-then r q s a b p o = record {
  parts = p.parts ∙ ap (λ (xs : List (List ℕ)). map (joined 32) a ++ xs) o.parts ∙ sym (append_assoc (map (joined 32) a) (map (joined 32) b) s.lines)
      ∙ ap (λ (xs : List (List ℕ)). xs ++ s.lines) (sym (map-append (joined 32) a b));
}

pub nothing_taken : (r q : Remaining) → r ≡ q → Takes r [] q
nothing_taken r q e = record { parts = ap (λ (x : Remaining). x.lines) e }

first_takes : (n : ℕ) (ls : List (List ℕ)) (l : List ℕ) (q : Remaining) → first_of n ls ≡ Ok (l, q) → ls ≡ l ∷ q.lines
first_takes n [] l q e = absurd cc
first_takes n (x ∷ []) l q e = absurd cc
first_takes n (x ∷ m ∷ ms) l q e =
    let made : List ℕ × Remaining = (x, record { number = n + 1; lines = m ∷ ms }) in
    ap (λ (p : List ℕ × Remaining). p.0 ∷ p.1.lines) (ok_is made (l, q) e)

-- a line of these words was read
pub one_text : (r q : Remaining) (l : List ℕ) (ws : List (List ℕ)) → line_at r ≡ Ok (l, q) → l ≡ joined 32 ws → Takes r (ws ∷ []) q
unfolding line_at
one_text r q l ws e is = record { parts = first_takes r.number r.lines l q e ∙ ap (λ (x : List ℕ). x ∷ q.lines) is }

pub one_line : (r q : Remaining) (l : List ℕ) (ws : List (List ℕ)) → line_at r ≡ Ok (l, q) → pieces 32 l ≡ ws → Takes r (ws ∷ []) q
one_line r q l ws e is = one_text r q l ws e (sym (joined_pieces 32 l) ∙ ap (joined 32) is)

pub same_bytes : (a b : List ℕ) → bytes_eq a b ≡ true → a ≡ b
same_bytes a b e = (bytes_eq-Decides a b).0 e

pub fixed_found : (text : List ℕ) (ws : List (List ℕ)) (r q : Remaining) → text ≡ joined 32 ws → fixed_at text r ≡ Ok q → Takes r (ws ∷ []) q
unfolding fixed_at
fixed_found text ws r q is e =
    let a = bind_ok (line_at r) (λ l. formed r.number (bytes_eq l.0 text) l.1) q e in
    let f = formed_ok r.number (bytes_eq a.0.0 text) a.0.1 q a.2 in
    subst (Takes r (ws ∷ [])) f.1 (one_text r a.0.1 a.0.0 ws a.1 (same_bytes a.0.0 text f.0 ∙ is))

pub second_found : (line : ℕ) (keyword : List ℕ) (ws : List (List ℕ)) (w : List ℕ) → second_of line keyword ws ≡ Ok w → ws ≡ keyword ∷ w ∷ []
second_found line keyword [] w e = absurd cc
second_found line keyword (k ∷ []) w e = absurd cc
second_found line keyword (k ∷ x ∷ []) w e =
    let f = formed_ok line (bytes_eq k keyword && not (bytes_eq x [])) x w e in
    let parts = and_parts (bytes_eq k keyword) (not (bytes_eq x [])) f.0 in
    ap (λ (y : List ℕ). y ∷ x ∷ []) (same_bytes k keyword parts.0) ∙ ap (λ (y : List ℕ). keyword ∷ y ∷ []) f.1
second_found line keyword (k ∷ x ∷ y ∷ zs) w e = absurd cc

-- a number's word
pub number_found : (least end : ℕ) (w : List ℕ) (n : ℕ) → end ≤ 2 ^ 64 → number_in least end w ≡ Some n → (w ≡ decimal n) × (least ≤ n) × (n < end) × (number w ≡ Some n)
number_found least end w n small e =
    let b = between_ok least end (number w) n e in
    (number_is w n b.0 (omega (arith, b.2)), b.1, b.2, b.0)

pub count_found : (keyword : List ℕ) (least end : ℕ) (r q : Remaining) (n : ℕ) → end ≤ 2 ^ 64 → count_at keyword least end r ≡ Ok (n, q) → Takes r (counted keyword n [] ∷ []) q × (least ≤ n) × (n < end)
unfolding count_at
count_found keyword least end r q n small e =
    let a = bind_ok (line_at r) (λ l. second_of r.number keyword (pieces 32 l.0) >>= λ word. numbered r.number (number_in least end word) >>= λ count. Ok (count, l.1)) (n, q) e in
    let b = bind_ok (second_of r.number keyword (pieces 32 a.0.0)) (λ word. numbered r.number (number_in least end word) >>= λ count. Ok (count, a.0.1)) (n, q) a.2 in
    let c = bind_ok (numbered r.number (number_in least end b.0)) (λ count. Ok (count, a.0.1)) (n, q) b.2 in
    let made : ℕ × Remaining = (c.0, a.0.1) in
    let same = ok_is made (n, q) c.2 in
    let f = number_found least end b.0 c.0 small (numbered_ok r.number (number_in least end b.0) c.0 c.1) in
    let words = second_found r.number keyword (pieces 32 a.0.0) b.0 b.1 ∙ ap (λ (w : List ℕ). keyword ∷ w ∷ []) f.0 in
    subst (λ (x : ℕ × Remaining). Takes r (counted keyword x.0 [] ∷ []) x.1 × (least ≤ x.0) × (x.0 < end)) same (one_line r a.0.1 a.0.0 (counted keyword c.0 []) a.1 words, f.1, f.2)

-- ---- lists of numbers

-- what the words of a list are
pub record AreRead {X : Type 0} (spell : X → List ℕ) (P : X → Type 0) (words : List (List ℕ)) (front back : List X) : Type 0 where
  pub items : List X
  pub is_behind : back ≡ front ++ items
  pub words_are : words ≡ map spell items
  pub each : AllByRecursion P items

read_none : {X : Type 0} (spell : X → List ℕ) (P : X → Type 0) (front back : List X) → front ≡ back → AreRead spell P [] front back
read_none spell P front back e = record { items = []; is_behind = sym e ∙ sym (append-nil front); words_are = refl; each = tt }

read_more : {X : Type 0} (spell : X → List ℕ) (P : X → Type 0) (w : List ℕ) (words : List (List ℕ)) (front back : List X) (x : X) → w ≡ spell x → P x → AreRead spell P words (front ++ x ∷ []) back
    → AreRead spell P (w ∷ words) front back
read_more spell P w words front back x is ok more = record {
  items = x ∷ more.items;
  is_behind = more.is_behind ∙ append_assoc front (x ∷ []) more.items;
  words_are = ap (λ (v : List ℕ). v ∷ words) is ∙ ap (λ (vs : List (List ℕ)). spell x ∷ vs) more.words_are;
  each = (ok, more.each);
}

pub numbers_found : (end : ℕ) (ns : List ℕ) (ws : List (List ℕ)) (back : List ℕ) → end ≤ 2 ^ 64 → numbers_behind end ns ws ≡ Some back → AreRead decimal (λ n. n < end) ws ns back
unfolding numbers_behind
numbers_found end ns [] back small e = read_none decimal (λ n. n < end) ns back (some_is ns back e)
numbers_found end ns (w ∷ ws) back small e =
    let a = then_some (number_in 0 end w) (λ n. numbers_behind end (ns ++ n ∷ []) ws) back e in
    let f = number_found 0 end w a.0 small a.1 in
    read_more decimal (λ n. n < end) w ws ns back a.0 f.0 f.2 (numbers_found end (ns ++ a.0 ∷ []) ws back small a.2)

finite_by : (o : Option ℕ) (end : ℕ) (w : List ℕ) (d : Distance) → o ≡ number_in 0 (end + 1) w → end + 1 ≤ 2 ^ 64 → option_map Finite o ≡ Some d → (w ≡ distance_text d) × IsWithin end d
finite_by None end w d is small e = absurd cc
finite_by (Some n) end w d is small e =
    let f = number_found 0 (end + 1) w n small (sym is) in
    subst (λ (x : Distance). (w ≡ distance_text x) × IsWithin end x) (some_is (Finite n) d e) (f.0, omega (arith, f.2))

distance_by : (b : Bool) (end : ℕ) (w : List ℕ) (d : Distance) → b ≡ bytes_eq w (codes "inf") → end + 1 ≤ 2 ^ 64 → cond b (Some Infinite) (option_map Finite (number_in 0 (end + 1) w)) ≡ Some d
    → (w ≡ distance_text d) × IsWithin end d
distance_by true end w d is small e = subst (λ (x : Distance). (w ≡ distance_text x) × IsWithin end x) (some_is Infinite d e) (same_bytes w (codes "inf") (sym is), tt)
distance_by false end w d is small e = finite_by (number_in 0 (end + 1) w) end w d refl small e

pub distance_found : (end : ℕ) (w : List ℕ) (d : Distance) → end + 1 ≤ 2 ^ 64 → distance_in (end + 1) w ≡ Some d → (w ≡ distance_text d) × IsWithin end d
unfolding distance_in
distance_found end w d small e = distance_by (bytes_eq w (codes "inf")) end w d refl small e

pub distances_found : (end : ℕ) (ds : List Distance) (ws : List (List ℕ)) (back : List Distance) → end + 1 ≤ 2 ^ 64 → distances_behind (end + 1) ds ws ≡ Some back → AreRead distance_text (IsWithin end) ws ds back
unfolding distances_behind
distances_found end ds [] back small e = read_none distance_text (IsWithin end) ds back (some_is ds back e)
distances_found end ds (w ∷ ws) back small e =
    let a = then_some (distance_in (end + 1) w) (λ d. distances_behind (end + 1) (ds ++ d ∷ []) ws) back e in
    let f = distance_found end w a.0 small a.1 in
    read_more distance_text (IsWithin end) w ws ds back a.0 f.0 f.1 (distances_found end (ds ++ a.0 ∷ []) ws back small a.2)

share_found : (o a : List ℕ) (s : Share) → share_in o a ≡ Some s → (o ≡ decimal s.operator) × (a ≡ decimal s.amount) × IsShare s
unfolding share_in
share_found o a s e =
    let x = then_some (number_in 0 (2 ^ 32) o) (λ operator. number_in 1 (2 ^ 31) a >>? λ amount. Some (record { operator = operator; amount = amount })) s e in
    let y = then_some (number_in 1 (2 ^ 31) a) (λ amount. Some (record { operator = x.0; amount = amount })) s x.2 in
    let made : Share = record { operator = x.0; amount = y.0 } in
    let f = number_found 0 (2 ^ 32) o x.0 (omega arith) x.1 in
    let g = number_found 1 (2 ^ 31) a y.0 (omega arith) y.1 in
    subst (λ (z : Share). (o ≡ decimal z.operator) × (a ≡ decimal z.amount) × IsShare z) (some_is made s y.2) (f.0, g.0, record { operator = f.2; least = g.1; most = g.2 })

-- what the words of shares are
pub record SharesRead (words : List (List ℕ)) (front back : List Share) : Type 0 where
  pub items : List Share
  pub is_behind : back ≡ front ++ items
  pub words_are : words ≡ flat_map share_words items
  pub each : AllByRecursion IsShare items

pub shares_found : (ss : List Share) (ws : List (List ℕ)) (back : List Share) → shares_behind ss ws ≡ Some back → SharesRead ws ss back
unfolding shares_behind
shares_found ss [] back e = record { items = []; is_behind = sym (some_is ss back e) ∙ sym (append-nil ss); words_are = refl; each = tt }
shares_found ss (o ∷ []) back e = absurd cc
shares_found ss (o ∷ a ∷ ws) back e =
    let x = then_some (share_in o a) (λ s. shares_behind (ss ++ s ∷ []) ws) back e in
    let f = share_found o a x.0 x.1 in
    let more = shares_found (ss ++ x.0 ∷ []) ws back x.2 in
    record {
      items = x.0 ∷ more.items;
      is_behind = more.is_behind ∙ append_assoc ss (x.0 ∷ []) more.items;
      words_are = ap (λ (v : List ℕ). v ∷ a ∷ ws) f.0 ∙ ap (λ (v : List ℕ). decimal x.0.operator ∷ v ∷ ws) f.1 ∙ ap (λ (vs : List (List ℕ)). decimal x.0.operator ∷ decimal x.0.amount ∷ vs) more.words_are;
      each = (f.2, more.each);
    }

-- ---- order

pub increasing_found : (least : ℕ) (ns : List ℕ) → increases_from least ns ≡ true → IsIncreasing ns
unfolding increases_from
increasing_found least [] e = tt
increasing_found least (n ∷ []) e = tt
increasing_found least (m ∷ n ∷ ns) e =
    let a = and_parts (nat_le least m) (increases_from (m + 1) (n ∷ ns)) e in
    let b = and_parts (nat_le (m + 1) n) (increases_from (n + 1) ns) a.1 in
    let le = le_is (m + 1) n b.0 in
    (omega arith, increasing_found (m + 1) (n ∷ ns) a.1)

-- ---- lines with a count

pub counted_found : (line : ℕ) (pairs : Bool) (ws : List (List ℕ)) (form : Counted) → counted_of line pairs ws ≡ Ok form
    → (ws ≡ form.first ∷ form.count ∷ form.words) × (agrees pairs (filled (form.first ∷ form.count ∷ form.words)) (number form.count) ≡ true)
counted_found line pairs [] form e = absurd cc
counted_found line pairs (k ∷ []) form e = absurd cc
counted_found line pairs (k ∷ c ∷ ws) form e =
    let made : Counted = record { first = k; count = c; words = ws } in
    let f = formed_ok line (agrees pairs (filled (k ∷ c ∷ ws)) (number c)) made form e in
    subst (λ (x : Counted). (k ∷ c ∷ ws ≡ x.first ∷ x.count ∷ x.words) × (agrees pairs (filled (x.first ∷ x.count ∷ x.words)) (number x.count) ≡ true)) f.1 (refl, f.0)

pub headed_found : (line : ℕ) (keyword : List ℕ) (pairs : Bool) (ws : List (List ℕ)) (form : Counted) → headed_of line keyword pairs ws ≡ Ok form
    → (ws ≡ keyword ∷ form.count ∷ form.words) × (agrees pairs (filled (form.first ∷ form.count ∷ form.words)) (number form.count) ≡ true)
unfolding headed_of
headed_found line keyword pairs ws form e =
    let a = bind_ok (counted_of line pairs ws) (λ x. formed line (bytes_eq x.first keyword) x) form e in
    let c = counted_found line pairs ws a.0 a.1 in
    let f = formed_ok line (bytes_eq a.0.first keyword) a.0 form a.2 in
    subst (λ (x : Counted). (ws ≡ keyword ∷ x.count ∷ x.words) × (agrees pairs (filled (x.first ∷ x.count ∷ x.words)) (number x.count) ≡ true)) f.1
    (c.0 ∙ ap (λ (w : List ℕ). w ∷ a.0.count ∷ a.0.words) (same_bytes a.0.first keyword f.0), c.1)

agrees_by : (pairs : Bool) (o : Option ℕ) (n m : ℕ) → ((k : ℕ) → o ≡ Some k → k ≡ m) → agrees pairs o (Some n) ≡ true → m ≡ 2 + cond pairs (n + n) n
agrees_by pairs None n m are e = absurd cc
agrees_by pairs (Some k) n m are e = sym (are k refl) ∙ eq_is k (2 + cond pairs (n + n) n) e

-- as many words as the count says
pub count_is : (pairs : Bool) (k c : List ℕ) (ws : List (List ℕ)) (n : ℕ) → agrees pairs (filled (k ∷ c ∷ ws)) (number c) ≡ true → number c ≡ Some n → length ws ≡ cond pairs (n + n) n
count_is pairs k c ws n e is =
    let a = agrees_by pairs (filled (k ∷ c ∷ ws)) n (suc (suc (length ws))) (λ m h. filled_length 0 (k ∷ c ∷ ws) m h ∙ omega arith) (ap (λ (o : Option ℕ). agrees pairs (filled (k ∷ c ∷ ws)) o) (sym is) ∙ e) in
    omega arith
