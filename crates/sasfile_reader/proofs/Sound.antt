-- What is read is spelled.
use Rattle.std.proofs.Common.{◌≡◌, ℕ, zero, suc, ◌-◌, ◌<◌, ◌≤◌, ◌^◌, Bool, true, false, cond, eqb, ltb, List, [], ◌∷◌, ◌++◌, length, refl, sym, ap, subst, ◌∙◌, arith, append_assoc, Some, None}
use Rattle.std.specs.Prelude.{Result, Ok, codes}
use Rattle.std.specs.List.{list_all, AllByRecursion}
use Rattle.std.specs.Str.{bytes_eq}
use Rattle.std.proofs.lemmas.Bool.{ltb-false, eqb-true, eqb-false}
use Rattle.std.proofs.lemmas.List.{append-nil, length-append}
use Rattle.sasfile_reader.specs.declared.fault.SasFault.{SasFault}
use Rattle.sasfile_reader.specs.declared.number.Number.{Number}
use Rattle.sasfile_reader.specs.declared.number.Number.TheVariants.{Natural, Negative}
use Rattle.sasfile_reader.specs.Lines.{words, is_text_byte}
use Rattle.sasfile_reader.specs.SasTexts.{SpellsCount, IsText, SpellsEach, SpellsParts, SpellsList, SpellsVersion, SpellsMetric, flag_number, SpellsVariable}
use Rattle.sasfile_reader.specs.Reading.{Remaining, formed, ranged, alone, natural, flag, is_natural, is_minus, line_at, keyword_at, text_at, number_at, count_at, repeated, version_at, metric_at, layer_at, range_at, text_step, variable_at, variable_step, variables_at}
use Rattle.sasfile_reader.proofs.Steps.{ok_is, bind_ok, passed, held, formed_ok, ranged_ok, some_is}
use Rattle.sasfile_reader.proofs.Endings.{line_is}
use Rattle.sasfile_reader.proofs.Numbers.{alone_spelled}
use Rattle.sasfile_reader.proofs.Assignments.{and_left, and_right}

-- ---- one line

-- a line was taken, and what is left
pub record Took (r q : Remaining) (line : List ℕ) : Type 0 where
  pub lines_are : r.lines ≡ line ∷ q.lines

bytes_same : (a b : List ℕ) → bytes_eq a b ≡ true → a ≡ b
bytes_same [] [] e = refl
bytes_same [] (y ∷ ys) e = absurd cc
bytes_same (x ∷ xs) [] e = absurd cc
bytes_same (x ∷ xs) (y ∷ ys) e =
    let first : x ≡ y = eqb-true x y (and_left (eqb x y) (bytes_eq xs ys) e) in
    let others : xs ≡ ys = bytes_same xs ys (and_right (eqb x y) (bytes_eq xs ys) e) in
    rw (first, others) refl

pub keyword_took : (word : List ℕ) (r q : Remaining) → keyword_at word r ≡ Ok q → Took r q word
unfolding keyword_at
keyword_took word r q e =
    let l = bind_ok (line_at r) _ q e in
    let h = held (bytes_eq l.0.0 word) _ (Ok l.0.1) q l.2 in
    let same = ok_is l.0.1 q h.1 in
    let was = (line_is r l.0.0 l.0.1 l.1).0 in
    record { lines_are = was ∙ ap (λ (z : List ℕ). z ∷ l.0.1.lines) (bytes_same l.0.0 word h.0) ∙ ap (λ (z : Remaining). word ∷ z.lines) same }

pub text_took : (r q : Remaining) (t : List ℕ) → text_at r ≡ Ok (t, q) → Took r q t × IsText t
unfolding text_at
text_took r q t e =
    let l = bind_ok (line_at r) _ (t, q) e in
    let h = held (list_all is_text_byte l.0.0) _ (Ok l.0) (t, q) l.2 in
    let same = ok_is l.0 (t, q) h.1 in
    let was = line_is r t q (l.1 ∙ ap (λ (z : List ℕ × Remaining). Ok z) same) in
    (record { lines_are = was.0 }, subst (λ (z : List ℕ × Remaining). IsText z.0) same h.0)

pub record TookNumber (r q : Remaining) (n : Number) : Type 0 where
  pub line : List ℕ
  pub took : Took r q line
  pub number_is : alone (words line) ≡ Some n

pub number_took : (r q : Remaining) (n : Number) → number_at r ≡ Ok (n, q) → TookNumber r q n
unfolding number_at
number_took r q n e =
    let l = bind_ok (line_at r) _ (n, q) e in
    let m = bind_ok (formed r.number (alone (words l.0.0))) _ (n, q) l.2 in
    let same = ok_is (m.0, l.0.1) (n, q) m.2 in
    let number : m.0 ≡ n = ap (λ (z : Number × Remaining). z.0) same in
    let rest : l.0.1 ≡ q = ap (λ (z : Number × Remaining). z.1) same in
    record {
      line = l.0.0;
      took = record { lines_are = (line_is r l.0.0 l.0.1 l.1).0 ∙ ap (λ (z : Remaining). l.0.0 ∷ z.lines) rest };
      number_is = formed_ok r.number (alone (words l.0.0)) m.0 m.1 ∙ ap (λ (z : Number). Some z) number;
    }

natural_is : (n : Number) (k : ℕ) → natural n ≡ Some k → n ≡ Natural k
natural_is (Natural m) k e = ap (λ (z : ℕ). Natural z) (some_is m k e)
natural_is (Negative m) k e = absurd cc

pub count_took : (r q : Remaining) (k : ℕ) → count_at r ≡ Ok (k, q) → TookNumber r q (Natural k)
unfolding count_at
count_took r q k e =
    let n = bind_ok (number_at r) _ (k, q) e in
    let c = bind_ok (ranged r.number (natural n.0.0)) _ (k, q) n.2 in
    let same = ok_is (c.0, n.0.1) (k, q) c.2 in
    let count : c.0 ≡ k = ap (λ (z : ℕ × Remaining). z.0) same in
    let rest : n.0.1 ≡ q = ap (λ (z : ℕ × Remaining). z.1) same in
    let is : n.0.0 ≡ Natural k = natural_is n.0.0 k (ranged_ok r.number (natural n.0.0) c.0 c.1 ∙ ap (λ (z : ℕ). Some z) count) in
    subst (λ (z : Remaining). TookNumber r z (Natural k)) rest (subst (λ (z : Number). TookNumber r n.0.1 z) is (number_took r n.0.1 n.0.0 n.1))

pub count_line : (r q : Remaining) (k : ℕ) → (t : TookNumber r q (Natural k)) → k < 2 ^ 64 - 1 → SpellsCount t.line k
count_line r q k t lt = alone_spelled t.line (Natural k) t.number_is lt

pub is_natural_is : (m : ℕ) (n : Number) → is_natural m n ≡ true → n ≡ Natural m
is_natural_is m (Natural k) e = ap (λ (z : ℕ). Natural z) (eqb-true k m e)
is_natural_is m (Negative k) e = absurd cc

is_minus_is : (m : ℕ) (n : Number) → is_minus m n ≡ true → n ≡ Negative m
is_minus_is m (Natural k) e = absurd cc
is_minus_is m (Negative k) e = ap (λ (z : ℕ). Negative z) (eqb-true k m e)

-- ---- several lines

-- lines of this kind were taken
pub record TookPart (P : List (List ℕ) → Type 0) (r q : Remaining) : Type 0 where
  pub part : List (List ℕ)
  pub lines_are : r.lines ≡ part ++ q.lines
  pub is : P part

-- what a step took
pub record TookItem {S X : Type 0} (P : List ℕ → X → Type 0) (push : S → X → S) (s t : S) (r q : Remaining) : Type 0 where
  pub item : X
  pub line : List ℕ
  pub lines_are : r.lines ≡ line ∷ q.lines
  pub is : P line item
  pub next : t ≡ push s item

-- items pushed one after another
abbrev pub pushed : {S X : Type 0} → (S → X → S) → S → List X → S
pushed push s [] = s
pushed push s (x ∷ xs) = pushed push (push s x) xs

pub record TookItems {S X : Type 0} (P : List ℕ → X → Type 0) (push : S → X → S) (n : ℕ) (s t : S) (r q : Remaining) : Type 0 where
  pub items : List X
  pub others : List (List ℕ)
  pub lines_are : r.lines ≡ others ++ q.lines
  pub each : SpellsEach P others items
  pub next : t ≡ pushed push s items
  pub many : length items ≡ n
  pub long : length others ≡ n

pub repeated_each : {S X : Type 0} (P : List ℕ → X → Type 0) (push : S → X → S) (step : S → Remaining → Result (S × Remaining) SasFault)
    → ((s t : S) (r q : Remaining) → step s r ≡ Ok (t, q) → TookItem P push s t r q)
    → (n : ℕ) (s t : S) (r q : Remaining) → repeated step n s r ≡ Ok (t, q) → TookItems P push n s t r q
unfolding repeated
repeated_each P push step takes zero s t r q e =
    let same = ok_is (s, r) (t, q) e in
    record {
      items = [];
      others = [];
      lines_are = ap (λ (z : _ × Remaining). z.1.lines) same;
      each = tt;
      next = sym (ap (λ (z : _ × Remaining). z.0) same);
      many = refl;
      long = refl;
    }
repeated_each P push step takes (suc n) s t r q e =
    let b = bind_ok (step s r) (λ x. repeated step n x.0 x.1) (t, q) e in
    let one = takes s b.0.0 r b.0.1 b.1 in
    let more = repeated_each P push step takes n b.0.0 t b.0.1 q b.2 in
    record {
      items = one.item ∷ more.items;
      others = one.line ∷ more.others;
      lines_are = one.lines_are ∙ ap (λ (z : List (List ℕ)). one.line ∷ z) more.lines_are;
      each = (one.is, more.each);
      next = more.next ∙ ap (λ z. pushed push z more.items) one.next;
      many = ap suc more.many;
      long = ap suc more.long;
    }

-- what a step of several lines took
pub record TookWhole {S X : Type 0} (P : List (List ℕ) → X → Type 0) (push : S → X → S) (s t : S) (r q : Remaining) : Type 0 where
  pub item : X
  pub part : List (List ℕ)
  pub lines_are : r.lines ≡ part ++ q.lines
  pub some : 0 < length part
  pub is : P part item
  pub next : t ≡ push s item

pub record TookWholes {S X : Type 0} (P : List (List ℕ) → X → Type 0) (push : S → X → S) (n : ℕ) (s t : S) (r q : Remaining) : Type 0 where
  pub items : List X
  pub others : List (List ℕ)
  pub lines_are : r.lines ≡ others ++ q.lines
  pub each : SpellsParts P others items
  pub next : t ≡ pushed push s items
  pub many : length items ≡ n
  pub long : n ≤ length others

-- no more lines than these
abbrev pub Roomy : Remaining → Type 0
Roomy r = length r.lines < 2 ^ 64 - 1

pub roomy_after : (r q : Remaining) (part : List (List ℕ)) → r.lines ≡ part ++ q.lines → Roomy r → Roomy q
roomy_after r q part e h = omega (arith, ap length e, length-append part q.lines)

pub repeated_wholes : {S X : Type 0} (P : List (List ℕ) → X → Type 0) (push : S → X → S) (step : S → Remaining → Result (S × Remaining) SasFault)
    → ((s t : S) (r q : Remaining) → Roomy r → step s r ≡ Ok (t, q) → TookWhole P push s t r q)
    → (n : ℕ) (s t : S) (r q : Remaining) → Roomy r → repeated step n s r ≡ Ok (t, q) → TookWholes P push n s t r q
unfolding repeated
repeated_wholes P push step takes zero s t r q room e =
    let same = ok_is (s, r) (t, q) e in
    record {
      items = [];
      others = [];
      lines_are = ap (λ (z : _ × Remaining). z.1.lines) same;
      each = refl;
      next = sym (ap (λ (z : _ × Remaining). z.0) same);
      many = refl;
      long = omega arith;
    }
repeated_wholes P push step takes (suc n) s t r q room e =
    let b = bind_ok (step s r) (λ x. repeated step n x.0 x.1) (t, q) e in
    let one = takes s b.0.0 r b.0.1 room b.1 in
    let more = repeated_wholes P push step takes n b.0.0 t b.0.1 q (roomy_after r b.0.1 one.part one.lines_are room) b.2 in
    record {
      items = one.item ∷ more.items;
      others = one.part ++ more.others;
      lines_are = one.lines_are ∙ ap (λ (z : List (List ℕ)). one.part ++ z) more.lines_are ∙ sym (append_assoc one.part more.others q.lines);
      each = (one.part, more.others, refl, one.is, more.each);
      next = more.next ∙ ap (λ z. pushed push z more.items) one.next;
      many = ap suc more.many;
      long = let some = one.some in let long = more.long in omega (arith, length-append one.part more.others);
    }

pub pushed_list : {X : Type 0} (xs ys : List X) → pushed (λ (zs : List X) (z : X). zs ++ z ∷ []) xs ys ≡ xs ++ ys
pushed_list xs [] = sym (append-nil xs)
pushed_list xs (y ∷ ys) = pushed_list (xs ++ y ∷ []) ys ∙ append_assoc xs (y ∷ []) ys

-- ---- version and metric

pub version_took : (r q : Remaining) → version_at r ≡ Ok q → TookPart SpellsVersion r q
unfolding version_at
version_took r q e =
    let b = bind_ok (keyword_at (codes "begin_version") r) _ q e in
    let n = bind_ok (number_at b.0) _ q b.2 in
    let h = held (is_natural 3 n.0.0) _ (keyword_at (codes "end_version") n.0.1) q n.2 in
    let first = keyword_took (codes "begin_version") r b.0 b.1 in
    let number = number_took b.0 n.0.1 n.0.0 n.1 in
    let last = keyword_took (codes "end_version") n.0.1 q h.1 in
    let three : n.0.0 ≡ Natural 3 = is_natural_is 3 n.0.0 h.0 in
    record {
      part = codes "begin_version" ∷ number.line ∷ codes "end_version" ∷ [];
      lines_are = first.lines_are ∙ ap (λ (z : List (List ℕ)). codes "begin_version" ∷ z) (number.took.lines_are ∙ ap (λ (z : List (List ℕ)). number.line ∷ z) last.lines_are);
      is = record {
        version = number.line;
        lines_are = refl;
        version_is = alone_spelled number.line (Natural 3) (number.number_is ∙ ap (λ (z : Number). Some z) three) (omega arith);
      };
    }

flag_by : (a b : Bool) (k : ℕ) (m : Bool) → (a ≡ true → k ≡ 0) → (b ≡ true → k ≡ 1) → cond a (Some false) (cond b (Some true) None) ≡ Some m → k ≡ flag_number m
flag_by true b k m p q e = p refl ∙ ap flag_number (some_is false m e)
flag_by false true k m p q e = q refl ∙ ap flag_number (some_is true m e)
flag_by false false k m p q e = absurd cc

flag_is : (n : Number) (m : Bool) → flag n ≡ Some m → n ≡ Natural (flag_number m)
flag_is (Natural k) m e = ap (λ (z : ℕ). Natural z) (flag_by (eqb k 0) (eqb k 1) k m (eqb-true k 0) (eqb-true k 1) e)
flag_is (Negative k) m e = absurd cc

flag_small : (m : Bool) → flag_number m < 2 ^ 64 - 1
flag_small false = omega arith
flag_small true = omega arith

pub metric_took : (r q : Remaining) (m : Bool) → metric_at r ≡ Ok (m, q) → TookPart (λ ls. SpellsMetric ls m) r q
unfolding metric_at
metric_took r q m e =
    let b = bind_ok (keyword_at (codes "begin_metric") r) _ (m, q) e in
    let n = bind_ok (number_at b.0) _ (m, q) b.2 in
    let f = bind_ok (ranged b.0.number (flag n.0.0)) _ (m, q) n.2 in
    let w = bind_ok (keyword_at (codes "end_metric") n.0.1) _ (m, q) f.2 in
    let same = ok_is (f.0, w.0) (m, q) w.2 in
    let metric : f.0 ≡ m = ap (λ (z : Bool × Remaining). z.0) same in
    let rest : w.0 ≡ q = ap (λ (z : Bool × Remaining). z.1) same in
    let first = keyword_took (codes "begin_metric") r b.0 b.1 in
    let number = number_took b.0 n.0.1 n.0.0 n.1 in
    let last = keyword_took (codes "end_metric") n.0.1 w.0 w.1 in
    let value : n.0.0 ≡ Natural (flag_number m) = flag_is n.0.0 m (ranged_ok b.0.number (flag n.0.0) f.0 f.1 ∙ ap (λ (z : Bool). Some z) metric) in
    record {
      part = codes "begin_metric" ∷ number.line ∷ codes "end_metric" ∷ [];
      lines_are = first.lines_are ∙ ap (λ (z : List (List ℕ)). codes "begin_metric" ∷ z) (number.took.lines_are ∙ ap (λ (z : List (List ℕ)). number.line ∷ z) (last.lines_are ∙ ap (λ (z : Remaining). codes "end_metric" ∷ z.lines) rest));
      is = record {
        flag = number.line;
        lines_are = refl;
        flag_is = alone_spelled number.line (Natural (flag_number m)) (number.number_is ∙ ap (λ (z : Number). Some z) value) (flag_small m);
      };
    }

-- ---- variables

layer_took : (r q : Remaining) → layer_at r ≡ Ok q → TookNumber r q (Negative 1)
unfolding layer_at
layer_took r q e =
    let n = bind_ok (number_at r) _ q e in
    let h = held (is_minus 1 n.0.0) _ (Ok n.0.1) q n.2 in
    subst (λ (z : Remaining). TookNumber r z (Negative 1)) (ok_is n.0.1 q h.1) (subst (λ (z : Number). TookNumber r n.0.1 z) (is_minus_is 1 n.0.0 h.0) (number_took r n.0.1 n.0.0 n.1))

record TookRange (r q : Remaining) (k : ℕ) : Type 0 where
  number : TookNumber r q (Natural k)
  some : 0 < k
  few : k ≤ 65536

range_took : (r q : Remaining) (k : ℕ) → range_at r ≡ Ok (k, q) → TookRange r q k
unfolding range_at
range_took r q k e =
    let c = bind_ok (count_at r) _ (k, q) e in
    let z = passed (eqb c.0.0 0) _ _ (k, q) c.2 in
    let p = passed (ltb 65536 c.0.0) _ _ (k, q) z.1 in
    let same = ok_is c.0 (k, q) p.1 in
    subst (λ (x : ℕ × Remaining). TookRange r x.1 x.0) same (record {
      number = count_took r c.0.1 c.0.0 c.1;
      some = let ne = eqb-false c.0.0 0 z.0 in omega arith;
      few = ltb-false 65536 c.0.0 p.0;
    })

-- a text stands for itself
abbrev IsLine : List ℕ → List ℕ → Type 0
IsLine line text = (line ≡ text) × IsText text

push_text : List (List ℕ) → List ℕ → List (List ℕ)
push_text ts t = ts ++ t ∷ []

text_item : (s t : List (List ℕ)) (r q : Remaining) → text_step s r ≡ Ok (t, q) → TookItem IsLine (λ (zs : List (List ℕ)) (z : List ℕ). zs ++ z ∷ []) s t r q
text_item s t r q e =
    let b = bind_ok (text_at r) _ (t, q) e in
    let same = ok_is (s ++ b.0.0 ∷ [], b.0.1) (t, q) b.2 in
    let took = text_took r b.0.1 b.0.0 b.1 in
    record {
      item = b.0.0;
      line = b.0.0;
      lines_are = took.0.lines_are ∙ ap (λ (z : List (List ℕ) × Remaining). b.0.0 ∷ z.1.lines) same;
      is = (refl, took.1);
      next = sym (ap (λ (z : List (List ℕ) × Remaining). z.0) same);
    }

lines_texts : (ls ts : List (List ℕ)) → SpellsEach IsLine ls ts → (ls ≡ ts) × AllByRecursion IsText ts
lines_texts [] [] h = (refl, tt)
lines_texts [] (t ∷ ts) h = absurd h
lines_texts (l ∷ ls) [] h = absurd h
lines_texts (l ∷ ls) (t ∷ ts) h =
    let more = lines_texts ls ts h.1 in
    let here : l ≡ t = h.0.0 in
    (rw (here, more.0) refl, (h.0.1, more.1))

variable_took : (r q : Remaining) (ts : List (List ℕ)) → variable_at r ≡ Ok (ts, q) → TookPart (λ ls. SpellsVariable ls ts) r q
unfolding variable_at
variable_took r q ts e =
    let b = bind_ok (keyword_at (codes "begin_variable") r) _ (ts, q) e in
    let n = bind_ok (text_at b.0) _ (ts, q) b.2 in
    let l = bind_ok (layer_at n.0.1) _ (ts, q) n.2 in
    let k = bind_ok (range_at l.0) _ (ts, q) l.2 in
    let t = bind_ok (repeated text_step k.0.0 [] k.0.1) _ (ts, q) k.2 in
    let w = bind_ok (keyword_at (codes "end_variable") t.0.1) _ (ts, q) t.2 in
    let same = ok_is (t.0.0, w.0) (ts, q) w.2 in
    let texts : t.0.0 ≡ ts = ap (λ (z : List (List ℕ) × Remaining). z.0) same in
    let rest : w.0 ≡ q = ap (λ (z : List (List ℕ) × Remaining). z.1) same in
    let first = keyword_took (codes "begin_variable") r b.0 b.1 in
    let name = text_took b.0 n.0.1 n.0.0 n.1 in
    let layer = layer_took n.0.1 l.0 l.1 in
    let range = range_took l.0 k.0.1 k.0.0 k.1 in
    let items = repeated_each IsLine (λ (zs : List (List ℕ)) (z : List ℕ). zs ++ z ∷ []) text_step text_item k.0.0 [] t.0.0 k.0.1 t.0.1 t.1 in
    let last = keyword_took (codes "end_variable") t.0.1 w.0 w.1 in
    let both = lines_texts items.others items.items items.each in
    let are : items.items ≡ ts = sym (items.next ∙ pushed_list [] items.items) ∙ texts in
    let many : length ts ≡ k.0.0 = ap length (sym are) ∙ items.many in
    let few = range.few in
    let some = range.some in
    let others : items.others ≡ ts = both.0 ∙ are in
    let behind : t.0.1.lines ≡ codes "end_variable" ∷ q.lines = last.lines_are ∙ ap (λ (z : Remaining). codes "end_variable" ∷ z.lines) rest in
    let inner : k.0.1.lines ≡ (ts ++ codes "end_variable" ∷ []) ++ q.lines = items.lines_are ∙ ap (λ (z : List (List ℕ)). z ++ t.0.1.lines) others ∙ ap (λ (z : List (List ℕ)). ts ++ z) behind ∙ sym (append_assoc ts (codes "end_variable" ∷ []) q.lines) in
    record {
      part = codes "begin_variable" ∷ n.0.0 ∷ layer.line ∷ range.number.line ∷ (ts ++ codes "end_variable" ∷ []);
      lines_are = first.lines_are ∙ ap (λ (z : List (List ℕ)). codes "begin_variable" ∷ z) (name.0.lines_are ∙ ap (λ (z : List (List ℕ)). n.0.0 ∷ z) (layer.took.lines_are ∙ ap (λ (z : List (List ℕ)). layer.line ∷ z) (range.number.took.lines_are ∙ ap (λ (z : List (List ℕ)). range.number.line ∷ z) inner)));
      is = record {
        name = n.0.0;
        layer = layer.line;
        range = range.number.line;
        lines_are = refl;
        name_is = name.1;
        layer_is = alone_spelled layer.line (Negative 1) layer.number_is (omega arith);
        range_is = subst (SpellsCount range.number.line) (sym many) (count_line l.0 k.0.1 k.0.0 range.number (omega arith));
        some = omega arith;
        few = omega arith;
        texts_are = subst (AllByRecursion IsText) are both.1;
      };
    }

variable_whole : (s t : List (List (List ℕ))) (r q : Remaining) → Roomy r → variable_step s r ≡ Ok (t, q) → TookWhole SpellsVariable (λ (zs : List (List (List ℕ))) (z : List (List ℕ)). zs ++ z ∷ []) s t r q
variable_whole s t r q room e =
    let b = bind_ok (variable_at r) _ (t, q) e in
    let same = ok_is (s ++ b.0.0 ∷ [], b.0.1) (t, q) b.2 in
    let took = variable_took r b.0.1 b.0.0 b.1 in
    record {
      item = b.0.0;
      part = took.part;
      lines_are = took.lines_are ∙ ap (λ (z : List (List (List ℕ)) × Remaining). took.part ++ z.1.lines) same;
      some = let e : length took.part ≡ suc _ = ap length took.is.lines_are in omega arith;
      is = took.is;
      next = sym (ap (λ (z : List (List (List ℕ)) × Remaining). z.0) same);
    }

pub record TookVariables (r q : Remaining) (vs : List (List (List ℕ))) : Type 0 where
  pub part : TookPart (λ ls. SpellsList SpellsVariable ls vs) r q
  pub few : length vs ≤ 65536

pub variables_took : (r q : Remaining) (vs : List (List (List ℕ))) → Roomy r → variables_at r ≡ Ok (vs, q) → TookVariables r q vs
unfolding variables_at
variables_took r q vs room e =
    let n = bind_ok (count_at r) _ (vs, q) e in
    let p = passed (ltb 65536 n.0.0) _ (repeated variable_step n.0.0 [] n.0.1) (vs, q) n.2 in
    let number = count_took r n.0.1 n.0.0 n.1 in
    let inner = roomy_after r n.0.1 (number.line ∷ []) number.took.lines_are room in
    let items = repeated_wholes SpellsVariable (λ (zs : List (List (List ℕ))) (z : List (List ℕ)). zs ++ z ∷ []) variable_step variable_whole n.0.0 [] vs n.0.1 q inner p.1 in
    let are : items.items ≡ vs = sym (items.next ∙ pushed_list [] items.items) in
    let many : length vs ≡ n.0.0 = ap length (sym are) ∙ items.many in
    let few = ltb-false 65536 n.0.0 p.0 in
    record {
      part = record {
        part = number.line ∷ items.others;
        lines_are = number.took.lines_are ∙ ap (λ (z : List (List ℕ)). number.line ∷ z) items.lines_are;
        is = record {
          count = number.line;
          others = items.others;
          lines_are = refl;
          count_is = subst (SpellsCount number.line) (sym many) (count_line r n.0.1 n.0.0 number (omega arith));
          items = subst (SpellsParts SpellsVariable items.others) are items.each;
        };
      };
      few = omega arith;
    }
