-- Typed lists without faults are runs, and runs are read as what they declare.
use Rattle.std.proofs.Common.{◌≡◌, ◌≢◌, ℕ, ◌==◌, ◌||◌, Bool, true, false, if◌then◌else◌, ◌⊎◌, inl, inr, List, [], ◌∷◌, ◌++◌, map, codes, refl, sym, ap, ◌∙◌, append_assoc}
use Rattle.std.specs.Prelude.{Option, Some, None}
use Rattle.std.specs.List.{AllByRecursion, flat_map}
use Rattle.std.proofs.lemmas.Bool.{eqb-true}
use Rattle.sexp.specs.Forms.{Forms, none, word, group}
use Rattle.pddl_names.proofs.NameLists.{same_text-true, same_text-equal}
use Rattle.pddl_syntax.specs.declared.word.WordKind.{WordKind}
use Rattle.pddl_syntax.specs.declared.word.WordKind.TheVariants.{Dash, Name, Variable, Other}
use Rattle.pddl_syntax.specs.declared.typed.Item.{Item}
use Rattle.pddl_syntax.specs.declared.typed.Item.TheVariants.{Entry, Hyphen, Wrong}
use Rattle.pddl_syntax.specs.declared.fault.Fault.{Fault}
use Rattle.pddl_syntax.specs.declared.fault.FaultKind.TheVariants.{Unsupported, UnknownName}
use Rattle.pddl_syntax.specs.Faults.{fault}
use Rattle.pddl_syntax.specs.Words.{word_kind}
use Rattle.pddl_syntax.specs.Typed.{Declared, item_of, item_of_kind, is_either, either_at, either_faults, type_of_word, type_at, type_after, type_after_item, declared, declared_item, declared_behind, type_word_faults, type_faults, typed_faults, item_faults}
use Rattle.pddl_grammar.specs.Runs.{Placed, TypedRun, TypedList, names_of, words_before, type_before, runs_before, forms_of, IsEntry, IsTypeName, IsTypedRun, IsTypedList, of_type, declared_by, declarations}

-- ---- words

entry_is : (v : Bool) (w : Placed) → IsEntry v w → item_of v w.text ≡ Entry
entry_is false w h = ap (item_of_kind false) h
entry_is true w h = ap (item_of_kind true) h

hyphen_is : (v : Bool) → item_of v (codes "-") ≡ Hyphen
hyphen_is false = refl
hyphen_is true = refl

either_not : (t : List ℕ) → t ≢ codes "either" → is_either t ≡ false
either_not t h = by (is_either t) refl where
  by : (b : Bool) → is_either t ≡ b → is_either t ≡ false
  by true e = absurd (h (same_text-true t (codes "either") e))
  by false e = e

not_either : (t : List ℕ) → is_either t ≡ false → t ≢ codes "either"
not_either t h e = let same : is_either t ≡ true = same_text-equal t (codes "either") e in absurd cc

kind_entry : (v : Bool) (w : Placed) (k : WordKind) → word_kind w.text ≡ k → item_of_kind v k ≡ Entry → IsEntry v w
kind_entry false w Name e h = e
kind_entry false w Dash e h = absurd cc
kind_entry false w Variable e h = absurd cc
kind_entry false w Other e h = absurd cc
kind_entry true w Variable e h = e
kind_entry true w Name e h = absurd cc
kind_entry true w Dash e h = absurd cc
kind_entry true w Other e h = absurd cc

kind_hyphen : (v : Bool) (k : WordKind) → item_of_kind v k ≡ Hyphen → k ≡ Dash
kind_hyphen v Dash h = refl
kind_hyphen false Name h = absurd cc
kind_hyphen true Name h = absurd cc
kind_hyphen false Variable h = absurd cc
kind_hyphen true Variable h = absurd cc
kind_hyphen false Other h = absurd cc
kind_hyphen true Other h = absurd cc

dash_is : (t : List ℕ) → word_kind t ≡ Dash → t ≡ codes "-"
dash_is [] h = absurd cc
dash_is (b ∷ []) h = by (b == 45) (b == 58 || b == 63) refl h where
  by : (x y : Bool) → (b == 45) ≡ x → (if x then Dash else (if y then Other else Name)) ≡ Dash → b ∷ [] ≡ codes "-"
  by true y e k = ap (λ (c : ℕ). c ∷ []) (eqb-true b 45 e)
  by false true e k = absurd cc
  by false false e k = absurd cc
dash_is (b ∷ c ∷ cs) h = by (b == 58) (b == 63) h where
  by : (x y : Bool) → (if x then Other else (if y then Variable else Name)) ≡ Dash → b ∷ c ∷ cs ≡ codes "-"
  by true y k = absurd cc
  by false true k = absurd cc
  by false false k = absurd cc

-- ---- runs have no faults

module _ (v : Bool) (known : List ℕ → Bool) (home : ℕ) where
  entry_step : (empty : Bool) (w : Placed) (f : Forms) → IsEntry v w → typed_faults v known home empty (word w.start w.stop w.text f) ≡ typed_faults v known home false f
  entry_step empty w f h = ap (λ (i : Item). item_faults i empty w.start (type_faults v known home f) (typed_faults v known home false f) (typed_faults v known home empty f)) (entry_is v w h)

  words_pass : (ws : List Placed) (f : Forms) → AllByRecursion (IsEntry v) ws → typed_faults v known home false (words_before ws f) ≡ typed_faults v known home false f
  words_pass [] f h = refl
  words_pass (w ∷ ws) f h = entry_step false w (words_before ws f) h.0 ∙ words_pass ws f h.1

  hyphen_step : (s e : ℕ) (f : Forms) → typed_faults v known home false (word s e (codes "-") f) ≡ type_faults v known home f
  hyphen_step s e f = ap (λ (i : Item). item_faults i false s (type_faults v known home f) (typed_faults v known home false f) (typed_faults v known home false f)) (hyphen_is v)

  type_step : (w : Placed) (f : Forms) → IsTypeName known w → type_faults v known home (word w.start w.stop w.text f) ≡ typed_faults v known home true f
  type_step w f h =
      ap (λ (k : WordKind). type_word_faults known w.text w.start k ++ typed_faults v known home true f) h.name
      ∙ ap (λ (b : Bool). (if b then fault Unsupported w.start ∷ [] else (if known w.text then [] else fault UnknownName w.start ∷ [])) ++ typed_faults v known home true f) (either_not w.text h.single)
      ∙ ap (λ (b : Bool). (if b then [] else fault UnknownName w.start ∷ []) ++ typed_faults v known home true f) h.there

  run_step : (r : TypedRun) (f : Forms) → IsTypedRun v known r → typed_faults v known home true (words_before (names_of r) (type_before r f)) ≡ typed_faults v known home true f
  run_step r f h =
      entry_step true r.first (words_before r.others (type_before r f)) h.names.0
      ∙ words_pass r.others (type_before r f) h.names.1
      ∙ hyphen_step r.hyphen_start r.hyphen_stop (word r.type.start r.type.stop r.type.text f)
      ∙ type_step r.type f h.type

  runs_pass : (rs : List TypedRun) (f : Forms) → AllByRecursion (IsTypedRun v known) rs → typed_faults v known home true (runs_before rs f) ≡ typed_faults v known home true f
  runs_pass [] f h = refl
  runs_pass (r ∷ rs) f h = run_step r (runs_before rs f) h.0 ∙ runs_pass rs f h.1

  last_pass : (ws : List Placed) → AllByRecursion (IsEntry v) ws → typed_faults v known home true (words_before ws none) ≡ []
  last_pass [] h = refl
  last_pass (w ∷ ws) h = entry_step true w (words_before ws none) h.0 ∙ words_pass ws none h.1

  pub runs_faultless : (l : TypedList) → IsTypedList v known l → typed_faults v known home true (forms_of l) ≡ []
  runs_faultless l h = runs_pass l.runs (words_before l.last none) h.runs ∙ last_pass l.last h.last

-- ---- and are read as what they declare

module _ (v : Bool) where
  -- the type that is read behind these names
  words_type : (ws : List Placed) (f : Forms) → AllByRecursion (IsEntry v) ws → type_after v (words_before ws f) ≡ type_after v f
  words_type [] f h = refl
  words_type (w ∷ ws) f h =
      ap (λ (i : Item). type_after_item i (type_at (words_before ws f)) (type_after v (words_before ws f))) (entry_is v w h.0) ∙ words_type ws f h.1

  declare_step : (w : Placed) (f : Forms) → IsEntry v w → declared v (word w.start w.stop w.text f) ≡ record { name = w.text; at = w.start; parent = type_after v f } ∷ declared v f
  declare_step w f h = ap (λ (i : Item). declared_item i (record { name = w.text; at = w.start; parent = type_after v f }) (declared_behind v f) (declared v f)) (entry_is v w h)

  words_declare : (type : List ℕ) (ws : List Placed) (f : Forms) → type_after v f ≡ Some type → AllByRecursion (IsEntry v) ws → declared v (words_before ws f) ≡ map (of_type type) ws ++ declared v f
  words_declare type [] f e h = refl
  words_declare type (w ∷ ws) f e h =
      declare_step w (words_before ws f) h.0
      ∙ ap (λ (p : Option (List ℕ)). record { name = w.text; at = w.start; parent = p } ∷ declared v (words_before ws f)) (words_type ws f h.1 ∙ e)
      ∙ ap (λ (ds : List Declared). of_type type w ∷ ds) (words_declare type ws f e h.1)

  type_read : (known : List ℕ → Bool) (r : TypedRun) (f : Forms) → IsTypeName known r.type → type_after v (type_before r f) ≡ Some r.type.text
  type_read known r f h =
      ap (λ (i : Item). type_after_item i (type_at (word r.type.start r.type.stop r.type.text f)) (type_after v (word r.type.start r.type.stop r.type.text f))) (hyphen_is v)
      ∙ ap (type_of_word r.type.text) h.name
      ∙ ap (λ (b : Bool). if b then None else Some r.type.text) (either_not r.type.text h.single)

  type_passed : (r : TypedRun) (f : Forms) → declared v (type_before r f) ≡ declared v f
  type_passed r f =
      ap (λ (i : Item). declared_item i (record { name = codes "-"; at = r.hyphen_start; parent = type_after v (word r.type.start r.type.stop r.type.text f) }) (declared v f) (declared v (word r.type.start r.type.stop r.type.text f)))
      (hyphen_is v)

  runs_declare : (known : List ℕ → Bool) (rs : List TypedRun) (f : Forms) → AllByRecursion (IsTypedRun v known) rs → declared v (runs_before rs f) ≡ flat_map declared_by rs ++ declared v f
  runs_declare known [] f h = refl
  runs_declare known (r ∷ rs) f h =
      words_declare r.type.text (names_of r) (type_before r (runs_before rs f)) (type_read known r (runs_before rs f) h.0.type) h.0.names
      ∙ ap (λ (ds : List Declared). declared_by r ++ ds) (type_passed r (runs_before rs f) ∙ runs_declare known rs f h.1)
      ∙ sym (append_assoc (declared_by r) (flat_map declared_by rs) (declared v f))

  last_declares : (ws : List Placed) → AllByRecursion (IsEntry v) ws → declared v (words_before ws none) ≡ map (of_type (codes "object")) ws
  last_declares [] h = refl
  last_declares (w ∷ ws) h =
      declare_step w (words_before ws none) h.0
      ∙ ap (λ (p : Option (List ℕ)). record { name = w.text; at = w.start; parent = p } ∷ declared v (words_before ws none)) (words_type ws none h.1)
      ∙ ap (λ (ds : List Declared). of_type (codes "object") w ∷ ds) (last_declares ws h.1)

  pub runs_declared : (known : List ℕ → Bool) (l : TypedList) → IsTypedList v known l → declared v (forms_of l) ≡ declarations l
  runs_declared known l h =
      runs_declare known l.runs (words_before l.last none) h.runs
      ∙ ap (λ (ds : List Declared). flat_map declared_by l.runs ++ ds) (last_declares l.last h.last)

-- ---- what has no faults is runs

pub parts_empty : {A : Type 0} (xs ys : List A) → xs ++ ys ≡ [] → (xs ≡ []) × (ys ≡ [])
parts_empty [] ys e = (refl, e)
parts_empty (x ∷ xs) ys e = absurd cc

-- a type, and a typed list behind it
record TypeFirst (v : Bool) (known : List ℕ → Bool) (f : Forms) : Type 0 where
  type : Placed
  later : TypedList
  type_is : IsTypeName known type
  later_is : IsTypedList v known later
  parts : f ≡ word type.start type.stop type.text (forms_of later)

-- names that may be the last of the list
record NamesAlone (v : Bool) (f : Forms) : Type 0 where
  names : List Placed
  names_are : AllByRecursion (IsEntry v) names
  parts : f ≡ words_before names none

-- names, and behind them a hyphen with their type
record NamesTyped (v : Bool) (known : List ℕ → Bool) (f : Forms) : Type 0 where
  names : List Placed
  start : ℕ
  stop : ℕ
  rest : Forms
  names_are : AllByRecursion (IsEntry v) names
  behind : TypeFirst v known rest
  parts : f ≡ words_before names (word start stop (codes "-") rest)

-- the rest of a list in which a name came
abbrev Continues : Bool → (List ℕ → Bool) → Forms → Type 0
Continues v known f = NamesAlone v f ⊎ NamesTyped v known f

abbrev IsRuns : Bool → (List ℕ → Bool) → Forms → Type 0
IsRuns v known f = (l : TypedList) × IsTypedList v known l × (f ≡ forms_of l)

module _ (v : Bool) (known : List ℕ → Bool) (home : ℕ) where
  begin_run : (w : Placed) (f : Forms) → IsEntry v w → Continues v known f → IsRuns v known (word w.start w.stop w.text f)
  begin_run w f h (inl c) = (
    record { runs = []; last = w ∷ c.names },
    record { runs = tt; last = (h, c.names_are) },
    ap (word w.start w.stop w.text) c.parts,
  )
  begin_run w f h (inr c) =
      let r : TypedRun = record { first = w; others = c.names; hyphen_start = c.start; hyphen_stop = c.stop; type = c.behind.type } in (
        record { runs = r ∷ c.behind.later.runs; last = c.behind.later.last },
        record { runs = (record { names = (h, c.names_are); type = c.behind.type_is }, c.behind.later_is.runs); last = c.behind.later_is.last },
        ap (word w.start w.stop w.text) (c.parts ∙ ap (λ (g : Forms). words_before c.names (word c.start c.stop (codes "-") g)) c.behind.parts),
      )

  more_names : (w : Placed) (f : Forms) → IsEntry v w → Continues v known f → Continues v known (word w.start w.stop w.text f)
  more_names w f h (inl c) = inl (record { names = w ∷ c.names; names_are = (h, c.names_are); parts = ap (word w.start w.stop w.text) c.parts })
  more_names w f h (inr c) =
      inr (record { names = w ∷ c.names; start = c.start; stop = c.stop; rest = c.rest; names_are = (h, c.names_are); behind = c.behind; parts = ap (word w.start w.stop w.text) c.parts })

  abbrev placed : ℕ → ℕ → List ℕ → Placed
  placed s e t = record { start = s; stop = e; text = t }

  entry : (s e : ℕ) (t : List ℕ) → item_of v t ≡ Entry → IsEntry v (placed s e t)
  entry s e t h = kind_entry v (placed s e t) (word_kind t) refl h

  first_word : (s e : ℕ) (t : List ℕ) (f : Forms) (i : Item) → item_of v t ≡ i
      → item_faults i true s (type_faults v known home f) (typed_faults v known home false f) (typed_faults v known home true f) ≡ []
      → (typed_faults v known home false f ≡ [] → Continues v known f) → IsRuns v known (word s e t f)
  first_word s e t f Entry is h later = begin_run (placed s e t) f (entry s e t is) (later h)
  first_word s e t f Hyphen is h later = absurd cc
  first_word s e t f Wrong is h later = absurd cc

  later_word : (s e : ℕ) (t : List ℕ) (f : Forms) (i : Item) → item_of v t ≡ i
      → item_faults i false s (type_faults v known home f) (typed_faults v known home false f) (typed_faults v known home false f) ≡ []
      → (typed_faults v known home false f ≡ [] → Continues v known f) → (type_faults v known home f ≡ [] → TypeFirst v known f)
      → Continues v known (word s e t f)
  later_word s e t f Entry is h later behind = more_names (placed s e t) f (entry s e t is) (later h)
  later_word s e t f Hyphen is h later behind = inr (record {
    names = [];
    start = s;
    stop = e;
    rest = f;
    names_are = tt;
    behind = behind h;
    parts = ap (λ (u : List ℕ). word s e u f) (dash_is t (kind_hyphen v (word_kind t) is));
  })
  later_word s e t f Wrong is h later behind = absurd cc

  type_named : (s e : ℕ) (t : List ℕ) (k : WordKind) → word_kind t ≡ k → type_word_faults known t s k ≡ [] → IsTypeName known (placed s e t)
  type_named s e t Dash is h = absurd cc
  type_named s e t Variable is h = absurd cc
  type_named s e t Other is h = absurd cc
  type_named s e t Name is h = by (is_either t) (known t) refl refl h where
    by : (x y : Bool) → is_either t ≡ x → known t ≡ y → (if x then fault Unsupported s ∷ [] else (if y then [] else fault UnknownName s ∷ [])) ≡ [] → IsTypeName known (placed s e t)
    by true y a b k = absurd cc
    by false true a b k = record { name = is; single = not_either t a; there = b }
    by false false a b k = absurd cc

  type_word : (s e : ℕ) (t : List ℕ) (f : Forms) → type_word_faults known t s (word_kind t) ++ typed_faults v known home true f ≡ []
      → (typed_faults v known home true f ≡ [] → IsRuns v known f) → TypeFirst v known (word s e t f)
  type_word s e t f h later =
      let parts = parts_empty (type_word_faults known t s (word_kind t)) (typed_faults v known home true f) h in
      let more = later parts.1 in
      record { type = placed s e t; later = more.0; type_is = type_named s e t (word_kind t) refl parts.0; later_is = more.1; parts = ap (word s e t) more.2 }

group_faulty : (at : ℕ) (o : Option ℕ) (fs : List Fault) → either_faults at o ++ fs ≡ [] → ⊥
group_faulty at None fs h = absurd cc
group_faulty at (Some s) fs h = absurd cc

mutual
  pub faultless_runs : (v : Bool) (known : List ℕ → Bool) (home : ℕ) (f : Forms) → typed_faults v known home true f ≡ [] → IsRuns v known f
  faultless_runs v known home none h = (record { runs = []; last = [] }, record { runs = tt; last = tt }, refl)
  faultless_runs v known home (word s e t f) h = first_word v known home s e t f (item_of v t) refl h (faultless_rest v known home f)
  faultless_runs v known home (group s e i f) h = absurd cc

  faultless_rest : (v : Bool) (known : List ℕ → Bool) (home : ℕ) (f : Forms) → typed_faults v known home false f ≡ [] → Continues v known f
  faultless_rest v known home none h = inl (record { names = []; names_are = tt; parts = refl })
  faultless_rest v known home (word s e t f) h = later_word v known home s e t f (item_of v t) refl h (faultless_rest v known home f) (faultless_type v known home f)
  faultless_rest v known home (group s e i f) h = absurd cc

  faultless_type : (v : Bool) (known : List ℕ → Bool) (home : ℕ) (f : Forms) → type_faults v known home f ≡ [] → TypeFirst v known f
  faultless_type v known home none h = absurd cc
  faultless_type v known home (word s e t f) h = type_word v known home s e t f h (faultless_runs v known home f)
  faultless_type v known home (group s e i f) h = absurd (group_faulty s (either_at i) (typed_faults v known home true f) h)
