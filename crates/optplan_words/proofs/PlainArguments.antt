-- Arguments that do not start with a hyphen: by the definitions of `clap` a command without subcommands takes each for
-- its next operand, whatever else it is.
use Rattle.std.proofs.Common.{◌≡◌, ◌∙◌, ℕ, Bool, true, false, List, [], ◌∷◌, Some, None, refl, ap, ap₂, cond, true≢false, sym}
use Rattle.std.specs.Prelude.{Option, fold, is_some, option_and_then, ◌==◌}
use Rattle.std.specs.Str.{bytes_eq}
use Rattle.clap.specs.Lexer.{long_of, long_of_rest, short_of, short_of_rest, strip_byte}
use Rattle.clap.specs.Walk.{Held, Rule, Step, Text, Waiting, Walk, idle, option, positional, value}
use Rattle.clap.specs.Walk.{after_step, arg_by_index, finished, is_multiple, nothing_held, settled}
use Rattle.clap.specs.Walk.{rows_after, to_positional, walk_from, walked, walked_from, word_met}
use Rattle.clap.specs.Kinds.{Kinds, or_else}
use Rattle.clap.specs.Simple.{Shape}
use Rattle.clap.specs.Faults.{check_fault, defaults_fault, level_fault, settle_fault, step_fault, turn_fault, walk_fault, word_fault}

-- the word does not start with a hyphen (45)
abbrev pub IsPlain : Text → Type 0
IsPlain word = strip_byte 45 word ≡ None

abbrev pub ArePlain : List Text → Type 0
ArePlain [] = Unit {0}
ArePlain (word ∷ words) = IsPlain word × ArePlain words

-- ---- one word

no_long : (word : Text) → IsPlain word → long_of word ≡ None
no_long word plain = ap (λ (o : Option Text). option_and_then long_of_rest (option_and_then (strip_byte 45) o)) plain

no_short : (word : Text) → IsPlain word → short_of word ≡ None
no_short word plain = ap (option_and_then short_of_rest) plain

some≢none : (x : Text) → Some x ≡ None → ⊥
some≢none x e = true≢false (ap Rattle.std.specs.Option.is_some e)

no_dashes : (word : Text) → IsPlain word → bytes_eq word (45 ∷ 45 ∷ []) ≡ false
no_dashes [] plain = refl
no_dashes (b ∷ bs) plain = go (b == 45) refl
  where
    go : (t : Bool) → (b == 45) ≡ t → bytes_eq (b ∷ bs) (45 ∷ 45 ∷ []) ≡ false
    go true is = let some : strip_byte 45 (b ∷ bs) ≡ Some bs = rw is refl in absurd (some≢none bs (sym some ∙ plain))
    go false is = rw is refl

abbrev waits_for_option : Waiting → Bool
waits_for_option idle = false
waits_for_option (option id) = true
waits_for_option positional = false

-- no option waits for a value, and no subcommand was met
record IsBetween (w : Walk) : Type 0 where
  pub waiting : waits_for_option w.waiting ≡ false
  pub stopped : w.stopped ≡ None

-- the walk after a word that goes to the next positional
abbrev pub placed : List Rule → Walk → Text → Walk
placed c w word = to_positional c (arg_by_index c w.position) word w w.held

plain_word_met : (c : List Rule) (is_trailing : Bool) (waiting : Waiting) (position : ℕ) (word : Text) (h : Held) → IsPlain word → waits_for_option waiting ≡ false
    → word_met c [] is_trailing waiting position word h ≡ (h, value)
plain_word_met c true waiting position word h plain none = refl
plain_word_met c false idle position word h plain none = rw (no_dashes word plain, no_long word plain, no_short word plain) refl
plain_word_met c false (option id) position word h plain none = absurd (true≢false none)
plain_word_met c false positional position word h plain none = rw (no_dashes word plain, no_long word plain, no_short word plain) refl

plain_walked : (c : List Rule) (w : Walk) (word : Text) → IsPlain word → IsBetween w → walked c [] w word ≡ placed c w word
unfolding walked
plain_walked c w word plain between =
    ap (λ o. walked_from c [] o w word) between.stopped
    ∙ ap (λ (p : Held × Step). after_step c word w p.0 p.1) (plain_word_met c w.is_trailing w.waiting w.position word w.held plain between.waiting)

still_between : (c : List Rule) (o : Option Rule) (word : Text) (w : Walk) (h : Held) → IsBetween w → IsBetween (to_positional c o word w h)
still_between c None word w h between = record { waiting = between.waiting; stopped = between.stopped }
still_between c (Some a) word w h between = record { waiting = go (is_multiple a); stopped = refl }
  where
    go : (b : Bool) → waits_for_option (cond b positional idle) ≡ false
    go true = refl
    go false = refl

plain_word_fault : (s : Shape) (is_trailing : Bool) (waiting : Waiting) (word : Text) (h : Held) → IsPlain word → waits_for_option waiting ≡ false
    → word_fault s [] is_trailing waiting word h ≡ []
plain_word_fault s true waiting word h plain none = refl
plain_word_fault s false idle word h plain none = rw (no_dashes word plain, no_long word plain, no_short word plain) refl
plain_word_fault s false (option id) word h plain none = absurd (true≢false none)
plain_word_fault s false positional word h plain none = rw (no_dashes word plain, no_long word plain, no_short word plain) refl

plain_turn : (s : Shape) (w : Walk) (word : Text) → IsPlain word → IsBetween w → turn_fault s [] w word ≡ step_fault s w.position w.held value
plain_turn s w word plain between =
    let met = word_met s.rules [] w.is_trailing w.waiting w.position word w.held in
    ap (λ (o : Option (Text × List Text)). cond (is_some o) [] (or_else (word_fault s [] w.is_trailing w.waiting word w.held) (step_fault s w.position met.0 met.1))) between.stopped
    ∙ ap₂ or_else (plain_word_fault s w.is_trailing w.waiting word w.held plain between.waiting)
    (ap (λ (p : Held × Step). step_fault s w.position p.0 p.1) (plain_word_met s.rules w.is_trailing w.waiting w.position word w.held plain between.waiting))

-- ---- all words

plain_walk : (c : List Rule) (w : Walk) (words : List Text) → ArePlain words → IsBetween w → fold (walked c []) w words ≡ fold (placed c) w words
plain_walk c w [] plain between = refl
plain_walk c w (word ∷ rest) plain between =
    ap (λ (v : Walk). fold (walked c []) v rest) (plain_walked c w word plain.0 between)
    ∙ plain_walk c (placed c w word) rest plain.1 (still_between c (arg_by_index c w.position) word w w.held between)

-- the faults of a walk on which each word goes to the next positional
abbrev pub placed_fault : Shape → Walk → List Text → Kinds
placed_fault s w [] = []
placed_fault s w (word ∷ rest) = or_else (step_fault s w.position w.held value) (placed_fault s (placed s.rules w word) rest)

plain_walk_fault : (s : Shape) (w : Walk) (words : List Text) → ArePlain words → IsBetween w → walk_fault s [] w words ≡ placed_fault s w words
unfolding walk_fault
plain_walk_fault s w [] plain between = refl
plain_walk_fault s w (word ∷ rest) plain between =
    ap₂ or_else (plain_turn s w word plain.0 between)
    (ap (λ (v : Walk). walk_fault s [] v rest) (plain_walked s.rules w word plain.0 between)
    ∙ plain_walk_fault s (placed s.rules w word) rest plain.1 (still_between s.rules (arg_by_index s.rules w.position) word w w.held between))

at_start : IsBetween (walk_from nothing_held)
at_start = record { waiting = refl; stopped = refl }

-- the walk from the start on which each word goes to the next positional
abbrev pub placing : List Rule → List Text → Walk
placing c words = fold (placed c) (walk_from nothing_held) words

-- the matches of a command without subcommands are those of the words at its positionals, in this order
pub plain_rows : (c : List Rule) (words : List Text) → ArePlain words → rows_after c [] words ≡ finished c (placing c words).held
plain_rows c words plain = ap (λ (w : Walk). finished c w.held) (plain_walk c (walk_from nothing_held) words plain at_start)

-- the faults of a command without subcommands, from those of its walk and where that ends
abbrev pub fault_by : Shape → Kinds → Walk → Kinds
fault_by s walking w = or_else walking
    (or_else (settle_fault s.rules s.args_override_self w.held)
    (or_else (defaults_fault (settled s.rules w.held).rows s.rules) (check_fault s (finished s.rules w.held) false)))

-- the faults of a command without subcommands whose words go to its positionals in this order
abbrev pub placing_fault : Shape → List Text → Kinds
placing_fault s words = fault_by s (placed_fault s (walk_from nothing_held) words) (placing s.rules words)

pub plain_fault : (s : Shape) (words : List Text) → ArePlain words → level_fault s [] nothing_held words false [] ≡ placing_fault s words
plain_fault s words plain =
    ap₂ (fault_by s) (plain_walk_fault s (walk_from nothing_held) words plain at_start) (plain_walk s.rules (walk_from nothing_held) words plain at_start)
