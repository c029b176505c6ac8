-- Texts with the same tokens spell trees of one shape: reading bytes gives, up to places, what reading their tokens gives.
use Rattle.std.proofs.Common.{◌≡◌, ℕ, ◌+◌, ◌==◌, ◌≤◌, Bool, true, false, List, [], ◌∷◌, ◌++◌, map, length, refl, sym, ap, subst, ◌∙◌, if◌then◌else◌, Result, Ok, Err}
use Rattle.std.specs.Prelude.{Option, Some, None}
use Rattle.std.specs.Char.{to_ascii_lowercase}
use Rattle.std.proofs.lemmas.List.{length-map}
use Rattle.sexp.specs.declared.fault.SexpFault.{SexpFault}
use Rattle.sexp.specs.declared.fault.SexpFault.TheVariants as fault
use Rattle.sexp.specs.declared.byte_kind.ByteKind.{ByteKind}
use Rattle.sexp.specs.declared.byte_kind.ByteKind.TheVariants.{Blank, Semicolon, Open, Close, Letter, Strange}
use Rattle.sexp.specs.Forms.{Forms, none, word, group, ◌then◌, IsOne}
use Rattle.sexp.specs.Bytes.{kind}
use Rattle.sexp.specs.Limits.{max_bytes, max_levels}
use Rattle.sexp.specs.Running.{◌>>=◌, Around, State, gap, comment, letters as in_letters, marked, after_letters, step, run, ended, finished, items}
use Rattle.sexp.proofs.Steps.{bind_assoc, items_is}
use Rattle.sexp.proofs.Sound.{items_sound}
use Rattle.sexp.proofs.Promises.{all_again}
use Rattle.pddl_task.specs.Planning.{PlanningTask}
use Rattle.pddl.specs.Texts.{IsTree, SpellTask}
use Rattle.pddl_layout.specs.Shapes.{erased, SameShape}
use Rattle.pddl_layout.specs.Tokens.{Token, opening, closing, letters, strange, from_byte, from_word, tokens, tokens_in_comment, tokens_in_word}
use Rattle.pddl_layout.proofs.Layouts.{places_free}

erased_then : (f g : Forms) → erased (f then g) ≡ erased f then erased g
erased_then none g = refl
erased_then (word s e t f) g = ap (word 0 0 t) (erased_then f g)
erased_then (group s e i f) g = ap (group 0 0 (erased i)) (erased_then f g)

-- reading tokens, after these expressions of the innermost open list and those before it in the lists around it
abbrev read : List Token → Forms → List Forms → Option Forms
read [] f [] = Some f
read [] f (g ∷ o) = None
read (opening ∷ ts) f o = if length o == max_levels then None else read ts none (f ∷ o)
read (closing ∷ ts) f [] = None
read (closing ∷ ts) f (g ∷ o) = read ts (g then group 0 0 f none) o
read (letters t ∷ ts) f o = read ts (f then word 0 0 t none) o
read (strange ∷ ts) f o = None

-- what was read, up to places
abbrev seen : Result Forms SexpFault → Option Forms
seen (Ok f) = Some (erased f)
seen (Err e) = None

abbrev outers : List Around → List Forms
outers o = map (λ (a : Around). erased a.outer) o

-- what the tokens of the bytes give from this state on
abbrev reads : State → List ℕ → Option Forms
reads (gap f o) bs = read (tokens bs) (erased f) (outers o)
reads (comment f o) bs = read (tokens_in_comment bs) (erased f) (outers o)
reads (in_letters s t f o) bs = read (tokens_in_word t bs) (erased f) (outers o)

-- ---- the end

at_end : (f : Forms) (o : List Around) → seen (ended f o) ≡ read [] (erased f) (outers o)
at_end f [] = refl
at_end f (a ∷ o) = refl

state_end : (stop : ℕ) (s : State) → seen (finished stop s) ≡ reads s []
unfolding finished
state_end stop (gap f o) = at_end f o
state_end stop (comment f o) = at_end f o
state_end stop (in_letters s t f o) =
    at_end (f then word s stop t none) o ∙ ap (λ (g : Forms). read [] g (outers o)) (erased_then f (word s stop t none))

-- ---- one byte

-- what follows gives what its tokens give
abbrev Follows : List ℕ → (State → Result Forms SexpFault) → Type 0
Follows bs next = (s : State) → seen (next s) ≡ reads s bs

opened_reads : (bs : List ℕ) (next : State → Result Forms SexpFault) (at : ℕ) (f : Forms) (o : List Around) → Follows bs next
    → seen (marked false at 40 Open f o >>= next) ≡ read (opening ∷ tokens bs) (erased f) (outers o)
opened_reads bs next at f o h = by (length o == max_levels) (length (outers o) == max_levels) (ap (λ (n : ℕ). n == max_levels) (sym (length-map o (λ (a : Around). erased a.outer)))) where
  by : (full too : Bool) → full ≡ too
      → seen ((if full then Err (fault.TooDeep at) else Ok (gap none (record { start = at; outer = f } ∷ o))) >>= next)
      ≡ (if too then None else read (tokens bs) none (erased f ∷ outers o))
  by true true e = refl
  by true false e = absurd cc
  by false true e = absurd cc
  by false false e = h (gap none (record { start = at; outer = f } ∷ o))

marked_reads : (bs : List ℕ) (next : State → Result Forms SexpFault) (at b : ℕ) (k : ByteKind) (f : Forms) (o : List Around) (more : List Token) → Follows bs next
    → (k ≡ Letter → more ≡ tokens_in_word (to_ascii_lowercase b ∷ []) bs)
    → seen (marked false at b k f o >>= next) ≡ read (from_byte k (tokens bs) (tokens_in_comment bs) more) (erased f) (outers o)
marked_reads bs next at b Blank f o more h begins = h (gap f o)
marked_reads bs next at b Semicolon f o more h begins = h (comment f o)
marked_reads bs next at b Open f o more h begins = opened_reads bs next at f o h
marked_reads bs next at b Close f [] more h begins = refl
marked_reads bs next at b Close f (a ∷ o) more h begins =
    h (gap (a.outer then group a.start (at + 1) f none) o) ∙ ap (λ (g : Forms). read (tokens bs) g (outers o)) (erased_then a.outer (group a.start (at + 1) f none))
marked_reads bs next at b Letter f o more h begins =
    h (in_letters at (to_ascii_lowercase b ∷ []) f o) ∙ ap (λ (ts : List Token). read ts (erased f) (outers o)) (sym (begins refl))
marked_reads bs next at b Strange f o more h begins = refl

-- a byte behind a word
ended_reads : (bs : List ℕ) (next : State → Result Forms SexpFault) (at b : ℕ) (k : ByteKind) (s : ℕ) (t : List ℕ) (f : Forms) (o : List Around) → Follows bs next → (k ≡ Letter → ⊥)
    → seen (marked false at b k (f then word s at t none) o >>= next) ≡ read (letters t ∷ from_byte k (tokens bs) (tokens_in_comment bs) []) (erased f) (outers o)
ended_reads bs next at b k s t f o h apart =
    marked_reads bs next at b k (f then word s at t none) o [] h (λ e. absurd (apart e))
    ∙ ap (λ (g : Forms). read (from_byte k (tokens bs) (tokens_in_comment bs) []) g (outers o)) (erased_then f (word s at t none))

letters_read : (bs : List ℕ) (next : State → Result Forms SexpFault) (at b : ℕ) (k : ByteKind) (s : ℕ) (t : List ℕ) (f : Forms) (o : List Around) → Follows bs next
    → seen (after_letters false at b k s t f o >>= next)
    ≡ read (from_word k t (tokens_in_word (t ++ to_ascii_lowercase b ∷ []) bs) (from_byte k (tokens bs) (tokens_in_comment bs) [])) (erased f) (outers o)
letters_read bs next at b Letter s t f o h = h (in_letters s (t ++ to_ascii_lowercase b ∷ []) f o)
letters_read bs next at b Blank s t f o h = ended_reads bs next at b Blank s t f o h (λ e. absurd cc)
letters_read bs next at b Semicolon s t f o h = ended_reads bs next at b Semicolon s t f o h (λ e. absurd cc)
letters_read bs next at b Open s t f o h = ended_reads bs next at b Open s t f o h (λ e. absurd cc)
letters_read bs next at b Close s t f o h = ended_reads bs next at b Close s t f o h (λ e. absurd cc)
letters_read bs next at b Strange s t f o h = ended_reads bs next at b Strange s t f o h (λ e. absurd cc)

comment_reads : (bs : List ℕ) (next : State → Result Forms SexpFault) (ends : Bool) (f : Forms) (o : List Around) → Follows bs next
    → seen ((if ends then Ok (gap f o) else Ok (comment f o)) >>= next) ≡ read (if ends then tokens bs else tokens_in_comment bs) (erased f) (outers o)
comment_reads bs next true f o h = h (gap f o)
comment_reads bs next false f o h = h (comment f o)

step_reads : (bs : List ℕ) (next : State → Result Forms SexpFault) (at b : ℕ) (s : State) → Follows bs next → seen (step false at b s >>= next) ≡ reads s (b ∷ bs)
unfolding step
step_reads bs next at b (gap f o) h = marked_reads bs next at b (kind b) f o (tokens_in_word (to_ascii_lowercase b ∷ []) bs) h (λ e. refl)
step_reads bs next at b (comment f o) h = comment_reads bs next (b == 10) f o h
step_reads bs next at b (in_letters s t f o) h = letters_read bs next at b (kind b) s t f o h

-- ---- all bytes

run_reads : (bs : List ℕ) (at stop : ℕ) → Follows bs (λ s. (run false bs at s >>= λ n. finished stop n))
unfolding run
run_reads [] at stop s = state_end stop s
run_reads (b ∷ bs) at stop s =
    ap seen (bind_assoc (step false at b s) (λ n. run false bs (at + 1) n) (λ n. finished stop n))
    ∙ step_reads bs (λ n. (run false bs (at + 1) n >>= λ m. finished stop m)) at b s (run_reads bs (at + 1) stop)

items_read : (bytes : List ℕ) → length bytes ≤ max_bytes → seen (items false bytes) ≡ read (tokens bytes) none []
items_read bytes le = ap seen (items_is false bytes le) ∙ run_reads bytes 0 (length bytes) (gap none [])

-- ---- trees

none_erased : (f : Forms) → erased f ≡ none → f ≡ none
none_erased none e = refl
none_erased (word s t x f) e = absurd cc
none_erased (group s t i f) e = absurd cc

one_erased : (f : Forms) → IsOne f → IsOne (erased f)
one_erased none one = absurd one
one_erased (word s e t f) one = ap erased one
one_erased (group s e i f) one = ap erased one

one_as_erased : (f : Forms) → IsOne (erased f) → IsOne f
one_as_erased none one = absurd one
one_as_erased (word s e t f) one = none_erased f one
one_as_erased (group s e i f) one = none_erased f one

-- a text whose reading gives expressions of this shape spells a tree of it
tree_by : (bytes : List ℕ) (f : Forms) (r : Result Forms SexpFault) → items false bytes ≡ r → seen r ≡ Some (erased f) → IsOne f → (g : Forms) × IsTree bytes g × SameShape f g
tree_by bytes f (Err e) is h one = absurd cc
tree_by bytes f (Ok g) is h one =
    let same : erased f ≡ erased g = cc in
    (g, (one_as_erased g (subst IsOne same (one_erased f one)), items_sound false bytes g is), same)

pub tokens_shape : (text other : List ℕ) (f : Forms) → IsTree text f → tokens text ≡ tokens other → length other ≤ max_bytes → (g : Forms) × IsTree other g × SameShape f g
tokens_shape text other f tree e le =
    tree_by other f (items false other) refl
    (items_read other le ∙ ap (λ (ts : List Token). read ts none []) (sym e) ∙ sym (items_read text tree.1.0) ∙ ap seen (all_again text f tree.1)) tree.0

pub tokens_task : (domain problem other_domain other_problem : List ℕ) (t : PlanningTask) → tokens domain ≡ tokens other_domain → tokens problem ≡ tokens other_problem
    → length other_domain ≤ max_bytes → length other_problem ≤ max_bytes → SpellTask domain problem t → SpellTask other_domain other_problem t
tokens_task domain problem other_domain other_problem t e g le me s =
    let c = tokens_shape domain other_domain s.d s.domain_tree e le in
    let q = tokens_shape problem other_problem s.p s.problem_tree g me in
    places_free domain problem other_domain other_problem s.d s.p c.0 q.0 t s.domain_tree s.problem_tree c.1 q.1 c.2 q.2 s
