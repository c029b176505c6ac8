-- Initial states of one shape, and their faults.
use Rattle.std.proofs.Common.{◌≡◌, ℕ, ◌+◌, ◌==◌, ◌&&◌, Bool, true, false, List, ◌++◌, codes, refl, sym, ap, ap₂, ◌∙◌, if◌then◌else◌}
use Rattle.std.specs.Prelude.{Option, None, option_to_list}
use Rattle.sexp.specs.Forms.{Forms, none, word, group, behind}
use Rattle.pddl_names.specs.Names.{same_text}
use Rattle.pddl_task.specs.Atoms.{Atom}
use Rattle.pddl_task.specs.Lifted.{Lifted}
use Rattle.pddl_task.specs.Planning.{FunctionValue}
use Rattle.pddl_syntax.specs.declared.word.WordKind.{WordKind}
use Rattle.pddl_syntax.specs.declared.word.WordKind.TheVariants.{Name}
use Rattle.pddl_syntax.specs.declared.number.Number.{Number}
use Rattle.pddl_syntax.specs.declared.number.Number.TheVariants.{Whole}
use Rattle.pddl_syntax.specs.declared.fault.Fault.{Fault}
use Rattle.pddl_syntax.specs.declared.fault.FaultKind.TheVariants.{Unsupported, Arity, TwiceDeclared, Limit}
use Rattle.pddl_syntax.specs.declared.fault.LimitedTable.TheVariants.{Init}
use Rattle.pddl_syntax.specs.Faults.{fault}
use Rattle.pddl_syntax.specs.Words.{word_kind}
use Rattle.pddl_syntax.specs.Numbers.{number_of}
use Rattle.pddl_terms.specs.declared.beginning.Beginning.{Beginning}
use Rattle.pddl_terms.specs.declared.beginning.Beginning.TheVariants.{Negation, Unread, NoName}
use Rattle.pddl_terms.specs.declared.beginning.Setting.TheVariants.{InInitial}
use Rattle.pddl_terms.specs.Beginnings.{beginning}
use Rattle.pddl_terms.specs.Terms.{Scope, is_total_cost, not_empty}
use Rattle.pddl_problem.specs.declared.initial.ItemKind.{ItemKind}
use Rattle.pddl_problem.specs.declared.initial.ItemKind.TheVariants.{TrueAtom, Value, Negated, NotRead, Nothing}
use Rattle.pddl_problem.specs.Initial.{atom_of, ends_in_list, first_number, number_alone, value_by, function_by_kind, first_function, stated, item_kind_by, item_kind, item_atom, item_value, atom_inside, value_inside, initial_atoms, with_value, stated_values, number_word_faults, number_faults, is_positive, function_faults, function_inside_faults, first_function_faults, value_faults, item_faults, inside_faults, is_restated, past_limit, initial_faults}
use Rattle.pddl_problem.specs.Limits.{max_items}
use Rattle.pddl_layout.specs.Shapes.{erased}
use Rattle.pddl_layout.proofs.Alike.{Alike, faulty, clear, both, chosen, tested, tested_both}
use Rattle.pddl_layout.proofs.SectionShapes.{behind_erased, more_alike}
use Rattle.pddl_layout.proofs.EffectShapes.{negated_alike}
use Rattle.pddl_layout.proofs.TermShapes.{lifted_erased, not_empty_erased, lifted_alike}

-- ---- the meaning

ends_erased : (b : Bool) (f : Forms) → ends_in_list b (erased f) ≡ ends_in_list b f
ends_erased b none = refl
ends_erased b (word s e t f) = ends_erased false f
ends_erased b (group s e i f) = ends_erased true f

number_alone_erased : (f : Forms) → number_alone (erased f) ≡ number_alone f
number_alone_erased none = refl
number_alone_erased (word s e t f) = ap (λ (b : Bool). if b then None else first_number (word s e t f)) (not_empty_erased f)
number_alone_erased (group s e i f) = refl

function_erased : (scope : Scope) (t : List ℕ) (i : Forms) (k : WordKind) → function_by_kind scope t (erased i) k ≡ function_by_kind scope t i k
function_erased scope t i Name = ap (λ (a : Option Lifted). if is_total_cost t then None else atom_of a) (lifted_erased scope.functions scope t i)
function_erased scope t i kind = refl

first_function_erased : (scope : Scope) (f : Forms) → first_function scope (erased f) ≡ first_function scope f
first_function_erased scope none = refl
first_function_erased scope (word s e t f) = refl
first_function_erased scope (group s e none f) = refl
first_function_erased scope (group s e (word hs he t i) f) = function_erased scope t i (word_kind t)
first_function_erased scope (group s e (group hs he h i) f) = refl

stated_erased : (scope : Scope) (f : Forms) → stated scope (erased f) ≡ stated scope f
stated_erased scope f = ap₂ value_by (first_function_erased scope f) (ap number_alone (behind_erased f) ∙ number_alone_erased (behind f))

by_head_erased : (t : List ℕ) (i : Forms) → (if same_text t (codes "at") && ends_in_list false (erased i) then NotRead else TrueAtom) ≡ (if same_text t (codes "at") && ends_in_list false i then NotRead else TrueAtom)
by_head_erased t i = ap (λ (b : Bool). if same_text t (codes "at") && b then NotRead else TrueAtom) (ends_erased false i)

kind_by_erased : (t : List ℕ) (i : Forms) (b : Beginning) → item_kind_by t (erased i) b ≡ item_kind_by t i b
kind_by_erased t i Negation = refl
kind_by_erased t i Unread = refl
kind_by_erased t i NoName = refl
kind_by_erased t i other = ap (λ (k : ItemKind). if same_text t (codes "=") then Value else k) (by_head_erased t i)

kind_erased : (t : List ℕ) (i : Forms) → item_kind t (erased i) ≡ item_kind t i
kind_erased t i = kind_by_erased t i (beginning InInitial t)

item_atom_erased : (scope : Scope) (t : List ℕ) (i : Forms) (k : ItemKind) → item_atom scope t (erased i) k ≡ item_atom scope t i k
item_atom_erased scope t i TrueAtom = ap atom_of (lifted_erased scope.predicates scope t i)
item_atom_erased scope t i other = refl

item_value_erased : (scope : Scope) (i : Forms) (k : ItemKind) → item_value scope (erased i) k ≡ item_value scope i k
item_value_erased scope i Value = stated_erased scope i
item_value_erased scope i other = refl

atom_inside_erased : (scope : Scope) (f : Forms) → atom_inside scope (erased f) ≡ atom_inside scope f
atom_inside_erased scope none = refl
atom_inside_erased scope (word s e t f) = ap (item_atom scope t (erased f)) (kind_erased t f) ∙ item_atom_erased scope t f (item_kind t f)
atom_inside_erased scope (group s e i f) = refl

value_inside_erased : (scope : Scope) (f : Forms) → value_inside scope (erased f) ≡ value_inside scope f
value_inside_erased scope none = refl
value_inside_erased scope (word s e t f) = ap (item_value scope (erased f)) (kind_erased t f) ∙ item_value_erased scope f (item_kind t f)
value_inside_erased scope (group s e i f) = refl

pub initial_atoms_erased : (scope : Scope) (f : Forms) → initial_atoms scope (erased f) ≡ initial_atoms scope f
initial_atoms_erased scope none = refl
initial_atoms_erased scope (word s e t f) = initial_atoms_erased scope f
initial_atoms_erased scope (group s e i f) = ap₂ (λ (a : Option Atom) (ps : List Atom). option_to_list a ++ ps) (atom_inside_erased scope i) (initial_atoms_erased scope f)

pub stated_values_erased : (scope : Scope) (values : List FunctionValue) (f : Forms) → stated_values scope values (erased f) ≡ stated_values scope values f
stated_values_erased scope values none = refl
stated_values_erased scope values (word s e t f) = stated_values_erased scope values f
stated_values_erased scope values (group s e i f) =
    ap (λ (v : Option FunctionValue). stated_values scope (with_value values v) (erased f)) (value_inside_erased scope i) ∙ stated_values_erased scope (with_value values (value_inside scope i)) f

-- ---- the faults

number_word_alike : (s z : ℕ) (n : Number) → Alike (number_word_faults s n) (number_word_faults z n)
number_word_alike s z (Whole n) = clear
number_word_alike s z other = faulty

number_alike : (h k : ℕ) (f : Forms) → Alike (number_faults h f) (number_faults k (erased f))
number_alike h k none = faulty
number_alike h k (word s e t f) = both (number_word_alike s 0 (number_of t)) (more_alike f)
number_alike h k (group s e i f) = faulty

positive_erased : (f : Forms) → is_positive (erased f) ≡ is_positive f
positive_erased none = refl
positive_erased (word s e t f) = refl
positive_erased (group s e i f) = refl

function_alike : (scope : Scope) (h s k z : ℕ) (t : List ℕ) (i f : Forms) (kind : WordKind) → Alike (function_faults scope h s t i f kind) (function_faults scope k z t (erased i) (erased f) kind)
function_alike scope h s k z t i f Name =
    chosen (is_total_cost t)
    (tested_both (not_empty i) (not_empty (erased i)) (fault Arity h) (fault Arity k) (sym (not_empty_erased i))
    (tested_both (is_positive f) (is_positive (erased f)) (fault Unsupported s) (fault Unsupported z) (sym (positive_erased f)) clear))
    (lifted_alike scope.functions scope h s k z t i)
function_alike scope h s k z t i f kind = faulty

function_inside_alike : (scope : Scope) (h k : ℕ) (f i : Forms) → Alike (function_inside_faults scope h f i) (function_inside_faults scope k (erased f) (erased i))
function_inside_alike scope h k f none = faulty
function_inside_alike scope h k f (word hs he t i) = function_alike scope h hs k 0 t i f (word_kind t)
function_inside_alike scope h k f (group hs he g i) = faulty

first_function_alike : (scope : Scope) (f : Forms) → Alike (first_function_faults scope f) (first_function_faults scope (erased f))
first_function_alike scope none = clear
first_function_alike scope (word s e t f) = function_alike scope s s 0 0 t none f (word_kind t)
first_function_alike scope (group s e i f) = function_inside_alike scope s 0 f i

value_alike : (scope : Scope) (h k : ℕ) (f : Forms) → Alike (value_faults scope h f) (value_faults scope k (erased f))
value_alike scope h k none = faulty
value_alike scope h k (word s e t f) = both (first_function_alike scope (word s e t f)) (number_alike h k f)
value_alike scope h k (group s e i f) = both (first_function_alike scope (group s e i f)) (number_alike h k f)

item_alike : (scope : Scope) (h s k z : ℕ) (t : List ℕ) (i : Forms) (kind : ItemKind) → Alike (item_faults scope h s t i kind) (item_faults scope k z t (erased i) kind)
item_alike scope h s k z t i Negated = negated_alike InInitial scope h s k z i
item_alike scope h s k z t i NotRead = faulty
item_alike scope h s k z t i Nothing = faulty
item_alike scope h s k z t i Value = value_alike scope h k i
item_alike scope h s k z t i TrueAtom = lifted_alike scope.predicates scope h s k z t i

inside_alike : (scope : Scope) (h k : ℕ) (f : Forms) → Alike (inside_faults scope h f) (inside_faults scope k (erased f))
inside_alike scope h k none = faulty
inside_alike scope h k (word s e t f) = rw (kind_erased t f) (item_alike scope h s k 0 t f (item_kind t f))
inside_alike scope h k (group s e i f) = faulty

past_alike : (n s z : ℕ) {a b : List Fault} → Alike a b → Alike (past_limit n s a) (past_limit n z b)
past_alike n s z h = tested (n == max_items) (fault (Limit Init) s) (fault (Limit Init) z) h

pub initial_alike : (scope : Scope) (n : ℕ) (values : List FunctionValue) (f : Forms) → Alike (initial_faults scope n values f) (initial_faults scope n values (erased f))
initial_alike scope n values none = clear
initial_alike scope n values (word s e t f) = faulty
initial_alike scope n values (group s e i f) =
    rw (value_inside_erased scope i)
    (both (inside_alike scope s 0 i)
    (tested (is_restated values (value_inside scope i)) (fault TwiceDeclared s) (fault TwiceDeclared 0)
    (past_alike n s 0 (initial_alike scope (n + 1) (with_value values (value_inside scope i)) f))))
