-- The atoms of the literals so far.
use Rattle.std.proofs.Common.{◌≡◌, Bool, true, false, ◌||◌, ◌&&◌, not, List, [], ◌∷◌, ◌++◌, map, take, drop, length, get_or, ℕ, ◌+◌, ◌<◌, if◌then◌else◌, refl, sym, ap, ◌∙◌}
use Rattle.std.proofs.Math.Path.{fun_ext}
use Rattle.std.proofs.lemmas.List.{map-append, take_more}
use Rattle.std.specs.Prelude.{Option}
use Rattle.pddl_syntax.proofs.ParameterSteps.{listed_at}
use Rattle.pddl_syntax.specs.declared.fault.Fault.{Fault}
use Rattle.pddl_syntax.specs.declared.fault.FaultKind.TheVariants.{GoalBothWays}
use Rattle.pddl_syntax.specs.Faults.{first_of, fault, faults_if}
use Rattle.pddl_task.specs.Atoms.{Atom, State, Literal, same_atom, wants, excludes}
use Rattle.pddl_problem.specs.Goals.{Placed, opposite_faults, also_wanted, also_excluded, wanted_in, excluded_in, has_opposite_in, has_opposite}
use Rattle.pddl_problem.specs.declared.goals.KnownGoals.{KnownGoals}

or_none : (a : Bool) → (a || false) ≡ a
or_none true = refl
or_none false = refl

or_assoc : (a b c : Bool) → (a || (b || c)) ≡ ((a || b) || c)
or_assoc true b c = refl
or_assoc false b c = refl

wants_at : (ls : List Literal) (l : Literal) (p : Atom) → wants (ls ++ l ∷ []) p ≡ also_wanted (wants ls) l p
wants_at [] l p = or_none (l.positive && same_atom p l.atom)
wants_at (k ∷ ks) l p =
    ap (λ (b : Bool). (k.positive && same_atom p k.atom) || b) (wants_at ks l p) ∙ or_assoc (k.positive && same_atom p k.atom) (wants ks p) (l.positive && same_atom p l.atom)

pub wants_push : (ls : List Literal) (l : Literal) → wants (ls ++ l ∷ []) ≡ also_wanted (wants ls) l
wants_push ls l = fun_ext (λ p. wants_at ls l p)

excludes_at : (ls : List Literal) (l : Literal) (p : Atom) → excludes (ls ++ l ∷ []) p ≡ also_excluded (excludes ls) l p
excludes_at [] l p = or_none (not l.positive && same_atom p l.atom)
excludes_at (k ∷ ks) l p =
    ap (λ (b : Bool). (not k.positive && same_atom p k.atom) || b) (excludes_at ks l p) ∙ or_assoc (not k.positive && same_atom p k.atom) (excludes ks p) (not l.positive && same_atom p l.atom)

pub excludes_push : (ls : List Literal) (l : Literal) → excludes (ls ++ l ∷ []) ≡ also_excluded (excludes ls) l
excludes_push ls l = fun_ext (λ p. excludes_at ls l p)

-- the literals before a place
abbrev pub known_before : List Placed → ℕ → List Literal
known_before ls n = map (λ l. l.literal) (take n ls)

pub opposite_step : (known : KnownGoals) (before : List Literal) (l : Literal) → wanted_in known ≡ wants before → excluded_in known ≡ excludes before → has_opposite_in known l ≡ has_opposite before l
opposite_step known before l w x = go l.positive
  where
    go : (b : Bool) → (if b then excluded_in known l.atom else wanted_in known l.atom) ≡ (if b then excludes before l.atom else wants before l.atom)
    go true = ap (λ (s : State). s l.atom) x
    go false = ap (λ (s : State). s l.atom) w

known_more : (ls : List Placed) (i : ℕ) (l : Placed) → i < length ls → l ≡ get_or ls i l → known_before ls (i + 1) ≡ known_before ls i ++ l.literal ∷ []
known_more ls i l lt is =
    ap (λ (ks : List Placed). map (λ (k : Placed). k.literal) ks) (take_more ls i l lt ∙ ap (λ (k : Placed). take i ls ++ k ∷ []) (sym is))
    ∙ map-append (λ (k : Placed). k.literal) (take i ls) (l ∷ [])

-- a literal more is known
pub wanted_more : (known new : KnownGoals) (ls : List Placed) (i : ℕ) (l : Placed) → i < length ls → l ≡ get_or ls i l → wanted_in known ≡ wants (known_before ls i)
    → wanted_in new ≡ also_wanted (wanted_in known) l.literal → wanted_in new ≡ wants (known_before ls (i + 1))
wanted_more known new ls i l lt is w e =
    e ∙ ap (λ (s : State). also_wanted s l.literal) w ∙ sym (wants_push (known_before ls i) l.literal) ∙ ap (λ (ks : List Literal). wants ks) (sym (known_more ls i l lt is))

pub excluded_more : (known new : KnownGoals) (ls : List Placed) (i : ℕ) (l : Placed) → i < length ls → l ≡ get_or ls i l → excluded_in known ≡ excludes (known_before ls i)
    → excluded_in new ≡ also_excluded (excluded_in known) l.literal → excluded_in new ≡ excludes (known_before ls (i + 1))
excluded_more known new ls i l lt is w e =
    e ∙ ap (λ (s : State). also_excluded s l.literal) w ∙ sym (excludes_push (known_before ls i) l.literal) ∙ ap (λ (ks : List Literal). excludes ks) (sym (known_more ls i l lt is))

-- and its fault is noted
pub faults_more : (old new : Option Fault) (known : KnownGoals) (ls : List Placed) (i : ℕ) (l : Placed) (b : Bool) → i < length ls → l ≡ get_or ls i l
    → wanted_in known ≡ wants (known_before ls i) → excluded_in known ≡ excludes (known_before ls i) → b ≡ has_opposite_in known l.literal
    → ((fs : List Fault) → first_of old (faults_if b (fault GoalBothWays l.at) fs) ≡ first_of new fs)
    → first_of new (opposite_faults (known_before ls (i + 1)) (drop (i + 1) ls)) ≡ first_of old (opposite_faults (known_before ls i) (drop i ls))
faults_more old new known ls i l b lt is w x e noted =
    let before = known_before ls i in let later = drop (i + 1) ls in
    ap (λ (ks : List Literal). first_of new (opposite_faults ks later)) (known_more ls i l lt is)
    ∙ sym (noted (opposite_faults (before ++ l.literal ∷ []) later))
    ∙ ap (λ (c : Bool). first_of old (faults_if c (fault GoalBothWays l.at) (opposite_faults (before ++ l.literal ∷ []) later))) (e ∙ opposite_step known before l.literal w x)
    ∙ ap (λ (ks : List Placed). first_of old (opposite_faults before ks)) (sym (listed_at ls i l lt is))
