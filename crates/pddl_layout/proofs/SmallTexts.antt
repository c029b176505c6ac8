-- The tokens of small texts, and the sections of a small one.
use Rattle.std.proofs.Common.{◌≡◌, [], ◌∷◌, codes, refl}
use Rattle.sexp.specs.Forms.{none, word, group}
use Rattle.pddl_syntax.specs.declared.fault.PlanningFile.TheVariants.{Domain}
use Rattle.pddl_layout.specs.Sections.{HasSections}
use Rattle.pddl_layout.specs.Tokens.{opening, closing, letters, strange, tokens}

-- in capitals, with a comment and without blanks
with_comment : tokens (codes "(GOAL;all of (them\n(on b1)) ; end") ≡ tokens (codes "( goal (On  B1 ) )")
with_comment = refl

its_tokens : tokens (codes "(goal(on b1))") ≡ opening ∷ letters (codes "goal") ∷ opening ∷ letters (codes "on") ∷ letters (codes "b1") ∷ closing ∷ closing ∷ []
its_tokens = refl

-- a word that a semicolon ends, and a byte that may stand only in comments
behind_word : tokens (codes "a;b\nc\u{1}d") ≡ letters (codes "a") ∷ letters (codes "c") ∷ strange ∷ letters (codes "d") ∷ []
behind_word = refl

-- (define (domain d) (:types) (:predicates))
small_domain : HasSections Domain (group 0 42
    (word 1 7 (codes "define") (group 8 18 (word 9 15 (codes "domain") (word 16 17 (codes "d") none))
    (group 19 27 (word 20 26 (codes ":types") none) (group 28 41 (word 29 40 (codes ":predicates") none) none)))) none)
small_domain = record { name = codes "d"; named = refl; form = refl; each = (refl, (refl, tt)) }
