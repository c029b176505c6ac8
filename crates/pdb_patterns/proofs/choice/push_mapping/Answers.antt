use Rattle.std.proofs.Common.{◌≡◌, ◌≢◌, ◌<◌, ◌∷◌, ◌++◌, ◌||◌, [], Bool, true, List, map, length, arith}
use Rattle.std.proofs.Math.Bool.{or-true, true-or, or-false}
use Rattle.std.specs.List.{list_any}
use Rattle.std.proofs.lemmas.List.{map-append, length-map}
use Rattle.std.proofs.lemmas.List.Elements.{All-map}
use Rattle.std.proofs.lemmas.List.Folds.{list_any-append}
use Rattle.abstraction_mapping.specs.Mappings.{Mapping}
use Rattle.abstraction_mapping.specs.Views.{mapping_of}
use Rattle.abstraction_mapping.specs.declared.mapping.Mapping.{Mapping as KeptMapping}
use Rattle.pdb_patterns.proofs.Choices.{mappings_longer}
use Rattle.pdb_patterns.proofs.choice.push_mapping.Goals as goal

pub returns-in_ok-push-clause-mappings : goal.returns-in_ok-push-clause-mappings
returns-in_ok-push-clause-mappings c task limit are is few =
    let mappings = c.args.mappings.now.items in
    let short : length (map mapping_of mappings) < 64 = omega (arith, few, length-map mappings mapping_of) in
    let none = rw c.deref.ensures.value at (c.has_mapping.ensures.none c.if-not-has_mapping.true) in
    rw (c.in_ok-push.ensures.items, map-append mapping_of mappings (c.args.mapping ∷ []))
    (mappings_longer task limit (map mapping_of mappings) (mapping_of c.args.mapping) are is short (All-map (λ m. m ≢ mapping_of c.args.mapping) mapping_of mappings none))

-- what the mappings or one more pass, they pass with that one behind them
longer : (p : Mapping → Bool) (ms : List KeptMapping) (m : KeptMapping) → (list_any p (map mapping_of ms) || p (mapping_of m)) ≡ true → list_any p (map mapping_of (ms ++ m ∷ [])) ≡ true
longer p ms m passes =
    rw (map-append mapping_of ms (m ∷ []), list_any-append p (map mapping_of ms) (mapping_of m ∷ []), or-false (p (mapping_of m))) passes

pub returns-in_ok-push-clause-others : goal.returns-in_ok-push-clause-others
returns-in_ok-push-clause-others c p any =
    let mappings = c.args.mappings.now.items in
    rw c.in_ok-push.ensures.items (longer p mappings c.args.mapping (rw any (true-or (p (mapping_of c.args.mapping)))))

pub returns-in_ok-push-clause-listed : goal.returns-in_ok-push-clause-listed
returns-in_ok-push-clause-listed c p passes =
    let mappings = c.args.mappings.now.items in
    rw c.in_ok-push.ensures.items (longer p mappings c.args.mapping (rw passes (or-true (list_any p (map mapping_of mappings)))))
