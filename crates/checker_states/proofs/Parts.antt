-- An index from parts that threads made side by side.
use Rattle.std.proofs.Common.{◌≡◌, ℕ, ◌<◌, ◌^◌, List, length, get_or, map, Ok, Result, sym, ap, ◌∙◌, subst, arith}
use Rattle.std.specs.Prelude.{IfOk, Vec}
use Rattle.std.specs.Global.{Global}
use Rattle.std.specs.declared.alloc.AllocError.{AllocError}
use Rattle.std.proofs.lemmas.List.{length-map, get_or-map}
use Rattle.std.proofs.lemmas.Option.{slice_get_within, get_or_from_slice_get}
use Rattle.cert_value.specs.Certificates.{Entry}
use Rattle.slots.specs.declared.probing.Slot.{Slot}
use Rattle.checker_states.specs.declared.note.Note.{Note}
use Rattle.checker_states.specs.Indexes.{IsPart, IndexesTo}

-- what a thread made of a part
abbrev Made : Type 0
Made = Result (Vec (Slot Note) Global) AllocError

-- parts of which each is what it is to be, where memory ran out in none, lead to all places
pub all_parts : (multipliers : List ℕ) (closed : List Entry) (parts : ℕ) (made : List Made) (slots : List (Vec (Slot Note) Global)) → 0 < parts → parts < 2 ^ 32 → length made ≡ parts
    → ((i : ℕ) (d : Made) → i < parts → IfOk (get_or made i d) (λ s. IsPart parts i multipliers closed s.items)) → map Ok slots ≡ made → IndexesTo multipliers closed slots
all_parts multipliers closed parts made slots some few long each all =
    record {
      some = omega (arith, count, some);
      few = omega (arith, count, few);
      each = λ part s read.
          let inside : part < length slots = slice_get_within slots part s read in
          let here : get_or made part (Ok s) ≡ Ok s =
          ap (λ (ms : List Made). get_or ms part (Ok s)) (sym all) ∙ get_or-map Ok slots part s (Ok s) inside ∙ ap Ok (get_or_from_slice_get slots part s s read) in
          subst (λ (n : ℕ). IsPart n part multipliers closed s.items) (sym count) (subst (λ (m : Made). IfOk m (λ v. IsPart parts part multipliers closed v.items)) here (each part (Ok s) (omega (arith, inside, count))));
    }
  where
    count : length slots ≡ parts
    count = sym (length-map slots (λ s. Ok s)) ∙ ap length all ∙ long
