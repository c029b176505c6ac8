use Rattle.std.proofs.Common.{◌≡◌, ◌∷◌, ◌+◌, ◌%◌, ◌/◌, drop, get_or, ◌∙◌, arith}
use Rattle.abstraction.specs.declared.digit.Digit.{Digit}
use Rattle.pdb_regression.proofs.WordLaws.{first_of, values_more, read_fits, scale_fits, read_more, scale_more}
use Rattle.pdb_regression.proofs.word.read.Goals as goal

pub overflow_mul-word : goal.overflow_mul-word
overflow_mul-word c =
    let whole = c.args.digits.now in
    let k = c.loop-digit.digit-index in
    let none : Digit = record { weight = 0; range = 0 } in
    let d : Digit = get_or whole k none in
    let e : drop k whole ≡ d ∷ drop (k + 1) whole = first_of whole k none c.loop-digit-test.true in
    let inv = c.loop-digit.invariant in
    let above = c.loop-digit.above in
    let value : c.from.result ≡ above % d.range = c.from.ensures ∙ c.split-value.ensures.0 in
    let fits = (read_fits whole (drop k whole) (drop (k + 1) whole) d c.args.abstract_state c.loop-digit.word c.loop-digit.scale above c.requires.digits c.requires.rooms e inv.word inv.scale).0 in
    rw value (omega (arith, fits))

pub overflow_add-word : goal.overflow_add-word
overflow_add-word c =
    let whole = c.args.digits.now in
    let k = c.loop-digit.digit-index in
    let none : Digit = record { weight = 0; range = 0 } in
    let d : Digit = get_or whole k none in
    let e : drop k whole ≡ d ∷ drop (k + 1) whole = first_of whole k none c.loop-digit-test.true in
    let inv = c.loop-digit.invariant in
    let above = c.loop-digit.above in
    let value : c.from.result ≡ above % d.range = c.from.ensures ∙ c.split-value.ensures.0 in
    let fits = (read_fits whole (drop k whole) (drop (k + 1) whole) d c.args.abstract_state c.loop-digit.word c.loop-digit.scale above c.requires.digits c.requires.rooms e inv.word inv.scale).1 in
    rw value (omega (arith, fits))

pub overflow_mul-scale : goal.overflow_mul-scale
overflow_mul-scale c =
    let whole = c.args.digits.now in
    let k = c.loop-digit.digit-index in
    let none : Digit = record { weight = 0; range = 0 } in
    let d : Digit = get_or whole k none in
    let e : drop k whole ≡ d ∷ drop (k + 1) whole = first_of whole k none c.loop-digit-test.true in
    let inv = c.loop-digit.invariant in
    let above = c.loop-digit.above in
    let fits = scale_fits whole (drop k whole) (drop (k + 1) whole) d c.args.abstract_state c.loop-digit.word c.loop-digit.scale above c.requires.digits c.requires.rooms e inv.word inv.scale in
    rw c.room_of-scale.ensures (omega (arith, fits))

pub loop-digit-preserved : goal.loop-digit-preserved
loop-digit-preserved c =
    let whole = c.args.digits.now in
    let k = c.loop-digit.digit-index in
    let none : Digit = record { weight = 0; range = 0 } in
    let d : Digit = get_or whole k none in
    let e : drop k whole ≡ d ∷ drop (k + 1) whole = first_of whole k none c.loop-digit-test.true in
    let inv = c.loop-digit.invariant in
    let above = c.loop-digit.above in
    let value : c.from.result ≡ above % d.range = c.from.ensures ∙ c.split-value.ensures.0 in
    let split : c.split-value.result.0 ≡ above % d.range = c.split-value.ensures.0 in
    let up : c.split-value.result.1 ≡ above / d.range = c.split-value.ensures.1 in
    let pushed = c.in_ok-push.ensures.items in
    record {
      values = rw up (values_more (drop k whole) (drop (k + 1) whole) d above c.loop-digit.values.items c.push.new.self.items _ e inv.values (rw (← split) pushed));
      word = rw (value, up, c.room_of-scale.ensures) (read_more whole (drop k whole) (drop (k + 1) whole) d c.args.abstract_state c.loop-digit.word c.loop-digit.scale above c.requires.digits c.requires.rooms e inv.word inv.scale);
      scale = rw c.room_of-scale.ensures (scale_more whole (drop k whole) (drop (k + 1) whole) d c.args.abstract_state c.loop-digit.word c.loop-digit.scale above c.requires.digits c.requires.rooms e inv.word inv.scale);
    }
