-- The bytes of pairs of digits.
use Rattle.std.proofs.Common.{◌*◌, refl, sym, ◌∙◌, ℕ, eqb-true, length-drop, arith}
use Rattle.std.proofs.lemmas.Bool.{eqb-false}
use Rattle.std.proofs.lemmas.List.{take_rest}
use Rattle.chip_request.proofs.PairLoop.{no_text, pair_ahead, pair_fails, short_fails, goes_on, goes_beyond, ends_here, no_room, no_pair}
use Rattle.chip_request.proofs.Spelling.{spelled-front}
use Rattle.chip_request.proofs.line_parts.read_pairs.Goals as goal

pub returns-then-is_empty-clause-bytes : goal.returns-then-is_empty-clause-bytes
returns-then-is_empty-clause-bytes c = no_text c.args.limit c.args.text.now (omega arith) (eqb-true _ _ (sym c.is_empty.ensures ∙ c.if-is_empty.true))

pub wrong_digit-requires : goal.wrong_digit-requires
wrong_digit-requires c =
    rw (take_rest c.args.text.now (2 * c.loop-place.place))
    (pair_fails c.args.text.now c.loop-place.place c.pair_value-byte.result _ _ (omega arith) (omega arith) c.pair_value-byte.ensures)

pub loop-place-init : goal.loop-place-init
loop-place-init c =
    let sure : ℕ = c.spell_sure-sure.result in
    let some = eqb-false _ _ (sym c.is_empty.ensures ∙ c.if-is_empty.false) in
    let front = spelled-front c.args.limit sure sure c.spell_sure-sure.new.bytes c.args.text.now (omega arith)
    (omega (arith, c.spell_sure-sure.ensures.within)) (omega (arith, c.spell_sure-sure.ensures.within))
    (omega (arith, c.spell_sure-sure.ensures.within)) (omega (arith, some)) c.spell_sure-sure.ensures.spelled in
    record { more = front.more; end = front.end }

pub returns-then-byte-gt255-clause-bytes : goal.returns-then-byte-gt255-clause-bytes
returns-then-byte-gt255-clause-bytes c =
    no_pair c.args.limit c.loop-place.place c.loop-place.place c.loop-place.bytes c.args.text.now _ refl (omega arith)
    (rw (take_rest c.args.text.now (2 * c.loop-place.place)) at c.wrong_digit.ensures) (c.loop-place.invariant.more (omega arith))

pub loop-place-preserved : goal.loop-place-preserved
loop-place-preserved c =
    let pair = pair_ahead c.args.text.now c.loop-place.place c.pair_value-byte.result _ _ (omega arith) (omega arith) c.pair_value-byte.ensures in
    let found = c.loop-place.invariant.more (omega arith) in
    record {
      more = goes_on c.args.limit c.loop-place.place c.pair_value-byte.result c.loop-place.bytes c.args.text.now (omega arith) (omega arith) pair found;
      end = ends_here c.args.limit c.loop-place.place c.pair_value-byte.result c.loop-place.bytes c.args.text.now (omega arith) (omega arith) pair found;
    }

pub returns-then-pairs-limit-clause-bytes : goal.returns-then-pairs-limit-clause-bytes
returns-then-pairs-limit-clause-bytes c =
    let more = goes_beyond (2 * c.min-pairs.result) c.args.text.now (sym c.is_empty-2.ensures ∙ c.if-is_empty-2.false) in
    rw (take_rest c.args.text.now (2 * c.min-pairs.result))
    (no_room c.args.limit c.loop-place.place c.min-pairs.result c.loop-place.bytes c.args.text.now (omega arith) (omega arith)
    (c.loop-place.invariant.more (omega (arith, more))))

pub wrong_digit-requires-2 : goal.wrong_digit-requires-2
wrong_digit-requires-2 c = short_fails _ (rw (take_rest c.args.text.now (2 * c.min-pairs.result), length-drop) (omega arith))

pub returns-clause-bytes : goal.returns-clause-bytes
returns-clause-bytes c =
    let more = goes_beyond (2 * c.min-pairs.result) c.args.text.now (sym c.is_empty-2.ensures ∙ c.if-is_empty-2.false) in
    no_pair c.args.limit c.loop-place.place c.min-pairs.result c.loop-place.bytes c.args.text.now _ (omega arith) (omega arith)
    (rw (take_rest c.args.text.now (2 * c.min-pairs.result)) at c.wrong_digit-2.ensures) (c.loop-place.invariant.more (omega (arith, more)))
