-- The digits that are written.
use Rattle.std.proofs.Common.{◌≡◌, ◌+◌, ◌++◌, length, take}
use Rattle.chip_request.specs.Lines.{digits_text}
use Rattle.answer_text.proofs.card_words.put_pan.Given as goal

abbrev pub invariant-loop-digit : goal.invariant-loop-digit
invariant-loop-digit l =
    (l.out.items ≡ l.fn.out.items ++ digits_text (take l.digit-index l.fn.pan))
    × (length l.out.items ≡ length l.fn.out.items + l.digit-index)
