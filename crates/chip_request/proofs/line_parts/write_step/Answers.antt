-- The bytes that the pairs of digits of one step spell.
use Rattle.std.proofs.Common.{◌≡◌, ℕ, ◌+◌, ◌-◌, ◌*◌, List, sym, subst, drop, arith}
use Rattle.std.proofs.lemmas.List.{take_rest}
use Rattle.chip_request.specs.HexDigits.{AreSpelled}
use Rattle.chip_request.proofs.Spelling.{spelled-step}
use borrow.Rule.Slice.PartMut.{put_mid}
use Rattle.chip_request.proofs.line_parts.write_step.Goals as goal

pub returns-clause-spelled : goal.returns-clause-spelled
returns-clause-spelled c are before =
    let from : ℕ = c.args.from in
    let text : List ℕ = c.args.text.now in
    let one : 32 ≡ from + 32 - from = omega arith in
    let spelled : List ℕ = c.copy_from_slice.new.self in
    subst (λ n. AreSpelled (from + 32) (put_mid from n c.args.bytes.now spelled) text) one
    (spelled-step from 32 c.args.bytes.now spelled text (omega arith) (omega (arith, c.copy_from_slice.ensures.len))
    (subst (λ (bytes : List ℕ). AreSpelled 32 bytes (drop (2 * from) text)) (sym c.copy_from_slice.ensures.after)
    (rw (take_rest text (2 * from)) at (c.spell_step-spelled.ensures.spelled are)))
    before)
