-- A text of more than nineteen characters is no account number; any other that is none is none by its values either.
use Rattle.std.proofs.Common.{◌<◌, length, sym, ap, ◌∙◌, arith}
use Rattle.std.proofs.lemmas.Grind.{common_steps}
use Rattle.issuer_base.specs.CardNumber.{pan_from}
use Rattle.config_read.proofs.WordsLemmas.{pan_of-long, pan_of-past_zero, front-past_zero}
use Rattle.config_read.proofs.words.read_pan.Goals as goal

pub returns-then-text-gt-MAX_PAN_DIGITS : goal.returns-then-text-gt-MAX_PAN_DIGITS
returns-then-text-gt-MAX_PAN_DIGITS c =
    let long : 19 < length c.args.text.now = grind (arith, common_steps) in
    sym (pan_of-long c.args.text.now long)

pub returns : goal.returns
returns c =
    let value = c.as_bytes-text.ensures.value in
    c.new.ensures
    ∙ ap pan_from (front-past_zero c.args.text.now _ _ c.past_zero.result (length c.as_bytes-text.result.now) c.past_zero.ensures
    (c.copy_from_slice.ensures.after ∙ value) (sym (ap length value)))
    ∙ pan_of-past_zero c.args.text.now (λ k. let fits = c.type_inv.text k in omega (arith, fits))
