-- The value is compared with that of the session key.
use Rattle.std.proofs.Common.{arith}
use Rattle.std.proofs.lemmas.Grind.{common_steps}
use Rattle.card_model.proofs.card.is_answer.Goals as goal

pub returns : goal.returns
returns c =
    let made = c.value91-expected.ensures in
    grind (arith, common_steps, made)
