-- No slot is open once all are removed.
use Rattle.std.proofs.Common.{ap, ◌∙◌}
use Rattle.reply_keep.specs.ReplySlots.{all_slots}
use Rattle.reply_keep.proofs.OpenSlots.{all_slots-none}
use Rattle.reply_keep.proofs.window.Kept.clear.Goals as goal

pub returns : goal.returns
returns c = ap all_slots c.clear.ensures.items ∙ all_slots-none
