-- No slot is open at first.
use Rattle.std.proofs.Common.{ap, ◌∙◌}
use Rattle.reply_keep.specs.ReplySlots.{all_slots}
use Rattle.reply_keep.proofs.OpenSlots.{all_slots-none}
use Rattle.reply_keep.proofs.window.Kept.new.Goals as goal

pub returns : goal.returns
returns c = ap all_slots c.in_ok-opened.ensures.items ∙ all_slots-none
