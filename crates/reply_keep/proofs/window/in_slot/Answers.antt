-- An open slot has what is in it, and one that isn't open is empty.
use Rattle.std.proofs.Common.{◌≡◌, option_copied, sym, ◌∙◌, rules}
use Rattle.reply_keep.proofs.OpenSlots.{in_slot-read, in_slot-unopened}
use Rattle.reply_keep.proofs.window.in_slot.Goals as goal

pub returns-then-slot-opened : goal.returns-then-slot-opened
returns-then-slot-opened c =
    let copied : option_copied c.as_ref.result ≡ c.index-opened-slot.result = search rules in
    copied ∙ in_slot-read c.args.opened.now c.args.slot c.index-opened-slot.result c.if-slot-opened.true c.index-opened-slot.is

pub returns-else-slot-opened : goal.returns-else-slot-opened
returns-else-slot-opened c = sym (in_slot-unopened c.args.opened.now c.args.slot c.if-slot-opened.false)
