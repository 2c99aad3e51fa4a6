-- The decision is stored in its slot, or its slot is opened with it, after those before.
use Rattle.std.proofs.Common.{◌≡◌, set, ap, ap₂, Option, Some, ◌∙◌, arith, rules, ℕ}
use Rattle.issuer_base.specs.declared.request.Request.{Request}
use Rattle.issuer_base.specs.declared.answer.Reply.{Reply}
use Rattle.card_history.specs.declared.decision.Decision.{Decision}
use Rattle.reply_keep.specs.ReplySlots.{slot_of, all_slots}
use Rattle.reply_keep.proofs.SlotLemmas.{slot_of-below}
use Rattle.reply_keep.proofs.OpenSlots.{all_slots-pushed, all_slots-set}
use Rattle.reply_keep.proofs.window.Kept.keep.Goals as goal

pub returns-then-slot-len : goal.returns-then-slot-len
returns-then-slot-len c =
    let same : c.from-slot.result ≡ slot_of c.args.request.now.atc = search rules in
    rw (← c.self.view_is) (all_slots-set c.self.inside.opened.items c.from-slot.result c.fill.new.slot (omega (arith, c.if-slot-len.true))
    ∙ ap₂ (λ (slot : ℕ) (value : Option Decision). set (all_slots c.self.inside.opened.items) slot value) same c.fill.ensures)

pub returns : goal.returns
returns c =
    let same : c.from-slot.result ≡ slot_of c.args.request.now.atc = search rules in
    let few = slot_of-below c.args.request.now.atc in
    let stored : Request → Reply → Option Decision = λ request reply. Some (record { request = request; reply = reply; place = c.args.place }) in
    rw (← c.self.view_is) (
    ap all_slots c.push_reserved.ensures.items
    ∙ all_slots-pushed c.self.inside.opened.items c.open_before.new.opened.items c.from-slot.result (stored c.args.request.now c.copy.result)
    (omega (arith, c.if-slot-len.false)) (omega (arith, same, few)) c.open_before.ensures.grown
    ∙ ap₂ (λ (slot : ℕ) (value : Option Decision). set (all_slots c.self.inside.opened.items) slot value) same
    (ap (stored c.args.request.now) c.copy.ensures))
