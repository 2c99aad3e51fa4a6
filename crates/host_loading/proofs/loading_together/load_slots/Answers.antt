-- Each slot was left by the load of its shard.
use Rattle.std.proofs.Common.{◌≡◌, ◌∙◌, ◌<◌, ℕ, length, subst, Some}
use Rattle.std.proofs.lemmas.Option.{get_or_from_slice_get, slice_get_within}
use Rattle.issuer_base.specs.declared.outside.store.Store.{Ghosts}
use Rattle.issuer_setup.specs.IssuerSetup.{Setup}
use Rattle.host_loading.specs.declared.loading_together.Slot.{Slot}
use Rattle.host_loading.specs.Slots.{HasTried}
use Rattle.host_loading.proofs.loading_together.load_slots.Goals as goal

-- what a call did with a slot it did with the slot that is the same
tried-same : {S : Type 0} {G : Ghosts S} (issuer : Setup) (number : ℕ) (was before left after : Slot S G) (store : S) → was ≡ before → left ≡ after
    → ((store : S) → was.store ≡ Some store → HasTried issuer number was.old_store store left) → before.store ≡ Some store
    → HasTried issuer number before.old_store store after
tried-same {S} {G} issuer number was before left after store was_is left_is call is =
    subst (HasTried issuer number before.old_store store) left_is
    (subst (λ (was : Slot S G). (store : S) → was.store ≡ Some store → HasTried issuer number was.old_store store left) was_is call store is)

pub returns : goal.returns
returns g c number before after store before_is after_is is =
    let slots = c.args.slots.now in
    let within : number < length slots = slice_get_within slots number before before_is in
    let its = (c.for_each_mut.ensures number before within).1 in
    tried-same c.args.issuer.now number its.argument.now before its.after_call.now after store
    (its.argument_is ∙ get_or_from_slice_get slots number before before before_is)
    (its.left ∙ get_or_from_slice_get c.for_each_mut.new.s number after before after_is) its.call is
