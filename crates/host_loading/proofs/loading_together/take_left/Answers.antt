-- One more store is taken out of its slot.
use Rattle.std.proofs.Common.{◌∙◌, ◌++◌, ◌∷◌, [], map, Some, rules, sym, ap}
use Rattle.std.specs.Prelude.{option_map}
use Rattle.host_loading.specs.Slots.{HasEnded, left_in, store_of}
use Rattle.host_loading.proofs.Together.{mapped-last, moved, moved-plain, taken, taken-one}
use Rattle.host_loading.proofs.loading_together.take_left.Goals as goal

pub into_parts-old_store-requires : goal.into_parts-old_store-requires
into_parts-old_store-requires g c =
    (taken-one (λ slot. HasEnded slot) c.loop-slot.slots.items c.pop.new.self.items c.pop.result c.in-Some.slot c.pop.ensures.items c.in-Some.is
    c.loop-slot.invariant.ended).1

pub loop-slot-preserved : goal.loop-slot-preserved
loop-slot-preserved g c =
    let before = c.loop-slot.invariant in
    let slots = c.loop-slot.slots.items in
    let left = c.pop.new.self.items in
    let slot = c.in-Some.slot in
    let parts = taken slots left c.pop.result slot c.pop.ensures.items c.in-Some.is in
    let stored = c.into_parts-old_store.ensures in
    record {
      ended = (taken-one (λ slot. HasEnded slot) slots left c.pop.result slot c.pop.ensures.items c.in-Some.is before.ended).0;
      olds = moved-plain (map (λ slot. slot.old_store) slots) (map (λ slot. slot.old_store) left) slot.old_store c.loop-slot.olds.items
          c.push_reserved.new.self.items (map (λ slot. slot.old_store) c.args.slots.items) (mapped-last (λ slot. slot.old_store) slots left slot parts)
          (c.push_reserved.ensures.items ∙ ap (λ old. c.loop-slot.olds.items ++ old ∷ []) stored.old_store) before.olds;
      left = moved (λ store. Some store) (map (λ slot. left_in slot) slots) (map (λ slot. left_in slot) left) (left_in slot) c.loop-slot.back.items
          c.push_reserved-in-Some.new.self.items c.store_of.result (map (λ slot. left_in slot) c.args.slots.items)
          (mapped-last (λ slot. left_in slot) slots left slot parts) c.push_reserved-in-Some.ensures.items
          (ap (λ store. Some store) c.store_of.ensures ∙ sym (ap (option_map store_of) stored.loaded)) before.left;
      room_olds = search rules;
      room = search rules;
    }
