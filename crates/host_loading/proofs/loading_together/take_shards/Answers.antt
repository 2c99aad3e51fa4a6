-- One more shard is taken out of its slot.
use Rattle.std.proofs.Common.{◌≡◌, ◌∙◌, ◌++◌, ◌∷◌, [], map, reverse, None, Some, rules, sym, ap, arith}
use Rattle.std.proofs.lemmas.Grind.{common_steps}
use Rattle.host_loading.specs.Slots.{HasEnded, fault_in, loaded_as}
use Rattle.host_loading.proofs.Together.{mapped-last, moved, moved-plain, not-failed, taken, taken-one}
use Rattle.host_loading.proofs.loading_together.take_shards.Goals as goal

pub into_parts-old_store-requires : goal.into_parts-old_store-requires
into_parts-old_store-requires g c =
    (taken-one (λ slot. HasEnded slot × (fault_in slot ≡ None)) c.loop-slot.slots.items c.pop.new.self.items c.pop.result c.in-Some.slot
    c.pop.ensures.items c.in-Some.is c.loop-slot.invariant.ended).1.0

pub unreachable-requires : goal.unreachable-requires
unreachable-requires g c =
    let none = (taken-one (λ slot. HasEnded slot × (fault_in slot ≡ None)) c.loop-slot.slots.items c.pop.new.self.items c.pop.result c.in-Some.slot
    c.pop.ensures.items c.in-Some.is c.loop-slot.invariant.ended).1.1 in
    not-failed c.in-Some.slot.loaded c.into_parts-old_store.result.1 c.in_default-loaded.field-0 none c.into_parts-old_store.ensures.loaded
    c.in_default-loaded.is

pub loop-slot-preserved : goal.loop-slot-preserved
loop-slot-preserved g c =
    let before = c.loop-slot.invariant in
    let slots = c.loop-slot.slots.items in
    let left = c.pop.new.self.items in
    let slot = c.in-Some.slot in
    let parts = taken slots left c.pop.result slot c.pop.ensures.items c.in-Some.is in
    let stored = c.into_parts-old_store.ensures in
    record {
      ended = (taken-one (λ slot. HasEnded slot × (fault_in slot ≡ None)) slots left c.pop.result slot c.pop.ensures.items c.in-Some.is before.ended).0;
      olds = moved-plain (map (λ slot. slot.old_store) slots) (map (λ slot. slot.old_store) left) slot.old_store c.loop-slot.olds.items
          c.push_reserved.new.self.items (map (λ slot. slot.old_store) c.args.slots.items) (mapped-last (λ slot. slot.old_store) slots left slot parts)
          (c.push_reserved.ensures.items ∙ ap (λ old. c.loop-slot.olds.items ++ old ∷ []) stored.old_store) before.olds;
      shards = moved (λ shard. loaded_as shard) (map (λ slot. slot.loaded) slots) (map (λ slot. slot.loaded) left) slot.loaded c.loop-slot.shards.items
          c.push_reserved-in-Some.new.self.items c.in-Ok.shard (map (λ slot. slot.loaded) c.args.slots.items)
          (mapped-last (λ slot. slot.loaded) slots left slot parts) c.push_reserved-in-Some.ensures.items
          (sym (stored.loaded ∙ ap (λ outcome. Some outcome) c.in-Ok.is)) before.shards;
      room_olds = search rules;
      room = search rules;
    }

pub returns-clause-shards : goal.returns-clause-shards
returns-clause-shards g c =
    let gone : c.loop-slot.slots.items ≡ [] = grind (arith, common_steps) in
    sym c.loop-slot.invariant.shards
    ∙ ap (λ slots. map (λ slot. slot.loaded) slots ++ map (λ shard. loaded_as shard) (reverse c.loop-slot.shards.items)) gone
    ∙ ap (map (λ shard. loaded_as shard)) (sym c.reverse-2.ensures.items)
