-- One more shard's stores are in a slot.
use Rattle.std.proofs.Common.{◌≡◌, length, map, Some, ap, refl, rules, arith}
use Rattle.std.specs.Prelude.{option_to_list}
use Rattle.std.proofs.lemmas.List.Elements.{All-push}
use Rattle.std.proofs.lemmas.List.Sorted.{All-permutation}
use Rattle.host_loading.specs.Slots.{IsWaiting}
use Rattle.host_loading.proofs.Together.{mapped-last, moved, taken}
use Rattle.host_loading.proofs.loading_together.fill.Goals as goal

pub loop-store-preserved : goal.loop-store-preserved
loop-store-preserved g c =
    let before = c.loop-store.invariant in
    let one : length (option_to_list c.pop.result) ≡ 1 = ap (λ popped. length (option_to_list popped)) c.in-Some.is in
    let one_old : length (option_to_list c.pop-in-Some.result) ≡ 1 = ap (λ popped. length (option_to_list popped)) c.unwrap.ensures in
    record {
      count = omega (arith, one, one_old, c.pop.ensures.len, c.pop-in-Some.ensures.len, before.count);
      all = omega (arith, one, c.pop.ensures.len, c.push_reserved.ensures.len, before.all);
      olds = moved (λ slot. slot.old_store) c.loop-store.olds.items c.pop-in-Some.new.self.items c.unwrap.result c.loop-store.slots.items
          c.push_reserved.new.self.items _ c.args.olds.now.items
          (taken c.loop-store.olds.items c.pop-in-Some.new.self.items c.pop-in-Some.result c.unwrap.result c.pop-in-Some.ensures.items c.unwrap.ensures)
          c.push_reserved.ensures.items refl before.olds;
      stores = moved (λ slot. slot.store) (map (λ store. Some store) c.loop-store.stores.items) (map (λ store. Some store) c.pop.new.self.items)
          (Some c.in-Some.store) c.loop-store.slots.items c.push_reserved.new.self.items _ (map (λ store. Some store) c.args.stores.items)
          (mapped-last (λ store. Some store) c.loop-store.stores.items c.pop.new.self.items c.in-Some.store
          (taken c.loop-store.stores.items c.pop.new.self.items c.pop.result c.in-Some.store c.pop.ensures.items c.in-Some.is))
          c.push_reserved.ensures.items refl before.stores;
      waiting = rw c.push_reserved.ensures.items (All-push (λ slot. IsWaiting slot) c.loop-store.slots.items _ before.waiting (refl, refl));
      room = search rules;
      room_olds = search rules;
    }

pub returns-clause-waiting : goal.returns-clause-waiting
returns-clause-waiting g c =
    All-permutation (λ slot. IsWaiting slot) c.loop-store.slots.items c.reverse.new.self.items c.reverse.ensures.permutation c.loop-store.invariant.waiting
