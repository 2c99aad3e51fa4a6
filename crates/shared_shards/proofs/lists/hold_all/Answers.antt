-- One shard more is held, and counted.
use Rattle.std.proofs.Common.{rules, ◌≡◌, ◌++◌, ◌∷◌, List, map, reverse, subst}
use Rattle.shard_book.specs.declared.shard.Shard.{Shard}
use Rattle.shared_shards.specs.declared.locked_shard.LockedShard.{LockedShard}
use Rattle.shared_shards.proofs.ListLemmas.{next-ahead, held-next, counts-next}
use Rattle.shared_shards.proofs.lists.hold_all.Goals as goal

pub loop-shard-preserved : goal.loop-shard-preserved
loop-shard-preserved g c =
    let shards = c.args.shards.items in
    let held = c.loop-shard.lists.held.items in
    let next : LockedShard _ g.S.Store = record { shard = c.in-Some.shard } in
    let left = reverse c.pop.new.self.items in
    let ahead : reverse c.loop-shard.ahead.items ≡ next.shard ∷ left =
    next-ahead c.loop-shard.ahead.items c.pop.new.self.items next.shard (rw c.in-Some.is at c.pop.ensures.items) in
    let all : map (λ (held : LockedShard _ g.S.Store). held.shard) held ++ next.shard ∷ left ≡ shards =
    subst (λ (ahead : List (Shard _ g.S.Store)). map (λ (held : LockedShard _ g.S.Store). held.shard) held ++ ahead ≡ shards) ahead
    c.loop-shard.invariant.all in
    record {
      all = rw c.push_reserved-in-Some.ensures.items (held-next shards held next left all);
      counts = rw (c.push_reserved.ensures.items, c.push_reserved-in-Some.ensures.items)
          (counts-next c.args.issuer.now c.args.olds.now.value.items c.args.stores.now.value.items shards c.args.logs.now.view
          c.requires.opening held next left c.loop-shard.lists.counts.items c.places.result all
          c.loop-shard.invariant.counts c.places.ensures.history);
      held_room = search rules;
      counts_room = search rules;
    }
