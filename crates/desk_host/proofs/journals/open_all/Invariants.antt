-- The journals of the first shards are opened.
use Rattle.std.proofs.Common.{◌≡◌, ◌≤◌, ℕ, List, length}
use Rattle.std.specs.Prelude.{vec_capacity}
use Rattle.desk_host.specs.Journals.{file_name, AreOpened}
use Rattle.desk_host.proofs.journals.open_all.Given as goal

abbrev pub invariant-loop-shard : goal.invariant-loop-shard
invariant-loop-shard g l = record {
  count : length l.stores.items ≡ l.shard;
  room : vec_capacity l.stores ≡ l.shards;
  opened : AreOpened g.D.Journal.Store (file_name l.ending l.prefix) (g.D.Desk.logs l.initial.desk) l.stores.items;
  stood : g.D.Desk.faults l.desk ≡ g.D.Desk.faults l.initial.desk;
  kept : g.D.Desk.holds l.desk ≡ g.D.Desk.holds l.initial.desk;
  ahead : (shard : ℕ) → l.shard ≤ shard → g.D.Desk.logs l.desk (file_name l.ending l.prefix shard)
      ≡ g.D.Desk.logs l.initial.desk (file_name l.ending l.prefix shard);
  elsewhere : (name : List ℕ) → ((shard : ℕ) → name ≡ file_name l.ending l.prefix shard → ⊥)
      → g.D.Desk.logs l.desk name ≡ g.D.Desk.logs l.initial.desk name;
}
