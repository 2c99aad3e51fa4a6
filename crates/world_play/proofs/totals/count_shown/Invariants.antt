-- What the host shows of the first cards is counted.
use Rattle.std.proofs.Common.{◌≡◌, ◌≤◌, ◌*◌, ◌^◌, List, take}
use Rattle.std.specs.Prelude.{sum_by}
use Rattle.host_loading.specs.Books.{ShardBook}
use Rattle.host_loading.specs.Hosts.{Stand}
use Rattle.world_play.specs.Play.{one_if, shown}
use Rattle.world_play.proofs.totals.count_shown.Given as goal

abbrev pub invariant-loop-number : goal.invariant-loop-number
invariant-loop-number l = record {
  done : (books : List ShardBook) → Stand l.host.issuer l.host.shards.items books
      → l.counts.done ≡ sum_by (λ info. (shown l.host.issuer books info).done) (take l.number l.host.issuer.cards);
  halted : (books : List ShardBook) → Stand l.host.issuer l.host.shards.items books
      → l.counts.halted ≡ sum_by (λ info. one_if (shown l.host.issuer books info).halted) (take l.number l.host.issuer.cards);
  few_done : l.counts.done ≤ l.number * 2 ^ 32;
  few_halted : l.counts.halted ≤ l.number;
}
