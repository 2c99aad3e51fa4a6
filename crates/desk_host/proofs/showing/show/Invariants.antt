-- The first cards are shown.
use Rattle.std.proofs.Common.{◌≡◌, List, take}
use Rattle.std.specs.Io.KnownBytes.{Appends}
use Rattle.host_loading.specs.Books.{ShardBook}
use Rattle.host_loading.specs.Hosts.{Stand}
use Rattle.desk_host.specs.Shown.{shown_text}
use Rattle.desk_host.proofs.showing.show.Given as goal

abbrev pub invariant-loop-number : goal.invariant-loop-number
invariant-loop-number g l = record {
  shown : (books : List ShardBook) → Stand l.host.issuer l.host.shards.items books
      → Appends (g.W.Sink.held l.initial.out) (g.W.Sink.held l.out)
      (shown_text l.host.issuer books (take l.number l.host.issuer.cards));
  stood : g.W.Sink.faults l.out ≡ g.W.Sink.faults l.initial.out;
}
