-- The first open records are put into blocks.
use Rattle.std.proofs.Common.{◌≡◌, ◌≤◌, drop, map, take}
use Rattle.std.specs.List.{flat_map}
use Rattle.line_blocks.specs.declared.block.TheConstants.{BLOCK_LINES}
use Rattle.clearing_check.specs.Records.{opens, place_of}
use Rattle.clearing_check.specs.ClearText.{open_text}
use Rattle.line_serving.proofs.Closing.{IsPut}
use Rattle.line_serving.proofs.judge.Judge.close.Given as goal

abbrev pub invariant-loop : goal.invariant-loop
invariant-loop g l = record {
  put : IsPut (g.W.Sink.held l.initial.out) (g.W.Sink.held l.out) l.self.block.text.items
      (flat_map open_text (take l.counter (map place_of (opens l.book))));
  next : opens (drop l.next l.book) ≡ drop l.counter (opens l.book);
  few : l.self.block.lines ≤ BLOCK_LINES;
  stood : g.W.Sink.faults l.out ≡ g.W.Sink.faults l.initial.out;
}
