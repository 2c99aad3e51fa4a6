-- Reading a text, a piece at a time.
use Rattle.std.proofs.Common.{◌≡◌, ◌+◌, ◌-◌, ◌≤◌, length}
use Rattle.std.specs.Io.KnownBytes.{Consumes}
use Rattle.config_read.specs.declared.config.TheConstants.{MAX_CONFIG_BYTES}
use Rattle.desk_host.proofs.config.read_text.Given as goal

abbrev pub invariant-loop-chunk : goal.invariant-loop-chunk
invariant-loop-chunk g l = record {
  consumed : Consumes (g.S.Source.left l.initial.source) (g.S.Source.left l.source) l.text.items;
  bounded : length l.text.items ≤ MAX_CONFIG_BYTES + 1;
  stood : g.S.Source.faults l.source ≡ g.S.Source.faults l.initial.source;
}

abbrev pub decreases-loop-chunk : goal.decreases-loop-chunk
decreases-loop-chunk g l = MAX_CONFIG_BYTES + 1 - length l.text.items
