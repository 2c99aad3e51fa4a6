-- What waits is written.
use Rattle.std.proofs.Common.{◌++◌}
use Rattle.std.specs.List.{flat_map}
use Rattle.bridge_lines.specs.ActLines.{lines_of}
use Rattle.bridge_serve.proofs.Written.{prints-all, counts-once}
use Rattle.bridge_serve.proofs.printer.PrinterOutput.flush.Goals as goal

pub returns-clause-said : goal.returns-clause-said
returns-clause-said g c start said first = (
  prints-all _ _ _ (start.text.items ++ flat_map lines_of said) c.args.self.now.text.items c.write.new.self.text.items start.has_failed
      c.args.self.now.has_failed c.write.new.self.has_failed first.0 c.write.ensures.lines,
  counts-once _ _ _ start.has_failed c.args.self.now.has_failed c.write.new.self.has_failed first.1 c.write.ensures.count,
)
