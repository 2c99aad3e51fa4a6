-- A line is parsed as the record whose line it is.
use Rattle.std.proofs.Common.{ap, ◌∙◌}
use Rattle.journal_rec.specs.Reading.{entry_at}
use Rattle.journal_rec.proofs.Lines.{reads_line}
use Rattle.journal_rec.proofs.read.read_entry.Goals as goal

pub returns : goal.returns
returns c =
    let read = c.entry.ensures ∙ ap entry_at c.new.ensures in
    reads_line c.args.line.now c.entry.new.line c.entry.result _ _ read c.ok_or.ensures.value
