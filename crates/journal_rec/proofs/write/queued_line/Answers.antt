-- A command that is written is one.
use Rattle.std.proofs.Common.{◌∙◌, subst}
use Rattle.hex.specs.Hex.{IsBytes}
use Rattle.journal_rec.proofs.write.queued_line.Goals as goal

pub returns-clause-command : goal.returns-clause-command
returns-clause-command c = record {
  size = c.command_bytes.ensures.size;
  bytes = subst IsBytes (c.as_slice.ensures.value ∙ c.command_bytes.ensures.bytes) c.put_word.ensures.bytes;
}
