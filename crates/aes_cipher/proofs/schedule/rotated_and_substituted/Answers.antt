-- Four table lookups, rotated by one byte.
use Rattle.aes_cipher.specs.Columns.{word_bytes}
use Rattle.aes_cipher.proofs.ScheduleSteps.{rotated_is}
use Rattle.aes_cipher.proofs.schedule.rotated_and_substituted.Goals as goal

pub returns : goal.returns
unfolding word_bytes
returns c = rotated_is c.args.word c.from_be_bytes.result c.to_be_bytes.result c.to_be_bytes.ensures
    c.from_be_bytes.ensures
