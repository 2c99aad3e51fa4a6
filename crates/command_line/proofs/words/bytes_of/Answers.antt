-- A word of another length spells no bytes.
use Rattle.std.proofs.Common.{arith}
use Rattle.command_line.proofs.CommandWords.{spelled-size}
use Rattle.command_line.proofs.words.bytes_of.Goals as goal

pub returns-then-count-eq0 : goal.returns-then-count-eq0
returns-then-count-eq0 c = λ bytes spells.
    let size = spelled-size c.args.word.now bytes spells in
    let some = spells.some in
    omega (arith, size, some)

pub returns-then-count-gt-MAX_CHIP_BYTES : goal.returns-then-count-gt-MAX_CHIP_BYTES
returns-then-count-gt-MAX_CHIP_BYTES c = λ bytes spells.
    let size = spelled-size c.args.word.now bytes spells in
    let few = spells.few in
    omega (arith, size, few)
