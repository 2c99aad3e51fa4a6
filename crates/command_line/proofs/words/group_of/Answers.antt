-- A number that is refused is none that a run may have.
use Rattle.std.proofs.Common.{◌≡◌, arith, rules}
use Rattle.command_line.proofs.CommandWords.{said-once}
use Rattle.command_line.proofs.words.group_of.Goals.{else-number-ge1-via-then-number-ge1+else-number-from}
use Rattle.command_line.proofs.words.group_of.Goals.{else-number-ge1-via-else-number-ge1}
use Rattle.command_line.proofs.words.group_of.Goals as goal

pub returns-else-number-ge1 : goal.returns-else-number-ge1
returns-else-number-ge1 c = λ callers group is.
    let few = group.few in
    let some = group.some in
    let same : c.in_ok-number.number ≡ callers =
    said-once c.args.word.now c.in_ok-number.number callers (search rules) (omega (arith, few)) c.in_ok-number.ensures
    is in
    elim c.else-number-ge1.branch [
      | else-number-ge1-via-then-number-ge1+else-number-from w ↦ let past =
          w.if-number-from in grind (arith, past, same, few)
      | else-number-ge1-via-else-number-ge1 w ↦ let past = w.if-number-ge1 in grind (arith, past, same, some)
    ]
