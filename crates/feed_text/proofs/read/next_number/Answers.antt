-- The number before the first space.
use Rattle.std.proofs.Common.{rules}
use Rattle.std.specs.Fmt.{decimal}
use Rattle.feed_text.proofs.Heads.{decimal-inner, has-space, word-before}
use Rattle.feed_text.proofs.read.next_number.Goals as goal

pub returns-in_err-end : goal.returns-in_err-end
returns-in_err-end c =
    rw c.from_residual.ensures (λ number rest below is.
    has-space c.args.line.now (decimal number) rest (decimal-inner number) is c.memchr.result c.memchr.ensures
    (search rules))

pub returns-in_err-number : goal.returns-in_err-number
returns-in_err-number c =
    rw c.from_residual-in_err-number.ensures (λ number rest below is.
    let word = word-before c.args.line.now (decimal number) rest (decimal-inner number) is c.in_ok-end.end
    (search rules) in
    search (rules, word))
