-- The mark is found after nothing but zeros, in the last block, and no message is padded otherwise.
use Rattle.std.proofs.Common.{◌≡◌, ℕ, ◌+◌, ◌-◌, ◌<◌, ◌≤◌, length, get_or, Some, ap, arith}
use Rattle.retail_mac.proofs.Padding.{EndsAfter, padded_ends, padded_at, mark_found, no_mark}
use Rattle.retail_mac.proofs.opening.unpadded_len.Goals as goal

pub returns-then-plain-lt8-clause-found : goal.returns-then-plain-lt8-clause-found
returns-then-plain-lt8-clause-found c = λ message e.
    let is : EndsAfter c.args.plain.now message = padded_ends c.args.plain.now message e in absurd (omega (arith, is.within))

pub returns-then-plain-last-clause-found : goal.returns-then-plain-last-clause-found
returns-then-plain-last-clause-found c = λ message e.
    ap Some (mark_found c.args.plain.now message _ (padded_ends c.args.plain.now message e) c.if-plain-last.true
    (λ k h. c.loop-zeros.invariant k (omega arith)))

pub returns-then-plain-last-clause-padded : goal.returns-then-plain-last-clause-padded
returns-then-plain-last-clause-padded c =
    padded_at c.args.plain.now _ c.requires (omega arith) (omega arith) c.if-plain-last.true (λ k h. c.loop-zeros.invariant k (omega arith))

pub returns-then-plain-last-ne0-clause-found : goal.returns-then-plain-last-ne0-clause-found
returns-then-plain-last-ne0-clause-found c = λ message e.
    absurd (no_mark c.args.plain.now message (length c.args.plain.now - 1 - c.loop-zeros.zeros) (padded_ends c.args.plain.now message e)
    c.if-plain-last.false c.if-plain-last-ne0.true (λ k h. c.loop-zeros.invariant k (omega arith)))

pub returns-clause-found : goal.returns-clause-found
returns-clause-found c = λ message e.
    let is : EndsAfter c.args.plain.now message = padded_ends c.args.plain.now message e in
    let none : get_or c.args.plain.now (length message) 0 ≡ 0 = c.loop-zeros.invariant (length message) (omega (arith, is.near)) in
    absurd (omega (arith, none, is.mark))
