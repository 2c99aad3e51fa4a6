-- A word that is refused says no number below 2^64.
use Rattle.std.proofs.Common.{◌≡◌, ◌<◌, ◌≤◌, length, get_or, ⊎_elim, rules, arith}
use Rattle.std.proofs.lemmas.Bool.{cases_lt}
use Rattle.feed_text.proofs.Digits.{are-decimals, no-zero_first, not-empty, not-stopped, says-more}
use Rattle.feed_text.proofs.read.number_of.Goals as goal

pub returns-then-is_empty : goal.returns-then-is_empty
returns-then-is_empty c = λ number fits is. not-empty c.args.word.now number fits is (search rules)

pub returns-then-has_leading_zero : goal.returns-then-has_leading_zero
returns-then-has_leading_zero c = λ number fits is.
    let zero : (get_or c.args.word.now 0 0 ≡ 48) × (1 < length c.args.word.now) = search rules in
    no-zero_first c.args.word.now number fits is zero.0 zero.1

pub returns-in-None : goal.returns-in-None
returns-in-None c = λ number fits is.
    not-stopped c.args.word.now number fits is c.loop-byte.byte-index c.loop-byte.number (omega arith) c.loop-byte.invariant
    c.in-None.ensures

pub loop-byte-preserved : goal.loop-byte-preserved
loop-byte-preserved c =
    says-more c.args.word.now c.loop-byte.byte-index c.loop-byte.number c.in-Some.more (omega arith) c.loop-byte.invariant
    c.in-Some.ensures.0 c.in-Some.ensures.1 (omega arith)

pub returns : goal.returns
returns c =
    let some : 0 < length c.args.word.now = search rules in
    are-decimals c.args.word.now c.loop-byte.byte-index c.loop-byte.number (omega arith) some
    (λ (first : get_or c.args.word.now 0 0 ≡ 48).
    ⊎_elim
    (λ (long : 1 < length c.args.word.now). absurd (cc (c.if-has_leading_zero.ensures.1 (first, long))))
    (λ (short : length c.args.word.now ≤ 1). omega (arith, some, short))
    (cases_lt 1 (length c.args.word.now)))
    c.loop-byte.invariant
