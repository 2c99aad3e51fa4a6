-- The number fits, and is that of the bytes so far.
use Rattle.std.proofs.Common.{◌≡◌, ◌+◌, ◌-◌, ◌*◌, ◌≤◌, length, get_or, rules, arith}
use Rattle.std.specs.Str.Parse.{AllDigits}
use Rattle.bridge_lines.proofs.Numerals.{next-digit, reads-all, reads-more, so-far}
use Rattle.bridge_lines.proofs.words.number_in.Goals as goal

pub overflow_mul-number : goal.overflow_mul-number
overflow_mul-number c =
    let all : AllDigits 10 c.args.word.now = search rules in
    let short : length c.args.word.now ≤ 18 = search rules in
    let most = so-far c.args.word.now all short c.loop-byte.byte-index c.loop-byte.number (omega arith) c.loop-byte.invariant in
    omega (arith, most)

pub overflow_sub-byte : goal.overflow_sub-byte
overflow_sub-byte c =
    let all : AllDigits 10 c.args.word.now = search rules in
    let short : length c.args.word.now ≤ 18 = search rules in
    let digit = next-digit c.args.word.now all short c.loop-byte.byte-index c.loop-byte.number (omega arith) c.loop-byte.invariant in
    omega (arith, digit)

pub overflow_add-number : goal.overflow_add-number
overflow_add-number c =
    let all : AllDigits 10 c.args.word.now = search rules in
    let short : length c.args.word.now ≤ 18 = search rules in
    let most = so-far c.args.word.now all short c.loop-byte.byte-index c.loop-byte.number (omega arith) c.loop-byte.invariant in
    let digit = next-digit c.args.word.now all short c.loop-byte.byte-index c.loop-byte.number (omega arith) c.loop-byte.invariant in
    let from : c.from.result ≡ get_or c.args.word.now c.loop-byte.byte-index 0 - 48 = search rules in
    omega (arith, most, digit, from)

pub loop-byte-preserved : goal.loop-byte-preserved
loop-byte-preserved c =
    let all : AllDigits 10 c.args.word.now = search rules in
    let short : length c.args.word.now ≤ 18 = search rules in
    let from : c.from.result ≡ get_or c.args.word.now c.loop-byte.byte-index 0 - 48 = search rules in
    reads-more c.args.word.now all short c.loop-byte.byte-index c.loop-byte.number (omega arith) c.loop-byte.invariant
    (c.loop-byte.number * 10 + c.from.result) (omega (arith, from))

pub returns-clause-below : goal.returns-clause-below
returns-clause-below c =
    let short : length c.args.word.now ≤ 18 = search rules in
    let all = reads-all c.args.word.now c.loop-byte.byte-index c.loop-byte.number short (omega arith) c.loop-byte.invariant in
    all.1
