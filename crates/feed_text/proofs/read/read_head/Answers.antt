-- A line that is refused begins with no shard and index.
use Rattle.std.proofs.Common.{◌<◌, ◌^◌, ◌++◌, ◌∷◌, sym, ◌∙◌, rules, arith}
use Rattle.std.specs.Fmt.{decimal}
use Rattle.feed_text.proofs.Heads.{number-apart}
use Rattle.feed_text.proofs.read.read_head.Goals as goal

pub returns-in_err-place : goal.returns-in_err-place
returns-in_err-place c =
    rw c.from_residual-in_err-place.ensures (λ shard place rest has.
    let fits = has.place_fits in
    let more = (number-apart c.in_ok-shard.shard shard c.in_ok-shard.left.now (decimal place ++ 32 ∷ rest) (search rules) has.shard_fits
    (sym c.in_ok-shard.ensures ∙ has.line_is)).1 in
    let below : place < 2 ^ 64 = omega (arith, fits) in
    search (rules, more, below))

pub returns-then-place-ge-PLACE_END : goal.returns-then-place-ge-PLACE_END
returns-then-place-ge-PLACE_END c = λ shard place rest has.
    let fits = has.place_fits in
    let more = (number-apart c.in_ok-shard.shard shard c.in_ok-shard.left.now (decimal place ++ 32 ∷ rest) (search rules) has.shard_fits
    (sym c.in_ok-shard.ensures ∙ has.line_is)).1 in
    let same = (number-apart c.in_ok-place.place place c.in_ok-place.rest.now rest (search rules)
    (omega (arith, fits)) (sym c.in_ok-place.ensures ∙ more)).0 in
    let past = c.if-place-ge-PLACE_END in
    grind (arith, past, same, fits)
