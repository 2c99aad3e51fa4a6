-- The header of an object that begins as most do.
use Rattle.std.proofs.Common.{ap, sym, ◌∙◌}
use Rattle.std.specs.Prelude.{bit_and}
use Rattle.tlv_objects.proofs.Headers.{two_bytes, not_short}
use Rattle.tlv_objects.proofs.reading.read_short_header.Goals as goal

pub returns-then-first-eq31-clause-header : goal.returns-then-first-eq31-clause-header
returns-then-first-eq31-clause-header c =
    two_bytes c.args.bytes.now c.from-first.result c.from.result c.from-then-first-eq31.result c.from-first.ensures c.from.ensures
    c.from-then-first-eq31.ensures c.in-len3-up.len_at_least c.if-first-eq31.true c.if-second-third-gt127.false

pub returns-then-second-third-gt127-clause-none : goal.returns-then-second-third-gt127-clause-none
returns-then-second-third-gt127-clause-none c = λ none.
    not_short c.args.bytes.now (ap (λ n. bit_and n 31) (sym c.from-first.ensures) ∙ c.if-first-eq31.true) c.if-second-third-gt127.true
