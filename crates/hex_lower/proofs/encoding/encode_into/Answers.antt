-- The last bytes are encoded over the end of the others' digits.
use Rattle.std.proofs.Common.{ap, ◌∙◌, arith}
use Rattle.std.proofs.lemmas.List.{take_rest}
use Rattle.hex.specs.Hex.{encode_lower}
use Rattle.hex_lower.proofs.Overlap.{encode_lower-over}
use Rattle.hex_lower.proofs.encoding.encode_into.Goals as goal

pub returns-then-whole-bytes-clause-digits : goal.returns-then-whole-bytes-clause-digits
returns-then-whole-bytes-clause-digits c =
    encode_lower-over c.args.bytes.now _ _ c.args.out.now _ c.saturating_sub-last.result (omega arith) (omega arith)
    c.encode_each.ensures.digits
    (c.encode_each-then-whole-bytes.ensures.digits ∙ ap encode_lower (take_rest c.args.bytes.now c.saturating_sub-last.result))
