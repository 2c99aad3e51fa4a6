-- The first value of the field with a tag.
use Rattle.std.proofs.Common.{sym, ap, ◌∙◌, map, arith}
use Rattle.chip_request.specs.Fields.{fields}
use Rattle.chip_request.proofs.Walk.{holds_first, first_nowhere, value_in}
use Rattle.chip_request.proofs.slots.first_with_tag.Goals as goal

pub returns-in_err-place : goal.returns-in_err-place
returns-in_err-place c =
    ap value_in c.from_residual.ensures
    ∙ sym (first_nowhere c.args.tag fields (map value_in c.args.firsts.now) c.args._are_repeated.now
    (sym c.place_of.ensures.place ∙ c.in_err-place.was))

pub returns : goal.returns
returns c =
    holds_first c.args.tag c.args.firsts.now c.args._are_repeated.now c.in_ok-place.place (omega arith) (omega arith)
    (sym c.place_of.ensures.place ∙ c.in_ok-place.was)
