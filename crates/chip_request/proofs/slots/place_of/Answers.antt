-- The index of a field by the last byte of its tag.
use Rattle.std.proofs.Common.{◌%◌, arith}
use Rattle.chip_request.proofs.Places.{small_place, place_found, place_not_found}
use Rattle.chip_request.proofs.slots.place_of.Goals as goal

pub bounds-place : goal.bounds-place
bounds-place c = rw c.from-place.ensures (small_place (c.args.tag % 256) (omega arith))

pub returns-then-place-tag-clause-place : goal.returns-then-place-tag-clause-place
returns-then-place-tag-clause-place c = place_not_found c.args.tag c.from-place.result _ c.from-place.ensures c.if-place-tag.true

pub returns-clause-place : goal.returns-clause-place
returns-clause-place c =
    place_found c.args.tag c.from-place.result _ (rw c.from-place.ensures (small_place (c.args.tag % 256) (omega arith))) c.if-place-tag.false
