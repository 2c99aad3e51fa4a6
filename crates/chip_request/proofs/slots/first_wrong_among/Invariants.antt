-- The first field with a fault.
use Rattle.std.proofs.Common.{◌≡◌, map, drop}
use Rattle.chip_request.specs.Fields.{fields}
use Rattle.chip_request.specs.Slots.{first_wrong_found, founds_of}
use Rattle.chip_request.proofs.Walk.{value_in}
use Rattle.chip_request.proofs.slots.first_wrong_among.Given as goal

-- it is wrong with none of the fields so far
abbrev pub invariant-loop-place : goal.invariant-loop-place
invariant-loop-place l =
    let founds = founds_of fields (map value_in l.firsts) l.are_repeated in
    first_wrong_found l.wrong (drop l.place founds) ≡ first_wrong_found l.wrong founds
