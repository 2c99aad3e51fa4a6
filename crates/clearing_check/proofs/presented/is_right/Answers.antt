-- A cryptogram that was checked before is right or wrong under the card's keys.
use Rattle.clearing_check.proofs.LookUps.{checked-presented, right-presented, wrong-presented}
use Rattle.clearing_check.proofs.presented.is_right.Goals as goal

pub returns-in-Unchecked : goal.returns-in-Unchecked
returns-in-Unchecked c = λ presented its.
    checked-presented c.args.issuer.now presented c.args.sought.now its c.is_right_alone.result
    (c.is_right_alone.ensures its.slot_is.keys its.slot_is.stored)

pub returns-in-Right : goal.returns-in-Right
returns-in-Right c = λ presented its.
    right-presented c.args.issuer.now presented c.args.sought.now its c.in-Right.field-0 c.in-Right.is

pub returns-in-Wrong : goal.returns-in-Wrong
returns-in-Wrong c = λ presented its. wrong-presented c.args.issuer.now presented c.args.sought.now its c.in-Wrong.is
