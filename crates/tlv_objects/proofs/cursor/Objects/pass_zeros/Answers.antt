-- After the leading 00 bytes the objects are the same.
use Rattle.tlv_objects.proofs.Texts.{length-take_while_zero, objects_past_zeros, no_zero_past_zeros}
use Rattle.tlv_objects.proofs.cursor.Objects.pass_zeros.Goals as goal

pub returns-in-0-clause-same : goal.returns-in-0-clause-same
returns-in-0-clause-same c =
    rw (c.pass-in-0.ensures, ← c.pass.view_is, c.zeros_in_front.ensures, length-take_while_zero) (objects_past_zeros _ _)

pub returns-in-0-clause-first : goal.returns-in-0-clause-first
returns-in-0-clause-first c =
    rw (c.pass-in-0.ensures, ← c.pass.view_is, c.zeros_in_front.ensures, length-take_while_zero) (no_zero_past_zeros c.pass.inside.ahead.now)
