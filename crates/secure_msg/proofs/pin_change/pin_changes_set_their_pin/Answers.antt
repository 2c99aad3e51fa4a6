-- A PIN change sets its PIN, and no command sets two.
use Rattle.secure_msg.proofs.PinChanges.{command-sets, sets-one}
use Rattle.secure_msg.proofs.pin_change.pin_changes_set_their_pin.Goals as goal

pub returns-clause-sets : goal.returns-clause-sets
returns-clause-sets c = command-sets

pub returns-clause-one : goal.returns-clause-one
returns-clause-one c = sets-one
