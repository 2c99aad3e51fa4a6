-- A message is read exactly.
use Rattle.bridge_lines.proofs.RoundTrips.{message-is, message-read}
use Rattle.bridge_lines.proofs.laws.texts_are_read_exactly.Goals as goal

pub returns : goal.returns
returns c = λ text said. (message-is text said, message-read text said)
