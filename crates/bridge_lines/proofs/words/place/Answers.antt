-- What a search finds.
use Rattle.bridge_lines.proofs.Places.{first-place}
use Rattle.bridge_lines.proofs.words.place.Goals as goal

pub returns-clause-place : goal.returns-clause-place
returns-clause-place c = first-place c.args.byte c.args.bytes.now c.memchr.result c.memchr.ensures
