-- A store that fails has no room.
use Rattle.shard_book.proofs.shard.open.Goals as goal

pub returns-in-Err-clause-room : goal.returns-in-Err-clause-room
returns-in-Err-clause-room g c spare has = absurd (c.in-Err.ensures.room spare has)
