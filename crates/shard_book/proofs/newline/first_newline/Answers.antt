-- The first newline.
use Rattle.shard_book.proofs.Lines.{line-found}
use Rattle.shard_book.proofs.newline.first_newline.Goals as goal

pub returns : goal.returns
returns c = line-found _ _ c.memchr.ensures
