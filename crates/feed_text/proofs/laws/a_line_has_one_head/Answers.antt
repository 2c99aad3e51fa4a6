-- The head of a line.
use Rattle.std.proofs.Common.{refl}
use Rattle.feed_text.proofs.Heads.{head-apart}
use Rattle.feed_text.proofs.laws.a_line_has_one_head.Goals as goal

pub returns-clause-own : goal.returns-clause-own
returns-clause-own c shard place entry fits within =
    record { line_is = refl; shard_fits = fits; place_fits = within }

pub returns-clause-one : goal.returns-clause-one
returns-clause-one c = head-apart
