-- The pair's digits from k on move up by one.
use Rattle.std.proofs.Common.{arith}
use Rattle.des_lanes.proofs.Turns.{low_is, low_within}
use Rattle.des_lanes.proofs.turning.low_row.Goals as goal

pub returns-clause-row : goal.returns-clause-row
returns-clause-row c = low_is c.args.k c.args.pair c.requires.step c.requires.pair

pub returns-clause-within : goal.returns-clause-within
returns-clause-within c = omega (arith, low_is c.args.k c.args.pair c.requires.step c.requires.pair, low_within c.args.k c.args.pair c.requires.step c.requires.pair)
