-- The card's pairs so far follow those of the cards before it.
use Rattle.std.proofs.Common.{◌≡◌, ◌+◌, ◌++◌, take, vec_len, vec_capacity}
use Rattle.issuer_setup.specs.KeptKeys.{pairs_of}
use Rattle.issuer_setup.proofs.kept_keys.add_card.Given as goal

abbrev pub invariant-loop-set : goal.invariant-loop-set
invariant-loop-set l = record {
  added : l.pairs.items ≡ l.initial.pairs.items ++ pairs_of (take l.set-index l.keys) l.card;
  count : vec_len l.pairs ≡ vec_len l.initial.pairs + l.set-index;
  room : vec_capacity l.pairs ≡ vec_capacity l.initial.pairs;
}
