-- The pairs so far are those of the cards so far, and the room is for those of all.
use Rattle.std.proofs.Common.{◌≡◌, ◌*◌, length, take, vec_capacity}
use Rattle.std.specs.List.{flat_map}
use Rattle.issuer_setup.specs.KeptKeys.{pairs_of}
use Rattle.issuer_setup.proofs.kept_keys.KeptKeys.underived.Given as goal

abbrev pub invariant-loop-card : goal.invariant-loop-card
invariant-loop-card l = record {
  derived : l.pairs.items ≡ flat_map (pairs_of l.keys) (take l.card-index l.cards);
  room : vec_capacity l.pairs ≡ length l.cards * length l.keys;
}
