-- The key set has keys of the suite, from which the card's are derived.
use Rattle.std.proofs.Common.{◌∙◌, sym}
use Rattle.world_model.proofs.OpeningWorlds.{derives}
use Rattle.world_model.proofs.net.new_card.Goals as goal

pub unwrap-keys-requires : goal.unwrap-keys-requires
unwrap-keys-requires c = rw c.card_keys.ensures (derives c.args.set.now c.args.suite c.args.info.now.pan c.args.info.now.psn c.requires.suite)

pub returns : goal.returns
returns c = record {
  keys = c.unwrap-keys.result;
  derived = sym c.card_keys.ensures ∙ c.unwrap-keys.ensures;
  card_is = c.new.ensures;
}
