-- A world before any event, and its cards.
use Rattle.std.proofs.Common.{◌≡◌, List, [], length, map, Contains, replicate, refl, ap, ◌∙◌, Some}
use Rattle.std.proofs.lemmas.List.{length-map}
use Rattle.std.proofs.lemmas.Option.{slice_get_within, slice_get-map, get_or_from_slice_get}
use Rattle.std.specs.List.{slice_get}
use Rattle.issuer_setup.specs.declared.card.CardInfo.{CardInfo}
use Rattle.issuer_setup.specs.IssuerSetup.{Setup}
use Rattle.card_model.specs.Application.{CardState}
use Rattle.world_net.specs.declared.parts.MadeRequest.{MadeRequest}
use Rattle.world_net.specs.declared.parts.OpenClaim.{OpenClaim}
use Rattle.world_net.specs.declared.parts.Exchange.{Exchange}
use Rattle.world_net.specs.WorldState.{ShardState, no_shard}
use Rattle.world_net.specs.NewWorld.{AreUnder, AreFirst}
use Rattle.world_net.specs.WorldRuns.{IsNewWorld}
use Rattle.issuer_base.specs.declared.request.Suite.{Suite}
use Rattle.issuer_base.specs.declared.request.Suite.TheVariants.{TripleDes}
use Rattle.key_derive.specs.declared.card.KeySet.{KeySet}
use Rattle.key_derive.specs.CardKey.{des_keys}
use Rattle.card_model.specs.CardSteps.{new_card}
use Rattle.std.specs.Option.{option_map}

-- the first of some is one of them
first-known : {X : Type 0} (xs : List X) (x : X) → slice_get xs 0 ≡ Some x → Contains xs x
first-known xs x is = (0, slice_get_within xs 0 x is, get_or_from_slice_get xs 0 x x is)

-- a new card with triple DES
abbrev pub des_card : KeySet → CardInfo → CardState
des_card set info = new_card info.pan info.psn set.dki info.method (des_keys set info.pan info.psn)

-- such cards are under their key set
pub des_cards-under : (set : KeySet) (infos : List CardInfo) → AreUnder set TripleDes infos (length infos) (map (des_card set) infos)
des_cards-under set infos = record {
  count_is = length-map infos (des_card set);
  each = λ number info below info_is. (
    des_card set info,
    slice_get-map (des_card set) infos number ∙ ap (option_map (des_card set)) info_is,
    record { keys = des_keys set info.pan info.psn; derived = refl; card_is = refl },
  );
}

-- a world of new cards, without anything else
pub new-world : (issuer : Setup) (suite : Suite) (cards : List CardState) (shards : List ShardState) (made : List MadeRequest) (claims : List OpenClaim)
    (sent : List Exchange) → AreFirst issuer suite cards → shards ≡ replicate issuer.shards no_shard → made ≡ [] → claims ≡ []
    → sent ≡ [] → IsNewWorld issuer (record { issuer = issuer; cards = cards; made = made; shards = shards; claims = claims; sent = sent })
new-world issuer suite cards shards made claims sent first none none_made none_claimed none_sent = record {
  issuer_is = refl;
  count = first.cards_are.count_is;
  cards = λ number info info_is.
      let found = first.cards_are.each number info (slice_get_within issuer.cards number info info_is) info_is in
      let known = first-known issuer.keys first.set first.first in
      (found.0, found.1, record { set = first.set; known = known; suite = suite; under = found.2 });
  made = none_made;
  shards = none;
  claims = none_claimed;
  sent = none_sent;
}
