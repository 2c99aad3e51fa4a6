-- The shard of a card: what a known name's is, and that each name has one.
use Rattle.std.proofs.Common.{◌≡◌, ℕ, ◌<◌, ◌≤◌, ◌%◌, true, leb, Option, None, Some, ap, arith}
use Rattle.std.proofs.lemmas.Bool.{and_parts, leb-true}
use Rattle.std.specs.Option.{option_map_or}
use Rattle.issuer_base.specs.CardNames.{CardName}
use Rattle.issuer_setup.specs.CardList.{number_of}
use Rattle.issuer_base.specs.declared.limits.TheConstants.{MAX_SHARDS}
use Rattle.issuer_setup.specs.Shards.{are_shards}
use Rattle.issuer_setup.specs.IssuerSetup.{Setup, shard_of}

-- the shard of a card is its number modulo the number of shards
pub shard_of-known : (issuer : Setup) (name : CardName) (number : ℕ) → number_of name issuer.cards ≡ Some number → shard_of issuer name ≡ number % issuer.shards
shard_of-known issuer name number known = ap (λ (found : Option ℕ). option_map_or (λ number. number % issuer.shards) found 0) known

-- there is at least one shard, and at most 16
pub are_shards-range : (shards : ℕ) → are_shards shards ≡ true → (1 ≤ shards) × (shards ≤ MAX_SHARDS)
are_shards-range shards valid =
    let parts = and_parts (leb 1 shards) (leb shards MAX_SHARDS) valid in
    (leb-true 1 shards parts.0, leb-true shards MAX_SHARDS parts.1)

below : (shards : ℕ) (found : Option ℕ) → 1 ≤ shards → option_map_or (λ number. number % shards) found 0 < shards
below shards None some = omega arith
below shards (Some number) some = omega arith
