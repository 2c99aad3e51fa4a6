-- The shards of an issuer: how many it may have.
use Rattle.std.specs.Prelude.{ℕ, Bool, ◌&&◌, nat_le, if◌then◌else◌, Option, None, Some}
use Rattle.issuer_base.specs.declared.limits.TheConstants.{MAX_SHARDS}

-- an issuer has 1 to 16 shards
abbrev pub are_shards : ℕ → Bool
are_shards shards = nat_le 1 shards && nat_le shards MAX_SHARDS

-- so many shards, if an issuer may have so many
abbrev pub shards_from : ℕ → Option ℕ
shards_from shards = if are_shards shards then Some shards else None
