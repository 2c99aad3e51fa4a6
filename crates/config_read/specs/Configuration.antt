-- What a configuration is parsed as: an issuer, or its first fault.
use Rattle.std.specs.Prelude.{◌≡◌, ℕ, true, nat_le, if◌then◌else◌, List, length, Option, Some, None, is_some, Result, Ok, Err}
use Rattle.serde_json.specs.Data.{Data}
use Rattle.serde_json.specs.Find.{as_object}
use Rattle.issuer_setup.specs.Shards.{are_shards}
use Rattle.issuer_setup.specs.KeyList.{AreKeys}
use Rattle.issuer_setup.specs.CardList.{AreCards}
use Rattle.issuer_setup.specs.IssuerSetup.{Setup}
use Rattle.config_read.specs.declared.config.TheConstants.{MAX_CONFIG_BYTES}
use Rattle.config_read.specs.declared.fault.ConfigPart.TheVariants.{Whole}
use Rattle.config_read.specs.declared.fault.ConfigFault.{ConfigFault}
use Rattle.config_read.specs.declared.fault.ConfigFault.TheVariants.{NotJson, At}
use Rattle.config_read.specs.Json.{json_of}
use Rattle.config_read.specs.Parts.{◌>>=◌, shards_in, keys_in, cards_in, table_in}

-- a value, if it is an object
abbrev pub object_in : Data → Result Data ConfigFault
object_in value = if is_some (as_object value) then Ok value else Err (At Whole 0)

-- what an object is parsed as: its parts, checked in order; other members are ignored
abbrev pub setup_in : Data → Result Setup ConfigFault
setup_in value = do
  object ← object_in value
  shards ← shards_in object
  keys ← keys_in object
  cards ← cards_in object
  table ← table_in object
  Ok (record { shards = shards; keys = keys; cards = cards; table = table })

-- what a text is parsed as, if it is JSON
abbrev pub where_json : Option Data → Result Setup ConfigFault
where_json None = Err NotJson
where_json (Some value) = setup_in value

-- what a configuration of these bytes is parsed as; its length, at most 4,194,304, is checked first
unfoldable pub configured : List ℕ → Result Setup ConfigFault
configured bytes = if nat_le (length bytes) MAX_CONFIG_BYTES then where_json (json_of bytes) else Err (At Whole 0)

-- a parsed issuer has 1 to 16 shards, and valid key sets and cards
pub record HasValidParts (issuer : Setup) : Type 0 where
  pub shards : are_shards issuer.shards ≡ true
  pub keys : AreKeys issuer.keys
  pub cards : AreCards issuer.cards
