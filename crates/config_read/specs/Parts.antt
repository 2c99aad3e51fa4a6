-- The parts of a configuration, in order, each with its first fault: index 0 for the member itself, and i + 1 for its
-- element i.
use Rattle.std.specs.Prelude.{ℕ, ◌+◌, Bool, true, not, ◌&&◌, nat_le, if◌then◌else◌, List, [], length, codes, Option, Some, None, Result, Ok, Err}
use Rattle.std.specs.List.{list_any}
use Rattle.std.specs.Option.{option_and_then, ok_or}
use Rattle.serde_json.specs.Data.{Data}
use Rattle.issuer_base.specs.TheOnly.{the}
use Rattle.issuer_base.specs.declared.limits.TheConstants.{MAX_KEY_SETS, MAX_CARDS, MAX_TABLE_ROWS}
use Rattle.key_derive.specs.declared.card.KeySet.{KeySet}
use Rattle.decision_table.specs.declared.row.TableRow.{TableRow}
use Rattle.decision_table.specs.Tables.{ends_in_all}
use Rattle.issuer_setup.specs.declared.card.CardInfo.{CardInfo}
use Rattle.issuer_setup.specs.Shards.{shards_from}
use Rattle.issuer_setup.specs.Elements.{IsParsed}
use Rattle.issuer_setup.specs.KeyList.{has_dki}
use Rattle.issuer_setup.specs.CardList.{may_follow}
use Rattle.issuer_setup.proofs.Elements.{one_list}
use Rattle.config_read.specs.declared.fault.ConfigFault.{ConfigFault}
use Rattle.config_read.specs.declared.fault.ConfigFault.TheVariants.{At}
use Rattle.config_read.specs.declared.fault.ConfigPart.{ConfigPart}
use Rattle.config_read.specs.declared.fault.ConfigPart.TheVariants.{Shards, Keys, Cards, Table}
use Rattle.config_read.specs.Json.{number_member, list_member}
use Rattle.config_read.specs.Elements.{key_set_in, card_in, row_in}

-- the second step, if the first gave a value
infixl 10 ◌>>=◌
abbrev pub ◌>>=◌ : {A B : Type 0} → Result A ConfigFault → (A → Result B ConfigFault) → Result B ConfigFault
Ok value >>= next = next value
Err fault >>= next = Err fault

-- the elements of a part, if it is a list of 1 to `most`
abbrev pub part_elements : ConfigPart → List ℕ → ℕ → Data → Result (List Data) ConfigFault
part_elements part name most value =
    ok_or (option_and_then (λ elements.
    if nat_le 1 (length elements) && nat_le (length elements) most then Some elements else None) (list_member name value)) (At part 0)

-- what the elements of a part are parsed as, or its first fault: at a malformed element, or at one in conflict with an
-- earlier one
abbrev pub said_by : {A : Type 0} → ConfigPart → (Data → Option A) → (List A → A → Bool) → List Data
    → Result (List A) ConfigFault
said_by part parsed may_follow elements =
    the (IsParsed parsed may_follow (λ place. At part (place + 1)) [] elements)
    (one_list parsed may_follow (λ place. At part (place + 1)) elements)

-- the number of shards, 1 to 16
abbrev pub shards_in : Data → Result ℕ ConfigFault
shards_in value = ok_or (option_and_then shards_from (number_member (codes "shards") value)) (At Shards 0)

-- no key set before it has its index
abbrev pub is_new : List KeySet → KeySet → Bool
is_new before set = not (list_any (has_dki set.dki) before)

-- 1 to 16 key sets, no two with the same index
abbrev pub keys_in : Data → Result (List KeySet) ConfigFault
keys_in value = part_elements Keys (codes "keys") MAX_KEY_SETS value >>= said_by Keys key_set_in is_new

-- 1 to 4,096 cards, no two with the same account and sequence number
abbrev pub cards_in : Data → Result (List CardInfo) ConfigFault
cards_in value = part_elements Cards (codes "cards") MAX_CARDS value >>= said_by Cards card_in may_follow

-- no row is in conflict with an earlier one
abbrev pub follows_any : List TableRow → TableRow → Bool
follows_any before row = true

-- the rows, if the last matches every request; else the last is broken
abbrev pub where_last_takes_all : List TableRow → Result (List TableRow) ConfigFault
where_last_takes_all rows = if ends_in_all rows then Ok rows else Err (At Table (length rows))

-- 1 to 64 rows, of which the last matches every request
abbrev pub table_in : Data → Result (List TableRow) ConfigFault
table_in value = part_elements Table (codes "table") MAX_TABLE_ROWS value >>= said_by Table row_in follows_any
    >>= where_last_takes_all
