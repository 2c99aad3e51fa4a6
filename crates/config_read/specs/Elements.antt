-- What one element of each list of a configuration is parsed as: a key set, a card, a row of the decision table.
use Rattle.std.specs.Prelude.{ℕ, List, codes, ◌&&◌, Option, Some, None, is_none, if◌then◌else◌}
use Rattle.std.specs.Option.{option_and_then, option_map}
use Rattle.serde_json.specs.Data.{Data, null, boolean, number, string, array, object}
use Rattle.serde_json.specs.Find.{get, as_bool, as_u64}
use Rattle.des_block.specs.declared.Key16.{Key16}
use Rattle.key_derive.specs.declared.card.AesPair.{AesPair}
use Rattle.key_derive.specs.declared.card.KeySet.{KeySet}
use Rattle.decision_table.specs.declared.row.TableRow.{TableRow}
use Rattle.decision_table.specs.declared.row.TheConstants.{MAX_AMOUNT}
use Rattle.decision_table.specs.Tables.{tells_approval}
use Rattle.issuer_setup.specs.declared.card.CardInfo.{CardInfo}
use Rattle.config_read.specs.Json.{text_member, number_member}
use Rattle.config_read.specs.Words.{bytes_of, pan_of, psn_of, option_of, method_of, at_most}

-- the second step, if the first gave a value
infixl 10 ◌>>=◌
abbrev pub ◌>>=◌ : {A B : Type 0} → Option A → (A → Option B) → Option B
None >>= next = None
Some value >>= next = next value

-- the bytes that the text of this member spells in hexadecimal
abbrev pub bytes_member : List ℕ → ℕ → Data → Option (List ℕ)
bytes_member name count element = option_and_then (bytes_of count) (text_member name element)

-- the number of this member, if it is at most the greatest
abbrev pub number_up_to : List ℕ → ℕ → Data → Option ℕ
number_up_to name most element = option_and_then (at_most most) (number_member name element)

-- the AES keys of a key set: both members or neither
unfoldable pub aes_pair_in : Data → Option (Option AesPair)
aes_pair_in element =
    if is_none (get (codes "aes_ac") element) && is_none (get (codes "aes_smi") element) then Some None
    else (do
      ac ← bytes_member (codes "aes_ac") 16 element
      smi ← bytes_member (codes "aes_smi") 16 element
      Some (Some (record { ac = record { 0 = ac }; smi = record { 0 = smi } })))

-- the key of a key set for confidentiality: one with triple DES, or none without the member
unfoldable pub smc_in : Data → Option (Option Key16)
smc_in element =
    if is_none (get (codes "smc") element) then Some None
    else (do
      smc ← bytes_member (codes "smc") 16 element
      Some (Some (record { 0 = smc })))

-- a key set: its index, its option, its two triple DES keys, possibly its two AES keys, and possibly its key for
-- confidentiality
unfoldable pub key_set_in : Data → Option KeySet
key_set_in element = do
  dki ← number_up_to (codes "dki") 255 element
  option ← option_and_then option_of (text_member (codes "option") element)
  ac ← bytes_member (codes "ac") 16 element
  smi ← bytes_member (codes "smi") 16 element
  aes ← aes_pair_in element
  smc ← smc_in element
  Some (record { dki = dki; option = option; ac = record { 0 = ac }; smi = record { 0 = smi }; aes = aes; smc = smc })

-- a card: its account number, its sequence number and its method
unfoldable pub card_in : Data → Option CardInfo
card_in element = do
  pan ← option_and_then pan_of (text_member (codes "pan") element)
  psn ← option_and_then psn_of (text_member (codes "psn") element)
  method ← option_and_then method_of (number_member (codes "method") element)
  Some (record { pan = pan; psn = psn; method = method })

-- a status, 0 to 9, or `null` for any
abbrev pub status_from : Data → Option (Option ℕ)
status_from null = Some None
status_from (number n) = option_map (λ status. Some status) (option_and_then (at_most 9) (as_u64 n))
status_from (boolean _) = None
status_from (string _) = None
status_from (array _) = None
status_from (object _) = None

-- the row, if its card status update states the same decision
abbrev pub where_told : TableRow → Option TableRow
where_told row = if tells_approval row then Some row else None

-- a row of the decision table; its amounts are at most twelve digits
unfoldable pub row_in : Data → Option TableRow
row_in element = do
  tvr_mask ← bytes_member (codes "tvr_mask") 5 element
  tvr_value ← bytes_member (codes "tvr_value") 5 element
  cvr_mask ← bytes_member (codes "cvr_mask") 5 element
  cvr_value ← bytes_member (codes "cvr_value") 5 element
  least ← number_up_to (codes "least") MAX_AMOUNT element
  most ← number_up_to (codes "most") MAX_AMOUNT element
  status ← option_and_then status_from (get (codes "status") element)
  arc ← bytes_member (codes "arc") 2 element
  approve ← option_and_then as_bool (get (codes "approve") element)
  csu ← bytes_member (codes "csu") 4 element
  where_told (record {
    tvr_mask = tvr_mask;
    tvr_value = tvr_value;
    cvr_mask = cvr_mask;
    cvr_value = cvr_value;
    least = least;
    most = most;
    status = status;
    arc = arc;
    approve = approve;
    csu = csu;
  })
