-- The names of an issuer's cards in integers, for lookup by hash.
use Rattle.std.specs.Prelude.{◌≡◌, ℕ, ◌-◌, ◌/◌, Bool, ◌&&◌, ◌==◌, List, length, take, drop, IsTrue}
use Rattle.std.specs.HashMap.{HashMap, get}
use Rattle.std.specs.Int.{w64, from_le_bytes}
use Rattle.issuer_base.specs.CardNumber.{is_pan}
use Rattle.issuer_base.specs.CardNames.{CardName}
use Rattle.issuer_setup.specs.declared.card.CardInfo.{CardInfo}
use Rattle.issuer_setup.specs.declared.card_id.CardId.{CardId}
use Rattle.issuer_setup.specs.CardList.{number_of}

-- the eight digits from this index as the bytes of an integer
abbrev pub word_at : List ℕ → ℕ → ℕ
word_at digits index = from_le_bytes w64 (take 8 (drop index digits))

-- a name in integers: the first eight digits of its account number, the eight in the middle, the last eight, the number
-- of digits, and the sequence number
unfoldable pub card_id : CardName → CardId
card_id name = record {
  first = word_at name.pan 0;
  middle = word_at name.pan ((length name.pan - 8) / 2);
  last = word_at name.pan (length name.pan - 8);
  count = length name.pan;
  psn = name.psn;
}

-- whether two names in integers are equal
abbrev pub same_id : CardId → CardId → Bool
same_id a b = a.first == b.first && (a.middle == b.middle && (a.last == b.last && (a.count == b.count && a.psn == b.psn)))

-- the map has the number of each name among these cards
abbrev pub AreNumbersOf : {S : Type 0} → List CardInfo → HashMap CardId ℕ S → Type 0
AreNumbersOf cards numbers =
    (name : CardName) → IsTrue (is_pan name.pan) → get same_id numbers (card_id name) ≡ number_of name cards
