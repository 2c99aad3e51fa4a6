-- The cards of an issuer: which lists of cards are valid, and which card has a name.
use Rattle.std.specs.Prelude.{◌≡◌, ◌≢◌, ℕ, ◌≤◌, Bool, ◌&&◌, not, ◌==◌, nat_eq, nat_le, if◌then◌else◌, List, [], ◌∷◌, ◌++◌, length, Option, None, Some}
use Rattle.std.specs.Prelude.{IsTrue, All, AllPairs}
use Rattle.std.specs.Cmp.Lexicographic.{pointwise}
use Rattle.std.specs.List.{list_any, position_from}
use Rattle.issuer_base.specs.ChipData.{is_bcd}
use Rattle.issuer_base.specs.declared.limits.TheConstants.{MAX_CARDS}
use Rattle.issuer_base.specs.CardNames.{CardName}
use Rattle.issuer_setup.specs.declared.card.CardInfo.{CardInfo}
use Rattle.issuer_setup.specs.declared.cards.CardsFault.{CardsFault}
use Rattle.issuer_setup.specs.declared.cards.CardsFault.TheVariants.{Card, NoMemory}

-- the name of a card
abbrev pub name_of : CardInfo → CardName
name_of card = record { pan = card.pan; psn = card.psn }

-- whether the card has this name
unfoldable pub is_named : CardName → CardInfo → Bool
is_named name card = pointwise nat_eq name.pan card.pan && name.psn == card.psn

-- the number of the first card with this name, from 0, or none
abbrev pub number_of : CardName → List CardInfo → Option ℕ
number_of name cards = position_from (is_named name) 0 cards

-- the card's sequence number is decimal, and no card before it has its name
unfoldable pub may_follow : List CardInfo → CardInfo → Bool
may_follow before card = is_bcd card.psn && not (list_any (is_named (name_of card)) before)

-- the index of the first of these cards that may not follow those before it, or none
abbrev pub first_bad : List CardInfo → List CardInfo → Option ℕ
first_bad before [] = None
first_bad before (card ∷ cards) =
    if may_follow before card then first_bad (before ++ card ∷ []) cards else Some (length before)

-- the index at which a list of cards is refused, or none: 0 if it hasn't 1 to 4,096 cards, else that of its first bad
-- card
unfoldable pub bad_card : List CardInfo → Option ℕ
bad_card cards = if nat_le 1 (length cards) && nat_le (length cards) MAX_CARDS then first_bad [] cards else Some 0

-- a list of cards is refused at that card, or because memory ran out
abbrev pub IsCardsFault : List CardInfo → CardsFault → Type 0
IsCardsFault cards (Card index) = bad_card cards ≡ Some index
IsCardsFault cards NoMemory = Unit {0}

-- what an issuer's cards are: 1 to 4,096, with decimal sequence numbers, no two of one name
pub record AreCards (cards : List CardInfo) : Type 0 where
  pub some : 1 ≤ length cards
  pub few : length cards ≤ MAX_CARDS
  pub decimal : All (λ card. IsTrue (is_bcd card.psn)) cards
  pub distinct : AllPairs (λ first second. name_of first ≢ name_of second) cards
