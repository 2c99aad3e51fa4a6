-- The issuer of a played run is one, and each of its cards has the number that it is made for.
use Rattle.std.proofs.Common.{◌≡◌, ◌≢◌, ℕ, ◌+◌, ◌*◌, ◌/◌, ◌%◌, ◌<◌, ◌≤◌, length, All, Some, IsTrue, refl, ap, sym, subst, ◌∙◌, arith}
use Rattle.std.specs.Prelude.{slice_get, slice_index, slice_index_or, AllPairs}
use Rattle.std.proofs.lemmas.List.FromFn.{length-map-range_with_len, get_or-map-range_with_len}
use Rattle.std.proofs.lemmas.Option.{slice_get_within, slice_get-get_or, get_or_from_slice_get}
use Rattle.issuer_base.specs.declared.limits.TheConstants.{MAX_CARDS}
use Rattle.issuer_base.specs.ChipData.{is_bcd}
use Rattle.issuer_base.specs.CardNames.{CardName}
use Rattle.issuer_setup.specs.declared.card.CardInfo.{CardInfo}
use Rattle.issuer_setup.specs.CardList.{name_of, number_of}
use Rattle.world_net.specs.WorldRuns.{IsIssuer}
use Rattle.world_net.proofs.KeptWorlds.{number_of-own}
use Rattle.world_play.specs.Setting.{card_info, issuer}

-- a number is told by its last six digits
from_digits : (n : ℕ) → n < 1000000
    → 100000 * (n / 100000 % 10) + 10000 * (n / 10000 % 10) + 1000 * (n / 1000 % 10) + 100 * (n / 100 % 10) + 10 * (n / 10 % 10) + n % 10 ≡ n
from_digits n below = omega arith

digit : ℕ → CardName → ℕ
digit place name = slice_index name.pan place

-- cards of two numbers have two names
names-apart : (first second : ℕ) → first < second → second < 1000000 → name_of (card_info first) ≢ name_of (card_info second)
unfolding digit
names-apart first second below within same =
    let d0 : first / 100000 % 10 ≡ second / 100000 % 10 = ap (digit 10) same in
    let d1 : first / 10000 % 10 ≡ second / 10000 % 10 = ap (digit 11) same in
    let d2 : first / 1000 % 10 ≡ second / 1000 % 10 = ap (digit 12) same in
    let d3 : first / 100 % 10 ≡ second / 100 % 10 = ap (digit 13) same in
    let d4 : first / 10 % 10 ≡ second / 10 % 10 = ap (digit 14) same in
    let d5 : first % 10 ≡ second % 10 = ap (digit 15) same in
    let one = from_digits first (omega arith) in
    let other = from_digits second within in
    let equal : first ≡ second =
    sym one
    ∙ (λ i. 100000 * d0 i + 10000 * d1 i + 1000 * d2 i + 100 * d3 i + 10 * d4 i + d5 i)
    ∙ other in
    absurd (omega (arith, equal))

-- the issuer has so many cards
pub cards-count : (cards : ℕ) → length (issuer cards).cards ≡ cards
cards-count cards = length-map-range_with_len card_info 0 cards

-- and the card with a number is made for it
pub card-at : (cards number : ℕ) → number < cards → slice_get (issuer cards).cards number ≡ Some (card_info number)
card-at cards number below =
    let count = cards-count cards in
    slice_get-get_or (issuer cards).cards number (card_info number) (omega arith)
    ∙ ap Some (get_or-map-range_with_len card_info 0 cards number number (card_info number) below (omega arith))

pub card-is : (cards number : ℕ) (info : CardInfo) → slice_get (issuer cards).cards number ≡ Some info → (number < cards) × (card_info number ≡ info)
card-is cards number info is =
    let within = slice_get_within (issuer cards).cards number info is in
    let count = cards-count cards in
    let below : number < cards = omega arith in (
      below,
      sym (get_or-map-range_with_len card_info 0 cards number number info below (omega arith))
          ∙ get_or_from_slice_get (issuer cards).cards number info info is,
    )

zero-decimal : IsTrue (is_bcd 0)
unfolding is_bcd
zero-decimal = refl

all-cards : (cards : ℕ) (P : CardInfo → Type 0) → ((number : ℕ) → number < cards → P (card_info number)) → All P (issuer cards).cards
all-cards cards P each place other within =
    let count = cards-count cards in
    let below : place < cards = omega arith in
    subst P (sym (get_or-map-range_with_len card_info 0 cards place place other below (omega arith))) (each place below)

all-apart : (cards : ℕ) → cards ≤ MAX_CARDS → AllPairs (λ (first second : CardInfo). name_of first ≢ name_of second) (issuer cards).cards
all-apart cards few i j other below within =
    let count = cards-count cards in
    let j_below : j < cards = omega arith in
    let i_below : i < cards = omega arith in
    let one = get_or-map-range_with_len card_info 0 cards i i other i_below (omega arith) in
    let another = get_or-map-range_with_len card_info 0 cards j j other j_below (omega arith) in
    subst (λ (second : CardInfo). name_of (slice_index_or (issuer cards).cards i other) ≢ name_of second) (sym another)
    (subst (λ (first : CardInfo). name_of first ≢ name_of (card_info j)) (sym one) (names-apart i j below (omega arith)))

-- it can be
pub issuer-valid : (cards : ℕ) → 1 ≤ cards → cards ≤ MAX_CARDS → IsIssuer (issuer cards)
issuer-valid cards some few =
    let count = cards-count cards in
    record {
      shards = refl;
      cards = record {
        some = omega arith;
        few = omega arith;
        decimal = all-cards cards (λ info. IsTrue (is_bcd info.psn)) (λ number below. zero-decimal);
        distinct = all-apart cards few;
      };
    }

-- a card's name has the card's number
pub number-known : (cards number : ℕ) → IsIssuer (issuer cards) → number < cards
    → number_of (name_of (card_info number)) (issuer cards).cards ≡ Some number
number-known cards number valid below =
    number_of-own (issuer cards).cards number (card_info number) valid.cards (card-at cards number below)
