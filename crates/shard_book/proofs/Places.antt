-- The index of a card's row among those of its shard.
use Rattle.std.proofs.Common.{◌≡◌, ◌≢◌, ℕ, ◌+◌, ◌-◌, ◌*◌, ◌/◌, ◌%◌, ◌^◌, ◌<◌, ◌≤◌, ◌↔◌, false}
use Rattle.std.proofs.Common.{List, [], ◌∷◌, ◌++◌, length, Some, ap, sym, ◌∙◌, subst, inl, inr, arith}
use Rattle.std.proofs.Math.Nat.{div-add-mod, mul_comm, mul-le-mul_right}
use Rattle.std.proofs.lemmas.Bool.{cases_eq, cases_lt}
use Rattle.std.proofs.lemmas.Nat.{le-div, div-add-mod'}
use Rattle.std.proofs.lemmas.List.{length_push, get_or_push, get_or_append_left}
use Rattle.std.proofs.lemmas.Option.{same_Some, slice_get_within, slice_get-get_or, get_or_from_slice_get}
use Rattle.std.specs.List.{slice_get}
use Rattle.counter_bits.specs.CounterSets.{has}
use Rattle.issuer_setup.specs.declared.card.CardInfo.{CardInfo}
use Rattle.issuer_setup.specs.IssuerSetup.{Setup}
use Rattle.row_core.specs.CardRow.{CardRow, StandsFor as RowStandsFor}
use Rattle.shard_book.specs.ShardRows.{ShardRows, Covers, AreRowsOf, AreEmpty, IsEmptyAt, RowsStandFor, is_decided}

-- a number from its index and its shard
pub number-from : (number shards shard : ℕ) → number % shards ≡ shard → number ≡ shard + (number / shards) * shards
number-from number shards shard home =
    let whole = div-add-mod number shards in
    let turned = mul_comm shards (number / shards) in
    omega arith

-- two cards of a shard have different places
pub places-differ : (number other shards shard : ℕ) → number % shards ≡ shard → other % shards ≡ shard → other ≢ number → other / shards ≢ number / shards
places-differ number other shards shard home other_home not_it same =
    not_it (number-from other shards shard other_home ∙ ap (λ place. shard + place * shards) same ∙ sym (number-from number shards shard home))

-- an index whose card is one of the first so many
place-below : (place count shard shards : ℕ) → shard + place * shards < shard + count * shards → place < count
place-below place count shard shards below =
    elim (cases_lt place count) [
      | inl less ↦ less
      | inr more ↦ let most = mul-le-mul_right shards more in absurd (let impossible = below in omega (arith, most, impossible))
    ]

-- the rows of a shard's cards, made one after another, with a set for each, cover the shard and stand for no records
pub empty-covers : (issuer : Setup) (rows : ShardRows) → rows.shard < rows.shards → rows.cards < 2 ^ 32 → AreRowsOf issuer rows
    → AreEmpty issuer rows.shard rows.rows
    → ((number : ℕ) → number % rows.shards ≡ rows.shard → ((number < rows.cards) ↔ (number / rows.shards < rows.bits.cards))) → Covers rows
empty-covers issuer rows inside small of_issuer empty sets = record {
  inside = inside;
  small = small;
  each = λ number home.
      let its = number-from number rows.shards rows.shard home.home in
      let whole = subst (λ shards. length issuer.cards ≤ rows.shard + length rows.rows * shards) (sym of_issuer.shards_are) empty.whole in
      place-below (number / rows.shards) (length rows.rows) rows.shard rows.shards
      (let within = home.within in let cards = of_issuer.cards_are in omega (arith, its, whole, within, cards));
  sets = sets;
}

pub empty-stands : (issuer : Setup) (rows : ShardRows) → Covers rows → AreRowsOf issuer rows → AreEmpty issuer rows.shard rows.rows
    → ((index counter : ℕ) → has rows.bits index counter ≡ false) → RowsStandFor issuer rows []
unfolding is_decided
empty-stands issuer rows covers of_issuer empty none = record {
  of_issuer = of_issuer;
  each = λ number card home card_is.
      let its : number ≡ rows.shard + (number / rows.shards) * issuer.shards =
      number-from number rows.shards rows.shard home.home ∙ ap (λ shards. rows.shard + (number / rows.shards) * shards) of_issuer.shards_are in
      let found = empty.each (number / rows.shards) card (covers.each number home) (subst (λ number. slice_get issuer.cards number ≡ Some card) its card_is) in
      record { row = found.0; row_is = found.1; stands = found.2; counters_are = λ counter. none (number / rows.shards) counter };
}

next-place : (place shards : ℕ) → (place + 1) * shards ≡ place * shards + shards
next-place place shards = mul_comm (place + 1) shards ∙ grind (arith, mul_comm shards place)

-- how many cards a shard has
pub home-count : (cards shards shard number : ℕ) → shard < shards → number % shards ≡ shard
    → ((number < cards) ↔ (number / shards < (cards + shards - 1 - shard) / shards))
home-count cards shards shard number inside home = (
  λ below.
      let its = number-from number shards shard home in
      let more : (number / shards + 1) * shards ≡ number / shards * shards + shards = next-place (number / shards) shards in
      let reached = le-div (number / shards + 1) (cards + shards - 1 - shard) shards (omega arith) (omega (arith, its, more, below, inside)) in
      omega (arith, reached),
  λ within.
      let its = number-from number shards shard home in
      let more : (number / shards + 1) * shards ≡ number / shards * shards + shards = next-place (number / shards) shards in
      let reached : number / shards + 1 ≤ (cards + shards - 1 - shard) / shards = omega (arith, within) in
      let up = mul-le-mul_right shards reached in
      let whole = div-add-mod' (cards + shards - 1 - shard) shards in
      omega (arith, its, more, up, whole, inside),
)

-- one more empty row
pub empty-more : (issuer : Setup) (shard : ℕ) (rows longer : List CardRow) (card : CardInfo) (row : CardRow) (number : ℕ)
    → ((place : ℕ) (card : CardInfo) → place < length rows → IsEmptyAt issuer shard rows place card) → number ≡ shard + length rows * issuer.shards
    → slice_get issuer.cards number ≡ Some card → RowStandsFor card row [] → longer ≡ rows ++ row ∷ []
    → (place : ℕ) (card : CardInfo) → place < length longer → IsEmptyAt issuer shard longer place card
empty-more issuer shard rows longer card row number each number_is card_is stands longer_is place other within other_is =
    let long : length longer ≡ length rows + 1 = ap length longer_is ∙ length_push rows row in
    elim (cases_eq place (length rows)) [
      | inl same ↦
          let its : card ≡ other = same_Some card other
          (sym card_is ∙ ap (slice_get issuer.cards) (number_is ∙ ap (λ place. shard + place * issuer.shards) (sym same))
          ∙ other_is) in
          let read : slice_get longer place ≡ Some row =
          ap (λ rows. slice_get rows place) longer_is
          ∙ slice_get-get_or (rows ++ row ∷ []) place row (let pushed = length_push rows row in omega arith)
          ∙ ap Some (get_or_push rows row row place (sym same)) in
          (row, read, subst (λ (card : CardInfo). RowStandsFor card row []) its stands)
      | inr not_it ↦
          let found = each place other (omega arith) other_is in
          let below = slice_get_within rows place found.0 found.1 in
          let read : slice_get longer place ≡ Some found.0 =
          ap (λ rows. slice_get rows place) longer_is
          ∙ slice_get-get_or (rows ++ row ∷ []) place row (let pushed = length_push rows row in omega arith)
          ∙ ap Some (get_or_append_left rows (row ∷ []) row place below ∙ get_or_from_slice_get rows place found.0 row found.1) in
          (found.0, read, found.2)
    ]

-- the number of the card after the last row's
pub next-number : (card shard count shards : ℕ) → card ≡ shard + count * shards → card + shards ≡ shard + (count + 1) * shards
next-number card shard count shards is =
    let more : (count + 1) * shards ≡ count * shards + shards = mul_comm (count + 1) shards ∙ grind (arith, mul_comm shards count) in
    omega (arith, is, more)
