-- The cards and the rows of a world before any event.
use Rattle.std.proofs.Common.{◌≡◌, ℕ, ◌+◌, ◌%◌, List, [], ◌∷◌, ◌++◌, length, map, Contains, replicate, refl, ap, sym, ◌∙◌, subst, inl, inr, Some, arith}
use Rattle.std.specs.Prelude.{◌<◌, Option, None, is_some, IsTrue}
use Rattle.std.proofs.lemmas.Bool.{cases_eq}
use Rattle.std.proofs.lemmas.List.{length_push, length-map, get_or_push, get_or_append_left}
use Rattle.std.proofs.lemmas.Option.{same_Some, slice_get_within, slice_get-get_or, slice_get-map, get_or_from_slice_get}
use Rattle.std.specs.List.{slice_get}
use Rattle.issuer_setup.specs.declared.card.CardInfo.{CardInfo}
use Rattle.issuer_setup.specs.IssuerSetup.{Setup}
use Rattle.row_core.specs.CardRow.{CardRow, StandsFor}
use Rattle.card_model.specs.Application.{CardState}
use Rattle.world_net.specs.declared.parts.MadeRequest.{MadeRequest}
use Rattle.world_net.specs.declared.parts.OpenClaim.{OpenClaim}
use Rattle.world_net.specs.declared.parts.Exchange.{Exchange}
use Rattle.world_net.specs.WorldState.{ShardState, no_shard}
use Rattle.world_net.specs.NewWorld.{AreUnder}
use Rattle.world_model.specs.OpeningWorld.{AreEmpty}
use Rattle.world_net.specs.WorldRuns.{IsCardUnder, IsNewWorld}
use Rattle.issuer_base.specs.declared.request.Suite.{Suite}
use Rattle.issuer_base.specs.declared.request.Suite.TheVariants.{TripleDes, Aes}
use Rattle.key_derive.specs.declared.card.AesPair.{AesPair}
use Rattle.key_derive.specs.declared.card.KeySet.{KeySet}
use Rattle.key_derive.specs.CardKey.{des_keys, aes_keys, card_keys}
use Rattle.issuer_setup.specs.KeyList.{has_suite}
use Rattle.card_model.specs.CardSteps.{new_card}
use Rattle.std.specs.Option.{option_map}
use Rattle.world_model.specs.Stepping.{RowsStand}
use Rattle.world_net.proofs.Hosts.{at, none-at}

-- each of the first elements has its partner: one more element, and its partner
each-more : {X Y : Type 0} (R : X → Y → Type 0) (xs : List X) (count : ℕ) (ys longer : List Y) (x : X) (y : Y) → length ys ≡ count
    → ((number : ℕ) (other : X) → number < count → slice_get xs number ≡ Some other → (z : Y) × (slice_get ys number ≡ Some z) × R other z)
    → slice_get xs count ≡ Some x → R x y → longer ≡ ys ++ y ∷ []
    → (number : ℕ) (other : X) → number < count + 1 → slice_get xs number ≡ Some other → (z : Y) × (slice_get longer number ≡ Some z) × R other z
each-more R xs count ys longer x y count_is each x_is related longer_is number other below other_is =
    let long : length (ys ++ y ∷ []) ≡ length ys + 1 = length_push ys y in
    elim (cases_eq number count) [
      | inl same ↦
          let its : x ≡ other = same_Some x other (sym x_is ∙ ap (slice_get xs) (sym same) ∙ other_is) in
          let at_end : length ys ≡ number = omega arith in
          let read : slice_get longer number ≡ Some y =
          ap (λ list. slice_get list number) longer_is
          ∙ slice_get-get_or (ys ++ y ∷ []) number y (omega arith)
          ∙ ap Some (get_or_push ys y y number at_end) in
          (y, read, subst (λ z. R z y) its related)
      | inr not_it ↦
          let found = each number other (omega arith) other_is in
          let within = slice_get_within ys number found.0 found.1 in
          let read : slice_get longer number ≡ Some found.0 =
          ap (λ list. slice_get list number) longer_is
          ∙ slice_get-get_or (ys ++ y ∷ []) number y (omega arith)
          ∙ ap Some (get_or_append_left ys (y ∷ []) y number within ∙ get_or_from_slice_get ys number found.0 y found.1) in
          (found.0, read, found.2)
    ]

length-more : {Y : Type 0} (ys longer : List Y) (y : Y) (count : ℕ) → length ys ≡ count → longer ≡ ys ++ y ∷ [] → length longer ≡ count + 1
length-more ys longer y count count_is longer_is = ap length longer_is ∙ length_push ys y ∙ ap (λ n. n + 1) count_is

-- one more empty row
pub empty-more : (cards : List CardInfo) (count : ℕ) (rows longer : List CardRow) (card : CardInfo) (row : CardRow) → AreEmpty cards count rows
    → slice_get cards count ≡ Some card → StandsFor card row [] → longer ≡ rows ++ row ∷ [] → AreEmpty cards (count + 1) longer
empty-more cards count rows longer card row empty card_is stands longer_is = record {
  count_is = length-more rows longer row count empty.count_is longer_is;
  each = each-more (λ (card : CardInfo) (row : CardRow). StandsFor card row []) cards count rows longer card row empty.count_is empty.each card_is stands longer_is;
}

-- empty rows stand for shards without records
pub empty-stand : (issuer : Setup) (rows : List CardRow) (shards : List ShardState) → AreEmpty issuer.cards (length issuer.cards) rows
    → shards ≡ replicate issuer.shards no_shard → RowsStand issuer rows shards
empty-stand issuer rows shards empty none = record {
  each = λ number info info_is.
      let found = empty.each number info (slice_get_within issuer.cards number info info_is) info_is in
      let state : at shards (number % issuer.shards) ≡ no_shard =
      ap (λ (shards : List ShardState). at shards (number % issuer.shards)) none ∙ none-at issuer.shards (number % issuer.shards) in
      (found.0, found.1, subst (λ (state : ShardState). StandsFor info found.0 state.history) (sym state) found.2);
}

-- one more card
pub cards-more : (set : KeySet) (suite : Suite) (infos : List CardInfo) (count : ℕ) (cards longer : List CardState) (info : CardInfo)
    (card : CardState) → AreUnder set suite infos count cards → slice_get infos count ≡ Some info → IsCardUnder set suite info card
    → longer ≡ cards ++ card ∷ [] → AreUnder set suite infos (count + 1) longer
cards-more set suite infos count cards longer info card before info_is under longer_is = record {
  count_is = length-more cards longer card count before.count_is longer_is;
  each = each-more (IsCardUnder set suite) infos count cards longer info card before.count_is before.each info_is under longer_is;
}

-- a key set that has keys of a suite derives a card's
pub derives : (set : KeySet) (suite : Suite) (pan : List ℕ) (psn : ℕ) → IsTrue (has_suite suite set) → IsTrue (is_some (card_keys set suite pan psn))
derives set TripleDes pan psn has = refl
derives set Aes pan psn has = of_pair set.aes has
  where
    of_pair : (pair : Option AesPair) → IsTrue (is_some pair) → IsTrue (is_some (option_map (λ pair. aes_keys pair pan psn) pair))
    of_pair None has = has
    of_pair (Some pair) has = refl
