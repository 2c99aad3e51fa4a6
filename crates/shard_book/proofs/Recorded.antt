-- What the rows list is recorded, and nothing else is.
use Rattle.std.proofs.Common.{◌≡◌, ℕ, Bool, true, false, ◌&&◌, eqb, ltb, ◌+◌, ◌*◌, ◌/◌, ◌%◌, ◌<◌, ◌≤◌, List, [], ◌∷◌, ◌++◌, length, take, drop}
use Rattle.std.proofs.Common.{get_or, Some, Result, Ok, Err, IfOk, inl, inr, refl, ap, sym, ◌∙◌, subst, arith}
use Rattle.std.proofs.lemmas.Bool.{cases_eq, and_from, and_left, and_right, and_parts, eq-eqb, ne_eqb, eqb-true, lt-ltb, ltb-true}
use Rattle.std.proofs.lemmas.List.{take-append-drop}
use Rattle.std.proofs.lemmas.List.Folds.{Any-from_list_any, list_any_at}
use Rattle.std.proofs.lemmas.Nat.{div-mul-add, mod-mul-add}
use Rattle.std.proofs.lemmas.Option.{slice_get_within, slice_get-get_or}
use Rattle.std.specs.List.{slice_get, Contains, Any}
use Rattle.counter_bits.specs.CounterSets.{has, times, one_if}
use Rattle.counter_bits.proofs.Listing.{below-more, times-append}
use Rattle.issuer_base.specs.declared.entry.Entry.{Entry}
use Rattle.card_history.specs.declared.decision.Decision.{Decision}
use Rattle.card_history.specs.Records.{decided}
use Rattle.issuer_setup.specs.declared.card.CardInfo.{CardInfo}
use Rattle.issuer_setup.specs.CardList.{name_of}
use Rattle.issuer_setup.specs.IssuerSetup.{Setup}
use Rattle.shard_book.specs.ShardRows.{ShardRows, Covers, Lists, RowsStandFor, is_decided}
use Rattle.shard_book.specs.Recorded.{IsRecorded, AddsRecorded}
use Rattle.shard_book.proofs.Places.{number-from}

turned : (m n : ℕ) → m + n ≡ n + m
turned m n = omega arith

one-most : (is : Bool) → one_if is ≤ 1
one-most true = omega arith
one-most false = omega arith

one-true : (is : Bool) → 0 < one_if is → is ≡ true
one-true true some = refl
one-true false some = absurd (omega (arith, some))

card-there : (cards : List CardInfo) (number : ℕ) → number < length cards → (card : CardInfo) × (slice_get cards number ≡ Some card)
card-there [] number below = absurd (omega (arith, below))
card-there (card ∷ cards) number below = (get_or (card ∷ cards) number card, slice_get-get_or (card ∷ cards) number card below)

-- a decision on an ATC
decision-there : (counter : ℕ) (decisions : List Decision) → Any (λ decision. eqb counter decision.request.atc ≡ true) decisions
    → (decision : Decision) × Contains decisions decision × (decision.request.atc ≡ counter)
decision-there counter decisions any = (any.1, (any.0, any.2, any.3), sym (eqb-true counter any.1.request.atc any.4))

-- ---- the number of the card whose row has an index
at-home : (shard index shards : ℕ) → shard < shards → (shard + index * shards) % shards ≡ shard
at-home shard index shards inside = ap (λ (n : ℕ). n % shards) (turned shard (index * shards)) ∙ mod-mul-add index shards shard inside

at-place : (shard index shards : ℕ) → shard < shards → (shard + index * shards) / shards ≡ index
at-place shard index shards inside = ap (λ (n : ℕ). n / shards) (turned shard (index * shards)) ∙ div-mul-add index shards shard inside

-- it is one of the issuer's
pub number-within : (rows : ShardRows) → Covers rows → (index : ℕ) → index < rows.bits.cards → rows.shard + index * rows.shards < rows.cards
number-within rows covers index below =
    (covers.sets (rows.shard + index * rows.shards) (at-home rows.shard index rows.shards covers.inside)).1
    (subst (λ (place : ℕ). place < rows.bits.cards) (sym (at-place rows.shard index rows.shards covers.inside)) below)

-- a number is that one if it is of this shard and its index is the row's
number-test : (shard shards index number : ℕ) → shard < shards
    → eqb (shard + index * shards) number ≡ (eqb (number % shards) shard && eqb index (number / shards))
number-test shard shards index number inside =
    elim (cases_eq (shard + index * shards) number) [
      | inl same ↦
          let home : number % shards ≡ shard = ap (λ (n : ℕ). n % shards) (sym same) ∙ at-home shard index shards inside in
          let place : index ≡ number / shards = sym (at-place shard index shards inside) ∙ ap (λ (n : ℕ). n / shards) same in
          eq-eqb (shard + index * shards) number same
          ∙ sym (and_from (eqb (number % shards) shard) (eqb index (number / shards))
          (eq-eqb (number % shards) shard home) (eq-eqb index (number / shards) place))
      | inr apart ↦
          ne_eqb (shard + index * shards) number apart
          ∙ sym (elim (cases_eq (number % shards) shard) [
            | inl home ↦
                and_right (eqb (number % shards) shard) (eqb index (number / shards))
                (ne_eqb index (number / shards) (λ place. apart (ap (λ (n : ℕ). shard + n * shards) place ∙ sym (number-from number shards shard home))))
            | inr away ↦ and_left (eqb (number % shards) shard) (eqb index (number / shards)) (ne_eqb (number % shards) shard away)
          ])
    ]

and-over : (its here one other : Bool) → (here ≡ true → one ≡ other) → ((its && here) && one) ≡ (its && (here && other))
and-over true true one other same = same refl
and-over true false one other same = refl
and-over false here one other same = refl

-- the ATCs of one card more are listed
pub lists-more : (rows : ShardRows) → Covers rows → (index number counter : ℕ)
    → one_if (eqb (number % rows.shards) rows.shard && (ltb (number / rows.shards) index && has rows.bits (number / rows.shards) counter))
    + one_if (eqb (rows.shard + index * rows.shards) number && has rows.bits index counter)
    ≡ one_if (eqb (number % rows.shards) rows.shard && (ltb (number / rows.shards) (index + 1) && has rows.bits (number / rows.shards) counter))
lists-more rows covers index number counter =
    let its : Bool = eqb (number % rows.shards) rows.shard in
    let place : ℕ = number / rows.shards in
    let here : (eqb (rows.shard + index * rows.shards) number && has rows.bits index counter) ≡ (its && (eqb index place && has rows.bits place counter)) =
    ap (λ (there : Bool). there && has rows.bits index counter) (number-test rows.shard rows.shards index number covers.inside)
    ∙ and-over its (eqb index place) (has rows.bits index counter) (has rows.bits place counter)
    (λ same. ap (λ (n : ℕ). has rows.bits n counter) (eqb-true index place same)) in
    let step = below-more its (has rows.bits place counter) place index in
    let counted = ap one_if here in
    omega (arith, step, counted)

-- ---- what is listed is recorded
module _ (issuer : Setup) (rows : ShardRows) (covers : Covers rows) (history : List Entry) (stands : RowsStandFor issuer rows history) (number counter : ℕ) where
  abbrev is_listed : Bool
  is_listed = eqb (number % rows.shards) rows.shard && (ltb (number / rows.shards) rows.bits.cards && has rows.bits (number / rows.shards) counter)

  recorded-if_listed : is_listed ≡ true → IsRecorded issuer rows.shard history number counter
  unfolding is_decided
  recorded-if_listed listed =
      let parts = and_parts (eqb (number % rows.shards) rows.shard) _ listed in
      let inner = and_parts (ltb (number / rows.shards) rows.bits.cards) _ parts.1 in
      let home : number % rows.shards ≡ rows.shard = eqb-true (number % rows.shards) rows.shard parts.0 in
      let within = (covers.sets number home).1 (ltb-true (number / rows.shards) rows.bits.cards inner.0) in
      let card = card-there issuer.cards number (let cards = stands.of_issuer.cards_are in omega (arith, within, cards)) in
      let row = stands.each number card.0 (record { within = within; home = home }) card.1 in
      let any = Any-from_list_any (λ (decision : Decision). eqb counter decision.request.atc) (decided (name_of card.0) history)
      (sym (row.counters_are counter) ∙ inner.1) in
      let found = decision-there counter (decided (name_of card.0) history) any in
      record {
        card = card.0;
        card_is = card.1;
        home = ap (λ (shards : ℕ). number % shards) (sym stands.of_issuer.shards_are) ∙ home;
        decision = found.0;
        is_decided = found.1;
        on_counter = found.2;
      }

  listed-if_recorded : IsRecorded issuer rows.shard history number counter → is_listed ≡ true
  unfolding is_decided
  listed-if_recorded recorded =
      let home : number % rows.shards ≡ rows.shard = ap (λ (shards : ℕ). number % shards) stands.of_issuer.shards_are ∙ recorded.home in
      let within : number < rows.cards =
      let below = slice_get_within issuer.cards number recorded.card recorded.card_is in
      let cards = stands.of_issuer.cards_are in omega (arith, below, cards) in
      let row = stands.each number recorded.card (record { within = within; home = home }) recorded.card_is in
      let place = (covers.sets number home).0 within in
      let decisions = decided (name_of recorded.card) history in
      let on : eqb counter (get_or decisions recorded.is_decided.0 recorded.decision).request.atc ≡ true =
      eq-eqb counter _ (sym (ap (λ (decision : Decision). decision.request.atc) recorded.is_decided.2 ∙ recorded.on_counter)) in
      let any =
      list_any_at (λ (decision : Decision). eqb counter decision.request.atc) decisions recorded.is_decided.0 recorded.decision recorded.is_decided.1 on in
      and_from (eqb (number % rows.shards) rows.shard) _ (eq-eqb (number % rows.shards) rows.shard home)
      (and_from (ltb (number / rows.shards) rows.bits.cards)
      (has rows.bits (number / rows.shards) counter) (lt-ltb (number / rows.shards) rows.bits.cards place)
      (row.counters_are counter ∙ any))

-- so the recorded ATCs were appended to the list
pub adds-recorded : (issuer : Setup) (rows : ShardRows) → Covers rows → (history : List Entry) → RowsStandFor issuer rows history → (list longer : List (ℕ × ℕ))
    → take (length list) longer ≡ list → Lists rows list longer → AddsRecorded issuer rows.shard history list longer
adds-recorded issuer rows covers history stands list longer kept lists =
    let added : List (ℕ × ℕ) = drop (length list) longer in
    let behind : longer ≡ list ++ added = sym (take-append-drop (length list) longer) ∙ ap (λ (front : List (ℕ × ℕ)). front ++ added) kept in
    let counted : (number counter : ℕ) → times number counter added ≡ one_if (is_listed issuer rows covers history stands number counter) =
    λ number counter.
    let both = ap (times number counter) behind ∙ times-append number counter list added in
    omega (arith, both, lists number counter) in
    record {
      added = added;
      behind = behind;
      once = λ number counter. let most = one-most (is_listed issuer rows covers history stands number counter) in omega (arith, counted number counter, most);
      exact = λ number counter. (
        λ some.
            recorded-if_listed issuer rows covers history stands number counter
            (one-true (is_listed issuer rows covers history stands number counter) (omega (arith, counted number counter, some))),
        λ recorded.
            let one = ap one_if (listed-if_recorded issuer rows covers history stands number counter recorded) in
            omega (arith, counted number counter, one),
      );
    }

-- a fact at Ok implies a weaker one there
pub ok-weaker : {X E : Type 0} (result : Result X E) (P Q : Type 0) → (P → Q) → IfOk result (λ _. P) → IfOk result (λ _. Q)
ok-weaker (Ok x) P Q weaker says = weaker says
ok-weaker (Err e) P Q weaker says = says
