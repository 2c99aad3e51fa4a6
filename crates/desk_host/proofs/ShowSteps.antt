-- The lines of cards, one more at a time.
use Rattle.std.proofs.Common.{◌≡◌, ℕ, ◌+◌, ◌<◌, zero, suc, List, [], ◌∷◌, ◌++◌, length, take, drop, Option, None, Some}
use Rattle.std.proofs.Common.{true, false}
use Rattle.std.proofs.Common.{refl, sym, ap, ◌∙◌, subst, arith, append-nil, append_assoc, add-one}
use Rattle.std.specs.Prelude.{slice_get, ◌%◌, Result, Ok, Err, IsErr}
use Rattle.std.specs.Option.{option_map, option_map_or}
use Rattle.std.specs.Io.KnownBytes.{Appends}
use Rattle.std.proofs.KnownBytes.{Appends-trans}
use Rattle.std.proofs.lemmas.Option.{slice_get-map, get_or_from_slice_get}
use Rattle.issuer_base.specs.declared.outside.store.Store.{Ghosts}
use Rattle.issuer_base.specs.declared.faults.WriteFault.{WriteFault}
use Rattle.issuer_base.specs.Sink.{AppendsFront, WritesAll}
use Rattle.issuer_base.proofs.ManyCalls.{AppendsFront-after, AppendsFront-more}
use Rattle.issuer_base.specs.CardNames.{CardName}
use Rattle.issuer_setup.specs.declared.card.CardInfo.{CardInfo}
use Rattle.issuer_setup.specs.CardList.{name_of, number_of}
use Rattle.issuer_setup.specs.IssuerSetup.{Setup, shard_of}
use Rattle.shard_book.specs.declared.shard.Shard.{Shard}
use Rattle.desk_host.specs.CardText.{card_text}
use Rattle.card_history.specs.declared.card_view.CardView.{CardView}
use Rattle.host_loading.specs.Books.{ShardBook, histories_of}
use Rattle.host_loading.specs.Hosts.{AreShards, Stand}
use Rattle.card_history.specs.CardViews.{card_shown}
use Rattle.desk_host.specs.Shown.{shown_card, shown_text}
use Rattle.desk_host.proofs.SeenSteps.{at-place}

-- a piece of which a front was written was not written
pub writes-err : (a b : Option (List ℕ)) (result : Result (Unit {0}) WriteFault) (piece : List ℕ) → IsErr result
    → AppendsFront a b piece
    → WritesAll a b result piece
writes-err a b (Ok done) piece failed front = absurd (let e : false ≡ true = failed in cc)
writes-err a b (Err fault) piece failed front = front

module _ (issuer : Setup) (books : List ShardBook) where
  -- one card more
  shown-suc : (cards : List CardInfo) (n : ℕ) (card : CardInfo) → slice_get cards n ≡ Some card
      → shown_text issuer books (take (suc n) cards)
      ≡ shown_text issuer books (take n cards) ++ shown_card issuer books card
  shown-suc [] n card is = absurd (let e : None ≡ Some card = is in cc)
  shown-suc (first ∷ cards) zero card is =
      let same : first ≡ card = (let e : Some first ≡ Some card = is in cc) in
      append-nil (shown_card issuer books first) ∙ ap (shown_card issuer books) same
  shown-suc (first ∷ cards) (suc n) card is =
      ap (λ t. shown_card issuer books first ++ t) (shown-suc cards n card is)
      ∙ sym (append_assoc (shown_card issuer books first) (shown_text issuer books (take n cards))
      (shown_card issuer books card))

  -- all cards are those before a place and those from there on
  shown-parts : (cards : List CardInfo) (n : ℕ)
      → shown_text issuer books cards ≡ shown_text issuer books (take n cards) ++ shown_text issuer books (drop n cards)
  shown-parts cards zero = refl
  shown-parts [] (suc n) = refl
  shown-parts (first ∷ cards) (suc n) =
      ap (λ t. shown_card issuer books first ++ t) (shown-parts cards n)
      ∙ sym (append_assoc (shown_card issuer books first) (shown_text issuer books (take n cards))
      (shown_text issuer books (drop n cards)))

  module _ (n : ℕ) (card : CardInfo) (is : slice_get issuer.cards n ≡ Some card) (first mid now : Option (List ℕ))
      (line : List ℕ)
      (line_is : line ≡ shown_card issuer books card)
      (so_far : Appends first mid (shown_text issuer books (take n issuer.cards))) where
    pub shown-more : Appends mid now line → Appends first now (shown_text issuer books (take (n + 1) issuer.cards))
    shown-more written =
        let next : shown_text issuer books (take (n + 1) issuer.cards)
        ≡ shown_text issuer books (take n issuer.cards) ++ line =
        ap (λ k. shown_text issuer books (take k issuer.cards)) (add-one n) ∙ shown-suc issuer.cards n card is
        ∙ ap (λ l. shown_text issuer books (take n issuer.cards) ++ l) (sym line_is) in
        subst (Appends first now) (sym next) (Appends-trans first mid now _ _ so_far written)

    pub shown-front : AppendsFront mid now line → AppendsFront first now (shown_text issuer books issuer.cards)
    shown-front written =
        let front = AppendsFront-after first mid now (shown_text issuer books (take n issuer.cards)) line so_far
        written in
        let next = shown-suc issuer.cards n card is
        ∙ ap (λ l. shown_text issuer books (take n issuer.cards) ++ l) (sym line_is) in
        subst (AppendsFront first now) (sym (shown-parts issuer.cards (suc n)))
        (AppendsFront-more first now (shown_text issuer books (take (suc n) issuer.cards))
        (shown_text issuer books (drop (suc n) issuer.cards))
        (subst (AppendsFront first now) (sym next) front))

-- a card's shard is one of the issuer's
shard-within : (issuer : Setup) (name : CardName) → 0 < issuer.shards → shard_of issuer name < issuer.shards
shard-within issuer name some =
    elim (number_of name issuer.cards) as (λ found. option_map_or (λ number. number % issuer.shards) found 0
    < issuer.shards) [
      | None ↦ some
      | Some number ↦ omega arith
    ]

-- what a host shows of a card is what its shard's book says
pub shown-line : {S : Type 0} {G : Ghosts S} (issuer : Setup) (shards : List (Shard S G)) (books : List ShardBook)
    (card : CardInfo) (view : CardView)
    → AreShards issuer shards → Stand issuer shards books → 0 < issuer.shards
    → ((book : ShardBook) → slice_get books (shard_of issuer (name_of card)) ≡ Some book
    → view ≡ card_shown (name_of card) book.history)
    → card_text card.pan card.psn view ≡ shown_card issuer books card
shown-line issuer shards books card view are stand some shows =
    let below = shard-within issuer (name_of card) some in
    let count = stand.count_is in
    let many = are.count_is in
    let within : shard_of issuer (name_of card) < length books = omega (arith, below, count, many) in
    let book = at-place books (shard_of issuer (name_of card)) within in
    let histories : slice_get (histories_of books) (shard_of issuer (name_of card)) ≡ Some book.0.history =
    slice_get-map (λ (b : ShardBook). b.history) books (shard_of issuer (name_of card))
    ∙ ap (λ (o : Option ShardBook). option_map (λ (b : ShardBook). b.history) o) book.1 in
    let history = get_or_from_slice_get (histories_of books) (shard_of issuer (name_of card)) book.0.history []
    histories in
    ap (card_text card.pan card.psn) (shows book.0 book.1 ∙ ap (card_shown (name_of card)) (sym history))
