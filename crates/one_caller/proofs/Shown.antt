-- A card's row in a host's shards, and the history that it stands for.
use Rattle.std.proofs.Common.{◌≡◌, ℕ, ◌/◌, ◌%◌, List, get_or, Some, sym, ap, subst, ◌∙◌, arith}
use Rattle.std.proofs.lemmas.Option.{same_Some, slice_get_within, get_or_from_slice_get}
use Rattle.std.specs.List.{slice_get}
use Rattle.issuer_base.specs.declared.outside.store.Store.{Ghosts}
use Rattle.issuer_setup.specs.declared.card.CardInfo.{CardInfo}
use Rattle.issuer_setup.specs.CardList.{AreCards, name_of, number_of}
use Rattle.issuer_setup.specs.IssuerSetup.{Setup, shard_of}
use Rattle.issuer_setup.proofs.CardListLemmas.{number_of-first}
use Rattle.issuer_setup.proofs.Names.{name_at-get_or, name_at-slice_get}
use Rattle.issuer_setup.proofs.Shards.{shard_of-known}
use Rattle.shard_book.specs.CardRow.{CardRow, StandsFor as RowStandsFor}
use Rattle.shard_book.specs.declared.shard.Shard.{Shard}
use Rattle.host_loading.specs.Books.{ShardBook}
use Rattle.host_loading.specs.Hosts.{AreShards, Stand}
use Rattle.one_caller.proofs.OneShard.{card-at_home}

-- a card's name determines its number
pub number-known : (cards : List CardInfo) (number : ℕ) (card : CardInfo) → AreCards cards → slice_get cards number ≡ Some card
    → number_of (name_of card) cards ≡ Some number
number-known cards number card valid is =
    let within = slice_get_within cards number card is in
    let own : name_of (get_or cards number card) ≡ name_of card = ap name_of (get_or_from_slice_get cards number card card is) in
    number_of-first (name_of card) cards number within (name_at-slice_get cards number card is)
    (λ before lower same.
    valid.distinct before number card lower within (sym (name_at-get_or cards before card (omega arith)) ∙ same ∙ sym own))

-- a row of a card of the host's shards stands for the history of the card's shard
module _ {S : Type 0} {G : Ghosts S} (issuer : Setup) (shards : List (Shard S G)) (are : AreShards issuer shards) (valid : AreCards issuer.cards)
    (card home : ℕ) (home_is : home ≡ card % issuer.shards) (shard : Shard S G) (shard_is : slice_get shards home ≡ Some shard) (row : CardRow)
    (row_is : slice_get shard.rows.rows (card / shard.rows.shards) ≡ Some row) where
  pub row-of : (books : List ShardBook) (info : CardInfo) (book : ShardBook) → Stand issuer shards books → slice_get issuer.cards card ≡ Some info
      → slice_get books (shard_of issuer (name_of info)) ≡ Some book → RowStandsFor info row book.history
  row-of books info book stand info_is book_is =
      let known = number-known issuer.cards card info valid info_is in
      let at : shard_of issuer (name_of info) ≡ home = shard_of-known issuer (name_of info) card known ∙ sym home_is in
      let stands = stand.each home shard book shard_is (subst (λ home. slice_get books home ≡ Some book) at book_is) in
      let here = card-at_home issuer shards are card home shard (slice_get_within issuer.cards card info info_is) shard_is home_is in
      let found = stands.stands.rows_stand.each card info here info_is in
      subst (λ (row : CardRow). RowStandsFor info row book.history) (same_Some found.row row (sym found.row_is ∙ row_is)) found.stands
