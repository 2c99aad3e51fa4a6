-- What is sure of every run of an issuer's host, by however many callers, whether or not it answered a line.
use Rattle.std.specs.Prelude.{ℕ, List, [], slice_index_or}
use Rattle.card_history.specs.OneReply.{IsOncePerCounter}
use Rattle.issuer_base.specs.CardNames.{CardName}
use Rattle.card_history.specs.ScriptOrder.{AreInOrder}
use Rattle.issuer_setup.specs.IssuerSetup.{Setup}
use Rattle.host_loading.specs.Books.{ShardBook, histories_of}
use Rattle.one_caller.specs.OneHistory.{GoOnLegally}
use Rattle.desk_host.specs.Worlds.{HaveSafeWorlds}

-- the run that began with the first books and ended with the last is lawful
pub record IsLawful (issuer : Setup) (first last : List ShardBook) : Type 0 where
  -- each history is extended by legal records, each new decision the table's, and no store's fault counter fell
  pub goes_on : GoOnLegally issuer first last
  -- no counter of a card was decided twice, whether in this run or before
  pub once : IsOncePerCounter (histories_of last)
  -- each card's commands went with replies in the order of its queue
  pub in_order : (card : CardName) (shard : ℕ) → AreInOrder card (slice_index_or (histories_of last) shard [])
  -- every world of the issuer is safe, and one has the last histories
  pub worlds : HaveSafeWorlds issuer (histories_of last)
