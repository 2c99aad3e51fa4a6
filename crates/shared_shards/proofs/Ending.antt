-- What is added to a shard's log as a turn ends.
use Rattle.std.proofs.Common.{◌≡◌, ◌≢◌, ℕ, zero, suc, ◌^◌, ◌<◌, ◌≤◌, length-append, ◌∷◌, [], ◌++◌, List}
use Rattle.std.proofs.Common.{Bool, true, false, Option, None, Some, length, ◌∙◌, sym, ap, subst, refl, arith}
use Rattle.std.specs.Option.{is_some}
use Rattle.issuer_base.specs.declared.outside.store.Store.{Ghosts}
use Rattle.issuer_base.specs.declared.entry.Entry.{Entry}
use Rattle.journal_rec.specs.RecordText.{texts_of, version_line}
use Rattle.shard_book.specs.declared.shard.Shard.{Shard}
use Rattle.turn_book.specs.declared.logs.Log.{Log}
use Rattle.turn_book.specs.declared.view.Turn.TheVariants.{Free}
use Rattle.turn_book.specs.declared.view.TurnView.{TurnView}
use Rattle.turn_book.specs.Logs.{items_at, with_items}
use Rattle.turn_book.specs.TurnViews.{entered, free, counted}
use Rattle.turn_book.proofs.LogLemmas.{items-with_same, items-with_other, stands_below, heads-with, heads-length}
use Rattle.shared_shards.specs.declared.logs.LogHead.{LogHead}
use Rattle.shared_shards.specs.declared.logs.LogItem.{LogItem}
use Rattle.shared_shards.specs.ShardLogs.{records_of, StandsForLog}
use Rattle.shared_shards.specs.ShardSeats.{StandsIn}
use Rattle.shared_shards.specs.Turned.{log_after, turned, counted_if, item_by, added_by}
use Rattle.shared_shards.proofs.LogSteps.{items-length, texts-length}
use Rattle.shared_shards.proofs.Standing.{with-with, stands-open, head-at}

length-after : (items : List LogItem) (added : Option LogItem) → length items ≤ length (log_after items added)
length-after items None = omega arith
length-after items (Some item) = omega (arith, length-append items (item ∷ []))

-- the view with an item behind these, and the view without a turn
abbrev counted_as : ℕ → LogItem → List LogItem → TurnView LogItem LogHead → TurnView LogItem LogHead
counted_as shard item items view = record view { seen = with_items view.seen shard (items ++ item ∷ []); mine = (shard, length items) ∷ view.mine }

abbrev view-with : List (Log LogItem LogHead) → List (ℕ × ℕ) → TurnView LogItem LogHead → TurnView LogItem LogHead
view-with seen mine view = record view { seen = seen; mine = mine; turn = Free }

-- what is added, where something is
pub added-is : (entry : Option Entry) (fault : Bool) (count : ℕ) → is_some (added_by entry fault count) ≡ true
    → added_by entry fault count ≡ Some (item_by entry count)
added-is None true count adds = refl
added-is None false count adds = absurd (cc)
added-is (Some entry) fault count adds = refl

pub added-none : (added : Option LogItem) → is_some added ≡ false → added ≡ None
added-none None adds = refl
added-none (Some item) adds = absurd (cc)

-- the items that are there may be written
with-own : (logs : List (Log LogItem LogHead)) (number : ℕ) → with_items logs number (items_at logs number) ≡ logs
with-own [] number = refl
with-own (log ∷ logs) zero = refl
with-own (log ∷ logs) (suc number) = λ i. log ∷ with-own logs number i

-- the shard stands for the log with the item, and for the log as it was where there is none
module _ {S : Type 0} {G : Ghosts S} (shard : Shard S G) (view : TurnView LogItem LogHead) (number : ℕ) (added : Option LogItem)
    (stands : StandsIn shard (with_items view.seen number (log_after (items_at view.seen number) added)) number) where
  pub stands-with : (item : LogItem) (after : TurnView LogItem LogHead) → added ≡ Some item → after ≡ counted number item view
      → StandsIn shard after.seen number
  stands-with item after is after_is =
      subst (λ (after : TurnView LogItem LogHead). StandsIn shard after.seen number) (sym after_is)
      (subst (λ (added : Option LogItem). StandsIn shard (with_items view.seen number (log_after (items_at view.seen number) added)) number) is stands)

  pub stands-as_was : added ≡ None → StandsIn shard view.seen number
  stands-as_was is =
      subst (λ (logs : List (Log LogItem LogHead)). StandsIn shard logs number) (with-own view.seen number)
      (subst (λ (added : Option LogItem). StandsIn shard (with_items view.seen number (log_after (items_at view.seen number) added)) number) is stands)

module _ {S : Type 0} {G : Ghosts S} where
  -- a log that a shard stands for has fewer than 2^63 items
  pub log-length : (shard : Shard S G) (head : LogHead) (items : List LogItem) → StandsForLog shard head items → length items < 2 ^ 63
  log-length shard head items stands =
      let journal = stands.stands.journal_holds in
      let fits = shard.journal.fits in
      let records = texts-length (records_of items) journal.records in
      let whole = items-length items in
      let sure = journal.holds.sure_is in
      let text = length-append version_line (texts_of (records_of items)) in
      let few = stands.few in
      omega (arith, records, whole, sure, text, few, fits)

  -- so has one to which an item was added, before that
  pub room-left : (shard : Shard S G) (logs : List (Log LogItem LogHead)) (number : ℕ) (added : Option LogItem)
      → StandsIn shard (with_items logs number (log_after (items_at logs number) added)) number → length (items_at logs number) < 2 ^ 63
  room-left shard logs number added stands =
      let whole = with_items logs number (log_after (items_at logs number) added) in
      let below : number < length whole = stands_below (λ (shard : Shard S G) head items. StandsForLog shard head items) shard whole number stands in
      let same = heads-length whole logs (heads-with logs number (log_after (items_at logs number) added)) in
      let head = head-at whole number below in
      let few = log-length shard head.0 (items_at whole number)
      (stands-open (λ (shard : Shard S G) head items. StandsForLog shard head items) shard whole number head.0 head.1 stands) in
      let its : items_at whole number ≡ log_after (items_at logs number) added =
      items-with_same logs number (log_after (items_at logs number) added) (omega (arith, below, same)) in
      let long = length-after (items_at logs number) added in
      omega (arith, few, ap (λ (items : List LogItem). length items) its, long)

-- a turn that ends leaves the view of a turn at the shard
pub turned-is : (before : TurnView LogItem LogHead) (shard : ℕ) (between : List LogItem) (added : Option LogItem) → shard < length before.seen
    → free (counted_if shard added (entered shard between before)) ≡ turned shard between added before
turned-is before shard between None below = refl
turned-is before shard between (Some item) below =
    let its : items_at (with_items before.seen shard between) shard ≡ between = items-with_same before.seen shard between below in
    ap (λ (items : List LogItem). free (counted_as shard item items (entered shard between before))) its
    ∙ ap (λ (seen : List (Log LogItem LogHead)). view-with seen ((shard, length between) ∷ before.mine) before)
    (with-with before.seen shard between (between ++ item ∷ []))

-- after a turn the seat has seen the shard's log with what was added
pub turned-there : (before : TurnView LogItem LogHead) (shard : ℕ) (between : List LogItem) (added : Option LogItem) → shard < length before.seen
    → items_at (turned shard between added before).seen shard ≡ log_after between added
turned-there before shard between added below = items-with_same before.seen shard (log_after between added) below

-- and of the others what it had seen
pub turned-elsewhere : (before : TurnView LogItem LogHead) (shard other : ℕ) (between : List LogItem) (added : Option LogItem) → other ≢ shard
    → items_at (turned shard between added before).seen other ≡ items_at before.seen other
turned-elsewhere before shard other between added apart = items-with_other before.seen shard other (log_after between added) apart
