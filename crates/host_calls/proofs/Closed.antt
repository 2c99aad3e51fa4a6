-- What the last pass knows when a host is closed, and what the stores hold.
use Rattle.std.proofs.Common.{◌≡◌, ℕ, ◌+◌, ◌<◌, ◌≤◌, List, [], ◌∷◌, ◌++◌, length, take, drop, map, Some}
use Rattle.std.proofs.Common.{refl, sym, ap, ◌∙◌, subst, arith}
use Rattle.std.proofs.lemmas.List.{take-append-drop, take_at, length-map}
use Rattle.std.proofs.lemmas.Option.{same_Some, slice_get_within}
use Rattle.std.specs.List.{slice_get}
use Rattle.issuer_base.specs.Stores.{BothTold, LeavesOnly}
use Rattle.issuer_base.specs.declared.entry.Entry.{Entry}
use Rattle.issuer_base.specs.declared.outside.store.Store.{Ghosts}
use Rattle.issuer_setup.specs.IssuerSetup.{Setup}
use Rattle.claim_words.specs.declared.layout.TheConstants.{COUNTERS}
use Rattle.claim_words.specs.declared.view.ClaimView.{ClaimView}
use Rattle.claim_words.specs.declared.claim_words.ClaimWords.{ClaimWords}
use Rattle.claim_words.specs.ClaimViews.{claims_on, times, is_live, is_kept, is_any}
use Rattle.claim_words.specs.Seats.{recorded_in}
use Rattle.turn_book.specs.declared.logs.Log.{Log}
use Rattle.turn_book.specs.Logs.{heads_of, items_at, IsFront}
use Rattle.shard_book.specs.declared.shard.Shard.{Shard}
use Rattle.shard_book.specs.Grounds.{grounds_now, IsTail}
use Rattle.shard_book.specs.Shards.{disk_in, store_in}
use Rattle.shared_shards.specs.declared.logs.LogItem.{LogItem}
use Rattle.shared_shards.specs.declared.logs.LogItem.TheVariants.{Record, Fault}
use Rattle.shared_shards.specs.declared.logs.LogHead.{LogHead}
use Rattle.shared_shards.specs.Opening.{head_with}
use Rattle.shared_shards.specs.ShardLogs.{records_of, StandsForLog}
use Rattle.shared_shards.specs.ShardSeats.{StandForLogs}
use Rattle.shard_book.specs.Histories.{GoesOn, IsImageBetween}
use Rattle.one_caller.specs.OneHistory.{LegallyGoesOn}
use Rattle.shared_laws.specs.Closing.{book_of, IsClosed, AreClosed, AreClaimsSettled}
use Rattle.shared_laws.specs.OpeningLogs.{AreCounted, AreRecordedIn}
use Rattle.host_loading.proofs.Places.{read-within, read-map}
use Rattle.one_caller.proofs.Running.{holds-with}
use Rattle.host_calls.proofs.Sharing.{items-there}

-- the records of a log that goes on go on
records-append : (items more : List LogItem) → records_of (items ++ more) ≡ records_of items ++ records_of more
records-append [] more = refl
records-append (Record entry ∷ items) more = λ i. entry ∷ records-append items more i
records-append (Fault count ∷ items) more = records-append items more

pub records-go_on : (first last : List LogItem) → IsFront first last → GoesOn (records_of first) (records_of last)
records-go_on first last front =
    let rest : List LogItem = drop (length first) last in
    let parts : first ++ rest ≡ last = ap (λ (front : List LogItem). front ++ rest) (sym front) ∙ take-append-drop (length first) last in
    (records_of rest, ap records_of (sym parts) ∙ records-append first rest)

-- a log's opening records are those of the log that it goes on from
opening-are : (first last : List LogItem) → GoesOn (records_of first) (records_of last) → take (length (records_of first)) (records_of last) ≡ records_of first
opening-are first last on =
    ap (take (length (records_of first))) on.1 ∙ take_at (records_of first) on.0 (length (records_of first)) refl

-- logs with equal heads are as many
pub as-many : (opening seen : List (Log LogItem LogHead)) → heads_of seen ≡ heads_of opening → length seen ≡ length opening
as-many opening seen heads =
    let head : Log LogItem LogHead → LogHead = λ log. log.head in
    sym (length-map seen head) ∙ ap (λ (heads : List LogHead). length heads) heads ∙ length-map opening head

module _ {S : Type 0} {G : Ghosts S} where
  -- the store of one shard
  closed-shard : (issuer : Setup) (number records : ℕ) (first last : Log LogItem LogHead) (shard : Shard S G)
      → records ≡ length (records_of first.items) → IsFront first.items last.items
      → StandsForLog shard (head_with issuer number first.head.faults records first.head.opened) last.items
      → IsClosed G.bytes G.disk G.faults issuer number first last (store_in shard)
  closed-shard issuer number records first last shard counted front stands =
      let journal = stands.stands.journal_holds in
      let history : List Entry = records_of last.items in
      let tail_is = subst (λ number. IsTail (grounds_now issuer) number history journal.tail) stands.number_is journal.tail_is in
      let on = records-go_on first.items last.items front in
      let legally : LegallyGoesOn issuer number (records_of first.items) history = record {
        goes_on = on;
        legal = stands.legal;
        by_table = λ place entry past is. stands.by_table place entry (omega (arith, counted, past)) is;
      } in
      record {
        goes_on = legally;
        from = λ old since. record { since = since; goes_on = legally };
        records = journal.records;
        holds = holds-with issuer number (book_of last (G.faults (store_in shard))) shard.journal journal.tail tail_is
            (λ untold. journal.holds.tail_is (stands.undoubted (stands.told_is ∙ untold))) journal.holds;
        since = subst (λ (opening : List Entry). BothTold (LeavesOnly (IsImageBetween issuer number opening history)) first.head.opened (disk_in shard))
            (ap (λ count. take count history) counted ∙ opening-are first.items last.items on) stands.since;
        rise = stands.counts;
      }

  pub closed-all : (issuer : Setup) (opening seen : List (Log LogItem LogHead)) (shards : List (Shard S G)) → heads_of seen ≡ heads_of opening
      → length opening ≡ issuer.shards
      → ((number : ℕ) (head : LogHead) → slice_get (heads_of opening) number ≡ Some head → head ≡ head_with issuer number head.faults head.records head.opened)
      → AreCounted opening → ((shard : ℕ) → IsFront (items_at opening shard) (items_at seen shard)) → StandForLogs shards seen
      → AreClosed G.bytes G.disk G.faults issuer opening seen (map (λ (shard : Shard S G). store_in shard) shards)
  closed-all issuer opening seen shards heads count headed counted fronts stand =
      let kept : Shard S G → S = λ shard. store_in shard in
      let head : Log LogItem LogHead → LogHead = λ log. log.head in
      let long : length seen ≡ length opening = as-many opening seen heads in
      record {
        count_is = length-map shards kept ∙ stand.count_is ∙ long ∙ count;
        each = λ number first last store first_is last_is store_is.
            let below = slice_get_within seen number last last_is in
            let shard = read-within shards number (omega (arith, stand.count_is)) in
            let its : store_in shard.0 ≡ store = same_Some (store_in shard.0) store (sym (read-map kept shards number shard.0 shard.1) ∙ store_is) in
            let there : slice_get (heads_of opening) number ≡ Some first.head = read-map head opening number first first_is in
            let last_there : slice_get (heads_of seen) number ≡ Some last.head = read-map head seen number last last_is in
            let same : last.head ≡ first.head =
            same_Some last.head first.head (sym last_there ∙ ap (λ (heads : List LogHead). slice_get heads number) heads ∙ there) in
            let stands : StandsForLog shard.0 (head_with issuer number first.head.faults first.head.records first.head.opened) last.items =
            subst (λ (head : LogHead). StandsForLog shard.0 head last.items) (same ∙ headed number first.head there)
            (stand.each number shard.0 last shard.1 last_is) in
            let front : IsFront first.items last.items =
            subst (λ (items : List LogItem). IsFront items last.items) (items-there opening number first first_is)
            (subst (IsFront (items_at opening number)) (items-there seen number last last_is) (fronts number)) in
            subst (λ (store : S). IsClosed G.bytes G.disk G.faults issuer number first last store) its
            (closed-shard issuer number first.head.records first last shard.0 (counted number first first_is) front stands);
      }

-- what became of the claims, by the opening logs
pub settled-all : (issuer : Setup) (opening : List (Log LogItem LogHead)) (words : ClaimWords) (view : ClaimView) → AreRecordedIn issuer opening words
    → ((card counter : ℕ) → 0 < times card counter view.found → 0 < recorded_in words card counter + claims_on is_any card counter view.claims)
    → ((card counter : ℕ) → 0 < times card counter view.tops → 0 < recorded_in words card counter + claims_on is_kept card counter view.claims)
    → ((card counter : ℕ) → counter < COUNTERS → recorded_in words card counter + claims_on is_live card counter view.claims ≤ 1)
    → AreClaimsSettled issuer opening view
settled-all issuer opening words view recorded found tops once = record {
  found = λ card counter below some. omega (arith, recorded card counter below, found card counter some);
  tops = λ card counter below some. omega (arith, recorded card counter below, tops card counter some);
  once = λ card counter below. omega (arith, recorded card counter below, once card counter below);
}
