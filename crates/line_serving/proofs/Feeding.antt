-- Lines of a feed, read ahead and taken: one line more, and each end.
use Rattle.std.proofs.Common.{◌≡◌, ℕ, ◌+◌, Bool, false, List, [], ◌∷◌, ◌++◌, length, map, Option, None, Some, Ok, Err, Result}
use Rattle.std.proofs.Common.{refl, sym, ap, subst, ◌∙◌, arith, append-nil, append_assoc}
use Rattle.std.proofs.lemmas.List.{length-append, map-append}
use Rattle.std.proofs.lemmas.Bool.{true≢false}
use Rattle.std.specs.List.{AllByRecursion, AllZip, flat_map}
use Rattle.std.specs.Io.KnownBytes.{Consumes, IsAtEnd}
use Rattle.std.proofs.KnownBytes.{Consumes-nil, Consumes-trans}
use Rattle.issuer_base.specs.declared.entry.Entry.{Entry}
use Rattle.issuer_base.specs.declared.outside.store.Store.{Ghosts}
use Rattle.issuer_base.specs.Tells.{Tells}
use Rattle.issuer_base.proofs.ManyCalls.{Tells-whole}
use Rattle.issuer_base.specs.declared.limits.TheConstants.{KEPT_BYTES}
use Rattle.issuer_setup.specs.IssuerSetup.{Setup}
use Rattle.line_reader.specs.Lines.{BeginsWithLines, IsLinesAndRest, IsUnbroken, ended, lines}
use Rattle.line_reader.specs.Reading.{Reading, HasGivenLines, IsWithinLimits, StaysWithinLimits, unread, kept}
use Rattle.line_reader.specs.NextLine.{GivesLine, GivesRest, ReachesEnd, StopsAtFault, StopsAtLimit}
use Rattle.line_reader.proofs.LineLaws.{BeginsWithLines-given, IsLinesAndRest-same, length-begins}
use Rattle.line_reader.proofs.WholeLines.{HasGivenLines-unread, HasGivenLines-line, IsLinesAndRest-rest}
use Rattle.line_reader.proofs.WholeLines.{IsLinesAndRest-end, IsLinesAndRest-fault, PassesLimit-stopped}
use Rattle.line_reader.proofs.WholeLines.{lines-end_reached, lines-rest_given}
use Rattle.line_blocks.proofs.InputFronts.{front-read}
use Rattle.host_loading.specs.Hosts.{AreShards}
use Rattle.shard_book.specs.declared.shard.Shard.{Shard}
use Rattle.standby_node.specs.declared.feed_lines.FeedLines.{FeedLines}
use Rattle.standby_node.specs.declared.line.FeedFault.{FeedFault}
use Rattle.standby_node.specs.declared.line.FeedFault.TheVariants.{BadFeed as BadLine, StoreFault as StoreFails}
use Rattle.standby_node.specs.declared.standby.Standby.{Standby}
use Rattle.standby_node.specs.ReadLines.{AreAhead, IsNoneAhead, IsReadAs, IsReady}
use Rattle.standby_node.specs.Standing.{Feeds, HasTaken, Hold, IsInHand, KeepsShards, LeavesBetween, shards_in}
use Rattle.standby_node.specs.Streams.{TakesLines}
use Rattle.standby_node.proofs.Shards.{leaves-same, leaves-then, shards-then}
use Rattle.line_serving.specs.Following.{AreWithinLimits, FollowsFeed, HasInHand, HasLines, ReadsOn, TakesFeed, WritesCounts}
use Rattle.line_serving.specs.Following.{MayWait, ended_by, fault_of, in_doubt_after, stopped_by, write_failed}
use Rattle.line_serving.specs.declared.follower.Followed.{Followed}
use Rattle.line_serving.specs.declared.follower.Followed.TheVariants.{All, ReadFault, WriteFault, TooLong, BadFeed, StoreFault}
use Rattle.line_serving.proofs.KeptLines.{kept-unbroken, kept_text, stops_at_record-read, stops_badly-read, takes-read}
use Rattle.line_serving.proofs.KeptLines.{within-given}

-- no store failed
abbrev pub HasNoStore : Followed → Type 0
HasNoStore (StoreFault shard) = ⊥
HasNoStore _ = Unit {0}

none_in_hand : {S : Type 0} {G : Ghosts S} (followed : Followed) → HasNoStore followed → (issuer : Setup)
    (opening : List (List Entry)) (file read : List ℕ) (histories : List (List Entry))
    (takes : TakesFeed issuer opening file read followed histories) (new : List (Shard S G))
    → HasInHand issuer opening file read followed histories takes new
none_in_hand All fails issuer opening file read histories takes new = tt
none_in_hand ReadFault fails issuer opening file read histories takes new = tt
none_in_hand WriteFault fails issuer opening file read histories takes new = tt
none_in_hand (TooLong line) fails issuer opening file read histories takes new = tt
none_in_hand (BadFeed line) fails issuer opening file read histories takes new = tt
none_in_hand (StoreFault shard) fails issuer opening file read histories takes new = absurd fails

-- an input at its end has nothing left
none-left : (now : Option (List ℕ)) → IsAtEnd now → Tells now []
none-left None end = tt
none-left (Some rest) end = end

-- nothing is in doubt
abbrev pub none : ℕ → Bool
none number = false

-- these bytes were read, and these whole lines of them were returned
pub record HasReadLines (was now : Option (List ℕ)) (reader : Reading) : Type 0 where
  pub read : List ℕ
  pub whole : List (List ℕ)
  pub consumed : Consumes was now read
  pub given : HasGivenLines reader read whole

abbrev pub lines-none : (was : Option (List ℕ)) (reader : Reading) → reader ≡ unread → HasReadLines was was reader
lines-none was reader new = record {
  read = [];
  whole = [];
  consumed = Consumes-nil was;
  given = subst (λ r. HasGivenLines r [] []) (sym new) HasGivenLines-unread;
}

abbrev pub lines-more : (was mid now : Option (List ℕ)) (old new : Reading) → HasReadLines was mid old → GivesLine mid now old new
    → HasReadLines was now new
lines-more was mid now old new so_far gives = record {
  read = so_far.read ++ gives.given;
  whole = so_far.whole ++ gives.line ∷ [];
  consumed = Consumes-trans was mid now so_far.read gives.given so_far.consumed gives.consumed;
  given = HasGivenLines-line mid now old new so_far.read so_far.whole so_far.given gives;
}

-- the line in hand has no newline
pub line-unbroken : (was now : Option (List ℕ)) (old in_hand : Reading) → GivesLine was now old in_hand
    → IsUnbroken in_hand.line
line-unbroken was now old in_hand gives =
    subst IsUnbroken (sym gives.counted.in_hand) (kept-unbroken KEPT_BYTES gives.line gives.unbroken)

kept-more : (lines : List (List ℕ)) (line in_hand : List ℕ) → in_hand ≡ kept line
    → map kept lines ++ in_hand ∷ [] ≡ map kept (lines ++ line ∷ [])
kept-more lines line in_hand same =
    ap (λ (l : List ℕ). map kept lines ++ l ∷ []) same ∙ sym (map-append kept lines (line ∷ []))

each-then : (lines more : List (List ℕ)) → AllByRecursion IsUnbroken lines → AllByRecursion IsUnbroken more
    → AllByRecursion IsUnbroken (lines ++ more)
each-then [] more each others = others
each-then (line ∷ lines) more each others = (each.0, each-then lines more each.1 others)

-- ---- lines that wait

-- what taking the lines that wait does
abbrev pub TakesAhead : {S : Type 0} {G : Ghosts S} (issuer : Setup) (ahead : FeedLines) (old : Standby S G)
    (result : Result (Unit {0}) FeedFault) (new : Standby S G) → Type 0
TakesAhead issuer ahead old result new =
    (in_doubt : ℕ → Bool) (opening histories : List (List Entry)) (stream : List ℕ) (lines : List (List ℕ))
    → (was : HasTaken issuer in_doubt opening stream old histories) → AreAhead histories lines ahead
    → (after : List (List Entry))
    × Feeds issuer in_doubt opening (flat_map ended (was.taken.lines ++ lines)) result new after
    × LeavesBetween issuer histories after (shards_in old) (shards_in new)

none-ahead : (histories : List (List Entry)) (ahead : FeedLines) → IsNoneAhead ahead → AreAhead histories [] ahead
none-ahead histories ahead none_waits = record {
  whole = tt;
  read = subst (AllZip (IsReadAs histories) []) (sym none_waits.no_lines) tt;
}

pub waits-none : (issuer : Setup) (ahead : FeedLines) → IsNoneAhead ahead → MayWait issuer ahead
waits-none issuer ahead none_waits =
    let count = ap length none_waits.no_lines in
    record {
      ready =
          subst (λ read. AllZip (IsReady issuer) read ahead.found.items) (sym none_waits.no_lines)
          (subst (AllZip (IsReady issuer) []) (sym none_waits.none_found) tt);
      room = omega (arith, count);
    }

module _ {S : Type 0} {G : Ghosts S} (issuer : Setup) (opening : List (List Entry)) where
  -- no line was read
  has-none : (node : Standby S G) (ahead : FeedLines) → HasTaken issuer none opening [] node opening → IsNoneAhead ahead
      → HasLines issuer opening [] ahead node opening
  has-none node ahead opened none_waits =
      let parts = IsLinesAndRest-same [] opened.taken.lines [] opened.taken.rest [] opened.taken.split
      (record { begins = record { joined = refl; each = tt }; unbroken = tt }) in
      record {
        stream = [];
        has_taken = opened;
        waiting = [];
        are_ahead = none-ahead opening ahead none_waits;
        lines_are = sym (ap (λ (ls : List (List ℕ)). ls ++ []) parts.0);
      }

  module _ (lines : List (List ℕ)) (ahead : FeedLines) (old : Standby S G) (histories : List (List Entry))
      (has : HasLines issuer opening lines ahead old histories) where
    has-unbroken : AllByRecursion IsUnbroken lines
    has-unbroken =
        subst (AllByRecursion IsUnbroken) (sym has.lines_are)
        (each-then has.has_taken.taken.lines has.waiting has.has_taken.taken.split.begins.each has.are_ahead.whole)

    -- all that wait are taken
    has-taken : (result : Result (Unit {0}) FeedFault) (new : Standby S G) → TakesAhead issuer ahead old result new
        → (after : List (List Entry)) × Feeds issuer none opening (flat_map ended lines) result new after
        × LeavesBetween issuer histories after (shards_in old) (shards_in new)
    has-taken result new takes =
        let it = takes none opening histories has.stream has.waiting has.has_taken has.are_ahead in (
          it.0,
          subst (λ (ls : List (List ℕ)). Feeds issuer none opening (flat_map ended ls) result new it.0) (sym has.lines_are)
              it.1,
          it.2,
        )

    -- so none waits, or the lines have a fault
    has-read : (result : Result (Unit {0}) FeedFault) (new_ahead : FeedLines) (new : Standby S G)
        (after : List (List Entry)) → IsNoneAhead new_ahead → Feeds issuer none opening (flat_map ended lines) result new after
        → ReadsOn issuer opening lines result new_ahead new after
    has-read (Ok done) new_ahead new after none_waits taken =
        let parts = IsLinesAndRest-same (flat_map ended lines) taken.taken.lines lines taken.taken.rest [] taken.taken.split
        (record { begins = record { joined = sym (append-nil (flat_map ended lines)); each = has-unbroken }; unbroken = tt }) in
        record {
          stream = flat_map ended lines;
          has_taken = taken;
          waiting = [];
          are_ahead = none-ahead after new_ahead none_waits;
          lines_are = sym (append-nil taken.taken.lines ∙ parts.0);
        }
    has-read (Err fault) new_ahead new after none_waits feeds = feeds

    -- another waits
    pub has-more : (line shown : List ℕ) (new_ahead : FeedLines) → shown ≡ line
        → ((in_doubt : ℕ → Bool) (histories : List (List Entry)) (lines : List (List ℕ))
        → Hold issuer in_doubt (shards_in old) histories → AreAhead histories lines ahead
        → AreAhead histories (lines ++ shown ∷ []) new_ahead)
        → HasLines issuer opening (lines ++ line ∷ []) new_ahead old histories
    has-more line shown new_ahead same waits =
        subst (λ (l : List ℕ). HasLines issuer opening (lines ++ l ∷ []) new_ahead old histories) same
        (record {
          stream = has.stream;
          has_taken = has.has_taken;
          waiting = has.waiting ++ shown ∷ [];
          are_ahead = waits none histories has.waiting has.has_taken.hold has.are_ahead;
          lines_are =
              ap (λ (ls : List (List ℕ)). ls ++ shown ∷ []) has.lines_are
              ∙ append_assoc has.has_taken.taken.lines has.waiting (shown ∷ []);
        })

  -- all were taken, and none waits
  pub reads-on : (lines : List (List ℕ)) (ahead : FeedLines) (old : Standby S G) (histories : List (List Entry))
      → HasLines issuer opening lines ahead old histories → (result : Result (Unit {0}) FeedFault) (new_ahead : FeedLines)
      (new : Standby S G) → IsNoneAhead new_ahead → TakesAhead issuer ahead old result new
      → (after : List (List Entry)) × ReadsOn issuer opening lines result new_ahead new after
      × LeavesBetween issuer histories after (shards_in old) (shards_in new)
  reads-on lines ahead old histories has result new_ahead new none_waits takes =
      let it = has-taken lines ahead old histories has result new takes in
      (it.0, has-read lines ahead old histories has result new_ahead new it.0 none_waits it.1, it.2)

-- ---- a feed

module _ {S : Type 0} {G : Ghosts S} (issuer : Setup) (first : Standby S G) (was : Option (List ℕ)) where
  -- the lines that were returned were read ahead, truncated, and the first of them taken
  pub record HasFedLines (now : Option (List ℕ)) (reader : Reading) (ahead : FeedLines) (node : Standby S G)
      : Type 0 where
    pub lines : HasReadLines was now reader
    pub fed : (opening : List (List Entry)) → HasTaken issuer none opening [] first opening
        → (histories : List (List Entry)) × HasLines issuer opening (map kept lines.whole) ahead node histories
        × LeavesBetween issuer opening histories (shards_in first) (shards_in node)

  pub fed-none : (reader : Reading) (ahead : FeedLines) → reader ≡ unread → IsNoneAhead ahead
      → AreShards issuer (shards_in first) → HasFedLines was reader ahead first
  fed-none reader ahead new none_waits are = record {
    lines = lines-none was reader new;
    fed = λ opening opened. (
      opening,
      has-none issuer opening first ahead opened none_waits,
      leaves-same issuer (shards_in first) are none opening opened.hold,
    );
  }

  -- taking the feed ended so
  abbrev pub Follows : Option (List ℕ) → Standby S G → Followed → Type 0
  Follows now node followed =
      (opening : List (List Entry)) → HasTaken issuer none opening [] first opening
      → (histories : List (List Entry)) × FollowsFeed issuer opening was now first node followed histories

  -- these lines were taken, truncated, with this result
  abbrev LinesFed : List (List ℕ) → Result (Unit {0}) FeedFault → Standby S G → Type 0
  LinesFed whole result new =
      (opening : List (List Entry)) → HasTaken issuer none opening [] first opening
      → (after : List (List Entry)) × Feeds issuer none opening (kept_text whole) result new after
      × LeavesBetween issuer opening after (shards_in first) (shards_in new)

  -- ---- a fault of its lines

  module _ (now : Option (List ℕ)) (read : List ℕ) (whole : List (List ℕ)) (ahead : List ℕ)
      (consumed : Consumes was now read) (begins : BeginsWithLines read whole ahead) (within : AreWithinLimits whole)
      (new : Standby S G) where
    -- a line is bad
    follows-bad : (number : ℕ) → LinesFed whole (Err (BadLine number)) new → Follows now new (BadFeed number)
    follows-bad number fed opening opened =
        let it = fed opening opened in
        let parts = front-read was now read consumed in (
          it.0,
          record {
            file = read ++ parts.rest;
            read = read;
            content = parts.content;
            was_read = record { unread = parts.rest; split = refl; tells = parts.left };
            takes = stops_badly-read issuer opening it.0 read whole ahead begins within number it.1.0;
            hold = it.1.1;
            in_hand = tt;
            leaves = it.2;
          },
        )

    -- a store failed at the record of one
    follows-failed : (shard : ℕ) → LinesFed whole (Err (StoreFails shard)) new → Follows now new (StoreFault shard)
    follows-failed shard fed opening opened =
        let it = fed opening opened in
        let at = it.1 in
        let its = stops_at_record-read issuer opening it.0 read whole ahead begins within at.number at.line shard at.history
        at.entry at.stops at.next in
        let parts = front-read was now read consumed in (
          it.0,
          record {
            file = read ++ parts.rest;
            read = read;
            content = parts.content;
            was_read = record { unread = parts.rest; split = refl; tells = parts.left };
            takes = its.0;
            hold = at.hold;
            in_hand =
                subst (λ (e : Entry). IsInHand none shard its.0.history e (shards_in new)) (sym its.2)
                (subst (λ (h : List Entry). IsInHand none shard h at.entry (shards_in new)) (sym its.1) at.in_hand);
            leaves = it.2;
          },
        )

    follows-stopped : (fault : FeedFault) → LinesFed whole (Err fault) new → Follows now new (stopped_by fault)
    follows-stopped (BadLine number) fed = follows-bad number fed
    follows-stopped (StoreFails shard) fed = follows-failed shard fed

  -- ---- a line more

  module _ (mid now : Option (List ℕ)) (old in_hand : Reading) (ahead new_ahead : FeedLines) (node new : Standby S G)
      (so_far : HasFedLines mid old ahead node) (gives : GivesLine mid now old in_hand) where
    -- the line in hand was read ahead, with this result
    abbrev pub LineRead : Result (Unit {0}) FeedFault → Type 0
    LineRead result =
        (opening histories : List (List Entry)) (lines : List (List ℕ)) → HasLines issuer opening lines ahead node histories
        → (after : List (List Entry)) × ReadsOn issuer opening (lines ++ in_hand.line ∷ []) result new_ahead new after
        × LeavesBetween issuer histories after (shards_in node) (shards_in new)

    abbrev more : HasReadLines was now in_hand
    more = lines-more was mid now old in_hand so_far.lines gives

    reads-line : (result : Result (Unit {0}) FeedFault) → LineRead result → (opening : List (List Entry))
        → HasTaken issuer none opening [] first opening
        → (after : List (List Entry)) × ReadsOn issuer opening (map kept more.whole) result new_ahead new after
        × LeavesBetween issuer opening after (shards_in first) (shards_in new)
    reads-line result reads opening opened =
        let so = so_far.fed opening opened in
        let it = reads opening so.0 (map kept so_far.lines.whole) so.1 in (
          it.0,
          subst (λ (ls : List (List ℕ)). ReadsOn issuer opening ls result new_ahead new it.0)
              (kept-more so_far.lines.whole gives.line in_hand.line gives.counted.in_hand) it.1,
          leaves-then issuer opening so.0 it.0 (shards_in first) (shards_in node) (shards_in new) none so.1.has_taken.hold
              so.2 it.2,
        )

    pub fed-more : (reader : Reading) → reader ≡ in_hand → LineRead (Ok tt) → HasFedLines now reader new_ahead new
    fed-more reader same reads =
        subst (λ (r : Reading). HasFedLines now r new_ahead new) (sym same)
        (record { lines = more; fed = λ opening opened. reads-line (Ok tt) reads opening opened })

    pub fed-stopped : (fault : FeedFault) (followed : Followed) → followed ≡ stopped_by fault → LineRead (Err fault)
        → Follows now new followed
    fed-stopped fault followed is reads =
        subst (λ (f : Followed). Follows now new f) (sym is)
        (follows-stopped now more.read more.whole in_hand.ahead more.consumed more.given.begins
        (within-given in_hand more.read more.whole more.given) new fault (reads-line (Err fault) reads))

  -- ---- the ends of the input

  module _ (mid now : Option (List ℕ)) (old new : Reading) (ahead : FeedLines) (node last : Standby S G)
      (so_far : HasFedLines mid old ahead node) (result : Result (Unit {0}) FeedFault)
      (taken : TakesAhead issuer ahead node result last) (outcome : Followed) where
    all_fed : LinesFed so_far.lines.whole result last
    all_fed opening opened =
        let so = so_far.fed opening opened in
        let it = has-taken issuer opening (map kept so_far.lines.whole) ahead node so.0 so.1 result last taken in (
          it.0,
          it.1,
          leaves-then issuer opening so.0 it.0 (shards_in first) (shards_in node) (shards_in last) none so.1.has_taken.hold
              so.2 it.2,
        )

    -- what was read of the feed, once these bytes more were read
    module _ (given : List ℕ) (consumed : Consumes mid now given) where
      all_read : Consumes was now (so_far.lines.read ++ given)
      all_read = Consumes-trans was mid now so_far.lines.read given so_far.lines.consumed consumed

      -- it ended so, unless its lines have a fault
      ends-by : (followed : Followed) → (LinesFed so_far.lines.whole (Ok tt) last → Follows now last followed)
          → (how : Result (Unit {0}) FeedFault) → LinesFed so_far.lines.whole how last
          → Follows now last (ended_by how followed)
      ends-by followed whole (Ok done) fed = whole fed
      ends-by followed whole (Err fault) fed =
          follows-stopped now (so_far.lines.read ++ given) so_far.lines.whole (old.ahead ++ given) all_read
          (BeginsWithLines-given so_far.lines.read so_far.lines.whole old.ahead given so_far.lines.given.begins)
          (within-given old so_far.lines.read so_far.lines.whole so_far.lines.given) last fault fed

      ends-as : (followed : Followed) → outcome ≡ ended_by result followed
          → (LinesFed so_far.lines.whole (Ok tt) last → Follows now last followed) → Follows now last outcome
      ends-as followed is whole =
          subst (λ (f : Followed). Follows now last f) (sym is) (ends-by followed whole result all_fed)

      follows-part : (followed : Followed) → outcome ≡ ended_by result followed
          → ((opening histories : List (List Entry)) (file : List ℕ)
          → TakesLines issuer opening so_far.lines.whole histories
          → TakesFeed issuer opening file (so_far.lines.read ++ given) followed histories)
          → in_doubt_after followed ≡ none → HasNoStore followed → Follows now last outcome
      follows-part followed is takes doubts fails =
          ends-as followed is
          (λ fed opening opened.
          let it = fed opening opened in
          let read = so_far.lines.read ++ given in
          let parts = front-read was now read all_read in (
            it.0,
            record {
              file = read ++ parts.rest;
              read = read;
              content = parts.content;
              was_read = record { unread = parts.rest; split = refl; tells = parts.left };
              takes = takes opening it.0 (read ++ parts.rest)
                  (takes-read issuer opening it.0 so_far.lines.read so_far.lines.whole old.ahead
                  so_far.lines.given.begins it.1.taken);
              hold = subst (λ d. Hold issuer d (shards_in last) it.0) (sym doubts) it.1.hold;
              in_hand = none_in_hand followed fails issuer opening (read ++ parts.rest) read it.0 _ (shards_in last);
              leaves = it.2;
            },
          ))

      -- all was read, within the limits: these lines, and this remainder
      follows-whole : outcome ≡ ended_by result All → IsAtEnd now → (rest : List ℕ)
          → IsLinesAndRest (so_far.lines.read ++ given) so_far.lines.whole rest
          → IsWithinLimits (length (lines (so_far.lines.read ++ given))) (length (so_far.lines.read ++ given))
          → Follows now last outcome
      follows-whole is end rest parted within =
          ends-as All is
          (λ fed opening opened.
          let it = fed opening opened in
          let file = so_far.lines.read ++ given in (
            it.0,
            record {
              file = file;
              read = file;
              content = Tells-whole was now file all_read end;
              was_read = record { unread = []; split = sym (append-nil file); tells = none-left now end };
              takes = (
                refl,
                record {
                  within = within;
                  taken = record {
                    lines = so_far.lines.whole;
                    rest = rest;
                    split = parted;
                    taken =
                        takes-read issuer opening it.0 so_far.lines.read so_far.lines.whole old.ahead
                        so_far.lines.given.begins it.1.taken;
                  };
                },
              );
              hold = it.1.hold;
              in_hand = tt;
              leaves = it.2;
            },
          ))

    -- the input failed
    pub follows-fault : StopsAtFault mid now old new → outcome ≡ ended_by result ReadFault → Follows now last outcome
    follows-fault stops is =
        let r = so_far.lines in
        follows-part stops.given stops.consumed ReadFault is
        (λ opening histories file taken. record {
          lines = r.whole;
          which = record {
            rest = old.ahead ++ stops.given;
            parted = IsLinesAndRest-fault mid now old new r.read r.whole r.given stops;
            within =
                subst (λ (n : ℕ). StaysWithinLimits n (length (flat_map ended r.whole)) (old.ahead ++ stops.given))
                r.given.lines_counted
                (subst (λ (n : ℕ). StaysWithinLimits old.lines n (old.ahead ++ stops.given)) r.given.bytes_counted
                stops.within);
          };
          taken = taken;
        })
        refl tt

    -- it goes past a limit
    pub follows-limit : StopsAtLimit mid now old new → (number : ℕ) → number ≡ old.lines + 1
        → outcome ≡ ended_by result (TooLong number) → Follows now last outcome
    follows-limit stops number counted is =
        let r = so_far.lines in
        follows-part stops.given stops.consumed (TooLong number) is
        (λ opening histories file taken. record {
          before = r.whole;
          are_before = record {
            ahead = old.ahead ++ stops.given;
            parted = BeginsWithLines-given r.read r.whole old.ahead stops.given r.given.begins;
            within =
                subst (λ (n : ℕ). IsWithinLimits n (length (flat_map ended r.whole))) r.given.lines_counted
                (subst (λ (n : ℕ). IsWithinLimits old.lines n) r.given.bytes_counted r.given.within);
            passes = PassesLimit-stopped mid now old new r.read r.whole r.given stops;
            number_is = counted ∙ ap (λ n. n + 1) r.given.lines_counted;
          };
          taken = taken;
        })
        refl tt

    -- its last line is torn
    pub follows-rest : GivesRest mid now old new → outcome ≡ ended_by result All → Follows now last outcome
    follows-rest gives is =
        let r = so_far.lines in
        let file = r.read ++ gives.given in
        let file_lines = lines-rest_given mid now old new r.read r.whole r.given gives in
        let parted = IsLinesAndRest-rest mid now old new r.read r.whole r.given gives in
        follows-whole gives.given gives.consumed is gives.at_end gives.line parted
        (record {
          lines_within = omega (
            arith,
            ap length file_lines,
            length-append r.whole (gives.line ∷ []),
            r.given.lines_counted,
            gives.counted.one_more,
            gives.counted.within.lines_within,
          );
          bytes_within = omega (
            arith,
            length-begins file r.whole gives.line parted.begins,
            r.given.bytes_counted,
            gives.counted.more_bytes,
            gives.counted.within.bytes_within,
          );
        })

    -- it is at its end
    pub follows-end : ReachesEnd mid now old new → outcome ≡ ended_by result All → Follows now last outcome
    follows-end ends is =
        let r = so_far.lines in
        let file = r.read ++ ends.given in
        let file_lines = lines-end_reached mid now old new r.read r.whole r.given ends in
        let parted = IsLinesAndRest-end mid now old new r.read r.whole r.given ends in
        follows-whole ends.given ends.consumed is ends.at_end [] parted
        (record {
          lines_within = omega (arith, ap length file_lines, r.given.lines_counted, r.given.within.lines_within);
          bytes_within = omega (
            arith,
            length-begins file r.whole [] parted.begins,
            r.given.bytes_counted,
            r.given.within.bytes_within,
          );
        })

-- ---- what is kept of the shards

stopped-fault : (fault : FeedFault) → fault_of (stopped_by fault) ≡ Err fault
stopped-fault (BadLine number) = refl
stopped-fault (StoreFails shard) = refl

ended-fault : (followed : Followed) → fault_of followed ≡ Ok tt → (result : Result (Unit {0}) FeedFault)
    → fault_of (ended_by result followed) ≡ result
ended-fault followed none (Ok done) = none
ended-fault followed none (Err fault) = stopped-fault fault

module _ {S : Type 0} {G : Ghosts S} (issuer : Setup) (first old new : List (Shard S G))
    (so_far : KeepsShards issuer first (Ok tt) old) where
  kept-then : (result : Result (Unit {0}) FeedFault) → KeepsShards issuer old result new → (outcome : Followed)
      → fault_of outcome ≡ result → KeepsShards issuer first (fault_of outcome) new
  kept-then result keeps outcome is =
      subst (λ (r : Result (Unit {0}) FeedFault). KeepsShards issuer first r new) (sym is)
      (shards-then issuer first old new result so_far keeps)

  -- its lines have a fault
  pub kept-stopped : (fault : FeedFault) → KeepsShards issuer old (Err fault) new → (outcome : Followed)
      → outcome ≡ stopped_by fault → KeepsShards issuer first (fault_of outcome) new
  kept-stopped fault keeps outcome is = kept-then (Err fault) keeps outcome (ap fault_of is ∙ stopped-fault fault)

  -- they were taken at the end, or had a fault
  pub kept-ended : (result : Result (Unit {0}) FeedFault) → KeepsShards issuer old result new → (followed : Followed)
      → fault_of followed ≡ Ok tt → (outcome : Followed) → outcome ≡ ended_by result followed
      → KeepsShards issuer first (fault_of outcome) new
  kept-ended result keeps followed none outcome is =
      kept-then result keeps outcome (ap fault_of is ∙ ended-fault followed none result)

-- ---- what is written

module _ {S : Type 0} {G : Ghosts S} (issuer : Setup) (opening : List (List Entry)) (was now : Option (List ℕ))
    (old new : Standby S G) (histories : List (List Entry)) where
  -- the sink failed at the end
  pub follows-broken : FollowsFeed issuer opening was now old new All histories
      → FollowsFeed issuer opening was now old new WriteFault histories
  follows-broken follows = record {
    file = follows.file;
    read = follows.read;
    content = follows.content;
    was_read = follows.was_read;
    takes = follows.takes;
    hold = follows.hold;
    in_hand = tt;
    leaves = follows.leaves;
  }

-- nothing is written before the end
pub writes-none : (followed : Followed) → (followed ≡ All → ⊥) → write_failed followed ≡ false
    → (held : Option (List ℕ)) (text : List ℕ) → WritesCounts followed held held text
writes-none All other stood held text = absurd (other refl)
writes-none ReadFault other stood held text = refl
writes-none WriteFault other stood held text = absurd (true≢false stood)
writes-none (TooLong line) other stood held text = refl
writes-none (BadFeed line) other stood held text = refl
writes-none (StoreFault shard) other stood held text = refl
