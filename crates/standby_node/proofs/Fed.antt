-- A piece of a stream is fed line by line.
use Rattle.std.proofs.Common.{◌≡◌, ℕ, Bool, List, [], ◌∷◌, ◌++◌, length, take, Ok, Err, Result, refl, sym, ap, subst, ◌∙◌, arith, append_assoc, append-nil}
use Rattle.std.proofs.lemmas.List.{length_push}
use Rattle.issuer_base.specs.declared.entry.Entry.{Entry}
use Rattle.issuer_base.specs.declared.outside.store.Store.{Ghosts}
use Rattle.issuer_setup.specs.IssuerSetup.{Setup}
use Rattle.feed_text.specs.declared.limits.TheConstants.{MOST_FEED_BYTES}
use Rattle.line_reader.specs.Lines.{BeginsWithLines, IsUnbroken}
use Rattle.line_reader.proofs.InLine.{IsUnbroken-append}
use Rattle.line_reader.proofs.LineLaws.{BeginsWithLines-given, BeginsWithLines-line}
use Rattle.shard_book.specs.declared.shard.Shard.{Shard}
use Rattle.host_loading.specs.Hosts.{AreShards}
use Rattle.standby_node.specs.declared.line.FeedFault.{FeedFault}
use Rattle.standby_node.specs.declared.line.FeedFault.TheVariants.{BadFeed, StoreFault}
use Rattle.standby_node.specs.declared.standby.Standby.{Standby}
use Rattle.standby_node.specs.FeedLines.{IsNext, TakesLine}
use Rattle.standby_node.specs.OneLine.{Does}
use Rattle.standby_node.specs.Standing.{Feeds, HasTaken, Hold, KeepsShards, LeavesBetween, shards_in}
use Rattle.standby_node.specs.Streams.{StopsAt, StopsBadly, line_count, line_number}
use Rattle.standby_node.proofs.OneLine.{DoesTo}
use Rattle.standby_node.proofs.Shards.{leaves-same, leaves-then, shards-same, shards-then}
use Rattle.standby_node.proofs.Streams.{takes-push}

-- one more line is counted, up to the greatest count
pub counted-more : (lines : ℕ) → line_number (line_count lines) ≡ line_number lines
counted-more lines = omega arith

module _ {S : Type 0} {G : Ghosts S} (issuer : Setup) (in_doubt : ℕ → Bool) (opening : List (List Entry)) (stream : List ℕ) (old : Standby S G)
    (histories : List (List Entry)) (before : HasTaken issuer in_doubt opening stream old histories) where
  -- bytes without a newline are fed
  pub fed-bytes : (bytes : List ℕ) → IsUnbroken bytes → (node : Standby S G) → shards_in node ≡ shards_in old → node.lines ≡ old.lines
      → node.line.items ≡ take MOST_FEED_BYTES (before.taken.rest ++ bytes) → HasTaken issuer in_doubt opening (stream ++ bytes) node histories
  fed-bytes bytes unbroken node shards_are lines_are line_is =
      let t = before.taken in
      record {
        taken = record {
          lines = t.lines;
          rest = t.rest ++ bytes;
          split = record {
            begins = BeginsWithLines-given stream t.lines t.rest bytes t.split.begins;
            unbroken = IsUnbroken-append t.rest bytes t.split.unbroken unbroken;
          };
          taken = t.taken;
        };
        hold = subst (λ (shards : List (Shard S G)). Hold issuer in_doubt shards histories) (sym shards_are) before.hold;
        unfinished = line_is;
        counted = lines_are ∙ before.counted;
      }

  module _ (bytes more : List ℕ) (unbroken : IsUnbroken bytes) where
    begins : BeginsWithLines (stream ++ (bytes ++ 10 ∷ more)) (before.taken.lines ++ (before.taken.rest ++ bytes) ∷ []) more
    begins =
        let t = before.taken in
        BeginsWithLines-line stream t.lines t.rest (bytes ++ 10 ∷ more) (t.rest ++ bytes) more t.split.begins
        (sym (append_assoc t.rest bytes (10 ∷ more))) (IsUnbroken-append t.rest bytes t.split.unbroken unbroken)

    stops : StopsAt issuer opening (stream ++ (bytes ++ 10 ∷ more)) (line_number old.lines) (before.taken.rest ++ bytes) histories
    stops = record {
      before = before.taken.lines;
      ahead = more;
      begins = begins;
      taken = before.taken.taken;
      number_is = ap line_number before.counted ∙ counted-more (length before.taken.lines);
    }

    -- the line that they end is bad, or its store fails
    pub fed-fault : (fault : FeedFault) (node : Standby S G) (after : List (List Entry))
        → Does issuer in_doubt histories (before.taken.rest ++ bytes) (line_number old.lines) (Err fault) (shards_in node) after
        → Feeds issuer in_doubt opening (stream ++ (bytes ++ 10 ∷ more)) (Err fault) node after
    fed-fault (BadFeed number) node after (number_is, same, bad, hold) = (
      subst (λ (h : List (List Entry)). StopsBadly issuer opening (stream ++ (bytes ++ 10 ∷ more)) number h) (sym same)
          (subst (λ (n : ℕ). StopsBadly issuer opening (stream ++ (bytes ++ 10 ∷ more)) n histories) (sym number_is)
          (record { line = before.taken.rest ++ bytes; stops = stops; bad = bad })),
      hold,
    )
    fed-fault (StoreFault shard) node after (same, next, hold, in_hand) = record {
      number = line_number old.lines;
      line = before.taken.rest ++ bytes;
      history = next.history;
      entry = next.entry;
      stops = subst (StopsAt issuer opening (stream ++ (bytes ++ 10 ∷ more)) (line_number old.lines) (before.taken.rest ++ bytes)) (sym same) stops;
      next = subst (λ (h : List (List Entry)). IsNext issuer h (before.taken.rest ++ bytes) shard next.history next.entry) (sym same) next.next;
      hold = hold;
      in_hand = in_hand;
    }

  -- the line that they end is taken
  pub fed-line : (bytes : List ℕ) → IsUnbroken bytes → (node : Standby S G) (after : List (List Entry))
      → TakesLine issuer histories (before.taken.rest ++ bytes) after → Hold issuer in_doubt (shards_in node) after
      → node.line.items ≡ [] → node.lines ≡ line_number old.lines → HasTaken issuer in_doubt opening (stream ++ (bytes ++ 10 ∷ [])) node after
  fed-line bytes unbroken node after takes hold line_is lines_are =
      let t = before.taken in
      record {
        taken = record {
          lines = t.lines ++ (t.rest ++ bytes) ∷ [];
          rest = [];
          split = record { begins = begins bytes [] unbroken; unbroken = tt };
          taken = takes-push issuer opening histories after t.lines (t.rest ++ bytes) t.taken takes;
        };
        hold = hold;
        unfinished = line_is;
        counted =
            lines_are ∙ ap line_number before.counted ∙ counted-more (length t.lines)
            ∙ ap line_count (sym (length_push t.lines (t.rest ++ bytes)));
      }

module _ {S : Type 0} {G : Ghosts S} (issuer : Setup) (old : Standby S G) where
  -- the piece was fed up to what is left of it, without a fault
  pub record HasFed (node : Standby S G) (piece left : List ℕ) : Type 0 where
    pub front : List ℕ
    pub piece_is : piece ≡ front ++ left
    pub fed : (in_doubt : ℕ → Bool) (opening histories : List (List Entry)) (stream : List ℕ)
        → HasTaken issuer in_doubt opening stream old histories
        → (after : List (List Entry)) × HasTaken issuer in_doubt opening (stream ++ front) node after
        × LeavesBetween issuer histories after (shards_in old) (shards_in node)
    pub keeps : KeepsShards issuer (shards_in old) (Ok tt) (shards_in node)

  -- what feeding it did
  abbrev pub HasEnded : Result (Unit {0}) FeedFault → Standby S G → List ℕ → Type 0
  HasEnded result node piece =
      (in_doubt : ℕ → Bool) (opening histories : List (List Entry)) (stream : List ℕ)
      → HasTaken issuer in_doubt opening stream old histories
      → (after : List (List Entry)) × Feeds issuer in_doubt opening (stream ++ piece) result node after
      × LeavesBetween issuer histories after (shards_in old) (shards_in node)

  pub fed-nothing : (piece : List ℕ) → AreShards issuer (shards_in old) → HasFed old piece piece
  fed-nothing piece are = record {
    front = [];
    piece_is = refl;
    fed = λ in_doubt opening histories stream before. (
      histories,
      subst (λ (s : List ℕ). HasTaken issuer in_doubt opening s old histories) (sym (append-nil stream)) before,
      leaves-same issuer (shards_in old) are in_doubt histories before.hold,
    );
    keeps = shards-same issuer (shards_in old) (Ok tt) are (λ number. refl);
  }

  module _ (node kept : Standby S G) (piece left : List ℕ) (so_far : HasFed node piece left) (bytes : List ℕ) (unbroken : IsUnbroken bytes)
      (kept_line : (line : List ℕ) → node.line.items ≡ take MOST_FEED_BYTES line → kept.line.items ≡ take MOST_FEED_BYTES (line ++ bytes))
      (shards_are : shards_in kept ≡ shards_in node) (lines_are : kept.lines ≡ node.lines) where
    -- what is left has no newline, and is kept
    pub fed-end : left ≡ bytes → HasEnded (Ok tt) kept piece
    fed-end left_is in_doubt opening histories stream before =
        let so = so_far.fed in_doubt opening histories stream before in
        let whole : (stream ++ so_far.front) ++ bytes ≡ stream ++ piece =
        append_assoc stream so_far.front bytes ∙ ap (λ (l : List ℕ). stream ++ l)
        (ap (λ (l : List ℕ). so_far.front ++ l) (sym left_is) ∙ sym so_far.piece_is) in (
          so.0,
          subst (λ (s : List ℕ). HasTaken issuer in_doubt opening s kept so.0) whole
              (fed-bytes issuer in_doubt opening (stream ++ so_far.front) node so.0 so.1 bytes unbroken kept shards_are lines_are
              (kept_line so.1.taken.rest so.1.unfinished)),
          subst (λ (shards : List (Shard S G)). LeavesBetween issuer histories so.0 (shards_in old) shards) (sym shards_are) so.2,
        )

    pub keeps-end : KeepsShards issuer (shards_in old) (Ok tt) (shards_in kept)
    keeps-end = subst (λ (shards : List (Shard S G)). KeepsShards issuer (shards_in old) (Ok tt) shards) (sym shards_are) so_far.keeps

    -- what is left begins with a line's end
    module _ (more : List ℕ) (left_is : left ≡ bytes ++ 10 ∷ more) (new : Standby S G) (result : Result (Unit {0}) FeedFault)
        (does : (in_doubt : ℕ → Bool) (histories : List (List Entry)) (line : List ℕ) → Hold issuer in_doubt (shards_in kept) histories
        → kept.line.items ≡ take MOST_FEED_BYTES line
        → DoesTo issuer in_doubt histories (shards_in kept) line (line_number kept.lines) result (shards_in new)) where
      -- what the line does to the standby
      line-does : (in_doubt : ℕ → Bool) (opening histories : List (List Entry)) (stream : List ℕ)
          → (so : HasTaken issuer in_doubt opening stream node histories)
          → DoesTo issuer in_doubt histories (shards_in node) (so.taken.rest ++ bytes) (line_number node.lines) result (shards_in new)
      line-does in_doubt opening histories stream so =
          let hold = subst (λ (shards : List (Shard S G)). Hold issuer in_doubt shards histories) (sym shards_are) so.hold in
          subst (λ (n : ℕ). DoesTo issuer in_doubt histories (shards_in node) (so.taken.rest ++ bytes) (line_number n) result (shards_in new)) lines_are
          (subst (λ (shards : List (Shard S G)). DoesTo issuer in_doubt histories shards (so.taken.rest ++ bytes) (line_number kept.lines) result
          (shards_in new)) shards_are
          (does in_doubt histories (so.taken.rest ++ bytes) hold (kept_line so.taken.rest so.unfinished)))

      pub keeps-line : KeepsShards issuer (shards_in kept) result (shards_in new) → KeepsShards issuer (shards_in old) result (shards_in new)
      keeps-line keeps =
          shards-then issuer (shards_in old) (shards_in node) (shards_in new) result so_far.keeps
          (subst (λ (shards : List (Shard S G)). KeepsShards issuer shards result (shards_in new)) shards_are keeps)

      rejoined : (stream : List ℕ) → (stream ++ so_far.front) ++ (bytes ++ 10 ∷ more) ≡ stream ++ piece
      rejoined stream =
          append_assoc stream so_far.front (bytes ++ 10 ∷ more) ∙ ap (λ (l : List ℕ). stream ++ l)
          (ap (λ (l : List ℕ). so_far.front ++ l) (sym left_is) ∙ sym so_far.piece_is)

      pub fed-stopped : (fault : FeedFault) → result ≡ Err fault → HasEnded (Err fault) new piece
      fed-stopped fault is in_doubt opening histories stream before =
          let so = so_far.fed in_doubt opening histories stream before in
          let it = subst (λ (r : Result (Unit {0}) FeedFault). DoesTo issuer in_doubt so.0 (shards_in node) (so.1.taken.rest ++ bytes) (line_number node.lines)
          r (shards_in new)) is (line-does in_doubt opening so.0 (stream ++ so_far.front) so.1) in (
            it.0,
            subst (λ (s : List ℕ). Feeds issuer in_doubt opening s (Err fault) new it.0) (rejoined stream)
                (fed-fault issuer in_doubt opening (stream ++ so_far.front) node so.0 so.1 bytes more unbroken fault new it.0 it.1),
            leaves-then issuer histories so.0 it.0 (shards_in old) (shards_in node) (shards_in new) in_doubt so.1.hold so.2 it.2,
          )

      pub fed-more : result ≡ Ok tt → KeepsShards issuer (shards_in kept) result (shards_in new) → new.line.items ≡ []
          → new.lines ≡ line_number kept.lines → HasFed new piece more
      fed-more is keeps none counted = record {
        front = so_far.front ++ (bytes ++ 10 ∷ []);
        piece_is = so_far.piece_is ∙ ap (λ (l : List ℕ). so_far.front ++ l) (left_is ∙ sym (append_assoc bytes (10 ∷ []) more))
            ∙ sym (append_assoc so_far.front (bytes ++ 10 ∷ []) more);
        fed = λ in_doubt opening histories stream before.
            let so = so_far.fed in_doubt opening histories stream before in
            let it = subst (λ (r : Result (Unit {0}) FeedFault). DoesTo issuer in_doubt so.0 (shards_in node) (so.1.taken.rest ++ bytes)
            (line_number node.lines) r (shards_in new)) is (line-does in_doubt opening so.0 (stream ++ so_far.front) so.1) in (
              it.0,
              subst (λ (s : List ℕ). HasTaken issuer in_doubt opening s new it.0) (append_assoc stream so_far.front (bytes ++ 10 ∷ []))
                  (fed-line issuer in_doubt opening (stream ++ so_far.front) node so.0 so.1 bytes unbroken new it.0 it.1.0 it.1.1 none
                  (counted ∙ ap line_number lines_are)),
              leaves-then issuer histories so.0 it.0 (shards_in old) (shards_in node) (shards_in new) in_doubt so.1.hold so.2 it.2,
            );
        keeps =
            subst (λ (r : Result (Unit {0}) FeedFault). KeepsShards issuer (shards_in old) r (shards_in new)) is (keeps-line keeps);
      }

-- whether it is live doesn't matter to what it holds
pub fed-live : {S : Type 0} {G : Ghosts S} (issuer : Setup) (in_doubt : ℕ → Bool) (opening : List (List Entry)) (stream : List ℕ)
    (result : Result (Unit {0}) FeedFault) (node : Standby S G) (live : Bool) (after : List (List Entry))
    → Feeds issuer in_doubt opening stream result node after → Feeds issuer in_doubt opening stream result (record node { live = live }) after
fed-live issuer in_doubt opening stream (Ok done) node live after taken =
    record { taken = taken.taken; hold = taken.hold; unfinished = taken.unfinished; counted = taken.counted }
fed-live issuer in_doubt opening stream (Err (BadFeed number)) node live after stopped = stopped
fed-live issuer in_doubt opening stream (Err (StoreFault shard)) node live after stopped = stopped
