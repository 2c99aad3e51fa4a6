-- Lines that were read ahead are taken one after another.
use Rattle.std.proofs.Common.{◌≡◌, ℕ, zero, suc, ◌+◌, ◌<◌, ◌≤◌, Bool, List, [], ◌∷◌, ◌++◌, length, take, drop, get_or, Ok, Err, Result, inl, inr, refl, sym, ap, subst, ◌∙◌, arith, append_assoc, append-nil, length-append}
use Rattle.std.proofs.lemmas.List.{length_push, take-append-drop, take_all, take_more}
use Rattle.std.proofs.lemmas.List.Concat.{flat_map-append}
use Rattle.std.proofs.lemmas.Option.{slice_get_within}
use Rattle.std.proofs.lemmas.Slice.Zip.{AllZip-long}
use Rattle.std.specs.List.{AllByRecursion, AllZip, flat_map}
use Rattle.issuer_base.specs.declared.entry.Entry.{Entry}
use Rattle.issuer_base.specs.declared.outside.store.Store.{Ghosts}
use Rattle.issuer_setup.specs.IssuerSetup.{Setup}
use Rattle.journal_rec.specs.Record.{IsLineOf}
use Rattle.line_checks.proofs.Again.{zip-at}
use Rattle.line_reader.specs.Lines.{IsUnbroken, ended}
use Rattle.shard_book.specs.declared.shard.Shard.{Shard}
use Rattle.host_loading.specs.Hosts.{AreShards}
use Rattle.host_loading.proofs.Places.{read-within}
use Rattle.standby_node.specs.declared.feed_lines.FeedLines.{FeedLines}
use Rattle.standby_node.specs.declared.line.FeedFault.{FeedFault}
use Rattle.standby_node.specs.declared.line.FeedFault.TheVariants.{BadFeed, StoreFault}
use Rattle.standby_node.specs.declared.line.ReadLine.{ReadLine}
use Rattle.standby_node.specs.declared.line.ReadLine.TheVariants.{Bad, Behind, NoRecord, Record}
use Rattle.standby_node.specs.declared.standby.Standby.{Standby}
use Rattle.standby_node.specs.FeedLines.{IsFor, IsNext}
use Rattle.standby_node.specs.OneLine.{Does, HasTakenLines}
use Rattle.standby_node.specs.ReadLines.{AreAhead, IsAt, IsNoLine, IsReadAs}
use Rattle.standby_node.specs.Standing.{Feeds, HasTaken, Hold, KeepsShards, LeavesBetween, shards_in}
use Rattle.standby_node.specs.Streams.{StopsAt, StopsBadly, line_count, line_number}
use Rattle.standby_node.proofs.Fed.{counted-more}
use Rattle.standby_node.proofs.OneLine.{DoesTo}
use Rattle.standby_node.proofs.Shards.{leaves-same, leaves-then, shards-same, shards-then}
use Rattle.standby_node.proofs.Streams.{takes-push}

-- ---- lists of lines

each-at : (lines : List (List ℕ)) (i : ℕ) (d : List ℕ) → AllByRecursion IsUnbroken lines → i < length lines → IsUnbroken (get_or lines i d)
each-at [] i d each within = absurd (omega (arith, within))
each-at (line ∷ lines) zero d each within = each.0
each-at (line ∷ lines) (suc i) d each within = each-at lines i d each.1 (omega (arith, within))

pub each-push : (lines : List (List ℕ)) (line : List ℕ) → AllByRecursion IsUnbroken lines → IsUnbroken line
    → AllByRecursion IsUnbroken (lines ++ line ∷ [])
each-push [] line each one = (one, tt)
each-push (first ∷ lines) line each one = (each.0, each-push lines line each.1 one)

-- a line stands between those before it and those behind it
parted : (lines : List (List ℕ)) (i : ℕ) → i < length lines → lines ≡ take i lines ++ get_or lines i [] ∷ drop (i + 1) lines
parted lines i within =
    sym (take-append-drop (i + 1) lines)
    ∙ ap (λ (ls : List (List ℕ)). ls ++ drop (i + 1) lines) (take_more lines i [] within)
    ∙ append_assoc (take i lines) (get_or lines i [] ∷ []) (drop (i + 1) lines)

-- ---- what a line was read as is so later too

module _ {S : Type 0} {G : Ghosts S} (issuer : Setup) (first last : List (List Entry)) (old new : List (Shard S G))
    (leaves : LeavesBetween issuer first last old new) (line : List ℕ) where
  record IsForLater (shard place : ℕ) (rest : List ℕ) (was : List Entry) : Type 0 where
    history : List Entry
    is_for : IsFor last line shard place rest history
    longer : length was ≤ length history

  for-later : (shard place : ℕ) (rest : List ℕ) (was : List Entry) → IsFor first line shard place rest was → IsForLater shard place rest was
  for-later shard place rest was is_for =
      let count = leaves.count_is in
      let within = slice_get_within first shard was is_for.history_is in
      let found = read-within last shard (omega (arith, within, count)) in
      let on = leaves.extended shard was found.0 is_for.history_is found.1 in
      let size = ap length on.1 in
      let sum = length-append was on.0 in
      record {
        history = found.0;
        is_for = record { short = is_for.short; head = is_for.head; history_is = found.1 };
        longer = omega (arith, size, sum);
      }

  at-later : (shard place : ℕ) (IsRest : List ℕ → Type 0) → IsAt first line shard place IsRest → IsAt last line shard place IsRest
  at-later shard place IsRest is =
      let later = for-later shard place is.rest is.history is.is_for in
      record { rest = is.rest; history = later.history; is_for = later.is_for; rest_is = is.rest_is }

  pub read-later : (read : ReadLine) → IsReadAs first line read → IsReadAs last line read
  read-later Bad (inl long) = inl long
  read-later Bad (inr (inl none)) = inr (inl none)
  read-later Bad (inr (inr names)) =
      let count = leaves.count_is in
      let none = names.none in
      inr (inr (record { shard = names.shard; place = names.place; rest = names.rest; head = names.head; none = omega (arith, count, none) }))
  read-later Behind is =
      let later = for-later is.shard is.place is.rest is.history is.is_for in
      let behind = is.behind in
      let longer = later.longer in
      record {
        shard = is.shard;
        place = is.place;
        rest = is.rest;
        history = later.history;
        is_for = later.is_for;
        behind = omega (arith, behind, longer);
      }
  read-later (NoRecord shard place) is = at-later shard place IsNoLine is
  read-later (Record shard place entry) is = at-later shard place (IsLineOf entry) is

-- the same lines
pub ahead-same : (histories : List (List Entry)) (lines : List (List ℕ)) (old new : FeedLines) → new.lines.items ≡ old.lines.items
    → AreAhead histories lines old → AreAhead histories lines new
ahead-same histories lines old new same is = record {
  whole = is.whole;
  read = subst (AllZip (IsReadAs histories) lines) (sym same) is.read;
}

-- ---- whole lines

module _ {S : Type 0} {G : Ghosts S} (issuer : Setup) (in_doubt : ℕ → Bool) (opening : List (List Entry)) where
  -- what a standby has taken of whole lines
  pub lines-begun : (stream : List ℕ) (old node : Standby S G) (histories : List (List Entry))
      → (was : HasTaken issuer in_doubt opening stream old histories) → shards_in node ≡ shards_in old → node.line.items ≡ []
      → node.lines ≡ old.lines → HasTakenLines issuer in_doubt opening was.taken.lines node histories
  lines-begun stream old node histories was shards_are none lines_are = record {
    whole = was.taken.split.begins.each;
    taken = was.taken.taken;
    hold = subst (λ (shards : List (Shard S G)). Hold issuer in_doubt shards histories) (sym shards_are) was.hold;
    none = none;
    counted = lines_are ∙ was.counted;
  }

  module _ (lines : List (List ℕ)) (old : Standby S G) (histories : List (List Entry))
      (before : HasTakenLines issuer in_doubt opening lines old histories) where
    pub lines-taken : HasTaken issuer in_doubt opening (flat_map ended lines) old histories
    lines-taken = record {
      taken = record {
        lines = lines;
        rest = [];
        split = record {
          begins = record { joined = sym (append-nil (flat_map ended lines)); each = before.whole };
          unbroken = tt;
        };
        taken = before.taken;
      };
      hold = before.hold;
      unfinished = before.none;
      counted = before.counted;
    }

    module _ (line : List ℕ) (unbroken : IsUnbroken line) where
      -- one more is taken
      pub lines-more : (node : Standby S G) (after : List (List Entry)) → node.line.items ≡ [] → node.lines ≡ line_number old.lines
          → Does issuer in_doubt histories line (line_number old.lines) (Ok tt) (shards_in node) after
          → HasTakenLines issuer in_doubt opening (lines ++ line ∷ []) node after
      lines-more node after none lines_are does = record {
        whole = each-push lines line before.whole unbroken;
        taken = takes-push issuer opening histories after lines line before.taken does.0;
        hold = does.1;
        none = none;
        counted =
            lines_are ∙ ap line_number before.counted ∙ counted-more (length lines)
            ∙ ap line_count (sym (length_push lines line));
      }

      stops : (more : List (List ℕ)) → StopsAt issuer opening (flat_map ended (lines ++ line ∷ more)) (line_number old.lines) line histories
      stops more = record {
        before = lines;
        ahead = flat_map ended more;
        begins = record {
          joined =
              ap (flat_map ended) (sym (append_assoc lines (line ∷ []) more))
              ∙ flat_map-append ended (lines ++ line ∷ []) more;
          each = each-push lines line before.whole unbroken;
        };
        taken = before.taken;
        number_is = ap line_number before.counted ∙ counted-more (length lines);
      }

      -- or it is bad, or its store fails
      pub lines-stopped : (more : List (List ℕ)) (fault : FeedFault) (node : Standby S G) (after : List (List Entry))
          → Does issuer in_doubt histories line (line_number old.lines) (Err fault) (shards_in node) after
          → Feeds issuer in_doubt opening (flat_map ended (lines ++ line ∷ more)) (Err fault) node after
      lines-stopped more (BadFeed number) node after (number_is, same, bad, hold) = (
        subst (λ (h : List (List Entry)). StopsBadly issuer opening (flat_map ended (lines ++ line ∷ more)) number h) (sym same)
            (subst (λ (n : ℕ). StopsBadly issuer opening (flat_map ended (lines ++ line ∷ more)) n histories) (sym number_is)
            (record { line = line; stops = stops more; bad = bad })),
        hold,
      )
      lines-stopped more (StoreFault shard) node after (same, next, hold, in_hand) = record {
        number = line_number old.lines;
        line = line;
        history = next.history;
        entry = next.entry;
        stops = subst (StopsAt issuer opening (flat_map ended (lines ++ line ∷ more)) (line_number old.lines) line) (sym same) (stops more);
        next = subst (λ (h : List (List Entry)). IsNext issuer h line shard next.history next.entry) (sym same) next.next;
        hold = hold;
        in_hand = in_hand;
      }

-- ---- the lines that were read ahead

module _ {S : Type 0} {G : Ghosts S} (issuer : Setup) (old : Standby S G) (ahead : FeedLines) where
  -- the first so many were taken, without a fault
  pub record HasTakenAhead (i : ℕ) (node : Standby S G) : Type 0 where
    pub fed : (in_doubt : ℕ → Bool) (opening histories : List (List Entry)) (before lines : List (List ℕ))
        → HasTakenLines issuer in_doubt opening before old histories → AreAhead histories lines ahead
        → (after : List (List Entry)) × HasTakenLines issuer in_doubt opening (before ++ take i lines) node after
        × LeavesBetween issuer histories after (shards_in old) (shards_in node)
    pub keeps : KeepsShards issuer (shards_in old) (Ok tt) (shards_in node)

  -- what taking them did
  abbrev pub HasEndedAhead : Result (Unit {0}) FeedFault → Standby S G → Type 0
  HasEndedAhead result node =
      (in_doubt : ℕ → Bool) (opening histories : List (List Entry)) (before lines : List (List ℕ))
      → HasTakenLines issuer in_doubt opening before old histories → AreAhead histories lines ahead
      → (after : List (List Entry)) × Feeds issuer in_doubt opening (flat_map ended (before ++ lines)) result node after
      × LeavesBetween issuer histories after (shards_in old) (shards_in node)

  pub ahead-none : AreShards issuer (shards_in old) → HasTakenAhead 0 old
  ahead-none are = record {
    fed = λ in_doubt opening histories before lines taken is. (
      histories,
      subst (λ (ls : List (List ℕ)). HasTakenLines issuer in_doubt opening ls old histories) (sym (append-nil before)) taken,
      leaves-same issuer (shards_in old) are in_doubt histories taken.hold,
    );
    keeps = shards-same issuer (shards_in old) (Ok tt) are (λ number. refl);
  }

  pub ahead-all : (i : ℕ) (node : Standby S G) → i ≡ length ahead.lines.items → HasTakenAhead i node → HasEndedAhead (Ok tt) node
  ahead-all i node all so_far in_doubt opening histories before lines taken is =
      let so = so_far.fed in_doubt opening histories before lines taken is in
      let long = AllZip-long (IsReadAs histories) lines ahead.lines.items is.read in
      let whole : take i lines ≡ lines = take_all i lines (omega (arith, long, all)) in (
        so.0,
        subst (λ (ls : List (List ℕ)). HasTaken issuer in_doubt opening (flat_map ended (before ++ ls)) node so.0) whole
            (lines-taken issuer in_doubt opening (before ++ take i lines) node so.0 so.1),
        so.2,
      )

  module _ (i : ℕ) (node : Standby S G) (within : i < length ahead.lines.items) (so_far : HasTakenAhead i node) (read : ReadLine)
      (read_is : read ≡ get_or ahead.lines.items i read) (new : Standby S G) (number : ℕ) (number_is : number ≡ line_number node.lines)
      (result : Result (Unit {0}) FeedFault)
      (does : (in_doubt : ℕ → Bool) (histories : List (List Entry)) (text : List ℕ) → Hold issuer in_doubt (shards_in node) histories
      → IsReadAs histories text read → DoesTo issuer in_doubt histories (shards_in node) text number result (shards_in new)) where
    module _ (in_doubt : ℕ → Bool) (opening histories : List (List Entry)) (before lines : List (List ℕ))
        (taken : HasTakenLines issuer in_doubt opening before old histories) (is : AreAhead histories lines ahead) where
      abbrev line : List ℕ
      line = get_or lines i []

      among : i < length lines
      among = omega (arith, within, AllZip-long (IsReadAs histories) lines ahead.lines.items is.read)

      unbroken : IsUnbroken line
      unbroken = each-at lines i [] is.whole among

      -- what the line does
      line-does : (after : List (List Entry)) → Hold issuer in_doubt (shards_in node) after
          → LeavesBetween issuer histories after (shards_in old) (shards_in node)
          → DoesTo issuer in_doubt after (shards_in node) line (line_number node.lines) result (shards_in new)
      line-does after hold leaves =
          subst (λ (n : ℕ). DoesTo issuer in_doubt after (shards_in node) line n result (shards_in new)) number_is
          (does in_doubt after line hold
          (read-later issuer histories after (shards_in old) (shards_in node) leaves line read
          (subst (IsReadAs histories line) (sym read_is)
          (zip-at (IsReadAs histories) lines ahead.lines.items i [] read is.read among))))

    pub ahead-more : result ≡ Ok tt → KeepsShards issuer (shards_in node) result (shards_in new) → new.line.items ≡ node.line.items
        → new.lines ≡ number → HasTakenAhead (i + 1) new
    ahead-more done keeps line_is lines_are = record {
      fed = λ in_doubt opening histories before lines taken is.
          let so = so_far.fed in_doubt opening histories before lines taken is in
          let it = subst (λ (r : Result (Unit {0}) FeedFault). DoesTo issuer in_doubt so.0 (shards_in node) (line in_doubt opening histories before lines taken is)
          (line_number node.lines) r (shards_in new)) done (line-does in_doubt opening histories before lines taken is so.0 so.1.hold so.2) in
          let joined : (before ++ take i lines) ++ get_or lines i [] ∷ [] ≡ before ++ take (i + 1) lines =
          append_assoc before (take i lines) (get_or lines i [] ∷ [])
          ∙ ap (λ (ls : List (List ℕ)). before ++ ls) (sym (take_more lines i [] (among in_doubt opening histories before lines taken is))) in (
            it.0,
            subst (λ (ls : List (List ℕ)). HasTakenLines issuer in_doubt opening ls new it.0) joined
                (lines-more issuer in_doubt opening (before ++ take i lines) node so.0 so.1 (get_or lines i [])
                (unbroken in_doubt opening histories before lines taken is) new it.0 (line_is ∙ so.1.none) (lines_are ∙ number_is) it.1),
            leaves-then issuer histories so.0 it.0 (shards_in old) (shards_in node) (shards_in new) in_doubt so.1.hold so.2 it.2,
          );
      keeps =
          shards-then issuer (shards_in old) (shards_in node) (shards_in new) (Ok tt) so_far.keeps
          (subst (λ (r : Result (Unit {0}) FeedFault). KeepsShards issuer (shards_in node) r (shards_in new)) done keeps);
    }

    pub ahead-stopped : (fault : FeedFault) → result ≡ Err fault → HasEndedAhead (Err fault) new
    ahead-stopped fault failed in_doubt opening histories before lines taken is =
        let so = so_far.fed in_doubt opening histories before lines taken is in
        let it = subst (λ (r : Result (Unit {0}) FeedFault). DoesTo issuer in_doubt so.0 (shards_in node) (line in_doubt opening histories before lines taken is)
        (line_number node.lines) r (shards_in new)) failed (line-does in_doubt opening histories before lines taken is so.0 so.1.hold so.2) in
        let joined : (before ++ take i lines) ++ get_or lines i [] ∷ drop (i + 1) lines ≡ before ++ lines =
        append_assoc before (take i lines) (get_or lines i [] ∷ drop (i + 1) lines)
        ∙ ap (λ (ls : List (List ℕ)). before ++ ls) (sym (parted lines i (among in_doubt opening histories before lines taken is))) in (
          it.0,
          subst (λ (ls : List (List ℕ)). Feeds issuer in_doubt opening (flat_map ended ls) (Err fault) new it.0) joined
              (lines-stopped issuer in_doubt opening (before ++ take i lines) node so.0 so.1 (get_or lines i [])
              (unbroken in_doubt opening histories before lines taken is) (drop (i + 1) lines) fault new it.0 it.1),
          leaves-then issuer histories so.0 it.0 (shards_in old) (shards_in node) (shards_in new) in_doubt so.1.hold so.2 it.2,
        )
