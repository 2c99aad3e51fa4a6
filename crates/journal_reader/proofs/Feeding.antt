-- A primary's feed makes its histories of any that are prefixes of them.
use Rattle.std.proofs.Common.{◌≡◌, ◌≢◌, ℕ, zero, suc, ◌+◌, ◌^◌, ◌%◌, ◌<◌, ◌≤◌, List, [], ◌∷◌, ◌++◌, length, take, drop, replicate, set, Some, inl, inr, refl, sym, ap, ap₂, subst, ◌∙◌, arith, append_assoc, append-nil, length-append}
use Rattle.std.specs.List.{AllByRecursion, enumerate_from, flat_map, slice_get}
use Rattle.std.specs.Fmt.{decimal}
use Rattle.std.proofs.lemmas.Bool.{cases_lt}
use Rattle.std.proofs.lemmas.Fmt.{decimal_by_steps}
use Rattle.std.proofs.lemmas.List.{length-replicate, length_push, take_at}
use Rattle.std.proofs.lemmas.List.Concat.{flat_map-append}
use Rattle.std.proofs.lemmas.List.Elements.{All-nil, All-cons}
use Rattle.std.proofs.lemmas.Option.{same_Some, slice_get_within, none-some}
use Rattle.issuer_base.specs.declared.entry.Entry.{Entry}
use Rattle.issuer_base.specs.declared.limits.TheConstants.{MAX_SHARDS}
use Rattle.card_history.specs.LegalRecords.{IsLegal}
use Rattle.issuer_setup.specs.IssuerSetup.{Setup}
use Rattle.journal_rec.specs.Record.{IsRecord}
use Rattle.journal_rec.specs.RecordText.{newline, text_of}
use Rattle.journal_rec.proofs.TextLaws.{text_of-IsLine}
use Rattle.feed_text.specs.FeedText.{feed_line, headed}
use Rattle.feed_text.specs.declared.limits.TheConstants.{PLACE_END}
use Rattle.feed_text.proofs.Heads.{length-feed_line}
use Rattle.line_reader.specs.Lines.{IsUnbroken, ended}
use Rattle.line_reader.proofs.InLine.{IsUnbroken-append}
use Rattle.line_reader.proofs.Pieces.{IsUnbroken-from_places}
use Rattle.shard_book.specs.Grounds.{grounds_of}
use Rattle.shard_book.specs.Histories.{GoesOn}
use Rattle.host_loading.proofs.Places.{all-at, read-other, read-within, read-written}
use Rattle.standby_node.specs.FeedLines.{IsFor, TakesLine}
use Rattle.standby_node.specs.Primary.{AreLegal, ArePrefixes, IsPrimary, IsPrimaryLine}
use Rattle.standby_node.specs.Streams.{TakesLines, TakesStream}
use Rattle.standby_node.proofs.Following.{lines-follow}
use Rattle.journal_reader.specs.Exporting.{feed_in, feed_text}
use Rattle.journal_reader.specs.Copies.{FitFeeds}

-- ---- whole lines that are fed one after another

-- this text is whole lines, and they make these histories of the opening ones
record IsFed (issuer : Setup) (opening : List (List Entry)) (text : List ℕ) (after : List (List Entry)) : Type 0 where
  lines : List (List ℕ)
  joined : text ≡ flat_map ended lines
  each : AllByRecursion IsUnbroken lines
  taken : TakesLines issuer opening lines after

each-append : (xs ys : List (List ℕ)) → AllByRecursion IsUnbroken xs → AllByRecursion IsUnbroken ys → AllByRecursion IsUnbroken (xs ++ ys)
each-append [] ys each others = others
each-append (x ∷ xs) ys each others = (each.0, each-append xs ys each.1 others)

takes-append : (issuer : Setup) (opening between after : List (List Entry)) (xs ys : List (List ℕ)) → TakesLines issuer opening xs between
    → TakesLines issuer between ys after → TakesLines issuer opening (xs ++ ys) after
takes-append issuer opening between after [] ys same more = subst (λ (h : List (List Entry)). TakesLines issuer h ys after) same more
takes-append issuer opening between after (x ∷ xs) ys (next, takes, rest) more =
    (next, takes, takes-append issuer next between after xs ys rest more)

fed-none : (issuer : Setup) (opening : List (List Entry)) → IsFed issuer opening [] opening
fed-none issuer opening = record { lines = []; joined = refl; each = tt; taken = refl }

fed-then : (issuer : Setup) (opening between after : List (List Entry)) (text more : List ℕ) → IsFed issuer opening text between
    → IsFed issuer between more after → IsFed issuer opening (text ++ more) after
fed-then issuer opening between after text more one other = record {
  lines = one.lines ++ other.lines;
  joined = ap₂ (λ (a b : List ℕ). a ++ b) one.joined other.joined ∙ sym (flat_map-append ended one.lines other.lines);
  each = each-append one.lines other.lines one.each other.each;
  taken = takes-append issuer opening between after one.lines other.lines one.taken other.taken;
}

-- ---- one feed line

decimal-unbroken : (n : ℕ) → n < 2 ^ 64 → IsUnbroken (decimal n)
decimal-unbroken n below =
    decimal_by_steps (λ (_ : ℕ) (digits : List ℕ). IsUnbroken digits)
    (λ digit small. ((λ same. omega (arith, same)), tt))
    (λ n digits large rest. IsUnbroken-append digits ((48 + n % 10) ∷ []) rest ((λ same. omega (arith, same)), tt)) n below

-- the line of a record in a feed, without its newline
record IsLineFor (shard place : ℕ) (entry : Entry) : Type 0 where
  rest : List ℕ
  text_is : text_of entry ≡ rest ++ newline ∷ []
  unbroken : IsUnbroken (headed shard place rest)
  whole : feed_line shard place entry ≡ ended (headed shard place rest)

line-for : (shard place : ℕ) (entry : Entry) → IsRecord entry → shard < MAX_SHARDS → place < PLACE_END → IsLineFor shard place entry
line-for shard place entry record_is few within =
    let text = text_of-IsLine entry record_is in
    let first = decimal-unbroken shard (omega (arith, few)) in
    let second = decimal-unbroken place (omega (arith, within)) in
    let space : IsUnbroken (32 ∷ []) = ((λ same. omega (arith, same)), tt) in
    let inner : IsUnbroken text.0 = IsUnbroken-from_places text.0 (λ k below. text.1 k 0 below) in
    let behind = IsUnbroken-append (decimal place) (32 ∷ text.0) second (space.0, inner) in
    record {
      rest = text.0;
      text_is = text.2;
      unbroken = IsUnbroken-append (decimal shard) (32 ∷ (decimal place ++ 32 ∷ text.0)) first (space.0, behind);
      whole = ap (headed shard place) text.2 ∙ sym (simp append_assoc);
    }

-- a history that is read at an index begins with the records before it
read-at : (history : List Entry) (place : ℕ) (entry : Entry) (more : List Entry) → drop place history ≡ entry ∷ more
    → (slice_get history place ≡ Some entry) × (drop (suc place) history ≡ more)
read-at [] zero entry more is = absurd (cc)
read-at [] (suc place) entry more is = absurd (cc)
read-at (first ∷ history) zero entry more is =
    let head : first ≡ entry = cc in
    let tail : history ≡ more = cc in
    (ap Some head, tail)
read-at (first ∷ history) (suc place) entry more is = read-at history place entry more is

module _ (issuer : Setup) (primary : List (List Entry)) (is_primary : IsPrimary primary) (legal : AreLegal issuer primary) (fit : FitFeeds primary) where
  -- the records of the shards before this one are there, and so many of this one
  record IsCaughtUp (shard place : ℕ) (histories : List (List Entry)) : Type 0 where
    prefixes : ArePrefixes histories primary
    done : (other : ℕ) → other < shard → slice_get histories other ≡ slice_get primary other
    upto : (mine : List Entry) → slice_get histories shard ≡ Some mine → place ≤ length mine

  -- a text was fed, and the histories are there
  record Reaches (opening : List (List Entry)) (text : List ℕ) (shard place : ℕ) : Type 0 where
    after : List (List Entry)
    fed : IsFed issuer opening text after
    caught : IsCaughtUp shard place after

  module _ (shard : ℕ) (theirs : List Entry) (theirs_is : slice_get primary shard ≡ Some theirs) where
    -- the record at this index is fed
    one-fed : (histories : List (List Entry)) (place : ℕ) (entry : Entry) (mine : List Entry) → slice_get theirs place ≡ Some entry
        → slice_get histories shard ≡ Some mine → IsCaughtUp shard place histories
        → Reaches histories (feed_line shard place entry) shard (place + 1)
    one-fed histories place entry mine entry_is mine_is caught =
        let record_is = all-at IsRecord theirs (is_primary.records shard theirs theirs_is) place entry entry_is in
        let below = slice_get_within theirs place entry entry_is in
        let most = fit shard theirs theirs_is in
        let within : place < PLACE_END = omega (arith, below, most) in
        let shard_below = slice_get_within primary shard theirs theirs_is in
        let number = is_primary.few in
        let few : shard < MAX_SHARDS = omega (arith, shard_below, number) in
        let line = line-for shard place entry record_is few within in
        let text = headed shard place line.rest in
        let size = length-feed_line shard place entry record_is few within in
        let same_size = ap length line.whole in
        let is_for : IsFor histories text shard place line.rest mine = record {
          short = omega (arith, size, same_size);
          head = record { line_is = refl; shard_fits = omega (arith, few); place_fits = within };
          history_is = mine_is;
        } in
        let its : IsPrimaryLine primary text = record {
          shard = shard;
          place = place;
          history = theirs;
          entry = entry;
          history_is = theirs_is;
          entry_is = entry_is;
          within = within;
          text_is = sym line.whole;
        } in
        let fed : (after : List (List Entry)) → TakesLine issuer histories text after → IsFed issuer histories (feed_line shard place entry) after =
        λ after takes. record {
          lines = text ∷ [];
          joined = line.whole ∙ sym (append-nil (ended text));
          each = (line.unbroken, tt);
          taken = (after, takes, refl);
        } in
        let follow : (after : List (List Entry)) → TakesLine issuer histories text after → ArePrefixes after primary =
        λ after takes. lines-follow issuer primary is_primary histories after (text ∷ [])
        (All-cons (IsPrimaryLine primary) text [] its (All-nil (IsPrimaryLine primary))) caught.prefixes (after, takes, refl) in
        let reached = caught.upto mine mine_is in
        elim (cases_lt place (length mine)) [
          | inl before ↦
              let passed : TakesLine issuer histories text histories = inl (
                record {
                  shard = shard;
                  place = place;
                  rest = line.rest;
                  history = mine;
                  is_for = is_for;
                  elsewhere = λ same. omega (arith, before, same);
                },
                refl,
              ) in
              record {
                after = histories;
                fed = fed histories passed;
                caught = record {
                  prefixes = caught.prefixes;
                  done = caught.done;
                  upto = λ other other_is.
                      let same = ap length (same_Some mine other (sym mine_is ∙ other_is)) in
                      omega (arith, before, same);
                };
              }
          | inr past ↦
              let at : place ≡ length mine = omega (arith, past, reached) in
              let more : List Entry = mine ++ entry ∷ [] in
              let on : GoesOn mine theirs = caught.prefixes.each shard mine theirs mine_is theirs_is in
              let taken : take place theirs ≡ mine = ap (take place) on.1 ∙ take_at mine on.0 place (sym at) in
              let may : IsLegal (grounds_of issuer) shard mine entry =
              subst (λ (history : List Entry). IsLegal (grounds_of issuer) shard history entry) taken
              (legal shard theirs theirs_is place entry entry_is) in
              let adds : TakesLine issuer histories text (set histories shard more) = inr (record {
                shard = shard;
                history = mine;
                entry = entry;
                next = record {
                  rest = line.rest;
                  is_for = subst (λ n. IsFor histories text shard n line.rest mine) at is_for;
                  legal_line = record { line_is = (record_is, line.text_is); legal = may };
                };
                after_is = refl;
              }) in
              let inside = slice_get_within histories shard mine mine_is in
              record {
                after = set histories shard more;
                fed = fed (set histories shard more) adds;
                caught = record {
                  prefixes = follow (set histories shard more) adds;
                  done = λ other lower.
                      let apart : other ≢ shard = omega (arith, lower) in
                      read-other histories shard more other apart ∙ caught.done other lower;
                  upto = λ other other_is.
                      let same = ap length (same_Some more other (sym (read-written histories shard more inside) ∙ other_is)) in
                      let long = length_push mine entry in
                      omega (arith, same, long, at);
                };
              }
        ]

    -- the records from this index on are fed
    rest-fed : (opening : List (List Entry)) (place : ℕ) (records : List Entry) → drop place theirs ≡ records → IsCaughtUp shard place opening
        → Reaches opening (flat_map (λ (numbered : ℕ × Entry). feed_line shard numbered.0 numbered.1) (enumerate_from place records))
        shard (place + length records)
    rest-fed opening place [] ahead caught = record {
      after = opening;
      fed = fed-none issuer opening;
      caught = subst (λ n. IsCaughtUp shard n opening) (let same : place ≡ place + 0 = omega arith in same) caught;
    }
    rest-fed opening place (entry ∷ records) ahead caught =
        let at = read-at theirs place entry records ahead in
        let shard_below = slice_get_within primary shard theirs theirs_is in
        let count = caught.prefixes.count_is in
        let mine = read-within opening shard (omega (arith, shard_below, count)) in
        let one = one-fed opening place entry mine.0 at.0 mine.1 caught in
        let next : drop (place + 1) theirs ≡ records = ap (λ n. drop n theirs) (let same : place + 1 ≡ suc place = omega arith in same) ∙ at.1 in
        let rest = rest-fed one.after (place + 1) records next one.caught in
        let long : place + 1 + length records ≡ place + length (entry ∷ records) = omega arith in
        record {
          after = rest.after;
          fed = fed-then issuer opening one.after rest.after (feed_line shard place entry) _ one.fed rest.fed;
          caught = subst (λ n. IsCaughtUp shard n rest.after) long rest.caught;
        }

    -- a prefix that is as long as the whole is the whole
    whole-prefix : (mine : List Entry) → GoesOn mine theirs → length theirs ≤ length mine → mine ≡ theirs
    whole-prefix mine (more, is) long =
        let size = ap length is in
        let parts = length-append mine more in
        let none : more ≡ [] = empty more (omega (arith, long, size, parts)) in
        sym (is ∙ ap (λ (l : List Entry). mine ++ l) none ∙ append-nil mine)
      where
        empty : (l : List Entry) → length l ≡ 0 → l ≡ []
        empty [] same = refl
        empty (x ∷ l) same = absurd (omega (arith, same))

    -- all records of the shard are fed
    shard-fed : (opening : List (List Entry)) → IsCaughtUp shard 0 opening → Reaches opening (feed_in shard theirs) (shard + 1) 0
    shard-fed opening caught =
        let all = rest-fed opening 0 theirs refl caught in
        record {
          after = all.after;
          fed = all.fed;
          caught = record {
            prefixes = all.caught.prefixes;
            done = λ other lower.
                elim (cases_lt other shard) [
                  | inl below ↦ all.caught.done other below
                  | inr at ↦
                      let same : other ≡ shard = omega (arith, lower, at) in
                      let shard_below = slice_get_within primary shard theirs theirs_is in
                      let count = all.caught.prefixes.count_is in
                      let mine = read-within all.after shard (omega (arith, shard_below, count)) in
                      let long = all.caught.upto mine.0 mine.1 in
                      let whole : mine.0 ≡ theirs =
                      whole-prefix mine.0 (all.caught.prefixes.each shard mine.0 theirs mine.1 theirs_is) (omega (arith, long)) in
                      ap (slice_get all.after) same ∙ mine.1 ∙ ap Some whole ∙ sym theirs_is ∙ ap (slice_get primary) (sym same)
                ];
            upto = λ mine mine_is. omega arith;
          };
        }

  -- what is read at a shard, among the histories from it on
  read-shard : (all : List (List Entry)) (shard : ℕ) (history : List Entry) (others : List (List Entry)) → drop shard all ≡ history ∷ others
      → (slice_get all shard ≡ Some history) × (drop (suc shard) all ≡ others)
  read-shard [] zero history others is = absurd (cc)
  read-shard [] (suc shard) history others is = absurd (cc)
  read-shard (first ∷ all) zero history others is =
      let head : first ≡ history = cc in
      let tail : all ≡ others = cc in
      (ap Some head, tail)
  read-shard (first ∷ all) (suc shard) history others is = read-shard all shard history others is

  shards-fed : (opening : List (List Entry)) (shard : ℕ) (histories : List (List Entry)) → drop shard primary ≡ histories
      → IsCaughtUp shard 0 opening
      → Reaches opening (flat_map (λ (numbered : ℕ × List Entry). feed_in numbered.0 numbered.1) (enumerate_from shard histories))
      (shard + length histories) 0
  shards-fed opening shard [] ahead caught = record {
    after = opening;
    fed = fed-none issuer opening;
    caught = subst (λ n. IsCaughtUp n 0 opening) (let same : shard ≡ shard + 0 = omega arith in same) caught;
  }
  shards-fed opening shard (history ∷ histories) ahead caught =
      let at = read-shard primary shard history histories ahead in
      let one = shard-fed shard history at.0 opening caught in
      let next : drop (shard + 1) primary ≡ histories = ap (λ n. drop n primary) (let same : shard + 1 ≡ suc shard = omega arith in same) ∙ at.1 in
      let rest = shards-fed one.after (shard + 1) histories next one.caught in
      let long : shard + 1 + length histories ≡ shard + length (history ∷ histories) = omega arith in
      record {
        after = rest.after;
        fed = fed-then issuer opening one.after rest.after (feed_in shard history) _ one.fed rest.fed;
        caught = subst (λ n. IsCaughtUp n 0 rest.after) long rest.caught;
      }

  -- lists that are read alike are the same
  same-read : {X : Type 0} (xs ys : List X) → length xs ≡ length ys → ((k : ℕ) → k < length xs → slice_get xs k ≡ slice_get ys k) → xs ≡ ys
  same-read [] [] count each = refl
  same-read [] (y ∷ ys) count each = absurd (omega (arith, count))
  same-read (x ∷ xs) [] count each = absurd (omega (arith, count))
  same-read (x ∷ xs) (y ∷ ys) count each =
      ap₂ (λ first others. first ∷ others) (same_Some x y (each 0 (omega arith)))
      (same-read xs ys (omega (arith, count)) (λ k below. each (suc k) (omega (arith, below))))

  pub feed-makes : (opening : List (List Entry)) → ArePrefixes opening primary → TakesStream issuer opening (feed_text primary) primary
  feed-makes opening before =
      let all = shards-fed opening 0 primary refl (record {
        prefixes = before;
        done = λ other lower. absurd (omega (arith, lower));
        upto = λ mine mine_is. omega arith;
      }) in
      let count = all.caught.prefixes.count_is in
      let same : all.after ≡ primary =
      same-read all.after primary count (λ k below. all.caught.done k (omega (arith, below, count))) in
      record {
        lines = all.fed.lines;
        rest = [];
        split = record {
          begins = record { joined = all.fed.joined ∙ sym (append-nil (flat_map ended all.fed.lines)); each = all.fed.each };
          unbroken = tt;
        };
        taken = subst (TakesLines issuer opening all.fed.lines) same all.fed.taken;
      }

  -- a new standby has no records
  none-read : (count shard : ℕ) (mine : List Entry) → slice_get (replicate count []) shard ≡ Some mine → mine ≡ []
  none-read zero shard mine is = absurd (none-some mine is)
  none-read (suc count) zero mine is = sym (same_Some [] mine is)
  none-read (suc count) (suc shard) mine is = none-read count shard mine is

  pub feed-makes_new : TakesStream issuer (replicate (length primary) []) (feed_text primary) primary
  feed-makes_new = feed-makes (replicate (length primary) []) (record {
    count_is = length-replicate (length primary) [];
    each = λ shard mine theirs mine_is theirs_is.
        (theirs, sym (ap (λ (l : List Entry). l ++ theirs) (none-read (length primary) shard mine mine_is)));
  })
