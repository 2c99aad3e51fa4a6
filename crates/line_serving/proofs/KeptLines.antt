-- Truncated lines of a feed: what is truncated is too long, so a feed of truncated lines does what that of the whole lines does.
use Rattle.std.proofs.Common.{◌≡◌, ℕ, ◌≤◌, List, [], ◌∷◌, ◌++◌, length, map, take, zero, suc, inl, inr, ⊎_elim, refl, sym, ap, subst}
use Rattle.std.proofs.Common.{◌∙◌, arith, append-nil, append_assoc}
use Rattle.std.proofs.lemmas.Bool.{cases_lt}
use Rattle.std.proofs.lemmas.List.{length-append, length-map, length-take, take_all}
use Rattle.std.proofs.lemmas.List.Concat.{flat_map-append}
use Rattle.std.specs.List.{AllByRecursion, flat_map}
use Rattle.issuer_base.specs.declared.entry.Entry.{Entry}
use Rattle.issuer_base.specs.declared.limits.TheConstants.{KEPT_BYTES}
use Rattle.issuer_setup.specs.IssuerSetup.{Setup}
use Rattle.feed_text.specs.declared.limits.TheConstants.{MOST_FEED_BYTES}
use Rattle.line_reader.specs.Lines.{BeginsWithLines, IsLinesAndRest, IsUnbroken, ended}
use Rattle.line_reader.specs.Reading.{HasGivenLines, Reading, kept}
use Rattle.line_reader.proofs.LineLaws.{IsLinesAndRest-same}
use Rattle.standby_node.specs.FeedLines.{IsBadLine, IsNext, TakesLine}
use Rattle.standby_node.specs.Streams.{StopsAt, StopsBadly, TakesLines, TakesStream, line_number}
use Rattle.standby_node.proofs.Streams.{whole-begins}
use Rattle.line_serving.specs.Following.{AreWithinLimits, StopsAtBadLine, StopsAtRecord}

-- ---- one line

-- a line that isn't too long once it was truncated wasn't truncated
short-kept : (line : List ℕ) → length (ended (kept line)) ≤ MOST_FEED_BYTES → kept line ≡ line
short-kept line short =
    let size = length-append (kept line) (10 ∷ []) in
    let cut = length-take KEPT_BYTES line in
    let within : length line ≤ KEPT_BYTES = omega (arith, short, size, cut) in
    take_all KEPT_BYTES line within

module _ (issuer : Setup) (histories : List (List Entry)) (line : List ℕ) where
  takes-kept : (after : List (List Entry)) → TakesLine issuer histories (kept line) after
      → TakesLine issuer histories line after
  takes-kept after takes =
      ⊎_elim
      (λ passed.
      subst (λ (l : List ℕ). TakesLine issuer histories l after) (short-kept line passed.0.is_for.short) (inl passed))
      (λ adds.
      subst (λ (l : List ℕ). TakesLine issuer histories l after) (short-kept line adds.next.is_for.short) (inr adds))
      takes

  next-kept : (shard : ℕ) (history : List Entry) (entry : Entry)
      → IsNext issuer histories (kept line) shard history entry → IsNext issuer histories line shard history entry
  next-kept shard history entry next =
      subst (λ (l : List ℕ). IsNext issuer histories l shard history entry) (short-kept line next.is_for.short) next

  bad-kept : IsBadLine issuer histories (kept line) → IsBadLine issuer histories line
  bad-kept bad =
      ⊎_elim
      (λ long.
      let size = length-append (kept line) (10 ∷ []) in
      let cut = length-take KEPT_BYTES line in
      let whole = length-append line (10 ∷ []) in
      inl (omega (arith, long, size, cut, whole)))
      (λ short. subst (IsBadLine issuer histories) (short-kept line short) bad)
      (cases_lt MOST_FEED_BYTES (length (ended (kept line))))

-- ---- lines

lines-kept : (issuer : Setup) (opening histories : List (List Entry)) (lines : List (List ℕ))
    → TakesLines issuer opening (map kept lines) histories → TakesLines issuer opening lines histories
lines-kept issuer opening histories [] same = same
lines-kept issuer opening histories (line ∷ lines) (between, one, more) =
    (between, takes-kept issuer opening line between one, lines-kept issuer between histories lines more)

pub kept-unbroken : (count : ℕ) (line : List ℕ) → IsUnbroken line → IsUnbroken (take count line)
kept-unbroken zero line unbroken = tt
kept-unbroken (suc count) [] unbroken = tt
kept-unbroken (suc count) (byte ∷ line) unbroken = (unbroken.0, kept-unbroken count line unbroken.1)

all-unbroken : (lines : List (List ℕ)) → AllByRecursion IsUnbroken lines → AllByRecursion IsUnbroken (map kept lines)
all-unbroken [] each = tt
all-unbroken (line ∷ lines) each = (kept-unbroken KEPT_BYTES line each.0, all-unbroken lines each.1)

each-first : (some more : List (List ℕ)) → AllByRecursion IsUnbroken (some ++ more) → AllByRecursion IsUnbroken some
each-first [] more each = tt
each-first (line ∷ some) more each = (each.0, each-first some more each.1)

-- the first lines of some within the limits are within them
within-first : (some more : List (List ℕ)) → AreWithinLimits (some ++ more) → AreWithinLimits some
within-first some more within =
    let lines = length-append some more in
    let bytes = length-append (flat_map ended some) (flat_map ended more) in
    let text = ap length (flat_map-append ended some more) in
    record {
      lines_within = omega (arith, within.lines_within, lines);
      bytes_within = omega (arith, within.bytes_within, text, bytes);
    }

-- lines that were given are within the limits
pub within-given : (reading : Reading) (text : List ℕ) (whole : List (List ℕ)) → HasGivenLines reading text whole
    → AreWithinLimits whole
within-given reading text whole given = record {
  lines_within = omega (arith, given.within.lines_within, given.lines_counted);
  bytes_within = omega (arith, given.within.bytes_within, given.bytes_counted);
}

-- the lines whose truncated ones are these and then this one
record AreKept (lines before : List (List ℕ)) (line : List ℕ) : Type 0 where
  first : List (List ℕ)
  next : List ℕ
  more : List (List ℕ)
  lines_are : lines ≡ first ++ next ∷ more
  first_are : map kept first ≡ before
  next_is : line ≡ kept next

are-kept : (lines before : List (List ℕ)) (line : List ℕ) (behind : List (List ℕ))
    → map kept lines ≡ before ++ line ∷ behind → AreKept lines before line
are-kept [] [] line behind same = absurd (let sizes = ap length same in omega (arith, sizes))
are-kept [] (other ∷ before) line behind same = absurd (let sizes = ap length same in omega (arith, sizes))
are-kept (one ∷ lines) [] line behind same = record {
  first = [];
  next = one;
  more = lines;
  lines_are = refl;
  first_are = refl;
  next_is = let head : kept one ≡ line = cc in sym head;
}
are-kept (one ∷ lines) (other ∷ before) line behind same =
    let head : kept one ≡ other = cc in
    let tail : map kept lines ≡ before ++ line ∷ behind = cc in
    let found = are-kept lines before line behind tail in
    record {
      first = one ∷ found.first;
      next = found.next;
      more = found.more;
      lines_are = ap (λ (ls : List (List ℕ)). one ∷ ls) found.lines_are;
      first_are = ap (λ (ls : List (List ℕ)). kept one ∷ ls) found.first_are ∙ ap (λ (l : List ℕ). l ∷ before) head;
      next_is = found.next_is;
    }

-- the text of truncated lines
abbrev pub kept_text : List (List ℕ) → List ℕ
kept_text lines = flat_map ended (map kept lines)

module _ (issuer : Setup) (opening histories : List (List Entry)) (read : List ℕ) (lines : List (List ℕ)) (ahead : List ℕ)
    (begins : BeginsWithLines read lines ahead) where
  whole : IsLinesAndRest (kept_text lines) (map kept lines) []
  whole = record {
    begins = record { joined = sym (append-nil (kept_text lines)); each = all-unbroken lines begins.each };
    unbroken = tt;
  }

  -- what the stream of the truncated lines makes is what the lines make
  pub takes-read : TakesStream issuer opening (kept_text lines) histories → TakesLines issuer opening lines histories
  takes-read takes =
      let same = IsLinesAndRest-same (kept_text lines) takes.lines (map kept lines) takes.rest [] takes.split whole in
      lines-kept issuer opening histories lines
      (subst (λ (ls : List (List ℕ)). TakesLines issuer opening ls histories) same.0 takes.taken)

  -- a line at which it stops is one of the lines, truncated
  stops-read : (number : ℕ) (line : List ℕ) → StopsAt issuer opening (kept_text lines) number line histories
      → (next : List ℕ) × (line ≡ kept next) × (at : StopsAt issuer opening read number next histories)
      × (AreWithinLimits lines → AreWithinLimits (at.before ++ next ∷ []))
  stops-read number line stops =
      let all = whole-begins (stops.before ++ line ∷ []) (map kept lines) stops.ahead [] stops.begins.each
      whole.begins.each tt (sym stops.begins.joined ∙ whole.begins.joined) in
      let found = are-kept lines stops.before line all.0
      (all.1 ∙ append_assoc stops.before (line ∷ []) all.0) in
      let grouped : lines ≡ (found.first ++ found.next ∷ []) ++ found.more =
      found.lines_are ∙ sym (append_assoc found.first (found.next ∷ []) found.more) in (
        found.next,
        found.next_is,
        record {
          before = found.first;
          ahead = flat_map ended found.more ++ ahead;
          begins = record {
            joined =
                begins.joined ∙ ap (λ (ls : List (List ℕ)). flat_map ended ls ++ ahead) grouped
                ∙ ap (λ (text : List ℕ). text ++ ahead) (flat_map-append ended (found.first ++ found.next ∷ []) found.more)
                ∙ append_assoc (flat_map ended (found.first ++ found.next ∷ [])) (flat_map ended found.more) ahead;
            each = each-first (found.first ++ found.next ∷ []) found.more
                (subst (AllByRecursion IsUnbroken) grouped begins.each);
          };
          taken = lines-kept issuer opening histories found.first
              (subst (λ (ls : List (List ℕ)). TakesLines issuer opening ls histories) (sym found.first_are) stops.taken);
          number_is =
              stops.number_is
              ∙ ap line_number (sym (ap length found.first_are) ∙ length-map found.first kept);
        },
        λ within. within-first (found.first ++ found.next ∷ []) found.more (subst AreWithinLimits grouped within),
      )

  pub stops_badly-read : AreWithinLimits lines → (number : ℕ)
      → StopsBadly issuer opening (kept_text lines) number histories
      → StopsAtBadLine issuer opening read number histories
  stops_badly-read within number stops =
      let it = stops-read number stops.line stops.stops in
      record {
        bad = record {
          line = it.0;
          stops = it.2;
          bad = bad-kept issuer histories it.0 (subst (IsBadLine issuer histories) it.1 stops.bad);
        };
        within = it.3 within;
      }

  pub stops_at_record-read : AreWithinLimits lines → (number : ℕ) (line : List ℕ) (shard : ℕ) (history : List Entry) (entry : Entry)
      → StopsAt issuer opening (kept_text lines) number line histories
      → IsNext issuer histories line shard history entry
      → (its : StopsAtRecord issuer opening read shard histories) × (its.history ≡ history) × (its.entry ≡ entry)
  stops_at_record-read within number line shard history entry stops next =
      let it = stops-read number line stops in (
        record {
          number = number;
          line = it.0;
          history = history;
          entry = entry;
          stops = it.2;
          within = it.3 within;
          next = next-kept issuer histories it.0 shard history entry
              (subst (λ (l : List ℕ). IsNext issuer histories l shard history entry) it.1 next);
        },
        refl,
        refl,
      )
