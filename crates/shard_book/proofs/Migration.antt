-- A journal that is continued with the text of the old one: where both agree, what is appended, and what a crash leaves.
use Rattle.std.proofs.Common.{◌≡◌, ◌≢◌, ◌⊎◌, ℕ, ◌+◌, ◌-◌, ◌<◌, ◌≤◌, ◌==◌, Bool, true, false, List, [], ◌∷◌, ◌++◌, length, take, drop, get_or}
use Rattle.std.proofs.Common.{refl, sym, ap, ap₂, subst, ◌∙◌, inl, inr, ⊎_elim, arith, Option, None, Some, IfSome, append_assoc}
use Rattle.std.proofs.Common.{length-take, length-drop}
use Rattle.std.proofs.Math.Seq.{take-add}
use Rattle.std.proofs.lemmas.Bool.{cases_lt, cases_Bool}
use Rattle.std.proofs.lemmas.List.{take_all, take_more, take-take, take-append-le, take-append-drop, drop-drop, drop-append-le, drop-take}
use Rattle.std.proofs.lemmas.List.{get_or-take, get_or-drop}
use lib.Pointwise.{bytes_decides}
use Rattle.std.specs.Cmp.Lexicographic.{pointwise}
use Rattle.std.specs.Prelude.{nat_eq, slice_index}
use Rattle.issuer_base.specs.Stores.{Disk, Moment, BothTold, AppendsToBytes, AppendsToDisk, SyncsDisk, WhileAppended, WhileKept}
use Rattle.issuer_base.proofs.Moments.{Passes-then, Passes-weaker}
use Rattle.issuer_base.proofs.ToldTwice.{BothTold-then, BothTold-weaker}
use Rattle.journal_rec.specs.RecordText.{newline, version_line}
use Rattle.journal_store.specs.Images.{IsKept, OnlyReads}
use Rattle.shard_book.specs.declared.replay.LoadFault.{LoadFault}
use Rattle.shard_book.specs.declared.replay.LoadFault.TheVariants.{BadLine}
use Rattle.shard_book.specs.Loading.{DiffersAt, IsOutside, newlines_in}
use Rattle.shard_book.specs.Migrating.{Agree, DiffersIn, IsMoving, IsTextAfter, PassesMoving}
use Rattle.shard_book.specs.Versions.{IsPartOf}

-- ---- the text of the old store, read from an offset on

-- a part of the first line
pub line-given : (old_bytes : Option (List ℕ)) (bytes at count : ℕ) (text into : List ℕ) → IsTextAfter old_bytes bytes text → at + count ≤ 3
    → take count into ≡ take count (drop at version_line) → IfSome old_bytes (λ _. take count into ≡ take count (drop at text))
line-given None bytes at count text into after within given = tt
line-given (Some told) bytes at count text into after within given =
    let rest = length-drop at version_line in
    given
    ∙ sym (ap (λ l. take count (drop at l)) after.text_is
    ∙ ap (take count) (drop-append-le at version_line (take bytes told) (omega (arith, within)))
    ∙ take-append-le count (drop at version_line) (take bytes told) (omega (arith, within, rest)))

-- a part of the old store's bytes
pub old-given : (old_bytes : Option (List ℕ)) (bytes at count : ℕ) (text into : List ℕ) → IsTextAfter old_bytes bytes text → 3 ≤ at
    → (at - 3) + count ≤ bytes → IfSome old_bytes (λ told. take count into ≡ take count (drop (at - 3) told))
    → IfSome old_bytes (λ _. take count into ≡ take count (drop at text))
old-given None bytes at count text into after past within given = tt
old-given (Some told) bytes at count text into after past within given =
    let k : ℕ = at - 3 in
    let m : ℕ = bytes - k in
    let split : at ≡ 3 + k = omega (arith, past) in
    let whole : bytes ≡ k + m = omega (arith, within) in
    given
    ∙ sym (ap (λ l. take count (drop at l)) after.text_is
    ∙ ap (λ n. take count (drop n (version_line ++ take bytes told))) split
    ∙ ap (take count) (sym (drop-drop k 3 (version_line ++ take bytes told)))
    ∙ ap (λ n. take count (drop k (take n told))) whole
    ∙ ap (take count) (drop-take k m told)
    ∙ take-take count m (drop k told) (omega (arith, within)))

-- a part that was read into the front of a buffer
pub old-part : (old_bytes : Option (List ℕ)) (bytes at count : ℕ) (text piece rest : List ℕ) → IsTextAfter old_bytes bytes text → 3 ≤ at
    → (at - 3) + count ≤ bytes → count ≤ length piece → IfSome old_bytes (λ told. take count piece ≡ take count (drop (at - 3) told))
    → IfSome old_bytes (λ _. take count (piece ++ rest) ≡ take count (drop at text))
old-part old_bytes bytes at count text piece rest after past within short given =
    old-given old_bytes bytes at count text (piece ++ rest) after past within (front old_bytes given)
  where
    front : (told : Option (List ℕ)) → IfSome told (λ told. take count piece ≡ take count (drop (at - 3) told))
        → IfSome told (λ told. take count (piece ++ rest) ≡ take count (drop (at - 3) told))
    front None is = tt
    front (Some told) is = take-append-le count piece rest short ∙ is

-- what is observable of one store is so of the other
pub alike-told : (one other : Option (List ℕ)) (P : Type 0) → BothTold (λ _ _. Unit {0}) one other → IfSome one (λ _. P) → IfSome other (λ _. P)
alike-told None None P alike is = tt
alike-told None (Some told) P alike is = absurd alike
alike-told (Some told) None P alike is = absurd alike
alike-told (Some told) (Some other) P alike is = is

-- a piece that was read of the old store is one of the text at the store's end
pub piece-given : (old_bytes bytes : Option (List ℕ)) (text piece : List ℕ) (count at size : ℕ) → BothTold (λ _ _. Unit {0}) old_bytes bytes → at ≡ size
    → IfSome old_bytes (λ _. piece ≡ take count (drop at text)) → IfSome bytes (λ _. piece ≡ take count (drop size text))
piece-given old_bytes bytes text piece count at size alike same given =
    subst (λ (at : ℕ). IfSome bytes (λ _. piece ≡ take count (drop at text))) same
    (alike-told old_bytes bytes (piece ≡ take count (drop at text)) alike given)

-- ---- prefixes of the text

-- a prefix is as long as it is
pub part-length : (text bytes : List ℕ) → IsPartOf text bytes → bytes ≡ take (length bytes) text
part-length text bytes part =
    let long = ap length part.part_is ∙ length-take part.kept text in
    elim (cases_lt (length text) part.kept) [
      | inl below ↦
          let whole : bytes ≡ text = part.part_is ∙ take_all part.kept text (omega (arith, below)) in
          whole ∙ sym (take_all (length bytes) text (omega (arith, ap length whole)))
      | inr above ↦ part.part_is ∙ ap (λ n. take n text) (let same : part.kept ≡ length bytes = omega (arith, above, long) in same)
    ]

-- a part of what follows a prefix makes it a longer one
pub part-more : (text bytes piece : List ℕ) (n j : ℕ) → IsPartOf text bytes → piece ≡ take n (drop (length bytes) text)
    → IsPartOf text (bytes ++ take j piece)
part-more text bytes piece n j part is =
    let at = length bytes in
    let whole : (m : ℕ) → take j piece ≡ take m (drop at text) → IsPartOf text (bytes ++ take j piece) =
    λ m same. record {
      kept = at + m;
      part_is = ap₂ (λ (a b : List ℕ). a ++ b) (part-length text bytes part) same ∙ sym (take-add at m text);
    } in
    elim (cases_lt j n) [
      | inl below ↦ whole j (ap (take j) is ∙ take-take j n (drop at text) (omega (arith, below)))
      | inr above ↦
          let short = length-take n (drop at text) in
          whole n (ap (take j) is ∙ take_all j (take n (drop at text)) (omega (arith, above, short)))
    ]

part-appended : (text old new piece : List ℕ) (n : ℕ) (failed : Bool) → IsPartOf text old → piece ≡ take n (drop (length old) text)
    → AppendsToBytes piece failed old new → IsPartOf text new
part-appended text old new piece n true part is appended =
    subst (IsPartOf text) (sym appended.1) (part-more text old piece n appended.0 part is)
part-appended text old new piece n false part is appended =
    subst (IsPartOf text) (sym (appended ∙ ap (λ l. old ++ l) (sym (take_all (length piece) piece (omega arith)))))
    (part-more text old piece n (length piece) part is)

-- a piece of the text is appended
pub told-appended : (text piece : List ℕ) (n size : ℕ) (failed : Bool) (old mid : Option (List ℕ)) → IfSome old (IsPartOf text)
    → IfSome old (λ told. size ≡ length told) → IfSome old (λ _. piece ≡ take n (drop size text))
    → BothTold (AppendsToBytes piece failed) old mid → IfSome mid (IsPartOf text)
told-appended text piece n size failed None None part sized is appended = tt
told-appended text piece n size failed None (Some new) part sized is appended = absurd appended
told-appended text piece n size failed (Some old) None part sized is appended = absurd appended
told-appended text piece n size failed (Some old) (Some new) part sized is appended =
    part-appended text old new piece n failed part (is ∙ ap (λ size. take n (drop size text)) sized) appended

-- ---- moments

-- no call was made
pub moving-none : (text : List ℕ) (a b : Option Disk) → BothTold OnlyReads a b → BothTold (PassesMoving text) a b
moving-none text a b = BothTold-weaker OnlyReads (PassesMoving text) a b
    (λ x y reads. Passes-weaker (IsKept x.now) (IsMoving text x.now) x y (λ moment kept. inl kept) reads)

-- moments, and then more moments
moves-then : (text : List ℕ) (first mid moment : Moment) → IsMoving text first mid → IsMoving text mid moment → IsMoving text first moment
moves-then text first mid moment one other = ⊎_elim
    (λ (kept : IsKept first mid). ⊎_elim
    (λ (again : IsKept mid moment). inl (record {
      holds = again.holds ∙ kept.holds;
      at_least = let a = kept.at_least in let b = again.at_least in omega (arith, a, b);
    }))
    (λ (moved : IsPartOf text mid.bytes × IsPartOf text moment.bytes). inr (subst (IsPartOf text) kept.holds moved.0, moved.1)) other)
    (λ (moved : IsPartOf text first.bytes × IsPartOf text mid.bytes). ⊎_elim
    (λ (kept : IsKept mid moment). inr (moved.0, subst (IsPartOf text) (sym kept.holds) moved.1))
    (λ (again : IsPartOf text mid.bytes × IsPartOf text moment.bytes). inr (moved.0, again.1)) other)
    one

pub moving-then : (text : List ℕ) (a b c : Option Disk) → BothTold (PassesMoving text) a b → BothTold (PassesMoving text) b c
    → BothTold (PassesMoving text) a c
moving-then text a b c = BothTold-then (PassesMoving text) (PassesMoving text) (PassesMoving text) a b c
    (λ x y z p q. Passes-then (IsMoving text x.now) x y z p
    (Passes-weaker (IsMoving text y.now) (IsMoving text x.now) y z (λ moment is. moves-then text x.now y.now moment p.last is) q))

-- a piece of the text is appended
moving-append : (text piece : List ℕ) (n : ℕ) (failed : Bool) (old new : Disk) → IsPartOf text old.now.bytes
    → piece ≡ take n (drop (length old.now.bytes) text) → AppendsToDisk piece failed old new → PassesMoving text old new
moving-append text piece n failed old new part is appends =
    Passes-weaker (WhileAppended piece old.now) (IsMoving text old.now) old new
    (λ moment during. inr (part, subst (IsPartOf text) (sym during.1.holds) (part-more text old.now.bytes piece n during.0 part is))) appends.passes

pub told-moving : (text piece : List ℕ) (n size : ℕ) (failed : Bool) (bytes : Option (List ℕ)) (old mid : Option Disk)
    → IfSome old (λ disk. bytes ≡ Some disk.now.bytes) → IfSome bytes (IsPartOf text)
    → IfSome bytes (λ told. size ≡ length told) → IfSome bytes (λ _. piece ≡ take n (drop size text))
    → BothTold (AppendsToDisk piece failed) old mid → BothTold (PassesMoving text) old mid
told-moving text piece n size failed bytes None None has part sized is appends = tt
told-moving text piece n size failed bytes None (Some new) has part sized is appends = absurd appends
told-moving text piece n size failed bytes (Some old) None has part sized is appends = absurd appends
told-moving text piece n size failed bytes (Some old) (Some new) has part sized is appends =
    let at : size ≡ length old.now.bytes = subst (λ (b : Option (List ℕ)). IfSome b (λ told. size ≡ length told)) has sized in
    moving-append text piece n failed old new (subst (λ (b : Option (List ℕ)). IfSome b (IsPartOf text)) has part)
    (subst (λ (b : Option (List ℕ)). IfSome b (λ _. piece ≡ take n (drop size text))) has is ∙ ap (λ size. take n (drop size text)) at) appends

-- the bytes are synced
pub moving-sync : (text : List ℕ) (failed : Bool) (a b : Option Disk) → BothTold (SyncsDisk failed) a b → BothTold (PassesMoving text) a b
moving-sync text failed a b = BothTold-weaker (SyncsDisk failed) (PassesMoving text) a b
    (λ x y syncs. Passes-weaker (WhileKept x.now) (IsMoving text x.now) x y
    (λ moment kept. inl (record { holds = kept.holds; at_least = kept.at_least })) syncs.passes)

-- ---- lines

newlines_in-append : (one other : List ℕ) → newlines_in (one ++ other) ≡ newlines_in one + newlines_in other
newlines_in-append [] other = let e : newlines_in other ≡ 0 + newlines_in other = omega arith in e
newlines_in-append (byte ∷ one) other =
    elim (cases_Bool (byte == newline)) [
      | inl is ↦ rw (is) (ap (λ n. n + 1) (newlines_in-append one other)
          ∙ (let e : newlines_in one + newlines_in other + 1 ≡ (newlines_in one + 1) + newlines_in other = omega arith in e))
      | inr off ↦ rw (off) (newlines_in-append one other)
    ]

-- newlines of one more part
pub lines-more : (bytes now : Option (List ℕ)) (at count lines more : ℕ) (into : List ℕ) → now ≡ bytes
    → IfSome bytes (λ told. lines ≡ newlines_in (take at told)) → IfSome now (λ told. take count into ≡ take count (drop at told))
    → more ≡ newlines_in (take count into) → IfSome bytes (λ told. lines + more ≡ newlines_in (take (at + count) told))
lines-more None now at count lines more into same before read is = tt
lines-more (Some told) now at count lines more into same before read is =
    let given : take count into ≡ take count (drop at told) =
    subst (λ (now : Option (List ℕ)). IfSome now (λ told. take count into ≡ take count (drop at told))) same read in
    ap₂ (λ (a b : ℕ). a + b) before (is ∙ ap newlines_in given)
    ∙ sym (ap newlines_in (take-add at count told) ∙ newlines_in-append (take at told) (take count (drop at told)))

pub lines-none : (bytes : Option (List ℕ)) → IfSome bytes (λ told. 0 ≡ newlines_in (take 0 told))
lines-none None = tt
lines-none (Some told) = refl

-- newlines of one more byte
pub lines-byte : (part : List ℕ) (at count one : ℕ) → at < length part → count ≡ newlines_in (take at part)
    → one ≡ newlines_in (get_or part at 0 ∷ []) → count + one ≡ newlines_in (take (at + 1) part)
lines-byte part at count one within before is =
    ap₂ (λ (a b : ℕ). a + b) before is
    ∙ sym (ap newlines_in (take_more part at 0 within) ∙ newlines_in-append (take at part) (get_or part at 0 ∷ []))

-- ---- where the two differ

-- a text is its first bytes, the next, and the others
split-at : (text : List ℕ) (at : ℕ) → at < length text → text ≡ take at text ++ get_or text at 0 ∷ drop (at + 1) text
split-at text at within =
    sym (take-append-drop (at + 1) text) ∙ ap (λ l. l ++ drop (at + 1) text) (take_more text at 0 within)
    ∙ append_assoc (take at text) (get_or text at 0 ∷ []) (drop (at + 1) text)

pub differs-at : (text bytes : List ℕ) (at : ℕ) → take at bytes ≡ take at text → at < length bytes → at < length text
    → get_or bytes at 0 ≢ get_or text at 0 → DiffersAt text bytes (newlines_in (take at bytes) + 1)
differs-at text bytes at alike within text_within apart = record {
  same = take at bytes;
  byte = get_or bytes at 0;
  other = get_or text at 0;
  ahead = drop (at + 1) bytes;
  other_ahead = drop (at + 1) text;
  bytes_are = split-at bytes at within;
  text_is = split-at text at text_within ∙ ap (λ l. l ++ get_or text at 0 ∷ drop (at + 1) text) (sym alike);
  apart = apart;
  line_is = refl;
}

-- as far as both go they agree
pub agree-all : (text bytes : List ℕ) (at : ℕ) → take at bytes ≡ take at text → (length bytes ≤ at) ⊎ (length text ≤ at) → Agree text bytes
agree-all text bytes at alike = ⊎_elim
    (λ (short : length bytes ≤ at). inl (record { kept = at; part_is = sym (take_all at bytes short) ∙ alike }))
    (λ (short : length text ≤ at). inr (record { kept = at; part_is = sym (take_all at text short) ∙ sym alike }))

-- a text that agrees with longer bytes is their prefix
pub agree-front : (text bytes : List ℕ) → Agree text bytes → length text ≤ length bytes → take (length text) bytes ≡ text
agree-front text bytes agree long = ⊎_elim
    (λ (part : IsPartOf text bytes).
    let is = part-length text bytes part in
    let whole : bytes ≡ text = is ∙ take_all (length bytes) text long in
    take_all (length text) bytes (omega (arith, ap length whole)) ∙ whole)
    (λ (part : IsPartOf bytes text). sym (part-length bytes text part))
    agree

-- and one that agrees with shorter bytes has them as a prefix
pub agree-part : (text bytes : List ℕ) → Agree text bytes → length bytes ≤ length text → IsPartOf text bytes
agree-part text bytes agree short = ⊎_elim
    (λ (part : IsPartOf text bytes). part)
    (λ (part : IsPartOf bytes text).
    let is = part-length bytes text part in
    let whole : text ≡ bytes = is ∙ take_all (length text) bytes short in
    record { kept = length text; part_is = sym (take_all (length text) text (omega arith) ∙ whole) })
    agree

-- texts that agree to their end are the same
pub same-whole : (one other : List ℕ) (at : ℕ) → length one ≡ length other → take at one ≡ take at other → length one ≤ at
    → pointwise nat_eq one other ≡ true
same-whole one other at long alike past =
    let same : one ≡ other = sym (take_all at one past) ∙ alike ∙ take_all at other (omega (arith, long, past)) in
    (bytes_decides one other).1 same

-- ---- a part of both

-- a part that agrees makes a longer prefix that does
pub alike-more : (one other : List ℕ) (at count : ℕ) → take at one ≡ take at other → take count (drop at one) ≡ take count (drop at other)
    → take (at + count) one ≡ take (at + count) other
alike-more one other at count front part =
    take-add at count one ∙ ap₂ (λ (a b : List ℕ). a ++ b) front part ∙ sym (take-add at count other)

-- fewer bytes of the same part
pub take-less : (one other : List ℕ) (count less : ℕ) → less ≤ count → take count one ≡ take count other → take less one ≡ take less other
take-less one other count less few same =
    sym (take-take less count one few) ∙ ap (take less) same ∙ take-take less count other few

-- the parts that were read of both are the same
pub part-agrees : (old_bytes bytes : Option (List ℕ)) (text ours theirs : List ℕ) (at given count : ℕ) → BothTold (λ _ _. Unit {0}) old_bytes bytes
    → IfSome old_bytes (λ _. take given theirs ≡ take given (drop at text)) → IfSome bytes (λ told. take count ours ≡ take count (drop at told))
    → count ≤ given → take count ours ≡ take count theirs → IfSome bytes (λ told. take count (drop at told) ≡ take count (drop at text))
part-agrees old_bytes None text ours theirs at given count alike copied read few same = tt
part-agrees old_bytes (Some told) text ours theirs at given count alike copied read few same =
    let piece = alike-told old_bytes (Some told) (take given theirs ≡ take given (drop at text)) alike copied in
    sym read ∙ same ∙ take-less theirs (drop at text) given count few piece

-- or they differ, first in a line
pub part-differs : (old_bytes bytes : Option (List ℕ)) (text ours theirs : List ℕ) (at given count same : ℕ) (fault : LoadFault)
    → BothTold (λ _ _. Unit {0}) old_bytes bytes
    → IfSome old_bytes (λ _. take given theirs ≡ take given (drop at text)) → IfSome bytes (λ told. take count ours ≡ take count (drop at told))
    → count ≤ given → same < count → given ≤ length theirs → count ≤ length ours → at + given ≤ length text
    → take same (take count ours) ≡ take same (take count theirs)
    → slice_index (take count ours) same ≢ slice_index (take count theirs) same
    → IfSome bytes (λ told. at + count ≤ length told)
    → IfSome bytes (λ told. take at told ≡ take at text)
    → IsOutside fault ⊎ IfSome bytes (λ told. fault ≡ BadLine (newlines_in (take (at + same) told) + 1))
    → IsOutside fault ⊎ IfSome bytes (λ told. DiffersIn text told fault)
part-differs old_bytes None text ours theirs at given count same fault alike copied read few below long_theirs long_ours long alike_front apart inside
    front line =
    ⊎_elim (λ (out : IsOutside fault). inl out) (λ is. inr tt) line
part-differs old_bytes (Some told) text ours theirs at given count same fault alike copied read few below long_theirs long_ours long alike_front apart inside
    front line = ⊎_elim (λ (out : IsOutside fault). inl out) (λ is. inr (newlines_in (take (at + same) told) + 1, is, differs)) line
  where
    piece : take given theirs ≡ take given (drop at text)
    piece = alike-told old_bytes (Some told) (take given theirs ≡ take given (drop at text)) alike copied

    whole : take count theirs ≡ take count (drop at text)
    whole = take-less theirs (drop at text) given count few piece

    alike_part : take same (drop at told) ≡ take same (drop at text)
    alike_part =
        sym (take-take same count (drop at told) (omega (arith, below))) ∙ ap (take same) (sym read) ∙ alike_front ∙ ap (take same) whole
        ∙ take-take same count (drop at text) (omega (arith, below))

    ours-byte : slice_index (take count ours) same ≡ get_or told (at + same) 0
    ours-byte =
        ap (λ (l : List ℕ). get_or l same 0) read ∙ get_or-take count (drop at told) same 0 below ∙ get_or-drop at told same 0

    theirs-byte : slice_index (take count theirs) same ≡ get_or text (at + same) 0
    theirs-byte =
        ap (λ (l : List ℕ). get_or l same 0) whole ∙ get_or-take count (drop at text) same 0 below ∙ get_or-drop at text same 0

    differs : DiffersAt text told (newlines_in (take (at + same) told) + 1)
    differs =
        differs-at text told (at + same) (alike-more told text at same front alike_part) (omega (arith, below, inside)) (omega (arith, below, few, long))
        (λ both. apart (ours-byte ∙ both ∙ sym theirs-byte))

-- nothing was compared
pub agree-none : (bytes : Option (List ℕ)) (text : List ℕ) → IfSome bytes (λ told. take 0 told ≡ take 0 text)
agree-none None text = tt
agree-none (Some told) text = refl

-- and one more part
pub agree-more : (bytes now : Option (List ℕ)) (at count : ℕ) (text : List ℕ) → now ≡ bytes → IfSome bytes (λ told. take at told ≡ take at text)
    → IfSome now (λ told. take count (drop at told) ≡ take count (drop at text)) → IfSome bytes (λ told. take (at + count) told ≡ take (at + count) text)
agree-more None now at count text same front part = tt
agree-more (Some told) now at count text same front part =
    alike-more told text at count front
    (subst (λ (now : Option (List ℕ)). IfSome now (λ told. take count (drop at told) ≡ take count (drop at text))) same part)

-- the old store's bytes stayed
pub after-later : (old_bytes now : Option (List ℕ)) (count : ℕ) (text : List ℕ) → now ≡ old_bytes → IsTextAfter old_bytes count text
    → IsTextAfter now count text
after-later old_bytes now count text same after = subst (λ (bytes : Option (List ℕ)). IsTextAfter bytes count text) (sym same) after

-- the line of a store that was only read before
pub line-later : (bytes now : Option (List ℕ)) (at : ℕ) (fault : LoadFault) → now ≡ bytes
    → IsOutside fault ⊎ IfSome now (λ told. fault ≡ BadLine (newlines_in (take at told) + 1))
    → IsOutside fault ⊎ IfSome bytes (λ told. fault ≡ BadLine (newlines_in (take at told) + 1))
line-later bytes now at fault same =
    subst (λ (bytes : Option (List ℕ)). IsOutside fault ⊎ IfSome bytes (λ told. fault ≡ BadLine (newlines_in (take at told) + 1))) same

-- so many bytes are within those of the store
pub within-told : (bytes : Option (List ℕ)) (size count : ℕ) → IfSome bytes (λ told. size ≡ length told) → count ≤ size
    → IfSome bytes (λ told. count ≤ length told)
within-told None size count sized within = tt
within-told (Some told) size count sized within = omega (arith, sized, within)
