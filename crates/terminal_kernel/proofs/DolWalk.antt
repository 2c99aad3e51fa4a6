-- The walk over a list of data objects.
use Rattle.std.proofs.Common.{◌≡◌, ◌≢◌, ℕ, suc, ◌+◌, ◌-◌, ◌*◌, ◌<◌, ◌≤◌, true, false, List, [], ◌∷◌, ◌++◌, length, Option, Some}
use Rattle.std.proofs.Common.{None, Ok, Err, option_and_then, refl, sym, ap, ◌∙◌, arith, append_assoc, append-nil, length-append, add-zero}
use Rattle.std.proofs.lemmas.Option.{same_Some}
use Rattle.std.proofs.lemmas.Bool.{and_parts, leb-true}
use Rattle.tlv_objects.specs.Tlv.{opens_long_tag, ends_tag, tag_from_third, tag_from_second, tag_at, short_length}
use Rattle.tlv_objects.proofs.Fronts.{choose}
use Rattle.terminal_kernel.specs.declared.dol.DolEntry.{DolEntry}
use Rattle.terminal_kernel.specs.declared.limits.TheConstants.{MAX_ENTRIES, MAX_FILLED_BYTES}
use Rattle.terminal_kernel.specs.Dol.{FrontEntry, front_entry, DolText, with_entry, entries_from, total_length, is_within, first_beyond, dol_of}

-- WHAT STANDS BEHIND AN ENTRY

third_leaves : (tag : ℕ) (bytes : List ℕ) (found : ℕ × List ℕ) → tag_from_third tag bytes ≡ Some found
    → (spelling : List ℕ) × (bytes ≡ spelling ++ found.1)
third_leaves tag [] found h = absurd cc
third_leaves tag (byte ∷ bytes) found h = choose (ends_tag byte) _ _ _ h
    (λ last e. (byte ∷ [], ap (λ (p : ℕ × List ℕ). byte ∷ p.1) (same_Some _ _ e)))
    (λ more e. absurd cc)

second_leaves : (tag : ℕ) (bytes : List ℕ) (found : ℕ × List ℕ) → tag_from_second tag bytes ≡ Some found
    → (spelling : List ℕ) × (bytes ≡ spelling ++ found.1)
second_leaves tag [] found h = absurd cc
second_leaves tag (byte ∷ bytes) found h = choose (ends_tag byte) _ _ _ h
    (λ last e. (byte ∷ [], ap (λ (p : ℕ × List ℕ). byte ∷ p.1) (same_Some _ _ e)))
    (λ more e.
    let third = third_leaves (256 * tag + byte) bytes found e in
    (byte ∷ third.0, ap (λ (xs : List ℕ). byte ∷ xs) third.1))

tag_leaves : (byte : ℕ) (bytes : List ℕ) (found : ℕ × List ℕ) → tag_at (byte ∷ bytes) ≡ Some found
    → (spelling : List ℕ) × (bytes ≡ spelling ++ found.1)
unfolding tag_at
tag_leaves byte bytes found h = choose (opens_long_tag byte) _ _ _ h
    (λ long e. second_leaves byte bytes found e)
    (λ short e. ([], ap (λ (p : ℕ × List ℕ). p.1) (same_Some _ _ e)))

size_leaves : (bytes : List ℕ) (found : ℕ × List ℕ) → short_length bytes ≡ Some found → bytes ≡ found.0 ∷ found.1
size_leaves [] found h = absurd cc
size_leaves (byte ∷ bytes) found h = ap (λ (p : ℕ × List ℕ). p.0 ∷ p.1) (same_Some _ _ h)

bind_some : {A B : Type 0} (o : Option A) (f : A → Option B) (y : B) → option_and_then f o ≡ Some y → (x : A) × (o ≡ Some x) × (f x ≡ Some y)
bind_some None f y h = absurd cc
bind_some (Some x) f y h = (x, refl, h)

-- an entry that is read is spelled by a byte and some more, before what it leaves
front_leaves : (byte : ℕ) (bytes : List ℕ) (front : FrontEntry) → front_entry (byte ∷ bytes) ≡ Some front
    → (spelling : List ℕ) × (bytes ≡ spelling ++ front.rest)
unfolding front_entry
front_leaves byte bytes front h =
    let tag = bind_some _ _ _ h in
    let size = bind_some _ _ _ tag.2 in
    let behind : size.0.1 ≡ front.rest = ap (λ (f : FrontEntry). f.rest) (same_Some _ _ size.2) in
    let spelled = tag_leaves byte bytes tag.0 tag.1 in (
      spelled.0 ++ size.0.0 ∷ [],
      spelled.1 ∙ ap (λ (xs : List ℕ). spelled.0 ++ xs) (size_leaves tag.0.1 size.0 size.1)
          ∙ sym (append_assoc spelled.0 (size.0.0 ∷ []) size.0.1)
          ∙ ap (λ (xs : List ℕ). (spelled.0 ++ size.0.0 ∷ []) ++ xs) behind,
    )

-- what is inside an entry that was read is passed over
entries_behind : (xs ys : List ℕ) (at : ℕ) → entries_from (length xs) at (xs ++ ys) ≡ entries_from 0 (at + length xs) ys
unfolding entries_from
entries_behind [] ys at = rw add-zero refl
entries_behind (x ∷ xs) ys at =
    entries_behind xs ys (at + 1) ∙ ap (λ (n : ℕ). entries_from 0 n ys) (omega arith)

-- an entry at the front
abbrev pub entry_at : ℕ → FrontEntry → DolEntry
entry_at at front = record { tag = front.tag; length = front.size; at = at }

entries_front : (byte : ℕ) (bytes spelling : List ℕ) (at : ℕ) (front : FrontEntry) → front_entry (byte ∷ bytes) ≡ Some front → bytes ≡ spelling ++ front.rest
    → entries_from 0 at (byte ∷ bytes) ≡ with_entry (entry_at at front) (entries_from 0 (at + suc (length spelling)) front.rest)
unfolding entries_from
entries_front byte bytes spelling at front h joined =
    let inside : length bytes - length front.rest ≡ length spelling = omega (arith, ap length joined, length-append spelling front.rest) in
    let behind : entries_from (length spelling) (at + 1) bytes ≡ entries_from 0 (at + suc (length spelling)) front.rest =
    ap (entries_from (length spelling) (at + 1)) joined
    ∙ entries_behind spelling front.rest (at + 1) ∙ ap (λ (n : ℕ). entries_from 0 n front.rest) (omega arith)
    in
    rw (h, entries_from, inside, behind) refl

-- an entry that is read is the first, and takes what isn't left
pub record IsFront (unread : List ℕ) (at : ℕ) (front : FrontEntry) : Type 0 where
  pub shorter : length front.rest < length unread
  pub first : entries_from 0 at unread ≡ with_entry (entry_at at front) (entries_from 0 (at + (length unread - length front.rest)) front.rest)

pub is_front : (unread : List ℕ) (at : ℕ) (front : FrontEntry) → front_entry unread ≡ Some front → IsFront unread at front
unfolding front_entry tag_at
is_front [] at front h = absurd cc
is_front (byte ∷ bytes) at front h =
    let spelled = front_leaves byte bytes front h in
    let sizes = ap length spelled.1 ∙ length-append spelled.0 front.rest in
    let taken : suc (length spelled.0) ≡ length (byte ∷ bytes) - length front.rest = omega (arith, sizes) in
    record {
      shorter = omega (arith, sizes);
      first = entries_front byte bytes spelled.0 at front h spelled.1
          ∙ ap (λ (n : ℕ). with_entry (entry_at at front) (entries_from 0 (at + n) front.rest)) taken;
    }

-- THE WALK

-- entries before a list
abbrev pub behind_entries : List DolEntry → DolText → DolText
behind_entries entries text = record { entries = entries ++ text.entries; torn = text.torn }

-- the entries so far, the sum of their lengths, and what is unread of a list
pub record HasRead (bytes : List ℕ) (entries : List DolEntry) (total : ℕ) (unread : List ℕ) : Type 0 where
  pub within : length unread ≤ length bytes
  pub small : total ≤ MAX_FILLED_BYTES
  pub sum : total_length entries ≡ total
  pub read : entries_from 0 0 bytes ≡ behind_entries entries (entries_from 0 (length bytes - length unread) unread)
  pub beyond : first_beyond 0 0 (entries_from 0 0 bytes).entries
      ≡ first_beyond (length entries) total (entries_from 0 (length bytes - length unread) unread).entries

pub has_read-none : (bytes : List ℕ) → HasRead bytes [] 0 bytes
has_read-none bytes =
    let none : 0 ≡ length bytes - length bytes = omega arith in
    record {
      within = omega arith;
      small = omega arith;
      sum = refl;
      read = ap (λ (n : ℕ). entries_from 0 n bytes) none;
      beyond = ap (λ (n : ℕ). first_beyond 0 0 (entries_from 0 n bytes).entries) none;
    }

-- at the end of the list all its entries are read
pub dol_of-end : (bytes : List ℕ) (entries : List DolEntry) (total : ℕ) → HasRead bytes entries total []
    → dol_of bytes ≡ Ok (record { items = entries })
unfolding dol_of entries_from first_beyond
dol_of-end bytes entries total read = rw (read.beyond, read.read, append-nil entries) refl

nothing_from : (unread : List ℕ) (at : ℕ) → unread ≢ [] → front_entry unread ≡ None
    → entries_from 0 at unread ≡ record { entries = []; torn = Some at }
unfolding entries_from
nothing_from [] at some none = absurd (some refl)
nothing_from (byte ∷ unread) at some none = rw (none, entries_from) refl

-- where no entry begins the list is refused
pub dol_of-torn : (bytes unread : List ℕ) (entries : List DolEntry) (total : ℕ) → HasRead bytes entries total unread
    → unread ≢ [] → front_entry unread ≡ None → dol_of bytes ≡ Err (record { at = length bytes - length unread })
unfolding dol_of first_beyond
dol_of-torn bytes unread entries total read some none =
    let ahead = nothing_from unread (length bytes - length unread) some none in
    rw (read.beyond, read.read, ahead) refl

-- the first entry that a list may not have refuses it
pub dol_of-beyond : (bytes unread : List ℕ) (entries : List DolEntry) (total : ℕ) (front : FrontEntry) → HasRead bytes entries total unread
    → front_entry unread ≡ Some front → is_within (length entries + 1) (total + front.size) ≡ false
    → dol_of bytes ≡ Err (record { at = length bytes - length unread })
unfolding dol_of first_beyond
dol_of-beyond bytes unread entries total front read found over =
    let ahead = is_front unread (length bytes - length unread) front found in
    rw (read.beyond, ahead.first, over) refl

-- within the limits there is room for one more entry
pub within-parts : (count total : ℕ) → is_within count total ≡ true → (count ≤ MAX_ENTRIES) × (total ≤ MAX_FILLED_BYTES)
within-parts count total within = let parts = and_parts _ _ within in (leb-true _ _ parts.0, leb-true _ _ parts.1)

total_length-append : (entries : List DolEntry) (entry : DolEntry) → total_length (entries ++ entry ∷ []) ≡ total_length entries + entry.length
total_length-append [] entry = omega arith
total_length-append (first ∷ entries) entry = let others = total_length-append entries entry in omega arith

-- one more entry
pub has_read-more : (bytes unread : List ℕ) (entries : List DolEntry) (total : ℕ) (front : FrontEntry) → HasRead bytes entries total unread
    → front_entry unread ≡ Some front → is_within (length entries + 1) (total + front.size) ≡ true
    → HasRead bytes (entries ++ entry_at (length bytes - length unread) front ∷ []) (total + front.size) front.rest
unfolding first_beyond
has_read-more bytes unread entries total front read found within =
    let at = length bytes - length unread in
    let entry = entry_at at front in
    let ahead = is_front unread at front found in
    let place : at + (length unread - length front.rest) ≡ length bytes - length front.rest = omega (arith, read.within, ahead.shorter) in
    let first : entries_from 0 at unread ≡ with_entry entry (entries_from 0 (length bytes - length front.rest) front.rest) =
    ahead.first ∙ ap (λ (n : ℕ). with_entry entry (entries_from 0 n front.rest)) place in
    let count : length (entries ++ entry ∷ []) ≡ length entries + 1 = length-append entries (entry ∷ []) in
    record {
      within = omega (arith, read.within, ahead.shorter);
      small = (within-parts _ _ within).1;
      sum = total_length-append entries entry ∙ ap (λ (n : ℕ). n + front.size) read.sum;
      read = read.read ∙ ap (behind_entries entries) first
          ∙ ap (λ (es : List DolEntry). record { entries = es; torn = (entries_from 0 (length bytes - length front.rest) front.rest).torn })
          (sym (append_assoc entries (entry ∷ []) (entries_from 0 (length bytes - length front.rest) front.rest).entries));
      beyond = read.beyond ∙ ap (λ (t : DolText). first_beyond (length entries) total t.entries) first
          ∙ rw (within, count) refl;
    }
