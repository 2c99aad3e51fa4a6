-- How a log's records and faults grow, and how long a log can be.
use Rattle.std.proofs.Common.{◌≡◌, ℕ, zero, suc, ◌+◌, ◌*◌, ◌^◌, ◌-◌, ◌<◌, ◌≤◌, List}
use Rattle.std.proofs.Common.{[], ◌∷◌, ◌++◌, length, length-append, map, All, refl, inl, inr, ⊎_elim, arith}
use Rattle.issuer_base.specs.OutsideFaults.{Rose}
use Rattle.issuer_base.specs.declared.entry.Entry.{Entry}
use Rattle.journal_rec.specs.Record.{IsRecord}
use Rattle.journal_rec.specs.RecordText.{text_of, texts_of}
use Rattle.journal_rec.specs.declared.limits.TheConstants.{LEAST_RECORD_BYTES}
use Rattle.journal_rec.proofs.TextLaws.{length-text_of}
use Rattle.shared_shards.specs.declared.logs.LogItem.{LogItem}
use Rattle.shared_shards.specs.declared.logs.LogItem.TheVariants.{Record, Fault}
use Rattle.shared_shards.specs.ShardLogs.{records_of, faults_of, RiseTo, last_count}

-- ---- records and faults

pub records-record : (items : List LogItem) (entry : Entry) → records_of (items ++ Record entry ∷ []) ≡ records_of items ++ entry ∷ []
records-record [] entry = refl
records-record (Record first ∷ items) entry = λ i. first ∷ records-record items entry i
records-record (Fault count ∷ items) entry = records-record items entry

pub records-fault : (items : List LogItem) (count : ℕ) → records_of (items ++ Fault count ∷ []) ≡ records_of items
records-fault [] count = refl
records-fault (Record first ∷ items) count = λ i. first ∷ records-fault items count i
records-fault (Fault first ∷ items) count = records-fault items count

pub faults-record : (items : List LogItem) (entry : Entry) → faults_of (items ++ Record entry ∷ []) ≡ faults_of items
faults-record [] entry = refl
faults-record (Record first ∷ items) entry = faults-record items entry
faults-record (Fault first ∷ items) entry = λ i. first ∷ faults-record items entry i

pub faults-fault : (items : List LogItem) (count : ℕ) → faults_of (items ++ Fault count ∷ []) ≡ faults_of items ++ count ∷ []
faults-fault [] count = refl
faults-fault (Record first ∷ items) count = faults-fault items count
faults-fault (Fault first ∷ items) count = λ i. first ∷ faults-fault items count i

-- a log of records alone
pub records-alone : (history : List Entry) → records_of (map Record history) ≡ history
records-alone [] = refl
records-alone (entry ∷ history) = λ i. entry ∷ records-alone history i

pub faults-alone : (history : List Entry) → faults_of (map Record history) ≡ []
faults-alone [] = refl
faults-alone (entry ∷ history) = faults-alone history

-- ---- counts that rise

rose-later : (first old new : ℕ) → first ≤ old → Rose old new → Rose first new
rose-later first old new before rose =
    ⊎_elim (λ (more : old < new). let rises : first < new = omega arith in inl rises) (λ (top : new ≡ 2 ^ 64 - 1). inr top) rose

pub rise-later : (first : ℕ) (counts : List ℕ) (old new : ℕ) → RiseTo first counts old → old ≤ new → RiseTo first counts new
rise-later first [] old new rise later = omega arith
rise-later first (count ∷ counts) old new rise later = (rise.0, rise.1, rise-later count counts old new rise.2 later)

pub rise-more : (first : ℕ) (counts : List ℕ) (old new : ℕ) → RiseTo first counts old → old ≤ new → Rose old new → RiseTo first (counts ++ new ∷ []) new
rise-more first [] old new rise later rose = let same : new ≤ new = omega arith in (omega arith, rose-later first old new rise rose, same)
rise-more first (count ∷ counts) old new rise later rose = (rise.0, rise.1, rise-more count counts old new rise.2 later rose)

-- the last one is the one that was put behind them
pub last-more : (first : ℕ) (counts : List ℕ) (new : ℕ) → last_count first (counts ++ new ∷ []) ≡ new
last-more first [] new = refl
last-more first (count ∷ counts) new = last-more count counts new

-- none of the counts is above the last
pub rise-first : (first : ℕ) (counts : List ℕ) (last : ℕ) → RiseTo first counts last → first ≤ last
rise-first first [] last rise = rise
rise-first first (count ∷ counts) last rise = let rest = rise-first count counts last rise.2 in omega (arith, rise.0)

pub rise-above : (first : ℕ) (counts : List ℕ) (last : ℕ) → RiseTo first counts last → All (λ count. count ≤ last) counts
rise-above first [] last rise place default within = absurd (omega arith)
rise-above first (count ∷ counts) last rise zero default within = rise-first count counts last rise.2
rise-above first (count ∷ counts) last rise (suc place) default within = rise-above count counts last rise.2 place default (omega arith)

-- ---- lengths

pub items-length : (items : List LogItem) → length items ≡ length (records_of items) + length (faults_of items)
items-length [] = omega arith
items-length (Record entry ∷ items) = omega (arith, items-length items)
items-length (Fault count ∷ items) = omega (arith, items-length items)

-- records have texts of 28 bytes or more
pub texts-length : (history : List Entry) → All IsRecord history → LEAST_RECORD_BYTES * length history ≤ length (texts_of history)
texts-length [] records = omega arith
texts-length (entry ∷ history) records =
    let rest = texts-length history (λ place default within. records (suc place) default (omega arith)) in
    let least = (length-text_of entry (records 0 entry (omega arith))).0 in
    omega (arith, rest, least, length-append (text_of entry) (texts_of history))
