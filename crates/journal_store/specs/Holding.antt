-- What a journal holds: a durable text of so many records, and a tail of which a prefix may follow it.
use Rattle.std.specs.Prelude.{◌≡◌, ℕ, false, List, [], length, IfSome}
use Rattle.issuer_base.specs.declared.outside.store.Store.{Ghosts}
use Rattle.journal_store.specs.declared.journal.Journal.{Journal}
use Rattle.journal_store.specs.Images.{HasSafeText, IsImage}

-- the journal holds the text; where its store exposes them, the bytes are the text and a prefix of the tail, and the
-- text is durable
pub record Holds {S : Type 0} {G : Ghosts S} (journal : Journal S G) (count : ℕ) (text tail : List ℕ) : Type 0 where
  pub count_is : journal.records ≡ count
  pub sure_is : journal.sure ≡ length text
  pub tail_is : journal.in_doubt ≡ false → tail ≡ []
  pub bytes_are : IfSome (G.bytes journal.store) (IsImage text tail)
  pub disk_is : IfSome (G.disk journal.store) (λ disk. HasSafeText text tail disk.now)
