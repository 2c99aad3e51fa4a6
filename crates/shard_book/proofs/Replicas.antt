-- A shard that stands for a history is a replica of it, and a replica with nothing in doubt stands for its history.
use Rattle.std.proofs.Common.{◌≡◌, ℕ, List, [], inl, inr, refl, ⊎_elim}
use Rattle.issuer_base.specs.declared.entry.Entry.{Entry}
use Rattle.issuer_base.specs.declared.outside.store.Store.{Ghosts}
use Rattle.card_history.specs.LegalRecords.{IsLegal}
use Rattle.issuer_setup.specs.IssuerSetup.{Setup}
use Rattle.journal_rec.specs.Record.{IsRecord}
use Rattle.journal_rec.specs.RecordText.{text_of}
use Rattle.shard_book.specs.declared.shard.Shard.{Shard}
use Rattle.shard_book.specs.Grounds.{IsTail, grounds_now, grounds_of}
use Rattle.shard_book.specs.Shards.{HasTail, StandsFor}
use Rattle.shard_book.specs.Taking.{IsReplicaOf}
use Rattle.shard_book.proofs.OwnDecisions.{legal-then}

-- what may be in doubt in this run may be in doubt on a replica
tail-then : (issuer : Setup) (number : ℕ) (history : List Entry) (tail : List ℕ) → IsTail (grounds_now issuer) number history tail
    → IsTail (grounds_of issuer) number history tail
tail-then issuer number history tail = ⊎_elim (λ (none : tail ≡ []). inl none)
    (λ (next : (entry : Entry) × IsRecord entry × IsLegal (grounds_now issuer) number history entry × (tail ≡ text_of entry)).
    inr (next.0, next.1, legal-then issuer number history next.0 next.1 next.2, next.3))

module _ {S : Type 0} {G : Ghosts S} (issuer : Setup) (shard : Shard S G) (history : List Entry) where
  pub stands-replica : StandsFor issuer shard history → IsReplicaOf issuer shard history
  stands-replica stands =
      let h = stands.journal_holds in
      record {
        rows_stand = stands.rows_stand;
        journal_holds =
            record { tail = h.tail; tail_is = tail-then issuer shard.rows.shard history h.tail h.tail_is; records = h.records; holds = h.holds };
      }

  pub replica-stands : IsReplicaOf issuer shard history → HasTail shard history [] → StandsFor issuer shard history
  replica-stands replica settled = record {
    rows_stand = replica.rows_stand;
    journal_holds = record { tail = []; tail_is = inl refl; records = replica.journal_holds.records; holds = settled };
  }
