-- What a crash left of a standby's journal is loaded again, under any decision table.
use Rattle.std.proofs.Common.{◌≡◌, ℕ, List, [], ◌∷◌, ◌++◌, length, take, All, refl, sym, ap, subst, ◌∙◌, inl, inr, ⊎_elim, arith}
use Rattle.std.proofs.Common.{Some, append_assoc, append-nil}
use Rattle.std.proofs.lemmas.List.{take-append-le, take_all}
use Rattle.std.proofs.lemmas.List.Elements.{All-push, All-take}
use Rattle.issuer_base.specs.declared.entry.Entry.{Entry}
use Rattle.card_history.specs.LegalRecords.{IsLegal, IsLegalHistory}
use Rattle.decision_table.specs.declared.row.TableRow.{TableRow}
use Rattle.issuer_setup.specs.IssuerSetup.{Setup}
use Rattle.journal_rec.specs.Record.{IsRecord}
use Rattle.journal_rec.specs.RecordText.{journal_text, text_of}
use Rattle.shard_book.specs.Grounds.{grounds_of}
use Rattle.shard_book.specs.Histories.{GoesOn, IsLegalSince}
use Rattle.shard_book.specs.Shards.{IsImageLeft}
use Rattle.shard_book.proofs.Histories.{goes-none, goes-then}
use Rattle.shard_book.proofs.Lines.{legal-more}
use Rattle.journal_reader.proofs.LegalTexts.{legal-front, legal-next}
use Rattle.standby_node.specs.Standing.{IsReplicaBetween}
use Rattle.one_caller.specs.Restarts.{IsHeld, LoadsBetween, with_table}
use Rattle.one_caller.proofs.Restarts.{loads-between}

records-front : (front history : List Entry) → GoesOn front history → All IsRecord history → All IsRecord front
records-front front history on all =
    subst (All IsRecord)
    (ap (take (length front)) on.1 ∙ take-append-le (length front) front on.0 (omega arith)
    ∙ take_all (length front) front (omega arith))
    (All-take IsRecord (length front) history all)

module _ (issuer : Setup) (shard : ℕ) (old first last : List Entry) (image : List ℕ) (held : IsHeld issuer shard old last)
    (on : GoesOn old first) (left : IsReplicaBetween issuer shard first last image) where
  records : All IsRecord left.between
  records = records-front left.between last left.to_last held.records

  legal : IsLegalHistory (grounds_of issuer) shard left.between
  legal =
      legal-front (grounds_of issuer) shard left.between left.to_last.0
      (subst (IsLegalHistory (grounds_of issuer) shard) left.to_last.1 held.since.legal)

  -- with nothing torn behind it, it is the image of a shard that answers
  alone : left.image_is.0 ≡ [] → LoadsBetween issuer shard old first last image
  alone none =
      loads-between issuer shard old first last image held on
      (record {
        between = left.between;
        from_first = left.from_first;
        to_last = left.to_last;
        image_is = (left.image_is.0, inl none, left.image_is.2);
      })

  module _ (entry : Entry) (record_is : IsRecord entry) (next : IsLegal (grounds_of issuer) shard left.between entry)
      (tail_is : left.image_is.0 ≡ text_of entry) where
    more : List Entry
    more = left.between ++ entry ∷ []

    -- the history with the torn record loads whole, under each table
    whole : LoadsBetween issuer shard old more more (journal_text more)
    unfolding more
    whole =
        let from : GoesOn old more =
        goes-then old left.between more (goes-then old first left.between on left.from_first) (entry ∷ [], refl) in
        loads-between issuer shard old more more (journal_text more)
        (record {
          records = All-push IsRecord left.between entry records record_is;
          since = record {
            goes_on = from;
            old_legal = held.since.old_legal;
            legal = legal-more (grounds_of issuer) shard left.between entry legal next;
          };
        })
        from
        (record {
          between = more;
          from_first = goes-none more;
          to_last = goes-none more;
          image_is = ([], inl refl, (0, sym (append-nil (journal_text more))));
        })

    -- so the record is legal under each table, and so are those before it
    module _ (table : List TableRow) where
      since : IsLegalSince (with_table issuer table) shard old whole.between
      since = (whole.left table).since

      same-next : IsLegal (grounds_of (with_table issuer table)) shard left.between entry
      unfolding more
      same-next =
          legal-next (grounds_of (with_table issuer table)) shard left.between whole.from_first.0 entry
          (subst (IsLegalHistory (grounds_of (with_table issuer table)) shard) whole.from_first.1 since.legal)

      same-front : IsLegalHistory (grounds_of (with_table issuer table)) shard left.between
      unfolding more
      same-front =
          legal-front (grounds_of (with_table issuer table)) shard left.between (entry ∷ whole.from_first.0)
          (subst (IsLegalHistory (grounds_of (with_table issuer table)) shard)
          (whole.from_first.1 ∙ append_assoc left.between (entry ∷ []) whole.from_first.0) since.legal)

      loads : IsImageLeft (with_table issuer table) shard old (Some image) left.between
      loads = record {
        image = image;
        told = refl;
        left = (left.image_is.0, inr (entry, record_is, same-next, tail_is), left.image_is.2);
        records = records;
        since = record {
          goes_on = goes-then old first left.between on left.from_first;
          old_legal = since.old_legal;
          legal = same-front;
        };
      }

    torn : LoadsBetween issuer shard old first last image
    torn =
        record { between = left.between; from_first = left.from_first; to_last = left.to_last; left = loads }

-- what a crash may leave of a standby is what a load takes
pub standby-loads : (issuer : Setup) (shard : ℕ) (old first last : List Entry) (image : List ℕ)
    → IsHeld issuer shard old last → GoesOn old first → IsReplicaBetween issuer shard first last image
    → LoadsBetween issuer shard old first last image
standby-loads issuer shard old first last image held on left =
    ⊎_elim (alone issuer shard old first last image held on left)
    (λ some. torn issuer shard old first last image held on left some.0 some.1 some.2 some.3) left.image_is.1
