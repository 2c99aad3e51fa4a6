-- Why no more records of a journal are filed.
use Rattle.std.proofs.Common.{ℕ, ◌+◌, List, [], ◌∷◌, ◌++◌, Option, refl, sym, ap, subst, inl, inr, ⊎_elim, append-nil}
use Rattle.issuer_base.specs.declared.entry.Entry.{Entry}
use Rattle.issuer_setup.specs.IssuerSetup.{Setup}
use Rattle.clearing_check.specs.declared.filed.Filed.{Filed}
use Rattle.journal_reader.specs.declared.filing.FilingFault.{FilingFault}
use Rattle.journal_reader.specs.declared.reader.RecordFault.{RecordFault}
use Rattle.journal_reader.specs.declared.reader.RecordFault.TheVariants.{StoreFault, BadLine}
use Rattle.journal_reader.specs.declared.reader.RecordReader.{RecordReader}
use Rattle.journal_reader.specs.Reading.{HasRead, Stops, StartsOtherwise, StopsAfter}
use Rattle.journal_reader.specs.Filing.{IsRefused, StopsFiling, StopsFilingAt, fault_of, fits}
use Rattle.journal_reader.proofs.Exported.{first-none, first-read}
use Rattle.journal_reader.proofs.Filed.{HasFiled}

module _ (issuer : Setup) (shard : ℕ) (bytes : Option (List ℕ)) where
  -- the journal can't be read on
  stops-at : (records : List Filed) (history : List Entry) (fault : RecordFault) → StopsAfter bytes history fault
      → StopsFilingAt issuer shard bytes records history (fault_of fault)
  stops-at records history StoreFault stops = tt
  stops-at records history (BadLine line) stops = inl stops

  -- it isn't begun
  pub stops-begun : (old : List Filed) (fault : RecordFault) → StartsOtherwise bytes fault
      → StopsFiling issuer shard bytes old old (fault_of fault)
  stops-begun old fault starts = record {
    history = [];
    has = first-none bytes;
    filed_are = sym (append-nil old);
    stops = stops-at old [] fault (inr (refl, starts));
  }

  module _ (old now : List Filed) (reader : RecordReader) (place : ℕ)
      (so_far : HasFiled issuer shard bytes old now reader place) where
    -- it isn't read on
    pub stops-read : (fault : RecordFault) → Stops bytes so_far.history fault
        → StopsFiling issuer shard bytes old now (fault_of fault)
    stops-read fault stops = record {
      history = so_far.history;
      has = first-read reader bytes so_far.history so_far.read;
      filed_are = so_far.filed_are;
      stops = stops-at now so_far.history fault (inl stops);
    }

    -- the next record isn't filed
    pub stops-refused : (entry : Entry) (next : RecordReader) → HasRead next bytes (so_far.history ++ entry ∷ [])
        → (fault : FilingFault) → IsRefused place (fits issuer shard now entry) fault
        → StopsFiling issuer shard bytes old now fault
    stops-refused entry next read fault refused = record {
      history = so_far.history;
      has = first-read reader bytes so_far.history so_far.read;
      filed_are = so_far.filed_are;
      stops =
          ⊎_elim
          (λ bad.
          subst (StopsFilingAt issuer shard bytes now so_far.history) (sym bad.1)
          (inr (record {
            entry = entry;
            has = first-read next bytes (so_far.history ++ entry ∷ []) read;
            refused = bad.0;
            line_is = ap (λ n. n + 2) so_far.place_is;
          })))
          (λ memory. subst (StopsFilingAt issuer shard bytes now so_far.history) (sym memory) tt)
          refused;
    }
