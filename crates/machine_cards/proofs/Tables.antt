-- The records of all shards of an issuer.
use Rattle.std.proofs.Common.{◌≡◌, ℕ, ◌+◌, ◌<◌, ◌≤◌, List, [], ◌∷◌, ◌++◌, length, get_or, refl, sym, ◌∙◌, subst, arith, inl, inr, zero, suc}
use Rattle.std.specs.List.{All}
use Rattle.std.proofs.lemmas.Bool.{cases_lt}
use Rattle.std.proofs.lemmas.List.{length_push, get_or_push, get_or_append_left, get_or_past}
use Rattle.std.proofs.lemmas.List.Elements.{All-nil}
use Rattle.std.proofs.lemmas.Option.{none-some}
use Rattle.issuer_base.specs.declared.entry.Entry.{Entry}
use Rattle.card_history.specs.LegalRecords.{IsLegalHistory}
use Rattle.issuer_setup.specs.IssuerSetup.{Setup}
use Rattle.journal_rec.specs.Record.{IsEntry}
use Rattle.shard_book.specs.Grounds.{grounds_of}
use Rattle.world_net.specs.Histories.{AreLegal, AreHeld}
use Rattle.one_history.specs.Streams.{Text}
use Rattle.machine_cards.specs.CardRecords.{AreLines, AreRecords}
use Rattle.machine_cards.proofs.Lines.{AreOf}

-- the records of the first shards
record AreFirst (issuer : Setup) (texts : ℕ → List Text) (count : ℕ) : Type 0 where
  histories : List (List Entry)
  size : length histories ≡ count
  lines : (shard : ℕ) → shard < count → AreLines (texts shard) (get_or histories shard [])
  legal : (shard : ℕ) → shard < count → IsLegalHistory (grounds_of issuer) shard (get_or histories shard [])
  held : (shard : ℕ) → shard < count → All IsEntry (get_or histories shard [])

-- what holds of each of the first histories and of the next one holds of all of them
each-first : (Holds : ℕ → List Entry → Type 0) (histories : List (List Entry)) (next : List Entry) (count : ℕ) → length histories ≡ count
    → ((shard : ℕ) → shard < count → Holds shard (get_or histories shard [])) → Holds count next
    → (shard : ℕ) → shard < suc count → Holds shard (get_or (histories ++ next ∷ []) shard [])
each-first Holds histories next count size before last shard within =
    elim (cases_lt shard count) [
      | inl below ↦ subst (Holds shard) (sym (get_or_append_left histories (next ∷ []) [] shard (omega arith))) (before shard below)
      | inr past ↦
          let here : shard ≡ count = omega arith in
          subst (λ (n : ℕ). Holds n (get_or (histories ++ next ∷ []) n [])) (sym here)
          (subst (Holds count) (sym (get_or_push histories next [] count size)) last)
    ]

module _ (issuer : Setup) (texts : ℕ → List Text) (each : (shard : ℕ) → shard < issuer.shards → AreOf issuer shard (texts shard)) where
  first-shards : (count : ℕ) → count ≤ issuer.shards → AreFirst issuer texts count
  first-shards zero few = record {
    histories = [];
    size = refl;
    lines = λ shard within. absurd (omega arith);
    legal = λ shard within. absurd (omega arith);
    held = λ shard within. absurd (omega arith);
  }
  first-shards (suc count) few =
      let before = first-shards count (omega arith) in
      let next = each count (omega arith) in
      record {
        histories = before.histories ++ next.entries ∷ [];
        size = length_push before.histories next.entries ∙ (let more : length before.histories + 1 ≡ suc count = let size = before.size in omega arith in more);
        lines = each-first (λ (shard : ℕ) (history : List Entry). AreLines (texts shard) history) before.histories next.entries count before.size
            before.lines next.lines;
        legal = each-first (λ (shard : ℕ) (history : List Entry). IsLegalHistory (grounds_of issuer) shard history) before.histories next.entries
            count before.size before.legal next.legal;
        held = each-first (λ (shard : ℕ) (history : List Entry). All IsEntry history) before.histories next.entries count before.size before.held
            next.held;
      }

  -- the records of all shards, legal and values of their types
  pub record AreAll : Type 0 where
    pub histories : List (List Entry)
    pub records : AreRecords issuer texts histories
    pub legal : AreLegal issuer histories
    pub held : AreHeld histories

  pub all-shards : AreAll
  all-shards =
      let it = first-shards issuer.shards (omega arith) in
      let size = it.size in
      record {
        histories = it.histories;
        records = record { count = it.size; lines = it.lines };
        legal = record {
          count = it.size;
          each = λ shard. elim (cases_lt shard issuer.shards) [
            | inl within ↦ it.legal shard within
            | inr past ↦ subst (IsLegalHistory (grounds_of issuer) shard) (sym (get_or_past it.histories shard [] (omega arith)))
                (λ place entry is. absurd (none-some entry is))
          ];
        };
        held = λ shard. elim (cases_lt shard issuer.shards) [
          | inl within ↦ it.held shard within
          | inr past ↦ subst (All IsEntry) (sym (get_or_past it.histories shard [] (omega arith))) (All-nil IsEntry)
        ];
      }
