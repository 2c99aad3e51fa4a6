-- How much of the room of a host's stores a line uses.
use Rattle.std.specs.Prelude.{◌≡◌, ℕ, ◌+◌, ◌==◌, if◌then◌else◌, false, List, Result, Ok, Err}
use Rattle.issuer_base.specs.declared.answer.Answer.{Answer}
use Rattle.issuer_base.specs.declared.answer.Refusal.{Refusal}
use Rattle.issuer_base.specs.declared.outside.store.Store.{Ghosts}
use Rattle.card_history.specs.declared.decision.Asked.{Asked}
use Rattle.card_history.specs.declared.decision.Asked.TheVariants.{Queue}
use Rattle.issuer_setup.specs.IssuerSetup.{Setup, shard_of}
use Rattle.journal_rec.specs.declared.limits.TheConstants.{MOST_QUEUED_BYTES, MOST_RECORD_BYTES}
use Rattle.shard_book.specs.declared.shard.Shard.{Shard}
use Rattle.shard_book.specs.Answering.{is_store_fault}
use Rattle.host_loading.specs.StoreRoom.{HaveRoom}
use Rattle.one_caller.specs.Turns.{card_asked}

-- how many bytes a record of the shard `home` adds to the shard with this number at most
abbrev pub added_at : ℕ → ℕ → ℕ → ℕ
added_at home most number = if number == home then most else 0

-- how many bytes the record that a line asks for has at most
abbrev pub most_asked : Asked → ℕ
most_asked (Queue pan psn command) = MOST_QUEUED_BYTES
most_asked _ = MOST_RECORD_BYTES

-- how many bytes a line adds to the shard with this number at most, by what it asks
abbrev pub added_by : Setup → Result Asked Refusal → ℕ → ℕ
added_by issuer (Err refusal) number = 0
added_by issuer (Ok asked) number = added_at (shard_of issuer (card_asked asked)) (most_asked asked) number

module _ {S : Type 0} {G : Ghosts S} where
  -- with room for what a line adds and more no store fails, and the room for the more remains
  abbrev pub AnswersWithin : Setup → Result Asked Refusal → Answer → List (Shard S G) → List (Shard S G) → Type 0
  AnswersWithin issuer asked answer old new =
      (spare : ℕ → ℕ) → HaveRoom (λ number. added_by issuer asked number + spare number) old
      → (is_store_fault answer ≡ false) × HaveRoom spare new
