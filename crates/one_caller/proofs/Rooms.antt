-- The room of a host's stores: what a line of a card uses of it.
use Rattle.std.proofs.Common.{◌≡◌, ℕ, ◌+◌, if◌then◌else◌, Bool, false, List, set, Some, Result, Err}
use Rattle.std.proofs.Common.{refl, sym, ap, subst, ◌∙◌, inl, inr, arith}
use Rattle.std.proofs.lemmas.Bool.{cases_eq, eq-eqb}
use Rattle.std.proofs.lemmas.Option.{same_Some, slice_get_within}
use Rattle.std.specs.List.{slice_get}
use Rattle.issuer_base.specs.declared.outside.store.Store.{Ghosts}
use Rattle.issuer_base.specs.declared.answer.Answer.TheVariants.{Refused}
use Rattle.issuer_base.specs.declared.request.Request.{Request}
use Rattle.issuer_base.specs.declared.answer.Refusal.{Refusal}
use Rattle.issuer_base.specs.declared.answer.Refusal.TheVariants.{BadLine, BadTlv, Missing, BadField, Repeated, UnknownCard, NotArqc, UnknownKey}
use Rattle.issuer_base.specs.declared.answer.Refusal.TheVariants.{BadCryptogram, Below, Taken, Pending, QueueFull, BadCommand, StoreFault}
use Rattle.card_history.specs.declared.decision.Asked.{Asked}
use Rattle.issuer_setup.specs.IssuerSetup.{Setup}
use Rattle.line_checks.specs.Reading.{checked, reading}
use Rattle.shard_book.specs.declared.shard.Shard.{Shard}
use Rattle.shard_book.specs.Answering.{is_store_fault}
use Rattle.shard_book.specs.Room.{Spares, UsesRoom}
use Rattle.host_loading.specs.StoreRoom.{HaveRoom}
use Rattle.one_caller.specs.Room.{added_at}
use Rattle.one_caller.proofs.Asked.{asks-no_store, checked-no_store}
use Rattle.host_loading.proofs.StoreRooms.{spares-less}
use Rattle.host_loading.proofs.Places.{read-other, read-written}

-- what a record adds to its own shard
added-home : (home most : ℕ) → added_at home most home ≡ most
added-home home most = ap (λ (same : Bool). if same then most else 0) (eq-eqb home home refl)

module _ {S : Type 0} {G : Ghosts S} where
  -- no shard is called
  pub room-uncalled : (shards : List (Shard S G)) (spare : ℕ → ℕ) → HaveRoom (λ number. 0 + spare number) shards → HaveRoom spare shards
  room-uncalled shards spare have = record {
    each = λ number shard is. spares-less (0 + spare number) (spare number) shard (omega arith) (have.each number shard is);
  }

  -- one shard is called, and uses the room of its record
  pub room-after : (shards : List (Shard S G)) (home most : ℕ) (failed : Bool) (old new : Shard S G) → slice_get shards home ≡ Some old
      → UsesRoom most failed old new → (spare : ℕ → ℕ) → HaveRoom (λ number. added_at home most number + spare number) shards
      → (failed ≡ false) × HaveRoom spare (set shards home new)
  room-after shards home most failed old new old_is uses spare have =
      let at_home : Spares (most + spare home) old =
      subst (λ (added : ℕ). Spares (added + spare home) old) (added-home home most) (have.each home old old_is) in
      let called = uses (spare home) at_home in
      let within = slice_get_within shards home old old_is in (
        called.0,
        record {
          each = λ number shard is.
              elim (cases_eq number home) [
                | inl same ↦
                    let its : new ≡ shard = same_Some new shard (sym (read-written shards home new within)
                    ∙ subst (λ number. slice_get (set shards home new) number ≡ Some shard) same is) in
                    subst (λ (number : ℕ). Spares (spare number) shard) (sym same) (subst (Spares (spare home)) its called.1)
                | inr apart ↦
                    spares-less (added_at home most number + spare number) (spare number) shard (omega arith)
                    (have.each number shard (sym (read-other shards home new number apart) ∙ is))
              ];
        },
      )

-- a refusal that isn't for a store's fault reports none
no-fault : (refusal : Refusal) → (refusal ≡ StoreFault → ⊥) → is_store_fault (Refused refusal) ≡ false
no-fault (BadLine column) apart = refl
no-fault (BadTlv place) apart = refl
no-fault (Missing tag) apart = refl
no-fault (BadField tag) apart = refl
no-fault (Repeated tag) apart = refl
no-fault UnknownCard apart = refl
no-fault NotArqc apart = refl
no-fault (UnknownKey dki) apart = refl
no-fault BadCryptogram apart = refl
no-fault (Below greatest) apart = refl
no-fault (Taken shard place) apart = refl
no-fault Pending apart = refl
no-fault QueueFull apart = refl
no-fault BadCommand apart = refl
no-fault StoreFault apart = absurd (apart refl)

-- a line that is refused by its checks reports no fault
pub read-no_fault : (issuer : Setup) (line : List ℕ) (refusal : Refusal) → Err refusal ≡ reading issuer line → is_store_fault (Refused refusal) ≡ false
read-no_fault issuer line refusal read =
    no-fault refusal (λ same. asks-no_store issuer line (sym read ∙ ap (λ (refusal : Refusal). let says : Result Asked Refusal = Err refusal in says) same))

-- nor does a request that its check refuses
pub checked-no_fault : (issuer : Setup) (request : Request) (refusal : Refusal) → Err refusal ≡ checked issuer request
    → is_store_fault (Refused refusal) ≡ false
checked-no_fault issuer request refusal read =
    no-fault refusal
    (λ same. checked-no_store issuer request (sym read ∙ ap (λ (refusal : Refusal). let says : Result Asked Refusal = Err refusal in says) same))
