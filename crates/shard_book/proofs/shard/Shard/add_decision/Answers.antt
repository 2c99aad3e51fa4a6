-- A recorded decision is added.
use Rattle.std.proofs.Common.{◌≡◌, ℕ, ◌+◌, [], ◌∷◌, ◌++◌, length, ap, arith, sym, subst, ◌∙◌, refl}
use Rattle.issuer_base.specs.declared.entry.Entry.TheVariants.{Decided}
use Rattle.journal_rec.specs.RecordText.{text_of}
use Rattle.journal_rec.specs.declared.limits.TheConstants.{MOST_RECORD_BYTES}
use Rattle.journal_rec.proofs.TextLaws.{length-text_of}
use Rattle.shard_book.specs.Grounds.{grounds_now}
use Rattle.shard_book.specs.ShardRows.{ShardRows, RowsStandFor}
use Rattle.row_core.specs.Plan.{IsNext}
use Rattle.shard_book.specs.Steps.{IsLaunchAt}
use Rattle.shard_book.proofs.ShardSteps.{adds-nothing, put-crash, put-done, stands-still, stands-with}
use Rattle.shard_book.proofs.Rooms.{no-failure, room-less}
use Rattle.shard_book.proofs.shard.Shard.add_decision.Goals as goal

pub put_text-requires : goal.put_text-requires
put_text-requires g c =
    let entry = Decided c.args.found.now.request c.args.reply.now in
    let its : c.as_slice.result.now ≡ text_of entry = c.as_slice.ensures.value ∙ c.write_decided.ensures.text in
    let least = (length-text_of entry c.write_decided.ensures.record).0 in
    omega (arith, ap length its, least)

pub apply-requires-clause-launch : goal.apply-requires-clause-launch
apply-requires-clause-launch g c =
    subst (λ (rows : ShardRows). IsLaunchAt rows c.args.found.now c.args.launch) (sym c.put_text.ensures.rows) c.requires.launch

pub returns-clause-added : goal.returns-clause-added
returns-clause-added g c issuer history here =
    let stands = here.stands in
    let number : ℕ = c.args.self.now.rows.shard in
    let request = c.args.found.now.request in
    let reply = c.args.reply.now in
    let h = stands.journal_holds in
    let put = c.in_ok-place.ensures.put history h.tail (Decided request reply) (c.as_slice.ensures.value ∙ c.write_decided.ensures.text) h.holds in
    let added =
    put-done (grounds_now issuer) number history (Decided request reply) c.put_text.new.self.journal h.records c.write_decided.ensures.record put.1 in
    let number_is : c.put_text.new.self.rows.shard ≡ number = ap (λ (rows : ShardRows). rows.shard) c.put_text.ensures.rows in
    let before = subst (λ (rows : ShardRows). RowsStandFor issuer rows history) (sym c.put_text.ensures.rows) stands.rows_stand in
    let next_there : IsNext here.card history (record { request = request; reply = reply; place = c.in_ok-place.place }) =
    subst (λ (place : ℕ). IsNext here.card history (record { request = request; reply = reply; place = place })) (sym put.0) here.next in
    let rows = c.apply.ensures.applied issuer here.card history before here.card_is next_there refl in (
      put.0,
      stands-with issuer number c.put_text.new.self.journal c.put_text.new.self.rows c.apply.new.self c.put_text.new.self.reported
          (history ++ Decided request reply ∷ []) number_is
          c.apply.ensures.same rows added,
    )

pub returns-in_err-place-clause-added : goal.returns-in_err-place-clause-added
returns-in_err-place-clause-added g c issuer history here =
    let stands = here.stands in
    let entry = Decided c.args.found.now.request c.args.reply.now in
    let h = stands.journal_holds in
    let failed = c.in_err-place.ensures.put history h.tail entry (c.as_slice.ensures.value ∙ c.write_decided.ensures.text) h.holds in
    let still = stands-still issuer c.args.self.now c.put_text.new.self history entry c.put_text.ensures.rows stands c.write_decided.ensures.record here.legal failed in
    adds-nothing issuer c.put_text.new.self history entry c.from_residual.result c.from_residual.ensures.0 still

pub returns-clause-tail : goal.returns-clause-tail
returns-clause-tail g c history tail holds =
    c.in_ok-place.ensures.put history tail (Decided c.args.found.now.request c.args.reply.now) (c.as_slice.ensures.value ∙ c.write_decided.ensures.text) holds

pub returns-in_err-place-clause-crash : goal.returns-in_err-place-clause-crash
returns-in_err-place-clause-crash g c issuer history here =
    let entry = Decided c.args.found.now.request c.args.reply.now in
    let h = here.stands.journal_holds in
    put-crash (grounds_now issuer) c.args.self.now.rows.shard history entry c.args.self.now.journal c.put_text.new.self.journal h
    c.write_decided.ensures.record here.legal _ _
    (c.put_text.ensures.crash history h.tail entry (c.as_slice.ensures.value ∙ c.write_decided.ensures.text) h.holds)

pub returns-clause-crash : goal.returns-clause-crash
returns-clause-crash g c issuer history here =
    let entry = Decided c.args.found.now.request c.args.reply.now in
    let h = here.stands.journal_holds in
    put-crash (grounds_now issuer) c.args.self.now.rows.shard history entry c.args.self.now.journal c.put_text.new.self.journal h
    c.write_decided.ensures.record here.legal _ _
    (c.put_text.ensures.crash history h.tail entry (c.as_slice.ensures.value ∙ c.write_decided.ensures.text) h.holds)

pub returns-in_err-place-clause-room : goal.returns-in_err-place-clause-room
returns-in_err-place-clause-room g c spare has =
    let entry = Decided c.args.found.now.request c.args.reply.now in
    let its : c.as_slice.result.now ≡ text_of entry = c.as_slice.ensures.value ∙ c.write_decided.ensures.text in
    let most = (length-text_of entry c.write_decided.ensures.record).1 in
    absurd (no-failure (c.in_err-place.ensures.room spare
    (room-less (MOST_RECORD_BYTES + spare) (length c.as_slice.result.now + spare) _ _ (omega (arith, ap length its, most)) has)))

pub returns-clause-room : goal.returns-clause-room
returns-clause-room g c spare has =
    let entry = Decided c.args.found.now.request c.args.reply.now in
    let its : c.as_slice.result.now ≡ text_of entry = c.as_slice.ensures.value ∙ c.write_decided.ensures.text in
    let most = (length-text_of entry c.write_decided.ensures.record).1 in
    let left = c.in_ok-place.ensures.room spare
    (room-less (MOST_RECORD_BYTES + spare) (length c.as_slice.result.now + spare) _ _ (omega (arith, ap length its, most)) has) in
    (refl, left.1)
