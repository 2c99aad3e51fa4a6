-- A status is recorded and set.
use Rattle.std.proofs.Common.{◌≡◌, ◌+◌, ℕ, List, [], ◌∷◌, ◌++◌, refl, ap, sym, subst, ◌∙◌, leb, IsTrue}
use Rattle.std.proofs.lemmas.Bool.{le-leb}
use Rattle.issuer_base.specs.declared.answer.Answer.TheVariants.{Refused}
use Rattle.issuer_base.specs.declared.answer.Refusal.TheVariants.{StoreFault}
use Rattle.issuer_base.specs.declared.entry.Entry.{Entry}
use Rattle.issuer_base.specs.declared.entry.Entry.TheVariants.{Status}
use Rattle.card_history.specs.LegalRecords.{IsLegal}
use Rattle.issuer_base.specs.CardNames.{CardName, named}
use Rattle.journal_rec.specs.Record.{is_record}
use Rattle.shard_book.specs.Answering.{LeavesTail}
use Rattle.shard_book.specs.Grounds.{grounds_now}
use Rattle.shard_book.specs.Room.{most_of, Spares}
use Rattle.shard_book.specs.ShardRows.{ShardRows, RowsStandFor}
use Rattle.shard_book.specs.Shards.{HoldsHistory, HasTail}
use Rattle.shard_book.proofs.LegalNext.{writable, card-found, legal-status}
use Rattle.shard_book.proofs.ShardSteps.{put-crash, put-done, stands-still, stands-with}
use Rattle.shard_book.proofs.Rooms.{no-failure}
use Rattle.shard_book.proofs.shard.Shard.set_status.Given.{Over}
use Rattle.shard_book.proofs.shard.Shard.set_status.Goals.{After-put}
use Rattle.shard_book.proofs.shard.Shard.set_status.Goals as goal

pub put-requires : goal.put-requires
put-requires g c =
    let found = c.args.found.now in
    let card = card-found c.args.issuer.now (named found.pan found.psn) found.card c.requires.at_hand.card_is in
    subst (λ (entry : Entry). IsTrue (is_record entry)) (sym c.to_entry.ensures)
    (writable found.psn (leb found.status 9) card.decimal (le-leb found.status 9 c.requires.at_hand.within))

-- its record is a valid successor
legal : (g : Over) (c : After-put g) (history : List Entry)
    → IsLegal (grounds_now c.args.issuer.now) c.args.self.now.rows.shard history c.to_entry.result
legal g c history =
    subst (IsLegal (grounds_now c.args.issuer.now) c.args.self.now.rows.shard history) (sym c.to_entry.ensures)
    (legal-status _ _ c.requires.under _ _ c.requires.at_hand.card_is c.requires.home c.args.found.now.status c.requires.at_hand.within)

pub returns-in_default-clause-answer : goal.returns-in_default-clause-answer
returns-in_default-clause-answer g c history stands =
    let called = (goal.at.returns-in_default-clause-answer g c).After-put in
    let failed = c.in_default.ensures.put history stands.journal_holds.tail stands.journal_holds.holds in (
      history,
      stands-still c.args.issuer.now c.args.self.now c.put.new.self history c.to_entry.result c.put.ensures.rows stands c.put.ensures.record
          (legal g called history) failed,
      refl,
    )

pub returns-in_default-clause-tail : goal.returns-in_default-clause-tail
returns-in_default-clause-tail g c history tail holds =
    subst (λ (entry : Entry). LeavesTail entry history tail (Refused StoreFault) c.put.new.self)
    c.to_entry.ensures (c.in_default.ensures.put history tail holds)

pub returns-clause-tail : goal.returns-clause-tail
returns-clause-tail g c history tail holds =
    subst (λ (entry : Entry). HasTail c.put.new.self (history ++ entry ∷ []) []) c.to_entry.ensures
    (c.in-Ok.ensures.put history tail holds).1

pub returns-in_default-clause-crash : goal.returns-in_default-clause-crash
returns-in_default-clause-crash g c history stands =
    let h = stands.journal_holds in
    put-crash (grounds_now c.args.issuer.now) c.args.self.now.rows.shard history c.to_entry.result c.args.self.now.journal c.put.new.self.journal h
    c.put.ensures.record (legal g (goal.at.returns-in_default-clause-crash g c).After-put history) _ _ (c.put.ensures.crash history h.tail h.holds)

pub returns-clause-crash : goal.returns-clause-crash
returns-clause-crash g c history stands =
    let h = stands.journal_holds in
    put-crash (grounds_now c.args.issuer.now) c.args.self.now.rows.shard history c.to_entry.result c.args.self.now.journal c.put.new.self.journal h
    c.put.ensures.record (legal g (goal.at.returns-clause-crash g c).After-put history) _ _ (c.put.ensures.crash history h.tail h.holds)

pub returns-clause-answer : goal.returns-clause-answer
returns-clause-answer g c history stands =
    let issuer = c.args.issuer.now in
    let found = c.args.found.now in
    let number : ℕ = c.args.self.now.rows.shard in
    let card = card-found issuer (named found.pan found.psn) found.card c.requires.at_hand.card_is in
    let h = stands.journal_holds in
    let put = c.in-Ok.ensures.put history h.tail h.holds in
    let added = put-done (grounds_now issuer) number history c.to_entry.result c.put.new.self.journal h.records c.put.ensures.record put.1 in
    let number_is : c.put.new.self.rows.shard ≡ number = ap (λ (rows : ShardRows). rows.shard) c.put.ensures.rows in
    let before = subst (λ (rows : ShardRows). RowsStandFor issuer rows history) (sym c.put.ensures.rows) stands.rows_stand in
    let rows = subst (λ (name : CardName). RowsStandFor issuer c.set_status.new.self (history ++ Status name.pan name.psn found.status ∷ [])) card.named
    (c.set_status.ensures.set issuer card.card history before card.known) in
    let holds =
    subst (λ (entry : Entry). HoldsHistory (grounds_now issuer) number c.put.new.self.journal (history ++ entry ∷ [])) c.to_entry.ensures added in (
      history ++ Status found.pan found.psn found.status ∷ [],
      stands-with issuer number c.put.new.self.journal c.put.new.self.rows c.set_status.new.self c.put.new.self.reported
          (history ++ Status found.pan found.psn found.status ∷ [])
          number_is c.set_status.ensures.same rows holds,
      (c.shard.ensures ∙ c.set_status.ensures.same.shard_is ∙ number_is, put.0, refl),
    )

-- there is room for the longest record of a status
spared : (g : Over) (c : After-put g) (spare : ℕ)
    → (let found = c.args.found.now in Spares (most_of (Status found.pan found.psn found.status) + spare) c.args.self.now)
    → Spares (most_of c.to_entry.result + spare) c.args.self.now
spared g c spare has = subst (λ (entry : Entry). Spares (most_of entry + spare) c.args.self.now) (sym c.to_entry.ensures) has

pub returns-in_default-clause-room : goal.returns-in_default-clause-room
returns-in_default-clause-room g c spare has =
    absurd (no-failure (c.in_default.ensures.room spare (spared g (goal.at.returns-in_default-clause-room g c).After-put spare has)))

pub returns-clause-room : goal.returns-clause-room
returns-clause-room g c spare has =
    (refl, (c.in-Ok.ensures.room spare (spared g (goal.at.returns-clause-room g c).After-put spare has)).1)
