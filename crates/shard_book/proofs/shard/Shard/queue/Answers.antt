-- A command that the queue takes is recorded and queued.
use Rattle.std.proofs.Common.{◌≡◌, ◌+◌, ℕ, List, [], ◌∷◌, ◌++◌, refl, ap, sym, subst, ◌∙◌, IsTrue}
use Rattle.std.proofs.lemmas.Bool.{false≢true}
use Rattle.issuer_base.specs.ScriptCommand.{is_command}
use Rattle.issuer_base.specs.declared.command.Command.{Command}
use Rattle.issuer_base.specs.declared.answer.Answer.TheVariants.{Refused}
use Rattle.issuer_base.specs.declared.answer.Refusal.TheVariants.{StoreFault}
use Rattle.issuer_base.specs.declared.entry.Entry.{Entry}
use Rattle.issuer_base.specs.declared.entry.Entry.TheVariants.{Queued}
use Rattle.card_history.specs.LegalRecords.{IsLegal}
use Rattle.issuer_base.specs.CardNames.{CardName, named}
use Rattle.card_history.specs.Scripts.{waiting, scripts_of}
use Rattle.journal_rec.specs.Record.{is_record}
use Rattle.script_queue.specs.CommandQueue.{TakesOneMore}
use Rattle.shard_book.specs.Answering.{LeavesTail}
use Rattle.shard_book.specs.Grounds.{grounds_now}
use Rattle.shard_book.specs.Room.{most_of, Spares}
use Rattle.shard_book.specs.ShardRows.{ShardRows, RowsStandFor}
use Rattle.shard_book.specs.Shards.{HoldsHistory, HasTail, StandsFor}
use Rattle.shard_book.proofs.LegalNext.{writable, card-found, legal-command}
use Rattle.shard_book.proofs.ShardSteps.{crash-no_call, put-crash, put-done, stands-still, stands-with}
use Rattle.shard_book.proofs.shard.Shard.queue.Given.{Over}
use Rattle.shard_book.proofs.shard.Shard.queue.Goals.{After-put}
use Rattle.shard_book.proofs.Rooms.{no-failure}
use Rattle.shard_book.proofs.shard.Shard.queue.Goals as goal

pub returns-then-not-takes_command-clause-answer : goal.returns-then-not-takes_command-clause-answer
returns-then-not-takes_command-clause-answer g c history stands =
    let card = card-found _ _ _ c.requires.at_hand.card_is in
    let takes = c.takes_command.ensures c.args.issuer.now card.card history stands.rows_stand card.known in (
      history,
      stands,
      (
        λ room. false≢true (sym c.if-not-takes_command.true
            ∙ takes.1 (subst (λ (name : CardName). TakesOneMore (waiting (scripts_of name history))) (sym card.named) room)),
        refl,
      ),
    )

pub returns-then-not-takes_command-clause-crash : goal.returns-then-not-takes_command-clause-crash
returns-then-not-takes_command-clause-crash g c history stands =
    crash-no_call (grounds_now c.args.issuer.now) _ c.args.self.now.journal history stands.journal_holds

pub put-requires : goal.put-requires
put-requires g c =
    let found = c.args.found.now in
    let card = card-found _ _ _ c.requires.at_hand.card_is in
    subst (λ (entry : Entry). IsTrue (is_record entry)) (sym c.to_entry.ensures)
    (writable found.psn (is_command found.command) card.decimal c.requires.at_hand.form_is)

-- the card's queue has room for the command
room : (g : Over) (c : After-put g) (history : List Entry) → StandsFor c.args.issuer.now c.args.self.now history
    → TakesOneMore (waiting (scripts_of (named c.args.found.now.pan c.args.found.now.psn) history))
room g c history stands =
    let card = card-found _ _ _ c.requires.at_hand.card_is in
    subst (λ (name : CardName). TakesOneMore (waiting (scripts_of name history))) card.named
    ((c.takes_command.ensures c.args.issuer.now card.card history stands.rows_stand card.known).0 c.if-not-takes_command.false)

-- so its record is a valid successor
legal : (g : Over) (c : After-put g) (history : List Entry) → StandsFor c.args.issuer.now c.args.self.now history
    → IsLegal (grounds_now c.args.issuer.now) c.args.self.now.rows.shard history c.to_entry.result
legal g c history stands =
    subst (IsLegal (grounds_now c.args.issuer.now) c.args.self.now.rows.shard history) (sym c.to_entry.ensures)
    (legal-command _ _ c.requires.under _ _ c.requires.at_hand.card_is c.requires.home history c.args.found.now.command
    c.requires.at_hand.form_is (room g c history stands))

pub returns-in_default-clause-answer : goal.returns-in_default-clause-answer
returns-in_default-clause-answer g c history stands =
    let called = (goal.at.returns-in_default-clause-answer g c).After-put in
    let failed = c.in_default.ensures.put history stands.journal_holds.tail stands.journal_holds.holds in (
      history,
      stands-still c.args.issuer.now c.args.self.now c.put.new.self history c.to_entry.result c.put.ensures.rows stands c.put.ensures.record
          (legal g called history stands) failed,
      (room g called history stands, refl),
    )

pub returns-in_default-clause-tail : goal.returns-in_default-clause-tail
returns-in_default-clause-tail g c history tail holds =
    subst (λ (entry : Entry). LeavesTail entry history tail (Refused StoreFault) c.put.new.self)
    c.to_entry.ensures (c.in_default.ensures.put history tail holds)

pub returns-clause-tail : goal.returns-clause-tail
returns-clause-tail g c history tail holds =
    subst (λ (entry : Entry). HasTail c.put.new.self (history ++ entry ∷ []) []) c.to_entry.ensures
    (c.in-Ok.ensures.put history tail holds).1

pub returns-in_default-clause-crash : goal.returns-in_default-clause-crash
returns-in_default-clause-crash g c history stands =
    let h = stands.journal_holds in
    put-crash (grounds_now c.args.issuer.now) c.args.self.now.rows.shard history c.to_entry.result c.args.self.now.journal c.put.new.self.journal h
    c.put.ensures.record (legal g (goal.at.returns-in_default-clause-crash g c).After-put history stands) _ _ (c.put.ensures.crash history h.tail h.holds)

pub returns-clause-answer : goal.returns-clause-answer
returns-clause-answer g c history stands =
    let issuer = c.args.issuer.now in
    let found = c.args.found.now in
    let number : ℕ = c.args.self.now.rows.shard in
    let card = card-found _ _ _ c.requires.at_hand.card_is in
    let takes = c.takes_command.ensures issuer card.card history stands.rows_stand card.known in
    let h = stands.journal_holds in
    let put = c.in-Ok.ensures.put history h.tail h.holds in
    let added = put-done (grounds_now issuer) number history c.to_entry.result c.put.new.self.journal h.records c.put.ensures.record put.1 in
    let number_is : c.put.new.self.rows.shard ≡ number = ap (λ (rows : ShardRows). rows.shard) c.put.ensures.rows in
    let before = subst (λ (rows : ShardRows). RowsStandFor issuer rows history) (sym c.put.ensures.rows) stands.rows_stand in
    let rows =
    subst (λ (command : Command). RowsStandFor issuer c.push.new.self (history ++ Queued found.pan found.psn command ∷ [])) c.copy.ensures
    (subst (λ (name : CardName). RowsStandFor issuer c.push.new.self (history ++ Queued name.pan name.psn c.copy.result ∷ [])) card.named
    (c.push.ensures.queued issuer card.card history before card.known (takes.0 c.if-not-takes_command.false))) in
    let holds =
    subst (λ (entry : Entry). HoldsHistory (grounds_now issuer) number c.put.new.self.journal (history ++ entry ∷ [])) c.to_entry.ensures added in (
      history ++ Queued found.pan found.psn found.command ∷ [],
      stands-with issuer number c.put.new.self.journal c.put.new.self.rows c.push.new.self c.put.new.self.reported
          (history ++ Queued found.pan found.psn found.command ∷ [])
          number_is c.push.ensures.same rows holds,
      (room g (goal.at.returns-clause-answer g c).After-put history stands, c.shard.ensures ∙ c.push.ensures.same.shard_is ∙ number_is, put.0, refl),
    )

pub returns-clause-crash : goal.returns-clause-crash
returns-clause-crash g c history stands =
    let h = stands.journal_holds in
    put-crash (grounds_now c.args.issuer.now) c.args.self.now.rows.shard history c.to_entry.result c.args.self.now.journal c.put.new.self.journal h
    c.put.ensures.record (legal g (goal.at.returns-clause-crash g c).After-put history stands) _ _ (c.put.ensures.crash history h.tail h.holds)

-- there is room for the longest record of a command
spared : (g : Over) (c : After-put g) (spare : ℕ)
    → (let found = c.args.found.now in Spares (most_of (Queued found.pan found.psn found.command) + spare) c.args.self.now)
    → Spares (most_of c.to_entry.result + spare) c.args.self.now
spared g c spare has = subst (λ (entry : Entry). Spares (most_of entry + spare) c.args.self.now) (sym c.to_entry.ensures) has

pub returns-in_default-clause-room : goal.returns-in_default-clause-room
returns-in_default-clause-room g c spare has =
    absurd (no-failure (c.in_default.ensures.room spare (spared g (goal.at.returns-in_default-clause-room g c).After-put spare has)))

pub returns-clause-room : goal.returns-clause-room
returns-clause-room g c spare has =
    (refl, (c.in-Ok.ensures.room spare (spared g (goal.at.returns-clause-room g c).After-put spare has)).1)
