-- A journal's store that fails has no room.
use Rattle.std.proofs.Common.{sym, ◌∙◌}
use Rattle.issuer_base.specs.Stores.{HasRoom}
use Rattle.journal_store.proofs.Rooms.{isnt-ok}
use Rattle.journal_store.proofs.journal.Journal.open.Goals as goal

pub returns-then-is_err-clause-room : goal.returns-then-is_err-clause-room
returns-then-is_err-clause-room g c spare has =
    isnt-ok c.settle.result (λ _. HasRoom spare (g.S.Store.size c.settle.new.store) (g.S.Store.room c.settle.new.store))
    (sym c.is_err.ensures.value ∙ c.if-is_err.true) (c.settle.ensures.room spare has)
