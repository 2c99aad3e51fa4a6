-- What the shard holds once the text of a record was appended, or not, and what a crash leaves meanwhile.
use Rattle.std.proofs.Common.{ℕ, List, length, ap, sym, subst, ◌∙◌}
use Rattle.journal_rec.specs.RecordText.{journal_text}
use Rattle.shard_book.specs.Answering.{reported_after}
use Rattle.issuer_base.specs.Stores.{BothTold, HasRoom, LeavesOnly}
use Rattle.journal_store.specs.Images.{IsEitherImage}
use Rattle.shard_book.proofs.ShardSteps.{put-tail, put-undoubted}
use Rattle.shard_book.proofs.Rooms.{ok-has}
use Rattle.shard_book.proofs.shard.Shard.put_text.Goals as goal

pub returns-clause-put : goal.returns-clause-put
returns-clause-put g c history tail entry its holds =
    put-tail history entry c.put-written.new.self c.args.text.now its tail c.put-written.result
    (c.put-written.ensures.put (length history) (journal_text history) tail holds)

pub returns-clause-crash : goal.returns-clause-crash
returns-clause-crash g c history tail entry its holds =
    subst (λ (piece : List ℕ). BothTold (LeavesOnly (IsEitherImage (journal_text history) tail piece))
    (g.S.Store.disk c.args.self.now.journal.store) (g.S.Store.disk c.put-written.new.self.store)) its
    (c.put-written.ensures.crash (length history) (journal_text history) tail holds)

pub returns-clause-counts : goal.returns-clause-counts
returns-clause-counts g c =
    let told = ap (reported_after c.args.self.now.reported) (sym c.is_err.ensures.value) ∙ sym c.reported_after-self.ensures in
    record {
      counts = c.put-written.ensures.count;
      told_is = sym told;
      undoubted = λ none. put-undoubted c.args.self.now.reported c.put-written.new.self c.put-written.result c.put-written.ensures.settled (told ∙ none);
    }

pub returns-clause-room : goal.returns-clause-room
returns-clause-room g c spare has =
    let store = c.put-written.new.self.store in
    ok-has c.put-written.result (HasRoom spare (g.S.Store.size store) (g.S.Store.room store)) (c.put-written.ensures.room spare has)
