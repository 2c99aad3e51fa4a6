-- Texts of the same length that agree to their end are the same.
use Rattle.std.proofs.Common.{sym, ◌∙◌}
use Rattle.std.proofs.lemmas.Bool.{false≢true}
use Rattle.shard_book.proofs.Migration.{same-whole}
use Rattle.shard_book.proofs.migrating.first_difference.Goals as goal

pub returns-after-bytes : goal.returns-after-bytes
returns-after-bytes c =
    absurd (false≢true (sym c.if-eq.false ∙ c.eq.ensures
    ∙ same-whole c.args.ours.now c.args.theirs.now c.bytes.same c.requires c.bytes.invariant.alike c.bytes-test.false))
