-- The first newline of the remainder.
use Rattle.std.proofs.Common.{List, ℕ, length, MatchOption, subst, arith}
use Rattle.std.proofs.lemmas.Slice.{between_to_end}
use Rattle.journal_rec.specs.RecordText.{IsUnbroken}
use Rattle.shard_book.specs.LineAhead.{IsLineAhead}
use Rattle.shard_book.proofs.newline.next_newline.Goals as goal

pub returns : goal.returns
returns c =
    subst (λ (bytes : List ℕ). MatchOption c.first_newline.result (IsUnbroken bytes) (IsLineAhead bytes))
    (between_to_end c.args.text.now c.args.from (length c.args.text.now) (omega arith)) c.first_newline.ensures
