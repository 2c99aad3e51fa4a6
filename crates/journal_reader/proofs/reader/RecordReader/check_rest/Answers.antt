-- A newline after the bytes in memory ends a line that is that of no record. Without one the remainder is a torn line.
use Rattle.std.proofs.Common.{ℕ, List, drop, IfSome, subst, ◌+◌, ap, arith, length, true, false}
use Rattle.journal_rec.specs.RecordText.{IsUnbroken}
use Rattle.shard_book.specs.LineAhead.{HasLineAhead}
use Rattle.shard_book.proofs.BothStores.{only-same}
use Rattle.shard_book.proofs.Loaded.{found-as, rest-short, rest-long}
use Rattle.journal_reader.proofs.Reading.{long-bad, told-unbroken, told-whole}
use Rattle.journal_reader.specs.Reading.{ahead_of}
use Rattle.journal_reader.proofs.reader.RecordReader.check_rest.Goals as goal

pub returns-then-from-len-clause-given : goal.returns-then-from-len-clause-given
returns-then-from-len-clause-given g c history read = (
  read.records,
  told-whole _ c.args.self.now.taken history read.front
      (rest-short _ c.args.self.now.taken (length (ahead_of c.args.self.now)) (g.S.Store.size c.args.store.now)
      (g.met.S.Store.told_size c.args.store.now) (omega (arith, c.if-from-len.true, c.len.ensures.size, ap length c.ahead.ensures))
      (told-unbroken _ (ahead_of c.args.self.now) c.args.self.now.taken read.buffered c.requires.ahead.0)),
)

pub returns-then-from-len-clause-only_read : goal.returns-then-from-len-clause-only_read
returns-then-from-len-clause-only_read g c = only-same _ _ _ _ _

pub returns-in-Ok-true-clause-stopped : goal.returns-in-Ok-true-clause-stopped
returns-in-Ok-true-clause-stopped g c history read = (
  ap (λ n. n + 2) read.count_is,
  long-bad _ history c.args.self.now.taken (length (ahead_of c.args.self.now)) (g.S.Store.size c.args.store.now)
      read.front (g.met.S.Store.told_size c.args.store.now) (omega (arith, c.requires.ahead.1, c.requires.within))
      (omega (arith, c.requires.ahead.1, c.if-from-len.false, c.len.ensures.size, ap length c.ahead.ensures, c.args.self.now.sized))
      (told-unbroken _ (ahead_of c.args.self.now) c.args.self.now.taken read.buffered c.requires.ahead.0)
      (subst (λ (l : List ℕ). IfSome (g.S.Store.bytes c.args.store.now)
      (λ text. HasLineAhead (drop (c.args.self.now.taken + length l) text))) c.ahead.ensures
      (found-as _ _ _ true c.in-Ok-true.field-0-test c.in-Ok-true.ensures.found)),
)

pub returns-in-Ok-false-clause-given : goal.returns-in-Ok-false-clause-given
returns-in-Ok-false-clause-given g c history read = (
  read.records,
  told-whole _ c.args.self.now.taken history read.front
      (rest-long _ c.args.self.now.taken (length (ahead_of c.args.self.now))
      (told-unbroken _ (ahead_of c.args.self.now) c.args.self.now.taken read.buffered c.requires.ahead.0)
      (subst (λ (l : List ℕ). IfSome (g.S.Store.bytes c.args.store.now)
      (λ text. IsUnbroken (drop (c.args.self.now.taken + length l) text))) c.ahead.ensures
      (found-as _ _ _ false c.in-Ok-false.field-0-test c.in-Ok-false.ensures.found))),
)
