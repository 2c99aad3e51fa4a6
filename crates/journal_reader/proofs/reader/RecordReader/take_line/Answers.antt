-- The next line is that of one more record, or of none.
use Rattle.std.proofs.Common.{List, ℕ, ◌∙◌, ◌+◌, ap, sym, subst, arith, take}
use Rattle.std.proofs.lemmas.List.{length_push, length-take}
use Rattle.std.proofs.lemmas.List.Elements.{All-push}
use Rattle.journal_rec.specs.Record.{IsRecord, IsLineOf}
use Rattle.shard_book.proofs.Loaded.{line-long}
use Rattle.journal_reader.specs.Reading.{ahead_of}
use Rattle.journal_reader.proofs.Reading.{ahead-length, bad-line, front-more, sliced-later, told-later, within}
use Rattle.journal_reader.proofs.reader.RecordReader.take_line.Goals as goal

pub returns-in_default-clause-stopped : goal.returns-in_default-clause-stopped
returns-in_default-clause-stopped c bytes history read = (
  ap (λ n. n + 2) read.count_is,
  bad-line history (ahead_of c.args.self.now) c.args.self.now.taken c.args.length c.requires bytes
      (λ entry line.
      c.in_default.not-Ok entry ((c.read_entry.ensures entry).1
      (subst (λ (l : List ℕ). IsLineOf entry (take c.args.length l)) (sym c.ahead.ensures) line)))
      read.front read.buffered,
)

pub returns-clause-given : goal.returns-clause-given
returns-clause-given c bytes history read =
    let line : IsLineOf c.in-Ok.entry (take c.args.length (ahead_of c.args.self.now)) =
    subst (λ (l : List ℕ). IsLineOf c.in-Ok.entry (take c.args.length l)) c.ahead.ensures
    ((c.read_entry.ensures c.in-Ok.entry).0 c.in-Ok.is) in
    record {
      records = All-push IsRecord history c.in-Ok.entry read.records line.0;
      count_is = ap (λ n. n + 1) read.count_is ∙ sym (length_push history c.in-Ok.entry);
      front = front-more history (ahead_of c.args.self.now) c.args.self.now.taken c.args.length c.requires bytes
          c.in-Ok.entry line read.front read.buffered;
      buffered = told-later bytes (ahead_of c.args.self.now) _ c.args.self.now.taken (c.args.length + 1)
          (within history (ahead_of c.args.self.now) c.args.self.now.taken c.args.length c.requires)
          (sliced-later _ _ (c.args.length + 1) _ (omega (arith, ahead-length c.args.self.now, c.requires.within)))
          read.buffered;
    }

pub invariant_of-self-clause-few : goal.invariant_of-self-clause-few
invariant_of-self-clause-few c =
    let some = line-long _ c.in-Ok.entry ((c.read_entry.ensures c.in-Ok.entry).0 c.in-Ok.is) in
    omega (arith, some, c.args.self.now.few, length-take c.args.length c.ahead.result.now)
