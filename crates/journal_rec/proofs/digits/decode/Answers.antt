-- Digits are decoded if there is room for their bytes.
use Rattle.std.proofs.Common.{◌≡◌, ◌/◌, length, Some, None, arith}
use Rattle.journal_rec.specs.Reading.{spelled}
use Rattle.journal_rec.proofs.Spelling.{spelled_within-odd, spelled_within-long, spelled_within-none, spelled_within-some}
use Rattle.journal_rec.proofs.digits.decode.Goals as goal

pub returns-then-digits-eq1 : goal.returns-then-digits-eq1
returns-then-digits-eq1 g c = spelled_within-odd g.row.CAP c.args.digits.now (omega arith)

pub returns-then-count : goal.returns-then-count
returns-then-count g c = spelled_within-long g.row.CAP c.args.digits.now (omega arith)

pub returns-then-not-decode_into : goal.returns-then-not-decode_into
returns-then-not-decode_into g c =
    let read : None ≡ spelled c.args.digits.now = rw c.if-not-decode_into.true at c.decode_into.ensures in
    spelled_within-none g.row.CAP c.args.digits.now read

pub returns : goal.returns
returns g c =
    let read : Some c.decode_into.new.out ≡ spelled c.args.digits.now = rw c.if-not-decode_into.false at c.decode_into.ensures in
    let sized : length c.truncate.new.self.items ≡ length c.args.digits.now / 2 = omega arith in
    spelled_within-some g.row.CAP c.args.digits.now c.decode_into.new.out c.truncate.new.self.items read sized (omega arith)
