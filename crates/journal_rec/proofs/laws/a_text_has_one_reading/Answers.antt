-- A text of records has one reading.
use Rattle.journal_rec.proofs.TextLaws.{texts_of-one_reading}
use Rattle.journal_rec.proofs.laws.a_text_has_one_reading.Goals as goal

pub returns : goal.returns
returns c = texts_of-one_reading
