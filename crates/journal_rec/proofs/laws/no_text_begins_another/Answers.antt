-- No record's text begins another's.
use Rattle.journal_rec.proofs.TextLaws.{text_of-no_front}
use Rattle.journal_rec.proofs.laws.no_text_begins_another.Goals as goal

pub returns : goal.returns
returns c = text_of-no_front
