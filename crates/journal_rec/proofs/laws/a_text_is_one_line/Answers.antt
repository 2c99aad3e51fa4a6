-- The text of a record is one line, within its bounds.
use Rattle.journal_rec.proofs.TextLaws.{length-text_of, length-text_of-queued, text_of-IsLine}
use Rattle.journal_rec.proofs.laws.a_text_is_one_line.Goals as goal

pub returns-clause-line : goal.returns-clause-line
returns-clause-line c = text_of-IsLine

pub returns-clause-least : goal.returns-clause-least
returns-clause-least c entry record_is = (length-text_of entry record_is).0

pub returns-clause-most : goal.returns-clause-most
returns-clause-most c entry record_is = (length-text_of entry record_is).1

pub returns-clause-most_queued : goal.returns-clause-most_queued
returns-clause-most_queued c pan psn command record_is = (length-text_of-queued pan psn command record_is).1
