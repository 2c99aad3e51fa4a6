-- The last line that the host prints if a run stops with an error: one line of words.
use Rattle.std.specs.Prelude.{ℕ, List, [], ◌∷◌, codes}
use Rattle.std.specs.Fmt.{decimal}
use Rattle.answer_text.specs.AnswerText.{line_of}
use Rattle.answer_text.specs.declared.stop_line.Stop.{Stop}
use Rattle.answer_text.specs.declared.stop_line.Stop.TheVariants.{Usage, Config, ReadFault, StoreFault, BadJournal}
use Rattle.answer_text.specs.declared.stop_line.Stop.TheVariants.{BadOldJournal, NoMemory, TooLong, BadDol, BadData, NoKey}
use Rattle.answer_text.specs.declared.stop_line.Stop.TheVariants.{BadFeed}

-- the exit status of a run that stops with this error
abbrev pub status_of_stop : Stop → ℕ
status_of_stop Usage = 1
status_of_stop (Config part index) = 2
status_of_stop ReadFault = 3
status_of_stop (StoreFault shard) = 5
status_of_stop (BadJournal shard line) = 6
status_of_stop (BadOldJournal shard line) = 6
status_of_stop NoMemory = 7
status_of_stop (TooLong line) = 8
status_of_stop (BadDol at) = 9
status_of_stop (BadData at) = 10
status_of_stop (BadFeed line) = 11
status_of_stop NoKey = 12

-- the details of a stop: the part and index in the configuration, the shard, the line in its journal or in its old one,
-- the line of the input or of the feed, or the offset in the DOL or in the data
abbrev pub place_words : Stop → List (List ℕ)
place_words Usage = []
place_words (Config part index) = decimal part ∷ decimal index ∷ []
place_words ReadFault = []
place_words (StoreFault shard) = decimal shard ∷ []
place_words (BadJournal shard line) = decimal shard ∷ decimal line ∷ []
place_words (BadOldJournal shard line) = decimal shard ∷ codes "old" ∷ decimal line ∷ []
place_words NoMemory = []
place_words (TooLong line) = decimal line ∷ []
place_words (BadDol at) = decimal at ∷ []
place_words (BadData at) = decimal at ∷ []
place_words (BadFeed line) = decimal line ∷ []
place_words NoKey = []

-- a stop: the status of the run, and its details
unfoldable pub stop_words : Stop → List (List ℕ)
stop_words stop = decimal (status_of_stop stop) ∷ place_words stop

-- what is printed of a stop
unfoldable pub stop_text : Stop → List ℕ
stop_text stop = line_of (codes "stop" ∷ stop_words stop)
