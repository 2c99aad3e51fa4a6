-- The lines that say what a node has to do.
use Rattle.std.specs.Prelude.{ℕ, ◌+◌, List, [], ◌∷◌, ◌++◌, length, codes, decimal}
use Rattle.bridge_lines.specs.declared.action.Why.{Why}
use Rattle.bridge_lines.specs.declared.action.Why.TheVariants.{Diverged, BadLine, OutOfTurn, NoRoom}
use Rattle.bridge_lines.specs.Texts.{Said, SaysBarrier, SaysRecords, SaysMark, text_of, ended, feed_line, barrier_words}
use Rattle.bridge_lines.specs.Acts.{Act, Put, Cut, PublishBarrier, PublishRecords, PublishMark, PublishNothing, Position, Count, Ready, Begin}
use Rattle.bridge_lines.specs.Acts.{End, Reply, Stop, Over}

-- how many lines a message's text has
abbrev pub line_count : Said → ℕ
line_count (SaysBarrier barrier) = 1
line_count (SaysRecords name sequence records) = length records + 1
line_count (SaysMark word) = 1

-- the line `publish COUNT`, and so many lines: those of the message
abbrev pub published : ℕ → List ℕ → List ℕ
published count text = (codes "publish" ++ 32 ∷ decimal count) ++ 10 ∷ text

abbrev pub published_said : Said → List ℕ
published_said said = published (line_count said) (text_of said)

-- a shard, and a number
abbrev pub shard_number : ℕ → ℕ → List ℕ
shard_number shard number = decimal shard ++ 32 ∷ decimal number

-- why a partition stops, in a word
abbrev pub why_word : Why → List ℕ
why_word Diverged = codes "diverged"
why_word BadLine = codes "line"
why_word OutOfTurn = codes "turn"
why_word NoRoom = codes "room"

abbrev pub lines_of : Act → List ℕ
lines_of (Put one) = ended (codes "put" ++ 32 ∷ feed_line one)
lines_of (Cut shard length) = ended (codes "cut" ++ 32 ∷ shard_number shard length)
lines_of (PublishBarrier barrier) = published_said (SaysBarrier barrier)
lines_of (PublishRecords name sequence records) = published_said (SaysRecords name sequence records)
lines_of (PublishMark word) = published_said (SaysMark word)
lines_of PublishNothing = published 0 []
lines_of (Position barrier) = ended (codes "position" ++ 32 ∷ barrier_words barrier)
lines_of (Count shard number) = ended (codes "count" ++ 32 ∷ shard_number shard number)
lines_of Ready = ended (codes "ready")
lines_of Begin = ended (codes "begin")
lines_of End = ended (codes "end")
lines_of (Reply number) = ended (codes "reply" ++ 32 ∷ decimal number)
lines_of (Stop why) = ended (codes "stop" ++ 32 ∷ why_word why)
lines_of Over = ended (codes ".")
