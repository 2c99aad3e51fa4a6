-- Messages as the law has them, and what they say.
use Rattle.std.specs.Prelude.{◌<◌, map, Option, Some, None}
use Rattle.one_history.specs.Streams.{Message as LawMessage, OfBarrier, OfRecords, OfMark, OfNothing}
use Rattle.bridge_rule.specs.Openings.{barrier_of}
use Rattle.bridge_rule.specs.Bridges.{indexed, ArePlaced}
use Rattle.bridge_rule.specs.declared.limits.TheConstants.{INDEX_END}
use Rattle.bridge_lines.specs.declared.message.Found.{Found}
use Rattle.bridge_lines.specs.declared.message.Found.TheVariants as found
use Rattle.bridge_lines.specs.declared.message.Message.{Message}
use Rattle.bridge_lines.specs.declared.message.Message.TheVariants.{Opening, Records, Mark, Nothing}
use Rattle.bridge_lines.specs.declared.records.Records.{Records as Room}
use Rattle.bridge_lines.specs.Texts.{Said, SaysBarrier, SaysRecords, SaysMark}

-- the law's message
abbrev pub message_of : Message → LawMessage
message_of (Opening opening) = OfBarrier (barrier_of opening)
message_of (Records records) = OfRecords records.now.name.items (map indexed records.now.records.items)
message_of (Mark word) = OfMark word.items
message_of Nothing = OfNothing

-- what records by a name say
abbrev pub records_of : Room → Said
records_of room = SaysRecords room.name.items room.sequence (map indexed room.records.items)

-- what a message says, if it is one
abbrev pub said_of : Message → Option Said
said_of (Opening opening) = Some (SaysBarrier (barrier_of opening))
said_of (Records records) = Some (records_of records.now)
said_of (Mark word) = Some (SaysMark word.items)
said_of Nothing = None

-- what was found in a text says this; its records are in the room for them
abbrev pub found_said : Room → Found → Said
found_said room (found.Opening opening) = SaysBarrier (barrier_of opening)
found_said room found.Records = records_of room
found_said room (found.Mark word) = SaysMark word.items

-- what was found is in range: a barrier's number, or the places of records
abbrev pub IsFoundInRange : Room → Found → Type 0
IsFoundInRange room (found.Opening opening) = opening.number < INDEX_END
IsFoundInRange room found.Records = ArePlaced room.records.items
IsFoundInRange room (found.Mark word) = Unit {0}
