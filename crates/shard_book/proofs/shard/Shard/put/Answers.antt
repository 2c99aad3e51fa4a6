-- The text of a record is appended.
use Rattle.std.proofs.Common.{◌≡◌, ◌+◌, length, ap, arith, ◌∙◌}
use Rattle.journal_rec.specs.RecordText.{text_of}
use Rattle.journal_rec.proofs.TextLaws.{length-text_of}
use Rattle.shard_book.specs.Room.{most_of}
use Rattle.shard_book.proofs.Rooms.{length-most, room-less}
use Rattle.shard_book.proofs.shard.Shard.put.Goals as goal

pub put_text-requires : goal.put_text-requires
put_text-requires g c =
    let its : c.as_slice.result.now ≡ text_of c.args.entry.now = c.as_slice.ensures.value ∙ c.write_entry.ensures.text in
    let least = (length-text_of c.args.entry.now c.write_entry.ensures.record).0 in
    omega (arith, ap length its, least)

pub returns-clause-put : goal.returns-clause-put
returns-clause-put g c history tail holds =
    c.put_text.ensures.put history tail c.args.entry.now (c.as_slice.ensures.value ∙ c.write_entry.ensures.text) holds

pub returns-clause-crash : goal.returns-clause-crash
returns-clause-crash g c history tail holds =
    c.put_text.ensures.crash history tail c.args.entry.now (c.as_slice.ensures.value ∙ c.write_entry.ensures.text) holds

pub returns-clause-room : goal.returns-clause-room
returns-clause-room g c spare has =
    let its : c.as_slice.result.now ≡ text_of c.args.entry.now = c.as_slice.ensures.value ∙ c.write_entry.ensures.text in
    let most = length-most c.args.entry.now c.write_entry.ensures.record in
    c.put_text.ensures.room spare
    (room-less (most_of c.args.entry.now + spare) (length c.as_slice.result.now + spare) _ _ (omega (arith, ap length its, most)) has)
