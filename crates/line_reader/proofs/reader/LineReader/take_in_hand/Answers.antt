-- The line up to the newline that is found, within the room, is taken.
use Rattle.std.proofs.Common.{ap, subst, ◌∙◌}
use Rattle.line_reader.specs.Reading.{Reading}
use Rattle.line_reader.proofs.InLine.{GivesInHand-from, IsRoom, IsRoom-from_limits}
use Rattle.line_reader.proofs.reader.LineReader.take_in_hand.Goals as goal

pub returns-in-ToNewline-clause-taken : goal.returns-in-ToNewline-clause-taken
returns-in-ToNewline-clause-taken c =
    let r = c.self.inside in
    let room = c.room_after-room.result in
    λ _. GivesInHand-from c.args.self.now c.begin_line.new.self c.pass.new.self r.lines r.bytes room c.in-ToNewline.count
    (c.begin_line.ensures.ahead ∙ ap (λ (v : Reading). v.ahead) c.self.view_is)
    c.begin_line.ensures.passed
    (ap (λ (v : Reading). v.lines) c.self.view_is)
    (ap (λ (v : Reading). v.bytes) c.self.view_is)
    (subst (λ (v : Reading). IsRoom v.lines v.bytes room) c.self.view_is (IsRoom-from_limits r.lines r.bytes room c.self.invariant c.room_after-room.ensures))
    c.in-ToNewline.ensures
