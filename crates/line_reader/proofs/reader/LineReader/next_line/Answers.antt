-- The outcome is a line, too long, a fault, the end or the last line; or one more buffer of the line is scanned.
use Rattle.std.proofs.Common.{refl, ap, subst, ◌∙◌, arith}
use Rattle.std.proofs.lemmas.List.{nil_from_length}
use Rattle.line_reader.specs.Reading.{Reading}
use Rattle.line_reader.proofs.InLine.{IsRoom, IsRoom-from_limits, InLine-begins, InLine-passed, InLine-more, GivesLine-from, StopsAtLimit-from}
use Rattle.line_reader.proofs.InLine.{StopsAtFault-from, ReachesEnd-from, GivesRest-from}
use Rattle.line_reader.proofs.reader.LineReader.next_line.Goals as goal

pub loop-count-init : goal.loop-count-init
loop-count-init g c =
    let r = c.self.inside in
    let room = c.room_after-room.result in
    InLine-begins _ _ c.args.self.now c.begin_line.new.self r.lines r.bytes room
    (c.begin_line.ensures.ahead ∙ ap (λ (v : Reading). v.ahead) c.self.view_is)
    c.begin_line.ensures.passed
    (ap (λ (v : Reading). v.lines) c.self.view_is)
    (ap (λ (v : Reading). v.bytes) c.self.view_is)
    (subst (λ (v : Reading). IsRoom v.lines v.bytes room) c.self.view_is (IsRoom-from_limits r.lines r.bytes room c.self.invariant c.room_after-room.ensures))

pub returns-in-ToNewline-clause-line : goal.returns-in-ToNewline-clause-line
returns-in-ToNewline-clause-line g c =
    λ _. GivesLine-from _ _ _ _ _ _ c.pass.new.self _ _ _ _ c.in-ToNewline.count c.loop-count.invariant c.in-ToNewline.ensures

pub returns-in-NoRoom-clause-too_long : goal.returns-in-NoRoom-clause-too_long
returns-in-NoRoom-clause-too_long g c = λ _. StopsAtLimit-from _ _ _ _ _ _ _ _ _ _ _ _ c.loop-count.invariant c.in-NoRoom.ensures refl refl

pub returns-in-Err-clause-fault : goal.returns-in-Err-clause-fault
returns-in-Err-clause-fault g c =
    let passed = InLine-passed _ _ _ _ _ _ _ _ _ _ _ _ c.loop-count.invariant c.in-All.ensures in
    λ _. StopsAtFault-from _ _ _ _ _ _ _ _ _ _ _ _ passed c.in-All.ensures.none_ahead c.in-Err.ensures.bytes refl refl

pub loop-count-preserved : goal.loop-count-preserved
loop-count-preserved g c =
    let passed = InLine-passed _ _ _ _ _ _ _ _ _ _ _ _ c.loop-count.invariant c.in-All.ensures in
    InLine-more _ _ _ _ _ _ _ _ _ _ _ _ _ _ passed c.in-All.ensures.none_ahead c.in-Ok.ensures.passed c.in-Ok.ensures.bytes c.in-Ok.ensures.count

pub returns-then-length-eq0-clause-end : goal.returns-then-length-eq0-clause-end
returns-then-length-eq0-clause-end g c =
    let passed = InLine-passed _ _ _ _ _ _ _ _ _ _ _ _ c.loop-count.invariant c.in-All.ensures in
    let read = InLine-more _ _ _ _ _ _ _ _ _ _ _ _ _ _ passed c.in-All.ensures.none_ahead c.in-Ok-eq0.ensures.passed c.in-Ok-eq0.ensures.bytes
    c.in-Ok-eq0.ensures.count in
    let none = nil_from_length _ (c.in-Ok-eq0.ensures.bytes.counted ∙ c.in-Ok-eq0.field-0-test) in
    λ _. ReachesEnd-from _ _ _ _ _ _ _ _ _ _ _ read none (c.in-Ok-eq0.ensures.bytes.at_end c.in-Ok-eq0.field-0-test) c.if-length-eq0.true none refl refl

pub returns-clause-rest : goal.returns-clause-rest
returns-clause-rest g c =
    let passed = InLine-passed _ _ _ _ _ _ _ _ _ _ _ _ c.loop-count.invariant c.in-All.ensures in
    let read = InLine-more _ _ _ _ _ _ _ _ _ _ _ _ _ _ passed c.in-All.ensures.none_ahead c.in-Ok-eq0.ensures.passed c.in-Ok-eq0.ensures.bytes
    c.in-Ok-eq0.ensures.count in
    let none = nil_from_length _ (c.in-Ok-eq0.ensures.bytes.counted ∙ c.in-Ok-eq0.field-0-test) in
    λ _. GivesRest-from _ _ _ _ _ _ _ _ _ _ read none (c.in-Ok-eq0.ensures.bytes.at_end c.in-Ok-eq0.field-0-test) (omega arith)
