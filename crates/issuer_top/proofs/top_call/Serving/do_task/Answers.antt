-- What the words ask for is done.
use Rattle.std.proofs.Common.{None, Some, subst}
use Rattle.command_line.specs.Pairs.{IsTask}
use Rattle.command_line.specs.declared.words.Task.TheVariants.{Serve, Show, Play, Fill, Pin, Clear, Export, Standby}
use Rattle.issuer_top.proofs.top_call.Serving.do_task.Goals as goal

pub returns-in-Some-Serve : goal.returns-in-Some-Serve
returns-in-Some-Serve g c =
    let asked = subst (IsTask c.args.words.now) c.in-Some-Serve.field-0-is c.in-Some-Serve.ensures.task in
    record { task = Some (Serve c.in-Some-Serve.names); asked = asked; ends = c.serve.ensures }

pub returns-in-Some-Show : goal.returns-in-Some-Show
returns-in-Some-Show g c =
    let asked = subst (IsTask c.args.words.now) c.in-Some-Show.field-0-is c.in-Some-Show.ensures.task in
    record { task = Some (Show c.in-Some-Show.names); asked = asked; ends = c.show.ensures }

pub returns-in-Some-Play : goal.returns-in-Some-Play
returns-in-Some-Play g c =
    let asked = subst (IsTask c.args.words.now) c.in-Some-Play.field-0-is c.in-Some-Play.ensures.task in
    record { task = Some (Play c.in-Some-Play.size); asked = asked; ends = c.play.ensures }

pub returns-in-Some-Fill : goal.returns-in-Some-Fill
returns-in-Some-Fill g c =
    let asked = subst (IsTask c.args.words.now) c.in-Some-Fill.field-0-is c.in-Some-Fill.ensures.task in
    record { task = Some (Fill c.in-Some-Fill.texts); asked = asked; ends = c.fill.ensures }

pub returns-in-Some-Pin : goal.returns-in-Some-Pin
returns-in-Some-Pin g c =
    let asked = subst (IsTask c.args.words.now) c.in-Some-Pin.field-0-is c.in-Some-Pin.ensures.task in
    record { task = Some (Pin c.in-Some-Pin.order); asked = asked; ends = c.change_pin.ensures c.args.words.now asked }

pub returns-in-Some-Clear : goal.returns-in-Some-Clear
returns-in-Some-Clear g c =
    let asked = subst (IsTask c.args.words.now) c.in-Some-Clear.field-0-is c.in-Some-Clear.ensures.task in
    record { task = Some (Clear c.in-Some-Clear.names); asked = asked; ends = c.clear.ensures }

pub returns-in-Some-Export : goal.returns-in-Some-Export
returns-in-Some-Export g c =
    let asked = subst (IsTask c.args.words.now) c.in-Some-Export.field-0-is c.in-Some-Export.ensures.task in
    record { task = Some (Export c.in-Some-Export.names); asked = asked; ends = c.export.ensures }

pub returns-in-Some-Standby : goal.returns-in-Some-Standby
returns-in-Some-Standby g c =
    let asked = subst (IsTask c.args.words.now) c.in-Some-Standby.field-0-is c.in-Some-Standby.ensures.task in
    record { task = Some (Standby c.in-Some-Standby.names); asked = asked; ends = c.stand_by.ensures }

pub returns-in-None : goal.returns-in-None
returns-in-None g c = record { task = None; asked = c.in-None.ensures.other; ends = c.refuse.ensures }
