-- Each object is taken in its turn, up to the end of the text or the first place that it may not have.
use Rattle.std.proofs.Common.{◌≡◌, ◌∙◌, Some, true, false, sym, subst}
use Rattle.tlv_objects.specs.Tlv.{objects_ahead}
use Rattle.tlv_objects.specs.Seen.{seen, place_of, GivesObject, GivesFirst}
use Rattle.terminal_kernel.specs.Given.{may_follow}
use Rattle.terminal_kernel.proofs.DataWalk.{has_taken-more, data_of-end, data_of-torn, data_of-unfit}
use Rattle.terminal_kernel.proofs.given.read_data.Goals as goal

pub returns-then-not-may_take : goal.returns-then-not-may_take
returns-then-not-may_take c =
    let step : GivesFirst c.loop-item.item-iterator c.in-Ok.object c.next.new.self =
    subst (λ item. GivesObject c.loop-item.item-iterator (Some item) c.next.new.self) c.in-Ok.is c.in-Some.ensures.steps in
    let unfit : may_follow c.loop-item.given (seen c.in-Ok.object) ≡ false = sym c.may_take.ensures ∙ c.if-not-may_take.true in
    sym (data_of-unfit c.args.bytes.now c.loop-item.given (objects_ahead c.loop-item.item-iterator) (objects_ahead c.next.new.self) (seen c.in-Ok.object)
    c.loop-item.invariant step.first unfit)

pub loop-item-preserved : goal.loop-item-preserved
loop-item-preserved c =
    let step : GivesFirst c.loop-item.item-iterator c.in-Ok.object c.next.new.self =
    subst (λ item. GivesObject c.loop-item.item-iterator (Some item) c.next.new.self) c.in-Ok.is c.in-Some.ensures.steps in
    let fits : may_follow c.loop-item.given (seen c.in-Ok.object) ≡ true = sym c.may_take.ensures ∙ c.if-not-may_take.false in
    rw c.take.ensures
    (has_taken-more c.args.bytes.now c.loop-item.given (objects_ahead c.loop-item.item-iterator) (objects_ahead c.next.new.self) (seen c.in-Ok.object)
    c.loop-item.invariant step.first fits)

pub returns-in-Err : goal.returns-in-Err
returns-in-Err c =
    let step = subst (λ item. GivesObject c.loop-item.item-iterator (Some item) c.next.new.self) c.in-Err.is c.in-Some.ensures.steps in
    rw c.torn_place.ensures
    (sym (data_of-torn c.args.bytes.now c.loop-item.given (objects_ahead c.loop-item.item-iterator) (place_of c.in-Err.fault) c.loop-item.invariant step.torn))

pub returns : goal.returns
returns c =
    sym (data_of-end c.args.bytes.now c.loop-item.given (objects_ahead c.loop-item.item-iterator) c.loop-item.invariant c.in-None.ensures.steps.none)
