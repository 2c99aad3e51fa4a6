-- Each move is made within its bytes, and each count is at most one greater.
use Rattle.std.proofs.Common.{ℕ, ◌%◌, ◌<◌, List, ◌∙◌, subst, arith}
use Rattle.one_caller.specs.Room.{added_at, added_by}
use Rattle.line_checks.specs.Reading.{reading}
use Rattle.world_play.specs.declared.moves.Move.TheVariants.{Queue, Tap, Ask, AskSpoiled, Hand, HandFirst, HandSpoiled}
use Rattle.world_play.specs.Play.{IsAnswered, spoiled}
use Rattle.world_play.specs.Reaching.{Reaches}
use Rattle.world_play.specs.Room.{asked_bytes, moved_bytes}
use Rattle.world_play.proofs.Using.{less-room, uses-less, uses-none, queue-adds, ask-adds, spoil-adds, made, made-handed, made-held, made-taken}
use Rattle.world_play.proofs.player.Player.make.Goals as goal

pub say-requires-clause-room : goal.say-requires-clause-room
say-requires-clause-room c =
    let house = c.args.house.now in
    let small : c.in-Queue.number < 256 = omega arith in
    less-room (added_at (c.args.step.now.card % 4) (moved_bytes c.args.next))
    (added_by house.host.issuer (reading house.host.issuer c.as_slice.result.now)) house
    (queue-adds c.args.step.now c.args.next house c.args.self.now c.in-Queue.number c.as_slice.result.now c.in-Queue.is small c.requires.turn
    (c.as_slice.ensures.value ∙ c.queue_line.ensures)) c.requires.room

pub returns-in-Queue : goal.returns-in-Queue
returns-in-Queue c =
    let house = c.args.house.now in
    let small : c.in-Queue.number < 256 = omega arith in
    made c.args.step.now c.args.next (Queue c.in-Queue.number) house c.args.self.now c.say.new.house c.say.new.self c.in-Queue.is
    (subst (λ (line : List ℕ). Reaches (IsAnswered house.host.issuer line) house c.args.self.now c.say.new.house c.say.new.self)
    (c.as_slice.ensures.value ∙ c.queue_line.ensures) c.say.ensures.reached) c.say.ensures.own
    (uses-less (added_by house.host.issuer (reading house.host.issuer c.as_slice.result.now))
    (added_at (c.args.step.now.card % 4) (moved_bytes c.args.next)) house
    c.say.new.house
    (queue-adds c.args.step.now c.args.next house c.args.self.now c.in-Queue.number c.as_slice.result.now c.in-Queue.is small c.requires.turn
    (c.as_slice.ensures.value ∙ c.queue_line.ensures)) c.say.ensures.room) c.say.ensures.counts

pub returns-in-Tap : goal.returns-in-Tap
returns-in-Tap c =
    made c.args.step.now c.args.next Tap c.args.house.now c.args.self.now c.tap.new.house c.tap.new.self c.in-Tap.is c.tap.ensures.reached c.tap.ensures.own
    (uses-none (added_at (c.args.step.now.card % 4) (moved_bytes c.args.next)) c.args.house.now c.tap.new.house c.tap.ensures.host) c.tap.ensures.counts

pub returns-in-Hold : goal.returns-in-Hold
returns-in-Hold c = made-held c.args.step.now c.args.next c.args.house.now c.args.self.now c.hold.new.self c.in-Hold.is c.hold.ensures

pub returns-in-TakeHeld : goal.returns-in-TakeHeld
returns-in-TakeHeld c = made-taken c.args.step.now c.args.next c.args.house.now c.args.self.now c.take_held.new.self c.in-TakeHeld.is c.take_held.ensures

pub ask-requires-clause-room : goal.ask-requires-clause-room
ask-requires-clause-room c =
    let house = c.args.house.now in
    less-room (added_at (c.args.step.now.card % 4) (moved_bytes c.args.next)) (asked_bytes house.host.issuer (λ request. request) c.args.self.now.request) house
    (ask-adds c.args.step.now c.args.next house c.args.self.now c.in-Ask.is c.requires.turn) c.requires.room

pub returns-in-Ask : goal.returns-in-Ask
returns-in-Ask c =
    let house = c.args.house.now in
    made c.args.step.now c.args.next Ask house c.args.self.now c.ask.new.house c.ask.new.self c.in-Ask.is c.ask.ensures.reached c.ask.ensures.own
    (uses-less (asked_bytes house.host.issuer (λ request. request) c.args.self.now.request)
    (added_at (c.args.step.now.card % 4) (moved_bytes c.args.next)) house c.ask.new.house
    (ask-adds c.args.step.now c.args.next house c.args.self.now c.in-Ask.is c.requires.turn) c.ask.ensures.room) c.ask.ensures.counts

pub ask_spoiled-requires-clause-room : goal.ask_spoiled-requires-clause-room
ask_spoiled-requires-clause-room c =
    let house = c.args.house.now in
    less-room (added_at (c.args.step.now.card % 4) (moved_bytes c.args.next)) (asked_bytes house.host.issuer spoiled c.args.self.now.request) house
    (spoil-adds c.args.step.now c.args.next house c.args.self.now c.in-AskSpoiled.is c.requires.turn) c.requires.room

pub returns-in-AskSpoiled : goal.returns-in-AskSpoiled
returns-in-AskSpoiled c =
    let house = c.args.house.now in
    made c.args.step.now c.args.next AskSpoiled house c.args.self.now c.ask_spoiled.new.house c.ask_spoiled.new.self c.in-AskSpoiled.is
    c.ask_spoiled.ensures.reached c.ask_spoiled.ensures.own
    (uses-less (asked_bytes house.host.issuer spoiled c.args.self.now.request)
    (added_at (c.args.step.now.card % 4) (moved_bytes c.args.next)) house c.ask_spoiled.new.house
    (spoil-adds c.args.step.now c.args.next house c.args.self.now c.in-AskSpoiled.is c.requires.turn) c.ask_spoiled.ensures.room) c.ask_spoiled.ensures.counts

pub returns-in-Hand : goal.returns-in-Hand
returns-in-Hand c =
    made-handed c.hand.result c.args.step.now c.args.next Hand c.args.house.now c.args.self.now c.hand.new.house c.hand.new.self c.in-Hand.is
    c.hand.ensures.host
    c.hand.ensures.reached c.hand.ensures.own c.hand.ensures.counts

pub returns-in-HandFirst : goal.returns-in-HandFirst
returns-in-HandFirst c =
    made-handed c.hand_first.result c.args.step.now c.args.next HandFirst c.args.house.now c.args.self.now c.hand_first.new.house c.hand_first.new.self
    c.in-HandFirst.is c.hand_first.ensures.host
    c.hand_first.ensures.reached c.hand_first.ensures.own c.hand_first.ensures.counts

pub returns-in-HandSpoiled : goal.returns-in-HandSpoiled
returns-in-HandSpoiled c =
    made-handed c.hand_spoiled.result c.args.step.now c.args.next HandSpoiled c.args.house.now c.args.self.now c.hand_spoiled.new.house c.hand_spoiled.new.self
    c.in-HandSpoiled.is c.hand_spoiled.ensures.host
    c.hand_spoiled.ensures.reached c.hand_spoiled.ensures.own c.hand_spoiled.ensures.counts
