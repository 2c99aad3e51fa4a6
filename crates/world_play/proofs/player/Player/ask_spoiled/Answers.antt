-- What the line of the request in hand adds is what was said of it.
use Rattle.std.proofs.Common.{◌∙◌, refl, ap}
use Rattle.issuer_base.specs.declared.request.Parts.{Parts}
use Rattle.one_caller.specs.Room.{added_by}
use Rattle.line_checks.specs.Reading.{reading}
use Rattle.terminal_kernel.specs.ChipText.{request_line}
use Rattle.world_play.specs.Play.{spoiled}
use Rattle.world_play.specs.Room.{asked_bytes}
use Rattle.world_play.proofs.Using.{less-room, uses-less, uses-none, asked-line}
use Rattle.world_play.proofs.player.Player.ask_spoiled.Goals as goal

pub returns-in_default-clause-room : goal.returns-in_default-clause-room
returns-in_default-clause-room c =
    uses-none (asked_bytes c.args.house.now.host.issuer spoiled c.args.self.now.request) c.args.house.now c.args.house.now refl

pub say-requires-clause-room : goal.say-requires-clause-room
say-requires-clause-room c =
    let house = c.args.house.now in
    less-room (asked_bytes house.host.issuer spoiled c.args.self.now.request)
    (added_by house.host.issuer (reading house.host.issuer c.as_slice.result.now)) house
    (asked-line house.host.issuer spoiled c.args.self.now.request c.in-Some.request c.as_slice.result.now c.in-Some.is
    (c.as_slice.ensures.value ∙ c.request_line-line.ensures ∙ ap (λ (parts : Parts). request_line parts) c.spoiled.ensures))
    c.requires.room

pub returns-clause-room : goal.returns-clause-room
returns-clause-room c =
    let house = c.args.house.now in
    uses-less (added_by house.host.issuer (reading house.host.issuer c.as_slice.result.now))
    (asked_bytes house.host.issuer spoiled c.args.self.now.request) house
    c.say.new.house
    (asked-line house.host.issuer spoiled c.args.self.now.request c.in-Some.request c.as_slice.result.now c.in-Some.is
    (c.as_slice.ensures.value ∙ c.request_line-line.ensures ∙ ap (λ (parts : Parts). request_line parts) c.spoiled.ensures))
    c.say.ensures.room
