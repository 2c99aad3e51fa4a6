-- A store with room for the line doesn't fail.
use Rattle.std.proofs.Common.{◌+◌, arith}
use Rattle.line_checks.specs.Reading.{reading}
use Rattle.one_caller.specs.Room.{added_by}
use Rattle.world_play.proofs.Using.{less-room}
use Rattle.world_play.proofs.house.House.answer.Goals as goal

pub returns-clause-works : goal.returns-clause-works
returns-clause-works c =
    let house = c.args.self.now in
    let adds = added_by house.host.issuer (reading house.host.issuer c.args.line.now) in
    (c.authorise-answer.ensures.room (λ _. 0) (less-room adds (λ number. adds number + 0) house (λ number. omega arith) c.requires.room)).0
