-- What a barrier that counts makes of a bridge.
use Rattle.std.specs.Prelude.{if◌then◌else◌}
use Rattle.one_history.specs.Streams.{is_barrier}
use Rattle.one_history.specs.Machines.{Stage, Follows, Begins, Serves}
use Rattle.bridge_rule.specs.declared.opening.Opening.{Opening}
use Rattle.bridge_rule.specs.declared.role.Role.{Role}
use Rattle.bridge_rule.specs.declared.role.Role.TheVariants.{Untold, Following, Beginning, Serving}
use Rattle.bridge_rule.specs.declared.role.Turn.{Turn}
use Rattle.bridge_rule.specs.declared.role.Turn.TheVariants.{Nothing, Starts, Ends, Yields}
use Rattle.bridge_rule.specs.Openings.{barrier_of}

-- the turn at a barrier that counts
abbrev pub turn_of : Role → Opening → Turn
turn_of Untold opening = Nothing
turn_of Following opening = Nothing
turn_of (Beginning own) opening = if is_barrier (barrier_of own) (barrier_of opening) then Starts else Yields
turn_of (Serving own) opening = Ends

-- the role after it
abbrev pub role_at : Turn → Role → Opening → Role
role_at Nothing role opening = role
role_at Starts role opening = Serving opening
role_at Ends role opening = Untold
role_at Yields role opening = Following

-- the stage of the machine
abbrev pub stage_of : Role → Stage
stage_of Untold = Follows
stage_of Following = Follows
stage_of (Beginning own) = Begins (barrier_of own)
stage_of (Serving own) = Serves (barrier_of own)
