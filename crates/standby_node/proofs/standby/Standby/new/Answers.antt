-- A standby that was fed with nothing.
use Rattle.std.proofs.Common.{[], refl}
use Rattle.line_reader.proofs.LineLaws.{BeginsWithLines-none}
use Rattle.standby_node.proofs.standby.Standby.new.Goals as goal

pub returns-clause-opened : goal.returns-clause-opened
returns-clause-opened g c issuer in_doubt histories hold = record {
  taken = record { lines = []; rest = []; split = record { begins = BeginsWithLines-none []; unbroken = tt }; taken = refl };
  hold = hold;
  unfinished = c.new.ensures;
  counted = refl;
}
