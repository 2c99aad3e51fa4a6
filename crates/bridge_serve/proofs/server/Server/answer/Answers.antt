-- The first turn is answered, or isn't taken.
use Rattle.std.proofs.Common.{[], ◌∷◌, ◌++◌, ap, subst, take, refl}
use Rattle.bridge_lines.specs.declared.action.Why.{Why}
use Rattle.bridge_lines.specs.Acts.{Over, Stop}
use Rattle.bridge_serve.specs.declared.desk.Fault.{Fault}
use Rattle.bridge_serve.specs.Faults.{IsFault}
use Rattle.bridge_serve.specs.Reading.{ahead_of}
use Rattle.bridge_serve.proofs.Serving.{serves-on, stops, refused}
use Rattle.bridge_serve.proofs.server.Server.answer.Goals as goal

pub returns-in-Err-Stop-clause-goes_on : goal.returns-in-Err-Stop-clause-goes_on
returns-in-Err-Stop-clause-goes_on g c start before said all left serves first =
    let now = c.args.self.now in
    let ahead = ahead_of now.window in
    let why = c.in-Err-Stop.why in
    let silent = c.in-Err-Stop.ensures.silent refl start said first in
    let may_stop = refused ahead _ now.desk why c.args.end c.requires.turn (ap (take c.args.end) c.ahead.ensures.bytes)
    (subst (λ (fault : Fault). IsFault fault (take c.args.end c.ahead.result.now) now.desk) c.in-Err-Stop.field-0-is c.in-Err-Stop.ensures.refused) in
    let told = subst (λ (w : Why). g.O.Speaker.says start c.stop.new.out (said ++ Stop w ∷ [])) c.in-Err-Stop.why-is (c.stop.ensures.said start said silent) in
    (said ++ Stop why ∷ [], told, stops before all left ahead now.desk said why c.stop.result serves may_stop c.stop.ensures.ended)

pub returns-clause-goes_on : goal.returns-clause-goes_on
returns-clause-goes_on g c start before said all left serves first =
    let now = c.args.self.now in
    let taken = c.in-Ok.ensures.taken refl start said first in (
      taken.0 ++ Over ∷ [],
      c.say.ensures start taken.0 taken.1,
      serves-on before all left (ahead_of now.window) _ (ahead_of c.pass.new.self) now.desk c.take.new.self said taken.0 c.args.end serves
          (ap (take c.args.end) c.ahead.ensures.bytes) c.pass.ensures taken.2,
    )
