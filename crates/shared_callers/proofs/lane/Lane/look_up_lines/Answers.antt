-- One more line is looked up.
use Rattle.std.proofs.Common.{List, All, Result, length, take, drop, ap, sym, subst, arith}
use Rattle.std.specs.List.{AllZip}
use Rattle.std.proofs.lemmas.List.{length-append}
use Rattle.issuer_base.specs.declared.answer.Refusal.{Refusal}
use Rattle.issuer_setup.specs.IssuerSetup.{Setup}
use Rattle.line_checks.specs.LookedUp.{IsLookUp, IsReady}
use Rattle.line_checks.specs.declared.looked_up.LookedUp.{LookedUp}
use Rattle.line_checks.proofs.LookUps.{all-ready}
use Rattle.shared_callers.specs.OneLane.{looked_up_lines}
use Rattle.host_calls.proofs.LookUps.{look-up-is}
use Rattle.shared_callers.proofs.LooksAhead.{next-ahead}
use Rattle.shared_callers.proofs.lane.Lane.look_up_lines.Goals as goal

pub check-requires : goal.check-requires
check-requires g c =
    subst (λ (issuer : Setup). All (IsReady issuer) c.loop-index.self.ahead) (sym c.issuer-2.ensures)
    (all-ready c.args.host.now.issuer (looked_up_lines c.args.place c.loop-index.self) c.loop-index.self.ahead c.loop-index.invariant.ahead)

pub loop-index-preserved : goal.loop-index-preserved
loop-index-preserved g c =
    let before = c.loop-index.invariant in
    let issuer = c.args.host.now.issuer in
    let lines = c.loop-index.self.lines.lines in
    let line = c.line.result.now in
    let old = c.loop-index.self.ahead in
    let found = c.look_up-found.result in
    let its = subst (λ (issuer : Setup). IsLookUp issuer line found) c.issuer.ensures
    (look-up-is c.issuer.result.now line found c.look_up-found.ensures.sought c.look_up-found.ensures.refused) in
    record {
      ahead = subst (λ (ahead : List (Result LookedUp Refusal)). AllZip (IsLookUp issuer) (take (length ahead) (drop c.args.place lines)) ahead)
          (sym c.add.ensures)
          (next-ahead (IsLookUp issuer) c.args.place c.loop-index.index lines line old found before.count c.line.ensures.line before.ahead its);
      count = omega (arith, before.count, ap length c.add.ensures, length-append {A = Result LookedUp Refusal});
      pass = before.pass;
      lines = before.lines;
      texts = before.texts;
    }
