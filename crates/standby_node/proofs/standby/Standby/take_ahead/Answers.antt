-- The lines are taken one after another.
use Rattle.std.proofs.Common.{◌≡◌, List, Result, Err, Ok, ap, arith, get_or, length, refl, sym, subst, ◌∙◌}
use Rattle.std.proofs.lemmas.Slice.Zip.{AllZip-long}
use Rattle.issuer_base.specs.declared.answer.Refusal.{Refusal}
use Rattle.line_checks.specs.declared.looked_up.LookedUp.{LookedUp}
use Rattle.line_checks.proofs.Again.{zip-at}
use Rattle.standby_node.specs.declared.line.ReadLine.{ReadLine}
use Rattle.standby_node.specs.ReadLines.{IsReady}
use Rattle.standby_node.proofs.Ahead.{ahead-all, ahead-more, ahead-none, ahead-stopped}
use Rattle.standby_node.proofs.Shards.{shards-then}
use Rattle.standby_node.proofs.standby.Standby.take_ahead.Goals as goal

pub loop-i-init : goal.loop-i-init
loop-i-init g c = ahead-none c.args.issuer.now c.args.self.now c.args.ahead.now c.requires.shards

pub bounds-found-i : goal.bounds-found-i
bounds-found-i g c =
    let ahead = c.args.ahead.now in
    omega (
      arith,
      AllZip-long (IsReady c.args.issuer.now) ahead.lines.items ahead.found.items c.requires.ahead,
      ap length c.found-found.ensures,
      ap length c.lines-line-items.ensures,
    )

pub take_read-requires-clause-line : goal.take_read-requires-clause-line
take_read-requires-clause-line g c =
    let ahead = c.args.ahead.now in
    let i = c.loop-i.i in
    let line : ReadLine = c.line-item.result in
    let found : Result LookedUp Refusal = c.index-found-i.result in
    let line_is : line ≡ get_or ahead.lines.items i line =
    c.line-item.is ∙ ap (λ (ls : List ReadLine). get_or ls i line) c.lines-line-items.ensures in
    let found_is : found ≡ get_or ahead.found.items i found =
    c.index-found-i.is ∙ ap (λ (fs : List (Result LookedUp Refusal)). get_or fs i found) c.found-found.ensures in
    subst (IsReady c.args.issuer.now line) (sym found_is)
    (subst (λ (line : ReadLine). IsReady c.args.issuer.now line (get_or ahead.found.items i found)) (sym line_is)
    (zip-at (IsReady c.args.issuer.now) ahead.lines.items ahead.found.items i line found c.requires.ahead
    (omega (arith, ap length c.lines-line-items.ensures))))

pub loop-i-preserved : goal.loop-i-preserved
loop-i-preserved g c =
    let ahead = c.args.ahead.now in
    let i = c.loop-i.i in
    let line : ReadLine = c.line-item.result in
    ahead-more c.args.issuer.now c.args.self.now ahead i c.loop-i.self (omega (arith, ap length c.lines-line-items.ensures)) c.loop-i.invariant line
    (c.line-item.is ∙ ap (λ (ls : List ReadLine). get_or ls i line) c.lines-line-items.ensures) _ c.saturating_add-self.result
    c.saturating_add-self.ensures (Ok tt) c.in-Ok.ensures.does refl c.in-Ok.ensures.kept refl refl

pub returns-in-Err-clause-fed : goal.returns-in-Err-clause-fed
returns-in-Err-clause-fed g c =
    let ahead = c.args.ahead.now in
    let i = c.loop-i.i in
    let line : ReadLine = c.line-item.result in
    ahead-stopped c.args.issuer.now c.args.self.now ahead i c.loop-i.self (omega (arith, ap length c.lines-line-items.ensures)) c.loop-i.invariant line
    (c.line-item.is ∙ ap (λ (ls : List ReadLine). get_or ls i line) c.lines-line-items.ensures) _ c.saturating_add-self.result
    c.saturating_add-self.ensures (Err c.in-Err.fault) c.in-Err.ensures.does c.in-Err.fault refl

pub returns-in-Err-clause-kept : goal.returns-in-Err-clause-kept
returns-in-Err-clause-kept g c = shards-then c.args.issuer.now _ _ _ _ c.loop-i.invariant.keeps c.in-Err.ensures.kept

pub returns-clause-fed : goal.returns-clause-fed
returns-clause-fed g c =
    ahead-all c.args.issuer.now c.args.self.now c.args.ahead.now c.loop-i.i c.loop-i.self (omega (arith, ap length c.lines-line-items.ensures))
    c.loop-i.invariant
