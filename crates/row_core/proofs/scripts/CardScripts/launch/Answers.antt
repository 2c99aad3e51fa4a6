-- The flight is settled, and the next begins with the commands that fit.
use Rattle.std.proofs.Common.{◌≡◌, ℕ, Bool, ap, sym, ◌∙◌, subst}
use Rattle.cvr_settle.specs.Settlement.{settled}
use Rattle.row_core.specs.CardRow.{KeptScripts}
use Rattle.row_core.specs.declared.scripts.Launch.{Launch}
use Rattle.row_core.proofs.LaunchLemmas.{told, told_by, CarriesFitting, is-launch}
use Rattle.row_core.proofs.scripts.CardScripts.launch.Goals as goal
use Rattle.row_core.proofs.scripts.CardScripts.launch.Goals.{in-Ran, in-Nothing, in-Halt}

pub returns-else-halted : goal.returns-else-halted
returns-else-halted c =
    let kept = c.args.self.now in
    let outcome = c.settle.result in
    let launch : Launch = record {
      ran = c.match-settle.ran.0;
      size = c.fitting_after-size.result;
      halted = c.match-settle.ran.1;
    } in
    let parts : c.match-settle.ran ≡ told outcome c.self.inside.halted =
    elim c.match-settle.branch [
      | in-Ran w ↦ w.ran-is ∙ ap (λ outcome. told outcome c.self.inside.halted) (sym w.in-Ran.is)
      | in-Nothing w ↦ w.ran-is ∙ ap (λ outcome. told outcome c.self.inside.halted) (sym w.in-Nothing.is)
      | in-Halt w ↦ w.ran-is ∙ ap (λ outcome. told outcome c.self.inside.halted) (sym w.in-Halt.is)
    ] in
    let told_is : c.match-settle.ran ≡ told_by c.args.request.now kept =
    parts
    ∙ ap (λ outcome. told outcome c.self.inside.halted)
    (c.settle.ensures ∙ (λ i. settled c.self.inside.flight (c.last_online-register.ensures i) (c.script_count-count.ensures i)))
    ∙ ap (λ kept. told_by c.args.request.now kept) c.self.view_is in
    is-launch kept c.args.request.now launch
    (ap (λ (parts : ℕ × Bool). parts.0) told_is)
    (ap (λ (parts : ℕ × Bool). parts.1) told_is)
    (subst (λ (kept : KeptScripts). CarriesFitting kept.commands.undone launch) c.self.view_is (record {
      within = c.fitting_after-size.ensures.within;
      front = c.fitting_after-size.ensures.front;
      flies = c.if-halted.false;
    }))
