-- What was looked up stays so, with the verdicts of the checks.
use Rattle.std.proofs.Common.{◌≡◌, List, length, sym, subst, ◌∙◌, arith}
use Rattle.standby_node.specs.declared.line.ReadLine.{ReadLine}
use Rattle.std.proofs.lemmas.List.{with_items_is}
use Rattle.std.proofs.lemmas.Slice.Zip.{AllZip-long}
use Rattle.std.specs.List.{AllZip}
use Rattle.standby_node.specs.ReadLines.{IsReady}
use Rattle.standby_node.proofs.Ready.{lines-again, lines-ready}
use Rattle.standby_node.proofs.feed_lines.FeedLines.check.Goals.{After-as_mut_slice}
use Rattle.standby_node.proofs.feed_lines.FeedLines.check.Goals as goal

-- what was looked up before the checks
looked : (c : After-as_mut_slice) → AllZip (IsReady c.args.issuer.now) c.args.self.now.lines.items c.as_mut_slice.result.now
looked c = subst (AllZip (IsReady c.args.issuer.now) c.args.self.now.lines.items) (sym c.as_mut_slice.ensures.value) c.requires.ready

pub check_in_lanes-requires-clause-few : goal.check_in_lanes-requires-clause-few
check_in_lanes-requires-clause-few c =
    let its = looked (goal.at.check_in_lanes-requires-clause-few c).After-as_mut_slice in
    omega (
      arith,
      AllZip-long (IsReady c.args.issuer.now) c.args.self.now.lines.items c.as_mut_slice.result.now its,
      c.requires.few,
    )

pub check_in_lanes-requires-clause-ready : goal.check_in_lanes-requires-clause-ready
check_in_lanes-requires-clause-ready c =
    lines-ready c.args.issuer.now c.args.self.now.lines.items c.as_mut_slice.result.now
    (looked (goal.at.check_in_lanes-requires-clause-ready c).After-as_mut_slice)

pub add_answers-requires-clause-ready : goal.add_answers-requires-clause-ready
add_answers-requires-clause-ready c =
    let issuer = c.args.issuer.now in
    let lines : List ReadLine = c.args.self.now.lines.items in
    let long : length c.check_in_lanes.new.found ≡ c.args.self.now.found.len = c.check_in_lanes.auto.found ∙ c.as_mut_slice.ensures.len in
    let checked = lines-again issuer lines c.as_mut_slice.result.now c.check_in_lanes.new.found
    (looked (goal.at.add_answers-requires-clause-ready c).After-as_mut_slice) c.check_in_lanes.ensures in
    subst (λ (lines : List ReadLine). AllZip (IsReady issuer) lines c.as_slice-2.result.now) (sym c.as_slice.ensures.value)
    (subst (AllZip (IsReady issuer) lines) (sym (c.as_slice-2.ensures.value ∙ with_items_is c.args.self.now.found c.check_in_lanes.new.found long)) checked)

pub returns-clause-ready : goal.returns-clause-ready
returns-clause-ready c =
    let long : length c.check_in_lanes.new.found ≡ c.args.self.now.found.len = c.check_in_lanes.auto.found ∙ c.as_mut_slice.ensures.len in
    subst (AllZip (IsReady c.args.issuer.now) c.args.self.now.lines.items) (sym (with_items_is c.args.self.now.found c.check_in_lanes.new.found long))
    (lines-again c.args.issuer.now c.args.self.now.lines.items c.as_mut_slice.result.now c.check_in_lanes.new.found
    (looked (goal.at.returns-clause-ready c).After-as_mut_slice) c.check_in_lanes.ensures)
