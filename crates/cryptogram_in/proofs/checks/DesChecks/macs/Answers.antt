-- Each lane has the MAC of its data under its session key.
use Rattle.std.proofs.Common.{◌≡◌, ◌∙◌, ◌+◌, ℕ, List, [], ap, ap₂, length, map, get_or, arith}
use Rattle.std.specs.List.{range_with_len}
use Rattle.std.proofs.lemmas.List.{length-map}
use Rattle.des_lanes.specs.Lanes.{block_in}
use Rattle.retail_mac.specs.Mac.{retail_mac}
use Rattle.cryptogram_in.specs.Checks.{DesCheck, des_session, des_mac}
use Rattle.cryptogram_in.proofs.CheckParts.{whole-parts}
use Rattle.cryptogram_in.proofs.Steps.{lanes_are}
use Rattle.cryptogram_in.proofs.checks.DesChecks.macs.Goals as goal

pub returns : goal.returns
unfolding des_mac
returns c =
    let inside = c.self.inside in
    let checks : List DesCheck = c.args.self.now in
    let text : DesCheck → List ℕ = λ check. check.input in
    let parts = whole-parts inside.keys inside.counters.items inside.inputs.items inside.cryptograms.items checks c.self.view_is c.self.invariant in
    let texts = c.as_slice-inputs.ensures.value ∙ parts.inputs_are in
    let count = ap length texts ∙ length-map checks text in
    c.first.ensures ∙ ap (λ n. map (λ lane. block_in lane c.macs.result) (range_with_len 0 n)) count
    ∙ lanes_are checks des_session text [] [] retail_mac (λ lane. block_in lane c.macs.result) 0
    (λ i below.
    let place : 0 + i ≡ i = omega arith in
    ap (λ lane. block_in lane c.macs.result) place ∙ c.macs.ensures i (omega (arith, count))
    ∙ ap₂ retail_mac (c.requires i below) (ap (λ ts. get_or ts i []) texts))
