-- Each lane has its session key.
use Rattle.std.proofs.Common.{◌∙◌, ℕ, List, [], ap, ap₂, sym, length, get_or, take, arith}
use Rattle.std.proofs.lemmas.List.{length-map, get_or-map}
use Rattle.issuer_base.specs.declared.request.Suite.TheVariants.{TripleDes}
use Rattle.des_block.specs.declared.Key16.{Key16}
use Rattle.des_lanes.specs.Lanes.{key_at}
use Rattle.key_derive.specs.SessionKey.{session_ac}
use Rattle.cryptogram_in.specs.Checks.{DesCheck, des_session}
use Rattle.cryptogram_in.proofs.CheckParts.{whole-parts}
use Rattle.cryptogram_in.proofs.checks.DesChecks.sessions.Goals as goal

pub returns : goal.returns
unfolding key_at des_session
returns c = λ lane below.
    let inside = c.self.inside in
    let checks : List DesCheck = c.args.self.now in
    let none : Key16 = record { 0 = [] } in
    let zero : DesCheck = record { key = none; atc = 0; input = []; ac = [] } in
    let key : DesCheck → Key16 = λ check. check.key in
    let counter : DesCheck → ℕ = λ check. check.atc in
    let parts = whole-parts inside.keys inside.counters.items inside.inputs.items inside.cryptograms.items checks c.self.view_is c.self.invariant in
    let keys = ap (λ (atcs : List ℕ). take (length atcs) inside.keys) c.as_slice-counters.ensures.value ∙ parts.keys_are in
    let counters = c.as_slice-counters.ensures.value ∙ parts.atcs_are in
    c.sessions.ensures lane (omega (arith, ap length keys, length-map checks key))
    ∙ ap₂ (λ ks atcs. session_ac TripleDes (get_or ks lane none).0 (get_or atcs lane 0)) keys counters
    ∙ ap₂ (λ (k : Key16) atc. session_ac TripleDes k.0 atc) (get_or-map key checks lane zero none below) (get_or-map counter checks lane zero 0 below)
    ∙ sym (get_or-map des_session checks lane zero [] below)
