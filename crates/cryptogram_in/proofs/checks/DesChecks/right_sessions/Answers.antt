-- The session key and the MAC at an index are those of the check there.
use Rattle.std.proofs.Common.{◌≡◌, ◌∙◌, ◌+◌, ◌<◌, ◌++◌, ℕ, List, [], ap, ap₂, length, get_or, arith, Some, None, if◌then◌else◌}
use Rattle.std.specs.Str.{bytes_eq}
use Rattle.std.proofs.lemmas.List.{length-map, get_or-map}
use Rattle.std.proofs.lemmas.List.FromFn.{length-map-range_with_len, get_or-map-range_with_len}
use Rattle.des_lanes.specs.Lanes.{block_in, key_in}
use Rattle.cryptogram_in.specs.Checks.{DesCheck, des_session, des_mac, right_session}
use Rattle.cryptogram_in.proofs.CheckParts.{whole-parts, results-more}
use Rattle.cryptogram_in.proofs.checks.DesChecks.right_sessions.Goals as goal

pub bounds-as_slice-i : goal.bounds-as_slice-i
bounds-as_slice-i c =
    omega (
      arith,
      ap length (c.as_slice.ensures.value ∙ c.first-left.ensures),
      length-map-range_with_len (λ lane. block_in lane c.sessions-sessions.result.left) 0 c.len.result,
      c.len.ensures.value,
      ap length c.as_slice-mac-items.ensures.value,
    )

pub bounds-as_slice-i-in-loop-i : goal.bounds-as_slice-i-in-loop-i
bounds-as_slice-i-in-loop-i c =
    omega (
      arith,
      ap length (c.as_slice-in-loop-i.ensures.value ∙ c.first-right.ensures),
      length-map-range_with_len (λ lane. block_in lane c.sessions-sessions.result.right) 0 c.len-2.result,
      c.len-2.ensures.value,
      ap length c.as_slice-mac-items.ensures.value,
    )

pub bounds-as_slice-i-in-loop-i-2 : goal.bounds-as_slice-i-in-loop-i-2
bounds-as_slice-i-in-loop-i-2 c =
    let inside = c.self.inside in
    let checks : List DesCheck = c.args.self.now in
    let parts = whole-parts inside.keys inside.counters.items inside.inputs.items inside.cryptograms.items checks c.self.view_is c.self.invariant in
    omega (
      arith,
      ap length c.as_slice-in-loop-i-2.ensures.value,
      c.self.invariant.3,
      parts.count,
      ap length (c.as_slice-mac-items.ensures.value ∙ c.macs-macs.ensures),
      length-map checks des_mac,
    )

pub loop-i-preserved : goal.loop-i-preserved
unfolding key_in right_session
loop-i-preserved c =
    let inside = c.self.inside in
    let checks : List DesCheck = c.args.self.now in
    let zero : DesCheck = record { key = record { 0 = [] }; atc = 0; input = []; ac = [] } in
    let i : ℕ = c.loop-i.i in
    let sessions = c.sessions-sessions.result in
    let parts = whole-parts inside.keys inside.counters.items inside.inputs.items inside.cryptograms.items checks c.self.view_is c.self.invariant in
    let macs_are = c.as_slice-mac-items.ensures.value ∙ c.macs-macs.ensures in
    let below : i < length checks = omega (arith, ap length macs_are, length-map checks des_mac) in
    let count = c.len.ensures.value ∙ ap length c.macs-macs.ensures ∙ length-map checks des_mac in
    let count_2 = c.len-2.ensures.value ∙ ap length c.macs-macs.ensures ∙ length-map checks des_mac in
    let place : 0 + i ≡ i = omega arith in
    let session : c.joined-session.result.0 ≡ des_session (get_or checks i zero) =
    c.joined-session.ensures
    ∙ ap₂ (λ x y. x ++ y)
    (ap (λ bs. get_or bs i []) (c.as_slice.ensures.value ∙ c.first-left.ensures)
    ∙ get_or-map-range_with_len (λ lane. block_in lane sessions.left) 0 c.len.result i i [] (omega (arith, count)) place)
    (ap (λ bs. get_or bs i []) (c.as_slice-in-loop-i.ensures.value ∙ c.first-right.ensures)
    ∙ get_or-map-range_with_len (λ lane. block_in lane sessions.right) 0 c.len-2.result i i [] (omega (arith, count_2)) place)
    ∙ c.sessions-sessions.ensures i below
    ∙ get_or-map des_session checks i zero [] below in
    let cryptogram : get_or c.as_slice-in-loop-i-2.result.now i [] ≡ (get_or checks i zero).ac =
    ap (λ acs. get_or acs i []) (c.as_slice-in-loop-i-2.ensures.value ∙ parts.acs_are) ∙ get_or-map (λ (check : DesCheck). check.ac) checks i zero [] below in
    let expected : get_or c.as_slice-mac-items.result.now i [] ≡ des_mac (get_or checks i zero) =
    ap (λ macs. get_or macs i []) macs_are ∙ get_or-map des_mac checks i zero [] below in
    let right : c.if_right.result ≡ right_session (get_or checks i zero) =
    c.if_right.ensures
    ∙ ap₂ (λ ac mac. if bytes_eq ac mac then Some c.joined-session.result else None) cryptogram expected
    ∙ ap (λ (key : List ℕ). if bytes_eq (get_or checks i zero).ac (des_mac (get_or checks i zero)) then Some (record { 0 = key }) else None) session in
    record {
      so_far = results-more right_session checks i zero c.loop-i.found.items c.push.new.self.items c.if_right.result c.loop-i.invariant.so_far below c.push.ensures.items right;
      len = omega (arith, c.push.ensures.len, c.loop-i.invariant.len);
    }
