-- Each element is the same, or has its verdict.
use Rattle.std.proofs.Common.{◌≡◌, ◌+◌, [], ℕ, List, None, Result, get_or, take, drop, length, ap, subst, sym, ◌∙◌, arith}
use Rattle.std.proofs.Math.ListN.{length-set}
use Rattle.std.proofs.lemmas.List.{drop-drop, drop-set-lt, get_or-map, length-map, take_more_set}
use Rattle.std.proofs.lemmas.Slice.Zip.{AllZip-long}
use Rattle.std.specs.List.{AllZip}
use Rattle.issuer_base.specs.declared.answer.Refusal.{Refusal}
use Rattle.cryptogram_in.specs.Checks.{DesCheck, right_session}
use Rattle.line_checks.specs.declared.looked_up.LookedUp.{LookedUp}
use Rattle.line_checks.specs.LookedUp.{IsReady, IsCheckOf, IsLookedUpAgain}
use Rattle.line_checks.proofs.Again.{same-from, zip-at, zip_more}
use Rattle.line_checks.proofs.in_lanes.check_all.Goals as goal

pub bounds-as_slice-i : goal.bounds-as_slice-i
bounds-as_slice-i c =
    let checks : List DesCheck = c.add_checks.new.checks in
    omega (
      arith,
      c.loop-i.invariant.len,
      AllZip-long (IsCheckOf c.args.issuer.now) c.args.found.now checks c.add_checks.ensures,
      length-map checks right_session,
      ap length (c.as_slice.ensures.value ∙ c.right_sessions-sessions.ensures),
    )

pub loop-i-preserved : goal.loop-i-preserved
loop-i-preserved c =
    let issuer = c.args.issuer.now in
    let i : ℕ = c.loop-i.i in
    let before : List (Result LookedUp Refusal) = c.args.found.now in
    let now : List (Result LookedUp Refusal) = c.loop-i.found in
    let new = c.keep_verdict.new.found in
    let old = c.index-found-i.result in
    let invariant = c.loop-i.invariant in
    let checks : List DesCheck = c.add_checks.new.checks in
    let zero : DesCheck = record { key = record { 0 = [] }; atc = 0; input = []; ac = [] } in
    let long = AllZip-long (IsCheckOf issuer) before checks c.add_checks.ensures in
    let place : old ≡ get_or before i old = c.index-found-i.is ∙ same-from now before i old invariant.unchanged in
    let ready : IsReady issuer old = subst (IsReady issuer) (sym place) (c.requires.ready i old (omega (arith, invariant.len))) in
    let its : IsCheckOf issuer old (get_or checks i zero) =
    subst (λ found. IsCheckOf issuer found (get_or checks i zero)) (sym place)
    (zip-at (IsCheckOf issuer) before checks i old zero c.add_checks.ensures (omega (arith, invariant.len))) in
    let session : get_or c.as_slice.result.now i None ≡ right_session (get_or checks i zero) =
    ap (λ xs. get_or xs i None)
    (c.as_slice.ensures.value ∙ c.right_sessions-sessions.ensures)
    ∙ get_or-map right_session checks i zero None (omega (arith, long, invariant.len)) in
    record {
      so_far =
          subst (λ front. AllZip (IsLookedUpAgain issuer) (take (i + 1) before) front) (sym (take_more_set now i new (omega arith)))
          (zip_more (IsLookedUpAgain issuer) before i old (take i now) new (omega (arith, invariant.len)) place invariant.so_far
          (subst (λ found. IsLookedUpAgain issuer found new) (sym c.index-found-i.is)
          (c.keep_verdict.ensures issuer (get_or checks i zero) (subst (IsReady issuer) c.index-found-i.is ready)
          (subst (λ found. IsCheckOf issuer found (get_or checks i zero)) c.index-found-i.is its) session)));
      unchanged =
          drop-set-lt (i + 1) now i new (omega arith)
          ∙ sym (drop-drop 1 i now) ∙ ap (drop 1) invariant.unchanged ∙ drop-drop 1 i before;
      len = length-set now i new ∙ invariant.len;
    }
