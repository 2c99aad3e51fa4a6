-- One more has its verdict.
use Rattle.std.proofs.Common.{◌≡◌, [], None, get_or, ap, ◌∙◌, arith}
use Rattle.std.proofs.lemmas.List.{get_or-map}
use Rattle.std.proofs.Math.ListN.{length-set}
use Rattle.cryptogram_in.specs.Checks.{DesCheck, right_session}
use Rattle.line_checks.proofs.Again.{zip-at}
use Rattle.clearing_check.specs.ClearingLine.{IsCheckOf, IsLookUp, presented}
use Rattle.clearing_check.proofs.LookUps.{set-left, set-right}
use Rattle.std.proofs.lemmas.Slice.Zip.{AllZip-long}
use Rattle.clearing_check.proofs.presented_ahead.keep_verdicts.Goals as goal

pub loop-i-preserved : goal.loop-i-preserved
loop-i-preserved c =
    let i = c.loop-i.i in
    let now = c.loop-i.found in
    let old = c.index-found-i.result in
    let new = c.keep_verdict.new.found in
    let zero : DesCheck = record { key = record { 0 = [] }; atc = 0; input = []; ac = [] } in
    record {
      same = λ issuer lines checks sessions_are are.
          let so_far = c.loop-i.invariant.same issuer lines checks sessions_are are in
          let long = AllZip-long (IsCheckOf issuer) now checks so_far.checks_are in
          let its : IsCheckOf issuer (get_or now i old) (get_or checks i zero) =
          zip-at (IsCheckOf issuer) now checks i old zero so_far.checks_are (omega arith) in
          let session : get_or c.args.sessions.now i None ≡ right_session (get_or checks i zero) =
          ap (λ xs. get_or xs i None) sessions_are ∙ get_or-map right_session checks i zero None (omega (arith, long)) in
          record {
            found_are = set-right (λ line found. IsLookUp issuer (presented issuer line) found) lines now i old new
                so_far.found_are
                (λ line looked. c.keep_verdict.ensures.verdict issuer (presented issuer line) (get_or checks i zero)
                looked its session);
            checks_are = set-left (IsCheckOf issuer) now checks i old new so_far.checks_are
                (λ check looked. c.keep_verdict.ensures.same issuer check looked);
          };
      len = length-set now i new ∙ c.loop-i.invariant.len;
    }
