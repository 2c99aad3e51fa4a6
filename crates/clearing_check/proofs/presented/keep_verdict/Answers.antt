-- What is kept of a request is kept of its look-up.
use Rattle.std.proofs.Common.{subst}
use Rattle.clearing_check.specs.ClearingLine.{IsCheckOf, IsLookUp}
use Rattle.clearing_check.proofs.presented.keep_verdict.Goals as goal

pub returns-in-Ok-clause-verdict : goal.returns-in-Ok-clause-verdict
returns-in-Ok-clause-verdict c = λ issuer presented check its of_check session_is.
    c.keep_of_request.ensures.verdict issuer presented check (subst (IsLookUp issuer presented) c.in-Ok.is its)
    (subst (λ found. IsCheckOf issuer found check) c.in-Ok.is of_check) session_is

pub returns-in-Ok-clause-same : goal.returns-in-Ok-clause-same
returns-in-Ok-clause-same c = λ issuer check of_check.
    c.keep_of_request.ensures.same issuer check (subst (λ found. IsCheckOf issuer found check) c.in-Ok.is of_check)
