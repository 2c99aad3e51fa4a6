-- What was looked up stays, with the verdicts so far.
use Rattle.std.proofs.Common.{◌≡◌, ℕ, List, length, map}
use Rattle.cryptogram_in.specs.Checks.{DesCheck, right_session}
use Rattle.issuer_setup.specs.IssuerSetup.{Setup}
use Rattle.clearing_check.specs.ClearingLine.{AreAhead}
use Rattle.clearing_check.proofs.presented_ahead.keep_verdicts.Given as goal

abbrev pub invariant-loop-i : goal.invariant-loop-i
invariant-loop-i l = record {
  same : (issuer : Setup) (lines : List (List ℕ)) (checks : List DesCheck) → l.sessions ≡ map right_session checks
      → AreAhead issuer lines (record { found = l.fn.found; checks = checks })
      → AreAhead issuer lines (record { found = l.found; checks = checks });
  len : length l.found ≡ length l.fn.found;
}
