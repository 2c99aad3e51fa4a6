-- A truncated line reads as the whole line, since no line of any form is as long.
use Rattle.std.proofs.Common.{◌≡◌, ℕ, ◌<◌, List, take, ap, arith}
use Rattle.issuer_base.specs.declared.limits.TheConstants.{KEPT_BYTES}
use Rattle.chip_request.proofs.LineLaws.{longest_line, line_of-kept}
use Rattle.issuer_setup.specs.IssuerSetup.{Setup}
use Rattle.line_checks.specs.Reading.{said_by, reading}

-- a line cut to the bytes that are kept of it reads as the whole line
pub reading-kept : (issuer : Setup) (line : List ℕ) → reading issuer (take KEPT_BYTES line) ≡ reading issuer line
reading-kept issuer line =
    let longer : longest_line < KEPT_BYTES = omega arith in
    ap (said_by issuer) (line_of-kept KEPT_BYTES line longer)
