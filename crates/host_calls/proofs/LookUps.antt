-- A look-up, by the two clauses of the call that gives it.
use Rattle.std.specs.Prelude.{◌≡◌, ◌≢◌, ℕ, List, IfOk, IfErr, Result, Ok, Err}
use Rattle.issuer_base.specs.declared.answer.Refusal.{Refusal}
use Rattle.issuer_base.specs.declared.answer.Refusal.TheVariants.{BadCryptogram}
use Rattle.issuer_setup.specs.IssuerSetup.{Setup}
use Rattle.line_checks.specs.LookedUp.{IsLookUp, IsSought}
use Rattle.line_checks.specs.Reading.{reading}
use Rattle.line_checks.specs.declared.looked_up.LookedUp.{LookedUp}

-- what a look-up gives is that of its line
pub look-up-is : (issuer : Setup) (line : List ℕ) (found : Result LookedUp Refusal) → IfOk found (IsSought issuer line)
    → IfErr found (λ refusal. (reading issuer line ≡ Err refusal) × (refusal ≢ BadCryptogram)) → IsLookUp issuer line found
look-up-is issuer line (Ok sought) its refused = its
look-up-is issuer line (Err refusal) its refused = refused
