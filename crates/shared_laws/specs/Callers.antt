-- A caller of a host: its lines and their answers, and what its pass knows.
use Rattle.std.specs.Prelude.{◌≡◌, ℕ, List, [], ◌∷◌}
use Rattle.issuer_base.specs.declared.answer.Answer.{Answer}
use Rattle.issuer_setup.specs.IssuerSetup.{Setup}
use Rattle.line_checks.specs.Reading.{reading}
use Rattle.claim_words.specs.declared.view.ClaimView.{ClaimView}
use Rattle.turn_book.specs.declared.logs.Log.{Log}
use Rattle.turn_book.specs.declared.view.TurnView.{TurnView}
use Rattle.shared_shards.specs.declared.logs.LogItem.{LogItem}
use Rattle.shared_shards.specs.declared.logs.LogHead.{LogHead}
use Rattle.shared_laws.specs.Authorising.{Authorises}

-- these are the answers to these lines, one after another, for a pass that had these claims and had seen these logs
abbrev pub AuthorisesAll : Setup → List (List ℕ) → List Answer → ClaimView → TurnView LogItem LogHead → ClaimView
    → TurnView LogItem LogHead → Type 0
AuthorisesAll issuer [] [] claims logs claims_now logs_now = (claims_now ≡ claims) × (logs_now ≡ logs)
AuthorisesAll issuer (line ∷ lines) (answer ∷ answers) claims logs claims_now logs_now =
    (claims_then : ClaimView) × (logs_then : TurnView LogItem LogHead)
    × Authorises issuer (reading issuer line) claims logs answer claims_then logs_then
    × AuthorisesAll issuer lines answers claims_then logs_then claims_now logs_now
AuthorisesAll issuer [] (answer ∷ answers) claims logs claims_now logs_now = ⊥
AuthorisesAll issuer (line ∷ lines) [] claims logs claims_now logs_now = ⊥

-- a caller: its lines and their answers, and what its pass knew before the first line and knows after the last
pub record Caller : Type 0 where
  pub lines : List (List ℕ)
  pub answers : List Answer
  pub claims : ClaimView
  pub claims_now : ClaimView
  pub logs : TurnView LogItem LogHead
  pub logs_now : TurnView LogItem LogHead

-- the caller began with a pass that had made no call and had seen the opening logs, and its lines were answered one
-- after another
pub record IsCaller (issuer : Setup) (opening : List (Log LogItem LogHead)) (caller : Caller) : Type 0 where
  pub no_claims : caller.claims.claims ≡ []
  pub no_found : caller.claims.found ≡ []
  pub no_tops : caller.claims.tops ≡ []
  pub no_places : caller.logs.mine ≡ []
  pub opened : caller.logs.seen ≡ opening
  pub calls : AuthorisesAll issuer caller.lines caller.answers caller.claims caller.logs caller.claims_now
      caller.logs_now
