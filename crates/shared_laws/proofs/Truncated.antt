-- Callers that have the lines of a run truncated, as lines of the whole run.
use Rattle.std.proofs.Common.{◌≡◌, ℕ, ◌-◌, zero, suc, List, [], ◌∷◌, map, take, refl, ap, subst, ◌∙◌}
use Rattle.issuer_base.specs.declared.answer.Answer.{Answer}
use Rattle.issuer_base.specs.declared.limits.TheConstants.{KEPT_BYTES}
use Rattle.issuer_setup.specs.IssuerSetup.{Setup}
use Rattle.line_checks.proofs.KeptLines.{reading-kept}
use Rattle.claim_words.specs.declared.view.ClaimView.{ClaimView}
use Rattle.turn_book.specs.declared.logs.Log.{Log}
use Rattle.turn_book.specs.declared.view.TurnView.{TurnView}
use Rattle.shared_shards.specs.declared.logs.LogItem.{LogItem}
use Rattle.shared_shards.specs.declared.logs.LogHead.{LogHead}
use Rattle.shared_laws.specs.Authorising.{Authorises}
use Rattle.shared_laws.specs.Callers.{AuthorisesAll, Caller, IsCaller}
use Rattle.shared_laws.specs.Dealing.{every}

-- what is dealt of mapped items
every-map : {A B : Type 0} (f : A → B) (count skip : ℕ) (xs : List A)
    → every count skip (map f xs) ≡ map f (every count skip xs)
every-map f count skip [] = refl
every-map f count zero (x ∷ xs) = ap (λ rest. f x ∷ rest) (every-map f count (count - 1) xs)
every-map f count (suc skip) (x ∷ xs) = every-map f count skip xs

-- calls with truncated lines are calls with the lines
calls-kept : (issuer : Setup) (asked : List (List ℕ)) (answers : List Answer) (claims : ClaimView)
    (logs : TurnView LogItem LogHead)
    (claims_now : ClaimView) (logs_now : TurnView LogItem LogHead)
    → AuthorisesAll issuer (map (take KEPT_BYTES) asked) answers claims logs claims_now logs_now
    → AuthorisesAll issuer asked answers claims logs claims_now logs_now
calls-kept issuer [] [] claims logs claims_now logs_now calls = calls
calls-kept issuer (line ∷ asked) (answer ∷ answers) claims logs claims_now logs_now calls = (
  calls.0,
  calls.1,
  subst (λ says. Authorises issuer says claims logs answer calls.0 calls.1) (reading-kept issuer line) calls.2,
  calls-kept issuer asked answers calls.0 calls.1 claims_now logs_now calls.3,
)
calls-kept issuer [] (answer ∷ answers) claims logs claims_now logs_now calls = absurd calls
calls-kept issuer (line ∷ asked) [] claims logs claims_now logs_now calls = absurd calls

-- a caller that has its turns of the truncated lines is one with its turns of the lines
pub whole-lines : (issuer : Setup) (opening : List (Log LogItem LogHead)) (count number : ℕ) (asked : List (List ℕ))
    (caller : Caller) → IsCaller issuer opening caller
    → caller.lines ≡ every count number (map (take KEPT_BYTES) asked)
    → IsCaller issuer opening (record caller { lines = every count number asked })
whole-lines issuer opening count number asked caller is lines_are = record {
  no_claims = is.no_claims;
  no_found = is.no_found;
  no_tops = is.no_tops;
  no_places = is.no_places;
  opened = is.opened;
  calls =
      calls-kept issuer (every count number asked) caller.answers caller.claims caller.logs caller.claims_now
      caller.logs_now
      (subst (λ (lines : List (List ℕ)). AuthorisesAll issuer lines caller.answers caller.claims caller.logs caller.claims_now
      caller.logs_now) (lines_are ∙ every-map (take KEPT_BYTES) count number asked) is.calls);
}
