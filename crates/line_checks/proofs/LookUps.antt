-- A line that carries a request asks what the request's check gives, also if the request was looked up again.
use Rattle.std.proofs.Common.{◌≡◌, ℕ, List, [], ◌∷◌, All, Result, Ok, Err, IfOk, ap, sym, subst, ◌∙◌}
use Rattle.std.specs.List.{AllZip}
use Rattle.std.proofs.lemmas.List.Elements.{All-nil, All-cons}
use Rattle.issuer_base.specs.declared.request.Request.{Request}
use Rattle.issuer_base.specs.declared.answer.Refusal.{Refusal}
use Rattle.issuer_setup.specs.IssuerSetup.{Setup}
use Rattle.line_checks.specs.declared.looked_up.LookedUp.{LookedUp}
use Rattle.line_checks.specs.declared.looked_up.LookedUp.TheVariants.{Request as IsRequest, Order}
use Rattle.line_checks.specs.LookedUp.{CarriesRequest, IsLookUp, AreLookUps, IsLookedUpAgain, IsReady, IsSought}
use Rattle.line_checks.specs.Reading.{checked, checked_data, said_by, reading}

pub carried : (issuer : Setup) (line : List ℕ) (request : Request) → CarriesRequest line request → reading issuer line ≡ checked issuer request
carried issuer line request carries = ap (said_by issuer) carries.asks ∙ ap (checked_data issuer) carries.parsed

-- what was looked up for a line has its keys at hand
pub sought-ready : (issuer : Setup) (line : List ℕ) (found : Result LookedUp Refusal) → IfOk found (IsSought issuer line) → IsReady issuer found
sought-ready issuer line (Ok (IsRequest sought)) its = its.1
sought-ready issuer line (Ok (Order order)) its = tt
sought-ready issuer line (Err refusal) its = tt

-- and is still that of the line once it was looked up again
pub sought-again : (issuer : Setup) (line : List ℕ) (old new : Result LookedUp Refusal) → IfOk old (IsSought issuer line) → IsLookedUpAgain issuer old new
    → IfOk new (IsSought issuer line)
sought-again issuer line (Ok (IsRequest old)) (Ok (IsRequest new)) its again =
    (subst (CarriesRequest line) (sym again.request_is) its.0, again.at_hand)
sought-again issuer line (Ok (IsRequest old)) (Ok (Order order)) its again = absurd cc
sought-again issuer line (Ok (IsRequest old)) (Err refusal) its again = absurd cc
sought-again issuer line (Ok (Order order)) new its again = subst (λ found. IfOk found (IsSought issuer line)) (sym again) its
sought-again issuer line (Err refusal) new its again = subst (λ found. IfOk found (IsSought issuer line)) (sym again) tt

-- ---- the look-ups of several lines

-- each has its keys at hand
pub all-ready : (issuer : Setup) (lines : List (List ℕ)) (found : List (Result LookedUp Refusal)) → AreLookUps issuer lines found
    → All (IsReady issuer) found
all-ready issuer [] [] are = All-nil (IsReady issuer)
all-ready issuer [] (found ∷ more) are = absurd are
all-ready issuer (line ∷ lines) [] are = absurd are
all-ready issuer (line ∷ lines) (Ok sought ∷ more) are =
    All-cons (IsReady issuer) (Ok sought) more (sought-ready issuer line (Ok sought) are.0) (all-ready issuer lines more are.1)
all-ready issuer (line ∷ lines) (Err refusal ∷ more) are =
    All-cons (IsReady issuer) (Err refusal) more tt (all-ready issuer lines more are.1)

-- what was looked up again for a line is the look-up of the line
look-up-again : (issuer : Setup) (line : List ℕ) (old new : Result LookedUp Refusal) → IsLookUp issuer line old → IsLookedUpAgain issuer old new
    → IsLookUp issuer line new
look-up-again issuer line (Ok old) (Ok new) its again = sought-again issuer line (Ok old) (Ok new) its again
look-up-again issuer line (Ok (IsRequest old)) (Err refusal) its again = absurd cc
look-up-again issuer line (Ok (Order old)) (Err refusal) its again = absurd cc
look-up-again issuer line (Err refusal) new its again = subst (IsLookUp issuer line) (sym again) its

-- and so it is of each
pub all-again : (issuer : Setup) (lines : List (List ℕ)) (old new : List (Result LookedUp Refusal)) → AreLookUps issuer lines old
    → AllZip (IsLookedUpAgain issuer) old new → AreLookUps issuer lines new
all-again issuer [] [] [] are same = tt
all-again issuer [] [] (new ∷ news) are same = absurd same
all-again issuer [] (old ∷ olds) new are same = absurd are
all-again issuer (line ∷ lines) [] new are same = absurd are
all-again issuer (line ∷ lines) (old ∷ olds) [] are same = absurd same
all-again issuer (line ∷ lines) (old ∷ olds) (new ∷ news) are same =
    (look-up-again issuer line old new are.0 same.0, all-again issuer lines olds news are.1 same.1)
