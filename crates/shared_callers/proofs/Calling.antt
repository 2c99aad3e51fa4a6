-- The lines that a caller answered so far, and the texts of its answers.
use Rattle.std.proofs.Common.{◌≡◌, ℕ, ◌+◌, List, [], ◌∷◌, ◌++◌, take, map, Some, refl, sym, ap, ◌∙◌}
use Rattle.std.proofs.lemmas.List.{map-append}
use Rattle.std.specs.List.{slice_get}
use Rattle.issuer_base.specs.declared.answer.Answer.{Answer}
use Rattle.issuer_setup.specs.IssuerSetup.{Setup}
use Rattle.claim_words.specs.declared.view.ClaimView.{ClaimView}
use Rattle.turn_book.specs.declared.view.TurnView.{TurnView}
use Rattle.shared_shards.specs.declared.logs.LogItem.{LogItem}
use Rattle.shared_shards.specs.declared.logs.LogHead.{LogHead}
use Rattle.line_checks.specs.Reading.{reading}
use Rattle.shared_laws.specs.Authorising.{Authorises}
use Rattle.answer_text.specs.AnswerText.{printed}
use Rattle.shared_laws.specs.Callers.{AuthorisesAll}
use Rattle.shared_callers.proofs.Serving.{calls-line}

-- the lines were answered, and these are the texts of the answers
pub record HasCalled (issuer : Setup) (lines texts : List (List ℕ)) (claims : ClaimView) (logs : TurnView LogItem LogHead)
    (claims_now : ClaimView) (logs_now : TurnView LogItem LogHead) : Type 0 where
  pub answers : List Answer
  pub calls : AuthorisesAll issuer lines answers claims logs claims_now logs_now
  pub texts_are : texts ≡ map printed answers

module _ (issuer : Setup) (lines : List (List ℕ)) (claims : ClaimView) (logs : TurnView LogItem LogHead) where
  -- one line more was answered
  pub called-line : (place : ℕ) (line : List ℕ) (texts all : List (List ℕ)) (answer : Answer) (claims_then : ClaimView)
      (logs_then : TurnView LogItem LogHead) (claims_now : ClaimView) (logs_now : TurnView LogItem LogHead) → slice_get lines place ≡ Some line
      → all ≡ texts ++ printed answer ∷ [] → HasCalled issuer (take place lines) texts claims logs claims_then logs_then
      → Authorises issuer (reading issuer line) claims_then logs_then answer claims_now logs_now
      → HasCalled issuer (take (place + 1) lines) all claims logs claims_now logs_now
  called-line place line texts all answer claims_then logs_then claims_now logs_now at grown called call = record {
    answers = called.answers ++ answer ∷ [];
    calls = calls-line issuer lines place line called.answers (called.answers ++ answer ∷ []) answer claims logs claims_then logs_then
        claims_now logs_now at refl called.calls call;
    texts_are =
        grown ∙ ap (λ (texts : List (List ℕ)). texts ++ printed answer ∷ []) called.texts_are
        ∙ sym (map-append printed called.answers (answer ∷ []));
  }
