-- A caller's calls, line by line: one more, and the one with a number.
use Rattle.std.proofs.Common.{◌≡◌, ℕ, zero, suc, List, [], ◌∷◌, ◌++◌, take, drop, Some, refl, subst}
use Rattle.std.proofs.lemmas.Option.{same_Some, none-some}
use Rattle.std.specs.List.{slice_get}
use Rattle.issuer_base.specs.declared.answer.Answer.{Answer}
use Rattle.issuer_setup.specs.IssuerSetup.{Setup}
use Rattle.line_checks.specs.Reading.{reading}
use Rattle.claim_words.specs.declared.view.ClaimView.{ClaimView}
use Rattle.turn_book.specs.declared.view.TurnView.{TurnView}
use Rattle.shared_shards.specs.declared.logs.LogItem.{LogItem}
use Rattle.shared_shards.specs.declared.logs.LogHead.{LogHead}
use Rattle.shared_laws.specs.Authorising.{Authorises}
use Rattle.shared_laws.specs.Callers.{AuthorisesAll}

module _ (issuer : Setup) where
  -- one line more, after the others
  pub calls-more : (lines : List (List ℕ)) (answers : List Answer) (claims : ClaimView) (logs : TurnView LogItem LogHead) (claims_then : ClaimView)
      (logs_then : TurnView LogItem LogHead) (line : List ℕ) (answer : Answer) (claims_now : ClaimView) (logs_now : TurnView LogItem LogHead)
      → AuthorisesAll issuer lines answers claims logs claims_then logs_then
      → Authorises issuer (reading issuer line) claims_then logs_then answer claims_now logs_now
      → AuthorisesAll issuer (lines ++ line ∷ []) (answers ++ answer ∷ []) claims logs claims_now logs_now
  calls-more [] [] claims logs claims_then logs_then line answer claims_now logs_now (claims_same, logs_same) call = (
    claims_now,
    logs_now,
    subst (λ (claims : ClaimView). Authorises issuer (reading issuer line) claims logs answer claims_now logs_now) claims_same
        (subst (λ (logs : TurnView LogItem LogHead). Authorises issuer (reading issuer line) claims_then logs answer claims_now logs_now) logs_same call),
    (refl, refl),
  )
  calls-more [] (first ∷ answers) claims logs claims_then logs_then line answer claims_now logs_now calls call = absurd calls
  calls-more (first ∷ lines) [] claims logs claims_then logs_then line answer claims_now logs_now calls call = absurd calls
  calls-more (first ∷ lines) (told ∷ answers) claims logs claims_then logs_then line answer claims_now logs_now (claims_first, logs_first, head, calls) call =
      (claims_first, logs_first, head, calls-more lines answers claims_first logs_first claims_then logs_then line answer claims_now logs_now calls call)

-- the line with this number was answered so, behind the calls before it and in front of the calls after it
pub record CallAt (issuer : Setup) (lines : List (List ℕ)) (answers : List Answer) (claims : ClaimView) (logs : TurnView LogItem LogHead)
    (claims_now : ClaimView) (logs_now : TurnView LogItem LogHead) (index : ℕ) (answer : Answer) : Type 0 where
  pub line : List ℕ
  pub line_is : slice_get lines index ≡ Some line
  pub claims_before : ClaimView
  pub logs_before : TurnView LogItem LogHead
  pub claims_after : ClaimView
  pub logs_after : TurnView LogItem LogHead
  pub before : AuthorisesAll issuer (take index lines) (take index answers) claims logs claims_before logs_before
  pub call : Authorises issuer (reading issuer line) claims_before logs_before answer claims_after logs_after
  pub after : AuthorisesAll issuer (drop (suc index) lines) (drop (suc index) answers) claims_after logs_after claims_now logs_now

pub call-at : (issuer : Setup) (lines : List (List ℕ)) (answers : List Answer) (claims : ClaimView) (logs : TurnView LogItem LogHead)
    (claims_now : ClaimView) (logs_now : TurnView LogItem LogHead)
    → AuthorisesAll issuer lines answers claims logs claims_now logs_now → (index : ℕ) (answer : Answer) → slice_get answers index ≡ Some answer
    → CallAt issuer lines answers claims logs claims_now logs_now index answer
call-at issuer [] [] claims logs claims_now logs_now calls index answer is = absurd (none-some answer is)
call-at issuer [] (first ∷ answers) claims logs claims_now logs_now calls index answer is = absurd calls
call-at issuer (line ∷ lines) [] claims logs claims_now logs_now calls index answer is = absurd calls
call-at issuer (line ∷ lines) (first ∷ answers) claims logs claims_now logs_now (next_claims, next_logs, call, rest) zero answer is =
    let same : first ≡ answer = same_Some first answer is in
    record {
      line = line;
      line_is = refl;
      claims_before = claims;
      logs_before = logs;
      claims_after = next_claims;
      logs_after = next_logs;
      before = (refl, refl);
      call = subst (λ (answer : Answer). Authorises issuer (reading issuer line) claims logs answer next_claims next_logs) same call;
      after = rest;
    }
call-at issuer (line ∷ lines) (first ∷ answers) claims logs claims_now logs_now (next_claims, next_logs, call, rest) (suc index) answer is =
    let at = call-at issuer lines answers next_claims next_logs claims_now logs_now rest index answer is in
    record {
      line = at.line;
      line_is = at.line_is;
      claims_before = at.claims_before;
      logs_before = at.logs_before;
      claims_after = at.claims_after;
      logs_after = at.logs_after;
      before = (next_claims, next_logs, call, at.before);
      call = at.call;
      after = at.after;
    }
