-- What was looked up for lines that were read ahead, before and after the checks of cryptograms.
use Rattle.std.proofs.Common.{◌≡◌, List, [], ◌∷◌, All, Err, Result, subst, sym}
use Rattle.std.proofs.lemmas.List.Elements.{All-cons, All-head, All-nil}
use Rattle.std.specs.List.{AllZip}
use Rattle.issuer_base.specs.declared.answer.Refusal.{Refusal}
use Rattle.issuer_base.specs.declared.answer.Refusal.TheVariants.{UnknownCard}
use Rattle.issuer_setup.specs.IssuerSetup.{Setup}
use Rattle.line_checks.specs.declared.looked_up.LookedUp.{LookedUp}
use Rattle.line_checks.specs.LookedUp.{IsLookedUpAgain, IsReady as IsReadyToCheck}
use Rattle.shard_book.proofs.ReadAhead.{all-ready, looked-again}
use Rattle.standby_node.specs.declared.line.ReadLine.{ReadLine}
use Rattle.standby_node.specs.declared.line.ReadLine.TheVariants.{Bad, Behind, NoRecord, Record}
use Rattle.standby_node.specs.ReadLines.{IsReady}

module _ (issuer : Setup) where
  -- ---- nothing was looked up

  none-again : (old new : Result LookedUp Refusal) → old ≡ Err UnknownCard → IsLookedUpAgain issuer old new → new ≡ Err UnknownCard
  none-again old new is again = subst (λ (f : Result LookedUp Refusal). IsLookedUpAgain issuer f new) is again

  none-ready : (found : Result LookedUp Refusal) → found ≡ Err UnknownCard → IsReadyToCheck issuer found
  none-ready found is = subst (IsReadyToCheck issuer) (sym is) tt

  -- ---- lines

  line-again : (line : ReadLine) (old new : Result LookedUp Refusal) → IsReady issuer line old → IsLookedUpAgain issuer old new
      → IsReady issuer line new
  line-again Bad old new is again = none-again old new is again
  line-again Behind old new is again = none-again old new is again
  line-again (NoRecord shard place) old new is again = (is.0, none-again old new is.1 again)
  line-again (Record shard place entry) old new is again = (
    is.0,
    record { form = is.1.form; text_is = is.1.text_is; looked_up = looked-again issuer entry old new is.1.looked_up again },
  )

  line-ready : (line : ReadLine) (found : Result LookedUp Refusal) → IsReady issuer line found → IsReadyToCheck issuer found
  line-ready Bad found is = none-ready found is
  line-ready Behind found is = none-ready found is
  line-ready (NoRecord shard place) found is = none-ready found is.1
  line-ready (Record shard place entry) found is =
      All-head (IsReadyToCheck issuer) found [] (all-ready issuer (entry ∷ []) (found ∷ []) (is.1.looked_up, tt))

  pub lines-again : (lines : List ReadLine) (old new : List (Result LookedUp Refusal)) → AllZip (IsReady issuer) lines old
      → AllZip (IsLookedUpAgain issuer) old new → AllZip (IsReady issuer) lines new
  lines-again [] [] [] is again = tt
  lines-again [] [] (n ∷ new) is again = absurd again
  lines-again [] (o ∷ old) new is again = absurd is
  lines-again (line ∷ lines) [] new is again = absurd is
  lines-again (line ∷ lines) (o ∷ old) [] is again = absurd again
  lines-again (line ∷ lines) (o ∷ old) (n ∷ new) is again = (line-again line o n is.0 again.0, lines-again lines old new is.1 again.1)

  pub lines-ready : (lines : List ReadLine) (found : List (Result LookedUp Refusal)) → AllZip (IsReady issuer) lines found
      → All (IsReadyToCheck issuer) found
  lines-ready [] [] is = All-nil (IsReadyToCheck issuer)
  lines-ready [] (f ∷ found) is = absurd is
  lines-ready (line ∷ lines) [] is = absurd is
  lines-ready (line ∷ lines) (f ∷ found) is = All-cons (IsReadyToCheck issuer) f found (line-ready line f is.0) (lines-ready lines found is.1)
