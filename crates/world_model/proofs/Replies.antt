-- A reply by the decision table is one that the issuer may make, whatever its table is.
use Rattle.std.proofs.Common.{◌≡◌, ℕ, ◌%◌, List, length, Option, Some, Ok, refl, ap, sym, ◌∙◌}
use Rattle.std.proofs.Common.{subst}
use Rattle.std.proofs.lemmas.List.Elements.{All-contains}
use Rattle.std.proofs.lemmas.Option.{same_Some}
use Rattle.std.specs.List.{slice_get}
use Rattle.issuer_base.specs.declared.answer.Reply.{Reply}
use Rattle.issuer_base.specs.declared.entry.Entry.{Entry}
use Rattle.issuer_base.specs.declared.request.Request.{Request}
use Rattle.card_history.specs.declared.decision.Decision.{Decision}
use Rattle.card_history.specs.declared.decision.Asked.TheVariants.{Decide}
use Rattle.card_history.specs.LegalRecords.{IsLegalDecision}
use Rattle.card_history.specs.Records.{card_of, status_of, IsBelow}
use Rattle.card_history.specs.Turns.{IsUnused, Answers, decided_for}
use Rattle.decision_table.specs.Fitting.{decision}
use Rattle.issuer_setup.specs.declared.card.CardInfo.{CardInfo}
use Rattle.issuer_setup.specs.CardList.{name_of, number_of}
use Rattle.issuer_setup.specs.IssuerSetup.{Setup, keys_of}
use Rattle.line_checks.proofs.CheckedRequests.{checked-facts}
use Rattle.cryptogram_in.specs.Cryptogram.{application_cryptogram}
use Rattle.key_derive.specs.declared.card.CardKeys.{CardKeys}
use Rattle.line_checks.specs.Reading.{checked}
use Rattle.row_core.specs.CardRow.{CardRow, StandsFor}
use Rattle.row_core.specs.Plan.{answer_of, history_after, IsStep}
use Rattle.row_core.specs.Replying.{reply_after, reply_by, reply_of_card, reply_to}
use Rattle.row_core.specs.declared.scripts.Launch.{Launch}
use Rattle.row_core.specs.declared.row.Outcome.{Outcome}
use Rattle.row_core.specs.declared.row.Outcome.TheVariants.{Fresh, Kept, Below, Taken}
use Rattle.shard_book.specs.Grounds.{grounds_of}
use Rattle.shard_book.specs.declared.replay.Version.TheVariants.{Two}
use Rattle.shard_book.proofs.Adopted.{decision-legal}
use Rattle.shard_book.proofs.OwnDecisions.{decided-made}

-- the issuer's own reply, by the card and the keys of the request
own-reply : (issuer : Setup) (history : List Entry) (request : Request) (number : ℕ) (info : CardInfo) (keys : CardKeys)
    → number_of (card_of request) issuer.cards ≡ Some number → slice_get issuer.cards number ≡ Some info
    → keys_of issuer number request ≡ Some keys → reply_to issuer history request ≡ reply_after info.method keys issuer.table history request
own-reply issuer history request number info keys number_is info_is keys_are =
    ap (λ (known : Option ℕ). reply_of_card issuer known history request) number_is
    ∙ ap (λ (card : Option CardInfo). reply_by card (keys_of issuer number request) issuer.table history request) info_is
    ∙ ap (λ (set : Option CardKeys). reply_by (Some info) set issuer.table history request) keys_are

-- what a card's row plans for a request of the card, where it stands for the history of the card's shard
pub record IsPlanned (issuer : Setup) (history : List Entry) (request : Request) (card : ℕ) (keys : CardKeys) (row : CardRow) (outcome : Outcome)
    : Type 0 where
  pub passes : checked issuer request ≡ Ok (Decide request)
  pub number_is : number_of (card_of request) issuer.cards ≡ Some card
  pub keys_are : keys_of issuer card request ≡ Some keys
  pub info : CardInfo
  pub info_is : slice_get issuer.cards card ≡ Some info
  pub named : card_of request ≡ name_of info
  pub eight : length request.ac ≡ 8
  pub stands : StandsFor info row history
  pub answers : Answers 0 (reply_after info.method keys issuer.table) history request (answer_of 0 (length history) outcome)
      (history_after history request outcome)

module _ {issuer : Setup} {history : List Entry} {request : Request} {card : ℕ} {keys : CardKeys} {row : CardRow} where
  -- a fresh plan for a request is a legal decision of it
  pub planned-legal : (reply : Reply) (launch : Option Launch) → IsPlanned issuer history request card keys row (Fresh reply launch)
      → IsStep row request reply launch → IsLegalDecision (grounds_of issuer) (card % issuer.shards) history request reply
  planned-legal reply launch planned step =
      let valid = (checked-facts issuer request planned.passes).has_valid_ac in
      let number : valid.its.number ≡ card = same_Some _ _ (sym valid.its.number_is ∙ planned.number_is) in
      let same : valid.its.keys ≡ keys =
      same_Some _ _ (sym valid.its.keys_are ∙ ap (λ n. keys_of issuer n request) number ∙ planned.keys_are) in
      let whole : length (application_cryptogram keys request) ≡ 8 =
      ap (λ (k : CardKeys). length (application_cryptogram k request)) (sym same) ∙ ap length (sym valid.ac_is) ∙ planned.eight in
      let unused : IsUnused (decided_for request history) request = planned.answers.0 in
      decision-legal Two issuer (card % issuer.shards) history request reply card planned.info keys planned.number_is planned.info_is planned.keys_are
      (record { number = card; number_is = planned.number_is; home = refl }) planned.passes (record {
        in_window = unused.in_window;
        unrecorded = unused.unrecorded;
        made =
            decided-made issuer planned.info keys history request reply (decision issuer.table (status_of (card_of request) history) request) whole refl
            step.some step.code planned.answers.3;
      })

  -- by the issuer's own table
  pub planned-own : (reply : Reply) (launch : Option Launch) → IsPlanned issuer history request card keys row (Fresh reply launch)
      → reply ≡ reply_to issuer history request
  planned-own reply launch planned =
      planned.answers.3 ∙ sym (own-reply issuer history request card planned.info keys planned.number_is planned.info_is planned.keys_are)

  -- any other plan says that the counter isn't unused
  pub planned-used : (outcome : Outcome) → ((reply : Reply) (launch : Option Launch) → outcome ≡ Fresh reply launch → ⊥)
      → IsPlanned issuer history request card keys row outcome → IsUnused (decided_for request history) request → ⊥
  planned-used (Fresh reply launch) other planned unused = other reply launch refl
  planned-used (Kept reply at) other planned unused =
      let used = planned.answers.0 in
      All-contains (λ (decision : Decision). decision.request.atc ≡ request.atc → ⊥) (decided_for request history) _ unused.unrecorded used.recorded
      used.same_counter
  planned-used (Below top) other planned unused =
      let old = planned.answers.0 in
      unused.in_window (subst (λ (hi : Option ℕ). IsBelow hi request.atc) (sym old.greatest_is) old.below)
  planned-used (Taken at) other planned unused =
      let taken = planned.answers.0 in
      All-contains (λ (decision : Decision). decision.request.atc ≡ request.atc → ⊥) (decided_for request history) _ unused.unrecorded taken.1.recorded
      taken.1.same_counter
