-- The plan by a row's slots is one turn's answer to the request after each history that the row stands for.
use Rattle.std.proofs.Common.{◌≡◌, List, length, Option, refl, ap, sym, ◌∙◌, subst}
use Rattle.issuer_base.specs.declared.answer.Reply.{Reply}
use Rattle.issuer_base.specs.declared.entry.Entry.{Entry}
use Rattle.issuer_base.specs.declared.request.Request.{Request}
use Rattle.issuer_base.specs.CardNames.{CardName}
use Rattle.card_history.specs.Records.{card_of, decided, status_of}
use Rattle.card_history.specs.Scripts.{Scripts, scripts_of}
use Rattle.card_history.specs.Turns.{IsUnused}
use Rattle.key_derive.specs.declared.card.CardKeys.{CardKeys}
use Rattle.decision_table.specs.declared.row.TableRow.{TableRow}
use Rattle.issuer_setup.specs.declared.card.CardInfo.{CardInfo}
use Rattle.issuer_setup.specs.CardList.{name_of}
use Rattle.row_core.specs.declared.scripts.Launch.{Launch}
use Rattle.row_core.specs.declared.row.Outcome.TheVariants.{Fresh}
use Rattle.row_core.specs.CardRow.{CardRow, KeepsScripts, StandsFor}
use Rattle.row_core.specs.Replying.{decided_reply, reply_after}
use Rattle.row_core.specs.Plan.{IsPlan, IsNext}
use Rattle.row_core.proofs.RowLemmas.{keeps-scripts}

-- a fresh plan is the next decision of the row's card
pub planned-next : (row : CardRow) (keys : CardKeys) (table : List TableRow) (request : Request) (reply : Reply) (launch : Option Launch)
    (card : CardInfo) (history : List Entry)
    → IsPlan row keys table request (Fresh reply launch)
    → StandsFor card row history
    → card_of request ≡ name_of card
    → IsNext card history (record { request = request; reply = reply; place = length history })
planned-next row keys table request reply launch card history planned stands named =
    let answered = planned 0 card history stands named in
    record {
      of_card = named;
      at_end = refl;
      unused = subst (λ (name : CardName). IsUnused (decided name history) request) named answered.0;
    }

-- a reply that is decided by a row's scripts and status is the one after each history that the row stands for
pub decided-after : (row : CardRow) (keys : CardKeys) (table : List TableRow) (request : Request) (reply : Reply)
    → ((scripts : Scripts) → KeepsScripts row scripts
    → reply ≡ decided_reply row.method keys table scripts row.status request)
    → (card : CardInfo) (history : List Entry) → StandsFor card row history → card_of request ≡ name_of card
    → reply ≡ reply_after card.method keys table history request
decided-after row keys table request reply decides card history stands named =
    let scripts = scripts_of (name_of card) history in
    decides scripts (keeps-scripts card row history stands)
    ∙ (λ i. decided_reply (stands.method_is i) keys table scripts (stands.status_is i) request)
    ∙ ap (λ name. decided_reply card.method keys table (scripts_of name history) (status_of name history) request) (sym named)

-- what is decided of a request on an unused ATC is one turn's answer to it
pub plans-fresh : (row : CardRow) (keys : CardKeys) (table : List TableRow) (request : Request) (reply : Reply) (launch : Option Launch)
    → ((card : CardInfo) (history : List Entry) → StandsFor card row history → IsUnused (decided (name_of card) history) request)
    → ((card : CardInfo) (history : List Entry) → StandsFor card row history → card_of request ≡ name_of card
    → reply ≡ reply_after card.method keys table history request)
    → IsPlan row keys table request (Fresh reply launch)
plans-fresh row keys table request reply launch unused decides shard card history stands named =
    let is_unused : IsUnused (decided (card_of request) history) request =
    subst (λ (name : CardName). IsUnused (decided name history) request) (sym named) (unused card history stands) in
    (is_unused, refl, refl, decides card history stands named, refl)
