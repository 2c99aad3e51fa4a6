-- A card's row shows what the card's history does.
use Rattle.std.proofs.Common.{◌≡◌, ℕ, Bool, List, length, Option, ◌∙◌, ap}
use Rattle.issuer_base.specs.declared.entry.Entry.{Entry}
use Rattle.card_history.specs.declared.card_view.CardView.{CardView}
use Rattle.card_history.specs.CardViews.{card_shown}
use Rattle.issuer_base.specs.CardNames.{CardName}
use Rattle.card_history.specs.Records.{decided, greatest_atc, status_of}
use Rattle.card_history.specs.Scripts.{scripts_of}
use Rattle.cvr_settle.specs.declared.settlement.Flight.{Flight}
use Rattle.issuer_setup.specs.declared.card.CardInfo.{CardInfo}
use Rattle.issuer_setup.specs.CardList.{name_of}
use Rattle.row_core.specs.CardRow.{CardRow, KeptScripts, StandsFor}

-- the parts of a view
abbrev pub view-by : Option ℕ → ℕ → ℕ → ℕ → Option Flight → Bool → CardView
view-by hi status queued done flight halted =
    record { hi = hi; status = status; queued = queued; done = done; flight = flight; halted = halted }

view-alike : (card : CardName) (history : List Entry) (hi : Option ℕ) (status queued done : ℕ) (flight : Option Flight) (halted : Bool)
    → hi ≡ greatest_atc (decided card history) → status ≡ status_of card history → queued ≡ length (scripts_of card history).queue
    → done ≡ (scripts_of card history).done → flight ≡ (scripts_of card history).flight → halted ≡ (scripts_of card history).halted
    → view-by hi status queued done flight halted ≡ card_shown card history
view-alike card history hi status queued done flight halted hi_is status_is queued_is done_is flight_is halted_is =
    let scripts = scripts_of card history in
    ap (λ hi. view-by hi status queued done flight halted) hi_is
    ∙ ap (λ status. view-by (greatest_atc (decided card history)) status queued done flight halted) status_is
    ∙ ap (λ queued. view-by (greatest_atc (decided card history)) (status_of card history) queued done flight halted) queued_is
    ∙ ap (λ done. view-by (greatest_atc (decided card history)) (status_of card history) (length scripts.queue) done flight halted) done_is
    ∙ ap (λ flight. view-by (greatest_atc (decided card history)) (status_of card history) (length scripts.queue) scripts.done flight halted) flight_is
    ∙ ap (λ halted. view-by (greatest_atc (decided card history)) (status_of card history) (length scripts.queue) scripts.done scripts.flight halted) halted_is

-- a row that stands for the history shows what the history does
pub row_view : (card : CardInfo) (row : CardRow) (history : List Entry) → StandsFor card row history
    → view-by row.hi row.status row.scripts.commands.queued row.scripts.done row.scripts.flight row.scripts.halted
    ≡ card_shown (name_of card) history
row_view card row history stands =
    let scripts = stands.scripts_are in
    view-alike (name_of card) history row.hi row.status row.scripts.commands.queued row.scripts.done
    row.scripts.flight row.scripts.halted stands.hi_is stands.status_is
    (ap (λ (kept : KeptScripts). kept.commands.queued) scripts) (ap (λ (kept : KeptScripts). kept.done) scripts)
    (ap (λ (kept : KeptScripts). kept.flight) scripts) (ap (λ (kept : KeptScripts). kept.halted) scripts)
