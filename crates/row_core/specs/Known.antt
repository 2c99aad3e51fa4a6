-- What is known of a request that isn't new, by the card's decisions.
use Rattle.std.specs.Prelude.{◌≡◌, ◌≢◌, List}
use Rattle.issuer_base.specs.declared.request.Request.{Request}
use Rattle.card_history.specs.declared.decision.Decision.{Decision}
use Rattle.card_history.specs.Turns.{IsUsed, IsTooOld}
use Rattle.row_core.specs.declared.row.Known.{Known}
use Rattle.row_core.specs.declared.row.Known.TheVariants.{Kept, Below, Taken}

-- the decisions say this of the request: it is one of them, it is too old, or its ATC is another's
abbrev pub IsKnown : List Decision → Request → Known → Type 0
IsKnown decisions request (Kept reply place) = IsUsed decisions request
    (record { request = request; reply = reply.now; place = place })
IsKnown decisions request (Below greatest) = IsTooOld decisions request greatest
IsKnown decisions request (Taken place) =
    (decision : Decision) × IsUsed decisions request decision × (decision.place ≡ place) × (decision.request ≢ request)
