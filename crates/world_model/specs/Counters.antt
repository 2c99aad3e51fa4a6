-- Whether two requests are on the same counter of a card.
use Rattle.std.specs.Prelude.{Bool, true, not, ◌&&◌, ◌==◌}
use Rattle.issuer_base.specs.declared.request.Request.{Request}
use Rattle.issuer_base.specs.declared.entry.Entry.{Entry}
use Rattle.issuer_base.specs.declared.entry.Entry.TheVariants.{Decided, Queued, Status}
use Rattle.card_history.specs.Records.{card_of, is_of}

-- whether the other request is of another card or on another counter
abbrev pub is_apart : Request → Request → Bool
is_apart request other = not (is_of (card_of request) other && other.atc == request.atc)

-- whether the record isn't a decision on the request's counter of its card
abbrev pub is_apart_in : Request → Entry → Bool
is_apart_in request (Decided other reply) = is_apart request other
is_apart_in request (Queued pan psn command) = true
is_apart_in request (Status pan psn status) = true
