-- What a shard's history states of a card: its decisions, its recorded ATCs and their window.
use Rattle.std.specs.Prelude.{ℕ, ◌+◌, ◌≤◌, max, Bool, ◌&&◌, ◌==◌, nat_eq, if◌then◌else◌, List, [], ◌∷◌, Option, None, Some}
use Rattle.std.specs.Cmp.Lexicographic.{pointwise}
use Rattle.std.specs.List.{enumerate_from, filter_map, last_or}
use Rattle.std.specs.Option.{option_map_or, unwrap_or}
use Rattle.issuer_base.specs.declared.command.Command.{Command}
use Rattle.issuer_base.specs.declared.limits.TheConstants.{WINDOW}
use Rattle.issuer_base.specs.declared.request.Request.{Request}
use Rattle.issuer_base.specs.declared.entry.Entry.{Entry}
use Rattle.issuer_base.specs.declared.entry.Entry.TheVariants.{Decided, Queued, Status}
use Rattle.issuer_base.specs.CardNames.{CardName, named}
use Rattle.card_history.specs.declared.decision.Decision.{Decision}

-- the card that a request is of
abbrev pub card_of : Request → CardName
card_of request = named request.pan request.psn

-- the card that a record is of
abbrev pub card_in : Entry → CardName
card_in (Decided request reply) = card_of request
card_in (Queued pan psn command) = named pan psn
card_in (Status pan psn status) = named pan psn

-- whether the request is of this card
unfoldable pub is_of : CardName → Request → Bool
is_of card request = pointwise nat_eq request.pan card.pan && request.psn == card.psn

-- whether the account and sequence number are this card's
unfoldable pub has_numbers : CardName → List ℕ → ℕ → Bool
has_numbers card pan psn = pointwise nat_eq pan card.pan && psn == card.psn

-- the decision on this card that a record with its index is, or none
abbrev pub its_decision : CardName → ℕ × Entry → Option Decision
its_decision card (place, Decided request reply) =
    if is_of card request then Some (record { request = request; reply = reply; place = place }) else None
its_decision card _ = None

-- the card's decisions in a shard's history, oldest first
abbrev pub decided : CardName → List Entry → List Decision
decided card history = filter_map (its_decision card) (enumerate_from 0 history)

-- the greatest ATC among these decisions, or none
abbrev pub greatest_atc : List Decision → Option ℕ
greatest_atc [] = None
greatest_atc (decision ∷ decisions) =
    Some (option_map_or (λ counter. max decision.request.atc counter) (greatest_atc decisions) decision.request.atc)

-- an ATC is below a window of so many ATCs if the greatest ATC is so many or more above it
abbrev pub IsBelowBy : ℕ → Option ℕ → ℕ → Type 0
IsBelowBy window None counter = ⊥
IsBelowBy window (Some top) counter = counter + window ≤ top

-- an ATC is below the window if the greatest ATC is 256 or more above it
abbrev pub IsBelow : Option ℕ → ℕ → Type 0
IsBelow greatest_atc counter = IsBelowBy WINDOW greatest_atc counter

-- the command that a record queues for this card, or none
abbrev pub its_command : CardName → Entry → Option Command
its_command card (Queued pan psn command) = if has_numbers card pan psn then Some command else None
its_command card _ = None

-- the commands that were queued for a card, oldest first
abbrev pub queue : CardName → List Entry → List Command
queue card history = filter_map (its_command card) history

-- the status that a record sets for this card, or none
abbrev pub its_status : CardName → Entry → Option ℕ
its_status card (Status pan psn status) = if has_numbers card pan psn then Some status else None
its_status card _ = None

-- a card's status: the last one that was set for it, or 0
abbrev pub status_of : CardName → List Entry → ℕ
status_of card history = unwrap_or (last_or None (filter_map (its_status card) history)) 0
