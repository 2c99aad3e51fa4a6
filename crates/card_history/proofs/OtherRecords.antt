-- What records at the end of a history change, or leave, of a card's queue, its statuses and its decisions.
use Rattle.std.proofs.Common.{◌≡◌, ℕ, true, false, List, [], ◌∷◌, ◌++◌, Option, None, Some, refl, ap, ◌∙◌, append-nil}
use Rattle.std.proofs.lemmas.Bool.{cond-true, cond-false}
use Rattle.std.proofs.lemmas.List.Elements.{filter_map-append}
use Rattle.std.specs.List.{cons_option, filter_map, last_or}
use Rattle.std.specs.Option.{unwrap_or}
use Rattle.issuer_base.specs.declared.command.Command.{Command}
use Rattle.issuer_base.specs.declared.request.Request.{Request}
use Rattle.issuer_base.specs.declared.answer.Reply.{Reply}
use Rattle.issuer_base.specs.declared.entry.Entry.{Entry}
use Rattle.issuer_base.specs.declared.entry.Entry.TheVariants.{Decided, Queued, Status}
use Rattle.issuer_base.specs.CardNames.{CardName}
use Rattle.card_history.specs.Records.{has_numbers, decided, its_command, queue, its_status, status_of}
use Rattle.card_history.proofs.OneMoreRecord.{decided_from-append}

-- the commands that records queue for a card, and then those of other records
pub queue-append : (card : CardName) (before after : List Entry) → queue card (before ++ after) ≡ queue card before ++ queue card after
queue-append card before after = filter_map-append (its_command card) before after

-- the statuses that records set for a card, oldest first
abbrev pub statuses : CardName → List Entry → List ℕ
statuses card records = filter_map (its_status card) records

-- the statuses that records set for a card, and then those of other records
statuses-append : (card : CardName) (before after : List Entry) → statuses card (before ++ after) ≡ statuses card before ++ statuses card after
statuses-append card before after = filter_map-append (its_status card) before after

last_or-push : {X : Type 0} (last : Option X) (xs : List X) (x : X) → last_or last (xs ++ x ∷ []) ≡ Some x
last_or-push last [] x = refl
last_or-push last (first ∷ xs) x = last_or-push (Some first) xs x

module _ (card : CardName) (history : List Entry) where
  module _ (request : Request) (reply : Reply) where
    -- after a decided record the commands that were queued for a card stay
    pub queue-decided : queue card (history ++ Decided request reply ∷ []) ≡ queue card history
    queue-decided = queue-append card history (Decided request reply ∷ []) ∙ append-nil (queue card history)

    -- and the statuses that it was given
    pub statuses-decided : statuses card (history ++ Decided request reply ∷ []) ≡ statuses card history
    statuses-decided = statuses-append card history (Decided request reply ∷ []) ∙ append-nil (statuses card history)

    -- so its status stays
    pub status_of-decided : status_of card (history ++ Decided request reply ∷ []) ≡ status_of card history
    status_of-decided = ap (λ (given : List ℕ). unwrap_or (last_or None given) 0) statuses-decided

  module _ (pan : List ℕ) (psn : ℕ) (command : Command) where
    -- a command that is queued for the card is behind the others
    pub queue-queued : has_numbers card pan psn ≡ true → queue card (history ++ Queued pan psn command ∷ []) ≡ queue card history ++ command ∷ []
    queue-queued its =
        queue-append card history (Queued pan psn command ∷ [])
        ∙ ap (λ (last : Option Command). queue card history ++ cons_option last []) (cond-true (has_numbers card pan psn) (Some command) None its)

    -- one that is queued for another card leaves them
    pub queue-queued_other : has_numbers card pan psn ≡ false → queue card (history ++ Queued pan psn command ∷ []) ≡ queue card history
    queue-queued_other other =
        queue-append card history (Queued pan psn command ∷ [])
        ∙ ap (λ (last : Option Command). queue card history ++ cons_option last []) (cond-false (has_numbers card pan psn) (Some command) None other)
        ∙ append-nil (queue card history)

    -- after a queued command a card's status stays
    pub status_of-queued : status_of card (history ++ Queued pan psn command ∷ []) ≡ status_of card history
    status_of-queued =
        ap (λ (given : List ℕ). unwrap_or (last_or None given) 0)
        (statuses-append card history (Queued pan psn command ∷ []) ∙ append-nil (statuses card history))

    -- and its decisions
    pub decided-queued : decided card (history ++ Queued pan psn command ∷ []) ≡ decided card history
    decided-queued = decided_from-append 0 card history (Queued pan psn command ∷ []) ∙ append-nil (decided card history)

  module _ (pan : List ℕ) (psn status : ℕ) where
    -- the last status that a card is given is its status
    pub status_of-status : has_numbers card pan psn ≡ true → status_of card (history ++ Status pan psn status ∷ []) ≡ status
    status_of-status its =
        ap (λ (given : List ℕ). unwrap_or (last_or None given) 0)
        (statuses-append card history (Status pan psn status ∷ [])
        ∙ ap (λ (last : Option ℕ). statuses card history ++ cons_option last []) (cond-true (has_numbers card pan psn) (Some status) None its))
        ∙ ap (λ (last : Option ℕ). unwrap_or last 0) (last_or-push None (statuses card history) status)

    -- one that another card is given leaves it
    pub status_of-status_other : has_numbers card pan psn ≡ false → status_of card (history ++ Status pan psn status ∷ []) ≡ status_of card history
    status_of-status_other other =
        ap (λ (given : List ℕ). unwrap_or (last_or None given) 0)
        (statuses-append card history (Status pan psn status ∷ [])
        ∙ ap (λ (last : Option ℕ). statuses card history ++ cons_option last []) (cond-false (has_numbers card pan psn) (Some status) None other)
        ∙ append-nil (statuses card history))

    -- after a status the commands that were queued for a card stay
    pub queue-status : queue card (history ++ Status pan psn status ∷ []) ≡ queue card history
    queue-status = queue-append card history (Status pan psn status ∷ []) ∙ append-nil (queue card history)

    -- and its decisions
    pub decided-status : decided card (history ++ Status pan psn status ∷ []) ≡ decided card history
    decided-status = decided_from-append 0 card history (Status pan psn status ∷ []) ∙ append-nil (decided card history)
