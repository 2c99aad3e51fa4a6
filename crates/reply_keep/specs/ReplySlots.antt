-- The stored decisions of a card, so that a repeat gets its reply again: one slot for each residue of the ATC modulo
-- the window.
use Rattle.std.specs.Prelude.{ℕ, ◌-◌, ◌%◌, ◌==◌, if◌then◌else◌, List, ◌++◌, length, replicate, slice_index_or, slice_set, Option, None, Some, option_and_then}
use Rattle.issuer_base.specs.declared.limits.TheConstants.{WINDOW}
use Rattle.card_history.specs.declared.decision.Decision.{Decision}

-- the slot of an ATC
abbrev pub slot_of : ℕ → ℕ
slot_of counter = counter % WINDOW

-- no decision is stored
unfoldable pub none_kept : List (Option Decision)
none_kept = replicate WINDOW None

-- the decision in a slot, or none
abbrev pub in_slot : ℕ → List (Option Decision) → Option Decision
in_slot slot slots = slice_index_or slots slot None

-- the stored decision on an ATC: that in the ATC's slot, if it is on just this ATC
abbrev pub kept_on : ℕ → List (Option Decision) → Option Decision
kept_on counter slots =
    option_and_then (λ decision. if decision.request.atc == counter then Some decision else None)
    (in_slot (slot_of counter) slots)

-- the slots with this decision in its own, which overwrites what was there
abbrev pub with_kept : Decision → List (Option Decision) → List (Option Decision)
with_kept decision slots = slice_set slots (slot_of decision.request.atc) (Some decision)

-- all slots: the open ones, and an empty one for each that isn't open yet
unfoldable pub all_slots : List (Option Decision) → List (Option Decision)
all_slots opened = opened ++ replicate (WINDOW - length opened) None
