-- A row accepts a recorded decision exactly if it is a valid successor of each history that the row stands for.
use Rattle.std.proofs.Common.{◌≡◌, ◌↔◌, ◌≤◌, ℕ, Bool, List, Option, None, Some, IsTrue, sym, subst, arith}
use Rattle.issuer_base.specs.declared.answer.Method.{Method}
use Rattle.issuer_base.specs.declared.answer.Reply.{Reply}
use Rattle.issuer_base.specs.declared.entry.Entry.{Entry}
use Rattle.issuer_base.specs.declared.limits.TheConstants.{WINDOW}
use Rattle.issuer_base.specs.declared.request.Request.{Request}
use Rattle.key_derive.specs.declared.card.CardKeys.{CardKeys}
use Rattle.issuer_base.specs.CardNames.{CardName}
use Rattle.card_history.specs.Records.{card_of, decided, greatest_atc, IsBelow, IsBelowBy}
use Rattle.card_history.specs.Scripts.{Scripts, scripts_of}
use Rattle.card_history.specs.Turns.{IsUnused}
use Rattle.issuer_setup.specs.declared.card.CardInfo.{CardInfo}
use Rattle.issuer_setup.specs.CardList.{name_of}
use Rattle.row_core.specs.CardRow.{CardRow, KeepsScripts, StandsFor}
use Rattle.row_core.specs.Accepting.{IsMade, IsValidSuccessor}
use Rattle.row_core.proofs.RowLemmas.{keeps-scripts}

-- what is below a window is below a narrower one
pub below-narrower : (window : ℕ) (greatest_atc : Option ℕ) (counter : ℕ) → window ≤ WINDOW → IsBelow greatest_atc counter → IsBelowBy window greatest_atc counter
below-narrower window None counter narrower below = below
below-narrower window (Some top) counter narrower below = omega (arith, narrower, below)

-- a decision on an unused ATC is a valid successor exactly if the issuer makes its reply with the row's scripts
pub follows-made : (card : CardInfo) (row : CardRow) (keys : CardKeys) (history : List Entry) (request : Request) (reply : Reply)
    (unused made : Bool)
    → (IsTrue unused ↔ IsUnused (decided (name_of card) history) request)
    → ((scripts : Scripts) → KeepsScripts row scripts → (IsTrue made ↔ IsMade row.method keys scripts request reply))
    → IsTrue unused
    → StandsFor card row history
    → card_of request ≡ name_of card
    → (IsTrue made ↔ IsValidSuccessor WINDOW card.method keys history request reply)
follows-made card row keys history request reply unused made says_unused says_made free stands named =
    let is_unused : IsUnused (decided (card_of request) history) request =
    subst (λ (name : CardName). IsUnused (decided name history) request) (sym named)
    (says_unused.0 free) in
    let is_made : IsTrue made ↔ IsMade card.method keys (scripts_of (card_of request) history) request reply =
    subst (λ (name : CardName). IsTrue made ↔ IsMade card.method keys (scripts_of name history) request reply) (sym named)
    (subst (λ (method : Method). IsTrue made ↔ IsMade method keys (scripts_of (name_of card) history) request reply) stands.method_is
    (says_made (scripts_of (name_of card) history) (keeps-scripts card row history stands))) in
    (λ yes. record { in_window = is_unused.in_window; unrecorded = is_unused.unrecorded; made = is_made.0 yes }, λ follows. is_made.1 follows.made)

-- of a history whose records are held to a narrower window: a decision below it is no valid successor
pub below-apart : (window : ℕ) (card : CardInfo) (row : CardRow) (keys : CardKeys) (history : List Entry) (request : Request) (reply : Reply)
    → IsBelowBy window row.hi request.atc → StandsFor card row history → card_of request ≡ name_of card
    → IsValidSuccessor window card.method keys history request reply → ⊥
below-apart window card row keys history request reply below stands named follows =
    follows.in_window (subst (λ (name : CardName). IsBelowBy window (greatest_atc (decided name history)) request.atc) (sym named)
    (subst (λ (hi : Option ℕ). IsBelowBy window hi request.atc) stands.hi_is below))

-- and one that isn't below it is a valid successor by either window, or by none
pub narrower-follows : (window : ℕ) (card : CardInfo) (row : CardRow) (keys : CardKeys) (history : List Entry) (request : Request) (reply : Reply)
    (accepted : Bool) → window ≤ WINDOW → (IsBelowBy window row.hi request.atc → ⊥)
    → StandsFor card row history → card_of request ≡ name_of card
    → (IsTrue accepted ↔ IsValidSuccessor WINDOW card.method keys history request reply)
    → (IsTrue accepted ↔ IsValidSuccessor window card.method keys history request reply)
narrower-follows window card row keys history request reply accepted narrower inside stands named accepts =
    let within : IsBelowBy window (greatest_atc (decided (card_of request) history)) request.atc → ⊥ =
    subst (λ (name : CardName). IsBelowBy window (greatest_atc (decided name history)) request.atc → ⊥) (sym named)
    (subst (λ (hi : Option ℕ). IsBelowBy window hi request.atc → ⊥) stands.hi_is inside) in (
      λ yes. let follows = accepts.0 yes in record { in_window = within; unrecorded = follows.unrecorded; made = follows.made },
      λ follows. accepts.1 (record {
        in_window = λ below. within (below-narrower window (greatest_atc (decided (card_of request) history)) request.atc narrower below);
        unrecorded = follows.unrecorded;
        made = follows.made;
      }),
    )
