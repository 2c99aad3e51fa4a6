-- The slots of the decisions of a window: none at first, and one decision more in place of one that left the window.
use Rattle.std.proofs.Common.{◌≡◌, ◌≢◌, ℕ, ◌+◌, ◌≤◌, ◌<◌, List, [], ◌∷◌, ◌++◌, max, Option, None, Some, Contains, inl, inr, ◌⊎◌}
use Rattle.std.proofs.Common.{refl, ap, sym, ◌∙◌, subst, arith}
use Rattle.std.specs.Option.{option_map_or}
use Rattle.std.proofs.lemmas.Bool.{cases_eq}
use Rattle.std.proofs.lemmas.Option.{same_Some}
use Rattle.std.proofs.lemmas.List.Elements.{All-contains}
use Rattle.std.proofs.lemmas.List.Elements.{Contains-append_left, Contains-push, Contains-push_cases}
use Rattle.issuer_base.specs.declared.limits.TheConstants.{WINDOW}
use Rattle.card_history.specs.declared.decision.Decision.{Decision}
use Rattle.card_history.specs.Records.{greatest_atc, IsBelow}
use Rattle.card_history.specs.Turns.{IsUnused}
use Rattle.card_history.proofs.OneMoreRecord.{greatest-none, greatest-above, greatest-more}
use Rattle.reply_keep.specs.ReplySlots.{slot_of, none_kept, in_slot, with_kept}
use Rattle.reply_keep.proofs.SlotLemmas.{length-none_kept, in_slot-none_kept, length-with_kept, in_slot-with_kept, in_slot-other}
use Rattle.row_core.specs.CardRow.{KeepsWindow}

-- empty slots keep no decisions
pub window-empty : KeepsWindow none_kept []
window-empty = record {
  one_each = length-none_kept;
  kept = λ decision within in_window. let none : within.0 < 0 = within.1 in absurd (omega arith);
  decided = λ slot decision here. absurd (cc (in_slot-none_kept slot));
}

-- two ATCs of one window have slots of their own
slots_apart : (top_atc counter other : ℕ)
    → counter ≤ top_atc → other ≤ top_atc
    → (counter + WINDOW ≤ top_atc → ⊥) → (other + WINDOW ≤ top_atc → ⊥)
    → counter ≢ other → slot_of counter ≢ slot_of other
slots_apart top_atc counter other under other_under in_window other_in_window apart same = apart (omega arith)

cases_greatest : (so_far : Option ℕ) → (so_far ≡ None) ⊎ ((top_atc : ℕ) × (so_far ≡ Some top_atc))
cases_greatest None = inl refl
cases_greatest (Some top_atc) = inr (top_atc, refl)

-- a decision that is still in the window after one on an unused ATC was in it before, and has another slot
record StaysInWindow (decisions : List Decision) (decision other : Decision) : Type 0 where
  in_window : IsBelow (greatest_atc decisions) other.request.atc → ⊥
  apart : slot_of other.request.atc ≢ slot_of decision.request.atc

stays : (decisions : List Decision) (decision other : Decision)
    → IsUnused decisions decision.request
    → Contains decisions other
    → (IsBelow (greatest_atc (decisions ++ decision ∷ [])) other.request.atc → ⊥)
    → StaysInWindow decisions decision other
stays decisions decision other unused within late =
    elim (cases_greatest (greatest_atc decisions)) [
      | inl none ↦
          let nowhere : Contains [] other = subst (λ (decisions : List Decision). Contains decisions other) (greatest-none decisions none) within in
          let below : nowhere.0 < 0 = nowhere.1 in
          absurd (omega arith)
      | inr (top_atc, is) ↦
          let counter = decision.request.atc in
          let raised : greatest_atc (decisions ++ decision ∷ []) ≡ Some (max top_atc counter) =
          greatest-more decisions decision ∙ ap (λ so_far. Some (option_map_or (λ top_atc. max top_atc counter) so_far counter)) is in
          let in_new : other.request.atc + WINDOW ≤ max top_atc counter → ⊥ =
          λ below. late (subst (λ (so_far : Option ℕ). IsBelow so_far other.request.atc) (sym raised) below) in
          let in_old : counter + WINDOW ≤ top_atc → ⊥ =
          λ below. unused.in_window (subst (λ (so_far : Option ℕ). IsBelow so_far counter) (sym is) below) in
          let under : other.request.atc ≤ top_atc =
          All-contains (λ decision. decision.request.atc ≤ top_atc) decisions other (greatest-above decisions top_atc is) within in
          let differ : other.request.atc ≢ counter =
          All-contains (λ decision. decision.request.atc ≢ counter) decisions other unused.unrecorded within in
          record {
            in_window = λ below.
                let far : other.request.atc + WINDOW ≤ top_atc = subst (λ (so_far : Option ℕ). IsBelow so_far other.request.atc) is below in
                in_new (omega arith);
            apart = slots_apart (max top_atc counter) other.request.atc counter (omega arith) (omega arith) in_new (λ below. in_old (omega arith)) differ;
          }
    ]

-- a decision on an unused ATC takes the slot of one that falls out of the window
pub window-more : (slots : List (Option Decision)) (decisions : List Decision) (decision : Decision)
    → KeepsWindow slots decisions
    → IsUnused decisions decision.request
    → KeepsWindow (with_kept decision slots) (decisions ++ decision ∷ [])
window-more slots decisions decision window unused =
    let here = in_slot-with_kept decision slots window.one_each in
    record {
      one_each = length-with_kept decision slots ∙ window.one_each;
      kept = λ other within late.
          elim (Contains-push_cases decisions decision other within) [
            | inl before ↦
                let still = stays decisions decision other unused before late in
                in_slot-other decision slots (slot_of other.request.atc) still.apart ∙ window.kept other before still.in_window
            | inr same ↦ subst (λ (other : Decision). in_slot (slot_of other.request.atc) (with_kept decision slots) ≡ Some other) same here
          ];
      decided = λ slot other found.
          elim (cases_eq slot (slot_of decision.request.atc)) [
            | inl at ↦
                let same : decision ≡ other = same_Some _ _ (sym here ∙ ap (λ slot. in_slot slot (with_kept decision slots)) (sym at) ∙ found) in
                subst (λ (other : Decision). Contains (decisions ++ decision ∷ []) other × (slot_of other.request.atc ≡ slot)) same
                (Contains-push decisions decision, sym at)
            | inr off ↦
                let old = window.decided slot other (sym (in_slot-other decision slots slot off) ∙ found) in
                (Contains-append_left decisions (decision ∷ []) other old.0, old.1)
          ];
    }
