-- What is in the slots: nothing at first, and the decision that was stored last in its own.
use Rattle.std.proofs.Common.{◌≡◌, ◌≢◌, ℕ, ◌<◌, ◌==◌, if◌then◌else◌, inl, inr, refl, ap, sym, ◌∙◌, arith}
use Rattle.std.proofs.Common.{List, length, replicate, get_or, Option, Some, None, option_and_then}
use Rattle.std.proofs.Math.ListN.{get_or-eq_default}
use Rattle.std.proofs.lemmas.Bool.{cases_lt, cases_Bool, cond-true, eqb-true, eq-eqb}
use Rattle.std.proofs.lemmas.List.{get_or-replicate, get_or-set_same, get_or-set_other, length-set, length-replicate}
use Rattle.issuer_base.specs.declared.limits.TheConstants.{WINDOW}
use Rattle.card_history.specs.declared.decision.Decision.{Decision}
use Rattle.reply_keep.specs.ReplySlots.{slot_of, none_kept, in_slot, kept_on, with_kept}

-- each counter has a slot
pub slot_of-below : (counter : ℕ) → slot_of counter < WINDOW
slot_of-below counter = omega arith

pub length-none_kept : length none_kept ≡ WINDOW
unfolding none_kept
length-none_kept = refl

abbrev pub no_decision : Option Decision
no_decision = None

-- so many empty slots
pub get_or-none : (n slot : ℕ) → get_or (replicate n no_decision) slot None ≡ None
get_or-none n slot =
    elim (cases_lt slot n) [
      | inl below ↦ get_or-replicate n slot None None below
      | inr past ↦ get_or-eq_default (replicate n None) None (omega (arith, length-replicate n no_decision))
    ]

pub in_slot-none_kept : (slot : ℕ) → in_slot slot none_kept ≡ None
unfolding none_kept
in_slot-none_kept slot = get_or-none WINDOW slot

pub length-with_kept : (decision : Decision) (slots : List (Option Decision)) → length (with_kept decision slots) ≡ length slots
length-with_kept decision slots = length-set slots (slot_of decision.request.atc) (Some decision)

-- a decision that is kept is in its slot
pub in_slot-with_kept : (decision : Decision) (slots : List (Option Decision))
    → length slots ≡ WINDOW
    → in_slot (slot_of decision.request.atc) (with_kept decision slots) ≡ Some decision
in_slot-with_kept decision slots all =
    let below = slot_of-below decision.request.atc in
    get_or-set_same slots (slot_of decision.request.atc) (Some decision) None (omega arith)

-- the other slots stay
pub in_slot-other : (decision : Decision) (slots : List (Option Decision)) (slot : ℕ)
    → slot ≢ slot_of decision.request.atc
    → in_slot slot (with_kept decision slots) ≡ in_slot slot slots
in_slot-other decision slots slot other = get_or-set_other slots (slot_of decision.request.atc) slot (Some decision) None other

abbrev on_counter : ℕ → Decision → Option Decision
on_counter counter decision = if decision.request.atc == counter then Some decision else None

some_on : (found : Option Decision) (counter : ℕ) (decision : Decision)
    → option_and_then (on_counter counter) found ≡ Some decision
    → (found ≡ Some decision) × (decision.request.atc ≡ counter)
some_on None counter decision is = absurd (cc)
some_on (Some here) counter decision is =
    elim (cases_Bool (here.request.atc == counter)) [
      | inl on ↦
          let same : here ≡ decision = cc in
          (ap Some same, sym (ap (λ (decision : Decision). decision.request.atc) same) ∙ eqb-true here.request.atc counter on)
      | inr off ↦ absurd (cc)
    ]

-- a decision that is kept on a counter is on that counter, and in its slot
pub kept_on-some : (counter : ℕ) (slots : List (Option Decision)) (decision : Decision)
    → kept_on counter slots ≡ Some decision
    → (in_slot (slot_of counter) slots ≡ Some decision) × (decision.request.atc ≡ counter)
kept_on-some counter slots decision kept = some_on (in_slot (slot_of counter) slots) counter decision kept

-- a decision in its slot is kept on its counter
pub kept_on-in_slot : (slots : List (Option Decision)) (decision : Decision)
    → in_slot (slot_of decision.request.atc) slots ≡ Some decision
    → kept_on decision.request.atc slots ≡ Some decision
kept_on-in_slot slots decision here =
    ap (option_and_then (on_counter decision.request.atc)) here ∙ cond-true _ _ _ (eq-eqb decision.request.atc decision.request.atc refl)
