-- All slots computed from the open ones, and how a stored decision changes them.
use Rattle.std.proofs.Common.{◌≡◌, ℕ, ◌+◌, ◌-◌, ◌<◌, ◌≤◌, List, [], ◌∷◌, ◌++◌, length, replicate, set, get_or, Option, None, refl, ap, sym, ◌∙◌, arith, suc}
use Rattle.std.proofs.Common.{append_assoc}
use Rattle.std.proofs.Math.Seq.{set-append_seam}
use Rattle.std.proofs.lemmas.List.{get_or_default, get_or_append_left, get_or-append_right, set-append_left, replicate-append-replicate}
use Rattle.std.proofs.lemmas.List.{length-append, length-set, length-replicate}
use Rattle.issuer_base.specs.declared.limits.TheConstants.{WINDOW}
use Rattle.card_history.specs.declared.decision.Decision.{Decision}
use Rattle.reply_keep.specs.ReplySlots.{in_slot, none_kept, all_slots}
use Rattle.reply_keep.proofs.SlotLemmas.{no_decision, get_or-none}

-- none is open
pub all_slots-none : all_slots [] ≡ none_kept
unfolding all_slots none_kept
all_slots-none = refl

-- what an open slot has
pub in_slot-open : (opened : List (Option Decision)) (slot : ℕ) → slot < length opened → in_slot slot (all_slots opened) ≡ get_or opened slot None
unfolding all_slots
in_slot-open opened slot below = get_or_append_left opened (replicate (WINDOW - length opened) no_decision) None slot below

pub in_slot-read : (opened : List (Option Decision)) (slot : ℕ) (value : Option Decision) → slot < length opened → value ≡ get_or opened slot value
    → value ≡ in_slot slot (all_slots opened)
in_slot-read opened slot value below read = read ∙ get_or_default opened slot value None below ∙ sym (in_slot-open opened slot below)

-- a slot that isn't open is empty
pub in_slot-unopened : (opened : List (Option Decision)) (slot : ℕ) → length opened ≤ slot → in_slot slot (all_slots opened) ≡ None
unfolding all_slots
in_slot-unopened opened slot past =
    get_or-append_right opened (replicate (WINDOW - length opened) no_decision) (length opened) slot None refl past
    ∙ get_or-none (WINDOW - length opened) (slot - length opened)

-- an open slot is filled
pub all_slots-set : (opened : List (Option Decision)) (slot : ℕ) (value : Option Decision) → slot < length opened
    → all_slots (set opened slot value) ≡ set (all_slots opened) slot value
unfolding all_slots
all_slots-set opened slot value below =
    ap (λ n. set opened slot value ++ replicate (WINDOW - n) no_decision) (length-set opened slot value)
    ∙ sym (set-append_left opened (replicate (WINDOW - length opened) no_decision) slot value below)

-- slots are opened, and stay empty
pub all_slots-more : (opened : List (Option Decision)) (more : ℕ) → length opened + more ≤ WINDOW
    → all_slots (opened ++ replicate more no_decision) ≡ all_slots opened
unfolding all_slots
all_slots-more opened more few =
    let long : length (opened ++ replicate more no_decision) ≡ length opened + more = length-append opened (replicate more no_decision)
    ∙ ap (λ n. length opened + n) (length-replicate more no_decision) in
    let rest : more + (WINDOW - (length opened + more)) ≡ WINDOW - length opened = omega arith in
    ap (λ n. (opened ++ replicate more no_decision) ++ replicate (WINDOW - n) no_decision) long
    ∙ append_assoc opened (replicate more no_decision) (replicate (WINDOW - (length opened + more)) no_decision)
    ∙ ap (λ slots. opened ++ slots) (replicate-append-replicate more (WINDOW - (length opened + more)) no_decision ∙ ap (λ n. replicate n no_decision) rest)

-- a slot is opened with what is in it, once those before it are open
pub all_slots-pushed : (opened grown : List (Option Decision)) (slot : ℕ) (value : Option Decision) → length opened ≤ slot → slot < WINDOW
    → grown ≡ opened ++ replicate (slot - length opened) no_decision
    → all_slots (grown ++ value ∷ []) ≡ set (all_slots opened) slot value
unfolding all_slots
all_slots-pushed opened grown slot value ahead few is =
    let more = slot - length opened in
    let rest = WINDOW - (slot + 1) in
    let reached : length opened + more ≡ slot = omega (arith, ahead) in
    let long : length grown ≡ slot = ap length is ∙ length-append opened (replicate more no_decision)
    ∙ ap (λ n. length opened + n) (length-replicate more no_decision) ∙ reached in
    let left : WINDOW - length grown ≡ suc rest = omega (arith, long, few) in
    let pushed : length (grown ++ value ∷ []) ≡ slot + 1 = length-append grown (value ∷ []) ∙ ap (λ n. n + 1) long in
    let last : set (all_slots grown) slot value ≡ grown ++ value ∷ replicate rest no_decision =
    ap (λ n. set (grown ++ replicate n no_decision) slot value) left
    ∙ ap (λ n. set (grown ++ no_decision ∷ replicate rest no_decision) n value) (sym long)
    ∙ set-append_seam grown no_decision (replicate rest no_decision) value in
    ap (λ n. (grown ++ value ∷ []) ++ replicate (WINDOW - n) no_decision) pushed
    ∙ append_assoc grown (value ∷ []) (replicate rest no_decision)
    ∙ sym last
    ∙ ap (λ slots. set slots slot value) (ap all_slots is ∙ all_slots-more opened more (omega (arith, ahead, few)))
