-- Equal numbers are those of the card.
use Rattle.std.proofs.Common.{◌≡◌, false, ◌&&◌, nat_eq, ap, sym, ◌∙◌}
use Rattle.std.proofs.lemmas.Bool.{false_from_ne_true, both_ways}
use Rattle.std.specs.Cmp.Lexicographic.{pointwise}
use lib.Pointwise.{bytes_decides}
use Rattle.issuer_base.specs.declared.request.Request.{Request}
use Rattle.issuer_base.specs.declared.request.Parts.{Parts}
use Rattle.card_history.specs.Records.{card_of, is_of}
use Rattle.world_model.proofs.claims.is_of_card.Goals as goal

same-pan : (first second : Request) → second.pan ≡ first.pan → nat_eq second.psn first.psn ≡ is_of (card_of first) second
unfolding is_of
same-pan first second same = sym (ap (λ b. b && nat_eq second.psn first.psn) ((bytes_decides second.pan first.pan).1 same))

other-pan : (first second : Request) → (second.pan ≡ first.pan → ⊥) → false ≡ is_of (card_of first) second
unfolding is_of
other-pan first second other =
    sym (ap (λ b. b && nat_eq second.psn first.psn)
    (false_from_ne_true (pointwise nat_eq second.pan first.pan) (λ is. other ((bytes_decides second.pan first.pan).0 is))))

pub returns-then-is_same : goal.returns-then-is_same
returns-then-is_same c =
    let parts = c.parts-parts.ensures.same in
    let card = c.parts-card.ensures.same in
    same-pan c.parts-card.result.now c.parts-parts.result.now (c.is_same.ensures.0 c.if-is_same.true)
    ∙ ap (λ (p : Parts). is_of (card_of p) c.parts-parts.result.now) card ∙ ap (is_of (card_of c.args.request.now)) parts

pub returns-else-is_same : goal.returns-else-is_same
returns-else-is_same c =
    let parts = c.parts-parts.ensures.same in
    let card = c.parts-card.ensures.same in
    c.if-is_same.false
    ∙ other-pan c.parts-card.result.now c.parts-parts.result.now (λ same. both_ways _ c.if-is_same.false (c.is_same.ensures.1 same))
    ∙ ap (λ (p : Parts). is_of (card_of p) c.parts-parts.result.now) card ∙ ap (is_of (card_of c.args.request.now)) parts
