-- A seat that holds a claim may raise its card's top, and has the claim as kept from then on.
use Rattle.std.proofs.Common.{rules, arith, refl, ap, ◌∙◌, length, ◌<◌}
use Rattle.claim_words.specs.Layout.{top_word_of}
use Rattle.claim_words.proofs.KeepsClaims.{marks_allowed, still_named}
use Rattle.claim_words.proofs.WordPlaces.{top-within}
use Rattle.claim_words.proofs.claim_words.ClaimWords.mark_kept.Goals as goal

pub fetch_max-requires : goal.fetch_max-requires
fetch_max-requires c =
    let within = top-within c.args.self.now.table.shared.key.cards c.args.card c.requires.card in
    let first : top_word_of c.args.card < length c.args.self.now.table.shared.key.words.value.items = omega (arith, within) in (
      search rules,
      omega (arith, within),
      rw c.top_word.ensures (marks_allowed _ _ _ _ c.args.card c.args.counter (omega arith) first c.args.seat.now.named c.requires.held),
    )

pub invariant_of-seat : goal.invariant_of-seat
invariant_of-seat c =
    let told = c.fetch_max.ensures.2.1 c.args.card c.args.counter c.top_word.ensures refl in
    record {
      slotless = ap length c.fetch_max.ensures.2.0 ∙ c.args.seat.now.slotless;
      named = still_named _ _ (ap (λ v. v.names) told) c.args.seat.now.named;
    }

pub returns-clause-view : goal.returns-clause-view
returns-clause-view c = c.fetch_max.ensures.2.1 c.args.card c.args.counter c.top_word.ensures refl
