-- A seat may set the bit of any claim, and its view gets the outcome: won or lost.
use Rattle.std.proofs.Common.{rules, arith, ap, ◌∙◌, length, ◌<◌}
use Rattle.claim_words.specs.declared.claim_words.Claim.{Claim}
use Rattle.claim_words.specs.ClaimViews.{after_claim}
use Rattle.claim_words.specs.Layout.{word_of}
use Rattle.claim_words.proofs.KeepsClaims.{claims_allowed, after_claim-names, still_named, claim_by-won, claim_by-lost}
use Rattle.claim_words.proofs.WordPlaces.{claim-within}
use Rattle.claim_words.proofs.claim_words.ClaimWords.claim.Goals as goal

pub fetch_or-found-requires : goal.fetch_or-found-requires
fetch_or-found-requires c =
    let within = claim-within c.args.self.now.table.shared.key.cards c.args.card c.args.counter c.requires.card (omega arith) in
    let first : word_of c.args.card c.args.counter < length c.args.self.now.table.shared.key.words.value.items = omega (arith, within) in (
      search rules,
      omega (arith, within),
      rw (c.claim_word-word.ensures, c.claim_mask-mask.ensures)
          (claims_allowed _ _ _ _ c.args.card c.args.counter (omega arith) first c.args.seat.now.named),
    )

pub invariant_of-seat : goal.invariant_of-seat
invariant_of-seat c =
    let told = c.fetch_or-found.ensures.2.1 c.args.card c.args.counter (omega arith) c.claim_word-word.ensures c.claim_mask-mask.ensures in
    record {
      slotless = ap length c.fetch_or-found.ensures.2.0 ∙ c.args.seat.now.slotless;
      named = still_named _ _ (ap (λ v. v.names) told.0 ∙ after_claim-names _ c.args.card c.args.counter _) c.args.seat.now.named;
    }

pub returns-then-found-mask-eq0-clause-view : goal.returns-then-found-mask-eq0-clause-view
returns-then-found-mask-eq0-clause-view c =
    let told = c.fetch_or-found.ensures.2.1 c.args.card c.args.counter (omega arith) c.claim_word-word.ensures c.claim_mask-mask.ensures in
    told.0 ∙ ap (λ (claim : Claim). after_claim claim c.args.card c.args.counter c.args.seat.now.seat.me.0) (claim_by-won _ _ c.if-found-mask-eq0.true)

pub returns-then-found-mask-eq0-clause-won : goal.returns-then-found-mask-eq0-clause-won
returns-then-found-mask-eq0-clause-won c =
    let told = c.fetch_or-found.ensures.2.1 c.args.card c.args.counter (omega arith) c.claim_word-word.ensures c.claim_mask-mask.ensures in
    λ won. told.1 (claim_by-won _ _ c.if-found-mask-eq0.true)

pub returns-else-found-mask-eq0-clause-view : goal.returns-else-found-mask-eq0-clause-view
returns-else-found-mask-eq0-clause-view c =
    let told = c.fetch_or-found.ensures.2.1 c.args.card c.args.counter (omega arith) c.claim_word-word.ensures c.claim_mask-mask.ensures in
    told.0 ∙ ap (λ (claim : Claim). after_claim claim c.args.card c.args.counter c.args.seat.now.seat.me.0) (claim_by-lost _ _ c.if-found-mask-eq0.false)
