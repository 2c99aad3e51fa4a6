-- A seat that holds a claim may clear its bit, and is without the claim from then on.
use Rattle.std.proofs.Common.{rules, arith, ap, ◌∙◌, length, ◌<◌}
use Rattle.claim_words.specs.Layout.{word_of}
use Rattle.claim_words.proofs.KeepsClaims.{releases_allowed, still_named}
use Rattle.claim_words.proofs.WordPlaces.{claim-within}
use Rattle.claim_words.proofs.claim_words.ClaimWords.release.Goals as goal

pub fetch_and-requires : goal.fetch_and-requires
fetch_and-requires c =
    let within = claim-within c.args.self.now.table.shared.key.cards c.args.card c.args.counter c.requires.card (omega arith) in
    let first : word_of c.args.card c.args.counter < length c.args.self.now.table.shared.key.words.value.items = omega (arith, within) in (
      search rules,
      omega (arith, within),
      rw (c.claim_word-word.ensures, c.other_claims.ensures)
          (releases_allowed _ _ _ _ c.args.card c.args.counter (omega arith) first c.args.seat.now.named c.requires.held),
    )

pub invariant_of-seat : goal.invariant_of-seat
invariant_of-seat c =
    let told = c.fetch_and.ensures.2.1 c.args.card c.args.counter (omega arith) c.claim_word-word.ensures c.other_claims.ensures in
    record {
      slotless = ap length c.fetch_and.ensures.2.0 ∙ c.args.seat.now.slotless;
      named = still_named _ _ (ap (λ v. v.names) told) c.args.seat.now.named;
    }

pub returns-clause-view : goal.returns-clause-view
returns-clause-view c = c.fetch_and.ensures.2.1 c.args.card c.args.counter (omega arith) c.claim_word-word.ensures c.other_claims.ensures
