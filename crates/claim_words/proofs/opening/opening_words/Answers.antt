-- One more recorded ATC sets its bit and raises its card's top, and nothing else.
use Rattle.std.proofs.Common.{arith}
use Rattle.claim_words.proofs.OpeningLemmas.{opening_step, claim-inside, top-inside}
use Rattle.claim_words.proofs.opening.opening_words.Goals as goal

pub loop-card-preserved : goal.loop-card-preserved
loop-card-preserved c = opening_step c.args.cards c.args.recorded.now c.loop-card.words.items c.loop-card.card-index _ _ _ _ _ _ c.loop-card-test.true
    (c.requires.known c.loop-card.card-index (0, 0) c.loop-card-test.true) (omega arith) c.requires.once c.loop-card.invariant
    c.claim_word.ensures c.claim_mask.ensures c.index_mut.ensures.value c.top_word-top.ensures c.index.ensures c.max.ensures

pub index_mut-requires : goal.index_mut-requires
index_mut-requires c =
    let known = c.requires.known c.loop-card.card-index (0, 0) c.loop-card-test.true in
    omega (arith, claim-inside _ _ _ _ _ _ c.loop-card.invariant c.claim_word.ensures known (omega arith))

pub index-requires : goal.index-requires
index-requires c =
    let known = c.requires.known c.loop-card.card-index (0, 0) c.loop-card-test.true in
    omega (arith, top-inside _ _ _ _ _ c.loop-card.invariant c.top_word-top.ensures known)

pub index_mut-requires-in-loop-card : goal.index_mut-requires-in-loop-card
index_mut-requires-in-loop-card c =
    let known = c.requires.known c.loop-card.card-index (0, 0) c.loop-card-test.true in
    omega (arith, top-inside _ _ _ _ _ c.loop-card.invariant c.top_word-top.ensures known)
