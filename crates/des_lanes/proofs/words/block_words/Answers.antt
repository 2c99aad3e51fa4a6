-- One word more.
use Rattle.std.proofs.Common.{◌≡◌, ◌∙◌, ◌*◌, ℕ, [], ap, sym, refl, arith, below_more, length, get_or, take, drop}
use Rattle.std.proofs.lemmas.List.{get_or_read}
use Rattle.retail_mac.specs.Mac.{padded}
use Rattle.des_lanes.proofs.LaneWords.{Words_none, Words_more}
use Rattle.des_lanes.proofs.words.block_words.Goals as goal

pub loop-lane-init : goal.loop-lane-init
loop-lane-init g c = record { block = Words_none _ _ refl; sized = λ lane h. absurd (omega arith) }

pub loop-lane-preserved : goal.loop-lane-preserved
loop-lane-preserved g c =
    let lane : ℕ = c.loop-lane.lane in
    let text : c.index-texts-lane.result ≡ get_or c.args.texts.now lane [] =
    get_or_read c.args.texts.now lane c.index-texts-lane.result (omega arith) c.index-texts-lane.is [] in
    record {
      block = Words_more _ lane c.block_word.result c.loop-lane.words c.loop-lane.invariant.block (omega arith)
          (c.block_word.ensures.block ∙ ap (λ t. take 8 (drop (8 * c.args.i) (padded t))) text);
      sized =
          below_more (λ k. length (get_or c.args.texts.now k []) ≡ g.row.N) _ c.loop-lane.invariant.sized (sym (ap length text) ∙ c.block_word.ensures.sized);
    }

pub returns-clause-block : goal.returns-clause-block
returns-clause-block g c = λ lane below. c.loop-lane.invariant.block.at lane (omega arith)

pub returns-clause-sized : goal.returns-clause-sized
returns-clause-sized g c = λ lane below. c.loop-lane.invariant.sized lane (omega arith)
