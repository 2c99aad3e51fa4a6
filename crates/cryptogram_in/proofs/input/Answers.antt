-- The pieces, from the amount to the issuer application data, appended in order, are the input of the cryptogram.
use Rattle.std.proofs.Common.{[], ◌∷◌, ◌++◌, ap, ◌∙◌}
use Rattle.cryptogram_in.specs.Cryptogram.{input}
use Rattle.cryptogram_in.proofs.Pieces.{piece-joined}
use Rattle.cryptogram_in.proofs.input.Goals as goal

pub returns : goal.returns
unfolding input
returns c =
    let p = c.parts-parts.result.now in
    let amount = piece-joined _ _ _ p.amount c.new-text.ensures c.add.ensures.joined in
    let other = piece-joined _ _ _ p.other amount c.add-2.ensures.joined in
    let country = piece-joined _ _ _ p.country other c.add-3.ensures.joined in
    let tvr = piece-joined _ _ _ p.tvr country c.add-4.ensures.joined in
    let currency = piece-joined _ _ _ p.currency tvr c.add-5.ensures.joined in
    let date = piece-joined _ _ _ p.date currency c.add-6.ensures.joined in
    let kind = piece-joined _ _ _ (p.kind ∷ []) date c.add-7.ensures.joined in
    let un = piece-joined _ _ _ p.un kind c.add-8.ensures.joined in
    let aip = piece-joined _ _ _ p.aip un c.add-9.ensures.joined in
    let atc = piece-joined _ _ _ c.counter_bytes.result aip c.add-10.ensures.joined in
    let iad = piece-joined _ _ _ p.iad (atc ∙ ap (λ counter. p.amount ++ p.other ++ p.country ++ p.tvr ++ p.currency ++ p.date ++
    (p.kind ∷ []) ++ p.un ++ p.aip ++ counter) c.counter_bytes.ensures) c.add-11.ensures.joined in
    c.whole.ensures ∙ iad ∙ ap input c.parts-parts.ensures.same
