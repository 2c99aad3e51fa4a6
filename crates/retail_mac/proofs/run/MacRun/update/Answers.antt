-- The bytes that complete a partial block, the whole blocks, and the remainder.
use Rattle.std.proofs.Common.{◌≡◌, ◌-◌, ◌/◌, ◌*◌, ◌++◌, List, ℕ, length, take, drop, fold, ap, ◌∙◌, subst, append_assoc}
use Rattle.std.proofs.lemmas.List.{take-append-drop, take_rest}
use Rattle.des_block.specs.Cipher.{word_bytes}
use Rattle.retail_mac.specs.Mac.{blocks, chained}
use Rattle.retail_mac.specs.Run.{IsRun}
use Rattle.retail_mac.proofs.Pieces.{IsRun-more, begun-blocks, begun-part}
use Rattle.retail_mac.proofs.run.MacRun.update.Goals as goal

pub returns : goal.returns
returns c = λ key text is.
    let piece : List ℕ = c.args.piece.now in
    let rest : List ℕ = c.complete-rest.result.now in
    let part : List ℕ = c.complete-rest.new.self.part.items in
    let front : List ℕ = take (length piece - length rest) piece in
    let mid : IsRun c.complete-rest.new.self key (text ++ front) = c.complete-rest.ensures.taken key text is in
    let start : List ℕ = word_bytes c.complete-rest.new.self.chain in
    let stepped : word_bytes c.chained.new.chain ≡ fold (chained (take 8 key)) start (blocks (length (part ++ rest) / 8) (part ++ rest)) =
    c.chained.ensures (take 8 key) (c.left.ensures key mid.keyed)
    ∙ ap (fold (chained (take 8 key)) start) (begun-blocks part rest c.complete-rest.ensures.short c.complete-rest.ensures.begun) in
    let held : c.try_extend_from_slice.new.self.items ≡ part ++ drop (8 * (length rest / 8)) rest =
    let ok : c.try_extend_from_slice.new.self.items ≡ part ++ take (length rest - 8 * (length rest / 8)) (drop (8 * (length rest / 8)) rest) =
    rw c.unwrap.ensures at c.try_extend_from_slice.ensures.ok in
    ok ∙ ap (λ r. part ++ r) (take_rest rest (8 * (length rest / 8))) in
    let joined : (text ++ front) ++ rest ≡ text ++ piece =
    append_assoc text front rest
    ∙ ap (λ bytes. text ++ bytes) (ap (λ r. front ++ r) c.complete-rest.ensures.left ∙ take-append-drop (length piece - length rest) piece) in
    subst (λ taken. IsRun (record c.complete-rest.new.self { chain = c.chained.new.chain; part = c.try_extend_from_slice.new.self }) key taken) joined
    (IsRun-more c.complete-rest.new.self key (text ++ front) rest c.chained.new.chain c.try_extend_from_slice.new.self mid stepped
    (held ∙ begun-part part rest c.complete-rest.ensures.short c.complete-rest.ensures.begun))
