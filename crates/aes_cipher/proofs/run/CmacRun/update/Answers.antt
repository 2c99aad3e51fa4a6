-- The piece is appended to the last block, or completes it and continues in blocks.
use Rattle.std.proofs.Common.{◌≡◌, ◌-◌, ◌/◌, ◌*◌, ◌++◌, List, ℕ, length, take, drop, ap, ap₂, ◌∙◌, sym, arith, refl}
use Rattle.std.proofs.lemmas.List.{take-append-drop, take_rest}
use Rattle.aes_cipher.proofs.Pieces.{IsRun-kept, IsRun-more}
use Rattle.aes_cipher.proofs.run.CmacRun.update.Goals as goal

pub returns-then-len-piece-le16 : goal.returns-then-len-piece-le16
returns-then-len-piece-le16 c = λ key text is.
    let held : c.try_extend_from_slice.new.self.items ≡ c.args.self.now.last.items ++ c.args.piece.now =
    rw c.unwrap.ensures at c.try_extend_from_slice.ensures.ok in
    IsRun-kept c.args.self.now key text c.args.piece.now c.try_extend_from_slice.new.self is (omega arith) held

pub returns : goal.returns
returns c = λ key text is.
    let piece : List ℕ = c.args.piece.now in
    let front : List ℕ = c.split_at.result.0.now in
    let rest : List ℕ = c.split_at.result.1.now in
    let m : ℕ = (length rest - 1) / 16 in
    let cut : piece ≡ front ++ rest =
    sym (ap₂ (λ a b. a ++ b) c.split_at.ensures.front c.split_at.ensures.back
    ∙ take-append-drop (16 - c.len-2.result) piece) in
    let held : c.try_extend_from_slice-2.new.self.items
    ≡ c.clear.new.self.items ++ take (length rest - 16 * m) (drop (16 * m) rest) =
    rw c.unwrap-2.ensures at c.try_extend_from_slice-2.ensures.ok in
    IsRun-more c.args.self.now key text piece front rest c.joined-block.result c.chained-chain.result
    c.chained-self.result
    c.try_extend_from_slice-2.new.self m is cut (omega arith) (omega arith) refl
    (c.joined-block.ensures ∙ ap (λ p. p ++ front) c.as_slice.ensures.value)
    (c.chained-chain.ensures key is.keyed.cipher) (c.chained-self.ensures key is.keyed.cipher)
    (held ∙ ap₂ (λ a b. a ++ b) c.clear.ensures (take_rest rest (16 * m)))
