-- A run with one more piece.
use Rattle.std.proofs.Common.{◌≡◌, ℕ, ◌+◌, ◌-◌, ◌*◌, ◌/◌, ◌<◌, ◌≤◌, List, ◌++◌, length, drop, fold}
use Rattle.std.proofs.Common.{sym, ap, ap₂, ◌∙◌, arith, length-append, length-drop, drop-drop, append_assoc}
use Rattle.std.proofs.lemmas.List.{drop-append-le, drop_all}
use Rattle.std.proofs.lemmas.List.Sums.{fold-append}
use Rattle.arrayvec.specs.ArrayVec.{ArrayVec}
use Rattle.aes_cipher.specs.Columns.{state_bytes}
use Rattle.aes_cipher.specs.Mac.{zero_block, blocks, blocks_before_last, chained}
use Rattle.aes_cipher.specs.Run.{IsRun}
use Rattle.aes_cipher.specs.declared.rounds.Columns.{Columns}
use Rattle.aes_cipher.specs.declared.run.CmacRun.{CmacRun}
use Rattle.aes_cipher.proofs.Blocks.{blocks-add, blocks-append-le}

-- the piece goes into the last block
pub IsRun-kept : (run : CmacRun) (key text piece : List ℕ) (last : ArrayVec ℕ) → IsRun run key text
    → length run.last.items + length piece ≤ 16
    → last.items ≡ run.last.items ++ piece → IsRun (record run { last = last }) key (text ++ piece)
unfolding blocks_before_last
IsRun-kept run key text piece last is short last_is =
    let n : ℕ = (length text - 1) / 16 in
    let held : length run.last.items ≡ length text - 16 * n = ap length is.last ∙ length-drop (16 * n) text in
    let joined : length (text ++ piece) ≡ length text + length piece = length-append text piece in
    let same : (length (text ++ piece) - 1) / 16 ≡ n = omega arith in
    let front : blocks ((length (text ++ piece) - 1) / 16) (text ++ piece) ≡ blocks n text =
    ap (λ k. blocks k (text ++ piece)) same ∙ blocks-append-le n text piece (omega arith) in
    let behind : drop (16 * ((length (text ++ piece) - 1) / 16)) (text ++ piece) ≡ drop (16 * n) text ++ piece =
    ap (λ k. drop (16 * k) (text ++ piece)) same ∙ drop-append-le (16 * n) text piece (omega arith) in
    record {
      keyed = is.keyed;
      chain = is.chain ∙ ap (fold (chained key) zero_block) (sym front);
      last = last_is ∙ ap (λ p. p ++ piece) is.last ∙ sym behind;
    }

-- the last block is filled up by the front of the piece and goes into the chain, with the blocks of the rest but for
-- its last
pub IsRun-more : (run : CmacRun) (key text piece front rest block : List ℕ) (filled chain : Columns) (last : ArrayVec ℕ)
    (m : ℕ) → IsRun run key text
    → piece ≡ front ++ rest → length run.last.items + length front ≡ 16 → 0 < length rest → m ≡ (length rest - 1) / 16
    → block ≡ run.last.items ++ front → state_bytes filled ≡ fold (chained key) (state_bytes run.chain) (blocks 1 block)
    → state_bytes chain ≡ fold (chained key) (state_bytes filled) (blocks m rest) → last.items ≡ drop (16 * m) rest
    → IsRun (record run { chain = chain; last = last }) key (text ++ piece)
unfolding blocks_before_last
IsRun-more run key text piece front rest block filled chain last m is cut full some em block_is filled_is chain_is
    last_is =
    let n : ℕ = (length text - 1) / 16 in
    let part : List ℕ = run.last.items in
    let held : length part ≡ length text - 16 * n = ap length is.last ∙ length-drop (16 * n) text in
    let joined : length (text ++ piece) ≡ length text + (length front + length rest) =
    length-append text piece ∙ ap (λ k. length text + k) (ap length cut ∙ length-append front rest) in
    let count : (length (text ++ piece) - 1) / 16 ≡ n + (1 + m) = omega arith in
    let whole : length (part ++ front) ≡ 16 = length-append part front ∙ full in
    let behind : drop (16 * n) (text ++ piece) ≡ (part ++ front) ++ rest =
    drop-append-le (16 * n) text piece (omega arith) ∙ ap₂ (λ p q. p ++ q) (sym is.last) cut
    ∙ sym (append_assoc part front rest) in
    let after : drop (16 * 1) ((part ++ front) ++ rest) ≡ rest =
    drop-append-le 16 (part ++ front) rest (omega arith)
    ∙ ap (λ r. r ++ rest) (drop_all 16 (part ++ front) (omega arith)) in
    let next : blocks (1 + m) ((part ++ front) ++ rest) ≡ blocks 1 block ++ blocks m rest =
    blocks-add 1 m ((part ++ front) ++ rest) ∙ ap₂ (λ a b. a ++ blocks m b)
    (blocks-append-le 1 (part ++ front) rest (omega arith) ∙ ap (blocks 1) (sym block_is)) after in
    let split : blocks ((length (text ++ piece) - 1) / 16) (text ++ piece)
    ≡ blocks n text ++ (blocks 1 block ++ blocks m rest) =
    ap (λ k. blocks k (text ++ piece)) count ∙ blocks-add n (1 + m) (text ++ piece)
    ∙ ap₂ (λ a b. a ++ b) (blocks-append-le n text piece (omega arith)) (ap (blocks (1 + m)) behind ∙ next) in
    let step : List ℕ → List (List ℕ) → List ℕ = fold (chained key) in
    let place : 16 * ((length (text ++ piece) - 1) / 16) ≡ (16 * n + 16) + 16 * m = omega arith in
    let end : drop (16 * ((length (text ++ piece) - 1) / 16)) (text ++ piece) ≡ drop (16 * m) rest =
    ap (λ k. drop k (text ++ piece)) place ∙ sym (drop-drop (16 * m) (16 * n + 16) (text ++ piece))
    ∙ ap (drop (16 * m)) (sym (drop-drop 16 (16 * n) (text ++ piece)) ∙ ap (drop 16) behind ∙ after) in
    record {
      keyed = is.keyed;
      chain = chain_is ∙ ap (λ s. step s (blocks m rest)) (filled_is ∙ ap (λ s. step s (blocks 1 block)) is.chain)
          ∙ sym (ap (step zero_block) split
          ∙ fold-append (chained key) zero_block (blocks n text) (blocks 1 block ++ blocks m rest)
          ∙ fold-append (chained key) (step zero_block (blocks n text)) (blocks 1 block) (blocks m rest));
      last = last_is ∙ sym end;
    }
