-- Each of the two blocks goes through three ciphers.
use Rattle.std.proofs.Common.{◌≡◌, ℕ, List, take, drop, rules, ap, ◌∙◌}
use Rattle.des_block.specs.Cipher.{word_bytes, des_encipher, des_decipher, tdes_encipher}
use Rattle.des_block.proofs.Laws.{on_bytes}
use Rattle.des_block.proofs.Tdes.encipher_both.Goals as goal

pub returns-clause-first : goal.returns-clause-first
unfolding tdes_encipher
returns-clause-first c = λ key held.
    let left : List ℕ = take 8 key in
    let right : List ℕ = drop 8 key in
    let tripled : word_bytes c.word.result ≡ tdes_encipher key (word_bytes c.from_be_bytes.result) =
    ap word_bytes c.word.ensures ∙ c.encipher_both-first-2.ensures.first left held.left
    ∙ ap (des_encipher left) (c.decipher_both-first.ensures.first right held.right
    ∙ ap (des_decipher right) (c.encipher_both-first.ensures.first left held.left
    ∙ ap (λ block. des_encipher left (word_bytes block)) c.new-first.ensures)) in
    on_bytes (tdes_encipher key) c.args.first c.from_be_bytes.result c.word.result c.to_be_bytes.result (search rules) (search rules)
    c.from_be_bytes.ensures tripled c.to_be_bytes.ensures

pub returns-clause-second : goal.returns-clause-second
unfolding tdes_encipher
returns-clause-second c = λ key held.
    let left : List ℕ = take 8 key in
    let right : List ℕ = drop 8 key in
    let tripled : word_bytes c.word-2.result ≡ tdes_encipher key (word_bytes c.from_be_bytes-2.result) =
    ap word_bytes c.word-2.ensures ∙ c.encipher_both-first-2.ensures.second left held.left
    ∙ ap (des_encipher left) (c.decipher_both-first.ensures.second right held.right
    ∙ ap (des_decipher right) (c.encipher_both-first.ensures.second left held.left
    ∙ ap (λ block. des_encipher left (word_bytes block)) c.new-second.ensures)) in
    on_bytes (tdes_encipher key) c.args.second c.from_be_bytes-2.result c.word-2.result c.to_be_bytes-2.result (search rules) (search rules)
    c.from_be_bytes-2.ensures tripled c.to_be_bytes-2.ensures
