-- One more enciphered block is appended, the padded one last; a text is refused exactly if it doesn't fit.
use Rattle.std.proofs.Common.{refl, ap, ◌≡◌, ◌∙◌, ◌-◌, ◌/◌, ◌*◌, List, ℕ, ◌∷◌, ◌++◌, length, drop, replicate, arith, length-drop}
use Rattle.std.proofs.lemmas.List.{take_rest}
use Rattle.des_block.specs.Cipher.{word_bytes}
use Rattle.std.proofs.lemmas.Bool.{false≢true}
use Rattle.retail_mac.proofs.Blocks.{length-padded, Enciphers_none, Enciphers_more, Enciphers_all}
use Rattle.retail_mac.proofs.cbc_encipher.Goals as goal

pub loop-i-init : goal.loop-i-init
loop-i-init c = Enciphers_none c.args.key.now.0 c.args.text.now c.args.out.now.items

pub loop-i-preserved : goal.loop-i-preserved
loop-i-preserved c =
    Enciphers_more c.args.key.now.0 c.args.text.now c.args.out.now.items c.loop-i.i c.loop-i.previous c.word_at.result
    c.encipher_word-previous.result c.loop-i.out.items
    c.loop-i.invariant (omega arith) c.word_at.ensures (c.encipher_word-previous.ensures.enciphered c.args.key.now.0 c.new-cipher.ensures)
    c.append.new.out.items c.append.ensures

pub returns-then-whole-len-clause-full : goal.returns-then-whole-len-clause-full
returns-then-whole-len-clause-full c = (λ _. omega (arith, length-padded c.args.text.now), λ _. refl)

pub returns-clause-full : goal.returns-clause-full
returns-clause-full c = (λ e. absurd (false≢true e), λ h. absurd (omega (arith, length-padded c.args.text.now)))

pub returns-clause-appended : goal.returns-clause-appended
returns-clause-appended c =
    let text : List ℕ = c.args.text.now in
    let at : ℕ = 8 * (length text / 8) in
    let last : word_bytes c.last_word.result ≡ drop at text ++ 0x80 ∷ replicate (7 - (length text - at)) 0 =
    c.last_word.ensures ∙ ap (λ rest. rest ++ 0x80 ∷ replicate (7 - length rest) 0) (take_rest text at)
    ∙ ap (λ len. drop at text ++ 0x80 ∷ replicate (7 - len) 0) (length-drop at text) in
    Enciphers_all c.args.key.now.0 text c.args.out.now.items c.loop-i.i (length text / 8) c.loop-i.previous c.last_word.result c.encipher_word.result
    c.loop-i.out.items c.loop-i.invariant (omega arith) refl last
    (c.encipher_word.ensures.enciphered c.args.key.now.0 c.new-cipher.ensures) c.append-2.new.out.items c.append-2.ensures
