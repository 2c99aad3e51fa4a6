-- One more block is deciphered.
use Rattle.std.proofs.Common.{arith, sym, ap, subst, ◌∙◌, length, length-append}
use Rattle.des_block.proofs.Laws.{length-word_bytes}
use Rattle.retail_mac.proofs.Padding.{Deciphers, Deciphers_none, Deciphers_more, Deciphers_all}
use Rattle.retail_mac.proofs.opening.deciphered.Goals as goal

pub loop-i-init : goal.loop-i-init
loop-i-init c = (
  ap length c.new-plain.ensures,
  λ key keyed. subst (Deciphers key c.args.text.now 0 0) (sym c.new-plain.ensures) (Deciphers_none key c.args.text.now),
)

pub loop-i-preserved : goal.loop-i-preserved
loop-i-preserved c = (
  omega (arith, c.loop-i.invariant.0, ap length c.append.ensures, length-append {A = Rattle.std.proofs.Common.ℕ}, length-word_bytes),
  λ key keyed. Deciphers_more key c.args.text.now c.loop-i.plain.items c.loop-i.i c.loop-i.previous c.word_at-block.result c.decipher_word.result
      (c.loop-i.invariant.1 key keyed) (omega arith) c.word_at-block.ensures (c.decipher_word.ensures.deciphered key keyed)
      c.append.new.out.items c.append.ensures,
)

pub returns : goal.returns
returns c = λ key keyed.
    Deciphers_all key c.args.text.now c.loop-i.plain.items c.loop-i.i c.loop-i.previous (c.loop-i.invariant.1 key keyed) (omega arith)
