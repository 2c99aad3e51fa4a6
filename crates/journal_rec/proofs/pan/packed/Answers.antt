-- Each pair of nibbles is packed into one more byte.
use Rattle.std.proofs.Common.{◌+◌, ◌*◌, ◌++◌, drop, refl, ap, ◌∙◌, sym, arith}
use Rattle.std.proofs.lemmas.List.{length-set, take_all, take_more_set}
use Rattle.journal_rec.specs.RecordText.{packed}
use Rattle.journal_rec.proofs.PanLemmas.{packed_more, packed_done}
use Rattle.journal_rec.proofs.pan.packed.Goals as goal

pub bytes-preserved : goal.bytes-preserved
bytes-preserved c = record {
  packed =
      ap (λ front. front ++ packed (drop (2 * (c.bytes.i + 1)) c.args.nibbles.now))
      (take_more_set c.bytes.bytes c.bytes.i _ (omega (arith, c.bytes.invariant.size)))
      ∙ packed_more c.args.nibbles.now _ c.bytes.i _ _ (omega arith) refl refl c.bytes.invariant.packed;
  size = length-set c.bytes.bytes c.bytes.i _ ∙ c.bytes.invariant.size;
}

pub returns : goal.returns
returns c =
    sym (take_all c.bytes.i c.bytes.bytes (omega (arith, c.bytes.invariant.size)))
    ∙ packed_done c.args.nibbles.now _ c.bytes.i (omega arith) c.bytes.invariant.packed
