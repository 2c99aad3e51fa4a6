-- Both nibbles of the next byte follow those of the bytes before.
use Rattle.std.proofs.Common.{◌<◌, ◌*◌, get_or, refl, ap, ◌∙◌, sym, arith, rules}
use Rattle.std.proofs.lemmas.List.{take_all, length-set}
use Rattle.std.specs.List.{flat_map}
use Rattle.issuer_base.specs.ChipData.{digits_of}
use Rattle.key_derive.proofs.Nibbles.{AreNibbles-set, AreNibbles-zeros, nibbles-more}
use Rattle.key_derive.proofs.digits.nibbles_of.Goals as goal

pub loop-i-init : goal.loop-i-init
loop-i-init c = record { length_kept = refl; so_far = refl; nibbles = AreNibbles-zeros 40 }

pub loop-i-preserved : goal.loop-i-preserved
loop-i-preserved c =
    let before = c.loop-i.invariant in
    let small : get_or c.args.bytes.now c.loop-i.i 0 < 256 = search rules in
    record {
      length_kept = length-set _ _ _ ∙ length-set _ _ _ ∙ before.length_kept;
      so_far = nibbles-more c.loop-i.nibbles c.args.bytes.now c.loop-i.i (omega arith) (omega (arith, before.length_kept)) before.so_far;
      nibbles = AreNibbles-set _ _ _ (AreNibbles-set _ _ _ before.nibbles (omega arith)) (omega arith);
    }

pub returns-clause-exact : goal.returns-clause-exact
returns-clause-exact c =
    let before = c.loop-i.invariant in
    sym (take_all (2 * c.loop-i.i) c.loop-i.nibbles (omega (arith, before.length_kept))) ∙ before.so_far
    ∙ ap (flat_map digits_of) (take_all c.loop-i.i c.args.bytes.now (omega arith))
