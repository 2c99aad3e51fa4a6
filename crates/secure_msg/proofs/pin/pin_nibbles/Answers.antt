-- A PIN's digits fit into the block, and are written over fillers.
use Rattle.std.proofs.Common.{arith, subst, sym}
use Rattle.key_derive.proofs.Nibbles.{AreNibbles}
use Rattle.secure_msg.proofs.PinBlocks.{length-pin, nibbles-written, AreNibbles-block}
use Rattle.secure_msg.proofs.pin.pin_nibbles.Goals as goal

pub overflow_cast-nibbles : goal.overflow_cast-nibbles
overflow_cast-nibbles c = let few = length-pin c.args.digits.now c.requires in omega (arith, few.1)

pub slice_bounds-nibbles-end : goal.slice_bounds-nibbles-end
slice_bounds-nibbles-end c = let few = length-pin c.args.digits.now c.requires in omega (arith, few.1)

pub returns-clause-exact : goal.returns-clause-exact
returns-clause-exact c =
    let few = length-pin c.args.digits.now c.requires in
    nibbles-written c.args.digits.now c.copy_from_slice.new.self (omega (arith, few.1)) c.copy_from_slice.ensures.after

pub returns-clause-nibbles : goal.returns-clause-nibbles
returns-clause-nibbles c = subst AreNibbles (sym (returns-clause-exact c)) (AreNibbles-block c.args.digits.now c.requires)
