-- Two halves of eight bytes side by side are the key of sixteen.
use Rattle.key_derive.proofs.Blocks.{halves-joined}
use Rattle.key_derive.proofs.master.joined.Goals as goal

pub returns : goal.returns
returns c = halves-joined c.args.left c.args.right c.copy_from_slice.new.self c.copy_from_slice-2.new.self c.copy_from_slice.ensures.len
    c.copy_from_slice.ensures.after c.copy_from_slice-2.ensures.after
