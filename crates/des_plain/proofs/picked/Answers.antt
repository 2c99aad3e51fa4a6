-- The bit that the table's next entry selects is appended to those selected before.
use Rattle.std.proofs.Common.{◌≡◌, ◌<◌, ◌≤◌, ◌&&◌, ℕ, true, nat_lt, nat_le, slice_index, arith}
use Rattle.std.proofs.lemmas.Bool.{and_parts, ltb-true, leb-true}
use Rattle.std.proofs.lemmas.List.Sums.{AllPass-from_list_all}
use Rattle.des_block.specs.Bits.{number, picked}
use Rattle.des_plain.proofs.PlainSteps.{picked_more}
use Rattle.des_plain.proofs.picked.Goals as goal

pub loop-entry-init : goal.loop-entry-init
unfolding number picked
loop-entry-init c = Rattle.std.proofs.Common.refl

pub loop-entry-preserved : goal.loop-entry-preserved
loop-entry-preserved c =
    let i : ℕ = c.loop-entry.entry-index in
    let entry : ℕ = slice_index c.args.table.now i in
    let test : (nat_lt 0 entry && nat_le entry c.args.width) ≡ true =
    AllPass-from_list_all (λ e. nat_lt 0 e && nat_le e c.args.width) c.args.table.now c.requires.numbered i 0 (omega arith) in
    let parts = and_parts (nat_lt 0 entry) (nat_le entry c.args.width) test in
    picked_more c.args.table.now i c.args.width c.args.word c.loop-entry.out (omega arith) (omega arith)
    (ltb-true 0 entry parts.0) (leb-true entry c.args.width parts.1) c.loop-entry.invariant
