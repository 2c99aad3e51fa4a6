-- Each entry is read in its turn, up to the end of the list or the first that it may not have.
use Rattle.std.proofs.Common.{◌≡◌, ◌+◌, true, false, sym, ◌∙◌, length, arith}
use Rattle.tlv_objects.proofs.Texts.{some_ahead, nothing_ahead}
use Rattle.terminal_kernel.specs.Dol.{FrontEntry, is_within}
use Rattle.terminal_kernel.proofs.DolWalk.{has_read-more, is_front, dol_of-end, dol_of-torn, dol_of-beyond}
use Rattle.terminal_kernel.proofs.dol.read_dol.Goals as goal

pub returns-in_default-clause-exact : goal.returns-in_default-clause-exact
returns-in_default-clause-exact c =
    let some = some_ahead c.loop-unread.unread.now (sym c.is_empty.ensures ∙ c.loop-unread-test.true) in
    sym (dol_of-torn c.args.bytes.now c.loop-unread.unread.now c.loop-unread.entries.items c.loop-unread.total c.loop-unread.invariant some
    (sym c.in_default.ensures))

pub returns-then-not-is_within-clause-exact : goal.returns-then-not-is_within-clause-exact
returns-then-not-is_within-clause-exact c =
    let front : FrontEntry = record { tag = c.in-Some.tag; size = c.in-Some.length; rest = c.in-Some.rest.now } in
    let beyond : is_within (length c.loop-unread.entries.items + 1) (c.loop-unread.total + c.in-Some.length) ≡ false =
    grind (arith, c.is_within.ensures, c.from-total.ensures) in
    sym (dol_of-beyond c.args.bytes.now c.loop-unread.unread.now c.loop-unread.entries.items c.loop-unread.total front c.loop-unread.invariant
    (sym c.in-Some.ensures) beyond)

pub loop-unread-smaller : goal.loop-unread-smaller
loop-unread-smaller c = (is_front c.loop-unread.unread.now 0 (record { tag = c.in-Some.tag; size = c.in-Some.length; rest = c.in-Some.rest.now })
    (sym c.in-Some.ensures)).shorter

pub loop-unread-preserved : goal.loop-unread-preserved
loop-unread-preserved c =
    let front : FrontEntry = record { tag = c.in-Some.tag; size = c.in-Some.length; rest = c.in-Some.rest.now } in
    let within : is_within (length c.loop-unread.entries.items + 1) (c.loop-unread.total + c.in-Some.length) ≡ true =
    grind (arith, c.is_within.ensures, c.from-total.ensures) in
    rw (c.push.ensures.items, c.from-total.ensures)
    (has_read-more c.args.bytes.now c.loop-unread.unread.now c.loop-unread.entries.items c.loop-unread.total front c.loop-unread.invariant
    (sym c.in-Some.ensures) within)

pub returns-clause-exact : goal.returns-clause-exact
returns-clause-exact c =
    let end = (nothing_ahead c.loop-unread.unread.now 0 (sym c.is_empty.ensures ∙ c.loop-unread-test.false)).1 in
    sym (dol_of-end c.args.bytes.now c.loop-unread.entries.items c.loop-unread.total (rw (sym end) c.loop-unread.invariant))
