-- What was looked up is looked up again, with session keys ahead.
use Rattle.std.proofs.Common.{List, ap, sym, subst, ◌∙◌}
use Rattle.issuer_base.specs.declared.entry.Entry.{Entry}
use Rattle.std.specs.List.{AllZip}
use Rattle.shard_book.specs.ReadAhead.{IsLookedUp, ReadAhead}
use Rattle.shard_book.proofs.ReadAhead.{all-again, all-ready}
use Rattle.shard_book.proofs.ahead.Ahead.read.Goals.{After-read_lines-end}
use Rattle.shard_book.proofs.ahead.Ahead.read.Goals as goal

pub check-requires : goal.check-requires
check-requires c =
    all-ready c.args.issuer.now c.self-2.inside.entries.items c.self-2.inside.found
    (subst (λ (ahead : ReadAhead). AllZip (IsLookedUp c.args.issuer.now) ahead.entries ahead.found) (sym c.self-2.view_is) c.read_lines-end.ensures.found)

pub add_answers-requires : goal.add_answers-requires
add_answers-requires c =
    subst (λ (entries : List Entry). AllZip (IsLookedUp c.args.issuer.now) entries c.check.new.self) (sym c.as_slice.ensures.value)
    (all-again c.args.issuer.now c.self-2.inside.entries.items c.self-2.inside.found c.check.new.self
    (subst (λ (ahead : ReadAhead). AllZip (IsLookedUp c.args.issuer.now) ahead.entries ahead.found) (sym c.self-2.view_is) c.read_lines-end.ensures.found)
    c.check.ensures.again)

pub returns-clause-found : goal.returns-clause-found
returns-clause-found c =
    all-again c.args.issuer.now c.self-2.inside.entries.items c.self-2.inside.found c.check.new.self
    (subst (λ (ahead : ReadAhead). AllZip (IsLookedUp c.args.issuer.now) ahead.entries ahead.found) (sym c.self-2.view_is) c.read_lines-end.ensures.found)
    c.check.ensures.again

pub returns-clause-none : goal.returns-clause-none
returns-clause-none c none =
    let same = ap (λ (ahead : ReadAhead). ahead.entries) c.self-2.view_is in
    c.read_lines-end.ensures.none (sym same ∙ none)
