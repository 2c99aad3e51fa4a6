-- A record that the rows accept is added to them.
use Rattle.std.proofs.Common.{refl}
use Rattle.shard_book.proofs.Applied.{legal-today}
use Rattle.shard_book.proofs.rows.Rows.adopt.Goals as goal

pub returns-in_default-clause-exact : goal.returns-in_default-clause-exact
returns-in_default-clause-exact c = c.in_default.ensures.exact

pub apply_record-requires : goal.apply_record-requires
apply_record-requires c = c.in-Some.ensures.accepted.ready

pub returns-clause-exact : goal.returns-clause-exact
returns-clause-exact c = c.in-Some.ensures.exact

pub returns-clause-adopted : goal.returns-clause-adopted
returns-clause-adopted c taken history stands at_end =
    let issuer = c.args.issuer.now in
    let legal = legal-today c.args.version issuer c.args.self.now.shard history c.args.entry.now ((c.in-Some.ensures.exact history stands).0 refl) in
    c.apply_record.ensures.applied issuer c.args.entry.now history c.in-Some.ensures.accepted stands legal at_end
