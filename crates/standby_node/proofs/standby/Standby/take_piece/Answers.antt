-- The lines of a piece are taken one after another, and what is left is kept.
use Rattle.std.proofs.Common.{refl, take, Ok, Err}
use Rattle.standby_node.proofs.Fed.{fed-end, fed-more, fed-nothing, fed-stopped, keeps-line}
use Rattle.standby_node.proofs.Pieces.{newline-found, newline-none}
use Rattle.standby_node.proofs.standby.Standby.take_piece.Goals as goal

pub lines-init : goal.lines-init
lines-init g c = fed-nothing c.args.issuer.now c.args.self.now c.args.piece.now c.requires

pub lines-preserved : goal.lines-preserved
lines-preserved g c =
    let found = newline-found c.lines.left.now c.in-Some.end c.in-Some.ensures in
    fed-more c.args.issuer.now c.args.self.now c.lines.self c.keep.new.self c.args.piece.now c.lines.left.now c.lines.invariant
    (take c.in-Some.end c.lines.left.now) found.0 c.keep.ensures.line c.keep.ensures.shards c.keep.ensures.lines _ found.1 c.end_line.new.self (Ok tt)
    c.in-Ok.ensures.does refl c.in-Ok.ensures.kept (c.in-Ok.ensures.none refl) c.end_line.ensures.lines

pub returns-in-Err-clause-fed : goal.returns-in-Err-clause-fed
returns-in-Err-clause-fed g c =
    let found = newline-found c.lines.left.now c.in-Some.end c.in-Some.ensures in
    fed-stopped c.args.issuer.now c.args.self.now c.lines.self c.keep.new.self c.args.piece.now c.lines.left.now c.lines.invariant
    (take c.in-Some.end c.lines.left.now) found.0 c.keep.ensures.line c.keep.ensures.shards c.keep.ensures.lines _ found.1 c.end_line.new.self
    (Err c.in-Err.fault) c.in-Err.ensures.does c.in-Err.fault refl

pub returns-in-Err-clause-kept : goal.returns-in-Err-clause-kept
returns-in-Err-clause-kept g c =
    let found = newline-found c.lines.left.now c.in-Some.end c.in-Some.ensures in
    keeps-line c.args.issuer.now c.args.self.now c.lines.self c.keep.new.self c.args.piece.now c.lines.left.now c.lines.invariant
    (take c.in-Some.end c.lines.left.now) found.0 c.keep.ensures.line c.keep.ensures.shards c.keep.ensures.lines _ found.1 c.end_line.new.self
    (Err c.in-Err.fault) c.in-Err.ensures.does c.in-Err.ensures.kept

pub returns-clause-fed : goal.returns-clause-fed
returns-clause-fed g c =
    fed-end c.args.issuer.now c.args.self.now c.lines.self c.keep-2.new.self c.args.piece.now c.lines.left.now c.lines.invariant
    c.lines.left.now (newline-none c.lines.left.now c.in_default.ensures) c.keep-2.ensures.line c.keep-2.ensures.shards c.keep-2.ensures.lines refl
