-- At the end of the feed the numbers of records are written, and nothing otherwise.
use Rattle.std.proofs.Common.{sym, subst}
use Rattle.issuer_base.specs.OutsideFaults.{CountsFaults}
use Rattle.issuer_base.proofs.ManyCalls.{CountsFaults-no_call}
use Rattle.line_serving.proofs.Feeding.{follows-broken, writes-none}
use Rattle.line_serving.proofs.follower.Follower.follow.Goals as goal

pub returns-in-Ok-clause-followed : goal.returns-in-Ok-clause-followed
returns-in-Ok-clause-followed g c opening opened =
    let it = c.in-All.ensures.followed opening opened in
    (it.0, it.1, c.in-Ok.ensures.written it.0 it.1.hold)

pub returns-in-Err-clause-followed : goal.returns-in-Err-clause-followed
returns-in-Err-clause-followed g c opening opened =
    let it = c.in-All.ensures.followed opening opened in
    (it.0, follows-broken c.args.issuer.now opening _ _ _ _ it.0 it.1, c.in-Err.ensures.written it.0 it.1.hold)

pub returns-in_default : goal.returns-in_default
returns-in_default g c =
    let stood = c.feed_lines.ensures.none_written in
    record {
      followed = λ opening opened.
          let it = c.feed_lines.ensures.followed opening opened in
          (it.0, it.1, writes-none c.feed_lines.result c.in_default.not-All stood _ _);
      kept = c.feed_lines.ensures.kept;
      source_count = c.feed_lines.ensures.count;
      sink_count = subst (CountsFaults _ _) (sym stood) (CountsFaults-no_call _);
    }
