-- One more empty row.
use Rattle.std.proofs.Common.{◌≡◌, ◌+◌, ◌*◌, length, refl, ap, sym, ◌∙◌, arith}
use Rattle.std.proofs.lemmas.List.{length_push}
use Rattle.shard_book.proofs.Places.{empty-more, next-number}
use Rattle.shard_book.proofs.rows.empty_rows.Goals as goal

pub loop-card-preserved : goal.loop-card-preserved
loop-card-preserved c =
    let before = c.loop-card.invariant in
    let issuer = c.args.issuer.now in
    let step : c.from.result ≡ issuer.shards = omega (arith, c.from.ensures, c.shards.ensures.count) in
    let long : length c.push.new.self.items ≡ length c.loop-card.rows.items + 1 =
    ap length c.in_ok-push.ensures.items ∙ length_push c.loop-card.rows.items c.in_ok-new.field-0 in
    record {
      at =
          ap (λ n. c.loop-card.card + n) step
          ∙ next-number c.loop-card.card c.args.shard (length c.loop-card.rows.items) issuer.shards before.at
          ∙ ap (λ n. c.args.shard + n * issuer.shards) (sym long);
      each =
          empty-more issuer c.args.shard c.loop-card.rows.items c.push.new.self.items c.info.result.now c.in_ok-new.field-0 c.loop-card.card before.each
          before.at c.info.ensures (c.in_ok-new.ensures c.info.result.now refl) c.in_ok-push.ensures.items;
    }
