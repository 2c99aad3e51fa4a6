-- The claim words have the recorded ATCs, and the turns the logs, of the shards that were loaded.
use Rattle.std.proofs.Common.{List, length, subst, sym, ap, ◌∙◌, rules}
use Rattle.shared_seats.specs.SeatNames.{IsWhole}
use Rattle.shared_seats.proofs.SeatNameLemmas.{whole_first}
use Rattle.claim_words.specs.ClaimViews.{times}
use Rattle.host_calls.specs.RecordedCounters.{AreRecordedOf}
use Rattle.host_calls.proofs.Sharing.{loaded-standing, loaded-just, logs-opened, list-once, list-known, list-decided}
use Rattle.host_calls.proofs.load.share.Goals as goal

pub load-requires-2 : goal.load-requires-2
load-requires-2 g c =
    loaded-just c.args.issuer.now c.args.olds.now.value.items c.args.read.now.items c.args.stores.now.value.items c.args.shards.items c.requires.count.0 c.requires.count.1 c.requires.loaded

pub load-requires-clause-once : goal.load-requires-clause-once
load-requires-clause-once g c =
    let shards : List _ = c.args.shards.items in
    let standing = loaded-standing c.args.issuer.now c.args.olds.now.value.items c.args.read.now.items c.args.stores.now.value.items shards c.requires.count.0 c.requires.count.1 c.requires.loaded in
    let raw = c.in-Ok.ensures c.args.issuer.now (rw c.as_slice.ensures.value standing) in
    let recorded =
    subst (λ shards. AreRecordedOf {G = g.S.Store} c.args.issuer.now shards (length shards) c.in-Ok.recorded.items) c.as_slice.ensures.value raw in
    rw c.as_slice-2.ensures.value
    (list-once c.args.issuer.now c.args.olds.now.value.items c.args.read.now.items c.args.stores.now.value.items shards c.requires.count.0 c.requires.count.1 c.requires.loaded c.in-Ok.recorded.items recorded)

pub load-requires-clause-known : goal.load-requires-clause-known
load-requires-clause-known g c =
    let shards : List _ = c.args.shards.items in
    let standing = loaded-standing c.args.issuer.now c.args.olds.now.value.items c.args.read.now.items c.args.stores.now.value.items shards c.requires.count.0 c.requires.count.1 c.requires.loaded in
    let raw = c.in-Ok.ensures c.args.issuer.now (rw c.as_slice.ensures.value standing) in
    let recorded =
    subst (λ shards. AreRecordedOf {G = g.S.Store} c.args.issuer.now shards (length shards) c.in-Ok.recorded.items) c.as_slice.ensures.value raw in
    rw (c.as_slice-2.ensures.value, c.cards.ensures.count)
    (list-known c.args.issuer.now c.args.olds.now.value.items c.args.read.now.items c.args.stores.now.value.items shards c.requires.count.0 c.requires.count.1 c.requires.loaded c.in-Ok.recorded.items recorded)

pub returns-in-Ok-load-2-clause-shared : goal.returns-in-Ok-load-2-clause-shared
returns-in-Ok-load-2-clause-shared g c =
    let shards : List _ = c.args.shards.items in
    let standing = loaded-standing c.args.issuer.now c.args.olds.now.value.items c.args.read.now.items c.args.stores.now.value.items shards c.requires.count.0 c.requires.count.1 c.requires.loaded in
    let raw = c.in-Ok.ensures c.args.issuer.now (rw c.as_slice.ensures.value standing) in
    let recorded =
    subst (λ shards. AreRecordedOf {G = g.S.Store} c.args.issuer.now shards (length shards) c.in-Ok.recorded.items) c.as_slice.ensures.value raw in
    record {
      opening = logs-opened c.args.issuer.now c.args.olds.now.value.items c.args.read.now.items c.args.stores.now.value.items shards c.requires.count.0 c.requires.count.1 c.requires.loaded _
          c.in-Ok-load-2.ensures.opening;
      turns_are = c.in-Ok-load-2.ensures.turns;
      turning = c.in-Ok-load-2.ensures.seat.0;
      cards_are = search rules;
      claiming = search rules;
      recorded = λ card counter below.
          c.in-Ok-load.ensures.recorded card counter below ∙ ap (λ list. times card counter list) c.as_slice-2.ensures.value
          ∙ list-decided c.args.issuer.now c.args.olds.now.value.items c.args.read.now.items c.args.stores.now.value.items shards c.requires.count.0
          c.requires.count.1 c.requires.loaded _ c.in-Ok-load-2.ensures.opening
          c.cards.ensures.valid c.in-Ok.recorded.items recorded card counter;
      claims_are = c.in-Ok-load.ensures.seat.1;
      logs_are = c.in-Ok-load-2.ensures.seat.1;
    }

pub close-requires-clause-whole : goal.close-requires-clause-whole
close-requires-clause-whole g c = subst IsWhole (sym (ap (λ v. v.names) c.in-Ok-load.ensures.seat.1)) whole_first
