-- The moments of an append and a sync.
use Rattle.std.proofs.Common.{◌+◌, length, length-append, arith, refl, sym, ap}
use Rattle.std.specs.Prelude.{is_err}
use Rattle.std.proofs.lemmas.Bool.{false≢true}
use Rattle.journal_store.proofs.Passing.{told-append, told-append_bytes, told-put, told-put_bytes, told-sync, told-last}
use Rattle.journal_store.proofs.Rooms.{fails-with}
use Rattle.journal_store.proofs.journal.Journal.write.Goals as goal

pub returns-in_err-append-clause-put : goal.returns-in_err-append-clause-put
returns-in_err-append-clause-put g c count text holds =
    let piece = c.args.piece.now in
    fails-with _ _ c.from_residual.result c.from_residual.ensures.0 (record {
      count_is = holds.count_is;
      sure_is = holds.sure_is;
      tail_is = λ cleared. absurd (false≢true (sym cleared));
      bytes_are = told-append_bytes text piece _ _ _ _ holds.bytes_are c.append.ensures.bytes refl;
      disk_is = told-last text piece _ _ (told-append text piece _ _ _ holds.disk_is c.append.ensures.disk);
    })

pub returns-in_err-append-clause-passes : goal.returns-in_err-append-clause-passes
returns-in_err-append-clause-passes g c count text holds = told-append text c.args.piece.now _ _ _ holds.disk_is c.append.ensures.disk

pub returns-in_err-sync-clause-put : goal.returns-in_err-sync-clause-put
returns-in_err-sync-clause-put g c count text holds =
    let piece = c.args.piece.now in
    fails-with _ _ c.from_residual-in_err-sync.result c.from_residual-in_err-sync.ensures.0 (record {
      count_is = holds.count_is;
      sure_is = holds.sure_is;
      tail_is = λ cleared. absurd (false≢true (sym cleared));
      bytes_are = told-append_bytes text piece _ _ _ _ holds.bytes_are c.append.ensures.bytes c.sync.ensures.bytes;
      disk_is = told-last text piece _ _ (told-sync text piece _ _ _ _ (told-append text piece _ _ _ holds.disk_is c.append.ensures.disk) c.sync.ensures.disk);
    })

pub returns-in_err-sync-clause-passes : goal.returns-in_err-sync-clause-passes
returns-in_err-sync-clause-passes g c count text holds =
    told-sync text c.args.piece.now _ _ _ _ (told-append text c.args.piece.now _ _ _ holds.disk_is c.append.ensures.disk) c.sync.ensures.disk

pub returns-clause-passes : goal.returns-clause-passes
returns-clause-passes g c count text holds =
    told-sync text c.args.piece.now _ _ _ _ (told-append text c.args.piece.now _ _ _ holds.disk_is c.append.ensures.disk) c.sync.ensures.disk

pub returns-clause-put : goal.returns-clause-put
returns-clause-put g c count text holds =
    let piece = c.args.piece.now in
    let appended = ap is_err c.in_ok-append.was in
    let synced = ap is_err c.in_ok-sync.was in
    let long = length-append text piece in (
      holds.count_is,
      record {
        count_is = ap (λ n. n + 1) holds.count_is;
        sure_is = omega (arith, holds.sure_is);
        tail_is = λ settled. refl;
        bytes_are = told-put_bytes text piece _ _ _ _ appended holds.bytes_are c.append.ensures.bytes c.sync.ensures.bytes;
        disk_is = told-put text piece _ _ _ _ _ appended synced holds.disk_is c.append.ensures.disk c.sync.ensures.disk;
      },
    )
