-- Nothing was read at first, and each read is appended to what was read.
use Rattle.std.proofs.Common.{refl, sym, ◌∙◌, arith, ◌-◌, ◌≤◌, length, length-take, drop, true}
use Rattle.std.proofs.lemmas.Bool.{false≢true}
use Rattle.issuer_base.proofs.ManyCalls.{CountsFaults-no_call, CountsFaults-then}
use Rattle.journal_store.proofs.ReadSoFar.{reads-none, reads-more, told-nothing, told-read, put-length}
use Rattle.journal_store.proofs.Rooms.{works-later, works-none}
use Rattle.journal_store.proofs.reading.read_from.Goals as goal

pub loop-count-init : goal.loop-count-init
loop-count-init g c = record {
  within = omega arith;
  room_is = omega (arith, c.min-room.ensures, c.len.ensures.size);
  size_is = refl;
  room_stays = refl;
  bytes_are = refl;
  given = told-nothing c.args.at c.args.into.now _;
  disk = reads-none _;
  counts = CountsFaults-no_call _;
}

pub returns-in_err-count-clause-disk : goal.returns-in_err-count-clause-disk
returns-in_err-count-clause-disk g c = reads-more _ _ _ c.loop-count.invariant.disk c.read_at.ensures.disk

pub returns-in_err-count-clause-room : goal.returns-in_err-count-clause-room
returns-in_err-count-clause-room g c =
    let before = c.loop-count.invariant in
    let call = works-later true _ _ _ _ _ before.size_is before.room_stays c.in_err-count.ensures.room in
    record { stays = call.stays; works = λ has. absurd (false≢true (sym (call.works has))) }

pub returns-clause-room : goal.returns-clause-room
returns-clause-room g c = works-none _ _ _ c.loop-count.invariant.room_stays

pub loop-count-preserved : goal.loop-count-preserved
loop-count-preserved g c =
    let ok = c.in_ok-count.ensures in
    let before = c.loop-count.invariant in
    let long = c.read_at.auto.into in
    let short : c.loop-count.count ≤ length c.loop-count.into = omega (arith, before.within, before.room_is) in
    let part = length-take (c.min-room.result - c.loop-count.count) (drop c.loop-count.count c.loop-count.into) in
    let longer = put-length c.loop-count.count (c.min-room.result - c.loop-count.count) c.loop-count.into c.read_at.new.into long in
    record {
      within = let bound = ok.bound.0 in omega (arith, before.within, c.loop-count-test.true, long, bound, part);
      room_is = omega (arith, before.room_is, ok.size, longer);
      size_is = ok.size ∙ before.size_is;
      room_stays = ok.room.stays ∙ before.room_stays;
      bytes_are = ok.bytes ∙ before.bytes_are;
      given = told-read c.args.at c.loop-count.count c.in_ok-count.field-0 _ c.loop-count.into c.read_at.new.into _ _ before.bytes_are short ok.bound.0
          before.given ok.given;
      disk = reads-more _ _ _ before.disk ok.disk;
      counts = CountsFaults-then _ _ _ _ _ before.counts ok.count;
    }
