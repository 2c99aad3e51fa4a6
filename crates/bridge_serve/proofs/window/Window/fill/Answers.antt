-- More bytes are read behind those that are there.
use Rattle.std.proofs.Common.{◌≡◌, ◌<◌, ◌+◌, ◌-◌, length, take, ap, ◌∙◌, arith}
use Rattle.std.specs.List.{between}
use Rattle.std.specs.Io.KnownBytes.{IsAtEnd}
use Rattle.std.proofs.lemmas.List.{with_items_is}
use borrow.Rule.Slice.PartMut.{same_len_mid}
use Rattle.bridge_serve.specs.Reading.{ahead_of}
use Rattle.bridge_serve.proofs.Parts.{joined}
use Rattle.bridge_serve.proofs.window.Window.fill.Goals as goal

pub returns-clause-bytes : goal.returns-clause-bytes
returns-clause-bytes g c =
    let w = c.move_to_front.new.self in
    let read = c.in_ok-count.ensures.bytes in
    let size : length c.deref_mut.result.now ≡ length w.bytes.items = ap length c.deref_mut.ensures.value in
    let room : 0 < length c.read.new.into = omega (arith, c.read.auto.into, w.size, c.requires, c.move_to_front.ensures.end) in
    let at_end : c.in_ok-count.count ≡ 0 → IsAtEnd (g.S.Source.left c.read.new.self) = λ none. read.1 none room in
    let same : between w.start w.end c.deref_mut.result.now ≡ ahead_of c.args.self.now =
    ap (between w.start w.end) c.deref_mut.ensures.value ∙ c.move_to_front.ensures.bytes in
    let start = c.move_to_front.ensures.start in
    let end = c.move_to_front.ensures.end in
    let bound = c.in_ok-count.ensures.bound in
    let long : length c.deref_mut.result.now ≡ w.bytes.len = omega (arith, size, w.bytes.ok.0) in
    let whole = same_len_mid w.end (length c.deref_mut.result.now - w.end) c.deref_mut.result.now c.read.new.into c.read.auto.into ∙ long in
    record {
      piece = take c.in_ok-count.count c.read.new.into;
      consumed = read.0;
      counted = bound.1;
      joined =
          ap (between w.start (w.end + c.in_ok-count.count)) (with_items_is w.bytes _ whole)
          ∙ joined (ahead_of c.args.self.now) c.deref_mut.result.now c.read.new.into _ w.start w.end c.in_ok-count.count start end same bound.0;
      at_end = at_end;
    }
