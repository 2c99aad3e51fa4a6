-- One more line waits in the part whose turn it was, and the next part has the turn.
use Rattle.std.proofs.Common.{◌≡◌, ◌*◌, length, get_or, Some, rules, refl, ap, ◌∙◌, lit<}
use Rattle.std.proofs.lemmas.List.Elements.{All-set}
use Rattle.std.proofs.lemmas.Option.{slice_get_read}
use Rattle.std.proofs.Math.Seq.{map-set_same}
use Rattle.std.specs.List.{slice_get}
use Rattle.line_reader.specs.KeptLines.{KeptLines}
use Rattle.shared_callers.specs.declared.part.Part.{Part}
use Rattle.shared_callers.proofs.Turning.{part-room, waiting-dealt, due-same, still-dealt, still-due}
use Rattle.shared_callers.proofs.half_block.HalfBlock.deal.Goals as goal

pub add-requires : goal.add-requires
add-requires c =
    let half = c.args.self.now in
    let part : Part = c.index_mut.result.now in
    let part_is : slice_get half.parts.items half.next ≡ Some part =
    slice_get_read half.parts.items half.parts.len half.next part (search rules) half.within.1 (search rules) in
    let all : length half.parts.items * part.lines.room ≡ half.room = search rules in
    let room = part-room half.parts.items half.first half.next half.waiting half.room part half.waits part_is all c.requires.room in
    (lit< tt, (room, c.requires.kept))

pub returns-clause-waiting : goal.returns-clause-waiting
returns-clause-waiting c =
    λ before waiting are.
    let half = c.args.self.now in
    let part : Part = c.index_mut.result.now in
    let part_is : slice_get half.parts.items half.next ≡ Some part =
    slice_get_read half.parts.items half.parts.len half.next part (search rules) half.within.1 (search rules) in
    waiting-dealt half.parts.items half.next part _ part_is half.first half.next half.waiting _ _ before waiting c.args.line.now refl
    (search rules) (search rules) (search rules) (search rules) are

pub returns-clause-due : goal.returns-clause-due
returns-clause-due c =
    λ taken due are.
    let half = c.args.self.now in
    let part : Part = c.index_mut.result.now in
    let part_is : slice_get half.parts.items half.next ≡ Some part =
    slice_get_read half.parts.items half.parts.len half.next part (search rules) half.within.1 (search rules) in
    due-same half.parts.items half.next part _ part_is (search rules) half.from half.due taken due are

pub returns-clause-rooms : goal.returns-clause-rooms
returns-clause-rooms c =
    let half = c.args.self.now in
    let part : Part = c.index_mut.result.now in
    let here : part ≡ get_or half.parts.items half.next part = search rules in
    record {
      rooms = map-set_same (λ (part : Part). part.lines.room) half.parts.items half.next _ part
          (ap (λ (lines : KeptLines). lines.room) c.add.ensures ∙ ap (λ (part : Part). part.lines.room) here);
      room = refl;
    }

pub invariant_of-self-clause-each_room : goal.invariant_of-self-clause-each_room
invariant_of-self-clause-each_room c =
    let half = c.args.self.now in
    let part : Part = c.index_mut.result.now in
    let all : half.parts.len * part.lines.room ≡ half.room = search rules in
    All-set (λ (part : Part). half.parts.len * part.lines.room ≡ half.room) half.parts.items half.next _
    (ap (λ (lines : KeptLines). half.parts.len * lines.room) c.add.ensures ∙ all) half.each_room

pub invariant_of-self-clause-waits : goal.invariant_of-self-clause-waits
invariant_of-self-clause-waits c =
    let half = c.args.self.now in
    let part : Part = c.index_mut.result.now in
    let part_is : slice_get half.parts.items half.next ≡ Some part =
    slice_get_read half.parts.items half.parts.len half.next part (search rules) half.within.1 (search rules) in
    still-dealt half.parts.items half.next part _ part_is half.first half.next half.waiting _ _ c.args.line.now refl
    (search rules) (search rules) (search rules) (search rules) half.waits

pub invariant_of-self-clause-dues : goal.invariant_of-self-clause-dues
invariant_of-self-clause-dues c =
    let half = c.args.self.now in
    let part : Part = c.index_mut.result.now in
    let part_is : slice_get half.parts.items half.next ≡ Some part =
    slice_get_read half.parts.items half.parts.len half.next part (search rules) half.within.1 (search rules) in
    still-due half.parts.items half.next part _ part_is (search rules) half.from half.due half.dues
