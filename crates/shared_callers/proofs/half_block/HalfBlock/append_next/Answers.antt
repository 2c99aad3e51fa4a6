-- The part whose turn it was has one text less, and the next part has the turn.
use Rattle.std.proofs.Common.{◌≡◌, ◌*◌, get_or, Some, rules, refl, ap}
use Rattle.std.proofs.lemmas.List.Elements.{All-set}
use Rattle.std.proofs.lemmas.Option.{slice_get_read}
use Rattle.std.proofs.Math.Seq.{map-set_same}
use Rattle.std.specs.List.{slice_get}
use Rattle.shared_callers.specs.declared.part.Part.{Part}
use Rattle.shared_callers.proofs.Turning.{part-due, due-taken, waiting-same, still-taken, still-waiting}
use Rattle.shared_callers.proofs.half_block.HalfBlock.append_next.Goals as goal

pub move_first-requires-clause-some : goal.move_first-requires-clause-some
move_first-requires-clause-some c =
    let half = c.args.self.now in
    let part : Part = c.index_mut.result.now in
    let part_is : slice_get half.parts.items half.from ≡ Some part =
    slice_get_read half.parts.items half.parts.len half.from part (search rules) half.within.2 (search rules) in
    part-due half.parts.items half.from half.due part half.dues part_is c.requires.some

pub returns-clause-due : goal.returns-clause-due
returns-clause-due c =
    λ taken due are.
    let half = c.args.self.now in
    let part : Part = c.index_mut.result.now in
    let part_is : slice_get half.parts.items half.from ≡ Some part =
    slice_get_read half.parts.items half.parts.len half.from part (search rules) half.within.2 (search rules) in
    let moved = c.move_first.ensures.moved in
    let taking = due-taken half.parts.items half.from part _ part_is half.from half.due _ _ taken due moved.text refl
    (search rules) moved.first (search rules) (search rules) are in
    (moved.text, taking.0, taking.1, taking.2, moved.appended)

pub returns-clause-waiting : goal.returns-clause-waiting
returns-clause-waiting c =
    λ before waiting are.
    let half = c.args.self.now in
    let part : Part = c.index_mut.result.now in
    let part_is : slice_get half.parts.items half.from ≡ Some part =
    slice_get_read half.parts.items half.parts.len half.from part (search rules) half.within.2 (search rules) in
    waiting-same half.parts.items half.from part _ part_is refl half.first half.next half.waiting before waiting are

pub returns-clause-rooms : goal.returns-clause-rooms
returns-clause-rooms c =
    let half = c.args.self.now in
    let part : Part = c.index_mut.result.now in
    let here : part ≡ get_or half.parts.items half.from part = search rules in
    record {
      rooms = map-set_same (λ (part : Part). part.lines.room) half.parts.items half.from _ part (ap (λ (part : Part). part.lines.room) here);
      room = refl;
    }

pub invariant_of-self-clause-each_room : goal.invariant_of-self-clause-each_room
invariant_of-self-clause-each_room c =
    let half = c.args.self.now in
    let part : Part = c.index_mut.result.now in
    let all : half.parts.len * part.lines.room ≡ half.room = search rules in
    All-set (λ (part : Part). half.parts.len * part.lines.room ≡ half.room) half.parts.items half.from _ all half.each_room

pub invariant_of-self-clause-waits : goal.invariant_of-self-clause-waits
invariant_of-self-clause-waits c =
    let half = c.args.self.now in
    let part : Part = c.index_mut.result.now in
    let part_is : slice_get half.parts.items half.from ≡ Some part =
    slice_get_read half.parts.items half.parts.len half.from part (search rules) half.within.2 (search rules) in
    still-waiting half.parts.items half.from part _ part_is refl half.first half.next half.waiting half.waits

pub invariant_of-self-clause-dues : goal.invariant_of-self-clause-dues
invariant_of-self-clause-dues c =
    let half = c.args.self.now in
    let part : Part = c.index_mut.result.now in
    let part_is : slice_get half.parts.items half.from ≡ Some part =
    slice_get_read half.parts.items half.parts.len half.from part (search rules) half.within.2 (search rules) in
    let moved = c.move_first.ensures.moved in
    still-taken half.parts.items half.from part _ part_is half.from half.due _ _ moved.text refl
    (search rules) moved.first (search rules) (search rules) half.dues
