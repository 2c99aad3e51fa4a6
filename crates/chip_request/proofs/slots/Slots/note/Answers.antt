-- An object is noted in the slot of its field.
use Rattle.std.proofs.Common.{sym, refl, ◌∙◌, map}
use Rattle.tlv_objects.specs.Seen.{seen as object_seen}
use Rattle.chip_request.specs.Fields.{fields}
use Rattle.chip_request.proofs.Walk.{passed_over, takes_first, takes_another, value_in}
use Rattle.chip_request.proofs.slots.Slots.note.Goals as goal

pub returns-in-None : goal.returns-in-None
returns-in-None c =
    takes_first (object_seen c.args.object) c.args.self.now.firsts c.args.self.now.are_repeated c.in-Some.place c.args.object.value refl
    (sym c.place_of.ensures.place ∙ c.in-Some.is) c.in-None.is

pub returns-in-Some-firsts : goal.returns-in-Some-firsts
returns-in-Some-firsts c =
    takes_another (object_seen c.args.object) c.args.self.now.firsts c.args.self.now.are_repeated c.in-Some.place c.in-Some-firsts.field-0
    (sym c.place_of.ensures.place ∙ c.in-Some.is) c.in-Some-firsts.is

pub returns-in_default : goal.returns-in_default
returns-in_default c =
    sym (passed_over (object_seen c.args.object) fields (map value_in c.args.self.now.firsts) c.args.self.now.are_repeated
    (sym c.place_of.ensures.place ∙ c.in_default.is))
