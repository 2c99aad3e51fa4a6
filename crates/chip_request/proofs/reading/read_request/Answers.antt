-- Chip data are parsed as a request, or as their first fault.
use Rattle.std.proofs.Common.{◌≡◌, None, if◌then◌else◌, sym, ap, ◌∙◌, Err, is_some}
use Rattle.std.specs.List.{list_all}
use Rattle.std.proofs.lemmas.Result.{err_from_is_err_and}
use Rattle.tlv_objects.specs.Tlv.{Ahead, objects_ahead, objects_of}
use Rattle.chip_request.specs.Slots.{is_right, request_in}
use Rattle.chip_request.specs.SlotViews.{founds_in}
use Rattle.chip_request.proofs.Meaning.{walked, refuses_torn, refuses_fault}
use Rattle.chip_request.proofs.Good.{takes_right, finds_fault}
use Rattle.chip_request.proofs.Sizes.{wrong_tells, made_tells}
use Rattle.chip_request.proofs.reading.read_request.Goals as goal
use Rattle.chip_request.proofs.reading.read_request.Goals.{then-are_single+then-have_sizes+in_default, else-are_single}
use Rattle.chip_request.proofs.reading.read_request.Goals.{else-are_single-via-then-are_single+else-have_sizes, else-are_single-via-else-are_single}

pub returns-in_err-note_all : goal.returns-in_err-note_all
returns-in_err-note_all c =
    let p = err_from_is_err_and c.from_residual.result c.from_residual.ensures.1 in
    let torn = c.in_err-note_all.ensures.err in
    let place = ap (λ (ahead : Ahead). (objects_ahead ahead).torn) (sym c.new.ensures) ∙ torn.1 in
    p.1 ∙ ap Err (p.2 ∙ torn.2) ∙ sym (refuses_torn c.args.bytes.now torn.0 place)

pub returns-in-Some : goal.returns-in-Some
returns-in-Some c =
    let whole = walked c.args.bytes.now _ _ _ c.new.ensures c.unfound-slots.ensures c.in_ok-note_all.ensures.ok in
    let makes = c.are_single.ensures.makes c.if-are_single.true (sym c.have_sizes.ensures ∙ c.if-have_sizes.true) in
    takes_right c.args.bytes.now _ c.in-Some.request whole.0 whole.1
    (sym c.in-Some.is ∙ c.request_in.ensures ∙ made_tells _ _ makes)

-- no request is right where it isn't returned
none_right : (c : goal.After-first_fault)
    → None ≡ (if list_all is_right (founds_in c.note_all.new.slots) then request_in (founds_in c.note_all.new.slots) else None)
none_right c = elim c.if-are_single.branch [
  | then-are_single+then-have_sizes+in_default w ↦
      sym w.in_default.is ∙ w.request_in.ensures
      ∙ made_tells _ _ (c.are_single.ensures.makes w.if-are_single.true (sym w.have_sizes.ensures ∙ w.if-have_sizes.true))
  | else-are_single w ↦ elim w.else-are_single.branch [
    | else-are_single-via-then-are_single+else-have_sizes u ↦
        wrong_tells _ _ _ (sym u.have_sizes.ensures ∙ u.if-have_sizes.false) c.are_single.ensures.sized
    | else-are_single-via-else-are_single u ↦ wrong_tells _ c.are_single.result _ u.if-are_single.false c.are_single.ensures.right
  ]
]

pub unwrap-requires : goal.unwrap-requires
unwrap-requires c =
    let whole = walked c.args.bytes.now _ _ _ c.new.ensures c.unfound-slots.ensures c.in_ok-note_all.ensures.ok in
    ap is_some c.first_fault.ensures ∙ finds_fault (objects_of c.args.bytes.now).objects _ whole.1 (none_right c)

pub returns : goal.returns
returns c =
    let whole = walked c.args.bytes.now _ _ _ c.new.ensures c.unfound-slots.ensures c.in_ok-note_all.ensures.ok in
    sym (refuses_fault c.args.bytes.now _ _ whole.0 whole.1 (sym c.unwrap.ensures ∙ c.first_fault.ensures))
