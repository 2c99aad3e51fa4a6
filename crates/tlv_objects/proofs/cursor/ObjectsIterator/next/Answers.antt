-- The next object of a text, or the fault that ends it.
use Rattle.std.proofs.Common.{◌≢◌, ◌<◌, ◌-◌, length, slice_get, Some, arith, ◌∙◌, sym, ap, subst, false-eqb, length-drop}
use Rattle.std.proofs.Math.Seq.{drop-length}
use Rattle.tlv_objects.specs.Tlv.{Ahead, torn_at}
use Rattle.tlv_objects.proofs.Texts.{nothing_ahead, some_ahead, objects_unread, is_taken}
use Rattle.tlv_objects.proofs.cursor.ObjectsIterator.next.Goals as goal

pub returns-then-is_empty-clause-steps : goal.returns-then-is_empty-clause-steps
returns-then-is_empty-clause-steps c =
    let end = nothing_ahead c.self.inside.ahead.now (c.self.inside.end - length c.self.inside.ahead.now) (sym c.is_empty.ensures ∙ c.if-is_empty.true) in
    record {
      none = rw (← c.pass_zeros.ensures.same, ← c.self.view_is) end.0;
      nothing = rw (← c.self.view_is) end.1;
      end = c.pass_zeros.ensures.end;
    }

pub returns-in_default-clause-steps : goal.returns-in_default-clause-steps
returns-in_default-clause-steps c =
    let bytes = c.self.inside.ahead.now in
    let first = subst (λ (s : Ahead). slice_get s.bytes 0 ≢ Some 0) (sym c.self.view_is) c.pass_zeros.ensures.first in
    let some = some_ahead bytes (sym c.is_empty.ensures ∙ c.if-is_empty.false) in
    let size : length bytes ≢ 0 = false-eqb _ _ (sym c.if-is_empty.false ∙ c.is_empty.ensures) in
    let same = ap (λ (s : Ahead). length s.bytes) c.self.view_is in
    let place = ap (λ (s : Ahead). s.at) c.self.view_is in
    let none = drop-length bytes in
    record {
      torn = rw (← c.pass_zeros.ensures.same, ← c.self.view_is) (objects_unread bytes (c.self.inside.end - length bytes) some first (sym c.in_default.ensures) ∙ ap torn_at (place ∙ sym c.at-at.ensures));
      nothing = rw (c.pass.ensures, ← c.self.view_is) none;
      moves = record {
        shrinks = rw (c.pass.ensures, length-drop) (omega arith);
        end = rw (c.pass.ensures, length-drop) (omega arith);
      };
      within = omega arith;
    }

pub invariant_of-self : goal.invariant_of-self
invariant_of-self c =
    let bytes = c.self.inside.ahead.now in
    let first = subst (λ (s : Ahead). slice_get s.bytes 0 ≢ Some 0) (sym c.self.view_is) c.pass_zeros.ensures.first in
    let some = some_ahead bytes (sym c.is_empty.ensures ∙ c.if-is_empty.false) in
    let place = c.at-at.ensures ∙ ap (λ (s : Ahead). s.at) (sym c.self.view_is) in
    let taken = is_taken bytes c.self.inside.end c.at-at.result _ c.self.invariant place first some (sym c.in-Some.ensures) in
    omega (arith, taken.0)

pub returns-clause-steps : goal.returns-clause-steps
returns-clause-steps c =
    let bytes = c.self.inside.ahead.now in
    let first = subst (λ (s : Ahead). slice_get s.bytes 0 ≢ Some 0) (sym c.self.view_is) c.pass_zeros.ensures.first in
    let some = some_ahead bytes (sym c.is_empty.ensures ∙ c.if-is_empty.false) in
    let place = c.at-at.ensures ∙ ap (λ (s : Ahead). s.at) (sym c.self.view_is) in
    let taken = is_taken bytes c.self.inside.end c.at-at.result _ c.self.invariant place first some (sym c.in-Some.ensures) in
    let same = ap (λ (s : Ahead). length s.bytes) c.self.view_is in
    record {
      first = rw (← c.pass_zeros.ensures.same, ← c.self.view_is) taken.1;
      moves = record { shrinks = omega (arith, taken.0); end = omega (arith, taken.0) };
    }

pub returns-clause-goes : goal.returns-clause-goes
returns-clause-goes c =
    let smaller : length c.in-Some.rest.now < length c.args.self.now.bytes = (returns-clause-steps c).moves.shrinks in
    record { on = λ h. (tt, tt, smaller); keeps = tt; rests = λ h. tt }
