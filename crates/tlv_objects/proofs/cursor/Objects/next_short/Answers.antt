-- The next object, where it begins as most do.
use Rattle.std.proofs.Common.{◌≡◌, ◌<◌, ◌-◌, length, arith, refl, sym, ap, ◌∙◌}
use Rattle.tlv_objects.specs.Tlv.{Ahead, objects_from, in_front}
use Rattle.tlv_objects.proofs.Texts.{is_taken, some_read}
use Rattle.tlv_objects.proofs.cursor.Objects.next_short.Goals as goal

-- the object is taken from the text
taken : (c : goal.After-rest-2-1)
    → (length c.in_ok-tag.rest.now < length c.self.inside.ahead.now)
    × (objects_from 0 (c.self.inside.end - length c.self.inside.ahead.now) c.self.inside.ahead.now
    ≡ in_front (record { tag = c.in_ok-tag.tag; value = c.in_ok-tag.value.now; at = c.at-at.result })
    (objects_from 0 (c.self.inside.end - length c.in_ok-tag.rest.now) c.in_ok-tag.rest.now))
taken c =
    let object = c.in_ok-tag.ensures.object in
    let place = c.at-at.ensures ∙ ap (λ (s : Ahead). s.at) (sym c.self.view_is) in
    is_taken c.self.inside.ahead.now c.self.inside.end c.at-at.result _ c.self.invariant place (c.in_ok-tag.ensures.first refl)
    (some_read _ _ object) object

pub invariant_of-self : goal.invariant_of-self
invariant_of-self c = omega (arith, (taken c).0)

pub returns-clause-some : goal.returns-clause-some
returns-clause-some c =
    let shorter = (taken c).0 in
    let same = ap (λ (s : Ahead). length s.bytes) c.self.view_is in
    let place = ap (λ (s : Ahead). s.at) c.self.view_is in
    record {
      first = rw (← c.self.view_is) (taken c).1;
      moves = record { shrinks = omega (arith, shorter); end = omega (arith, shorter) };
    }
