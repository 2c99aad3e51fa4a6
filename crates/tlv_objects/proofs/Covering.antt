-- One text of objects covers bytes, and no other.
use Rattle.std.proofs.Common.{◌≡◌, ℕ, List, sym}
use Rattle.tlv_objects.specs.Tlv.{TlvText, objects_from}
use Rattle.tlv_objects.specs.Grammar.{Covers}
use Rattle.tlv_objects.proofs.Texts.{objects_cover, covered_by_objects}

abbrev pub one_covers : (bytes : List ℕ) → (text : TlvText) × Covers 0 bytes text.objects text.torn
    × ((other : TlvText) → Covers 0 bytes other.objects other.torn → other ≡ text)
one_covers bytes = (
  objects_from 0 0 bytes,
  objects_cover bytes,
  λ other covers. sym (covered_by_objects bytes other.objects other.torn covers),
)
