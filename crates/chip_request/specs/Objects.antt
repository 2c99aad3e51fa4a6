-- The objects of a text, by how they cover it.
use Rattle.std.specs.Prelude.{ℕ, List}
use Rattle.tlv_objects.specs.Tlv.{TlvText}
use Rattle.tlv_objects.specs.Grammar.{Covers}
use Rattle.issuer_base.specs.TheOnly.{the}
use Rattle.tlv_objects.proofs.Covering.{one_covers}

-- the objects of a text, and the offset where it is malformed, if it is: the only ones that cover it
abbrev pub objects_of : List ℕ → TlvText
objects_of bytes = the (λ (text : TlvText). Covers 0 bytes text.objects text.torn) (one_covers bytes)
