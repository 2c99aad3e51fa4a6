-- Each part of a line is read exactly where the text is its own.
use Rattle.std.proofs.Common.{◌≡◌, ℕ, suc, ◌*◌, ◌/◌, ◌%◌, ◌^◌, ◌<◌, ◌≤◌, ◌==◌, true, leb, le-leb, List, [], ◌∷◌, ◌++◌, length, slice_index}
use Rattle.std.proofs.Common.{take, drop, Some, None, IsTrue, if◌then◌else◌, eq-eqb, zero, refl, sym, ap, ap₂, subst, ◌∙◌, lit<, arith}
use Rattle.std.proofs.Common.{length-append}
use Rattle.std.proofs.lemmas.Bool.{cond-true, eqb-true, leb-true}
use Rattle.std.proofs.lemmas.List.{append-nil, drop_at, length-take-le, take-append-drop, take_at}
use Rattle.std.proofs.lemmas.Option.{cond_some, same_Some}
use Rattle.std.proofs.lemmas.Nat.{be_bytes_2, from_be_bytes-to_be_bytes_2}
use Rattle.std.specs.Int.{w16, from_be_bytes, to_be_bytes}
use Rattle.hex.specs.Hex.{IsBytes, encode_lower, lower_digits}
use Rattle.hex.proofs.HexLemmas.{length-encode_with}
use Rattle.issuer_base.specs.CardNumber.{is_pan}
use Rattle.issuer_base.specs.ChipData.{is_bcd}
use Rattle.journal_rec.specs.declared.limits.TheConstants.{PAN_DIGITS}
use Rattle.journal_rec.specs.RecordText.{pan_bytes}
use Rattle.journal_rec.specs.Reading.{byte_at, bytes_at, counter_at, end_at, mark_at, next_at, pan_at, pan_of, piece_at, psn_at, rest_at}
use Rattle.journal_rec.specs.Reading.{spelled, spelled_within}
use Rattle.journal_rec.proofs.Exact.{Exact, anything, nothing, exact_map, map_some, then_some}
use Rattle.journal_rec.proofs.HexText.{spelled-again, spelled-takes}
use Rattle.journal_rec.proofs.PanText.{pan_of-again, pan_of-takes, pan_text, pan_text-size}

-- so many bytes
pub record IsField (count : ℕ) (field : List ℕ) : Type 0 where
  pub size : length field ≡ count
  pub bytes : IsBytes field

-- a piece of the line
pub exact_piece : (count : ℕ) → Exact (piece_at count) (λ piece. length piece ≡ count) (λ piece. piece) anything
unfolding piece_at
exact_piece count = record {
  again = λ piece rest sized behind.
      let long : leb count (length (piece ++ rest)) ≡ true = le-leb _ _ (omega (arith, length-append piece rest)) in
      rw (long, take_at piece rest count sized, drop_at piece rest count sized) refl;
  takes = λ left piece rest found.
      let h = cond_some _ _ _ found in
      let long = leb-true _ _ h.0 in
      let front : take count left ≡ piece = ap (λ (p : List ℕ × List ℕ). p.0) h.1 in
      let behind : drop count left ≡ rest = ap (λ (p : List ℕ × List ℕ). p.1) h.1 in (
        subst (λ (p : List ℕ). length p ≡ count) front (length-take-le count left long),
        sym (take-append-drop count left) ∙ ap₂ (λ (p q : List ℕ). p ++ q) front behind,
        tt,
      );
}

-- one byte of the line
pub exact_next : Exact next_at (λ _. Unit {0}) (λ byte. byte ∷ []) anything
unfolding next_at
exact_next = record {
  again = λ byte rest valid behind. refl;
  takes = next_takes;
}
  where
    next_takes : (left : List ℕ) (byte : ℕ) (rest : List ℕ) → next_at left ≡ Some (byte, rest) → Unit {0} × (left ≡ byte ∷ rest) × Unit {0}
    next_takes [] byte rest found = absurd cc
    next_takes (first ∷ left) byte rest found = (tt, ap (λ (p : ℕ × List ℕ). p.0 ∷ p.1) (same_Some _ _ found), tt)

-- the end of the line
pub exact_end : Exact end_at (λ _. Unit {0}) (λ _. []) nothing
unfolding end_at
exact_end = record {
  again = λ unit rest valid behind. rw behind refl;
  takes = end_takes;
}
  where
    end_takes : (left : List ℕ) (unit : Unit {0}) (rest : List ℕ) → end_at left ≡ Some (unit, rest) → Unit {0} × (left ≡ rest) × (rest ≡ [])
    end_takes [] unit rest found = let behind : [] ≡ rest = ap (λ (p : Unit {0} × List ℕ). p.1) (same_Some _ _ found) in (tt, behind, sym behind)
    end_takes (first ∷ left) unit rest found = absurd cc

-- bytes in hexadecimal
pub exact_bytes : (count : ℕ) → Exact (bytes_at count) (IsField count) encode_lower anything
unfolding bytes_at
exact_bytes count =
    exact_map (piece_at (2 * count)) spelled (λ piece. length piece ≡ 2 * count) (λ piece. piece) anything
    (IsField count) encode_lower (exact_piece (2 * count))
    (λ bytes field. (omega (arith, length-encode_with lower_digits bytes, field.size), spelled-again bytes field.bytes))
    (λ piece bytes sized read.
    let text = spelled-takes piece bytes read in (
      record { size = omega (arith, sized, ap length text.1, length-encode_with lower_digits bytes); bytes = text.0 },
      sym text.1,
    ))

one_byte : (bytes : List ℕ) → length bytes ≡ 1 → slice_index bytes 0 ∷ [] ≡ bytes
one_byte [] one = absurd (omega arith)
one_byte (byte ∷ []) one = refl
one_byte (byte ∷ second ∷ bytes) one = absurd (omega arith)

pub IsBytes-one : (byte : ℕ) → byte < 256 → IsBytes (byte ∷ [])
IsBytes-one byte below zero = below
IsBytes-one byte below (suc i) = lit< tt

-- one byte in hexadecimal
pub exact_byte : Exact byte_at (λ byte. byte < 256) (λ byte. encode_lower (byte ∷ [])) anything
unfolding byte_at
exact_byte =
    exact_map (bytes_at 1) (λ bytes. Some (slice_index bytes 0)) (IsField 1) encode_lower anything (λ byte. byte < 256) (λ byte. byte ∷ []) (exact_bytes 1)
    (λ byte below. (record { size = refl; bytes = IsBytes-one byte below }, refl))
    (λ bytes byte field made.
    let same : slice_index bytes 0 ≡ byte = same_Some _ _ made in (
      subst (λ (b : ℕ). b < 256) same (field.bytes 0),
      subst (λ (b : ℕ). b ∷ [] ≡ bytes) same (one_byte bytes field.size),
    ))

pub IsBytes-two : (high low : ℕ) → high < 256 → low < 256 → IsBytes (high ∷ low ∷ [])
IsBytes-two high low first second zero = first
IsBytes-two high low first second (suc zero) = second
IsBytes-two high low first second (suc (suc i)) = lit< tt

-- a number of two bytes in hexadecimal
pub exact_counter : Exact counter_at (λ counter. counter < 2 ^ 16) (λ counter. encode_lower (to_be_bytes w16 counter)) anything
unfolding counter_at
exact_counter =
    exact_map (bytes_at 2) (λ bytes. Some (from_be_bytes w16 bytes)) (IsField 2) encode_lower anything
    (λ counter. counter < 2 ^ 16) (to_be_bytes w16) (exact_bytes 2)
    (λ counter below. (
      record { size = refl; bytes = IsBytes-two (counter / 256 % 256) (counter % 256) (omega arith) (omega arith) },
      ap Some (from_be_bytes-to_be_bytes_2 counter below),
    ))
    (λ bytes counter field made.
    let same : from_be_bytes w16 bytes ≡ counter = same_Some _ _ made in (
      omega (arith, same, field.bytes 0, field.bytes 1),
      be_bytes_2 bytes counter field.size field.bytes (sym same),
    ))

-- this byte
pub exact_mark : (byte : ℕ) → Exact (mark_at byte) (λ _. Unit {0}) (λ _. byte ∷ []) anything
unfolding mark_at
exact_mark byte =
    exact_map next_at (λ next. if next == byte then Some tt else None) (λ _. Unit {0}) (λ next. next ∷ []) anything (λ _. Unit {0}) (λ _. byte) exact_next
    (λ unit valid. (tt, cond-true _ _ _ (eq-eqb byte byte refl)))
    (λ next unit valid made. (tt, sym (eqb-true next byte (cond_some _ _ _ made).0)))

-- all that is left in hexadecimal
pub exact_rest : (most : ℕ) → Exact (rest_at most) (λ bytes. (length bytes ≤ most) × IsBytes bytes) encode_lower nothing
unfolding rest_at
exact_rest most = record {
  again = λ bytes rest valid behind.
      let few : leb (length bytes) most ≡ true = le-leb _ _ valid.0 in
      rw (behind, append-nil, spelled-again bytes valid.1, few) refl;
  takes = λ left bytes rest found.
      let whole = map_some (spelled_within most left) (λ (found : List ℕ). (found, [])) (bytes, rest) found in
      let read = then_some (spelled left) (λ (found : List ℕ). if leb (length found) most then Some found else None) whole.0 whole.1 in
      let tested = cond_some _ _ _ read.2 in
      let same : read.0 ≡ bytes = tested.1 ∙ ap (λ (p : List ℕ × List ℕ). p.0) whole.2 in
      let behind : [] ≡ rest = ap (λ (p : List ℕ × List ℕ). p.1) whole.2 in
      let text = spelled-takes left read.0 read.1 in (
        subst (λ (bs : List ℕ). (length bs ≤ most) × IsBytes bs) same (leb-true _ _ tested.0, text.0),
        text.1 ∙ ap encode_lower same ∙ sym (append-nil (encode_lower bytes)) ∙ ap (λ (r : List ℕ). encode_lower bytes ++ r) behind,
        sym behind,
      );
}

-- an account number
pub exact_pan : Exact pan_at (λ pan. IsTrue (is_pan pan)) (λ pan. encode_lower (pan_bytes pan)) anything
unfolding pan_at
exact_pan =
    exact_map (piece_at PAN_DIGITS) pan_of (λ piece. length piece ≡ PAN_DIGITS) (λ piece. piece) anything
    (λ pan. IsTrue (is_pan pan)) (λ pan. encode_lower (pan_bytes pan)) (exact_piece PAN_DIGITS)
    (λ pan valid.
    let text = pan_text pan valid in
    (omega (arith, ap length text, pan_text-size pan valid), ap pan_of text ∙ pan_of-again pan _ valid))
    (λ piece pan sized read.
    let taken = pan_of-takes piece pan sized read in
    (taken.0, pan_text pan taken.0 ∙ sym taken.1))

-- a sequence number
pub exact_psn : Exact psn_at (λ psn. (psn < 256) × IsTrue (is_bcd psn)) (λ psn. encode_lower (psn ∷ [])) anything
unfolding psn_at
exact_psn =
    exact_map byte_at (λ psn. if is_bcd psn then Some psn else None) (λ byte. byte < 256) (λ byte. encode_lower (byte ∷ [])) anything
    (λ psn. (psn < 256) × IsTrue (is_bcd psn)) (λ psn. psn) exact_byte
    (λ psn valid. (valid.0, cond-true _ _ _ valid.1))
    (λ byte psn below made.
    let tested = cond_some _ _ _ made in
    (subst (λ (b : ℕ). (b < 256) × IsTrue (is_bcd b)) tested.1 (below, tested.0), sym tested.1))
