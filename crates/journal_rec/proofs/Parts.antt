-- The fields of a request are read exactly where the text is theirs.
use Rattle.std.proofs.Common.{◌≡◌, ℕ, zero, suc, ◌/◌, ◌%◌, ◌<◌, ◌^◌, List, [], ◌∷◌, ◌++◌, length, map, Some, IsTrue, refl, sym, ap, ap₂}
use Rattle.std.proofs.Common.{subst, arith, lit<}
use Rattle.std.proofs.lemmas.List.{append-nil}
use Rattle.std.proofs.lemmas.Option.{same_Some}
use Rattle.std.specs.Int.{w16, to_be_bytes}
use Rattle.std.specs.List.{concat}
use Rattle.hex.specs.Hex.{IsBytes, encode_lower}
use Rattle.issuer_base.specs.CardNumber.{is_pan}
use Rattle.issuer_base.specs.ChipData.{is_request, request_from}
use Rattle.issuer_base.specs.declared.request.Parts.{Parts}
use Rattle.issuer_base.proofs.ChipDataLemmas.{request_from-some, request_from-valid}
use Rattle.journal_rec.specs.RecordText.{pan_bytes, request_bytes, request_fields}
use Rattle.journal_rec.specs.Record.{IsRequest, request_sizes}
use Rattle.journal_rec.specs.Reading.{byte_at, bytes_at, counter_at, pan_at, parts_at, parts_of, request_at}
use Rattle.journal_rec.proofs.Exact.{Exact, anything, exact_map, exact_same, exact_then}
use Rattle.journal_rec.proofs.HexText.{encode_lower-concat}
use Rattle.journal_rec.proofs.PanText.{IsBytes-pan_bytes, length-pan_bytes}
use Rattle.journal_rec.proofs.Words.{IsBytes-one, IsBytes-two, IsField, exact_byte, exact_bytes, exact_counter, exact_pan}

-- what the fields of a request are, one after another, in the order in which they are read
abbrev pub AreFields : Parts → Type 0
AreFields parts =
    Unit {0}
    × (IsTrue (is_pan parts.pan)
    × ((parts.psn < 256)
    × (IsField 2 parts.aip
    × ((parts.atc < 2 ^ 16)
    × (IsField 5 parts.tvr
    × (IsField 3 parts.date
    × ((parts.kind < 256)
    × (IsField 6 parts.amount
    × (IsField 6 parts.other
    × (IsField 2 parts.country
    × (IsField 2 parts.currency
    × (IsField 4 parts.un
    × ((parts.cid < 256)
    × (IsField 32 parts.iad
    × IsField 8 parts.ac))))))))))))))

-- the text of the fields, one after another
abbrev pub fields_text : Parts → List ℕ
fields_text parts =
    encode_lower (pan_bytes parts.pan)
    ++ (encode_lower (parts.psn ∷ [])
    ++ (encode_lower parts.aip
    ++ (encode_lower (to_be_bytes w16 parts.atc)
    ++ (encode_lower parts.tvr
    ++ (encode_lower parts.date
    ++ (encode_lower (parts.kind ∷ [])
    ++ (encode_lower parts.amount
    ++ (encode_lower parts.other
    ++ (encode_lower parts.country
    ++ (encode_lower parts.currency
    ++ (encode_lower parts.un
    ++ (encode_lower (parts.cid ∷ [])
    ++ (encode_lower parts.iad
    ++ encode_lower parts.ac)))))))))))))

-- what is read before the last field
module _ (pan : List ℕ) (psn : ℕ) (aip : List ℕ) (atc : ℕ) (tvr date : List ℕ) (kind : ℕ)
    (amount other country currency un : List ℕ) (cid : ℕ) (iad : List ℕ) where
  -- the fields before the last are these
  abbrev AreThese : Parts → Type 0
  AreThese parts =
      (((((((((((((Unit {0} × (parts.pan ≡ pan)) × (parts.psn ≡ psn)) × (parts.aip ≡ aip)) × (parts.atc ≡ atc)) × (parts.tvr ≡ tvr)) ×
      (parts.date ≡ date)) × (parts.kind ≡ kind)) × (parts.amount ≡ amount)) × (parts.other ≡ other)) × (parts.country ≡ country)) ×
      (parts.currency ≡ currency)) × (parts.un ≡ un)) × (parts.cid ≡ cid)) × (parts.iad ≡ iad)

  -- a request of these fields and the last
  abbrev with_last : List ℕ → Parts
  with_last ac = parts_of pan psn aip atc tvr date kind amount other country currency un cid iad ac

  with_last-own : (parts : Parts) → AreThese parts → with_last parts.ac ≡ parts
  with_last-own parts (
    (
      (
        (
          ((((((((((start, pan_is), psn_is), aip_is), atc_is), tvr_is), date_is), kind_is), amount_is), other_is), country_is),
          currency_is,
        ),
        un_is,
      ),
      cid_is,
    ),
    iad_is,
  ) =
      rw (
        ← pan_is,
        ← psn_is,
        ← aip_is,
        ← atc_is,
        ← tvr_is,
        ← date_is,
        ← kind_is,
        ← amount_is,
        ← other_is,
        ← country_is,
        ← currency_is,
        ← un_is,
        ← cid_is,
        ← iad_is,
      ) refl

  with_last-these : (parts : Parts) (ac : List ℕ) → with_last ac ≡ parts → AreThese parts
  with_last-these parts ac made =
      subst AreThese made ((((((((((((((tt, refl), refl), refl), refl), refl), refl), refl), refl), refl), refl), refl), refl), refl), refl)

pub exact_fields : Exact parts_at AreFields fields_text anything
unfolding parts_at
exact_fields =
    exact_then pan_at _ _ _ (λ parts. Unit {0}) _ _ anything (λ parts. parts.pan) exact_pan (λ pan.
    exact_then byte_at _ _ _ _ _ _ anything (λ parts. parts.psn) exact_byte (λ psn.
    exact_then (bytes_at 2) _ _ _ _ _ _ anything (λ parts. parts.aip) (exact_bytes 2) (λ aip.
    exact_then counter_at _ _ _ _ _ _ anything (λ parts. parts.atc) exact_counter (λ atc.
    exact_then (bytes_at 5) _ _ _ _ _ _ anything (λ parts. parts.tvr) (exact_bytes 5) (λ tvr.
    exact_then (bytes_at 3) _ _ _ _ _ _ anything (λ parts. parts.date) (exact_bytes 3) (λ date.
    exact_then byte_at _ _ _ _ _ _ anything (λ parts. parts.kind) exact_byte (λ kind.
    exact_then (bytes_at 6) _ _ _ _ _ _ anything (λ parts. parts.amount) (exact_bytes 6) (λ amount.
    exact_then (bytes_at 6) _ _ _ _ _ _ anything (λ parts. parts.other) (exact_bytes 6) (λ other.
    exact_then (bytes_at 2) _ _ _ _ _ _ anything (λ parts. parts.country) (exact_bytes 2) (λ country.
    exact_then (bytes_at 2) _ _ _ _ _ _ anything (λ parts. parts.currency) (exact_bytes 2) (λ currency.
    exact_then (bytes_at 4) _ _ _ _ _ _ anything (λ parts. parts.un) (exact_bytes 4) (λ un.
    exact_then byte_at _ _ _ _ _ _ anything (λ parts. parts.cid) exact_byte (λ cid.
    exact_then (bytes_at 32) _ _ _ _ _ _ anything (λ parts. parts.iad) (exact_bytes 32) (λ iad.
    exact_map (bytes_at 8) _ (IsField 8) encode_lower anything _ (λ parts. parts.ac) (exact_bytes 8)
    (λ parts holds. (holds.1, ap Some (with_last-own pan psn aip atc tvr date kind amount other country currency un cid iad parts holds.0)))
    (λ ac parts field made.
    let is = same_Some _ _ made in
    let these = with_last-these pan psn aip atc tvr date kind amount other country currency un cid iad parts ac is in
    ((these, subst (λ (p : Parts). IsField 8 p.ac) is field), ap (λ (p : Parts). p.ac) (sym is)))))))))))))))))

-- ---- the same by sizes and bytes

-- each list is a field of its size
abbrev AllFields : List ℕ → List (List ℕ) → Type 0
AllFields [] [] = Unit {0}
AllFields (size ∷ sizes) (field ∷ fields) = IsField size field × AllFields sizes fields
AllFields [] (field ∷ fields) = ⊥
AllFields (size ∷ sizes) [] = ⊥

IsBytes-front : (bytes more : List ℕ) → IsBytes (bytes ++ more) → IsBytes bytes
IsBytes-front [] more fits i = lit< tt
IsBytes-front (byte ∷ bytes) more fits zero = fits 0
IsBytes-front (byte ∷ bytes) more fits (suc i) = IsBytes-front bytes more (λ k. fits (suc k)) i

IsBytes-behind : (bytes more : List ℕ) → IsBytes (bytes ++ more) → IsBytes more
IsBytes-behind [] more fits = fits
IsBytes-behind (byte ∷ bytes) more fits = IsBytes-behind bytes more (λ k. fits (suc k))

IsBytes-append : (bytes more : List ℕ) → IsBytes bytes → IsBytes more → IsBytes (bytes ++ more)
IsBytes-append [] more first second i = second i
IsBytes-append (byte ∷ bytes) more first second zero = first 0
IsBytes-append (byte ∷ bytes) more first second (suc i) = IsBytes-append bytes more (λ k. first (suc k)) second i

AllFields-from : (sizes : List ℕ) (fields : List (List ℕ)) → map length fields ≡ sizes → IsBytes (concat fields) → AllFields sizes fields
AllFields-from [] [] same fits = tt
AllFields-from [] (field ∷ fields) same fits = absurd cc
AllFields-from (size ∷ sizes) [] same fits = absurd cc
AllFields-from (size ∷ sizes) (field ∷ fields) same fits =
    let first : length field ≡ size = cc in
    let rest : map length fields ≡ sizes = cc in (
      record { size = first; bytes = IsBytes-front field (concat fields) fits },
      AllFields-from sizes fields rest (IsBytes-behind field (concat fields) fits),
    )

AllFields-sizes : (sizes : List ℕ) (fields : List (List ℕ)) → AllFields sizes fields → map length fields ≡ sizes
AllFields-sizes [] [] all = refl
AllFields-sizes [] (field ∷ fields) all = absurd all
AllFields-sizes (size ∷ sizes) [] all = absurd all
AllFields-sizes (size ∷ sizes) (field ∷ fields) all = ap₂ (λ n (ns : List ℕ). n ∷ ns) all.0.size (AllFields-sizes sizes fields all.1)

AllFields-bytes : (sizes : List ℕ) (fields : List (List ℕ)) → AllFields sizes fields → IsBytes (concat fields)
AllFields-bytes [] [] all i = lit< tt
AllFields-bytes [] (field ∷ fields) all i = absurd all
AllFields-bytes (size ∷ sizes) [] all i = absurd all
AllFields-bytes (size ∷ sizes) (field ∷ fields) all i = IsBytes-append field (concat fields) all.0.bytes (AllFields-bytes sizes fields all.1) i

-- a request's fields from their sizes and bytes
fields_from : (parts : Parts) → IsTrue (is_pan parts.pan) → parts.atc < 2 ^ 16 → AllFields request_sizes (request_fields parts) → AreFields parts
fields_from parts pan atc (
  pan_field,
  (
    psn_field,
    (
      aip_field,
      (
        atc_field,
        (
          tvr_field,
          (
            date_field,
            (
              kind_field,
              (
                amount_field,
                (
                  other_field,
                  (
                    country_field,
                    (currency_field, (un_field, (cid_field, (iad_field, (ac_field, end))))),
                  ),
                ),
              ),
            ),
          ),
        ),
      ),
    ),
  ),
) = (
  tt,
  (
    pan,
    (
      psn_field.bytes 0,
      (
        aip_field,
        (
          atc,
          (
            tvr_field,
            (
              date_field,
              (
                kind_field.bytes 0,
                (
                  amount_field,
                  (
                    other_field,
                    (
                      country_field,
                      (currency_field, (un_field, (cid_field.bytes 0, (iad_field, ac_field)))),
                    ),
                  ),
                ),
              ),
            ),
          ),
        ),
      ),
    ),
  ),
)

IsField-one : (byte : ℕ) → byte < 256 → IsField 1 (byte ∷ [])
IsField-one byte below = record { size = refl; bytes = IsBytes-one byte below }

-- and the sizes and bytes from the fields
fields_to : (parts : Parts) → AreFields parts → AllFields request_sizes (request_fields parts)
fields_to parts
    (start, (pan, (psn, (aip, (atc, (tvr, (date, (kind, (amount, (other, (country, (currency, (un, (cid, (iad, ac))))))))))))))) = (
      record { size = length-pan_bytes parts.pan pan; bytes = IsBytes-pan_bytes parts.pan pan },
      (
        IsField-one parts.psn psn,
        (
          aip,
          (
            record {
              size =
                  refl;
              bytes = IsBytes-two (parts.atc / 256 % 256) (parts.atc % 256) (omega arith) (omega arith);
            },
            (
              tvr,
              (
                date,
                (
                  IsField-one parts.kind kind,
                  (amount, (other, (country, (currency, (un, (IsField-one parts.cid cid, (iad, (ac, tt)))))))),
                ),
              ),
            ),
          ),
        ),
      ),
    )

IsRequest-fields : (parts : Parts) → IsRequest parts → AreFields parts
IsRequest-fields parts request =
    fields_from parts request.pan request.atc (AllFields-from request_sizes (request_fields parts) request.sizes request.bytes)

IsRequest-from : (parts : Parts) → AreFields parts → IsTrue (is_request parts) → IsRequest parts
IsRequest-from parts fields form =
    let all = fields_to parts fields in
    record {
      has_form = form;
      pan = fields.1.0;
      atc = fields.1.1.1.1.0;
      sizes = AllFields-sizes request_sizes (request_fields parts) all;
      bytes = AllFields-bytes request_sizes (request_fields parts) all;
    }

fields_text-request : (parts : Parts) → fields_text parts ≡ encode_lower (request_bytes parts)
fields_text-request parts = rw (encode_lower-concat (request_fields parts), append-nil (encode_lower parts.ac)) refl

-- a request
pub exact_request : Exact request_at IsRequest (λ parts. encode_lower (request_bytes parts)) anything
unfolding request_at
exact_request =
    exact_same request_at IsRequest IsRequest fields_text (λ parts. encode_lower (request_bytes parts)) anything
    (exact_map parts_at request_from AreFields fields_text anything IsRequest (λ parts. parts) exact_fields
    (λ parts request. (IsRequest-fields parts request, request_from-valid parts request.has_form))
    (λ parts request fields made.
    let from = request_from-some parts request made in
    (subst IsRequest from.1 (IsRequest-from parts fields from.0), sym from.1)))
    (λ parts request. request) (λ parts request. request) (λ parts request. fields_text-request parts)
