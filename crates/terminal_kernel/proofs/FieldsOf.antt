-- What is known of the fields of a request that the program holds.
use Rattle.std.proofs.Common.{ℕ, zero, suc, List, [], ◌∷◌, ◌++◌, slice_index, slice_index_or, refl, ap, lit<, arith}
use Rattle.std.specs.List.{concat}
use Rattle.hex.specs.Hex.{IsBytes}
use Rattle.issuer_base.specs.declared.request.Parts.{Parts}
use Rattle.journal_rec.specs.RecordText.{request_fields}
use Rattle.journal_rec.specs.Record.{IsRequest}
use Rattle.journal_rec.proofs.Words.{IsField}
use Rattle.terminal_kernel.specs.Held.{HasBytes, IsHeld}

IsBytes-front : (bytes more : List ℕ) → IsBytes (bytes ++ more) → IsBytes bytes
IsBytes-front [] more fits i = lit< tt
IsBytes-front (byte ∷ bytes) more fits zero = fits 0
IsBytes-front (byte ∷ bytes) more fits (suc i) = IsBytes-front bytes more (λ k. fits (suc k)) i

IsBytes-behind : (bytes more : List ℕ) → IsBytes (bytes ++ more) → IsBytes more
IsBytes-behind [] more fits = fits
IsBytes-behind (byte ∷ bytes) more fits = IsBytes-behind bytes more (λ k. fits (suc k))

-- the field with this number
abbrev field_of : ℕ → List (List ℕ) → List ℕ
field_of number fields = slice_index_or fields number []

-- each field of joined bytes has bytes
IsBytes-field : (number : ℕ) (fields : List (List ℕ)) → IsBytes (concat fields) → IsBytes (field_of number fields)
IsBytes-field number [] fits i = lit< tt
IsBytes-field zero (field ∷ fields) fits i = IsBytes-front field (concat fields) fits i
IsBytes-field (suc number) (field ∷ fields) fits i = IsBytes-field number fields (IsBytes-behind field (concat fields) fits) i

-- the fields of a request have their sizes
pub record HasFields (request : Parts) : Type 0 where
  pub psn : IsField 1 (request.psn ∷ [])
  pub aip : IsField 2 request.aip
  pub tvr : IsField 5 request.tvr
  pub date : IsField 3 request.date
  pub kind : IsField 1 (request.kind ∷ [])
  pub amount : IsField 6 request.amount
  pub other : IsField 6 request.other
  pub country : IsField 2 request.country
  pub currency : IsField 2 request.currency
  pub un : IsField 4 request.un
  pub cid : IsField 1 (request.cid ∷ [])
  pub iad : IsField 32 request.iad
  pub ac : IsField 8 request.ac

pub has_fields : (request : Parts) → IsRequest request → HasFields request
has_fields request held = record {
  psn = record { size = refl; bytes = IsBytes-field 1 fields held.bytes };
  aip = record { size = ap (λ (sizes : List ℕ). slice_index sizes 2) held.sizes; bytes = IsBytes-field 2 fields held.bytes };
  tvr = record { size = ap (λ (sizes : List ℕ). slice_index sizes 4) held.sizes; bytes = IsBytes-field 4 fields held.bytes };
  date = record { size = ap (λ (sizes : List ℕ). slice_index sizes 5) held.sizes; bytes = IsBytes-field 5 fields held.bytes };
  kind = record { size = refl; bytes = IsBytes-field 6 fields held.bytes };
  amount = record { size = ap (λ (sizes : List ℕ). slice_index sizes 7) held.sizes; bytes = IsBytes-field 7 fields held.bytes };
  other = record { size = ap (λ (sizes : List ℕ). slice_index sizes 8) held.sizes; bytes = IsBytes-field 8 fields held.bytes };
  country = record { size = ap (λ (sizes : List ℕ). slice_index sizes 9) held.sizes; bytes = IsBytes-field 9 fields held.bytes };
  currency = record { size = ap (λ (sizes : List ℕ). slice_index sizes 10) held.sizes; bytes = IsBytes-field 10 fields held.bytes };
  un = record { size = ap (λ (sizes : List ℕ). slice_index sizes 11) held.sizes; bytes = IsBytes-field 11 fields held.bytes };
  cid = record { size = refl; bytes = IsBytes-field 12 fields held.bytes };
  iad = record { size = ap (λ (sizes : List ℕ). slice_index sizes 13) held.sizes; bytes = IsBytes-field 13 fields held.bytes };
  ac = record { size = ap (λ (sizes : List ℕ). slice_index sizes 14) held.sizes; bytes = IsBytes-field 14 fields held.bytes };
}
  where
    fields : List (List ℕ)
    fields = request_fields request

has_bytes : (count : ℕ) (field : List ℕ) → IsField count field → HasBytes count field
has_bytes count field right = record { size = right.size; bytes = right.bytes }

-- a request that the program holds is one
pub held_request : (request : Parts) → IsRequest request → IsHeld request
held_request request held =
    let f = has_fields request held in
    record {
      has_form = held.has_form;
      pan = held.pan;
      psn = omega (arith, f.psn.bytes 0);
      aip = has_bytes 2 request.aip f.aip;
      atc = held.atc;
      tvr = has_bytes 5 request.tvr f.tvr;
      date = has_bytes 3 request.date f.date;
      kind = omega (arith, f.kind.bytes 0);
      amount = has_bytes 6 request.amount f.amount;
      other = has_bytes 6 request.other f.other;
      country = has_bytes 2 request.country f.country;
      currency = has_bytes 2 request.currency f.currency;
      un = has_bytes 4 request.un f.un;
      cid = omega (arith, f.cid.bytes 0);
      iad = has_bytes 32 request.iad f.iad;
      ac = has_bytes 8 request.ac f.ac;
    }
