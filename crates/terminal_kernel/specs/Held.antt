-- What is so of each request that a program holds.
use Rattle.std.specs.Prelude.{◌≡◌, ℕ, ◌^◌, ◌<◌, IsTrue, List, length}
use Rattle.hex.specs.Hex.{IsBytes}
use Rattle.issuer_base.specs.CardNumber.{is_pan}
use Rattle.issuer_base.specs.ChipData.{is_request}
use Rattle.issuer_base.specs.declared.request.Parts.{Parts}

-- so many bytes
pub record HasBytes (count : ℕ) (field : List ℕ) : Type 0 where
  pub size : length field ≡ count
  pub bytes : IsBytes field

-- a request as a program holds it. A law over all requests ranges over lists of any length and numbers of any size:
-- this states which of them are values of the program
pub record IsHeld (request : Parts) : Type 0 where
  pub has_form : IsTrue (is_request request)
  pub pan : IsTrue (is_pan request.pan)
  pub psn : request.psn < 2 ^ 8
  pub aip : HasBytes 2 request.aip
  pub atc : request.atc < 2 ^ 16
  pub tvr : HasBytes 5 request.tvr
  pub date : HasBytes 3 request.date
  pub kind : request.kind < 2 ^ 8
  pub amount : HasBytes 6 request.amount
  pub other : HasBytes 6 request.other
  pub country : HasBytes 2 request.country
  pub currency : HasBytes 2 request.currency
  pub un : HasBytes 4 request.un
  pub cid : request.cid < 2 ^ 8
  pub iad : HasBytes 32 request.iad
  pub ac : HasBytes 8 request.ac
