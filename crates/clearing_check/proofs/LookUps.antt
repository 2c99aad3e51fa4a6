-- What was looked up for lines, and what is known of the cryptograms.
use Rattle.std.proofs.Common.{◌≡◌, ◌≢◌, ℕ, zero, suc, Bool, true, false, if◌then◌else◌, List, [], ◌∷◌, Option, Result, Ok, Err, Some, IfOk, get_or, set, sym, ap, subst, ◌∙◌, inl, inr}
use Rattle.std.specs.Prelude.{IsSome, is_some}
use Rattle.std.specs.List.{AllZip}
use Rattle.std.proofs.lemmas.Bool.{cases_Bool}
use Rattle.std.proofs.lemmas.Slice.Eq.{bytes_eq-Decides}
use Rattle.des_block.specs.declared.Key16.{Key16}
use Rattle.issuer_base.specs.declared.request.Request.{Request}
use Rattle.issuer_base.specs.declared.answer.Refusal.TheVariants.{BadCryptogram}
use Rattle.key_derive.specs.declared.card.CardKeys.{CardKeys}
use Rattle.cryptogram_in.specs.Cryptogram.{application_cryptogram}
use Rattle.card_history.specs.Records.{card_of}
use Rattle.issuer_setup.specs.CardList.{number_of}
use Rattle.issuer_setup.specs.declared.kept_keys.KeySlot.{KeySlot}
use Rattle.issuer_setup.specs.IssuerSetup.{Setup, keys_of}
use Rattle.issuer_setup.specs.KeySlots.{keys_at, IsSlotOf}
use Rattle.line_checks.specs.LookedUp.{IsVerdict}
use Rattle.line_checks.specs.Reading.{is_right}
use Rattle.line_checks.specs.declared.looked_up.LookedUpRequest.{LookedUpRequest}
use Rattle.line_checks.specs.declared.looked_up.CryptogramVerdict.TheVariants.{Right, Unchecked, Wrong}
use Rattle.clearing_check.specs.declared.verdict.Verdict.{Verdict}
use Rattle.clearing_check.specs.declared.verdict.Verdict.TheVariants.{Refused, WrongKind}
use Rattle.clearing_check.specs.ClearingLine.{Presented, IsSought, IsLookUp, is_final, of_card, under_keys}

-- the keys of what was looked up are stored
pub known-keys : (issuer : Setup) (presented : Result Presented Verdict) (found : Result LookedUpRequest Verdict)
    → IsLookUp issuer presented found → IfOk found (λ sought. IsSome (keys_at issuer sought.slot))
known-keys issuer presented (Ok sought) its = ap is_some its.slot_is.stored
known-keys issuer presented (Err verdict) its = tt

-- the checks before that of the cryptogram, by whether it ends a transaction
on_final : Setup → ℕ → Request → Bool → Result Presented Verdict
on_final issuer card request final = if final then under_keys card (keys_of issuer card request) request else Err WrongKind

-- a request that passes them
pub sought-is : (issuer : Setup) (request : Request) (card : ℕ) (slot : KeySlot)
    → number_of (card_of request) issuer.cards ≡ Some card → is_final request ≡ true → IsSlotOf issuer card request slot
    → IsSought issuer (of_card issuer (number_of (card_of request) issuer.cards) request)
    (record { request = request; card = card; slot = slot; verdict = Unchecked })
unfolding on_final
sought-is issuer request card slot number final slot_is = record {
  slot_is = slot_is;
  verdict_is = tt;
  presented_is =
      ap (λ (found : Option ℕ). of_card issuer found request) number ∙ ap (on_final issuer card request) final
      ∙ ap (λ (keys : Option CardKeys). under_keys card keys request) slot_is.keys_are;
}

-- ---- whether the cryptogram is right

-- what is presented
either : LookedUpRequest → Bool → Result Presented Verdict
either sought right =
    if right then Ok (record { card = sought.card; request = sought.request }) else Err (Refused BadCryptogram)

right-is : (keys : CardKeys) (request : Request) → request.ac ≡ application_cryptogram keys request
    → true ≡ is_right keys request
right-is keys request ac = sym ((bytes_eq-Decides request.ac (application_cryptogram keys request)).1 ac)

wrong-is : (keys : CardKeys) (request : Request) → request.ac ≢ application_cryptogram keys request
    → false ≡ is_right keys request
wrong-is keys request other = elim (cases_Bool (is_right keys request)) [
  | inl is ↦ absurd (other ((bytes_eq-Decides request.ac (application_cryptogram keys request)).0 is))
  | inr wrong ↦ sym wrong
]

module _ (issuer : Setup) (presented : Result Presented Verdict) (sought : LookedUpRequest)
    (its : IsSought issuer presented sought) where
  -- it was checked now
  pub checked-presented : (right : Bool) → right ≡ is_right its.slot_is.keys sought.request
      → presented ≡ (if right then Ok (record { card = sought.card; request = sought.request })
      else Err (Refused BadCryptogram))
  unfolding either
  checked-presented right is = its.presented_is ∙ ap (either sought) (sym is)

  -- it was checked before, and is right
  pub right-presented : (key : Key16) → sought.verdict ≡ Right key
      → presented ≡ Ok (record { card = sought.card; request = sought.request })
  right-presented key is =
      let known : IsVerdict its.slot_is.keys sought.request (Right key) =
      subst (IsVerdict its.slot_is.keys sought.request) is its.verdict_is in
      checked-presented true (right-is its.slot_is.keys sought.request known.ac_is)

  -- or wrong
  pub wrong-presented : sought.verdict ≡ Wrong → presented ≡ Err (Refused BadCryptogram)
  wrong-presented is =
      checked-presented false (wrong-is its.slot_is.keys sought.request
      (subst (IsVerdict its.slot_is.keys sought.request) is its.verdict_is))

-- ---- one element of two lists changes

pub set-right : {A B : Type 0} (R : A → B → Type 0) (xs : List A) (ys : List B) (i : ℕ) (d y : B) → AllZip R xs ys
    → ((x : A) → R x (get_or ys i d) → R x y) → AllZip R xs (set ys i y)
set-right R [] [] i d y zipped new = zipped
set-right R [] (first ∷ ys) i d y zipped new = absurd zipped
set-right R (x ∷ xs) [] i d y zipped new = absurd zipped
set-right R (x ∷ xs) (first ∷ ys) zero d y zipped new = (new x zipped.0, zipped.1)
set-right R (x ∷ xs) (first ∷ ys) (suc i) d y zipped new = (zipped.0, set-right R xs ys i d y zipped.1 new)

pub set-left : {A B : Type 0} (R : A → B → Type 0) (xs : List A) (ys : List B) (i : ℕ) (d x : A) → AllZip R xs ys
    → ((y : B) → R (get_or xs i d) y → R x y) → AllZip R (set xs i x) ys
set-left R [] [] i d x zipped new = zipped
set-left R [] (y ∷ ys) i d x zipped new = absurd zipped
set-left R (first ∷ xs) [] i d x zipped new = absurd zipped
set-left R (first ∷ xs) (y ∷ ys) zero d x zipped new = (new y zipped.0, zipped.1)
set-left R (first ∷ xs) (y ∷ ys) (suc i) d x zipped new = (zipped.0, set-left R xs ys i d x zipped.1 new)
