-- What was looked up again, element by element.
use Rattle.std.proofs.Common.{◌≡◌, ℕ, zero, suc, ◌+◌, ◌<◌, List, [], ◌∷◌, ◌++◌, Result, Ok, Err, All, get_or, take, drop, length, arith, refl, sym, ap, subst, ◌∙◌}
use Rattle.std.proofs.lemmas.List.{take_more, get_or-drop}
use Rattle.std.proofs.lemmas.List.Elements.{All-head, All-tail}
use Rattle.std.proofs.lemmas.Slice.Zip.{all_zipped_more}
use Rattle.std.specs.List.{AllZip}
use Rattle.issuer_base.specs.declared.answer.Refusal.{Refusal}
use Rattle.issuer_setup.specs.IssuerSetup.{Setup}
use Rattle.line_checks.specs.declared.looked_up.LookedUp.{LookedUp}
use Rattle.line_checks.specs.declared.looked_up.LookedUp.TheVariants.{Request as IsRequest, Order}
use Rattle.line_checks.specs.LookedUp.{IsReady, IsLookedUpAgain}

-- one more pair
pub zip_more : {A B : Type 0} (R : A → B → Type 0) (xs : List A) (i : ℕ) (x : A) (ys : List B) (y : B) → i < length xs → x ≡ get_or xs i x
    → AllZip R (take i xs) ys → R x y → AllZip R (take (i + 1) xs) (ys ++ y ∷ [])
zip_more R xs i x ys y within is so_far new =
    subst (λ front. AllZip R front (ys ++ y ∷ [])) (sym (take_more xs i x within ∙ ap (λ z. take i xs ++ z ∷ []) (sym is)))
    (all_zipped_more R (take i xs) ys x y so_far new)

-- a pair at an index
pub zip-at : {A B : Type 0} (R : A → B → Type 0) (xs : List A) (ys : List B) (i : ℕ) (d : A) (e : B) → AllZip R xs ys → i < length xs
    → R (get_or xs i d) (get_or ys i e)
zip-at R [] ys i d e zipped within = absurd (omega (arith, within))
zip-at R (x ∷ xs) [] i d e zipped within = absurd zipped
zip-at R (x ∷ xs) (y ∷ ys) zero d e zipped within = zipped.0
zip-at R (x ∷ xs) (y ∷ ys) (suc i) d e zipped within = zip-at R xs ys i d e zipped.1 (omega (arith, within))

-- lists that are the same from an index on have the same element there
pub same-from : {A : Type 0} (xs ys : List A) (i : ℕ) (d : A) → drop i xs ≡ drop i ys → get_or xs i d ≡ get_or ys i d
same-from xs ys i d same =
    let place : i ≡ i + 0 = omega arith in
    ap (λ n. get_or xs n d) place ∙ sym (get_or-drop i xs 0 d) ∙ ap (λ zs. get_or zs 0 d) same ∙ get_or-drop i ys 0 d ∙ ap (λ n. get_or ys n d) (sym place)

-- a look-up finds the same as itself
pub again-same : (issuer : Setup) (found : Result LookedUp Refusal) → IsReady issuer found → IsLookedUpAgain issuer found found
again-same issuer (Ok (IsRequest sought)) ready = record { request_is = refl; card_is = refl; slot_is = refl; at_hand = ready }
again-same issuer (Ok (Order order)) ready = refl
again-same issuer (Err refusal) ready = refl

pub again-all : (issuer : Setup) (found : List (Result LookedUp Refusal)) → All (IsReady issuer) found → AllZip (IsLookedUpAgain issuer) found found
again-all issuer [] ready = tt
again-all issuer (first ∷ rest) ready =
    (again-same issuer first (All-head (IsReady issuer) first rest ready), again-all issuer rest (All-tail (IsReady issuer) first rest ready))
