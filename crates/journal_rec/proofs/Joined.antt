-- Concatenations of lists.
use Rattle.std.proofs.Common.{◌≡◌, ℕ, ◌+◌, ◌<◌, List, [], ◌∷◌, ◌++◌, fold, sym, ◌∙◌, append_assoc}
use Rattle.std.proofs.lemmas.Fmt.{decimal_digit}
use Rattle.std.proofs.lemmas.List.{append-nil}
use Rattle.std.specs.List.{concat}
use Rattle.hex.specs.Hex.{encode_lower}
use Rattle.issuer_base.specs.declared.entry.Entry.TheVariants.{Status}
use Rattle.journal_rec.specs.RecordText.{pan_bytes, text_of}

-- lists put behind a front are the front and then the lists joined
pub fold-concat : (front : List ℕ) (lists : List (List ℕ)) → fold (λ out list. out ++ list) front lists ≡ front ++ concat lists
fold-concat front [] = sym (append-nil front)
fold-concat front (list ∷ lists) = fold-concat (front ++ list) lists ∙ append_assoc front list (concat lists)

regroup : (pan psn digits : List ℕ)
    → ((115 ∷ ((32 ∷ pan) ++ (32 ∷ psn))) ++ 32 ∷ [] ++ digits) ++ 10 ∷ [] ≡ 115 ∷ 32 ∷ (pan ++ 32 ∷ (psn ++ 32 ∷ digits)) ++ 10 ∷ []
regroup pan psn digits = simp append_assoc

-- the line of a status as it is put together
pub text_of-Status : (pan : List ℕ) (psn status : ℕ) → status < 10
    → ((115 ∷ ((32 ∷ encode_lower (pan_bytes pan)) ++ (32 ∷ encode_lower (psn ∷ [])))) ++ 32 ∷ [] ++ (48 + status) ∷ []) ++ 10 ∷ []
    ≡ text_of (Status pan psn status)
unfolding text_of
text_of-Status pan psn status one_digit =
    rw (decimal_digit status one_digit) (regroup (encode_lower (pan_bytes pan)) (encode_lower (psn ∷ [])) ((48 + status) ∷ []))
