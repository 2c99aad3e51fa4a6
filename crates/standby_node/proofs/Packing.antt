-- The texts of lines after one more line.
use Rattle.std.proofs.Common.{◌≡◌, ℕ, zero, suc, List, [], ◌∷◌, ◌++◌, length, ◌∙◌, arith}
use Rattle.journal_rec.specs.RecordText.{text_of}
use Rattle.standby_node.specs.declared.line.ReadLine.{ReadLine}
use Rattle.standby_node.specs.KeptTexts.{HasText, HaveTexts}

-- one more line with its text
pub have-push : (lines : List ReadLine) (texts : List (List ℕ)) (line : ReadLine) (text : List ℕ) → length texts ≡ length lines
    → HaveTexts lines texts → HasText line text → HaveTexts (lines ++ line ∷ []) (texts ++ text ∷ [])
have-push [] [] line text same have has zero shard place entry other at at_text =
    let is : text ≡ text_of entry = has shard place entry (cc) in
    let same_text : other ≡ text = cc in
    same_text ∙ is
have-push [] [] line text same have has (suc i) shard place entry other at at_text = absurd (cc)
have-push [] (t ∷ texts) line text same have has i shard place entry other at at_text = absurd (omega arith)
have-push (l ∷ lines) [] line text same have has i shard place entry other at at_text = absurd (omega arith)
have-push (l ∷ lines) (t ∷ texts) line text same have has zero shard place entry other at at_text =
    have zero shard place entry other at at_text
have-push (l ∷ lines) (t ∷ texts) line text same have has (suc i) shard place entry other at at_text =
    have-push lines texts line text (omega arith) (λ j. have (suc j)) has i shard place entry other at at_text
