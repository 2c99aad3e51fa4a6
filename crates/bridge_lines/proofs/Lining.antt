-- Where lines end, one after another, as a loop finds it.
use Rattle.std.proofs.Common.{◌≡◌, ℕ, suc, ◌+◌, ◌-◌, List, length, take, drop, Option, Some, None, refl, sym, ap, ◌∙◌, arith, take_all}
use Rattle.std.proofs.lemmas.List.{drop-drop, length-drop}
use Rattle.bridge_lines.specs.Parts.{◌>>=◌, place}
use Rattle.bridge_lines.specs.TurnReading.{lines_end}

abbrev pub after : ℕ → Option ℕ → Option ℕ
after start end = end >>= λ end. Some (start + end)

-- the lines that are left end where all lines do
pub record Ends (end left : ℕ) (text : List ℕ) (total : Option ℕ) : Type 0 where
  pub is : after end (lines_end left (drop end text)) ≡ total

abbrev then_lines : ℕ → List ℕ → Option ℕ → Option ℕ
then_lines left text place = place >>= λ at. lines_end left (drop (at + 1) text) >>= λ end. Some ((at + 1) + end)

lines-step : (left : ℕ) (text : List ℕ) → lines_end (suc left) text ≡ then_lines left text (place 10 text)
unfolding lines_end
lines-step left text = refl

lines-none : (text : List ℕ) → lines_end 0 text ≡ Some 0
unfolding lines_end
lines-none text = refl

regroup : (start more : ℕ) (end : Option ℕ) → after start (end >>= λ end. Some (more + end)) ≡ after (start + more) end
regroup start more (Some end) = ap (λ (n : ℕ). Some n) (omega arith)
regroup start more None = refl

module _ (end left : ℕ) (text : List ℕ) (total : Option ℕ) (ends : Ends end left text total) where
  pub ends-all : left ≡ 0 → Some end ≡ total
  ends-all none =
      ap (λ (n : ℕ). Some n) (omega arith) ∙ sym (ap (after end) (ap (λ n. lines_end n (drop end text)) none ∙ lines-none (drop end text))) ∙ ends.is

  pub ends-broken : (fewer : ℕ) → left ≡ suc fewer → place 10 (drop end text) ≡ None → None ≡ total
  ends-broken fewer more none =
      sym (ap (after end) (ap (λ n. lines_end n (drop end text)) more ∙ lines-step fewer (drop end text) ∙ ap (then_lines fewer
      (drop end text)) none)) ∙ ends.is

  pub ends-more : (fewer at : ℕ) → left ≡ suc fewer → place 10 (drop end text) ≡ Some at
      → Ends (end + (at + 1)) fewer text total
  ends-more fewer at more here = record {
    is = ap (λ rest. after (end + (at + 1)) (lines_end fewer rest)) (sym (drop-drop (at + 1) end text))
        ∙ sym (regroup end (at + 1) (lines_end fewer (drop (at + 1) (drop end text))))
        ∙ sym (ap (after end) (ap (λ n. lines_end n (drop end text)) more ∙ lines-step fewer (drop end text) ∙ ap (then_lines fewer (drop end text)) here))
        ∙ ends.is;
  }

-- a text from an offset on
pub rest-whole : (text : List ℕ) (end : ℕ) → take (length text - end) (drop end text) ≡ drop end text
rest-whole text end = take_all (length text - end) (drop end text) (let size = length-drop end text in omega (arith, size))
