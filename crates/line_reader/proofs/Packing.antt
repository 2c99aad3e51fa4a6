-- Lines that lie in a buffer lie there where more bytes follow.
use Rattle.std.proofs.Common.{◌≡◌, ℕ, ◌-◌, ◌≤◌, List, [], ◌∷◌, ◌++◌, length, map, drop, take, All, refl, ap, ap₂, ◌∙◌, arith, length-append}
use Rattle.std.proofs.lemmas.List.{drop-append-le, length-drop, take-append-le}
use Rattle.std.proofs.lemmas.List.Elements.{All-head, All-tail}
use Rattle.std.proofs.Math.Seq.{drop-append_seam, take-length}
use Rattle.line_reader.specs.declared.packed.Span.{Span}
use Rattle.line_reader.specs.KeptLines.{LiesIn, line_at}

module _ (most : ℕ) (bytes more : List ℕ) where
  -- a line is what it was
  line-stays : (span : Span) → LiesIn most bytes span → line_at (bytes ++ more) span ≡ line_at bytes span
  line-stays span lies =
      let before : span.start ≤ length bytes = omega (arith, lies.in_order, lies.within) in
      let enough : span.end - span.start ≤ length (drop span.start bytes) = omega (arith, length-drop span.start bytes, lies.in_order, lies.within) in
      ap (λ (rest : List ℕ). take (span.end - span.start) rest) (drop-append-le span.start bytes more before)
      ∙ take-append-le (span.end - span.start) (drop span.start bytes) more enough

  -- so are all lines
  pub lines-stay : (spans : List Span) → All (LiesIn most bytes) spans → map (line_at (bytes ++ more)) spans ≡ map (line_at bytes) spans
  lines-stay [] lie = refl
  lines-stay (span ∷ spans) lie =
      ap₂ (λ (line : List ℕ) (lines : List (List ℕ)). line ∷ lines) (line-stays span (All-head (LiesIn most bytes) span spans lie))
      (lines-stay spans (All-tail (LiesIn most bytes) span spans lie))

  -- and the bytes that follow are the last line
  pub last-line : (span : Span) → span.start ≡ length bytes → span.end ≡ length (bytes ++ more) → line_at (bytes ++ more) span ≡ more
  last-line span from to =
      let count : span.end - span.start ≡ length more = omega (arith, length-append bytes more, from, to) in
      ap (λ (start : ℕ). take (span.end - span.start) (drop start (bytes ++ more))) from
      ∙ ap (λ (rest : List ℕ). take (span.end - span.start) rest) (drop-append_seam bytes more)
      ∙ ap (λ (number : ℕ). take number more) count
      ∙ take-length more
