-- The lines of a stream are taken in one way, up to its first bad line.
use Rattle.std.proofs.Common.{◌≡◌, ◌⊎◌, ℕ, List, [], ◌∷◌, ◌++◌, length, inl, inr, refl, sym, ap, subst, ◌∙◌, arith, append_assoc, append-nil}
use Rattle.std.proofs.lemmas.List.{length-append, same_from_push}
use Rattle.std.specs.List.{AllByRecursion, flat_map}
use Rattle.issuer_base.specs.declared.entry.Entry.{Entry}
use Rattle.issuer_setup.specs.IssuerSetup.{Setup}
use Rattle.line_reader.specs.Lines.{IsUnbroken, ended}
use Rattle.line_reader.proofs.LineLaws.{IsLinesAndRest-same}
use Rattle.standby_node.specs.FeedLines.{IsBadLine, TakesLine}
use Rattle.standby_node.specs.Streams.{StopsBadly, TakesLines, TakesStream, line_number}
use Rattle.standby_node.proofs.Lines.{takes-bad, takes-one}

-- ---- lines of one text

not_unbroken : (line more : List ℕ) → IsUnbroken (line ++ 10 ∷ more) → ⊥
not_unbroken [] more unbroken = unbroken.0 refl
not_unbroken (byte ∷ line) more unbroken = not_unbroken line more unbroken.1

first-line : (line other more rest : List ℕ) → IsUnbroken line → IsUnbroken other → line ++ 10 ∷ more ≡ other ++ 10 ∷ rest
    → (line ≡ other) × (more ≡ rest)
first-line [] [] more rest p q same = (refl, cc)
first-line [] (b ∷ other) more rest p q same = absurd (q.0 (let is : b ≡ 10 = cc in is))
first-line (a ∷ line) [] more rest p q same = absurd (p.0 (let is : a ≡ 10 = cc in is))
first-line (a ∷ line) (b ∷ other) more rest p q same =
    let heads : a ≡ b = cc in
    let tails : line ++ 10 ∷ more ≡ other ++ 10 ∷ rest = cc in
    let both = first-line line other more rest p.1 q.1 tails in
    let first = both.0 in
    (cc, both.1)

regrouped : (line : List ℕ) (whole : List (List ℕ)) (rest : List ℕ) → flat_map ended (line ∷ whole) ++ rest ≡ line ++ 10 ∷ (flat_map ended whole ++ rest)
regrouped line whole rest = append_assoc (ended line) (flat_map ended whole) rest ∙ append_assoc line (10 ∷ []) (flat_map ended whole ++ rest)

-- of two lists of whole lines of one text one is a prefix of the other
prefixes : (some others : List (List ℕ)) (ahead behind : List ℕ) → AllByRecursion IsUnbroken some → AllByRecursion IsUnbroken others
    → flat_map ended some ++ ahead ≡ flat_map ended others ++ behind
    → ((more : List (List ℕ)) × (others ≡ some ++ more)) ⊎ ((more : List (List ℕ)) × (some ≡ others ++ more))
prefixes [] others ahead behind p q same = inl (others, refl)
prefixes (line ∷ some) [] ahead behind p q same = inr (line ∷ some, refl)
prefixes (line ∷ some) (other ∷ others) ahead behind p q same =
    let first = first-line line other (flat_map ended some ++ ahead) (flat_map ended others ++ behind) p.0 q.0
    (sym (regrouped line some ahead) ∙ same ∙ regrouped other others behind) in
    let joined = λ (xs : List (List ℕ)). ap (λ (l : List ℕ). l ∷ xs) first.0 in
    elim (prefixes some others ahead behind p.1 q.1 first.1) [
      | inl (more, is) ↦ inl (more, ap (λ (xs : List (List ℕ)). other ∷ xs) is ∙ sym (joined (some ++ more)))
      | inr (more, is) ↦ inr (more, ap (λ (xs : List (List ℕ)). line ∷ xs) is ∙ joined (others ++ more))
    ]

-- all whole lines of a text begin with some of them
pub whole-begins : (some whole : List (List ℕ)) (ahead rest : List ℕ) → AllByRecursion IsUnbroken some → AllByRecursion IsUnbroken whole → IsUnbroken rest
    → flat_map ended some ++ ahead ≡ flat_map ended whole ++ rest → (more : List (List ℕ)) × (whole ≡ some ++ more)
whole-begins [] whole ahead rest p q r same = (whole, refl)
whole-begins (line ∷ some) [] ahead rest p q r same =
    absurd (not_unbroken line (flat_map ended some ++ ahead) (subst IsUnbroken (sym same ∙ regrouped line some ahead) r))
whole-begins (line ∷ some) (other ∷ whole) ahead rest p q r same =
    let first = first-line line other (flat_map ended some ++ ahead) (flat_map ended whole ++ rest) p.0 q.0
    (sym (regrouped line some ahead) ∙ same ∙ regrouped other whole rest) in
    let more = whole-begins some whole ahead rest p.1 q.1 r first.1 in
    (more.0, ap (λ (xs : List (List ℕ)). other ∷ xs) more.1 ∙ sym (ap (λ (l : List ℕ). l ∷ (some ++ more.0)) first.0))

-- ---- lines that are taken

module _ (issuer : Setup) where
  -- one line more
  pub takes-push : (opening histories after : List (List Entry)) (lines : List (List ℕ)) (line : List ℕ)
      → TakesLines issuer opening lines histories → TakesLine issuer histories line after → TakesLines issuer opening (lines ++ line ∷ []) after
  takes-push opening histories after [] line same takes = (after, subst (λ (h : List (List Entry)). TakesLine issuer h line after) same takes, refl)
  takes-push opening histories after (first ∷ lines) line (between, one, more) takes =
      (between, one, takes-push between histories after lines line more takes)

  pub takes_lines-one : (opening histories others : List (List Entry)) (lines : List (List ℕ))
      → TakesLines issuer opening lines histories → TakesLines issuer opening lines others → histories ≡ others
  takes_lines-one opening histories others [] one two = one ∙ sym two
  takes_lines-one opening histories others (line ∷ lines) (between, one, more) (among, two, further) =
      takes_lines-one between histories others lines more
      (subst (λ (h : List (List Entry)). TakesLines issuer h lines others) (sym (takes-one issuer opening line between among one two)) further)

  -- of lines that are all taken none is bad
  lines-bad : (opening histories others : List (List Entry)) (before more : List (List ℕ)) (line : List ℕ)
      → TakesLines issuer opening (before ++ line ∷ more) histories → TakesLines issuer opening before others → IsBadLine issuer others line → ⊥
  lines-bad opening histories others [] more line (between, one, rest) same bad =
      takes-bad issuer opening line between one (subst (λ (h : List (List Entry)). IsBadLine issuer h line) same bad)
  lines-bad opening histories others (first ∷ before) more line (between, one, rest) (among, two, further) bad =
      lines-bad between histories others before more line rest
      (subst (λ (h : List (List Entry)). TakesLines issuer h before others) (sym (takes-one issuer opening first between among one two)) further) bad

  module _ (opening histories others : List (List Entry)) (stream : List ℕ) where
    pub stream-one : TakesStream issuer opening stream histories → TakesStream issuer opening stream others → histories ≡ others
    stream-one one two =
        let same = IsLinesAndRest-same stream one.lines two.lines one.rest two.rest one.split two.split in
        takes_lines-one opening histories others one.lines one.taken
        (subst (λ (lines : List (List ℕ)). TakesLines issuer opening lines others) (sym same.0) two.taken)

    pub stream-bad : (number : ℕ) → TakesStream issuer opening stream histories → StopsBadly issuer opening stream number others → ⊥
    stream-bad number takes stops =
        let s = stops.stops in
        let more = whole-begins (s.before ++ stops.line ∷ []) takes.lines s.ahead takes.rest s.begins.each takes.split.begins.each takes.split.unbroken
        (sym s.begins.joined ∙ takes.split.begins.joined) in
        lines-bad opening histories others s.before more.0 stops.line
        (subst (λ (lines : List (List ℕ)). TakesLines issuer opening lines histories)
        (more.1 ∙ append_assoc s.before (stops.line ∷ []) more.0) takes.taken) s.taken stops.bad

  -- a list without its last element
  without_last : (some behind : List (List ℕ)) (other next : List ℕ) (more : List (List ℕ)) → behind ++ other ∷ [] ≡ some ++ next ∷ more
      → (rest : List (List ℕ)) × (behind ≡ some ++ rest)
  without_last [] behind other next more same = (behind, refl)
  without_last (line ∷ some) [] other next more same =
      let sizes = ap length same in
      let whole = length-append some (next ∷ more) in
      absurd (omega (arith, sizes, whole))
  without_last (line ∷ some) (first ∷ behind) other next more same =
      let heads : first ≡ line = cc in
      let tails : behind ++ other ∷ [] ≡ some ++ next ∷ more = cc in
      let found = without_last some behind other next more tails in
      (found.0, ap (λ (xs : List (List ℕ)). first ∷ xs) found.1 ∙ ap (λ (l : List ℕ). l ∷ (some ++ found.0)) heads)

  -- after a bad line no other one is the first
  later-bad : (opening histories others : List (List Entry)) (before behind more : List (List ℕ)) (line other : List ℕ)
      → TakesLines issuer opening before histories → IsBadLine issuer histories line
      → TakesLines issuer opening behind others → behind ++ other ∷ [] ≡ (before ++ line ∷ []) ++ more → behind ≡ before
  later-bad opening histories others before behind [] line other one bad two same =
      (same_from_push behind before other line (same ∙ append-nil (before ++ line ∷ []))).0
  later-bad opening histories others before behind (next ∷ more) line other one bad two same =
      let rest = without_last (before ++ line ∷ []) behind other next more same in
      absurd (lines-bad opening others histories before rest.0 line
      (subst (λ (lines : List (List ℕ)). TakesLines issuer opening lines others)
      (rest.1 ∙ append_assoc before (line ∷ []) rest.0) two) one bad)

  pub first-bad : (opening histories others : List (List Entry)) (stream : List ℕ) (number other : ℕ)
      → StopsBadly issuer opening stream number histories → StopsBadly issuer opening stream other others
      → (number ≡ other) × (histories ≡ others)
  first-bad opening histories others stream number other one two =
      let first = one.stops in
      let second = two.stops in
      let same : first.before ≡ second.before =
      elim (prefixes (first.before ++ one.line ∷ []) (second.before ++ two.line ∷ []) first.ahead second.ahead first.begins.each second.begins.each
      (sym first.begins.joined ∙ second.begins.joined)) [
        | inl (more, is) ↦
            sym (later-bad opening histories others first.before second.before more one.line two.line first.taken one.bad second.taken is)
        | inr (more, is) ↦
            later-bad opening others histories second.before first.before more two.line one.line second.taken two.bad first.taken is
      ] in (
        first.number_is ∙ ap (λ (lines : List (List ℕ)). line_number (length lines)) same ∙ sym second.number_is,
        takes_lines-one opening histories others first.before first.taken
            (subst (λ (lines : List (List ℕ)). TakesLines issuer opening lines others) (sym same) second.taken),
      )
