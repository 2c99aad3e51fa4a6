-- The words of the opening records, one record after another.
use Rattle.std.proofs.Common.{◌≡◌, ◌≢◌, ℕ, ◌+◌, ◌<◌, ◌≤◌, List, [], ◌∷◌, ◌++◌, length, get_or, set, take, drop, max, bit_or, inl, inr, sym, ap, ◌∙◌, refl}
use Rattle.std.proofs.Common.{subst, arith, length-set}
use Rattle.std.proofs.lemmas.Bool.{cases_eq, cases_lt}
use Rattle.std.proofs.lemmas.List.{take_more, take-append-drop}
use Rattle.std.proofs.lemmas.Grind.{get_or_default_zero}
use Rattle.shared_seats.specs.Totals.{one_if}
use Rattle.shared_seats.proofs.Totals.{total-append}
use Rattle.claim_words.specs.declared.layout.TheConstants.{COUNTERS}
use Rattle.claim_words.specs.Layout.{word_of, top_word_of, mask_of, bit_of, top_of}
use Rattle.claim_words.specs.ClaimViews.{is_pair, times}
use Rattle.claim_words.specs.Opening.{AreOpening}
use Rattle.claim_words.proofs.ClaimBits
use Rattle.claim_words.proofs.ClaimCounts
use Rattle.claim_words.proofs.WordPlaces

-- the words with the pair's bit set
abbrev with_bit : List ℕ → ℕ → ℕ → List ℕ
with_bit words card counter = set words (word_of card counter) (bit_or (get_or words (word_of card counter) 0) (mask_of counter))

-- the words whose top for the card is above the ATC
abbrev with_top : List ℕ → ℕ → ℕ → List ℕ
with_top words card counter = set words (top_word_of card) (max (top_of words card) (counter + 1))

-- a known card's words are among the initial ones
pub claim-inside : (cards : ℕ) (pairs : List (ℕ × ℕ)) (words : List ℕ) (word card counter : ℕ) → AreOpening cards pairs words
    → word ≡ word_of card counter → card < cards → counter < COUNTERS → word < length words
claim-inside cards pairs words word card counter before is known small = omega (arith, is, before.wide, WordPlaces.claim-within cards card counter known small)

pub top-inside : (cards : ℕ) (pairs : List (ℕ × ℕ)) (words : List ℕ) (top card : ℕ) → AreOpening cards pairs words
    → top ≡ top_word_of card → card < cards → top < length words
top-inside cards pairs words top card before is known = omega (arith, is, before.wide, WordPlaces.top-within cards card known)

times-snoc : (card counter : ℕ) (pairs : List (ℕ × ℕ)) (pair : ℕ × ℕ)
    → times card counter (pairs ++ pair ∷ []) ≡ times card counter pairs + one_if (is_pair card counter pair.0 pair.1)
times-snoc card counter pairs pair = omega (arith, total-append (λ (p : ℕ × ℕ). one_if (is_pair card counter p.0 p.1)) pairs (pair ∷ []))

-- one record more
pub opening_more : (cards : ℕ) (pairs : List (ℕ × ℕ)) (words : List ℕ) (card counter : ℕ) → card < cards → counter < COUNTERS → times card counter pairs ≡ 0
    → AreOpening cards pairs words → AreOpening cards (pairs ++ (card, counter) ∷ []) (with_top (with_bit words card counter) card counter)
opening_more cards pairs words card counter within small fresh before =
    let word : ℕ = word_of card counter in
    let new : ℕ = bit_or (get_or words word 0) (mask_of counter) in
    let marked : List ℕ = with_bit words card counter in
    let raised : ℕ = max (top_of marked card) (counter + 1) in
    let after : List ℕ = with_top marked card counter in
    let more : (other_card other : ℕ)
    → times other_card other (pairs ++ (card, counter) ∷ []) ≡ times other_card other pairs + one_if (is_pair other_card other card counter) =
    λ other_card other. times-snoc other_card other pairs (card, counter) in
    let here : one_if (is_pair card counter card counter) ≡ 1 = ap one_if (ClaimCounts.pair-self card counter) in
    let there : (other_card other : ℕ) → ((other_card ≡ card) × (other ≡ counter) → ⊥) → one_if (is_pair other_card other card counter) ≡ 0 =
    λ other_card other apart. ap one_if (ClaimCounts.pair-other other_card other card counter apart) in
    let inside : word < length words = claim-inside cards pairs words word card counter before refl within small in
    let top_inside : top_word_of card < length marked =
    omega (arith, length-set words word new, top-inside cards pairs words (top_word_of card) card before refl within) in
    let old_top : (other_card : ℕ) → top_of marked other_card ≡ top_of words other_card = ClaimBits.top-set_bit words card counter new small in
    let top : top_of after card ≡ raised = ClaimBits.top-set marked card raised top_inside in
    let tops : (other_card : ℕ) → other_card ≢ card → top_of after other_card ≡ top_of marked other_card = ClaimBits.top-set_other marked card raised in
    let bits : (other_card other : ℕ) → other < COUNTERS → bit_of after other_card other ≡ bit_of marked other_card other =
    ClaimBits.bit-set_top marked card raised in
    record {
      wide = length-set marked (top_word_of card) raised ∙ length-set words word new ∙ before.wide;
      bits = λ other_card other also.
          elim (ClaimCounts.pair_cases other_card other card counter) [
            | inl same ↦
                let P : ℕ → ℕ → Type 0 = λ c k. bit_of after c k ≡ times c k (pairs ++ (card, counter) ∷ []) in
                let set_here : bit_of marked card counter ≡ 1 = ClaimBits.bit-set words card counter new small inside
                ∙ ClaimBits.bit-or (get_or words word 0) counter in
                let is : P card counter = omega (arith, bits card counter small, set_here, more card counter, here, fresh) in
                subst (λ (c : ℕ). P c other) (sym same.0) (subst (λ (k : ℕ). P card k) (sym same.1) is)
            | inr apart ↦
                let kept : bit_of marked other_card other ≡ bit_of words other_card other =
                ClaimBits.bit-set_other words card counter new small other_card other also apart
                (λ i below low. ClaimBits.bit-or_other (get_or words word 0) counter i low) in
                omega (arith, bits other_card other also, kept, before.bits other_card other also, more other_card other, there other_card other apart)
          ];
      above = λ other_card other held.
          elim (ClaimCounts.pair_cases other_card other card counter) [
            | inl same ↦
                let P : ℕ → ℕ → Type 0 = λ c k. k < top_of after c in
                let is : P card counter = omega (arith, top) in
                subst (λ (c : ℕ). P c other) (sym same.0) (subst (λ (k : ℕ). P card k) (sym same.1) is)
            | inr apart ↦
                let old : other < top_of words other_card =
                before.above other_card other (omega (arith, held, more other_card other, there other_card other apart)) in
                elim (cases_eq other_card card) [
                  | inl cards ↦
                      let P : ℕ → Type 0 = λ c. top_of words c ≤ top_of after c in
                      let up : P other_card = subst P (sym cards) (omega (arith, top, old_top card)) in
                      omega arith
                  | inr others ↦ omega (arith, tops other_card others, old_top other_card)
                ]
          ];
      greatest = λ other_card other e.
          elim (cases_eq other_card card) [
            | inl same ↦
                let P : ℕ → Type 0 = λ c. 0 < times c other (pairs ++ (card, counter) ∷ []) in
                let here_top : top_of after card ≡ other + 1 = subst (λ (c : ℕ). top_of after c ≡ other + 1) same e in
                subst P (sym same) (elim (cases_lt (top_of marked card) (counter + 1)) [
                  | inl up ↦
                      let is : other ≡ counter = omega (arith, top) in
                      subst (λ (k : ℕ). 0 < times card k (pairs ++ (card, counter) ∷ [])) (sym is) (omega (arith, more card counter, here))
                  | inr stays ↦
                      let old : top_of words card ≡ other + 1 = omega (arith, top, old_top card) in
                      omega (arith, before.greatest card other old, more card other)
                ])
            | inr apart ↦
                let old : top_of words other_card ≡ other + 1 = omega (arith, tops other_card apart, old_top other_card) in
                omega (arith, before.greatest other_card other old, more other_card other)
          ];
      small = λ other_card.
          elim (cases_eq other_card card) [
            | inl same ↦ subst (λ (c : ℕ). top_of after c ≤ COUNTERS) (sym same) (omega (arith, top, old_top card, before.small card))
            | inr apart ↦ omega (arith, tops other_card apart, old_top other_card, before.small other_card)
          ];
    }

-- one record more, as `opening_words` computes it
pub opening_step : (cards : ℕ) (recorded : List (ℕ × ℕ)) (words : List ℕ) (i word mask old top found raised : ℕ) → i < length recorded
    → (get_or recorded i (0, 0)).0 < cards → (get_or recorded i (0, 0)).1 < COUNTERS → ((card counter : ℕ) → times card counter recorded ≤ 1)
    → AreOpening cards (take i recorded) words
    → word ≡ word_of (get_or recorded i (0, 0)).0 (get_or recorded i (0, 0)).1 → mask ≡ mask_of (get_or recorded i (0, 0)).1
    → old ≡ get_or words word old → top ≡ top_word_of (get_or recorded i (0, 0)).0
    → found ≡ get_or (set words word (bit_or old mask)) top found → raised ≡ max found ((get_or recorded i (0, 0)).1 + 1)
    → AreOpening cards (take (i + 1) recorded) (set (set words word (bit_or old mask)) top raised)
opening_step cards recorded words i word mask old top found raised within known small once before word_is mask_is old_is top_is found_is raised_is =
    let pair : ℕ × ℕ = get_or recorded i (0, 0) in
    let more : take (i + 1) recorded ≡ take i recorded ++ pair ∷ [] = take_more recorded i (0, 0) within in
    let fresh : times pair.0 pair.1 (take i recorded) ≡ 0 =
    omega (
      arith,
      once pair.0 pair.1,
      ap (λ (pairs : List (ℕ × ℕ)). times pair.0 pair.1 pairs) (sym (take-append-drop (i + 1) recorded)),
      total-append (λ (p : ℕ × ℕ). one_if (is_pair pair.0 pair.1 p.0 p.1)) (take (i + 1) recorded) (drop (i + 1) recorded),
      ap (λ (pairs : List (ℕ × ℕ)). times pair.0 pair.1 pairs) more,
      times-snoc pair.0 pair.1 (take i recorded) pair,
      ap one_if (ClaimCounts.pair-self pair.0 pair.1),
    ) in
    let word_in : word < length words = claim-inside cards (take i recorded) words word pair.0 pair.1 before word_is known small in
    let old_word : old ≡ get_or words (word_of pair.0 pair.1) 0 = old_is ∙ get_or_default_zero words word old word_in
    ∙ ap (λ (k : ℕ). get_or words k 0) word_is in
    let marked : set words word (bit_or old mask) ≡ with_bit words pair.0 pair.1 =
    ap (λ (k : ℕ). set words k (bit_or old mask)) word_is
    ∙ ap (λ (n : ℕ). set words (word_of pair.0 pair.1) (bit_or n mask)) old_word
    ∙ ap (λ (n : ℕ). set words (word_of pair.0 pair.1) (bit_or (get_or words (word_of pair.0 pair.1) 0) n)) mask_is in
    let top_in : top < length (set words word (bit_or old mask)) =
    omega (arith, length-set words word (bit_or old mask), top-inside cards (take i recorded) words top pair.0 before top_is known) in
    let found_word : found ≡ top_of (with_bit words pair.0 pair.1) pair.0 =
    found_is
    ∙ get_or_default_zero (set words word (bit_or old mask)) top found top_in
    ∙ ap (λ (k : ℕ). get_or (set words word (bit_or old mask)) k 0) top_is
    ∙ ap (λ (ws : List ℕ). get_or ws (top_word_of pair.0) 0) marked in
    let after : set (set words word (bit_or old mask)) top raised ≡ with_top (with_bit words pair.0 pair.1) pair.0 pair.1 =
    ap (λ (ws : List ℕ). set ws top raised) marked
    ∙ ap (λ (k : ℕ). set (with_bit words pair.0 pair.1) k raised) top_is
    ∙ ap (λ (n : ℕ). set (with_bit words pair.0 pair.1) (top_word_of pair.0) n) (raised_is ∙ ap (λ (n : ℕ). max n (pair.1 + 1)) found_word) in
    subst (λ (pairs : List (ℕ × ℕ)). AreOpening cards pairs (set (set words word (bit_or old mask)) top raised)) (sym more)
    (subst (AreOpening cards (take i recorded ++ pair ∷ [])) (sym after) (opening_more cards (take i recorded) words pair.0 pair.1 known small fresh before))
