-- A clearing check accounts for the approvals of the histories.
use Rattle.std.proofs.Common.{◌≡◌, ℕ, ◌+◌, Bool, true, false, not, ◌&&◌, ◌||◌, ◌==◌, List, [], ◌∷◌, length, map, refl, sym, ap, ap₂, subst, ◌∙◌, arith, inl, inr, Option, Some, None, Result, Ok, Err, bit_and, eq-eqb}
use Rattle.std.specs.Str.{bytes_eq}
use Rattle.std.specs.List.{count_by, filter, find, slice_get}
use Rattle.std.proofs.lemmas.Bool.{cases_Bool, and_from, and_parts, eqb-true, false≢true, ne_eqb, or_cases}
use Rattle.std.proofs.lemmas.List.{length-map}
use Rattle.std.proofs.lemmas.List.Filters.{length-filter_both}
use Rattle.std.proofs.lemmas.List.Sums.{length-filter}
use Rattle.std.proofs.lemmas.Option.{same_Some}
use lib.Pointwise.{bytes_decides}
use Rattle.issuer_base.specs.declared.entry.Entry.{Entry}
use Rattle.issuer_base.specs.declared.request.Request.{Request}
use Rattle.card_history.specs.OneReply.{IsOncePerCounter, record_at}
use Rattle.card_history.specs.Records.{card_of}
use Rattle.issuer_setup.specs.CardList.{name_of, number_of}
use Rattle.issuer_setup.specs.IssuerSetup.{Setup}
use Rattle.issuer_setup.proofs.CardListLemmas.{number_of-found}
use Rattle.clearing_check.specs.declared.filed.Filed.{Filed}
use Rattle.clearing_check.specs.declared.verdict.Verdict.{Verdict}
use Rattle.clearing_check.specs.declared.verdict.Verdict.TheVariants.{Certified}
use Rattle.clearing_check.specs.ClearText.{after_lines, verdicts_text}
use Rattle.clearing_check.specs.ClearingLine.{Presented, is_aac, is_final, is_tc, presented}
use Rattle.clearing_check.specs.Records.{has_atc, is_certified, opens, place_of}
use Rattle.clearing_check.specs.Verdicts.{agrees, certifies, filed_under, verdict, verdict_by, verdict_on}
use Rattle.journal_reader.specs.Filing.{filed_records}
use Rattle.journal_reader.specs.Accounts.{AccountsFor, Certifies, HaveKnownCards, approvals, certifies_at, is_certified_at}
use Rattle.journal_reader.proofs.Members.{Every, Every-from, Has, find-has}
use Rattle.journal_reader.proofs.Marks.{hits, is_hit, with_mark, own-marks, lines-marked, verdicts-marked}
use Rattle.journal_reader.proofs.Approvals.{approved-are, filed-apart, filed-has, filed-from, is_approved, same-atc, same-place}
use Rattle.journal_reader.proofs.Verdicts.{EndsChecks, IsChecked, by-certified, certified-by, certified-place, certifies-its, certifies-none, found-on, hits-at, line-checked}

-- ---- marked records, certified and open

remark-each : (mark other : Filed → Bool) (records : List Filed) → Every (λ filed. mark filed ≡ other filed) records
    → map (λ filed. with_mark (mark filed) filed) records ≡ map (λ filed. with_mark (other filed) filed) records
remark-each mark other [] same = refl
remark-each mark other (filed ∷ others) same =
    ap₂ (λ (x : Filed) (xs : List Filed). x ∷ xs) (ap (λ b. with_mark b filed) same.0) (remark-each mark other others same.1)

-- a record is marked by this test of its place, and only if it is approved
record IsMarkedBy (test : ℕ × ℕ → Bool) (mark : Filed → Bool) (filed : Filed) : Type 0 where
  by_place : mark filed ≡ test (place_of filed)
  approved : mark filed ≡ true → filed.approved ≡ true

module _ (test : ℕ × ℕ → Bool) (mark : Filed → Bool) where
  marked-certified : (records : List Filed) → Every (IsMarkedBy test mark) records
      → map place_of (filter is_certified (map (λ filed. with_mark (mark filed) filed) records))
      ≡ filter test (map place_of (filter is_approved records))
  marked-certified [] all = refl
  marked-certified (filed ∷ others) all =
      let rest = marked-certified others all.1 in
      elim (cases_Bool (mark filed)) [
        | inl is ↦
            let there : test (place_of filed) ≡ true = sym all.0.by_place ∙ is in
            rw (is, all.0.approved is, there) (ap (λ (xs : List (ℕ × ℕ)). place_of filed ∷ xs) rest)
        | inr isnt ↦
            let away : test (place_of filed) ≡ false = sym all.0.by_place ∙ isnt in
            elim (cases_Bool filed.approved) [
              | inl approved ↦ rw (isnt, approved, away) rest
              | inr declined ↦ rw (isnt, declined) rest
            ]
      ]

  marked-open : (records : List Filed) → Every (IsMarkedBy test mark) records
      → map place_of (opens (map (λ filed. with_mark (mark filed) filed) records))
      ≡ filter (λ at. not (test at)) (map place_of (filter is_approved records))
  marked-open [] all = refl
  marked-open (filed ∷ others) all =
      let rest = marked-open others all.1 in
      elim (cases_Bool (mark filed)) [
        | inl is ↦
            let there : test (place_of filed) ≡ true = sym all.0.by_place ∙ is in
            rw (is, all.0.approved is, there) rest
        | inr isnt ↦
            let away : test (place_of filed) ≡ false = sym all.0.by_place ∙ isnt in
            elim (cases_Bool filed.approved) [
              | inl approved ↦ rw (isnt, approved, away) (ap (λ (xs : List (ℕ × ℕ)). place_of filed ∷ xs) rest)
              | inr declined ↦ rw (isnt, declined) rest
            ]
      ]

-- ---- the account

final-tc : (request : Request) → is_final request ≡ true → is_aac request ≡ false → is_tc request ≡ true
unfolding is_final
final-tc request final not_aac =
    elim (or_cases (is_tc request) (is_aac request) final) [
      | inl tc ↦ tc
      | inr aac ↦ absurd (false≢true (sym not_aac ∙ aac))
    ]

tc-no_aac : (request : Request) → is_tc request ≡ true → is_aac request ≡ false
unfolding is_tc is_aac
tc-no_aac request tc =
    let bits = eqb-true (bit_and request.cid 0xC0) 0x40 tc in
    ne_eqb (bit_and request.cid 0xC0) 0 (λ none. omega (arith, bits, none))

parts-agree : (filed : Filed) (request : Request) → filed.amount ≡ request.amount → filed.currency ≡ request.currency
    → filed.date ≡ request.date → filed.un ≡ request.un → agrees filed request ≡ true
unfolding agrees
parts-agree filed request amount currency date un =
    and_from (bytes_eq filed.amount request.amount && bytes_eq filed.currency request.currency && bytes_eq filed.date request.date) _
    (and_from (bytes_eq filed.amount request.amount && bytes_eq filed.currency request.currency) _
    (and_from (bytes_eq filed.amount request.amount) _ ((bytes_decides _ _).1 amount) ((bytes_decides _ _).1 currency))
    ((bytes_decides _ _).1 date)) ((bytes_decides _ _).1 un)

-- the record and the request agree in these four
agree-parts : (filed : Filed) (request : Request) → agrees filed request ≡ true
    → (filed.amount ≡ request.amount) × (filed.currency ≡ request.currency) × (filed.date ≡ request.date) × (filed.un ≡ request.un)
unfolding agrees
agree-parts filed request agree =
    let un = and_parts (bytes_eq filed.amount request.amount && bytes_eq filed.currency request.currency && bytes_eq filed.date request.date)
    (bytes_eq filed.un request.un) agree in
    let date = and_parts (bytes_eq filed.amount request.amount && bytes_eq filed.currency request.currency)
    (bytes_eq filed.date request.date) un.0 in
    let amount = and_parts (bytes_eq filed.amount request.amount) (bytes_eq filed.currency request.currency) date.0 in
    ((bytes_decides _ _).0 amount.0, (bytes_decides _ _).0 amount.1, (bytes_decides _ _).0 date.1, (bytes_decides _ _).0 un.1)

module _ (issuer : Setup) (histories : List (List Entry)) (once : IsOncePerCounter histories) (known : HaveKnownCards issuer histories) where
  one-atc : (first second : Filed) → Has (filed_records issuer histories) first → Has (filed_records issuer histories) second
      → first.card ≡ second.card → first.atc ≡ second.atc → first ≡ second
  one-atc first second here there =
      same-atc issuer histories once first second (filed-from issuer histories first here) (filed-from issuer histories second there)

  one-place : (first second : Filed) → Has (filed_records issuer histories) first → Has (filed_records issuer histories) second
      → first.shard ≡ second.shard → first.place ≡ second.place → first ≡ second
  one-place first second here there =
      same-place issuer histories first second (filed-from issuer histories first here) (filed-from issuer histories second there)

  -- a line hits the record at the place that its verdict certifies
  hit-at : (line : List ℕ) (filed : Filed) → Has (filed_records issuer histories) filed
      → hits (presented issuer line) filed ≡ certifies_at (place_of filed) (verdict issuer (filed_records issuer histories) line)
  hit-at line filed there =
      hits-at issuer (filed_records issuer histories) one-atc one-place (presented issuer line) (line-checked issuer line) filed there

  lines-at : (lines : List (List ℕ)) (filed : Filed) → Has (filed_records issuer histories) filed
      → is_hit issuer lines filed ≡ is_certified_at issuer (filed_records issuer histories) lines (place_of filed)
  lines-at [] filed there = refl
  lines-at (line ∷ lines) filed there = ap₂ (λ (a b : Bool). a || b) (hit-at line filed there) (lines-at lines filed there)

  -- only approved records are hit
  hit-approved : (found : Result Presented Verdict) (filed : Filed) → hits found filed ≡ true → filed.approved ≡ true
  hit-approved (Err other) filed hit = absurd (false≢true hit)
  hit-approved (Ok found) filed hit = (certified-by filed found.request (and_parts _ _ hit).1).approved

  lines-approved : (lines : List (List ℕ)) (filed : Filed) → is_hit issuer lines filed ≡ true → filed.approved ≡ true
  lines-approved [] filed hit = absurd (false≢true hit)
  lines-approved (line ∷ lines) filed hit =
      elim (or_cases (hits (presented issuer line) filed) (is_hit issuer lines filed) hit) [
        | inl here ↦ hit-approved (presented issuer line) filed here
        | inr later ↦ lines-approved lines filed later
      ]

  -- the records after the lines
  after-marked : (lines : List (List ℕ)) → after_lines issuer (filed_records issuer histories) lines
      ≡ map (λ filed. with_mark (is_hit issuer lines filed) filed) (filed_records issuer histories)
  after-marked lines =
      let records = filed_records issuer histories in
      ap (λ (r : List Filed). after_lines issuer r lines) (own-marks records)
      ∙ lines-marked issuer records (filed-apart issuer histories once) (λ filed. filed.certified) lines
      ∙ remark-each (λ filed. filed.certified || is_hit issuer lines filed) (is_hit issuer lines) records
      (Every-from (λ (filed : Filed). (filed.certified || is_hit issuer lines filed) ≡ is_hit issuer lines filed) records (λ filed there.
      ap (λ b. b || is_hit issuer lines filed) (ap (λ (f : Filed). f.certified) (filed-from issuer histories filed there).filed_is)))

  all-marked : (lines : List (List ℕ))
      → Every (IsMarkedBy (is_certified_at issuer (filed_records issuer histories) lines) (is_hit issuer lines)) (filed_records issuer histories)
  all-marked lines =
      Every-from (IsMarkedBy (is_certified_at issuer (filed_records issuer histories) lines) (is_hit issuer lines)) (filed_records issuer histories)
      (λ filed there. record { by_place = lines-at lines filed there; approved = lines-approved lines filed })

  certified-are : (lines : List (List ℕ)) → map place_of (filter is_certified (after_lines issuer (filed_records issuer histories) lines))
      ≡ filter (is_certified_at issuer (filed_records issuer histories) lines) (approvals histories)
  certified-are lines =
      ap (λ (r : List Filed). map place_of (filter is_certified r)) (after-marked lines)
      ∙ marked-certified _ (is_hit issuer lines) (filed_records issuer histories) (all-marked lines)
      ∙ ap (filter (is_certified_at issuer (filed_records issuer histories) lines)) (approved-are issuer histories known)

  open-are : (lines : List (List ℕ)) → map place_of (opens (after_lines issuer (filed_records issuer histories) lines))
      ≡ filter (λ at. not (is_certified_at issuer (filed_records issuer histories) lines at)) (approvals histories)
  open-are lines =
      ap (λ (r : List Filed). map place_of (opens r)) (after-marked lines)
      ∙ marked-open (is_certified_at issuer (filed_records issuer histories) lines) (is_hit issuer lines) (filed_records issuer histories) (all-marked lines)
      ∙ ap (filter (λ at. not (is_certified_at issuer (filed_records issuer histories) lines at))) (approved-are issuer histories known)

  total-is : (lines : List (List ℕ)) → count_by is_certified (after_lines issuer (filed_records issuer histories) lines)
      + length (opens (after_lines issuer (filed_records issuer histories) lines)) ≡ length (approvals histories)
  total-is lines =
      let after = after_lines issuer (filed_records issuer histories) lines in
      let test = is_certified_at issuer (filed_records issuer histories) lines in
      let count = length-filter is_certified after in
      let places = length-map (filter is_certified after) place_of in
      let left = length-map (opens after) place_of in
      let one = ap length (certified-are lines) in
      let other = ap length (open-are lines) in
      let both = length-filter_both test (λ at. not (test at)) (λ at. refl) (approvals histories) in
      omega (arith, count, places, left, one, other, both)

  -- a line that certifies presents a TC for the record
  presents-tc : (line : List ℕ) (found : Presented) (shard place : ℕ) (first : Option Filed)
      → presented issuer line ≡ Ok found → IsChecked issuer found
      → find (has_atc found.card found.request.atc) (filed_records issuer histories) ≡ first
      → certifies_at (shard, place) (verdict_by first found.request) ≡ true → Certifies issuer histories line shard place
  presents-tc line found shard place None line_is checked is holds = absurd (false≢true holds)
  presents-tc line found shard place (Some filed) line_is checked is holds =
      let at = certified-place filed found.request (shard, place) holds in
      let its = find-has (has_atc found.card found.request.atc) (filed_records issuer histories) filed is in
      let on = and_parts _ _ its.1 in
      let by = certified-by filed found.request
      (elim (cases_Bool (certifies (verdict_by (Some filed) found.request))) [
        | inl sure ↦ sure
        | inr none ↦ absurd (false≢true (sym (certifies-none (verdict_by (Some filed) found.request) (shard, place) none) ∙ holds))
      ]) in
      let from = filed-from issuer histories filed its.0 in
      let same = agree-parts filed found.request by.agree in
      let mine = number_of-found (card_of found.request) issuer.cards found.card checked.number_is in
      let the_other = number_of-found (card_of from.request) issuer.cards filed.card from.number_is in
      let card : found.card ≡ filed.card = sym (eqb-true filed.card found.card on.0) in
      let info : mine.0 ≡ the_other.0 =
      same_Some mine.0 the_other.0 (sym mine.1 ∙ ap (slice_get issuer.cards) card ∙ the_other.1) in
      record {
        decided = from.request;
        reply = from.reply;
        record_is = sym (ap₂ (λ (s p : ℕ). record_at histories s p) at.0 at.1) ∙ from.record_is;
        approved = sym (ap (λ (f : Filed). f.approved) from.filed_is) ∙ by.approved;
        found = found;
        line_is = line_is;
        tc = final-tc found.request checked.final by.not_aac;
        valid = record {
          its = record { number = found.card; keys = checked.keys; number_is = checked.number_is; keys_are = checked.keys_are };
          ac_is = (bytes_decides _ _).0 checked.right;
        };
        card = sym mine.2 ∙ ap name_of info ∙ the_other.2;
        atc = sym (eqb-true filed.atc found.request.atc on.1) ∙ ap (λ (f : Filed). f.atc) from.filed_is;
        amount = sym same.0 ∙ ap (λ (f : Filed). f.amount) from.filed_is;
        currency = sym same.1 ∙ ap (λ (f : Filed). f.currency) from.filed_is;
        date = sym same.2 ∙ ap (λ (f : Filed). f.date) from.filed_is;
        un = sym same.3 ∙ ap (λ (f : Filed). f.un) from.filed_is;
      }

  by-line : (line : List ℕ) (shard place : ℕ) (found : Result Presented Verdict) → presented issuer line ≡ found → EndsChecks issuer found
      → verdict_on (filed_records issuer histories) found ≡ Certified shard place → Certifies issuer histories line shard place
  by-line line shard place (Err other) is none certified =
      absurd (false≢true (sym (certifies-none other (shard, place) none) ∙ ap (certifies_at (shard, place)) certified ∙ certifies-its shard place))
  by-line line shard place (Ok found) is checked certified =
      presents-tc line found shard place (find (has_atc found.card found.request.atc) (filed_records issuer histories)) is checked refl
      (ap (certifies_at (shard, place)) certified ∙ certifies-its shard place)

  -- and a TC for an approval certifies it
  tc-certifies : (line : List ℕ) (shard place : ℕ) → Certifies issuer histories line shard place
      → verdict issuer (filed_records issuer histories) line ≡ Certified shard place
  tc-certifies line shard place by =
      let found = by.found in
      let checked : IsChecked issuer found = subst (EndsChecks issuer) by.line_is (line-checked issuer line) in
      let number : number_of (card_of by.decided) issuer.cards ≡ Some found.card =
      ap (λ name. number_of name issuer.cards) (sym by.card) ∙ checked.number_is in
      let filed = filed_under shard place by.decided by.reply found.card in
      let there = filed-has issuer by.decided by.reply found.card number histories shard place by.record_is in
      let on : has_atc found.card found.request.atc filed ≡ true =
      and_from (filed.card == found.card) (filed.atc == found.request.atc) (eq-eqb found.card found.card refl)
      (eq-eqb by.decided.atc found.request.atc (sym by.atc)) in
      let first = found-on issuer (filed_records issuer histories) one-atc one-place found filed there on in
      ap (verdict_on (filed_records issuer histories)) by.line_is
      ∙ ap (λ (f : Option Filed). verdict_by f found.request) first
      ∙ by-certified filed found.request (record {
        agree = parts-agree filed found.request (sym by.amount) (sym by.currency) (sym by.date) (sym by.un);
        not_aac = tc-no_aac found.request by.tc;
        approved = by.approved;
      })

  pub accounts-for : (lines : List (List ℕ)) → AccountsFor issuer histories lines
  accounts-for lines =
      let records = filed_records issuer histories in
      record {
        verdicts =
            ap (λ (r : List Filed). verdicts_text issuer r lines) (own-marks records)
            ∙ verdicts-marked issuer records (filed-apart issuer histories once) (λ filed. filed.certified) lines;
        certified_are = certified-are lines;
        open_are = open-are lines;
        total = total-is lines;
        by_lines = λ line shard place.
            (by-line line shard place (presented issuer line) refl (line-checked issuer line), tc-certifies line shard place);
      }
