-- What a verdict says: which record a line hits, and what a line that certifies a record presents.
use Rattle.std.proofs.Common.{◌≡◌, ℕ, Bool, true, false, not, ◌&&◌, ◌==◌, if◌then◌else◌, List, refl, sym, ap, subst, ◌∙◌, inl, inr, Option, Some, None, Result, Ok, Err, eq-eqb}
use Rattle.std.specs.List.{find}
use Rattle.std.proofs.lemmas.Bool.{cases_Bool, cond-true, cond-false, and_parts, and_from, eqb-true, false_from_ne_true, false≢true}
use Rattle.issuer_base.specs.declared.request.Request.{Request}
use Rattle.card_history.specs.Records.{card_of}
use Rattle.chip_request.specs.declared.reading.RequestFault.{RequestFault}
use Rattle.chip_request.specs.declared.line.LineKind.{LineKind}
use Rattle.chip_request.specs.declared.line.LineKind.TheVariants.{Ask, Queue, Set}
use Rattle.chip_request.specs.LineParts.{line_of}
use Rattle.chip_request.specs.Reading.{request_of}
use Rattle.key_derive.specs.declared.card.CardKeys.{CardKeys}
use Rattle.issuer_setup.specs.CardList.{number_of}
use Rattle.issuer_setup.specs.IssuerSetup.{Setup, keys_of}
use Rattle.line_checks.specs.Reading.{is_right}
use Rattle.clearing_check.specs.declared.filed.Filed.{Filed}
use Rattle.clearing_check.specs.declared.verdict.Verdict.{Verdict}
use Rattle.clearing_check.specs.declared.verdict.Verdict.TheVariants.{Refused, WrongKind, Lone, Differs, Declined, Against, Certified}
use Rattle.clearing_check.specs.ClearingLine.{Presented, is_aac, is_final, under_keys, of_card, of_data, of_form, presented}
use Rattle.clearing_check.specs.Records.{has_atc, place_of}
use Rattle.clearing_check.specs.Verdicts.{agrees, verdict_by, verdict_on, certifies}
use Rattle.journal_reader.specs.Accounts.{certifies_at}
use Rattle.journal_reader.proofs.Members.{Has, find-has, find-some}
use Rattle.journal_reader.proofs.Marks.{hits}

-- ---- what a line presents

-- the request is of this card, ends a transaction, and has the card's cryptogram
pub record IsChecked (issuer : Setup) (found : Presented) : Type 0 where
  pub number_is : number_of (card_of found.request) issuer.cards ≡ Some found.card
  pub final : is_final found.request ≡ true
  pub keys : CardKeys
  pub keys_are : keys_of issuer found.card found.request ≡ Some keys
  pub right : is_right keys found.request ≡ true

-- what passes its checks is so, and a verdict that ends them certifies nothing
abbrev pub EndsChecks : Setup → Result Presented Verdict → Type 0
EndsChecks issuer (Err verdict) = certifies verdict ≡ false
EndsChecks issuer (Ok found) = IsChecked issuer found

module _ (issuer : Setup) where
  keys-checked : (card : ℕ) (request : Request) (keys : Option CardKeys) → number_of (card_of request) issuer.cards ≡ Some card
      → is_final request ≡ true → keys_of issuer card request ≡ keys → EndsChecks issuer (under_keys card keys request)
  keys-checked card request None number final is = refl
  keys-checked card request (Some keys) number final is =
      elim (cases_Bool (is_right keys request)) [
        | inl right ↦
            subst (EndsChecks issuer) (sym (cond-true (is_right keys request) _ _ right))
            (record { number_is = number; final = final; keys = keys; keys_are = is; right = right })
        | inr wrong ↦ subst (EndsChecks issuer) (sym (cond-false (is_right keys request) _ _ wrong)) refl
      ]

  card-checked : (request : Request) (card : Option ℕ) → number_of (card_of request) issuer.cards ≡ card
      → EndsChecks issuer (of_card issuer card request)
  card-checked request None is = refl
  card-checked request (Some card) is =
      elim (cases_Bool (is_final request)) [
        | inl final ↦
            subst (EndsChecks issuer) (sym (cond-true (is_final request) _ _ final))
            (keys-checked card request (keys_of issuer card request) is final refl)
        | inr other ↦ subst (EndsChecks issuer) (sym (cond-false (is_final request) _ _ other)) refl
      ]

  data-checked : (read : Result Request RequestFault) → EndsChecks issuer (of_data issuer read)
  data-checked (Err fault) = refl
  data-checked (Ok request) = card-checked request (number_of (card_of request) issuer.cards) refl

  form-checked : (form : Result LineKind ℕ) → EndsChecks issuer (of_form issuer form)
  form-checked (Err column) = refl
  form-checked (Ok (Ask bytes)) = data-checked (request_of bytes.items)
  form-checked (Ok (Queue pan psn bytes)) = refl
  form-checked (Ok (Set pan psn status)) = refl

  pub line-checked : (line : List ℕ) → EndsChecks issuer (presented issuer line)
  line-checked line = form-checked (line_of line)

-- ---- the verdict by a record

-- a certified record agrees, the card doesn't decline, and the issuer approved
pub record IsCertifiedBy (filed : Filed) (request : Request) : Type 0 where
  pub agree : agrees filed request ≡ true
  pub not_aac : is_aac request ≡ false
  pub approved : filed.approved ≡ true

-- the verdict is the one of the four that these tests choose
abbrev chosen : Bool → Bool → Bool → ℕ → ℕ → Verdict
chosen agree aac approved shard place =
    if not agree then Differs shard place
    else if aac then Declined shard place
    else if not approved then Against shard place
    else Certified shard place

chosen-certified : (agree aac approved : Bool) (shard place : ℕ) → certifies (chosen agree aac approved shard place) ≡ true
    → (agree ≡ true) × (aac ≡ false) × (approved ≡ true)
chosen-certified false aac approved shard place holds = absurd (false≢true holds)
chosen-certified true true approved shard place holds = absurd (false≢true holds)
chosen-certified true false false shard place holds = absurd (false≢true holds)
chosen-certified true false true shard place holds = (refl, refl, refl)

chosen-at : (agree aac approved : Bool) (shard place : ℕ)
    → certifies (chosen agree aac approved shard place) ≡ certifies_at (shard, place) (chosen agree aac approved shard place)
chosen-at false aac approved shard place = refl
chosen-at true true approved shard place = refl
chosen-at true false false shard place = refl
chosen-at true false true shard place = sym (and_from _ _ (eq-eqb shard shard refl) (eq-eqb place place refl))

chosen-place : (agree aac approved : Bool) (shard place : ℕ) (at : ℕ × ℕ)
    → certifies_at at (chosen agree aac approved shard place) ≡ true → (shard ≡ at.0) × (place ≡ at.1)
chosen-place false aac approved shard place at holds = absurd (false≢true holds)
chosen-place true true approved shard place at holds = absurd (false≢true holds)
chosen-place true false false shard place at holds = absurd (false≢true holds)
chosen-place true false true shard place at holds =
    let parts = and_parts (shard == at.0) (place == at.1) holds in
    (eqb-true shard at.0 parts.0, eqb-true place at.1 parts.1)

chosen-all : (agree aac approved : Bool) (shard place : ℕ) → agree ≡ true → aac ≡ false → approved ≡ true
    → chosen agree aac approved shard place ≡ Certified shard place
chosen-all agree aac approved shard place agrees fine approves = rw (agrees, fine, approves) refl

-- such a record is certified
pub by-certified : (filed : Filed) (request : Request) → IsCertifiedBy filed request
    → verdict_by (Some filed) request ≡ Certified filed.shard filed.place
by-certified filed request by =
    chosen-all (agrees filed request) (is_aac request) filed.approved filed.shard filed.place by.agree by.not_aac by.approved

pub certified-by : (filed : Filed) (request : Request) → certifies (verdict_by (Some filed) request) ≡ true → IsCertifiedBy filed request
certified-by filed request holds =
    let parts = chosen-certified (agrees filed request) (is_aac request) filed.approved filed.shard filed.place holds in
    record { agree = parts.0; not_aac = parts.1; approved = parts.2 }

own-place : (filed : Filed) (request : Request)
    → certifies (verdict_by (Some filed) request) ≡ certifies_at (place_of filed) (verdict_by (Some filed) request)
own-place filed request = chosen-at (agrees filed request) (is_aac request) filed.approved filed.shard filed.place

pub certified-place : (filed : Filed) (request : Request) (at : ℕ × ℕ) → certifies_at at (verdict_by (Some filed) request) ≡ true
    → (filed.shard ≡ at.0) × (filed.place ≡ at.1)
certified-place filed request at holds =
    chosen-place (agrees filed request) (is_aac request) filed.approved filed.shard filed.place at holds

-- ---- the verdict on a line

-- a verdict that certifies nothing certifies no place
pub certifies-none : (verdict : Verdict) (at : ℕ × ℕ) → certifies verdict ≡ false → certifies_at at verdict ≡ false
certifies-none (Refused refusal) at none = refl
certifies-none WrongKind at none = refl
certifies-none Lone at none = refl
certifies-none (Differs shard place) at none = refl
certifies-none (Declined shard place) at none = refl
certifies-none (Against shard place) at none = refl
certifies-none (Certified shard place) at none = absurd (false≢true (sym none))

pub certifies-its : (shard place : ℕ) → certifies_at (shard, place) (Certified shard place) ≡ true
certifies-its shard place = and_from _ _ (eq-eqb shard shard refl) (eq-eqb place place refl)

module _ (issuer : Setup) (records : List Filed)
    (same_atc : (first second : Filed) → Has records first → Has records second → first.card ≡ second.card → first.atc ≡ second.atc → first ≡ second)
    (same_place : (first second : Filed) → Has records first → Has records second → first.shard ≡ second.shard → first.place ≡ second.place → first ≡ second)
  where
    abbrev is_on : Presented → Filed → Bool
    is_on found filed = has_atc found.card found.request.atc filed

    one-on : (found : Presented) (filed other : Filed) → Has records filed → Has records other → is_on found filed ≡ true
        → is_on found other ≡ true → other ≡ filed
    one-on found filed other there other_there on other_on =
        let parts = and_parts (filed.card == found.card) (filed.atc == found.request.atc) on in
        let others = and_parts (other.card == found.card) (other.atc == found.request.atc) other_on in
        same_atc other filed other_there there
        (eqb-true other.card found.card others.0 ∙ sym (eqb-true filed.card found.card parts.0))
        (eqb-true other.atc found.request.atc others.1 ∙ sym (eqb-true filed.atc found.request.atc parts.1))

    -- a record that isn't on the ATC isn't the one that is certified
    other-place : (found : Presented) (filed : Filed) (first : Option Filed) → Has records filed → is_on found filed ≡ false
        → find (is_on found) records ≡ first → certifies_at (place_of filed) (verdict_by first found.request) ≡ false
    other-place found filed None there off is = refl
    other-place found filed (Some other) there off is =
        false_from_ne_true _ (λ holds.
        let its = find-has (is_on found) records other is in
        let at = certified-place other found.request (place_of filed) holds in
        let same = same_place other filed its.0 there at.0 at.1 in
        false≢true (sym off ∙ ap (is_on found) (sym same) ∙ its.1))

    -- a line hits the record at the place that its verdict certifies
    pub hits-at : (found : Result Presented Verdict) → EndsChecks issuer found → (filed : Filed) → Has records filed
        → hits found filed ≡ certifies_at (place_of filed) (verdict_on records found)
    hits-at (Err verdict) none filed there = sym (certifies-none verdict (place_of filed) none)
    hits-at (Ok found) checked filed there =
        elim (cases_Bool (is_on found filed)) [
          | inl on ↦
              let first = find-some (is_on found) records filed there on in
              let its = find-has (is_on found) records first.0 first.1 in
              let same = one-on found filed first.0 there its.0 on its.1 in
              let is : find (is_on found) records ≡ Some filed = first.1 ∙ ap Some same in
              ap (λ b. b && certifies (verdict_by (Some filed) found.request)) on
              ∙ own-place filed found.request
              ∙ ap (λ (f : Option Filed). certifies_at (place_of filed) (verdict_by f found.request)) (sym is)
          | inr off ↦
              ap (λ b. b && certifies (verdict_by (Some filed) found.request)) off
              ∙ sym (other-place found filed (find (is_on found) records) there off refl)
        ]

    -- the record on the ATC of what a line presents is the one that is found
    pub found-on : (found : Presented) (filed : Filed) → Has records filed → is_on found filed ≡ true
        → find (is_on found) records ≡ Some filed
    found-on found filed there on =
        let first = find-some (is_on found) records filed there on in
        let its = find-has (is_on found) records first.0 first.1 in
        first.1 ∙ ap Some (one-on found filed first.0 there its.0 on its.1)
