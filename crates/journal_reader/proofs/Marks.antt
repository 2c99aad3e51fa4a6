-- The records after clearing lines: each has a mark where some line hits it.
use Rattle.std.proofs.Common.{◌≡◌, ℕ, Bool, true, false, ◌&&◌, ◌||◌, List, [], ◌∷◌, ◌++◌, map, refl, sym, ap, ap₂, subst, ◌∙◌, inl, inr, Some, Result, Ok, Err}
use Rattle.std.specs.List.{find, list_any, flat_map}
use Rattle.std.proofs.lemmas.Bool.{cases_Bool, cond-true, cond-false, and_left, and_parts, eqb-true}
use Rattle.issuer_base.specs.declared.request.Request.{Request}
use Rattle.issuer_setup.specs.IssuerSetup.{Setup}
use Rattle.clearing_check.specs.declared.filed.Filed.{Filed}
use Rattle.clearing_check.specs.declared.verdict.Verdict.{Verdict}
use Rattle.clearing_check.specs.ClearText.{after_lines, verdict_text, verdicts_text}
use Rattle.clearing_check.specs.ClearingLine.{Presented, presented}
use Rattle.clearing_check.specs.Records.{has_atc}
use Rattle.clearing_check.specs.Verdicts.{agrees, verdict_by, verdict_on, verdict, certifies, records_after, after_line}
use Rattle.journal_reader.proofs.Members.{Every}

-- ---- marks

-- the record, certified or not
abbrev pub with_mark : Bool → Filed → Filed
with_mark mark filed = record filed { certified = mark }

-- what a line presents certifies this record
abbrev pub hits : Result Presented Verdict → Filed → Bool
hits (Err verdict) filed = false
hits (Ok found) filed =
    has_atc found.card found.request.atc filed && certifies (verdict_by (Some filed) found.request)

-- some line certifies this record
abbrev pub is_hit : Setup → List (List ℕ) → Filed → Bool
is_hit issuer lines filed = list_any (λ line. hits (presented issuer line) filed) lines

-- no verdict looks at the mark
agrees-mark : (mark : Bool) (filed : Filed) (request : Request) → agrees (with_mark mark filed) request ≡ agrees filed request
unfolding agrees
agrees-mark mark filed request = refl

verdict-mark : (mark : Bool) (filed : Filed) (request : Request)
    → verdict_by (Some (with_mark mark filed)) request ≡ verdict_by (Some filed) request
verdict-mark mark filed request = rw (agrees-mark mark filed request) refl

hits-mark : (found : Result Presented Verdict) (mark : Bool) (filed : Filed) → hits found (with_mark mark filed) ≡ hits found filed
hits-mark (Err verdict) mark filed = refl
hits-mark (Ok found) mark filed =
    ap (λ by. has_atc found.card found.request.atc filed && certifies by) (verdict-mark mark filed found.request)

-- ---- records that are apart

-- no two are on one ATC of a card
abbrev pub AreApart : List Filed → Type 0
AreApart [] = Unit {0}
AreApart (filed ∷ others) = Every (λ other. has_atc filed.card filed.atc other ≡ false) others × AreApart others

Every-marked : (card atc : ℕ) (mark : Filed → Bool) (records : List Filed)
    → Every (λ other. has_atc card atc other ≡ false) records
    → Every (λ other. has_atc card atc other ≡ false) (map (λ filed. with_mark (mark filed) filed) records)
Every-marked card atc mark [] all = tt
Every-marked card atc mark (filed ∷ others) all = (all.0, Every-marked card atc mark others all.1)

apart-marked : (mark : Filed → Bool) (records : List Filed) → AreApart records
    → AreApart (map (λ filed. with_mark (mark filed) filed) records)
apart-marked mark [] apart = tt
apart-marked mark (filed ∷ others) apart =
    (Every-marked filed.card filed.atc mark others apart.0, apart-marked mark others apart.1)

-- ---- one line

or_false : (b : Bool) → (b || false) ≡ b
or_false true = refl
or_false false = refl

or_true : (b : Bool) → (b || true) ≡ true
or_true true = refl
or_true false = refl

or_assoc : (a b c : Bool) → ((a || b) || c) ≡ (a || (b || c))
or_assoc true b c = refl
or_assoc false b c = refl

-- marked by what a line presents
abbrev marked : Result Presented Verdict → Filed → Filed
marked found filed = with_mark (filed.certified || hits found filed) filed

unhit : (found : Result Presented Verdict) (filed : Filed) → hits found filed ≡ false → filed ≡ marked found filed
unhit found filed none =
    ap (λ mark. with_mark mark filed) (sym (ap (λ b. filed.certified || b) none ∙ or_false filed.certified))

none-hit : (found : Result Presented Verdict) (records : List Filed) → Every (λ filed. hits found filed ≡ false) records
    → records ≡ map (marked found) records
none-hit found [] none = refl
none-hit found (filed ∷ others) none =
    ap₂ (λ (x : Filed) (xs : List Filed). x ∷ xs) (unhit found filed none.0) (none-hit found others none.1)

no-verdict : (verdict : Verdict) (records : List Filed) → Every (λ filed. hits (Err verdict) filed ≡ false) records
no-verdict verdict [] = tt
no-verdict verdict (filed ∷ others) = (refl, no-verdict verdict others)

apart-unhit : (found : Presented) (records : List Filed)
    → Every (λ filed. has_atc found.card found.request.atc filed ≡ false) records
    → Every (λ filed. hits (Ok found) filed ≡ false) records
apart-unhit found [] apart = tt
apart-unhit found (filed ∷ others) apart = (and_left _ _ apart.0, apart-unhit found others apart.1)

-- if the first record is on the ATC, no other is
same-apart : (card atc : ℕ) (filed : Filed) (others : List Filed) → has_atc card atc filed ≡ true
    → Every (λ other. has_atc filed.card filed.atc other ≡ false) others
    → Every (λ other. has_atc card atc other ≡ false) others
same-apart card atc filed others here apart =
    let parts = and_parts _ _ here in
    subst (λ n. Every (λ other. has_atc n atc other ≡ false) others) (eqb-true filed.card card parts.0)
    (subst (λ n. Every (λ other. has_atc filed.card n other ≡ false) others) (eqb-true filed.atc atc parts.1) apart)

-- a line marks the record that it hits
pub after-is : (found : Result Presented Verdict) (records : List Filed) → AreApart records
    → records_after records found ≡ map (marked found) records
after-is (Err verdict) records apart = none-hit (Err verdict) records (no-verdict verdict records)
after-is (Ok found) [] apart = refl
after-is (Ok found) (filed ∷ others) apart =
    let test = has_atc found.card found.request.atc in
    elim (cases_Bool (test filed)) [
      | inl here ↦
          let rest = none-hit (Ok found) others
          (apart-unhit found others (same-apart found.card found.request.atc filed others here apart.0)) in
          elim (cases_Bool (certifies (verdict_by (Some filed) found.request))) [
            | inl holds ↦ rw (here, holds) (ap₂ (λ (x : Filed) (xs : List Filed). x ∷ xs) (ap (λ b. with_mark b filed) (sym (or_true filed.certified))) rest)
            | inr fails ↦ rw (here, fails) (ap₂ (λ (x : Filed) (xs : List Filed). x ∷ xs) (ap (λ b. with_mark b filed) (sym (or_false filed.certified))) rest)
          ]
      | inr apart_here ↦
          let rest = after-is (Ok found) others apart.1 in
          elim (cases_Bool (certifies (verdict_by (find test others) found.request))) [
            | inl holds ↦
                rw (apart_here, holds) (ap₂ (λ (x : Filed) (xs : List Filed). x ∷ xs) (ap (λ b. with_mark b filed) (sym (or_false filed.certified)))
                (sym (cond-true _ _ _ holds) ∙ rest))
            | inr fails ↦
                rw (apart_here, fails) (ap₂ (λ (x : Filed) (xs : List Filed). x ∷ xs) (ap (λ b. with_mark b filed) (sym (or_false filed.certified)))
                (sym (cond-false _ _ _ fails) ∙ rest))
          ]
    ]

-- ---- many lines

-- the verdict is that on the records without marks
pub verdict-marked : (mark : Filed → Bool) (records : List Filed) (found : Result Presented Verdict)
    → verdict_on (map (λ filed. with_mark (mark filed) filed) records) found ≡ verdict_on records found
verdict-marked mark records (Err verdict) = refl
verdict-marked mark [] (Ok found) = refl
verdict-marked mark (filed ∷ others) (Ok found) =
    elim (cases_Bool (has_atc found.card found.request.atc filed)) [
      | inl here ↦ rw here (verdict-mark (mark filed) filed found.request)
      | inr apart ↦ rw apart (verdict-marked mark others (Ok found))
    ]

-- marks upon marks
again : (found : Result Presented Verdict) (mark : Filed → Bool) (records : List Filed)
    → map (marked found) (map (λ filed. with_mark (mark filed) filed) records)
    ≡ map (λ filed. with_mark (mark filed || hits found filed) filed) records
again found mark [] = refl
again found mark (filed ∷ others) =
    ap₂ (λ (x : Filed) (xs : List Filed). x ∷ xs)
    (ap (λ b. with_mark (mark filed || b) filed) (hits-mark found (mark filed) filed)) (again found mark others)

remark : (mark other : Filed → Bool) (records : List Filed) → ((filed : Filed) → mark filed ≡ other filed)
    → map (λ filed. with_mark (mark filed) filed) records ≡ map (λ filed. with_mark (other filed) filed) records
remark mark other [] same = refl
remark mark other (filed ∷ others) same =
    ap₂ (λ (x : Filed) (xs : List Filed). x ∷ xs) (ap (λ b. with_mark b filed) (same filed)) (remark mark other others same)

module _ (issuer : Setup) (records : List Filed) (apart : AreApart records) where
  -- the next line on marked records
  next-marked : (mark : Filed → Bool) (line : List ℕ)
      → after_line issuer (map (λ filed. with_mark (mark filed) filed) records) line
      ≡ map (λ filed. with_mark (mark filed || hits (presented issuer line) filed) filed) records
  next-marked mark line =
      after-is (presented issuer line) (map (λ filed. with_mark (mark filed) filed) records) (apart-marked mark records apart)
      ∙ again (presented issuer line) mark records

  -- the records after the lines are marked where some line hits them
  pub lines-marked : (mark : Filed → Bool) (lines : List (List ℕ))
      → after_lines issuer (map (λ filed. with_mark (mark filed) filed) records) lines
      ≡ map (λ filed. with_mark (mark filed || is_hit issuer lines filed) filed) records
  lines-marked mark [] = remark mark (λ filed. mark filed || false) records (λ filed. sym (or_false (mark filed)))
  lines-marked mark (line ∷ lines) =
      ap (λ after. after_lines issuer after lines) (next-marked mark line)
      ∙ lines-marked (λ filed. mark filed || hits (presented issuer line) filed) lines
      ∙ remark _ _ records (λ filed. or_assoc (mark filed) (hits (presented issuer line) filed) (is_hit issuer lines filed))

  -- each verdict is that on the records before all lines
  pub verdicts-marked : (mark : Filed → Bool) (lines : List (List ℕ))
      → verdicts_text issuer (map (λ filed. with_mark (mark filed) filed) records) lines
      ≡ flat_map (λ line. verdict_text (verdict issuer records line)) lines
  verdicts-marked mark [] = refl
  verdicts-marked mark (line ∷ lines) =
      ap₂ (λ (a b : List ℕ). a ++ b) (ap verdict_text (verdict-marked mark records (presented issuer line)))
      (ap (λ after. verdicts_text issuer after lines) (next-marked mark line)
      ∙ verdicts-marked (λ filed. mark filed || hits (presented issuer line) filed) lines)

-- records with their own marks
pub own-marks : (records : List Filed) → records ≡ map (λ filed. with_mark filed.certified filed) records
own-marks [] = refl
own-marks (filed ∷ others) = ap (λ xs. filed ∷ xs) (own-marks others)
