-- A row of the decision table from its parts, and the approval that each row's card status update states.
use Rattle.std.proofs.Common.{◌≡◌, ℕ, Bool, List, Option, Some, None, codes, true, inl, inr, refl, arith}
use Rattle.std.proofs.lemmas.Bool.{cond-true, cond-false, cases_Bool}
use Rattle.std.specs.Option.{option_and_then, option_zip, IfSome}
use Rattle.serde_json.specs.Data.{Data}
use Rattle.serde_json.specs.Find.{get, as_bool}
use Rattle.decision_table.specs.declared.row.TableRow.{TableRow}
use Rattle.decision_table.specs.declared.row.TheConstants.{MAX_AMOUNT}
use Rattle.config_read.specs.RowParts.{decision_in}
use Rattle.decision_table.specs.Tables.{tells_approval}
use Rattle.config_read.specs.Elements.{◌>>=◌, bytes_member, number_up_to, row_in, status_from, where_told}

-- two parts are these
abbrev pub AreBoth : {A B : Type 0} → Option A → Option B → A → B → Type 0
AreBoth {A} {B} first second x y = ◌≡◌ {A = Option (A × B)} (Some (x, y)) (option_zip first second)

both-parts : {A B : Type 0} (first : Option A) (second : Option B) (x : A) (y : B) → AreBoth first second x y → (first ≡ Some x) × (second ≡ Some y)
both-parts None second x y both = cc
both-parts (Some first) None x y both = cc
both-parts (Some first) (Some second) x y both = grind arith

-- what a row decides is these three
abbrev pub AreThree : Option (List ℕ) → Option Bool → Option (List ℕ) → List ℕ → Bool → List ℕ → Type 0
AreThree arc approve csu x y z =
    ◌≡◌ {A = Option (List ℕ × Bool × List ℕ)} (Some (x, y, z)) (arc >>= λ a. approve >>= λ b. csu >>= λ c. Some (a, b, c))

three-parts : (arc : Option (List ℕ)) (approve : Option Bool) (csu : Option (List ℕ)) (x : List ℕ) (y : Bool) (z : List ℕ)
    → AreThree arc approve csu x y z → (arc ≡ Some x) × (approve ≡ Some y) × (csu ≡ Some z)
three-parts None approve csu x y z all = cc
three-parts (Some arc) None csu x y z all = cc
three-parts (Some arc) (Some approve) None x y z all = cc
three-parts (Some arc) (Some approve) (Some csu) x y z all = grind arith

-- a row of these parts
pub row_in-parts : (element : Data) (row : TableRow)
    → AreBoth (bytes_member (codes "tvr_mask") 5 element) (bytes_member (codes "tvr_value") 5 element) row.tvr_mask row.tvr_value
    → AreBoth (bytes_member (codes "cvr_mask") 5 element) (bytes_member (codes "cvr_value") 5 element) row.cvr_mask row.cvr_value
    → AreBoth (number_up_to (codes "least") MAX_AMOUNT element) (number_up_to (codes "most") MAX_AMOUNT element) row.least row.most
    → Some row.status ≡ option_and_then status_from (get (codes "status") element)
    → AreThree (bytes_member (codes "arc") 2 element) (option_and_then as_bool (get (codes "approve") element))
    (bytes_member (codes "csu") 4 element) row.arc row.approve row.csu
    → row_in element ≡ where_told row
unfolding row_in
row_in-parts element row tvr cvr amounts status decides =
    let terminal = both-parts (bytes_member (codes "tvr_mask") 5 element) (bytes_member (codes "tvr_value") 5 element) row.tvr_mask row.tvr_value tvr in
    let card = both-parts (bytes_member (codes "cvr_mask") 5 element) (bytes_member (codes "cvr_value") 5 element) row.cvr_mask row.cvr_value cvr in
    let amount = both-parts (number_up_to (codes "least") MAX_AMOUNT element) (number_up_to (codes "most") MAX_AMOUNT element) row.least row.most amounts in
    let decision = three-parts (bytes_member (codes "arc") 2 element) (option_and_then as_bool (get (codes "approve") element))
    (bytes_member (codes "csu") 4 element) row.arc row.approve row.csu decides in
    rw (terminal.0, terminal.1, card.0, card.1, amount.0, amount.1, ← status, decision.0, decision.1, decision.2) refl

-- ---- a part that isn't there

silent-next : {A : Type 0} (first : Option A) (next : A → Option TableRow) → ((thing : A) → next thing ≡ None) → (first >>= next) ≡ None
silent-next None next silent = refl
silent-next (Some thing) next silent = silent thing

zip-none : {A B : Type 0} (first : Option A) (second : Option B) (next : A → B → Option TableRow) → None ≡ option_zip first second
    → (first >>= λ x. second >>= λ y. next x y) ≡ None
zip-none None second next none = refl
zip-none (Some x) None next none = refl
zip-none (Some x) (Some y) next none = cc

three-none : (arc : Option (List ℕ)) (approve : Option Bool) (csu : Option (List ℕ)) (next : List ℕ → Bool → List ℕ → Option TableRow)
    → ◌≡◌ {A = Option (List ℕ × Bool × List ℕ)} None (arc >>= λ a. approve >>= λ b. csu >>= λ c. Some (a, b, c))
    → (arc >>= λ a. approve >>= λ b. csu >>= λ c. next a b c) ≡ None
three-none None approve csu next none = refl
three-none (Some a) None csu next none = refl
three-none (Some a) (Some b) None next none = refl
three-none (Some a) (Some b) (Some c) next none = cc

-- no row is one without its amounts
pub row_in-no_amounts : (element : Data)
    → None ≡ option_zip (number_up_to (codes "least") MAX_AMOUNT element) (number_up_to (codes "most") MAX_AMOUNT element) → row_in element ≡ None
unfolding row_in
row_in-no_amounts element none =
    silent-next (bytes_member (codes "tvr_mask") 5 element) _ (λ tvr_mask.
    silent-next (bytes_member (codes "tvr_value") 5 element) _ (λ tvr_value.
    silent-next (bytes_member (codes "cvr_mask") 5 element) _ (λ cvr_mask.
    silent-next (bytes_member (codes "cvr_value") 5 element) _ (λ cvr_value.
    zip-none (number_up_to (codes "least") MAX_AMOUNT element) (number_up_to (codes "most") MAX_AMOUNT element) _ none))))

-- and none without what it decides
pub row_in-no_decision : (element : Data) → None ≡ decision_in element → row_in element ≡ None
unfolding row_in
row_in-no_decision element none =
    silent-next (bytes_member (codes "tvr_mask") 5 element) _ (λ tvr_mask.
    silent-next (bytes_member (codes "tvr_value") 5 element) _ (λ tvr_value.
    silent-next (bytes_member (codes "cvr_mask") 5 element) _ (λ cvr_mask.
    silent-next (bytes_member (codes "cvr_value") 5 element) _ (λ cvr_value.
    silent-next (number_up_to (codes "least") MAX_AMOUNT element) _ (λ least.
    silent-next (number_up_to (codes "most") MAX_AMOUNT element) _ (λ most.
    silent-next (option_and_then status_from (get (codes "status") element)) _ (λ status.
    three-none (bytes_member (codes "arc") 2 element) (option_and_then as_bool (get (codes "approve") element))
    (bytes_member (codes "csu") 4 element) _ none)))))))

-- ---- each row tells its approval

record Tells (found : Option TableRow) : Type 0 where
  told : IfSome found (λ row. tells_approval row ≡ true)

Tells-next : {A : Type 0} (first : Option A) (next : A → Option TableRow) → ((thing : A) → Tells (next thing)) → Tells (first >>= next)
Tells-next None next each = record { told = tt }
Tells-next (Some thing) next each = each thing

Tells-where_told : (row : TableRow) → Tells (where_told row)
Tells-where_told row = record {
  told = elim (cases_Bool (tells_approval row)) [
    | inl told ↦ rw (cond-true (tells_approval row) (Some row) None told) told
    | inr silent ↦ rw (cond-false (tells_approval row) (Some row) None silent) tt
  ];
}

Tells-row_in : (element : Data) → Tells (row_in element)
unfolding row_in
Tells-row_in element =
    Tells-next (bytes_member (codes "tvr_mask") 5 element) _ (λ tvr_mask.
    Tells-next (bytes_member (codes "tvr_value") 5 element) _ (λ tvr_value.
    Tells-next (bytes_member (codes "cvr_mask") 5 element) _ (λ cvr_mask.
    Tells-next (bytes_member (codes "cvr_value") 5 element) _ (λ cvr_value.
    Tells-next (number_up_to (codes "least") MAX_AMOUNT element) _ (λ least.
    Tells-next (number_up_to (codes "most") MAX_AMOUNT element) _ (λ most.
    Tells-next (option_and_then status_from (get (codes "status") element)) _ (λ status.
    Tells-next (bytes_member (codes "arc") 2 element) _ (λ arc.
    Tells-next (option_and_then as_bool (get (codes "approve") element)) _ (λ approve.
    Tells-next (bytes_member (codes "csu") 4 element) _ (λ csu. Tells-where_told _))))))))))

-- a row of the decision table tells its approval
pub row_in-tells : (element : Data) → IfSome (row_in element) (λ row. tells_approval row ≡ true)
row_in-tells element = (Tells-row_in element).told
