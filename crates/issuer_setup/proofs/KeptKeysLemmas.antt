-- The stored pairs of the cards' master keys: how many there are, and the index of that of a card from a key set.
use Rattle.std.proofs.Common.{◌≡◌, ℕ, zero, suc, ◌+◌, ◌*◌, ◌<◌, ◌≤◌, List, [], ◌∷◌, ◌++◌, length, take, get_or, Option, None, Some, IsSome, IfSome, Bool, true, false, ap, sym, ◌∙◌, subst, refl, arith}
use Rattle.std.proofs.Math.Nat.{suc-mul}
use Rattle.std.proofs.lemmas.List.{length-append, length-map}
use Rattle.std.proofs.lemmas.List.Folds.{length-flat_map-take}
use Rattle.std.proofs.lemmas.Option.{slice_get_within, slice_get-map}
use Rattle.std.specs.List.{flat_map, position, slice_get}
use Rattle.std.specs.Option.{option_map, option_and_then, is_some}
use Rattle.key_derive.specs.declared.card.KeySet.{KeySet}
use Rattle.key_derive.specs.declared.card.AesPair.{AesPair}
use Rattle.key_derive.specs.declared.card.CardKeys.{CardKeys}
use Rattle.key_derive.specs.CardKey.{des_keys, aes_keys, card_keys}
use Rattle.key_derive.specs.CardSecret.{BothKeys, secrets_of, keys_in}
use Rattle.issuer_base.specs.ChipData.{dki, suite_of}
use Rattle.issuer_base.specs.declared.request.Suite.{Suite}
use Rattle.issuer_base.specs.declared.request.Suite.TheVariants.{TripleDes, Aes}
use Rattle.issuer_base.specs.declared.request.Request.{Request}
use Rattle.decision_table.specs.declared.row.TableRow.{TableRow}
use Rattle.issuer_setup.specs.declared.card.CardInfo.{CardInfo}
use Rattle.issuer_setup.specs.declared.kept_keys.KeySlot.{KeySlot}
use Rattle.issuer_setup.specs.KeySlots.{IsSlotOf}
use Rattle.issuer_setup.specs.IssuerSetup.{keys_from}
use Rattle.issuer_setup.specs.KeptKeys.{KeptPairs, pairs_of, kept_keys}
use Rattle.issuer_setup.specs.KeyList.{has_dki, has_suite, key_of}
use Rattle.issuer_setup.proofs.KeyListLemmas.{key_of-place, key_of-within, key_of-none}

-- a card has as many pairs as there are key sets
length-pairs_of : (keys : List KeySet) (card : CardInfo) → length (pairs_of keys card) ≡ length keys
length-pairs_of keys card = length-map keys (λ set. secrets_of set card.pan card.psn)

-- there is a pair for each card and key set
pub length-kept : (keys : List KeySet) (cards : List CardInfo) → length (flat_map (pairs_of keys) cards) ≡ length cards * length keys
length-kept keys [] = omega arith
length-kept keys (card ∷ cards) =
    length-append (pairs_of keys card) (flat_map (pairs_of keys) cards)
    ∙ (omega (arith, length-pairs_of keys card, length-kept keys cards, suc-mul (length cards) (length keys)))

-- room for all pairs is room for those of a card behind those of the cards before it
pub room_for-card : (keys : List KeySet) (cards : List CardInfo) (number : ℕ) (card : CardInfo) → number < length cards
    → length (flat_map (pairs_of keys) (take number cards)) + length keys ≤ length cards * length keys
room_for-card keys cards number card below =
    omega (arith, length-flat_map-take (pairs_of keys) cards number card below, length-pairs_of keys (get_or cards number card), length-kept keys cards)

slice_get-left : {A : Type 0} (first rest : List A) (place : ℕ) (value : A) → slice_get first place ≡ Some value → slice_get (first ++ rest) place ≡ Some value
slice_get-left [] rest place value is = absurd (cc)
slice_get-left (x ∷ first) rest zero value is = is
slice_get-left (x ∷ first) rest (suc place) value is = slice_get-left first rest place value is

slice_get-right : {A : Type 0} (first rest : List A) (at place : ℕ) → at ≡ length first + place → slice_get (first ++ rest) at ≡ slice_get rest place
slice_get-right [] rest at place behind = let same : at ≡ place = omega (arith, behind) in ap (slice_get rest) same
slice_get-right (x ∷ first) rest zero place behind = absurd (omega arith)
slice_get-right (x ∷ first) rest (suc at) place behind = slice_get-right first rest at place (omega (arith, behind))

-- the pair of a card from a key set stands at the card's number times the number of key sets, plus the key set's place
pub kept-at : (keys : List KeySet) (cards : List CardInfo) (number place : ℕ) (card : CardInfo) (set : KeySet) → slice_get cards number ≡ Some card
    → slice_get keys place ≡ Some set → slice_get (flat_map (pairs_of keys) cards) (number * length keys + place) ≡ Some (secrets_of set card.pan card.psn)
kept-at keys [] number place card set card_is set_is = absurd (cc)
kept-at keys (first ∷ cards) zero place card set card_is set_is =
    let same : first ≡ card = cc in
    let at : 0 * length keys + place ≡ place = omega arith in
    let own : slice_get (pairs_of keys first) place ≡ Some (secrets_of set card.pan card.psn) =
    slice_get-map (λ set. secrets_of set first.pan first.psn) keys place
    ∙ ap (option_map (λ set. secrets_of set first.pan first.psn)) set_is
    ∙ ap (λ (card : CardInfo). Some (secrets_of set card.pan card.psn)) same in
    ap (slice_get (flat_map (pairs_of keys) (first ∷ cards))) at ∙ slice_get-left (pairs_of keys first) (flat_map (pairs_of keys) cards) place _ own
kept-at keys (first ∷ cards) (suc number) place card set card_is set_is =
    slice_get-right (pairs_of keys first) (flat_map (pairs_of keys) cards) (suc number * length keys + place) (number * length keys + place)
    (omega (arith, length-pairs_of keys first, suc-mul number (length keys)))
    ∙ kept-at keys cards number place card set card_is set_is

element : {A : Type 0} (values : List A) (place : ℕ) → place < length values → (value : A) × (slice_get values place ≡ Some value)
element [] place below = absurd (omega arith)
element (value ∷ values) zero below = (value, refl)
element (value ∷ values) (suc place) below = element values place (omega arith)

-- where a card has this number and a key set has this index, their pair is kept
pub kept-within : (keys : List KeySet) (cards : List CardInfo) (kept : KeptPairs) (number index place : ℕ) → kept ≡ kept_keys keys cards
    → number < length cards → position (has_dki index) keys ≡ Some place → number * kept.sets + place < length kept.pairs
kept-within keys cards kept number index place kept_is below found =
    let card = element cards number below in
    let set = element keys place (key_of-within index keys place found) in
    let within : number * length keys + place < length (flat_map (pairs_of keys) cards) =
    slice_get_within (flat_map (pairs_of keys) cards) (number * length keys + place) (secrets_of set.0 card.0.pan card.0.psn)
    (kept-at keys cards number place card.0 set.0 card.1 set.1) in
    subst (λ (kept : KeptPairs). number * kept.sets + place < length kept.pairs) (sym kept_is) within

-- ---- the keys of one suite

aes-keys : (aes : Option AesPair) (pan : List ℕ) (psn : ℕ) → is_some aes ≡ true
    → (keys : CardKeys) × (option_map (λ pair. aes_keys pair pan psn) aes ≡ Some keys)
aes-keys None pan psn has = absurd cc
aes-keys (Some pair) pan psn has = (aes_keys pair pan psn, refl)

-- a key set with keys of the suite gives a card keys of it
suite-keys : (suite : Suite) (set : KeySet) (pan : List ℕ) (psn : ℕ) → has_suite suite set ≡ true
    → (keys : CardKeys) × (card_keys set suite pan psn ≡ Some keys)
suite-keys TripleDes set pan psn has = (des_keys set pan psn, refl)
suite-keys Aes set pan psn has = aes-keys set.aes pan psn has

no-aes_keys : (aes : Option AesPair) (pan : List ℕ) (psn : ℕ) → is_some aes ≡ false
    → (let keys : Option CardKeys = option_map (λ pair. aes_keys pair pan psn) aes in keys) ≡ None
no-aes_keys None pan psn none = refl
no-aes_keys (Some pair) pan psn none = absurd cc

-- and one without gives none
no-suite_keys : (suite : Suite) (set : KeySet) (pan : List ℕ) (psn : ℕ) → has_suite suite set ≡ false → card_keys set suite pan psn ≡ None
no-suite_keys TripleDes set pan psn none = absurd cc
no-suite_keys Aes set pan psn none = no-aes_keys set.aes pan psn none

-- of both suites' keys those of one are the card's in it
in-secrets : (suite : Suite) (set : KeySet) (pan : List ℕ) (psn : ℕ) → keys_in suite (secrets_of set pan psn) ≡ card_keys set suite pan psn
in-secrets TripleDes set pan psn = refl
in-secrets Aes set pan psn = refl

-- what is told of the key set at a place is told of this key set
suite-told : (suite : Suite) (keys : List KeySet) (place : ℕ) (has : Bool) (set : KeySet)
    → IfSome (slice_get keys place) (λ set. has ≡ has_suite suite set) → slice_get keys place ≡ Some set → has ≡ has_suite suite set
suite-told suite keys place has set told is = subst (λ (found : Option KeySet). IfSome found (λ set. has ≡ has_suite suite set)) is told

-- ---- slots

-- the index of that pair is a slot of the card's keys from the first key set with the index, if it has keys of the suite
pub is-slot : (shards : ℕ) (keys : List KeySet) (cards : List CardInfo) (table : List TableRow) (kept : KeptPairs) (number : ℕ) (request : Request)
    (place : ℕ) (has : Bool) (slot : KeySlot) → kept ≡ kept_keys keys cards → number < length cards → position (has_dki (dki request)) keys ≡ Some place
    → IfSome (slice_get keys place) (λ set. has ≡ has_suite (suite_of request) set) → has ≡ true
    → slot.index ≡ number * kept.sets + place → slot.suite ≡ suite_of request
    → IsSlotOf (record { shards = shards; keys = keys; cards = cards; table = table }) number request slot
is-slot shards keys cards table kept number request place has slot kept_is below found told has_is index_is suite_is =
    let card = element cards number below in
    let set = element keys place (key_of-within (dki request) keys place found) in
    let suite = suite_of request in
    let made = suite-keys suite set.0 card.0.pan card.0.psn (sym (suite-told suite keys place has set.0 told set.1) ∙ has_is) in
    let index : slot.index ≡ number * length keys + place = index_is ∙ ap (λ (kept : KeptPairs). number * kept.sets + place) kept_is in
    let named : key_of (dki request) keys ≡ Some set.0 = key_of-place (dki request) keys place found ∙ set.1 in
    record {
      keys = made.0;
      stored =
          ap (λ (pair : Option BothKeys). option_and_then (keys_in slot.suite) pair)
          (ap (slice_get (flat_map (pairs_of keys) cards)) index ∙ kept-at keys cards number place card.0 set.0 card.1 set.1)
          ∙ ap (λ (suite : Suite). keys_in suite (secrets_of set.0 card.0.pan card.0.psn)) suite_is
          ∙ in-secrets suite set.0 card.0.pan card.0.psn
          ∙ made.1;
      keys_are =
          ap (λ set. keys_from suite set (slice_get cards number)) named
          ∙ ap (keys_from suite (Some set.0)) card.1
          ∙ made.1;
    }

is_some-some : {A : Type 0} (found : Option A) → IsSome found → (value : A) × (found ≡ Some value)
is_some-some None some = absurd (let no : false ≡ true = some in cc)
is_some-some (Some value) some = (value, refl)

then-some : {A B : Type 0} (next : A → Option B) (found : Option A) → IsSome (option_and_then next found) → IsSome found
then-some next None some = some
then-some next (Some value) some = refl

-- a slot that has keys is the index of a stored pair
pub slot-within : (keys : List KeySet) (cards : List CardInfo) (kept : KeptPairs) (slot : KeySlot) → kept ≡ kept_keys keys cards
    → IsSome (option_and_then (keys_in slot.suite) (slice_get (flat_map (pairs_of keys) cards) slot.index)) → slot.index < length kept.pairs
slot-within keys cards kept slot kept_is some =
    let pairs = flat_map (pairs_of keys) cards in
    let pair = is_some-some (slice_get pairs slot.index) (then-some (keys_in slot.suite) (slice_get pairs slot.index) some) in
    subst (λ (kept : KeptPairs). slot.index < length kept.pairs) (sym kept_is) (slice_get_within pairs slot.index pair.0 pair.1)

-- the keys in a slot are those of its suite from the stored pair
pub slot-keys : (keys : List KeySet) (cards : List CardInfo) (kept : KeptPairs) (slot : KeySlot) (pair : BothKeys) → kept ≡ kept_keys keys cards
    → slice_get kept.pairs slot.index ≡ Some pair
    → option_and_then (keys_in slot.suite) (slice_get (flat_map (pairs_of keys) cards) slot.index) ≡ keys_in slot.suite pair
slot-keys keys cards kept slot pair kept_is stored =
    ap (λ (pair : Option BothKeys). option_and_then (keys_in slot.suite) pair)
    (ap (λ (kept : KeptPairs). slice_get kept.pairs slot.index) (sym kept_is) ∙ stored)

-- where no key set has the index, a card has no keys
pub no-keys : (suite : Suite) (keys : List KeySet) (cards : List CardInfo) (number index : ℕ) → position (has_dki index) keys ≡ None
    → keys_from suite (key_of index keys) (slice_get cards number) ≡ None
no-keys suite keys cards number index absent = ap (λ set. keys_from suite set (slice_get cards number)) (key_of-none index keys absent)

-- nor where the key set that has it has no keys of the suite
pub no-keys_of_suite : (suite : Suite) (keys : List KeySet) (cards : List CardInfo) (number index place : ℕ) (has : Bool)
    → number < length cards → position (has_dki index) keys ≡ Some place
    → IfSome (slice_get keys place) (λ set. has ≡ has_suite suite set) → has ≡ false
    → keys_from suite (key_of index keys) (slice_get cards number) ≡ None
no-keys_of_suite suite keys cards number index place has below found told has_is =
    let card = element cards number below in
    let set = element keys place (key_of-within index keys place found) in
    ap (λ set. keys_from suite set (slice_get cards number)) (key_of-place index keys place found ∙ set.1)
    ∙ ap (keys_from suite (Some set.0)) card.1
    ∙ no-suite_keys suite set.0 card.0.pan card.0.psn (sym (suite-told suite keys place has set.0 told set.1) ∙ has_is)
