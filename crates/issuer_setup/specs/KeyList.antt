-- The key sets of an issuer: which lists of key sets are valid, and which key set a derivation key index names.
use Rattle.std.specs.Prelude.{◌≢◌, ℕ, ◌≤◌, Bool, true, is_some, ◌==◌, if◌then◌else◌, List, [], ◌∷◌, ◌++◌, length, Option, None, Some, AllPairs}
use Rattle.std.specs.List.{find, list_any}
use Rattle.issuer_base.specs.declared.limits.TheConstants.{MAX_KEY_SETS}
use Rattle.issuer_base.specs.declared.request.Suite.{Suite}
use Rattle.issuer_base.specs.declared.request.Suite.TheVariants.{TripleDes, Aes}
use Rattle.key_derive.specs.declared.card.KeySet.{KeySet}

-- whether the key set has this derivation key index
abbrev pub has_dki : ℕ → KeySet → Bool
has_dki dki set = set.dki == dki

-- whether the key set has keys of the suite
abbrev pub has_suite : Suite → KeySet → Bool
has_suite TripleDes set = true
has_suite Aes set = is_some set.aes

-- the first key set with this derivation key index, or none
abbrev pub key_of : ℕ → List KeySet → Option KeySet
key_of dki keys = find (has_dki dki) keys

-- the index of the first of these key sets whose derivation key index is that of one before it, or none
abbrev pub first_repeat : List KeySet → List KeySet → Option ℕ
first_repeat before [] = None
first_repeat before (set ∷ keys) =
    if list_any (has_dki set.dki) before then Some (length before) else first_repeat (before ++ set ∷ []) keys

-- the index at which a list of key sets is refused, or none: 0 if there is no key set, else that of the first repeat
unfoldable pub bad_key : List KeySet → Option ℕ
bad_key keys = if length keys == 0 then Some 0 else first_repeat [] keys

-- what an issuer's key sets are: 1 to 16, no two of one derivation key index
pub record AreKeys (keys : List KeySet) : Type 0 where
  pub some : 1 ≤ length keys
  pub few : length keys ≤ MAX_KEY_SETS
  pub distinct : AllPairs (λ first second. first.dki ≢ second.dki) keys
