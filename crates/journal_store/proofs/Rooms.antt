-- Room that is left by calls that add no more than it has.
use Rattle.std.specs.Prelude.{◌≡◌, ℕ, ◌+◌, ◌≤◌, Bool, true, false, Option, Result, Ok, Err, is_err, IsErr, IsOkAnd, MatchResult}
use Rattle.std.proofs.Common.{◌∙◌, arith, refl}
use Rattle.std.proofs.lemmas.Bool.{false≢true}
use Rattle.issuer_base.specs.Stores.{HasRoom, WorksWithin}

-- room that was stated is stated still, and no more of it is used than is freed
pub room-left : (had left size later : ℕ) (old new : Option ℕ) → HasRoom had size old → new ≡ old → later + left ≤ size + had → HasRoom left later new
room-left had left size later old new has stays less =
    record { most = has.most; told = stays ∙ has.told; within = let within = has.within in omega (arith, within, less) }

-- a call that adds nothing works within the room that was stated before other such calls
pub works-later : (failed : Bool) (size later : ℕ) (old between new : Option ℕ) → later ≡ size → between ≡ old → WorksWithin 0 failed later between new
    → WorksWithin 0 failed size old new
works-later failed size later old between new same stays call = record {
  stays = call.stays ∙ stays;
  works = λ has. call.works (room-left 0 0 size later old between has stays (omega (arith, same)));
}

-- no call at all fails
pub works-none : (size : ℕ) (old new : Option ℕ) → new ≡ old → WorksWithin 0 false size old new
works-none size old new stays = record { stays = stays; works = λ has. refl }

-- what failed isn't Ok
pub isnt-ok : {T E : Type 0} (result : Result T E) (P : T → Type 0) → is_err result ≡ true → IsOkAnd result P → ⊥
isnt-ok (Ok value) P failed is = false≢true failed
isnt-ok (Err error) P failed is = is

-- what holds of a result that is an error, whichever
pub fails-with : {T E : Type 0} (P : T → Type 0) (Q : Type 0) (result : Result T E) → IsErr result → Q → MatchResult result P (λ _. Q)
fails-with P Q (Ok value) failed holds = absurd (let e : false ≡ true = failed in cc)
fails-with P Q (Err error) failed holds = holds
