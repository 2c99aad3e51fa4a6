-- Lanes that answered, concatenated with others that answered.
use Rattle.std.proofs.Common.{◌≡◌, ℕ, zero, suc, ◌+◌, ◌⊎◌, List, [], ◌∷◌, ◌++◌, length, Some, inl, inr, sym, ap, subst, ◌∙◌, arith}
use Rattle.std.proofs.lemmas.List.{length-append}
use Rattle.std.specs.List.{slice_get}
use Rattle.issuer_base.specs.declared.outside.store.Store.{Ghosts}
use Rattle.host_calls.specs.declared.host.Host.{Host}
use Rattle.shared_callers.specs.OneLane.{LanesAnswer}
use Rattle.shared_callers.specs.declared.lane.Lane.{Lane}

-- an item of two lists of so many is one of the first of each or one of the others
in-both : {A : Type 0} (first first_now others others_now : List A) (number : ℕ) (before after : A) → length first_now ≡ length first
    → slice_get (first ++ others) number ≡ Some before → slice_get (first_now ++ others_now) number ≡ Some after
    → ((slice_get first number ≡ Some before) × (slice_get first_now number ≡ Some after))
    ⊎ ((rest : ℕ) × (slice_get others rest ≡ Some before) × (slice_get others_now rest ≡ Some after))
in-both [] [] others others_now number before after same was is = inr (number, was, is)
in-both [] (x ∷ first_now) others others_now number before after same was is = absurd (omega (arith, same))
in-both (x ∷ first) [] others others_now number before after same was is = absurd (omega (arith, same))
in-both (x ∷ first) (y ∷ first_now) others others_now zero before after same was is = inl (was, is)
in-both (x ∷ first) (y ∷ first_now) others others_now (suc number) before after same was is =
    in-both first first_now others others_now number before after (omega (arith, same)) was is

pub answered-both : {S : Type 0} {G : Ghosts S} (host : Host S G) (lanes first first_now others others_now : List Lane) → lanes ≡ first ++ others
    → LanesAnswer host first first_now → LanesAnswer host others others_now → LanesAnswer host lanes (first_now ++ others_now)
answered-both host lanes first first_now others others_now all first_did others_did =
    subst (λ (old : List Lane). LanesAnswer host old (first_now ++ others_now)) (sym all) (record {
      count_is = length-append first_now others_now ∙ ap (λ n. n + length others_now) first_did.count_is
          ∙ ap (λ n. length first + n) others_did.count_is ∙ sym (length-append first others);
      each = λ number before after was is. elim (in-both first first_now others others_now number before after first_did.count_is was is) [
        | inl one ↦ first_did.each number before after one.0 one.1
        | inr other ↦ others_did.each other.0 before after other.1 other.2
      ];
    })
