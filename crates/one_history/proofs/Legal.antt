-- Legal histories.
use Rattle.std.proofs.Common.{◌≡◌, ℕ, List, [], ◌∷◌, ◌++◌, length, take, ap, sym, ◌∙◌, subst, arith, inl, inr}
use Rattle.std.specs.List.{slice_get}
use Rattle.std.proofs.lemmas.Bool.{cases_lt}
use Rattle.std.proofs.lemmas.List.{take_at, length_push}
use Rattle.std.proofs.lemmas.Option.{same_Some, slice_get_within}
use Rattle.one_history.specs.Prefixes.{IsPrefix}
use Rattle.one_history.specs.Streams.{Text}
use Rattle.one_history.specs.Events.{Successors, IsLegal}
use Rattle.one_history.proofs.Prefixed.{prefix-get, prefix-take_alike, prefix-append, get-last, get-before}

module _ (MayFollow : Successors) (shard : ℕ) where
  -- a prefix of a legal history is legal
  pub legal-prefix : (first whole : List Text) → IsPrefix first whole → IsLegal MayFollow shard whole → IsLegal MayFollow shard first
  legal-prefix first whole prefix legal index text is =
      let within = slice_get_within first index text is in
      subst (λ (before : List Text). MayFollow shard before text) (sym (prefix-take_alike first whole index prefix (omega arith)))
      (legal index text (prefix-get first whole index text prefix is))

  pub legal-same : (one other : List Text) → one ≡ other → IsLegal MayFollow shard one → IsLegal MayFollow shard other
  legal-same one other same legal = subst (IsLegal MayFollow shard) same legal

  -- one more record
  pub legal-more : (history : List Text) (text : Text) → IsLegal MayFollow shard history → MayFollow shard history text
      → IsLegal MayFollow shard (history ++ text ∷ [])
  legal-more history text legal follows index other is =
      elim (cases_lt index (length history)) [
        | inl within ↦
            subst (λ (before : List Text). MayFollow shard before other)
            (prefix-take_alike history (history ++ text ∷ []) index (prefix-append history (text ∷ [])) (omega arith))
            (legal index other (get-before history (text ∷ []) index other within is))
        | inr past ↦
            let long = length_push history text in
            let below = slice_get_within (history ++ text ∷ []) index other is in
            let last : index ≡ length history = omega arith in
            let same : text ≡ other =
            same_Some text other (sym (get-last history text) ∙ ap (slice_get (history ++ text ∷ [])) (sym last) ∙ is) in
            let all : history ≡ take index (history ++ text ∷ []) = sym (take_at history (text ∷ []) index (sym last)) in
            subst (λ (before : List Text). MayFollow shard before other) all (subst (MayFollow shard history) same follows)
      ]
