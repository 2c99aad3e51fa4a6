-- What holds of the host of one caller and of that of several, of either.
use Rattle.std.proofs.Common.{◌≡◌, ◌≤◌, ℕ, List, [], length, map, subst}
use Rattle.issuer_base.specs.declared.outside.store.Store.{Ghosts}
use Rattle.line_reader.specs.declared.limits.TheConstants.{MAX_LINES}
use Rattle.line_reader.specs.Reading.{kept}
use Rattle.issuer_setup.specs.IssuerSetup.{Setup}
use Rattle.one_caller.specs.declared.solo.Solo.{Solo}
use Rattle.shared_callers.specs.declared.lanes.Lanes.{Lanes}
use Rattle.shared_callers.specs.Lanes.{callers_in}
use Rattle.line_serving.specs.declared.alone.AloneHost.{AloneHost}
use Rattle.line_serving.specs.declared.hosts.LineHost.{LineHost}
use Rattle.line_serving.specs.declared.hosts.LineHost.TheVariants.{Alone, Together}
use Rattle.desk_host.specs.Journals.{IsReadySolo}
use Rattle.line_serving.specs.Leaving.{LeavesAnswered}
use Rattle.line_serving.specs.Hosts.{IsReadyTogether, HasAnswered, HaveAnswered}
use Rattle.line_serving.specs.Hosts.{callers_of}
use Rattle.line_serving.specs.Hosts.{IsReady, HasServed}
use Rattle.desk_host.specs.SeenStores.{Logged, journals_seen}
use Rattle.desk_host.specs.Configuration.{HasSoundParts}

module _ {S : Type 0} {G : Ghosts S} (first : LineHost S G) where
  -- what holds of the host of one caller holds of either
  pub of_alone : (old new : AloneHost S G)
      (Holds : (List (List ℕ) → List ℕ → List (List ℕ) → Type 0) → List (List ℕ) → List ℕ → List (List ℕ) → Type 0)
      → ((first : Solo S G) (lines : List (List ℕ)) (text : List ℕ) (waiting : List (List ℕ))
      → HasAnswered first lines text waiting old
      → Holds (λ lines text waiting. HasAnswered first lines text waiting new) lines text waiting)
      → (lines : List (List ℕ)) (text : List ℕ) (waiting : List (List ℕ))
      → HasServed first lines text waiting (Alone old)
      → Holds (λ lines text waiting. HasServed first lines text waiting (Alone new)) lines text waiting
  of_alone old new Holds holds lines text waiting =
      elim first as (λ first. HasServed first lines text waiting (Alone old)
      → Holds (λ lines text waiting. HasServed first lines text waiting (Alone new)) lines text waiting) [
        | Alone begun ↦ λ so_far. holds begun.host lines text waiting so_far
        | Together begun ↦ λ so_far. absurd so_far
      ]

  -- and so does what holds of that of several
  pub of_together : (old new : Lanes S G)
      (Holds : (List (List ℕ) → List ℕ → List (List ℕ) → Type 0) → List (List ℕ) → List ℕ → List (List ℕ) → Type 0)
      → ((first : Lanes S G) (lines : List (List ℕ)) (text : List ℕ) (waiting : List (List ℕ))
      → HaveAnswered first lines text waiting old
      → Holds (λ lines text waiting. HaveAnswered first lines text waiting new) lines text waiting)
      → (lines : List (List ℕ)) (text : List ℕ) (waiting : List (List ℕ))
      → HasServed first lines text waiting (Together old)
      → Holds (λ lines text waiting. HasServed first lines text waiting (Together new)) lines text waiting
  of_together old new Holds holds lines text waiting =
      elim first as (λ first. HasServed first lines text waiting (Together old)
      → Holds (λ lines text waiting. HasServed first lines text waiting (Together new)) lines text waiting) [
        | Alone begun ↦ λ so_far. absurd so_far
        | Together begun ↦ λ so_far. holds begun lines text waiting so_far
      ]

  -- ---- what they leave

  pub leaves_alone : (now : LineHost S G) (host : AloneHost S G) (stores : List S) → now ≡ Alone host
      → ((issuer : Setup) (prefix : List ℕ) (logs : Logged) (olds : List S) (first : Solo S G)
      (lines : List (List ℕ)) (text : List ℕ)
      → IsReadySolo issuer prefix logs olds first → HasSoundParts issuer → HasAnswered first (map kept lines) text [] host
      → LeavesAnswered 1 issuer prefix logs (journals_seen G olds stores) lines text)
      → (issuer : Setup) (prefix : List ℕ) (logs : Logged) (olds : List S) (lines : List (List ℕ)) (text : List ℕ)
      → IsReady issuer prefix logs olds first
      → HasSoundParts issuer → length lines ≤ MAX_LINES → HasServed first (map kept lines) text [] now
      → LeavesAnswered (callers_of first) issuer prefix logs (journals_seen G olds stores) lines text
  leaves_alone now host stores same leaves issuer prefix logs olds lines text ready sound within served =
      elim first as (λ first. IsReady issuer prefix logs olds first → HasServed first (map kept lines) text [] (Alone host)
      → LeavesAnswered (callers_of first) issuer prefix logs (journals_seen G olds stores) lines text) [
        | Alone begun ↦ λ ready so_far. leaves issuer prefix logs olds begun.host lines text ready sound so_far
        | Together begun ↦ λ ready so_far. absurd so_far
      ] ready (subst (HasServed first (map kept lines) text []) same served)

  pub leaves_together : (now : LineHost S G) (host : Lanes S G) (stores : List S) → now ≡ Together host
      → ((issuer : Setup) (prefix : List ℕ) (logs : Logged) (olds : List S) (first : Lanes S G)
      (lines : List (List ℕ)) (text : List ℕ)
      → IsReadyTogether issuer prefix logs olds first → HasSoundParts issuer → length lines ≤ MAX_LINES
      → HaveAnswered first (map kept lines) text [] host
      → LeavesAnswered (callers_in first) issuer prefix logs (journals_seen G olds stores) lines text)
      → (issuer : Setup) (prefix : List ℕ) (logs : Logged) (olds : List S) (lines : List (List ℕ)) (text : List ℕ)
      → IsReady issuer prefix logs olds first
      → HasSoundParts issuer → length lines ≤ MAX_LINES → HasServed first (map kept lines) text [] now
      → LeavesAnswered (callers_of first) issuer prefix logs (journals_seen G olds stores) lines text
  leaves_together now host stores same leaves issuer prefix logs olds lines text ready sound within served =
      elim first as (λ first. IsReady issuer prefix logs olds first
      → HasServed first (map kept lines) text [] (Together host)
      → LeavesAnswered (callers_of first) issuer prefix logs (journals_seen G olds stores) lines text) [
        | Alone begun ↦ λ ready so_far. absurd so_far
        | Together begun ↦ λ ready so_far. leaves issuer prefix logs olds begun lines text ready sound within so_far
      ] ready (subst (HasServed first (map kept lines) text []) same served)
