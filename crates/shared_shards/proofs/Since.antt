-- What a crash since a log was opened may leave of its shard, as the shard is called.
use Rattle.std.proofs.Common.{◌≡◌, ℕ, ◌≤◌, List, length, take, Option, sym, ap, subst, ◌∙◌}
use Rattle.std.proofs.lemmas.List.{take-append-le}
use Rattle.issuer_base.specs.Stores.{Disk, BothTold, LeavesOnly}
use Rattle.issuer_base.specs.declared.entry.Entry.{Entry}
use Rattle.issuer_base.proofs.Moments.{LeavesOnly-then, LeavesOnly-weaker}
use Rattle.issuer_base.proofs.ToldTwice.{BothTold-then, BothTold-weaker}
use Rattle.issuer_setup.specs.IssuerSetup.{Setup}
use Rattle.shard_book.specs.Grounds.{grounds_now, IsImageOf}
use Rattle.shard_book.specs.Histories.{GoesOn, IsImageBetween}
use Rattle.shard_book.proofs.Histories.{goes-none, goes-then, goes-from}

module _ (issuer : Setup) (shard count : ℕ) where
  abbrev Between : List Entry → List ℕ → Type 0
  Between history image = IsImageBetween issuer shard (take count history) history image

  abbrev Of : List Entry → List ℕ → Type 0
  Of history image = IsImageOf (grounds_now issuer) shard history image

  -- no call was made since the log was opened
  pub since-opened : (history : List Entry) (was is : Option Disk) → BothTold (LeavesOnly (IsImageOf (grounds_now issuer) shard history)) was is
      → BothTold (LeavesOnly (IsImageBetween issuer shard (take count history) history)) was is
  since-opened history was is =
      BothTold-weaker (LeavesOnly (Of history)) (LeavesOnly (Between history)) was is
      (λ x y only.
      LeavesOnly-weaker (Of history) (Between history) x y
      (λ image of. record { between = history; from_first = goes-from count history; to_last = goes-none history; image_is = of }) only)

  -- one more was made, on this history, and the history went on
  pub since-more : (history after : List Entry) → GoesOn history after → count ≤ length history → (opened was is : Option Disk)
      → BothTold (LeavesOnly (IsImageBetween issuer shard (take count history) history)) opened was
      → BothTold (LeavesOnly (IsImageOf (grounds_now issuer) shard history)) was is
      → BothTold (LeavesOnly (IsImageBetween issuer shard (take count after) after)) opened is
  since-more history after on within opened was is so_far call =
      let same : take count history ≡ take count after = sym (ap (take count) on.1 ∙ take-append-le count history on.0 within) in
      BothTold-then (LeavesOnly (Between history)) (LeavesOnly (Of history)) (LeavesOnly (Between after)) opened was is
      (λ x y z before during.
      LeavesOnly-then (Between after) x y z
      (LeavesOnly-weaker (Between history) (Between after) x y
      (λ image one. record {
        between = one.between;
        from_first = subst (λ (first : List Entry). GoesOn first one.between) same one.from_first;
        to_last = goes-then one.between history after one.to_last on;
        image_is = one.image_is;
      }) before)
      (LeavesOnly-weaker (Of history) (Between after) y z
      (λ image of. record {
        between = history;
        from_first = subst (λ (first : List Entry). GoesOn first history) same (goes-from count history);
        to_last = on;
        image_is = of;
      }) during)) so_far call
