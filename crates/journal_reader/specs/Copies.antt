-- Which histories a feed can have.
use Rattle.std.specs.Prelude.{◌≡◌, ℕ, ◌≤◌, List, length, slice_get, Some}
use Rattle.issuer_base.specs.declared.entry.Entry.{Entry}
use Rattle.feed_text.specs.declared.limits.TheConstants.{PLACE_END}

-- the index of each record is one that a feed line can have
abbrev pub FitFeeds : List (List Entry) → Type 0
FitFeeds histories =
    (shard : ℕ) (history : List Entry) → slice_get histories shard ≡ Some history → length history ≤ PLACE_END
