-- What the program holds at a stage and at a state of a run.
use Rattle.std.specs.Prelude.{◌≡◌, ℕ, List}
use Rattle.host_loading.specs.Books.{ShardBook}
use Rattle.host_loading.specs.Hosts.{Stand}
use Rattle.world_play.specs.declared.house.House.{House}
use Rattle.world_play.specs.declared.player.Player.{Player}
use Rattle.world_play.specs.Play.{Stage, IsAfter}
use Rattle.world_play.specs.Setting.{issuer}

-- the stage of a card, while the host has these books
abbrev pub stage_at : House → Player → List ShardBook → Stage
stage_at house player books = record { player = player; books = books; tally = house.tally }

-- whatever the books of the host are, it goes from their stage to one that is so related to it
pub record Reaches (Leads : Stage → Stage → Type 0) (old : House) (before : Player) (new : House)
    (after : Player) : Type 0 where
  pub issuer_is : new.host.issuer ≡ old.host.issuer
  pub leads : (books : List ShardBook) → Stand old.host.issuer old.host.shards.items books
      → (last : List ShardBook) × Stand new.host.issuer new.host.shards.items last
      × Leads (stage_at old before books) (stage_at new after last)

-- the host and the cards are as they are in a run after so many steps
pub record IsAt (cards seed steps : ℕ) (house : House) (players : List Player) : Type 0 where
  pub books : List ShardBook
  pub issuer_is : house.host.issuer ≡ issuer cards
  pub stand : Stand house.host.issuer house.host.shards.items books
  pub is_after : IsAfter cards seed steps (record { players = players; books = books; tally = house.tally })
