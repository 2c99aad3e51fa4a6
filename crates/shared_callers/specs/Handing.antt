-- Lines that go from parts to lanes, and texts that come back.
use Rattle.std.specs.Prelude.{◌≡◌, List, [], map, All}
use Rattle.shared_callers.specs.OneLane.{waiting_lines, answer_texts, lane_rooms, passes_of}
use Rattle.shared_callers.specs.Parts.{lines_of, texts_of, rooms_of}
use Rattle.shared_callers.specs.declared.lane.Lane.{Lane}
use Rattle.shared_callers.specs.declared.part.Part.{Part}

-- the lanes have the same passes as before, and they and the parts have the same room
pub record KeepPlaces (parts : List Part) (lanes : List Lane) (parts_now : List Part) (lanes_now : List Lane)
    : Type 0 where
  pub passes : passes_of lanes_now ≡ passes_of lanes
  pub lane_room : lane_rooms lanes_now ≡ lane_rooms lanes
  pub part_room : rooms_of parts_now ≡ rooms_of parts

-- the lines of each part are those of its lane now, and it has none
pub record LinesGoOver (parts : List Part) (lanes : List Lane) (parts_now : List Part) (lanes_now : List Lane)
    : Type 0 where
  pub places : KeepPlaces parts lanes parts_now lanes_now
  pub texts : map texts_of parts_now ≡ map texts_of parts
  pub lines : map waiting_lines lanes_now ≡ map lines_of parts
  pub none : All (λ part. lines_of part ≡ []) parts_now

-- the texts of each lane are those of its part now
pub record TextsComeBack (parts : List Part) (lanes : List Lane) (parts_now : List Part) (lanes_now : List Lane)
    : Type 0 where
  pub places : KeepPlaces parts lanes parts_now lanes_now
  pub lines : map lines_of parts_now ≡ map lines_of parts
  pub texts : map texts_of parts_now ≡ map answer_texts lanes
