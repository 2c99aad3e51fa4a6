-- The bytes of pairs of digits.
use Rattle.std.proofs.Common.{◌≡◌, ◌<◌, ◌*◌, ◌-◌, ◌≤◌, Ok, length, take, drop}
use Rattle.chip_request.specs.LineParts.{data_at}
use Rattle.chip_request.proofs.LoopsOfParts.{behind_bytes}
use Rattle.chip_request.proofs.line_parts.read_pairs.Given as goal

-- the bytes so far and those of the rest are those of the text, and the bytes so far alone where nothing is left
abbrev pub invariant-loop-place : goal.invariant-loop-place
invariant-loop-place l = record {
  more : 2 * l.place < length l.text
      → behind_bytes (take l.place l.bytes) (data_at (l.limit - l.place) (drop (2 * l.place) l.text)) ≡ data_at l.limit l.text;
  end : length l.text ≤ 2 * l.place → Ok (take l.place l.bytes) ≡ data_at l.limit l.text;
}
