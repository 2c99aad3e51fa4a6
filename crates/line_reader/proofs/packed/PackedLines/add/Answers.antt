-- There is room for the line, which then lies behind the others.
use Rattle.std.proofs.Common.{rules, ◌≡◌, ◌≤◌, [], ◌∷◌, ◌++◌, length, ℕ, ◌+◌, List, map, sym, ap, ap₂, ◌∙◌, arith, vec_len, vec_capacity}
use Rattle.std.proofs.lemmas.List.{length-map, map-append}
use Rattle.std.proofs.Math.Nat.{mul-le-mul_right}
use Rattle.line_reader.specs.declared.packed.Span.{Span}
use Rattle.line_reader.specs.KeptLines.{KeptLines, line_at}
use Rattle.line_reader.proofs.Packing.{last-line, lines-stay}
use Rattle.line_reader.proofs.packed.PackedLines.add.Goals as goal

pub unwrap-requires : goal.unwrap-requires
unwrap-requires g c =
    let packed = c.self.inside in
    let count : length packed.spans.items ≡ length c.args.self.now.lines =
    sym (length-map packed.spans.items (line_at packed.bytes.items)) ∙ ap (λ (kept : KeptLines). length kept.lines) c.self.view_is in
    let room : vec_capacity packed.spans ≡ c.args.self.now.room = ap (λ (kept : KeptLines). kept.room) c.self.view_is in
    let more : length packed.spans.items + 1 ≤ vec_capacity packed.spans = omega (arith, count, room, c.requires.room) in
    let enough = mul-le-mul_right g.row.MOST more in
    let long : vec_len packed.bytes ≡ length packed.bytes.items = search rules in
    c.extend_from_slice.ensures.succeeds (omega (arith, long, enough, c.requires.short, c.self.invariant.1, c.self.invariant.3))

pub returns : goal.returns
returns g c =
    let packed = c.self.inside in
    let spans : List Span = packed.spans.items in
    let bytes : List ℕ = packed.bytes.items in
    let line : List ℕ = c.args.line.now in
    let span : Span = record { start = c.len-start.result; end = c.len.result } in
    let longer : c.extend_from_slice.new.self.items ≡ bytes ++ line = search rules in
    let last = last-line g.row.MOST bytes line span (search rules) (search rules) in
    let lines : map (line_at c.extend_from_slice.new.self.items) c.push_reserved.new.self.items ≡ map (line_at bytes) spans ++ line ∷ [] =
    ap₂ (λ (bs : List ℕ) (ss : List Span). map (line_at bs) ss) longer c.push_reserved.ensures.items
    ∙ map-append (line_at (bytes ++ line)) spans (span ∷ [])
    ∙ ap₂ (λ (ls : List (List ℕ)) (l : List ℕ). ls ++ l ∷ []) (lines-stay g.row.MOST bytes line spans c.self.invariant.0) last in
    ap₂ (λ (ls : List (List ℕ)) (r : ℕ). record { lines = ls; room = r })
    (lines ∙ ap (λ (kept : KeptLines). kept.lines ++ line ∷ []) c.self.view_is)
    (c.push_reserved.ensures.capacity ∙ ap (λ (kept : KeptLines). kept.room) c.self.view_is)
