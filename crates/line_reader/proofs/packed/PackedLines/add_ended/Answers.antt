-- There is room for the line and its newline, which then lie behind the others.
use Rattle.std.proofs.Common.{rules, ◌≡◌, ◌≤◌, [], ◌∷◌, ◌++◌, length, ℕ, ◌+◌, List, map, sym, ap, ap₂, ◌∙◌, arith, append_assoc, vec_len, vec_capacity}
use Rattle.std.proofs.lemmas.List.{length-map, map-append}
use Rattle.std.proofs.Math.Nat.{mul-le-mul_right}
use Rattle.line_reader.specs.Lines.{ended}
use Rattle.line_reader.specs.declared.packed.Span.{Span}
use Rattle.line_reader.specs.KeptLines.{KeptLines, line_at}
use Rattle.line_reader.proofs.Packing.{last-line, lines-stay}
use Rattle.line_reader.proofs.packed.PackedLines.add_ended.Goals as goal

pub unwrap-requires : goal.unwrap-requires
unwrap-requires g c =
    let packed = c.self.inside in
    let count : length packed.spans.items ≡ length c.args.self.now.lines =
    sym (length-map packed.spans.items (line_at packed.bytes.items)) ∙ ap (λ (kept : KeptLines). length kept.lines) c.self.view_is in
    let room : vec_capacity packed.spans ≡ c.args.self.now.room = ap (λ (kept : KeptLines). kept.room) c.self.view_is in
    let more : length packed.spans.items + 1 ≤ vec_capacity packed.spans = omega (arith, count, room, c.requires.room) in
    let enough = mul-le-mul_right g.row.MOST more in
    let long : vec_len packed.bytes ≡ length packed.bytes.items = search rules in
    c.extend_from_slice.ensures.succeeds (omega (arith, long, enough, c.requires.short, c.self.invariant.1, c.self.invariant.3))

pub returns : goal.returns
returns g c =
    let packed = c.self.inside in
    let spans : List Span = packed.spans.items in
    let bytes : List ℕ = packed.bytes.items in
    let line : List ℕ = c.args.line.now in
    let span : Span = record { start = c.len-start.result; end = c.len.result } in
    let longer : c.extend_from_slice.new.self.items ≡ bytes ++ line = search rules in
    let ended_so : c.push_reserved.new.self.items ≡ bytes ++ ended line =
    c.push_reserved.ensures.items ∙ ap (λ (bs : List ℕ). bs ++ 10 ∷ []) longer ∙ append_assoc bytes line (10 ∷ []) in
    let last = last-line g.row.MOST bytes (ended line) span (search rules) (search rules) in
    let lines : map (line_at c.push_reserved.new.self.items) c.push_reserved-2.new.self.items ≡ map (line_at bytes) spans ++ ended line ∷ [] =
    ap₂ (λ (bs : List ℕ) (ss : List Span). map (line_at bs) ss) ended_so c.push_reserved-2.ensures.items
    ∙ map-append (line_at (bytes ++ ended line)) spans (span ∷ [])
    ∙ ap₂ (λ (ls : List (List ℕ)) (l : List ℕ). ls ++ l ∷ []) (lines-stay g.row.MOST bytes (ended line) spans c.self.invariant.0) last in
    ap₂ (λ (ls : List (List ℕ)) (r : ℕ). record { lines = ls; room = r })
    (lines ∙ ap (λ (kept : KeptLines). kept.lines ++ ended line ∷ []) c.self.view_is)
    (c.push_reserved-2.ensures.capacity ∙ ap (λ (kept : KeptLines). kept.room) c.self.view_is)
