-- Up to the newline that is found, within the room, the unread bytes complete the line.
use Rattle.std.proofs.Common.{ℕ, ◌≡◌, ◌+◌, ◌-◌, ◌≤◌, List, ◌∷◌, ◌++◌, length, take, drop, sym, ap, subst, ◌∙◌, arith}
use Rattle.std.specs.List.{between}
use Rattle.std.proofs.lemmas.List.{length-drop, length-take-le, drop-drop}
use Rattle.line_reader.specs.declared.window.Window.{Window}
use Rattle.line_reader.specs.Lines.{IsFirstNewline}
use Rattle.line_reader.specs.Window.{ahead_of}
use Rattle.line_reader.proofs.Pieces.{FoundNewline, FoundNewline-from_front, drop-between, length-between}
use Rattle.line_reader.proofs.window.Window.pass.Goals as goal

FoundNewline-ahead : (w : Window) (room place : ℕ) (bytes : List ℕ) → bytes ≡ w.bytes.items → IsFirstNewline (take room (between w.start w.end bytes)) place
    → FoundNewline (ahead_of w) room place
FoundNewline-ahead w room place bytes same first =
    FoundNewline-from_front (ahead_of w) room place (subst (λ (l : List ℕ). IsFirstNewline (take room (between w.start w.end l)) place) same first)

pub invariant_of-self : goal.invariant_of-self
invariant_of-self c =
    let w = c.take.new.self in
    let ahead = ahead_of c.args.self.now in
    let h = FoundNewline-ahead c.args.self.now c.args.room c.in-Some.place _ c.deref.ensures.value c.in-Some.ensures in
    let bound : w.end ≤ length w.bytes.items = omega (arith, w.bytes.ok.0) in
    let left : w.end - w.start ≡ length ahead - c.in-Some.place =
    sym (length-between w.bytes.items w.start w.end bound) ∙ ap length c.take.ensures.ahead ∙ length-drop c.in-Some.place ahead in
    record {
      sized = w.sized;
      line_in_order = w.line_in_order;
      line_kept = w.line_kept;
      line_passed = omega arith;
      ahead_in_order = omega (arith, h.within);
      in_bounds = w.in_bounds;
      last_within = w.last_within;
      last_newline = λ less. w.last_newline (omega arith);
      none_behind = w.none_behind;
    }

pub returns-in-Some : goal.returns-in-Some
returns-in-Some c =
    let w = c.take.new.self in
    let ahead = ahead_of c.args.self.now in
    let h = FoundNewline-ahead c.args.self.now c.args.room c.in-Some.place _ c.deref.ensures.value c.in-Some.ensures in
    let left : drop (c.in-Some.place + 1) ahead ≡ between (w.start + 1) w.end w.bytes.items =
    sym (drop-drop 1 c.in-Some.place ahead) ∙ ap (drop 1) (sym c.take.ensures.ahead) ∙ drop-between w.bytes.items w.start w.end 1 in
    record {
      more = take c.in-Some.place ahead;
      whole = h.split ∙ ap (λ l. take c.in-Some.place ahead ++ 10 ∷ l) left;
      unbroken = h.unbroken;
      counted = length-take-le c.in-Some.place ahead (omega (arith, h.within));
      fits = h.fits;
      in_hand = λ passed p. (c.take.ensures.passed passed p).in_hand;
    }
