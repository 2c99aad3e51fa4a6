-- Lines that are put into a block, one after another.
use Rattle.std.proofs.Common.{◌≡◌, ℕ, zero, suc, ◌+◌, List, [], ◌∷◌, ◌++◌, take, drop, Option, None, Some, Ok}
use Rattle.std.proofs.Common.{refl, sym, ap, subst, ◌∙◌, append-nil, append_assoc, add-one}
use Rattle.std.specs.List.{flat_map, slice_get}
use Rattle.std.specs.Prelude.{IsSome, MatchOption, Result}
use Rattle.std.specs.Io.KnownBytes.{Appends}
use Rattle.std.proofs.KnownBytes.{Appends-nil, Appends-trans}
use Rattle.issuer_base.specs.declared.faults.WriteFault.{WriteFault}
use Rattle.issuer_base.specs.Sink.{AppendsFront, WritesAll}
use Rattle.issuer_base.proofs.ManyCalls.{AppendsFront-after, AppendsFront-more, WritesAll-after}
use Rattle.clearing_check.specs.ClearText.{open_text}
use Rattle.line_serving.specs.Clearing.{Puts}

-- a part of this text was written, and the remainder is due
pub record IsPut (first now : Option (List ℕ)) (due text : List ℕ) : Type 0 where
  pub early : List ℕ
  pub written : Appends first now early
  pub joined : early ++ due ≡ text

pub put-none : (held : Option (List ℕ)) (due : List ℕ) → due ≡ [] → IsPut held held due []
put-none held due none = record { early = []; written = Appends-nil held; joined = none }

module _ (first mid now : Option (List ℕ)) (due text : List ℕ) (put : IsPut first mid due text) where
  -- a line more
  pub put-more : (line left : List ℕ) → Puts line due left mid now (Ok tt) → IsPut first now left (text ++ line)
  put-more line left puts = record {
    early = put.early ++ puts.0;
    written = Appends-trans first mid now put.early puts.0 put.written puts.1;
    joined =
        append_assoc put.early puts.0 left
        ∙ ap (λ l. put.early ++ l) puts.2
        ∙ sym (append_assoc put.early due line)
        ∙ ap (λ l. l ++ line) put.joined;
  }

  -- the sink failed at it
  pub put-front : (line : List ℕ) → AppendsFront mid now (due ++ line) → AppendsFront first now (text ++ line)
  put-front line front =
      subst (AppendsFront first now) (sym (append_assoc put.early due line) ∙ ap (λ l. l ++ line) put.joined)
      (AppendsFront-after first mid now put.early (due ++ line) put.written front)

  -- what is due was written
  pub put-end : (result : Result (Unit {0}) WriteFault) → WritesAll mid now result due → WritesAll first now result text
  put-end result writes =
      subst (WritesAll first now result) put.joined
      (WritesAll-after first mid now result put.early due put.written writes)

-- ---- the open records

pub opens-suc : (places : List (ℕ × ℕ)) (n : ℕ) (place : ℕ × ℕ) → slice_get places n ≡ Some place
    → flat_map open_text (take (n + 1) places) ≡ flat_map open_text (take n places) ++ open_text place
opens-suc places n place at = ap (λ k. flat_map open_text (take k places)) (add-one n) ∙ suc-more places n place at
  where
    suc-more : (places : List (ℕ × ℕ)) (n : ℕ) (place : ℕ × ℕ) → slice_get places n ≡ Some place
        → flat_map open_text (take (suc n) places) ≡ flat_map open_text (take n places) ++ open_text place
    suc-more [] n place at = absurd (let e : None ≡ Some place = at in cc)
    suc-more (first ∷ places) zero place at =
        let same : first ≡ place = (let e : Some first ≡ Some place = at in cc) in
        append-nil (open_text first) ∙ ap open_text same
    suc-more (first ∷ places) (suc n) place at =
        ap (λ t. open_text first ++ t) (suc-more places n place at)
        ∙ sym (append_assoc (open_text first) (flat_map open_text (take n places)) (open_text place))

opens-parts : (places : List (ℕ × ℕ)) (n : ℕ)
    → flat_map open_text places ≡ flat_map open_text (take n places) ++ flat_map open_text (drop n places)
opens-parts places zero = refl
opens-parts [] (suc n) = refl
opens-parts (first ∷ places) (suc n) =
    ap (λ t. open_text first ++ t) (opens-parts places n)
    ∙ sym (append_assoc (open_text first) (flat_map open_text (take n places)) (flat_map open_text (drop n places)))

-- what isn't None is some
pub left-some : {X : Type 0} (found : Option X) (N : Type 0) (P : X → Type 0) → MatchOption found N P → (N → ⊥) → IsSome found
left-some None N P none not_none = absurd (not_none none)
left-some (Some x) N P some not_none = refl

-- an element that is the first of those from an index on is at this index, and the others are from the next one on
pub drop-here : {X : Type 0} (xs : List X) (n : ℕ) (y : X) (ys : List X) → drop n xs ≡ y ∷ ys
    → (slice_get xs n ≡ Some y) × (drop (suc n) xs ≡ ys)
drop-here [] zero y ys is = absurd (let e : [] ≡ y ∷ ys = is in cc)
drop-here [] (suc n) y ys is = absurd (let e : [] ≡ y ∷ ys = is in cc)
drop-here (x ∷ xs) zero y ys is = (
  let e : x ∷ xs ≡ y ∷ ys = is in (let same : x ≡ y = cc in ap Some same),
  let e : x ∷ xs ≡ y ∷ ys = is in (let same : xs ≡ ys = cc in same),
)
drop-here (x ∷ xs) (suc n) y ys is = drop-here xs n y ys is

-- a prefix of the first lines is one of the whole text
pub front-whole : (places : List (ℕ × ℕ)) (n : ℕ) (place : ℕ × ℕ) (total : List ℕ) (first now : Option (List ℕ))
    → slice_get places n ≡ Some place
    → AppendsFront first now (flat_map open_text (take n places) ++ open_text place)
    → AppendsFront first now (flat_map open_text places ++ total)
front-whole places n place total first now at front =
    let more = flat_map open_text (drop (n + 1) places) in
    let whole : flat_map open_text (take (n + 1) places) ++ (more ++ total) ≡ flat_map open_text places ++ total =
    sym (append_assoc (flat_map open_text (take (n + 1) places)) more total)
    ∙ ap (λ l. l ++ total) (sym (opens-parts places (n + 1))) in
    subst (AppendsFront first now) whole
    (AppendsFront-more first now (flat_map open_text (take (n + 1) places)) (more ++ total)
    (subst (AppendsFront first now) (sym (opens-suc places n place at)) front))
