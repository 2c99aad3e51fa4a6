-- The object at the start of a text: what is parsed is encoded there, and what is encoded there is parsed.
use Rattle.std.proofs.Common.{◌≡◌, ℕ, suc, ◌+◌, ◌*◌, ◌≤◌, Bool, true, false, cond, not, ◌&&◌, List, [], ◌∷◌, ◌++◌, length, take, drop, Option, Some}
use Rattle.std.proofs.Common.{None, option_and_then, nat_lt, nat_eq, refl, sym, ap, ◌∙◌, subst, append_assoc, arith, tests, rules, length-append}
use Rattle.std.proofs.Common.{take-append-drop, length-take-le, zero-add, le-ltb, ne_eqb}
use Rattle.std.proofs.Math.Seq.{take-append_seam, drop-append_seam}
use Rattle.std.proofs.lemmas.Bool.{and_parts}
use Rattle.std.proofs.lemmas.Bool.Decides.{nat_tests}
use Rattle.tlv_objects.specs.Tlv.{opens_long_tag, ends_tag, tag_from_third, tag_from_second, tag_at, short_length, long_length, length_at}
use Rattle.tlv_objects.specs.Tlv.{FrontObject, front_object}
use Rattle.tlv_objects.specs.Grammar.{is_tag, big_endian, SpellsLength, Spells}

-- a fact that holds whichever side of a choice was taken
pub choose : {A : Type 0} {P : Type 0} (b : Bool) (x y z : A) → cond b x y ≡ z → (b ≡ true → x ≡ z → P) → (b ≡ false → y ≡ z → P) → P
choose true x y z h f g = f refl h
choose false x y z h f g = g refl h

some_injective : {A : Type 0} (x y : A) → Some x ≡ Some y → x ≡ y
some_injective x y h = cc

not_true : (b : Bool) → not b ≡ true → b ≡ false
not_true true h = absurd cc
not_true false h = refl

-- the text is a tag and what follows it
pub record TakesTag (text : List ℕ) (found : ℕ × List ℕ) : Type 0 where
  pub tag_bytes : List ℕ
  pub joined : text ≡ tag_bytes ++ found.1
  pub is_a_tag : is_tag tag_bytes ≡ true
  pub number : big_endian tag_bytes ≡ found.0

takes_third : (a b : ℕ) (rest : List ℕ) (found : ℕ × List ℕ) → opens_long_tag a ≡ true → ends_tag b ≡ false
    → tag_from_third (256 * a + b) rest ≡ Some found → TakesTag (a ∷ b ∷ rest) found
takes_third a b [] found long more h = absurd cc
takes_third a b (c ∷ rest) found long more h = choose (ends_tag c) _ _ _ h
    (λ last e. subst (TakesTag (a ∷ b ∷ c ∷ rest)) (some_injective _ _ e) (record {
      tag_bytes = a ∷ b ∷ c ∷ [];
      joined = refl;
      is_a_tag = rw (long, more, last) refl;
      number = omega arith;
    }))
    (λ _ e. absurd cc)

takes_second : (a : ℕ) (rest : List ℕ) (found : ℕ × List ℕ) → opens_long_tag a ≡ true → tag_from_second a rest ≡ Some found → TakesTag (a ∷ rest) found
takes_second a [] found long h = absurd cc
takes_second a (b ∷ rest) found long h = choose (ends_tag b) _ _ _ h
    (λ last e. subst (TakesTag (a ∷ b ∷ rest)) (some_injective _ _ e) (record {
      tag_bytes = a ∷ b ∷ [];
      joined = refl;
      is_a_tag = rw (long, last) refl;
      number = omega arith;
    }))
    (λ more e. takes_third a b rest found long more e)

-- a tag that is read, and isn't 00, is spelled at the front
pub takes_tag : (a : ℕ) (rest : List ℕ) (found : ℕ × List ℕ) → tag_at (suc a ∷ rest) ≡ Some found → TakesTag (suc a ∷ rest) found
unfolding tag_at
takes_tag a rest found h = choose (opens_long_tag (suc a)) _ _ _ h
    (λ long e. takes_second (suc a) rest found long e)
    (λ short e. subst (TakesTag (suc a ∷ rest)) (some_injective _ _ e) (record {
      tag_bytes = suc a ∷ [];
      joined = refl;
      is_a_tag = rw (short, ne_eqb (suc a) 0 (omega arith)) refl;
      number = omega arith;
    }))

-- the text is a spelling of a length and what follows it
pub record TakesLength (text : List ℕ) (found : ℕ × List ℕ) : Type 0 where
  pub length_bytes : List ℕ
  pub joined : text ≡ length_bytes ++ found.1
  pub spells_length : SpellsLength length_bytes found.0

takes_short : (a : ℕ) (rest : List ℕ) (found : ℕ × List ℕ) → a ≡ 129 → short_length rest ≡ Some found → TakesLength (a ∷ rest) found
takes_short a [] found e h = absurd cc
takes_short a (b ∷ rest) found e h = subst (TakesLength (a ∷ b ∷ rest)) (some_injective _ _ h) (record {
  length_bytes = a ∷ b ∷ [];
  joined = refl;
  spells_length = (e, refl);
})

takes_long : (a : ℕ) (rest : List ℕ) (found : ℕ × List ℕ) → a ≡ 130 → long_length rest ≡ Some found → TakesLength (a ∷ rest) found
takes_long a [] found e h = absurd cc
takes_long a (b ∷ []) found e h = absurd cc
takes_long a (b ∷ c ∷ rest) found e h = subst (TakesLength (a ∷ b ∷ c ∷ rest)) (some_injective _ _ h) (record {
  length_bytes = a ∷ b ∷ c ∷ [];
  joined = refl;
  spells_length = (e, refl);
})

-- a length that is read is spelled at the front
pub takes_length : (text : List ℕ) (found : ℕ × List ℕ) → length_at text ≡ Some found → TakesLength text found
unfolding length_at
takes_length [] found h = absurd cc
takes_length (a ∷ rest) found h = choose (nat_lt a 128) _ _ _ h
    (λ below e. subst (TakesLength (a ∷ rest)) (some_injective _ _ e) (record {
      length_bytes = a ∷ [];
      joined = refl;
      spells_length = (search (tests, rules), refl);
    }))
    (λ _ e. choose (nat_eq a 129) _ _ _ e
    (λ is f. takes_short a rest found (search (tests, rules)) f)
    (λ _ f. choose (nat_eq a 130) _ _ _ f
    (λ is g. takes_long a rest found (search (tests, rules)) g)
    (λ _ g. absurd cc)))

bind_some : {A B : Type 0} (o : Option A) (f : A → Option B) (y : B) → option_and_then f o ≡ Some y → (x : A) × (o ≡ Some x) × (f x ≡ Some y)
bind_some None f y h = absurd cc
bind_some (Some x) f y h = (x, refl, h)

-- the text is a spelling of the object and what follows it
pub record TakesObject (text : List ℕ) (front : FrontObject) : Type 0 where
  pub spelling : List ℕ
  pub joined : text ≡ spelling ++ front.rest
  pub spelled : Spells spelling front.tag front.value

regrouped : (a b c d : List ℕ) → a ++ (b ++ (c ++ d)) ≡ (a ++ (b ++ c)) ++ d
regrouped a b c d = simp append_assoc

-- a value that is cut off after its tag and length is spelled with them
takes_value : (text : List ℕ) (tag len : ℕ × List ℕ) → TakesTag text tag → TakesLength tag.1 len → len.0 ≤ length len.1
    → TakesObject text (record { tag = tag.0; value = take len.0 len.1; rest = drop len.0 len.1 })
takes_value text tag len t l fits = record {
  spelling = t.tag_bytes ++ (l.length_bytes ++ take len.0 len.1);
  joined = t.joined
      ∙ ap (λ (ys : List ℕ). t.tag_bytes ++ ys) (l.joined ∙ ap (λ (ys : List ℕ). l.length_bytes ++ ys) (sym (take-append-drop len.0 len.1)))
      ∙ regrouped t.tag_bytes l.length_bytes (take len.0 len.1) (drop len.0 len.1);
  spelled = record {
    tag_bytes = t.tag_bytes;
    length_bytes = l.length_bytes;
    joined = refl;
    is_a_tag = t.is_a_tag;
    number = t.number;
    spells_length = rw (length-take-le len.0 len.1 fits) l.spells_length;
  };
}

-- an object that is read is spelled at the front
pub takes_object : (a : ℕ) (rest : List ℕ) (front : FrontObject) → front_object (suc a ∷ rest) ≡ Some front → TakesObject (suc a ∷ rest) front
unfolding front_object
takes_object a rest front h =
    let tag = bind_some _ _ _ h in
    let len = bind_some _ _ _ tag.2 in
    choose (nat_lt (length len.0.1) len.0.0) _ _ _ len.2
    (λ _ e. absurd cc)
    (λ fits e. subst (TakesObject (suc a ∷ rest)) (some_injective _ _ e)
    (takes_value _ tag.0 len.0 (takes_tag a rest tag.0 tag.1) (takes_length tag.0.1 len.0 len.1) (search (tests, rules))))

-- WHAT IS SPELLED IS READ

reads_tag : (t rest : List ℕ) → is_tag t ≡ true → tag_at (t ++ rest) ≡ Some (big_endian t, rest)
unfolding tag_at
reads_tag [] rest h = absurd cc
reads_tag (a ∷ []) rest h =
    let parts = and_parts _ _ h in
    let short : opens_long_tag a ≡ false = not_true _ parts.0 in
    rw (short, zero-add) refl
reads_tag (a ∷ b ∷ []) rest h =
    let parts : (opens_long_tag a ≡ true) × (ends_tag b ≡ true) = and_parts _ _ h in
    rw (parts.0, parts.1, zero-add) refl
reads_tag (a ∷ b ∷ c ∷ []) rest h =
    let parts : (opens_long_tag a ≡ true) × (not (ends_tag b) && ends_tag c ≡ true) = and_parts _ _ h in
    let later : (not (ends_tag b) ≡ true) × (ends_tag c ≡ true) = and_parts _ _ parts.1 in
    let more : ends_tag b ≡ false = not_true _ later.0 in
    rw (parts.0, more, later.1, zero-add) refl
reads_tag (a ∷ b ∷ c ∷ d ∷ more) rest h = absurd cc

reads_length : (l rest : List ℕ) (n : ℕ) → SpellsLength l n → length_at (l ++ rest) ≡ Some (n, rest)
unfolding length_at
reads_length [] rest n h = absurd h
reads_length (a ∷ []) rest n h = grind (arith, nat_tests)
reads_length (a ∷ b ∷ []) rest n h = grind (arith, nat_tests)
reads_length (a ∷ b ∷ c ∷ []) rest n h = grind (arith, nat_tests)
reads_length (a ∷ b ∷ c ∷ d ∷ more) rest n h = absurd h

-- an object that is spelled at the front is read there, and what follows it is left
pub reads_object : (spelling rest : List ℕ) (tag : ℕ) (value : List ℕ) → Spells spelling tag value
    → front_object (spelling ++ rest) ≡ Some (record { tag = tag; value = value; rest = rest })
unfolding front_object
reads_object spelling rest tag value s =
    let tag_read = reads_tag s.tag_bytes (s.length_bytes ++ (value ++ rest)) s.is_a_tag in
    let length_read = reads_length s.length_bytes (value ++ rest) (length value) s.spells_length in
    rw (
      s.joined,
      sym (regrouped s.tag_bytes s.length_bytes value rest),
      tag_read,
      length_read,
      s.number,
      le-ltb _ _
          (fits value rest),
      take-append_seam value rest,
      drop-append_seam value rest,
    ) refl
  where
    fits : (value rest : List ℕ) → length value ≤ length (value ++ rest)
    fits value rest = omega (arith, length-append value rest)
