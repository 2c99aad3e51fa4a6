-- Readers that read exactly what was written, and how they combine.
use Rattle.std.proofs.Common.{◌≡◌, ℕ, List, [], ◌∷◌, ◌++◌, Option, Some, None, option_map, option_and_then, refl, sym, ap, subst, ◌∙◌, append_assoc}
use Rattle.std.proofs.lemmas.Option.{same_Some}
use Rattle.journal_rec.specs.Reading.{Reader, given, ◌>>=◌, ◌>>◌}

-- a reader reads the text of each valid value and gives the value, and reads no other text; `follows` says what may follow it
pub record Exact {X : Type 0} (read : Reader X) (valid : X → Type 0) (text : X → List ℕ) (follows : List ℕ → Type 0) : Type 0 where
  pub again : (x : X) (rest : List ℕ) → valid x → follows rest → read (text x ++ rest) ≡ Some (x, rest)
  pub takes : (left : List ℕ) (x : X) (rest : List ℕ) → read left ≡ Some (x, rest) → valid x × (left ≡ text x ++ rest) × follows rest

-- anything may follow
abbrev pub anything : List ℕ → Type 0
anything rest = Unit {0}

-- nothing follows
abbrev pub nothing : List ℕ → Type 0
nothing rest = rest ≡ []

-- a step that gave a value
pub then_some : {A B : Type 0} (o : Option A) (f : A → Option B) (y : B) → option_and_then f o ≡ Some y → (x : A) × (o ≡ Some x) × (f x ≡ Some y)
then_some None f y found = absurd cc
then_some (Some x) f y found = (x, refl, found)

-- a value that was mapped
pub map_some : {A B : Type 0} (o : Option A) (f : A → B) (y : B) → option_map f o ≡ Some y → (x : A) × (o ≡ Some x) × (f x ≡ y)
map_some None f y found = absurd cc
map_some (Some x) f y found = (x, refl, same_Some _ _ found)

-- one part, and then more: what is read has the first part as its `part`
pub exact_then : {A B : Type 0} (read : Reader A) (next : A → Reader B) (valid : A → Type 0) (text : A → List ℕ)
    (known rest_valid : B → Type 0) (more : B → List ℕ) (follows : List ℕ → Type 0) (part : B → A)
    → Exact read valid text anything
    → ((a : A) → Exact (next a) (λ b. (known b × (part b ≡ a)) × rest_valid b) more follows)
    → Exact (read >>= next) (λ b. known b × (valid (part b) × rest_valid b)) (λ b. text (part b) ++ more b) follows
exact_then {A} {B} read next valid text known rest_valid more follows part first then = record {
  again = λ b rest holds behind.
      let whole : (text (part b) ++ more b) ++ rest ≡ text (part b) ++ (more b ++ rest) = append_assoc (text (part b)) (more b) rest in
      let front = first.again (part b) (more b ++ rest) holds.1.0 tt in
      ap (read >>= next) whole
      ∙ ap (option_and_then (λ (found : A × List ℕ). next found.0 found.1)) front
      ∙ (then (part b)).again b rest ((holds.0, refl), holds.1.1) behind;
  takes = λ left b rest found.
      let step = then_some (read left) (λ (found : A × List ℕ). next found.0 found.1) (b, rest) found in
      let front = first.takes left step.0.0 step.0.1 step.1 in
      let back = (then step.0.0).takes step.0.1 b rest step.2 in
      let same : part b ≡ step.0.0 = back.0.0.1 in
      let split : left ≡ text step.0.0 ++ (more b ++ rest) = front.1 ∙ ap (λ (l : List ℕ). text step.0.0 ++ l) back.1 in
      let moved : left ≡ text (part b) ++ (more b ++ rest) = subst (λ (a : A). left ≡ text a ++ (more b ++ rest)) (sym same) split in (
        (back.0.0.0, (subst valid (sym same) front.0, back.0.1)),
        moved ∙ sym (append_assoc (text (part b)) (more b) rest),
        back.2,
      );
}

-- what is read, made into something else where that can be
pub exact_map : {A B : Type 0} (read : Reader A) (made : A → Option B) (valid : A → Type 0) (text : A → List ℕ)
    (follows : List ℕ → Type 0) (made_valid : B → Type 0) (back : B → A)
    → Exact read valid text follows
    → ((b : B) → made_valid b → valid (back b) × (made (back b) ≡ Some b))
    → ((a : A) (b : B) → valid a → made a ≡ Some b → made_valid b × (back b ≡ a))
    → Exact (read >>= λ a. given (made a)) made_valid (λ b. text (back b)) follows
exact_map {A} {B} read made valid text follows made_valid back first forth only = record {
  again = λ b rest holds behind.
      let there = forth b holds in
      ap (option_and_then (λ (found : A × List ℕ). given (made found.0) found.1)) (first.again (back b) rest there.0 behind)
      ∙ ap (option_map (λ (b : B). (b, rest))) there.1;
  takes = λ left b rest found.
      let step = then_some (read left) (λ (found : A × List ℕ). given (made found.0) found.1) (b, rest) found in
      let front = first.takes left step.0.0 step.0.1 step.1 in
      let value = map_some (made step.0.0) (λ (b : B). (b, step.0.1)) (b, rest) step.2 in
      let same : value.0 ≡ b = ap (λ (p : B × List ℕ). p.0) value.2 in
      let behind : step.0.1 ≡ rest = ap (λ (p : B × List ℕ). p.1) value.2 in
      let holds = only step.0.0 b front.0 (value.1 ∙ ap Some same) in
      let split : left ≡ text step.0.0 ++ rest = front.1 ∙ ap (λ (l : List ℕ). text step.0.0 ++ l) behind in (
        holds.0,
        subst (λ (a : A). left ≡ text a ++ rest) (sym holds.1) split,
        subst follows behind front.2,
      );
}

-- a mark at the start
pub exact_behind : {B : Type 0} (mark : Reader (Unit {0})) (next : Reader B) (byte : ℕ) (valid : B → Type 0) (text : B → List ℕ) (follows : List ℕ → Type 0)
    → Exact mark (λ _. Unit {0}) (λ _. byte ∷ []) anything
    → Exact next valid text follows
    → Exact (mark >> next) valid (λ b. byte ∷ text b) follows
exact_behind {B} mark next byte valid text follows first then = record {
  again = λ b rest holds behind.
      ap (option_and_then (λ (found : Unit {0} × List ℕ). next found.1)) (first.again tt (text b ++ rest) tt tt) ∙ then.again b rest holds behind;
  takes = λ left b rest found.
      let step = then_some (mark left) (λ (found : Unit {0} × List ℕ). next found.1) (b, rest) found in
      let front = first.takes left step.0.0 step.0.1 step.1 in
      let back = then.takes step.0.1 b rest step.2 in
      (back.0, front.1 ∙ ap (λ (l : List ℕ). byte ∷ l) back.1, back.2);
}

-- the same values by another word, and the same texts
pub exact_same : {X : Type 0} (read : Reader X) (valid other : X → Type 0) (text written : X → List ℕ) (follows : List ℕ → Type 0)
    → Exact read valid text follows → ((x : X) → other x → valid x) → ((x : X) → valid x → other x) → ((x : X) → other x → text x ≡ written x)
    → Exact read other written follows
exact_same read valid other text written follows exact to from same = record {
  again = λ x rest holds behind. rw (← same x holds) (exact.again x rest (to x holds) behind);
  takes = λ left x rest found.
      let back = exact.takes left x rest found in
      let holds = from x back.0 in
      (holds, back.1 ∙ ap (λ (l : List ℕ). l ++ rest) (same x holds), back.2);
}
