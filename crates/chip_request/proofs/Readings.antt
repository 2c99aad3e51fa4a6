-- What parsing a text from its start gives, where `F text kind` says what a text means.
use Rattle.std.proofs.Common.{◌≡◌, ℕ, List, [], ◌∷◌, ◌++◌, Option, Some, None, Ok, Err, refl, ap, subst, ◌∙◌}
use Rattle.chip_request.specs.LineParts.{Part, ◌>>=◌, value_in_front, value_at}

-- two texts begin alike: with the same byte, or with none
abbrev pub StartAlike : List ℕ → List ℕ → Type 0
StartAlike [] [] = Unit {0}
StartAlike [] (b ∷ bs) = ⊥
StartAlike (a ∷ others) [] = ⊥
StartAlike (a ∷ others) (b ∷ bs) = a ≡ b

-- some text has a meaning
pub record Example {K : Type 0} (F : List ℕ → K → Type 0) : Type 0 where
  pub text : List ℕ
  pub kind : K
  pub means : F text kind

-- reading stops before a remainder: some text with a meaning begins with what is before it, and none goes on as the rest does
pub record Stops {K : Type 0} (F : List ℕ → K → Type 0) (text rest : List ℕ) : Type 0 where
  pub front : List ℕ
  pub joined : text ≡ front ++ rest
  pub more : List ℕ
  pub kind : K
  pub begins : F (front ++ more) kind
  pub no_other : (other : List ℕ) (kind : K) → StartAlike other rest → F (front ++ other) kind → ⊥

-- reading finds the one meaning
pub record Finds {K : Type 0} (F : List ℕ → K → Type 0) (text : List ℕ) (kind : K) : Type 0 where
  pub here : F text kind
  pub only : (other : K) → F text other → other ≡ kind

abbrev pub Reads : {K : Type 0} → (List ℕ → K → Type 0) → List ℕ → Part K → Type 0
Reads F text (Ok kind) = Finds F text kind
Reads F text (Err rest) = Stops F text rest

-- reading stops at once where no text with a meaning begins so
pub stops_here : {K : Type 0} (F : List ℕ → K → Type 0) → Example F → (text : List ℕ)
    → ((other : List ℕ) (kind : K) → StartAlike other text → F other kind → ⊥) → Stops F text text
stops_here F example text none = record { front = []; joined = refl; more = example.text; kind = example.kind; begins = example.means; no_other = none }

-- the same meaning said in another way
pub Reads-same : {K : Type 0} (F G : List ℕ → K → Type 0) → ((text : List ℕ) (kind : K) → F text kind → G text kind)
    → ((text : List ℕ) (kind : K) → G text kind → F text kind) → (text : List ℕ) (read : Part K) → Reads F text read → Reads G text read
Reads-same F G to from text (Ok kind) found = record { here = to text kind found.here; only = λ other means. found.only other (from text other means) }
Reads-same F G to from text (Err rest) stops = record {
  front = stops.front;
  joined = stops.joined;
  more = stops.more;
  kind = stops.kind;
  begins = to _ _ stops.begins;
  no_other = λ other kind alike means. stops.no_other other kind alike (from _ _ means);
}

-- a meaning made of another
abbrev pub Made : {J K : Type 0} → (J → K) → (List ℕ → J → Type 0) → List ℕ → K → Type 0
Made {J} make F text kind = (found : J) × F text found × (kind ≡ make found)

pub Reads-made : {J K : Type 0} (make : J → K) (F : List ℕ → J → Type 0) (text : List ℕ) (read : Part J) → Reads F text read
    → Reads (Made make F) text (read >>= λ found. Ok (make found))
Reads-made make F text (Ok found) finds = record { here = (found, finds.here, refl); only = λ other means. means.2 ∙ ap make (finds.only means.0 means.1) }
Reads-made make F text (Err rest) stops = record {
  front = stops.front;
  joined = stops.joined;
  more = stops.more;
  kind = make stops.kind;
  begins = (stops.kind, stops.begins, refl);
  no_other = λ other kind alike means. stops.no_other other means.0 alike means.1;
}

-- a byte with a value, and a text with a meaning after it
abbrev pub Behind : {K : Type 0} → (ℕ → Option ℕ) → (ℕ → List ℕ → K → Type 0) → List ℕ → K → Type 0
Behind value F [] kind = ⊥
Behind value F (byte ∷ rest) kind = (v : ℕ) × (value byte ≡ Some v) × F v rest kind

-- a byte with a value before an example
pub behind_example : {K : Type 0} (value : ℕ → Option ℕ) (F : ℕ → List ℕ → K → Type 0) (byte v : ℕ) → value byte ≡ Some v → Example (F v)
    → Example (Behind value F)
behind_example value F byte v has example = record { text = byte ∷ example.text; kind = example.kind; means = (v, has, example.means) }

some_same : (a b : Option ℕ) (v w : ℕ) → a ≡ b → a ≡ Some v → b ≡ Some w → v ≡ w
some_same a b v w same here there = cc

-- reading after a first byte, which says no more than that the others have a meaning after it
pub Reads-after : {K : Type 0} (F G : List ℕ → K → Type 0) (byte : ℕ) → ((text : List ℕ) (kind : K) → F text kind → G (byte ∷ text) kind)
    → ((text : List ℕ) (kind : K) → G (byte ∷ text) kind → F text kind) → (text : List ℕ) (read : Part K) → Reads F text read → Reads G (byte ∷ text) read
Reads-after F G byte to from text (Ok kind) finds = record { here = to text kind finds.here; only = λ other means. finds.only other (from text other means) }
Reads-after F G byte to from text (Err rest) stops = record {
  front = byte ∷ stops.front;
  joined = ap (λ (others : List ℕ). byte ∷ others) stops.joined;
  more = stops.more;
  kind = stops.kind;
  begins = to (stops.front ++ stops.more) stops.kind stops.begins;
  no_other = λ other kind alike means. stops.no_other other kind alike (from (stops.front ++ other) kind means);
}

-- reading a byte's value, and then what is after it
pub Reads-behind : {K : Type 0} (value : ℕ → Option ℕ) (F : ℕ → List ℕ → K → Type 0) → Example (Behind value F)
    → (text : List ℕ) (next : ℕ × List ℕ → Part K) → ((v : ℕ) (rest : List ℕ) → Reads (F v) rest (next (v, rest)))
    → Reads (Behind value F) text (value_at value text >>= next)
Reads-behind {K} value F example [] next reads = stops_here _ example [] none
  where
    none : (other : List ℕ) (kind : K) → StartAlike other [] → Behind value F other kind → ⊥
    none [] kind alike means = means
    none (b ∷ bs) kind alike means = alike
Reads-behind {K} value F example (byte ∷ rest) next reads = by_value (value byte) refl
  where
    none : value byte ≡ None → (other : List ℕ) (kind : K) → StartAlike other (byte ∷ rest) → Behind value F other kind → ⊥
    none without [] kind alike means = means
    none without (b ∷ bs) kind alike means = let here : value b ≡ None = ap value alike ∙ without in absurd (cc (means.1, here))

    by_value : (found : Option ℕ) → value byte ≡ found → Reads (Behind value F) (byte ∷ rest) (value_in_front found byte rest >>= next)
    by_value None without = stops_here _ example (byte ∷ rest) (none without)
    by_value (Some v) has =
        Reads-after (F v) (Behind value F) byte (λ others kind means. (v, has, means))
        (λ others kind means. subst (λ x. F x others kind) (some_same _ _ _ _ refl means.1 has) means.2) rest (next (v, rest)) (reads v rest)

-- one step after two others
pub then_then : {A B C : Type 0} (read : Part A) (f : A → Part B) (g : B → Part C) → (read >>= f) >>= g ≡ read >>= λ a. f a >>= g
then_then (Ok a) f g = refl
then_then (Err rest) f g = refl
