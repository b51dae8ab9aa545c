-- What a grammar derives: which tokens have which value, and which mark each of them has.
use Rattle.std.specs.Prelude.{◌≡◌, ℕ, suc, List, [], ◌∷◌, ◌++◌, length, if◌then◌else◌}
use Rattle.ppm_grammar.specs.Rows.{In, Item, Take, Part, Row, Grammar}

-- an item that is to come, within so many openings
pub data Due (K P : Type 0) : Type 0 where
  Within : (depth : ℕ) (item : Item K P) → Due K P

-- the items are to come, all within so many openings
abbrev pub due : {K P : Type 0} → ℕ → List (Item K P) → List (Due K P)
due d [] = []
due d (x ∷ xs) = Within d x ∷ due d xs

-- what is said of a token: how many openings it stands in, its own among them, and what it counts as
pub record Mark (C : Type 0) : Type 0 where
  pub depth : ℕ
  pub counts : List C

-- the mark with this depth and these counts
abbrev pub mark : {C : Type 0} → ℕ → List C → Mark C
mark d cs = record { depth = d; counts = cs }

-- the first token counts as these too
abbrev pub counting : {C : Type 0} → List C → List (Mark C) → List (Mark C)
counting cs [] = []
counting cs (m ∷ ms) = mark m.depth (cs ++ m.counts) ∷ ms

-- the openings that the tokens of a row stand in, where its part stands in so many
abbrev pub inside : {K P V C : Type 0} → Row K P V C → ℕ → ℕ
inside row d = if row.opens then suc d else d

-- The tokens begin with the items, which have these values and whose tokens have these marks, and the rest follows.
pub data Derives {T K P V C : Type 0} (g : Grammar T K P V C) : List (Due K P) → List T → List V → List (Mark C) → List T → Type 0 where
  nothing : {ts : List T} → Derives g [] ts [] [] ts
  token : {d : ℕ} {x : K} {t : T} {xs : List (Due K P)} {ts rest : List T} {vs : List V} {ms : List (Mark C)} →
      g.kind t ≡ x → Derives g xs ts vs ms rest → Derives g (Within d (Take x) ∷ xs) (t ∷ ts) (g.value t ∷ vs) (mark d [] ∷ ms) rest
  part : {d : ℕ} {n : P} {row : Row K P V C} {xs : List (Due K P)} {ts mid rest : List T} {us vs : List V} {ls ms : List (Mark C)} →
      In row (g.rows n) → Derives g (due (inside row d) row.items) ts us ls mid → Derives g xs mid vs ms rest →
      Derives g (Within d (Part n) ∷ xs) ts (row.make us ∷ vs) (counting row.counts ls ++ ms) rest

-- a whole text is to come
abbrev pub beginning : {T K P V C : Type 0} → Grammar T K P V C → List (Due K P)
beginning g = Within 0 (Part g.whole) ∷ []

-- the tokens are a text of the grammar, with this value and these marks
abbrev pub IsText : {T K P V C : Type 0} → Grammar T K P V C → List T → V → List (Mark C) → Type 0
IsText g ts v ms = Derives g (beginning g) ts (v ∷ []) ms []

-- a text of the grammar begins with these tokens, which have these marks in it
pub record Begins {T K P V C : Type 0} (g : Grammar T K P V C) (ts : List T) (ms : List (Mark C)) : Type 0 where
  pub more : List T
  pub value : V
  pub others : List (Mark C)
  pub text : IsText g (ts ++ more) value (ms ++ others)
  pub each : length ms ≡ length ts
