-- When one token tells which row of a part comes: a test of a table.
use Rattle.std.specs.Prelude.{◌≡◌, ℕ, zero, suc, ◌==◌, Bool, true, false, not, ◌&&◌, ◌||◌, ◌<◌, nat_le, nat_lt, List, [], ◌∷◌, length, if◌then◌else◌}
use Rattle.ppm_grammar.specs.Rows.{In, Item, Take, Part, Row, Grammar}

-- some element passes the test
abbrev pub some : {A : Type 0} → (A → Bool) → List A → Bool
some p [] = false
some p (x ∷ xs) = p x || some p xs

-- each element passes the test
abbrev pub every : {A : Type 0} → (A → Bool) → List A → Bool
every p [] = true
every p (x ∷ xs) = p x && every p xs

-- how many elements pass the test
abbrev pub how_many : {A : Type 0} → (A → Bool) → List A → ℕ
how_many p [] = zero
how_many p (x ∷ xs) = if p x then suc (how_many p xs) else how_many p xs

-- the two answers are the same
abbrev pub alike : Bool → Bool → Bool
alike true b = b
alike false b = not b

-- the row has no items
abbrev pub is_empty : {K P V C : Type 0} → Row K P V C → Bool
is_empty row = elim row.items [ [] ↦ true | x ∷ xs ↦ false ]

module _ {T K P V C : Type 0} (g : Grammar T K P V C) where
  -- the two kinds are one
  abbrev pub same_kind : K → K → Bool
  same_kind x k = g.kinds.number x == g.kinds.number k

  -- the part may have no tokens
  abbrev pub may_be_empty : P → Bool
  may_be_empty n = some (λ row. is_empty row) (g.rows n)

  -- a token of the kind can come first in the items, by those that begin a part
  abbrev pub can_start : (P → K → Bool) → List (Item K P) → K → Bool
  can_start starts [] k = false
  can_start starts (Take x ∷ xs) k = same_kind x k
  can_start starts (Part m ∷ xs) k = starts m k

  -- a token of the kind can come first in the part, by at most so many parts that begin with one another
  abbrev pub starts_within : ℕ → P → K → Bool
  starts_within zero n k = false
  starts_within (suc f) n k = some (λ row. can_start (starts_within f) row.items k) (g.rows n)

  -- a token of the kind can come first in the part
  abbrev pub starts : P → K → Bool
  starts n k = starts_within (length g.parts.all) n k

  -- a token of the kind can stand in front where the items are to come, after which such tokens may come
  abbrev pub may_begin : List (Item K P) → (K → Bool) → K → Bool
  may_begin [] behind k = behind k
  may_begin (Take x ∷ xs) behind k = same_kind x k
  may_begin (Part m ∷ xs) behind k = starts m k || (may_be_empty m && may_begin xs behind k)

  -- after each part in the items, only what may follow the part can come
  abbrev pub is_closed : (P → K → Bool) → List (Item K P) → (K → Bool) → K → Bool
  is_closed follows [] behind k = true
  is_closed follows (Take x ∷ xs) behind k = is_closed follows xs behind k
  is_closed follows (Part m ∷ xs) behind k = (not (may_begin xs behind k) || follows m k) && is_closed follows xs behind k

  -- where the row begins with a part, that has tokens and is listed below this one
  abbrev pub begins_below : P → List (Item K P) → Bool
  begins_below n (Part m ∷ xs) = not (may_be_empty m) && nat_lt (g.parts.number n) (g.parts.number m)
  begins_below n _ = true

  -- all parts in the items are listed below this one
  abbrev pub lies_below : P → List (Item K P) → Bool
  lies_below n [] = true
  lies_below n (Take x ∷ xs) = lies_below n xs
  lies_below n (Part m ∷ xs) = nat_lt (g.parts.number n) (g.parts.number m) && lies_below n xs

  -- at the kind, one row of the part comes at most, none where it may follow the part and the part may be empty
  abbrev pub is_told : (P → K → Bool) → P → K → Bool
  is_told follows n k =
      nat_le (how_many (λ row. can_start starts row.items k) (g.rows n)) 1
      && alike (starts n k) (some (λ row. can_start starts row.items k) (g.rows n))
      && not (may_be_empty n && follows n k && starts n k)
      && every (λ row. is_closed follows row.items (follows n) k) (g.rows n)

  -- one token tells the rows of the part: no two are empty, each begins with a token or a part listed below, in one all parts are listed below
  abbrev pub is_sound : (P → K → Bool) → P → Bool
  is_sound follows n =
      every (λ k. is_told follows n k) g.kinds.all
      && nat_le (how_many (λ row. is_empty row) (g.rows n)) 1
      && every (λ row. begins_below n row.items) (g.rows n)
      && some (λ row. lies_below n row.items) (g.rows n)

  -- one token tells which row of each part comes, by what may follow the parts
  abbrev pub is_predictive : (P → K → Bool) → Bool
  is_predictive follows = every (λ n. is_sound follows n) g.parts.all

  -- after each part in the items, only what may follow the part can come
  abbrev pub Closed : (P → K → Bool) → List (Item K P) → (K → Bool) → Type 0
  Closed follows [] behind = Unit {0}
  Closed follows (Take x ∷ xs) behind = Closed follows xs behind
  Closed follows (Part m ∷ xs) behind = ((k : K) → may_begin xs behind k ≡ true → follows m k ≡ true) × Closed follows xs behind

  -- all parts in the items are listed below this one
  abbrev pub LiesBelow : P → List (Item K P) → Type 0
  LiesBelow n [] = Unit {0}
  LiesBelow n (Take x ∷ xs) = LiesBelow n xs
  LiesBelow n (Part m ∷ xs) = (g.parts.number n < g.parts.number m) × LiesBelow n xs

  -- a row of the part, all parts of which are listed below
  pub record HasGround (n : P) : Type 0 where
    pub row : Row K P V C
    pub within : In row (g.rows n)
    pub below : LiesBelow n row.items

  -- one token tells which row of each part comes
  pub record IsPredictive (follows : P → K → Bool) : Type 0 where
    pub starts_is : (n : P) (k : K) → starts n k ≡ some (λ row. can_start starts row.items k) (g.rows n)
    pub single : (n : P) (k : K) (row other : Row K P V C) → In row (g.rows n) → In other (g.rows n) →
        can_start starts row.items k ≡ true → can_start starts other.items k ≡ true → row ≡ other
    pub one_empty : (n : P) (row other : Row K P V C) → In row (g.rows n) → In other (g.rows n) →
        is_empty row ≡ true → is_empty other ≡ true → row ≡ other
    pub apart : (n : P) (k : K) → may_be_empty n ≡ true → follows n k ≡ true → starts n k ≡ false
    pub solid : (n m : P) (row : Row K P V C) (xs : List (Item K P)) → In row (g.rows n) → row.items ≡ Part m ∷ xs →
        (may_be_empty m ≡ false) × (g.parts.number n < g.parts.number m)
    pub closed : (n : P) (row : Row K P V C) → In row (g.rows n) → Closed follows row.items (follows n)
    pub grounded : (n : P) → HasGround n
