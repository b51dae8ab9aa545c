-- At a token that begins a row of a part, the part goes on with that row.
use Rattle.std.proofs.Common.{◌≡◌, ℕ, zero, suc, ◌+◌, ◌<◌, ◌≤◌, Bool, true, false, List, [], ◌∷◌, ◌++◌, length, refl, sym, ◌∙◌, ap, arith, append_assoc}
use Rattle.std.specs.Prelude.{◌||◌, Option, Some, None, is_some, if◌then◌else◌}
use Rattle.ppm_grammar.specs.Rows.{In, first, later, Item, Take, Part, Row, Grammar}
use Rattle.ppm_grammar.specs.Derivation.{Due, Within, due, mark, inside}
use Rattle.ppm_grammar.specs.Predictive.{some, same_kind, may_be_empty, can_start, starts, IsPredictive}
use Rattle.ppm_grammar.specs.Stack.{Move, move, ahead, counted, or_else, chosen}
use Rattle.ppm_grammar.specs.Stack.{move_in, move_of, next_within, next, step}
use Rattle.ppm_grammar.proofs.ListLemmas.{number_below, in_some}

-- a move is there in front of further items if it is there, and whatever else its token counts as
is_ahead : {K P C : Type 0} (o : Option (Move K P C)) (st : List (Due K P)) → is_some (ahead o st) ≡ is_some o
is_ahead None st = refl
is_ahead (Some m) st = refl

-- or where its token counts as more
is_counted : {K P C : Type 0} (cs : List C) (o : Option (Move K P C)) → is_some (counted cs o) ≡ is_some o
is_counted cs None = refl
is_counted cs (Some m) = refl

-- one of two is there
is_either : {A : Type 0} (a b : Option A) → is_some (or_else a b) ≡ (is_some a || is_some b)
is_either None b = refl
is_either (Some a) b = refl

-- what is not there is none
none_there : {A : Type 0} (o : Option A) → is_some o ≡ false → o ≡ None
none_there None h = refl
none_there (Some a) h = cc

-- the first of two, if it is there
first_there : {A : Type 0} (a b : Option A) → is_some a ≡ true → or_else a b ≡ a
first_there None b h = cc
first_there (Some a) b h = refl

-- items in front of items in front of a stack
pub ahead_twice : {K P C : Type 0} (o : Option (Move K P C)) (xs st : List (Due K P)) → ahead (ahead o xs) st ≡ ahead o (xs ++ st)
ahead_twice None xs st = refl
ahead_twice (Some m) xs st = rw append_assoc refl

-- counts and further items
ahead_counted : {K P C : Type 0} (cs : List C) (o : Option (Move K P C)) (st : List (Due K P)) → ahead (counted cs o) st ≡ counted cs (ahead o st)
ahead_counted cs None st = refl
ahead_counted cs (Some m) st = refl

-- a part that goes on with its row
chosen_there : {K P C : Type 0} (o : Option (Move K P C)) (b : Bool) (st : List (Due K P)) (other : Option (Move K P C)) → is_some o ≡ true →
    chosen o b st other ≡ ahead o st
chosen_there None b st other h = cc
chosen_there (Some m) b st other h = refl

module _ {T K P V C : Type 0} (g : Grammar T K P V C) where
  -- a kind is itself, and kinds of one number are one
  pub same_kind_is : (k : K) → same_kind g k k ≡ true
  same_kind_is k = grind (arith)

  module _ (follows : P → K → Bool) (p : IsPredictive g follows) where
    -- more parts that begin with one another change nothing
    stable : (f d : ℕ) (n : P) (k : K) → length g.parts.all ≤ f + g.parts.number n → next_within g (suc f) d n k ≡ next_within g f d n k
    stable zero d n k h = let b = number_below g.parts n in absurd (omega (arith, h, b))
    stable (suc f) d n k h = over (λ e m less. stable f e m k (omega (arith, h, less))) (g.rows n) (λ row i. i)
      where
        items : ((e : ℕ) (m : P) → g.parts.number n < g.parts.number m → next_within g (suc f) e m k ≡ next_within g f e m k) →
            (e : ℕ) (xs : List (Item K P)) → ((m : P) (ys : List (Item K P)) → xs ≡ Part m ∷ ys → g.parts.number n < g.parts.number m) →
            move_in g (next_within g (suc f)) e xs k ≡ move_in g (next_within g f) e xs k
        items below e [] b = refl
        items below e (Take x ∷ xs) b = refl
        items below e (Part m ∷ xs) b = rw (below e m (b m xs refl)) refl

        over : ((e : ℕ) (m : P) → g.parts.number n < g.parts.number m → next_within g (suc f) e m k ≡ next_within g f e m k) →
            (rows : List (Row K P V C)) → ((row : Row K P V C) → In row rows → In row (g.rows n)) →
            move_of g (next_within g (suc f)) d rows k ≡ move_of g (next_within g f) d rows k
        over below [] i = refl
        over below (row ∷ rows) i =
            rw (items below (inside row d) row.items (λ m ys is. (p.solid n m row ys (i row first) is).1), over below rows (λ other j. i other (later j))) refl

    -- the move of a part is that of its rows
    next_is : (d : ℕ) (n : P) (k : K) → next g d n k ≡ move_of g (next g) d (g.rows n) k
    next_is d n k = sym (stable (length g.parts.all) d n k (omega arith))

    -- there is a move where a token of the kind can come first
    there_within : (f d : ℕ) (n : P) (k : K) → length g.parts.all ≤ f + g.parts.number n → is_some (next_within g f d n k) ≡ starts g n k
    there_within zero d n k h = let b = number_below g.parts n in absurd (omega (arith, h, b))
    there_within (suc f) d n k h = over (λ e m less. there_within f e m k (omega (arith, h, less))) (g.rows n) (λ row i. i) ∙ sym (p.starts_is n k)
      where
        items : ((e : ℕ) (m : P) → g.parts.number n < g.parts.number m → is_some (next_within g f e m k) ≡ starts g m k) →
            (e : ℕ) (xs : List (Item K P)) → ((m : P) (ys : List (Item K P)) → xs ≡ Part m ∷ ys → g.parts.number n < g.parts.number m) →
            is_some (move_in g (next_within g f) e xs k) ≡ can_start g (starts g) xs k
        items below e [] b = refl
        items below e (Take x ∷ xs) b = go (same_kind g x k)
          where
            go : (b : Bool) → is_some (if b then Some (move {C = C} (mark e []) (due e xs)) else None) ≡ b
            go true = refl
            go false = refl
        items below e (Part m ∷ xs) b = is_ahead (next_within g f e m k) (due e xs) ∙ below e m (b m xs refl)

        over : ((e : ℕ) (m : P) → g.parts.number n < g.parts.number m → is_some (next_within g f e m k) ≡ starts g m k) →
            (rows : List (Row K P V C)) → ((row : Row K P V C) → In row rows → In row (g.rows n)) →
            is_some (move_of g (next_within g f) d rows k) ≡ some (λ row. can_start g (starts g) row.items k) rows
        over below [] i = refl
        over below (row ∷ rows) i =
            rw (
              is_either (counted row.counts (move_in g (next_within g f) (inside row d) row.items k)) (move_of g (next_within g f) d rows k),
              is_counted row.counts (move_in g (next_within g f) (inside row d) row.items k),
              items below (inside row d) row.items (λ m ys is. (p.solid n m row ys (i row first) is).1),
              over below rows (λ other j. i other (later j)),
            ) refl

    -- a part has a move at the kinds that can come first in it
    pub next_there : (d : ℕ) (n : P) (k : K) → is_some (next g d n k) ≡ starts g n k
    next_there d n k = there_within (length g.parts.all) d n k (omega arith)

    -- and none at others
    pub next_none : (d : ℕ) (n : P) (k : K) → starts g n k ≡ false → next g d n k ≡ None
    next_none d n k h = none_there _ (next_there d n k ∙ h)

    -- items have a move for a token exactly where they can start with it
    move_there : (e : ℕ) (xs : List (Item K P)) (k : K) → is_some (move_in g (next g) e xs k) ≡ can_start g (starts g) xs k
    move_there e [] k = refl
    move_there e (Take x ∷ xs) k = go (same_kind g x k)
      where
        go : (b : Bool) → is_some (if b then Some (move {C = C} (mark e []) (due e xs)) else None) ≡ b
        go true = refl
        go false = refl
    move_there e (Part m ∷ xs) k = is_ahead (next g e m k) (due e xs) ∙ next_there e m k

    -- a row that a token can begin is the one that comes
    pub comes : (d : ℕ) (n : P) (k : K) (row : Row K P V C) → In row (g.rows n) → can_start g (starts g) row.items k ≡ true →
        next g d n k ≡ counted row.counts (move_in g (next g) (inside row d) row.items k)
    comes d n k row i h = next_is d n k ∙ over (g.rows n) i (λ other j h'. p.single n k row other i j h h')
      where
        over : (rows : List (Row K P V C)) → In row rows → ((other : Row K P V C) → In other rows → can_start g (starts g) other.items k ≡ true → row ≡ other) →
            move_of g (next g) d rows k ≡ counted row.counts (move_in g (next g) (inside row d) row.items k)
        over [] i single = elim i [ ]
        over (row' ∷ rows) first single =
            first_there _ _ (is_counted row.counts (move_in g (next g) (inside row d) row.items k) ∙ move_there (inside row d) row.items k ∙ h)
        over (other ∷ rows) (later j) single = go (can_start g (starts g) other.items k) refl (over rows j (λ third l. single third (later l)))
          where
            go : (b : Bool) → can_start g (starts g) other.items k ≡ b →
                move_of g (next g) d rows k ≡ counted row.counts (move_in g (next g) (inside row d) row.items k) →
                or_else (counted other.counts (move_in g (next g) (inside other d) other.items k)) (move_of g (next g) d rows k)
                ≡ counted row.counts (move_in g (next g) (inside row d) row.items k)
            go true e below =
                let same : row ≡ other = single other first e in
                rw (← same)
                (first_there _ _ (is_counted row.counts (move_in g (next g) (inside row d) row.items k) ∙ move_there (inside row d) row.items k ∙ h))
            go false e below =
                let none = none_there (move_in g (next g) (inside other d) other.items k) (move_there (inside other d) other.items k ∙ e) in
                rw none below

    -- a step with the row's items in front is its move
    pub items_step : (e : ℕ) (xs : List (Item K P)) (k : K) (st : List (Due K P)) → can_start g (starts g) xs k ≡ true →
        step g (due e xs ++ st) k ≡ ahead (move_in g (next g) e xs k) st
    items_step e [] k st h = cc
    items_step e (Take x ∷ xs) k st h = rw h refl
    items_step e (Part m ∷ xs) k st h =
        chosen_there (next g e m k) _ _ _ (next_there e m k ∙ h) ∙ sym (ahead_twice (next g e m k) (due e xs) st)

    -- a step with the part in front is that of the row, whose token counts as more
    pub part_step : (d : ℕ) (n : P) (k : K) (row : Row K P V C) (st : List (Due K P)) → In row (g.rows n) → can_start g (starts g) row.items k ≡ true →
        step g (Within d (Part n) ∷ st) k ≡ counted row.counts (step g (due (inside row d) row.items ++ st) k)
    part_step d n k row st i h =
        chosen_there (next g d n k) _ _ _ (next_there d n k ∙ p.starts_is n k ∙ in_some (λ row. can_start g (starts g) row.items k) i h)
        ∙ ap (λ o. ahead o st) (comes d n k row i h)
        ∙ ahead_counted row.counts _ st
        ∙ ap (counted row.counts) (sym (items_step (inside row d) row.items k st h))

    -- a token that begins no row of a part that may be empty passes it over
    pub passed_over : (d : ℕ) (n : P) (k : K) (st : List (Due K P)) → may_be_empty g n ≡ true → starts g n k ≡ false →
        step g (Within d (Part n) ∷ st) k ≡ step g st k
    passed_over d n k st h none = rw (next_none d n k none, h) refl
