-- What can stand after tokens, computed from the rows: the tokens are read, and of what is still to come the first kinds are collected.
use Rattle.std.specs.Prelude.{◌≡◌, Bool, true, false, ◌&&◌, ◌||◌, List, [], ◌∷◌, Option, Some, None}
use Rattle.std.specs.List.{filter}
use Rattle.ppm_grammar.specs.Rows.{Item, Take, Part, Grammar}
use Rattle.ppm_grammar.specs.Derivation.{Due, Within, beginning}
use Rattle.ppm_grammar.specs.Predictive.{same_kind, starts, may_be_empty, is_predictive}
use Rattle.ppm_grammar.specs.Stack.{Move, step}
use Rattle.ppm_expected.specs.Next.{AreExpected}

-- what follows a move, if there is one
abbrev pub after_move : {K P C : Type 0} → Option (Move K P C) → (List (Due K P) → Option (List (Due K P))) → Option (List (Due K P))
after_move None next = None
after_move (Some m) next = next m.still

-- the items that are to come
abbrev pub items_due : {K P : Type 0} → List (Due K P) → List (Item K P)
items_due [] = []
items_due (Within d x ∷ st) = x ∷ items_due st

module _ {T K P V C : Type 0} (g : Grammar T K P V C) where
  -- what is still to come after the tokens, if these can come
  abbrev pub still : List (Due K P) → List T → Option (List (Due K P))
  still st [] = Some st
  still st (t ∷ ts) = after_move (step g st (g.kind t)) (λ later. still later ts)

  -- the item can begin with a token of the kind
  abbrev pub can_begin : Item K P → K → Bool
  can_begin (Take x) k = same_kind g x k
  can_begin (Part n) k = starts g n k

  -- the item may have no tokens
  abbrev pub may_lack : Item K P → Bool
  may_lack (Take x) = false
  may_lack (Part n) = may_be_empty g n

  -- where these are to come a token of the kind can come first: items in front that may have no tokens are passed over
  abbrev pub comes_first : List (Item K P) → K → Bool
  comes_first [] k = false
  comes_first (x ∷ xs) k = can_begin x k || (may_lack x && comes_first xs k)

  -- where these are to come a text may end
  abbrev pub may_end : List (Item K P) → Bool
  may_end [] = true
  may_end (x ∷ xs) = may_lack x && may_end xs

  -- the kinds of tokens that can come first, in the order of the listing; none where the tokens before cannot come
  abbrev pub kinds_first : Option (List (Due K P)) → List K
  kinds_first None = []
  kinds_first (Some st) = filter (comes_first (items_due st)) g.kinds.all

  -- whether a text may end there
  abbrev pub ends_there : Option (List (Due K P)) → Bool
  ends_there None = false
  ends_there (Some st) = may_end (items_due st)

  -- what can stand after the tokens
  abbrev pub expected_kinds : List T → List K
  expected_kinds front = kinds_first (still (beginning g) front)

  -- and whether a text may end after them
  abbrev pub expected_end : List T → Bool
  expected_end front = ends_there (still (beginning g) front)

-- where one token tells the row, what is computed is just what can stand after the tokens, whatever these are
abbrev pub CollectsExpected : {T K P V C : Type 0} → Grammar T K P V C → Type 0
CollectsExpected {T} {K} {P} {V} {C} g =
    (follows : P → K → Bool) → is_predictive g follows ≡ true → (front : List T) → AreExpected g front (expected_kinds g front) (expected_end g front)
