-- What is still to come where tokens were read, by one token of look-ahead, and the fault that they have.
use Rattle.std.specs.Prelude.{ℕ, zero, suc, Bool, true, false, ◌&&◌, nat_lt, List, [], ◌∷◌, ◌++◌, length, Option, Some, None, if◌then◌else◌}
use Rattle.ppm_grammar.specs.Rows.{Item, Take, Part, Row, Grammar}
use Rattle.ppm_grammar.specs.Derivation.{Due, Within, due, Mark, mark, inside}
use Rattle.ppm_grammar.specs.Limits.{Limits, Tally, passed, after_token}
use Rattle.ppm_grammar.specs.Faults.{Fault, Expected, Ended, TooDeep, TooMany}
use Rattle.ppm_grammar.specs.Predictive.{same_kind, may_be_empty}

-- one token: its mark, and what is still to come after it
pub record Move (K P C : Type 0) : Type 0 where
  pub marked : Mark C
  pub still : List (Due K P)

-- the move with this mark that leaves this
abbrev pub move : {K P C : Type 0} → Mark C → List (Due K P) → Move K P C
move m st = record { marked = m; still = st }

-- a move in front of further items
abbrev pub ahead : {K P C : Type 0} → Option (Move K P C) → List (Due K P) → Option (Move K P C)
ahead None st = None
ahead (Some m) st = Some (move m.marked (m.still ++ st))

-- a move whose token counts as these too
abbrev pub counted : {K P C : Type 0} → List C → Option (Move K P C) → Option (Move K P C)
counted cs None = None
counted cs (Some m) = Some (move (mark m.marked.depth (cs ++ m.marked.counts)) m.still)

-- the first that there is
abbrev pub or_else : {A : Type 0} → Option A → Option A → Option A
or_else None o = o
or_else (Some a) o = Some a

-- a part goes on with its row, is empty, or cannot come
abbrev pub chosen : {K P C : Type 0} → Option (Move K P C) → Bool → List (Due K P) → Option (Move K P C) → Option (Move K P C)
chosen (Some m) empty st other = Some (move m.marked (m.still ++ st))
chosen None true st other = other
chosen None false st other = None

-- how tokens go on: they are a text, one ends too soon, one cannot come, or a token has a mark and others follow
pub data Trace (C : Type 0) : Type 0 where
  Whole : Trace C
  Cut : Trace C
  Stuck : Trace C
  On : (marked : Mark C) (later : Trace C) → Trace C

-- the tokens with these marks go on so
abbrev pub ons : {C : Type 0} → List (Mark C) → Trace C → Trace C
ons [] r = r
ons (m ∷ ms) r = On m (ons ms r)

-- where the tokens end
abbrev pub at_end : {C : Type 0} → Bool → Trace C
at_end true = Whole
at_end false = Cut

-- goes on after a move
abbrev pub goes_on : {K P C : Type 0} → Option (Move K P C) → (List (Due K P) → Trace C) → Trace C
goes_on None next = Stuck
goes_on (Some m) next = On m.marked (next m.still)

module _ {T K P V C : Type 0} (g : Grammar T K P V C) where
  -- the move at the first token of items within so many openings
  abbrev pub move_in : (ℕ → P → K → Option (Move K P C)) → ℕ → List (Item K P) → K → Option (Move K P C)
  move_in next d [] k = None
  move_in next d (Take x ∷ xs) k = if same_kind g x k then Some (move (mark d []) (due d xs)) else None
  move_in next d (Part m ∷ xs) k = ahead (next d m k) (due d xs)

  -- and of the first row that a token of the kind begins
  abbrev pub move_of : (ℕ → P → K → Option (Move K P C)) → ℕ → List (Row K P V C) → K → Option (Move K P C)
  move_of next d [] k = None
  move_of next d (row ∷ rows) k = or_else (counted row.counts (move_in next (inside row d) row.items k)) (move_of next d rows k)

  -- the move at the first token of a part, by at most so many parts that begin with one another
  abbrev pub next_within : ℕ → ℕ → P → K → Option (Move K P C)
  next_within zero d n k = None
  next_within (suc f) d n k = move_of (next_within f) d (g.rows n) k

  -- the move at the first token of a part
  abbrev pub next : ℕ → P → K → Option (Move K P C)
  next d n k = next_within (length g.parts.all) d n k

  -- the move at a token where these are to come
  abbrev pub step : List (Due K P) → K → Option (Move K P C)
  step [] k = None
  step (Within d (Take x) ∷ st) k = if same_kind g x k then Some (move (mark d []) st) else None
  step (Within d (Part n) ∷ st) k = chosen (next d n k) (may_be_empty g n) st (step st k)

  -- whether a text may end where these are to come
  abbrev pub can_end : List (Due K P) → Bool
  can_end [] = true
  can_end (Within d (Take x) ∷ st) = false
  can_end (Within d (Part n) ∷ st) = may_be_empty g n && can_end st

  -- how the tokens go on where these are to come
  abbrev pub trace : List (Due K P) → List T → Trace C
  trace st [] = at_end (can_end st)
  trace st (t ∷ ts) = goes_on (step st (g.kind t)) (λ later. trace later ts)

  -- the fault at a token that passes a limit, or what follows
  abbrev pub unless_deep : Bool → ℕ → Option Fault → Option Fault
  unless_deep true place o = Some (TooDeep place)
  unless_deep false place o = o

  -- and of one that passes a limit on a number
  abbrev pub unless_many : Option ℕ → ℕ → Option Fault → Option Fault
  unless_many (Some which) place o = Some (TooMany place which)
  unless_many None place o = o

  -- the fault of tokens that go on so, if there is one
  abbrev pub fault_of : Limits T C → List T → Trace C → Tally → Option Fault
  fault_of l [] Whole c = None
  fault_of l [] _ c = Some Ended
  fault_of l (t ∷ ts) (On m r) c =
      unless_deep (nat_lt l.depth m.depth) (g.place t)
      (unless_many (passed l.most (after_token l m.counts t ts c)) (g.place t) (fault_of l ts r (after_token l m.counts t ts c)))
  fault_of l (t ∷ ts) _ c = Some (Expected (g.place t))

  -- the fault of the tokens where these are to come, if there is one
  abbrev pub fault_at : Limits T C → List (Due K P) → Tally → List T → Option Fault
  fault_at l st c ts = fault_of l ts (trace st ts) c
