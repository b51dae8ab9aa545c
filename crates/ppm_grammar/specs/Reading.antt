-- What a parser's functions answer.
use Rattle.std.specs.Prelude.{◌≡◌, ℕ, ◌+◌, ◌≤◌, List, ◌++◌, length, Option, Some}
use Rattle.ppm_grammar.specs.Rows.{Item, Grammar}
use Rattle.ppm_grammar.specs.Derivation.{Due, due, Mark, Derives}
use Rattle.ppm_grammar.specs.Limits.{Limits, Tally, adds, after_marks, Keeps, Leaves}
use Rattle.ppm_grammar.specs.Faults.{Fault}
use Rattle.ppm_grammar.specs.Stack.{trace, ons, fault_at}

-- the items are read and have these values, and the rest follows; what was counted before and after is this, and no limit is passed
pub record Reads {T K P V C : Type 0} (g : Grammar T K P V C) (l : Limits T C) (c : Tally) (xs : List (Due K P)) (ts : List T)
    (vs : List V) (c' : Tally) (rest : List T) : Type 0 where
  pub marks : List (Mark C)
  pub derived : Derives g xs ts vs marks rest
  pub keeps : Keeps l marks ts c
  pub counts : after_marks l marks ts c ≡ c'
  pub passes : (st : List (Due K P)) → trace g (xs ++ st) ts ≡ ons marks (trace g st rest)

-- wherever the items are to come, the tokens have the fault; none is said where memory was refused
pub record Fails {T K P V C : Type 0} (g : Grammar T K P V C) (l : Limits T C) (c : Tally) (xs : List (Due K P)) (ts : List T)
    (o : Option Fault) : Type 0 where
  pub tells : (st : List (Due K P)) (f : Fault) → o ≡ Some f → fault_at g l (xs ++ st) c ts ≡ Some f

-- with so many more openings, and so much more of one number, the items are read, and of the number they leave this; the rest is no longer than the tokens
pub record ReadsItems {T K P V C : Type 0} (g : Grammar T K P V C) (l : Limits T C) (depth which room : ℕ) (xs : List (Item K P)) (ts : List T)
    (vs : List V) (left : ℕ) (rest : List T) : Type 0 where
  pub used : ℕ
  pub spent : used + left ≡ room
  pub shorter : length rest ≤ length ts
  pub reads : (d : ℕ) (c : Tally) → d + depth ≡ l.depth → Leaves l which room c → Reads g l c (due d xs) ts vs (adds which used c) rest

-- with so many more openings, and so much more of one number, the tokens have the fault where the items are to come
pub record FailsItems {T K P V C : Type 0} (g : Grammar T K P V C) (l : Limits T C) (depth which room : ℕ) (xs : List (Item K P)) (ts : List T)
    (o : Option Fault) : Type 0 where
  pub tells : (d : ℕ) (c : Tally) → d + depth ≡ l.depth → Leaves l which room c → Fails g l c (due d xs) ts o

-- from what was counted the items are read, and what was counted then is of the state
pub record ReadsThen {T K P V C S : Type 0} (g : Grammar T K P V C) (l : Limits T C) (Has : S → Tally → Type 0) (c : Tally)
    (xs : List (Due K P)) (ts : List T) (vs : List V) (s : S) (rest : List T) : Type 0 where
  pub tally : Tally
  pub has : Has s tally
  pub reads : Reads g l c xs ts vs tally rest

-- with so many more openings the items are read from one state of what was counted to another; the rest is no longer than the tokens
pub record ReadsState {T K P V C S : Type 0} (g : Grammar T K P V C) (l : Limits T C) (Has : S → Tally → Type 0) (depth : ℕ) (s : S)
    (xs : List (Item K P)) (ts : List T) (vs : List V) (s' : S) (rest : List T) : Type 0 where
  pub shorter : length rest ≤ length ts
  pub reads : (d : ℕ) (c : Tally) → d + depth ≡ l.depth → Has s c → ReadsThen g l Has c (due d xs) ts vs s' rest

-- with so many more openings, in the state of what was counted, the tokens have the fault where the items are to come
pub record FailsState {T K P V C S : Type 0} (g : Grammar T K P V C) (l : Limits T C) (Has : S → Tally → Type 0) (depth : ℕ) (s : S)
    (xs : List (Item K P)) (ts : List T) (o : Option Fault) : Type 0 where
  pub tells : (d : ℕ) (c : Tally) → d + depth ≡ l.depth → Has s c → Fails g l c (due d xs) ts o
