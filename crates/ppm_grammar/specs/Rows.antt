-- A grammar as data: the kinds of tokens, the parts, and the rows of each part.
use Rattle.std.specs.Prelude.{◌≡◌, ℕ, zero, suc, Bool, List, [], ◌∷◌, Option, Some, None}

-- an element of a list
pub data In {A : Type 0} (x : A) : List A → Type 0 where
  first : {xs : List A} → In x (x ∷ xs)
  later : {y : A} {xs : List A} → In x xs → In x (y ∷ xs)

-- the element of a list with so many before it
abbrev pub element : {A : Type 0} → List A → ℕ → Option A
element [] n = None
element (x ∷ xs) zero = Some x
element (x ∷ xs) (suc n) = element xs n

-- all of a type in a list, each with its number, which counts from 0
pub record Listing (A : Type 0) : Type 0 where
  pub all : List A
  pub number : A → ℕ
  pub listed : (a : A) → element all (number a) ≡ Some a

-- a piece of a row: a token of a kind, or a part
pub data Item (K P : Type 0) : Type 0 where
  Take : (kind : K) → Item K P
  Part : (part : P) → Item K P

-- one form of a part: its items in order, whether all its tokens stand in one opening more, what its first token counts as,
-- and its value, made of those of the items
pub record Row (K P V C : Type 0) : Type 0 where
  pub items : List (Item K P)
  pub opens : Bool
  pub counts : List C
  pub make : List V → V

-- the kinds of tokens with a token of each, the kind, the value and the place of a token; the parts with the rows of each,
-- and the part that a whole text is
pub record Grammar (T K P V C : Type 0) : Type 0 where
  pub kinds : Listing K
  pub kind : T → K
  pub value : T → V
  pub place : T → ℕ
  pub sample : K → T
  pub sampled : (k : K) → kind (sample k) ≡ k
  pub parts : Listing P
  pub rows : P → List (Row K P V C)
  pub whole : P
