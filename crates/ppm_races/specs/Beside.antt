-- What stands beside a strand, by the forks that are open, and how words are marked.
use Rattle.std.specs.Prelude.{◌≡◌, ◌⊎◌, ◌<◌, ◌≤◌, ℕ, Bool, true, false, cond, ◌&&◌, ◌||◌, nat_le, nat_lt, List, [], ◌∷◌, ◌++◌, get_or, set, length}
use Rattle.std.specs.List.{AllByRecursion}
use Rattle.ppm_strands.specs.Tree.{Has}
use Rattle.ppm_stamps.specs.Stamps.{Stamps}
use Rattle.ppm_races.specs.Touches.{words_in, written_in}
use Rattle.ppm_races.specs.declared.stamps.Mark.{Mark}
use Rattle.ppm_races.specs.declared.stamps.Met.{Met}
use Rattle.ppm_races.specs.declared.touch.Touch.{Touch}

-- a stamp is of the left branch of a fork whose right one is run
abbrev pub is_left_of : Mark → ℕ → Bool
is_left_of mark stamp = nat_le mark.start stamp && nat_lt stamp mark.mid

-- it is of one of these
abbrev pub stands_beside : List Mark → ℕ → Bool
stands_beside [] stamp = false
stands_beside (mark ∷ marks) stamp = is_left_of mark stamp || stands_beside marks stamp

-- the mark is one of a list
abbrev pub IsOneOf : Mark → List Mark → Type 0
IsOneOf mark [] = ⊥
IsOneOf mark (m ∷ marks) = (mark ≡ m) ⊎ IsOneOf mark marks

-- a fork was opened after another one, and after that one's left branch, if it is over
pub record IsInside (outer inner : Mark) : Type 0 where
  pub start : outer.start ≤ inner.start
  pub mid : outer.mid ≤ inner.start

-- the forks stand in the order in which they were opened, each inside of those before it
abbrev pub AreInOrder : List Mark → Type 0
AreInOrder [] = Unit {0}
AreInOrder (mark ∷ marks) = AllByRecursion (IsInside mark) marks × AreInOrder marks

-- a fork of the list has a stamp in its left branch
pub record HasLeft (marks : List Mark) (stamp : ℕ) (mark : Mark) : Type 0 where
  pub one_of : IsOneOf mark marks
  pub from : mark.start ≤ stamp
  pub before : stamp < mark.mid
  pub beside : stands_beside marks stamp ≡ true

-- the stamps that are seen in two lists, where a capsule is next
abbrev pub stamps_of : (time : ℕ) → (wrote touched : List ℕ) → Stamps
stamps_of time wrote touched = record { time = time; wrote = λ x. get_or wrote x 0; touched = λ x. get_or touched x 0 }

-- a touch meets what stands beside it: a word that was written there, or, where it writes, one that was touched there
abbrev pub meets : (beside : ℕ → Bool) (wrote touched : List ℕ) → Touch → Bool
meets beside wrote touched t = beside (get_or wrote t.word 0) || (t.writes && beside (get_or touched t.word 0))

-- whom a touch meets: who wrote its word last, where that stands beside, else one that touched it
pub record HasMet (marks : List Mark) (wrote touched : List ℕ) (t : Touch) (met : Met) : Type 0 where
  pub touch : met.touch ≡ t
  pub met_there : meets (stands_beside marks) wrote touched t ≡ true
  pub left : met.left ≡ cond (stands_beside marks (get_or wrote t.word 0)) (get_or wrote t.word 0) (get_or touched t.word 0)
  pub fork : HasLeft marks met.left met.fork

-- a touch is the first of a log of which a test holds
pub record IsFirst (test : Touch → Bool) (log : List Touch) (t : Touch) : Type 0 where
  pub front : List Touch
  pub rest : List Touch
  pub all : log ≡ front ++ (t ∷ rest)
  pub none : AllByRecursion (λ x. test x ≡ false) front
  pub here : test t ≡ true

-- whom the first touch of a log meets that meets anything
pub record IsFirstMet (marks : List Mark) (wrote touched : List ℕ) (log : List Touch) (met : Met) : Type 0 where
  pub first : IsFirst (meets (stands_beside marks) wrote touched) log met.touch
  pub whom : HasMet marks wrote touched met.touch met

-- the lists with one touch marked
abbrev pub wrote_with : Bool → ℕ → ℕ → List ℕ → List ℕ
wrote_with true word time wrote = set wrote word time
wrote_with false word time wrote = wrote

-- where the old stamp stands beside, it stays
abbrev pub touched_with : Bool → ℕ → ℕ → List ℕ → List ℕ
touched_with true word time touched = touched
touched_with false word time touched = set touched word time

module _ (q : ℕ → Bool) (had_wrote had_touched : List ℕ) where
  -- none of a log meets anything
  pub record NoneMeets (log : List Touch) : Type 0 where
    pub unwritten : (x : ℕ) → Has x (words_in log) → q (get_or had_wrote x 0) ≡ false
    pub untouched : (x : ℕ) → Has x (written_in log) → q (get_or had_touched x 0) ≡ false

  -- the lists after a log is marked
  pub record AreMarked (time : ℕ) (log : List Touch) (wrote' touched' : List ℕ) : Type 0 where
    pub wrote_length : length wrote' ≡ length had_wrote
    pub touched_length : length touched' ≡ length had_touched
    pub wrote : (x : ℕ) → Has x (written_in log) → get_or wrote' x 0 ≡ time
    pub unwritten : (x : ℕ) → (Has x (written_in log) → ⊥) → get_or wrote' x 0 ≡ get_or had_wrote x 0
    pub stays : (x : ℕ) → Has x (words_in log) → q (get_or had_touched x 0) ≡ true → get_or touched' x 0 ≡ get_or had_touched x 0
    pub touched : (x : ℕ) → Has x (words_in log) → q (get_or had_touched x 0) ≡ false → get_or touched' x 0 ≡ time
    pub untouched : (x : ℕ) → (Has x (words_in log) → ⊥) → get_or touched' x 0 ≡ get_or had_touched x 0
