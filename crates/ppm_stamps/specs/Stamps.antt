-- The stamps of a depth-first run: of each word when it was last written, and one capsule that touched it, by which races are found as the
-- run goes on. A stamp is the number of a capsule in the run, from 1 on; 0 is none.
use Rattle.std.specs.Prelude.{◌≡◌, ◌⊎◌, ℕ, zero, suc, Bool, true, false, ◌&&◌, ◌||◌, nat_le, nat_lt, Some}
use Rattle.ppm_strands.specs.Tree.{Words, Tree, Strand, Call, Fork, Over, Code, Has}
use Rattle.ppm_strands.specs.Run.{End, run, rejoin, Ends}
use Rattle.ppm_strands.specs.Calm.{touches, Calm}

-- the number of the capsule that is run next; by whom each word was written last; and one who touched it
pub record Stamps : Type 0 where
  pub time : ℕ
  pub wrote : ℕ → ℕ
  pub touched : ℕ → ℕ

-- at the beginning
abbrev pub fresh : Stamps
fresh = record { time = 1; wrote = λ x. 0; touched = λ x. 0 }

-- at the root nothing is beside
abbrev pub nothing : ℕ → Bool
nothing stamp = false

-- what is beside a right branch: what is beside its fork, and all that its left branch did, from one stamp up to another
abbrev pub right_of : (ℕ → Bool) → (start mid : ℕ) → ℕ → Bool
right_of beside start mid stamp = beside stamp || (nat_le start stamp && nat_lt stamp mid)

module _ {F O : Type 0} (c : Code F O) where
  -- a capsule meets nothing that stands beside it: it touches no word that was written there, and writes none that was touched there
  pub record Passes (beside : ℕ → Bool) (f : F) (a : Words) (s : Stamps) : Type 0 where
    pub unwritten : (x : ℕ) → Has x (touches c f a) → beside (s.wrote x) ≡ false
    pub untouched : (x : ℕ) → Has x (c.writes f a) → beside (s.touched x) ≡ false

  -- it meets something
  abbrev pub Meets : (ℕ → Bool) → F → Words → Stamps → Type 0
  Meets beside f a s =
      (x : ℕ) × ((Has x (touches c f a) × (beside (s.wrote x) ≡ true)) ⊎ (Has x (c.writes f a) × (beside (s.touched x) ≡ true)))

  -- what it leaves: its stamp at what it wrote, and at what it touched, but where who touched that stands beside
  pub record Marks (beside : ℕ → Bool) (f : F) (a : Words) (s u : Stamps) : Type 0 where
    pub time : u.time ≡ suc s.time
    pub wrote : (x : ℕ) → Has x (c.writes f a) → u.wrote x ≡ s.time
    pub unwritten : (x : ℕ) → (Has x (c.writes f a) → ⊥) → u.wrote x ≡ s.wrote x
    pub stays : (x : ℕ) → Has x (touches c f a) → beside (s.touched x) ≡ true → u.touched x ≡ s.touched x
    pub touched : (x : ℕ) → Has x (touches c f a) → beside (s.touched x) ≡ false → u.touched x ≡ s.time
    pub untouched : (x : ℕ) → (Has x (touches c f a) → ⊥) → u.touched x ≡ s.touched x

  -- within a bound the run comes to its end, no capsule meets anything, and these are the stamps then
  abbrev pub IsClean : ℕ → (ℕ → Bool) → Tree F O → Words → Stamps → Stamps → Type 0
  IsClean zero beside t a s u = ⊥
  IsClean (suc n) beside (Over o) a s u = u ≡ s
  IsClean (suc n) beside (Strand f) a s u =
      (m : Stamps) × Passes beside f a s × Marks beside f a s m × IsClean n beside (c.next f a) (c.after f a) m u
  IsClean (suc n) beside (Call g t) a s u =
      (m : Stamps) × (d : End O) × IsClean n beside t a s m × Ends c t a d × IsClean n beside (c.resume g d.outcome) d.words m u
  IsClean (suc n) beside (Fork g l r) a s u =
      (m : Stamps) × (v : Stamps) × (d : End O) × (p : End O) × IsClean n beside l a s m × Ends c l a d
      × IsClean n (right_of beside s.time m.time) r d.words m v × Ends c r d.words p
      × IsClean n beside (rejoin c g d.outcome p.outcome) p.words v u

  -- within a bound a capsule of the run meets something, and none did before it
  abbrev pub IsFound : ℕ → (ℕ → Bool) → Tree F O → Words → Stamps → Type 0
  IsFound zero beside t a s = ⊥
  IsFound (suc n) beside (Over o) a s = ⊥
  IsFound (suc n) beside (Strand f) a s =
      Meets beside f a s ⊎ ((m : Stamps) × Passes beside f a s × Marks beside f a s m × IsFound n beside (c.next f a) (c.after f a) m)
  IsFound (suc n) beside (Call g t) a s =
      IsFound n beside t a s
      ⊎ ((m : Stamps) × (d : End O) × IsClean n beside t a s m × Ends c t a d × IsFound n beside (c.resume g d.outcome) d.words m)
  IsFound (suc n) beside (Fork g l r) a s =
      IsFound n beside l a s
      ⊎ (((m : Stamps) × (d : End O) × IsClean n beside l a s m × Ends c l a d × IsFound n (right_of beside s.time m.time) r d.words m)
      ⊎ ((m : Stamps) × (v : Stamps) × (d : End O) × (p : End O) × IsClean n beside l a s m × Ends c l a d
      × IsClean n (right_of beside s.time m.time) r d.words m v × Ends c r d.words p
      × IsFound n beside (rejoin c g d.outcome p.outcome) p.words v))

-- a run that comes to its end and meets nothing is that of a calm tree
abbrev pub CleanIsCalm : {F O : Type 0} → Code F O → Type 0
CleanIsCalm {F} {O} c = (n : ℕ) (t : Tree F O) (a : Words) (u : Stamps) → IsClean c n nothing t a fresh u
    → Calm c t a × ((e : End O) × Ends c t a e)

-- a run that meets something is of a tree that is not calm
abbrev pub FoundIsARace : {F O : Type 0} → Code F O → Type 0
FoundIsARace {F} {O} c = (n : ℕ) (t : Tree F O) (a : Words) → IsFound c n nothing t a fresh → Calm c t a → ⊥

-- a run that comes to its end does the one or the other
abbrev pub EndsAreTold : {F O : Type 0} → Code F O → Type 0
EndsAreTold {F} {O} c = (n : ℕ) (t : Tree F O) (a : Words) (e : End O) → run c n t a ≡ Some e
    → IsFound c n nothing t a fresh ⊎ ((u : Stamps) × IsClean c n nothing t a fresh u)
