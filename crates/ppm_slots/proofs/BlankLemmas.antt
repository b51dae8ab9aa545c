-- A store into a new block leads to an end that builds the word.
use Rattle.std.proofs.Common.{◌≡◌, ◌≤◌, ◌<◌, ℕ, zero, suc, ◌+◌, ◌==◌, max, cond, Bool, true, false, List, [], ◌∷◌, ◌++◌, length, Option, Some, inl, inr}
use Rattle.std.proofs.Common.{refl, sym, ap, ◌∙◌, subst, arith, slice_set}
use Rattle.std.specs.Prelude.{replicate, slice_get}
use Rattle.std.proofs.lemmas.Bool.{cases_lt}
use Rattle.std.proofs.lemmas.List.{length-append}
use Rattle.ppm_strands.specs.Capsule.{Capsule, Reads, Writes, Asks as AsksFor, Ends, Memory, In, ending, written, store}
use Rattle.ppm_strands.specs.Strand.{Own, New as NewWord, Shared}
use Rattle.ppm_code.specs.Acts.{held, does}
use Rattle.ppm_code.specs.Capsules.{capsule_from, capsule_of, at_act}
use Rattle.ppm_code.specs.Code.{IsCapsule, Fits}
use Rattle.ppm_code.specs.Locations.{Where, location_of, code_locations}
use Rattle.ppm_code.specs.Paths.{may, class_of, Follows, Path, Here, Then, Any, Does, GoesTo}
use Rattle.ppm_code.specs.Strands.{instrs_in}
use Rattle.ppm_code.specs.Tidy.{Builds, MayFollow, LeadsToBuild, IsTidyOne, IsTidyCapsule}
use Rattle.ppm_code.specs.declared.act.Act.{Act}
use Rattle.ppm_code.specs.declared.act.Act.TheVariants.{Sets, Passes, Jumps, Steps, Ends as Stops}
use Rattle.ppm_code.specs.declared.act.End.{End}
use Rattle.ppm_code.specs.declared.act.Step.TheVariants.{Loads, Stores, Asks}
use Rattle.ppm_code.specs.declared.class.Class.{Class}
use Rattle.ppm_code.specs.declared.class.Class.TheVariants.{New}
use Rattle.ppm_code.specs.declared.class.May.{May}
use Rattle.ppm_code.specs.declared.class.May.TheVariants.{Work, Read, Write, Branch, Stop}
use Rattle.ppm_code.specs.declared.code.Capsule.{Capsule as CodeCapsule}
use Rattle.ppm_code.specs.declared.code.CodeParts.{CodeParts}
use Rattle.ppm_code.specs.declared.instr.Instr.{Instr}
use Rattle.ppm_code.specs.declared.instr.Instr.TheVariants.{Const, Move, Add, Sub, Mul, Div, Rem, Equal, NotEqual, Less, AtMost, Len, CutLeft, CutRight}
use Rattle.ppm_code.specs.declared.instr.Instr.TheVariants.{LoadSlot, StoreCur, Give, Get, Put, BranchZero, BranchNonZero, Room, StoreNew, Ends as EndsWith}
use Rattle.ppm_code.specs.declared.register.Register.{Register}
use Rattle.ppm_code.proofs.CapsuleLemmas.{at_instr}
use Rattle.ppm_code.proofs.FollowLemmas.{acts_follow}
use Rattle.ppm_code.proofs.CodeLemmas.{one_at, all_at}
use Rattle.ppm_slots.specs.Blank.{WritesAreSlots}

true_is_not_false : true ≡ false → ⊥
true_is_not_false h = cc

-- a path with one instruction more in front
front : (is : List Instr) (from next to : ℕ) (m : May) → Does is from m → GoesTo m from next → Path is Any next to → Path is Any from to
front is from next to m d g (Here _) = Then from from next m (Here from) d tt g
front is from next to m d g (Then _ at _ n p e q h) = Then from at to n (front is from next at m d g p) e q h

module _ (code : CodeParts) where
  -- each path of a capsule comes to an end that builds the word
  abbrev EndsBuild : ℕ → Capsule Where End → Type 0
  EndsBuild o (Reads l go) = (v : ℕ) → EndsBuild o (go v)
  EndsBuild o (Writes l v go) = EndsBuild o go
  EndsBuild o (AsksFor n go) = EndsBuild o go
  EndsBuild o (Ends e) = Builds code e o

  -- each path from a store of a word of the new block on comes to an end that builds the word
  abbrev Leads : Where → Capsule Where End → Type 0
  Leads (Own w) go = Unit {0}
  Leads (NewWord o) go = EndsBuild o go
  Leads (Shared x) go = Unit {0}

  abbrev StoresBuild : Capsule Where End → Type 0
  StoresBuild (Reads l go) = (v : ℕ) → StoresBuild (go v)
  StoresBuild (Writes l v go) = Leads l go × StoresBuild go
  StoresBuild (AsksFor n go) = StoresBuild go
  StoresBuild (Ends e) = Unit {0}

  ends_build : (o : ℕ) (p : Capsule Where End) (m : Memory Where) → EndsBuild o p → Builds code (ending code_locations p m) o
  ends_build o (Reads l go) m h = ends_build o (go (m l)) m (h (m l))
  ends_build o (Writes l v go) m h = ends_build o go (store code_locations m l v) h
  ends_build o (AsksFor n go) m h = ends_build o go m h
  ends_build o (Ends e) m h = h

  stores_build : (o : ℕ) (p : Capsule Where End) (m : Memory Where) → StoresBuild p → In (NewWord o) (written code_locations p m)
      → Builds code (ending code_locations p m) o
  stores_build o (Reads l go) m h i = stores_build o (go (m l)) m (h (m l)) i
  stores_build o (Writes l v go) m h (inl e) =
      ends_build o go (store code_locations m l v) (subst (λ (k : Where). Leads k go) (sym e) h.0)
  stores_build o (Writes l v go) m h (inr i) = stores_build o go (store code_locations m l v) h.1 i
  stores_build o (AsksFor n go) m h i = stores_build o go m h i
  stores_build o (Ends e) m h i = absurd i

  -- where an instruction stops it's an end that builds the word
  abbrev StopBuilds : ℕ → Act → Type 0
  StopBuilds o (Stops e) = Builds code e o
  StopBuilds o (Sets d v) = Unit {0}
  StopBuilds o Passes = Unit {0}
  StopBuilds o (Jumps t) = Unit {0}
  StopBuilds o (Steps s) = Unit {0}

  branches : (o t : ℕ) (b : Bool) → StopBuilds o (cond b (Jumps t) Passes)
  branches o t true = tt
  branches o t false = tt

  branches_not : (o t : ℕ) (b : Bool) → StopBuilds o (cond b Passes (Jumps t))
  branches_not o t true = tt
  branches_not o t false = tt

  stop_builds : (words o : ℕ) (i : Instr) (g : List ℕ) → MayFollow code i o → StopBuilds o (does words i g)
  stop_builds words o (Const d v) g h = tt
  stop_builds words o (Move d r) g h = tt
  stop_builds words o (Add d r q l) g h = absurd (true_is_not_false h)
  stop_builds words o (Sub d r q l) g h = absurd (true_is_not_false h)
  stop_builds words o (Mul d r q l) g h = absurd (true_is_not_false h)
  stop_builds words o (Div d r q l) g h = absurd (true_is_not_false h)
  stop_builds words o (Rem d r q l) g h = absurd (true_is_not_false h)
  stop_builds words o (Equal d r q) g h = tt
  stop_builds words o (NotEqual d r q) g h = tt
  stop_builds words o (Less d r q) g h = tt
  stop_builds words o (AtMost d r q) g h = tt
  stop_builds words o (Len d r) g h = tt
  stop_builds words o (CutLeft d r q l) g h = absurd (true_is_not_false h)
  stop_builds words o (CutRight d r q l) g h = absurd (true_is_not_false h)
  stop_builds words o (LoadSlot d i) g h = tt
  stop_builds words o (StoreCur i r) g h = tt
  stop_builds words o (Give r) g h = tt
  stop_builds words o (Get d r q l) g h = absurd (true_is_not_false h)
  stop_builds words o (Put r q f l) g h = absurd (true_is_not_false h)
  stop_builds words o (BranchZero r t) g h = branches o t (held g r == 0)
  stop_builds words o (BranchNonZero r t) g h = branches_not o t (held g r == 0)
  stop_builds words o (Room n) g h = tt
  stop_builds words o (StoreNew n r) g h = tt
  stop_builds words o (EndsWith e) g h = h

-- a store into a new block is the instruction for it
abbrev IsNewStore : May → Instr → Type 0
IsNewStore (Write (New o)) i = (from : Register) × (i ≡ StoreNew o from)
IsNewStore _ i = Unit {0}

new_store : (i : Instr) → IsNewStore (may i) i
new_store (Const d v) = tt
new_store (Move d r) = tt
new_store (Add d r q l) = tt
new_store (Sub d r q l) = tt
new_store (Mul d r q l) = tt
new_store (Div d r q l) = tt
new_store (Rem d r q l) = tt
new_store (Equal d r q) = tt
new_store (NotEqual d r q) = tt
new_store (Less d r q) = tt
new_store (AtMost d r q) = tt
new_store (Len d r) = tt
new_store (CutLeft d r q l) = tt
new_store (CutRight d r q l) = tt
new_store (LoadSlot d i) = tt
new_store (StoreCur i r) = tt
new_store (Give r) = tt
new_store (Get d r q l) = tt
new_store (Put r q f l) = tt
new_store (BranchZero r t) = tt
new_store (BranchNonZero r t) = tt
new_store (Room n) = tt
new_store (StoreNew o r) = (r, refl)
new_store (EndsWith e) = tt

last_is : (before : List Instr) (i : Instr) → slice_get (before ++ (i ∷ [])) (length before) ≡ Some i
last_is [] i = refl
last_is (j ∷ before) i = last_is before i

same_instr : (i j : Instr) → ◌≡◌ {A = Option Instr} (Some i) (Some j) → i ≡ j
same_instr i j e = cc

-- of a capsule of a code
module _ (code : CodeParts) (p words : ℕ) (is : List Instr) (last : (before : List Instr) × (e : End) × (is ≡ before ++ (EndsWith e ∷ [])))
    (each : (at : ℕ) (i : Instr) → slice_get is at ≡ Some i → Fits code p is at i) (tidy : IsTidyCapsule code is) where
  abbrev go : ℕ → List ℕ → Capsule Where End
  go t h = capsule_from words 0 t is h

  length_is : length is ≡ length last.0 + 1
  length_is = ap (λ (js : List Instr). length js) last.2 ∙ length-append last.0 (EndsWith last.1 ∷ [])

  -- an instruction that is no end is not the last
  goes_in : (at : ℕ) (m : May) → Does is at m → (m ≡ Stop → ⊥) → at < length is → at + 1 < length is
  goes_in at m here none less = elim (cases_lt (at + 1) (length is)) [
    | inl more ↦ more
    | inr end ↦
        let count = length_is in
        let at_is : at ≡ length last.0 = omega (arith, end, less, count) in
        let found : slice_get is at ≡ Some (EndsWith last.1) =
        ap (λ (n : ℕ). slice_get is n) at_is ∙ ap (λ (js : List Instr). slice_get js (length last.0)) last.2 ∙ last_is last.0 (EndsWith last.1) in
        let same : here.0 ≡ EndsWith last.1 = same_instr here.0 (EndsWith last.1) (sym here.1 ∙ found) in
        absurd (none (sym here.2 ∙ ap may same))
  ]

  -- a branch leads to an instruction
  abbrev Target : May → Type 0
  Target (Branch t) = t < length is
  Target _ = Unit {0}

  target_in : (at : ℕ) (i : Instr) → Fits code p is at i → Target (may i)
  target_in at (Const d v) h = tt
  target_in at (Move d r) h = tt
  target_in at (Add d r q l) h = tt
  target_in at (Sub d r q l) h = tt
  target_in at (Mul d r q l) h = tt
  target_in at (Div d r q l) h = tt
  target_in at (Rem d r q l) h = tt
  target_in at (Equal d r q) h = tt
  target_in at (NotEqual d r q) h = tt
  target_in at (Less d r q) h = tt
  target_in at (AtMost d r q) h = tt
  target_in at (Len d r) h = tt
  target_in at (CutLeft d r q l) h = tt
  target_in at (CutRight d r q l) h = tt
  target_in at (LoadSlot d i) h = tt
  target_in at (StoreCur i r) h = tt
  target_in at (Give r) h = tt
  target_in at (Get d r q l) h = tt
  target_in at (Put r q f l) h = tt
  target_in at (BranchZero r t) h = h.1
  target_in at (BranchNonZero r t) h = h.1
  target_in at (Room n) h = tt
  target_in at (StoreNew o r) h = tt
  target_in at (EndsWith e) h = tt

  -- how it goes on from an instruction
  abbrev Onward : (at : ℕ) → May → (Capsule Where End → Type 0) → Type 0
  Onward at m q = (t : ℕ) (h : List ℕ) → at + 1 ≤ t → t < length is → GoesTo m at t → q (go t h)

  module _ (o at : ℕ) (less : at < length is) where
    act_ends : (m : May) (a : Act) (g : List ℕ) → Does is at m → Target m → Follows m a → StopBuilds code o a → Onward at m (EndsBuild code o)
        → EndsBuild code o (at_act go (at + 1) a g)
    act_ends m (Stops e) g here target f stop on = stop
    act_ends Work (Sets d v) g here target f stop on =
        on (at + 1) (slice_set g d.index v) (omega arith) (goes_in at Work here (λ e. cc) less) refl
    act_ends Work Passes g here target f stop on = absurd f
    act_ends Work (Jumps u) g here target f stop on = absurd f
    act_ends Work (Steps (Loads l d)) g here target f stop on = absurd f
    act_ends Work (Steps (Stores l v)) g here target f stop on = absurd f
    act_ends Work (Steps (Asks n)) g here target f stop on = absurd f
    act_ends (Read k) (Steps (Loads l d)) g here target f stop on =
        λ v. on (at + 1) (slice_set g d.index v) (omega arith) (goes_in at (Read k) here (λ e. cc) less) refl
    act_ends (Read k) (Steps (Asks n)) g here target f stop on = on (at + 1) g (omega arith) (goes_in at (Read k) here (λ e. cc) less) refl
    act_ends (Read k) (Steps (Stores l v)) g here target f stop on = absurd f
    act_ends (Read k) (Sets d v) g here target f stop on = absurd f
    act_ends (Read k) Passes g here target f stop on = absurd f
    act_ends (Read k) (Jumps u) g here target f stop on = absurd f
    act_ends (Write k) (Steps (Stores l v)) g here target f stop on = on (at + 1) g (omega arith) (goes_in at (Write k) here (λ e. cc) less) refl
    act_ends (Write k) (Steps (Loads l d)) g here target f stop on = absurd f
    act_ends (Write k) (Steps (Asks n)) g here target f stop on = absurd f
    act_ends (Write k) (Sets d v) g here target f stop on = absurd f
    act_ends (Write k) Passes g here target f stop on = absurd f
    act_ends (Write k) (Jumps u) g here target f stop on = absurd f
    act_ends (Branch t) Passes g here target f stop on = on (at + 1) g (omega arith) (goes_in at (Branch t) here (λ e. cc) less) (inl refl)
    act_ends (Branch t) (Jumps u) g here target f stop on =
        let more = goes_in at (Branch t) here (λ e. cc) less in
        on (max u (at + 1)) g (omega arith) (omega (arith, more, target, f)) (inr (ap (λ (v : ℕ). max v (at + 1)) f))
    act_ends (Branch t) (Sets d v) g here target f stop on = absurd f
    act_ends (Branch t) (Steps s) g here target f stop on = absurd f
    act_ends Stop (Sets d v) g here target f stop on = absurd f
    act_ends Stop Passes g here target f stop on = absurd f
    act_ends Stop (Jumps u) g here target f stop on = absurd f
    act_ends Stop (Steps s) g here target f stop on = absurd f

  ends_from : (o n at : ℕ) (g : List ℕ) → length is ≤ at + n → at < length is → LeadsToBuild code is at o → EndsBuild code o (go at g)
  ends_from o zero at g enough less leads = absurd (omega (arith, enough, less))
  ends_from o (suc n) at g enough less leads =
      let one = one_at is at less in
      rw (at_instr words at is g one.0 one.1)
      (act_ends o at less (may one.0) (does words one.0 g) g (one.0, one.1, refl) (target_in at one.0 (each at one.0 one.1))
      (acts_follow words one.0 g)
      (stop_builds code words o one.0 g (leads at one.0 (Here at) one.1)) (λ t h from below goes.
      ends_from o n t h (omega (arith, enough, from)) below
      (λ to j path found. leads to j (front is at t to (may one.0) (one.0, one.1, refl) goes path) found)))

  -- what is stored on a path leads to its end
  stored : (at : ℕ) (g : List ℕ) (k : Class) (l : Where) → at < length is → Path is Any 0 at → Does is at (Write k) → class_of l ≡ k
      → Leads code l (go (at + 1) g)
  stored at g k (Own w) less path here f = tt
  stored at g k (Shared x) less path here f = tt
  stored at g k (NewWord o) less path here f =
      let is_store = subst (λ (m : May). IsNewStore m here.0) (here.2 ∙ ap Write (sym f)) (new_store here.0) in
      let found = here.1 ∙ ap (λ (i : Instr). Some i) is_store.1 in
      ends_from o (length is) (at + 1) g (omega arith) (goes_in at (Write k) here (λ e. cc) less)
      ((tidy at o is_store.0 found).leads path)

  module _ (at : ℕ) (less : at < length is) (path : Path is Any 0 at) where
    act_stores : (m : May) (a : Act) (g : List ℕ) → Does is at m → Target m → Follows m a → Onward at m (StoresBuild code)
        → StoresBuild code (at_act go (at + 1) a g)
    act_stores m (Stops e) g here target f on = tt
    act_stores Work (Sets d v) g here target f on =
        on (at + 1) (slice_set g d.index v) (omega arith) (goes_in at Work here (λ e. cc) less) refl
    act_stores Work Passes g here target f on = absurd f
    act_stores Work (Jumps u) g here target f on = absurd f
    act_stores Work (Steps (Loads l d)) g here target f on = absurd f
    act_stores Work (Steps (Stores l v)) g here target f on = absurd f
    act_stores Work (Steps (Asks n)) g here target f on = absurd f
    act_stores (Read k) (Steps (Loads l d)) g here target f on =
        λ v. on (at + 1) (slice_set g d.index v) (omega arith) (goes_in at (Read k) here (λ e. cc) less) refl
    act_stores (Read k) (Steps (Asks n)) g here target f on = on (at + 1) g (omega arith) (goes_in at (Read k) here (λ e. cc) less) refl
    act_stores (Read k) (Steps (Stores l v)) g here target f on = absurd f
    act_stores (Read k) (Sets d v) g here target f on = absurd f
    act_stores (Read k) Passes g here target f on = absurd f
    act_stores (Read k) (Jumps u) g here target f on = absurd f
    act_stores (Write k) (Steps (Stores l v)) g here target f on = (
      stored at g k (location_of l) less path here f,
      on (at + 1) g (omega arith) (goes_in at (Write k) here (λ e. cc) less) refl,
    )
    act_stores (Write k) (Steps (Loads l d)) g here target f on = absurd f
    act_stores (Write k) (Steps (Asks n)) g here target f on = absurd f
    act_stores (Write k) (Sets d v) g here target f on = absurd f
    act_stores (Write k) Passes g here target f on = absurd f
    act_stores (Write k) (Jumps u) g here target f on = absurd f
    act_stores (Branch t) Passes g here target f on = on (at + 1) g (omega arith) (goes_in at (Branch t) here (λ e. cc) less) (inl refl)
    act_stores (Branch t) (Jumps u) g here target f on =
        let more = goes_in at (Branch t) here (λ e. cc) less in
        on (max u (at + 1)) g (omega arith) (omega (arith, more, target, f)) (inr (ap (λ (v : ℕ). max v (at + 1)) f))
    act_stores (Branch t) (Sets d v) g here target f on = absurd f
    act_stores (Branch t) (Steps s) g here target f on = absurd f
    act_stores Stop (Sets d v) g here target f on = absurd f
    act_stores Stop Passes g here target f on = absurd f
    act_stores Stop (Jumps u) g here target f on = absurd f
    act_stores Stop (Steps s) g here target f on = absurd f

  stores_from : (n at : ℕ) (g : List ℕ) → length is ≤ at + n → at < length is → Path is Any 0 at → StoresBuild code (go at g)
  stores_from zero at g enough less path = absurd (omega (arith, enough, less))
  stores_from (suc n) at g enough less path =
      let one = one_at is at less in
      rw (at_instr words at is g one.0 one.1)
      (act_stores at less path (may one.0) (does words one.0 g) g (one.0, one.1, refl) (target_in at one.0 (each at one.0 one.1))
      (acts_follow words one.0 g) (λ t h from below goes.
      stores_from n t h (omega (arith, enough, from)) below (Then 0 at t (may one.0) path (one.0, one.1, refl) tt goes)))

  all_stores : StoresBuild code (capsule_of words is)
  all_stores =
      let count = length_is in
      stores_from (length is) 0 (replicate 64 0) (omega arith) (omega (arith, count)) (Here 0)

pub writes_are_slots : WritesAreSlots
writes_are_slots code words number o m is_code tidy less written_there =
    let c = one_at code.capsules number less in
    let fits = all_at (IsCapsule code) code.capsules number c.0 is_code.capsules c.1 in
    let is_tidy = all_at (IsTidyOne code) code.capsules number c.0 tidy c.1 in
    subst (λ (x : Option CodeCapsule). In (NewWord o) (written code_locations (capsule_of words (instrs_in x)) m)
    → Builds code (ending code_locations (capsule_of words (instrs_in x)) m) o) (sym c.1)
    (λ there. stores_build code o (capsule_of words c.0.instrs) m
    (all_stores code c.0.procedure words c.0.instrs fits.last fits.each is_tidy) there) written_there
