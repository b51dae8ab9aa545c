-- What a capsule keeps if each read finds 0, and whether it traps then; that other finds change nothing of a trap.
use Rattle.std.proofs.Common.{◌≡◌, ◌≤◌, ◌<◌, ℕ, zero, suc, ◌+◌, max, Bool, true, false, cond, List, [], ◌∷◌, length, Option, Some, None}
use Rattle.std.proofs.Common.{◌⊎◌, inl, inr, refl, sym, ap, ◌∙◌, subst, arith, slice_set, slice_index}
use Rattle.std.specs.Prelude.{slice_get, ℤ, ◌==◌, ◌+ℤ◌, ◌-ℤ◌, ◌*ℤ◌, int_div, int_rem, int_lt, int_le, if◌then◌else◌}
use Rattle.std.proofs.lemmas.List.{get_or-set_other}
use Rattle.ppm_words.specs.TwosComplement.{value_of, word_of}
use Rattle.ppm_words.specs.declared.trap.Trap.{Trap}
use Rattle.ppm_words.specs.declared.trap.Trap.TheVariants.{Overflow, DivZero, Split}
use Rattle.ppm_strands.specs.Capsule.{Capsule, Memory, In, is_in}
use Rattle.ppm_strands.specs.Equalities.{numbers}
use Rattle.ppm_strands.proofs.LocationLemmas.{decide}
use Rattle.ppm_unseen.specs.Capsule.{Capsule as Racing, Loads as LoadsOwn, Keeps, Reads as FindsShared, Changes, Ends as Stopping}
use Rattle.ppm_code.specs.declared.location.FrameWord.TheVariants.{Slot as SlotWord, Value as ValueWord}
use Rattle.ppm_code.specs.declared.location.Location.TheVariants.{Frame, New as NewLocation, Array as ArrayWord}
use Rattle.ppm_code.specs.declared.act.End.{End}
use Rattle.ppm_code.specs.declared.act.End.TheVariants.{Next, Finish, Trap as Trapping, Call, Fork}
use Rattle.ppm_code.specs.declared.act.Act.{Act}
use Rattle.ppm_code.specs.declared.act.Act.TheVariants.{Sets, Passes, Jumps, Steps, Ends as Stops}
use Rattle.ppm_code.specs.declared.act.Step.{Step}
use Rattle.ppm_code.specs.declared.act.Step.TheVariants.{Loads, Stores, Asks as AsksFor}
use Rattle.ppm_code.specs.declared.class.May.{May}
use Rattle.ppm_code.specs.declared.class.May.TheVariants.{Work, Read, Write, Branch, Stop}
use Rattle.ppm_code.specs.declared.register.Register.{Register}
use Rattle.ppm_code.specs.declared.instr.Instr.{Instr}
use Rattle.ppm_code.specs.declared.instr.Instr.TheVariants.{Const, Move, Add, Sub, Mul, Div, Rem, Equal, NotEqual, Less, AtMost, Len, CutLeft, CutRight}
use Rattle.ppm_code.specs.declared.instr.Instr.TheVariants.{LoadSlot, StoreCur, Give, Get, Put, BranchZero, BranchNonZero, Room as RoomFor, StoreNew, Ends as Ending}
use Rattle.ppm_code.specs.Acts.{does, held, at_element, element_of, length_of, traps, whole, divided, quotient_of, remainder_of, cut_left_of, cut_right_of, is_zero, fits}
use Rattle.ppm_code.specs.Capsules.{capsule_from, at_act}
use Rattle.ppm_code.specs.Locations.{Where}
use Rattle.ppm_code.specs.Paths.{may, GoesTo, Follows}
use Rattle.ppm_code.proofs.CapsuleLemmas.{at_instr}
use Rattle.ppm_code.proofs.FollowLemmas.{acts_follow}
use Rattle.ppm_filled.specs.Racing.{OwnWord, OfFrame, OfBlock, Exit, Of, Tells, own_words, racing, ending, built_by}
use Rattle.ppm_filled.specs.Filled.{operands_of, traps_by, target_of, may_trap, IsHung, Hangs, Takes as TakesMark, Stays, Parts, GoesOn, Word, Way}
use Rattle.ppm_filled.proofs.PathLemmas.{forward, there}
use Rattle.ppm_filled.proofs.TurnLemmas.{Turn, Halts, Fails, Works, Asks, Branches, Takes, Finds, Fills, Builds, Puts, turn, from, is_trap_end, none_there}

-- whether a strand is over by a trap of its own
abbrev pub traps_at : Exit → Bool
traps_at (Of e) = is_trap_end e
traps_at (Tells r) = false

-- what is true of both is true of the one that a test chooses
pub either : {A : Type 0} (P : A → Type 0) (b : Bool) {x y : A} → P x → P y → P (cond b x y)
either P true p q = p
either P false p q = q

both_ways : (b : Bool) (all : List OwnWord) {d e : Option (List OwnWord)} {k l : List OwnWord} → (d ≡ Some all → k ≡ all) → (e ≡ Some all → l ≡ all)
    → cond b d e ≡ Some all → cond b k l ≡ all
both_ways true all p q h = p h
both_ways false all p q h = q h

module _ (o : Memory OwnWord) where
  -- the words that are kept at the end if each read, and each load of a word that is kept already, finds 0; the last one first
  abbrev pub last : List OwnWord → Racing OwnWord Exit → List OwnWord
  last w (LoadsOwn x go) = cond (is_in own_words x w) (last w (go 0)) (last w (go (o x)))
  last w (Keeps x v rest) = last (x ∷ w) rest
  last w (FindsShared x go) = last w (go 0)
  last w (Changes x g rest) = last w rest
  last w (Stopping e) = w

  -- these words if the capsule traps then
  abbrev pub doom : List OwnWord → Racing OwnWord Exit → Option (List OwnWord)
  doom w (LoadsOwn x go) = cond (is_in own_words x w) (doom w (go 0)) (doom w (go (o x)))
  doom w (Keeps x v rest) = doom (x ∷ w) rest
  doom w (FindsShared x go) = doom w (go 0)
  doom w (Changes x g rest) = doom w rest
  doom w (Stopping e) = cond (traps_at e) (Some w) None

  -- one is the other where it traps
  pub doom_is_last : (w all : List OwnWord) (c : Racing OwnWord Exit) → doom w c ≡ Some all → last w c ≡ all
  doom_is_last w all (LoadsOwn x go) e =
      both_ways (is_in own_words x w) all (doom_is_last w all (go 0)) (doom_is_last w all (go (o x))) e
  doom_is_last w all (Keeps x v rest) e = doom_is_last (x ∷ w) all rest e
  doom_is_last w all (FindsShared x go) e = doom_is_last w all (go 0) e
  doom_is_last w all (Changes x g rest) e = doom_is_last w all rest e
  doom_is_last w all (Stopping e') e = by (traps_at e') e
    where
      by : (b : Bool) → cond b (Some w) None ≡ Some all → w ≡ all
      by true h = cc
      by false h = cc

  -- what is kept stays so
  pub last_has : (x : OwnWord) (w : List OwnWord) (c : Racing OwnWord Exit) → In x w → In x (last w c)
  last_has x w (LoadsOwn y go) i = either (In x) (is_in own_words y w) (last_has x w (go 0) i) (last_has x w (go (o y)) i)
  last_has x w (Keeps y v rest) i = last_has x (y ∷ w) rest (inr i)
  last_has x w (FindsShared y go) i = last_has x w (go 0) i
  last_has x w (Changes y g rest) i = last_has x w rest i
  last_has x w (Stopping e) i = i

  -- an end that is no trap
  pub doom_at_end : (w block : List OwnWord) (e : End) → is_trap_end e ≡ false → doom w (ending block e) ≡ None
  doom_at_end w block (Next c) h = refl
  doom_at_end w block Finish h = refl
  doom_at_end w block (Trapping t l) h = cc
  doom_at_end w block (Call p c to) h = refl
  doom_at_end w block (Fork p q c lt rt) h = refl

-- registers after the same word was stored, and after any two where one other is looked at
pub set_alike : (g h : List ℕ) (d r v : ℕ) → length g ≡ length h → slice_index g r ≡ slice_index h r
    → slice_index (slice_set g d v) r ≡ slice_index (slice_set h d v) r
set_alike [] [] d r v n e = e
set_alike [] (y ∷ h) d r v n e = absurd (omega (arith, n))
set_alike (x ∷ g) [] d r v n e = absurd (omega (arith, n))
set_alike (x ∷ g) (y ∷ h) zero zero v n e = refl
set_alike (x ∷ g) (y ∷ h) zero (suc r) v n e = e
set_alike (x ∷ g) (y ∷ h) (suc d) zero v n e = e
set_alike (x ∷ g) (y ∷ h) (suc d) (suc r) v n e = set_alike g h d r v (omega (arith, n)) e

set_length : (g : List ℕ) (d v : ℕ) → length (slice_set g d v) ≡ length g
set_length [] d v = refl
set_length (x ∷ g) zero v = refl
set_length (x ∷ g) (suc d) v = ap suc (set_length g d v)

-- what an instruction does goes by the registers that it reads
pub does_alike : (words : ℕ) (i : Instr) (g h : List ℕ) → ((a : Register) → In a (operands_of i) → held g a ≡ held h a) → does words i g ≡ does words i h
does_alike words (Const d n) g h same = refl
does_alike words (Move d a) g h same = λ k. Sets d (same a (inl refl) k)
does_alike words (Add d a b l) g h same = λ k. whole l d (value_of (same a (inl refl) k) +ℤ value_of (same b (inr (inl refl)) k))
does_alike words (Sub d a b l) g h same = λ k. whole l d (value_of (same a (inl refl) k) -ℤ value_of (same b (inr (inl refl)) k))
does_alike words (Mul d a b l) g h same = λ k. whole l d (value_of (same a (inl refl) k) *ℤ value_of (same b (inr (inl refl)) k))
does_alike words (Div d a b l) g h same = λ k. quotient_of l d (value_of (same a (inl refl) k)) (value_of (same b (inr (inl refl)) k))
does_alike words (Rem d a b l) g h same = λ k. remainder_of l d (value_of (same a (inl refl) k)) (value_of (same b (inr (inl refl)) k))
does_alike words (Equal d a b) g h same = λ k. Sets d (if same a (inl refl) k == same b (inr (inl refl)) k then 1 else 0)
does_alike words (NotEqual d a b) g h same = λ k. Sets d (if same a (inl refl) k == same b (inr (inl refl)) k then 0 else 1)
does_alike words (Less d a b) g h same = λ k. Sets d (if int_lt (value_of (same a (inl refl) k)) (value_of (same b (inr (inl refl)) k)) then 1 else 0)
does_alike words (AtMost d a b) g h same = λ k. Sets d (if int_le (value_of (same a (inl refl) k)) (value_of (same b (inr (inl refl)) k)) then 1 else 0)
does_alike words (Len d a) g h same = λ k. Sets d (length_of (same a (inl refl) k))
does_alike words (CutLeft d a b l) g h same = λ k. cut_left_of l d (same a (inl refl) k) (same b (inr (inl refl)) k)
does_alike words (CutRight d a b l) g h same = λ k. cut_right_of l d (same a (inl refl) k) (same b (inr (inl refl)) k)
does_alike words (LoadSlot d i) g h same = refl
does_alike words (StoreCur i a) g h same = λ k. Steps (Stores (Frame (SlotWord i)) (same a (inl refl) k))
does_alike words (Give a) g h same = λ k. Steps (Stores (Frame ValueWord) (same a (inl refl) k))
does_alike words (Get d a b l) g h same =
    λ k. at_element l (element_of words (same a (inl refl) k) (same b (inr (inl refl)) k)) (λ x. Loads (ArrayWord x) d)
does_alike words (Put a b s l) g h same =
    λ k. at_element l (element_of words (same a (inl refl) k) (same b (inr (inl refl)) k)) (λ x. Stores (ArrayWord x) (same s (inr (inr (inl refl))) k))
does_alike words (BranchZero a t) g h same = λ k. if same a (inl refl) k == 0 then Jumps t else Passes
does_alike words (BranchNonZero a t) g h same = λ k. if same a (inl refl) k == 0 then Passes else Jumps t
does_alike words (RoomFor n) g h same = refl
does_alike words (StoreNew w a) g h same = λ k. Steps (Stores (NewLocation w) (same a (inl refl) k))
does_alike words (Ending e) g h same = refl

-- an act sets no register but the target
abbrev SetsBy : Option Register → Act → Type 0
SetsBy t (Sets d v) = t ≡ Some d
SetsBy t (Steps (Loads l d)) = t ≡ Some d
SetsBy t (Steps (Stores l v)) = t ≡ None
SetsBy t (Steps (AsksFor n)) = t ≡ None
SetsBy t Passes = t ≡ None
SetsBy t (Jumps u) = t ≡ None
SetsBy t (Stops e) = Unit {0}

set_sets : (t : Option Register) (d : Register) (v line : ℕ) (trap : Trap) → t ≡ Some d → (b : Bool) → SetsBy t (cond b (Sets d v) (traps trap line))
set_sets t d v line trap e true = e
set_sets t d v line trap e false = tt

divided_sets : (t : Option Register) (line : ℕ) (d : Register) (x y z : ℤ) → t ≡ Some d → SetsBy t (divided line d x y z)
divided_sets t line d x y z e = by (is_zero y)
  where
    by : (b : Bool) → SetsBy t (cond b (traps DivZero line) (cond (fits (int_div x y)) (Sets d (word_of z)) (traps Overflow line)))
    by true = tt
    by false = set_sets t d (word_of z) line Overflow e (fits (int_div x y))

element_sets : (t : Option Register) (line : ℕ) (o : Option ℕ) (step : ℕ → Step) → ((x : ℕ) → SetsBy t (Steps (step x))) → SetsBy t (at_element line o step)
element_sets t line None step each = tt
element_sets t line (Some x) step each = each x

branch_sets : (b : Bool) (u : ℕ) → SetsBy None (cond b (Jumps u) Passes)
branch_sets true u = refl
branch_sets false u = refl

branch_not_sets : (b : Bool) (u : ℕ) → SetsBy None (cond b Passes (Jumps u))
branch_not_sets true u = refl
branch_not_sets false u = refl

does_sets : (words : ℕ) (i : Instr) (g : List ℕ) → SetsBy (target_of i) (does words i g)
does_sets words (Const d n) g = refl
does_sets words (Move d a) g = refl
does_sets words (Add d a b l) g = set_sets (Some d) d _ l Overflow refl (fits (value_of (held g a) +ℤ value_of (held g b)))
does_sets words (Sub d a b l) g = set_sets (Some d) d _ l Overflow refl (fits (value_of (held g a) -ℤ value_of (held g b)))
does_sets words (Mul d a b l) g = set_sets (Some d) d _ l Overflow refl (fits (value_of (held g a) *ℤ value_of (held g b)))
does_sets words (Div d a b l) g =
    divided_sets (Some d) l d (value_of (held g a)) (value_of (held g b)) (int_div (value_of (held g a)) (value_of (held g b))) refl
does_sets words (Rem d a b l) g =
    divided_sets (Some d) l d (value_of (held g a)) (value_of (held g b)) (int_rem (value_of (held g a)) (value_of (held g b))) refl
does_sets words (Equal d a b) g = refl
does_sets words (NotEqual d a b) g = refl
does_sets words (Less d a b) g = refl
does_sets words (AtMost d a b) g = refl
does_sets words (Len d a) g = refl
does_sets words (CutLeft d a b l) g = set_sets (Some d) d _ l Split refl _
does_sets words (CutRight d a b l) g = set_sets (Some d) d _ l Split refl _
does_sets words (LoadSlot d i) g = refl
does_sets words (StoreCur i a) g = refl
does_sets words (Give a) g = refl
does_sets words (Get d a b l) g = element_sets (Some d) l (element_of words (held g a) (held g b)) (λ x. Loads (ArrayWord x) d) (λ x. refl)
does_sets words (Put a b s l) g = element_sets None l (element_of words (held g a) (held g b)) (λ x. Stores (ArrayWord x) (held g s)) (λ x. refl)
does_sets words (BranchZero a t) g = branch_sets (held g a == 0) t
does_sets words (BranchNonZero a t) g = branch_not_sets (held g a == 0) t
does_sets words (RoomFor n) g = refl
does_sets words (StoreNew w a) g = refl
does_sets words (Ending e) g = tt

module _ (words : ℕ) (is : List Instr) (o : Memory OwnWord) (none_hung : (at : ℕ) → IsHung is at → ⊥) where
  -- where a way hangs on a find, nothing traps
  abbrev WayIsSafe : ℕ → List ℕ → Type 0
  WayIsSafe at g = Hangs is at Way → (w : List OwnWord) → doom o w (from words is at g) ≡ None

  way_there : (at : ℕ) (g : List ℕ) → ((to : ℕ) (h : List ℕ) → at + 1 ≤ to → at < length is → WayIsSafe to h) → WayIsSafe at g
  way_there at g rec hangs w = on (turn words is at g)
    where
      next : (i : Instr) (to : ℕ) → slice_get is at ≡ Some i → GoesTo (may i) at to → Hangs is to Way
      next i to e goes = GoesOn at to i hangs e goes

      on : {c : Racing OwnWord Exit} → Turn words is at g c → doom o w c ≡ None
      on (Halts e none stop same) = doom_at_end o w (built_by is) e none
      on (Fails i t l e may_fail) = absurd (none_hung at (record { instr = i; there = e; traps = may_fail; hangs = inl hangs }))
      on (Works i d v e m goes) = rec (at + 1) _ (omega arith) (there is at i e) (next i (at + 1) e goes) w
      on (Asks i e m goes) = rec (at + 1) g (omega arith) (there is at i e) (next i (at + 1) e goes) w
      on (Branches i t to e m goes less) = rec to g less (there is at i e) (next i to e goes) w
      on (Takes i d s e m set goes) = either (λ (k : Option (List OwnWord)). k ≡ None) (is_in own_words (OfFrame (SlotWord s)) w)
          (rec (at + 1) (slice_set g d.index 0) (omega arith) (there is at i e) (next i (at + 1) e goes) w)
          (rec (at + 1) (slice_set g d.index (o (OfFrame (SlotWord s)))) (omega arith) (there is at i e) (next i (at + 1) e goes) w)
      on (Finds i d x e m set goes) = rec (at + 1) _ (omega arith) (there is at i e) (next i (at + 1) e goes) w
      on (Fills i k v e m goes) = rec (at + 1) g (omega arith) (there is at i e) (next i (at + 1) e goes) _
      on (Builds i b v e m goes) = rec (at + 1) g (omega arith) (there is at i e) (next i (at + 1) e goes) _
      on (Puts i x v e m goes) = rec (at + 1) g (omega arith) (there is at i e) (next i (at + 1) e goes) w

  pub way_is_safe : (at : ℕ) (g : List ℕ) (w : List OwnWord) → Hangs is at Way → doom o w (from words is at g) ≡ None
  way_is_safe at g w hangs = forward is WayIsSafe way_there (length is) at g (omega arith) hangs w

  -- registers that differ only in what comes of finds
  pub record AreAlike (at : ℕ) (g h : List ℕ) : Type 0 where
    pub size : length g ≡ length h
    pub each : (r : ℕ) → (slice_index g r ≡ slice_index h r) ⊎ Hangs is at (Word r)

  -- those that an instruction reads are the same, or one of them comes of a find
  operands_alike : (at : ℕ) (g h : List ℕ) → AreAlike at g h → (rs : List Register)
      → ((a : Register) → In a rs → held g a ≡ held h a) ⊎ ((a : Register) × In a rs × Hangs is at (Word a.index))
  operands_alike at g h alike [] = inl (λ a i. absurd i)
  operands_alike at g h alike (b ∷ rs) = elim (alike.each b.index) [
    | inr hangs ↦ inr (b, inl refl, hangs)
    | inl same ↦ elim (operands_alike at g h alike rs) [
      | inr some ↦ inr (some.0, inr some.1, some.2)
      | inl all ↦ inl (λ a i. elim i [ inl e ↦ subst (λ (r : Register). held g r ≡ held h r) (sym e) same | inr j ↦ all a j ])
    ]
  ]

  -- past an instruction that sets none
  kept_alike : (at to : ℕ) (i : Instr) (g h : List ℕ) → slice_get is at ≡ Some i → ((d : Register) → target_of i ≡ Some d → ⊥) → GoesTo (may i) at to
      → AreAlike at g h → AreAlike to g h
  kept_alike at to i g h e none goes alike = record {
    size = alike.size;
    each = λ r. elim (alike.each r) [
      | inl same ↦ inl same
      | inr hangs ↦ inr (Stays at to i r hangs e (λ d is_d z. none d is_d) goes)
    ];
  }

  -- past one that sets the same word
  set_same : (at : ℕ) (i : Instr) (d : Register) (v : ℕ) (g h : List ℕ) → slice_get is at ≡ Some i → target_of i ≡ Some d → GoesTo (may i) at (at + 1)
      → AreAlike at g h → AreAlike (at + 1) (slice_set g d.index v) (slice_set h d.index v)
  set_same at i d v g h e target goes alike = record {
    size = set_length g d.index v ∙ alike.size ∙ sym (set_length h d.index v);
    each = λ r. elim (alike.each r) [
      | inl same ↦ inl (set_alike g h d.index r v alike.size same)
      | inr hangs ↦ elim (decide numbers r d.index) [
        | inl is_d ↦ inl (rw is_d (at_set d.index v g h alike.size))
        | inr other ↦ inr (Stays at (at + 1) i r hangs e
            (λ b is_b z. other.0 (sym z ∙ ap (λ (k : Register). k.index) (one_target (sym is_b ∙ target)))) goes)
      ]
    ];
  }
    where
      one_target : {b c : Register} → Some b ≡ Some c → b ≡ c
      one_target h = cc

      at_set : (n v : ℕ) (g h : List ℕ) → length g ≡ length h → slice_index (slice_set g n v) n ≡ slice_index (slice_set h n v) n
      at_set n v [] [] s = refl
      at_set n v [] (y ∷ h) s = absurd (omega (arith, s))
      at_set n v (x ∷ g) [] s = absurd (omega (arith, s))
      at_set zero v (x ∷ g) (y ∷ h) s = refl
      at_set (suc n) v (x ∷ g) (y ∷ h) s = at_set n v g h (omega (arith, s))

  -- past one that sets words of which one comes of a find
  set_other : (at : ℕ) (i : Instr) (d : Register) (u v : ℕ) (g h : List ℕ) → slice_get is at ≡ Some i → target_of i ≡ Some d → GoesTo (may i) at (at + 1)
      → Hangs is (at + 1) (Word d.index) → AreAlike at g h → AreAlike (at + 1) (slice_set g d.index u) (slice_set h d.index v)
  set_other at i d u v g h e target goes new alike = record {
    size = set_length g d.index u ∙ alike.size ∙ sym (set_length h d.index v);
    each = λ r. elim (decide numbers r d.index) [
      | inl is_d ↦ inr (subst (λ (k : ℕ). Hangs is (at + 1) (Word k)) (sym is_d) new)
      | inr other ↦ elim (alike.each r) [
        | inl same ↦ inl (get_or-set_other g d.index r u 0 other.0 ∙ same ∙ sym (get_or-set_other h d.index r v 0 other.0))
        | inr hangs ↦ inr (Stays at (at + 1) i r hangs e
            (λ b is_b z. other.0 (sym z ∙ ap (λ (k : Register). k.index) (one_target (sym is_b ∙ target)))) goes)
      ]
    ];
  }
    where
      one_target : {b c : Register} → Some b ≡ Some c → b ≡ c
      one_target h = cc

  -- with such registers a capsule traps alike: what finds come to decides of no trap
  abbrev TrapsAlike : ℕ → List ℕ → Type 0
  TrapsAlike at g = (h : List ℕ) (w : List OwnWord) → AreAlike at g h → doom o w (from words is at g) ≡ doom o w (from words is at h)

  module _ (at : ℕ) (g : List ℕ) (rec : (to : ℕ) (k : List ℕ) → at + 1 ≤ to → at < length is → TrapsAlike to k)
      (h : List ℕ) (w : List OwnWord) (alike : AreAlike at g h) (i : Instr) (e : slice_get is at ≡ Some i) where
    -- what is left after an act
    abbrev after : Act → List ℕ → Racing OwnWord Exit
    after a k = racing (built_by is) (at_act (λ t l. capsule_from words 0 t is l) (at + 1) a k)

    -- past an act that sets nothing, and past one that sets a word
    past : (to : ℕ) (w' : List OwnWord) → at + 1 ≤ to → GoesTo (may i) at to → target_of i ≡ None → doom o w' (from words is to g) ≡ doom o w' (from words is to h)
    past to w' less goes none = rec to g less (there is at i e) h w' (kept_alike at to i g h e (λ d is_d. some_or_none (sym is_d ∙ none)) goes alike)
      where
        some_or_none : {d : Register} → Some d ≡ None → ⊥
        some_or_none z = cc

    set : (d : Register) (v : ℕ) → GoesTo (may i) at (at + 1) → target_of i ≡ Some d
        → doom o w (from words is (at + 1) (slice_set g d.index v)) ≡ doom o w (from words is (at + 1) (slice_set h d.index v))
    set d v goes target = rec (at + 1) (slice_set g d.index v) (omega arith) (there is at i e) (slice_set h d.index v) w
        (set_same at i d v g h e target goes alike)

    -- past any such act a capsule traps alike with either registers
    same_act : (m : May) (a : Act) → may i ≡ m → Follows m a → SetsBy (target_of i) a → doom o w (after a g) ≡ doom o w (after a h)
    same_act m (Stops z) is_m f s = refl
    same_act Work (Sets d v) is_m f s = set d v (rw is_m refl) s
    same_act (Read c) (Steps (Loads (Frame k) d)) is_m f s = λ j. cond (is_in own_words (OfFrame k) w) (set d 0 (rw is_m refl) s j) (set d (o (OfFrame k)) (rw is_m refl) s j)
    same_act (Read c) (Steps (Loads (NewLocation b) d)) is_m f s = λ j. cond (is_in own_words (OfBlock b) w) (set d 0 (rw is_m refl) s j) (set d (o (OfBlock b)) (rw is_m refl) s j)
    same_act (Read c) (Steps (Loads (ArrayWord x) d)) is_m f s = set d 0 (rw is_m refl) s
    same_act (Read c) (Steps (AsksFor n)) is_m f s = past (at + 1) w (omega arith) (rw is_m refl) s
    same_act (Write c) (Steps (Stores (Frame k) v)) is_m f s = past (at + 1) (OfFrame k ∷ w) (omega arith) (rw is_m refl) s
    same_act (Write c) (Steps (Stores (NewLocation b) v)) is_m f s = past (at + 1) (OfBlock b ∷ w) (omega arith) (rw is_m refl) s
    same_act (Write c) (Steps (Stores (ArrayWord x) v)) is_m f s = past (at + 1) w (omega arith) (rw is_m refl) s
    same_act (Branch t) Passes is_m f s = past (at + 1) w (omega arith) (rw is_m (inl refl)) s
    same_act (Branch t) (Jumps u) is_m f s = past (max u (at + 1)) w (omega arith) (rw is_m (inr (ap (λ (v : ℕ). max v (at + 1)) f))) s
    same_act Work Passes is_m f s = absurd f
    same_act Work (Jumps u) is_m f s = absurd f
    same_act Work (Steps (Loads l d)) is_m f s = absurd f
    same_act Work (Steps (Stores l v)) is_m f s = absurd f
    same_act Work (Steps (AsksFor n)) is_m f s = absurd f
    same_act (Read c) (Sets d v) is_m f s = absurd f
    same_act (Read c) Passes is_m f s = absurd f
    same_act (Read c) (Jumps u) is_m f s = absurd f
    same_act (Read c) (Steps (Stores l v)) is_m f s = absurd f
    same_act (Write c) (Sets d v) is_m f s = absurd f
    same_act (Write c) Passes is_m f s = absurd f
    same_act (Write c) (Jumps u) is_m f s = absurd f
    same_act (Write c) (Steps (Loads l d)) is_m f s = absurd f
    same_act (Write c) (Steps (AsksFor n)) is_m f s = absurd f
    same_act (Branch t) (Sets d v) is_m f s = absurd f
    same_act (Branch t) (Steps z) is_m f s = absurd f
    same_act Stop (Sets d v) is_m f s = absurd f
    same_act Stop Passes is_m f s = absurd f
    same_act Stop (Jumps u) is_m f s = absurd f
    same_act Stop (Steps z) is_m f s = absurd f

    -- nothing traps by a word that comes of a find
    hung : (a : Register) → Hangs is at (Word a.index) → In a (traps_by i) → may_trap i ≡ true → ⊥
    hung a hangs in_it traps = none_hung at (record { instr = i; there = e; traps = traps; hangs = inr (a, in_it, hangs) })

    module _ (a : Register) (hangs : Hangs is at (Word a.index)) (in_it : In a (operands_of i)) where
      -- another word is set, of which the register is said to come of a find
      other : (d : Register) (u v : ℕ) → GoesTo (may i) at (at + 1) → target_of i ≡ Some d
          → doom o w (from words is (at + 1) (slice_set g d.index u)) ≡ doom o w (from words is (at + 1) (slice_set h d.index v))
      other d u v goes target = rec (at + 1) (slice_set g d.index u) (omega arith) (there is at i e) (slice_set h d.index v) w
          (set_other at i d u v g h e target goes (TakesMark at i a d hangs e in_it target) alike)

      -- after a branch on it nothing traps, whichever way
      branched : (t : ℕ) → may i ≡ Branch t → (k : List ℕ) (b : Bool) → doom o w (after (cond b (Jumps t) Passes) k) ≡ None
      branched t m k true = way_is_safe (max t (at + 1)) k w (Parts at (max t (at + 1)) i a t hangs e in_it m (rw m (inr refl)))
      branched t m k false = way_is_safe (at + 1) k w (Parts at (at + 1) i a t hangs e in_it m (rw m (inl refl)))

      branched_not : (t : ℕ) → may i ≡ Branch t → (k : List ℕ) (b : Bool) → doom o w (after (cond b Passes (Jumps t)) k) ≡ None
      branched_not t m k true = branched t m k false
      branched_not t m k false = branched t m k true

  module _ (at : ℕ) (g : List ℕ) (rec : (to : ℕ) (k : List ℕ) → at + 1 ≤ to → at < length is → TrapsAlike to k)
      (h : List ℕ) (w : List OwnWord) (alike : AreAlike at g h) where
    -- a put at one place traps alike, whatever it stores
    same_place : (b c : Register) → held g b ≡ held h b → held g c ≡ held h c
        → element_of words (held g b) (held g c) ≡ element_of words (held h b) (held h c)
    same_place b c p q = λ k. element_of words (p k) (q k)

    put_there : (b c s : Register) (l : ℕ) (e : slice_get is at ≡ Some (Put b c s l)) (p : Option ℕ)
        → doom o w (after at g rec h w alike (Put b c s l) e (at_element l p (λ x. Stores (ArrayWord x) (held g s))) g)
        ≡ doom o w (after at g rec h w alike (Put b c s l) e (at_element l p (λ x. Stores (ArrayWord x) (held h s))) h)
    put_there b c s l e None = refl
    put_there b c s l e (Some x) = past at g rec h w alike (Put b c s l) e (at + 1) w (omega arith) refl refl

    put_act : (b c s : Register) (l : ℕ) (e : slice_get is at ≡ Some (Put b c s l))
        → doom o w (after at g rec h w alike (Put b c s l) e (does words (Put b c s l) g) g)
        ≡ doom o w (after at g rec h w alike (Put b c s l) e (does words (Put b c s l) h) h)
    put_act b c s l e = elim (operands_alike at g h alike (b ∷ c ∷ [])) [
      | inl same ↦
          put_there b c s l e (element_of words (held g b) (held g c))
          ∙ ap (λ (p : Option ℕ). doom o w (after at g rec h w alike (Put b c s l) e (at_element l p (λ x. Stores (ArrayWord x) (held h s))) h))
          (same_place b c (same b (inl refl)) (same c (inr (inl refl))))
      | inr some ↦ absurd (hung at g rec h w alike (Put b c s l) e some.0 some.2 some.1 refl)
    ]

    -- an instruction that reads a register that comes of a find
    hung_act : (i : Instr) (e : slice_get is at ≡ Some i) (a : Register) → Hangs is at (Word a.index) → In a (operands_of i)
        → doom o w (after at g rec h w alike i e (does words i g) g) ≡ doom o w (after at g rec h w alike i e (does words i h) h)
    hung_act (Const d n) e a hangs in_it = absurd in_it
    hung_act (Move d b) e a hangs in_it = other at g rec h w alike (Move d b) e a hangs in_it d (held g b) (held h b) refl refl
    hung_act (Add d b c l) e a hangs in_it = absurd (hung at g rec h w alike (Add d b c l) e a hangs in_it refl)
    hung_act (Sub d b c l) e a hangs in_it = absurd (hung at g rec h w alike (Sub d b c l) e a hangs in_it refl)
    hung_act (Mul d b c l) e a hangs in_it = absurd (hung at g rec h w alike (Mul d b c l) e a hangs in_it refl)
    hung_act (Div d b c l) e a hangs in_it = absurd (hung at g rec h w alike (Div d b c l) e a hangs in_it refl)
    hung_act (Rem d b c l) e a hangs in_it = absurd (hung at g rec h w alike (Rem d b c l) e a hangs in_it refl)
    hung_act (Equal d b c) e a hangs in_it = other at g rec h w alike (Equal d b c) e a hangs in_it d _ _ refl refl
    hung_act (NotEqual d b c) e a hangs in_it = other at g rec h w alike (NotEqual d b c) e a hangs in_it d _ _ refl refl
    hung_act (Less d b c) e a hangs in_it = other at g rec h w alike (Less d b c) e a hangs in_it d _ _ refl refl
    hung_act (AtMost d b c) e a hangs in_it = other at g rec h w alike (AtMost d b c) e a hangs in_it d _ _ refl refl
    hung_act (Len d b) e a hangs in_it = other at g rec h w alike (Len d b) e a hangs in_it d _ _ refl refl
    hung_act (CutLeft d b c l) e a hangs in_it = absurd (hung at g rec h w alike (CutLeft d b c l) e a hangs in_it refl)
    hung_act (CutRight d b c l) e a hangs in_it = absurd (hung at g rec h w alike (CutRight d b c l) e a hangs in_it refl)
    hung_act (LoadSlot d s) e a hangs in_it = absurd in_it
    hung_act (StoreCur s b) e a hangs in_it = past at g rec h w alike (StoreCur s b) e (at + 1) (OfFrame (SlotWord s) ∷ w) (omega arith) refl refl
    hung_act (Give b) e a hangs in_it = past at g rec h w alike (Give b) e (at + 1) (OfFrame ValueWord ∷ w) (omega arith) refl refl
    hung_act (Get d b c l) e a hangs in_it = absurd (hung at g rec h w alike (Get d b c l) e a hangs in_it refl)
    hung_act (Put b c s l) e a hangs in_it = put_act b c s l e
    hung_act (BranchZero b t) e a hangs in_it = branched at g rec h w alike (BranchZero b t) e a hangs in_it t refl g (held g b == 0)
        ∙ sym (branched at g rec h w alike (BranchZero b t) e a hangs in_it t refl h (held h b == 0))
    hung_act (BranchNonZero b t) e a hangs in_it = branched_not at g rec h w alike (BranchNonZero b t) e a hangs in_it t refl g (held g b == 0)
        ∙ sym (branched_not at g rec h w alike (BranchNonZero b t) e a hangs in_it t refl h (held h b == 0))
    hung_act (RoomFor n) e a hangs in_it = absurd in_it
    hung_act (StoreNew b c) e a hangs in_it = past at g rec h w alike (StoreNew b c) e (at + 1) (OfBlock b ∷ w) (omega arith) refl refl
    hung_act (Ending z) e a hangs in_it = absurd in_it

    instr_alike : (i : Instr) → slice_get is at ≡ Some i
        → doom o w (racing (built_by is) (at_act (λ t l. capsule_from words 0 t is l) (at + 1) (does words i g) g))
        ≡ doom o w (racing (built_by is) (at_act (λ t l. capsule_from words 0 t is l) (at + 1) (does words i h) h))
    instr_alike i e = elim (operands_alike at g h alike (operands_of i)) [
      | inl same ↦
          same_act at g rec h w alike i e (may i) (does words i g) refl (acts_follow words i g) (does_sets words i g)
          ∙ ap (λ (b : Act). doom o w (racing (built_by is) (at_act (λ t l. capsule_from words 0 t is l) (at + 1) b h))) (does_alike words i g h same)
      | inr some ↦ hung_act i e some.0 some.2 some.1
    ]

    place_alike : (p : Option Instr) → slice_get is at ≡ p → doom o w (from words is at g) ≡ doom o w (from words is at h)
    place_alike None e = ap (λ (c : Capsule Where End). doom o w (racing (built_by is) c)) (none_there words 0 at is g e ∙ sym (none_there words 0 at is h e))
    place_alike (Some i) e =
        ap (λ (c : Capsule Where End). doom o w (racing (built_by is) c)) (at_instr words at is g i e)
        ∙ instr_alike i e
        ∙ sym (ap (λ (c : Capsule Where End). doom o w (racing (built_by is) c)) (at_instr words at is h i e))

  traps_there : (at : ℕ) (g : List ℕ) → ((to : ℕ) (k : List ℕ) → at + 1 ≤ to → at < length is → TrapsAlike to k) → TrapsAlike at g
  traps_there at g rec h w alike = place_alike at g rec h w alike (slice_get is at) refl

  pub traps_alike : (at : ℕ) (g h : List ℕ) (w : List OwnWord) → AreAlike at g h → doom o w (from words is at g) ≡ doom o w (from words is at h)
  traps_alike at g h w alike = forward is TrapsAlike traps_there (length is) at g (omega arith) h w alike

  -- what a register is set to does not matter if it comes of a find
  pub finds_alike : (at : ℕ) (i : Instr) (d : Register) (u v : ℕ) (g : List ℕ) (w : List OwnWord) → slice_get is at ≡ Some i → target_of i ≡ Some d
      → GoesTo (may i) at (at + 1) → Hangs is (at + 1) (Word d.index)
      → doom o w (from words is (at + 1) (slice_set g d.index u)) ≡ doom o w (from words is (at + 1) (slice_set g d.index v))
  finds_alike at i d u v g w e target goes new = traps_alike (at + 1) (slice_set g d.index u) (slice_set g d.index v) w
      (set_other at i d u v g g e target goes new (record { size = refl; each = λ r. inl refl }))
