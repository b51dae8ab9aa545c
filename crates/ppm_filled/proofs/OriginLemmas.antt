-- Where the words come from that a capsule keeps, and where it stops without a word.
use Rattle.std.proofs.Common.{◌≡◌, ◌≤◌, ◌<◌, ℕ, suc, ◌+◌, Bool, true, false, cond, List, [], ◌∷◌, ◌++◌, length, Option, Some, None}
use Rattle.std.proofs.Common.{◌⊎◌, inl, inr, refl, sym, ap, ◌∙◌, subst, arith, slice_set}
use Rattle.std.specs.Prelude.{slice_get}
use Rattle.ppm_strands.specs.Capsule.{Memory, In, is_in}
use Rattle.ppm_strands.specs.Strand.{Own}
use Rattle.ppm_strands.proofs.LocationLemmas.{decide}
use Rattle.ppm_unseen.specs.Capsule.{Capsule as Racing, Ends as Stopping}
use Rattle.ppm_code.specs.declared.class.Class.{Class}
use Rattle.ppm_code.specs.declared.class.Class.TheVariants.{Slot, New, Room, Array}
use Rattle.ppm_code.specs.declared.class.May.{May}
use Rattle.ppm_code.specs.declared.class.May.TheVariants.{Work, Read, Write, Branch}
use Rattle.ppm_code.specs.declared.location.FrameWord.{FrameWord}
use Rattle.ppm_code.specs.declared.location.FrameWord.TheVariants.{Slot as SlotWord, Value as ValueWord}
use Rattle.ppm_code.specs.declared.act.End.{End}
use Rattle.ppm_code.specs.declared.act.End.TheVariants.{Next, Finish, Trap as Trapping, Call, Fork}
use Rattle.ppm_code.specs.declared.instr.Instr.{Instr}
use Rattle.ppm_code.specs.declared.instr.Instr.TheVariants.{Const, Move, Add, Sub, Mul, Div, Rem, Equal, NotEqual, Less, AtMost, Len, CutLeft, CutRight}
use Rattle.ppm_code.specs.declared.instr.Instr.TheVariants.{LoadSlot, StoreCur, Give, Get, Put, BranchZero, BranchNonZero, Room as RoomFor, StoreNew, Ends as Ending}
use Rattle.ppm_code.specs.Paths.{may, class_of, Does, GoesTo, Path, Here, Any, Exposes}
use Rattle.ppm_filled.specs.Racing.{OwnWord, OfFrame, OfBlock, OfEnd, EndWord, OfTrap, OfCall, OfFork, Exit, Of, own_words, ending, dropping, built_by, built_by_one}
use Rattle.ppm_filled.specs.Filled.{builds_by, built_in, builder_at, IsStop}
use Rattle.ppm_filled.proofs.PathLemmas.{append, exposes, one, forward, there}
use Rattle.ppm_filled.proofs.TurnLemmas.{Turn, Halts, Fails, Works, Asks, Branches, Takes, Finds, Fills, Builds, Puts, turn, from, is_trap_end}
use Rattle.ppm_filled.proofs.DoomLemmas.{last, last_has, doom, traps_at}

-- the class of an own word; what ends store has none of its own
abbrev pub class_in : OwnWord → Class
class_in (OfFrame k) = class_of (Own k)
class_in (OfBlock o) = New o
class_in (OfEnd b) = Room

-- two words of which one is stored by an instruction are told apart by their classes
pub frame_class : (x : OwnWord) (k : FrameWord) → class_in x ≡ class_of (Own k) → x ≡ OfFrame k
frame_class (OfFrame (SlotWord i)) (SlotWord j) e = cc
frame_class (OfFrame (SlotWord i)) ValueWord e = cc
frame_class (OfFrame ValueWord) (SlotWord j) e = cc
frame_class (OfFrame ValueWord) ValueWord e = refl
frame_class (OfBlock o) (SlotWord j) e = cc
frame_class (OfBlock o) ValueWord e = cc
frame_class (OfEnd b) (SlotWord j) e = cc
frame_class (OfEnd b) ValueWord e = cc

pub block_class : (x : OwnWord) (o : ℕ) → class_in x ≡ New o → x ≡ OfBlock o
block_class (OfFrame (SlotWord i)) o e = cc
block_class (OfFrame ValueWord) o e = cc
block_class (OfBlock n) o e = cc
block_class (OfEnd b) o e = cc

pub no_array : (x : OwnWord) → class_in x ≡ Array → ⊥
no_array (OfFrame (SlotWord i)) e = cc
no_array (OfFrame ValueWord) e = cc
no_array (OfBlock n) e = cc
no_array (OfEnd b) e = cc

one_class : (c d : Class) → Write c ≡ Write d → c ≡ d
one_class c d e = cc

-- a word is in one of two lists
pub in_either : {A : Type 0} (x : A) (xs ys : List A) → In x (xs ++ ys) → In x xs ⊎ In x ys
in_either x [] ys i = inr i
in_either x (k ∷ xs) ys (inl e) = inl (inl e)
in_either x (k ∷ xs) ys (inr i) = elim (in_either x xs ys i) [ inl j ↦ inl (inr j) | inr j ↦ inr j ]

-- an instruction stores the word
abbrev pub Stored : OwnWord → Instr → Type 0
Stored (OfFrame k) i = ⊥
Stored (OfBlock o) i = may i ≡ Write (New o)
Stored (OfEnd b) i = built_in i ≡ Some b

end_stores : (x : OwnWord) (e : End) → In x (built_by_one (Ending e)) → Stored x (Ending e)
end_stores x (Next c) i = absurd i
end_stores x Finish i = absurd i
end_stores x (Trapping t l) i = absurd i
end_stores x (Call p c to) (inl e) = subst (λ (y : OwnWord). Stored y (Ending (Call p c to))) (sym e) refl
end_stores x (Call p c to) (inr i) = absurd i
end_stores x (Fork p q c lt rt) (inl e) = subst (λ (y : OwnWord). Stored y (Ending (Fork p q c lt rt))) (sym e) refl
end_stores x (Fork p q c lt rt) (inr i) = absurd i

one_stores : (x : OwnWord) (i : Instr) → In x (built_by_one i) → Stored x i
one_stores x (StoreNew o a) (inl e) = subst (λ (y : OwnWord). Stored y (StoreNew o a)) (sym e) refl
one_stores x (StoreNew o a) (inr i) = absurd i
one_stores x (Ending e) i = end_stores x e i
one_stores x (Const d n) i = absurd i
one_stores x (Move d a) i = absurd i
one_stores x (Add d a b l) i = absurd i
one_stores x (Sub d a b l) i = absurd i
one_stores x (Mul d a b l) i = absurd i
one_stores x (Div d a b l) i = absurd i
one_stores x (Rem d a b l) i = absurd i
one_stores x (Equal d a b) i = absurd i
one_stores x (NotEqual d a b) i = absurd i
one_stores x (Less d a b) i = absurd i
one_stores x (AtMost d a b) i = absurd i
one_stores x (Len d a) i = absurd i
one_stores x (CutLeft d a b l) i = absurd i
one_stores x (CutRight d a b l) i = absurd i
one_stores x (LoadSlot d s) i = absurd i
one_stores x (StoreCur s a) i = absurd i
one_stores x (Give a) i = absurd i
one_stores x (Get d a b l) i = absurd i
one_stores x (Put a b s l) i = absurd i
one_stores x (BranchZero a t) i = absurd i
one_stores x (BranchNonZero a t) i = absurd i
one_stores x (RoomFor n) i = absurd i

-- what a capsule builds is stored by one of its instructions
pub record IsInText (is : List Instr) (x : OwnWord) : Type 0 where
  pub at : ℕ
  pub instr : Instr
  pub there : slice_get is at ≡ Some instr
  pub stored : Stored x instr

pub text_has : (is : List Instr) (x : OwnWord) → In x (built_by is) → IsInText is x
text_has [] x i = absurd i
text_has (j ∷ is) x i = elim (in_either x (built_by_one j) (built_by is) i) [
  | inl here ↦ record { at = 0; instr = j; there = refl; stored = one_stores x j here }
  | inr later ↦ let r = text_has is x later in record { at = suc r.at; instr = r.instr; there = r.there; stored = r.stored }
]

module _ (o : Memory OwnWord) where
  -- what is kept where a block is dropped
  pub in_dropped : (x : OwnWord) (w xs : List OwnWord) (e : Exit) → In x (last o w (dropping xs (Stopping e))) → In x xs ⊎ In x w
  in_dropped x w [] e i = inr i
  in_dropped x w (y ∷ xs) e i = elim (in_dropped x (y ∷ w) xs e i) [
    | inl j ↦ inl (inr j)
    | inr j ↦ elim j [ inl z ↦ inl (inl z) | inr k ↦ inr k ]
  ]

  pub has_dropped : (x : OwnWord) (w xs : List OwnWord) (e : Exit) → In x xs → In x (last o w (dropping xs (Stopping e)))
  has_dropped x w [] e i = absurd i
  has_dropped x w (y ∷ xs) e (inl z) = last_has o x (y ∷ w) (dropping xs (Stopping e)) (inl z)
  has_dropped x w (y ∷ xs) e (inr i) = has_dropped x (y ∷ w) xs e i

  -- then the capsule traps
  pub doom_dropped : (w xs : List OwnWord) (e : Exit) → traps_at e ≡ true
      → doom o w (dropping xs (Stopping e)) ≡ Some (last o w (dropping xs (Stopping e)))
  doom_dropped w [] e t = rw t refl
  doom_dropped w (y ∷ xs) e t = doom_dropped (y ∷ w) xs e t

none_or_some : {A : Type 0} {x : A} → Some x ≡ None → ⊥
none_or_some h = cc

-- a fact of the list that a test chooses, if the capsule that goes with it does not trap
chosen : (x : OwnWord) (R F : Type 0) (b : Bool) (d e : Option (List OwnWord)) (k l : List OwnWord)
    → ((d ≡ None) ⊎ F → In x k → R) → ((e ≡ None) ⊎ F → In x l → R) → (cond b d e ≡ None) ⊎ F → In x (cond b k l) → R
chosen x R F true d e k l p q h i = p h i
chosen x R F false d e k l p q h i = q h i

module _ (words : ℕ) (is : List Instr) (o : Memory OwnWord) where
  -- a word is stored from a place on; of a new block, anywhere
  abbrev pub Origin : OwnWord → ℕ → Type 0
  Origin (OfFrame k) at = (write : ℕ) × Path is Any at write × Does is write (Write (class_of (Own k)))
  Origin (OfBlock n) at = (write : ℕ) × Does is write (Write (New n))
  Origin (OfEnd b) at = (other : ℕ) × (builder_at is other ≡ Some b)

  earlier : (x : OwnWord) (at to : ℕ) (i : Instr) → slice_get is at ≡ Some i → GoesTo (may i) at to → Origin x to → Origin x at
  earlier (OfFrame k) at to i e goes r = (r.0, append (one Any at to i e tt goes) r.1, r.2)
  earlier (OfBlock n) at to i e goes r = r
  earlier (OfEnd b) at to i e goes r = r

  abbrev IsFrame : OwnWord → Type 0
  IsFrame x = (k : FrameWord) × (x ≡ OfFrame k)

  -- what is kept in the end is kept already, or stored from here on, where the capsule does not trap, or the word is one of the frame
  abbrev Comes : ℕ → List ℕ → Type 0
  Comes at g = (x : OwnWord) (w : List OwnWord) → (doom o w (from words is at g) ≡ None) ⊎ IsFrame x → In x (last o w (from words is at g)) → In x w ⊎ Origin x at

  no_frame : (x : OwnWord) → IsFrame x → In x (built_by is) → ⊥
  no_frame x f i = (text_has is (OfFrame f.0) (subst (λ (y : OwnWord). In y (built_by is)) f.1 i)).stored

  at_halt : (at : ℕ) (e : End) → is_trap_end e ≡ false → builder_at is at ≡ builds_by e → (x : OwnWord) (w : List OwnWord)
      → In x (last o w (ending (built_by is) e)) → In x w ⊎ Origin x at
  at_halt at (Next c) t same x w i = inl i
  at_halt at Finish t same x w i = inl i
  at_halt at (Trapping a l) t same x w i = cc
  at_halt at (Call p c to) t same x w (inl e) = inr (subst (λ (y : OwnWord). Origin y at) (sym e) (at, same))
  at_halt at (Call p c to) t same x w (inr i) = inl i
  at_halt at (Fork p q c lt rt) t same x w (inl e) = inr (subst (λ (y : OwnWord). Origin y at) (sym e) (at, same))
  at_halt at (Fork p q c lt rt) t same x w (inr i) = inl i

  comes_there : (at : ℕ) (g : List ℕ) → ((to : ℕ) (h : List ℕ) → at + 1 ≤ to → at < length is → Comes to h) → Comes at g
  comes_there at g rec x w = on (turn words is at g)
    where
      back : (w' : List OwnWord) (to : ℕ) (i : Instr) → slice_get is at ≡ Some i → GoesTo (may i) at to → In x w' ⊎ Origin x to → In x w' ⊎ Origin x at
      back w' to i e goes r = elim r [ inl j ↦ inl j | inr p ↦ inr (earlier x at to i e goes p) ]

      kept : (y : OwnWord) → Origin y at → In x (y ∷ w) ⊎ Origin x at → In x w ⊎ Origin x at
      kept y p r = elim r [
        | inl j ↦ elim j [ inl z ↦ inr (subst (λ (v : OwnWord). Origin v at) (sym z) p) | inr k ↦ inl k ]
        | inr q ↦ inr q
      ]

      frame_or_end : {k : FrameWord} {b : EndWord} → OfFrame k ≡ OfEnd b → ⊥
      frame_or_end z = cc

      on : {c : Racing OwnWord Exit} → Turn words is at g c → (doom o w c ≡ None) ⊎ IsFrame x → In x (last o w c) → In x w ⊎ Origin x at
      on (Halts e t stop same) h j = at_halt at e t same x w j
      on (Fails i t l e may_fail) (inl none) j =
          absurd (none_or_some (sym (doom_dropped o (OfEnd OfTrap ∷ w) (built_by is) (Of (Trapping t l)) refl) ∙ none))
      on (Fails i t l e may_fail) (inr f) j = elim (in_dropped o x (OfEnd OfTrap ∷ w) (built_by is) (Of (Trapping t l)) j) [
        | inl k ↦ absurd (no_frame x f k)
        | inr k ↦ elim k [ inl z ↦ absurd (frame_or_end (sym f.1 ∙ z)) | inr y ↦ inl y ]
      ]
      on (Works i d v e m goes) h j = back w (at + 1) i e goes (rec (at + 1) _ (omega arith) (there is at i e) x w h j)
      on (Asks i e m goes) h j = back w (at + 1) i e goes (rec (at + 1) g (omega arith) (there is at i e) x w h j)
      on (Branches i t to e m goes less) h j = back w to i e goes (rec to g less (there is at i e) x w h j)
      on (Takes i d s e m set goes) h j = back w (at + 1) i e goes (chosen x (In x w ⊎ Origin x (at + 1)) (IsFrame x) (is_in own_words (OfFrame (SlotWord s)) w) _ _ _ _
          (rec (at + 1) (slice_set g d.index 0) (omega arith) (there is at i e) x w)
          (rec (at + 1) (slice_set g d.index (o (OfFrame (SlotWord s)))) (omega arith) (there is at i e) x w) h j)
      on (Finds i d a e m set goes) h j = back w (at + 1) i e goes (rec (at + 1) _ (omega arith) (there is at i e) x w h j)
      on (Fills i k v e m goes) h j = kept (OfFrame k) (at, Here at, (i, e, m))
          (back (OfFrame k ∷ w) (at + 1) i e goes (rec (at + 1) g (omega arith) (there is at i e) x (OfFrame k ∷ w) h j))
      on (Builds i n v e m goes) h j = kept (OfBlock n) (at, (i, e, m))
          (back (OfBlock n ∷ w) (at + 1) i e goes (rec (at + 1) g (omega arith) (there is at i e) x (OfBlock n ∷ w) h j))
      on (Puts i a v e m goes) h j = back w (at + 1) i e goes (rec (at + 1) g (omega arith) (there is at i e) x w h j)

  pub comes : (at : ℕ) (g : List ℕ) (x : OwnWord) (w : List OwnWord) → (doom o w (from words is at g) ≡ None) ⊎ IsFrame x
      → In x (last o w (from words is at g)) → In x w ⊎ Origin x at
  comes at g = forward is Comes comes_there (length is) at g (omega arith)

  -- from a place some path stops without the word
  abbrev pub StopsWithout : OwnWord → ℕ → Type 0
  StopsWithout x at = (stop : ℕ) × Path is (Exposes (class_in x)) at stop × IsStop is stop

  before : (x : OwnWord) (at to : ℕ) (i : Instr) → slice_get is at ≡ Some i → GoesTo (may i) at to → (may i ≡ Write (class_in x) → ⊥)
      → StopsWithout x to → StopsWithout x at
  before x at to i e goes other r = (r.0, append (one (Exposes (class_in x)) at to i e (exposes (class_in x) (may i) other) goes) r.1, r.2)

  -- a capsule that does not trap keeps the word in the end, or some path stops without it
  abbrev HasOrNot : ℕ → List ℕ → Type 0
  HasOrNot at g = (x : OwnWord) (w : List OwnWord) → doom o w (from words is at g) ≡ None → In x (last o w (from words is at g)) ⊎ StopsWithout x at

  -- of two that a test chooses
  picked : (x : OwnWord) (R : Type 0) (b : Bool) (d e : Option (List OwnWord)) (k l : List OwnWord)
      → (d ≡ None → In x k ⊎ R) → (e ≡ None → In x l ⊎ R) → cond b d e ≡ None → In x (cond b k l) ⊎ R
  picked x R true d e k l p q h = p h
  picked x R false d e k l p q h = q h

  has_there : (at : ℕ) (g : List ℕ) → ((to : ℕ) (h : List ℕ) → at + 1 ≤ to → at < length is → HasOrNot to h) → HasOrNot at g
  has_there at g rec x w = on (turn words is at g)
    where
      back : {T : Type 0} (to : ℕ) (i : Instr) → slice_get is at ≡ Some i → GoesTo (may i) at to → (may i ≡ Write (class_in x) → ⊥)
          → T ⊎ StopsWithout x to → T ⊎ StopsWithout x at
      back to i e goes other r = elim r [ inl j ↦ inl j | inr p ↦ inr (before x at to i e goes other p) ]

      not_work : (i : Instr) (m : May) → may i ≡ m → (m ≡ Write (class_in x) → ⊥) → may i ≡ Write (class_in x) → ⊥
      not_work i m is_m other z = other (sym is_m ∙ z)

      on : {c : Racing OwnWord Exit} → Turn words is at g c → doom o w c ≡ None → In x (last o w c) ⊎ StopsWithout x at
      on (Halts e t stop same) none = inr (at, Here at, stop)
      on (Fails i t l e may_fail) none =
          absurd (none_or_some (sym (doom_dropped o (OfEnd OfTrap ∷ w) (built_by is) (Of (Trapping t l)) refl) ∙ none))
      on (Works i d v e m goes) none = back (at + 1) i e goes (not_work i Work m (λ z. cc)) (rec (at + 1) _ (omega arith) (there is at i e) x w none)
      on (Asks i e m goes) none = back (at + 1) i e goes (not_work i (Read Room) m (λ z. cc)) (rec (at + 1) g (omega arith) (there is at i e) x w none)
      on (Branches i t to e m goes less) none = back to i e goes (not_work i (Branch t) m (λ z. cc)) (rec to g less (there is at i e) x w none)
      on (Takes i d s e m set goes) none = back (at + 1) i e goes (not_work i (Read (Slot s)) m (λ z. cc)) (picked x (StopsWithout x (at + 1)) (is_in own_words (OfFrame (SlotWord s)) w) _ _ _ _
          (rec (at + 1) (slice_set g d.index 0) (omega arith) (there is at i e) x w)
          (rec (at + 1) (slice_set g d.index (o (OfFrame (SlotWord s)))) (omega arith) (there is at i e) x w) none)
      on (Finds i d a e m set goes) none = back (at + 1) i e goes (not_work i (Read Array) m (λ z. cc)) (rec (at + 1) _ (omega arith) (there is at i e) x w none)
      on (Fills i k v e m goes) none = elim (decide own_words x (OfFrame k)) [
        | inl z ↦ inl (last_has o x (OfFrame k ∷ w) (from words is (at + 1) g) (inl z))
        | inr other ↦ back (at + 1) i e goes (not_work i (Write (class_of (Own k))) m (λ z. other.0 (frame_class x k (sym (one_class (class_of (Own k)) (class_in x) z)))))
            (rec (at + 1) g (omega arith) (there is at i e) x (OfFrame k ∷ w) none)
      ]
      on (Builds i n v e m goes) none = elim (decide own_words x (OfBlock n)) [
        | inl z ↦ inl (last_has o x (OfBlock n ∷ w) (from words is (at + 1) g) (inl z))
        | inr other ↦ back (at + 1) i e goes (not_work i (Write (New n)) m (λ z. other.0 (block_class x n (sym (one_class (New n) (class_in x) z)))))
            (rec (at + 1) g (omega arith) (there is at i e) x (OfBlock n ∷ w) none)
      ]
      on (Puts i a v e m goes) none = back (at + 1) i e goes (not_work i (Write Array) m (λ z. no_array x (sym (one_class Array (class_in x) z))))
          (rec (at + 1) g (omega arith) (there is at i e) x w none)

  pub has_or_not : (at : ℕ) (g : List ℕ) (x : OwnWord) (w : List OwnWord) → doom o w (from words is at g) ≡ None
      → In x (last o w (from words is at g)) ⊎ StopsWithout x at
  has_or_not at g = forward is HasOrNot has_there (length is) at g (omega arith)

  -- a capsule that does not trap comes to a stop, and keeps what that builds
  abbrev pub StopsWith : List OwnWord → ℕ → Type 0
  StopsWith kept at = (stop : ℕ) × Path is Any at stop × IsStop is stop × ((b : EndWord) → builder_at is stop ≡ Some b → In (OfEnd b) kept)

  abbrev ComesToStop : ℕ → List ℕ → Type 0
  ComesToStop at g = (w : List OwnWord) → doom o w (from words is at g) ≡ None → StopsWith (last o w (from words is at g)) at

  picked_stop : (at : ℕ) (b : Bool) (d e : Option (List OwnWord)) (k l : List OwnWord)
      → (d ≡ None → StopsWith k at) → (e ≡ None → StopsWith l at) → cond b d e ≡ None → StopsWith (cond b k l) at
  picked_stop at true d e k l p q h = p h
  picked_stop at false d e k l p q h = q h

  halt_keeps : (w block : List OwnWord) (e : End) (b : EndWord) → builds_by e ≡ Some b → In (OfEnd b) (last o w (ending block e))
  halt_keeps w block (Next c) b z = cc
  halt_keeps w block Finish b z = cc
  halt_keeps w block (Trapping t l) b z = cc
  halt_keeps w block (Call p c to) b z = let same : OfCall p ≡ b = cc in inl (ap OfEnd (sym same))
  halt_keeps w block (Fork p q c lt rt) b z = let same : OfFork p q ≡ b = cc in inl (ap OfEnd (sym same))

  stop_there : (at : ℕ) (g : List ℕ) → ((to : ℕ) (h : List ℕ) → at + 1 ≤ to → at < length is → ComesToStop to h) → ComesToStop at g
  stop_there at g rec w = on (turn words is at g)
    where
      back : (kept : List OwnWord) (to : ℕ) (i : Instr) → slice_get is at ≡ Some i → GoesTo (may i) at to → StopsWith kept to → StopsWith kept at
      back kept to i e goes r = (r.0, append (one Any at to i e tt goes) r.1, r.2, r.3)

      on : {c : Racing OwnWord Exit} → Turn words is at g c → doom o w c ≡ None → StopsWith (last o w c) at
      on (Halts e t stop same) none = (at, Here at, stop, λ b z. halt_keeps w (built_by is) e b (sym same ∙ z))
      on (Fails i t l e may_fail) none =
          absurd (none_or_some (sym (doom_dropped o (OfEnd OfTrap ∷ w) (built_by is) (Of (Trapping t l)) refl) ∙ none))
      on (Works i d v e m goes) none = back _ (at + 1) i e goes (rec (at + 1) _ (omega arith) (there is at i e) w none)
      on (Asks i e m goes) none = back _ (at + 1) i e goes (rec (at + 1) g (omega arith) (there is at i e) w none)
      on (Branches i t to e m goes less) none = back _ to i e goes (rec to g less (there is at i e) w none)
      on (Takes i d s e m set goes) none = back _ (at + 1) i e goes (picked_stop (at + 1) (is_in own_words (OfFrame (SlotWord s)) w) _ _ _ _
          (rec (at + 1) (slice_set g d.index 0) (omega arith) (there is at i e) w)
          (rec (at + 1) (slice_set g d.index (o (OfFrame (SlotWord s)))) (omega arith) (there is at i e) w) none)
      on (Finds i d a e m set goes) none = back _ (at + 1) i e goes (rec (at + 1) _ (omega arith) (there is at i e) w none)
      on (Fills i k v e m goes) none = back _ (at + 1) i e goes (rec (at + 1) g (omega arith) (there is at i e) (OfFrame k ∷ w) none)
      on (Builds i n v e m goes) none = back _ (at + 1) i e goes (rec (at + 1) g (omega arith) (there is at i e) (OfBlock n ∷ w) none)
      on (Puts i a v e m goes) none = back _ (at + 1) i e goes (rec (at + 1) g (omega arith) (there is at i e) w none)

  pub comes_to_stop : (at : ℕ) (g : List ℕ) (w : List OwnWord) → doom o w (from words is at g) ≡ None → StopsWith (last o w (from words is at g)) at
  comes_to_stop at g = forward is ComesToStop stop_there (length is) at g (omega arith)
