-- The state with the followed places left out: what it shows of the others is as it is, and a step of one
-- of these is a step of it.
use Rattle.std.proofs.Common.{◌≡◌, ◌≢◌, ◌⊎◌, ◌≤◌, ◌<◌, ℕ, ◌+◌, ◌-◌, ◌==◌, ◌&&◌, cond, Bool, true, false, List, [], ◌∷◌, inl, inr, refl, sym, ap, ◌∙◌, subst, arith}
use Rattle.std.specs.Prelude.{nat_lt, nat_le}
use Rattle.std.proofs.Math.Path.{fun_ext}
use Rattle.std.proofs.lemmas.Bool.{cases_eq, cases_Bool, cond-true, cond-false, ne_eqb, eq-eqb, ltb-true, leb-true}
use Rattle.ppm_strands.specs.Tree.{Words, Tree}
use Rattle.ppm_cells.specs.Finish.{finish_word}
use Rattle.ppm_cells.specs.declared.cell.Cell.{Cell}
use Rattle.ppm_cells.specs.declared.cell.Cell.TheVariants.{FinishWord, CarryWord, DeadWord, RestartWord, MessageWord, HolderWord, Top, RoomCounter, EntryWord, BlockWord, ArrayWord}
use Rattle.ppm_cells.specs.declared.finish.Finish.TheVariants.{OutOfRoom}
use Rattle.ppm_cells.specs.declared.restart.RestartKind.{RestartKind}
use Rattle.ppm_cells.specs.declared.restart.RestartKind.TheVariants.{Seek}
use Rattle.ppm_strands.specs.Strand.{Frame}
use Rattle.ppm_code.specs.Strands.{Point, Result}
use Rattle.ppm_code.specs.declared.location.FrameWord.{FrameWord}
use Rattle.ppm_step.specs.Standings.{Standing}
use Rattle.ppm_frames.specs.Views.{same_cell, written as write}
use Rattle.ppm_frames.specs.Skeletons.{Skeleton}
use Rattle.ppm_frames.proofs.WriteLemmas.{same_self, same_is, write_here, write_else}
use Rattle.ppm_kept.specs.Kept.{Setting, start, end_of, owner, State, put, Blank, ceiling, Free, IsKept}
use Rattle.ppm_kept.specs.Births.{IsNoCounter}
use Rattle.ppm_kept.specs.Heirs.{settled}
use Rattle.ppm_kept.specs.Left.{Followed, left_words, left_kinds, left, IsAway, AreApart}
use Rattle.ppm_kept.specs.Loads.{IsInUse}
use Rattle.ppm_kept.specs.Moves.{stores, exchanges, installs, fills}
use Rattle.ppm_kept.proofs.OwnerLemmas.{owned}
use Rattle.ppm_kept.proofs.PutLemmas.{put_here, put_else}

-- one of the followed places
abbrev pub IsIn : Followed → List Followed → Type 0
IsIn v [] = ⊥
IsIn v (w ∷ l) = (v ≡ w) ⊎ IsIn v l

pub away_in : (l : List Followed) (p : ℕ) → IsAway l p → (v : Followed) → IsIn v l → p ≢ v.place
away_in [] p a v h = absurd h
away_in (w ∷ l) p a v (inl e) = λ q. a.0 (q ∙ ap (λ (x : Followed). x.place) e)
away_in (w ∷ l) p a v (inr h) = away_in l p a.1 v h

-- a cell that is as it is, though the place is left out
abbrev pub NotSettled : Setting → Followed → Cell → Type 0
NotSettled i v (RoomCounter q) = q ≢ v.place
NotSettled i v (BlockWord x) = v.top ≤ x → x < end_of i v.place → ⊥
NotSettled i v cell = Unit {0}

both_are : (a b : Bool) → (a && b) ≡ true → (a ≡ true) × (b ≡ true)
both_are true b e = (refl, e)
both_are false b e = absurd (cc)

settled_same : (i : Setting) (m : Cell → ℕ) (v : Followed) (cell : Cell) → NotSettled i v cell → settled i m v.place v.top cell ≡ m cell
settled_same i m v (RoomCounter q) out = cond-false (q == v.place) v.top (m (RoomCounter q)) (ne_eqb q v.place out)
settled_same i m v (BlockWord x) out = elim (cases_Bool (nat_le v.top x && nat_lt x (end_of i v.place))) [
  | inl e ↦ let two = both_are (nat_le v.top x) (nat_lt x (end_of i v.place)) e in absurd (out (leb-true v.top x two.0) (ltb-true x (end_of i v.place) two.1))
  | inr e ↦ cond-false (nat_le v.top x && nat_lt x (end_of i v.place)) 0 (m (BlockWord x)) e
]
settled_same i m v FinishWord out = refl
settled_same i m v (CarryWord q) out = refl
settled_same i m v (DeadWord q) out = refl
settled_same i m v (RestartWord q) out = refl
settled_same i m v (MessageWord q) out = refl
settled_same i m v (HolderWord q) out = refl
settled_same i m v (Top q) out = refl
settled_same i m v (EntryWord q j) out = refl
settled_same i m v (ArrayWord x) out = refl

pub left_same : (i : Setting) (l : List Followed) (m : Cell → ℕ) (cell : Cell) → ((v : Followed) → IsIn v l → NotSettled i v cell) → left_words i l m cell ≡ m cell
left_same i [] m cell out = refl
left_same i (v ∷ l) m cell out = settled_same i (left_words i l m) v cell (out v (inl refl)) ∙ left_same i l m cell (λ u h. out u (inr h))

-- words that are the same in a cell are so where the place is left out
settled_at : (i : Setting) (m n : Cell → ℕ) (p c : ℕ) (cell : Cell) → n cell ≡ m cell → settled i n p c cell ≡ settled i m p c cell
settled_at i m n p c (RoomCounter q) e = ap (λ (x : ℕ). cond (q == p) c x) e
settled_at i m n p c (BlockWord x) e = ap (λ (y : ℕ). cond (nat_le c x && nat_lt x (end_of i p)) 0 y) e
settled_at i m n p c FinishWord e = e
settled_at i m n p c (CarryWord q) e = e
settled_at i m n p c (DeadWord q) e = e
settled_at i m n p c (RestartWord q) e = e
settled_at i m n p c (MessageWord q) e = e
settled_at i m n p c (HolderWord q) e = e
settled_at i m n p c (Top q) e = e
settled_at i m n p c (EntryWord q j) e = e
settled_at i m n p c (ArrayWord x) e = e

-- a store into it shows, or is of what it shows there already
abbrev pub IsClear : Setting → Followed → Cell → (w : ℕ) → Type 0
IsClear i v (RoomCounter q) w = q ≢ v.place
IsClear i v (BlockWord x) w = v.top ≤ x → x < end_of i v.place → w ≡ 0
IsClear i v cell w = Unit {0}

settled_here : (i : Setting) (m : Cell → ℕ) (v : Followed) (cell : Cell) (w : ℕ) → m cell ≡ w → IsClear i v cell w → settled i m v.place v.top cell ≡ w
settled_here i m v (RoomCounter q) w e clear = settled_same i m v (RoomCounter q) clear ∙ e
settled_here i m v (BlockWord x) w e clear = elim (cases_Bool (nat_le v.top x && nat_lt x (end_of i v.place))) [
  | inl is ↦ let two = both_are (nat_le v.top x) (nat_lt x (end_of i v.place)) is in
      cond-true (nat_le v.top x && nat_lt x (end_of i v.place)) 0 (m (BlockWord x)) is ∙ sym (clear (leb-true v.top x two.0) (ltb-true x (end_of i v.place) two.1))
  | inr is ↦ cond-false (nat_le v.top x && nat_lt x (end_of i v.place)) 0 (m (BlockWord x)) is ∙ e
]
settled_here i m v FinishWord w e clear = e
settled_here i m v (CarryWord q) w e clear = e
settled_here i m v (DeadWord q) w e clear = e
settled_here i m v (RestartWord q) w e clear = e
settled_here i m v (MessageWord q) w e clear = e
settled_here i m v (HolderWord q) w e clear = e
settled_here i m v (Top q) w e clear = e
settled_here i m v (EntryWord q j) w e clear = e
settled_here i m v (ArrayWord x) w e clear = e

settled_write : (i : Setting) (m : Cell → ℕ) (v : Followed) (cell : Cell) (w : ℕ) → IsClear i v cell w → settled i (write m cell w) v.place v.top ≡ write (settled i m v.place v.top) cell w
settled_write i m v cell w clear = fun_ext (λ d. elim (cases_Bool (same_cell d cell)) [
  | inl e ↦ let is = same_is d cell e in
      ap (settled i (write m cell w) v.place v.top) is ∙ settled_here i (write m cell w) v cell w (write_here m cell w) clear
      ∙ sym (ap (write (settled i m v.place v.top) cell w) is ∙ write_here (settled i m v.place v.top) cell w)
  | inr e ↦ let ne : d ≢ cell = λ is. let k : true ≡ false = sym (self d cell is) ∙ e in cc in
      settled_at i m (write m cell w) v.place v.top d (write_else m cell w d ne) ∙ sym (write_else (settled i m v.place v.top) cell w d ne)
])
  where
    self : (d c : Cell) → d ≡ c → same_cell d c ≡ true
    self d c is = subst (λ (x : Cell). same_cell d x ≡ true) is (same_self d)

pub left_write : (i : Setting) (l : List Followed) (m : Cell → ℕ) (cell : Cell) (w : ℕ) → ((v : Followed) → IsIn v l → IsClear i v cell w) → left_words i l (write m cell w) ≡ write (left_words i l m) cell w
left_write i [] m cell w clear = refl
left_write i (v ∷ l) m cell w clear = ap (λ (n : Cell → ℕ). settled i n v.place v.top) (left_write i l m cell w (λ u h. clear u (inr h))) ∙ settled_write i (left_words i l m) v cell w (clear v (inl refl))

-- the kinds
pub kind_away : (l : List Followed) (k : ℕ → RestartKind) (p : ℕ) → IsAway l p → left_kinds l k p ≡ k p
kind_away [] k p a = refl
kind_away (v ∷ l) k p a = put_else (left_kinds l k) v.place Seek p a.0 ∙ kind_away l k p a.1

pub kind_or : (l : List Followed) (k : ℕ → RestartKind) (p : ℕ) → (left_kinds l k p ≡ k p) ⊎ (left_kinds l k p ≡ Seek)
kind_or [] k p = inl refl
kind_or (v ∷ l) k p = elim (cases_eq p v.place) [
  | inl e ↦ inr (ap (put (left_kinds l k) v.place Seek) e ∙ put_here (left_kinds l k) v.place Seek)
  | inr ne ↦ elim (kind_or l k p) [
    | inl e ↦ inl (put_else (left_kinds l k) v.place Seek p ne ∙ e)
    | inr e ↦ inr (put_else (left_kinds l k) v.place Seek p ne ∙ e)
  ]
]

kind_in : (l : List Followed) (k : ℕ → RestartKind) (v : Followed) → IsIn v l → left_kinds l k v.place ≡ Seek
kind_in [] k v h = absurd h
kind_in (w ∷ l) k v (inl e) = ap (λ (x : Followed). put (left_kinds l k) w.place Seek x.place) e ∙ put_here (left_kinds l k) w.place Seek
kind_in (w ∷ l) k v (inr h) = elim (cases_eq v.place w.place) [
  | inl e ↦ ap (put (left_kinds l k) w.place Seek) e ∙ put_here (left_kinds l k) w.place Seek
  | inr ne ↦ put_else (left_kinds l k) w.place Seek v.place ne ∙ kind_in l k v h
]

pub put_swap : (k : ℕ → RestartKind) (p q : ℕ) (a b : RestartKind) → p ≢ q → put (put k p a) q b ≡ put (put k q b) p a
put_swap k p q a b ne = fun_ext (λ x. elim (cases_eq x p) [
  | inl e ↦ ap (put (put k p a) q b) e ∙ put_else (put k p a) q b p ne ∙ put_here k p a ∙ sym (ap (put (put k q b) p a) e ∙ put_here (put k q b) p a)
  | inr out ↦ elim (cases_eq x q) [
    | inl e ↦ ap (put (put k p a) q b) e ∙ put_here (put k p a) q b ∙ sym (put_else (put k q b) p a x out ∙ ap (put k q b) e ∙ put_here k q b)
    | inr other ↦ put_else (put k p a) q b x other ∙ put_else k p a x out ∙ sym (put_else (put k q b) p a x out ∙ put_else k q b x other)
  ]
])

pub kinds_install : (l : List Followed) (k : ℕ → RestartKind) (p : ℕ) (a : RestartKind) → IsAway l p → left_kinds l (put k p a) ≡ put (left_kinds l k) p a
kinds_install [] k p a away = refl
kinds_install (v ∷ l) k p a away = ap (λ (f : ℕ → RestartKind). put f v.place Seek) (kinds_install l k p a away.1) ∙ put_swap (left_kinds l k) p v.place a Seek away.0

-- the counter of a followed place
counter_out : (i : Setting) (l : List Followed) (m : Cell → ℕ) (p : ℕ) → IsAway l p → left_words i l m (RoomCounter p) ≡ m (RoomCounter p)
counter_out i l m p away = left_same i l m (RoomCounter p) (away_in l p away)

counter_in : (i : Setting) (l : List Followed) (m : Cell → ℕ) → AreApart l → (v : Followed) → IsIn v l → left_words i l m (RoomCounter v.place) ≡ v.top
counter_in i [] m apart v h = absurd h
counter_in i (w ∷ l) m apart v (inl e) = subst (λ (x : Followed). settled i (left_words i l m) w.place w.top (RoomCounter x.place) ≡ x.top) (sym e)
    (cond-true (w.place == w.place) w.top (left_words i l m (RoomCounter w.place)) (eq-eqb w.place w.place refl))
counter_in i (w ∷ l) m apart v (inr h) =
    settled_same i (left_words i l m) w (RoomCounter v.place) (λ e. away_in l w.place apart.0 v h (sym e)) ∙ counter_in i l m apart.1 v h

-- counters that are the same
pub counters_left : (i : Setting) (l : List Followed) (m n : Cell → ℕ) (q : ℕ) → n (RoomCounter q) ≡ m (RoomCounter q) → left_words i l n (RoomCounter q) ≡ left_words i l m (RoomCounter q)
counters_left i [] m n q e = e
counters_left i (v ∷ l) m n q e = settled_at i (left_words i l m) (left_words i l n) v.place v.top (RoomCounter q) (counters_left i l m n q e)

-- of a state that is kept so
module _ (i : Setting) (root : Tree (Frame FrameWord Point) Result) (input : Words) (s : State) (l : List Followed) (apart : AreApart l) where
  abbrev S : State
  S = left i l s

  -- what is in use is as it is
  module _ (t : Skeleton) (law : IsKept i root input S t) (p : ℕ) (away : IsAway l p) where
    top_is : (v : Followed) → IsIn v l → ceiling i S.words v.place (S.kind v.place) ≡ v.top
    top_is v h = ap (ceiling i S.words v.place) (kind_in l s.kind v h) ∙ counter_in i l s.words apart v h

    least : (v : Followed) → IsIn v l → start i v.place ≤ v.top
    least v h = let a = (law.rooms v.place).0 in let e = top_is v h in omega (arith, a, e)

    pub in_use : (cell : Cell) → IsInUse i S p cell → (v : Followed) → IsIn v l → NotSettled i v cell
    in_use (BlockWord x) used v h = λ low high.
        let own : owner i x ≡ v.place = owned i v.place x (let a = least v h in omega (arith, a, low)) high in
        elim used [
          | inl under ↦ let lt : x < ceiling i S.words v.place (S.kind v.place) = subst (λ (q : ℕ). x < ceiling i S.words q (S.kind q)) own under in
              let e = top_is v h in omega (arith, lt, e, low)
          | inr mine ↦ away_in l p away v h (sym mine ∙ own)
        ]
    in_use (RoomCounter q) used v h = λ e. away_in l p away v h (sym used ∙ e)
    in_use FinishWord used v h = tt
    in_use (CarryWord q) used v h = tt
    in_use (DeadWord q) used v h = tt
    in_use (RestartWord q) used v h = tt
    in_use (MessageWord q) used v h = tt
    in_use (HolderWord q) used v h = tt
    in_use (Top q) used v h = tt
    in_use (EntryWord q j) used v h = tt
    in_use (ArrayWord x) used v h = tt

    pub shown : (cell : Cell) → IsInUse i S p cell → S.words cell ≡ s.words cell
    shown cell used = left_same i l s.words cell (in_use cell used)

  not_clear : (v : Followed) (cell : Cell) (w : ℕ) → NotSettled i v cell → IsClear i v cell w
  not_clear v (BlockWord x) w out = λ low high. absurd (out low high)
  not_clear v (RoomCounter q) w out = out
  not_clear v FinishWord w out = tt
  not_clear v (CarryWord q) w out = tt
  not_clear v (DeadWord q) w out = tt
  not_clear v (RestartWord q) w out = tt
  not_clear v (MessageWord q) w out = tt
  not_clear v (HolderWord q) w out = tt
  not_clear v (Top q) w out = tt
  not_clear v (EntryWord q j) w out = tt
  not_clear v (ArrayWord x) w out = tt

  -- an install
  pub installs_left : (p : ℕ) (k : RestartKind) → IsAway l p → left i l (installs s p k) ≡ installs S p k
  installs_left p k away = λ j. record { words = S.words; kind = kinds_install l s.kind p k away j; doing = (installs s p k).doing }

  -- a store after which the words are kept: into free words of a followed place it can only be of 0
  module _ (p : ℕ) (away : IsAway l p) (cell : Cell) (w : ℕ) (x : Standing) (t : Skeleton) (kept : IsKept i root input (stores S p cell w x) t) (spot : IsNoCounter cell ⊎ (cell ≡ RoomCounter p)) where
    other_counter : (v : Followed) → IsIn v l → RoomCounter v.place ≢ cell
    other_counter v h e = elim spot [
      | inl none ↦ subst IsNoCounter (sym e) none
      | inr own ↦ away_in l p away v h (sym (ap counted (e ∙ own)))
    ]
      where
        counted : Cell → ℕ
        counted (RoomCounter q) = q
        counted c = 0

    counter_is : (v : Followed) → IsIn v l → write S.words cell w (RoomCounter v.place) ≡ v.top
    counter_is v h = write_else S.words cell w (RoomCounter v.place) (other_counter v h) ∙ counter_in i l s.words apart v h

    blank : (v : Followed) → IsIn v l → Blank i (write S.words cell w) v.place (write S.words cell w (RoomCounter v.place))
    blank v h = subst (Free i (write S.words cell w) v.place) (kind_in l s.kind v h) (kept.free v.place)

    clear : (c : Cell) → cell ≡ c → (v : Followed) → IsIn v l → IsClear i v c w
    clear (BlockWord y) e v h = λ low high.
        sym (ap (write S.words cell w) (sym e) ∙ write_here S.words cell w)
        ∙ subst (λ (b : ℕ). write S.words cell w (BlockWord b) ≡ 0) {x = write S.words cell w (RoomCounter v.place) + (y - v.top)} (let a = counter_is v h in omega (arith, a, low))
        (blank v h (y - v.top) (let a = counter_is v h in omega (arith, a, low, high)))
    clear (RoomCounter q) e v h = λ same. other_counter v h (ap RoomCounter (sym same) ∙ sym e)
    clear FinishWord e v h = tt
    clear (CarryWord q) e v h = tt
    clear (DeadWord q) e v h = tt
    clear (RestartWord q) e v h = tt
    clear (MessageWord q) e v h = tt
    clear (HolderWord q) e v h = tt
    clear (Top q) e v h = tt
    clear (EntryWord q j) e v h = tt
    clear (ArrayWord y) e v h = tt

    pub stores_left : left i l (stores s p cell w x) ≡ stores S p cell w x
    stores_left = λ j. record { words = left_write i l s.words cell w (clear cell refl) j; kind = S.kind; doing = (stores s p cell w x).doing }

  -- a store of the own counter
  pub counter_left : (p : ℕ) (w : ℕ) (x : Standing) → IsAway l p → left i l (stores s p (RoomCounter p) w x) ≡ stores S p (RoomCounter p) w x
  counter_left p w x away = λ j. record { words = left_write i l s.words (RoomCounter p) w (away_in l p away) j; kind = S.kind; doing = (stores s p (RoomCounter p) w x).doing }

  -- an exchange of a cell that is as it is
  exchanged_words : (cell : Cell) (old new : ℕ) → ((v : Followed) → IsIn v l → NotSettled i v cell)
      → left_words i l (cond (s.words cell == old) (write s.words cell new) s.words) ≡ cond (S.words cell == old) (write S.words cell new) S.words
  exchanged_words cell old new out = by (s.words cell == old) ∙ ap (λ (y : ℕ). cond (y == old) (write S.words cell new) S.words) (sym (left_same i l s.words cell out))
    where
      by : (b : Bool) → left_words i l (cond b (write s.words cell new) s.words) ≡ cond b (write S.words cell new) S.words
      by true = left_write i l s.words cell new (λ v h. not_clear v cell new (out v h))
      by false = refl

  pub exchanges_left : (p : ℕ) (cell : Cell) (old new : ℕ) (x : Standing) → ((v : Followed) → IsIn v l → NotSettled i v cell) → left i l (exchanges s p cell old new x) ≡ exchanges S p cell old new x
  exchanges_left p cell old new x out = λ j. record { words = exchanged_words cell old new out j; kind = S.kind; doing = (exchanges s p cell old new x).doing }

  pub fills_left : (p : ℕ) → left i l (fills s p) ≡ fills S p
  fills_left p = λ j. record { words = exchanged_words FinishWord 0 (finish_word (OutOfRoom p)) (λ v h. tt) j; kind = S.kind; doing = (fills s p).doing }
