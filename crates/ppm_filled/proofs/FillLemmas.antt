-- A capsule without a conflict whose paths are filled keeps the same own words, whatever it reads.
use Rattle.std.proofs.Common.{◌≡◌, ◌≤◌, ◌<◌, ℕ, ◌+◌, Bool, true, false, cond, List, [], ◌∷◌, length, Option, Some, None}
use Rattle.std.proofs.Common.{◌⊎◌, inl, inr, refl, sym, ap, ◌∙◌, subst, arith, slice_set}
use Rattle.std.specs.Prelude.{slice_get}
use Rattle.std.proofs.lemmas.Bool.{cond-false, cond-true}
use Rattle.ppm_strands.specs.Capsule.{Memory, In, is_in}
use Rattle.ppm_strands.specs.Strand.{Own}
use Rattle.ppm_strands.proofs.LocationLemmas.{decide, in_or_not}
use Rattle.ppm_unseen.specs.Capsule.{Capsule as Racing, Loads as LoadsOwn, Ends as Stopping}
use Rattle.ppm_unseen.specs.Conditions.{FillsPast}
use Rattle.ppm_code.specs.declared.class.Class.{Class}
use Rattle.ppm_code.specs.declared.class.Class.TheVariants.{Slot, New, Room, Array}
use Rattle.ppm_code.specs.declared.class.May.TheVariants.{Work, Read, Write, Branch}
use Rattle.ppm_code.specs.declared.location.FrameWord.{FrameWord}
use Rattle.ppm_code.specs.declared.location.FrameWord.TheVariants.{Slot as SlotWord, Value as ValueWord}
use Rattle.ppm_code.specs.declared.act.End.{End}
use Rattle.ppm_code.specs.declared.act.End.TheVariants.{Next, Finish, Trap as Trapping, Call, Fork}
use Rattle.ppm_code.specs.declared.register.Register.{Register}
use Rattle.ppm_code.specs.declared.instr.Instr.{Instr}
use Rattle.ppm_code.specs.Paths.{may, class_of, Does, GoesTo, Path, Here, Any, Exposes, HasNoConflict}
use Rattle.ppm_filled.specs.Racing.{OwnWord, OfFrame, OfBlock, OfEnd, EndWord, OfTrap, OfCall, OfFork, Exit, Of, own_words, ending, dropping, built_by}
use Rattle.ppm_filled.specs.Filled.{builds_by, builder_in, builder_at, IsStop, IsFind, IsFilledOnPaths, IsOfFrame, target_of, Finds as FindsMark}
use Rattle.ppm_filled.proofs.PathLemmas.{append, exposes, one, forward, there}
use Rattle.ppm_filled.proofs.TurnLemmas.{Turn, Halts, Fails, Works, Asks, Branches, Takes, Finds, Fills, Builds, Puts, turn, from, is_trap_end}
use Rattle.ppm_filled.proofs.DoomLemmas.{last, last_has, doom, doom_is_last, doom_at_end, finds_alike}
use Rattle.ppm_filled.proofs.OriginLemmas.{class_in, frame_class, block_class, no_array, text_has, has_dropped, doom_dropped}
use Rattle.ppm_filled.proofs.OriginLemmas.{Origin, comes, StopsWithout, has_or_not, comes_to_stop}

one_class : (c d : Class) → Write c ≡ Write d → c ≡ d
one_class c d e = cc

none_is_not_some : {A : Type 0} {x : A} → None ≡ Some x → ⊥
none_is_not_some h = cc

one_some : {A : Type 0} (x y : A) → Some x ≡ Some y → x ≡ y
one_some x y h = cc

one_end : (b d : EndWord) → OfEnd b ≡ OfEnd d → b ≡ d
one_end b d h = cc

none_or_some : {A : Type 0} (p : Option A) → (p ≡ None) ⊎ ((x : A) × (p ≡ Some x))
none_or_some None = inl refl
none_or_some (Some x) = inr (x, refl)

class_is_of_frame : (k : FrameWord) → IsOfFrame (class_of (Own k))
class_is_of_frame (SlotWord i) = tt
class_is_of_frame ValueWord = tt

module _ (words : ℕ) (is : List Instr) (o : Memory OwnWord) where
  -- a capsule that traps drops all of its block
  abbrev DropsAll : ℕ → List ℕ → Type 0
  DropsAll at g = (w all : List OwnWord) (x : OwnWord) → In x (built_by is) → doom o w (from words is at g) ≡ Some all → In x all

  drops : (x : OwnWord) (all : List OwnWord) (b : Bool) (d e : Option (List OwnWord)) → (d ≡ Some all → In x all) → (e ≡ Some all → In x all)
      → cond b d e ≡ Some all → In x all
  drops x all true d e p q h = p h
  drops x all false d e p q h = q h

  drops_there : (at : ℕ) (g : List ℕ) → ((to : ℕ) (h : List ℕ) → at + 1 ≤ to → at < length is → DropsAll to h) → DropsAll at g
  drops_there at g rec w all x j = on (turn words is at g)
    where
      on : {c : Racing OwnWord Exit} → Turn words is at g c → doom o w c ≡ Some all → In x all
      on (Halts e t stop same) h = absurd (none_is_not_some (sym (doom_at_end o w (built_by is) e t) ∙ h))
      on (Fails i t l e may_fail) h = subst (λ (k : List OwnWord). In x k)
          (one_some _ _ (sym (doom_dropped o (OfEnd OfTrap ∷ w) (built_by is) (Of (Trapping t l)) refl) ∙ h))
          (has_dropped o x (OfEnd OfTrap ∷ w) (built_by is) (Of (Trapping t l)) j)
      on (Works i d v e m goes) h = rec (at + 1) (slice_set g d.index v) (omega arith) (there is at i e) w all x j h
      on (Asks i e m goes) h = rec (at + 1) g (omega arith) (there is at i e) w all x j h
      on (Branches i t to e m goes less) h = rec to g less (there is at i e) w all x j h
      on (Takes i d s e m set goes) h = drops x all (is_in own_words (OfFrame (SlotWord s)) w)
          (doom o w (from words is (at + 1) (slice_set g d.index 0))) (doom o w (from words is (at + 1) (slice_set g d.index (o (OfFrame (SlotWord s))))))
          (rec (at + 1) (slice_set g d.index 0) (omega arith) (there is at i e) w all x j)
          (rec (at + 1) (slice_set g d.index (o (OfFrame (SlotWord s)))) (omega arith) (there is at i e) w all x j) h
      on (Finds i d a e m set goes) h = rec (at + 1) (slice_set g d.index 0) (omega arith) (there is at i e) w all x j h
      on (Fills i k v e m goes) h = rec (at + 1) g (omega arith) (there is at i e) (OfFrame k ∷ w) all x j h
      on (Builds i n v e m goes) h = rec (at + 1) g (omega arith) (there is at i e) (OfBlock n ∷ w) all x j h
      on (Puts i a v e m goes) h = rec (at + 1) g (omega arith) (there is at i e) w all x j h

  pub drops_all : (at : ℕ) (g : List ℕ) (w all : List OwnWord) (x : OwnWord) → In x (built_by is) → doom o w (from words is at g) ≡ Some all → In x all
  drops_all at g = forward is DropsAll drops_there (length is) at g (omega arith)

module _ (words : ℕ) (is : List Instr) (o : Memory OwnWord) (free : HasNoConflict is) (filled : IsFilledOnPaths is) (first : List ℕ) where
  -- what is kept in the end if reads find 0, and whether the capsule traps then
  abbrev pub final : List OwnWord
  final = last o [] (from words is 0 first)

  abbrev fate : Option (List OwnWord)
  fate = doom o [] (from words is 0 first)

  abbrev pub out : OwnWord → Bool
  out x = is_in own_words x final

  is_out : (x : OwnWord) → In x final → out x ≡ true
  is_out x i = elim (in_or_not own_words x final) [ inl j ↦ j.1 | inr ne ↦ absurd (ne.0 i) ]

  of_out : (x : OwnWord) → out x ≡ true → In x final
  of_out x h = elim (in_or_not own_words x final) [ inl j ↦ j.0 | inr ne ↦ absurd (both (sym h ∙ ne.1)) ]
    where
      both : true ≡ false → ⊥
      both z = cc

  not_out : (x : OwnWord) → (In x final → ⊥) → out x ≡ false
  not_out x none = elim (in_or_not own_words x final) [ inl j ↦ absurd (none j.0) | inr ne ↦ ne.1 ]

  -- a word was stored on the way to a place
  record WasStored (x : OwnWord) (at : ℕ) : Type 0 where
    store : ℕ
    before : Path is Any 0 store
    stores : Does is store (Write (class_in x))
    between : Path is Any (store + 1) at

  -- of a place that is come to with the words w kept: these were stored, and the others need not have been; all of them are kept in the end
  record Facts (at : ℕ) (w : List OwnWord) : Type 0 where
    reached : Path is Any 0 at
    stored : (x : OwnWord) → In x w → WasStored x at
    fresh : (x : OwnWord) → In x w ⊎ Path is (Exposes (class_in x)) 0 at
    inside : (x : OwnWord) → In x w → In x final

  -- of a place after a find, where the capsule doesn't trap: where what is kept in the end comes from
  record Since (at : ℕ) (w : List OwnWord) : Type 0 where
    none : fate ≡ None
    find : ℕ
    finds : IsFind is find
    since : Path is Any (find + 1) at
    clear : (x : OwnWord) → In x w ⊎ (Path is (Exposes (class_in x)) 0 find × Path is (Exposes (class_in x)) (find + 1) at)
    origin : (x : OwnWord) → In x final → In x w ⊎ Origin words is o x (find + 1)
    without : (x : OwnWord) → In x final ⊎ StopsWithout words is o x (find + 1)

  -- the capsule goes on to what is kept in the end; or it has found something, and may keep these words otherwise
  abbrev Phase : ℕ → List OwnWord → Racing OwnWord Exit → Type 0
  Phase at w c = (last o w c ≡ final) ⊎ Since at w

  -- an instruction that stores no own word
  abbrev StoresNone : Instr → Type 0
  StoresNone i = (x : OwnWord) → may i ≡ Write (class_in x) → ⊥

  facts_on : (at to : ℕ) (w : List OwnWord) (i : Instr) → slice_get is at ≡ Some i → GoesTo (may i) at to → StoresNone i → Facts at w → Facts to w
  facts_on at to w i e goes none f = record {
    reached = append f.reached (one Any at to i e tt goes);
    stored = λ x j. let s = f.stored x j in
        record { store = s.store; before = s.before; stores = s.stores; between = append s.between (one Any at to i e tt goes) };
    fresh = λ x. elim (f.fresh x) [
      | inl j ↦ inl j
      | inr p ↦ inr (append p (one (Exposes (class_in x)) at to i e (exposes (class_in x) (may i) (none x)) goes))
    ];
    inside = f.inside;
  }

  since_on : (at to : ℕ) (w : List OwnWord) (i : Instr) → slice_get is at ≡ Some i → GoesTo (may i) at to → StoresNone i → Since at w → Since to w
  since_on at to w i e goes none s = record {
    none = s.none;
    find = s.find;
    finds = s.finds;
    since = append s.since (one Any at to i e tt goes);
    clear = λ x. elim (s.clear x) [
      | inl j ↦ inl j
      | inr p ↦ inr (p.0, append p.1 (one (Exposes (class_in x)) at to i e (exposes (class_in x) (may i) (none x)) goes))
    ];
    origin = s.origin;
    without = s.without;
  }

  -- past an instruction that stores one
  module _ (at : ℕ) (w : List OwnWord) (i : Instr) (y : OwnWord) (e : slice_get is at ≡ Some i) (m : may i ≡ Write (class_in y))
      (goes : GoesTo (may i) at (at + 1)) (tells : (x : OwnWord) → class_in x ≡ class_in y → x ≡ y) where
    other : (x : OwnWord) → (x ≡ y → ⊥) → may i ≡ Write (class_in x) → ⊥
    other x ne z = ne (tells x (one_class (class_in x) (class_in y) (sym z ∙ m)))

    facts_kept : In y final → Facts at w → Facts (at + 1) (y ∷ w)
    facts_kept in_final f = record {
      reached = append f.reached (one Any at (at + 1) i e tt goes);
      stored = λ x j. elim j [
        | inl z ↦ subst (λ (k : OwnWord). WasStored k (at + 1)) (sym z)
            (record { store = at; before = f.reached; stores = (i, e, m); between = Here (at + 1) })
        | inr k ↦ let s = f.stored x k in
            record { store = s.store; before = s.before; stores = s.stores; between = append s.between (one Any at (at + 1) i e tt goes) }
      ];
      fresh = λ x. elim (decide own_words x y) [
        | inl z ↦ inl (inl z)
        | inr ne ↦ elim (f.fresh x) [
          | inl j ↦ inl (inr j)
          | inr p ↦ inr (append p (one (Exposes (class_in x)) at (at + 1) i e (exposes (class_in x) (may i) (other x ne.0)) goes))
        ]
      ];
      inside = λ x j. elim j [ inl z ↦ subst (λ (k : OwnWord). In k final) (sym z) in_final | inr k ↦ f.inside x k ];
    }

    since_kept : Since at w → Since (at + 1) (y ∷ w)
    since_kept s = record {
      none = s.none;
      find = s.find;
      finds = s.finds;
      since = append s.since (one Any at (at + 1) i e tt goes);
      clear = λ x. elim (decide own_words x y) [
        | inl z ↦ inl (inl z)
        | inr ne ↦ elim (s.clear x) [
          | inl j ↦ inl (inr j)
          | inr p ↦ inr (p.0, append p.1 (one (Exposes (class_in x)) at (at + 1) i e (exposes (class_in x) (may i) (other x ne.0)) goes))
        ]
      ];
      origin = λ x j. elim (s.origin x j) [ inl k ↦ inl (inr k) | inr p ↦ inr p ];
      without = s.without;
    }

  -- a find is passed by any path
  past_find : (c : Class) (find : ℕ) → IsFind is find → Path is (Exposes c) find (find + 1)
  past_find c find (inl h) = one (Exposes c) find (find + 1) h.1.0 h.1.1 (exposes c (may h.1.0) (λ z. read_or_write Array c (sym h.1.2 ∙ z))) (rw h.1.2 refl)
    where
      read_or_write : (c d : Class) → Read c ≡ Write d → ⊥
      read_or_write c d z = cc
  past_find c find (inr r) = one (Exposes c) find (find + 1) r.loads.0 r.loads.1
      (exposes c (may r.loads.0) (λ z. read_or_write (Slot r.slot) c (sym r.loads.2 ∙ z))) (rw r.loads.2 refl)
    where
      read_or_write : (c d : Class) → Read c ≡ Write d → ⊥
      read_or_write c d z = cc

  -- the next word is not one that instructions store
  work_stores_none : (i : Instr) → may i ≡ Work → StoresNone i
  work_stores_none i m x z = by (sym m ∙ z)
    where
      by : {c : Class} → Work ≡ Write c → ⊥
      by h = cc

  read_stores_none : (i : Instr) (c : Class) → may i ≡ Read c → StoresNone i
  read_stores_none i c m x z = by (sym m ∙ z)
    where
      by : {d : Class} → Read c ≡ Write d → ⊥
      by h = cc

  branch_stores_none : (i : Instr) (t : ℕ) → may i ≡ Branch t → StoresNone i
  branch_stores_none i t m x z = by (sym m ∙ z)
    where
      by : {d : Class} → Branch t ≡ Write d → ⊥
      by h = cc

  put_stores_none : (i : Instr) → may i ≡ Write Array → StoresNone i
  put_stores_none i m x z = no_array x (one_class (class_in x) Array (sym z ∙ m))

  -- a load before a store of the same word is a conflict
  clash : (at : ℕ) (k : FrameWord) → Does is at (Read (class_of (Own k))) → Path is (Exposes (class_of (Own k))) 0 at
      → Origin words is o (OfFrame k) (at + 1) → ⊥
  clash at k here fresh r = free at r.0 (class_of (Own k)) (record {
    exposed = record { reads = here; before = fresh };
    next = at + 1;
    goes_on = refl;
    between = r.1;
    writes = r.2;
  })

  -- a word of the frame that is stored after a find is not left out by another path
  not_left : (k : FrameWord) (find write stop : ℕ) → IsFind is find → Path is (Exposes (class_of (Own k))) 0 find → Path is Any (find + 1) write
      → Does is write (Write (class_of (Own k))) → Path is (Exposes (class_of (Own k))) (find + 1) stop → IsStop is stop → ⊥
  not_left k find write stop finds before to_write writes to_stop stops = filled.none_left_out find write stop (class_of (Own k)) (record {
    of_frame = class_is_of_frame k;
    finds = finds;
    before = before;
    to_write = to_write;
    writes = writes;
    to_stop = to_stop;
    stops = stops;
  })

  not_unbuilt : (n write stop : ℕ) → Does is write (Write (New n)) → Path is (Exposes (New n)) 0 stop → IsStop is stop → ⊥
  not_unbuilt n write stop writes to_stop stops = filled.none_unbuilt write stop n (record { writes = writes; to_stop = to_stop; stops = stops })

  -- what one end builds, each stop does
  same_block : (stop other : ℕ) (b : EndWord) → Path is Any 0 stop → IsStop is stop → builder_at is other ≡ Some b → builder_at is stop ≡ Some b
  same_block stop other b to_stop stops there_b = by (builder_at is stop) refl
    where
      another : (builder_at is stop ≡ Some b → ⊥) → ⊥
      another ne = filled.one_block stop other (record { to_stop = to_stop; stops = stops; another = λ z. ne (z ∙ there_b); some = (b, there_b) })

      same_some : (d : EndWord) → builder_at is stop ≡ Some d → builder_at is stop ≡ Some b
      same_some d is_d = elim (decide own_words (OfEnd d) (OfEnd b)) [
        | inl z ↦ is_d ∙ ap Some (one_end d b z)
        | inr ne ↦ absurd (another (λ z. ne.0 (ap OfEnd (one_some d b (sym is_d ∙ z)))))
      ]

      by : (p : Option EndWord) → builder_at is stop ≡ p → builder_at is stop ≡ Some b
      by None is_none = absurd (another (λ z. none_is_not_some (sym is_none ∙ z)))
      by (Some d) is_d = same_some d is_d

  -- where the capsule comes to a stop after a find, all is kept that is kept in the end, or the end keeps it
  all_kept : (at : ℕ) (w : List OwnWord) → IsStop is at → Facts at w → Since at w → (x : OwnWord) → In x final
      → In x w ⊎ ((b : EndWord) × (x ≡ OfEnd b) × (builder_at is at ≡ Some b))
  all_kept at w stop f s x i = elim (s.origin x i) [ inl j ↦ inl j | inr r ↦ by x i r ]
    where
      frame : (k : FrameWord) → Origin words is o (OfFrame k) (s.find + 1)
          → In (OfFrame k) w ⊎ ((b : EndWord) × (OfFrame k ≡ OfEnd b) × (builder_at is at ≡ Some b))
      frame k r = elim (s.clear (OfFrame k)) [
        | inl j ↦ inl j
        | inr p ↦ absurd (not_left k s.find r.0 at s.finds p.0 r.1 r.2 p.1 stop)
      ]

      block : (n : ℕ) → Origin words is o (OfBlock n) (s.find + 1)
          → In (OfBlock n) w ⊎ ((b : EndWord) × (OfBlock n ≡ OfEnd b) × (builder_at is at ≡ Some b))
      block n r = elim (f.fresh (OfBlock n)) [ inl j ↦ inl j | inr p ↦ absurd (not_unbuilt n r.0 at r.1 p stop) ]

      by : (x : OwnWord) → In x final → Origin words is o x (s.find + 1)
          → In x w ⊎ ((b : EndWord) × (x ≡ OfEnd b) × (builder_at is at ≡ Some b))
      by (OfFrame k) j r = frame k r
      by (OfBlock n) j r = block n r
      by (OfEnd b) j r = inr (b, refl, same_block at r.0 b f.reached stop r.1)

  -- what an end builds is kept in the end, where the capsule does not trap
  built_is_final : (other : ℕ) (b : EndWord) → fate ≡ None → builder_at is other ≡ Some b → In (OfEnd b) final
  built_is_final other b none there_b =
      let s = comes_to_stop words is o 0 first [] none in
      s.3 b (same_block s.0 other b s.1 s.2 there_b)

  -- a block that is dropped
  fills_dropped : (w xs : List OwnWord) (e : Exit) → last o w (dropping xs (Stopping e)) ≡ final → FillsPast out o w (dropping xs (Stopping e))
  fills_dropped w [] e h = λ x is_it. subst (λ (k : List OwnWord). In x k) (sym h) (of_out x is_it)
  fills_dropped w (y ∷ xs) e h =
      (is_out y (subst (λ (k : List OwnWord). In y k) h (last_has o y (y ∷ w) (dropping xs (Stopping e)) (inl refl))), fills_dropped (y ∷ w) xs e h)

  -- an end
  fills_end : (at : ℕ) (w : List OwnWord) (e : End) → is_trap_end e ≡ false → IsStop is at → builder_at is at ≡ builds_by e → fate ≡ None → Facts at w
      → Phase at w (ending (built_by is) e) → FillsPast out o w (ending (built_by is) e)
  fills_end at w e t stop same none f phase = by e t same phase
    where
      plain : builder_at is at ≡ None → (w ≡ final) ⊎ Since at w → (x : OwnWord) → out x ≡ true → In x w
      plain no_block phase x is_it = elim phase [
        | inl h ↦ subst (λ (k : List OwnWord). In x k) (sym h) (of_out x is_it)
        | inr s ↦ elim (all_kept at w stop f s x (of_out x is_it)) [ inl j ↦ j | inr r ↦ absurd (none_is_not_some (sym no_block ∙ r.2)) ]
      ]

      opening : (b : EndWord) → builder_at is at ≡ Some b → (OfEnd b ∷ w ≡ final) ⊎ Since at w
          → (out (OfEnd b) ≡ true) × ((x : OwnWord) → out x ≡ true → In x (OfEnd b ∷ w))
      opening b here_b phase = (
        is_out (OfEnd b) (built_is_final at b none here_b),
        λ x is_it. elim phase [
          | inl h ↦ subst (λ (k : List OwnWord). In x k) (sym h) (of_out x is_it)
          | inr s ↦ elim (all_kept at w stop f s x (of_out x is_it)) [
            | inl j ↦ inr j
            | inr r ↦ inl (r.1 ∙ ap OfEnd (one_some r.0 b (sym r.2 ∙ here_b)))
          ]
        ],
      )

      by : (e : End) → is_trap_end e ≡ false → builder_at is at ≡ builds_by e → Phase at w (ending (built_by is) e)
          → FillsPast out o w (ending (built_by is) e)
      by (Next c) t same phase = plain same phase
      by Finish t same phase = plain same phase
      by (Trapping a l) t same phase = cc
      by (Call p c to) t same phase = opening (OfCall p) same phase
      by (Fork p q c lt rt) t same phase = opening (OfFork p q) same phase

  -- past a find the capsule may go on otherwise, whatever is found
  module _ (at : ℕ) (w : List OwnWord) (i : Instr) (d : Register) (g : List ℕ) (e : slice_get is at ≡ Some i) (goes : GoesTo (may i) at (at + 1))
      (none_stored : StoresNone i) (target : target_of i ≡ Some d) (finds : IsFind is at) (f : Facts at w) where
    -- the capsule, if it finds this word
    abbrev found : ℕ → Racing OwnWord Exit
    found v = from words is (at + 1) (slice_set g d.index v)

    found_fate : (v : ℕ) → doom o w (found 0) ≡ fate → doom o w (found v) ≡ fate
    found_fate v h = finds_alike words is o filled.none_hung at i d v 0 g w e target goes (FindsMark at i d finds e target) ∙ h

    since_found : fate ≡ None → doom o w (found 0) ≡ fate → last o w (found 0) ≡ final → Since (at + 1) w
    since_found none h same = record {
      none = none;
      find = at;
      finds = finds;
      since = Here (at + 1);
      clear = λ x. elim (f.fresh x) [ inl j ↦ inl j | inr p ↦ inr (p, Here (at + 1)) ];
      origin = λ x j. comes words is o (at + 1) (slice_set g d.index 0) x w (inl (h ∙ none)) (subst (λ (k : List OwnWord). In x k) (sym same) j);
      without = λ x. elim (has_or_not words is o (at + 1) (slice_set g d.index 0) x w (h ∙ none)) [
        | inl j ↦ inl (subst (λ (k : List OwnWord). In x k) same j)
        | inr r ↦ inr r
      ];
    }

    found_phase : (v : ℕ) → doom o w (found 0) ≡ fate → (last o w (found 0) ≡ final) ⊎ Since at w → Phase (at + 1) w (found v)
    found_phase v h phase = elim (none_or_some fate) [
      | inr some ↦ inl (doom_is_last o w some.0 (found v) (found_fate v h ∙ some.1) ∙ sym (doom_is_last o [] some.0 (from words is 0 first) some.1))
      | inl none ↦ elim phase [
        | inl same ↦ inr (since_found none h same)
        | inr s ↦ inr (since_on at (at + 1) w i e goes none_stored s)
      ]
    ]

  -- a slot that is loaded before it is kept is kept by no path
  not_final : (at : ℕ) (w : List OwnWord) (g : List ℕ) (k : FrameWord) (i : Instr) → slice_get is at ≡ Some i → may i ≡ Read (class_of (Own k))
      → GoesTo (may i) at (at + 1) → (In (OfFrame k) w → ⊥) → Facts at w → doom o w (from words is (at + 1) g) ≡ fate
      → (last o w (from words is (at + 1) g) ≡ final) ⊎ Since at w → In (OfFrame k) final → ⊥
  not_final at w g k i e m goes out_of f h phase in_final = elim phase [
    | inl same ↦ stored (subst (λ (l : List OwnWord). In (OfFrame k) l) (sym same) in_final)
    | inr s ↦ elim (has_or_not words is o (at + 1) g (OfFrame k) w (h ∙ s.none)) [
      | inl j ↦ stored j
      | inr r ↦ elim (s.origin (OfFrame k) in_final) [
        | inl j ↦ out_of j
        | inr q ↦ elim (s.clear (OfFrame k)) [
          | inl j ↦ out_of j
          | inr p ↦ not_left k s.find q.0 r.0 s.finds p.0 q.1 q.2
              (append p.1 (append (one (Exposes (class_of (Own k))) at (at + 1) i e (exposes (class_of (Own k)) (may i) reads) goes) r.1)) r.2
        ]
      ]
    ]
  ]
    where
      reads : may i ≡ Write (class_of (Own k)) → ⊥
      reads z = read_stores_none i (class_of (Own k)) m (OfFrame k) z

      fresh : Path is (Exposes (class_of (Own k))) 0 at
      fresh = elim (f.fresh (OfFrame k)) [ inl j ↦ absurd (out_of j) | inr p ↦ p ]

      stored : In (OfFrame k) (last o w (from words is (at + 1) g)) → ⊥
      stored j = elim (comes words is o (at + 1) g (OfFrame k) w (inr (k, refl)) j) [
        | inl l ↦ out_of l
        | inr r ↦ clash at k (i, e, m) fresh r
      ]

  -- a word of the frame that is stored now is kept in the end
  kept_frame : (at : ℕ) (w : List OwnWord) (k : FrameWord) (i : Instr) (rest : Racing OwnWord Exit) → slice_get is at ≡ Some i
      → may i ≡ Write (class_of (Own k)) → Facts at w → (last o (OfFrame k ∷ w) rest ≡ final) ⊎ Since at w → In (OfFrame k) final
  kept_frame at w k i rest e m f phase = elim phase [
    | inl same ↦ subst (λ (l : List OwnWord). In (OfFrame k) l) same (last_has o (OfFrame k) (OfFrame k ∷ w) rest (inl refl))
    | inr s ↦ elim (s.clear (OfFrame k)) [
      | inl j ↦ f.inside (OfFrame k) j
      | inr p ↦ elim (s.without (OfFrame k)) [
        | inl j ↦ j
        | inr r ↦ absurd (not_left k s.find at r.0 s.finds p.0 s.since (i, e, m) r.1 r.2)
      ]
    ]
  ]

  -- a word of the new block that is stored now is kept in the end
  kept_block : (at : ℕ) (w : List OwnWord) (n : ℕ) (i : Instr) (rest : Racing OwnWord Exit) → slice_get is at ≡ Some i → may i ≡ Write (New n)
      → Facts at w → (last o (OfBlock n ∷ w) rest ≡ final) ⊎ Since at w → In (OfBlock n) final
  kept_block at w n i rest e m f phase = elim phase [
    | inl same ↦ subst (λ (l : List OwnWord). In (OfBlock n) l) same (last_has o (OfBlock n) (OfBlock n ∷ w) rest (inl refl))
    | inr s ↦ elim (s.clear (OfBlock n)) [
      | inl j ↦ f.inside (OfBlock n) j
      | inr p ↦ elim (s.without (OfBlock n)) [
        | inl j ↦ j
        | inr r ↦ absurd (not_unbuilt n at r.0 (i, e, m) (append p.0 (append (past_find (New n) s.find s.finds) r.1)) r.2)
      ]
    ]
  ]

  -- from each place, where what was kept so far is known
  abbrev FillsThere : ℕ → List ℕ → Type 0
  FillsThere at g = (w : List OwnWord) → Facts at w → doom o w (from words is at g) ≡ fate → Phase at w (from words is at g)
      → FillsPast out o w (from words is at g)

  phase_on : (at to : ℕ) (w : List OwnWord) (c : Racing OwnWord Exit) (i : Instr) → slice_get is at ≡ Some i → GoesTo (may i) at to → StoresNone i
      → Phase at w c → Phase to w c
  phase_on at to w c i e goes none phase = elim phase [ inl h ↦ inl h | inr s ↦ inr (since_on at to w i e goes none s) ]

  module _ (at : ℕ) (g : List ℕ) (rec : (to : ℕ) (h : List ℕ) → at + 1 ≤ to → at < length is → FillsThere to h) (w : List OwnWord) (f : Facts at w) where
    -- a load of a slot: it is kept already, and then any word may be found, or it is never kept
    takes : (i : Instr) (d : Register) (s : ℕ) → slice_get is at ≡ Some i → may i ≡ Read (Slot s) → target_of i ≡ Some d → GoesTo (may i) at (at + 1)
        → let go : ℕ → Racing OwnWord Exit = λ v. from words is (at + 1) (slice_set g d.index v) in
        doom o w (LoadsOwn (OfFrame (SlotWord s)) go) ≡ fate → Phase at w (LoadsOwn (OfFrame (SlotWord s)) go)
        → FillsPast out o w (LoadsOwn (OfFrame (SlotWord s)) go)
    takes i d s e m target goes h phase = elim (in_or_not own_words (OfFrame (SlotWord s)) w) [
      | inl j ↦
          let h0 = sym (cond-true (is_in own_words (OfFrame (SlotWord s)) w) (doom o w (go 0)) (doom o w (go (o (OfFrame (SlotWord s))))) j.1) ∙ h in
          inr (
            j.0,
            λ v. rec (at + 1) (slice_set g d.index v) (omega arith) (there is at i e) w
                (facts_on at (at + 1) w i e goes (read_stores_none i (Slot s) m) f)
                (found_fate at w i d g e goes (read_stores_none i (Slot s) m) target (reload j.0) f v h0)
                (found_phase at w i d g e goes (read_stores_none i (Slot s) m) target (reload j.0) f v h0 (elim phase [
                  | inl same ↦ inl (sym (cond-true (is_in own_words (OfFrame (SlotWord s)) w) (last o w (go 0)) (last o w (go (o (OfFrame (SlotWord s))))) j.1) ∙ same)
                  | inr c ↦ inr c
                ])),
          )
      | inr ne ↦
          let h0 = sym (cond-false (is_in own_words (OfFrame (SlotWord s)) w) (doom o w (go 0)) (doom o w (go (o (OfFrame (SlotWord s))))) ne.1) ∙ h in
          let phase0 : (last o w (go (o (OfFrame (SlotWord s)))) ≡ final) ⊎ Since at w = elim phase [
            | inl same ↦ inl (sym (cond-false (is_in own_words (OfFrame (SlotWord s)) w) (last o w (go 0)) (last o w (go (o (OfFrame (SlotWord s))))) ne.1) ∙ same)
            | inr c ↦ inr c
          ] in
          inl (
            not_out (OfFrame (SlotWord s))
                (not_final at w (slice_set g d.index (o (OfFrame (SlotWord s)))) (SlotWord s) i e m goes ne.0 f h0 phase0),
            rec (at + 1) (slice_set g d.index (o (OfFrame (SlotWord s)))) (omega arith) (there is at i e) w
                (facts_on at (at + 1) w i e goes (read_stores_none i (Slot s) m) f) h0
                (phase_on at (at + 1) w (go (o (OfFrame (SlotWord s)))) i e goes (read_stores_none i (Slot s) m) phase0),
          )
    ]
      where
        go : ℕ → Racing OwnWord Exit
        go v = from words is (at + 1) (slice_set g d.index v)

        reload : In (OfFrame (SlotWord s)) w → IsFind is at
        reload j = let t = f.stored (OfFrame (SlotWord s)) j in
            inr (record { slot = s; store = t.store; before = t.before; stores = t.stores; between = t.between; loads = (i, e, m) })

    fills_turn : {c : Racing OwnWord Exit} → Turn words is at g c → doom o w c ≡ fate → Phase at w c → FillsPast out o w c
    fills_turn (Halts e t stop same) h phase = fills_end at w e t stop same (sym h ∙ doom_at_end o w (built_by is) e t) f phase
    fills_turn (Fails i t l e may_fail) h phase = elim phase [
      | inl same ↦ (
        is_out (OfEnd OfTrap) (subst (λ (k : List OwnWord). In (OfEnd OfTrap) k) same
            (last_has o (OfEnd OfTrap) (OfEnd OfTrap ∷ w) (dropping (built_by is) (Stopping (Of (Trapping t l)))) (inl refl))),
        fills_dropped (OfEnd OfTrap ∷ w) (built_by is) (Of (Trapping t l)) same,
      )
      | inr s ↦ absurd (none_is_not_some (sym s.none ∙ sym h ∙ doom_dropped o (OfEnd OfTrap ∷ w) (built_by is) (Of (Trapping t l)) refl))
    ]
    fills_turn (Works i d v e m goes) h phase = rec (at + 1) (slice_set g d.index v) (omega arith) (there is at i e) w
        (facts_on at (at + 1) w i e goes (work_stores_none i m) f) h
        (phase_on at (at + 1) w (from words is (at + 1) (slice_set g d.index v)) i e goes (work_stores_none i m) phase)
    fills_turn (Asks i e m goes) h phase = rec (at + 1) g (omega arith) (there is at i e) w
        (facts_on at (at + 1) w i e goes (read_stores_none i Room m) f) h
        (phase_on at (at + 1) w (from words is (at + 1) g) i e goes (read_stores_none i Room m) phase)
    fills_turn (Branches i t to e m goes less) h phase = rec to g less (there is at i e) w
        (facts_on at to w i e goes (branch_stores_none i t m) f) h (phase_on at to w (from words is to g) i e goes (branch_stores_none i t m) phase)
    fills_turn (Takes i d s e m target goes) h phase = takes i d s e m target goes h phase
    fills_turn (Finds i d a e m target goes) h phase = λ v.
        let finds : IsFind is at = inl (f.reached, (i, e, m)) in
        rec (at + 1) (slice_set g d.index v) (omega arith) (there is at i e) w
        (facts_on at (at + 1) w i e goes (read_stores_none i Array m) f)
        (found_fate at w i d g e goes (read_stores_none i Array m) target finds f v h)
        (found_phase at w i d g e goes (read_stores_none i Array m) target finds f v h phase)
    fills_turn (Fills i k v e m goes) h phase =
        let in_final = kept_frame at w k i (from words is (at + 1) g) e m f phase in (
          is_out (OfFrame k) in_final,
          rec (at + 1) g (omega arith) (there is at i e) (OfFrame k ∷ w)
              (facts_kept at w i (OfFrame k) e m goes (λ x z. frame_class x k z) in_final f) h (elim phase [
                | inl same ↦ inl same
                | inr s ↦ inr (since_kept at w i (OfFrame k) e m goes (λ x z. frame_class x k z) s)
              ]),
        )
    fills_turn (Builds i n v e m goes) h phase =
        let in_final = kept_block at w n i (from words is (at + 1) g) e m f phase in (
          is_out (OfBlock n) in_final,
          rec (at + 1) g (omega arith) (there is at i e) (OfBlock n ∷ w)
              (facts_kept at w i (OfBlock n) e m goes (λ x z. block_class x n z) in_final f) h (elim phase [
                | inl same ↦ inl same
                | inr s ↦ inr (since_kept at w i (OfBlock n) e m goes (λ x z. block_class x n z) s)
              ]),
        )
    fills_turn (Puts i a v e m goes) h phase = rec (at + 1) g (omega arith) (there is at i e) w
        (facts_on at (at + 1) w i e goes (put_stores_none i m) f) h (phase_on at (at + 1) w (from words is (at + 1) g) i e goes (put_stores_none i m) phase)

  fills_there : (at : ℕ) (g : List ℕ) → ((to : ℕ) (h : List ℕ) → at + 1 ≤ to → at < length is → FillsThere to h) → FillsThere at g
  fills_there at g rec w f h phase = fills_turn at g rec w f (turn words is at g) h phase

  pub fills : FillsPast out o [] (from words is 0 first)
  fills = forward is FillsThere fills_there (length is) 0 first (omega arith) []
      (record { reached = Here 0; stored = λ x j. absurd j; fresh = λ x. inr (Here 0); inside = λ x j. absurd j }) refl (inl refl)

  -- all of the block is kept in the end
  block_is_final : (x : OwnWord) → In x (built_by is) → fate ≡ None → In x final
  block_is_final (OfFrame k) j none = absurd (text_has is (OfFrame k) j).stored
  block_is_final (OfBlock n) j none = let t = text_has is (OfBlock n) j in elim (has_or_not words is o 0 first (OfBlock n) [] none) [
    | inl l ↦ l
    | inr r ↦ absurd (not_unbuilt n t.at r.0 (t.instr, t.there, t.stored) r.1 r.2)
  ]
  block_is_final (OfEnd b) j none = let t = text_has is (OfEnd b) j in built_is_final t.at b none (ap builder_in t.there ∙ t.stored)

  pub builds : (x : OwnWord) → is_in own_words x (built_by is) ≡ true → out x ≡ true
  builds x h = elim (in_or_not own_words x (built_by is)) [
    | inl j ↦ is_out x (elim (none_or_some fate) [
      | inl none ↦ block_is_final x j.0 none
      | inr some ↦ subst (λ (k : List OwnWord). In x k) (sym (doom_is_last o [] some.0 (from words is 0 first) some.1))
          (drops_all words is o 0 first [] some.0 x j.0 some.1)
    ])
    | inr ne ↦ absurd (both (sym h ∙ ne.1))
  ]
    where
      both : true ≡ false → ⊥
      both z = cc
