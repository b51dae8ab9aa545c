-- Images open soundly, and turns keep that; so nothing breaks.
use Rattle.std.proofs.Common.{◌≡◌, ◌<◌, ◌≤◌, ℕ, zero, suc, ◌+◌, ◌*◌, ◌==◌, ◌^◌, Bool, true, false, if◌then◌else◌, List, [], ◌∷◌, ◌++◌, length, Option, Some, inl, inr, refl, sym, ap, ◌∙◌, subst, arith}
use Rattle.std.specs.List.{AllByRecursion}
use Rattle.std.specs.Prelude.{nat_lt, nat_le}
use Rattle.std.proofs.lemmas.Bool.{cases_Bool, cases_eq, lt-ltb, ltb-true}
use Rattle.std.proofs.lemmas.List.{length-append}
use Rattle.ppm_strands.specs.Calm.{Calm}
use Rattle.ppm_strands.specs.Tree.{Words, Tree, Strand}
use Rattle.ppm_words.specs.declared.named_array.NamedArray.{NamedArray}
use Rattle.ppm_cells.specs.Cells.{pool_at, word_count}
use Rattle.ppm_cells.specs.Finish.{finish_of}
use Rattle.ppm_cells.specs.Memory.{read}
use Rattle.ppm_cells.specs.Restart.{restart_of}
use Rattle.ppm_cells.specs.declared.cell.Cell.TheVariants.{FinishWord, DeadWord, RestartWord, Top}
use Rattle.ppm_cells.specs.declared.entry.Entry.{Entry}
use Rattle.ppm_cells.specs.declared.entry.Entry.TheVariants.{Empty, Local, Taken}
use Rattle.ppm_cells.specs.declared.finish.Finish.{Finish}
use Rattle.ppm_cells.specs.declared.finish.Finish.TheVariants.{Unset, Ended, Trapped, OutOfTurns, OutOfRoom, Stopped, Broken as BrokenAt}
use Rattle.ppm_cells.specs.declared.holder.Holder.{Holder as AHold}
use Rattle.ppm_cells.specs.declared.link.LinkKind.TheVariants.{Root}
use Rattle.ppm_cells.specs.declared.restart.RestartKind.TheVariants.{Run, Seek}
use Rattle.ppm_cells.specs.declared.shape.Shape.{Shape}
use Rattle.ppm_cells.specs.declared.shape.Takeover.{Takeover}
use Rattle.ppm_cells.specs.declared.shape.Takeover.TheVariants.{ByPlaces, ByEntries}
use Rattle.ppm_cells.proofs.CellLemmas.{place_end}
use Rattle.ppm_strands.specs.Strand.{Frame}
use Rattle.ppm_code.specs.Sizes.{slots_of}
use Rattle.ppm_code.specs.Strands.{Point, Result}
use Rattle.ppm_code.specs.declared.code.CodeParts.{CodeParts}
use Rattle.ppm_code.specs.declared.location.FrameWord.{FrameWord}
use Rattle.ppm_code.proofs.CodeLemmas.{entry_is}
use Rattle.ppm_layout.specs.Correct.{Opens}
use Rattle.ppm_layout.specs.Opening.{first_entry}
use Rattle.ppm_layout.specs.Root.{root_strand}
use Rattle.ppm_layout.specs.declared.images.Image.{Image}
use Rattle.ppm_layout.proofs.ValueLemmas.{stands_for}
use Rattle.ppm_step.specs.Among.{IsTurnAmong}
use Rattle.ppm_step.specs.Contents.{content_of, read_so}
use Rattle.ppm_step.specs.State.{State as RunState, stand_of, happens, after, along, opening, is_work_turn, work_of, forks_of, takes_of}
use Rattle.ppm_step.specs.There.{bottom_is_there, kind_is_there}
use Rattle.ppm_step.specs.declared.content.Content.TheVariants.{AnEntry, AHolder}
use Rattle.ppm_step.specs.declared.turn.Turn.{Turn}
use Rattle.ppm_tickets.specs.Along.{by_act}
use Rattle.ppm_tickets.specs.Homes.{Home, Unborn}
use Rattle.ppm_tickets.specs.View.{word_as, cell_of, reading_of, is_shown, absent, view, kinds}
use Rattle.ppm_tickets.specs.Words.{Word, Number, Held, Spot, Slot, Holder, Dead}
use Rattle.ppm_tickets.proofs.ImageLemmas.{images_open}
use Rattle.ppm_tickets.proofs.Theorem.{lost_or}
use Rattle.ppm_tickets.proofs.ViewLemmas.{if_true, if_false}
use Rattle.ppm_frames.specs.Seen.{arrays_at}
use Rattle.ppm_frames.specs.Skeletons.{Begins, InPlace, Skeleton, Leaf}
use Rattle.ppm_frames.specs.Views as frames
use Rattle.ppm_frames.proofs.WriteLemmas.{both}
use Rattle.ppm_kept.specs.Kept.{State, put}
use Rattle.ppm_kept.specs.Left.{Followed}
use Rattle.ppm_kept.specs.Running.{IsFair, strands}
use Rattle.ppm_kept.specs.Steps.{tree_after}
use Rattle.ppm_kept.proofs.BeginLemmas.{machines_open}
use Rattle.ppm_kept.proofs.ImageLemmas.{images_open as frames_open}
use Rattle.ppm_kept.proofs.PutLemmas.{put_here, put_else}
use Rattle.ppm_runs.specs.Deques.{one_if, raised_by}
use Rattle.ppm_runs.specs.Entries.{IsHeired}
use Rattle.ppm_runs.specs.Run.{setting, IsRun}
use Rattle.ppm_runs.specs.Sound.{Noted, IsSoundAt, IsRestartThere, IsHolderSound, IsTopLow, IsTagLow, IsNoBreak, SaysNoBreak, one_dead, IsSound}
use Rattle.ppm_runs.specs.Unbroken.{HasNoBreak, NothingBreaks}
use Rattle.ppm_runs.specs.Work.{work_in}
use Rattle.ppm_runs.specs.Well.{IsWell}
use Rattle.ppm_runs.proofs.MomentLemmas.{turns_lead_on}
use Rattle.ppm_runs.proofs.OpenLemmas.{runs_open}
use Rattle.ppm_runs.proofs.RaisedLemmas.{about, half_stays, half_opens}
use Rattle.ppm_runs.proofs.HeiredLemmas.{heired_first}
use Rattle.ppm_runs.proofs.HeirWell.{acts_lead}
use Rattle.ppm_runs.proofs.OrderlyLemmas.{how_or}
use Rattle.ppm_runs.proofs.SoundJoin.{deques_are_sound, deques_stay_sound}
use Rattle.ppm_runs.proofs.SoundRows.{and_is, by_how}
use Rattle.ppm_runs.proofs.StandLemmas.{kinds_same}
use Rattle.ppm_runs.proofs.WellStands.{strands_sound, halves_sound}
use Rattle.ppm_runs.proofs.WellTurns.{well_stays}

-- the capsule of a strand
abbrev top_capsule : Tree (Frame FrameWord Point) Result → ℕ
top_capsule (Strand f) = f.point.capsule
top_capsule _ = 0

-- a finish that is unset is no break
unset_no_break : (word : ℕ) → finish_of word ≡ Some Unset → SaysNoBreak word
unset_no_break word e f says = by f (sym e ∙ says)
  where
    by : (f : Finish) → Some Unset ≡ Some f → IsNoBreak f
    by (BrokenAt p) q = absurd (cc)
    by Unset q = tt
    by Ended q = tt
    by (Trapped trap line) q = tt
    by (OutOfTurns c) q = tt
    by (OutOfRoom p) q = tt
    by Stopped q = tt

module _ (code : CodeParts) (input : List NamedArray) (s : Shape) (keeper : ℕ) (im : Image) (fair : IsFair code) (opens : Opens code input s keeper im)
    (calm : Calm (strands s code) (root_strand code input) (arrays_at (frames.view s im.words))) where
  abbrev ws : List ℕ
  ws = im.words

  abbrev m : Spot → Word
  m = view s ws

  -- a spot that is there shows its word
  shown : (d : Spot) → is_shown s d ≡ true → m d ≡ word_as (content_of (reading_of d) (read s ws (cell_of d)))
  shown d e = if_true (is_shown s d) (word_as (content_of (reading_of d) (read s ws (cell_of d)))) (absent d) e

  -- the root's frame begins with the root's entry
  pub opens_well : IsWell code (frames.view s ws) Root (Leaf (InPlace keeper) (Begins 0) (pool_at s keeper) (slots_of code code.root))
  opens_well = subst (λ (w : ℕ). w < length code.capsules) (sym (ap top_capsule (frames_open code input s keeper im opens calm).1)) (entry_is code fair.code_is code.root fair.code_is.root).1

  -- kinds of places
  kind_is : (p : ℕ) → kinds s ws p ≡ put (λ q. Seek) keeper (Run (pool_at s keeper) 0) p
  kind_is p = sym (kinds_same s ws p) ∙ ap (λ (z : State). z.kind p) (machines_open code input s keeper im opens calm).0

  noted_at : (p : ℕ) → Noted s m p (put (λ q. Seek) keeper (Run (pool_at s keeper) 0) p)
  noted_at p = elim (cases_eq p keeper) [
    | inl e ↦ subst (λ (q : ℕ). Noted s m p (put (λ q. Seek) keeper (Run (pool_at s keeper) 0) q)) (sym e) (subst (Noted s m p) (sym (put_here (λ q. Seek) keeper (Run (pool_at s keeper) 0))) tt)
    | inr ne ↦ subst (Noted s m p) (sym (put_else (λ q. Seek) keeper (Run (pool_at s keeper) 0) p ne)) tt
  ]

  -- restart words
  bottom_one : bottom_is_there s 1 ≡ true
  bottom_one = let a = s.within.slots_least in and_is (nat_le 1 1) (nat_lt 1 s.slots) refl (lt-ltb 1 s.slots (omega (arith, a)))

  pool_there : pool_at s keeper < word_count s
  pool_there = let a = place_end s keeper opens.below in let b = s.within.room_least in omega (arith, a, b)

  restart_at_ : (p : ℕ) → p < s.processors → IsRestartThere s (restart_of (read s ws (RestartWord p)))
  restart_at_ p lt = elim (cases_eq p keeper) [
    | inl e ↦ subst (λ (q : ℕ). IsRestartThere s (restart_of (read s ws (RestartWord q)))) (sym e)
        (subst (IsRestartThere s) (sym (stands_for code input s keeper im opens).runs)
        (and_is (bottom_is_there s 1) (kind_is_there s (Run (pool_at s keeper) 0)) bottom_one (and_is (nat_lt (pool_at s keeper) (word_count s)) (nat_lt 0 2) (lt-ltb (pool_at s keeper) (word_count s) pool_there) refl)))
    | inr ne ↦ subst (IsRestartThere s) (sym ((stands_for code input s keeper im opens).seeks p lt ne)) (and_is (bottom_is_there s 1) (kind_is_there s Seek) bottom_one refl)
  ]

  -- nobody is dead
  dead_none : (v : ℕ) → v < s.processors → m (Dead v) ≡ Number 0
  dead_none v lt = shown (Dead v) (lt-ltb v s.processors lt) ∙ ap Number ((images_open code input s keeper im opens.image_is).0.opened (DeadWord v) lt)

  holder_at : (v : ℕ) → v < s.processors → IsHolderSound s m (m (Holder v))
  holder_at v lt =
      let held : m (Holder v) ≡ Held 0 v = shown (Holder v) (lt-ltb v s.processors lt) ∙ ap (λ (o : Option AHold). word_as (read_so AHolder o)) ((stands_for code input s keeper im opens).holder v lt) in
      let none : one_dead (m (Dead v)) ≡ 0 = ap one_dead (dead_none v lt) in
      subst (IsHolderSound s m) (sym held) (lt, omega (arith, none))

  -- tags of entries are 0
  tag_by : (v i : ℕ) → IsTagLow 0 (word_as (AnEntry (first_entry i)))
  tag_by v i = by (i == 0) (i == 1)
    where
      by : (x y : Bool) → IsTagLow 0 (word_as (AnEntry (if x then Taken 0 0 else (if y then Local 0 0 else Empty 0))))
      by true y = omega arith
      by false true = omega arith
      by false false = omega arith

  tag_absent : (v i : ℕ) → IsTagLow 0 (absent (Slot v i))
  tag_absent v zero = omega arith
  tag_absent v (suc zero) = omega arith
  tag_absent v (suc (suc i)) = omega arith

  tag_at : (v i : ℕ) → IsTagLow 0 (m (Slot v i))
  tag_at v i = elim (cases_Bool (is_shown s (Slot v i))) [
    | inl e ↦
        let two = both (nat_lt v s.processors) (nat_lt i s.slots) e in
        subst (IsTagLow 0) (sym (shown (Slot v i) e ∙ ap (λ (o : Option Entry). word_as (read_so AnEntry o)) ((stands_for code input s keeper im opens).entry v i (ltb-true v s.processors two.0) (ltb-true i s.slots two.1)))) (tag_by v i)
    | inr e ↦ subst (IsTagLow 0) (sym (if_false (is_shown s (Slot v i)) (word_as (content_of (reading_of (Slot v i)) (read s ws (cell_of (Slot v i))))) (absent (Slot v i)) e)) (tag_absent v i)
  ]

  -- tops are 1
  top_at : (v : ℕ) → v < s.processors → IsTopLow s.takeover s (read s ws (Top v))
  top_at v lt = subst (IsTopLow s.takeover s) (sym ((images_open code input s keeper im opens.image_is).0.opened (Top v) lt))
      (by_how (λ (how : Takeover). IsTopLow how s 1) tt (let a = s.within.slots_least in omega (arith, a)) s.takeover)

  pub opens_sound : IsSound s code 0 (opening ws s.processors)
  opens_sound = record {
    stands = λ c. elim (lost_or s.processors c) [
      | inl a ↦ subst (IsSoundAt s code m) (sym a.0) tt
      | inr e ↦ subst (IsSoundAt s code m) (sym e) tt
    ];
    restarts = restart_at_;
    noted = λ p. subst (Noted s m p) (sym (kind_is p)) (noted_at p);
    holders = holder_at;
    finish = unset_no_break (read s ws FinishWord) (stands_for code input s keeper im opens).finish;
    tops = top_at;
    tags = tag_at;
  }

-- what is sound says that nothing is broken
whole_of : (s : Shape) (code : CodeParts) (made : ℕ) (state : RunState) → IsSound s code made state → HasNoBreak s state
whole_of s code made state sound = record {
  stands = λ c p e. subst (IsSoundAt s code (view s state.words)) e (sound.stands c);
  finish = sound.finish;
}

-- work turns, counted one after the other
module _ (s : Shape) (code : CodeParts) where
  abbrev works : RunState → List Turn → ℕ
  works state [] = 0
  works state (turn ∷ more) = one_if (is_work_turn turn.act (stand_of state turn.processor)) + works (happens s code state turn) more

  works_are : (state : RunState) (turns : List Turn) → works state turns ≡ work_in s code state turns
  works_are state [] = refl
  works_are state (turn ∷ more) =
      let rest = works_are (happens s code state turn) more in
      let both = length-append (work_of state turn) (along s code work_of (happens s code state turn) more) in
      let one = one_or (is_work_turn turn.act (stand_of state turn.processor)) turn.processor in
      omega (arith, rest, both, one)
    where
      one_or : (b : Bool) (p : ℕ) → length (if b then p ∷ [] else []) ≡ one_if b
      one_or true p = refl
      one_or false p = refl

module _ (s : Shape) (code : CodeParts) (places : s.takeover ≡ ByPlaces) (fair : IsFair code) (root : Tree (Frame FrameWord Point) Result) (input : Words) where
  pub all_whole : (made work : ℕ) (state : RunState) (h : ℕ → Home) (f tk : List ℕ) (t : Skeleton) (turns : List Turn) → AllByRecursion (IsTurnAmong s.processors) turns
      → 2 * made + about s code s.processors state ≤ work → work + works s code state turns ≤ 2 ^ 34
      → IsRun s code root input state h f tk t → IsSound s code made state → IsWell code (frames.view s state.words) Root t
      → HasNoBreak s (after s code state turns)
  all_whole made work state h f tk t [] all half few run sound well = whole_of s code made state sound
  all_whole made work state h f tk t (turn ∷ more) all half few run sound well =
      all_whole (raised_by made state turn) (work + one_if (is_work_turn turn.act (stand_of state turn.processor))) (happens s code state turn) (by_act s state.words turn.act (stand_of state turn.processor) h) (forks_of state turn ++ f) (takes_of state turn ++ tk) (tree_after (setting s code) state turn t) more all.1
      (half_stays s code s.processors made work state turn fair.code_is all.0.processor half)
      (omega (arith, few))
      (turns_lead_on s code places fair root input state h f tk t run turn all.0)
      (deques_are_sound s code places fair root input state h f tk t run made (rises made (about s code s.processors state) work (works s code state (turn ∷ more)) half few) sound (strands_sound s code fair root input state h f tk t run made sound well) turn all.0)
      (well_stays s code places fair root input state h f tk t run well turn all.0)
    where
      -- half of the work turns are fewer than a tag counts
      rises : (made some work more : ℕ) → 2 * made + some ≤ work → work + more ≤ 2 ^ 34 → made + 1 < 2 ^ 34
      rises made some work more half few = omega (arith, half, few)

-- by entries
module _ (s : Shape) (code : CodeParts) (ih : s.takeover ≡ ByEntries) (fair : IsFair code) (root : Tree (Frame FrameWord Point) Result) (input : Words) where
  all_heired : (made work : ℕ) (state : RunState) (h : ℕ → Home) (f tk : List ℕ) (l : List Followed) (t : Skeleton) (turns : List Turn) → AllByRecursion (IsTurnAmong s.processors) turns
      → 2 * made + about s code s.processors state ≤ work → work + works s code state turns ≤ 2 ^ 34
      → IsHeired s code root input state h f tk l t → IsSound s code made state → IsWell code (frames.view s state.words) Root t
      → HasNoBreak s (after s code state turns)
  all_heired made work state h f tk l t [] all half few run sound well = whole_of s code made state sound
  all_heired made work state h f tk l t (turn ∷ more) all half few run sound well =
      let next = acts_lead s code ih fair root input state h f tk l t run well turn.processor turn.act all.0 in
      all_heired (raised_by made state turn) (work + one_if (is_work_turn turn.act (stand_of state turn.processor))) (happens s code state turn) (by_act s state.words turn.act (stand_of state turn.processor) h) (forks_of state turn ++ f) (takes_of state turn ++ tk) next.left_out next.tree more all.1
      (half_stays s code s.processors made work state turn fair.code_is all.0.processor half)
      (omega (arith, few))
      next.heired
      (deques_stay_sound s code fair root input state h f tk l t run.halves run.joint made (rises made (about s code s.processors state) work (works s code state (turn ∷ more)) half few) sound
      (halves_sound s code fair root input state h f tk l t run.halves made sound well) turn all.0)
      next.good
    where
      -- half of the work turns are fewer than a tag counts
      rises : (made some work more : ℕ) → 2 * made + some ≤ work → work + more ≤ 2 ^ 34 → made + 1 < 2 ^ 34
      rises made some work more half few = omega (arith, half, few)

pub nothing_breaks : NothingBreaks
nothing_breaks code input s keeper im fair opens calm turns all few = let same = works_are s code (opening im.words s.processors) turns in elim (how_or s.takeover) [
  | inl places ↦ all_whole s code places fair (root_strand code input) (arrays_at (frames.view s im.words)) 0 0 (opening im.words s.processors) (λ r. Unborn) [] []
      (Leaf (InPlace keeper) (Begins 0) (pool_at s keeper) (slots_of code code.root)) turns all (half_opens s code im.words s.processors) (omega (arith, few, same)) (runs_open code input s keeper im opens calm)
      (opens_sound code input s keeper im fair opens calm) (opens_well code input s keeper im fair opens calm)
  | inr ih ↦ all_heired s code ih fair (root_strand code input) (arrays_at (frames.view s im.words)) 0 0 (opening im.words s.processors) (λ r. Unborn) [] [] []
      (Leaf (InPlace keeper) (Begins 0) (pool_at s keeper) (slots_of code code.root)) turns all (half_opens s code im.words s.processors) (omega (arith, few, same)) (heired_first code input s keeper im opens calm)
      (opens_sound code input s keeper im fair opens calm) (opens_well code input s keeper im fair opens calm)
]
