-- What is sound is so again where words come back; so nothing breaks over legs, while their work turns are few.
use Rattle.std.proofs.Common.{◌≡◌, ◌≤◌, ◌<◌, ℕ, ◌+◌, ◌*◌, ◌^◌, Bool, true, false, if◌then◌else◌, List, [], ◌∷◌, ◌++◌, length, Some, inl, inr, refl, sym, ap, ◌∙◌, subst, arith}
use Rattle.std.specs.List.{AllByRecursion}
use Rattle.std.proofs.lemmas.List.{length-append}
use Rattle.std.proofs.lemmas.Nat.{mul-le}
use Rattle.ppm_strands.specs.Tree.{Words, Tree}
use Rattle.ppm_strands.specs.Calm.{Calm}
use Rattle.ppm_words.specs.declared.named_array.NamedArray.{NamedArray}
use Rattle.ppm_cells.specs.Cells.{pool_at}
use Rattle.ppm_cells.specs.Finish.{finish_of, IsFinish}
use Rattle.ppm_cells.specs.Memory.{read}
use Rattle.ppm_cells.specs.Restart.{restart_of}
use Rattle.ppm_cells.specs.declared.cell.Cell.{Cell}
use Rattle.ppm_cells.specs.declared.cell.Cell.TheVariants as cells
use Rattle.ppm_cells.specs.declared.finish.Finish.{Finish}
use Rattle.ppm_cells.specs.declared.finish.Finish.TheVariants.{Unset}
use Rattle.ppm_cells.specs.declared.link.LinkKind.TheVariants.{Root}
use Rattle.ppm_cells.specs.declared.restart.RestartKind.{RestartKind}
use Rattle.ppm_cells.specs.declared.shape.Shape.{Shape}
use Rattle.ppm_cells.specs.declared.shape.Takeover.TheVariants.{ByPlaces}
use Rattle.ppm_strands.specs.Strand.{Frame}
use Rattle.ppm_code.specs.Code.{IsCode}
use Rattle.ppm_code.specs.Sizes.{slots_of}
use Rattle.ppm_code.specs.Strands.{Point, Result}
use Rattle.ppm_code.specs.declared.code.CodeParts.{CodeParts}
use Rattle.ppm_code.specs.declared.location.FrameWord.{FrameWord}
use Rattle.ppm_layout.specs.Correct.{Opens}
use Rattle.ppm_layout.specs.Root.{root_strand}
use Rattle.ppm_layout.specs.declared.images.Image.{Image}
use Rattle.ppm_layout.proofs.ValueLemmas.{stands_for}
use Rattle.ppm_step.specs.Among.{IsTurnAmong}
use Rattle.ppm_step.specs.Contents.{content_of}
use Rattle.ppm_step.specs.State.{State as RunState, stand_of, quit_with, happens, after, along, opening, is_work_turn, work_of, forks_of, takes_of}
use Rattle.ppm_step.specs.declared.turn.Act.TheVariants.{Quit}
use Rattle.ppm_step.specs.declared.turn.Turn.{Turn}
use Rattle.ppm_step.specs.declared.turn.Why.{Why}
use Rattle.ppm_step.specs.declared.turn.Why.TheVariants.{Turns, Watch}
use Rattle.ppm_step.proofs.QuitLemmas.{finish_has_cause}
use Rattle.ppm_tickets.specs.Along.{homes, forked as forked_in, taken as taken_in, by_act}
use Rattle.ppm_tickets.specs.Homes.{Home}
use Rattle.ppm_tickets.specs.Renewal.{IsRenewal}
use Rattle.ppm_tickets.specs.View.{word_as, cell_of, reading_of, is_shown, absent, view, kinds}
use Rattle.ppm_tickets.specs.Words.{Word, Empty, Local, Job, Taken, Held, Number, Linked, Restarts, Unread, Spot, Message, Bid, Slot, Holder}
use Rattle.ppm_tickets.proofs.Theorem.{lost_or}
use Rattle.ppm_tickets.proofs.ViewLemmas.{shown_cell, shows, if_false}
use Rattle.ppm_frames.specs.Seen.{arrays_at}
use Rattle.ppm_frames.specs.Skeletons.{Begins, InPlace, Skeleton, Leaf}
use Rattle.ppm_frames.specs.Views as frames
use Rattle.ppm_kept.specs.Running.{IsFair, strands}
use Rattle.ppm_kept.specs.Steps.{tree_after}
use Rattle.ppm_kept.proofs.BlockLemmas.{finish_back}
use Rattle.ppm_runs.specs.Deques.{one_if, raised_by}
use Rattle.ppm_runs.specs.Legs.{Leg, GoOn, words_then, state_then, AreLegs, homes_then, forked_then, taken_then, work_then, last_state, all_homes, all_forked, all_taken, all_work}
use Rattle.ppm_runs.specs.Run.{setting, IsRun}
use Rattle.ppm_runs.specs.Sound.{Noted, IsSoundAt, IsRestartThere, IsHolderWithin, IsTopLow, IsTagLow, IsNoBreak, SaysNoBreak, IsSound}
use Rattle.ppm_runs.specs.Unbroken.{HasNoBreak}
use Rattle.ppm_runs.specs.UnbrokenLegs.{NothingBreaksOverLegs, FinishStandsOverLegs}
use Rattle.ppm_runs.specs.Well.{IsWell}
use Rattle.ppm_runs.proofs.BackLemmas.{view_back, kinds_back}
use Rattle.ppm_runs.proofs.LegLemmas.{goes_on_back}
use Rattle.ppm_runs.proofs.MomentLemmas.{turns_lead_on}
use Rattle.ppm_runs.proofs.OpenLemmas.{runs_open}
use Rattle.ppm_runs.proofs.OutcomeLemmas.{finish_in, unset_stands}
use Rattle.ppm_runs.proofs.RaisedLemmas.{about, half_stays, half_opens}
use Rattle.ppm_runs.proofs.SoundJoin.{deques_are_sound}
use Rattle.ppm_runs.proofs.SoundLemmas.{noted_same}
use Rattle.ppm_runs.proofs.StandLemmas.{kinds_same}
use Rattle.ppm_runs.proofs.TagLemmas.{AreLow, begins_low, risen}
use Rattle.ppm_runs.proofs.UnbrokenLemmas.{opens_sound, opens_well}
use Rattle.ppm_runs.proofs.WellStands.{strands_sound}
use Rattle.ppm_runs.proofs.WellTurns.{well_stays}
use Rattle.ppm_runs.proofs.WellWords.{well_written}

-- a finish word that is 0 is no break
none_breaks : (w : ℕ) → w ≡ 0 → SaysNoBreak w
none_breaks w none finish says = subst IsNoBreak {x = Unset} {y = finish} (ap (finish_in finish) (sym (sym says ∙ ap finish_of none ∙ unset_stands))) tt

-- a bound that is more
holder_more : (s : Shape) (low high : ℕ) → low ≤ high → (m : Spot → Word) (w : Word) → IsHolderWithin s low m w → IsHolderWithin s high m w
holder_more s low high le m (Held t c) a = (a.0, let below = a.1 in omega (arith, le, below))
holder_more s low high le m (Empty t) a = absurd a
holder_more s low high le m (Local t x) a = absurd a
holder_more s low high le m (Job t x) a = absurd a
holder_more s low high le m (Taken t x) a = absurd a
holder_more s low high le m (Number x) a = absurd a
holder_more s low high le m (Linked x) a = absurd a
holder_more s low high le m (Restarts x y) a = absurd a
holder_more s low high le m Unread a = absurd a

-- words that come back
module _ (s : Shape) (code : CodeParts) (made : ℕ) (state : RunState) (sound : IsSound s code made state) (back : List ℕ) (on : GoOn s state.words back)
    (raised : ℕ) (few : raised ≤ 2 ^ 57) (low : AreLow s raised back) where
  abbrev ws : List ℕ
  ws = state.words

  abbrev m : Spot → Word
  m = view s ws

  abbrev n : Spot → Word
  n = view s back

  same_at : (d : Spot) → (is_shown s d ≡ true → read s back (cell_of d) ≡ read s ws (cell_of d)) → n d ≡ m d
  same_at d f = by (is_shown s d) refl
    where
      by : (y : Bool) → is_shown s d ≡ y → n d ≡ m d
      by true e = shows s back d e ∙ ap (λ (w : ℕ). word_as (content_of (reading_of d) w)) (f e) ∙ sym (shows s ws d e)
      by false e = if_false (is_shown s d) _ (absent d) e ∙ sym (if_false (is_shown s d) _ (absent d) e)

  messages : (p : ℕ) → n (Message p) ≡ m (Message p)
  messages p = same_at (Message p) (λ e. on.renewal.renewed (cells.MessageWord p) (shown_cell s (Message p) e))

  bids : (p : ℕ) → n (Bid p) ≡ m (Bid p)
  bids p = same_at (Bid p) (λ e. on.renewal.renewed (cells.MessageWord p) (shown_cell s (Bid p) e))

  slots : (v i : ℕ) → n (Slot v i) ≡ m (Slot v i)
  slots v i = same_at (Slot v i) (λ e. on.renewal.renewed (cells.EntryWord v i) (shown_cell s (Slot v i) e))

  kind_is : (p : ℕ) → kinds s back p ≡ kinds s ws p
  kind_is p = sym (kinds_same s back p) ∙ ap (λ (f : ℕ → RestartKind). f p) (kinds_back s ws back on.renewal) ∙ kinds_same s ws p

  finish_fine : SaysNoBreak (read s back cells.FinishWord)
  finish_fine = elim on.finish [ inl same ↦ subst SaysNoBreak (sym same) sound.finish | inr none ↦ none_breaks (read s back cells.FinishWord) none ]

  pub sound_back : IsSound s code made (opening back s.processors)
  sound_back = record {
    stands = λ c. elim (lost_or s.processors c) [
      | inl a ↦ subst (IsSoundAt s code n) (sym a.0) tt
      | inr e ↦ subst (IsSoundAt s code n) (sym e) tt
    ];
    restarts = λ p lt. subst (λ (w : ℕ). IsRestartThere s (restart_of w)) (sym (on.renewal.renewed (cells.RestartWord p) lt)) (sound.restarts p lt);
    noted = λ p. subst (Noted s n p) (sym (kind_is p)) (noted_same s m n p (messages p) (bids p) (kinds s ws p) (sound.noted p));
    holders = λ v lt. holder_more s raised (2 ^ 57) few n (n (Holder v)) (low v lt);
    finish = finish_fine;
    tops = λ v lt. subst (IsTopLow s.takeover s) (sym (on.renewal.renewed (cells.Top v) lt)) (sound.tops v lt);
    tags = λ v i. subst (IsTagLow made) (sym (slots v i)) (sound.tags v i);
  }

-- the words that trees look at, but for the finish word, stay
well_back : (s : Shape) (code : CodeParts) (ws back : List ℕ) (t : Skeleton) → IsRenewal s ws back → IsWell code (frames.view s ws) Root t → IsWell code (frames.view s back) Root t
well_back s code ws back t renewal well =
    subst (λ (m : Cell → ℕ). IsWell code m Root t) (sym (view_back s ws back renewal))
    (well_written code (frames.view s ws) cells.FinishWord (read s back cells.FinishWord) Root t (λ x e. absurd (cc)) well)

-- work turns, one by one
more_work : (b : Bool) (c : ℕ) → length (if b then c ∷ [] else []) ≡ one_if b
more_work true c = refl
more_work false c = refl

-- half of the work turns are fewer than a tag counts
rises : (made some work : ℕ) → 2 * made + some ≤ work → work ≤ 2 ^ 34 + 2 ^ 28 → made + 1 < 2 ^ 34
rises made some work half few = omega (arith, half, few)

module _ (s : Shape) (code : CodeParts) (places : s.takeover ≡ ByPlaces) (fair : IsFair code) (root : Tree (Frame FrameWord Point) Result) (input : Words) where
  abbrev N : ℕ
  N = s.processors

  -- a moment after so many work turns, of which at most half raised an entry's tag
  record Moment (state : RunState) (h : ℕ → Home) (forked taken : List ℕ) (work : ℕ) : Type 0 where
    tree : Skeleton
    made : ℕ
    run : IsRun s code root input state h forked taken tree
    sound : IsSound s code made state
    well : IsWell code (frames.view s state.words) Root tree
    half : 2 * made + about s code N state ≤ work

  one_more : (state : RunState) (h : ℕ → Home) (f tk : List ℕ) (work : ℕ) → Moment state h f tk work → (turn : Turn) → IsTurnAmong N turn → work ≤ 2 ^ 34 + 2 ^ 28
      → Moment (happens s code state turn) (by_act s state.words turn.act (stand_of state turn.processor) h) (forks_of state turn ++ f) (takes_of state turn ++ tk) (work + one_if (is_work_turn turn.act (stand_of state turn.processor)))
  one_more state h f tk work z turn among few = record {
    tree = tree_after (setting s code) state turn z.tree;
    made = raised_by z.made state turn;
    run = turns_lead_on s code places fair root input state h f tk z.tree z.run turn among;
    sound = deques_are_sound s code places fair root input state h f tk z.tree z.run z.made (rises z.made (about s code N state) work z.half few) z.sound (strands_sound s code fair root input state h f tk z.tree z.run z.made z.sound z.well) turn among;
    well = well_stays s code places fair root input state h f tk z.tree z.run z.well turn among;
    half = half_stays s code N z.made work state turn fair.code_is among.processor z.half;
  }

  all_sound : (state : RunState) (h : ℕ → Home) (f tk : List ℕ) (work : ℕ) (turns : List Turn) → AllByRecursion (IsTurnAmong N) turns → Moment state h f tk work
      → work + length (along s code work_of state turns) ≤ 2 ^ 34 + 2 ^ 28
      → Moment (after s code state turns) (homes s code state h turns) (forked_in s code state f turns) (taken_in s code state tk turns) (work + length (along s code work_of state turns))
  all_sound state h f tk work [] all z few = subst (Moment state h f tk) {x = work} (omega arith) z
  all_sound state h f tk work (turn ∷ more) all z few =
      let then_ = happens s code state turn in
      let one = one_if (is_work_turn turn.act (stand_of state turn.processor)) in
      let both = length-append (work_of state turn) (along s code work_of then_ more) in
      let here : length (work_of state turn) ≡ one = more_work (is_work_turn turn.act (stand_of state turn.processor)) turn.processor in
      let sum : work + one + length (along s code work_of then_ more) ≡ work + length (along s code work_of state (turn ∷ more)) = omega (arith, both, here) in
      subst (Moment (after s code then_ more) (homes s code state h (turn ∷ more)) (forked_in s code state f (turn ∷ more)) (taken_in s code state tk (turn ∷ more))) sum
      (all_sound then_ (by_act s state.words turn.act (stand_of state turn.processor) h) (forks_of state turn ++ f) (takes_of state turn ++ tk) (work + one) more all.1
      (one_more state h f tk work z turn all.0 (omega (arith, few))) (omega (arith, few, sum)))

  -- where words come back nobody is about to raise a tag
  back_moment : (state : RunState) (h : ℕ → Home) (f tk : List ℕ) (work : ℕ) → Moment state h f tk work → (back : List ℕ) → GoOn s state.words back
      → (raised : ℕ) → raised ≤ 2 ^ 57 → AreLow s raised back → Moment (opening back N) h f tk work
  back_moment state h f tk work z back on raised few low = record {
    tree = z.tree;
    made = z.made;
    run = goes_on_back s code places fair root input state h f tk z.tree z.run back on;
    sound = sound_back s code z.made state z.sound back on raised few low;
    well = well_back s code state.words back z.tree on.renewal z.well;
    half = let none = half_opens s code back N in let half = z.half in omega (arith, none, half);
  }

-- the turn between two parts
between : (P : Turn → Type 0) (first : List Turn) (turn : Turn) (more : List Turn) → AllByRecursion P (first ++ turn ∷ more) → P turn
between P [] turn more all = all.0
between P (other ∷ first) turn more all = between P first turn more all.1

-- a finish word that stands for something does so after turns
module _ (s : Shape) (code : CodeParts) (is : IsCode code) where
  abbrev Says : ℕ → Type 0
  Says word = (finish : Finish) × (finish_of word ≡ Some finish)

  quit_fits : (c : ℕ) → c < s.processors → (why : Why) → IsFinish (quit_with c why)
  quit_fits c lt Turns = let few = s.within.processors_most in omega (arith, few, lt)
  quit_fits c lt Watch = tt

  says_on : (words : List ℕ) (turns : List Turn) → AllByRecursion (IsTurnAmong s.processors) turns → Says (read s words cells.FinishWord)
      → Says (read s (after s code (opening words s.processors) turns).words cells.FinishWord)
  says_on words turns all old = elim (finish_has_cause s code is words turns) [
    | inl same ↦ (old.0, ap finish_of same ∙ old.1)
    | inr cause ↦ elim cause [
      | inl proposed ↦ (proposed.finish, proposed.stands)
      | inr quit ↦
          let at = between (IsTurnAmong s.processors) quit.quits.first (record { processor = quit.processor; act = Quit quit.why }) quit.quits.more (subst (AllByRecursion (IsTurnAmong s.processors)) quit.quits.turns_are all) in
          (quit_with quit.processor quit.why, ap finish_of quit.word_is ∙ finish_back (quit_with quit.processor quit.why) (quit_fits quit.processor at.processor quit.why))
    ]
  ]

  module _ (words : List ℕ) (unset : Says (read s words cells.FinishWord)) where
    said_then : (legs : List Leg) → AreLegs s code words legs → Says (read s (words_then s code words legs) cells.FinishWord)
    said_then [] are = unset
    said_then (leg ∷ legs) are =
        let old = says_on (words_then s code words legs) leg.turns are.1 (said_then legs are.0) in elim are.2.finish [
          | inl same ↦ (old.0, ap finish_of same ∙ old.1)
          | inr none ↦ (Unset, ap finish_of none ∙ unset_stands)
        ]

pub finish_stands_over_legs : FinishStandsOverLegs
finish_stands_over_legs code input s keeper im fair opens legs are turns all =
    says_on s code fair.code_is (words_then s code im.words legs) turns all
    (said_then s code fair.code_is im.words (Unset, (stands_for code input s keeper im opens).finish) legs are)

-- tags rise at most so much
pub few_risen : (n k : ℕ) → n ≤ 64 → k ≤ 2 ^ 50 → (n + 1) * k ≤ 2 ^ 57
few_risen n k few legs = by ((n + 1) * k) (mul-le (n + 1) k 65 (2 ^ 50) (omega (arith, few)) legs)
  where
    by : (x : ℕ) → x ≤ 65 * 2 ^ 50 → x ≤ 2 ^ 57
    by x le = omega (arith, le)

module _ (code : CodeParts) (input : List NamedArray) (s : Shape) (keeper : ℕ) (im : Image) (places : s.takeover ≡ ByPlaces) (fair : IsFair code) (opens : Opens code input s keeper im)
    (calm : Calm (strands s code) (root_strand code input) (arrays_at (frames.view s im.words))) where
  abbrev root : Tree (Frame FrameWord Point) Result
  root = root_strand code input

  abbrev arrays : Words
  arrays = arrays_at (frames.view s im.words)

  abbrev Then : List Leg → Type 0
  Then legs = Moment s code places fair root arrays (state_then s code im.words legs) (homes_then s code im.words legs) (forked_then s code im.words legs) (taken_then s code im.words legs) (work_then s code im.words legs)

  abbrev Last : List Leg → List Turn → Type 0
  Last legs turns = Moment s code places fair root arrays (last_state s code im.words legs turns) (all_homes s code im.words legs turns) (all_forked s code im.words legs turns) (all_taken s code im.words legs turns) (all_work s code im.words legs turns)

  behind : (legs : List Leg) → Then legs → (turns : List Turn) → AllByRecursion (IsTurnAmong s.processors) turns → all_work s code im.words legs turns ≤ 2 ^ 34 + 2 ^ 28 → Last legs turns
  behind legs z turns all few =
      all_sound s code places fair root arrays (state_then s code im.words legs) (homes_then s code im.words legs) (forked_then s code im.words legs) (taken_then s code im.words legs) (work_then s code im.words legs) turns all z few

  begins : (legs : List Leg) → AreLegs s code im.words legs → length legs ≤ 2 ^ 50 → work_then s code im.words legs ≤ 2 ^ 34 + 2 ^ 28 → Then legs
  begins [] are few work = record {
    tree = Leaf (InPlace keeper) (Begins 0) (pool_at s keeper) (slots_of code code.root);
    made = 0;
    run = runs_open code input s keeper im opens calm;
    sound = opens_sound code input s keeper im fair opens calm;
    well = opens_well code input s keeper im fair opens calm;
    half = half_opens s code im.words s.processors;
  }
  begins (leg ∷ legs) are few work =
      back_moment s code places fair root arrays (last_state s code im.words legs leg.turns) (all_homes s code im.words legs leg.turns) (all_forked s code im.words legs leg.turns) (all_taken s code im.words legs leg.turns)
      (all_work s code im.words legs leg.turns)
      (behind legs (begins legs are.0 (omega (arith, few)) (omega (arith, work))) leg.turns are.1 work)
      leg.back are.2 (risen code input s keeper im places fair opens calm (leg ∷ legs)) (few_risen s.processors (length (leg ∷ legs)) s.within.processors_most few)
      (begins_low code input s keeper im places fair opens calm (leg ∷ legs) are)

  whole_last : (legs : List Leg) → AreLegs s code im.words legs → (turns : List Turn) → AllByRecursion (IsTurnAmong s.processors) turns
      → length legs ≤ 2 ^ 50 → all_work s code im.words legs turns ≤ 2 ^ 34 + 2 ^ 28 → HasNoBreak s (last_state s code im.words legs turns)
  whole_last legs are turns all few work =
      let z = behind legs (begins legs are few (omega (arith, work))) turns all work in record {
        stands = λ c p e. subst (IsSoundAt s code (view s (last_state s code im.words legs turns).words)) e (z.sound.stands c);
        finish = z.sound.finish;
      }

pub nothing_breaks_over_legs : NothingBreaksOverLegs
nothing_breaks_over_legs code input s keeper im places fair opens calm legs are turns all few work = whole_last code input s keeper im places fair opens calm legs are turns all few work
