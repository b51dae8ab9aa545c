-- Saved words of a run's state come back: with all processors lost, words are lawful and kept as before.
use Rattle.std.proofs.Common.{◌≡◌, ◌≢◌, ◌⊎◌, ℕ, zero, suc, ◌+◌, Bool, true, false, if◌then◌else◌, List, [], ◌∷◌, inl, inr, refl, sym, ap, ◌∙◌, subst}
use Rattle.std.specs.Prelude.{nat_lt}
use Rattle.std.proofs.Math.Path.{fun_ext}
use Rattle.std.proofs.lemmas.Bool.{cases_Bool, ltb-true}
use Rattle.ppm_strands.specs.Tree.{Words, Tree}
use Rattle.ppm_cells.specs.Cells.{pool_at}
use Rattle.ppm_cells.specs.Memory.{read}
use Rattle.ppm_cells.specs.Restart.{restart_of}
use Rattle.ppm_cells.specs.declared.cell.Cell.{Cell}
use Rattle.ppm_cells.specs.declared.cell.Cell.TheVariants.{FinishWord, CarryWord, DeadWord, RestartWord, MessageWord, HolderWord, Top, RoomCounter, EntryWord, BlockWord, ArrayWord}
use Rattle.ppm_cells.specs.declared.restart.RestartKind.TheVariants.{Seek}
use Rattle.ppm_cells.specs.declared.shape.Shape.{Shape}
use Rattle.ppm_cells.specs.declared.shape.Takeover.TheVariants.{ByPlaces}
use Rattle.ppm_strands.specs.Strand.{Frame}
use Rattle.ppm_code.specs.Sizes.{slots_of}
use Rattle.ppm_code.specs.Strands.{Point, Result}
use Rattle.ppm_code.specs.declared.code.CodeParts.{CodeParts}
use Rattle.ppm_code.specs.declared.location.FrameWord.{FrameWord}
use Rattle.ppm_layout.specs.Root.{root_strand}
use Rattle.ppm_step.specs.Standings.{Standing, IsLost, IsDone}
use Rattle.ppm_step.specs.State.{State as RunState, stand_of, after, opening}
use Rattle.ppm_tickets.specs.Along.{homes, forked as forked_in, taken as taken_in}
use Rattle.ppm_tickets.specs.Homes.{Home, Unborn}
use Rattle.ppm_tickets.specs.Renewal.{IsRenewal, Part, Ran, CameBack}
use Rattle.ppm_tickets.specs.View as spots
use Rattle.ppm_tickets.specs.Words.{has}
use Rattle.ppm_tickets.proofs.RenewalLemmas.{resumes}
use Rattle.ppm_tickets.proofs.Theorem.{lost_or}
use Rattle.ppm_frames.specs.Views.{is_cell, absent, view, written}
use Rattle.ppm_frames.specs.Seen.{arrays_at}
use Rattle.ppm_frames.specs.Skeletons.{Begins, InPlace, Skeleton, Leaf}
use Rattle.ppm_frames.proofs.ViewLemmas.{view_is, is_one}
use Rattle.ppm_frames.proofs.WriteLemmas.{write_here, write_else}
use Rattle.ppm_kept.specs.Births.{Births}
use Rattle.ppm_kept.specs.Running.{IsFair}
use Rattle.ppm_kept.specs.Kept.{Resting, State, NoOutcome, IsKept}
use Rattle.ppm_kept.specs.Moves.{doing_of}
use Rattle.ppm_kept.specs.Places.{kind_or, kinds_of, is_in, doing_in, places_of}
use Rattle.ppm_kept.proofs.BirthLemmas.{births_stay}
use Rattle.ppm_kept.proofs.StopLemmas.{words_stay}
use Rattle.ppm_runs.specs.Run.{setting, IsRun}
use Rattle.ppm_runs.specs.Renewals.{RunsComeBack, BehindParts, EndsInParts, PartsComeTo}
use Rattle.ppm_runs.proofs.MomentLemmas.{all_lead, are_once}
use Rattle.ppm_runs.proofs.OpenLemmas.{runs_open, not_broken}
use Rattle.ppm_runs.proofs.OutcomeLemmas.{runs_end}

module _ (s : Shape) (ws saved : List ℕ) (renewal : IsRenewal s ws saved) where
  abbrev m : Cell → ℕ
  m = view s ws

  abbrev n : Cell → ℕ
  n = view s saved

  -- frames see another finish word alone
  other_cell : (c : Cell) → c ≢ FinishWord → read s saved c ≡ read s ws c ⊎ (is_cell s c ≡ false) → n c ≡ written m FinishWord (read s saved FinishWord) c
  unfolding view
  other_cell c ne (inl e) = ap (λ (w : ℕ). if is_cell s c then w else absent s c) e ∙ sym (write_else m FinishWord (read s saved FinishWord) c ne)
  other_cell c ne (inr out) = ap (λ (b : Bool). if b then read s saved c else absent s c) out
      ∙ sym (ap (λ (b : Bool). if b then read s ws c else absent s c) out) ∙ sym (write_else m FinishWord (read s saved FinishWord) c ne)

  there : (c : Cell) → (is_cell s c ≡ true → read s saved c ≡ read s ws c) → read s saved c ≡ read s ws c ⊎ (is_cell s c ≡ false)
  there c f = elim (cases_Bool (is_cell s c)) [ inl e ↦ inl (f e) | inr e ↦ inr e ]

  each : (c : Cell) → n c ≡ written m FinishWord (read s saved FinishWord) c
  each FinishWord = view_is s saved FinishWord refl ∙ sym (write_here m FinishWord (read s saved FinishWord))
  each (RoomCounter p) = other_cell (RoomCounter p) (λ e. cc) (there (RoomCounter p) (λ e. renewal.renewed (RoomCounter p) (is_one s (RoomCounter p) e)))
  each (BlockWord x) = other_cell (BlockWord x) (λ e. cc) (there (BlockWord x) (λ e. renewal.renewed (BlockWord x) (is_one s (BlockWord x) e)))
  each (ArrayWord x) = other_cell (ArrayWord x) (λ e. cc) (there (ArrayWord x) (λ e. renewal.renewed (ArrayWord x) (is_one s (ArrayWord x) e)))
  each (CarryWord c) = other_cell (CarryWord c) (λ e. cc) (inr refl)
  each (DeadWord c) = other_cell (DeadWord c) (λ e. cc) (inr refl)
  each (RestartWord p) = other_cell (RestartWord p) (λ e. cc) (inr refl)
  each (MessageWord p) = other_cell (MessageWord p) (λ e. cc) (inr refl)
  each (HolderWord p) = other_cell (HolderWord p) (λ e. cc) (inr refl)
  each (Top p) = other_cell (Top p) (λ e. cc) (inr refl)
  each (EntryWord p x) = other_cell (EntryWord p x) (λ e. cc) (inr refl)

  pub view_back : n ≡ written m FinishWord (read s saved FinishWord)
  view_back = fun_ext each

  pub kinds_back : kinds_of s saved ≡ kinds_of s ws
  kinds_back = fun_ext (λ p. by p (nat_lt p s.processors) refl)
    where
      by : (p : ℕ) (b : Bool) → nat_lt p s.processors ≡ b → kinds_of s saved p ≡ kinds_of s ws p
      by p true e = ap (λ (w : ℕ). if nat_lt p s.processors then kind_or (restart_of w) else Seek) (renewal.renewed (RestartWord p) (ltb-true p s.processors e))
      by p false e = ap (λ (b : Bool). if b then kind_or (restart_of (read s saved (RestartWord p))) else Seek) e ∙ sym (ap (λ (b : Bool). if b then kind_or (restart_of (read s ws (RestartWord p))) else Seek) e)

  pub bottoms_back : (p : ℕ) → spots.bottoms s saved p ≡ spots.bottoms s ws p
  bottoms_back p = by (nat_lt p s.processors) refl
    where
      by : (b : Bool) → nat_lt p s.processors ≡ b → spots.bottoms s saved p ≡ spots.bottoms s ws p
      by true e = ap (λ (w : ℕ). (if nat_lt p s.processors then spots.restart_or (restart_of w) else spots.seeking).bottom) (renewal.renewed (RestartWord p) (ltb-true p s.processors e))
      by false e = ap (λ (b : Bool). (if b then spots.restart_or (restart_of (read s saved (RestartWord p))) else spots.seeking).bottom) e
          ∙ sym (ap (λ (b : Bool). (if b then spots.restart_or (restart_of (read s ws (RestartWord p))) else spots.seeking).bottom) e)

-- no place does anything where all processors are lost
in_none : (p : ℕ) (x : Standing) → (x ≡ IsLost) ⊎ (x ≡ IsDone) → is_in p x ≡ false
in_none p x (inl e) = ap (is_in p) e
in_none p x (inr e) = ap (is_in p) e

pub resting : (f : ℕ → Standing) → ((d : ℕ) → (f d ≡ IsLost) ⊎ (f d ≡ IsDone)) → (n p : ℕ) → doing_in f n p ≡ Resting
resting f lost zero p = refl
resting f lost (suc n) p = ap (λ (b : Bool). if b then doing_of (f n) else doing_in f n p) (in_none p (f n) (lost n)) ∙ resting f lost n p

module _ (s : Shape) (code : CodeParts) (places : s.takeover ≡ ByPlaces) (fair : IsFair code) (root : Tree (Frame FrameWord Point) Result) (input : Words) (state : RunState) (h : ℕ → Home) (forked taken : List ℕ) (t : Skeleton) (run : IsRun s code root input state h forked taken t)
    (saved : List ℕ) (renewal : IsRenewal s state.words saved) (none : NoOutcome (read s saved FinishWord)) where
  abbrev then_ : RunState
  then_ = opening saved s.processors

  all_lost : (d : ℕ) → (stand_of then_ d ≡ IsLost) ⊎ (stand_of then_ d ≡ IsDone)
  all_lost d = elim (lost_or s.processors d) [ inl a ↦ inl a.0 | inr a ↦ inr a ]

  -- the state by places then
  abbrev back : State
  back = record { words = written (view s state.words) FinishWord (read s saved FinishWord); kind = kinds_of s state.words; doing = λ p. Resting }

  back_is : places_of s then_ ≡ back
  back_is = λ k. record {
    words = view_back s state.words saved renewal k;
    kind = kinds_back s state.words saved renewal k;
    doing = fun_ext (λ p. resting (stand_of then_) all_lost s.processors p) k;
  }

  born_back : Births (setting s code) back (has forked)
  born_back = let b = (births_stay (setting s code) fair root input (places_of s state) t run.kept (has forked) run.born 0).stored FinishWord (read s saved FinishWord) IsLost tt in record { below = b.below; homes = b.homes }

  comes_back : IsRun s code root input then_ h forked taken t
  comes_back = record {
    lawful = resumes s code state saved h forked taken places run.lawful renewal;
    kept = subst (λ (z : State). IsKept (setting s code) root input z t) (sym back_is) (words_stay (setting s code) fair root input (places_of s state) t run.kept (read s saved FinishWord) none);
    agrees = run.agrees;
    last = λ r p held home. ap (λ (b : ℕ). b + 1) (bottoms_back s state.words saved renewal p) ∙ run.last r p held home;
    ready = λ p r f y b ke de. absurd (let e = ap (λ (z : State). z.doing p) (sym back_is) ∙ de in cc);
    broken = λ c p e. absurd (not_broken (stand_of then_ c) p (all_lost c) e);
    born = subst (λ (z : State). Births (setting s code) z (has forked)) (sym back_is) born_back;
  }

pub runs_come_back : RunsComeBack
runs_come_back s code places fair root input state h forked taken t run saved renewal none = comes_back s code places fair root input state h forked taken t run saved renewal none

module _ (s : Shape) (code : CodeParts) (places : s.takeover ≡ ByPlaces) (fair : IsFair code) (root : Tree (Frame FrameWord Point) Result) (input : Words) where
  in_parts : (parts : List Part) (state : RunState) (h : ℕ → Home) (f tk : List ℕ) (t : Skeleton) → IsRun s code root input state h f tk t
      → BehindParts s code (λ z g a b. EndsInParts s code root input z a b) state h f tk parts
  in_parts [] state h f tk t run = record {
    once = are_once h f tk run.lawful.1.counts;
    ends = λ finish says out. (t, runs_end s code root input state h f tk t run finish says out);
  }
  in_parts (Ran turns ∷ parts) state h f tk t run = λ all.
      let on = all_lead s code places fair root input state h f tk t turns all run in
      in_parts parts (after s code state turns) (homes s code state h turns) (forked_in s code state f turns) (taken_in s code state tk turns) on.0 on.1
  in_parts (CameBack saved ∷ parts) state h f tk t run = λ renewal none.
      in_parts parts (opening saved s.processors) h f tk t (runs_come_back s code places fair root input state h f tk t run saved renewal none)

pub parts_come_to : PartsComeTo
parts_come_to code input s keeper im places fair opens calm parts =
    in_parts s code places fair (root_strand code input) (arrays_at (view s im.words)) parts (opening im.words s.processors) (λ r. Unborn) [] []
    (Leaf (InPlace keeper) (Begins 0) (pool_at s keeper) (slots_of code code.root)) (runs_open code input s keeper im opens calm)
