-- A capsule under way with its log: what was noted, and the touches that are to come, are the touches of the whole.
use Rattle.std.proofs.Common.{◌≡◌, ◌<◌, ◌≤◌, ℕ, zero, suc, ◌+◌, ◌-◌, max, Bool, true, false, List, [], ◌∷◌, ◌++◌, length, get_or, refl, sym, ap, ◌∙◌}
use Rattle.std.proofs.Common.{arith, slice_set, Some, add-zero, zero-add}
use Rattle.std.specs.Prelude.{slice_get}
use Rattle.std.proofs.lemmas.Option.{slice_get_read}
use Rattle.std.proofs.lemmas.List.{append-nil, append_assoc}
use Rattle.ppm_strands.specs.Capsule.{Memory, store}
use Rattle.ppm_code.specs.declared.act.Act.{Act}
use Rattle.ppm_code.specs.declared.act.Act.TheVariants.{Sets, Passes, Jumps, Steps, Ends as Stops}
use Rattle.ppm_code.specs.declared.act.Step.{Step}
use Rattle.ppm_code.specs.declared.act.Step.TheVariants.{Loads, Stores, Asks}
use Rattle.ppm_code.specs.declared.instr.Instr.{Instr}
use Rattle.ppm_code.specs.declared.location.Location.{Location}
use Rattle.ppm_code.specs.declared.location.Location.TheVariants.{Frame, New, Array}
use Rattle.ppm_code.specs.Acts.{does}
use Rattle.ppm_code.specs.Locations.{Where, code_locations, location_of}
use Rattle.ppm_depth.specs.Store.{Shows, IsWithin, found, registers_after, blocks_after, words_after}
use Rattle.ppm_depth.specs.declared.store.Place.{Place}
use Rattle.ppm_depth.proofs.RestLemmas.{IsLaid, IsStepWithin, loaded, stored}
use Rattle.ppm_races.specs.Touches.{touches_at, touches_by, AreThere, after_step, after_act, touches_from}
use Rattle.ppm_races.specs.declared.touch.Touch.{Touch}

-- how the touches go on matters at later instructions alone
same_step : (p q : ℕ → List ℕ → Memory Where → List Touch) (next : ℕ) (s : Step) (g : List ℕ) (m : Memory Where)
    → ((t : ℕ) (h : List ℕ) (n : Memory Where) → next ≤ t → p t h n ≡ q t h n) → after_step p next s g m ≡ after_step q next s g m
same_step p q next (Loads l d) g m same = same next (slice_set g d.index (m (location_of l))) m (omega arith)
same_step p q next (Stores l v) g m same = same next g (store code_locations m (location_of l) v) (omega arith)
same_step p q next (Asks n) g m same = same next g m (omega arith)

-- for an act
same_act : (p q : ℕ → List ℕ → Memory Where → List Touch) (here : ℕ) (a : Act) (g : List ℕ) (m : Memory Where)
    → ((t : ℕ) (h : List ℕ) (n : Memory Where) → here + 1 ≤ t → p t h n ≡ q t h n) → after_act p here a g m ≡ after_act q here a g m
same_act p q here (Sets d v) g m same = same (here + 1) (slice_set g d.index v) m (omega arith)
same_act p q here Passes g m same = same (here + 1) g m (omega arith)
same_act p q here (Jumps t) g m same = same (max t (here + 1)) g m (omega arith)
same_act p q here (Steps s) g m same = ap (λ (ts : List Touch). touches_by s here ++ ts) (same_step p q (here + 1) s g m same)
same_act p q here (Stops e) g m same = refl

module _ (words : ℕ) where
  later : (here t : ℕ) (i : Instr) (is : List Instr) (h : List ℕ) (m : Memory Where) → here + 1 ≤ t
      → touches_from words (here + 1) (t - (here + 1)) is h m ≡ touches_from words here (t - here) (i ∷ is) h m
  later here t i is h m less =
      let e : t - here ≡ suc (t - (here + 1)) = omega arith in
      rw e refl

  -- the touches at the instruction past so many
  from_here : (here skip : ℕ) (is : List Instr) (g : List ℕ) (m : Memory Where) (i : Instr) → slice_get is skip ≡ Some i
      → touches_from words here skip is g m ≡ after_act (λ t h n. touches_from words here (t - here) is h n) (here + skip) (does words i g) g m
  from_here here skip [] g m i none = cc
  from_here here zero (j ∷ is) g m i one =
      let e : j ≡ i = cc in
      same_act (λ t h n. touches_from words (here + 1) (t - (here + 1)) is h n) (λ t h n. touches_from words here (t - here) (j ∷ is) h n)
      here (does words j g) g m (λ t h n less. later here t j is h n less)
      ∙ ap (λ (k : Instr). after_act (λ t h n. touches_from words here (t - here) (j ∷ is) h n) here (does words k g) g m) e
      ∙ ap (λ (k : ℕ). after_act (λ t h n. touches_from words here (t - here) (j ∷ is) h n) k (does words i g) g m) (sym (add-zero here))
  from_here here (suc skip) (j ∷ is) g m i some =
      let e : (here + 1) + skip ≡ here + suc skip = omega arith in
      from_here (here + 1) skip is g m i some
      ∙ ap (λ (k : ℕ). after_act (λ t h n. touches_from words (here + 1) (t - (here + 1)) is h n) k (does words i g) g m) e
      ∙ same_act (λ t h n. touches_from words (here + 1) (t - (here + 1)) is h n) (λ t h n. touches_from words here (t - here) (j ∷ is) h n)
      (here + suc skip) (does words i g) g m (λ t h n less. later here t j is h n (omega arith))

  -- past the last one there are none
  past : (here skip : ℕ) (is : List Instr) (g : List ℕ) (m : Memory Where) → length is ≤ skip → touches_from words here skip is g m ≡ []
  past here skip [] g m h = refl
  past here zero (j ∷ is) g m h = absurd (omega arith)
  past here (suc skip) (j ∷ is) g m h = past (here + 1) skip is g m (omega arith)

  -- the touches at an instruction
  at_instr : (at : ℕ) (is : List Instr) (g : List ℕ) (m : Memory Where) (i : Instr) → slice_get is at ≡ Some i
      → touches_from words 0 at is g m ≡ after_act (λ t h n. touches_from words 0 t is h n) at (does words i g) g m
  at_instr at is g m i some =
      from_here 0 at is g m i some
      ∙ ap (λ (k : ℕ). after_act (λ t h n. touches_from words 0 (t - 0) is h n) k (does words i g) g m) (zero-add at)
      ∙ same_act (λ t h n. touches_from words 0 (t - 0) is h n) (λ t h n. touches_from words 0 t is h n) at (does words i g) g m
      (λ t h n less. ap (λ (k : ℕ). touches_from words 0 k is h n) (omega arith))

module _ (slots size : ℕ) (p : Place) where
  -- what was noted, and the touches that are to come, are those of the whole
  pub record IsNoting (whole : List Touch) (blocks words : List ℕ) (log : List Touch) (rest : Memory Where → List Touch) : Type 0 where
    pub now : Memory Where
    pub shows : Shows slots size p blocks words now
    pub all : log ++ rest now ≡ whole

  module _ (whole : List Touch) where
    pub begins : (blocks words : List ℕ) (m : Memory Where) (rest : Memory Where → List Touch) → Shows slots size p blocks words m → rest m ≡ whole
        → IsNoting whole blocks words [] rest
    begins blocks words m rest shows is = record { now = m; shows = shows; all = is }

    -- a step is made
    step_noted_by : (s : Step) (at : ℕ) (go : ℕ → List ℕ → Memory Where → List Touch) (next : ℕ) (blocks words : List ℕ) (log : List Touch) (g : List ℕ)
        → IsLaid slots size p blocks → IsStepWithin slots size p (length words) s
        → IsNoting whole blocks words log (λ m. touches_by s at ++ after_step go next s g m)
        → IsNoting whole (blocks_after p s blocks) (words_after s words) (log ++ touches_by s at) (go next (registers_after p s blocks words g))
    step_noted_by (Loads l d) at go next blocks words log g laid within it = record {
      now = it.now;
      shows = it.shows;
      all = append_assoc log (touches_at l false at) (go next (slice_set g d.index (found p l blocks words)) it.now)
          ∙ ap (λ (v : ℕ). log ++ (touches_at l false at ++ go next (slice_set g d.index v) it.now))
          (sym (loaded slots size p l blocks words it.now it.shows within)) ∙ it.all;
    }
    step_noted_by (Stores l v) at go next blocks words log g laid within it = record {
      now = store code_locations it.now (location_of l) v;
      shows = stored slots size p l v blocks words it.now laid it.shows within;
      all = append_assoc log (touches_at l true at) (go next g (store code_locations it.now (location_of l) v)) ∙ it.all;
    }
    step_noted_by (Asks n) at go next blocks words log g laid within it = record {
      now = it.now;
      shows = it.shows;
      all = append_assoc log [] (go next g it.now) ∙ it.all;
    }

    -- a step, with the words and registers named
    pub notes_step : (s : Step) (at : ℕ) (go : ℕ → List ℕ → Memory Where → List Touch) (next : ℕ) (blocks words g blocks' words' g' : List ℕ)
        (log log' : List Touch)
        → IsLaid slots size p blocks → IsStepWithin slots size p (length words) s → blocks' ≡ blocks_after p s blocks
        → words' ≡ words_after s words → g' ≡ registers_after p s blocks words g → log' ≡ log ++ touches_by s at
        → IsNoting whole blocks words log (λ m. touches_by s at ++ after_step go next s g m) → IsNoting whole blocks' words' log' (go next g')
    notes_step s at go next blocks words g blocks' words' g' log log' laid within is_blocks is_words is_registers is_log it =
        rw (is_blocks, is_words, is_registers, is_log) (step_noted_by s at go next blocks words log g laid within it)

    module _ (blocks words : List ℕ) (log : List Touch) (array_words at : ℕ) (is : List Instr) (g : List ℕ) where
      -- what an instruction does
      pub notes_act : (i : Instr) (a : Act) → at < length is → i ≡ get_or is at i → a ≡ does array_words i g
          → IsNoting whole blocks words log (λ m. touches_from array_words 0 at is g m)
          → IsNoting whole blocks words log (λ m. after_act (λ t h n. touches_from array_words 0 t is h n) at a g m)
      notes_act i a there read acts it = record {
        now = it.now;
        shows = it.shows;
        all = ap (λ (b : Act). log ++ after_act (λ t h n. touches_from array_words 0 t is h n) at b g it.now) acts
            ∙ ap (λ (ts : List Touch). log ++ ts) (sym (at_instr array_words at is g it.now i (slice_get_read is (length is) at i refl there read)))
            ∙ it.all;
      }

      -- past the last one nothing is to come
      pub notes_past : length is ≤ at → IsNoting whole blocks words log (λ m. touches_from array_words 0 at is g m)
          → IsNoting whole blocks words log (λ m. [])
      notes_past far it = record {
        now = it.now;
        shows = it.shows;
        all = ap (λ (ts : List Touch). log ++ ts) (sym (past array_words 0 at is g it.now far)) ∙ it.all;
      }

    -- nothing is to come: the log is whole
    pub log_whole : (blocks words : List ℕ) (log : List Touch) → IsNoting whole blocks words log (λ m. []) → log ≡ whole
    log_whole blocks words log it = sym (append-nil log) ∙ it.all

-- what is noted are array words
pub there_more : (n : ℕ) (log more : List Touch) → AreThere n log → AreThere n more → AreThere n (log ++ more)
there_more n [] more h k = k
there_more n (t ∷ log) more h k = (h.0, there_more n log more h.1 k)

-- what is noted of a location that is there
at_there : (slots size n : ℕ) (l : Location) (b : Bool) (at : ℕ) → IsWithin slots size n l → AreThere n (touches_at l b at)
at_there slots size n (Frame own) b at h = tt
at_there slots size n (New offset) b at h = tt
at_there slots size n (Array word) b at h = (h, tt)

-- and of a step
pub step_noted : (slots size : ℕ) (p : Place) (n : ℕ) (s : Step) (at : ℕ) → IsStepWithin slots size p n s → AreThere n (touches_by s at)
step_noted slots size p n (Loads l to) at h = at_there slots size n l false at h
step_noted slots size p n (Stores l v) at h = at_there slots size n l true at h
step_noted slots size p n (Asks k) at h = tt
