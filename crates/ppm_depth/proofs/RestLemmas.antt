-- A capsule under way in the stack: what is left of it comes to what the whole of it comes to.
use Rattle.std.proofs.Common.{◌≡◌, ◌<◌, ◌≤◌, ◌≢◌, ℕ, ◌+◌, Bool, true, false, List, length, get_or, set, refl, sym, ap, ◌∙◌, arith, cond, slice_set, inl, inr}
use Rattle.std.specs.Prelude.{◌==◌, ◌⊎◌}
use Rattle.std.proofs.lemmas.Bool.{eqb-true, eq-eqb}
use Rattle.std.proofs.lemmas.List.{get_or-set_same, get_or-set_other, length-set}
use Rattle.ppm_strands.specs.Capsule.{Capsule, Memory, store, ending, leaves, asked}
use Rattle.ppm_strands.specs.Strand.{Own, New as NewWord, Shared}
use Rattle.ppm_code.specs.declared.act.End.{End}
use Rattle.ppm_code.specs.declared.act.Step.{Step}
use Rattle.ppm_code.specs.declared.act.Step.TheVariants.{Loads, Stores, Asks}
use Rattle.ppm_code.specs.declared.location.Location.{Location}
use Rattle.ppm_code.specs.declared.location.Location.TheVariants.{Frame, New, Array}
use Rattle.ppm_code.specs.declared.location.FrameWord.TheVariants.{Slot, Value}
use Rattle.ppm_code.specs.Capsules.{at_step}
use Rattle.ppm_code.specs.Locations.{Where, code_locations, location_of}
use Rattle.ppm_depth.specs.Store.{Shows, IsThere, IsStepThere, IsWithin, own_at, found, blocks_with, words_with, registers_after, blocks_after, words_after, asked_by}
use Rattle.ppm_depth.specs.Whole.{Keeps}
use Rattle.ppm_depth.specs.declared.store.Place.{Place}

-- a word is put among words, and another is not
pub put_word : (b : Bool) (xs : List ℕ) (at x v w : ℕ) → at < length xs → (b ≡ true → x ≡ at) → (b ≡ false → x ≢ at) → w ≡ get_or xs x 0
    → cond b v w ≡ get_or (set xs at v) x 0
put_word true xs at x v w less same other before =
    sym (ap (λ (y : ℕ). get_or (set xs at v) y 0) (same refl) ∙ get_or-set_same xs at v 0 less)
put_word false xs at x v w less same other before = before ∙ sym (get_or-set_other xs at x v 0 (other refl))

-- numbers are one where they test so
pub is_number : (i j : ℕ) → (j == i) ≡ true → j ≡ i
is_number i j e = eqb-true j i e

pub is_no_number : (i j : ℕ) → (j == i) ≡ false → j ≢ i
is_no_number i j e same = let yes = eq-eqb j i same in cc

module _ (slots size : ℕ) (p : Place) where
  -- the frame lies before the block, and the block in the stack
  pub record IsLaid (blocks : List ℕ) : Type 0 where
    pub frame : p.frame + (6 + slots) ≤ p.block
    pub block : p.block + size ≡ length blocks

  -- a location within is there
  pub within_there : (l : Location) (blocks words : List ℕ) → IsLaid blocks → IsWithin slots size (length words) l → IsThere p l blocks words
  within_there (Frame (Slot slot)) blocks words laid h = omega (arith, laid.frame, laid.block, h)
  within_there (Frame Value) blocks words laid h = omega (arith, laid.frame, laid.block)
  within_there (New offset) blocks words laid h = omega (arith, laid.block, h)
  within_there (Array index) blocks words laid h = h

  -- the memory has the word that is found
  pub loaded : (l : Location) (blocks words : List ℕ) (m : Memory Where) → Shows slots size p blocks words m → IsWithin slots size (length words) l
      → m (location_of l) ≡ found p l blocks words
  loaded (Frame (Slot slot)) blocks words m s h = s.slot slot h
  loaded (Frame Value) blocks words m s h = s.value
  loaded (New offset) blocks words m s h = s.new offset h
  loaded (Array index) blocks words m s h = s.shared index

  -- what is put is put in the memory
  pub stored : (l : Location) (v : ℕ) (blocks words : List ℕ) (m : Memory Where) → IsLaid blocks → Shows slots size p blocks words m
      → IsWithin slots size (length words) l
      → Shows slots size p (blocks_with p l v blocks) (words_with l v words) (store code_locations m (location_of l) v)
  stored (Frame (Slot i)) v blocks words m laid s h = record {
    slot = λ j less. put_word (j == i) blocks (own_at p.frame (Slot i)) (own_at p.frame (Slot j)) v (m (Own (Slot j)))
        (omega (arith, laid.frame, laid.block, h)) (λ e. let same = is_number i j e in omega (arith, same))
        (λ e x. is_no_number i j e (omega (arith, x))) (s.slot j less);
    value = put_word false blocks (own_at p.frame (Slot i)) (own_at p.frame Value) v (m (Own Value))
        (omega (arith, laid.frame, laid.block, h)) (λ e. absurd cc) (λ e x. omega (arith, x)) s.value;
    new = λ o less. put_word false blocks (own_at p.frame (Slot i)) (p.block + o) v (m (NewWord o))
        (omega (arith, laid.frame, laid.block, h)) (λ e. absurd cc) (λ e x. omega (arith, x, laid.frame, h)) (s.new o less);
    shared = s.shared;
  }
  stored (Frame Value) v blocks words m laid s h = record {
    slot = λ j less. put_word false blocks (own_at p.frame Value) (own_at p.frame (Slot j)) v (m (Own (Slot j)))
        (omega (arith, laid.frame, laid.block)) (λ e. absurd cc) (λ e x. omega (arith, x)) (s.slot j less);
    value = put_word true blocks (own_at p.frame Value) (own_at p.frame Value) v (m (Own Value))
        (omega (arith, laid.frame, laid.block)) (λ e. refl) (λ e. absurd cc) s.value;
    new = λ o less. put_word false blocks (own_at p.frame Value) (p.block + o) v (m (NewWord o))
        (omega (arith, laid.frame, laid.block)) (λ e. absurd cc) (λ e x. omega (arith, x, laid.frame)) (s.new o less);
    shared = s.shared;
  }
  stored (New i) v blocks words m laid s h = record {
    slot = λ j less. put_word false blocks (p.block + i) (own_at p.frame (Slot j)) v (m (Own (Slot j)))
        (omega (arith, laid.block, h)) (λ e. absurd cc) (λ e x. omega (arith, x, laid.frame, less)) (s.slot j less);
    value = put_word false blocks (p.block + i) (own_at p.frame Value) v (m (Own Value))
        (omega (arith, laid.block, h)) (λ e. absurd cc) (λ e x. omega (arith, x, laid.frame)) s.value;
    new = λ o less. put_word (o == i) blocks (p.block + i) (p.block + o) v (m (NewWord o))
        (omega (arith, laid.block, h)) (λ e. let same = is_number i o e in omega (arith, same))
        (λ e x. is_no_number i o e (omega (arith, x))) (s.new o less);
    shared = s.shared;
  }
  stored (Array i) v blocks words m laid s h = record {
    slot = s.slot;
    value = s.value;
    new = s.new;
    shared = λ j. put_word (j == i) words i j v (m (Shared j)) h (is_number i j) (is_no_number i j) (s.shared j);
  }

  -- the stack keeps its length, and what lies outside the frame and the block
  pub keeps_lengths : (l : Location) (v : ℕ) (blocks : List ℕ) → length (blocks_with p l v blocks) ≡ length blocks
  keeps_lengths (Frame own) v blocks = length-set blocks (own_at p.frame own) v
  keeps_lengths (New o) v blocks = length-set blocks (p.block + o) v
  keeps_lengths (Array i) v blocks = refl

  pub keeps_words : (l : Location) (v : ℕ) (words : List ℕ) → length (words_with l v words) ≡ length words
  keeps_words (Frame own) v words = refl
  keeps_words (New o) v words = refl
  keeps_words (Array i) v words = length-set words i v

  pub keeps_others : (l : Location) (v : ℕ) (blocks words : List ℕ) → IsWithin slots size (length words) l
      → (x : ℕ) → (x < p.frame) ⊎ (p.frame + (6 + slots) ≤ x) → x < p.block → get_or (blocks_with p l v blocks) x 0 ≡ get_or blocks x 0
  keeps_others (Frame (Slot i)) v blocks words h x (inl out) below = get_or-set_other blocks (own_at p.frame (Slot i)) x v 0 (λ e. omega (arith, e, out))
  keeps_others (Frame (Slot i)) v blocks words h x (inr out) below = get_or-set_other blocks (own_at p.frame (Slot i)) x v 0 (λ e. omega (arith, e, out, h))
  keeps_others (Frame Value) v blocks words h x (inl out) below = get_or-set_other blocks (own_at p.frame Value) x v 0 (λ e. omega (arith, e, out))
  keeps_others (Frame Value) v blocks words h x (inr out) below = get_or-set_other blocks (own_at p.frame Value) x v 0 (λ e. omega (arith, e, out))
  keeps_others (New o) v blocks words h x out below = get_or-set_other blocks (p.block + o) x v 0 (λ e. omega (arith, e, below))
  keeps_others (Array i) v blocks words h x out below = refl

  -- a step within
  abbrev pub IsStepWithin : (array_words : ℕ) → Step → Type 0
  IsStepWithin array_words (Loads l to) = IsWithin slots size array_words l
  IsStepWithin array_words (Stores l v) = IsWithin slots size array_words l
  IsStepWithin array_words (Asks n) = Unit {0}

  -- what is left of a capsule, with so many words asked for, comes to what the whole comes to from a memory
  pub record IsLeft (whole : Capsule Where End) (m : Memory Where) (so_far : ℕ) (blocks words : List ℕ) (rest : Capsule Where End) : Type 0 where
    pub now : Memory Where
    pub end : ending code_locations rest now ≡ ending code_locations whole m
    pub memory : leaves code_locations rest now ≡ leaves code_locations whole m
    pub asks : so_far + asked code_locations rest now ≡ asked code_locations whole m
    pub shows : Shows slots size p blocks words now

  module _ (whole : Capsule Where End) (m : Memory Where) where
    -- a step is made
    pub step_left : (s : Step) (go : ℕ → List ℕ → Capsule Where End) (next so_far : ℕ) (blocks words g : List ℕ) → IsLaid blocks
        → IsStepWithin (length words) s → IsLeft whole m so_far blocks words (at_step go next s g)
        → IsLeft whole m (so_far + asked_by s) (blocks_after p s blocks) (words_after s words) (go next (registers_after p s blocks words g))
    step_left (Loads l to) go next so_far blocks words g laid within left =
        let same : go next (slice_set g to.index (left.now (location_of l))) ≡ go next (slice_set g to.index (found p l blocks words)) =
        ap (λ (v : ℕ). go next (slice_set g to.index v)) (loaded l blocks words left.now left.shows within) in
        record {
          now = left.now;
          end = sym (ap (λ (c : Capsule Where End). ending code_locations c left.now) same) ∙ left.end;
          memory = sym (ap (λ (c : Capsule Where End). leaves code_locations c left.now) same) ∙ left.memory;
          asks =
              let count = sym (ap (λ (c : Capsule Where End). asked code_locations c left.now) same) in
              let all = left.asks in
              omega (arith, count, all);
          shows = left.shows;
        }
    step_left (Stores l v) go next so_far blocks words g laid within left = record {
      now = store code_locations left.now (location_of l) v;
      end = left.end;
      memory = left.memory;
      asks = let all = left.asks in omega (arith, all);
      shows = stored l v blocks words left.now laid left.shows within;
    }
    step_left (Asks n) go next so_far blocks words g laid within left = record {
      now = left.now;
      end = left.end;
      memory = left.memory;
      asks = let all = left.asks in omega (arith, all);
      shows = left.shows;
    }

    -- a step is made, where stack, words, registers and count are those after it
    pub stepped : (s : Step) (go : ℕ → List ℕ → Capsule Where End) (next so_far count : ℕ) (blocks words g blocks' words' g' : List ℕ)
        → IsLaid blocks → IsStepWithin (length words) s → count ≡ asked_by s → blocks' ≡ blocks_after p s blocks
        → words' ≡ words_after s words → g' ≡ registers_after p s blocks words g
        → IsLeft whole m so_far blocks words (at_step go next s g) → IsLeft whole m (so_far + count) blocks' words' (go next g')
    stepped s go next so_far count blocks words g blocks' words' g' laid within counts is_blocks is_words is_registers left =
        rw (counts, is_blocks, is_words, is_registers) (step_left s go next so_far blocks words g laid within left)

  -- where a step within is made all is there
  pub step_there : (s : Step) (blocks words : List ℕ) → IsLaid blocks → IsStepWithin (length words) s → IsStepThere p s blocks words
  step_there (Loads l to) blocks words laid h = within_there l blocks words laid h
  step_there (Stores l v) blocks words laid h = within_there l blocks words laid h
  step_there (Asks n) blocks words laid h = tt

  -- what a step keeps
  pub step_keeps : (s : Step) (old blocks words : List ℕ) → IsStepWithin (length words) s → Keeps p (6 + slots) old blocks
      → Keeps p (6 + slots) old (blocks_after p s blocks)
  step_keeps (Loads l to) old blocks words h keeps = keeps
  step_keeps (Stores l v) old blocks words h keeps = record {
    length = keeps_lengths l v blocks ∙ keeps.length;
    others = λ x out below. keeps_others l v blocks words h x out below ∙ keeps.others x out below;
  }
  step_keeps (Asks n) old blocks words h keeps = keeps

  pub step_keeps_words : (s : Step) (words : List ℕ) → length (words_after s words) ≡ length words
  step_keeps_words (Loads l to) words = refl
  step_keeps_words (Stores l v) words = keeps_words l v words
  step_keeps_words (Asks n) words = refl
