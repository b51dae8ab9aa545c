-- A capsule of the code makes one step of the RAM.
use Rattle.std.proofs.Common.{◌≡◌, ◌∙◌, ◌<◌, ℕ, zero, suc, ◌+◌, ◌*◌, ◌^◌, ◌==◌, Bool, true, false, cond, ℤ, pos, negsuc, List, [], ◌∷◌, get_or, set, length}
use Rattle.std.proofs.Common.{Option, Some, None, Result, Ok, Err, refl, sym, ap, ap₂, subst, arith}
use Rattle.std.specs.Prelude.{slice_index, slice_set, replicate, ◌-◌, FitsSigned}
use Rattle.std.specs.Int.{w64}
use Rattle.std.specs.Ordering.{int_eq}
use Rattle.std.proofs.lemmas.Bool.{eqb-true, eqb-false}
use Rattle.std.proofs.lemmas.List.{get_or-set_same, get_or-set_other, length-set}
use Rattle.ppm_words.specs.TwosComplement.{word_of, value_of}
use Rattle.ppm_words.specs.declared.trap.Trap.{Trap}
use Rattle.ppm_words.specs.declared.trap.Trap.TheVariants as trap
use Rattle.ppm_words.proofs.TwosComplementLemmas.{value_of-word_of}
use Rattle.ppm_strands.specs.Tree.{Words, Tree, Strand, Over}
use Rattle.ppm_strands.specs.Capsule.{Capsule, Ends, Memory, store}
use Rattle.ppm_strands.specs.Strand.{Own, Shared, Frame, code_of as strands_in, start, own_of, new_of, shared_of}
use Rattle.ppm_code.specs.declared.act.Act.{Act}
use Rattle.ppm_code.specs.declared.act.Act.TheVariants.{Sets, Passes, Jumps, Steps}
use Rattle.ppm_code.specs.declared.act.Step.TheVariants.{Loads, Stores}
use Rattle.ppm_code.specs.declared.act.End.{End}
use Rattle.ppm_code.specs.declared.act.End.TheVariants.{Next, Finish, Trap as Trapping}
use Rattle.ppm_code.specs.declared.instr.Instr.{Instr}
use Rattle.ppm_code.specs.declared.instr.Instr.TheVariants as instr
use Rattle.ppm_code.specs.declared.location.Location.TheVariants.{Array}
use Rattle.ppm_code.specs.declared.location.FrameWord.{FrameWord}
use Rattle.ppm_code.specs.declared.location.FrameWord.TheVariants.{Slot, Value}
use Rattle.ppm_code.specs.Acts.{does as acts_by, held as held_word, at_element, element_of, traps}
use Rattle.ppm_code.specs.Locations.{Where, code_locations}
use Rattle.ppm_code.specs.Capsules.{at_act, capsule_from, capsule_of}
use Rattle.ppm_code.specs.Strands.{Point, Result as FrameResult, Gave, Trapped as TrappedBy, at_capsule, opens, table_of}
use Rattle.ppm_ram.specs.declared.register.Register.{Register as RamRegister}
use Rattle.ppm_ram.specs.declared.instruction.Instruction.{Instruction}
use Rattle.ppm_ram.specs.declared.instruction.Instruction.TheVariants as instruction
use Rattle.ppm_ram.specs.declared.instruction.Operation.{Operation}
use Rattle.ppm_ram.specs.declared.ram.RamParts.{RamParts}
use Rattle.ppm_ram.specs.Limits.{line_of}
use Rattle.ppm_ram.specs.Program.{has_value}
use Rattle.ppm_ram.specs.Meaning.{State, Move, GoesOn, Stops, Halted, Trapped, held, gone_to, with_register, with_memory, computed, index_of, loaded, stored, does, applied_by}
use Rattle.ppm_ram_code.specs.declared.bank.Bank.{Bank}
use Rattle.ppm_ram_code.specs.declared.bank.Bank.TheVariants.{First, Second}
use Rattle.ppm_ram_code.specs.Code.{other, slot_of, capsule_at, register, region, own, loads, stores, onward, operation_instr, instrs_for, code_of}
use Rattle.ppm_ram_code.proofs.CapsuleLemmas.{Goes, goes_on, goes_equal, taken, taken_at, written, written_at, written_region, with_region}
use Rattle.ppm_ram_code.proofs.CapsuleLemmas.{front, back, back_later, sets, stops, gets, stops_later}
use Rattle.ppm_ram_code.proofs.WordLemmas.{fits_signed, own_index, zero_word, Gives, operation_gives, element_is, index_there}

-- words are those of a memory of values
pub record IsStored (memory : List ℤ) (a : Words) : Type 0 where
  pub words : (x : ℕ) → a x ≡ word_of (get_or memory x (pos 0))
  pub values : (x : ℕ) → FitsSigned w64 (get_or memory x (pos 0))

-- a frame and words stand for a state, with the registers in a copy; the memory has so many words
pub record Shows (W : ℕ) (b : Bank) (s : State) (f : FrameWord → ℕ) (a : Words) : Type 0 where
  pub region : f (Slot 0) ≡ W
  pub registers : (k : ℕ) → k < 8 → f (Slot (slot_of b k)) ≡ word_of (get_or s.registers k (pos 0))
  pub count : length s.registers ≡ 8
  pub values : (k : ℕ) → FitsSigned w64 (get_or s.registers k (pos 0))
  pub memory : IsStored s.memory a
  pub size : length s.memory ≡ W

-- the frame that goes on at an instruction
abbrev pub frame_at : ℕ → Bank → (FrameWord → ℕ) → Frame FrameWord Point
frame_at at b f = record { own = f; point = at_capsule (capsule_at at b) }

-- a tree and words are what a move leads to
abbrev pub Comes : (W : ℕ) → Move → Tree (Frame FrameWord Point) FrameResult → Words → Type 0
Comes W (GoesOn t) tree a = (b : Bank) × (f : FrameWord → ℕ) × (tree ≡ Strand (frame_at t.at b f)) × Shows W b t f a
Comes W (Stops (Halted memory)) tree a = (v : ℕ) × (tree ≡ Over (Gave v)) × IsStored memory a × (length memory ≡ W)
Comes W (Stops (Trapped t line)) tree a = tree ≡ Over (TrappedBy t line)

-- a value in a list is one
set_value : (xs : List ℤ) (n : ℕ) (z : ℤ) → FitsSigned w64 z → ((k : ℕ) → FitsSigned w64 (get_or xs k (pos 0)))
    → n < length xs → (k : ℕ) → FitsSigned w64 (get_or (set xs n z) k (pos 0))
set_value xs n z fit all low k = by (k == n) refl
  where
    by : (b : Bool) → (k == n) ≡ b → FitsSigned w64 (get_or (set xs n z) k (pos 0))
    by true e =
        subst (λ (v : ℤ). FitsSigned w64 v)
        (sym (ap (λ (j : ℕ). get_or (set xs n z) j (pos 0)) (eqb-true k n e) ∙ get_or-set_same xs n z (pos 0) low)) fit
    by false e = subst (λ (v : ℤ). FitsSigned w64 v) (sym (get_or-set_other xs n k z (pos 0) (eqb-false k n e))) (all k)

-- the words of a list with a value set
set_words : (xs : List ℤ) (n : ℕ) (z : ℤ) (k : ℕ) → n < length xs
    → word_of (get_or (set xs n z) k (pos 0)) ≡ cond (k == n) (word_of z) (word_of (get_or xs k (pos 0)))
set_words xs n z k low = by (k == n) refl
  where
    by : (b : Bool) → (k == n) ≡ b → word_of (get_or (set xs n z) k (pos 0)) ≡ cond b (word_of z) (word_of (get_or xs k (pos 0)))
    by true e = ap word_of (ap (λ (j : ℕ). get_or (set xs n z) j (pos 0)) (eqb-true k n e) ∙ get_or-set_same xs n z (pos 0) low)
    by false e = ap word_of (get_or-set_other xs n k z (pos 0) (eqb-false k n e))

set_numbers : (xs : List ℕ) (n w k : ℕ) → n < length xs → slice_index (slice_set xs n w) k ≡ cond (k == n) w (slice_index xs k)
set_numbers xs n w k low = by (k == n) refl
  where
    by : (b : Bool) → (k == n) ≡ b → slice_index (slice_set xs n w) k ≡ cond b w (slice_index xs k)
    by true e = ap (slice_index (slice_set xs n w)) (eqb-true k n e) ∙ get_or-set_same xs n w 0 low
    by false e = get_or-set_other xs n k w 0 (eqb-false k n e)

module _ (r : RamParts) (W : ℕ) (low : W < 2 ^ 32) (b : Bank) (s : State) (f : FrameWord → ℕ) (a : Words) (shows : Shows W b s f a) where
  abbrev pub m : Memory Where
  m = start code_locations (table_of (code_of r) W) (frame_at s.at b f) a

  -- registers that were read, with those of the RAM as the first ones
  record Reads (h : List ℕ) : Type 0 where
    pub first : (k : ℕ) → k < 8 → slice_index h k ≡ word_of (get_or s.registers k (pos 0))
    pub count : length h ≡ 64

  taken_reads : Reads (taken b m)
  taken_reads = record { first = λ k h. taken_at b m k h ∙ shows.registers k h; count = refl }

  region_reads : Reads (with_region W b m)
  region_reads = record {
    first = λ k h. get_or-set_other (taken b m) 8 k (m (Own (Slot 0))) 0 (λ e. omega (arith, h, e)) ∙ taken_at b m k h ∙ shows.registers k h;
    count = length-set (taken b m) 8 (m (Own (Slot 0)));
  }

  module _ (h : List ℕ) (reads : Reads h) where
    -- the value of a register
    held_is : (x : RamRegister) → held_word h (own x) ≡ word_of (held s x)
    held_is x = ap (slice_index h) (own_index x) ∙ reads.first x.index x.in_range

    held_value : (x : RamRegister) → value_of (held_word h (own x)) ≡ held s x
    held_value x = ap value_of (held_is x) ∙ value_of-word_of (held s x) (shows.values x.index)

    -- a value was put into a register, and all were written into a copy
    register_set : (c : Bank) (to : RamRegister) (z : ℤ) → FitsSigned w64 z
        → Shows W c (with_register s to z) (own_of (written c (slice_set h (own to).index (word_of z)) m))
        (shared_of (written c (slice_set h (own to).index (word_of z)) m))
    register_set c to z fit = record {
      region = written_region c g m ∙ shows.region;
      registers = λ k small. written_at c g m k small ∙ ap (λ (n : ℕ). slice_index (slice_set h n (word_of z)) k) (own_index to)
          ∙ set_numbers h to.index (word_of z) k (omega (arith, reads.count, to.in_range))
          ∙ ap (cond (k == to.index) (word_of z)) (reads.first k small)
          ∙ sym (set_words s.registers to.index z k (omega (arith, shows.count, to.in_range)));
      count = length-set s.registers to.index z ∙ shows.count;
      values = set_value s.registers to.index z fit shows.values (omega (arith, shows.count, to.in_range));
      memory = record { words = shows.memory.words; values = shows.memory.values };
      size = shows.size;
    }
      where
        g : List ℕ
        g = slice_set h (own to).index (word_of z)

  -- what a capsule of the frame comes to
  abbrev pub Leads : List Instr → Move → Type 0
  Leads is move = (e : End) × (n : Memory Where) × Goes (capsule_of W is) m (Ends e) n
      × Comes W move (opens (code_of r) e (own_of n) (new_of n)) (shared_of n)

  set_leads : (to : RamRegister) (z : ℤ) → FitsSigned w64 z → Leads (instrs_for s.at b (instruction.Set to z)) (GoesOn (with_register s to z))
  set_leads to z fit =
      let h = slice_set (taken b m) (own to).index (word_of z) in (
        Next (capsule_at (s.at + 1) (other b)),
        written (other b) h m,
        goes_on (sets W b (instr.Const (own to) z) (stores (s.at + 1) (other b)) m (own to) (word_of z) refl) (back W (other b) (s.at + 1) h m),
        (other b, own_of (written (other b) h m), refl, register_set (taken b m) taken_reads (other b) to z fit),
      )

  compute_leads : (o : Operation) (to x y : RamRegister)
      → Leads (instrs_for s.at b (instruction.Compute o to x y)) (computed s to (applied_by o (held s x) (held s y)))
  compute_leads o to x y = by (applied_by o (held s x) (held s y)) gives
    where
      i : Instr
      i = operation_instr o (own to) (own x) (own y) (line_of s.at)

      gives : Gives (line_of s.at) (own to) (applied_by o (held s x) (held s y)) (acts_by W i (taken b m))
      gives =
          operation_gives W (line_of s.at) (taken b m) (own to) (own x) (own y) (held s x) (held s y) (held_value (taken b m) taken_reads x)
          (held_value (taken b m) taken_reads y) (shows.values y.index) o

      by : (v : Result ℤ Trap) → Gives (line_of s.at) (own to) v (acts_by W i (taken b m))
          → Leads (loads b (i ∷ stores (s.at + 1) (other b))) (computed s to v)
      by (Ok z) (e, fit) =
          let h = slice_set (taken b m) (own to).index (word_of z) in (
            Next (capsule_at (s.at + 1) (other b)),
            written (other b) h m,
            goes_on (sets W b i (stores (s.at + 1) (other b)) m (own to) (word_of z) e) (back W (other b) (s.at + 1) h m),
            (other b, own_of (written (other b) h m), refl, register_set (taken b m) taken_reads (other b) to z fit),
          )
      by (Err t) e = (Trapping t (line_of s.at), m, stops W b i (stores (s.at + 1) (other b)) m (Trapping t (line_of s.at)) e, refl)

  -- the array word that a value names
  element_named : (x : RamRegister) (h : List ℕ) (word : ℕ) → word ≡ word_of (held s x) → slice_index h 8 ≡ W
      → element_of W (slice_index h 8) word ≡ index_of s.memory (held s x)
  element_named x h word e is =
      ap₂ (element_of W) is e
      ∙ ap (λ (n : ℕ). element_of n n (word_of (held s x))) (sym shows.size)
      ∙ element_is s.memory (held s x) (shows.values x.index) (omega (arith, low, shows.size))

  load_leads : (to x : RamRegister) → Leads (instrs_for s.at b (instruction.Load to x)) (loaded s to (index_of s.memory (held s x)))
  load_leads to x = by (index_of s.memory (held s x)) refl
    where
      i : Instr
      i = instr.Get (own to) region (own x) (line_of s.at)

      h : List ℕ
      h = with_region W b m

      at : (v : Option ℕ) → index_of s.memory (held s x) ≡ v
          → acts_by W i h ≡ at_element (line_of s.at) v (λ n. Loads (Array n) (own to))
      at v e =
          ap (λ v. at_element (line_of s.at) v (λ n. Loads (Array n) (own to)))
          (element_named x h (held_word h (own x)) (held_is h region_reads x) (get_or-set_same (taken b m) 8 (m (Own (Slot 0))) 0 (let c = taken_reads.count in omega (arith, c)) ∙ shows.region) ∙ e)

      by : (v : Option ℕ) → index_of s.memory (held s x) ≡ v → Leads (loads b (instr.LoadSlot region 0 ∷ i ∷ stores (s.at + 1) (other b))) (loaded s to v)
      by None e = (Trapping trap.Index (line_of s.at), m, stops_later W b i (stores (s.at + 1) (other b)) m (Trapping trap.Index (line_of s.at)) (at None e), refl)
      by (Some n) e =
          let z = get_or s.memory n (pos 0) in
          let g = slice_set h (own to).index (word_of z) in
          let read = gets W b i (stores (s.at + 1) (other b)) m (own to) n (at (Some n) e) in (
            Next (capsule_at (s.at + 1) (other b)),
            written (other b) g m,
            goes_on (subst (λ (w : ℕ). Goes (capsule_of W (loads b (instr.LoadSlot region 0 ∷ i ∷ stores (s.at + 1) (other b)))) m
                (capsule_from W 10 0 (stores (s.at + 1) (other b)) (slice_set h (own to).index w)) m) (shows.memory.words n) read)
                (back_later W (other b) (s.at + 1) g m),
            (other b, own_of (written (other b) g m), refl, register_set h region_reads (other b) to z (shows.memory.values n)),
          )

  -- a memory with a word set
  abbrev with_word : ℕ → ℕ → Memory Where
  with_word n w = store code_locations m (Shared n) w

  word_set : (n : ℕ) (z : ℤ) → FitsSigned w64 z → n < length s.memory
      → Shows W b (with_memory s n z) (own_of (with_word n (word_of z))) (shared_of (with_word n (word_of z)))
  word_set n z fit there = record {
    region = shows.region;
    registers = shows.registers;
    count = shows.count;
    values = shows.values;
    memory = record {
      words = λ x. ap (cond (x == n) (word_of z)) (shows.memory.words x) ∙ sym (set_words s.memory n z x there);
      values = set_value s.memory n z fit shows.memory.values there;
    };
    size = length-set s.memory n z ∙ shows.size;
  }

  store_leads : (x y : RamRegister) → Leads (instrs_for s.at b (instruction.Store x y)) (stored s (held s y) (index_of s.memory (held s x)))
  store_leads x y = by (index_of s.memory (held s x)) refl
    where
      i : Instr
      i = instr.Put region (register 0) (register 1) (line_of s.at)

      x_word : ℕ
      x_word = f (Slot (slot_of b x.index))

      y_word : ℕ
      y_word = f (Slot (slot_of b y.index))

      -- the registers when the word is stored
      g : List ℕ
      g = slice_set (slice_set (slice_set (replicate 64 0) 8 (f (Slot 0))) 0 x_word) 1 y_word

      after : Act → Capsule Where End
      after act = at_act (λ t h. capsule_from W 4 (t - 4) (onward (s.at + 1) b) h) 4 act g

      act_of : Option ℕ → Act
      act_of v = at_element (line_of s.at) v (λ n. Stores (Array n) y_word)

      begun : Goes (capsule_of W (instrs_for s.at b (instruction.Store x y))) m (after (act_of (element_of W (f (Slot 0)) x_word))) m
      begun = record { ends = refl; left = refl; asks = refl }

      found : (v : Option ℕ) → index_of s.memory (held s x) ≡ v → element_of W (f (Slot 0)) x_word ≡ v
      found v e =
          ap₂ (element_of W) shows.region (shows.registers x.index x.in_range)
          ∙ ap (λ (n : ℕ). element_of n n (word_of (held s x))) (sym shows.size)
          ∙ element_is s.memory (held s x) (shows.values x.index) (omega (arith, low, shows.size)) ∙ e

      acted : (v : Option ℕ) → index_of s.memory (held s x) ≡ v → Goes (capsule_of W (instrs_for s.at b (instruction.Store x y))) m (after (act_of v)) m
      acted v e = goes_on begun (goes_equal _ _ m (ap (λ (v : Option ℕ). after (act_of v)) (found v e)))

      put : (n : ℕ) → Goes (after (act_of (Some n))) m (Ends (Next (capsule_at (s.at + 1) b))) (with_word n y_word)
      put n = record { ends = refl; left = refl; asks = refl }

      by : (v : Option ℕ) → index_of s.memory (held s x) ≡ v → Leads (instrs_for s.at b (instruction.Store x y)) (stored s (held s y) v)
      by None e = (Trapping trap.Index (line_of s.at), m, acted None e, refl)
      by (Some n) e =
          let K = Next (capsule_at (s.at + 1) b) in
          let z = held s y in (
            K,
            with_word n (word_of z),
            subst (λ (w : ℕ). Goes (capsule_of W (instrs_for s.at b (instruction.Store x y))) m (Ends K) (with_word n w))
                (shows.registers y.index y.in_range) (goes_on (acted (Some n) e) (put n)),
            (b, own_of (with_word n (word_of z)), refl, word_set n z (shows.values y.index) (index_there s.memory (held s x) n e)),
          )

  -- the frame goes on elsewhere, with the same registers and memory
  same_state : (target : ℕ) → Shows W b (gone_to s target) f a
  same_state target = record {
    region = shows.region;
    registers = shows.registers;
    count = shows.count;
    values = shows.values;
    memory = shows.memory;
    size = shows.size;
  }

  gone_leads : (is : List Instr) (target : ℕ) → Goes (capsule_of W is) m (Ends (Next (capsule_at target b))) m → Leads is (GoesOn (gone_to s target))
  gone_leads is target goes = (Next (capsule_at target b), m, goes, (b, f, refl, same_state target))

  test_leads : (x : RamRegister) (target : ℕ)
      → Leads (instrs_for s.at b (instruction.JumpIfZero x target)) (GoesOn (gone_to s (cond (int_eq (held s x) (pos 0)) target (s.at + 1))))
  test_leads x target = by (int_eq (held s x) (pos 0)) refl
    where
      word : ℕ
      word = f (Slot (slot_of b x.index))

      g : List ℕ
      g = slice_set (replicate 64 0) 0 word

      after : Bool → Capsule Where End
      after v = at_act (λ t h. capsule_from W 2 (t - 2) (instr.Ends (Next (capsule_at target b)) ∷ onward (s.at + 1) b) h) 2
          (cond v Passes (Jumps 3)) g

      begun : Goes (capsule_of W (instrs_for s.at b (instruction.JumpIfZero x target))) m (after (word == 0)) m
      begun = record { ends = refl; left = refl; asks = refl }

      is_zero : (v : Bool) → int_eq (held s x) (pos 0) ≡ v → (word == 0) ≡ v
      is_zero v e = ap (λ (w : ℕ). w == 0) (shows.registers x.index x.in_range) ∙ zero_word (held s x) (shows.values x.index) ∙ e

      by : (v : Bool) → int_eq (held s x) (pos 0) ≡ v
          → Leads (instrs_for s.at b (instruction.JumpIfZero x target)) (GoesOn (gone_to s (cond v target (s.at + 1))))
      by true e = gone_leads (instrs_for s.at b (instruction.JumpIfZero x target)) target (goes_on begun (goes_equal _ _ m (ap after (is_zero true e))))
      by false e = gone_leads (instrs_for s.at b (instruction.JumpIfZero x target)) (s.at + 1) (goes_on begun (goes_equal _ _ m (ap after (is_zero false e))))

  -- each instruction
  pub leads : (i : Instruction) → has_value i ≡ true → Leads (instrs_for s.at b i) (does s i)
  leads (instruction.Set to z) fit = set_leads to z (fits_signed z fit)
  leads (instruction.Compute o to x y) fit = compute_leads o to x y
  leads (instruction.Load to x) fit = load_leads to x
  leads (instruction.Store x y) fit = store_leads x y
  leads (instruction.JumpIfZero x target) fit = test_leads x target
  leads (instruction.Jump target) fit = gone_leads (instrs_for s.at b (instruction.Jump target)) target (record { ends = refl; left = refl; asks = refl })
  leads instruction.Halt fit = (Finish, m, record { ends = refl; left = refl; asks = refl }, (f Value, refl, shows.memory, shows.size))
