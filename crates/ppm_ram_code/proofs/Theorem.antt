-- The theorem: from every memory the code of a RAM is sound, and ends exactly where the RAM ends.
use Rattle.std.proofs.Common.{◌≡◌, ◌∙◌, ◌<◌, ◌≤◌, ℕ, zero, suc, ◌+◌, ◌*◌, ◌^◌, Bool, true, false, ℤ, pos, List, [], ◌∷◌, ◌++◌, get_or, length, map}
use Rattle.std.proofs.Common.{Some, None, refl, sym, ap, ap₂, subst, arith, append-nil}
use Rattle.std.specs.Prelude.{replicate, FitsSigned}
use Rattle.std.specs.Int.{w64}
use Rattle.std.specs.List.{AllByRecursion}
use Rattle.ppm_words.specs.TwosComplement.{word_of, value_of}
use Rattle.ppm_words.specs.declared.outcome.Outcome.TheVariants as outcome
use Rattle.ppm_words.specs.declared.named_array.NamedArray.{NamedArray}
use Rattle.ppm_words.proofs.TwosComplementLemmas.{value_of-word_of}
use Rattle.ppm_strands.specs.Tree.{Words, Tree, Strand, Call, Fork, Over}
use Rattle.ppm_strands.specs.Strand.{Frame}
use Rattle.ppm_strands.specs.Run.{Counts, End}
use Rattle.ppm_strands.specs.Calm.{CalmWithin}
use Rattle.ppm_code.specs.declared.location.FrameWord.{FrameWord}
use Rattle.ppm_code.specs.declared.location.FrameWord.TheVariants.{Slot, Value}
use Rattle.ppm_code.specs.Inputs.{words_in}
use Rattle.ppm_code.specs.Sizes.{frame_size}
use Rattle.ppm_code.specs.Strands.{Point, Result, Gave, Trapped as TrappedBy}
use Rattle.ppm_depth.specs.Run.{values_at, said_of as said_of_words, pool_words}
use Rattle.ppm_depth.specs.Start.{words_of, root_own, root_strand}
use Rattle.ppm_tree.specs.Values.{fits}
use Rattle.ppm_ram.specs.declared.ram.RamParts.{RamParts}
use Rattle.ppm_ram.specs.Program.{IsRam}
use Rattle.ppm_ram.specs.Meaning.{End as RamEnd, Halted, Trapped, Stops, begins, as_array, said_of, memory_name}
use Rattle.ppm_ram_code.specs.declared.bank.Bank.TheVariants.{First}
use Rattle.ppm_ram_code.specs.Code.{code_of}
use Rattle.ppm_ram_code.specs.Correct.{IsMemoryOf, input_of, HasCounts, IsToldBy, EndsAsRam, CodeEndsAsRam, CodeIsSound}
use Rattle.ppm_ram_code.proofs.ListLemmas.{first_there, zeros}
use Rattle.ppm_ram_code.proofs.WordLemmas.{fits_signed}
use Rattle.ppm_ram_code.proofs.StepLemmas.{IsStored, Shows, Comes}
use Rattle.ppm_ram_code.proofs.SafeLemmas.{stands_alone}
use Rattle.ppm_ram_code.proofs.EndLemmas.{c, Tells, steps_counted, forward, backward, calm_from}

-- the words of a memory
words_are : (memory : List ℤ) (x : ℕ) → get_or (map word_of memory ++ []) x 0 ≡ word_of (get_or memory x (pos 0))
words_are [] x = refl
words_are (z ∷ memory) zero = refl
words_are (z ∷ memory) (suc x) = words_are memory x

word_count : (memory : List ℤ) → length (map word_of memory ++ []) ≡ length memory
word_count [] = refl
word_count (z ∷ memory) = ap suc (word_count memory)

values_fit : (memory : List ℤ) → AllByRecursion (λ v. fits v ≡ true) memory → (x : ℕ) → FitsSigned w64 (get_or memory x (pos 0))
values_fit [] all x = record { sfits = omega arith }
values_fit (z ∷ memory) all zero = fits_signed z all.0
values_fit (z ∷ memory) all (suc x) = values_fit memory all.1 x

zero_fits : (n k : ℕ) → FitsSigned w64 (get_or (replicate n (pos 0)) k (pos 0))
zero_fits n k = subst (λ (z : ℤ). FitsSigned w64 z) (sym (zeros n k)) (record { sfits = omega arith })

-- the values that words of a memory stand for
values_read : (memory : List ℤ) (start : ℕ) (a : Words) → ((x : ℕ) → a (start + x) ≡ word_of (get_or memory x (pos 0)))
    → ((x : ℕ) → FitsSigned w64 (get_or memory x (pos 0))) → values_at a start (length memory) ≡ memory
values_read [] start a words fit = refl
values_read (z ∷ memory) start a words fit =
    let here : start + 0 ≡ start = omega arith in
    let first : value_of (a start) ≡ z = ap (λ (n : ℕ). value_of (a n)) (sym here) ∙ ap value_of (words 0) ∙ value_of-word_of z (fit 0) in
    let rest = values_read memory (start + 1) a
    (λ x. let place : (start + 1) + x ≡ start + suc x = omega arith in ap a place ∙ words (suc x)) (λ x. fit (suc x)) in
    ap₂ (λ (y : ℤ) (ys : List ℤ). y ∷ ys) first rest

-- the outcome of a branch that is over
abbrev outcome_in : Tree (Frame FrameWord Point) Result → Result → Result
outcome_in (Over o) d = o
outcome_in (Strand f) d = d
outcome_in (Call g t) d = d
outcome_in (Fork g l q) d = d

outcome_of : {o p : Result} → ◌≡◌ {A = Tree (Frame FrameWord Point) Result} (Over o) (Over p) → o ≡ p
outcome_of {o} e = ap (λ t. outcome_in t o) e

module _ (r : RamParts) (is : IsRam r) (memory : List ℤ) (mem : IsMemoryOf r memory) where
  abbrev W : ℕ
  W = length (words_in (input_of memory))

  size : length memory ≡ W
  size = sym (word_count memory)

  low : W < 2 ^ 32
  low = let s = size in let m = mem.size in let l = is.memory in omega (arith, s, m, l)

  -- the run begins as the RAM does
  root_shows : Shows W First (begins memory) (root_own (code_of r) (input_of memory)) (words_of (words_in (input_of memory)))
  root_shows = record {
    region = (let s = size in let first : root_own (code_of r) (input_of memory) (Slot 0) ≡ 0 * 2 ^ 32 + length memory = refl in omega (arith, first, s));
    registers = λ k small. past k ∙ sym (ap word_of (zeros 8 k));
    count = refl;
    values = zero_fits 8;
    memory = record { words = words_are memory; values = values_fit memory mem.values };
    size = size;
  }
    where
      past : (k : ℕ) → root_own (code_of r) (input_of memory) (Slot (1 + k)) ≡ 0
      past k = let h : 1 + k ≡ suc k = omega arith in ap (λ (n : ℕ). root_own (code_of r) (input_of memory) (Slot n)) h

  there : 0 < length r.instructions
  there = first_there r.instructions is.end

  -- an end tells the RAM's
  told : (e : RamEnd) (steps : ℕ) (d : End Result) → Tells r is W low e steps d → IsToldBy r memory steps e d
  told e steps d h = record {
    told = by e h.there;
    counts = record {
      capsules = ap (λ (k : Counts). k.capsules) h.counts;
      forks = ap (λ (k : Counts). k.forks) h.counts;
      pool = ap (λ (k : Counts). pool_words (code_of r) k) h.counts;
    };
  }
    where
      by : (e : RamEnd) → Comes W (Stops e) (Over d.outcome) d.words → said_of_words (input_of memory) d.words d.outcome ≡ said_of e
      by (Halted end) (v, over, stored, count) =
          let gave : d.outcome ≡ Gave v = outcome_of over in
          let same : length memory ≡ length end = size ∙ sym count in
          let read = values_read end 0 d.words (λ x. let h : 0 + x ≡ x = omega arith in ap d.words h ∙ stored.words x) stored.values in
          ap (said_of_words (input_of memory) d.words) gave
          ∙ ap (λ (vs : List ℤ). outcome.Ended (as_array vs ∷ [])) (ap (values_at d.words 0) same ∙ read)
      by (Trapped t line) over = ap (said_of_words (input_of memory) d.words) (outcome_of over)

  ends_as : EndsAsRam r memory
  ends_as = record {
    ends = λ steps e ends.
        let (d, runs, tells) = forward r is W low steps (begins memory) e ends First _ _ root_shows there in
        (d, (suc steps, runs), told e steps d tells);
    only = λ d ends.
        let (k, e, all, tells) = backward r is W low ends.0 (begins memory) d First _ _ root_shows there ends.1 in
        (k, e, all, told e k d tells);
  }

  calm_root : (n : ℕ) → CalmWithin (c r is W low) n (root_strand (code_of r) (input_of memory)) (words_of (words_in (input_of memory)))
  calm_root n = calm_from r is W low n (begins memory) First _ _ root_shows there

pub ends_as_ram : CodeEndsAsRam
ends_as_ram r is memory mem = ends_as r is memory mem

pub sound : CodeIsSound
sound r is memory mem = record { tidy = (stands_alone r).tidy; free = (stands_alone r).free; calm = calm_root r is memory mem }
