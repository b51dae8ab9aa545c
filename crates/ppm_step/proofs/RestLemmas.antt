-- What is left of a capsule of a frame stores nothing into the finish word.
use Rattle.std.proofs.Common.{◌≡◌, ◌<◌, ◌+◌, ◌*◌, refl, sym, subst, arith, ℕ, zero, suc, Bool, true, false, List, [], ◌∷◌, Option, Some, None}
use Rattle.std.specs.Prelude.{if◌then◌else◌, nat_lt, nat_le}
use Rattle.ppm_strands.specs.Capsule.{Capsule, Reads, Writes, Asks as AsksFor, Ends as EndsAt}
use Rattle.ppm_strands.specs.Strand.{Own, New, Shared}
use Rattle.ppm_cells.specs.Cells.{address, pool_at, place_size}
use Rattle.ppm_cells.specs.declared.shape.Shape.{Shape}
use Rattle.ppm_code.specs.Locations.{Where}
use Rattle.ppm_code.specs.Sizes.{frame_size}
use Rattle.ppm_code.specs.declared.act.End.{End}
use Rattle.ppm_code.specs.declared.act.End.TheVariants.{Next, Finish, Trap, Call, Fork}
use Rattle.ppm_code.specs.declared.code.CodeParts.{CodeParts}
use Rattle.ppm_code.specs.declared.instr.Instr.{Instr}
use Rattle.ppm_code.specs.declared.location.FrameWord.TheVariants.{Slot, Value}
use Rattle.ppm_step.specs.declared.frame.Put.{Put}
use Rattle.ppm_step.specs.declared.frame.Home.{Home}
use Rattle.ppm_step.specs.Frames.{Rest, Loads, Stores, Full, Installs, Breaks, cell_of, fork_puts_by, fork_to_puts, puts, installed, storing, asks, at_counter}
use Rattle.ppm_step.specs.Frames.{rest_of}
use Rattle.ppm_step.proofs.PlainLemmas.{IsOld, EndsPlainly, IsPlain, IsSimple, Plain, Asking}

module _ (s : Shape) where
  -- each store is elsewhere
  abbrev pub SparesRest : Rest → Type 0
  SparesRest (Loads cell go) = (word : ℕ) → SparesRest (go word)
  SparesRest (Stores cell content rest) = (0 < address s cell) × SparesRest rest
  SparesRest Full = Unit {0}
  SparesRest (Installs kind) = Unit {0}
  SparesRest Breaks = Unit {0}

  -- those of an end
  abbrev pub AreFar : List Put → Type 0
  AreFar [] = Unit {0}
  AreFar (p ∷ ps) = (0 < address s p.cell) × AreFar ps

  stored : (n : ℕ) (ps : List Put) (rest : Rest) → AreFar ps → SparesRest rest → SparesRest (storing n ps rest)
  stored n [] rest far h = h
  stored zero (p ∷ ps) rest far h = (far.0, stored zero ps rest far.1 h)
  stored (suc n) (p ∷ ps) rest far h = stored n ps rest far.1 h

  module _ (code : CodeParts) where
    far_targets : (home : Home) (left right capsule right_at left_target right_target : ℕ) → 0 < home.block → 0 < right_at
        → AreFar (fork_to_puts code home left right capsule right_at left_target right_target)
    far_targets home left right capsule right_at left_target right_target block there = (
      block,
      (omega arith, (omega arith, (omega arith, (omega arith, (omega arith, (there, (omega arith, (omega arith, (omega arith, (omega arith, tt)))))))))),
    )

    far_fork : (home : Home) (left right capsule : ℕ) (left_to right_to : Option ℕ) → 0 < home.block
        → AreFar (fork_puts_by code home left right capsule left_to right_to)
    far_fork home left right capsule None None block =
        (block, (omega arith, (omega arith, (omega arith, (omega arith, (omega (arith, block), (omega arith, (omega arith, (omega arith, tt)))))))))
    far_fork home left right capsule None (Some r) block =
        far_targets home left right capsule (home.block + (5 + frame_size code left)) 0 (r + 1) block (omega (arith, block))
    far_fork home left right capsule (Some l) None block =
        far_targets home left right capsule (home.block + (5 + frame_size code left)) (l + 1) 0 block (omega (arith, block))
    far_fork home left right capsule (Some l) (Some r) block =
        far_targets home left right capsule (home.block + (5 + frame_size code left)) (l + 1) (r + 1) block (omega (arith, block))

    -- with a block in a pool all ends store elsewhere, without one those that build none
    far_block : (home : Home) (e : End) → 0 < home.block → AreFar (puts code home e)
    far_block home (Next capsule) block = (omega arith, tt)
    far_block home Finish block = tt
    far_block home (Trap trap line) block = (omega arith, tt)
    far_block home (Call procedure capsule None) block = (block, (omega arith, (omega arith, (omega arith, tt))))
    far_block home (Call procedure capsule (Some slot)) block = (block, (omega arith, (omega arith, (omega arith, (omega arith, tt)))))
    far_block home (Fork left right capsule left_to right_to) block = far_fork home left right capsule left_to right_to block

    far_plain : (home : Home) (e : End) → EndsPlainly ⊥ e → AreFar (puts code home e)
    far_plain home (Next capsule) h = (omega arith, tt)
    far_plain home Finish h = tt
    far_plain home (Trap trap line) h = (omega arith, tt)
    far_plain home (Call procedure capsule to) h = absurd h
    far_plain home (Fork left right capsule left_to right_to) h = absurd h

    -- words of a frame, of a block and of arrays
    array_far : (index : ℕ) → 0 < 1 + 2 * s.processors + s.processors * place_size s + index
    array_far index = positive s.processors (s.processors * place_size s) index
      where
        positive : (p x m : ℕ) → 0 < 1 + 2 * p + x + m
        positive p x m = omega arith

    far_in_block : (home : Home) (l : Where) → 0 < home.block → 0 < address s (cell_of home l)
    far_in_block home (Own (Slot slot)) block = omega arith
    far_in_block home (Own Value) block = omega arith
    far_in_block home (New offset) block = omega (arith, block)
    far_in_block home (Shared index) block = array_far index

    far_if_old : (home : Home) (l : Where) → IsOld ⊥ l → 0 < address s (cell_of home l)
    far_if_old home (Own (Slot slot)) h = omega arith
    far_if_old home (Own Value) h = omega arith
    far_if_old home (New offset) h = absurd h
    far_if_old home (Shared index) h = array_far index

    -- room is given at a counter in the pool
    asked : (pool room counter words : ℕ) (rest : Rest) → 0 < pool → (0 < counter → SparesRest rest) → SparesRest (asks pool room counter words rest)
    asked pool room counter words rest some h = by_pool (nat_lt counter pool) refl
      where
        by_end : (b : Bool) → SparesRest rest → SparesRest (if b then rest else Full)
        by_end true k = k
        by_end false k = tt

        by_pool : (b : Bool) → nat_lt counter pool ≡ b
            → SparesRest (if b then Breaks else (if nat_le (counter + words) (pool + room) then rest else Full))
        by_pool true e = tt
        by_pool false e = by_end (nat_le (counter + words) (pool + room)) (h (grind (arith, some, e)))

    pool_far : (place : ℕ) → 0 < pool_at s place
    pool_far place = positive s.processors (place * place_size s) s.slots
      where
        positive : (p x m : ℕ) → 0 < 1 + 2 * p + x + 5 + m
        positive p x m = omega arith

    pub block_spares : (place : ℕ) (home : Home) (c : Capsule Where End) → 0 < home.block → SparesRest (rest_of s code place home c)
    block_spares place home (Reads l go) block = λ word. block_spares place home (go word) block
    block_spares place home (Writes l word go) block = (far_in_block home l block, block_spares place home go block)
    block_spares place home (AsksFor words go) block =
        λ counter. asked (pool_at s place) s.room counter words (rest_of s code place (at_counter home counter) go) (pool_far place)
        (λ some. block_spares place (at_counter home counter) go some)
    block_spares place home (EndsAt e) block = stored 0 (puts code home e) (Installs (installed home e)) (far_block home e block) tt

    plain_spares : (place : ℕ) (home : Home) (c : Capsule Where End) → IsPlain ⊥ c → SparesRest (rest_of s code place home c)
    plain_spares place home (Reads l go) h = λ word. plain_spares place home (go word) (h word)
    plain_spares place home (Writes l word go) h = (far_if_old home l h.0, plain_spares place home go h.1)
    plain_spares place home (AsksFor words go) h = absurd h
    plain_spares place home (EndsAt e) h = stored 0 (puts code home e) (Installs (installed home e)) (far_plain home e h) tt

    pub simple_spares : (place : ℕ) (home : Home) (is : List Instr) (c : Capsule Where End) → IsSimple is c → SparesRest (rest_of s code place home c)
    simple_spares place home is c (Plain h) = plain_spares place home c h
    simple_spares place home is c (Asking words go room c_is h) =
        subst (λ (k : Capsule Where End). SparesRest (rest_of s code place home k)) (sym c_is)
        (λ counter. asked (pool_at s place) s.room counter words (rest_of s code place (at_counter home counter) go) (pool_far place)
        (λ some. block_spares place (at_counter home counter) go some))

    -- without asking for room it never finds its pool full
    abbrev pub NeverFull : Rest → Type 0
    NeverFull (Loads cell go) = (word : ℕ) → NeverFull (go word)
    NeverFull (Stores cell content rest) = NeverFull rest
    NeverFull Full = ⊥
    NeverFull (Installs kind) = Unit {0}
    NeverFull Breaks = Unit {0}

    never_stored : (n : ℕ) (ps : List Put) (rest : Rest) → NeverFull rest → NeverFull (storing n ps rest)
    never_stored n [] rest h = h
    never_stored zero (p ∷ ps) rest h = never_stored zero ps rest h
    never_stored (suc n) (p ∷ ps) rest h = never_stored n ps rest h

    pub never_full : (Built : Type 0) (place : ℕ) (home : Home) (c : Capsule Where End) → IsPlain Built c → NeverFull (rest_of s code place home c)
    never_full Built place home (Reads l go) h = λ word. never_full Built place home (go word) (h word)
    never_full Built place home (Writes l word go) h = never_full Built place home go h.1
    never_full Built place home (AsksFor words go) h = absurd h
    never_full Built place home (EndsAt e) h = never_stored 0 (puts code home e) (Installs (installed home e)) tt
