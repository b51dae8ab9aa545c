-- What the capsules of a RAM's instructions do with a memory of locations.
use Rattle.std.proofs.Common.{◌≡◌, ◌∙◌, ◌<◌, ℕ, zero, suc, ◌+◌, ◌-◌, ◌==◌, max, Bool, true, false, cond, List, [], ◌∷◌, length, refl, sym, ap, subst, arith}
use Rattle.std.specs.Prelude.{slice_index, slice_set, replicate}
use Rattle.ppm_strands.specs.Capsule.{Capsule, Ends, Memory, ending, leaves, asked, store}
use Rattle.ppm_strands.specs.Strand.{Own, Shared}
use Rattle.ppm_code.specs.declared.act.Act.{Act}
use Rattle.ppm_code.specs.declared.act.Act.TheVariants.{Sets, Passes, Jumps, Steps, Ends as Stops}
use Rattle.ppm_code.specs.declared.act.Step.TheVariants.{Loads, Stores}
use Rattle.ppm_code.specs.declared.act.End.{End}
use Rattle.ppm_code.specs.declared.act.End.TheVariants.{Next, Finish}
use Rattle.ppm_code.specs.declared.instr.Instr.{Instr}
use Rattle.ppm_code.specs.declared.instr.Instr.TheVariants as instr
use Rattle.ppm_code.specs.declared.location.Location.TheVariants.{Array}
use Rattle.ppm_code.specs.declared.location.FrameWord.TheVariants.{Slot}
use Rattle.ppm_code.specs.declared.register.Register.{Register}
use Rattle.ppm_code.specs.Acts.{does}
use Rattle.ppm_code.specs.Locations.{Where, code_locations}
use Rattle.ppm_code.specs.Capsules.{at_act, capsule_from, capsule_of}
use Rattle.ppm_ram_code.specs.declared.bank.Bank.{Bank}
use Rattle.ppm_ram_code.specs.declared.bank.Bank.TheVariants.{First, Second}
use Rattle.ppm_ram_code.specs.Code.{slot_of, capsule_at, register, region, loads, stored_in, stores, onward}

-- p from m does what q does from n
pub record Goes (p : Capsule Where End) (m : Memory Where) (q : Capsule Where End) (n : Memory Where) : Type 0 where
  pub ends : ending code_locations p m ≡ ending code_locations q n
  pub left : leaves code_locations p m ≡ leaves code_locations q n
  pub asks : asked code_locations p m ≡ asked code_locations q n

pub goes_on : {p q s : Capsule Where End} {m n o : Memory Where} → Goes p m q n → Goes q n s o → Goes p m s o
goes_on g h = record { ends = g.ends ∙ h.ends; left = g.left ∙ h.left; asks = g.asks ∙ h.asks }

pub goes_equal : (p q : Capsule Where End) (m : Memory Where) → p ≡ q → Goes p m q m
goes_equal p q m e = subst (λ (q : Capsule Where End). Goes p m q m) e (record { ends = refl; left = refl; asks = refl })

-- the word of a memory in a slot
abbrev pub slot_in : Memory Where → ℕ → ℕ
slot_in m slot = m (Own (Slot slot))

-- the registers after all of a copy were read
abbrev pub taken : Bank → Memory Where → List ℕ
taken b m =
    slot_in m (slot_of b 0) ∷ slot_in m (slot_of b 1) ∷ slot_in m (slot_of b 2) ∷ slot_in m (slot_of b 3) ∷ slot_in m (slot_of b 4)
    ∷ slot_in m (slot_of b 5) ∷ slot_in m (slot_of b 6) ∷ slot_in m (slot_of b 7) ∷ replicate 56 0

pub taken_at : (b : Bank) (m : Memory Where) (k : ℕ) → k < 8 → slice_index (taken b m) k ≡ slot_in m (slot_of b k)
taken_at b m zero h = refl
taken_at b m (suc zero) h = refl
taken_at b m (suc (suc zero)) h = refl
taken_at b m (suc (suc (suc zero))) h = refl
taken_at b m (suc (suc (suc (suc zero)))) h = refl
taken_at b m (suc (suc (suc (suc (suc zero))))) h = refl
taken_at b m (suc (suc (suc (suc (suc (suc zero)))))) h = refl
taken_at b m (suc (suc (suc (suc (suc (suc (suc zero))))))) h = refl
taken_at b m (suc (suc (suc (suc (suc (suc (suc (suc k)))))))) h = absurd (omega (arith, h))

-- the memory after a word was put into a slot, and after all registers were written into a copy
abbrev pub put_slot : Memory Where → ℕ → ℕ → Memory Where
put_slot m slot word = store code_locations m (Own (Slot slot)) word

abbrev pub written : Bank → List ℕ → Memory Where → Memory Where
written b h m =
    put_slot (put_slot (put_slot (put_slot (put_slot (put_slot (put_slot (put_slot m
    (slot_of b 0) (slice_index h 0)) (slot_of b 1) (slice_index h 1)) (slot_of b 2) (slice_index h 2)) (slot_of b 3) (slice_index h 3))
    (slot_of b 4) (slice_index h 4)) (slot_of b 5) (slice_index h 5)) (slot_of b 6) (slice_index h 6)) (slot_of b 7) (slice_index h 7)

pub written_at : (b : Bank) (h : List ℕ) (m : Memory Where) (k : ℕ) → k < 8 → slot_in (written b h m) (slot_of b k) ≡ slice_index h k
written_at First h m zero low = refl
written_at First h m (suc zero) low = refl
written_at First h m (suc (suc zero)) low = refl
written_at First h m (suc (suc (suc zero))) low = refl
written_at First h m (suc (suc (suc (suc zero)))) low = refl
written_at First h m (suc (suc (suc (suc (suc zero))))) low = refl
written_at First h m (suc (suc (suc (suc (suc (suc zero)))))) low = refl
written_at First h m (suc (suc (suc (suc (suc (suc (suc zero))))))) low = refl
written_at First h m (suc (suc (suc (suc (suc (suc (suc (suc k)))))))) low = absurd (omega (arith, low))
written_at Second h m zero low = refl
written_at Second h m (suc zero) low = refl
written_at Second h m (suc (suc zero)) low = refl
written_at Second h m (suc (suc (suc zero))) low = refl
written_at Second h m (suc (suc (suc (suc zero)))) low = refl
written_at Second h m (suc (suc (suc (suc (suc zero))))) low = refl
written_at Second h m (suc (suc (suc (suc (suc (suc zero)))))) low = refl
written_at Second h m (suc (suc (suc (suc (suc (suc (suc zero))))))) low = refl
written_at Second h m (suc (suc (suc (suc (suc (suc (suc (suc k)))))))) low = absurd (omega (arith, low))

pub written_region : (b : Bank) (h : List ℕ) (m : Memory Where) → slot_in (written b h m) 0 ≡ slot_in m 0
written_region First h m = refl
written_region Second h m = refl

module _ (W : ℕ) where
  -- all registers of a copy are read
  pub front : (b : Bank) (rest : List Instr) (m : Memory Where)
      → Goes (capsule_of W (loads b rest)) m (capsule_from W 8 0 rest (taken b m)) m
  front First rest m = record { ends = refl; left = refl; asks = refl }
  front Second rest m = record { ends = refl; left = refl; asks = refl }

  -- all are written into a copy, and the frame goes on with it
  pub back : (b : Bank) (number : ℕ) (h : List ℕ) (m : Memory Where)
      → Goes (capsule_from W 9 0 (stores number b) h) m (Ends (Next (capsule_at number b))) (written b h m)
  back First number h m = record { ends = refl; left = refl; asks = refl }
  back Second number h m = record { ends = refl; left = refl; asks = refl }

  pub back_later : (b : Bank) (number : ℕ) (h : List ℕ) (m : Memory Where)
      → Goes (capsule_from W 10 0 (stores number b) h) m (Ends (Next (capsule_at number b))) (written b h m)
  back_later First number h m = record { ends = refl; left = refl; asks = refl }
  back_later Second number h m = record { ends = refl; left = refl; asks = refl }

  -- an instruction after the registers were read, by what it does
  abbrev acts_then : (i : Instr) (is : List Instr) (g : List ℕ) → Act → Capsule Where End
  acts_then i is g act = at_act (λ t h. capsule_from W 9 (t - 9) is h) 9 act g

  module _ (b : Bank) (i : Instr) (is : List Instr) (m : Memory Where) where
    pub sets : (d : Register) (v : ℕ) → does W i (taken b m) ≡ Sets d v
        → Goes (capsule_of W (loads b (i ∷ is))) m (capsule_from W 9 0 is (slice_set (taken b m) d.index v)) m
    sets d v e = goes_on (front b (i ∷ is) m) (goes_equal _ _ m (ap (acts_then i is (taken b m)) e))

    pub stops : (end : End) → does W i (taken b m) ≡ Stops end → Goes (capsule_of W (loads b (i ∷ is))) m (Ends end) m
    stops end e = goes_on (front b (i ∷ is) m) (goes_equal _ _ m (ap (acts_then i is (taken b m)) e))

  -- the region is read too, and then an instruction acts
  abbrev pub with_region : Bank → Memory Where → List ℕ
  with_region b m = slice_set (taken b m) 8 (slot_in m 0)

  abbrev acts_later : (i : Instr) (is : List Instr) (g : List ℕ) → Act → Capsule Where End
  acts_later i is g act = at_act (λ t h. capsule_from W 10 (t - 10) is h) 10 act g

  module _ (b : Bank) (i : Instr) (is : List Instr) (m : Memory Where) where
    region_read : Goes (capsule_from W 8 0 (instr.LoadSlot region 0 ∷ i ∷ is) (taken b m)) m (capsule_from W 9 0 (i ∷ is) (with_region b m)) m
    region_read = record { ends = refl; left = refl; asks = refl }

    pub gets : (d : Register) (x : ℕ) → does W i (with_region b m) ≡ Steps (Loads (Array x) d)
        → Goes (capsule_of W (loads b (instr.LoadSlot region 0 ∷ i ∷ is))) m
        (capsule_from W 10 0 is (slice_set (with_region b m) d.index (m (Shared x)))) m
    gets d x e =
        goes_on (front b (instr.LoadSlot region 0 ∷ i ∷ is) m)
        (goes_on region_read (goes_on (goes_equal _ _ m (ap (acts_later i is (with_region b m)) e))
        (record { ends = refl; left = refl; asks = refl })))

    pub stops_later : (end : End) → does W i (with_region b m) ≡ Stops end
        → Goes (capsule_of W (loads b (instr.LoadSlot region 0 ∷ i ∷ is))) m (Ends end) m
    stops_later end e =
        goes_on (front b (instr.LoadSlot region 0 ∷ i ∷ is) m)
        (goes_on region_read (goes_equal _ _ m (ap (acts_later i is (with_region b m)) e)))
