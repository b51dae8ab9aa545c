-- Capsules that are tame: each word that one reads is owned, each that it writes may be written, and what its end opens is as it is to be.
-- One lemma an instruction says that it may stand in front of what is tame.
use Rattle.std.proofs.Common.{◌≡◌, ◌≢◌, ◌≤◌, ◌<◌, ℕ, ◌+◌, ◌-◌, ◌*◌, ◌^◌, nat_le, ◌==◌, max, nat_lt, Bool, true, false, ◌&&◌, cond}
use Rattle.std.proofs.Common.{List, [], ◌∷◌, Some, None, slice_set, length, inl, inr, refl, sym, ◌∙◌, subst, arith}
use Rattle.std.specs.Prelude.{ℤ, int_div}
use Rattle.std.proofs.lemmas.Bool.{ltb-true, ltb-false, leb-true}
use Rattle.std.proofs.lemmas.List.{length-set, get_or-set_same, get_or-set_other}
use Rattle.ppm_strands.specs.Tree.{Has}
use Rattle.ppm_strands.specs.Capsule.{Capsule, Reads, Writes, Asks as AsksFor, Ends, Memory, is_in, store, ending, leaves, written, exposed_past}
use Rattle.ppm_strands.specs.Strand.{Own, New as NewWord, Shared, addresses, own_of, new_of}
use Rattle.ppm_words.specs.TwosComplement.{word_of}
use Rattle.ppm_words.specs.declared.trap.Trap.{Trap}
use Rattle.ppm_words.specs.declared.trap.Trap.TheVariants.{Overflow, DivZero}
use Rattle.ppm_words.specs.declared.trap.Trap.TheVariants as trap
use Rattle.ppm_code.specs.declared.register.Register.{Register}
use Rattle.ppm_code.specs.declared.location.FrameWord.{FrameWord}
use Rattle.ppm_code.specs.declared.location.FrameWord.TheVariants.{Slot, Value}
use Rattle.ppm_code.specs.declared.location.Location.TheVariants.{Array as ArrayWord}
use Rattle.ppm_code.specs.declared.act.End.{End}
use Rattle.ppm_code.specs.declared.act.End.TheVariants.{Trap as Trapped}
use Rattle.ppm_code.specs.declared.act.Act.{Act}
use Rattle.ppm_code.specs.declared.act.Act.TheVariants.{Sets, Passes, Jumps, Steps, Ends as Stops}
use Rattle.ppm_code.specs.declared.act.Step.{Step}
use Rattle.ppm_code.specs.declared.act.Step.TheVariants.{Loads, Stores}
use Rattle.ppm_code.specs.declared.instr.Instr.{Instr}
use Rattle.ppm_code.specs.declared.instr.Instr.TheVariants as instr
use Rattle.ppm_code.specs.Acts.{held, does, is_zero, fits, traps, whole, divided, start_of, length_of, element_of, at_element}
use Rattle.ppm_code.specs.Locations.{Where, code_locations}
use Rattle.ppm_code.specs.Capsules.{capsule_from, at_act}
use Rattle.ppm_cut_code.specs.Layout.{register, register_with}

-- the registers as they may be: 64 words
abbrev pub IsFile : List ℕ → Type 0
IsFile g = length g ≡ 64

pub file_set : (g : List ℕ) (i v : ℕ) → IsFile g → IsFile (slice_set g i v)
file_set g i v h = length-set g i v ∙ h

-- a register that was set, and the others
pub held_set : (g : List ℕ) (d : Register) (v : ℕ) → IsFile g → held (slice_set g d.index v) d ≡ v
held_set g d v h = get_or-set_same g d.index v 0 (let r = d.in_range in omega (arith, h, r))

pub held_other : (g : List ℕ) (d e : Register) (v : ℕ) → e.index ≢ d.index → held (slice_set g d.index v) e ≡ held g e
held_other g d e v other = get_or-set_other g d.index e.index v 0 other

-- the number of a register, and the last one for all larger numbers
register_low : (n : ℕ) → n < 63 → (register n).index ≡ n
register_low n h = go (nat_lt n 64) refl
  where
    go : (b : Bool) (e : nat_lt n 64 ≡ b) → (register_with n b e).index ≡ n
    go true e = refl
    go false e = let high = ltb-false n 64 e in absurd (omega (arith, high, h))

register_high : (n : ℕ) → 63 ≤ n → (register n).index ≡ 63
register_high n h = go (nat_lt n 64) refl
  where
    go : (b : Bool) (e : nat_lt n 64 ≡ b) → (register_with n b e).index ≡ 63
    go true e = let low = ltb-true n 64 e in omega (arith, low, h)
    go false e = refl

pub registers_differ : (i d : ℕ) → i < d → i < 63 → (register i).index ≢ (register d).index
registers_differ i d low short e = go (nat_lt d 63) refl
  where
    first : (register i).index ≡ i
    first = register_low i short

    go : (b : Bool) → nat_lt d 63 ≡ b → ⊥
    go true t = let s = register_low d (ltb-true d 63 t) in omega (arith, e, first, s, low)
    go false t = let s = register_high d (ltb-false d 63 t) in omega (arith, e, first, s, short)

-- the registers below d, but for the last of all, are kept
pub record Keeps (d : ℕ) (g h : List ℕ) : Type 0 where
  pub file : IsFile h
  pub kept : (i : ℕ) → i < d → i < 63 → held h (register i) ≡ held g (register i)

pub keeps_itself : (d : ℕ) (g : List ℕ) → IsFile g → Keeps d g g
keeps_itself d g file = record { file = file; kept = λ i low short. refl }

pub keeps_set : (d e v : ℕ) (g h : List ℕ) → d ≤ e → Keeps d g h → Keeps d g (slice_set h (register e).index v)
keeps_set d e v g h less k = record {
  file = file_set h (register e).index v k.file;
  kept = λ i low short. held_other h (register e) (register i) v (registers_differ i e (omega (arith, low, less)) short) ∙ k.kept i low short;
}

pub keeps_on : (d e : ℕ) (f g h : List ℕ) → d ≤ e → Keeps d f g → Keeps e g h → Keeps d f h
keeps_on d e f g h less p q = record {
  file = q.file;
  kept = λ i low short. q.kept i (omega (arith, low, less)) short ∙ p.kept i low short;
}

-- so many array words, those that are owned, those that may be written, and how what an end opens is to be
pub record World : Type 1 where
  pub words : ℕ
  pub Owns : ℕ → Type 0
  pub May : ℕ → Type 0
  pub Opens : End → (FrameWord → ℕ) → (ℕ → ℕ) → Type 0
  pub trapped : (t : Trap) (line : ℕ) (own : FrameWord → ℕ) (new : ℕ → ℕ) → Opens (Trapped t line) own new

module _ (world : World) where
  pub record Tame (p : Capsule Where End) (m : Memory Where) : Type 0 where
    pub reads : (w : List Where) (x : ℕ) → Has x (addresses (exposed_past code_locations w p m)) → world.Owns x
    pub writes : (x : ℕ) → Has x (addresses (written code_locations p m)) → world.May x
    pub opens : world.Opens (ending code_locations p m) (own_of (leaves code_locations p m)) (new_of (leaves code_locations p m))

  -- steps
  tame_read : (l : Where) (go : ℕ → Capsule Where End) (m : Memory Where) → ((x : ℕ) → Has x (addresses (l ∷ [])) → world.Owns x)
      → Tame (go (m l)) m
      → Tame (Reads l go) m
  tame_read l go m here h = record {
    reads = λ w x i. either w (is_in code_locations l w) x i;
    writes = h.writes;
    opens = h.opens;
  }
    where
      first : (k : Where) (x : ℕ) (ls : List Where) → ((y : ℕ) → Has y (addresses (k ∷ [])) → world.Owns y) → (Has x (addresses ls) → world.Owns x)
          → Has x (addresses (k ∷ ls)) → world.Owns x
      first (Own s) x ls here rest j = rest j
      first (NewWord o) x ls here rest j = rest j
      first (Shared y) x ls here rest (inl e) = here x (inl e)
      first (Shared y) x ls here rest (inr j) = rest j

      either : (w : List Where) (b : Bool) (x : ℕ)
          → Has x (addresses (cond b (exposed_past code_locations w (go (m l)) m) (l ∷ exposed_past code_locations w (go (m l)) m))) → world.Owns x
      either w true x i = h.reads w x i
      either w false x i = first l x (exposed_past code_locations w (go (m l)) m) here (h.reads w x) i

  pub tame_own : (s : FrameWord) (go : ℕ → Capsule Where End) (m : Memory Where) → Tame (go (m (Own s))) m → Tame (Reads (Own s) go) m
  tame_own s go m h = tame_read (Own s) go m (λ x j. absurd j) h

  pub tame_shared : (y : ℕ) (go : ℕ → Capsule Where End) (m : Memory Where) → world.Owns y → Tame (go (m (Shared y))) m
      → Tame (Reads (Shared y) go) m
  tame_shared y go m here h = tame_read (Shared y) go m (λ x j. elim j [ inl e ↦ subst world.Owns (sym e) here | inr k ↦ absurd k ]) h

  pub tame_store : (s : FrameWord) (v : ℕ) (go : Capsule Where End) (m : Memory Where) → Tame go (store code_locations m (Own s) v)
      → Tame (Writes (Own s) v go) m
  tame_store s v go m h = record { reads = λ w x i. h.reads (Own s ∷ w) x i; writes = h.writes; opens = h.opens }

  pub tame_build : (o v : ℕ) (go : Capsule Where End) (m : Memory Where) → Tame go (store code_locations m (NewWord o) v)
      → Tame (Writes (NewWord o) v go) m
  tame_build o v go m h = record { reads = λ w x i. h.reads (NewWord o ∷ w) x i; writes = h.writes; opens = h.opens }

  pub tame_put : (y v : ℕ) (go : Capsule Where End) (m : Memory Where) → world.May y → Tame go (store code_locations m (Shared y) v)
      → Tame (Writes (Shared y) v go) m
  tame_put y v go m here h = record {
    reads = λ w x i. h.reads (Shared y ∷ w) x i;
    writes = λ x i. elim i [ inl e ↦ subst world.May (sym e) here | inr j ↦ h.writes x j ];
    opens = h.opens;
  }

  pub tame_ask : (n : ℕ) (go : Capsule Where End) (m : Memory Where) → Tame go m → Tame (AsksFor n go) m
  tame_ask n go m h = record { reads = h.reads; writes = h.writes; opens = h.opens }

  pub tame_end : (e : End) (m : Memory Where) → world.Opens e (own_of m) (new_of m) → Tame (Ends e) m
  tame_end e m h = record { reads = λ w x i. absurd i; writes = λ x i. absurd i; opens = h }

  -- the capsule of instructions that are left, the first of which has the number `here`
  abbrev pub Goes : (here : ℕ) → List Instr → List ℕ → Memory Where → Type 0
  Goes here is g m = Tame (capsule_from world.words here 0 is g) m

  -- how it goes on after an instruction
  abbrev pub Then : (here next : ℕ) → List Instr → List ℕ → Memory Where → Type 0
  Then here next is g m = Tame (capsule_from world.words (here + 1) (next - (here + 1)) is g) m

  onward : (here : ℕ) (is : List Instr) (g : List ℕ) (m : Memory Where) → Goes (here + 1) is g m → Then here (here + 1) is g m
  onward here is g m h =
      let e : 0 ≡ (here + 1) - (here + 1) = omega arith in
      subst (λ (k : ℕ). Tame (capsule_from world.words (here + 1) k is g) m) e h

  -- an act that sets a register or traps
  pub data Works (d : Register) : Act → Type 0 where
    Set : (v : ℕ) → Works d (Sets d v)
    Stop : (t : Trap) (line : ℕ) → Works d (Stops (Trapped t line))

  set_or_trap : (b : Bool) (d : Register) (v : ℕ) (t : Trap) (line : ℕ) → Works d (cond b (Sets d v) (traps t line))
  set_or_trap true d v t line = Set v
  set_or_trap false d v t line = Stop t line

  pub whole_works : (line : ℕ) (d : Register) (z : ℤ) → Works d (whole line d z)
  whole_works line d z = set_or_trap (fits z) d (word_of z) Overflow line

  pub divided_works : (line : ℕ) (d : Register) (x y z : ℤ) → Works d (divided line d x y z)
  divided_works line d x y z = go (is_zero y)
    where
      go : (b : Bool) → Works d (cond b (traps DivZero line) (cond (fits (int_div x y)) (Sets d (word_of z)) (traps Overflow line)))
      go true = Stop DivZero line
      go false = set_or_trap (fits (int_div x y)) d (word_of z) Overflow line

  module _ (here : ℕ) (is : List Instr) (g : List ℕ) (m : Memory Where) where
    pub go_set : (i : Instr) (d : Register) (v : ℕ) → does world.words i g ≡ Sets d v → Goes (here + 1) is (slice_set g d.index v) m
        → Goes here (i ∷ is) g m
    go_set i d v e h =
        subst (λ (a : Act). Tame (at_act (λ t k. capsule_from world.words (here + 1) (t - (here + 1)) is k) (here + 1) a g) m) (sym e)
        (onward here is (slice_set g d.index v) m h)

    pub go_work : (i : Instr) (d : Register) → Works d (does world.words i g) → ((v : ℕ) → Goes (here + 1) is (slice_set g d.index v) m)
        → Goes here (i ∷ is) g m
    go_work i d w h = go (does world.words i g) w
      where
        go : (a : Act) → Works d a → Tame (at_act (λ t k. capsule_from world.words (here + 1) (t - (here + 1)) is k) (here + 1) a g) m
        go a (Set v) = onward here is (slice_set g d.index v) m (h v)
        go a (Stop t line) = tame_end (Trapped t line) m (world.trapped t line (own_of m) (new_of m))

    pub go_load : (d : Register) (slot : ℕ) → Goes (here + 1) is (slice_set g d.index (m (Own (Slot slot)))) m
        → Goes here (instr.LoadSlot d slot ∷ is) g m
    go_load d slot h =
        tame_own (Slot slot) (λ v. capsule_from world.words (here + 1) ((here + 1) - (here + 1)) is (slice_set g d.index v)) m
        (onward here is (slice_set g d.index (m (Own (Slot slot)))) m h)

    pub go_store : (slot : ℕ) (d : Register) → Goes (here + 1) is g (store code_locations m (Own (Slot slot)) (held g d))
        → Goes here (instr.StoreCur slot d ∷ is) g m
    go_store slot d h =
        tame_store (Slot slot) (held g d) (capsule_from world.words (here + 1) ((here + 1) - (here + 1)) is g) m
        (onward here is g (store code_locations m (Own (Slot slot)) (held g d)) h)

    pub go_give : (d : Register) → Goes (here + 1) is g (store code_locations m (Own Value) (held g d)) → Goes here (instr.Give d ∷ is) g m
    go_give d h =
        tame_store Value (held g d) (capsule_from world.words (here + 1) ((here + 1) - (here + 1)) is g) m
        (onward here is g (store code_locations m (Own Value) (held g d)) h)

    pub go_new : (o : ℕ) (d : Register) → Goes (here + 1) is g (store code_locations m (NewWord o) (held g d))
        → Goes here (instr.StoreNew o d ∷ is) g m
    go_new o d h =
        tame_build o (held g d) (capsule_from world.words (here + 1) ((here + 1) - (here + 1)) is g) m
        (onward here is g (store code_locations m (NewWord o) (held g d)) h)

    pub go_room : (n : ℕ) → Goes (here + 1) is g m → Goes here (instr.Room n ∷ is) g m
    go_room n h = tame_ask n (capsule_from world.words (here + 1) ((here + 1) - (here + 1)) is g) m (onward here is g m h)

    pub go_end : (e : End) → world.Opens e (own_of m) (new_of m) → Goes here (instr.Ends e ∷ is) g m
    go_end e h = tame_end e m h

    pub go_zero : (d : Register) (target : ℕ) → Then here (max target (here + 1)) is g m → Goes (here + 1) is g m
        → Goes here (instr.BranchZero d target ∷ is) g m
    go_zero d target there on = go (held g d == 0)
      where
        go : (b : Bool)
            → Tame (at_act (λ t k. capsule_from world.words (here + 1) (t - (here + 1)) is k) (here + 1) (cond b (Jumps target) Passes) g) m
        go true = there
        go false = onward here is g m on

    pub go_other : (d : Register) (target : ℕ) → Then here (max target (here + 1)) is g m → Goes (here + 1) is g m
        → Goes here (instr.BranchNonZero d target ∷ is) g m
    go_other d target there on = go (held g d == 0)
      where
        go : (b : Bool)
            → Tame (at_act (λ t k. capsule_from world.words (here + 1) (t - (here + 1)) is k) (here + 1) (cond b Passes (Jumps target)) g) m
        go true = onward here is g m on
        go false = there

    -- the parts of a region
    pub go_cut_left : (d a b : Register) (line : ℕ) → (held g b ≤ length_of (held g a)
        → Goes (here + 1) is (slice_set g d.index (start_of (held g a) * 2 ^ 32 + held g b)) m) → Goes here (instr.CutLeft d a b line ∷ is) g m
    go_cut_left d a b line h = go (nat_le (held g b) (length_of (held g a))) refl
      where
        go : (c : Bool) → nat_le (held g b) (length_of (held g a)) ≡ c
            → Tame (at_act (λ t k. capsule_from world.words (here + 1) (t - (here + 1)) is k) (here + 1)
            (cond c (Sets d (start_of (held g a) * 2 ^ 32 + held g b)) (traps trap.Split line)) g) m
        go true e =
            onward here is (slice_set g d.index (start_of (held g a) * 2 ^ 32 + held g b)) m (h (leb-true (held g b) (length_of (held g a)) e))
        go false e = tame_end (Trapped trap.Split line) m (world.trapped trap.Split line (own_of m) (new_of m))

    pub go_cut_right : (d a b : Register) (line : ℕ)
        → Goes (here + 1) is (slice_set g d.index ((start_of (held g a) + held g b) * 2 ^ 32 + (length_of (held g a) - held g b))) m
        → Goes here (instr.CutRight d a b line ∷ is) g m
    go_cut_right d a b line h = go (nat_le (held g b) (length_of (held g a)) && nat_lt (start_of (held g a) + held g b) (2 ^ 32))
      where
        go : (c : Bool) → Tame (at_act (λ t k. capsule_from world.words (here + 1) (t - (here + 1)) is k) (here + 1)
            (cond c (Sets d ((start_of (held g a) + held g b) * 2 ^ 32 + (length_of (held g a) - held g b))) (traps trap.Split line)) g) m
        go true = onward here is (slice_set g d.index ((start_of (held g a) + held g b) * 2 ^ 32 + (length_of (held g a) - held g b))) m h
        go false = tame_end (Trapped trap.Split line) m (world.trapped trap.Split line (own_of m) (new_of m))

    -- an element of a region
    at_found : (line region index : ℕ) (step : ℕ → Step)
        → ((y : ℕ) → y ≡ start_of region + index → index < length_of region
        → Tame (at_act (λ t k. capsule_from world.words (here + 1) (t - (here + 1)) is k) (here + 1) (Steps (step y)) g) m)
        → Tame (at_act (λ t k. capsule_from world.words (here + 1) (t - (here + 1)) is k) (here + 1) (at_element line
        (element_of world.words region index) step) g) m
    at_found line region index step h = go (nat_lt index (length_of region)) (nat_lt (start_of region + index) world.words) refl
      where
        go : (a b : Bool) → nat_lt index (length_of region) ≡ a
            → Tame (at_act (λ t k. capsule_from world.words (here + 1) (t - (here + 1)) is k) (here + 1) (at_element line (cond (a && b) (Some
            (start_of region + index)) None) step) g) m
        go true true e = h (start_of region + index) refl (ltb-true index (length_of region) e)
        go true false e = tame_end (Trapped trap.Index line) m (world.trapped trap.Index line (own_of m) (new_of m))
        go false b e = tame_end (Trapped trap.Index line) m (world.trapped trap.Index line (own_of m) (new_of m))

    pub go_get : (d a b : Register) (line : ℕ) → ((i : ℕ) → i < length_of (held g a) → world.Owns (start_of (held g a) + i))
        → ((v : ℕ) → Goes (here + 1) is (slice_set g d.index v) m) → Goes here (instr.Get d a b line ∷ is) g m
    go_get d a b line here_owned h = at_found line (held g a) (held g b) (λ x. Loads (ArrayWord x) d) (λ y e low.
        tame_shared y (λ v. capsule_from world.words (here + 1) ((here + 1) - (here + 1)) is (slice_set g d.index v)) m
        (subst world.Owns (sym e) (here_owned (held g b) low)) (onward here is (slice_set g d.index (m (Shared y))) m (h (m (Shared y)))))

    pub go_put : (a b c : Register) (line : ℕ) → ((i : ℕ) → i < length_of (held g a) → world.May (start_of (held g a) + i))
        → ((y : ℕ) → Goes (here + 1) is g (store code_locations m (Shared y) (held g c))) → Goes here (instr.Put a b c line ∷ is) g m
    go_put a b c line may h = at_found line (held g a) (held g b) (λ x. Stores (ArrayWord x) (held g c)) (λ y e low.
        tame_put y (held g c) (capsule_from world.words (here + 1) ((here + 1) - (here + 1)) is g) m
        (subst world.May (sym e) (may (held g b) low)) (onward here is g (store code_locations m (Shared y) (held g c)) (h y)))
