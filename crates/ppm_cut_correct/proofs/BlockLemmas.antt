-- Slots that come into registers one after the other, and registers that go into a new block.
use Rattle.std.proofs.Common.{◌≡◌, ◌≢◌, ◌≤◌, ◌<◌, ◌⊎◌, ℕ, zero, suc, ◌+◌, ◌-◌, List, [], ◌∷◌, length, get_or, inl, inr, refl, ap, ◌∙◌, subst, arith}
use Rattle.std.specs.Prelude.{slice_index, slice_set}
use Rattle.std.proofs.lemmas.Bool.{ne_eqb, cond-true, cond-false}
use Rattle.ppm_strands.specs.Capsule.{Memory, ending, leaves, asked, store}
use Rattle.ppm_strands.specs.Strand.{Own, New, own_of, new_of, shared_of}
use Rattle.ppm_code.specs.declared.instr.Instr.{Instr}
use Rattle.ppm_code.specs.declared.instr.Instr.TheVariants as instr
use Rattle.ppm_code.specs.declared.location.FrameWord.{FrameWord}
use Rattle.ppm_code.specs.declared.location.FrameWord.TheVariants.{Slot, Value}
use Rattle.ppm_code.specs.Acts.{held}
use Rattle.ppm_code.specs.Locations.{Where, code_locations}
use Rattle.ppm_code.specs.Capsules.{capsule_from}
use Rattle.ppm_code.specs.Strands.{built}
use Rattle.ppm_code.proofs.BuiltLemmas.{built_slot}
use Rattle.ppm_cut_code.specs.Layout.{Layout, slot_of, register}
use Rattle.ppm_cut_code.specs.Statements.{loads_code, names_code, stores_code}
use Rattle.ppm_cut_correct.proofs.ExprLemmas.{Goes, goes_on, goes_same, set_at, set_else, set_count, held_at}

-- so many registers from d on have words, those below are as they were, and there are 64
pub record Loaded (d count : ℕ) (word : ℕ → ℕ) (g h : List ℕ) : Type 0 where
  pub words : (k : ℕ) → k < count → slice_index h (d + k) ≡ word k
  pub keeps : (i : ℕ) → i < d → slice_index h i ≡ slice_index g i
  pub length_is : length h ≡ 64

none_loaded : (d : ℕ) (word : ℕ → ℕ) (g : List ℕ) → length g ≡ 64 → Loaded d 0 word g g
none_loaded d word g count = record { words = λ k low. absurd (omega (arith, low)); keeps = λ i low. refl; length_is = count }

-- a register is set, and then those above it are loaded
loaded_more : (d count : ℕ) (word : ℕ → ℕ) (g h : List ℕ) → d < 64 → length g ≡ 64
    → Loaded (suc d) count (λ k. word (suc k)) (slice_set g (register d).index (word 0)) h → Loaded d (suc count) word g h
loaded_more d count word g h low is l = record {
  words = loaded_words;
  keeps = λ i below. l.keeps i (omega (arith, below)) ∙ set_else g d (word 0) i low (λ e. absurd (omega (arith, e, below)));
  length_is = l.length_is;
}
  where
    loaded_words : (k : ℕ) → k < suc count → slice_index h (d + k) ≡ word k
    loaded_words zero below =
        let first : d + 0 ≡ d = omega arith in
        ap (slice_index h) first ∙ l.keeps d (omega arith) ∙ set_at g d (word 0) is low
    loaded_words (suc k) below =
        let next : d + suc k ≡ suc d + k = omega arith in
        ap (slice_index h) next ∙ l.words k (omega (arith, below))

module _ (W : ℕ) (m : Memory Where) where
  -- the capsule goes through loads, to the instructions of the rest
  pub record Loads (d count : ℕ) (word : ℕ → ℕ) (at : ℕ) (is rest : List Instr) (g : List ℕ) : Type 0 where
    pub registers : List ℕ
    pub number : ℕ
    pub goes : Goes (capsule_from W at 0 is g) m (capsule_from W number 0 rest registers) m
    pub loaded : Loaded d count word g registers

  -- a load in front
  load_more : (d count : ℕ) (word : ℕ → ℕ) (at s : ℕ) (is rest : List Instr) (g : List ℕ) → d < 64 → length g ≡ 64 → m (Own (Slot s)) ≡ word 0
      → Loads (suc d) count (λ k. word (suc k)) (at + 1) is rest (slice_set g (register d).index (m (Own (Slot s))))
      → Loads d (suc count) word at (instr.LoadSlot (register d) s ∷ is) rest g
  load_more d count word at s is rest g low length_is is_word l =
      let v = m (Own (Slot s)) in
      let g' = slice_set g (register d).index v in
      let next : (at + 1) - (at + 1) ≡ 0 = omega arith in
      record {
        registers = l.registers;
        number = l.number;
        goes = record {
          ends = ap (λ (z : ℕ). ending code_locations (capsule_from W (at + 1) z is g') m) next ∙ l.goes.ends;
          left = ap (λ (z : ℕ). leaves code_locations (capsule_from W (at + 1) z is g') m) next ∙ l.goes.left;
          asks = ap (λ (z : ℕ). asked code_locations (capsule_from W (at + 1) z is g') m) next ∙ l.goes.asks;
        };
        loaded = loaded_more d count word g l.registers low length_is
            (subst (λ (v : ℕ). Loaded (suc d) count (λ k. word (suc k)) (slice_set g (register d).index v) l.registers) is_word l.loaded);
      }

  pub loads_go : (layout names : Layout) (d at : ℕ) (rest : List Instr) (g : List ℕ) → length g ≡ 64 → d + length names ≤ 64
      → Loads d (length names) (λ k. m (Own (Slot (slot_of layout (get_or names k []))))) at (loads_code layout names d rest) rest g
  loads_go layout [] d at rest g count low =
      record { registers = g; number = at; goes = goes_same (capsule_from W at 0 rest g) m; loaded = none_loaded d _ g count }
  loads_go layout (x ∷ names) d at rest g count low =
      load_more d (length names) (λ k. m (Own (Slot (slot_of layout (get_or (x ∷ names) k []))))) at (slot_of layout x)
      (loads_code layout names (suc d) rest) rest g (omega (arith, low)) count refl
      (loads_go layout names (suc d) (at + 1) rest _ (set_count g d _ count) (omega (arith, low)))

  pub names_go : (slot d count at : ℕ) (rest : List Instr) (g : List ℕ) → length g ≡ 64 → d + count ≤ 64
      → Loads d count (λ k. m (Own (Slot (slot + k)))) at (names_code slot d count rest) rest g
  names_go slot d zero at rest g length_is low =
      record { registers = g; number = at; goes = goes_same (capsule_from W at 0 rest g) m; loaded = none_loaded d _ g length_is }
  names_go slot d (suc count) at rest g length_is low =
      let first : slot ≡ slot + 0 = omega arith in
      let later = names_go (suc slot) (suc d) count (at + 1) rest (slice_set g (register d).index (m (Own (Slot slot))))
      (set_count g d _ length_is) (omega (arith, low)) in
      load_more d count (λ k. m (Own (Slot (slot + k)))) at slot (names_code (suc slot) (suc d) count rest) rest g (omega (arith, low)) length_is
      (ap (λ (s : ℕ). m (Own (Slot s))) first)
      (record {
        registers = later.registers;
        number = later.number;
        goes = later.goes;
        loaded = record {
          words = λ k low. later.loaded.words k low ∙ ap (λ (s : ℕ). m (Own (Slot s))) (let next : suc slot + k ≡ slot + suc k = omega arith in next);
          keeps = later.loaded.keeps;
          length_is = later.loaded.length_is;
        };
      })

-- the memory once so many registers, from d on, have been stored in the new block, from an offset on
abbrev pub stored : List ℕ → (offset d count : ℕ) → Memory Where → Memory Where
stored h offset d zero m = m
stored h offset d (suc count) m = stored h (suc offset) (suc d) count (store code_locations m (New offset) (slice_index h d))

new_at : (m : Memory Where) (o v : ℕ) → store code_locations m (New o) v (New o) ≡ v
new_at m o v = cond-true (code_locations.same (New o) (New o)) v (m (New o)) (code_locations.is_self (New o))

new_else : (m : Memory Where) (o v i : ℕ) → i ≢ o → store code_locations m (New o) v (New i) ≡ m (New i)
new_else m o v i other = cond-false _ v (m (New i)) (ne_eqb i o other)

pub stored_else : (h : List ℕ) (offset d count : ℕ) (m : Memory Where) (i : ℕ) → (i < offset) ⊎ (offset + count ≤ i)
    → stored h offset d count m (New i) ≡ m (New i)
stored_else h offset d zero m i far = refl
stored_else h offset d (suc count) m i far =
    stored_else h (suc offset) (suc d) count (store code_locations m (New offset) (slice_index h d)) i
    (elim far [ inl low ↦ inl (omega (arith, low)) | inr high ↦ inr (omega (arith, high)) ])
    ∙ new_else m offset (slice_index h d) i
    (elim far [ inl low ↦ λ e. absurd (omega (arith, low, e)) | inr high ↦ λ e. absurd (omega (arith, high, e)) ])

pub stored_at : (h : List ℕ) (offset d count : ℕ) (m : Memory Where) (k : ℕ) → k < count
    → stored h offset d count m (New (offset + k)) ≡ slice_index h (d + k)
stored_at h offset d zero m k low = absurd (omega (arith, low))
stored_at h offset d (suc count) m zero low =
    let first : offset + 0 ≡ offset = omega arith in
    let same : d ≡ d + 0 = omega arith in
    let m' = store code_locations m (New offset) (slice_index h d) in
    ap (λ (i : ℕ). stored h (suc offset) (suc d) count m' (New i)) first
    ∙ stored_else h (suc offset) (suc d) count m' offset (inl (omega arith)) ∙ new_at m offset (slice_index h d) ∙ ap (slice_index h) same
stored_at h offset d (suc count) m (suc k) low =
    let next : offset + suc k ≡ suc offset + k = omega arith in
    let same : suc d + k ≡ d + suc k = omega arith in
    let m' = store code_locations m (New offset) (slice_index h d) in
    ap (λ (i : ℕ). stored h (suc offset) (suc d) count m' (New i)) next
    ∙ stored_at h (suc offset) (suc d) count m' k (omega (arith, low)) ∙ ap (slice_index h) same

-- the frame and the shared words are as they were
pub stored_own : (h : List ℕ) (offset d count : ℕ) (m : Memory Where) → own_of (stored h offset d count m) ≡ own_of m
stored_own h offset d zero m = refl
stored_own h offset d (suc count) m = stored_own h (suc offset) (suc d) count (store code_locations m (New offset) (slice_index h d))

pub stored_shared : (h : List ℕ) (offset d count : ℕ) (m : Memory Where) → shared_of (stored h offset d count m) ≡ shared_of m
stored_shared h offset d zero m = refl
stored_shared h offset d (suc count) m = stored_shared h (suc offset) (suc d) count (store code_locations m (New offset) (slice_index h d))

-- the capsule goes through stores, to the instructions of the rest
pub stores_go : (W offset d count at : ℕ) (rest : List Instr) (h : List ℕ) (m : Memory Where) → d + count ≤ 64
    → (number : ℕ) × Goes (capsule_from W at 0 (stores_code offset d count rest) h) m (capsule_from W number 0 rest h) (stored h offset d count m)
stores_go W offset d zero at rest h m low = (at, goes_same (capsule_from W at 0 rest h) m)
stores_go W offset d (suc count) at rest h m low =
    let next : (at + 1) - (at + 1) ≡ 0 = omega arith in
    let v = held_at h d (omega (arith, low)) in
    let p = stores_go W (suc offset) (suc d) count (at + 1) rest h (store code_locations m (New offset) (slice_index h d)) (omega (arith, low)) in
    let is = stores_code (suc offset) (suc d) count rest in (
      p.0,
      record {
        ends = ap (λ (z : ℕ). ending code_locations (capsule_from W (at + 1) z is h) (store code_locations m (New offset) (held h (register d)))) next
            ∙ ap (λ (z : ℕ). ending code_locations (capsule_from W (at + 1) 0 is h) (store code_locations m (New offset) z)) v ∙ p.1.ends;
        left = ap (λ (z : ℕ). leaves code_locations (capsule_from W (at + 1) z is h) (store code_locations m (New offset) (held h (register d)))) next
            ∙ ap (λ (z : ℕ). leaves code_locations (capsule_from W (at + 1) 0 is h) (store code_locations m (New offset) z)) v ∙ p.1.left;
        asks = ap (λ (z : ℕ). asked code_locations (capsule_from W (at + 1) z is h) (store code_locations m (New offset) (held h (register d)))) next
            ∙ ap (λ (z : ℕ). asked code_locations (capsule_from W (at + 1) 0 is h) (store code_locations m (New offset) z)) v ∙ p.1.asks;
      },
    )

-- The frame of a half in a new block, whose slots begin at o: its part from register `part`, its first index from register `index`, and so
-- many names from register 6 on.
module _ (h : List ℕ) (o part index count : ℕ) (m : Memory Where) where
  abbrev pub half_stored : Memory Where
  half_stored = stored h (suc (suc o)) 6 count (stored h (suc o) index 1 (stored h o part 1 m))

  pub half_own : own_of half_stored ≡ own_of m
  half_own = stored_own h (suc (suc o)) 6 count (stored h (suc o) index 1 (stored h o part 1 m))

  pub half_shared : shared_of half_stored ≡ shared_of m
  half_shared = stored_shared h (suc (suc o)) 6 count (stored h (suc o) index 1 (stored h o part 1 m))

  -- elsewhere the block is as it was
  pub half_else : (i : ℕ) → (i < o) ⊎ (o + suc (suc count) ≤ i) → half_stored (New i) ≡ m (New i)
  half_else i far =
      stored_else h (suc (suc o)) 6 count (stored h (suc o) index 1 (stored h o part 1 m)) i
      (elim far [ inl low ↦ inl (omega (arith, low)) | inr high ↦ inr (omega (arith, high)) ])
      ∙ stored_else h (suc o) index 1 (stored h o part 1 m) i (elim far [ inl low ↦ inl (omega (arith, low)) | inr high ↦ inr (omega (arith, high)) ])
      ∙ stored_else h o part 1 m i (elim far [ inl low ↦ inl (omega (arith, low)) | inr high ↦ inr (omega (arith, high)) ])

  half_part : half_stored (New o) ≡ slice_index h part
  half_part =
      stored_else h (suc (suc o)) 6 count (stored h (suc o) index 1 (stored h o part 1 m)) o (inl (omega arith))
      ∙ stored_else h (suc o) index 1 (stored h o part 1 m) o (inl (omega arith)) ∙ new_at m o (slice_index h part)

  half_index : half_stored (New (suc o)) ≡ slice_index h index
  half_index =
      stored_else h (suc (suc o)) 6 count (stored h (suc o) index 1 (stored h o part 1 m)) (suc o) (inl (omega arith))
      ∙ new_at (stored h o part 1 m) (suc o) (slice_index h index)

  half_name : (k : ℕ) → k < count → half_stored (New (suc (suc o) + k)) ≡ slice_index h (6 + k)
  half_name k low = stored_at h (suc (suc o)) 6 count (stored h (suc o) index 1 (stored h o part 1 m)) k low

  -- a frame with these slots
  pub record IsHalf (own : FrameWord → ℕ) : Type 0 where
    pub at_part : own (Slot 0) ≡ slice_index h part
    pub at_index : own (Slot 1) ≡ slice_index h index
    pub names : (k : ℕ) → k < count → own (Slot (suc (suc k))) ≡ slice_index h (6 + k)
    pub value : own Value ≡ 0

  -- it lies in the block, where that was blank and what is stored later lies elsewhere
  pub half_built : (later : Memory Where) (slots frame : ℕ) → suc (suc count) ≤ slots → frame + 6 ≡ o
      → ((i : ℕ) → o ≤ i → i < o + suc (suc count) → later (New i) ≡ half_stored (New i)) → later (New (frame + 4)) ≡ 0
      → IsHalf (built slots frame (new_of later))
  half_built later slots frame fit is keeps blank = record {
    at_part = built_slot slots frame (new_of later) 0 (omega (arith, fit))
        ∙ ap (λ (i : ℕ). later (New i)) (let e : frame + (6 + 0) ≡ o = omega (arith, is) in e) ∙ keeps o (omega arith) (omega arith) ∙ half_part;
    at_index = built_slot slots frame (new_of later) 1 (omega (arith, fit))
        ∙ ap (λ (i : ℕ). later (New i)) (let e : frame + (6 + 1) ≡ suc o = omega (arith, is) in e)
        ∙ keeps (suc o) (omega arith) (omega arith) ∙ half_index;
    names = λ k low. built_slot slots frame (new_of later) (suc (suc k)) (omega (arith, fit, low))
        ∙ ap (λ (i : ℕ). later (New i)) (let e : frame + (6 + suc (suc k)) ≡ suc (suc o) + k = omega (arith, is) in e)
        ∙ keeps (suc (suc o) + k) (omega arith) (omega (arith, low)) ∙ half_name k low;
    value = blank;
  }

  pub half_go : (W at : ℕ) (rest : List Instr) → part < 64 → index < 64 → 6 + count ≤ 64
      → (number : ℕ) × Goes (capsule_from W at 0 (instr.StoreNew o (register part) ∷ instr.StoreNew (suc o) (register index)
      ∷ stores_code (suc (suc o)) 6 count rest) h) m (capsule_from W number 0 rest h) half_stored
  half_go W at rest low_part low_index low =
      let behind = stores_code (suc (suc o)) 6 count rest in
      let one = stores_go W o part 1 at (instr.StoreNew (suc o) (register index) ∷ behind) h m (omega (arith, low_part)) in
      let two = stores_go W (suc o) index 1 one.0 behind h (stored h o part 1 m) (omega (arith, low_index)) in
      let three = stores_go W (suc (suc o)) 6 count two.0 rest h (stored h (suc o) index 1 (stored h o part 1 m)) low in
      (three.0, goes_on one.1 (goes_on two.1 three.1))
