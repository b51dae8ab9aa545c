-- The array words that a scope with its regions owns, as addresses: the arrays lie one after the other.
use Rattle.std.proofs.Common.{◌≡◌, ◌<◌, ℕ, ◌+◌, ◌*◌, ◌^◌, List, map, refl, sym, ap, ◌∙◌, subst, arith, ◌-◌, ap₂}
use Rattle.std.specs.List.{sum}
use Rattle.std.proofs.lemmas.Nat.{div-mul-add, mod-mul-add}
use Rattle.ppm_code.specs.Acts.{start_of, length_of}
use Rattle.ppm_tree.specs.declared.tree.Array.{Array}
use Rattle.ppm_tree.specs.State.{Region, Regions, first_part, second_part}
use Rattle.ppm_regions.specs.Scope.{Scope}
use Rattle.ppm_ownership.specs.Owning.{IsSeen, IsWritable, Owns, MayWrite, words_at, LieInArrays, OwnsNoMore, AreSeparate}
use Rattle.ppm_ownership.proofs.ScopeLemmas.{written_owned, writable_seen}
use Rattle.ppm_cut_code.proofs.RegionWords.{array_within, one_address, lengths_of, offset_of, region_word}
use Rattle.ppm_strands.specs.Labels.{IsLess, AreApart}

-- what a frame owns: the regions in force that may be used
pub record Label : Type 0 where
  pub scope : Scope
  pub regions : Regions

module _ (arrays : List Array) where
  pub record OwnsWord (l : Label) (x : ℕ) : Type 0 where
    pub array : ℕ
    pub index : ℕ
    pub owns : Owns l.scope l.regions array index
    pub below : index < words_at arrays array
    pub is : x ≡ offset_of (lengths_of arrays) array + index

  pub record WritesWord (l : Label) (x : ℕ) : Type 0 where
    pub array : ℕ
    pub index : ℕ
    pub may : MayWrite l.scope l.regions array index
    pub below : index < words_at arrays array
    pub is : x ≡ offset_of (lengths_of arrays) array + index

  pub writes_owned : (l : Label) (x : ℕ) → WritesWord l x → OwnsWord l x
  writes_owned l x h = record {
    array = h.array;
    index = h.index;
    owns = written_owned l.scope l.regions h.array h.index h.may;
    below = h.below;
    is = h.is;
  }

  pub less_label : (m l : Label) → OwnsNoMore m.scope m.regions l.scope l.regions → IsLess OwnsWord WritesWord m l
  less_label m l h = record {
    owned = λ x o. record { array = o.array; index = o.index; owns = h.owned o.array o.index o.owns; below = o.below; is = o.is };
    written = λ x o. record { array = o.array; index = o.index; may = h.written o.array o.index o.may; below = o.below; is = o.is };
  }

module _ (arrays : List Array) where
  pub apart_labels : (m k : Label) → AreSeparate m.scope m.regions k.scope k.regions → AreApart (OwnsWord arrays) (WritesWord arrays) m k
  apart_labels m k h = record {
    left = λ x w o.
        let same = one_address (lengths_of arrays) w.array o.array w.index o.index w.below o.below (sym w.is ∙ o.is) in
        h.left w.array w.index w.may (subst (λ (a : ℕ). Owns k.scope k.regions a w.index) (sym same.0)
        (subst (λ (i : ℕ). Owns k.scope k.regions o.array i) (sym same.1) o.owns));
    right = λ x o w.
        let same = one_address (lengths_of arrays) o.array w.array o.index w.index o.below w.below (sym o.is ∙ w.is) in
        h.right o.array o.index o.owns (subst (λ (a : ℕ). MayWrite k.scope k.regions a o.index) (sym same.0)
        (subst (λ (i : ℕ). MayWrite k.scope k.regions w.array i) (sym same.1) w.may));
  }

-- no array is too long
pub record AreShort (arrays : List Array) : Type 0 where
  pub short : (a : ℕ) → words_at arrays a < 2 ^ 32

pub short_arrays : (arrays : List Array) → sum (map (λ b. b.words) arrays) < 2 ^ 32 → AreShort arrays
short_arrays arrays h = record { short = λ a. let l = array_within (lengths_of arrays) a in omega (arith, l, h) }

module _ (arrays : List Array) (r : Region) (short : r.length < 2 ^ 32) where
  pub start_is : start_of (region_word (lengths_of arrays) r) ≡ offset_of (lengths_of arrays) r.array + r.start
  start_is = div-mul-add (offset_of (lengths_of arrays) r.array + r.start) (2 ^ 32) r.length short

  pub length_is : length_of (region_word (lengths_of arrays) r) ≡ r.length
  length_is = mod-mul-add (offset_of (lengths_of arrays) r.array + r.start) (2 ^ 32) r.length short

  -- the words of the parts of a region
  pub first_word : (n : ℕ) → start_of (region_word (lengths_of arrays) r) * 2 ^ 32 + n ≡ region_word (lengths_of arrays) (first_part n r)
  first_word n = ap (λ (s : ℕ). s * 2 ^ 32 + n) start_is

  pub second_word : (n : ℕ)
      → (start_of (region_word (lengths_of arrays) r) + n) * 2 ^ 32 + (length_of (region_word (lengths_of arrays) r) - n) ≡ region_word
      (lengths_of arrays) (second_part n r)
  second_word n =
      let s : offset_of (lengths_of arrays) r.array + r.start + n ≡ offset_of (lengths_of arrays) r.array + (r.start + n) = omega arith in
      ap₂ (λ (s l : ℕ). (s + n) * 2 ^ 32 + (l - n)) start_is length_is ∙ ap (λ (s : ℕ). s * 2 ^ 32 + (r.length - n)) s

-- the words of a region in force are words that the label owns
module _ (arrays : List Array) (all : AreShort arrays) (l : Label) (scope : Scope) (regions : Regions) (within : LieInArrays arrays scope regions)
    (home : OwnsNoMore scope regions l.scope l.regions) where
  pub seen_short : (x : List ℕ) → IsSeen scope x → (regions x).length < 2 ^ 32
  seen_short x seen = let w = within.within x seen in let s = all.short (regions x).array in omega (arith, w, s)

  pub owned_at : (x : List ℕ) → IsSeen scope x → (w i : ℕ) → w ≡ region_word (lengths_of arrays) (regions x) → i < length_of w
      → OwnsWord arrays l (start_of w + i)
  owned_at x seen w i is low =
      let r = regions x in
      let s = ap start_of is ∙ start_is arrays r (seen_short x seen) in
      let n = ap length_of is ∙ length_is arrays r (seen_short x seen) in
      let inside = within.within x seen in
      record {
        array = r.array;
        index = r.start + i;
        owns = home.owned r.array (r.start + i)
            (record { name = x; seen = seen; has = record { array = refl; from = omega arith; below = omega (arith, low, n) } });
        below = omega (arith, low, n, inside);
        is = omega (arith, s);
      }

  pub written_at : (x : List ℕ) → IsWritable scope x → (w i : ℕ) → w ≡ region_word (lengths_of arrays) (regions x) → i < length_of w
      → WritesWord arrays l (start_of w + i)
  written_at x may w i is low =
      let r = regions x in
      let seen = writable_seen scope x may in
      let s = ap start_of is ∙ start_is arrays r (seen_short x seen) in
      let n = ap length_of is ∙ length_is arrays r (seen_short x seen) in
      let inside = within.within x seen in
      record {
        array = r.array;
        index = r.start + i;
        may = home.written r.array (r.start + i)
            (record { name = x; writable = may; has = record { array = refl; from = omega arith; below = omega (arith, low, n) } });
        below = omega (arith, low, n, inside);
        is = omega (arith, s);
      }
