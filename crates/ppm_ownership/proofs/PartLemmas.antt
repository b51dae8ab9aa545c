-- Regions that are parts of others, and what comes of a frame whose regions are parts of another's.
use Rattle.std.proofs.Common.{◌≡◌, ◌≢◌, ◌≤◌, ◌<◌, ◌+◌, true, false, ℕ, List, Some, refl, sym, ap, ◌∙◌, arith}
use Rattle.ppm_tree.specs.declared.mode.Mode.TheVariants as mode
use Rattle.ppm_tree.specs.declared.tree.Array.{Array}
use Rattle.ppm_tree.specs.State.{Region, Regions, first_part, second_part, part_at}
use Rattle.ppm_regions.specs.Scope.{Declaration, Scope, declared, is_region}
use Rattle.ppm_ownership.specs.Words.{HasWord, ShareNoWord, IsPart}
use Rattle.ppm_ownership.specs.Owning.{IsSeen, IsMut, IsWritable, OwnsApart, words_at, LieInArrays, OwnsNoMore}
use Rattle.ppm_ownership.specs.Coming.{stretch}
use Rattle.ppm_ownership.proofs.ScopeLemmas.{writable_seen}

pub part_of_itself : (r : Region) → IsPart r r
part_of_itself r = record { array = refl; from = omega arith; to = omega arith }

-- the words of a part are words of the whole
pub word_of_whole : {r s : Region} → IsPart r s → (a i : ℕ) → HasWord r a i → HasWord s a i
word_of_whole p a i h = record { array = sym p.array ∙ h.array; from = omega (arith, p.from, h.from); below = omega (arith, p.to, h.below) }

-- parts of regions without a common word have none
pub parts_share_none : {r s q w : Region} → IsPart r s → IsPart q w → ShareNoWord s w → ShareNoWord r q
parts_share_none p q h = record { none = λ a i m n. h.none a i (word_of_whole p a i m) (word_of_whole q a i n) }

pub share_none_back : {r s : Region} → ShareNoWord r s → ShareNoWord s r
share_none_back h = record { none = λ a i m n. h.none a i n m }

-- the parts of a split, and an element
pub first_in : (r : Region) (n : ℕ) → n ≤ r.length → IsPart (first_part n r) r
first_in r n h = record { array = refl; from = omega arith; to = omega (arith, h) }

pub second_in : (r : Region) (n : ℕ) → n ≤ r.length → IsPart (second_part n r) r
second_in r n h = record { array = refl; from = omega arith; to = omega (arith, h) }

pub element_in : (r : Region) (k : ℕ) → k < r.length → IsPart (part_at k r) r
element_in r k h = record { array = refl; from = omega arith; to = omega (arith, h) }

pub stretch_in : (r : Region) (n m : ℕ) → n + m ≤ r.length → IsPart (stretch n m r) r
stretch_in r n m h = record { array = refl; from = omega arith; to = omega (arith, h) }

pub element_of_stretch : (r : Region) (n m k : ℕ) → n ≤ k → k < n + m → IsPart (part_at k r) (stretch n m r)
element_of_stretch r n m k h l = record { array = refl; from = omega (arith, h); to = omega (arith, l) }

pub halves_share_none : (r : Region) (n : ℕ) → ShareNoWord (first_part n r) (second_part n r)
halves_share_none r n = record { none = λ a i p q. absurd (omega (arith, p.below, q.from)) }

pub elements_share_none : (r : Region) (k l : ℕ) → k ≢ l → ShareNoWord (part_at k r) (part_at l r)
elements_share_none r k l h = record { none = λ a i p q. h (omega (arith, p.from, p.below, q.from, q.below)) }

-- Where a region comes from, that is declared so: it is a part of one that may be used, `mut` where it is, and may be written where it may.
pub record Origin (scope : Scope) (regions : Regions) (e : Declaration) (r : Region) : Type 0 where
  pub name : List ℕ
  pub declaration : Declaration
  pub found : declared scope name ≡ Some declaration
  pub region : is_region declaration.mode ≡ true
  pub shown : declaration.hidden ≡ false
  pub written : e.mode ≡ mode.Mut → declaration.mode ≡ mode.Mut
  pub inner : e.mode ≡ mode.Mut → e.outer ≡ false → declaration.outer ≡ false
  pub part : IsPart r (regions name)

module _ {scope : Scope} {regions : Regions} {e : Declaration} {r : Region} where
  pub origin_seen : (o : Origin scope regions e r) → IsSeen scope o.name
  origin_seen o = record { declaration = o.declaration; found = o.found; region = o.region; shown = o.shown }

  pub origin_mut : (o : Origin scope regions e r) → e.mode ≡ mode.Mut → IsMut scope o.name
  origin_mut o m = record { declaration = o.declaration; found = o.found; written = o.written m; shown = o.shown }

  pub origin_writable : (o : Origin scope regions e r) → e.mode ≡ mode.Mut → e.outer ≡ false → IsWritable scope o.name
  origin_writable o m n = record {
    declaration = o.declaration;
    found = o.found;
    written = o.written m;
    shown = o.shown;
    inner = o.inner m n;
  }

-- of two regions from others of two names, one of which is `mut`, no word is shared
pub apart_by_origin : {scope : Scope} {regions : Regions} {d e : Declaration} {r s : Region} → OwnsApart scope regions
    → (o : Origin scope regions d r) (p : Origin scope regions e s) → d.mode ≡ mode.Mut → o.name ≢ p.name → ShareNoWord r s
apart_by_origin h o p m other = parts_share_none o.part p.part (h.apart o.name p.name (origin_mut o m) (origin_seen p) other)

-- frames whose regions all come from those of another
pub record ComesFrom (inner : Scope) (parts : Regions) (scope : Scope) (regions : Regions) : Type 0 where
  pub origin : (z : List ℕ) (e : Declaration) → declared inner z ≡ Some e → is_region e.mode ≡ true → e.hidden ≡ false → Origin scope regions e (parts z)

module _ {inner : Scope} {parts : Regions} {scope : Scope} {regions : Regions} (from : ComesFrom inner parts scope regions) where
  pub origin_of : (z : List ℕ) (m : IsSeen inner z) → Origin scope regions m.declaration (parts z)
  origin_of z m = from.origin z m.declaration m.found m.region m.shown

  pub owns_no_more : OwnsNoMore inner parts scope regions
  owns_no_more = record {
    owned = λ a i h.
        let o = origin_of h.name h.seen in
        record { name = o.name; seen = origin_seen o; has = word_of_whole o.part a i h.has };
    written = λ a i h.
        let o = origin_of h.name (writable_seen inner h.name h.writable) in
        record { name = o.name; writable = origin_writable o h.writable.written h.writable.inner; has = word_of_whole o.part a i h.has };
  }

  pub lie_still : (arrays : List Array) → LieInArrays arrays scope regions → LieInArrays arrays inner parts
  lie_still arrays h = record {
    within = λ x m.
        let o = origin_of x m in
        let there = h.within o.name (origin_seen o) in
        let same = ap (words_at arrays) o.part.array in
        let to = o.part.to in
        omega (arith, there, same, to);
  }

-- what owns no more than what owns no more
pub owns_on : {s₁ s₂ s₃ : Scope} {r₁ r₂ r₃ : Regions} → OwnsNoMore s₁ r₁ s₂ r₂ → OwnsNoMore s₂ r₂ s₃ r₃ → OwnsNoMore s₁ r₁ s₃ r₃
owns_on p q = record { owned = λ a i h. q.owned a i (p.owned a i h); written = λ a i h. q.written a i (p.written a i h) }

pub owns_itself : (s : Scope) (r : Regions) → OwnsNoMore s r s r
owns_itself s r = record { owned = λ a i h. h; written = λ a i h. h }
