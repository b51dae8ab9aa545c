-- The finish word over one word step: it is as it was, or was 0.
use Rattle.std.proofs.Common.{◌≡◌, ◌≢◌, ◌<◌, ◌⊎◌, inl, inr, refl, sym, ◌∙◌, arith, ℕ, zero, suc, Bool, true, false, List, [], ◌∷◌, ◌==◌, length}
use Rattle.std.proofs.Common.{slice_index, slice_set}
use Rattle.std.specs.Prelude.{if◌then◌else◌}
use Rattle.std.proofs.lemmas.Bool.Decides.{eqb_tells}
use Rattle.std.proofs.lemmas.List.{length-set, get_or-set_other, get_or-set_same}
use Rattle.ppm_step.specs.declared.ask.Want.{Want}
use Rattle.ppm_step.specs.declared.ask.Want.TheVariants.{Loads as WantsLoad, Stores as WantsStore, Exchanges as WantsExchange, Nothing}
use Rattle.ppm_step.specs.State.{words_after}

false_is_not_true : false ≡ true → ⊥
false_is_not_true e = cc

-- what an act asks: an exchange of the finish word is from 0, for a word that P allows
abbrev pub Asks : (P : ℕ → Type 0) → Want → Type 0
Asks P (WantsLoad at) = Unit {0}
Asks P (WantsStore at word) = 0 < at
Asks P (WantsExchange at old new) = (0 < at) ⊎ ((old ≡ 0) × P new)
Asks P Nothing = Unit {0}

pub exchanged : (words : List ℕ) (new : ℕ) → new ≢ 0 → 0 < length words → slice_index (words_after words (WantsExchange 0 0 new)) 0 ≢ 0
exchanged words new some long = by (slice_index words 0 == 0) (eqb_tells (slice_index words 0) 0)
  where
    by : (b : Bool) → ((b ≡ true) × (slice_index words 0 ≡ 0)) ⊎ ((b ≡ false) × (slice_index words 0 ≢ 0))
        → slice_index (if b then slice_set words 0 new else words) 0 ≢ 0
    by true t = λ none. some (sym (get_or-set_same words 0 new 0 long) ∙ none)
    by false (inl t) = absurd (false_is_not_true t.0)
    by false (inr t) = t.1

-- from 0 it becomes the new word
pub exchanged_to : (words : List ℕ) (new : ℕ) → slice_index words 0 ≡ 0 → 0 < length words
    → slice_index (words_after words (WantsExchange 0 0 new)) 0 ≡ new
exchanged_to words new none long = by (slice_index words 0 == 0) (eqb_tells (slice_index words 0) 0)
  where
    by : (b : Bool) → ((b ≡ true) × (slice_index words 0 ≡ 0)) ⊎ ((b ≡ false) × (slice_index words 0 ≢ 0))
        → slice_index (if b then slice_set words 0 new else words) 0 ≡ new
    by true t = get_or-set_same words 0 new 0 long
    by false (inl t) = absurd (false_is_not_true t.0)
    by false (inr t) = absurd (t.1 none)

-- the words after a want: the finish word is as it was, or was 0
abbrev pub WordGoes : (P : ℕ → Type 0) → (old new : ℕ) → Type 0
WordGoes P old new = (new ≡ old) ⊎ ((old ≡ 0) × P new)

set_first : (P : ℕ → Type 0) (words : List ℕ) (word : ℕ) → slice_index words 0 ≡ 0 → P word
    → WordGoes P (slice_index words 0) (slice_index (slice_set words 0 word) 0)
set_first P [] word none p = inl refl
set_first P (x ∷ words) word none p = inr (none, p)

if_set : (words : List ℕ) (at word : ℕ) (b : Bool) → 0 < at → slice_index (if b then slice_set words at word else words) 0 ≡ slice_index words 0
if_set words at word true far = get_or-set_other words at 0 word 0 (λ e. omega (arith, far, e))
if_set words at word false far = refl

by_exchange : (P : ℕ → Type 0) (words : List ℕ) (at old new : ℕ) → old ≡ 0 → P new
    → WordGoes P (slice_index words 0) (slice_index (words_after words (WantsExchange at old new)) 0)
by_exchange P words (suc at) old new zero_ p = inl (if_set words (suc at) new (slice_index words (suc at) == old) (omega arith))
by_exchange P words zero old new zero_ p = by (slice_index words 0 == old) (eqb_tells (slice_index words 0) old)
  where
    by : (b : Bool) → ((b ≡ true) × (slice_index words 0 ≡ old)) ⊎ ((b ≡ false) × (slice_index words 0 ≢ old))
        → WordGoes P (slice_index words 0) (slice_index (if b then slice_set words 0 new else words) 0)
    by true (inl t) = set_first P words new (t.1 ∙ zero_) p
    by true (inr t) = absurd (false_is_not_true (sym t.0))
    by false t = inl refl

pub word_goes : (P : ℕ → Type 0) (words : List ℕ) (want : Want) → Asks P want
    → WordGoes P (slice_index words 0) (slice_index (words_after words want) 0)
word_goes P words (WantsLoad at) h = inl refl
word_goes P words (WantsStore at word) far = inl (get_or-set_other words at 0 word 0 (λ e. omega (arith, far, e)))
word_goes P words (WantsExchange at old new) (inl far) = inl (if_set words at new (slice_index words at == old) far)
word_goes P words (WantsExchange at old new) (inr p) = by_exchange P words at old new p.0 p.1
word_goes P words Nothing h = inl refl

pub length_stays : (words : List ℕ) (want : Want) → length (words_after words want) ≡ length words
length_stays words (WantsLoad at) = refl
length_stays words (WantsStore at word) = length-set words at word
length_stays words (WantsExchange at old new) = by (slice_index words at == old)
  where
    by : (b : Bool) → length (if b then slice_set words at new else words) ≡ length words
    by true = length-set words at new
    by false = refl
length_stays words Nothing = refl

-- once it isn't 0
pub kept_over : (P : ℕ → Type 0) (old new : ℕ) → WordGoes P old new → old ≢ 0 → new ≡ old
kept_over P old new (inl same) some = same
kept_over P old new (inr t) some = absurd (some t.0)
