-- Own words as they are stored and built.
use Rattle.std.proofs.Common.{◌≡◌, ◌<◌, ℕ, zero, suc, ◌+◌, ◌==◌, Bool, true, false, cond, List, [], ◌∷◌, get_or, refl, sym, ap, ◌∙◌, arith, nat_lt}
use Rattle.std.proofs.Common.{◌++◌, length, set, eqb-true, eq-eqb, ltb-true, lt-ltb}
use Rattle.std.specs.Cmp.{both_ways as same_tests}
use Rattle.std.proofs.lemmas.List.{get_or-set_same, get_or-set_other}
use Rattle.ppm_strands.specs.Capsule.{Memory, store}
use Rattle.ppm_code.specs.declared.location.FrameWord.{FrameWord}
use Rattle.ppm_code.specs.declared.location.FrameWord.TheVariants.{Slot, Value}
use Rattle.ppm_code.specs.Sizes.{slot_at, value_at}
use Rattle.ppm_code.specs.Strands.{built}
use Rattle.ppm_filled.specs.Racing.{OwnWord, OfFrame, OfBlock, OfEnd, EndWord, own_words, framed, block_in}
use Rattle.ppm_interleaving.specs.declared.own.Own.{Own}
use Rattle.ppm_interleaving.specs.Owns.{ShowsOwn, frame_word_in, slots_from}

module _ (old new : Own) (o : Memory OwnWord) (shows : ShowsOwn old o) where
  -- a slot
  pub slot_stored : (i v : ℕ) → ((at : ℕ) → get_or new.slots.items at 0 ≡ cond (at == i) v (get_or old.slots.items at 0)) → new.value ≡ old.value
      → new.block.items ≡ old.block.items → ShowsOwn new (store own_words o (OfFrame (Slot i)) v)
  slot_stored i v is value block = record { frame = by; block = λ n. shows.block n ∙ ap (λ (ws : List ℕ). get_or ws n 0) (sym block) }
    where
      by : (k : FrameWord) → store own_words o (OfFrame (Slot i)) v (OfFrame k) ≡ frame_word_in new k
      by (Slot j) = ap (λ (w : ℕ). cond (j == i) v w) (shows.frame (Slot j)) ∙ sym (is j)
      by Value = shows.frame Value ∙ sym value

  -- the value
  pub value_stored : (v : ℕ) → new.slots.items ≡ old.slots.items → new.value ≡ v → new.block.items ≡ old.block.items
      → ShowsOwn new (store own_words o (OfFrame Value) v)
  value_stored v slots value block = record { frame = by; block = λ n. shows.block n ∙ ap (λ (ws : List ℕ). get_or ws n 0) (sym block) }
    where
      by : (k : FrameWord) → store own_words o (OfFrame Value) v (OfFrame k) ≡ frame_word_in new k
      by (Slot j) = shows.frame (Slot j) ∙ ap (λ (ws : List ℕ). get_or ws j 0) (sym slots)
      by Value = sym value

  -- a word of the block
  pub block_stored : (i v : ℕ) → ((at : ℕ) → get_or new.block.items at 0 ≡ cond (at == i) v (get_or old.block.items at 0)) → new.value ≡ old.value
      → new.slots.items ≡ old.slots.items → ShowsOwn new (store own_words o (OfBlock i) v)
  block_stored i v is value slots = record { frame = by; block = λ n. ap (λ (w : ℕ). cond (n == i) v w) (shows.block n) ∙ sym (is n) }
    where
      by : (k : FrameWord) → store own_words o (OfBlock i) v (OfFrame k) ≡ frame_word_in new k
      by (Slot j) = shows.frame (Slot j) ∙ ap (λ (ws : List ℕ). get_or ws j 0) (sym slots)
      by Value = shows.frame Value ∙ sym value

-- what an end stores is none of the words that are shown
pub end_stored : (own : Own) (o : Memory OwnWord) (w : EndWord) (v : ℕ) → ShowsOwn own o → ShowsOwn own (store own_words o (OfEnd w) v)
end_stored own o w v shows = record { frame = λ k. shows.frame k; block = λ n. shows.block n }

-- words from a place on, one by one
less_suc : (i n : ℕ) → nat_lt (suc i) (suc n) ≡ nat_lt i n
less_suc i n = same_tests (nat_lt (suc i) (suc n)) (nat_lt i n)
    (λ e. lt-ltb i n (omega (arith, ltb-true (suc i) (suc n) e))) (λ e. lt-ltb (suc i) (suc n) (omega (arith, ltb-true i n e)))

none_less : (i : ℕ) → nat_lt i 0 ≡ false
none_less i = go (nat_lt i 0) refl
  where
    go : (t : Bool) → nat_lt i 0 ≡ t → t ≡ false
    go true e = absurd (omega (arith, ltb-true i 0 e))
    go false e = refl

pub from_place : (words : List ℕ) (place count i : ℕ) → get_or (slots_from words place count) i 0 ≡ cond (nat_lt i count) (get_or words (place + i) 0) 0
from_place words place zero i = ap (λ (t : Bool). cond t (get_or words (place + i) 0) 0) (sym (none_less i))
from_place words place (suc n) zero =
    let here : place ≡ place + 0 = omega arith in
    ap (λ (k : ℕ). get_or words k 0) here ∙ ap (λ (t : Bool). cond t (get_or words (place + 0) 0) 0) (sym (lt-ltb 0 (suc n) (omega arith)))
from_place words place (suc n) (suc i) =
    let next : place + 1 + i ≡ place + suc i = omega arith in
    from_place words (place + 1) n i ∙ (λ j. cond (sym (less_suc i n) j) (get_or words (next j) 0) 0)

-- the frame of a procedure in the block
pub built_frame : (old new : Own) (o : Memory OwnWord) (slots frame : ℕ) → ShowsOwn old o
    → new.slots.items ≡ slots_from old.block.items (frame + 6) slots → new.value ≡ get_or old.block.items (frame + 4) 0 → new.block.items ≡ []
    → ShowsOwn new (framed (built slots frame (block_in o)))
built_frame old new o slots frame shows is value block = record { frame = by; block = λ n. ap (λ (ws : List ℕ). get_or ws n 0) (sym block) }
  where
    by : (k : FrameWord) → framed (built slots frame (block_in o)) (OfFrame k) ≡ frame_word_in new k
    by (Slot j) =
        ap (λ (w : ℕ). cond (nat_lt j slots) w 0) (shows.block (frame + slot_at j) ∙ ap (λ (n : ℕ). get_or old.block.items n 0) (omega arith))
        ∙ sym (from_place old.block.items (frame + 6) slots j) ∙ ap (λ (ws : List ℕ). get_or ws j 0) (sym is)
    by Value = shows.block (frame + value_at) ∙ sym value

-- a zero more is a word that was not there
pub zero_more : (words : List ℕ) (at : ℕ) → get_or (words ++ 0 ∷ []) at 0 ≡ get_or words at 0
zero_more [] zero = refl
zero_more [] (suc at) = refl
zero_more (w ∷ ws) zero = refl
zero_more (w ∷ ws) (suc at) = zero_more ws at

-- a word that is there is put
pub one_put : (words : List ℕ) (place word : ℕ) → place < length words → (at : ℕ)
    → get_or (set words place word) at 0 ≡ cond (at == place) word (get_or words at 0)
one_put words place word less at = go (at == place) refl
  where
    go : (same : Bool) → (at == place) ≡ same → get_or (set words place word) at 0 ≡ cond same word (get_or words at 0)
    go true e = ap (λ (n : ℕ). get_or (set words place word) n 0) (eqb-true at place e) ∙ get_or-set_same words place word 0 less
    go false e = get_or-set_other words place at word 0 (λ same. other (sym e ∙ eq-eqb at place same))
      where
        other : false ≡ true → ⊥
        other h = cc

-- a word more from a place on
pub slot_more : (words : List ℕ) (place n : ℕ) → slots_from words place (n + 1) ≡ slots_from words place n ++ get_or words (place + n) 0 ∷ []
slot_more words place zero = ap (λ (k : ℕ). get_or words k 0 ∷ []) (omega arith)
slot_more words place (suc n) =
    let one : suc n + 1 ≡ suc (n + 1) = omega arith in
    let place_is : place + 1 + n ≡ place + suc n = omega arith in
    ap (slots_from words place) one
    ∙ ap (λ (l : List ℕ). get_or words place 0 ∷ l) (slot_more words (place + 1) n ∙ ap (λ (k : ℕ). slots_from words (place + 1) n ++ get_or words k 0 ∷ []) place_is)
