-- A place is renewed by three stores, each seen in one cell.
use Rattle.std.proofs.Common.{◌≡◌, ◌≢◌, ◌∙◌, ℕ, ◌+◌, ◌<◌, Bool, true, false, cond, List, refl, sym, ap, subst, arith, le_refl}
use Rattle.std.specs.Prelude.{nat_lt}
use Rattle.std.proofs.lemmas.Bool.{both_ways, ltb-true, ltb-false, lt-ltb, le-ltb}
use Rattle.std.proofs.lemmas.List.{length-set}
use Rattle.ppm_cells.specs.Cells.{address, IsCell}
use Rattle.ppm_cells.specs.Finish.{finish_of}
use Rattle.ppm_cells.specs.Holder.{holder_word, holder_of}
use Rattle.ppm_cells.specs.Memory.{read, write, AreWordsOf}
use Rattle.ppm_cells.specs.declared.cell.Cell.{Cell}
use Rattle.ppm_cells.specs.declared.cell.Cell.TheVariants.{FinishWord, CarryWord, DeadWord, HolderWord}
use Rattle.ppm_cells.specs.declared.shape.Shape.{Shape}
use Rattle.ppm_cells.proofs.MemoryLemmas.{read_back, others}
use Rattle.ppm_saved.specs.Renewal.{holder_behind, finish_behind, renewed, is_below, AreRenewed, AreRenewedBelow}

-- kinds of cells, and their numbers
abbrev is_finish : Cell → Bool
is_finish FinishWord = true
is_finish _ = false

abbrev is_carry : Cell → Bool
is_carry (CarryWord processor) = true
is_carry _ = false

abbrev is_dead : Cell → Bool
is_dead (DeadWord processor) = true
is_dead _ = false

abbrev is_holder : Cell → Bool
is_holder (HolderWord place) = true
is_holder _ = false

abbrev number : Cell → ℕ
number (CarryWord processor) = processor
number (DeadWord processor) = processor
number (HolderWord place) = place
number _ = 0

-- a cell of another kind is another cell
no_finish : (c : Cell) → is_finish c ≡ false → c ≢ FinishWord
no_finish c h e = both_ways (is_finish c) h (ap is_finish e)

no_carry : (p : ℕ) (c : Cell) → is_carry c ≡ false → c ≢ CarryWord p
no_carry p c h e = both_ways (is_carry c) h (ap is_carry e)

no_dead : (p : ℕ) (c : Cell) → is_dead c ≡ false → c ≢ DeadWord p
no_dead p c h e = both_ways (is_dead c) h (ap is_dead e)

no_holder : (p : ℕ) (c : Cell) → is_holder c ≡ false → c ≢ HolderWord p
no_holder p c h e = both_ways (is_holder c) h (ap is_holder e)

-- what holds of the number n by its own store, and of the others as before, holds below n + 1
next_below : (q n x y z : ℕ) → (q ≡ n → x ≡ y) → ((q ≡ n → ⊥) → x ≡ cond (nat_lt q n) y z) → x ≡ cond (nat_lt q (n + 1)) y z
next_below q n x y z same other = go (nat_lt q n) (nat_lt n q) refl refl
  where
    go : (a b : Bool) → nat_lt q n ≡ a → nat_lt n q ≡ b → x ≡ cond (nat_lt q (n + 1)) y z
    go true b e f =
        let h = ltb-true q n e in
        other (λ k. omega (arith, k, h)) ∙ ap (λ t. cond t y z) (e ∙ sym (lt-ltb q (n + 1) (omega (arith, h))))
    go false true e f =
        let h = ltb-true n q f in
        other (λ k. omega (arith, k, h)) ∙ ap (λ t. cond t y z) (e ∙ sym (le-ltb q (n + 1) (omega (arith, h))))
    go false false e f =
        let is : q ≡ n = omega (arith, ltb-false q n e, ltb-false n q f) in
        same is ∙ sym (ap (λ t. cond t y z) (lt-ltb q (n + 1) (omega (arith, is))))

module _ (s : Shape) (saved : List ℕ) where
  -- the words with which the places begin to be renewed
  abbrev pub begun : List ℕ
  begun = write s saved FinishWord (finish_behind (finish_of (read s saved FinishWord)) (read s saved FinishWord))

  pub first_renewed : AreWordsOf s saved → AreRenewedBelow s saved 0 begun
  first_renewed fit = record { fit = length-set saved 0 _ ∙ fit; cells = cells }
    where
      keeps : (c : Cell) → IsCell s c → is_finish c ≡ false → read s begun c ≡ read s saved c
      keeps c is h = others s saved FinishWord c _ tt is (no_finish c h)

      none : (q y z : ℕ) → z ≡ cond (nat_lt q 0) y z
      none q y z = sym (ap (λ t. cond t y z) (le-ltb q 0 (omega arith)))

      cells : (c : Cell) → IsCell s c → read s begun c ≡ cond (is_below 0 c) (renewed c (read s saved c)) (read s saved c)
      cells FinishWord is = read_back s saved FinishWord _ fit tt
      cells (CarryWord q) is = keeps (CarryWord q) is refl ∙ none q _ _
      cells (DeadWord q) is = keeps (DeadWord q) is refl ∙ none q _ _
      cells (HolderWord q) is = keeps (HolderWord q) is refl ∙ none q _ _
      cells c is = keeps c is refl

  -- words in which those of all places are
  pub all_renewed : (words : List ℕ) → AreRenewedBelow s saved s.processors words → AreRenewed s saved words
  all_renewed words h = record { fit = h.fit; cells = cells }
    where
      there : (q y z : ℕ) → q < s.processors → cond (nat_lt q s.processors) y z ≡ y
      there q y z k = ap (λ t. cond t y z) (lt-ltb q s.processors k)

      cells : (c : Cell) → IsCell s c → read s words c ≡ renewed c (read s saved c)
      cells (CarryWord q) is = h.cells (CarryWord q) is ∙ there q _ _ is
      cells (DeadWord q) is = h.cells (DeadWord q) is ∙ there q _ _ is
      cells (HolderWord q) is = h.cells (HolderWord q) is ∙ there q _ _ is
      cells c is = h.cells c is

  module _ (old : List ℕ) (p : ℕ) (there : p < s.processors) (before : AreRenewedBelow s saved p old) where
    -- the words after each of the three stores
    abbrev pub carried : List ℕ
    carried = write s old (CarryWord p) p

    abbrev pub alive : List ℕ
    alive = write s carried (DeadWord p) 0

    abbrev pub held : List ℕ
    held = write s alive (HolderWord p) (holder_word (holder_behind p (holder_of (read s old (HolderWord p)))))

    fit_carried : AreWordsOf s carried
    fit_carried = length-set old (address s (CarryWord p)) p ∙ before.fit

    fit_alive : AreWordsOf s alive
    fit_alive = length-set carried (address s (DeadWord p)) 0 ∙ fit_carried

    -- what none of them is made in
    elsewhere : (c : Cell) → IsCell s c → c ≢ CarryWord p → c ≢ DeadWord p → c ≢ HolderWord p → read s held c ≡ read s old c
    elsewhere c is a b d =
        others s alive (HolderWord p) c _ there is d ∙ others s carried (DeadWord p) c 0 there is b ∙ others s old (CarryWord p) c p there is a

    carry_is : read s held (CarryWord p) ≡ p
    carry_is =
        others s alive (HolderWord p) (CarryWord p) _ there there (no_holder p (CarryWord p) refl)
        ∙ others s carried (DeadWord p) (CarryWord p) 0 there there (no_dead p (CarryWord p) refl)
        ∙ read_back s old (CarryWord p) p before.fit there

    dead_is : read s held (DeadWord p) ≡ 0
    dead_is =
        others s alive (HolderWord p) (DeadWord p) _ there there (no_holder p (DeadWord p) refl)
        ∙ read_back s carried (DeadWord p) 0 fit_carried there

    holder_was : read s old (HolderWord p) ≡ read s saved (HolderWord p)
    holder_was =
        before.cells (HolderWord p) there
        ∙ ap (λ t. cond t (renewed (HolderWord p) (read s saved (HolderWord p))) (read s saved (HolderWord p))) (le-ltb p p (le_refl p))

    holder_is : read s held (HolderWord p) ≡ renewed (HolderWord p) (read s saved (HolderWord p))
    holder_is =
        read_back s alive (HolderWord p) _ fit_alive there
        ∙ ap (λ w. holder_word (holder_behind p (holder_of w))) holder_was

    cells : (c : Cell) → IsCell s c → read s held c ≡ cond (is_below (p + 1) c) (renewed c (read s saved c)) (read s saved c)
    cells (CarryWord q) is = next_below q p (read s held (CarryWord q)) q (read s saved (CarryWord q))
        (λ e. subst (λ k. read s held (CarryWord k) ≡ k) (sym e) carry_is)
        (λ k. elsewhere (CarryWord q) is (λ e. k (ap number e)) (no_dead p (CarryWord q) refl) (no_holder p (CarryWord q) refl)
        ∙ before.cells (CarryWord q) is)
    cells (DeadWord q) is = next_below q p (read s held (DeadWord q)) 0 (read s saved (DeadWord q))
        (λ e. subst (λ k. read s held (DeadWord k) ≡ 0) (sym e) dead_is)
        (λ k. elsewhere (DeadWord q) is (no_carry p (DeadWord q) refl) (λ e. k (ap number e)) (no_holder p (DeadWord q) refl)
        ∙ before.cells (DeadWord q) is)
    cells (HolderWord q) is =
        next_below q p (read s held (HolderWord q)) (renewed (HolderWord q) (read s saved (HolderWord q))) (read s saved (HolderWord q))
        (λ e. subst (λ k. read s held (HolderWord k) ≡ renewed (HolderWord k) (read s saved (HolderWord k))) (sym e) holder_is)
        (λ k. elsewhere (HolderWord q) is (no_carry p (HolderWord q) refl) (no_dead p (HolderWord q) refl) (λ e. k (ap number e))
        ∙ before.cells (HolderWord q) is)
    cells c is = elsewhere c is (no_carry p c refl) (no_dead p c refl) (no_holder p c refl) ∙ before.cells c is

    pub place_renewed : AreRenewedBelow s saved (p + 1) held
    place_renewed = record {
      fit = length-set alive (address s (HolderWord p)) (holder_word (holder_behind p (holder_of (read s old (HolderWord p))))) ∙ fit_alive;
      cells = cells;
    }
