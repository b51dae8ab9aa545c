-- A code of which it is not false that it is tidy and has no conflict is tidy, and has none.
use Rattle.std.proofs.Common.{◌≡◌, ◌⊎◌, ◌<◌, ◌≤◌, ℕ, ◌+◌, zero, suc, Bool, true, false, List, [], ◌∷◌, length, get_or, inl, inr, refl, sym, subst, arith}
use Rattle.std.specs.List.{Contains}
use Rattle.std.proofs.lemmas.Bool.{both_ways, cases_lt}
use Rattle.ppm_code.specs.Free.{IsFree}
use Rattle.ppm_code.specs.Sizes.{slots_of, slot_at, left_at, right_at}
use Rattle.ppm_code.specs.Tidy.{can_trap, IsSlotWord, Builds, IsBuilder, MayFollow, IsTidyStore, IsTidy}
use Rattle.ppm_code.specs.declared.act.End.{End}
use Rattle.ppm_code.specs.declared.act.End.TheVariants.{Next, Finish, Trap, Call, Fork}
use Rattle.ppm_code.specs.declared.code.CodeParts.{CodeParts}
use Rattle.ppm_code.specs.declared.instr.Instr.{Instr}
use Rattle.ppm_code.specs.declared.instr.Instr.TheVariants.{Ends}

-- what is not false
abbrev NotFalse : Type 0 → Type 0
NotFalse A = (A → ⊥) → ⊥

-- what is so or not, and is not false, is so
settled : (A : Type 0) → A ⊎ (A → ⊥) → NotFalse A → A
settled A (inl a) h = a
settled A (inr never) h = absurd (h never)

-- a test that is not false of one answer gives it
is_false : (b : Bool) → NotFalse (b ≡ false) → b ≡ false
is_false false h = refl
is_false true h = absurd (h (λ e. both_ways true e refl))

module _ (code : CodeParts) where
  -- whether a word is a slot of a frame
  slot_word : (frame procedure word : ℕ) → IsSlotWord code frame procedure word ⊎ (IsSlotWord code frame procedure word → ⊥)
  slot_word frame procedure word = by (cases_lt word (frame + slot_at 0)) (cases_lt word (frame + slot_at (slots_of code procedure)))
    where
      by : (word < frame + slot_at 0) ⊎ (frame + slot_at 0 ≤ word)
          → (word < frame + slot_at (slots_of code procedure)) ⊎ (frame + slot_at (slots_of code procedure) ≤ word)
          → IsSlotWord code frame procedure word ⊎ (IsSlotWord code frame procedure word → ⊥)
      by (inl low) k = inr (λ h. omega (arith, low, h.0))
      by (inr least) (inl less) = inl (least, less)
      by (inr least) (inr past) = inr (λ h. omega (arith, past, h.1))

  -- whether an end builds it
  builds : (e : End) (word : ℕ) → Builds code e word ⊎ (Builds code e word → ⊥)
  builds (Next capsule) word = inr (λ h. h)
  builds Finish word = inr (λ h. h)
  builds (Trap trap line) word = inr (λ h. h)
  builds (Call procedure capsule to) word = slot_word 0 procedure word
  builds (Fork left right capsule left_to right_to) word = by (slot_word left_at left word) (slot_word (right_at code left) right word)
    where
      by : IsSlotWord code left_at left word ⊎ (IsSlotWord code left_at left word → ⊥)
          → IsSlotWord code (right_at code left) right word ⊎ (IsSlotWord code (right_at code left) right word → ⊥)
          → Builds code (Fork left right capsule left_to right_to) word ⊎ (Builds code (Fork left right capsule left_to right_to) word → ⊥)
      by (inl a) k = inl (inl a)
      by (inr a) (inl b) = inl (inr b)
      by (inr a) (inr b) = inr (λ h. neither h)
        where
          neither : Builds code (Fork left right capsule left_to right_to) word → ⊥
          neither (inl x) = a x
          neither (inr x) = b x

  -- whether an instruction does
  is_builder : (i : Instr) (word : ℕ) → IsBuilder code i word ⊎ (IsBuilder code i word → ⊥)
  is_builder (Ends e) word = builds e word
  is_builder _ word = inr (λ h. h)

  -- whether one of some instructions does
  abbrev HasBuilder : List Instr → ℕ → Type 0
  HasBuilder is word = (i : Instr) × Contains is i × IsBuilder code i word

  has_builder : (is : List Instr) (word : ℕ) → HasBuilder is word ⊎ (HasBuilder is word → ⊥)
  has_builder [] word = inr (λ h. omega (arith, h.1.1))
  has_builder (i ∷ is) word = by (is_builder i word) (has_builder is word)
    where
      others : (HasBuilder is word → ⊥) → (IsBuilder code i word → ⊥) → HasBuilder (i ∷ is) word → ⊥
      others rest never (j, (n, within, there), is_one) = at n within there
        where
          at : (n : ℕ) → n < suc (length is) → get_or (i ∷ is) n j ≡ j → ⊥
          at zero within there = never (subst (λ (k : Instr). IsBuilder code k word) (sym there) is_one)
          at (suc n) within there = rest (j, (n, omega (arith, within), there), is_one)

      by : IsBuilder code i word ⊎ (IsBuilder code i word → ⊥) → HasBuilder is word ⊎ (HasBuilder is word → ⊥)
          → HasBuilder (i ∷ is) word ⊎ (HasBuilder (i ∷ is) word → ⊥)
      by (inl a) k = inl (i, (0, omega arith, refl), a)
      by (inr never) (inl (j, (n, within, there), is_one)) = inl (j, (suc n, omega (arith, within), there), is_one)
      by (inr never) (inr rest) = inr (others rest never)

  -- an instruction that may follow
  follows : (i : Instr) (word : ℕ) → NotFalse (MayFollow code i word) → MayFollow code i word
  follows (Ends e) word h = settled (Builds code e word) (builds e word) h
  follows i word h = is_false (can_trap i) h

  -- a tidy store
  store : (is : List Instr) (at word : ℕ) → NotFalse (IsTidyStore code is at word) → IsTidyStore code is at word
  store is at word h = record {
    leads = λ reached to i path one. follows i word (λ never. h (λ s. never (s.leads reached to i path one)));
    builds = settled (HasBuilder is word) (has_builder is word) (λ never. h (λ s. never s.builds));
  }

  -- a tidy code without conflicts
  pub stable : ((IsFree code → IsTidy code → ⊥) → ⊥) → IsFree code × IsTidy code
  stable h = (
    λ number read write class conflict. h (λ free tidy. free number read write class conflict),
    λ k d less at word from one. store (get_or code.capsules k d).instrs at word (λ never. h (λ free tidy. never (tidy k d less at word from one))),
  )
