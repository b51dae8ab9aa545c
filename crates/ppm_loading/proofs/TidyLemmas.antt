-- A code without a first untidy store is tidy: whether a store is tidy is not left open.
use Rattle.std.proofs.Common.{◌≡◌, ◌⊎◌, ◌<◌, ℕ, zero, suc, ◌+◌, List, [], ◌∷◌, length, get_or, refl, sym, subst, inl, inr, arith}
use Rattle.std.proofs.lemmas.Bool.{cases_lt}
use Rattle.ppm_code.specs.declared.act.End.{End}
use Rattle.ppm_code.specs.declared.act.End.TheVariants.{Next, Finish, Trap, Call, Fork}
use Rattle.ppm_code.specs.declared.code.CodeParts.{CodeParts}
use Rattle.ppm_code.specs.declared.instr.Instr.{Instr}
use Rattle.ppm_code.specs.declared.instr.Instr.TheVariants.{Const, Move, Add, Sub, Mul, Div, Rem, Equal, NotEqual, Less, AtMost, Len, CutLeft, CutRight}
use Rattle.ppm_code.specs.declared.instr.Instr.TheVariants.{LoadSlot, StoreCur, Give, Get, Put, BranchZero, BranchNonZero, Room, StoreNew, Ends}
use Rattle.ppm_code.specs.Sizes.{slots_of, slot_at, left_at, right_at}
use Rattle.ppm_code.specs.Strands.{instrs_of}
use Rattle.ppm_code.specs.Tidy.{IsSlotWord, Builds, IsBuilder, MayFollow, IsTidyStore, IsTidy}
use Rattle.ppm_war.specs.declared.untidy_store.UntidyStore.{UntidyStore}
use Rattle.ppm_war.specs.Stores.{HasBuilder, IsTidyAt, IsTidyIn}
use Rattle.ppm_war.specs.Untidy.{IsFirstUntidyOf}
use Rattle.ppm_war.proofs.TidyLemmas.{all_tidy}
use Rattle.ppm_war.proofs.UntidyLemmas.{untidy_at}

-- it holds, or does not
abbrev IsOpenOrShut : Type 0 → Type 0
IsOpenOrShut P = P ⊎ (P → ⊥)

module _ (code : CodeParts) where
  slot_word : (frame procedure word : ℕ) → IsOpenOrShut (IsSlotWord code frame procedure word)
  slot_word frame procedure word = elim (cases_lt word (frame + slot_at 0)) [
    | inl less ↦ inr (λ h. let low = h.0 in omega (arith, less, low))
    | inr from ↦ elim (cases_lt word (frame + slot_at (slots_of code procedure))) [
      | inl below ↦ inl (omega (arith, from), below)
      | inr past ↦ inr (λ h. let below = h.1 in omega (arith, past, below))
    ]
  ]

  -- whether an end builds a word
  builds : (e : End) (word : ℕ) → IsOpenOrShut (Builds code e word)
  builds (Next capsule) word = inr (λ h. absurd h)
  builds Finish word = inr (λ h. absurd h)
  builds (Trap trap line) word = inr (λ h. absurd h)
  builds (Call procedure capsule to) word = slot_word 0 procedure word
  builds (Fork left right capsule left_to right_to) word = elim (slot_word left_at left word) [
    | inl y ↦ inl (inl y)
    | inr n ↦ elim (slot_word (right_at code left) right word) [
      | inl y ↦ inl (inr y)
      | inr m ↦ inr (λ h. elim h [ inl y ↦ n y | inr y ↦ m y ])
    ]
  ]

  -- whether an instruction is such an end
  builder : (i : Instr) (word : ℕ) → IsOpenOrShut (IsBuilder code i word)
  builder (Ends e) word = builds e word
  builder (Const d n) word = inr (λ h. absurd h)
  builder (Move d a) word = inr (λ h. absurd h)
  builder (Equal d a b) word = inr (λ h. absurd h)
  builder (NotEqual d a b) word = inr (λ h. absurd h)
  builder (Less d a b) word = inr (λ h. absurd h)
  builder (AtMost d a b) word = inr (λ h. absurd h)
  builder (Len d a) word = inr (λ h. absurd h)
  builder (LoadSlot d i) word = inr (λ h. absurd h)
  builder (StoreCur i a) word = inr (λ h. absurd h)
  builder (Give a) word = inr (λ h. absurd h)
  builder (BranchZero a t) word = inr (λ h. absurd h)
  builder (BranchNonZero a t) word = inr (λ h. absurd h)
  builder (Room n) word = inr (λ h. absurd h)
  builder (StoreNew o a) word = inr (λ h. absurd h)
  builder (Add d a b l) word = inr (λ h. absurd h)
  builder (Sub d a b l) word = inr (λ h. absurd h)
  builder (Mul d a b l) word = inr (λ h. absurd h)
  builder (Div d a b l) word = inr (λ h. absurd h)
  builder (Rem d a b l) word = inr (λ h. absurd h)
  builder (CutLeft d a b l) word = inr (λ h. absurd h)
  builder (CutRight d a b l) word = inr (λ h. absurd h)
  builder (Get d a b l) word = inr (λ h. absurd h)
  builder (Put a b s l) word = inr (λ h. absurd h)

  -- whether one of some instructions is
  has_builder : (is : List Instr) (word : ℕ) → IsOpenOrShut (HasBuilder code is word)
  has_builder [] word = inr (λ h. let low = h.1.1 in absurd (omega (arith, low)))
  has_builder (i ∷ is) word = elim (builder i word) [
    | inl y ↦ inl (i, (0, omega arith, refl), y)
    | inr n ↦ elim (has_builder is word) [
      | inl y ↦ inl (y.0, (suc y.1.0, omega (arith, y.1.1), y.1.2), y.2)
      | inr m ↦ inr (λ h. by h.0 h.1.0 h.1.1 h.1.2 h.2 n m)
    ]
  ]
    where
      by : (j : Instr) (k : ℕ) → k < suc (length is) → get_or (i ∷ is) k j ≡ j → IsBuilder code j word → (IsBuilder code i word → ⊥)
          → (HasBuilder code is word → ⊥) → ⊥
      by j zero less same one n m = n (subst (λ (k : Instr). IsBuilder code k word) (sym same) one)
      by j (suc k) less same one n m = m (j, (k, omega (arith, less), same), one)

  -- what cannot but follow a store may follow it
  may_follow : (i : Instr) (word : ℕ) → ((MayFollow code i word → ⊥) → ⊥) → MayFollow code i word
  may_follow (Ends e) word not_not = elim (builds e word) [ inl y ↦ y | inr n ↦ absurd (not_not n) ]
  may_follow (Const d n) word not_not = refl
  may_follow (Move d a) word not_not = refl
  may_follow (Equal d a b) word not_not = refl
  may_follow (NotEqual d a b) word not_not = refl
  may_follow (Less d a b) word not_not = refl
  may_follow (AtMost d a b) word not_not = refl
  may_follow (Len d a) word not_not = refl
  may_follow (LoadSlot d i) word not_not = refl
  may_follow (StoreCur i a) word not_not = refl
  may_follow (Give a) word not_not = refl
  may_follow (BranchZero a t) word not_not = refl
  may_follow (BranchNonZero a t) word not_not = refl
  may_follow (Room n) word not_not = refl
  may_follow (StoreNew o a) word not_not = refl
  may_follow (Add d a b l) word not_not = absurd (not_not (λ e. absurd (cc)))
  may_follow (Sub d a b l) word not_not = absurd (not_not (λ e. absurd (cc)))
  may_follow (Mul d a b l) word not_not = absurd (not_not (λ e. absurd (cc)))
  may_follow (Div d a b l) word not_not = absurd (not_not (λ e. absurd (cc)))
  may_follow (Rem d a b l) word not_not = absurd (not_not (λ e. absurd (cc)))
  may_follow (CutLeft d a b l) word not_not = absurd (not_not (λ e. absurd (cc)))
  may_follow (CutRight d a b l) word not_not = absurd (not_not (λ e. absurd (cc)))
  may_follow (Get d a b l) word not_not = absurd (not_not (λ e. absurd (cc)))
  may_follow (Put a b s l) word not_not = absurd (not_not (λ e. absurd (cc)))

  -- what is not untidy is tidy
  tidy_store : (is : List Instr) (at word : ℕ) → ((IsTidyStore code is at word → ⊥) → ⊥) → IsTidyStore code is at word
  tidy_store is at word not_not = record {
    leads = λ reached to i path there. may_follow i word (λ no. not_not (λ tidy. no (tidy.leads reached to i path there)));
    builds = elim (has_builder is word) [ inl y ↦ y | inr n ↦ absurd (not_not (λ tidy. n tidy.builds)) ];
  }

  module _ (free : (s : UntidyStore) → IsFirstUntidyOf code s → ⊥) where
    -- a place, where those before it are tidy, and lesser capsules
    tidy_at : (number at : ℕ) → ((k : ℕ) → k < number → IsTidyIn code k) → ((k : ℕ) → k < at → IsTidyAt code (instrs_of code number) k)
        → IsTidyAt code (instrs_of code number) at
    tidy_at number at earlier before word from there = tidy_store (instrs_of code number) at word
        (λ no. free (record { capsule = number; at = at }) (record {
          earlier = earlier;
          first = record {
            capsule = refl;
            first = record { untidy = untidy_at code (instrs_of code number) at (λ tidy. no (tidy word from there)); earlier = before };
          };
        }))

    -- all places below one, and all capsules below one
    below_at : (number : ℕ) → ((k : ℕ) → k < number → IsTidyIn code k) → (n k : ℕ) → k < n → IsTidyAt code (instrs_of code number) k
    below_at number earlier zero k less = absurd (omega (arith, less))
    below_at number earlier (suc n) k less = tidy_at number k earlier (λ j low. below_at number earlier n j (omega (arith, low, less)))

    below : (n k : ℕ) → k < n → IsTidyIn code k
    below zero k less = absurd (omega (arith, less))
    below (suc n) k less = λ at. below_at k (λ j low. below n j (omega (arith, low, less))) (suc at) at (omega arith)

    pub all_are : IsTidy code
    all_are = all_tidy code (length code.capsules) (omega arith) (λ k less. below (suc k) k (omega arith))
