-- The words of values, and what instructions do with them.
use Rattle.std.proofs.Common.{◌≡◌, ◌∙◌, ◌<◌, ◌≤◌, ℕ, zero, suc, ◌+◌, ◌-◌, ◌*◌, ◌/◌, ◌%◌, ◌^◌, ◌==◌, Bool, true, false, ◌&&◌, cond, nat_lt, ℤ, pos, negsuc, List, [], ◌∷◌}
use Rattle.std.proofs.Common.{get_or, length, Option, Some, None, Result, Ok, Err, refl, sym, ap, ap₂, subst, arith}
use Rattle.std.specs.Prelude.{slice_index, ◌+ℤ◌, ◌-ℤ◌, ◌*ℤ◌, int_lt, int_div, int_rem, unsigned_abs, FitsSigned}
use Rattle.std.specs.Int.{w64}
use Rattle.std.specs.Ordering.{int_eq}
use Rattle.std.proofs.lemmas.Bool.{both_ways, lt-ltb, le-ltb, ltb-true, ltb-false, eqb-true, eqb-false}
use Rattle.std.proofs.lemmas.Bool.Decides.{Decides-int_eq, not_from_Decides}
use Rattle.std.proofs.lemmas.Int.{rem_below}
use Rattle.ppm_words.specs.TwosComplement.{word_of, value_of}
use Rattle.ppm_words.specs.declared.trap.Trap.{Trap}
use Rattle.ppm_words.specs.declared.trap.Trap.TheVariants as trap
use Rattle.ppm_words.proofs.TwosComplementLemmas.{value_of-word_of}
use Rattle.ppm_code.specs.declared.act.Act.{Act}
use Rattle.ppm_code.specs.declared.act.Act.TheVariants.{Sets}
use Rattle.ppm_code.specs.declared.instr.Instr.{Instr}
use Rattle.ppm_code.specs.declared.instr.Instr.TheVariants as instr
use Rattle.ppm_code.specs.declared.register.Register.{Register}
use Rattle.ppm_code.specs.Acts as acts
use Rattle.ppm_code.specs.Acts.{does, held, traps, start_of, length_of, element_of}
use Rattle.ppm_tree.specs.Values.{fits, in_range, divided, truth, applied}
use Rattle.ppm_ram.specs.declared.register.Register.{Register as RamRegister}
use Rattle.ppm_ram.specs.declared.instruction.Operation.{Operation}
use Rattle.ppm_ram.specs.declared.instruction.Operation.TheVariants as operation
use Rattle.ppm_ram.specs.Meaning.{applied_by, index_of}
use Rattle.ppm_ram_code.specs.Code.{register_with, register, own, operation_instr}

-- a value is one of 64 bits
pub fits_signed : (z : ℤ) → fits z ≡ true → FitsSigned w64 z
fits_signed (pos n) e = grind arith
fits_signed (negsuc n) e = grind arith

same_fits : (z : ℤ) → acts.fits z ≡ fits z
same_fits (pos n) = refl
same_fits (negsuc n) = refl

-- the number of a register
register_index : (n : ℕ) → n < 64 → (register n).index ≡ n
register_index n low = go (nat_lt n 64) refl
  where
    go : (small : Bool) (h : nat_lt n 64 ≡ small) → (register_with n small h).index ≡ n
    go true h = refl
    go false h = let far : 64 ≤ n = ltb-false n 64 h in absurd (omega (arith, far, low))

pub own_index : (r : RamRegister) → (own r).index ≡ r.index
own_index r = register_index r.index (let h = r.in_range in omega (arith, h))

-- a word is 0 where its value is
pub zero_word : (z : ℤ) → FitsSigned w64 z → (word_of z == 0) ≡ int_eq z (pos 0)
zero_word z f = by (word_of z == 0) refl (int_eq z (pos 0)) refl
  where
    is_zero : (z : ℤ) → FitsSigned w64 z → word_of z ≡ 0 → z ≡ pos 0
    is_zero (pos n) f e = ap pos e
    is_zero (negsuc n) f e = absurd (omega (arith, f.sfits, e))

    by : (b : Bool) → (word_of z == 0) ≡ b → (c : Bool) → int_eq z (pos 0) ≡ c → b ≡ c
    by true e true t = refl
    by false e false t = refl
    by true e false t = absurd (not_from_Decides (int_eq z (pos 0)) (Decides-int_eq z (pos 0)) t (is_zero z f (eqb-true (word_of z) 0 e)))
    by false e true t = absurd (eqb-false (word_of z) 0 e (ap word_of ((Decides-int_eq z (pos 0)).0 t)))

nearer_fits : (r d : ℤ) → unsigned_abs r < unsigned_abs d → FitsSigned w64 d → FitsSigned w64 r
nearer_fits (pos n) (pos m) h f = record { sfits = omega (arith, h, f.sfits) }
nearer_fits (pos n) (negsuc m) h f = record { sfits = omega (arith, h, f.sfits) }
nearer_fits (negsuc n) (pos m) h f = record { sfits = omega (arith, h, f.sfits) }
nearer_fits (negsuc n) (negsuc m) h f = record { sfits = omega (arith, h, f.sfits) }

is_away : (d : ℤ) → int_eq d (pos 0) ≡ false → 0 < unsigned_abs d
is_away (pos zero) e = cc
is_away (pos (suc n)) e = omega arith
is_away (negsuc n) e = omega arith

same_zero : (y : ℤ) → acts.is_zero y ≡ int_eq y (pos 0)
same_zero (pos zero) = refl
same_zero (pos (suc n)) = by (int_eq (pos (suc n)) (pos 0)) refl
  where
    by : (b : Bool) → int_eq (pos (suc n)) (pos 0) ≡ b → false ≡ b
    by false e = refl
    by true e = let same : suc n ≡ 0 = ap unsigned_abs ((Decides-int_eq (pos (suc n)) (pos 0)).0 e) in absurd (omega (arith, same))
same_zero (negsuc n) = refl

-- an act is what an operation gives: its word in a register, or its trap at the line
abbrev pub Gives : (line : ℕ) → Register → Result ℤ Trap → Act → Type 0
Gives line d (Ok z) act = (act ≡ Sets d (word_of z)) × FitsSigned w64 z
Gives line d (Err t) act = act ≡ traps t line

whole_gives : (line : ℕ) (d : Register) (z : ℤ) (act : Act) → act ≡ acts.whole line d z → Gives line d (in_range z) act
whole_gives line d z act e = by (fits z) refl
  where
    choice : Bool → Act
    choice b = cond b (Sets d (word_of z)) (traps trap.Overflow line)

    by : (b : Bool) → fits z ≡ b → Gives line d (cond b (Ok z) (Err trap.Overflow)) act
    by true t = (e ∙ ap choice (same_fits z ∙ t), fits_signed z t)
    by false t = e ∙ ap choice (same_fits z ∙ t)

divided_gives : (line : ℕ) (d : Register) (x y z : ℤ) (act : Act) → act ≡ acts.divided line d x y z
    → (int_eq y (pos 0) ≡ false → fits (int_div x y) ≡ true → FitsSigned w64 z) → Gives line d (divided x y z) act
divided_gives line d x y z act e fit = by (int_eq y (pos 0)) refl (fits (int_div x y)) refl
  where
    choice : Bool → Bool → Act
    choice b c = cond b (traps trap.DivZero line) (cond c (Sets d (word_of z)) (traps trap.Overflow line))

    by : (b : Bool) → int_eq y (pos 0) ≡ b → (c : Bool) → fits (int_div x y) ≡ c
        → Gives line d (cond b (Err trap.DivZero) (cond c (Ok z) (Err trap.Overflow))) act
    by true s c t = e ∙ ap₂ choice (same_zero y ∙ s) (same_fits (int_div x y) ∙ t)
    by false s true t = (e ∙ ap₂ choice (same_zero y ∙ s) (same_fits (int_div x y) ∙ t), fit s t)
    by false s false t = e ∙ ap₂ choice (same_zero y ∙ s) (same_fits (int_div x y) ∙ t)

truth_gives : (line : ℕ) (d : Register) (b : Bool) (act : Act) → act ≡ Sets d (cond b 1 0) → Gives line d (Ok (truth b)) act
truth_gives line d true act e = (e, record { sfits = omega arith })
truth_gives line d false act e = (e, record { sfits = omega arith })

-- what an operation does with two values in registers
module _ (W line : ℕ) (g : List ℕ) (d a b : Register) (x y : ℤ) (hx : value_of (held g a) ≡ x) (hy : value_of (held g b) ≡ y) (fy : FitsSigned w64 y) where
  pub operation_gives : (o : Operation) → Gives line d (applied_by o x y) (does W (operation_instr o d a b line) g)
  operation_gives operation.Add = whole_gives line d (x +ℤ y) _ (ap₂ (λ (x y : ℤ). acts.whole line d (x +ℤ y)) hx hy)
  operation_gives operation.Sub = whole_gives line d (x -ℤ y) _ (ap₂ (λ (x y : ℤ). acts.whole line d (x -ℤ y)) hx hy)
  operation_gives operation.Mul = whole_gives line d (x *ℤ y) _ (ap₂ (λ (x y : ℤ). acts.whole line d (x *ℤ y)) hx hy)
  operation_gives operation.Div =
      divided_gives line d x y (int_div x y) _ (ap₂ (λ (x y : ℤ). acts.divided line d x y (int_div x y)) hx hy) (λ s t. fits_signed (int_div x y) t)
  operation_gives operation.Rem =
      divided_gives line d x y (int_rem x y) _ (ap₂ (λ (x y : ℤ). acts.divided line d x y (int_rem x y)) hx hy)
      (λ s t. nearer_fits (int_rem x y) y (rem_below x y (is_away y s)) fy)
  operation_gives operation.Less = truth_gives line d (int_lt x y) _ (ap₂ (λ (x y : ℤ). Sets d (cond (int_lt x y) 1 0)) hx hy)

-- a region of all array words
whole_region : (n : ℕ) → n < 2 ^ 32 → (n % 2 ^ 32 ≡ n) × (n / 2 ^ 32 ≡ 0)
whole_region n low = (omega (arith, low), omega (arith, low))

below_region : (n k : ℕ) → n < 2 ^ 32 → element_of n n k ≡ cond (nat_lt k n) (Some k) None
below_region n k low =
    let w = whole_region n low in
    ap₂ (λ l s. cond (nat_lt k l && nat_lt (s + k) n) (Some (s + k)) None) w.0 w.1 ∙ by (nat_lt k n) refl
  where
    same : 0 + k ≡ k
    same = omega arith

    by : (b : Bool) → nat_lt k n ≡ b → cond (b && nat_lt (0 + k) n) (Some (0 + k)) None ≡ cond b (Some k) None
    by true e = ap (λ (j : ℕ). cond (nat_lt j n) (Some j) None) same ∙ ap (λ (c : Bool). cond c (Some k) None) e
    by false e = refl

-- the array word of a value is the word of the memory that it names
pub element_is : (memory : List ℤ) (z : ℤ) → FitsSigned w64 z → length memory < 2 ^ 32
    → element_of (length memory) (length memory) (word_of z) ≡ index_of memory z
element_is memory (pos n) f low = below_region (length memory) n low
element_is memory (negsuc n) f low =
    below_region (length memory) (2 ^ 64 - 1 - n) low
    ∙ ap (λ (b : Bool). cond b (Some (2 ^ 64 - 1 - n)) None) (le-ltb (2 ^ 64 - 1 - n) (length memory) (omega (arith, low, f.sfits)))

-- a word of the memory that a value names is there
pub index_there : (memory : List ℤ) (z : ℤ) (n : ℕ) → index_of memory z ≡ Some n → n < length memory
index_there memory (pos k) n e = by (nat_lt k (length memory)) refl e
  where
    by : (b : Bool) → nat_lt k (length memory) ≡ b → cond b (Some k) None ≡ Some n → n < length memory
    by true t e = let same : k ≡ n = cc in subst (λ (n : ℕ). n < length memory) same (ltb-true k (length memory) t)
    by false t e = absurd (cc)
index_there memory (negsuc k) n e = absurd (cc)
