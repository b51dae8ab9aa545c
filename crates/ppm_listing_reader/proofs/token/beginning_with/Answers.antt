-- With each first byte the comparison with any other keyword fails at once.
use Rattle.std.proofs.Common.{◌≡◌, ◌∷◌, [], ℕ, List, refl, sym, subst, arith}
use Rattle.ppm_listing.specs.declared.keyword.Keyword.{Keyword}
use Rattle.ppm_listing.specs.declared.keyword.Keyword.TheVariants as keyword
use Rattle.ppm_listing_reader.specs.Tokens.{keywords, spelled}
use Rattle.ppm_listing_reader.proofs.WordLemmas.{none_begins}
use Rattle.ppm_listing_reader.proofs.token.beginning_with.Goals as goal

by : (n : ℕ) (ks : List Keyword) → ((rest : List ℕ) → spelled ks (n ∷ rest) ≡ spelled keywords (n ∷ rest)) → (b : ℕ) → b ≡ n → (rest : List ℕ)
    → spelled ks (b ∷ rest) ≡ spelled keywords (b ∷ rest)
by n ks h b e = subst (λ (b : ℕ). (rest : List ℕ) → spelled ks (b ∷ rest) ≡ spelled keywords (b ∷ rest)) (sym e) h

pub returns-in-97 : goal.returns-in-97
returns-in-97 c = by 97 (keyword.Add ∷ []) (λ rest. refl) c.args.first c.in-97.is

pub returns-in-98 : goal.returns-in-98
returns-in-98 c = by 98 (keyword.BranchZero ∷ keyword.BranchNonZero ∷ []) (λ rest. refl) c.args.first c.in-98.is

pub returns-in-99 : goal.returns-in-99
returns-in-99 c = by 99 (keyword.Capsule ∷ keyword.Const ∷ keyword.CutLeft ∷ keyword.CutRight ∷ keyword.Call ∷ keyword.CallTo ∷ []) (λ rest. refl) c.args.first c.in-99.is

pub returns-in-100 : goal.returns-in-100
returns-in-100 c = by 100 (keyword.Div ∷ []) (λ rest. refl) c.args.first c.in-100.is

pub returns-in-101 : goal.returns-in-101
returns-in-101 c = by 101 (keyword.Entry ∷ keyword.Equal ∷ keyword.End ∷ []) (λ rest. refl) c.args.first c.in-101.is

pub returns-in-102 : goal.returns-in-102
returns-in-102 c = by 102 (keyword.Fork ∷ keyword.ForkTo ∷ []) (λ rest. refl) c.args.first c.in-102.is

pub returns-in-103 : goal.returns-in-103
returns-in-103 c = by 103 (keyword.Give ∷ keyword.Get ∷ []) (λ rest. refl) c.args.first c.in-103.is

pub returns-in-108 : goal.returns-in-108
returns-in-108 c = by 108 (keyword.Less ∷ keyword.AtMost ∷ keyword.Len ∷ keyword.LoadSlot ∷ []) (λ rest. refl) c.args.first c.in-108.is

pub returns-in-109 : goal.returns-in-109
returns-in-109 c = by 109 (keyword.Move ∷ keyword.Mul ∷ []) (λ rest. refl) c.args.first c.in-109.is

pub returns-in-110 : goal.returns-in-110
returns-in-110 c = by 110 (keyword.NotEqual ∷ keyword.Next ∷ []) (λ rest. refl) c.args.first c.in-110.is

pub returns-in-112 : goal.returns-in-112
returns-in-112 c = by 112 (keyword.Ppm ∷ keyword.Proc ∷ keyword.Put ∷ []) (λ rest. refl) c.args.first c.in-112.is

pub returns-in-114 : goal.returns-in-114
returns-in-114 c = by 114 (keyword.Root ∷ keyword.Rem ∷ keyword.Room ∷ []) (λ rest. refl) c.args.first c.in-114.is

pub returns-in-115 : goal.returns-in-115
returns-in-115 c = by 115 (keyword.Slots ∷ keyword.Sub ∷ keyword.StoreCur ∷ keyword.StoreNew ∷ []) (λ rest. refl) c.args.first c.in-115.is

pub returns-in-116 : goal.returns-in-116
returns-in-116 c = by 116 (keyword.Trap ∷ []) (λ rest. refl) c.args.first c.in-116.is

pub returns-in_default : goal.returns-in_default
returns-in_default c rest =
    sym (none_begins c.args.first (λ e. grind (arith, e)) (λ e. grind (arith, e)) (λ e. grind (arith, e)) (λ e. grind (arith, e)) (λ e. grind (arith, e)) (λ e. grind (arith, e)) (λ e. grind (arith, e)) (λ e. grind (arith, e)) (λ e. grind (arith, e)) (λ e. grind (arith, e)) (λ e. grind (arith, e)) (λ e. grind (arith, e)) (λ e. grind (arith, e)) (λ e. grind (arith, e)) rest)
