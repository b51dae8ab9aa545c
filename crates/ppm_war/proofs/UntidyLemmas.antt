-- A store that is not tidy, and what a code with one is not.
use Rattle.std.proofs.Common.{◌≡◌, ◌<◌, ◌≤◌, ℕ, List, [], length, Option, Some, None, nat_lt, Bool, true, false, refl, sym, ap, subst, arith}
use Rattle.std.specs.Prelude.{slice_get}
use Rattle.std.proofs.lemmas.Bool.{ltb-true, ltb-false}
use Rattle.std.proofs.lemmas.Option.{slice_get_past}
use Rattle.ppm_code.specs.declared.code.CodeParts.{CodeParts}
use Rattle.ppm_code.specs.declared.instr.Instr.{Instr}
use Rattle.ppm_code.specs.declared.instr.Instr.TheVariants as instr
use Rattle.ppm_code.specs.Strands.{instrs_in, instrs_of}
use Rattle.ppm_code.specs.Tidy.{IsTidy, IsTidyStore}
use Rattle.ppm_war.specs.declared.untidy_store.UntidyStore.{UntidyStore}
use Rattle.ppm_war.specs.Stores.{IsTidyAt, IsTidyIn}
use Rattle.ppm_war.specs.Untidy.{IsFirstUntidyOf, IsUntidyAt}
use Rattle.ppm_war.proofs.TidyLemmas.{tidy_in}

-- what is no tidy store at a place is a store there that is not tidy
pub untidy_at : (code : CodeParts) (is : List Instr) (at : ℕ) → (IsTidyAt code is at → ⊥) → IsUntidyAt code is at
untidy_at code is at other = by (slice_get is at) refl
  where
    by : (o : Option Instr) → slice_get is at ≡ o → IsUntidyAt code is at
    by (Some (instr.StoreNew word from)) e = record {
      word = word;
      from = from;
      stores = e;
      untidy = λ tidy. other (λ w f one. let same : word ≡ w = cc in subst (IsTidyStore code is at) same tidy);
    }
    by _ e = absurd (other (λ w f one. cc))

module _ (code : CodeParts) (s : UntidyStore) (first : IsFirstUntidyOf code s) where
  -- the store itself
  found : IsUntidyAt code (instrs_of code s.capsule) s.at
  found = first.first.first.untidy

  -- a code with such a store is not tidy
  pub not_tidy : IsTidy code → ⊥
  not_tidy tidy = by (nat_lt s.capsule (length code.capsules)) refl
    where
      by : (b : Bool) → nat_lt s.capsule (length code.capsules) ≡ b → ⊥
      by true e = found.untidy (tidy_in code tidy s.capsule (ltb-true s.capsule (length code.capsules) e) s.at found.word found.from found.stores)
      by false e =
          let none : instrs_of code s.capsule ≡ [] = ap instrs_in (slice_get_past code.capsules s.capsule (ltb-false s.capsule (length code.capsules) e)) in
          let stores : slice_get (instrs_of code s.capsule) s.at ≡ Some (instr.StoreNew found.word found.from) = found.stores in
          cc
