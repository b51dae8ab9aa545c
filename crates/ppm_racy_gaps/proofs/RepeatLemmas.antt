-- Exchanges after which array words are written, by the instruction that stands there.
use Rattle.std.proofs.Common.{◌≡◌, ◌<◌, ℕ, ◌+◌, true, false, List, map, length, Option, Some, None, refl, sym, ap, ◌∙◌, ◌⊎◌, inl, inr}
use Rattle.std.specs.Prelude.{slice_get}
use Rattle.std.proofs.lemmas.Bool.{cases_lt}
use Rattle.std.proofs.lemmas.Option.{same_Some, slice_get_within}
use Rattle.ppm_code.specs.declared.class.Class.TheVariants.{Array}
use Rattle.ppm_code.specs.declared.instr.Instr.{Instr}
use Rattle.ppm_code.specs.Paths.{Any, Path}
use Rattle.ppm_war.specs.Search.{IsFirst, LeadsToWrite}
use Rattle.ppm_racy.specs.declared.instr.RacyInstr.{RacyInstr}
use Rattle.ppm_racy.specs.Acts.{plain_of}
use Rattle.ppm_racy_gaps.specs.Conflicts.{is_exchange}
use Rattle.ppm_racy_gaps.specs.Repeats.{IsRepeat, IsFirstRepeat}

module _ (is : List RacyInstr) (at : ℕ) where
  -- no exchange stands there
  pub not_exchanged : (i : RacyInstr) → slice_get is at ≡ Some i → is_exchange i ≡ false → (write : ℕ) → IsRepeat is at write → ⊥
  not_exchanged i e fails write h =
      let same : h.instr ≡ i = same_Some h.instr i (sym h.there ∙ e) in
      let both : false ≡ true = sym fails ∙ ap is_exchange (sym same) ∙ h.exchanges in
      cc

  -- one stands there, to which a path comes
  pub first_after : (i : RacyInstr) → slice_get is at ≡ Some i → is_exchange i ≡ true → Path (map plain_of is) Any 0 at → (found : Option ℕ)
      → IsFirst (LeadsToWrite (map plain_of is) Array (at + 1)) found → IsFirst (IsRepeat is at) found
  first_after i e holds p found f = record {
    none = λ none n h. f.none none n h.leads;
    some = λ n some. record { instr = i; there = e; exchanges = holds; before = p; leads = f.some n some };
    least = λ n k some h. f.least n k some h.leads;
  }

  pub within : (write : ℕ) → IsRepeat is at write → at < length is
  within write h = slice_get_within is at h.instr h.there

-- a write to which a path leads is within the capsule
pub write_within : (is : List Instr) (from at : ℕ) → LeadsToWrite is Array from at → at < length is
write_within is from at h = slice_get_within is at h.1.0 h.1.1

module _ (is : List RacyInstr) where
  -- none below an exchange, and the first write after it
  pub first_repeat : (exchange write : ℕ) → ((k : ℕ) → k < exchange → (w : ℕ) → IsRepeat is k w → ⊥) → IsFirst (IsRepeat is exchange) (Some write)
      → IsFirstRepeat is (record { exchange = exchange; write = write })
  first_repeat exchange write below f = record {
    repeat = f.some write refl;
    least_exchange = λ k w h. elim (cases_lt k exchange) [
      | inl less ↦ absurd (below k less w h)
      | inr more ↦ more
    ];
    least_write = λ w h. f.least write w refl h;
  }

  -- none so far, and none here
  pub none_here : (exchange : ℕ) → IsFirst (IsRepeat is exchange) None → (write : ℕ) → IsRepeat is exchange write → ⊥
  none_here exchange f write h = f.none refl write h
