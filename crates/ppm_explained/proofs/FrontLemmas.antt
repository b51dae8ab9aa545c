-- A text that is too long is refused for that alone, and its notes say nothing of its bytes.
use Rattle.std.proofs.Common.{◌≡◌, ◌<◌, ℕ, List, ◌++◌, length, refl, arith}
use Rattle.ppm_text.specs.declared.text_error.TextError.{TextError}
use Rattle.ppm_text.specs.declared.text_error.TextError.TheVariants as text_error
use Rattle.ppm_text.specs.Refusals as text
use Rattle.ppm_text.specs.Limits.{text_limit}
use Rattle.ppm_answers.specs.declared.refusal.Refusal.{Refusal}
use Rattle.ppm_program.specs.Refusals.{IsRefusal, by_text, by_syntax, by_region, by_bound, text_refusal}
use Rattle.ppm_explain.specs.Sources.{AreNotes}

module _ (all rest notes : List ℕ) (long : text_limit < length all) where
  -- by the fault of its bytes
  of_bytes : {e : TextError} → text.IsRefused all e → (e ≡ text_error.NoMemory → ⊥) → AreNotes all (text_refusal e) notes →
      AreNotes (all ++ rest) (text_refusal e) notes
  of_bytes (text.too_long h) given n = n
  of_bytes (text.faulty short h) given n = absurd (omega (arith, long, short))
  of_bytes (text.no_memory short) given n = absurd (given refl)

  -- by any fault
  pub notes_stay : {r : Refusal} → IsRefusal all r → AreNotes all r notes → AreNotes (all ++ rest) r notes
  notes_stay (by_text f) n = of_bytes f.fault f.given n
  notes_stay (by_syntax f) n = let short = f.lexed.short in absurd (omega (arith, long, short))
  notes_stay (by_region f) n = let short = f.derived.lexed.short in absurd (omega (arith, long, short))
  notes_stay (by_bound f) n = let short = f.admitted.tree.lexed.short in absurd (omega (arith, long, short))
