-- The words of an image stand for their values.
use Rattle.std.proofs.Common.{◌≡◌, ℕ, ◌+◌, ◌*◌, ◌^◌, ◌<◌, ◌≤◌, List, Some, cond, eqb, refl, ap, ◌∙◌, arith, lit<, lit≤}
use Rattle.std.proofs.lemmas.Bool.{cond_both, eq-eqb, ne_eqb}
use Rattle.ppm_words.specs.declared.named_array.NamedArray.{NamedArray}
use Rattle.ppm_cells.specs.declared.shape.Shape.{Shape}
use Rattle.ppm_cells.specs.declared.cell.Cell.TheVariants.{FinishWord, RestartWord, HolderWord, EntryWord}
use Rattle.ppm_cells.specs.declared.finish.Finish.TheVariants.{Unset}
use Rattle.ppm_cells.specs.declared.restart.RestartKind.TheVariants.{Run, Seek}
use Rattle.ppm_cells.specs.Cells.{pool_at}
use Rattle.ppm_cells.specs.Entry.{entry_word, IsEntry, entry_of}
use Rattle.ppm_cells.specs.Finish.{finish_word, IsFinish, finish_of}
use Rattle.ppm_cells.specs.Holder.{holder_word, IsHolder, holder_of}
use Rattle.ppm_cells.specs.Restart.{restart_word, IsRestart, restart_of}
use Rattle.ppm_cells.proofs.CellLemmas.{place_end, place_low}
use Rattle.ppm_cells.proofs.ExactLemmas.{unpack-pack}
use Rattle.ppm_cells.proofs.EntryLemmas.{entries_exact}
use Rattle.ppm_cells.proofs.FinishLemmas.{finishes_exact}
use Rattle.ppm_cells.proofs.HolderLemmas.{holders_exact}
use Rattle.ppm_cells.proofs.RestartLemmas.{restarts_exact}
use Rattle.ppm_code.specs.declared.code.CodeParts.{CodeParts}
use Rattle.ppm_layout.specs.declared.images.Image.{Image}
use Rattle.ppm_layout.specs.Opening.{first_entry, first_holder}
use Rattle.ppm_layout.specs.Correct.{Opens, StandsFor}

-- a pool, and what is in front of it, ends below 2^28
pub pool_small : (s : Shape) (place : ℕ) → place < s.processors → pool_at s place + s.room < 71303618
pool_small s place h =
    omega (arith, place_end s place h, place_low s s.processors (omega arith), s.within.processors_most)

-- a restart at bottom 1
run_fits : (frame : ℕ) → frame < 71303618 → IsRestart (record { kind = Run frame 0; bottom = 1 })
run_fits frame h = ((omega (arith, h, address_limit), (lit< tt, (lit< tt, tt))), lit< tt)
  where
    address_limit : 71303618 < 2 ^ 28
    address_limit = lit< tt

seek_fits : IsRestart (record { kind = Seek; bottom = 1 })
seek_fits = ((lit< tt, tt), lit< tt)

-- an entry with tag 0
entry_fits : (slot : ℕ) → IsEntry (first_entry slot)
entry_fits slot =
    cond_both (eqb slot 0) _ _ IsEntry (λ _. (lit< tt, (lit< tt, (lit< tt, (lit< tt, tt)))))
    (λ _. cond_both (eqb slot 1) _ _ IsEntry (λ _. (lit< tt, (lit< tt, (lit< tt, tt)))) (λ _. (lit< tt, (lit< tt, (lit< tt, tt)))))

module _ (code : CodeParts) (input : List NamedArray) (s : Shape) (keeper : ℕ) (image : Image) (o : Opens code input s keeper image) where
  runs : restart_of (restart_word (record { kind = cond (eqb keeper keeper) (Run (pool_at s keeper) 0) Seek; bottom = 1 }))
      ≡ Some (record { kind = Run (pool_at s keeper) 0; bottom = 1 })
  runs =
      let small = pool_small s keeper o.below in
      ap (λ t. restart_of (restart_word (record { kind = cond t (Run (pool_at s keeper) 0) Seek; bottom = 1 }))) (eq-eqb keeper keeper refl)
      ∙ unpack-pack restart_word IsRestart restart_of restarts_exact _ (run_fits (pool_at s keeper) (omega (arith, small)))

  seeks : (place : ℕ) → (place ≡ keeper → ⊥)
      → restart_of (restart_word (record { kind = cond (eqb place keeper) (Run (pool_at s keeper) 0) Seek; bottom = 1 }))
      ≡ Some (record { kind = Seek; bottom = 1 })
  seeks place other =
      ap (λ t. restart_of (restart_word (record { kind = cond t (Run (pool_at s keeper) 0) Seek; bottom = 1 }))) (ne_eqb place keeper other)
      ∙ unpack-pack restart_word IsRestart restart_of restarts_exact _ seek_fits

  holder_fits : (place : ℕ) → place < s.processors → IsHolder (first_holder place)
  holder_fits place h = let small : 64 ≤ 2 ^ 6 = lit≤ tt in (omega (arith, h, small, s.within.processors_most), (lit< tt, tt))

  pub stands_for : StandsFor code s keeper image.words
  stands_for = record {
    finish = ap finish_of (o.image_is.opened FinishWord tt) ∙ unpack-pack finish_word IsFinish finish_of finishes_exact Unset tt;
    runs = ap restart_of (o.image_is.opened (RestartWord keeper) o.below) ∙ runs;
    seeks = λ place h other. ap restart_of (o.image_is.opened (RestartWord place) h) ∙ seeks place other;
    holder = λ place h.
        ap holder_of (o.image_is.opened (HolderWord place) h)
        ∙ unpack-pack holder_word IsHolder holder_of holders_exact (first_holder place) (holder_fits place h);
    entry = λ place slot h k.
        ap entry_of (o.image_is.opened (EntryWord place slot) (h, k))
        ∙ unpack-pack entry_word IsEntry entry_of entries_exact (first_entry slot) (entry_fits slot);
  }
