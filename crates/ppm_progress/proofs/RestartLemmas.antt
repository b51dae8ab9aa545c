-- After a turn each place has the restart that it had, or the one that its own processor gave it.
use Rattle.std.proofs.Common.{◌≡◌, ◌≢◌, ◌⊎◌, ◌<◌, ℕ, true, List, inl, inr, sym, ap, ◌∙◌, subst}
use Rattle.std.proofs.lemmas.Bool.{cases_eq}
use Rattle.ppm_cells.specs.Cells.{IsCell}
use Rattle.ppm_cells.specs.Memory.{AreWordsOf, write as store}
use Rattle.ppm_cells.specs.Restart.{restart_word}
use Rattle.ppm_cells.proofs.CellLemmas.{few_words}
use Rattle.ppm_cells.specs.declared.cell.Cell.{Cell}
use Rattle.ppm_cells.specs.declared.cell.Cell.TheVariants.{CarryWord, DeadWord, RestartWord, MessageWord, HolderWord, EntryWord}
use Rattle.ppm_cells.specs.declared.restart.Restart.{Restart}
use Rattle.ppm_cells.specs.declared.shape.Shape.{Shape}
use Rattle.ppm_code.specs.declared.code.CodeParts.{CodeParts}
use Rattle.ppm_step.specs.Standings.{Standing}
use Rattle.ppm_step.specs.There.{restart_is_there}
use Rattle.ppm_step.proofs.ThereLemmas.{restart_fits}
use Rattle.ppm_step.specs.declared.turn.Act.{Act}
use Rattle.ppm_tickets.specs.View.{restart_at}
use Rattle.ppm_tickets.proofs.ViewLemmas.{restart_else, restart_here}
use Rattle.ppm_progress.proofs.WriteLemmas.{IsAside, Gives, Wrote, Nothing, Aside, Notes, Carries, Dies, Holds, Restarts, Changed}

-- the place of a restart word
abbrev restart_place : Cell → ℕ
restart_place (RestartWord p) = p
restart_place _ = 0

module _ (s : Shape) (code : CodeParts) (words : List ℕ) (fit : AreWordsOf s words) (act : Act) (x : Standing) where
  -- the restart that place w has then
  abbrev pub GoesOn : List ℕ → (w : ℕ) → Type 0
  GoesOn now w = (restart_at s now w ≡ restart_at s words w) ⊎ ((re : Restart) × Gives act x w re × (restart_at s now w ≡ re))

  -- a word that is no restart word was written
  elsewhere : (now : List ℕ) (w : ℕ) (cell : Cell) (n : ℕ) → IsCell s cell → RestartWord w ≢ cell → now ≡ store s words cell n → GoesOn now w
  elsewhere now w cell n is ne e = inl (ap (λ (l : List ℕ). restart_at s l w) e ∙ restart_else s words cell n is w (λ lt. ne))

  given : (now : List ℕ) (w p : ℕ) (re : Restart) → p < s.processors → restart_is_there s re ≡ true → Gives act x p re
      → now ≡ store s words (RestartWord p) (restart_word re) → GoesOn now w
  given now w p re lt here gives e = elim (cases_eq w p) [
    | inr ne ↦ elsewhere now w (RestartWord p) (restart_word re) lt (λ z. ne (ap restart_place z)) e
    | inl same ↦ inr (
      re,
      subst (λ (q : ℕ). Gives act x q re) (sym same) gives,
      ap (λ (l : List ℕ). restart_at s l w) e ∙ ap (restart_at s (store s words (RestartWord p) (restart_word re))) same
          ∙ restart_here s words p re fit lt (restart_fits s (few_words s) re here),
    )
  ]

  pub restart_goes_on : (now : List ℕ) → Wrote s code words act x now → (w : ℕ) → GoesOn now w
  restart_goes_on now (Nothing e) w = inl (ap (λ (l : List ℕ). restart_at s l w) e)
  restart_goes_on now (Aside cell n is aside e) w = elsewhere now w cell n is (λ z. subst IsAside (sym z) aside) e
  restart_goes_on now (Notes p n is at e) w = elsewhere now w (MessageWord p) n is (λ z. cc) e
  restart_goes_on now (Carries c p is moves e) w = elsewhere now w (CarryWord c) p is (λ z. cc) e
  restart_goes_on now (Dies c is hard e) w = elsewhere now w (DeadWord c) 1 is (λ z. cc) e
  restart_goes_on now (Holds seat v old new next at is kind raises was e) w = elsewhere now w (HolderWord v) _ is (λ z. cc) e
  restart_goes_on now (Restarts p re is here gives e) w = given now w p re is here gives e
  restart_goes_on now (Changed v i old new is fits law was e) w = elsewhere now w (EntryWord v i) _ is (λ z. cc) e
