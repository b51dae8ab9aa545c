-- What the atomic step of each act owes to the rule.
use Rattle.std.proofs.Common.{◌≡◌, ◌≢◌, ℕ, zero, suc, ◌+◌, Bool, true, false, List, [], ◌∷◌, sym, refl, ap, ◌∙◌, subst, ◌==◌, if◌then◌else◌}
use Rattle.std.specs.Prelude.{slice_index, slice_set}
use prog.Atomic.{either}
use Rattle.atomic_table.specs.Table.{Allows}
use Rattle.ppm_cells.specs.Cells.{address}
use Rattle.ppm_cells.specs.declared.cell.Cell.TheVariants.{HolderWord, DeadWord}
use Rattle.ppm_cells.specs.Finish.{finish_word}
use Rattle.ppm_cells.specs.declared.shape.Shape.{Shape}
use Rattle.ppm_step.specs.declared.ask.Want.{Want}
use Rattle.ppm_step.specs.declared.ask.Want.TheVariants.{Loads, Stores, Exchanges}
use Rattle.ppm_step.specs.declared.turn.Act.TheVariants.{Step, Soft, Hard, Quit}
use Rattle.ppm_step.specs.declared.turn.Why.{Why}
use Rattle.ppm_step.specs.Standings.{Standing, wanted}
use Rattle.ppm_step.specs.State.{seeks_holder, found_in, words_after, quit_with}
use Rattle.ppm_step.specs.Stood.{holder_at}
use Rattle.ppm_step.proofs.VictimLemmas.{loads_holder, holder_at_is}
use Rattle.ppm_table.specs.declared.view.Deed.TheVariants.{Loaded, Stored, Exchanged, Softened, Hardened, Quitted}
use Rattle.ppm_table.specs.declared.view.Opening.{Opening}
use Rattle.ppm_table.specs.Run.{padding, deed_by, stands_by, deeds_in, IsRun, seen, Mine, IsActAt, Does, IsToStep}
use Rattle.ppm_table.proofs.Kept.{allows, allows_at}

-- a victim that is told by the address of a holder word
pub victim_told : (s : Shape) (own victim at : ℕ) (standing : Standing) (b : Bool) → seeks_holder standing ≡ b → IsActAt s standing (Step victim)
    → wanted s own victim standing ≡ Loads at → (if b then holder_at s at else 0) ≡ victim
victim_told s own victim at standing true e may wants =
    let is : Loads (address s (HolderWord victim)) ≡ Loads at = sym (loads_holder s own victim standing e) ∙ wants in
    let same : address s (HolderWord victim) ≡ at = cc in
    ap (λ (n : ℕ). holder_at s n) (sym same) ∙ holder_at_is s victim
victim_told s own victim at standing false e may wants = sym (may.1 e)

pub no_victim : (s : Shape) (own victim : ℕ) (standing : Standing) (b : Bool) → seeks_holder standing ≡ b → IsActAt s standing (Step victim)
    → (want : Want) (never : (at : ℕ) → want ≢ Loads at) → wanted s own victim standing ≡ want → 0 ≡ victim
no_victim s own victim standing true e may want never wants = absurd (never (address s (HolderWord victim)) (sym wants ∙ loads_holder s own victim standing e))
no_victim s own victim standing false e may want never wants = sym (may.1 e)

-- a word put again
put_again : (ws : List ℕ) (i : ℕ) → slice_set ws i (slice_index ws i) ≡ ws
put_again [] i = refl
put_again (w ∷ ws) zero = refl
put_again (w ∷ ws) (suc i) = ap (λ (l : List ℕ). w ∷ l) (put_again ws i)

-- a compare-and-modify
exchanged : (ws : List ℕ) (i old new : ℕ) (b : Bool) → slice_set ws i (if b then new else slice_index ws i) ≡ (if b then slice_set ws i new else ws)
exchanged ws i old new true = refl
exchanged ws i old new false = put_again ws i

either_is : (n old new : ℕ) (b : Bool) → either b new n ≡ (if b then new else n)
either_is n old new true = refl
either_is n old new false = refl

module _ (k : Opening) (slots id : ℕ) (me : Mine) where
  pub loads_owed : (at : ℕ) → IsToStep k me (Loads at)
      → Allows (IsRun k) slots id me (padding + at) (λ n. n) (λ n new. (a : ℕ) → padding + at ≡ padding + a → new ≡ (seen me.0 (Loaded a n), me.1))
  loads_owed at st =
      let wants = st.does.wants in
      allows_at k slots id me at (λ n. n) (λ a n. Loaded a n)
      (allows k slots id st.own (Step st.victim) me at (λ n. n) (λ n. Loaded at n) st.does.seat st.does.lives
      (λ ws. put_again ws at ∙ ap (λ (w : Want). words_after ws w) (sym wants))
      (λ ws. ap (λ (w : Want). deed_by w (found_in ws w)) (sym wants))
      (λ n. ap (λ (v : ℕ). Step v) (victim_told k.shape st.own st.victim at (stands_by k st.own (deeds_in me.0)) _ refl st.does.may wants)))

  pub stores_owed : (at word : ℕ) → IsToStep k me (Stores at word)
      → Allows (IsRun k) slots id me (padding + at) (λ _. word) (λ _ new. (a : ℕ) → padding + at ≡ padding + a → new ≡ (seen me.0 (Stored a word), me.1))
  stores_owed at word st =
      let wants = st.does.wants in
      allows_at k slots id me at (λ _. word) (λ a _. Stored a word)
      (allows k slots id st.own (Step st.victim) me at (λ _. word) (λ _. Stored at word) st.does.seat st.does.lives
      (λ ws. ap (λ (w : Want). words_after ws w) (sym wants))
      (λ ws. ap (λ (w : Want). deed_by w (found_in ws w)) (sym wants))
      (λ n. ap (λ (v : ℕ). Step v) (no_victim k.shape st.own st.victim (stands_by k st.own (deeds_in me.0)) _ refl st.does.may (Stores at word) (λ a e. cc) wants)))

  pub exchanges_owed : (at old new : ℕ) → IsToStep k me (Exchanges at old new)
      → Allows (IsRun k) slots id me (padding + at) (λ n. either (n == old) new n)
      (λ _ m. (a : ℕ) → padding + at ≡ padding + a → m ≡ (seen me.0 (Exchanged a old new), me.1))
  exchanges_owed at old new st =
      let wants = st.does.wants in
      allows_at k slots id me at (λ n. either (n == old) new n) (λ a _. Exchanged a old new)
      (allows k slots id st.own (Step st.victim) me at (λ n. either (n == old) new n) (λ _. Exchanged at old new) st.does.seat st.does.lives
      (λ ws. ap (λ (n : ℕ). slice_set ws at n) (either_is (slice_index ws at) old new (slice_index ws at == old))
      ∙ exchanged ws at old new (slice_index ws at == old) ∙ ap (λ (w : Want). words_after ws w) (sym wants))
      (λ ws. ap (λ (w : Want). deed_by w (found_in ws w)) (sym wants))
      (λ n. ap (λ (v : ℕ). Step v) (no_victim k.shape st.own st.victim (stands_by k st.own (deeds_in me.0)) _ refl st.does.may (Exchanges at old new) (λ a e. cc) wants)))

  pub softens_owed : (own : ℕ) (want : Want) → Does k own Soft me want → Allows (IsRun k) slots id me padding (λ n. n) (λ _ m. m ≡ (seen me.0 Softened, me.1))
  softens_owed own want st =
      allows k slots id own Soft me 0 (λ n. n) (λ _. Softened) st.seat st.lives (λ ws. put_again ws 0) (λ ws. refl) (λ n. refl)

  pub hardens_owed : (own : ℕ) (want : Want) → Does k own Hard me want
      → Allows (IsRun k) slots id me (padding + address k.shape (DeadWord own)) (λ _. 1) (λ _ m. m ≡ (seen me.0 Hardened, me.1))
  hardens_owed own want st =
      allows k slots id own Hard me (address k.shape (DeadWord own)) (λ _. 1) (λ _. Hardened) st.seat st.lives (λ ws. refl) (λ ws. refl) (λ n. refl)

  pub quits_owed : (own : ℕ) (why : Why) (want : Want) → Does k own (Quit why) me want
      → Allows (IsRun k) slots id me padding (λ n. either (n == 0) (finish_word (quit_with own why)) n) (λ _ m. m ≡ (seen me.0 (Quitted why), me.1))
  quits_owed own why want st =
      let new = finish_word (quit_with own why) in
      allows k slots id own (Quit why) me 0 (λ n. either (n == 0) new n) (λ _. Quitted why) st.seat st.lives
      (λ ws. ap (λ (n : ℕ). slice_set ws 0 n) (either_is (slice_index ws 0) 0 new (slice_index ws 0 == 0)) ∙ exchanged ws 0 0 new (slice_index ws 0 == 0))
      (λ ws. refl) (λ n. refl)

  pub hardens_at : (own at : ℕ) (want : Want) → address k.shape (DeadWord own) ≡ at → Does k own Hard me want
      → Allows (IsRun k) slots id me (padding + at) (λ _. 1) (λ _ m. m ≡ (seen me.0 Hardened, me.1))
  hardens_at own at want is st =
      subst (λ (n : ℕ). Allows (IsRun k) slots id me (padding + n) (λ _. 1) (λ _ m. m ≡ (seen me.0 Hardened, me.1))) is (hardens_owed own want st)

  pub quits_by : (own value : ℕ) (why why' : Why) (want : Want) → why ≡ why' → finish_word (quit_with own why) ≡ value → Does k own (Quit why) me want
      → Allows (IsRun k) slots id me padding (λ n. either (n == 0) value n) (λ _ m. m ≡ (seen me.0 (Quitted why'), me.1))
  quits_by own value why why' want is said st =
      subst (λ (w : Why). Allows (IsRun k) slots id me padding (λ n. either (n == 0) value n) (λ _ m. m ≡ (seen me.0 (Quitted w), me.1))) is
      (subst (λ (v : ℕ). Allows (IsRun k) slots id me padding (λ n. either (n == 0) v n) (λ _ m. m ≡ (seen me.0 (Quitted why), me.1))) said (quits_owed own why want st))
