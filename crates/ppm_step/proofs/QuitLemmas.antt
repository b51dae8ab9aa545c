-- The finish word where processors quit: which word it then is, and why.
use Rattle.std.proofs.Common.{◌≡◌, ◌≢◌, ◌<◌, ◌⊎◌, inl, inr, refl, sym, ap, ◌∙◌, subst, arith, ℕ, List, [], ◌∷◌, ◌++◌, Some, slice_index}
use Rattle.ppm_cells.specs.Fields.{number_of}
use Rattle.ppm_cells.specs.Finish.{finish_word, finish_of, IsFinish}
use Rattle.ppm_cells.specs.declared.finish.Finish.{Finish}
use Rattle.ppm_cells.specs.declared.finish.Finish.TheVariants.{Unset, Ended, Trapped, OutOfTurns, OutOfRoom, Stopped, Broken}
use Rattle.ppm_cells.specs.declared.shape.Shape.{Shape}
use Rattle.ppm_cells.proofs.ExactLemmas.{pack-unpack}
use Rattle.ppm_cells.proofs.FinishLemmas.{finishes_exact}
use Rattle.ppm_code.specs.Code.{IsCode}
use Rattle.ppm_code.specs.declared.code.CodeParts.{CodeParts}
use Rattle.ppm_step.specs.declared.ask.Want.{Want}
use Rattle.ppm_step.specs.declared.ask.Want.TheVariants.{Loads as WantsLoad, Stores as WantsStore, Exchanges as WantsExchange, Nothing}
use Rattle.ppm_step.specs.declared.turn.Act.{Act}
use Rattle.ppm_step.specs.declared.turn.Act.TheVariants.{Step, Soft, Hard, Quit}
use Rattle.ppm_step.specs.declared.turn.Turn.{Turn}
use Rattle.ppm_step.specs.declared.turn.Why.{Why}
use Rattle.ppm_step.specs.declared.turn.Why.TheVariants.{Turns, Watch}
use Rattle.ppm_step.specs.Standings.{Standing, IsDone, wanted}
use Rattle.ppm_step.specs.State.{State, stand_of, quit_with, want_of, happens, after, opening}
use Rattle.ppm_step.specs.Laws.{IsNoQuit, IsProposed, IsProposedWord, IsQuit, IsQuitWord, FinishHasCause, QuitIsTold, TurnsHaveCause}
use Rattle.ppm_step.proofs.StandLemmas.{Spares, no_done}
use Rattle.ppm_step.proofs.WordLemmas.{Asks, WordGoes, word_goes}
use Rattle.ppm_step.proofs.ActLemmas.{asks_act}
use Rattle.ppm_step.proofs.FinishLemmas.{AllSpare, by_turn, turn_spares, opening_spares, quit_is_told}

-- which quit has the word of spent turns
same_quit : (p c : ℕ) (why : Why) → finish_word (quit_with p why) ≡ finish_word (OutOfTurns c) → (p ≡ c) × (why ≡ Turns)
unfolding number_of
same_quit p c Turns e = (omega (arith, e), refl)
same_quit p c Watch e = absurd (omega (arith, e))

turns_some : (processor : ℕ) → finish_word (OutOfTurns processor) ≢ 0
unfolding number_of
turns_some processor e = omega (arith, e)

module _ (s : Shape) (code : CodeParts) (is : IsCode code) where
  -- the act is a quit by a processor that isn't done, and the word is its own
  pub record Quits (processor : ℕ) (act : Act) (standing : Standing) (word : ℕ) : Type 0 where
    pub why : Why
    pub act_is : act ≡ Quit why
    pub lives : standing ≢ IsDone
    pub word_is : word ≡ finish_word (quit_with processor why)

  abbrev pub IsCaused : (processor : ℕ) → Act → Standing → (word : ℕ) → Type 0
  IsCaused processor act standing word = IsProposedWord s.processors word ⊎ Quits processor act standing word

  weakened : (processor victim : ℕ) (standing : Standing) (want : Want)
      → Asks (λ word. IsNoQuit (Step victim) → IsProposedWord s.processors word) want → Asks (IsCaused processor (Step victim) standing) want
  weakened processor victim standing (WantsLoad at) h = tt
  weakened processor victim standing (WantsStore at word) h = h
  weakened processor victim standing (WantsExchange at old new) (inl far) = inl far
  weakened processor victim standing (WantsExchange at old new) (inr p) = inr (p.0, inl (p.1 tt))
  weakened processor victim standing Nothing h = tt

  -- what an act asks of the finish word
  asks_cause : (own : ℕ) (act : Act) (standing : Standing) → Spares s standing → Asks (IsCaused own act standing) (want_of s code own act standing)
  asks_cause own (Step victim) standing h =
      weakened own victim standing (wanted s own victim standing) (asks_act s code is own (Step victim) standing h)
  asks_cause own Soft standing h = tt
  asks_cause own Hard standing h = asks_act s code is own Hard standing h
  asks_cause own (Quit why) standing h =
      inr (refl, inr (record { why = why; act_is = refl; lives = no_done s standing h; word_is = refl }))

  -- the finish word over a turn
  abbrev GoesTo : State → Turn → State → Type 0
  GoesTo state turn next =
      WordGoes (IsCaused turn.processor turn.act (stand_of state turn.processor)) (slice_index state.words 0) (slice_index next.words 0)

  cause_word : (state : State) (turn : Turn) → AllSpare s code is state → GoesTo state turn (happens s code state turn)
  cause_word state turn all =
      by_turn s code is (GoesTo state turn) state turn (inl refl)
      (λ h. word_goes (IsCaused turn.processor turn.act (stand_of state turn.processor)) state.words
      (want_of s code turn.processor turn.act (stand_of state turn.processor))
      (asks_cause turn.processor turn.act (stand_of state turn.processor) h))
      (all turn.processor)

  -- one of the turns is a quit where the finish word is 0, and the word is its own
  pub record QuitFrom (state : State) (turns : List Turn) (word : ℕ) : Type 0 where
    pub processor : ℕ
    pub why : Why
    pub first : List Turn
    pub more : List Turn
    pub turns_are : turns ≡ first ++ (record { processor = processor; act = Quit why } ∷ more)
    pub lives : stand_of (after s code state first) processor ≢ IsDone
    pub unset : slice_index (after s code state first).words 0 ≡ 0
    pub word_is : word ≡ finish_word (quit_with processor why)

  abbrev Comes : State → List Turn → Type 0
  Comes state turns =
      (slice_index (after s code state turns).words 0 ≡ slice_index state.words 0)
      ⊎ (IsProposedWord s.processors (slice_index (after s code state turns).words 0)
      ⊎ QuitFrom state turns (slice_index (after s code state turns).words 0))

  turn_is : (turn : Turn) (why : Why) → turn.act ≡ Quit why → turn ≡ record { processor = turn.processor; act = Quit why }
  turn_is turn why quits = λ i. record { processor = turn.processor; act = quits i }

  before_turn : (state : State) (turn : Turn) (turns : List Turn) → GoesTo state turn (happens s code state turn)
      → Comes (happens s code state turn) turns → Comes state (turn ∷ turns)
  before_turn state turn turns goes (inr (inl proposed)) = inr (inl proposed)
  before_turn state turn turns goes (inr (inr q)) = inr (inr (record {
    processor = q.processor;
    why = q.why;
    first = turn ∷ q.first;
    more = q.more;
    turns_are = ap (λ l. turn ∷ l) q.turns_are;
    lives = q.lives;
    unset = q.unset;
    word_is = q.word_is;
  }))
  before_turn state turn turns (inl same) (inl e) = inl (e ∙ same)
  before_turn state turn turns (inr (unset, inl proposed)) (inl e) = inr (inl (subst (IsProposedWord s.processors) (sym e) proposed))
  before_turn state turn turns (inr (unset, inr q)) (inl e) = inr (inr (record {
    processor = turn.processor;
    why = q.why;
    first = [];
    more = turns;
    turns_are = ap (λ t. t ∷ turns) (turn_is turn q.why q.act_is);
    lives = q.lives;
    unset = unset;
    word_is = e ∙ q.word_is;
  }))

  comes : (state : State) (turns : List Turn) → AllSpare s code is state → Comes state turns
  comes state [] all = inl refl
  comes state (turn ∷ turns) all =
      before_turn state turn turns (cause_word state turn all) (comes (happens s code state turn) turns (turn_spares s code is state turn all))

  pub finish_has_cause : FinishHasCause s code
  finish_has_cause words turns = by (comes (opening words s.processors) turns (opening_spares s code is s.processors))
    where
      word : ℕ
      word = slice_index (after s code (opening words s.processors) turns).words 0

      by : Comes (opening words s.processors) turns
          → (word ≡ slice_index words 0) ⊎ (IsProposedWord s.processors word ⊎ IsQuitWord s code words turns word)
      by (inl same) = inl same
      by (inr (inl proposed)) = inr (inl proposed)
      by (inr (inr q)) = inr (inr (record {
        processor = q.processor;
        why = q.why;
        quits = record { first = q.first; more = q.more; turns_are = q.turns_are; lives = q.lives; unset = q.unset };
        word_is = q.word_is;
      }))

  pub quit_told : QuitIsTold s code
  quit_told words turns processor why are q =
      ap (λ l. slice_index (after s code (opening words s.processors) l).words 0) q.turns_are
      ∙ quit_is_told s code is words q.first q.more processor why are q.unset q.lives

  -- none of these says that turns are spent
  not_proposed : (processor : ℕ) (finish : Finish) → IsProposed s.processors finish → Some finish ≡ Some (OutOfTurns processor) → ⊥
  not_proposed processor Ended p e = cc
  not_proposed processor (Trapped trap line) p e = cc
  not_proposed processor (OutOfRoom place) p e = cc
  not_proposed processor (Broken place) p e = cc
  not_proposed processor Unset p e = absurd p
  not_proposed processor (OutOfTurns other) p e = absurd p
  not_proposed processor Stopped p e = absurd p

  pub turns_have_cause : TurnsHaveCause s code
  turns_have_cause words turns processor none says = by (finish_has_cause words turns)
    where
      word : ℕ
      word = slice_index (after s code (opening words s.processors) turns).words 0

      is_word : word ≡ finish_word (OutOfTurns processor)
      is_word = sym (pack-unpack finish_word IsFinish finish_of finishes_exact word (OutOfTurns processor) says)

      of_quit : (q : IsQuitWord s code words turns word) → (q.processor ≡ processor) × (q.why ≡ Turns) → IsQuit s code processor Turns words turns
      of_quit q same =
          subst (λ p. IsQuit s code p Turns words turns) same.0
          (subst (λ w. IsQuit s code q.processor w words turns) same.1 q.quits)

      by : (word ≡ slice_index words 0) ⊎ (IsProposedWord s.processors word ⊎ IsQuitWord s code words turns word)
          → IsQuit s code processor Turns words turns
      by (inl same) = absurd (turns_some processor (sym is_word ∙ same ∙ none))
      by (inr (inl p)) = absurd (not_proposed processor p.finish p.is_proposed (sym p.stands ∙ says))
      by (inr (inr q)) = of_quit q (same_quit q.processor processor q.why (sym q.word_is ∙ is_word))
