-- Turns by which all processors obey name processors of the machine alone.
use Rattle.std.proofs.Common.{◌≡◌, ◌∙◌, ◌<◌, ℕ, ◌==◌, Bool, true, false, if◌then◌else◌, List, [], ◌∷◌, ◌++◌, length, refl, sym, subst, arith, eq-eqb}
use Rattle.std.specs.List.{All}
use Rattle.std.proofs.lemmas.List.Elements.{All-cons, All-nil}
use Rattle.ppm_cells.specs.declared.shape.Shape.{Shape}
use Rattle.ppm_code.specs.declared.code.CodeParts.{CodeParts}
use Rattle.ppm_plan.specs.Schedules.{Planned}
use Rattle.ppm_step.specs.declared.turn.Turn.{Turn}
use Rattle.ppm_step.specs.Among.{IsActAmong, IsTurnAmong}
use Rattle.ppm_step.specs.Standings.{Standing}
use Rattle.ppm_step.specs.State.{State, stand_of, happens}
use Rattle.ppm_choice.specs.declared.limits.Limits.{Limits}
use Rattle.ppm_choice.specs.Deeds.{Deed as Acted, deeds_of as acts_in}
use Rattle.ppm_choice.specs.Obeying.{Past, behind as past_behind, awake, Obeys}
use Rattle.ppm_choice.proofs.DrawnLemmas.{is_among}
use Rattle.ppm_table.specs.Run.{AllTold}
use Rattle.ppm_table.proofs.RunLemmas.{length_stays, live_below}

module _ (plan : Planned) (limits : Limits) (s : Shape) (code : CodeParts) (same : plan.processors ≡ s.processors) where
  -- each processor obeys from here on, whatever its past is
  abbrev EachObeys : State → List Turn → State → Type 0
  EachObeys state turns last = (c : ℕ) → c < s.processors → (past : Past) × Obeys plan limits c past (acts_in s code c state turns) (stand_of last c)

  behind_one : (c : ℕ) (b : Bool) (past : Past) (deed : Acted) (rest : List Acted) (stands : Standing)
      → Obeys plan limits c past ((if b then deed ∷ [] else []) ++ rest) stands → (p : Past) × Obeys plan limits c p rest stands
  behind_one c true past deed rest stands o = (past_behind (awake plan limits c past deed.stood) deed, o.2)
  behind_one c false past deed rest stands o = (past, o)

  behind_turn : (state last : State) (turn : Turn) (turns : List Turn) → EachObeys state (turn ∷ turns) last → EachObeys (happens s code state turn) turns last
  behind_turn state last turn turns each = λ c less.
      let here = each c less in
      behind_one c (turn.processor == c) here.0 (record { stood = stand_of state c; act = turn.act }) (acts_in s code c (happens s code state turn) turns) (stand_of last c) here.1

  first_among : (state : State) (turn : Turn) (turns : List Turn) (past : Past) (stands : Standing) → 0 < plan.processors
      → Obeys plan limits turn.processor past (acts_in s code turn.processor state (turn ∷ turns)) stands → IsActAmong s.processors turn.act
  first_among state turn turns past stands some o =
      let c = turn.processor in
      let deed : Acted = record { stood = stand_of state c; act = turn.act } in
      let h : Obeys plan limits c past ((if true then deed ∷ [] else []) ++ acts_in s code c (happens s code state turn) turns) stands =
      subst (λ (b : Bool). Obeys plan limits c past ((if b then deed ∷ [] else []) ++ acts_in s code c (happens s code state turn) turns) stands) (eq-eqb c c refl) o in
      subst (λ n. IsActAmong n turn.act) same (subst (IsActAmong plan.processors) (sym h.1) (is_among plan limits c past (stand_of state c) some))

  pub are_among : (state last : State) (turns : List Turn) → length state.stand ≡ s.processors → AllTold s code state turns → EachObeys state turns last
      → All (IsTurnAmong s.processors) turns
  are_among state last [] len told each = All-nil (IsTurnAmong s.processors)
  are_among state last (turn ∷ turns) len told each =
      let small : turn.processor < s.processors = let h = live_below state.stand turn.processor told.0.lives in omega (arith, h, len) in
      let here = each turn.processor small in
      All-cons (IsTurnAmong s.processors) turn turns
      (record { processor = small; act = first_among state turn turns here.0 (stand_of last turn.processor) (omega (arith, small, same)) here.1 })
      (are_among (happens s code state turn) last turns (length_stays s code state turn told.0.lives ∙ len) told.1 (behind_turn state last turn turns each))
