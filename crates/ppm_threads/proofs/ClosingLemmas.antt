-- What a run of the table says of a processor is what its deeds say.
use Rattle.std.proofs.Common.{◌≡◌, ◌≢◌, ◌∙◌, ℕ, ◌<◌, Bool, if◌then◌else◌, Option, None, Some, List, [], ◌∷◌, ◌++◌, length, sym, refl, ap, subst, arith, eq-eqb, ne_eqb}
use Rattle.ppm_cells.specs.declared.shape.Shape.{Shape}
use Rattle.ppm_code.specs.declared.code.CodeParts.{CodeParts}
use Rattle.ppm_plan.specs.Schedules.{Planned}
use Rattle.ppm_ports.specs.Told.{AppendsList}
use Rattle.ppm_words.specs.declared.event.Event.{Event}
use Rattle.ppm_step.specs.declared.ask.Want.{Want}
use Rattle.ppm_step.specs.declared.ask.Want.TheVariants.{Loads, Stores, Exchanges, Nothing}
use Rattle.ppm_step.specs.declared.turn.Act.{Act}
use Rattle.ppm_step.specs.declared.turn.Act.TheVariants.{Step, Soft, Hard, Quit}
use Rattle.ppm_step.specs.declared.turn.Turn.{Turn}
use Rattle.ppm_step.specs.Standings.{Standing, IsLost, IsPlaced, IsAt, IsWithin, IsRunning, IsBroken, IsDone}
use Rattle.ppm_step.specs.State.{State, stand_of, after, want_of, found_in}
use Rattle.ppm_step.specs.Told.{act_event, event_by, event_of, events_in, events_by, place_of, record_of}
use Rattle.ppm_choice.specs.declared.limits.Limits.{Limits}
use Rattle.ppm_choice.specs.Deeds.{Deed as Acted, deeds_by as acts_by, deeds_of as acts_in}
use Rattle.ppm_choice.specs.Obeying.{nothing_done, Obeys, ObeysIn}
use Rattle.ppm_table.specs.declared.view.Deed.{Deed}
use Rattle.ppm_table.specs.declared.view.Opening.{Opening}
use Rattle.ppm_table.specs.Run.{act_by, behind, stood, deed_of, deed_at, IsTold, AllTold, start, deeds_in_run, stands_by}
use Rattle.ppm_table.specs.Telling.{event_of_deed, shown, shown_by}
use Rattle.ppm_table.proofs.RunLemmas.{stands_as, lost_at, lost_length}
use Rattle.ppm_table.proofs.SaidLemmas.{said, along_said}
use Rattle.ppm_choice.specs.Tells.{told_from, told_in}
use Rattle.ppm_threads.specs.Going.{acted, acts_of, OwnObeys, told_of_deeds}

module _ (s : Shape) (code : CodeParts) (c : ℕ) where
  acts_are_said : (st : Standing) (ds : List Deed) → said s code c (acted s) st ds ≡ acts_of s code c st ds
  acts_are_said st [] = refl
  acts_are_said st (d ∷ ds) = ap (λ (l : List Acted). acted s st d ∷ l) (acts_are_said (behind s code c st d) ds)

  shown_are_said : (st : Standing) (ds : List Deed) → said s code c (event_of_deed s c) st ds ≡ shown s code c st ds
  shown_are_said st [] = refl
  shown_are_said st (d ∷ ds) = ap (λ (l : List Event). event_of_deed s c st d ∷ l) (shown_are_said (behind s code c st d) ds)

  own_act : (state : State) (turn : Turn) → IsTold s code state turn → turn.processor ≡ c → acts_by c state turn ≡ acted s (stand_of state c) (deed_at s code state turn) ∷ []
  own_act state turn told same =
      ap (λ (b : Bool). if b then (record { stood = stand_of state c; act = turn.act }) ∷ [] else []) (eq-eqb turn.processor c same)
      ∙ ap (λ (a : Act). (record { stood = stand_of state c; act = a }) ∷ []) (sym told.act ∙ ap (λ (d : ℕ). act_by s (stand_of state d) (deed_at s code state turn)) same)

  no_act : (state : State) (turn : Turn) → turn.processor ≢ c → acts_by c state turn ≡ []
  no_act state turn other = ap (λ (b : Bool). if b then (record { stood = stand_of state c; act = turn.act }) ∷ [] else []) (ne_eqb turn.processor c other)

  want_event : (words : List ℕ) (st : Standing) (victim : ℕ) (want : Want)
      → act_event words (place_of st) (Step victim) want ≡ event_of_deed s c st (deed_of (Step victim) want (found_in words want))
  want_event words st victim (Loads at) = refl
  want_event words st victim (Stores at word) = refl
  want_event words st victim (Exchanges at old new) = refl
  want_event words st victim Nothing = refl

  act_says : (words : List ℕ) (st : Standing) (act : Act) → act_event words (place_of st) act (want_of s code c act st) ≡ event_of_deed s c st (deed_of act (want_of s code c act st) (found_in words (want_of s code c act st)))
  act_says words st (Step victim) = want_event words st victim (want_of s code c (Step victim) st)
  act_says words st Soft = refl
  act_says words st Hard = refl
  act_says words st (Quit why) = refl

  event_lives : (state : State) (turn : Turn) (st : Standing) → st ≢ IsDone
      → event_by s code state turn st ≡ Some (act_event state.words (place_of st) turn.act (want_of s code turn.processor turn.act st))
  event_lives state turn IsLost lives = refl
  event_lives state turn (IsPlaced place) lives = refl
  event_lives state turn (IsAt place restart) lives = refl
  event_lives state turn (IsWithin seat row) lives = refl
  event_lives state turn (IsRunning seat rest) lives = refl
  event_lives state turn (IsBroken place) lives = refl
  event_lives state turn IsDone lives = absurd (lives refl)

  events_here : (state : State) (act : Act) → stand_of state c ≢ IsDone → events_in s code (event_of s code state (record { processor = c; act = act }))
      ≡ event_of_deed s c (stand_of state c) (deed_at s code state (record { processor = c; act = act })) ∷ []
  events_here state act lives =
      ap (λ (e : Option Event). events_in s code e) (event_lives state (record { processor = c; act = act }) (stand_of state c) lives)
      ∙ ap (λ (e : Event). e ∷ []) (act_says state.words (stand_of state c) act)

  own_event : (state : State) (turn : Turn) → IsTold s code state turn → turn.processor ≡ c → events_by s code c state turn ≡ event_of_deed s c (stand_of state c) (deed_at s code state turn) ∷ []
  own_event state turn told same =
      let is : turn ≡ record { processor = c; act = turn.act } = λ i. record { processor = same i; act = turn.act } in
      let lives : stand_of state c ≢ IsDone = subst (λ (d : ℕ). stand_of state d ≢ IsDone) same told.lives in
      ap (λ (b : Bool). if b then events_in s code (event_of s code state turn) else []) (eq-eqb turn.processor c same)
      ∙ subst (λ (t : Turn). events_in s code (event_of s code state t) ≡ event_of_deed s c (stand_of state c) (deed_at s code state t) ∷ []) (sym is) (events_here state turn.act lives)

  no_event : (state : State) (turn : Turn) → turn.processor ≢ c → events_by s code c state turn ≡ []
  no_event state turn other = ap (λ (b : Bool). if b then events_in s code (event_of s code state turn) else []) (ne_eqb turn.processor c other)

module _ (k : Opening) (c : ℕ) (turns : List Turn) (small : c < k.shape.processors) (all : AllTold k.shape k.code (start k) turns) where
  there : c < length (start k).stand
  there = omega (arith, small, lost_length k.shape.processors)

  lost : stand_of (start k) c ≡ IsLost
  lost = lost_at k.shape.processors c small

  acts_are : acts_in k.shape k.code c (start k) turns ≡ acts_of k.shape k.code c IsLost (deeds_in_run k c turns)
  acts_are =
      along_said k.shape k.code c (acts_by c) (acted k.shape) (own_act k.shape k.code c) (no_act k.shape k.code c) (start k) turns there all
      ∙ ap (λ (st : Standing). said k.shape k.code c (acted k.shape) st (deeds_in_run k c turns)) lost
      ∙ acts_are_said k.shape k.code c IsLost (deeds_in_run k c turns)

  record_is : record_of k.shape k.code c (start k) turns ≡ shown_by k c (deeds_in_run k c turns)
  record_is =
      along_said k.shape k.code c (events_by k.shape k.code c) (event_of_deed k.shape c) (own_event k.shape k.code c) (no_event k.shape k.code c) (start k) turns there all
      ∙ ap (λ (st : Standing). said k.shape k.code c (event_of_deed k.shape c) st (deeds_in_run k c turns)) lost
      ∙ shown_are_said k.shape k.code c IsLost (deeds_in_run k c turns)

  stands_are : stand_of (after k.shape k.code (start k) turns) c ≡ stands_by k c (deeds_in_run k c turns)
  stands_are = stands_as k.shape k.code c (start k) turns there all ∙ ap (λ (st : Standing). stood k.shape k.code c st (deeds_in_run k c turns)) lost

-- a processor that obeys by its deeds obeys in the run
pub obeys_in : (plan : Planned) (limits : Limits) (k : Opening) (c : ℕ) (turns : List Turn) → c < k.shape.processors → AllTold k.shape k.code (start k) turns
    → OwnObeys plan limits k c (deeds_in_run k c turns) → ObeysIn plan limits c k.shape k.code (start k) turns
obeys_in plan limits k c turns small all o =
    subst (λ (l : List Acted). Obeys plan limits c nothing_done l (stand_of (after k.shape k.code (start k) turns) c)) (sym (acts_are k c turns small all))
    (subst (λ (st : Standing). Obeys plan limits c nothing_done (acts_of k.shape k.code c IsLost (deeds_in_run k c turns)) st) (sym (stands_are k c turns small all)) o)

appends_by : (before now : Option (List Event)) (events : List Event) → ((list : List Event) → before ≡ Some list → now ≡ Some (list ++ events)) → AppendsList before now events
appends_by None now events h = tt
appends_by (Some before) None events h = absurd (let e = h before refl in cc)
appends_by (Some before) (Some now) events h = let e = h before refl in cc

-- what is told of a processor by its deeds is what is told of it in the run
told_are : (plan : Planned) (limits : Limits) (k : Opening) (c : ℕ) (turns : List Turn) → c < k.shape.processors → AllTold k.shape k.code (start k) turns
    → told_of_deeds plan limits k c (deeds_in_run k c turns) ≡ told_in plan limits c k.shape k.code (start k) turns
told_are plan limits k c turns small all =
    ap (λ (l : List Acted). told_from plan limits c nothing_done l (shown_by k c (deeds_in_run k c turns))) (sym (acts_are k c turns small all))
    ∙ ap (λ (l : List Event). told_from plan limits c nothing_done (acts_in k.shape k.code c (start k) turns) l) (sym (record_is k c turns small all))

pub tells_run : (plan : Planned) (limits : Limits) (k : Opening) (c : ℕ) (turns : List Turn) → c < k.shape.processors → AllTold k.shape k.code (start k) turns
    → (before now : Option (List Event))
    → ((list : List Event) → before ≡ Some list → now ≡ Some (list ++ told_of_deeds plan limits k c (deeds_in_run k c turns)))
    → AppendsList before now (told_in plan limits c k.shape k.code (start k) turns)
tells_run plan limits k c turns small all before now h =
    appends_by before now (told_in plan limits c k.shape k.code (start k) turns)
    (λ list known. h list known ∙ ap (λ (l : List Event). Some (list ++ l)) (told_are plan limits k c turns small all))
