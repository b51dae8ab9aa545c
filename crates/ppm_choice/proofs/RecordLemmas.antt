-- What is told of a processor that obeys follows from its record alone.
use Rattle.std.proofs.Common.{◌≡◌, ◌∙◌, ◌≢◌, ◌⊎◌, inl, inr, ◌+◌, ◌==◌, ◌&&◌, ℕ, Bool, true, false, if◌then◌else◌, List, [], ◌∷◌, ◌++◌, Option, refl, sym, ap, subst}
use Rattle.std.proofs.lemmas.Bool.Decides.{eqb_tells}
use Rattle.ppm_cells.specs.declared.shape.Shape.{Shape}
use Rattle.ppm_code.specs.Code.{IsCode}
use Rattle.ppm_code.specs.declared.code.CodeParts.{CodeParts}
use Rattle.ppm_words.specs.declared.event.Event.{Event}
use Rattle.ppm_plan.specs.Schedules.{Planned}
use Rattle.ppm_step.specs.declared.ask.Want.{Want}
use Rattle.ppm_step.specs.declared.ask.Want.TheVariants.{Loads, Stores, Exchanges, Nothing}
use Rattle.ppm_step.specs.declared.turn.Act.{Act}
use Rattle.ppm_step.specs.declared.turn.Act.TheVariants.{Step, Soft, Hard, Quit}
use Rattle.ppm_step.specs.declared.turn.Turn.{Turn}
use Rattle.ppm_step.specs.Standings.{Standing, IsDone, wanted}
use Rattle.ppm_step.specs.State.{State, stand_of, happens, after, opening, want_of, next_of, seeks_holder, is_step, is_work_next}
use Rattle.ppm_step.specs.Stood.{act_told, stood_behind, stood_by}
use Rattle.ppm_step.specs.Told.{place_of, step_event, act_event, event_of, events_in, record_of}
use Rattle.ppm_step.proofs.FinishLemmas.{AllSpare, SparesOrDone, turn_spares, opening_spares}
use Rattle.ppm_step.proofs.StandLemmas.{Spares}
use Rattle.ppm_step.proofs.RecordLemmas.{IsAsked, Asks, AllAsk, asked, live_event, turn_asks, own_leads, others_stay, opening_asks, lost_there}
use Rattle.ppm_choice.specs.declared.limits.Limits.{Limits}
use Rattle.ppm_choice.specs.Deeds.{Deed, deeds_of}
use Rattle.ppm_choice.specs.Laws.{TellsByRecord}
use Rattle.ppm_choice.specs.Obeying.{Past, nothing_done, behind, awake, Obeys}
use Rattle.ppm_choice.specs.Tells.{told_before, told_from, told_by}

-- a past after an act, by whether this is a step
abbrev behind_by : Past → Standing → Bool → Past
behind_by past stood step = record {
  acts = past.acts + 1;
  work = if step && is_work_next (next_of stood) then past.work + 1 else past.work;
  looks = if step && is_work_next (next_of stood) then 0 else past.looks + 1;
  drawn = if step && seeks_holder stood then past.drawn + 1 else past.drawn;
}

module _ (s : Shape) (code : CodeParts) where
  -- an event tells whether its act is a step
  step_told : (standing : Standing) (words : List ℕ) (place : ℕ) (want : Want) → IsAsked want
      → is_step (act_told s standing (step_event words place want)) ≡ true
  step_told standing words place (Loads at) a = refl
  step_told standing words place (Stores at word) a = refl
  step_told standing words place (Exchanges at old new) a = refl
  step_told standing words place Nothing a = absurd a

  is_told : (own : ℕ) (standing : Standing) (words : List ℕ) (act : Act) → Asks s standing → standing ≢ IsDone
      → is_step (act_told s standing (act_event words (place_of standing) act (want_of s code own act standing))) ≡ is_step act
  is_told own standing words (Step victim) asks lives =
      step_told standing words (place_of standing) (wanted s own victim standing) (asked s own victim standing asks lives)
  is_told own standing words Soft asks lives = refl
  is_told own standing words Hard asks lives = refl
  is_told own standing words (Quit why) asks lives = refl

  same_past : (past : Past) (standing : Standing) (told act : Act) → is_step told ≡ is_step act
      → behind past (record { stood = standing; act = told }) ≡ behind past (record { stood = standing; act = act })
  same_past past standing told act e = ap (behind_by past standing) e

  module _ (is : IsCode code) (plan : Planned) (limits : Limits) (c : ℕ) where
    -- of these turns, with such a past, where it stands there
    abbrev Tells : Past → State → List Turn → Type 0
    Tells past state turns =
        told_from plan limits c past (deeds_of s code c state turns) (record_of s code c state turns)
        ≡ told_by plan limits c s code past (stand_of state c) (record_of s code c state turns)

    live : (standing : Standing) → SparesOrDone s code is standing → standing ≢ IsDone → Spares s standing
    live standing (inl h) lives = h
    live standing (inr done) lives = absurd (lives done)

    -- after its own turn
    own_turn : (past : Past) (state : State) (turn : Turn) (turns : List Turn) → turn.processor ≡ c → AllSpare s code is state → AllAsk s code is state
        → stand_of state c ≢ IsDone
        → Tells (behind (awake plan limits c past (stand_of state c)) (record { stood = stand_of state c; act = turn.act })) (happens s code state turn) turns
        → told_from plan limits c past (record { stood = stand_of state c; act = turn.act } ∷ deeds_of s code c (happens s code state turn) turns)
        (events_in s code (event_of s code state turn) ++ record_of s code c (happens s code state turn) turns)
        ≡ told_by plan limits c s code past (stand_of state c)
        (events_in s code (event_of s code state turn) ++ record_of s code c (happens s code state turn) turns)
    own_turn past state turn turns same all ask lives rest =
        subst (λ (l : List Event). told_from plan limits c past (deed ∷ deeds) (l ++ more) ≡ told_by plan limits c s code past standing (l ++ more))
        (sym events) (ap (λ l. told_before plan limits c past standing ++ (e ∷ l)) goes)
      where
        standing : Standing
        standing = stand_of state c

        deed : Deed
        deed = record { stood = standing; act = turn.act }

        deeds : List Deed
        deeds = deeds_of s code c (happens s code state turn) turns

        more : List Event
        more = record_of s code c (happens s code state turn) turns

        e : Event
        e = act_event state.words (place_of standing) turn.act (want_of s code c turn.act standing)

        own : Turn
        own = record { processor = c; act = turn.act }

        is_own : turn ≡ own
        is_own = λ i. record { processor = same i; act = turn.act }

        spares : Spares s standing
        spares = live standing (all c) lives

        events : events_in s code (event_of s code state turn) ≡ e ∷ []
        events =
            ap (λ t. events_in s code (event_of s code state t)) is_own
            ∙ ap (λ (o : Option Event). events_in s code o) (live_event s code state own standing spares)

        leads : stood_behind s code c standing e ≡ stand_of (happens s code state turn) c
        leads =
            sym (ap (λ (l : List Event). stood_by s code c standing l) events)
            ∙ subst (λ (t : Turn). stood_by s code c standing (events_in s code (event_of s code state t)) ≡ stand_of (happens s code state t) c)
            (sym is_own) (own_leads s code is state own (all c) (ask c))

        past' : Past
        past' = behind (awake plan limits c past standing) deed

        goes : told_from plan limits c past' deeds more
            ≡ told_by plan limits c s code (behind (awake plan limits c past standing) (record { stood = standing; act = act_told s standing e }))
            (stood_behind s code c standing e) more
        goes =
            rest
            ∙ ap (λ (p : Past). told_by plan limits c s code p (stand_of (happens s code state turn) c) more)
            (sym (same_past (awake plan limits c past standing) standing (act_told s standing e) turn.act
            (is_told c standing state.words turn.act (ask c) lives)))
            ∙ ap (λ (x : Standing). told_by plan limits c s code
            (behind (awake plan limits c past standing) (record { stood = standing; act = act_told s standing e })) x more) (sym leads)

    tells : (past : Past) (state : State) (turns : List Turn) (stands : Standing) → AllSpare s code is state → AllAsk s code is state
        → Obeys plan limits c past (deeds_of s code c state turns) stands → Tells past state turns
    tells past state [] stands all ask obeys = refl
    tells past state (turn ∷ turns) stands all ask obeys =
        by (turn.processor == c) (eqb_tells turn.processor c) obeys
        (λ p o. tells p (happens s code state turn) turns stands (turn_spares s code is state turn all) (turn_asks s code is state turn all ask) o)
      where
        next : State
        next = happens s code state turn

        deed : Deed
        deed = record { stood = stand_of state c; act = turn.act }

        by : (b : Bool) → ((b ≡ true) × (turn.processor ≡ c)) ⊎ ((b ≡ false) × (turn.processor ≢ c))
            → Obeys plan limits c past ((if b then deed ∷ [] else []) ++ deeds_of s code c next turns) stands
            → ((p : Past) → Obeys plan limits c p (deeds_of s code c next turns) stands → Tells p next turns)
            → told_from plan limits c past ((if b then deed ∷ [] else []) ++ deeds_of s code c next turns)
            ((if b then events_in s code (event_of s code state turn) else []) ++ record_of s code c next turns)
            ≡ told_by plan limits c s code past (stand_of state c)
            ((if b then events_in s code (event_of s code state turn) else []) ++ record_of s code c next turns)
        by true (inl t) o hence =
            own_turn past state turn turns t.1 all ask (λ done. o.0 (inl done)) (hence (behind (awake plan limits c past (stand_of state c)) deed) o.2)
        by true (inr t) o hence = cc (t.0)
        by false (inl t) o hence = cc (t.0)
        by false (inr t) o hence =
            hence past o
            ∙ ap (λ (x : Standing). told_by plan limits c s code past x (record_of s code c next turns))
            (others_stay s code is state turn c (all turn.processor) t.1)

pub tells_by_record : (s : Shape) (code : CodeParts) → IsCode code → TellsByRecord s code
tells_by_record s code is plan limits c words turns there obeys =
    tells s code is plan limits c nothing_done (opening words s.processors) turns (stand_of (after s code (opening words s.processors) turns) c)
    (opening_spares s code is s.processors) (opening_asks s code is s.processors) obeys
    ∙ ap (λ (x : Standing). told_by plan limits c s code nothing_done x (record_of s code c (opening words s.processors) turns))
    (lost_there s code is s.processors c there)
