-- How a processor goes on where a round of a frame has halted.
use Rattle.std.proofs.Common.{◌≡◌, ◌∙◌, ◌+◌, ◌<◌, ℕ, List, Option, Some, None, refl, sym, ap, subst, arith}
use Rattle.std.specs.Prelude.{IfSome, length, slice_get}
use Rattle.std.proofs.lemmas.Bool.{lt-ltb}
use Rattle.ppm_cells.specs.Cells.{pool_at}
use Rattle.ppm_cells.specs.Memory.{read}
use Rattle.ppm_cells.specs.declared.cell.Cell.TheVariants.{FinishWord, RoomCounter}
use Rattle.ppm_cells.specs.declared.restart.Restart.{Restart}
use Rattle.ppm_cells.specs.declared.shape.Shape.{Shape}
use Rattle.ppm_code.specs.Capsules.{capsule_from, reached}
use Rattle.ppm_code.specs.Code.{IsCode}
use Rattle.ppm_code.specs.declared.act.End.{End}
use Rattle.ppm_code.specs.declared.act.Step.TheVariants.{Loads, Stores, Asks}
use Rattle.ppm_code.specs.declared.code.Capsule.{Capsule as Coded}
use Rattle.ppm_code.specs.declared.code.CodeParts.{CodeParts}
use Rattle.ppm_code.specs.declared.instr.Instr.{Instr}
use Rattle.ppm_code.specs.declared.work.Reached.TheVariants.{Before, AtEnd}
use Rattle.ppm_engine.proofs.WaitingLemmas.{stage_fits}
use Rattle.ppm_engine.specs.Waiting.{stands_before, stands_in}
use Rattle.ppm_step.specs.declared.frame.Home.{Home}
use Rattle.ppm_step.specs.declared.local.Local.{Local}
use Rattle.ppm_step.specs.declared.row.Seat.{Seat}
use Rattle.ppm_step.specs.Facts.{IsAddress, IsEnd}
use Rattle.ppm_step.specs.Frames.{Rest, Breaks, asks, at_counter, ending, rest_of}
use Rattle.ppm_step.specs.Standings.{Standing, IsAt, IsBroken, running}
use Rattle.ppm_core.specs.declared.after.Asked.{Asked}
use Rattle.ppm_core.specs.declared.capsule.Way.{Way}
use Rattle.ppm_core.specs.declared.capsule.Way.TheVariants.{Made, Stops, Breaks as BreaksThere}
use Rattle.ppm_core.specs.declared.frames.Framed.{Framed}
use Rattle.ppm_core.specs.declared.frames.NextCapsule.{NextCapsule}
use Rattle.ppm_core.specs.After.{HasFramed, HasRoom, ask_in, end_in, stands_framed}
use Rattle.ppm_core.specs.Moments.{Moment, moment, NoFurther, StepsTo}
use Rattle.ppm_core.specs.Rounds.{HaltsAt, LedTo}
use Rattle.ppm_core.proofs.EndLemmas.{step_made}
use Rattle.ppm_core.proofs.ListLemmas.{get_there}
use Rattle.ppm_core.proofs.MomentLemmas.{both}

some_same : {A : Type 0} {a b : A} → Some a ≡ Some b → a ≡ b
some_same p = cc

-- a capsule that asks for words
pub asks_at : (way : Way) (asked : Asked) → Some asked ≡ ask_in way → way ≡ Stops asked.next (Before (Asks asked.words))
asks_at (Stops next (Before (Asks words))) asked at = sym (ap (λ (a : Asked). Stops a.next (Before (Asks a.words))) (some_same at))
asks_at (Stops next (Before (Loads location to))) asked at = absurd cc
asks_at (Stops next (Before (Stores location word))) asked at = absurd cc
asks_at (Stops next (AtEnd end)) asked at = absurd cc
asks_at (Made at_it) asked at = absurd cc
asks_at BreaksThere asked at = absurd cc

-- the pool has the words
pub room_so : (s : Shape) (place : ℕ) (words : List ℕ) (counter asked : ℕ) (result : Option ℕ) → read s words FinishWord ≡ 0 → counter ≡ read s words (RoomCounter place)
    → ((go : ℕ → Rest) → IfSome result (λ (block : ℕ). IsAddress block × (asks (pool_at s place) s.room counter asked (go counter) ≡ go block)))
    → IfSome result (λ (block : ℕ). HasRoom s place words asked block)
room_so s place words counter asked None finish is h = tt
room_so s place words counter asked (Some block) finish is h = record {
  finish = finish;
  address = (h (λ n. Breaks)).0;
  goes = λ go. subst (λ (n : ℕ). asks (pool_at s place) s.room n asked (go n) ≡ go block) is (h go).1;
}

module _ (s : Shape) (code : CodeParts) where
  -- what came of capsules, by its number
  pub framed_as : (own place : ℕ) (first : Moment) (words' : List ℕ) (local : Local) (f g : Framed) → f ≡ g → HasFramed s code own place first words' local g
      → HasFramed s code own place first words' local f
  framed_as own place first words' local f g is h = subst (λ (x : Framed). HasFramed s code own place first words' local x) (sym is) h

  -- those after steps, all of them work
  pub framed_then : (own place : ℕ) (first mid : Moment) (words' : List ℕ) (local : Local) (made work : ℕ) (after result : Framed)
      → result ≡ record { made = made + after.made; work = work + after.made; end = after.end } → after.work ≡ after.made → StepsTo s code own made work first mid
      → HasFramed s code own place mid words' local after → HasFramed s code own place first words' local result
  framed_then own place first mid words' local made work after result is works steps more =
      framed_as own place first words' local result (record { made = made + after.made; work = work + after.made; end = after.end }) is
      (record {
        steps = both s code own steps
            (subst (λ (w : ℕ). StepsTo s code own after.made w mid (moment words' (stands_framed s code place local after.end))) works more.steps);
        holds = more.holds;
      })

  -- with less than two steps no capsule is entered
  pub too_few : (own left place : ℕ) (at : Restart) (words : List ℕ) → left < 2 → NoFurther s code own left (moment words (IsAt place (Some at)))
  too_few own left place at words few = record { inside = λ some finish. refl; before = λ enough finish. absurd (omega (arith, few, enough)) }

  module _ (seat : Seat) where
    -- where a capsule has halted at an end
    pub ends_at : IsCode code → (coming : NextCapsule) (registers : List ℕ) (way : Way) (end : End) (standing : Standing) → Some end ≡ end_in way
        → HaltsAt s code seat coming registers way standing → IsEnd end × (standing ≡ running s seat (ending code coming.home end 0))
    ends_at is coming registers (Stops next (AtEnd e)) end standing at h =
        subst (λ (x : End). IsEnd x × (standing ≡ running s seat (ending code coming.home x 0))) (some_same (sym at))
        (stage_fits s code is coming.number next (AtEnd e) registers h.0 h.1 h.2.0, h.2.1)
    ends_at is coming registers (Stops next (Before step)) end standing at h = absurd cc
    ends_at is coming registers (Made at_it) end standing at h = absurd cc
    ends_at is coming registers BreaksThere end standing at h = absurd cc

    -- it is a capsule of the code
    pub ends_within : (coming : NextCapsule) (registers : List ℕ) (way : Way) (end : End) (standing : Standing) → Some end ≡ end_in way
        → HaltsAt s code seat coming registers way standing → coming.number < length code.capsules
    ends_within coming registers (Stops next (AtEnd e)) end standing at h = get_there code.capsules coming.number h.0 h.1
    ends_within coming registers (Stops next (Before step)) end standing at h = absurd cc
    ends_within coming registers (Made at_it) end standing at h = absurd cc
    ends_within coming registers BreaksThere end standing at h = absurd cc

    -- the load of the room counter, by which a capsule goes on with its block
    pub asked_leads : (home : Home) (instrs : List Instr) (next words block : ℕ) (registers items : List ℕ) → seat.place < s.processors
        → HasRoom s seat.place items words block
        → StepsTo s code seat.own 1 1 (moment items (stands_in s code seat home (reached s.arrays instrs next (Before (Asks words)) registers)))
        (moment items (stands_before s code seat (at_counter home block) instrs next registers))
    asked_leads home instrs next words block registers items within room =
        let go : ℕ → Rest = λ counter. rest_of s code seat.place (at_counter home counter) (capsule_from s.arrays 0 next instrs registers) in
        step_made s code seat items items (rest_of s code seat.place home (reached s.arrays instrs next (Before (Asks words)) registers))
        (running s seat (go block)) room.finish (sym (lt-ltb seat.place s.processors within)) refl (sym (ap (running s seat) (room.goes go)))

    -- steps of a capsule lead to where it halts
    pub halts_along : (coming : NextCapsule) (capsule : Coded) (from : ℕ) (registers registers' words words' : List ℕ) (made : ℕ) (way : Way)
        → slice_get code.capsules coming.number ≡ Some capsule → LedTo s code seat coming.home capsule.instrs from registers registers' words words' made way
        → (standing : Standing) × HaltsAt s code seat coming registers' way standing
        × StepsTo s code seat.own made made (moment words (stands_before s code seat coming.home capsule.instrs from registers)) (moment words' standing)
    halts_along coming capsule from registers registers' words words' made (Made at_it) is led =
        (stands_before s code seat coming.home capsule.instrs at_it registers', (capsule, is, refl), led.steps)
    halts_along coming capsule from registers registers' words words' made (Stops next what) is led =
        (stands_in s code seat coming.home (reached s.arrays capsule.instrs next what registers'), (capsule, is, (led.stopped, refl)), led.steps)
    halts_along coming capsule from registers registers' words words' made BreaksThere is led = (IsBroken seat.place, refl, led.steps)

    -- a capsule with its block, and what came after that
    pub filled_so : (coming filled : NextCapsule) (found : Coded) (next words block : ℕ) (registers registers' a b c : List ℕ) (local : Local) (standing : Standing) (n : ℕ)
        (way : Way) (after result : Framed) → filled ≡ record { home = at_counter coming.home block; number = coming.number } → seat.place < s.processors
        → HasRoom s seat.place a words block → slice_get code.capsules coming.number ≡ Some found
        → HaltsAt s code seat coming registers (Stops next (Before (Asks words))) standing
        → LedTo s code seat filled.home found.instrs next registers registers' a b n way
        → ((st : Standing) → HaltsAt s code seat filled registers' way st → HasFramed s code seat.own seat.place (moment b st) c local after)
        → after.work ≡ after.made → result ≡ record { made = 1 + n + after.made; work = 1 + n + after.made; end = after.end }
        → HasFramed s code seat.own seat.place (moment a standing) c local result
    filled_so coming filled found next words block registers registers' a b c local standing n way after result fills within room get h led then_on works is =
        let same : h.0 ≡ found = some_same (sym h.1 ∙ get) in
        let stands : standing ≡ stands_in s code seat coming.home (reached s.arrays found.instrs next (Before (Asks words)) registers) =
        h.2.1 ∙ ap (λ (k : Coded). stands_in s code seat coming.home (reached s.arrays k.instrs next (Before (Asks words)) registers)) same in
        let first : StepsTo s code seat.own 1 1 (moment a standing) (moment a (stands_before s code seat filled.home found.instrs next registers)) =
        subst (λ (st : Standing). StepsTo s code seat.own 1 1 (moment a st) (moment a (stands_before s code seat filled.home found.instrs next registers))) (sym stands)
        (subst (λ (f : NextCapsule). StepsTo s code seat.own 1 1 (moment a (stands_in s code seat coming.home (reached s.arrays found.instrs next (Before (Asks words)) registers)))
        (moment a (stands_before s code seat f.home found.instrs next registers))) (sym fills)
        (asked_leads coming.home found.instrs next words block registers a within room)) in
        let number : filled.number ≡ coming.number = ap (λ (f : NextCapsule). f.number) fills in
        let along = halts_along filled found next registers registers' a b n way (ap (λ (k : ℕ). slice_get code.capsules k) number ∙ get) led in
        let more = then_on along.0 along.1 in
        framed_then seat.own seat.place (moment a standing) (moment b along.0) c local (1 + n) (1 + n) after result is works
        (both s code seat.own first along.2) more
