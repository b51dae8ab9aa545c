-- In a stretch of turns in which nobody works and no place has a new holder a processor that takes steps has soon no place to go to, and then looks
-- again and again.
use Rattle.std.proofs.Common.{◌≡◌, ◌≢◌, ◌⊎◌, ◌≤◌, ◌<◌, ◌+◌, ◌*◌, ◌==◌, if◌then◌else◌, ℕ, zero, suc, Bool, true, false, List, [], ◌∷◌, ◌++◌, length, inl, inr, refl}
use Rattle.std.proofs.Common.{sym, ap, ◌∙◌, subst, arith, length-append}
use Rattle.std.specs.List.{AllByRecursion}
use Rattle.std.specs.Prelude.{◌^◌}
use Rattle.std.proofs.lemmas.Bool.{cases_Bool, eq-eqb, true≢false}
use Rattle.std.proofs.lemmas.Bool.Decides.{eqb_tells}
use Rattle.std.proofs.lemmas.List.{append_assoc}
use Rattle.ppm_strands.specs.Tree.{Words, Tree}
use Rattle.ppm_strands.specs.Calm.{Calm}
use Rattle.ppm_words.specs.declared.named_array.NamedArray.{NamedArray}
use Rattle.ppm_cells.specs.declared.holder.Holder.{Holder as AHold}
use Rattle.ppm_cells.specs.declared.restart.RestartKind.{RestartKind}
use Rattle.ppm_cells.specs.declared.restart.RestartKind.TheVariants.{Run, Bump, Push1, Push2, Unwind, Arrive, Join, Pop1, Pop2, Seek, Steal, Check, Take, Take2}
use Rattle.ppm_cells.specs.declared.shape.Shape.{Shape}
use Rattle.ppm_cells.specs.declared.shape.Takeover.TheVariants.{ByPlaces}
use Rattle.ppm_strands.specs.Strand.{Frame}
use Rattle.ppm_code.specs.Strands.{Point, Result}
use Rattle.ppm_code.specs.declared.code.CodeParts.{CodeParts}
use Rattle.ppm_code.specs.declared.location.FrameWord.{FrameWord}
use Rattle.ppm_layout.specs.Correct.{Opens}
use Rattle.ppm_layout.specs.Root.{root_strand}
use Rattle.ppm_layout.specs.declared.images.Image.{Image}
use Rattle.ppm_step.specs.Among.{IsTurnAmong}
use Rattle.ppm_step.specs.Laws.{finish_at}
use Rattle.ppm_step.specs.Rows.{seek_by, found_at}
use Rattle.ppm_step.specs.Standings.{Standing, IsWithin}
use Rattle.ppm_step.specs.State.{State as RunState, stand_of, happens, after, along, is_done_at, is_step, is_work, is_work_next, is_work_turn}
use Rattle.ppm_step.specs.State.{work_of}
use Rattle.ppm_step.specs.declared.content.Content.TheVariants.{AHolder}
use Rattle.ppm_step.specs.declared.row.Point.TheVariants.{SeekHolder}
use Rattle.ppm_step.specs.declared.row.Row.{Row}
use Rattle.ppm_step.specs.declared.row.Row.TheVariants.{Now}
use Rattle.ppm_step.specs.declared.row.Seat.{Seat}
use Rattle.ppm_step.specs.declared.row.Then.TheVariants.{Load, Move, Again}
use Rattle.ppm_step.specs.declared.turn.Act.{Act}
use Rattle.ppm_step.specs.declared.turn.Act.TheVariants.{Step, Hard}
use Rattle.ppm_step.specs.declared.turn.Next.TheVariants.{Work, Look}
use Rattle.ppm_step.specs.declared.turn.Turn.{Turn}
use Rattle.ppm_step.proofs.FinishLemmas.{done_has_cause}
use Rattle.ppm_tickets.specs.Lawful.{IsAlive, tag}
use Rattle.ppm_tickets.specs.Saw.{Sees, IsBidThere}
use Rattle.ppm_tickets.specs.View as spots
use Rattle.ppm_tickets.specs.Words.{Holder}
use Rattle.ppm_frames.specs.Views.{view}
use Rattle.ppm_frames.specs.Seen.{arrays_at}
use Rattle.ppm_frames.specs.Skeletons.{Skeleton}
use Rattle.ppm_kept.specs.Running.{IsFair, strands}
use Rattle.ppm_paces.specs.Costs.{IsLook}
use Rattle.ppm_runs.specs.Legs.{Leg, words_then, state_then, AreLegs, last_state, all_homes, all_forked, all_taken}
use Rattle.ppm_runs.specs.Work.{work_in}
use Rattle.ppm_runs.proofs.WholeLemmas.{in_two}
use Rattle.ppm_progress.specs.Soon.{turns_of, StepsOnly}
use Rattle.ppm_progress.proofs.ListLemmas.{both, front, back, has_some, work_both}
use Rattle.ppm_progress.proofs.MomentLemmas.{number_of, IsMoment, alive_at, sees_at}
use Rattle.ppm_progress.proofs.SpotLemmas.{Made}
use Rattle.ppm_progress.proofs.UnhurtRuns.{done_is}
use Rattle.ppm_progress.proofs.WriteLemmas.{MovesTo}
use Rattle.ppm_takeover.specs.Laps.{holder_tags}
use Rattle.ppm_takeover.specs.Looks.{IsMoving, IsLooking, StepsFrom}
use Rattle.ppm_takeover.specs.Lost.{BidsFor}
use Rattle.ppm_takeover.specs.Short.{LooksAtMost}
use Rattle.ppm_takeover.proofs.LookRows.{look_row}
use Rattle.ppm_takeover.proofs.CarriedRuns.{IsTended, tended_then, raised_by}
use Rattle.ppm_takeover.proofs.SoonRuns.{moment_of, looks_come_soon}
use Rattle.ppm_takeover.proofs.LapRuns.{tags_rise_at, seeks_is, set_on, tags_after, sum_after}
use Rattle.ppm_takeover.proofs.AimTurns.{AreApart, IsSettled, moves, settled_on, moved_settles}
use Rattle.ppm_takeover.proofs.ApartRuns.{apart_then}

-- the turn is no hard fault of processor c
abbrev pub Spares : (c : ℕ) → Turn → Type 0
Spares c turn = turn.processor ≡ c → turn.act ≢ Hard

hard_or_step : (act : Act) → is_step act ≡ true → act ≢ Hard
hard_or_step (Step v) e z = let a : Step v ≡ Hard = z in cc
hard_or_step act e z = true≢false (sym e ∙ ap is_step z)

pub steps_spare : (c : ℕ) (turns : List Turn) → AllByRecursion (StepsOnly c) turns → AllByRecursion (Spares c) turns
steps_spare c [] all = tt
steps_spare c (turn ∷ turns) all = (λ own. hard_or_step turn.act (all.0 own), steps_spare c turns all.1)

spared_struck : (first more : List Turn) (c : ℕ) → AllByRecursion (Spares c) (first ++ record { processor = c; act = Hard } ∷ more) → ⊥
spared_struck [] more c all = all.0 refl refl
spared_struck (turn ∷ first) more c all = spared_struck first more c all.1

-- a kind that looks loads holder words as it seeks work alone
again_seeks : (k : RestartKind) (n : ℕ) (s : Shape) (seat : Seat) → LooksAtMost s seat k n (Now Again) → k ≡ Seek
again_seeks Seek n s seat a = refl
again_seeks (Steal v i) zero s seat a = absurd a
again_seeks (Steal v i) (suc n) s seat a = absurd a
again_seeks (Check v i) zero s seat a = absurd a
again_seeks (Check v i) (suc n) s seat a = absurd a
again_seeks (Take v d) zero s seat a = absurd a
again_seeks (Take v d) (suc n) s seat a = absurd a
again_seeks (Take2 v) zero s seat a = absurd a
again_seeks (Take2 v) (suc n) s seat a = absurd a
again_seeks _ zero s seat a = absurd a
again_seeks _ (suc n) s seat a = absurd a

load_seeks : (s : Shape) (seat : Seat) (k : RestartKind) (n : ℕ) → LooksAtMost s seat k n (Now (Load SeekHolder)) → k ≡ Seek
load_seeks s seat k zero a = absurd a
load_seeks s seat k (suc n) a = again_seeks k n s seat (subst (LooksAtMost s seat k n) (by (seat.place == seat.place) refl) (a seat.place (AHolder own)))
  where
    own : AHold
    own = record { tag = 0; processor = 0 }

    by : (y : Bool) → (seat.place == seat.place) ≡ y → found_at s seat seat.place SeekHolder (AHolder own) ≡ Now Again
    by true e = ap (λ (z : Bool). if z then Now Again else seek_by s seat seat.place own s.takeover) e
    by false e = absurd (true≢false (sym (eq-eqb seat.place seat.place refl) ∙ e))

-- a kind looks or is work
look_or_work : (k : RestartKind) → IsLook k ⊎ (is_work k ≡ true)
look_or_work (Run f y) = inr refl
look_or_work (Bump r) = inr refl
look_or_work (Push1 r) = inr refl
look_or_work (Push2 r) = inr refl
look_or_work (Unwind f) = inr refl
look_or_work (Arrive r d) = inr refl
look_or_work (Join r d) = inr refl
look_or_work Pop1 = inr refl
look_or_work (Pop2 r) = inr refl
look_or_work Seek = inl tt
look_or_work (Steal v i) = inl tt
look_or_work (Check v i) = inl tt
look_or_work (Take v d) = inl tt
look_or_work (Take2 v) = inl tt

-- a standing before a move
moving_is : (x : Standing) → IsMoving x → (seat : Seat) × (r : ℕ) × (x ≡ IsWithin seat (Now (Move r)))
moving_is (IsWithin seat (Now (Move r))) a = (seat, r, refl)
moving_is _ a = absurd a

module _ (code : CodeParts) (input : List NamedArray) (s : Shape) (keeper : ℕ) (im : Image) (places : s.takeover ≡ ByPlaces) (fair : IsFair code)
    (opens : Opens code input s keeper im) (calm : Calm (strands s code) (root_strand code input) (arrays_at (view s im.words)))
    (legs : List Leg) (are_legs : AreLegs s code im.words legs) (fewer : (s.processors + 1) * (length legs + 1) < 2 ^ 58) where
  abbrev root : Tree (Frame FrameWord Point) Result
  root = root_strand code input

  abbrev arrays : Words
  arrays = arrays_at (view s im.words)

  abbrev start : RunState
  start = state_then s code im.words legs

  abbrev words : List ℕ
  words = words_then s code im.words legs

  abbrev Among : List Turn → Type 0
  Among turns = AllByRecursion (IsTurnAmong s.processors) turns

  abbrev pub at : List Turn → RunState
  at turns = last_state s code im.words legs turns

  abbrev pub Over : List Turn → Type 0
  Over turns = finish_at s (at turns) ≢ 0

  abbrev pub sum : List Turn → ℕ
  sum turns = holder_tags s.processors (spots.view s (at turns).words)

  abbrev raised : ℕ
  raised = raised_by code input s keeper im places fair opens calm legs

  abbrev IsTendedAt : List Turn → Skeleton → Type 0
  IsTendedAt turns t =
      IsTended s code places fair root arrays raised words (at turns) (all_homes s code im.words legs turns) (all_forked s code im.words legs turns)
      (all_taken s code im.words legs turns) t

  tended : (turns : List Turn) → Among turns → (t : Skeleton) × IsTendedAt turns t
  tended turns among = tended_then code input s keeper im places fair opens calm legs are_legs turns among

  pub moment : (turns : List Turn) → Among turns → IsMoment s code fair root arrays (at turns)
  moment turns among = let a = tended turns among in moment_of s code places fair root arrays raised words (at turns) _ _ _ a.0 a.1

  pub one_more : (first : List Turn) (turn : Turn) → at (first ++ turn ∷ []) ≡ happens s code (at first) turn
  one_more first turn = in_two s code start first (turn ∷ [])

  apart_at : (turns : List Turn) → Among turns → AreApart s (at turns)
  apart_at turns among = apart_then code input s keeper im places fair opens calm legs are_legs turns among

  -- who is spared takes steps, or the finish word is set
  pub going_or : (turns : List Turn) → Among turns → (c : ℕ) → c < s.processors → AllByRecursion (Spares c) turns
      → (is_done_at (stand_of (at turns) c) ≡ false) ⊎ Over turns
  going_or turns among c there spared = elim (cases_Bool (is_done_at (stand_of (at turns) c))) [
    | inr going ↦ inl going
    | inl done ↦
        let stand = done_is (stand_of (at turns) c) done in
        let fit = (moment [] tt).advancing.run.halves.lawful.0 in
        elim (done_has_cause s code fair.code_is words turns c fit there stand) [
          | inl struck ↦ absurd (spared_struck struck.first struck.more c (subst (AllByRecursion (Spares c)) struck.turns_are spared))
          | inr set ↦ inr set
        ]
  ]

  pub set_later : (first more : List Turn) → Over first → Over (first ++ more)
  set_later first more set = set_on code input s keeper im places fair opens calm legs are_legs fewer first more set

  -- nobody works in these turns, no place has a new holder, and the finish word is 0 after them
  pub record IsQuiet (first more : List Turn) : Type 0 where
    pub unset : finish_at s (at (first ++ more)) ≡ 0
    pub idle : work_in s code (at first) more ≡ 0
    pub flat : sum (first ++ more) ≤ sum first

  sums : (first more : List Turn) → Among first → Among more → sum first ≤ sum (first ++ more)
  sums first more a b = sum_after code input s keeper im places fair opens calm legs are_legs fewer first more a b

  pub quiet_front : (first a b : List Turn) → Among first → Among a → Among b → IsQuiet first (a ++ b) → IsQuiet first a
  quiet_front first a b among_first among_a among_b quiet =
      let whole = append_assoc first a b in
      let works = work_both s code (at first) a b in
      let idle = quiet.idle in
      let flat = quiet.flat in
      let up = sums (first ++ a) b (both (IsTurnAmong s.processors) first a among_first among_a) among_b in
      let same = ap sum whole in
      record {
        unset = elim (eqb_tells (finish_at s (at (first ++ a))) 0) [
          | inl unset ↦ unset.1
          | inr set ↦ absurd (set_later (first ++ a) b set.1 (ap (λ (l : List Turn). finish_at s (at l)) whole ∙ quiet.unset))
        ];
        idle = omega (arith, works, idle);
        flat = omega (arith, flat, up, same);
      }

  pub quiet_back : (first a b : List Turn) → Among first → Among a → Among b → IsQuiet first (a ++ b) → IsQuiet (first ++ a) b
  quiet_back first a b among_first among_a among_b quiet =
      let whole = append_assoc first a b in
      let works = work_both s code (at first) a b in
      let idle = quiet.idle in
      let flat = quiet.flat in
      let up = sums first a among_first among_a in
      let same = ap sum whole in
      let here = ap (λ (z : RunState). work_in s code z b) (in_two s code start first a) in
      record {
        unset = ap (λ (l : List Turn). finish_at s (at l)) whole ∙ quiet.unset;
        idle = omega (arith, works, idle, here);
        flat = omega (arith, flat, up, same);
      }

  -- no bid is made in them
  unmade : (first : List Turn) (turn : Turn) → Among first → IsTurnAmong s.processors turn → IsQuiet first (turn ∷ []) → (v : ℕ)
      → Made s (at first).words (stand_of (at first) turn.processor) (happens s code (at first) turn).words v → ⊥
  unmade first turn a b quiet v made =
      let law = (moment first a).advancing.run.halves.lawful.1 in
      let there : v < s.processors =
      subst (λ (k : RestartKind). IsBidThere s k) made.here (law.bids made.seat.place) in
      let was = ap tag made.old_is in
      let is = ap tag made.new_is in
      let n = spots.view s (at (first ++ turn ∷ [])).words in
      let now = ap (λ (z : RunState). tag (spots.view s z.words (Holder v))) (one_more first turn) in
      let up = tags_rise_at s.processors v (spots.view s (at first).words) n
      (λ w lt. tags_after code input s keeper im places fair opens calm legs are_legs fewer first (turn ∷ []) a (b, tt) w) there
      (omega (arith, was, is, now)) in
      let flat = quiet.flat in
      omega (arith, up, flat)

  -- who has no place to go to has none after them
  pub settled_along : (c : ℕ) → c < s.processors → (more first : List Turn) → Among first → Among more → AllByRecursion (Spares c) first
      → AllByRecursion (Spares c) more → IsQuiet first more → IsSettled s (at first) c → IsSettled s (after s code (at first) more) c
  settled_along c there [] first a b spared spares quiet settled = settled
  settled_along c there (turn ∷ more) first a b spared spares quiet settled =
      let then_ = first ++ turn ∷ [] in
      let a_then = both (IsTurnAmong s.processors) first (turn ∷ []) a (b.0, tt) in
      let spared_then = both (Spares c) first (turn ∷ []) spared (spares.0, tt) in
      let one = quiet_front first (turn ∷ []) more a (b.0, tt) b.1 quiet in
      let rest = quiet_back first (turn ∷ []) more a (b.0, tt) b.1 quiet in
      let is = one_more first turn in
      elim (going_or then_ a_then c there spared_then) [
        | inr set ↦ absurd (set one.unset)
        | inl going ↦
            let alive = subst (λ (z : RunState). IsAlive (spots.view s z.words) c) is
            (alive_at s code fair root arrays (at then_) (moment then_ a_then) c going) in
            let now = tended first a in
            let run = now.1.advancing.run in
            let next = settled_on s code places fair root arrays (at first) _ _ _ [] now.0 run.halves run.joint.agrees turn b.0 (apart_at first a) c alive
            settled (unmade first turn a b.0 one) in
            subst (λ (z : RunState). IsSettled s (after s code z more) c) is
            (settled_along c there more then_ a_then b.1 spared_then spares.1 rest (subst (λ (z : RunState). IsSettled s z c) (sym is) next))
      ]

  -- of a stretch with seventeen steps of c
  module _ (c : ℕ) (there : c < s.processors) (first more : List Turn) (a : Among first) (b : Among more) (spared : AllByRecursion (Spares c) first)
      (steps : AllByRecursion (StepsOnly c) more) (quiet : IsQuiet first more) where
    going : is_done_at (stand_of (at first) c) ≡ false
    going = elim (going_or first a c there spared) [
      | inl live ↦ live
      | inr set ↦ absurd (set_later first more set quiet.unset)
    ]

    soon : 17 ≤ turns_of c more → StepsFrom s code IsLooking c 16 (at first) more ⊎ StepsFrom s code IsMoving c 16 (at first) more
    soon many = elim (looks_come_soon code input s keeper im places fair opens calm legs are_legs first more a b c there going steps many) [
      | inl look ↦ inl look
      | inr (inl move) ↦ inr move
      | inr (inr (inl found)) ↦
          let some = has_some (along s code work_of (at first) more) c found in
          let idle = quiet.idle in
          absurd (omega (arith, some, idle))
      | inr (inr (inr set)) ↦ absurd (set (sym (ap (finish_at s) (in_two s code start first more)) ∙ quiet.unset))
    ]

    -- where it steps so
    module _ (P : Standing → Type 0) (from : StepsFrom s code P c 16 (at first) more) where
      abbrev turn : Turn
      turn = record { processor = c; act = Step from.victim }

      abbrev upto : List Turn
      upto = first ++ from.before

      split : Among (from.before ++ turn ∷ from.rest)
      split = subst Among from.turns_are b

      among_before : Among from.before
      among_before = front (IsTurnAmong s.processors) from.before (turn ∷ from.rest) split

      among_rest : Among (turn ∷ from.rest)
      among_rest = back (IsTurnAmong s.processors) from.before (turn ∷ from.rest) split

      among_upto : Among upto
      among_upto = both (IsTurnAmong s.processors) first from.before a among_before

      spares : AllByRecursion (Spares c) (from.before ++ turn ∷ from.rest)
      spares = subst (AllByRecursion (Spares c)) from.turns_are (steps_spare c more steps)

      spares_before : AllByRecursion (Spares c) from.before
      spares_before = front (Spares c) from.before (turn ∷ from.rest) spares

      spares_rest : AllByRecursion (Spares c) (turn ∷ from.rest)
      spares_rest = back (Spares c) from.before (turn ∷ from.rest) spares

      spared_upto : AllByRecursion (Spares c) upto
      spared_upto = both (Spares c) first from.before spared spares_before

      quiet_split : IsQuiet first (from.before ++ turn ∷ from.rest)
      quiet_split = subst (IsQuiet first) from.turns_are quiet

      quiet_before : IsQuiet first from.before
      quiet_before = quiet_front first from.before (turn ∷ from.rest) a among_before among_rest quiet_split

      quiet_rest : IsQuiet upto (turn ∷ from.rest)
      quiet_rest = quiet_back first from.before (turn ∷ from.rest) a among_before among_rest quiet_split

      on : after s code (at first) from.before ≡ at upto
      on = sym (in_two s code start first from.before)

      stands : P (stand_of (at upto) c)
      stands = subst (λ (z : RunState). P (stand_of z c)) on from.stands

      ends : after s code (at upto) (turn ∷ from.rest) ≡ at (first ++ more)
      ends =
          sym (in_two s code start upto (turn ∷ from.rest)) ∙ ap at (append_assoc first from.before (turn ∷ from.rest))
          ∙ ap (λ (l : List Turn). at (first ++ l)) (sym from.turns_are)

      sees : (x : Standing) → stand_of (at upto) c ≡ x
          → Sees s (spots.view s (at upto).words) (spots.kinds s (at upto).words) (spots.bottoms s (at upto).words) c x
      sees x e = sees_at s code fair root arrays (at upto) (moment upto among_upto) c x e

      working_not : (seat : Seat) (row : Row) → stand_of (at upto) c ≡ IsWithin seat row → is_work seat.restart.kind ≡ true → ⊥
      working_not seat row e work =
          let row_works : is_work_turn (Step from.victim) (IsWithin seat row) ≡ true =
          ap (λ (y : Bool). is_work_next (if y then Work else Look)) work in
          let told : work_of (at upto) turn ≡ c ∷ [] =
          ap (λ (z : Standing). if is_work_turn (Step from.victim) z then c ∷ [] else []) e ∙ ap (λ (y : Bool). if y then c ∷ [] else []) row_works in
          let later = along s code work_of (happens s code (at upto) turn) from.rest in
          let is = ap (λ (l : List ℕ). length (l ++ later)) told in
          let whole : work_in s code (at upto) (turn ∷ from.rest) ≡ length (work_of (at upto) turn ++ later) = refl in
          let sum_ = length-append (c ∷ []) later in
          let one : length (c ∷ []) ≡ 1 = refl in
          let idle = quiet_rest.idle in
          omega (arith, is, whole, sum_, one, idle)

    looking_settles : StepsFrom s code IsLooking c 16 (at first) more → IsSettled s (at (first ++ more)) c
    looking_settles from =
        let u = upto IsLooking from in
        let seat_is = seeks_is (stand_of (at u) c) (stands IsLooking from) in
        let seat = seat_is.0 in
        let row = Now (Load SeekHolder) in
        let seen = sees IsLooking from (IsWithin seat row) seat_is.1 in
        let M = spots.with_restarts (spots.view s (at u).words) (spots.kinds s (at u).words) (spots.bottoms s (at u).words) in
        let kind : seat.restart.kind ≡ Seek = elim (look_or_work seat.restart.kind) [
          | inl look ↦ let r = look_row s places M seat row look seen.1 in load_seeks s seat seat.restart.kind r.0 r.2
          | inr work ↦ absurd (working_not IsLooking from seat row seat_is.1 work)
        ] in
        let settled : IsSettled s (at u) c = λ v took names.
        let place = ap number_of (sym took.carried ∙ seen.0.carried.carry) in
        subst (λ (k : RestartKind). BidsFor k v) (ap (spots.kinds s (at u).words) place ∙ seen.0.at.kind ∙ kind) took.bids in
        subst (λ (z : RunState). IsSettled s z c) (ends IsLooking from)
        (settled_along c there (turn IsLooking from ∷ from.rest) u (among_upto IsLooking from) (among_rest IsLooking from) (spared_upto IsLooking from)
        (spares_rest IsLooking from) (quiet_rest IsLooking from) settled)

    module _ (from : StepsFrom s code IsMoving c 16 (at first) more) where
      abbrev u : List Turn
      u = upto IsMoving from

      abbrev mine : Turn
      mine = turn IsMoving from

      move : (seat : Seat) × (r : ℕ) × (stand_of (at u) c ≡ IsWithin seat (Now (Move r)))
      move = moving_is (stand_of (at u) c) (stands IsMoving from)

      among_u : Among u
      among_u = among_upto IsMoving from

      moving_settles : IsSettled s (at (first ++ more)) c
      moving_settles =
          let then_ = u ++ mine ∷ [] in
          let all = among_rest IsMoving from in
          let spare = spares_rest IsMoving from in
          let among_then = both (IsTurnAmong s.processors) u (mine ∷ []) among_u (all.0, tt) in
          let spared_then = both (Spares c) u (mine ∷ []) (spared_upto IsMoving from) (spare.0, tt) in
          let one = quiet_front u (mine ∷ []) from.rest among_u (all.0, tt) all.1 (quiet_rest IsMoving from) in
          let rest = quiet_back u (mine ∷ []) from.rest among_u (all.0, tt) all.1 (quiet_rest IsMoving from) in
          let is = one_more u mine in
          elim (going_or then_ among_then c there spared_then) [
            | inr set ↦ absurd (set one.unset)
            | inl going_then ↦
                let alive = subst (λ (z : RunState). IsAlive (spots.view s z.words) c) is
                (alive_at s code fair root arrays (at then_) (moment then_ among_then) c going_then) in
                let now = tended u among_u in
                let run = now.1.advancing.run in
                let next = moved_settles s code places fair root arrays (at u) _ _ _ [] now.0 run.halves run.joint.agrees mine all.0 (apart_at u among_u)
                from.victim move.0 move.1 refl move.2 alive in
                subst (λ (z : RunState). IsSettled s z c)
                (ap (λ (z : RunState). after s code z from.rest) is ∙ ends IsMoving from)
                (settled_along c there from.rest then_ among_then all.1 spared_then spare.1 rest (subst (λ (z : RunState). IsSettled s z c) (sym is) next))
          ]

      moving_not : IsSettled s (at first) c → ⊥
      moving_not settled =
          let now = tended u among_u in
          let run = now.1.advancing.run in
          let seen = sees IsMoving from (IsWithin move.0 (Now (Move move.1))) move.2 in
          let there_ = subst (λ (z : RunState). IsSettled s z c) (on IsMoving from)
          (settled_along c there from.before first a (among_before IsMoving from) spared (spares_before IsMoving from) (quiet_before IsMoving from) settled) in
          let moved = moves s code places fair root arrays (at u) _ _ _ [] now.0 run.halves run.joint.agrees mine (among_rest IsMoving from).0
          (apart_at u among_u) (Step from.victim) (stand_of (at u) c) c move.1 refl
          (subst (λ (z : Standing). MovesTo (Step from.victim) z c move.1) (sym move.2) (seen.0.own, refl)) in
          there_ move.1 moved.took moved.names

    pub settles : 17 ≤ turns_of c more → IsSettled s (at (first ++ more)) c
    settles many = elim (soon many) [ inl look ↦ looking_settles look | inr move_ ↦ moving_settles move_ ]

    pub looks_again : 17 ≤ turns_of c more → IsSettled s (at first) c → StepsFrom s code IsLooking c 16 (at first) more × IsSettled s (at (first ++ more)) c
    looks_again many settled = elim (soon many) [
      | inl look ↦ (look, looking_settles look)
      | inr move_ ↦ absurd (moving_not move_ settled)
    ]
