-- What the tickets say of a processor is what the frames ask of its turn; so a turn leads from the
-- state of a run to words that are lawful and kept.
use Rattle.std.proofs.Common.{◌≡◌, ◌<◌, ℕ, zero, suc, ◌==◌, Bool, true, false, if◌then◌else◌, List, [], ◌∷◌, Option, Some, None, inl, inr, refl, sym, ap, ◌∙◌, subst}
use Rattle.std.proofs.lemmas.Bool.{cases_Bool, eqb-true}
use Rattle.ppm_strands.specs.Tree.{Words, Tree}
use Rattle.ppm_cells.specs.declared.restart.Restart.{Restart}
use Rattle.ppm_cells.specs.declared.restart.RestartKind.{RestartKind}
use Rattle.ppm_cells.specs.declared.restart.RestartKind.TheVariants.{Run, Bump, Push1, Push2, Unwind, Arrive, Join, Pop1, Pop2, Seek, Steal, Check, Take, Take2}
use Rattle.ppm_cells.specs.declared.shape.Shape.{Shape}
use Rattle.ppm_cells.specs.declared.shape.Takeover.TheVariants.{ByPlaces}
use Rattle.ppm_strands.specs.Strand.{Frame}
use Rattle.ppm_code.specs.Strands.{Point, Result}
use Rattle.ppm_code.specs.declared.code.CodeParts.{CodeParts}
use Rattle.ppm_code.specs.declared.location.FrameWord.{FrameWord}
use Rattle.ppm_step.specs.Standings.{Standing, IsLost, IsPlaced, IsAt, IsWithin, IsRunning, IsBroken, IsDone}
use Rattle.ppm_step.specs.State.{State as RunState, stand_of}
use Rattle.ppm_step.specs.declared.row.Point.TheVariants.{Offset}
use Rattle.ppm_step.specs.declared.row.Row.{Row}
use Rattle.ppm_step.specs.declared.row.Row.TheVariants.{Now}
use Rattle.ppm_step.specs.declared.row.Seat.{Seat}
use Rattle.ppm_step.specs.declared.row.Then.TheVariants.{Load, Begin}
use Rattle.ppm_step.specs.declared.turn.Act.{Act}
use Rattle.ppm_step.specs.declared.turn.Act.TheVariants.{Step, Soft, Hard, Quit}
use Rattle.ppm_tickets.specs.Homes.{Home, Popping, Stolen}
use Rattle.ppm_tickets.specs.Saw.{Sees, IsOfIf}
use Rattle.ppm_tickets.specs.View as spots
use Rattle.ppm_tickets.proofs.RenewalLemmas.{goes_on as tickets_go_on}
use Rattle.ppm_frames.specs.Skeletons.{Skeleton}
use Rattle.ppm_kept.specs.Branches.{is_taker}
use Rattle.ppm_kept.specs.Running.{IsFair}
use Rattle.ppm_kept.specs.Kept.{Setting, Doing, InRow}
use Rattle.ppm_kept.specs.Moves.{doing_of}
use Rattle.ppm_kept.specs.Places.{places_of, is_in, doing_in, IsOf}
use Rattle.ppm_kept.specs.Steps.{TakesSo, IsKindIf, StandsSo, LeavesSo, ActsSo}
use Rattle.ppm_kept.specs.Takes.{IsAlone}
use Rattle.ppm_kept.proofs.StepRows.{turns_keep}
use Rattle.ppm_kept.specs.Fates.{Offered}
use Rattle.ppm_kept.proofs.FateLemmas.{fates_show}
use Rattle.ppm_runs.specs.Run.{setting, fate_of, IsRun}
use Rattle.ppm_runs.specs.Laws.{IsTakers, RunsGoOn, TurnsGoOn}
use Rattle.ppm_runs.proofs.StandLemmas.{kinds_same}
use Rattle.ppm_runs.proofs.ShownLemmas.{halves, Within, within, runs, holds}
use Rattle.ppm_runs.proofs.OrderlyLemmas.{turns_are_orderly}
use Rattle.ppm_runs.proofs.TakerLemmas.{takers_have}
use Rattle.ppm_runs.proofs.CameLemmas.{came_from}

-- the place of a home that takes
abbrev taker_place : Home → ℕ
taker_place (Popping p) = p
taker_place (Stolen p) = p
taker_place _ = 0

taker_of : (p : ℕ) (k : RestartKind) (x : Home) → is_taker k ≡ true → IsTakers p k x → (fate_of x ≡ Offered) × (taker_place x ≡ p)
taker_of p (Pop2 r) x e a = (ap fate_of a, ap taker_place a)
taker_of p (Check v j) x e a = (ap fate_of a, ap taker_place a)
taker_of p (Run f y) x e a = absurd (cc)
taker_of p (Bump r) x e a = absurd (cc)
taker_of p (Push1 r) x e a = absurd (cc)
taker_of p (Push2 r) x e a = absurd (cc)
taker_of p (Unwind f) x e a = absurd (cc)
taker_of p (Arrive r d) x e a = absurd (cc)
taker_of p (Join r d) x e a = absurd (cc)
taker_of p Pop1 x e a = absurd (cc)
taker_of p Seek x e a = absurd (cc)
taker_of p (Steal v j) x e a = absurd (cc)
taker_of p (Take v j) x e a = absurd (cc)
taker_of p (Take2 v) x e a = absurd (cc)

-- who does what is done in a row at a place
pub record Doer (f : ℕ → Standing) (q : ℕ) (row : Row) : Type 0 where
  pub processor : ℕ
  pub seat : Seat
  pub stand : f processor ≡ IsWithin seat row
  pub place : seat.place ≡ q

abbrev row_told : Doing → Row → Row
row_told (InRow row) d = row
row_told _ d = d

pub doer : (f : ℕ → Standing) (q : ℕ) (row : Row) (n : ℕ) → doing_in f n q ≡ InRow row → Doer f q row
doer f q row zero e = absurd (cc)
doer f q row (suc n) e = by (doer f q row n) (f n) refl e
  where
    out : (doing_in f n q ≡ InRow row → Doer f q row) → (x : Standing) → f n ≡ x → is_in q x ≡ false → Doer f q row
    out rec x fx o = rec (sym (ap (λ (b : Bool). if b then doing_of (f n) else doing_in f n q) (ap (is_in q) fx ∙ o)) ∙ e)

    by : (doing_in f n q ≡ InRow row → Doer f q row) → (x : Standing) → f n ≡ x → (if is_in q (f n) then doing_of (f n) else doing_in f n q) ≡ InRow row → Doer f q row
    by rec (IsWithin seat r) fx e = elim (cases_Bool (seat.place == q)) [
      | inl here ↦
          let is : InRow r ≡ InRow row = ap doing_of (sym fx) ∙ sym (ap (λ (b : Bool). if b then doing_of (f n) else doing_in f n q) (ap (is_in q) fx ∙ here)) ∙ e in
          record { processor = n; seat = seat; stand = fx ∙ ap (λ (z : Doing). IsWithin seat (row_told z r)) is; place = eqb-true seat.place q here }
      | inr o ↦ out rec (IsWithin seat r) fx o
    ]
    by rec (IsRunning seat rest) fx e = elim (cases_Bool (seat.place == q)) [
      | inl here ↦ absurd (let is = ap doing_of (sym fx) ∙ sym (ap (λ (b : Bool). if b then doing_of (f n) else doing_in f n q) (ap (is_in q) fx ∙ here)) ∙ e in cc)
      | inr o ↦ out rec (IsRunning seat rest) fx o
    ]
    by rec IsLost fx e = out rec IsLost fx refl
    by rec (IsPlaced p) fx e = out rec (IsPlaced p) fx refl
    by rec (IsAt p r) fx e = out rec (IsAt p r) fx refl
    by rec (IsBroken p) fx e = out rec (IsBroken p) fx refl
    by rec IsDone fx e = out rec IsDone fx refl

module _ (s : Shape) (code : CodeParts) (places : s.takeover ≡ ByPlaces) (fair : IsFair code) (root : Tree (Frame FrameWord Point) Result) (input : Words) (state : RunState) (h : ℕ → Home) (forked taken : List ℕ) (t : Skeleton) (run : IsRun s code root input state h forked taken t) where
  abbrev i : Setting
  i = setting s code

  abbrev In : ℕ → Seat → Row → Type 0
  In c seat row = Within s code root input state h forked taken [] t (halves run) c seat row

  -- no other place is about to begin the branch
  alone_in : (c : ℕ) (seat : Seat) (r f b : ℕ) → stand_of state c ≡ IsWithin seat (Now (Begin r f b)) → is_taker seat.restart.kind ≡ true → IsAlone (places_of s state) seat.place r
  alone_in c seat r f b e taker q f' b' ne other does =
      let have = takers_have s code places state h forked taken run.lawful in
      let own = taker_of seat.place seat.restart.kind (h r) taker (have.begins c seat r f b e) in
      let d = doer (stand_of state) q (Now (Begin r f' b')) s.processors does in
      let w = within s code root input state h forked taken [] t (halves run) d.processor d.seat (Now (Begin r f' b')) d.stand in
      let kind : is_taker d.seat.restart.kind ≡ true = ap is_taker (sym w.kind) ∙ ap (λ (z : ℕ). is_taker ((places_of s state).kind z)) d.place ∙ other in
      let its = taker_of d.seat.place d.seat.restart.kind (h r) kind (have.begins d.processor d.seat r f' b' d.stand) in
      ne (sym d.place ∙ sym its.1 ∙ own.1)

  takes_so : (c : ℕ) (seat : Seat) (row : Row) → stand_of state c ≡ IsWithin seat row → is_taker seat.restart.kind ≡ true → TakesSo i state t seat.place row
  takes_so c seat (Now (Load (Offset r b))) e taker =
      (fates_show i fair root input (places_of s state) t run.kept (λ x. fate_of (h x)) run.agrees).waits r (taker_of seat.place seat.restart.kind (h r) taker ((takers_have s code places state h forked taken run.lawful).offsets c seat r b e)).0
  takes_so c seat (Now (Begin r f b)) e taker = alone_in c seat r f b e taker
  takes_so c seat _ e taker = tt

  stands_so : (c : ℕ) (x : Standing) → stand_of state c ≡ x → StandsSo i state t c x
  stands_so c IsLost e = tt
  stands_so c (IsPlaced p) e = tt
  stands_so c (IsAt p restart) e =
      let sees = subst (Sees s (spots.view s state.words) (spots.kinds s state.words) (spots.bottoms s state.words) c) e (run.lawful.1.sees c) in
      (holds s code root input state h forked taken [] t (halves run) c p sees.0 (subst (IsOf p) (sym e) tt), kind_if restart sees.1)
    where
      kind_if : (restart : Option Restart) → IsOfIf s (spots.view s state.words) (spots.kinds s state.words) (spots.bottoms s state.words) p restart → IsKindIf i state.words p restart
      kind_if None a = tt
      kind_if (Some r) a = kinds_same s state.words p ∙ a.kind
  stands_so c (IsWithin seat row) e =
      let w = within s code root input state h forked taken [] t (halves run) c seat row e in
      record {
        holds = w.holds;
        own = subst (λ (z : ℕ). z < s.processors) (sym w.sits.own) w.sits.carried.lives.there;
        kind = w.kind;
        there = w.here;
        came = came_from s seat row (spots.with_restarts (spots.view s state.words) (spots.kinds s state.words) (spots.bottoms s state.words)) w.here w.seen;
        takes = takes_so c seat row e;
      }
  stands_so c (IsRunning seat rest) e = let w = runs s code root input state h forked taken [] t (halves run) c seat rest e in record { holds = w.holds; kind = w.kind; there = w.here; counts = λ kind is k j so. refl }
  stands_so c (IsBroken p) e = run.broken c p e
  stands_so c IsDone e = tt

  leaves_so : (c : ℕ) (x : Standing) → stand_of state c ≡ x → LeavesSo s state c x
  leaves_so c (IsWithin seat row) e = (within s code root input state h forked taken [] t (halves run) c seat row e).holds
  leaves_so c (IsRunning seat rest) e = (runs s code root input state h forked taken [] t (halves run) c seat rest e).holds
  leaves_so c IsLost e = tt
  leaves_so c (IsPlaced p) e = tt
  leaves_so c (IsAt p restart) e = tt
  leaves_so c (IsBroken p) e = tt
  leaves_so c IsDone e = tt

  pub acts_so : (c : ℕ) (act : Act) → c < s.processors → ActsSo i state t c act (stand_of state c)
  acts_so c (Step victim) there = (record { words = run.lawful.0; there = there }, stands_so c (stand_of state c) refl)
  acts_so c Soft there = (record { words = run.lawful.0; there = there }, leaves_so c (stand_of state c) refl)
  acts_so c Hard there = (record { words = run.lawful.0; there = there }, leaves_so c (stand_of state c) refl)
  acts_so c (Quit why) there = (record { words = run.lawful.0; there = there }, leaves_so c (stand_of state c) refl)

  go_on : RunsGoOn s code root input state h forked taken t
  go_on = record {
    kept = λ turn among. turns_keep i fair places root input state t run.kept turn (acts_so turn.processor turn.act among.processor);
    lawful = λ turn among.
        let orderly = (turns_are_orderly s code places fair root input state h forked taken t run).orderly turn among in
        tickets_go_on s code state (turn ∷ []) h forked taken run.lawful (orderly, tt);
  }

pub turns_go_on : TurnsGoOn
turns_go_on s code places fair root input state h forked taken t run = go_on s code places fair root input state h forked taken t run
