-- Steps of one processor in a row: what is done to it and to the words is what so many turns make of the machine.
use Rattle.std.proofs.Common.{◌≡◌, ◌∙◌, ℕ, zero, suc, ◌+◌, if◌then◌else◌, List, [], ◌∷◌, length, map, set, slice_get, Some, refl, sym, ap, subst, arith}
use Rattle.std.proofs.lemmas.List.{length-append, length-replicate, map-set}
use Rattle.ppm_cells.specs.Memory.{read}
use Rattle.ppm_cells.specs.declared.cell.Cell.TheVariants.{FinishWord}
use Rattle.ppm_cells.specs.declared.shape.Shape.{Shape}
use Rattle.ppm_code.specs.declared.code.CodeParts.{CodeParts}
use Rattle.ppm_step.specs.declared.local.Local.{Local}
use Rattle.ppm_step.specs.declared.turn.Act.TheVariants.{Step}
use Rattle.ppm_step.specs.declared.turn.Turn.{Turn}
use Rattle.ppm_step.specs.Locals.{standing_of}
use Rattle.ppm_step.specs.State.{State, stand_in, stand_of, acts, happens, after, along, next_of, seeks_holder, forks_of, takes_of, work_of}
use Rattle.ppm_step.specs.Told.{is_work_turn}
use Rattle.ppm_core.specs.Acts.{is_done_at, forks_at, takes_at, words_acted, stand_acted}
use Rattle.ppm_core.specs.Machine.{Holding, seen}
use Rattle.ppm_core.specs.Situation.{Situation, turned, run_on}
use Rattle.ppm_core.specs.Steps.{steady_step, steady_steps, AreSteady, EndsInWork, GoesNoFurther, is_in_capsule, is_before_capsule}
use Rattle.ppm_core.specs.Moments.{Moment, moment, moved, moved_by, AllMove, work_at, work_in, forks_in, takes_in, LastWorks, NoFurther, Leads}
use Rattle.ppm_core.proofs.ListLemmas.{get_changed, set_same}
use Rattle.ppm_core.proofs.TurnLemmas.{acts_are, stands_at, work_is}

-- put twice at a place
set_again : {X : Type 0} (xs : List X) (n : ℕ) (x y : X) → set (set xs n x) n y ≡ set xs n y
set_again [] n x y = refl
set_again (z ∷ zs) zero x y = refl
set_again (z ∷ zs) (suc n) x y = ap (λ l. z ∷ l) (set_again zs n x y)

module _ (s : Shape) (code : CodeParts) (own : ℕ) where
  -- the moment is that of this processor
  pub record StandsAt (state : State) (t : Moment) : Type 0 where
    pub words : state.words ≡ t.words
    pub stand : slice_get state.stand own ≡ Some t.stand

  stand_is : (state : State) (t : Moment) → StandsAt state t → stand_of state own ≡ t.stand
  stand_is state t h = ap stand_in h.stand

  abbrev behind : State → Moment → State
  behind state t = record { words = t.words; stand = set state.stand own t.stand }

  happens_on : (state : State) (t : Moment) → StandsAt state t → happens s code state (steady_step own) ≡ behind state (moved s code own t)
  happens_on state t h =
      ap (λ found. acts s code state own (Step 0) (stand_in found)) h.stand
      ∙ acts_are s code state own (Step 0) t.stand h.stand
      ∙ ap (λ words. record { words = words_acted s code own (Step 0) words t.stand; stand = set state.stand own (stand_acted s code own (Step 0) words t.stand) }) h.words

  turned_at : (state : State) (t : Moment) → StandsAt state t → StandsAt (happens s code state (steady_step own)) (moved s code own t)
  turned_at state t h = record {
    words = ap (λ (k : State). k.words) (happens_on state t h);
    stand = ap (λ (k : State). slice_get k.stand own) (happens_on state t h)
        ∙ get_changed state.stand own (moved s code own t).stand t.stand h.stand;
  }

  after_is : (n : ℕ) (state : State) (t : Moment) → StandsAt state t
      → after s code state (steady_steps own n) ≡ behind state (moved_by s code own n t)
  after_is zero state t h = λ i. record { words = h.words i; stand = sym (set_same state.stand own t.stand h.stand) i }
  after_is (suc n) state t h =
      let next = moved s code own t in
      let last = moved_by s code own n next in
      after_is n (happens s code state (steady_step own)) next (turned_at state t h)
      ∙ ap (λ (k : State). record { words = last.words; stand = set k.stand own last.stand }) (happens_on state t h)
      ∙ ap (λ stand. record { words = last.words; stand = stand }) (set_again state.stand own next.stand last.stand)

  -- what so many steps tell, counted
  abbrev total : (Moment → ℕ) → ℕ → Moment → ℕ
  total count zero t = 0
  total count (suc n) t = count t + total count n (moved s code own t)

  told_in : (told : State → Turn → List ℕ) (count : Moment → ℕ)
      → ((state : State) (t : Moment) → StandsAt state t → length (told state (steady_step own)) ≡ count t)
      → (n : ℕ) (state : State) (t : Moment) → StandsAt state t → length (along s code told state (steady_steps own n)) ≡ total count n t
  told_in told count one zero state t h = refl
  told_in told count one (suc n) state t h =
      let next = happens s code state (steady_step own) in
      omega (
        arith,
        length-append (told state (steady_step own)) (along s code told next (steady_steps own n)),
        one state t h,
        told_in told count one n next (moved s code own t) (turned_at state t h),
      )

  work_told : (n : ℕ) (t : Moment) → total (work_at s code own) n t ≡ work_in s code own n t
  work_told zero t = refl
  work_told (suc n) t = ap (λ w. work_at s code own t + w) (work_told n (moved s code own t))

  forks_told : (n : ℕ) (t : Moment) → total (λ u. forks_at (Step 0) u.stand) n t ≡ forks_in s code own n t
  forks_told zero t = refl
  forks_told (suc n) t = ap (λ w. forks_at (Step 0) t.stand + w) (forks_told n (moved s code own t))

  takes_told : (n : ℕ) (t : Moment) → total (λ u. takes_at (Step 0) u.stand) n t ≡ takes_in s code own n t
  takes_told zero t = refl
  takes_told (suc n) t = ap (λ w. takes_at (Step 0) t.stand + w) (takes_told n (moved s code own t))

  forks_one : (state : State) (t : Moment) → StandsAt state t → length (forks_of state (steady_step own)) ≡ forks_at (Step 0) t.stand
  forks_one state t h = ap (λ standing. forks_at (Step 0) standing) (stand_is state t h)

  takes_one : (state : State) (t : Moment) → StandsAt state t → length (takes_of state (steady_step own)) ≡ takes_at (Step 0) t.stand
  takes_one state t h = ap (λ standing. takes_at (Step 0) standing) (stand_is state t h)

  work_one : (state : State) (t : Moment) → StandsAt state t → length (work_of state (steady_step own)) ≡ work_at s code own t
  work_one state t h =
      ap (λ standing. length (if is_work_turn s code (Step 0) standing then own ∷ [] else [])) (stand_is state t h)
      ∙ sym (work_is s code own (Step 0) t.stand)

  forks : (n : ℕ) (state : State) (t : Moment) → StandsAt state t
      → length (along s code forks_of state (steady_steps own n)) ≡ forks_in s code own n t
  forks n state t h = told_in forks_of (λ u. forks_at (Step 0) u.stand) forks_one n state t h ∙ forks_told n t

  takes : (n : ℕ) (state : State) (t : Moment) → StandsAt state t
      → length (along s code takes_of state (steady_steps own n)) ≡ takes_in s code own n t
  takes n state t h = told_in takes_of (λ u. takes_at (Step 0) u.stand) takes_one n state t h ∙ takes_told n t

  works : (n : ℕ) (state : State) (t : Moment) → StandsAt state t
      → length (along s code work_of state (steady_steps own n)) ≡ work_in s code own n t
  works n state t h = told_in work_of (work_at s code own) work_one n state t h ∙ work_told n t

-- each is plain
pub are_steady : (n : ℕ) (m : Situation) (own : ℕ) (t : Moment) → StandsAt m.shape m.code own m.state t → AllMove m.shape m.code own n t → AreSteady m own n
are_steady zero m own t h all = tt
are_steady (suc n) m own t h all = (
  record {
    finish = ap (λ words. read m.shape words FinishWord) h.words ∙ all.0.finish;
    lives = ap is_done_at (stand_is m.shape m.code own m.state t h) ∙ all.0.lives;
    seeks_none = ap seeks_holder (stand_is m.shape m.code own m.state t h) ∙ all.0.seeks_none;
  },
  are_steady n (turned m (steady_step own)) own (moved m.shape m.code own t) (turned_at m.shape m.code own m.state t h) all.1,
)

-- and the last is work
pub end_in_work : (n : ℕ) (m : Situation) (own : ℕ) (t : Moment) → StandsAt m.shape m.code own m.state t → LastWorks m.shape m.code own n t → EndsInWork m own n
end_in_work zero m own t h last = tt
end_in_work (suc zero) m own t h last = ap next_of (stand_is m.shape m.code own m.state t h) ∙ last
end_in_work (suc (suc n)) m own t h last =
    end_in_work (suc n) (turned m (steady_step own)) own (moved m.shape m.code own t) (turned_at m.shape m.code own m.state t h) last

-- the whole machine
abbrev pub with_steps : Holding → (own : ℕ) → Local → List ℕ → (forks takes work made : ℕ) → Holding
with_steps m own new words forks takes work made = record {
  shape = m.shape;
  code = m.code;
  array_lengths = m.array_lengths;
  words = words;
  locals = set m.locals own new;
  forks = m.forks + forks;
  takes = m.takes + takes;
  work = m.work + work;
  turns = m.turns + made;
}

pub record HasMade (m : Holding) (own : ℕ) (old new : Local) (words : List ℕ) (made work forks takes : ℕ) : Type 0 where
  pub at : slice_get m.locals own ≡ Some old
  pub leads : Leads m.shape m.code own made work forks takes (moment m.words (standing_of m.shape m.code old)) (moment words (standing_of m.shape m.code new))

stands : (m : Holding) (own : ℕ) (old new : Local) (words : List ℕ) (made work forks_made takes_made : ℕ) → HasMade m own old new words made work forks_made takes_made
    → StandsAt m.shape m.code own (seen m).state (moment m.words (standing_of m.shape m.code old))
stands m own old new words made work forks_made takes_made h = record { words = refl; stand = stands_at m own old h.at }

pub run_is : (m : Holding) (own : ℕ) (old new : Local) (words : List ℕ) (made work forks_made takes_made : ℕ) → HasMade m own old new words made work forks_made takes_made
    → seen (with_steps m own new words forks_made takes_made work made) ≡ run_on (seen m) (steady_steps own made)
run_is m own old new words made work forks_made takes_made h =
    let s = m.shape in
    let code = m.code in
    let t : Moment = moment m.words (standing_of s code old) in
    let at = stands m own old new words made work forks_made takes_made h in
    let state : record { words = words; stand = map (standing_of s code) (set m.locals own new) } ≡ after s code (seen m).state (steady_steps own made) =
    ap (λ stand. record { words = words; stand = stand }) (map-set (standing_of s code) m.locals own new)
    ∙ ap (λ (u : Moment). record { words = u.words; stand = set (seen m).state.stand own u.stand }) h.leads.goes.comes_to
    ∙ sym (after_is s code own made (seen m).state t at) in
    let forks_path : m.forks + forks_made ≡ m.forks + length (along s code forks_of (seen m).state (steady_steps own made)) =
    omega (arith, forks s code own made (seen m).state t at, h.leads.goes.forked) in
    let takes_path : m.takes + takes_made ≡ m.takes + length (along s code takes_of (seen m).state (steady_steps own made)) =
    omega (arith, takes s code own made (seen m).state t at, h.leads.goes.taken) in
    let works_path : m.work + work ≡ m.work + length (along s code work_of (seen m).state (steady_steps own made)) =
    omega (arith, works s code own made (seen m).state t at, h.leads.goes.works) in
    let turns : m.turns + made ≡ m.turns + length (steady_steps own made) = omega (arith, length-replicate made (steady_step own)) in
    λ i. record {
      shape = m.shape;
      code = m.code;
      array_lengths = m.array_lengths;
      state = state i;
      forks = forks_path i;
      takes = takes_path i;
      work = works_path i;
      turns = turns i;
    }

pub steady_is : (m : Holding) (own : ℕ) (old new : Local) (words : List ℕ) (made work forks_made takes_made : ℕ) → HasMade m own old new words made work forks_made takes_made
    → AreSteady (seen m) own made
steady_is m own old new words made work forks_made takes_made h =
    are_steady made (seen m) own (moment m.words (standing_of m.shape m.code old)) (stands m own old new words made work forks_made takes_made h) h.leads.goes.moves

pub work_is_last : (m : Holding) (own : ℕ) (old new : Local) (words : List ℕ) (made work forks_made takes_made : ℕ) → HasMade m own old new words made work forks_made takes_made
    → EndsInWork (seen m) own made
work_is_last m own old new words made work forks_made takes_made h =
    end_in_work made (seen m) own (moment m.words (standing_of m.shape m.code old)) (stands m own old new words made work forks_made takes_made h) h.leads.ends

pub has_made : (m : Holding) (own : ℕ) (old new : Local) (words : List ℕ) (made work forks_made takes_made : ℕ) → slice_get m.locals own ≡ Some old → old.own ≡ own
    → Leads m.shape m.code old.own made work forks_made takes_made (moment m.words (standing_of m.shape m.code old)) (moment words (standing_of m.shape m.code new))
    → HasMade m own old new words made work forks_made takes_made
has_made m own old new words made work forks_made takes_made at same leads = record {
  at = at;
  leads = subst
      (λ (n : ℕ). Leads m.shape m.code n made work forks_made takes_made (moment m.words (standing_of m.shape m.code old)) (moment words (standing_of m.shape m.code new))) same leads;
}

-- and more would lead no further, as of the moment so of the machine
pub goes_no_further_is : (m : Holding) (own : ℕ) (old new : Local) (words : List ℕ) (made work forks_made takes_made left : ℕ) → HasMade m own old new words made work forks_made takes_made
    → NoFurther m.shape m.code own left (moment words (standing_of m.shape m.code new))
    → GoesNoFurther (seen (with_steps m own new words forks_made takes_made work made)) own left
goes_no_further_is m own old new words made work forks_made takes_made left h stops =
    let s = m.shape in
    let code = m.code in
    let behind = with_steps m own new words forks_made takes_made work made in
    let t : Moment = moment words (standing_of s code new) in
    let at : StandsAt s code own (seen behind).state t =
    record { words = refl; stand = stands_at behind own new (get_changed m.locals own new old h.at) } in
    let next = turned_at s code own (seen behind).state t at in
    let after = turned_at s code own (happens s code (seen behind).state (steady_step own)) (moved s code own t) next in
    record {
      inside = λ some finish. ap is_in_capsule (stand_is s code own (seen behind).state t at) ∙ stops.inside some finish;
      before = λ some finish of_frame.
          ap is_in_capsule (stand_is s code own _ _ after)
          ∙ stops.before some finish (sym (ap is_before_capsule (stand_is s code own (seen behind).state t at)) ∙ of_frame);
    }
