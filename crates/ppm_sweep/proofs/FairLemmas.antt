-- The schedules of a sweep may be obeyed as the base schedule may.
use Rattle.std.proofs.Common.{◌≡◌, ◌∙◌, refl, sym, ap, subst, arith, ℕ, zero, suc, ◌+◌, ◌-◌, ◌<◌, ◌≤◌, ◌==◌, ◌&&◌, ◌||◌, nat_lt, Bool, true, false, if◌then◌else◌, List, [], ◌∷◌, ◌++◌, length, flat_map, None, leb-true, ltb-true}
use Rattle.std.specs.List.{AllByRecursion}
use Rattle.std.proofs.lemmas.Bool.{both_ways}
use Rattle.std.proofs.lemmas.List.Elements.{All-from_recursion, recursion_from_All}
use Rattle.ppm_choice.proofs.DueLemmas.{all_due}
use Rattle.ppm_cells.specs.declared.shape.Shape.{Shape}
use Rattle.ppm_code.specs.declared.code.CodeParts.{CodeParts}
use Rattle.ppm_plan.specs.declared.fault.Fault.TheVariants.{Soft, Hard}
use Rattle.ppm_plan.specs.declared.schedule_item.ScheduledAct.{ScheduledAct}
use Rattle.ppm_plan.specs.declared.schedule_item.ScheduledAct.TheVariants.{Step, Fails}
use Rattle.ppm_plan.specs.declared.schedule_item.ScheduleItem.{ScheduleItem}
use Rattle.ppm_plan.specs.Forms.{act_kills, schedule_form}
use Rattle.ppm_plan.specs.Items.{most_times}
use Rattle.ppm_plan.specs.Refusals.{item_limit, is_killed, IsKeeper}
use Rattle.ppm_plan.specs.Schedules.{IsActAmong, IsItemAmong, MayBeDone}
use Rattle.ppm_choice.specs.Course.{Due, Listed, InRound, act_of, processor_of, is_made}
use Rattle.ppm_choice.specs.Schedules.{listed, rounds, dues_of}
use Rattle.ppm_sweep.specs.declared.options.Window.{Window}
use Rattle.ppm_sweep.specs.Fair.{IsFair, SweepsAreFair}
use Rattle.ppm_sweep.specs.Sweep.{Place, Swept, same_step, with_act, after_act, alone, along, before_due, passed, number_after, strikes, struck, further, all_acts, is_in, first_place}
use Rattle.ppm_sweep.proofs.FrontLemmas.{steps_are}
use Rattle.ppm_sweep.proofs.LeftLemmas.{some_times, listed_by, rest_by, done_less}

-- whether some item kills a processor
abbrev kills : ℕ → List ScheduleItem → Bool
kills c items = is_killed schedule_form c items

or_assoc : (a b c : Bool) → (a || (b || c)) ≡ ((a || b) || c)
or_assoc true b c = refl
or_assoc false b c = refl

or_false : (a : Bool) → (a || false) ≡ a
or_false true = refl
or_false false = refl

or_twice : (a b : Bool) → (a || (a || b)) ≡ (a || b)
or_twice true b = refl
or_twice false b = refl

or_same : (a : Bool) → (a || false) ≡ ((a || false) || a)
or_same true = refl
or_same false = refl

kills_both : (c : ℕ) (first more : List ScheduleItem) → kills c (first ++ more) ≡ (kills c first || kills c more)
kills_both c [] more = refl
kills_both c (i ∷ first) more =
    ap (λ b. act_kills c i.act || b) (kills_both c first more) ∙ or_assoc (act_kills c i.act) (kills c first) (kills c more)

kills_joined : (c : ℕ) (i : ScheduleItem) (act : ScheduledAct) (same few : Bool) → same_step i.act act ≡ same
    → kills c (if same && few then record { act = i.act; times = i.times + 1 } ∷ [] else i ∷ record { act = act; times = 1 } ∷ [])
    ≡ (kills c (i ∷ []) || act_kills c act)
kills_joined c i act true true e = or_same (act_kills c i.act) ∙ ap (λ a. (act_kills c i.act || false) || act_kills c a) (steps_are i.act act e)
kills_joined c i act true false e = ap (λ b. act_kills c i.act || b) (or_false (act_kills c act)) ∙ ap (λ b. b || act_kills c act) (sym (or_false (act_kills c i.act)))
kills_joined c i act false few e = ap (λ b. act_kills c i.act || b) (or_false (act_kills c act)) ∙ ap (λ b. b || act_kills c act) (sym (or_false (act_kills c i.act)))

-- an act more kills its own
kills_with : (c : ℕ) (items : List ScheduleItem) (act : ScheduledAct) → kills c (with_act items act) ≡ (kills c items || act_kills c act)
kills_with c [] act = or_false (act_kills c act)
kills_with c (i ∷ []) act = kills_joined c i act (same_step i.act act) (nat_lt i.times most_times) refl
kills_with c (i ∷ j ∷ items) act =
    ap (λ b. act_kills c i.act || b) (kills_with c (j ∷ items) act) ∙ or_assoc (act_kills c i.act) (kills c (j ∷ items)) (act_kills c act)

kills_after : (c : ℕ) (i : ScheduleItem) (tail : List ScheduleItem) (b : Bool)
    → (act_kills c i.act || kills c (if b then record { act = i.act; times = i.times - 1 } ∷ tail else tail)) ≡ kills c (i ∷ tail)
kills_after c i tail true = or_twice (act_kills c i.act) (kills c tail)
kills_after c i tail false = refl

-- an act that moves from the list to what is written kills as before
kills_moved : (c : ℕ) (front tail : List ScheduleItem) (i : ScheduleItem)
    → kills c (with_act front i.act ++ after_act (i ∷ tail)) ≡ kills c (front ++ (i ∷ tail))
kills_moved c front tail i =
    kills_both c (with_act front i.act) (after_act (i ∷ tail))
    ∙ ap (λ b. b || kills c (after_act (i ∷ tail))) (kills_with c front i.act)
    ∙ sym (or_assoc (kills c front) (act_kills c i.act) (kills c (after_act (i ∷ tail))))
    ∙ ap (λ b. kills c front || b) (kills_after c i tail (nat_lt 1 i.times))
    ∙ sym (kills_both c front (i ∷ tail))

-- one that is put between them kills its own too
kills_put : (c : ℕ) (front rest : List ScheduleItem) (act : ScheduledAct)
    → kills c (with_act front act ++ rest) ≡ (act_kills c act || kills c (front ++ rest))
kills_put c front rest act =
    kills_both c (with_act front act) rest ∙ ap (λ b. b || kills c rest) (kills_with c front act)
    ∙ swap (kills c front) (act_kills c act) (kills c rest) ∙ ap (λ b. act_kills c act || b) (sym (kills_both c front rest))
  where
    swap : (a b d : Bool) → ((a || b) || d) ≡ (b || (a || d))
    swap true true d = refl
    swap true false d = refl
    swap false true d = refl
    swap false false d = refl

-- the keeper stays, where as many are killed
kept_same : (a b : List ScheduleItem) (keeper : ℕ) → ((c : ℕ) → kills c b ≡ kills c a) → IsKeeper schedule_form a keeper → IsKeeper schedule_form b keeper
kept_same a b keeper e k = record { spared = e keeper ∙ k.spared; least = λ c h. e c ∙ k.least c h }

-- the keeper stays, where an act is put that spares it
kept_more : (front rest : List ScheduleItem) (act : ScheduledAct) (keeper : ℕ) → act_kills keeper act ≡ false
    → IsKeeper schedule_form (front ++ rest) keeper → IsKeeper schedule_form (with_act front act ++ rest) keeper
kept_more front rest act keeper e k = record {
  spared = kills_put keeper front rest act ∙ ap (λ b. b || kills keeper (front ++ rest)) e ∙ k.spared;
  least = λ c h. kills_put c front rest act ∙ ap (λ b. act_kills c act || b) (k.least c h) ∙ or_true (act_kills c act);
}
  where
    or_true : (a : Bool) → (a || true) ≡ true
    or_true true = refl
    or_true false = refl

-- which processors items name, by recursion
module _ (p : ℕ) where
  abbrev Amongs : List ScheduleItem → Type 0
  Amongs items = AllByRecursion (IsItemAmong p) items

  both_among : (first more : List ScheduleItem) → Amongs first → Amongs more → Amongs (first ++ more)
  both_among [] more a b = b
  both_among (i ∷ first) more a b = (a.0, both_among first more a.1 b)

  front_among : (first more : List ScheduleItem) → Amongs (first ++ more) → Amongs first
  front_among [] more a = tt
  front_among (i ∷ first) more a = (a.0, front_among first more a.1)

  rest_among : (first more : List ScheduleItem) → Amongs (first ++ more) → Amongs more
  rest_among [] more a = a
  rest_among (i ∷ first) more a = rest_among first more a.1

  once_done : (act : ScheduledAct) → MayBeDone act 1
  once_done (Step c v) = (omega arith, omega arith)
  once_done (Fails c f) = refl

  once_among : (act : ScheduledAct) → IsActAmong p act → IsItemAmong p (record { act = act; times = 1 })
  once_among act h = record { act = h; times = once_done act }

  more_done : (act other : ScheduledAct) (n : ℕ) → same_step act other ≡ true → nat_lt n most_times ≡ true → MayBeDone act n → MayBeDone act (n + 1)
  more_done (Step c v) other n e f h = (omega (arith, h.0), omega (arith, ltb-true n most_times f))
  more_done (Fails c k) other n e f h = absurd (both_ways false refl e)

  joined_among : (i : ScheduleItem) (act : ScheduledAct) (same few : Bool) → same_step i.act act ≡ same → nat_lt i.times most_times ≡ few
      → IsItemAmong p i → IsActAmong p act
      → Amongs (if same && few then record { act = i.act; times = i.times + 1 } ∷ [] else i ∷ record { act = act; times = 1 } ∷ [])
  joined_among i act true true e f a h = (record { act = a.act; times = more_done i.act act i.times e f a.times }, tt)
  joined_among i act true false e f a h = (a, (once_among act h, tt))
  joined_among i act false few e f a h = (a, (once_among act h, tt))

  with_among : (items : List ScheduleItem) (act : ScheduledAct) → Amongs items → IsActAmong p act → Amongs (with_act items act)
  with_among [] act a h = (once_among act h, tt)
  with_among (i ∷ []) act a h = joined_among i act (same_step i.act act) (nat_lt i.times most_times) refl refl a.0 h
  with_among (i ∷ j ∷ items) act a h = (a.0, with_among (j ∷ items) act a.1 h)

  after_among : (i : ScheduleItem) (tail : List ScheduleItem) (b : Bool) → nat_lt 1 i.times ≡ b → Amongs (i ∷ tail)
      → Amongs (if b then record { act = i.act; times = i.times - 1 } ∷ tail else tail)
  after_among i tail true e a = (record { act = a.0.act; times = done_less i.act i.times a.0.times e }, a.1)
  after_among i tail false e a = a.1

-- a step of a round names one of so many processors
abbrev Below : (p : ℕ) → Due → Type 0
Below p (Listed act) = ⊥
Below p (InRound c) = c < p

-- what is due first of a list that begins with an item, and what is left
listed_after : (i : ScheduleItem) (tail : List ScheduleItem) → 1 ≤ i.times → listed (i ∷ tail) ≡ Listed i.act ∷ listed (after_act (i ∷ tail))
listed_after i tail some =
    listed_by i tail some (nat_lt 1 i.times) refl ∙ ap (λ l. Listed i.act ∷ listed l) (rest_by i tail (nat_lt 1 i.times))

module _ (s : Shape) (code : CodeParts) (keeper : ℕ) where
  -- items that may be obeyed
  abbrev Both : List ScheduleItem → Type 0
  Both items = Amongs s.processors items × IsKeeper schedule_form items keeper

  abbrev At : Place → Type 0
  At p = Both (p.front ++ p.rest)

  -- what is due from a place on
  record Dues (p : Place) (dues : List Due) : Type 0 where
    steps : List Due
    dues_are : dues ≡ listed p.rest ++ steps
    below : AllByRecursion (Below s.processors) steps

  record Next (p : Place) (due : Due) (dues : List Due) : Type 0 where
    left : Dues (passed s code p due) dues
    at : At (passed s code p due)
    there : processor_of (act_of due) < s.processors

  step_fits : (c : ℕ) → c < s.processors → IsActAmong s.processors (Step c None)
  step_fits c h = (h, tt)

  put_both : (front rest : List ScheduleItem) (act : ScheduledAct) → IsActAmong s.processors act → act_kills keeper act ≡ false
      → Both (front ++ rest) → Both (with_act front act ++ rest)
  put_both front rest act h e b = (
    both_among s.processors (with_act front act) rest (with_among s.processors front act (front_among s.processors front rest b.0) h)
        (rest_among s.processors front rest b.0),
    kept_more front rest act keeper e b.1,
  )

  round_at : (p : Place) (c : ℕ) → c < s.processors → At p → (b : Bool)
      → Both ((if b then with_act p.front (Step c None) else p.front) ++ p.rest)
  round_at p c h at true = put_both p.front p.rest (Step c None) (step_fits c h) refl at
  round_at p c h at false = at

  next_round : (p : Place) (due : Due) (dues steps : List Due) → p.rest ≡ [] → due ∷ dues ≡ steps → AllByRecursion (Below s.processors) steps → At p
      → Next p due dues
  next_round p due dues [] none e below at = cc
  next_round p due dues (Listed act ∷ steps) none e below at = absurd below.0
  next_round p due dues (InRound c ∷ steps) none e below at =
      let same : due ≡ InRound c = cc in
      let rest : dues ≡ steps = cc in
      subst (λ d. Next p d dues) (sym same) (record {
        left = record { steps = steps; dues_are = rest ∙ ap (λ l. listed l ++ steps) (sym none); below = below.1 };
        at = round_at p c below.0 at (is_made s code p.course (InRound c));
        there = below.0;
      })

  next_listed : (p : Place) (due : Due) (dues steps : List Due) (i : ScheduleItem) (tail : List ScheduleItem) → p.rest ≡ i ∷ tail
      → due ∷ dues ≡ listed (i ∷ tail) ++ steps → AllByRecursion (Below s.processors) steps → At p → Next p due dues
  next_listed p due dues steps i tail is e below at =
      let at_i : Both (p.front ++ (i ∷ tail)) = subst (λ r. Both (p.front ++ r)) is at in
      let amongs = rest_among s.processors p.front (i ∷ tail) at_i.0 in
      let whole : due ∷ dues ≡ Listed i.act ∷ (listed (after_act (i ∷ tail)) ++ steps)
      = e ∙ ap (λ l. l ++ steps) (listed_after i tail (some_times s.processors i amongs.0)) in
      let same : due ≡ Listed i.act = cc in
      let rest : dues ≡ listed (after_act (i ∷ tail)) ++ steps = cc in
      subst (λ d. Next p d dues) (sym same) (record {
        left = record { steps = steps; dues_are = rest ∙ ap (λ l. listed (after_act l) ++ steps) (sym is); below = below };
        at = subst (λ l. Both (with_act p.front i.act ++ after_act l)) (sym is) (
          both_among s.processors (with_act p.front i.act) (after_act (i ∷ tail))
              (with_among s.processors p.front i.act (front_among s.processors p.front (i ∷ tail) at_i.0) amongs.0.act)
              (after_among s.processors i tail (nat_lt 1 i.times) refl amongs),
          kept_same (p.front ++ (i ∷ tail)) (with_act p.front i.act ++ after_act (i ∷ tail)) keeper (λ c. kills_moved c p.front tail i) at_i.1,
        );
        there = there_of i.act amongs.0.act;
      })
    where
      there_of : (act : ScheduledAct) → IsActAmong s.processors act → processor_of act < s.processors
      there_of (Step c v) h = h.0
      there_of (Fails c f) h = h

  next_of : (p : Place) (due : Due) (dues : List Due) → Dues p (due ∷ dues) → At p → Next p due dues
  next_of p due dues d at = go p.rest refl
    where
      go : (rest : List ScheduleItem) → p.rest ≡ rest → Next p due dues
      go [] is = next_round p due dues d.steps is (d.dues_are ∙ ap (λ l. listed l ++ d.steps) is) d.below at
      go (i ∷ tail) is = next_listed p due dues d.steps i tail is (d.dues_are ∙ ap (λ l. listed l ++ d.steps) is) d.below at

  -- all are fair
  abbrev AllFair : List Swept → Type 0
  AllFair swept = AllByRecursion (IsFair s.processors keeper) swept

  all_fair : (a b : List Swept) → AllFair a → AllFair b → AllFair (a ++ b)
  all_fair [] b f g = g
  all_fair (v ∷ a) b f g = (f.0, all_fair a b f.1 g)

  module _ (sweep : Place → List Swept) (each : (p : Place) → At p → AllFair (sweep p)) (window : Window) where
    strikes_fair : (p : Place) (c : ℕ) → c < s.processors → At p → (b : Bool) → (c == keeper) ≡ b
        → AllFair (sweep (struck s code p c Soft) ++ (if b then [] else sweep (struck s code p c Hard)))
    strikes_fair p c h at true e =
        all_fair (sweep (struck s code p c Soft)) [] (each (struck s code p c Soft) (put_both p.front p.rest (Fails c Soft) h refl at)) tt
    strikes_fair p c h at false e =
        all_fair (sweep (struck s code p c Soft)) (sweep (struck s code p c Hard))
        (each (struck s code p c Soft) (put_both p.front p.rest (Fails c Soft) h refl at))
        (each (struck s code p c Hard) (put_both p.front p.rest (Fails c Hard) h e at))

    before_fair : (number : ℕ) (p : Place) (due : Due) → processor_of (act_of due) < s.processors → At p
        → AllFair (before_due s code keeper sweep window number p due)
    before_fair number p due h at = go (is_made s code p.course due && is_in window number)
      where
        go : (b : Bool) → AllFair (if b then strikes s code keeper sweep p (processor_of (act_of due)) else [])
        go true = strikes_fair p (processor_of (act_of due)) h at (processor_of (act_of due) == keeper) refl
        go false = tt

    along_fair : (number : ℕ) (p : Place) (dues : List Due) → Dues p dues → At p → AllFair (along s code keeper sweep window number p dues)
    along_fair number p [] d at = tt
    along_fair number p (due ∷ dues) d at =
        let n = next_of p due dues d at in
        all_fair (before_due s code keeper sweep window number p due)
        (along s code keeper sweep window (number_after s code number p due) (passed s code p due) dues)
        (before_fair number p due n.there at)
        (along_fair (number_after s code number p due) (passed s code p due) dues n.left n.at)

  alone_fair : (faults : ℕ) (p : Place) → At p → IsFair s.processors keeper (alone faults p)
  alone_fair faults p at = record {
    fair = record { among = All-from_recursion (IsItemAmong s.processors) (p.front ++ p.rest) at.0; kept = at.1 };
    few = leb-true (length (p.front ++ p.rest)) item_limit;
  }

  module _ (turns : ℕ) where
    rounds_below : (count : ℕ) → AllByRecursion (Below s.processors) (rounds s.processors count)
    rounds_below count = all_due (Below s.processors) s.processors [] count tt (λ c h. h)

    further_fair : (more : ℕ) (window : Window) (faults : ℕ) (p : Place) → At p → AllFair (further s code keeper turns more window faults p)
    further_fair zero window faults p at = tt
    further_fair (suc more) window faults p at =
        along_fair (λ q. alone (faults + 1) q ∷ further s code keeper turns more (all_acts turns) (faults + 1) q)
        (λ q h. (alone_fair (faults + 1) q h, further_fair more (all_acts turns) (faults + 1) q h)) window 0 p (dues_of s.processors p.rest turns)
        (record { steps = rounds s.processors turns; dues_are = refl; below = rounds_below turns }) at

    windows_fair : (most : ℕ) (windows : List Window) (p : Place) → At p
        → AllFair (flat_map (λ window. further s code keeper turns most window 0 p) windows)
    windows_fair most [] p at = tt
    windows_fair most (window ∷ windows) p at =
        all_fair (further s code keeper turns most window 0 p) (flat_map (λ w. further s code keeper turns most w 0 p) windows)
        (further_fair most window 0 p at) (windows_fair most windows p at)

-- each schedule of a sweep is fair
pub sweeps_are_fair : SweepsAreFair
sweeps_are_fair s code keeper turns state items most windows fair =
    let p = first_place s code keeper turns state items in
    let at : At s code keeper p = (recursion_from_All (IsItemAmong s.processors) items fair.among, fair.kept) in
    (alone_fair s code keeper 0 p at, windows_fair s code keeper turns most windows p at)
