-- Each code has a verdict with each input: where a capsule meets something, its first touch that does is a race.
use Rattle.std.proofs.Common.{◌≡◌, ◌≤◌, ◌<◌, inl, inr, ℕ, zero, suc, ◌+◌, ◌-◌, max, List, [], ◌∷◌, refl, ap, ◌∙◌, subst, arith, length, nat_lt}
use Rattle.std.proofs.Common.{Bool, true, false, Some, None, replicate, slice_set}
use Rattle.std.specs.Prelude.{◌⊎◌, ◌&&◌, ◌==◌, ℤ, ◌+ℤ◌, ◌-ℤ◌, ◌*ℤ◌, cond, int_div, int_rem}
use Rattle.std.specs.List.{AllByRecursion}
use Rattle.std.proofs.lemmas.Bool.{both_ways, or_cases, and_parts, cases_Bool, ltb-true}
use Rattle.ppm_words.specs.declared.named_array.NamedArray.{NamedArray}
use Rattle.ppm_words.specs.TwosComplement.{value_of, word_of}
use Rattle.ppm_words.specs.declared.trap.Trap.{Trap}
use Rattle.ppm_words.specs.declared.trap.Trap.TheVariants.{Overflow, DivZero, Split}
use Rattle.ppm_strands.specs.Capsule.{Memory, store}
use Rattle.ppm_strands.specs.Strand.{start}
use Rattle.ppm_code.specs.declared.act.Act.{Act}
use Rattle.ppm_code.specs.declared.act.Act.TheVariants.{Sets, Passes as PassesBy, Jumps, Steps, Ends as Stops}
use Rattle.ppm_code.specs.declared.act.Step.{Step}
use Rattle.ppm_code.specs.declared.act.Step.TheVariants.{Loads, Stores, Asks}
use Rattle.ppm_code.specs.declared.code.CodeParts.{CodeParts}
use Rattle.ppm_code.specs.declared.instr.Instr.{Instr}
use Rattle.ppm_code.specs.declared.instr.Instr.TheVariants.{Const, Move, Add, Sub, Mul, Div, Rem, Equal, NotEqual, Less, AtMost, Len, CutLeft, CutRight}
use Rattle.ppm_code.specs.declared.instr.Instr.TheVariants.{LoadSlot, StoreCur, Give, Get, Put, BranchZero, BranchNonZero, Room, StoreNew, Ends}
use Rattle.ppm_code.specs.declared.location.Location.{Location}
use Rattle.ppm_code.specs.declared.location.Location.TheVariants.{Frame, New, Array}
use Rattle.ppm_code.specs.declared.register.Register.{Register}
use Rattle.ppm_code.specs.Acts.{does, held, traps, element_of, at_element, divided, fits, is_zero, start_of, length_of}
use Rattle.ppm_code.specs.Inputs.{words_in}
use Rattle.ppm_code.specs.Locations.{Where, code_locations, location_of}
use Rattle.ppm_code.specs.Strands.{Result, Gave, Trapped, instrs_of, resume, table_of}
use Rattle.ppm_depth.specs.Stack.{Own, Strands}
use Rattle.ppm_depth.specs.Start.{words_of, root_strand}
use Rattle.ppm_depth.specs.Turns.{strands_over}
use Rattle.ppm_depth.proofs.ThereLemmas.{has_run}
use Rattle.ppm_strands.specs.Tree.{Words, Code, Strand, Has}
use Rattle.ppm_strands.specs.Calm.{touches}
use Rattle.ppm_strands.proofs.CalmLemmas.{has_or_not}
use Rattle.ppm_strands.proofs.PartsLemmas.{has_cases}
use Rattle.ppm_stamps.specs.Stamps.{Stamps, Meets}
use Rattle.ppm_stamps.specs.Moments.{beside_of, Moment}
use Rattle.ppm_stamps.specs.Within.{IsEndedWithin, IsMetWithin, IsLeaf}
use Rattle.ppm_stamps.proofs.CountLemmas.{no_more}
use Rattle.ppm_stamps.proofs.OpenLemmas.{lefts_are_one}
use Rattle.ppm_stamps.proofs.WithinLemmas.{are_told_within}
use Rattle.ppm_races.specs.Beside.{IsFirst}
use Rattle.ppm_races.specs.Judged.{IsMeetingWith, IsVisitTo, MomentWith}
use Rattle.ppm_races.specs.Touches.{AreThere, words_in as words_of_log, written_in, touches_at, after_act, touches_from}
use Rattle.ppm_races.specs.Verdicts.{HasVerdict, log_of, meets_at, met_at}
use Rattle.ppm_races.specs.declared.judging.Verdict.TheVariants.{Calm, Races, NotWithin}
use Rattle.ppm_races.specs.declared.race.Visit.{Visit}
use Rattle.ppm_races.specs.declared.touch.Touch.{Touch}
use Rattle.ppm_races.specs.declared.walk.Meeting.{Meeting}
use Rattle.ppm_races.proofs.AccessLemmas.{is_log}
use Rattle.ppm_races.proofs.LogLemmas.{there_more}
use Rattle.ppm_races.proofs.NamingLemmas.{named, opener_moment, race_is}
use Rattle.ppm_races.proofs.StampLemmas.{or_none, word_there, written_one}
use Rattle.ppm_races.proofs.VerdictLemmas.{ended_calm, ended_ends, meeting_not_calm, more_come, writes_log}
use Rattle.ppm_strands.proofs.StrandLemmas.{code_is_local}

-- an array word of a location is one of so many
abbrev IsAmong : ℕ → Location → Type 0
IsAmong n (Frame own) = Unit {0}
IsAmong n (New offset) = Unit {0}
IsAmong n (Array word) = word < n

-- the location of a step is one of so many
abbrev StepsAmong : ℕ → Step → Type 0
StepsAmong n (Loads l d) = IsAmong n l
StepsAmong n (Stores l v) = IsAmong n l
StepsAmong n (Asks k) = Unit {0}

-- and of an act
abbrev ActsAmong : ℕ → Act → Type 0
ActsAmong n (Sets d v) = Unit {0}
ActsAmong n PassesBy = Unit {0}
ActsAmong n (Jumps t) = Unit {0}
ActsAmong n (Steps s) = StepsAmong n s
ActsAmong n (Stops e) = Unit {0}

-- what sets a register or traps
sets_among : (n : ℕ) (t : Bool) (line : ℕ) (trap : Trap) (d : Register) (v : ℕ) → ActsAmong n (cond t (Sets d v) (traps trap line))
sets_among n true line trap d v = tt
sets_among n false line trap d v = tt

divides_among : (n line : ℕ) (d : Register) (x y z : ℤ) → ActsAmong n (divided line d x y z)
divides_among n line d x y z = by (is_zero y)
  where
    by : (t : Bool) → ActsAmong n (cond t (traps DivZero line) (cond (fits (int_div x y)) (Sets d (word_of z)) (traps Overflow line)))
    by true = tt
    by false = sets_among n (fits (int_div x y)) line Overflow d (word_of z)

-- an element is one of the words
element_among : (n line region index : ℕ) (step : ℕ → Step) → ((x : ℕ) → x < n → StepsAmong n (step x))
    → ActsAmong n (at_element line (element_of n region index) step)
element_among n line region index step each = by (nat_lt index (length_of region) && nat_lt (start_of region + index) n) refl
  where
    by : (b : Bool) → (nat_lt index (length_of region) && nat_lt (start_of region + index) n) ≡ b
        → ActsAmong n (at_element line (cond b (Some (start_of region + index)) None) step)
    by true e = each (start_of region + index) (ltb-true (start_of region + index) n (and_parts (nat_lt index (length_of region)) _ e).1)
    by false e = tt

branch_among : (n : ℕ) (b : Bool) (t : ℕ) → ActsAmong n (cond b (Jumps t) PassesBy)
branch_among n true t = tt
branch_among n false t = tt

branch_not_among : (n : ℕ) (b : Bool) (t : ℕ) → ActsAmong n (cond b PassesBy (Jumps t))
branch_not_among n true t = tt
branch_not_among n false t = tt

-- each instruction touches words of the arrays alone
does_among : (n : ℕ) (i : Instr) (g : List ℕ) → ActsAmong n (does n i g)
does_among n (Const d v) g = tt
does_among n (Move d r) g = tt
does_among n (Add d r q l) g = sets_among n (fits (value_of (held g r) +ℤ value_of (held g q))) l Overflow d _
does_among n (Sub d r q l) g = sets_among n (fits (value_of (held g r) -ℤ value_of (held g q))) l Overflow d _
does_among n (Mul d r q l) g = sets_among n (fits (value_of (held g r) *ℤ value_of (held g q))) l Overflow d _
does_among n (Div d r q l) g = divides_among n l d (value_of (held g r)) (value_of (held g q)) (int_div (value_of (held g r)) (value_of (held g q)))
does_among n (Rem d r q l) g = divides_among n l d (value_of (held g r)) (value_of (held g q)) (int_rem (value_of (held g r)) (value_of (held g q)))
does_among n (Equal d r q) g = tt
does_among n (NotEqual d r q) g = tt
does_among n (Less d r q) g = tt
does_among n (AtMost d r q) g = tt
does_among n (Len d r) g = tt
does_among n (CutLeft d r q l) g = sets_among n _ l Split d _
does_among n (CutRight d r q l) g = sets_among n _ l Split d _
does_among n (LoadSlot d i) g = tt
does_among n (StoreCur i r) g = tt
does_among n (Give r) g = tt
does_among n (Get d r q l) g = element_among n l (held g r) (held g q) (λ x. Loads (Array x) d) (λ x h. h)
does_among n (Put r q f l) g = element_among n l (held g r) (held g q) (λ x. Stores (Array x) (held g f)) (λ x h. h)
does_among n (BranchZero r t) g = branch_among n (held g r == 0) t
does_among n (BranchNonZero r t) g = branch_not_among n (held g r == 0) t
does_among n (Room k) g = tt
does_among n (StoreNew o r) g = tt
does_among n (Ends e) g = tt

-- what is noted of a location
at_among : (n : ℕ) (l : Location) (b : Bool) (at : ℕ) → IsAmong n l → AreThere n (touches_at l b at)
at_among n (Frame own) b at h = tt
at_among n (New offset) b at h = tt
at_among n (Array word) b at h = (h, tt)

act_among : (n : ℕ) (go : ℕ → List ℕ → Memory Where → List Touch) → ((t : ℕ) (h : List ℕ) (m : Memory Where) → AreThere n (go t h m))
    → (here : ℕ) (a : Act) (g : List ℕ) (m : Memory Where) → ActsAmong n a → AreThere n (after_act go here a g m)
act_among n go each here (Sets d v) g m h = each (here + 1) (slice_set g d.index v) m
act_among n go each here PassesBy g m h = each (here + 1) g m
act_among n go each here (Jumps t) g m h = each (max t (here + 1)) g m
act_among n go each here (Steps (Loads l d)) g m h =
    there_more n (touches_at l false here) _ (at_among n l false here h) (each (here + 1) (slice_set g d.index (m (location_of l))) m)
act_among n go each here (Steps (Stores l v)) g m h =
    there_more n (touches_at l true here) _ (at_among n l true here h) (each (here + 1) g (store code_locations m (location_of l) v))
act_among n go each here (Steps (Asks k)) g m h = each (here + 1) g m
act_among n go each here (Stops e) g m h = tt

-- all that a capsule touches
touches_among : (n here skip : ℕ) (is : List Instr) (g : List ℕ) (m : Memory Where) → AreThere n (touches_from n here skip is g m)
touches_among n here skip [] g m = tt
touches_among n here (suc skip) (i ∷ is) g m = touches_among n (here + 1) skip is g m
touches_among n here zero (i ∷ is) g m =
    act_among n (λ t h m. touches_from n (here + 1) (t - (here + 1)) is h m) (λ t h m. touches_among n (here + 1) (t - (here + 1)) is h m) here
    (does n i g) g m (does_among n i g)

-- the first touch of a log of which a test holds, or none
record HasFirst (test : Touch → Bool) (log : List Touch) : Type 0 where
  pub touch : Touch
  pub is : IsFirst test log touch

first_of : (test : Touch → Bool) (log : List Touch) → HasFirst test log ⊎ AllByRecursion (λ t. test t ≡ false) log
first_of test [] = inr tt
first_of test (t ∷ log) = elim (cases_Bool (test t)) [
  | inl e ↦ inl (record { touch = t; is = record { front = []; rest = log; all = refl; none = tt; here = e } })
  | inr e ↦ elim (first_of test log) [
    | inl y ↦ inl (record {
      touch = y.touch;
      is = record {
        front = t ∷ y.is.front;
        rest = y.is.rest;
        all = ap (λ (l : List Touch). t ∷ l) y.is.all;
        none = (e, y.is.none);
        here = y.is.here;
      };
    })
    | inr y ↦ inr (e, y)
  ]
]

module _ (b : ℕ → Bool) (s : Stamps) where
  not_met : (r w : Bool) → (w && r) ≡ false → w ≡ true → r ≡ false
  not_met r true h e = h
  not_met r false h e = absurd (cc)

  -- where no touch of a log meets anything, no word of it was written beside, and none that it writes was touched there
  unwritten : (log : List Touch) → AllByRecursion (λ t. meets_at b s t ≡ false) log → (x : ℕ) → Has x (words_of_log log) → b (s.wrote x) ≡ false
  unwritten [] h x has = absurd has
  unwritten (t ∷ log) h x (inl e) = ap (λ (y : ℕ). b (s.wrote y)) e ∙ (or_none (b (s.wrote t.word)) _ h.0).0
  unwritten (t ∷ log) h x (inr y) = unwritten log h.1 x y

  untouched : (log : List Touch) → AllByRecursion (λ t. meets_at b s t ≡ false) log → (x : ℕ) → Has x (written_in log) → b (s.touched x) ≡ false
  untouched [] h x has = absurd has
  untouched (t ∷ log) h x has = elim (written_one t.writes t.word x (written_in log) has) [
    | inl e ↦ ap (λ (y : ℕ). b (s.touched y)) e.1
        ∙ not_met (b (s.touched t.word)) t.writes (or_none (b (s.wrote t.word)) (t.writes && b (s.touched t.word)) h.0).1 e.0
    | inr y ↦ untouched log h.1 x y
  ]

  -- whom a touch meets stands beside
  met_beside : (t : Touch) → meets_at b s t ≡ true → b (met_at b s t.word) ≡ true
  met_beside t is = by (b (s.wrote t.word)) refl
    where
      by : (r : Bool) → b (s.wrote t.word) ≡ r → b (cond r (s.wrote t.word) (s.touched t.word)) ≡ true
      by true e = e
      by false e = elim (or_cases (b (s.wrote t.word)) _ is) [
        | inl y ↦ absurd (both_ways _ e y)
        | inr y ↦ (and_parts t.writes _ y).1
      ]

-- frames go on at once
at_once : (g : Own) (o : Result) → IsLeaf (resume g o)
at_once g (Gave value) = tt
at_once g (Trapped trap line) = tt

module _ (code : CodeParts) (input : List NamedArray) where
  abbrev n : ℕ
  n = length (words_in input)

  abbrev c : Code Own Result
  c = strands_over code n

  abbrev root : Strands
  root = root_strand code input

  abbrev words : Words
  words = words_of (words_in input)

  -- a word that a capsule touches is one of its log
  touches_log : (f : Own) (a : Words) (x : ℕ) → Has x (touches c f a) → Has x (words_of_log (log_of code n f a))
  touches_log f a x h =
      ((is_log n (instrs_of code f.point.capsule) (start code_locations (table_of code n) f a)).touched x).1 (has_cases x (c.reads f a) (c.writes f a) h)

  -- a capsule that meets something has a first touch that does
  first_touch : (b : ℕ → Bool) (f : Own) (a : Words) (s : Stamps) → Meets c b f a s → HasFirst (meets_at b s) (log_of code n f a)
  first_touch b f a s meets = elim (first_of (meets_at b s) (log_of code n f a)) [
    | inl y ↦ y
    | inr none ↦ absurd (elim meets.1 [
      | inl y ↦ both_ways _ (unwritten b s (log_of code n f a) none meets.0 (touches_log f a meets.0 y.0)) y.1
      | inr y ↦ both_ways _ (untouched b s (log_of code n f a) none meets.0 (writes_log code n f a meets.0 y.0)) y.1
    ])
  ]

  -- a meeting, as it would be found
  record HasMeeting (limit : ℕ) : Type 0 where
    pub meeting : Meeting
    pub is : IsMeetingWith code input meeting
    pub few : meeting.run ≤ limit

  meeting_of : (limit : ℕ) → IsMetWithin c root words limit → HasMeeting limit
  meeting_of limit it =
      let m = it.moment in
      let b = beside_of m.above in
      let first = first_touch b m.frame m.words m.stamps it.meets in
      let left = met_at b m.stamps first.touch.word in
      let beside = met_beside b m.stamps first.touch first.is.here in
      let fork = lefts_are_one c root words m.above (Strand m.frame) m.words m.stamps m.come left beside in
      record {
        meeting = record {
          run = it.number;
          capsule = m.frame.point.capsule;
          met = record { touch = first.touch; left = left; fork = record { start = fork.start; mid = fork.mid } };
        };
        is = record {
          moment = m;
          capsule = refl;
          first = first.is;
          there = word_there n first.is.front first.is.rest first.touch (subst (λ (l : List Touch). AreThere n l) first.is.all
              (touches_among n 0 0 (instrs_of code m.frame.point.capsule) (replicate 64 0) (start code_locations (table_of code n) m.frame m.words)));
          left = refl;
          beside = beside;
          fork = fork.open_there;
          from = fork.from;
          before = fork.before;
        };
        few = it.few;
      }

  -- what the capsule of a moment says of a word
  record HasVisit (run word : ℕ) : Type 0 where
    pub visit : Visit
    pub is : IsVisitTo code input run word visit

  visit_of : (run word : ℕ) → MomentWith code input run → HasVisit run word
  visit_of run word m = elim (has_or_not word (c.writes m.frame m.words)) [
    | inl y ↦ record {
      visit = record { run = run; capsule = m.frame.point.capsule; writes = true };
      is = record { number = refl; moment = m; capsule = refl; written = (λ e. y, λ h. refl) };
    }
    | inr y ↦ record {
      visit = record { run = run; capsule = m.frame.point.capsule; writes = false };
      is = record { number = refl; moment = m; capsule = refl; written = (λ e. absurd (cc), λ h. absurd (y h)) };
    }
  ]

  -- the verdict of a meeting
  raced : (limit : ℕ) → IsMetWithin c root words limit → HasVerdict code input limit
  raced limit met =
      let it = meeting_of limit met in
      let m = it.meeting in
      let opener = visit_of (m.met.fork.start - 1) m.met.touch.word (opener_moment code input m it.is) in
      let left = visit_of m.met.left m.met.touch.word (named code input m it.is).moment in
      record {
        verdict = Races (record {
          word = m.met.touch.word;
          fork = record { run = opener.visit.run; capsule = opener.visit.capsule };
          left = left.visit;
          right = record { run = m.run; capsule = m.capsule; at = m.met.touch.at; writes = m.met.touch.writes };
        });
        is = (
          meeting_not_calm code n root words m it.is,
          race_is code input m it.is opener.visit left.visit m.met.touch.at opener.is left.is refl,
          it.few,
        );
      }

  -- the verdict of a run that is over
  ended : (limit : ℕ) → IsEndedWithin c root words limit → HasVerdict code input limit
  ended limit it = elim (has_run code input limit).is [
    | inl w ↦ record {
      verdict = Calm (has_run code input limit).run;
      is = (ended_calm c (code_is_local code_locations (table_of code n)) root words it.outcome it.words it.stamps it.come, w);
    }
    | inr none ↦ absurd (
        let e = ended_ends c (code_is_local code_locations (table_of code n)) root words it.outcome it.words it.stamps it.come in
        let count = no_more c it.come e.0 e.1 in
        let more = none.more e.0 e.1 in
        let few = it.few in
        omega (arith, count, more, few))
  ]

  -- one more is next
  on : (limit : ℕ) → Moment c root words (limit + 1) → HasVerdict code input limit
  on limit m = record {
    verdict = NotWithin;
    is = (λ e comes. more_come c (code_is_local code_locations (table_of code n)) root words m.above m.frame m.words m.stamps limit m.come m.time e comes, m);
  }

  -- each limit has one
  pub has_verdict : (limit : ℕ) → HasVerdict code input limit
  has_verdict limit = elim (are_told_within c (record { resume = at_once }) root words limit) [
    | inl y ↦ ended limit y
    | inr y ↦ elim y [ inl z ↦ raced limit z | inr z ↦ on limit z ]
  ]
