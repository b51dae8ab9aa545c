-- The capsules of a race, looked up by their numbers in the run.
use Rattle.std.proofs.Common.{◌≡◌, ◌≤◌, ◌<◌, ℕ, zero, suc, ◌+◌, ◌-◌, max, List, [], ◌∷◌, ◌++◌, refl, sym, ap, ◌∙◌, subst, subst₂, arith, length}
use Rattle.std.proofs.Common.{Bool, true, false, Option, Some, None, replicate, slice_set}
use Rattle.std.specs.Prelude.{◌⊎◌, ◌↔◌, cond, slice_get}
use Rattle.std.proofs.Common.{inl, inr}
use Rattle.std.proofs.lemmas.Bool.{both_ways, or_cases, and_parts}
use Rattle.std.specs.List.{AllByRecursion}
use Rattle.ppm_words.specs.declared.named_array.NamedArray.{NamedArray}
use Rattle.ppm_strands.specs.Capsule.{Memory, store}
use Rattle.ppm_strands.specs.Strand.{start}
use Rattle.ppm_code.specs.declared.act.Act.{Act}
use Rattle.ppm_code.specs.declared.act.Act.TheVariants.{Sets, Passes as PassesBy, Jumps, Steps, Ends as Stops}
use Rattle.ppm_code.specs.declared.act.Step.TheVariants.{Loads, Stores, Asks}
use Rattle.ppm_code.specs.declared.act.End.{End}
use Rattle.ppm_code.specs.declared.act.End.TheVariants.{Next, Finish, Trap, Call, Fork}
use Rattle.ppm_code.specs.declared.code.Capsule.{Capsule}
use Rattle.ppm_code.specs.declared.code.CodeParts.{CodeParts}
use Rattle.ppm_code.specs.declared.instr.Instr.{Instr}
use Rattle.ppm_code.specs.declared.location.FrameWord.{FrameWord}
use Rattle.ppm_code.specs.declared.location.Location.{Location}
use Rattle.ppm_code.specs.declared.location.Location.TheVariants.{Frame, New, Array}
use Rattle.ppm_code.specs.Acts.{does}
use Rattle.ppm_code.specs.Code.{IsCapsule, IsCode}
use Rattle.ppm_code.specs.Inputs.{words_in}
use Rattle.ppm_code.specs.Locations.{Where, code_locations, location_of}
use Rattle.ppm_code.specs.Strands.{Result, Gave, Trapped, instrs_in, instrs_of, opens, resume, table_of}
use Rattle.ppm_code.proofs.CodeLemmas.{all_at}
use Rattle.ppm_depth.specs.Stack.{Own, Strands}
use Rattle.ppm_depth.specs.Start.{words_of, root_strand}
use Rattle.ppm_depth.specs.Turns.{strands_over}
use Rattle.ppm_strands.specs.Tree.{Words, Code, Strand, Over, Has, forks_in}
use Rattle.ppm_strands.specs.Calm.{touches}
use Rattle.ppm_strands.proofs.PartsLemmas.{has_right}
use Rattle.ppm_stamps.specs.Stamps.{Stamps}
use Rattle.ppm_stamps.specs.Moments.{beside_of, Comes, IsOpen, IsPlain, Opened}
use Rattle.ppm_stamps.proofs.MomentLemmas.{beside_low}
use Rattle.ppm_stamps.proofs.NameLemmas.{started, touches_are_named}
use Rattle.ppm_stamps.proofs.OneWayLemmas.{moments_are_one, earlier_pass, moments_before}
use Rattle.ppm_stamps.proofs.OpenLemmas.{ascends, forks_are_opened, open_below}
use Rattle.ppm_races.specs.Judged.{IsMeetingWith, IsVisitTo, MomentWith}
use Rattle.ppm_races.specs.Touches.{words_in as words_of_log, written_in, touches_at, after_act, touches_from}
use Rattle.ppm_races.specs.Verdicts.{IsOpener, IsRaceWith, IsVisit, log_of, meets_at}
use Rattle.ppm_races.specs.Beside.{IsFirst}
use Rattle.ppm_races.specs.Walks.{IsLogged, IsMeetingOf}
use Rattle.ppm_races.specs.declared.race.Visit.{Visit}
use Rattle.ppm_races.specs.declared.touch.Touch.{Touch}
use Rattle.ppm_races.specs.declared.walk.Meeting.{Meeting}
use Rattle.ppm_races.proofs.StampLemmas.{in_words, in_written}
use Rattle.ppm_races.proofs.VerdictLemmas.{log_touches, log_writes, writes_log, meets_of, passes_not_meets}

-- an end opens one fork at most
forks_few : (code : CodeParts) (e : End) (own : FrameWord → ℕ) (block : ℕ → ℕ) → forks_in (opens code e own block) ≤ 1
forks_few code (Next capsule) own block = omega arith
forks_few code Finish own block = omega arith
forks_few code (Trap trap line) own block = omega arith
forks_few code (Call procedure capsule to) own block = omega arith
forks_few code (Fork left right capsule left_to right_to) own block = omega arith

-- a frame that goes on opens none
no_fork : (g : Own) (o : Result) → forks_in (resume g o) ≡ 0
no_fork g (Gave value) = refl
no_fork g (Trapped trap line) = refl

-- the code of a listing does so
is_plain : (code : CodeParts) (array_words : ℕ) → IsPlain (strands_over code array_words)
is_plain code array_words = record { next = λ f a. forks_few code _ _ _; resume = no_fork }

module _ (code : CodeParts) (input : List NamedArray) where
  abbrev n : ℕ
  n = length (words_in input)

  -- the strands of the code
  abbrev c : Code Own Result
  c = strands_over code n

  -- the root's strand
  abbrev root : Strands
  root = root_strand code input

  -- the words of the input
  abbrev words : Words
  words = words_of (words_in input)

  -- what a capsule that was run again says
  pub visit_is : (run word capsule number array_words : ℕ) (log : List Touch) (writes : Bool) → array_words ≡ n → number ≡ run
      → IsLogged code root words array_words number capsule log → (writes ≡ true) ↔ Has word (written_in log)
      → IsVisitTo code input run word (record { run = run; capsule = capsule; writes = writes })
  visit_is run word capsule number array_words log writes same is logged decides =
      let it = subst₂ (λ (k i : ℕ). IsLogged code root words k i capsule log) same is logged in
      record {
        number = refl;
        moment = it.moment;
        capsule = it.same;
        written = (
          λ h. log_writes code n it.moment.frame it.moment.words word (subst (λ (l : List Touch). Has word (written_in l)) it.all (decides.0 h)),
          λ h. decides.1 (subst (λ (l : List Touch). Has word (written_in l)) (sym it.all) (writes_log code n it.moment.frame it.moment.words word h)),
        );
      }

  -- the run is not over before a moment, and no capsule meets another one before it
  pub not_over : (run limit array_words : ℕ) (o : Result) (a : Words) (s : Stamps) → array_words ≡ n → Comes (strands_over code array_words) root words []
      (Over o) a s
      → s.time ≤ limit + 1 → limit + 1 ≡ run → MomentWith code input run → ⊥
  not_over run limit array_words o a s same come few is moment =
      let before = moments_before c root words o a s (subst (λ (k : ℕ). Comes (strands_over code k) root words [] (Over o) a s) same come) run moment in
      omega (arith, before, few, is)

  -- nor does a capsule before it meet another one
  pub not_met : (run limit array_words : ℕ) (m : Meeting) → array_words ≡ n → IsMeetingOf code root words array_words m → m.run ≤ limit → limit + 1 ≡ run
      → MomentWith code input run → ⊥
  not_met run limit array_words m same meets few is moment =
      let it = subst (λ (k : ℕ). IsMeetingOf code root words k m) same meets in
      passes_not_meets c (beside_of it.moment.above) it.moment.frame it.moment.words it.moment.stamps
      (earlier_pass c root words m.run run it.moment moment (omega (arith, few, is))) (meets_of code n root words m it)

  -- a moment has a number from 1 on
  pub from_one : (run : ℕ) → MomentWith code input run → 1 ≤ run
  from_one run moment = let first = (started c moment.come).0 in let is = moment.time in omega (arith, first, is)

  module _ (m : Meeting) (it : IsMeetingWith code input m) where
    -- the capsule that opened the fork
    pub opener : Opened c root words m.met.fork.start
    opener = forks_are_opened c (is_plain code n) root words it.moment.above (Strand it.moment.frame) it.moment.words it.moment.stamps refl it.moment.come
        m.met.fork.start m.met.fork.mid it.fork

    -- its number
    pub opener_is : opener.number ≡ m.met.fork.start - 1
    opener_is = let one = opener.before in omega (arith, one)

    -- its moment
    pub opener_moment : MomentWith code input (m.met.fork.start - 1)
    opener_moment = subst (λ (k : ℕ). MomentWith code input k) opener_is opener.moment

    -- the one whom it meets
    pub record IsNamed : Type 0 where
      pub moment : MomentWith code input m.met.left
      pub touched : Has m.met.touch.word (touches c moment.frame moment.words)

    -- by whether the last writer stands beside
    named_by : (b : Bool) → beside_of it.moment.above (it.moment.stamps.wrote m.met.touch.word) ≡ b
        → m.met.left ≡ cond b (it.moment.stamps.wrote m.met.touch.word) (it.moment.stamps.touched m.met.touch.word) → IsNamed
    named_by true is left =
        let was = (touches_are_named c).wrote root words it.moment.above (Strand it.moment.frame) it.moment.words it.moment.stamps it.moment.come
        m.met.touch.word is in
        record {
          moment = record { above = was.above; frame = was.frame; words = was.words; stamps = was.stamps; come = was.come; time = was.time ∙ sym left };
          touched = has_right m.met.touch.word (c.reads was.frame was.words) _ was.has;
        }
    named_by false is left =
        let was = (touches_are_named c).touched root words it.moment.above (Strand it.moment.frame) it.moment.words it.moment.stamps it.moment.come
        m.met.touch.word (ap (λ (k : ℕ). beside_of it.moment.above k) (sym left) ∙ it.beside) in
        record {
          moment = record { above = was.above; frame = was.frame; words = was.words; stamps = was.stamps; come = was.come; time = was.time ∙ sym left };
          touched = was.has;
        }

    -- the capsule that is met
    pub named : IsNamed
    named = named_by (beside_of it.moment.above (it.moment.stamps.wrote m.met.touch.word)) refl it.left

    -- all of them have numbers up to that of the later one
    pub left_low : m.met.left < m.run
    left_low =
        let low = beside_low c it.moment.come m.met.left it.beside in
        let is = it.moment.time in
        omega (arith, low, is)

    -- numbers are from 1 on
    pub opener_first : 1 ≤ m.met.fork.start - 1
    opener_first = from_one (m.met.fork.start - 1) opener_moment

    -- and the opener's is low
    pub opener_low : m.met.fork.start - 1 ≤ m.run
    opener_low = let low = left_low in let since = it.from in omega (arith, low, since)

    -- and the number of the one that is met
    pub left_first : 1 ≤ m.met.left
    left_first = from_one m.met.left named.moment

    -- a visit's moment is the one of its number
    left_is : (left : Visit) → IsVisitTo code input m.met.left m.met.touch.word left → IsVisit code root words n m.met.touch.word left
    left_is left visit =
        let one = moments_are_one c root words m.met.left named.moment visit.moment in
        record {
          moment = subst (λ (k : ℕ). MomentWith code input k) (sym visit.number) visit.moment;
          capsule = visit.capsule;
          touched = subst₂ (λ (f : Own) (a : Words). Has m.met.touch.word (touches c f a)) one.frame one.words named.touched;
          written = visit.written;
        }

    -- the opener is one
    fork_is : (v : Visit) → IsVisitTo code input (m.met.fork.start - 1) m.met.touch.word v
        → IsOpener code root words n (record { run = v.run; capsule = v.capsule })
    fork_is v visit =
        let one = moments_are_one c root words opener.number opener.moment
        (record {
          above = visit.moment.above;
          frame = visit.moment.frame;
          words = visit.moment.words;
          stamps = visit.moment.stamps;
          come = visit.moment.come;
          time = visit.moment.time ∙ sym opener_is;
        }) in
        record {
          moment = subst (λ (k : ℕ). MomentWith code input k) (sym visit.number) visit.moment;
          capsule = visit.capsule;
          opens = subst₂ (λ (f : Own) (a : Words). forks_in (c.next f a) ≡ 1) one.frame one.words opener.opens;
        }

    -- the branch of the later one began no later than it
    begun : m.met.fork.mid ≤ m.run
    begun =
        let le = open_below it.moment.above it.moment.stamps.time m.met.fork.start m.met.fork.mid (ascends c it.moment.come).0 it.fork in
        let is = it.moment.time in
        omega (arith, le, is)

    -- one of the two writes: by whether the last writer stands beside
    writes_by : (left : Visit) → IsVisitTo code input m.met.left m.met.touch.word left → (b : Bool)
        → beside_of it.moment.above (it.moment.stamps.wrote m.met.touch.word) ≡ b
        → m.met.left ≡ cond b (it.moment.stamps.wrote m.met.touch.word) (it.moment.stamps.touched m.met.touch.word)
        → (left.writes ≡ true) ⊎ (m.met.touch.writes ≡ true)
    writes_by left visit true is same =
        let was = (touches_are_named c).wrote root words it.moment.above (Strand it.moment.frame) it.moment.words it.moment.stamps it.moment.come
        m.met.touch.word is in
        let one = moments_are_one c root words m.met.left
        (record { above = was.above; frame = was.frame; words = was.words; stamps = was.stamps; come = was.come; time = was.time ∙ sym same })
        visit.moment in
        inl (visit.written.1 (subst₂ (λ (f : Own) (a : Words). Has m.met.touch.word (c.writes f a)) one.frame one.words was.has))
    writes_by left visit false is same =
        elim (or_cases (beside_of it.moment.above (it.moment.stamps.wrote m.met.touch.word)) _ it.first.here) [
          | inl y ↦ absurd (both_ways _ is y)
          | inr y ↦ inr (and_parts m.met.touch.writes _ y).0
        ]

    one_writes : (left : Visit) → IsVisitTo code input m.met.left m.met.touch.word left → (left.writes ≡ true) ⊎ (m.met.touch.writes ≡ true)
    one_writes left visit = writes_by left visit (beside_of it.moment.above (it.moment.stamps.wrote m.met.touch.word)) refl it.left

    -- the later one touches the word, and writes it where its touch does
    right_touches : Has m.met.touch.word (touches c it.moment.frame it.moment.words)
    right_touches = log_touches code n it.moment.frame it.moment.words m.met.touch.word
        (subst (λ (l : List Touch). Has m.met.touch.word (words_of_log l)) (sym it.first.all) (in_words it.first.front it.first.rest m.met.touch))

    right_writes : m.met.touch.writes ≡ true → Has m.met.touch.word (c.writes it.moment.frame it.moment.words)
    right_writes is = log_writes code n it.moment.frame it.moment.words m.met.touch.word
        (subst (λ (l : List Touch). Has m.met.touch.word (written_in l)) (sym it.first.all) (in_written it.first.front it.first.rest m.met.touch is))

    -- all of a race
    pub race_is : (v left : Visit) (at : ℕ) → IsVisitTo code input (m.met.fork.start - 1) m.met.touch.word v
        → IsVisitTo code input m.met.left m.met.touch.word left → at ≡ m.met.touch.at
        → IsRaceWith code input (record {
          word = m.met.touch.word;
          fork = record { run = v.run; capsule = v.capsule };
          left = left;
          right = record { run = m.run; capsule = m.capsule; at = at; writes = m.met.touch.writes };
        })
    race_is v left at opened visit same =
        let number = opened.number in
        let first = opener_first in
        let start : v.run + 1 ≡ m.met.fork.start = omega (arith, number, first) in
        let met = visit.number in
        let since = it.from in
        let until = it.before in
        record {
          right = record {
            moment = it.moment;
            capsule = it.capsule;
            touched = right_touches;
            written = right_writes;
            first = subst (λ (k : ℕ). IsFirst (meets_at (beside_of it.moment.above) it.moment.stamps) (log_of code n it.moment.frame it.moment.words)
                (record { word = m.met.touch.word; writes = m.met.touch.writes; at = k })) (sym same) it.first;
          };
          there = it.there;
          run = met ∙ it.left;
          left = left_is left visit;
          one_writes = one_writes left visit;
          mid = m.met.fork.mid;
          both = subst (λ (k : ℕ). IsOpen k m.met.fork.mid it.moment.above) (sym start) it.fork;
          from = omega (arith, start, met, since);
          before = omega (arith, met, until);
          begun = begun;
          fork = fork_is v opened;
        }

-- instructions have small numbers
at_one : (k : ℕ) (l : Location) (b : Bool) (at : ℕ) → at < k → AllByRecursion (λ (t : Touch). t.at < k) (touches_at l b at)
at_one k (Frame own) b at less = tt
at_one k (New offset) b at less = tt
at_one k (Array word) b at less = (less, tt)

-- all of two logs
all_append : (k : ℕ) (log more : List Touch) → AllByRecursion (λ (t : Touch). t.at < k) log → AllByRecursion (λ (t : Touch). t.at < k) more
    → AllByRecursion (λ (t : Touch). t.at < k) (log ++ more)
all_append k [] more h g = g
all_append k (t ∷ log) more h g = (h.0, all_append k log more h.1 g)

-- by what an instruction does
act_low : (k : ℕ) (go : ℕ → List ℕ → Memory Where → List Touch)
    → ((t : ℕ) (h : List ℕ) (m : Memory Where) → AllByRecursion (λ (t : Touch). t.at < k) (go t h m)) → (here : ℕ) (a : Act) (g : List ℕ) (m : Memory Where)
    → here < k → AllByRecursion (λ (t : Touch). t.at < k) (after_act go here a g m)
act_low k go low here (Sets d v) g m less = low (here + 1) (slice_set g d.index v) m
act_low k go low here PassesBy g m less = low (here + 1) g m
act_low k go low here (Jumps t) g m less = low (max t (here + 1)) g m
act_low k go low here (Steps (Loads l d)) g m less =
    all_append k (touches_at l false here) (go (here + 1) (slice_set g d.index (m (location_of l))) m) (at_one k l false here less)
    (low (here + 1) (slice_set g d.index (m (location_of l))) m)
act_low k go low here (Steps (Stores l v)) g m less =
    all_append k (touches_at l true here) (go (here + 1) g (store code_locations m (location_of l) v)) (at_one k l true here less)
    (low (here + 1) g (store code_locations m (location_of l) v))
act_low k go low here (Steps (Asks q)) g m less = low (here + 1) g m
act_low k go low here (Stops e) g m less = tt

-- at each instruction
touches_low : (array_words k here skip : ℕ) (is : List Instr) (g : List ℕ) (m : Memory Where) → here + length is ≤ k
    → AllByRecursion (λ (t : Touch). t.at < k) (touches_from array_words here skip is g m)
touches_low array_words k here skip [] g m le = tt
touches_low array_words k here (suc skip) (i ∷ is) g m le = touches_low array_words k (here + 1) skip is g m (omega (arith, le))
touches_low array_words k here zero (i ∷ is) g m le =
    act_low k (λ t h m. touches_from array_words (here + 1) (t - (here + 1)) is h m)
    (λ t h m. touches_low array_words k (here + 1) (t - (here + 1)) is h m (omega (arith, le))) here (does array_words i g) g m (omega (arith, le))

-- one of a log
one_low : (k : ℕ) (front rest : List Touch) (t : Touch) → AllByRecursion (λ (t : Touch). t.at < k) (front ++ (t ∷ rest)) → t.at < k
one_low k [] rest t all = all.0
one_low k (x ∷ front) rest t all = one_low k front rest t all.1

-- a capsule has few instructions
instrs_few : (code : CodeParts) → IsCode code → (number : ℕ) → length (instrs_of code number) ≤ 160
instrs_few code is_code number = by (slice_get code.capsules number) refl
  where
    by : (o : Option Capsule) → slice_get code.capsules number ≡ o → length (instrs_in o) ≤ 160
    by None e = omega arith
    by (Some q) e = (all_at (IsCapsule code) code.capsules number q is_code.capsules e).most

-- the number of a touch that meets something
pub at_few : (code : CodeParts) → IsCode code → (input : List NamedArray) (m : Meeting) → IsMeetingWith code input m → m.met.touch.at < 160
at_few code is_code input m it =
    let is = instrs_of code it.moment.frame.point.capsule in
    let few = instrs_few code is_code it.moment.frame.point.capsule in
    one_low 160 it.first.front it.first.rest m.met.touch
    (subst (λ (l : List Touch). AllByRecursion (λ (t : Touch). t.at < 160) l) it.first.all
    (touches_low (length (words_in input)) 160 0 0 is (replicate 64 0)
    (start code_locations (table_of code (length (words_in input))) it.moment.frame it.moment.words) (omega (arith, few))))
