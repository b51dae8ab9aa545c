-- Runs under the lock: one more turn, and what is counted of it.
use Rattle.std.proofs.Common.{◌≡◌, ◌≢◌, ◌∙◌, ◌==◌, ◌+◌, ◌^◌, ◌<◌, ◌≤◌, ◌⊎◌, inl, inr, if◌then◌else◌, ℕ, Bool, true, false, List, [], ◌∷◌, ◌++◌, length, take, get_or, set, replicate, Some, None, slice_get, refl, sym, ap, subst, arith}
use Rattle.std.specs.List.{sum_by}
use Rattle.std.proofs.lemmas.Bool.Decides.{nat_tests}
use Rattle.std.proofs.lemmas.Grind.{get_or-set_at}
use Rattle.std.proofs.lemmas.List.{length-append, length-set, length-replicate, get_or-set_other, get_or-replicate, take-append-le}
use Rattle.std.proofs.lemmas.List.Elements.{All-append, All-nil, All-from_recursion}
use Rattle.std.proofs.lemmas.List.Sums.{sum_by-cons, sum_by-append}
use Rattle.std.proofs.lemmas.Option.{slice_get_within}
use Rattle.std.proofs.Math.Seq.{take-append_seam}
use mathlib.Core.List.{IsPrefix}
use Rattle.ppm_step.specs.declared.turn.Act.{Act}
use Rattle.ppm_step.specs.declared.turn.Act.TheVariants.{Step, Soft, Hard, Quit}
use Rattle.ppm_step.specs.declared.turn.Next.{Next}
use Rattle.ppm_step.specs.declared.turn.Told.{Told}
use Rattle.ppm_step.specs.declared.turn.Turn.{Turn}
use Rattle.ppm_step.specs.declared.turn.Why.TheVariants.{Turns, Watch}
use Rattle.ppm_step.specs.Among.{IsActAmong, IsTurnAmong}
use Rattle.ppm_step.specs.Standings.{Standing}
use Rattle.ppm_step.specs.State.{after, along, forks_of, takes_of, work_of, stand_of, next_of, is_work_next, is_work_turn, seeks_holder}
use Rattle.ppm_step.specs.Told.{told_of}
use Rattle.ppm_core.specs.Situation.{Situation, finish_in, turned, run_on}
use Rattle.ppm_core.proofs.ListLemmas.{get_pushed}
use Rattle.ppm_core.proofs.RunLemmas.{follow_on, tell_on, run_none}
use Rattle.ppm_locked.specs.Held.{spent_by, quit_of, HasMade, IsCounted, IsRun, IsTold, Seated, act_done, booked, is_set, noted, saw, turn_after, turn_done}

-- counts of turns and of one more
adds : (n : ℕ) (xs ys zs : List ℕ) → zs ≡ xs ++ (ys ++ []) → n + length xs + length ys ≡ n + length zs
adds n xs ys zs e = omega (arith, ap (λ (us : List ℕ). length us) e, length-append xs (ys ++ []), length-append ys [])

more : (n : ℕ) (turns : List Turn) (turn : Turn) → n + length turns + 1 ≡ n + length (turns ++ turn ∷ [])
more n turns turn = omega (arith, length-append turns (turn ∷ []))

-- turns and then one more
pub run_more : (m : Situation) (turns : List Turn) (turn : Turn) → turned (run_on m turns) turn ≡ run_on m (turns ++ turn ∷ [])
run_more m turns turn =
    let s = m.shape in
    let code = m.code in
    let now = after s code m.state turns in
    λ i. record {
      shape = m.shape;
      code = m.code;
      array_lengths = m.array_lengths;
      state = sym (follow_on s code m.state turns (turn ∷ [])) i;
      forks = adds m.forks (along s code forks_of m.state turns) (forks_of now turn) (along s code forks_of m.state (turns ++ turn ∷ [])) (tell_on ℕ s code forks_of m.state turns (turn ∷ [])) i;
      takes = adds m.takes (along s code takes_of m.state turns) (takes_of now turn) (along s code takes_of m.state (turns ++ turn ∷ [])) (tell_on ℕ s code takes_of m.state turns (turn ∷ [])) i;
      work = adds m.work (along s code work_of m.state turns) (work_of now turn) (along s code work_of m.state (turns ++ turn ∷ [])) (tell_on ℕ s code work_of m.state turns (turn ∷ [])) i;
      turns = more m.turns turns turn i;
    }

-- the work of one turn
one : (f : ℕ → ℕ) (x : ℕ) (b : Bool) → sum_by f ((if b then x ∷ [] else []) ++ []) ≡ (if b then f x else 0)
one f x true = omega (arith, sum_by-cons f x [])
one f x false = refl

module _ (first : Situation) where
  -- whether the turn is work, after these
  abbrev works_after : List Turn → Turn → Bool
  works_after turns turn = is_work_turn turn.act (stand_of (after first.shape first.code first.state turns) turn.processor)

  pub spent_more : (turns : List Turn) (turn : Turn) (processor : ℕ)
      → spent_by first processor (turns ++ turn ∷ []) ≡ spent_by first processor turns + (if works_after turns turn then (if turn.processor == processor then 1 else 0) else 0)
  spent_more turns turn processor =
      let f : ℕ → ℕ = λ own. if own == processor then 1 else 0 in
      let now = after first.shape first.code first.state turns in
      let done = along first.shape first.code work_of first.state turns in
      ap (sum_by f) (tell_on ℕ first.shape first.code work_of first.state turns (turn ∷ []))
      ∙ sum_by-append f done (work_of now turn ++ [])
      ∙ ap (λ n. sum_by f done + n) (one f turn.processor (works_after turns turn))

-- where the turns are spent, nothing that is done is work
idle_step : (b : Bool) (victim : ℕ) (standing : Standing) → is_work_next (next_of standing) ≡ b → is_work_turn (if b then Quit Turns else Step victim) standing ≡ false
idle_step true victim standing e = refl
idle_step false victim standing e = e

idle : (act : Act) (standing : Standing) → is_work_turn (act_done true (next_of standing) act) standing ≡ false
idle (Step victim) standing = idle_step (is_work_next (next_of standing)) victim standing refl
idle Soft standing = refl
idle Hard standing = refl
idle (Quit Turns) standing = refl
idle (Quit Watch) standing = refl

-- and a quit for spent turns is done there alone
abbrev IsNoSpentQuit : Act → Type 0
IsNoSpentQuit (Step victim) = Unit {0}
IsNoSpentQuit Soft = Unit {0}
IsNoSpentQuit Hard = Unit {0}
IsNoSpentQuit (Quit Turns) = ⊥
IsNoSpentQuit (Quit Watch) = Unit {0}

no_quit : (next : Next) (act : Act) → IsNoSpentQuit (act_done false next act)
no_quit next (Step victim) = tt
no_quit next Soft = tt
no_quit next Hard = tt
no_quit next (Quit Turns) = tt
no_quit next (Quit Watch) = tt

quits_spent : (b : Bool) (next : Next) (act : Act) → act_done b next act ≡ Quit Turns → b ≡ true
quits_spent true next act e = refl
quits_spent false next act e = absurd (subst IsNoSpentQuit e (no_quit next act))

-- what is done names a processor, where what was asked does
among_step : (b : Bool) (processors victim : ℕ) → victim < processors → IsActAmong processors (if b then Quit Turns else Step victim)
among_step true processors victim h = tt
among_step false processors victim h = h

among_done : (b : Bool) (processors : ℕ) (next : Next) (act : Act) → 0 < processors → IsActAmong processors act → IsActAmong processors (act_done b next act)
among_done true processors next (Step victim) some h = among_step (is_work_next next) processors victim h
among_done false processors next (Step victim) some h = h
among_done true processors next Soft some h = tt
among_done false processors next Soft some h = tt
among_done true processors next Hard some h = tt
among_done false processors next Hard some h = tt
among_done true processors next (Quit Turns) some h = tt
among_done false processors next (Quit Turns) some h = some
among_done true processors next (Quit Watch) some h = tt
among_done false processors next (Quit Watch) some h = tt

-- no more than so many
limit : (most n : ℕ) (b same : Bool) → n ≤ most → (b ≡ true → same ≡ true → n < most) → n + (if b then (if same then 1 else 0) else 0) ≤ most
limit most n true true h f = let less = f refl refl in omega (arith, less)
limit most n true false h f = omega (arith, h)
limit most n false same h f = omega (arith, h)

-- a number that was read and is raised where the turn was work
raised : (b same : Bool) (spent : List ℕ) (processor other n : ℕ) → (processor == other) ≡ same → processor < length spent → get_or spent other 0 ≡ n
    → get_or (if b then set spent processor (get_or spent processor 0 + 1) else spent) other 0 ≡ n + (if b then (if same then 1 else 0) else 0)
raised false same spent processor other n e at is = omega (arith, is)
raised true true spent processor other n e at is =
    let there : other ≡ processor = grind (arith, nat_tests) in
    let now = get_or-set_at spent processor other (get_or spent processor 0 + 1) 0 there at in
    omega (arith, is, now, ap (λ k. get_or spent k 0) there)
raised true false spent processor other n e at is =
    let apart : other ≢ processor = λ there. absurd (grind (arith, nat_tests, there)) in
    omega (arith, is, get_or-set_other spent processor other (get_or spent processor 0 + 1) 0 apart)

length_raised : (b : Bool) (spent : List ℕ) (processor n : ℕ) → length (if b then set spent processor n else spent) ≡ length spent
length_raised true spent processor n = length-set spent processor n
length_raised false spent processor n = refl

equal : (a b : ℕ) → (a == b) ≡ true → a ≡ b
equal a b e = grind (arith, nat_tests)

unequal : (a b : ℕ) → a ≤ b → (a == b) ≡ false → a < b
unequal a b h e = grind (arith, nat_tests)

module _ (first : Situation) (most : ℕ) (turns : List Turn) (spent : List ℕ) (processor : ℕ) (act : Act) where
  abbrev here : Situation
  here = run_on first turns

  abbrev made : ℕ
  made = get_or spent processor 0

  abbrev done : Turn
  done = turn_done most here made processor act

  abbrev works : Bool
  works = is_work_turn done.act (stand_of here.state processor)

  abbrev longer : List Turn
  longer = turns ++ done ∷ []

  -- a processor whose turn is work has not spent its turns
  has_left : (b : Bool) → (made == most) ≡ b → works ≡ true → b ≡ false
  has_left false e w = refl
  has_left true e w =
      let none : works ≡ false = ap (λ b. is_work_turn (act_done b (next_of (stand_of here.state processor)) act) (stand_of here.state processor)) e ∙ idle act (stand_of here.state processor) in
      sym w ∙ none

  pub run_goes_on : processor < first.shape.processors → IsActAmong first.shape.processors act → IsRun first most turns here → IsCounted first spent turns
      → IsRun first most longer (turned here done)
  run_goes_on within asked run counted =
      let is = counted.each processor within in
      record {
        comes = run_more first turns done;
        among = All-append (IsTurnAmong first.shape.processors) turns (done ∷ []) run.among
            (All-from_recursion (IsTurnAmong first.shape.processors) (done ∷ []) (record { processor = within; act = among_done (made == most) first.shape.processors (next_of (stand_of here.state processor)) act (omega (arith, within)) asked }, tt));
        few = λ own.
            let less : works ≡ true → (processor == own) ≡ true → spent_by first own turns < most =
            λ w same.
            let there = equal processor own same in
            let below = unequal made most (subst (λ n. n ≤ most) (sym is) (run.few processor)) (has_left (made == most) refl w) in
            subst (λ n. spent_by first n turns < most) there (subst (λ n. n < most) is below) in
            subst (λ n. n ≤ most) (sym (spent_more first turns done own)) (limit most (spent_by first own turns) works (processor == own) (run.few own) less);
        quits = λ at own e. quits_at at own (get_pushed turns at done (quit_of own) e);
      }
    where
      le_of_lt : (a b : ℕ) → a < b → a ≤ b
      le_of_lt a b h = omega (arith, h)

      quits_at : (at own : ℕ) → (slice_get turns at ≡ Some (quit_of own)) ⊎ ((at ≡ length turns) × (done ≡ quit_of own)) → spent_by first own (take at longer) ≡ most
      quits_at at own (inl old) = ap (spent_by first own) (take-append-le at turns (done ∷ []) (le_of_lt at (length turns) (slice_get_within turns at (quit_of own) old))) ∙ run.quits at own old
      quits_at at own (inr p) =
          ap (λ k. spent_by first own (take k longer)) p.0
          ∙ ap (spent_by first own) (take-append_seam turns (done ∷ []))
          ∙ ap (λ k. spent_by first k turns) (sym (ap (λ t. t.processor) p.1))
          ∙ sym (counted.each processor within)
          ∙ equal made most (quits_spent (made == most) (next_of (stand_of here.state processor)) act (ap (λ t. t.act) p.1))

  pub counts_go_on : processor < first.shape.processors → IsCounted first spent turns
      → IsCounted first (if works then set spent processor (made + 1) else spent) longer
  counts_go_on within counted = record {
    count = length_raised works spent processor (made + 1) ∙ counted.count;
    each = λ own h. raised works (processor == own) spent processor own (spent_by first own turns) refl (subst (λ n. processor < n) (sym counted.count) within) (counted.each own h)
        ∙ sym (spent_more first turns done own);
  }

-- after a turn that is done where one was asked, and whose work was counted
pub goes_on : (first : Situation) (most : ℕ) (m : Situation) (turns : List Turn) (spent : List ℕ) (processor : ℕ) (act : Act) (n : Situation) (later : List Turn) (counts : List ℕ)
    → processor < first.shape.processors → IsActAmong first.shape.processors act → IsRun first most turns m → IsCounted first spent turns
    → n ≡ turned m (turn_done most m (get_or spent processor 0) processor act)
    → later ≡ turns ++ turn_done most m (get_or spent processor 0) processor act ∷ []
    → counts ≡ (if is_work_turn (turn_done most m (get_or spent processor 0) processor act).act (stand_of m.state processor) then set spent processor (get_or spent processor 0 + 1) else spent)
    → IsRun first most later n × IsCounted first counts later
goes_on first most m turns spent processor act n later counts within asked run counted comes later_is counts_are =
    let here = run_on first turns in
    let at_here : IsRun first most turns here = subst (λ x. IsRun first most turns x) run.comes run in
    let n_is = comes ∙ ap (λ x. turned x (turn_done most x (get_or spent processor 0) processor act)) run.comes in
    let counts_is = counts_are
    ∙ ap (λ x. if is_work_turn (turn_done most x (get_or spent processor 0) processor act).act (stand_of x.state processor) then set spent processor (get_or spent processor 0 + 1) else spent) run.comes in
    let longer = turns ++ turn_done most here (get_or spent processor 0) processor act ∷ [] in
    let long : longer ≡ later = ap (λ x. turns ++ turn_done most x (get_or spent processor 0) processor act ∷ []) (sym run.comes) ∙ sym later_is in
    subst (λ l. IsRun first most l n × IsCounted first counts l) long (
      subst (λ x. IsRun first most longer x) (sym n_is) (run_goes_on first most turns spent processor act within asked at_here counted),
      subst (λ c. IsCounted first c longer) (sym counts_is) (counts_go_on first most turns spent processor act within counted),
    )

-- no turn yet
pub begins : (first : Situation) (most : ℕ) (m : Situation) (turns : List Turn) (spent : List ℕ) → m ≡ first → turns ≡ [] → spent ≡ replicate first.shape.processors 0
    → IsRun first most turns m × IsCounted first spent turns
begins first most m turns spent comes none spent_are = subst (λ l. IsRun first most l m × IsCounted first spent l) (sym none) (
  record {
    comes = comes ∙ run_none first;
    among = All-nil (IsTurnAmong first.shape.processors);
    few = λ own. omega arith;
    quits = λ at own e. absurd (no_such own e);
  },
  record {
    count = ap (λ (ns : List ℕ). length ns) spent_are ∙ length-replicate first.shape.processors 0;
    each = λ own h. ap (λ (ns : List ℕ). get_or ns own 0) spent_are ∙ get_or-replicate first.shape.processors own 0 0 h;
  },
)
  where
    no_such : (own : ℕ) → None ≡ Some (quit_of own) → ⊥
    no_such own e = cc

-- a turn by its parts, as it was made
pub turn_is : (most : ℕ) (m : Situation) (made processor : ℕ) (act : Act) (own read limit : ℕ) (next : Next) (does : Act)
    → own ≡ processor → read ≡ made → limit ≡ most → next ≡ next_of (stand_of m.state own) → does ≡ act_done (read == limit) next act
    → record { processor = own; act = does } ≡ turn_done most m made processor act
turn_is most m made processor act own read limit next does own_is read_is limit_is next_is does_is =
    let coming : next ≡ next_of (stand_of m.state processor) = next_is ∙ ap (λ k. next_of (stand_of m.state k)) own_is in
    let act_is : does ≡ act_done (made == most) (next_of (stand_of m.state processor)) act =
    does_is ∙ ap (λ k. act_done (k == limit) next act) read_is ∙ ap (λ k. act_done (made == k) next act) limit_is ∙ ap (λ n. act_done (made == most) n act) coming in
    λ i. record { processor = own_is i; act = act_is i }

-- what a turn counts as work
worked : (b : Bool) (x : ℕ) → length (if b then x ∷ [] else []) ≡ (if b then 1 else 0)
worked true x = refl
worked false x = refl

-- the book is kept
pub books : (m n : Situation) (turn : Turn) (work : Bool) (before between later : ℕ) → n ≡ turned m turn
    → work ≡ is_work_turn turn.act (stand_of m.state turn.processor) → before ≡ m.work → between ≡ before → later ≡ between + (if work then 1 else 0) → later ≡ n.work
books m n turn work before between later comes work_is at_first then_is last =
    let made = ap (λ x. x.work) comes in
    let one_more = worked (is_work_turn turn.act (stand_of m.state turn.processor)) turn.processor in
    let same = ap (λ (b : Bool). if b then 1 else 0) work_is in
    last ∙ ap (λ k. k + (if work then 1 else 0)) (then_is ∙ at_first) ∙ ap (λ k. m.work + k) (same ∙ sym one_more) ∙ sym made

-- the run goes on by a turn as it was made, whose work was counted as it was told
pub keeps : (first : Situation) (most : ℕ) (m : Situation) (turns : List Turn) (spent : List ℕ) (processor : ℕ) (act : Act) (n : Situation) (later : List Turn) (counts : List ℕ)
    (turn : Turn) (work : Bool) (own read : ℕ)
    → processor < first.shape.processors → IsActAmong first.shape.processors act → IsRun first most turns m × IsCounted first spent turns
    → turn ≡ turn_done most m (get_or spent processor 0) processor act → n ≡ turned m turn → later ≡ turns ++ turn ∷ []
    → work ≡ is_work_turn turn.act (stand_of m.state turn.processor)
    → own ≡ processor → read ≡ get_or spent processor 0
    → counts ≡ (if work then set spent own (read + 1) else spent)
    → IsRun first most later n × IsCounted first counts later
keeps first most m turns spent processor act n later counts turn work own read within asked has turn_is comes later_is work_is own_is read_is counts_are =
    goes_on first most m turns spent processor act n later counts within asked has.0 has.1
    (comes ∙ ap (turned m) turn_is)
    (later_is ∙ ap (λ t. turns ++ t ∷ []) turn_is)
    (counts_are
    ∙ ap (λ (b : Bool). if b then set spent own (read + 1) else spent) (work_is ∙ ap (λ t. is_work_turn t.act (stand_of m.state t.processor)) turn_is)
    ∙ ap (λ k. if is_work_turn (turn_done most m (get_or spent processor 0) processor act).act (stand_of m.state processor) then set spent k (read + 1) else spent) own_is
    ∙ ap (λ k. if is_work_turn (turn_done most m (get_or spent processor 0) processor act).act (stand_of m.state processor) then set spent processor (k + 1) else spent) read_is)

-- what was told of that turn
pub told_so : (first : Situation) (most : ℕ) (m : Situation) (turns : List Turn) (spent : List ℕ) (processor : ℕ) (act : Act) (later : List Turn) (turn : Turn) (told : Told)
    → processor < first.shape.processors → IsRun first most turns m × IsCounted first spent turns
    → turn ≡ turn_done most m (get_or spent processor 0) processor act → later ≡ turns ++ turn ∷ []
    → told ≡ told_of m.shape m.code m.state turn
    → IsTold first most turns processor act later told
told_so first most m turns spent processor act later turn told within has turn_is later_is told_is =
    let here : turn ≡ turn_after first most turns processor act = turn_is
    ∙ ap (λ k. turn_done most m k processor act) (has.1.each processor within)
    ∙ ap (λ x. turn_done most x (spent_by first processor turns) processor act) has.0.comes in
    record {
      turn = later_is ∙ ap (λ t. turns ++ t ∷ []) here;
      told = told_is ∙ ap (λ x. told_of x.shape x.code x.state turn) has.0.comes ∙ ap (told_of first.shape first.code (run_on first turns).state) here;
    }

-- what a seat notes of the run with that turn
pub has_made : (first : Situation) (most : ℕ) (before later : List Turn) (act : Act) (n : Situation) (old between new : Seated) (told : Told)
    → IsTold first most before old.processor act later told → IsRun first most later n → IsPrefix old.seen before
    → between ≡ booked (saw old later) told.work
    → new ≡ noted between (finish_in n) (seeks_holder (stand_of n.state between.processor))
    → HasMade first most before act old new told
has_made first most before later act n old between new told is run begins between_is noted_is =
    let new_is : new ≡ noted (booked (saw old later) told.work) (finish_in n) (seeks_holder (stand_of n.state old.processor)) =
    subst (λ s. new ≡ noted s (finish_in n) (seeks_holder (stand_of n.state s.processor))) between_is noted_is in
    let seen : new.seen ≡ later = ap (λ s. s.seen) new_is in
    let comes : n ≡ run_on first new.seen = run.comes ∙ ap (run_on first) (sym seen) in
    record {
      goes_on = begins;
      told = subst (λ l. IsTold first most before old.processor act l told) (sym seen) is;
      run = subst (λ l. IsRun first most l (run_on first l)) (sym seen) (subst (λ x. IsRun first most later x) run.comes run);
      seat = new_is
          ∙ ap (λ l. noted (booked (saw old l) told.work) (finish_in n) (seeks_holder (stand_of n.state old.processor))) (sym seen)
          ∙ ap (λ x. noted (booked (saw old new.seen) told.work) (finish_in x) (seeks_holder (stand_of x.state old.processor))) comes;
    }

-- if the run has ended, the seat has noted it
pub notes_the_end : (between new : Seated) (finish : ℕ) (due : Bool) → new ≡ noted between finish due → is_set finish ≡ true → new.has_ended ≡ true
notes_the_end between new finish due new_is set = ap (λ s. s.has_ended) new_is ∙ ap (λ (b : Bool). if b then true else between.has_ended) set

-- the turns of a run are as many as it counts
pub turns_within : (first : Situation) (most : ℕ) (turns : List Turn) (m : Situation) (count : ℕ) → IsRun first most turns m → count ≡ m.turns → count < 2 ^ 62 → length turns < 2 ^ 62
turns_within first most turns m count run count_is less = omega (arith, ap (λ x. x.turns) run.comes, count_is, less)
