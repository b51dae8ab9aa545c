-- Where all obey a plan each fault is one that it has for that act of the processor, and no two acts of one processor have the same number.
use Rattle.std.proofs.Common.{◌≡◌, ◌≤◌, ◌<◌, ℕ, zero, suc, ◌+◌, ◌^◌, ◌==◌, ◌&&◌, ◌||◌, nat_lt, nat_le, Bool, true, false, if◌then◌else◌, List, [], ◌∷◌, ◌++◌, length, Some, None, inl, inr, refl, sym, ap, ◌∙◌, subst, arith}
use Rattle.std.specs.List.{AllByRecursion, list_any}
use Rattle.std.proofs.lemmas.Bool.{cases_lt, eqb-true, eq-eqb, or_cases}
use Rattle.std.proofs.lemmas.List.{length-append}
use Rattle.std.proofs.lemmas.List.Elements.{recursion_from_All}
use Rattle.ppm_cells.specs.Memory.{read}
use Rattle.ppm_cells.specs.Restart.{restart_of}
use Rattle.ppm_cells.specs.declared.cell.Cell.TheVariants.{RestartWord}
use Rattle.ppm_cells.specs.declared.shape.Shape.{Shape}
use Rattle.ppm_code.specs.declared.code.CodeParts.{CodeParts}
use Rattle.ppm_core.specs.Situation.{Situation}
use Rattle.ppm_plan.specs.declared.fault.Fault.TheVariants as faults
use Rattle.ppm_plan.specs.declared.plan_item.PlanItem.{PlanItem}
use Rattle.ppm_plan.specs.Faults.{is_at, is_hard_at}
use Rattle.ppm_plan.specs.Forms.{is_hard}
use Rattle.ppm_plan.specs.Schedules.{Planned}
use Rattle.ppm_step.specs.Among.{IsTurnAmong}
use Rattle.ppm_step.specs.Standings.{Standing}
use Rattle.ppm_step.specs.State.{State, stand_of, happens, after, along, next_of, is_work_next}
use Rattle.ppm_step.specs.declared.turn.Act.{Act}
use Rattle.ppm_step.specs.declared.turn.Act.TheVariants.{Step, Soft, Hard, Quit}
use Rattle.ppm_step.specs.declared.turn.Turn.{Turn}
use Rattle.ppm_step.specs.declared.turn.Why.TheVariants.{Turns}
use Rattle.ppm_paces.specs.Paces.{strikes_of}
use Rattle.ppm_choice.specs.Deeds.{Deed, deeds_of}
use Rattle.ppm_choice.specs.Obeying.{Past, nothing_done, ObeyAll, Obeys, faulted, behind, awake, next_act}
use Rattle.ppm_choice.specs.declared.limits.Limits.{Limits}
use Rattle.ppm_choice.proofs.ParkLemmas.{awake_acts}
use Rattle.ppm_runs.specs.Deques.{one_if}
use Rattle.ppm_runs.proofs.SumLemmas.{sum, sum_le, sum_plus, sum_same, sum_zero}
use Rattle.ppm_runs.specs.Work.{undone_of}
use Rattle.ppm_outcomes.specs.Meant.{is_fault}
use Rattle.ppm_outcomes.specs.Strikes.{fault_count, StrikesArePlanned, UndoneArePlanned}
use Rattle.ppm_outcomes.proofs.FaultLemmas.{strike_faults, undone_faults}

-- how many there are among acts
abbrev faults_among : List Deed → ℕ
faults_among [] = 0
faults_among (deed ∷ deeds) = one_if (is_fault deed.act) + faults_among deeds

-- Of one processor: its faults are of turns for which the plan has one.
module _ (items : List PlanItem) where
  abbrev has_at : (processor turn : ℕ) → ℕ
  has_at c turn = one_if (list_any (is_at c turn) items)

any_hard : (c turn : ℕ) (items : List PlanItem) → list_any (is_hard_at c turn) items ≡ true → list_any (is_at c turn) items ≡ true
any_hard c turn [] e = e
any_hard c turn (item ∷ items) e = by (is_at c turn item) refl (any_hard c turn items)
  where
    hard_is : (a b h : Bool) → (a && b && h) ≡ true → (a && b) ≡ true
    hard_is true true h e = refl
    hard_is true false h e = cc
    hard_is false b h e = cc

    by : (b : Bool) → is_at c turn item ≡ b → (list_any (is_hard_at c turn) items ≡ true → list_any (is_at c turn) items ≡ true)
        → (b || list_any (is_at c turn) items) ≡ true
    by true is more = refl
    by false is more = elim (or_cases (is_hard_at c turn item) (list_any (is_hard_at c turn) items) e) [
      | inl hard ↦ absurd (
          let z : true ≡ false = sym (hard_is (item.processor == c) (item.turn == turn) (is_hard item.fault) hard) ∙ is in cc)
      | inr rest ↦ more rest
    ]

module _ (plan : Planned) (limits : Limits) (c : ℕ) where
  fault_planned : (past : Past) (stood : Standing) → one_if (is_fault (next_act plan limits c past stood)) ≤ has_at plan.items c past.acts
  fault_planned past stood = by (nat_lt past.acts (2 ^ 32)) (list_any (is_hard_at c past.acts) plan.items) (list_any (is_at c past.acts) plan.items) refl refl
      (is_work_next (next_of stood) && nat_le limits.turns past.work) _
    where
      free : (b : Bool) (v : ℕ) → one_if (is_fault (if b then Quit Turns else Step v)) ≡ 0
      free true v = refl
      free false v = refl

      none : (b full : Bool) (v : ℕ) → one_if (is_fault (if full then Quit Turns else Step v)) ≤ one_if b
      none b full v = let z = free full v in omega (arith, z)

      by : (less hard any : Bool) → list_any (is_hard_at c past.acts) plan.items ≡ hard → list_any (is_at c past.acts) plan.items ≡ any
          → (full : Bool) (v : ℕ)
          → one_if (is_fault (faulted (if less then (if hard then Some faults.Hard else (if any then Some faults.Soft else None)) else None)
          (if full then Quit Turns else Step v))) ≤ one_if any
      by true true true h a full v = omega arith
      by true true false h a full v = absurd (let z : true ≡ false = sym (any_hard c past.acts plan.items h) ∙ a in cc)
      by true false true h a full v = omega arith
      by true false false h a full v = none false full v
      by false hard any h a full v = none any full v

  pub faults_planned : (past : Past) (deeds : List Deed) (stands : Standing) → Obeys plan limits c past deeds stands
      → faults_among deeds + sum past.acts (has_at plan.items c) ≤ sum (past.acts + length deeds) (has_at plan.items c)
  faults_planned past [] stands obeys =
      let same : sum (past.acts + 0) (has_at plan.items c) ≡ sum past.acts (has_at plan.items c) =
      ap (λ (n : ℕ). sum n (has_at plan.items c)) (plus_none past.acts) in omega (arith, same)
    where
      plus_none : (n : ℕ) → n + 0 ≡ n
      plus_none n = omega arith
  faults_planned past (deed ∷ deeds) stands obeys =
      let next = behind (awake plan limits c past deed.stood) deed in
      let acts : next.acts ≡ suc past.acts = ap (λ (n : ℕ). n + 1) (awake_acts plan limits c past deed.stood) ∙ plus_one past.acts in
      let rest = faults_planned next deeds stands obeys.2 in
      let here : sum next.acts (has_at plan.items c) ≡ has_at plan.items c past.acts + sum past.acts (has_at plan.items c) =
      ap (λ (n : ℕ). sum n (has_at plan.items c)) acts in
      let there : sum (next.acts + length deeds) (has_at plan.items c) ≡ sum (past.acts + suc (length deeds)) (has_at plan.items c) =
      ap (λ (n : ℕ). sum n (has_at plan.items c)) (ap (λ (n : ℕ). n + length deeds) acts ∙ plus_suc past.acts (length deeds)) in
      let one = subst (λ (a : Act). one_if (is_fault a) ≤ has_at plan.items c past.acts) (sym obeys.1) (fault_planned past deed.stood) in
      omega (arith, rest, here, there, one)
    where
      plus_one : (n : ℕ) → n + 1 ≡ suc n
      plus_one n = omega arith

      plus_suc : (n m : ℕ) → suc n + m ≡ n + suc m
      plus_suc n m = omega arith

-- more turns have no fewer
sum_most : (n m : ℕ) (f : ℕ → ℕ) → n ≤ m → sum n f ≤ sum m f
sum_most zero m f le = omega arith
sum_most (suc n) zero f le = absurd (omega (arith, le))
sum_most (suc n) (suc m) f le = elim (cases_lt n m) [
  | inl less ↦ let rest = sum_most (suc n) m f (omega (arith, less)) in omega (arith, rest)
  | inr least ↦
      let e : n ≡ m = omega (arith, le, least) in
      let same : sum n f ≡ sum m f = ap (λ (k : ℕ). sum k f) e in
      let one : f n ≡ f m = ap f e in
      omega (arith, same, one)
]

-- Of all: the plan's faults, counted by processors and turns, are as many as it has.
module _ (p turn : ℕ) where
  abbrev here : (processor turn : ℕ) → Bool
  here c at = (p == c) && (turn == at)

  turns_one : (b : Bool) (n : ℕ) → sum n (λ at. one_if (b && (turn == at))) ≤ one_if b
  turns_one false n = let none = sum_zero n (λ at. one_if (false && (turn == at))) (λ at. refl) in omega (arith, none)
  turns_one true zero = omega arith
  turns_one true (suc n) = by (turn == n) refl (turns_one true n)
    where
      other : (at : ℕ) → at < n → turn ≡ n → one_if (turn == at) ≡ 0
      other at less e = go (turn == at) refl
        where
          go : (b : Bool) → (turn == at) ≡ b → one_if b ≡ 0
          go false is = refl
          go true is = absurd (let same = eqb-true turn at is in omega (arith, same, e, less))

      by : (b : Bool) → (turn == n) ≡ b → sum n (λ at. one_if (true && (turn == at))) ≤ 1 → one_if b + sum n (λ at. one_if (true && (turn == at))) ≤ 1
      by false is le = omega (arith, le)
      by true is le =
          let none = sum_same n (λ at. 0) (λ at. one_if (turn == at)) (λ at less. other at less (eqb-true turn n is)) in
          let zero_ = sum_zero n (λ at. 0) (λ at. refl) in omega (arith, none, zero_)

  places_one : (n : ℕ) → sum n (λ c. one_if (p == c)) ≤ 1
  places_one zero = omega arith
  places_one (suc n) = by (p == n) refl (places_one n)
    where
      other : (c : ℕ) → c < n → p ≡ n → one_if (p == c) ≡ 0
      other c less e = go (p == c) refl
        where
          go : (b : Bool) → (p == c) ≡ b → one_if b ≡ 0
          go false is = refl
          go true is = absurd (let same = eqb-true p c is in omega (arith, same, e, less))

      by : (b : Bool) → (p == n) ≡ b → sum n (λ c. one_if (p == c)) ≤ 1 → one_if b + sum n (λ c. one_if (p == c)) ≤ 1
      by false is le = omega (arith, le)
      by true is le =
          let none = sum_same n (λ c. 0) (λ c. one_if (p == c)) (λ c less. other c less (eqb-true p n is)) in
          let zero_ = sum_zero n (λ c. 0) (λ c. refl) in omega (arith, none, zero_)

  pub here_once : (n m : ℕ) → sum n (λ c. sum m (λ at. one_if (here c at))) ≤ 1
  here_once n m =
      let each = sum_le n (λ c. sum m (λ at. one_if (here c at))) (λ c. one_if (p == c)) (λ c less. turns_one (p == c) m) in
      let all = places_one n in
      omega (arith, each, all)

pub planned_count : (items : List PlanItem) (n m : ℕ) → sum n (λ c. sum m (has_at items c)) ≤ fault_count items
planned_count [] n m = let all = sum_zero n (λ c. sum m (has_at [] c)) (λ c. sum_zero m (has_at [] c) (λ at. refl)) in omega (arith, all)
planned_count (item ∷ items) n m = by (list_any (is_at item.processor item.turn) items) refl (planned_count items n m)
  where
    Here : ℕ → ℕ → ℕ
    Here c at = one_if (here item.processor item.turn c at)

    or_less : (a b : Bool) → one_if (a || b) ≤ one_if b + one_if a
    or_less true b = omega arith
    or_less false b = omega arith

    -- one that another item has is no more
    again : (c at : ℕ) → list_any (is_at item.processor item.turn) items ≡ true → has_at (item ∷ items) c at ≤ has_at items c at
    again c at is = go (item.processor == c) (item.turn == at) refl refl
      where
        go : (a b : Bool) → (item.processor == c) ≡ a → (item.turn == at) ≡ b → one_if ((a && b) || list_any (is_at c at) items) ≤ has_at items c at
        go true true x y =
            let there : list_any (is_at c at) items ≡ true = ap (λ (q : ℕ). list_any (is_at q at) items) (sym (eqb-true item.processor c x))
            ∙ ap (λ (q : ℕ). list_any (is_at item.processor q) items) (sym (eqb-true item.turn at y)) ∙ is in
            let one : has_at items c at ≡ 1 = ap one_if there in
            omega (arith, one)
        go true false x y = omega arith
        go false b x y = omega arith

    by : (b : Bool) → list_any (is_at item.processor item.turn) items ≡ b → sum n (λ c. sum m (has_at items c)) ≤ fault_count items
        → sum n (λ c. sum m (has_at (item ∷ items) c)) ≤ (if b then 0 else 1) + fault_count items
    by true is rest =
        let le = sum_le n (λ c. sum m (has_at (item ∷ items) c)) (λ c. sum m (has_at items c)) (λ c less.
        sum_le m (has_at (item ∷ items) c) (has_at items c) (λ at few. again c at is)) in
        omega (arith, le, rest)
    by false is rest =
        let le = sum_le n (λ c. sum m (has_at (item ∷ items) c)) (λ c. sum m (has_at items c) + sum m (Here c)) (λ c less.
        (let one = sum_le m (has_at (item ∷ items) c) (λ at. has_at items c at + Here c at) (λ at few.
        or_less (is_at c at item) (list_any (is_at c at) items)) in
        let two = sum_plus m (has_at items c) (Here c) in omega (arith, one, two))) in
        let two = sum_plus n (λ c. sum m (has_at items c)) (λ c. sum m (Here c)) in
        let once = here_once item.processor item.turn n m in
        omega (arith, le, two, once, rest)

-- what one processor has is what all have of its own turns
one_there : (p n : ℕ) (b : Bool) → p < n → one_if b ≤ sum n (λ c. one_if ((p == c) && b))
one_there p zero b less = absurd (omega (arith, less))
one_there p (suc n) b less = by (p == n) refl (one_there p n b)
  where
    by : (q : Bool) → (p == n) ≡ q → (p < n → one_if b ≤ sum n (λ c. one_if ((p == c) && b)))
        → one_if b ≤ one_if (q && b) + sum n (λ c. one_if ((p == c) && b))
    by true is more = omega arith
    by false is more = elim (cases_lt p n) [
      | inl still ↦ let rest = more still in omega (arith, rest)
      | inr last ↦ absurd (let z : true ≡ false = sym (eq-eqb p n (omega (arith, less, last))) ∙ is in cc)
    ]

module _ (s : Shape) (code : CodeParts) where
  deeds_first : (c : ℕ) (state : State) (turn : Turn) (turns : List Turn)
      → faults_among (deeds_of s code c state (turn ∷ turns))
      ≡ one_if ((turn.processor == c) && is_fault turn.act) + faults_among (deeds_of s code c (happens s code state turn) turns)
  deeds_first c state turn turns = by (turn.processor == c)
    where
      rest : List Deed
      rest = deeds_of s code c (happens s code state turn) turns

      by : (b : Bool) → faults_among ((if b then record { stood = stand_of state c; act = turn.act } ∷ [] else []) ++ rest)
          ≡ one_if (b && is_fault turn.act) + faults_among rest
      by true = refl
      by false = omega arith

  deeds_few : (c : ℕ) (state : State) (turns : List Turn) → length (deeds_of s code c state turns) ≤ length turns
  deeds_few c state [] = omega arith
  deeds_few c state (turn ∷ turns) = by (turn.processor == c) (deeds_few c (happens s code state turn) turns)
    where
      rest : List Deed
      rest = deeds_of s code c (happens s code state turn) turns

      by : (b : Bool) → length rest ≤ length turns
          → length ((if b then record { stood = stand_of state c; act = turn.act } ∷ [] else []) ++ rest) ≤ suc (length turns)
      by true le = omega (arith, le)
      by false le = omega (arith, le)

  -- turns that are told of faults alone are no more than the faults of all
  module _ (told : State → Turn → List ℕ) (few : (state : State) (turn : Turn) → length (told state turn) ≤ one_if (is_fault turn.act)) where
    told_within : (n : ℕ) (state : State) (turns : List Turn) → AllByRecursion (IsTurnAmong n) turns
        → length (along s code told state turns) ≤ sum n (λ c. faults_among (deeds_of s code c state turns))
    told_within n state [] among = omega arith
    told_within n state (turn ∷ turns) among =
        let rest = told_within n (happens s code state turn) turns among.1 in
        let both = length-append (told state turn) (along s code told (happens s code state turn) turns) in
        let one = few state turn in
        let mine = one_there turn.processor n (is_fault turn.act) among.0.processor in
        let all = sum_same n
        (λ c. one_if ((turn.processor == c) && is_fault turn.act) + faults_among (deeds_of s code c (happens s code state turn) turns))
        (λ c. faults_among (deeds_of s code c state (turn ∷ turns))) (λ c less. deeds_first c state turn turns) in
        let two = sum_plus n (λ c. one_if ((turn.processor == c) && is_fault turn.act))
        (λ c. faults_among (deeds_of s code c (happens s code state turn) turns)) in
        omega (arith, rest, both, one, mine, all, two)

module _ (plan : Planned) (limits : Limits) (m : Situation) (turns : List Turn) (obey : ObeyAll plan limits m.shape m.code m.state turns) where
  abbrev deeds : ℕ → List Deed
  deeds c = deeds_of m.shape m.code c m.state turns

  none_plus : (n : ℕ) → 0 + n ≡ n
  none_plus n = omega arith

  -- and so no more than the plan has
  told_planned : (told : State → Turn → List ℕ) → ((state : State) (turn : Turn) → length (told state turn) ≤ one_if (is_fault turn.act))
      → length (along m.shape m.code told m.state turns) ≤ fault_count plan.items
  told_planned told few =
      let some = told_within m.shape m.code told few m.shape.processors m.state turns
      (recursion_from_All (IsTurnAmong m.shape.processors) turns obey.among) in
      let each = sum_le m.shape.processors (λ c. faults_among (deeds c)) (λ c. sum (length turns) (has_at plan.items c)) (λ c less.
      (let some = faults_planned plan limits c nothing_done (deeds c) (stand_of (after m.shape m.code m.state turns) c) (obey.obeys c less) in
      let more = sum_most (length (deeds c)) (length turns) (has_at plan.items c) (deeds_few m.shape m.code c m.state turns) in
      let same : sum (0 + length (deeds c)) (has_at plan.items c) ≡ sum (length (deeds c)) (has_at plan.items c) =
      ap (λ (k : ℕ). sum k (has_at plan.items c)) (none_plus (length (deeds c))) in
      omega (arith, some, more, same))) in
      let count = planned_count plan.items m.shape.processors (length turns) in
      omega (arith, some, each, count)

pub strikes_are_planned : StrikesArePlanned
strikes_are_planned plan limits m turns obey =
    told_planned plan limits m turns obey strikes_of (λ state turn. strike_faults turn.act (stand_of state turn.processor) turn.processor)

pub undone_are_planned : UndoneArePlanned
undone_are_planned plan limits m turns obey =
    told_planned plan limits m turns obey (undone_of m.shape) (λ state turn.
    undone_faults m.shape.takeover turn.act (stand_of state turn.processor)
    (restart_of (read m.shape state.words (RestartWord turn.processor))) turn.processor)
