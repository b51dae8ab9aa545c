-- The looks of a processor in turns, by their number; and which places looks that follow each other name.
use Rattle.std.proofs.Common.{◌≡◌, ◌⊎◌, ◌≤◌, ◌<◌, ◌+◌, ◌*◌, ◌-◌, ◌%◌, ◌==◌, ◌&&◌, if◌then◌else◌, ℕ, zero, suc, Bool, true, false, List, [], ◌∷◌, ◌++◌}
use Rattle.std.proofs.Common.{length, inl, inr, refl, sym, ap, ◌∙◌, arith, length-append}
use Rattle.std.proofs.lemmas.Bool.{cases_eq, cases_lt, eq-eqb, eqb-true, true≢false}
use Rattle.std.proofs.lemmas.Nat.{mod-mul-add}
use Rattle.ppm_cells.specs.declared.shape.Shape.{Shape}
use Rattle.ppm_code.specs.declared.code.CodeParts.{CodeParts}
use Rattle.ppm_step.specs.State.{State as RunState, stand_of, happens, after, along, is_step, seeks_holder, draws}
use Rattle.ppm_step.specs.declared.turn.Act.TheVariants.{Step}
use Rattle.ppm_step.specs.declared.turn.Turn.{Turn}
use Rattle.ppm_choice.specs.ScheduleLaws.{load_of, loads_made}
use Rattle.ppm_choice.proofs.TurnsLemmas.{tell_on}
use Rattle.ppm_takeover.specs.Looks.{IsLooking, StepsFrom}

both_true : (a b : Bool) → (a && b) ≡ true → (a ≡ true) × (b ≡ true)
both_true true b e = (refl, e)
both_true false b e = absurd (true≢false (sym e))

times_more : (q n : ℕ) → suc q * n ≡ n + q * n
times_more q n = grind arith

times_none : (n : ℕ) → 0 * n ≡ 0
times_none n = grind arith

-- whole turns round, and what is left
parts : (n a : ℕ) → 0 < n → (q : ℕ) × (r : ℕ) × (a ≡ q * n + r) × (r < n)
parts n zero some = (0, 0, let none = times_none n in omega (arith, none), some)
parts n (suc a) some =
    let before = parts n a some in
    let q = before.0 in
    let r = before.1 in
    let is = before.2 in
    let lt = before.3 in
    elim (cases_lt (r + 1) n) [
      | inl less ↦ (q, r + 1, omega (arith, is), less)
      | inr last ↦ let more = times_more q n in (suc q, 0, omega (arith, is, last, lt, more), some)
    ]

-- of so many numbers in a row one leaves each
pub named : (n a p : ℕ) → p < n → (j : ℕ) × (j < n) × ((a + j) % n ≡ p)
named n a p lt =
    let some : 0 < n = omega (arith, lt) in
    let at = parts n a some in
    let q = at.0 in
    let r = at.1 in
    let is = at.2 in
    let few = at.3 in
    elim (cases_lt p r) [
      | inl less ↦
          let more = times_more q n in
          let sum : a + (p + n - r) ≡ suc q * n + p = omega (arith, is, few, less, more) in
          (p + n - r, omega (arith, less, few), ap (λ (x : ℕ). x % n) sum ∙ mod-mul-add (suc q) n p lt)
      | inr le ↦
          let sum : a + (p - r) ≡ q * n + p = omega (arith, is, le) in
          (p - r, omega (arith, lt), ap (λ (x : ℕ). x % n) sum ∙ mod-mul-add q n p lt)
    ]

module _ (s : Shape) (code : CodeParts) (c : ℕ) where
  abbrev loads : RunState → List Turn → ℕ
  loads state turns = loads_made s code c state turns

  pub loads_both : (state : RunState) (first more : List Turn) → loads state (first ++ more) ≡ loads state first + loads (after s code state first) more
  loads_both state first more =
      ap length (tell_on s code (load_of c) state first more)
      ∙ length-append (along s code (load_of c) state first) (along s code (load_of c) (after s code state first) more)

  -- a turn that is such a look
  pub record IsLoad (state : RunState) (turn : Turn) : Type 0 where
    pub own : turn.processor ≡ c
    pub step : is_step turn.act ≡ true
    pub seeks : seeks_holder (stand_of state c) ≡ true

  told_of : (state : RunState) (turn : Turn) → (load_of c state turn ≡ []) ⊎ ((load_of c state turn ≡ c ∷ []) × IsLoad state turn)
  told_of state turn = by (turn.processor == c) refl (draws turn.act (stand_of state turn.processor)) refl
    where
      by : (y : Bool) → (turn.processor == c) ≡ y → (z : Bool) → draws turn.act (stand_of state turn.processor) ≡ z
          → (load_of c state turn ≡ []) ⊎ ((load_of c state turn ≡ c ∷ []) × IsLoad state turn)
      by false e z f = inl (ap (λ (y : Bool). if y then (if draws turn.act (stand_of state turn.processor) then c ∷ [] else []) else []) e)
      by true e false f =
          inl (ap (λ (y : Bool). if y then (if draws turn.act (stand_of state turn.processor) then c ∷ [] else []) else []) e
          ∙ ap (λ (y : Bool). if y then c ∷ [] else []) f)
      by true e true f =
          let own = eqb-true turn.processor c e in
          let two = both_true (is_step turn.act) (seeks_holder (stand_of state turn.processor)) f in
          inr (
            ap (λ (y : Bool). if y then (if draws turn.act (stand_of state turn.processor) then c ∷ [] else []) else []) e
                ∙ ap (λ (y : Bool). if y then c ∷ [] else []) f,
            record { own = own; step = two.0; seeks = ap (λ (q : ℕ). seeks_holder (stand_of state q)) (sym own) ∙ two.1 },
          )

  -- the look of this number
  pub record Load (state : RunState) (turns : List Turn) (j : ℕ) : Type 0 where
    pub before : List Turn
    pub turn : Turn
    pub rest : List Turn
    pub turns_are : turns ≡ before ++ turn ∷ rest
    pub is : IsLoad (after s code state before) turn
    pub count : loads state before ≡ j

  later : (state : RunState) (one : Turn) (turns : List Turn) (j k : ℕ) → k ≡ length (load_of c state one) + j → Load (happens s code state one) turns j
      → Load state (one ∷ turns) k
  later state one turns j k e load = record {
    before = one ∷ load.before;
    turn = load.turn;
    rest = load.rest;
    turns_are = ap (λ (l : List Turn). one ∷ l) load.turns_are;
    is = load.is;
    count = loads_both state (one ∷ []) load.before ∙ by;
  }
    where
      by : loads state (one ∷ []) + loads (happens s code state one) load.before ≡ k
      by =
          let here : loads state (one ∷ []) ≡ length (load_of c state one ++ []) = refl in
          let sum = length-append (load_of c state one) [] in
          let none : length {A = ℕ} [] ≡ 0 = refl in
          let count = load.count in
          omega (arith, here, sum, none, count, e)

  pub find_load : (turns : List Turn) (state : RunState) (j : ℕ) → j < loads state turns → Load state turns j
  find_load [] state j lt = absurd (let none : loads state [] ≡ 0 = refl in omega (arith, lt, none))
  find_load (one ∷ turns) state j lt = elim (told_of state one) [
    | inl none ↦
        let none_ : length (load_of c state one) ≡ 0 = ap length none in
        later state one turns j j (omega (arith, none_)) (find_load turns (happens s code state one) j (omega (arith, lt, whole, sum, none_)))
    | inr some ↦
        let one_ : length (load_of c state one) ≡ 1 = ap length some.0 in
        elim (cases_eq j 0) [
          | inl first ↦ record { before = []; turn = one; rest = turns; turns_are = refl; is = some.1; count = sym first }
          | inr ne ↦
              later state one turns (j - 1) j (omega (arith, one_, ne))
              (find_load turns (happens s code state one) (j - 1) (omega (arith, lt, whole, sum, one_, ne)))
        ]
  ]
    where
      whole : loads state (one ∷ turns) ≡ length (load_of c state one ++ along s code (load_of c) (happens s code state one) turns)
      whole = refl

      sum : length (load_of c state one ++ along s code (load_of c) (happens s code state one) turns)
          ≡ length (load_of c state one) + loads (happens s code state one) turns
      sum = length-append (load_of c state one) (along s code (load_of c) (happens s code state one) turns)

  -- a look is counted
  pub look_counts : (n : ℕ) (state : RunState) (turns : List Turn) → StepsFrom s code IsLooking c n state turns → 1 ≤ loads state turns
  look_counts n state turns from =
      let turn : Turn = record { processor = c; act = Step from.victim } in
      let there = after s code state from.before in
      let split = ap (loads state) from.turns_are ∙ loads_both state from.before (turn ∷ from.rest) in
      let later_ = along s code (load_of c) (happens s code there turn) from.rest in
      let told : load_of c there turn ≡ c ∷ [] =
      ap (λ (y : Bool). if y then (if draws (Step from.victim) (stand_of there c) then c ∷ [] else []) else []) (eq-eqb c c refl)
      ∙ ap (λ (y : Bool). if y then c ∷ [] else []) from.stands in
      let is = ap (λ (l : List ℕ). length (l ++ later_)) told in
      let whole : loads there (turn ∷ from.rest) ≡ length (load_of c there turn ++ later_) = refl in
      let sum = length-append (c ∷ []) later_ in
      let one : length (c ∷ []) ≡ 1 = refl in
      omega (arith, split, is, whole, sum, one)
