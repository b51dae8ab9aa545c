-- What comes of what is due: whether it is made, and the state, the turns and the acts left then.
use Rattle.std.proofs.Common.{◌≡◌, ◌<◌, ◌+◌, ◌⊎◌, inl, inr, refl, sym, ap, ◌∙◌, arith, ℕ, Bool, true, false, List, [], ◌∷◌, ◌++◌, length, nat_lt, not}
use Rattle.std.proofs.Common.{◌&&◌, if◌then◌else◌, length-append}
use Rattle.ppm_cells.specs.declared.shape.Shape.{Shape}
use Rattle.ppm_code.specs.declared.code.CodeParts.{CodeParts}
use Rattle.ppm_step.specs.declared.turn.Turn.{Turn}
use Rattle.ppm_step.specs.State.{stand_of, after}
use Rattle.ppm_step.specs.State.{is_done_at}
use Rattle.ppm_choice.proofs.TurnsLemmas.{follow_on}
use Rattle.ppm_choice.specs.Course.{Due, Course, act_of, processor_of, turn_of, is_open, is_made, behind_act, behind, turns_in, behind_all, turns_of}

false_is_not_true : false ≡ true → ⊥
false_is_not_true e = cc

-- three tests that hold
first_holds : (a b c : Bool) → (a && b && c) ≡ true → a ≡ true
first_holds true b c e = refl
first_holds false b c e = e

second_holds : (a b c : Bool) → (a && b && c) ≡ true → b ≡ true
second_holds true true c e = refl
second_holds true false c e = e
second_holds false b c e = absurd (false_is_not_true e)

third_holds : (a b c : Bool) → (a && b && not c) ≡ true → c ≡ false
third_holds a b false e = refl
third_holds true true true e = sym e
third_holds true false true e = sym e
third_holds false b true e = sym e

some_left : (n : ℕ) → nat_lt 0 n ≡ true → 0 < n
some_left n e = grind (arith, e)

module _ (s : Shape) (code : CodeParts) where
  -- it is made: an act is left, it is open, and its processor lives
  pub record Makes (w : Course) (due : Due) : Type 0 where
    pub left : 0 < w.left
    pub is_open : is_open s code w.state due ≡ true
    pub lives : is_done_at (stand_of w.state (processor_of (act_of due))) ≡ false
    pub turns : turns_in s code w due ≡ turn_of s.processors w (act_of due) ∷ []
    pub course : behind s code w due ≡ behind_act s code w (act_of due)

  -- it isn't
  pub record Skips (w : Course) (due : Due) : Type 0 where
    pub why : is_made s code w due ≡ false
    pub turns : turns_in s code w due ≡ []
    pub course : behind s code w due ≡ w

  by_test : (w : Course) (due : Due) (b : Bool) → is_made s code w due ≡ b → Makes w due ⊎ Skips w due
  by_test w due true is = inl (record {
    left =
        some_left w.left
        (first_holds (nat_lt 0 w.left) (is_open s code w.state due) (not (is_done_at (stand_of w.state (processor_of (act_of due))))) is);
    is_open =
        second_holds (nat_lt 0 w.left) (is_open s code w.state due)
        (not (is_done_at (stand_of w.state (processor_of (act_of due))))) is;
    lives = third_holds (nat_lt 0 w.left) (is_open s code w.state due) (is_done_at (stand_of w.state (processor_of (act_of due)))) is;
    turns = ap (λ b. if b then turn_of s.processors w (act_of due) ∷ [] else []) is;
    course = ap (λ b. if b then behind_act s code w (act_of due) else w) is;
  })
  by_test w due false is = inr (record {
    why = is;
    turns = ap (λ b. if b then turn_of s.processors w (act_of due) ∷ [] else []) is;
    course = ap (λ b. if b then behind_act s code w (act_of due) else w) is;
  })

  pub made_or_not : (w : Course) (due : Due) → Makes w due ⊎ Skips w due
  made_or_not w due = by_test w due (is_made s code w due) refl

  -- the state after it is the one after its turn
  state_by : (w : Course) (due : Due) → Makes w due ⊎ Skips w due → (behind s code w due).state ≡ after s code w.state (turns_in s code w due)
  state_by w due (inl m) = ap (λ v. v.state) m.course ∙ sym (ap (after s code w.state) m.turns)
  state_by w due (inr k) = ap (λ v. v.state) k.course ∙ sym (ap (after s code w.state) k.turns)

  pub state_in : (w : Course) (due : Due) → (behind s code w due).state ≡ after s code w.state (turns_in s code w due)
  state_in w due = state_by w due (made_or_not w due)

  pub state_at : (w : Course) (dues : List Due) → (behind_all s code w dues).state ≡ after s code w.state (turns_of s code w dues)
  state_at w [] = refl
  state_at w (due ∷ dues) =
      state_at (behind s code w due) dues
      ∙ ap (λ state. after s code state (turns_of s code (behind s code w due) dues)) (state_in w due)
      ∙ sym (follow_on s code w.state (turns_in s code w due) (turns_of s code (behind s code w due) dues))

  -- each turn is one act less
  left_by : (w : Course) (due : Due) → Makes w due ⊎ Skips w due → length (turns_in s code w due) + (behind s code w due).left ≡ w.left
  left_by w due (inl m) = omega (arith, m.left, ap length m.turns, ap (λ v. v.left) m.course)
  left_by w due (inr k) = omega (arith, ap length k.turns, ap (λ v. v.left) k.course)

  pub left_at : (w : Course) (dues : List Due) → length (turns_of s code w dues) + (behind_all s code w dues).left ≡ w.left
  left_at w [] = omega arith
  left_at w (due ∷ dues) =
      omega (
        arith,
        left_by w due (made_or_not w due),
        left_at (behind s code w due) dues,
        length-append (turns_in s code w due) (turns_of s code (behind s code w due) dues),
      )

  -- a turn of a run: what is due came to the turns before it, and then to this one
  pub record Splits (w : Course) (dues : List Due) (first : List Turn) (turn : Turn) : Type 0 where
    pub before : List Due
    pub due : Due
    pub rest : List Due
    pub dues_are : dues ≡ before ++ (due ∷ rest)
    pub turns_before : turns_of s code w before ≡ first
    pub makes : Makes (behind_all s code w before) due
    pub turn_is : turn ≡ turn_of s.processors (behind_all s code w before) (act_of due)

  no_turn : (first more : List Turn) (turn : Turn) → [] ≡ first ++ (turn ∷ more) → ⊥
  no_turn [] more turn e = omega (arith, ap length e)
  no_turn (t ∷ first) more turn e = omega (arith, ap length e)

  -- the turn of what is due first, and those after it
  same_head : (t u : Turn) (ts us : List Turn) → t ∷ ts ≡ u ∷ us → t ≡ u
  same_head t u ts us e = cc

  same_tail : (t u : Turn) (ts us : List Turn) → t ∷ ts ≡ u ∷ us → ts ≡ us
  same_tail t u ts us e = cc

  -- if it is later in the list, with the turns of the first in front
  later : (w : Course) (due : Due) (dues : List Due) (front first : List Turn) (turn : Turn)
      → turns_in s code w due ≡ front → Splits (behind s code w due) dues first turn → Splits w (due ∷ dues) (front ++ first) turn
  later w due dues front first turn is p = record {
    before = due ∷ p.before;
    due = p.due;
    rest = p.rest;
    dues_are = ap (λ ds. due ∷ ds) p.dues_are;
    turns_before =
        ap (λ ts. ts ++ turns_of s code (behind s code w due) p.before) is ∙ ap (λ ts. front ++ ts) p.turns_before;
    makes = p.makes;
    turn_is = p.turn_is;
  }

  by_first : (w : Course) (due : Due) (dues : List Due) (first more : List Turn) (turn : Turn) → Makes w due ⊎ Skips w due
      → ((front more : List Turn) → turns_of s code (behind s code w due) dues ≡ front ++ (turn ∷ more)
      → Splits (behind s code w due) dues front turn)
      → turns_in s code w due ++ turns_of s code (behind s code w due) dues ≡ first ++ (turn ∷ more) → Splits w (due ∷ dues) first turn
  by_first w due dues first more turn (inr k) go e =
      later w due dues [] first turn k.turns (go first more (ap (λ ts. ts ++ turns_of s code (behind s code w due) dues) (sym k.turns) ∙ e))
  by_first w due dues [] more turn (inl m) go e = record {
    before = [];
    due = due;
    rest = dues;
    dues_are = refl;
    turns_before = refl;
    makes = m;
    turn_is =
        sym (same_head (turn_of s.processors w (act_of due)) turn (turns_of s code (behind s code w due) dues) more
        (ap (λ ts. ts ++ turns_of s code (behind s code w due) dues) (sym m.turns) ∙ e));
  }
  by_first w due dues (t ∷ first) more turn (inl m) go e =
      let whole = ap (λ ts. ts ++ turns_of s code (behind s code w due) dues) (sym m.turns) ∙ e in
      let head = same_head (turn_of s.processors w (act_of due)) t (turns_of s code (behind s code w due) dues) (first ++ (turn ∷ more)) whole in
      let tail = same_tail (turn_of s.processors w (act_of due)) t (turns_of s code (behind s code w due) dues) (first ++ (turn ∷ more)) whole in
      later w due dues (t ∷ []) first turn (m.turns ∙ ap (λ u. u ∷ []) head) (go first more tail)

  pub splits : (w : Course) (dues : List Due) (first more : List Turn) (turn : Turn)
      → turns_of s code w dues ≡ first ++ (turn ∷ more) → Splits w dues first turn
  splits w [] first more turn e = absurd (no_turn first more turn e)
  splits w (due ∷ dues) first more turn e =
      by_first w due dues first more turn (made_or_not w due) (λ front more. splits (behind s code w due) dues front more turn) e
