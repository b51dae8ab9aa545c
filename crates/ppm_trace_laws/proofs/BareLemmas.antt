-- A turn without a victim that nobody asks for: its line is the same, and it makes the same.
use Rattle.std.proofs.Common.{◌≡◌, ◌∙◌, ℕ, ◌+◌, if◌then◌else◌, Bool, true, false, List, [], ◌∷◌, ◌++◌, length, slice_set, refl, sym, ap}
use Rattle.std.specs.List.{flat_map}
use Rattle.ppm_cells.specs.declared.shape.Shape.{Shape}
use Rattle.ppm_code.specs.declared.code.CodeParts.{CodeParts}
use Rattle.ppm_core.specs.Situation.{Situation, turned}
use Rattle.ppm_lines.specs.Line.{field, line_text, row_fields, scene_of, who_fields}
use Rattle.ppm_lines.specs.Marks.{marks_at}
use Rattle.ppm_lines.specs.MarkTexts.{mark_text}
use Rattle.ppm_lines.specs.Parts.{part_asked}
use Rattle.ppm_lines.specs.Scene.{Scene}
use Rattle.ppm_lines.specs.Texts.{before, done_text, made_text, part_kind, part_text, stores_link}
use Rattle.ppm_naming.specs.declared.names.Names.{Names}
use Rattle.ppm_step.specs.Standings.{Standing, IsLost, IsPlaced, IsAt, IsWithin, IsRunning, IsBroken, IsDone, wanted, went}
use Rattle.ppm_step.specs.State.{State, acts, forks_of, found_in, seeks_holder, stand_of, takes_of, work_of, words_after}
use Rattle.ppm_step.specs.Told.{place_of}
use Rattle.ppm_step.specs.declared.ask.Want.{Want}
use Rattle.ppm_step.specs.declared.row.Point.TheVariants.{Header, BumpLink, PushOrder, PushAbove, PushBottom, UnwindLink, UnwindOutcome, Target}
use Rattle.ppm_step.specs.declared.row.Point.TheVariants.{GivenValue, JoinOrder, JoinLink, JoinLeft, JoinRight, RightFrame, Offset, PopBelow}
use Rattle.ppm_step.specs.declared.row.Point.TheVariants.{PopAgain, PopAbove, SeekHolder, SeekDead, SeekTop, SeekEntry, SeekClosed, StealMessage}
use Rattle.ppm_step.specs.declared.row.Point.TheVariants.{TakenMessage, TakenEntry, ClosedRestart, ClosedLink, ClosedBottom, BidMessage, BidAgain, BidHolder}
use Rattle.ppm_step.specs.declared.row.Row.TheVariants.{Now, Store, Exchange}
use Rattle.ppm_step.specs.declared.row.Then.TheVariants.{Load, Install, Fork, Begin, Move, Enter, Again, Broken}
use Rattle.ppm_step.specs.declared.turn.Act.{Act}
use Rattle.ppm_step.specs.declared.turn.Act.TheVariants.{Step, Soft, Hard, Quit}
use Rattle.ppm_step.specs.declared.turn.Turn.{Turn}
use Rattle.ppm_step.proofs.VictimLemmas.{any_victim}
use Rattle.ppm_trace_laws.specs.Runs.{bare, bare_act}

-- elsewhere than at the load of a holder word it doesn't matter which victim a turn names
any_want : (s : Shape) (own v w : ℕ) (standing : Standing) → seeks_holder standing ≡ false
    → wanted s own v standing ≡ wanted s own w standing
any_want s own v w IsLost e = refl
any_want s own v w (IsPlaced place) e = refl
any_want s own v w (IsAt place restart) e = refl
any_want s own v w (IsWithin seat (Now (Load (Header a0 a1)))) e = refl
any_want s own v w (IsWithin seat (Now (Load (BumpLink a0)))) e = refl
any_want s own v w (IsWithin seat (Now (Load (PushOrder a0)))) e = refl
any_want s own v w (IsWithin seat (Now (Load (PushAbove a0)))) e = refl
any_want s own v w (IsWithin seat (Now (Load (PushBottom a0)))) e = refl
any_want s own v w (IsWithin seat (Now (Load (UnwindLink a0)))) e = refl
any_want s own v w (IsWithin seat (Now (Load (UnwindOutcome a0 a1)))) e = refl
any_want s own v w (IsWithin seat (Now (Load (Target a0 a1 a2 a3)))) e = refl
any_want s own v w (IsWithin seat (Now (Load (GivenValue a0 a1 a2 a3 a4)))) e = refl
any_want s own v w (IsWithin seat (Now (Load (JoinOrder a0 a1)))) e = refl
any_want s own v w (IsWithin seat (Now (Load (JoinLink a0)))) e = refl
any_want s own v w (IsWithin seat (Now (Load (JoinLeft a0 a1 a2)))) e = refl
any_want s own v w (IsWithin seat (Now (Load (JoinRight a0 a1 a2 a3)))) e = refl
any_want s own v w (IsWithin seat (Now (Load (RightFrame a0 a1 a2)))) e = refl
any_want s own v w (IsWithin seat (Now (Load (Offset a0 a1)))) e = refl
any_want s own v w (IsWithin seat (Now (Load PopBelow))) e = refl
any_want s own v w (IsWithin seat (Now (Load (PopAgain a0)))) e = refl
any_want s own v w (IsWithin seat (Now (Load (PopAbove a0)))) e = refl
any_want s own v w (IsWithin seat (Now (Load SeekHolder))) e = cc
any_want s own v w (IsWithin seat (Now (Load (SeekDead a0 a1)))) e = refl
any_want s own v w (IsWithin seat (Now (Load (SeekTop a0)))) e = refl
any_want s own v w (IsWithin seat (Now (Load (SeekEntry a0 a1)))) e = refl
any_want s own v w (IsWithin seat (Now (Load (SeekClosed a0 a1 a2)))) e = refl
any_want s own v w (IsWithin seat (Now (Load (StealMessage a0 a1)))) e = refl
any_want s own v w (IsWithin seat (Now (Load (TakenMessage a0 a1 a2)))) e = refl
any_want s own v w (IsWithin seat (Now (Load (TakenEntry a0 a1 a2 a3)))) e = refl
any_want s own v w (IsWithin seat (Now (Load (ClosedRestart a0 a1 a2)))) e = refl
any_want s own v w (IsWithin seat (Now (Load (ClosedLink a0)))) e = refl
any_want s own v w (IsWithin seat (Now (Load (ClosedBottom a0 a1 a2)))) e = refl
any_want s own v w (IsWithin seat (Now (Load (BidMessage a0 a1)))) e = refl
any_want s own v w (IsWithin seat (Now (Load (BidAgain a0)))) e = refl
any_want s own v w (IsWithin seat (Now (Load (BidHolder a0 a1)))) e = refl
any_want s own v w (IsWithin seat (Now (Install a))) e = refl
any_want s own v w (IsWithin seat (Now (Fork a))) e = refl
any_want s own v w (IsWithin seat (Now (Begin a b c))) e = refl
any_want s own v w (IsWithin seat (Now (Move a))) e = refl
any_want s own v w (IsWithin seat (Now (Enter a))) e = refl
any_want s own v w (IsWithin seat (Now Again)) e = refl
any_want s own v w (IsWithin seat (Now Broken)) e = refl
any_want s own v w (IsWithin seat (Store a b c)) e = refl
any_want s own v w (IsWithin seat (Exchange a b c d)) e = refl
any_want s own v w (IsRunning seat rest) e = refl
any_want s own v w (IsBroken place) e = refl
any_want s own v w IsDone e = refl

module _ (s : Shape) (code : CodeParts) (state : State) (own v w : ℕ) where
  -- the words and where the processor stands
  new_words : (standing : Standing) → seeks_holder standing ≡ false
      → words_after state.words (wanted s own v standing) ≡ words_after state.words (wanted s own w standing)
  new_words standing e = ap (λ want. words_after state.words want) (any_want s own v w standing e)

  new_stand : (standing : Standing) → seeks_holder standing ≡ false
      → went s code own v (found_in state.words (wanted s own v standing)) standing
      ≡ went s code own w (found_in state.words (wanted s own w standing)) standing
  new_stand standing e =
      ap (λ want. went s code own v (found_in state.words want) standing) (any_want s own v w standing e)
      ∙ any_victim s code own v w (found_in state.words (wanted s own w standing)) standing e

  -- what a step makes
  pub any_step : (standing : Standing) → seeks_holder standing ≡ false
      → acts s code state own (Step v) standing ≡ acts s code state own (Step w) standing
  any_step IsLost e = λ i. record { words = new_words IsLost e i; stand = slice_set state.stand own (new_stand IsLost e i) }
  any_step (IsPlaced place) e =
      λ i. record { words = new_words (IsPlaced place) e i; stand = slice_set state.stand own (new_stand (IsPlaced place) e i) }
  any_step (IsAt place restart) e =
      λ i. record { words = new_words (IsAt place restart) e i; stand = slice_set state.stand own (new_stand (IsAt place restart) e i) }
  any_step (IsWithin seat row) e =
      λ i. record { words = new_words (IsWithin seat row) e i; stand = slice_set state.stand own (new_stand (IsWithin seat row) e i) }
  any_step (IsRunning seat rest) e =
      λ i. record { words = new_words (IsRunning seat rest) e i; stand = slice_set state.stand own (new_stand (IsRunning seat rest) e i) }
  any_step (IsBroken place) e =
      λ i. record { words = new_words (IsBroken place) e i; stand = slice_set state.stand own (new_stand (IsBroken place) e i) }
  any_step IsDone e = refl

-- its marks
any_marks : (s : Shape) (code : CodeParts) (words : List ℕ) (v w : ℕ) (standing : Standing)
    → marks_at s code words (Step v) standing ≡ marks_at s code words (Step w) standing
any_marks s code words v w IsLost = refl
any_marks s code words v w (IsPlaced place) = refl
any_marks s code words v w (IsAt place restart) = refl
any_marks s code words v w (IsWithin seat row) = refl
any_marks s code words v w (IsRunning seat rest) = refl
any_marks s code words v w (IsBroken place) = refl
any_marks s code words v w IsDone = refl

-- the fields of a step, by the word step that it is
abbrev fields_of : Scene → Standing → Want → List ℕ
fields_of scene standing want =
    field 5 (made_text (before scene want) want) ++ field 18 (part_text scene (part_asked scene standing want))
    ++ done_text (part_kind (stores_link standing) (part_asked scene standing want)) (before scene want) want

module _ (names : Names) (m : Situation) where
  -- the line of a turn
  abbrev pub line : Turn → List ℕ
  line turn = line_text names m.array_lengths m.shape m.code m.turns m.state turn

  abbrev pub scene : Scene
  scene = scene_of names m.array_lengths m.shape m.code m.state

  abbrev pub turn_by : ℕ → Act → Turn
  turn_by processor act = record { processor = processor; act = act }

  abbrev pub standing : ℕ → Standing
  standing processor = stand_of m.state processor

  any_line : (own v w : ℕ) → seeks_holder (standing own) ≡ false → line (turn_by own (Step v)) ≡ line (turn_by own (Step w))
  any_line own v w e = λ i.
      who_fields m.turns own (place_of (standing own)) ++ row_fields scene (turn_by own (Step v)) (standing own)
      ++ fields_of scene (standing own) (any_want m.shape own v w (standing own) e i)
      ++ flat_map mark_text (any_marks m.shape m.code m.state.words v w (standing own) i) ++ 10 ∷ []

  any_turned : (own v w : ℕ) → seeks_holder (standing own) ≡ false → turned m (turn_by own (Step v)) ≡ turned m (turn_by own (Step w))
  any_turned own v w e = λ i. record {
    shape = m.shape;
    code = m.code;
    array_lengths = m.array_lengths;
    state = any_step m.shape m.code m.state own v w (standing own) e i;
    forks = m.forks + length (forks_of m.state (turn_by own (Step v)));
    takes = m.takes + length (takes_of m.state (turn_by own (Step v)));
    work = m.work + length (work_of m.state (turn_by own (Step v)));
    turns = m.turns + 1;
  }

  -- a turn and the same without such a victim
  pub record IsAs (turn other : Turn) : Type 0 where
    pub line_is : line turn ≡ line other
    pub makes : turned m turn ≡ turned m other

  as_itself : (turn : Turn) → IsAs turn turn
  as_itself turn = record { line_is = refl; makes = refl }

  by_seeking : (own v : ℕ) (seeks : Bool) → seeks_holder (standing own) ≡ seeks
      → IsAs (turn_by own (Step v)) (turn_by own (Step (if seeks then v else 0)))
  by_seeking own v true e = as_itself (turn_by own (Step v))
  by_seeking own v false e = record { line_is = any_line own v 0 e; makes = any_turned own v 0 e }

  by_act : (own : ℕ) (act : Act) → IsAs (turn_by own act) (turn_by own (bare_act (seeks_holder (standing own)) act))
  by_act own (Step v) = by_seeking own v (seeks_holder (standing own)) refl
  by_act own Soft = as_itself (turn_by own Soft)
  by_act own Hard = as_itself (turn_by own Hard)
  by_act own (Quit why) = as_itself (turn_by own (Quit why))

  pub as_bare : (turn : Turn) → IsAs turn (bare m turn)
  as_bare turn = by_act turn.processor turn.act

  -- turns that are one without it are alike
  pub alike : (turn other : Turn) → bare m turn ≡ bare m other → IsAs turn other
  alike turn other e =
      let one = as_bare turn in
      let two = as_bare other in
      record { line_is = one.line_is ∙ ap line e ∙ sym two.line_is; makes = one.makes ∙ ap (turned m) e ∙ sym two.makes }
