-- A capsule that is run, marked and followed leads from a moment of the run to the next one.
use Rattle.std.proofs.Common.{◌≡◌, ℕ, ◌+◌, Bool, true, false, List, ◌++◌, length, get_or}
use Rattle.std.proofs.Common.{replicate, refl, sym, ap, ◌∙◌, subst, arith, inl, inr}
use Rattle.std.specs.Prelude.{cond}
use Rattle.ppm_strands.specs.Tree.{Words, Strand, Has, Code}
use Rattle.ppm_strands.specs.Calm.{touches}
use Rattle.ppm_strands.proofs.PartsLemmas.{has_left, has_right, has_cases}
use Rattle.ppm_strands.specs.Capsule.{Memory, leaves}
use Rattle.ppm_strands.specs.Strand.{own_of, new_of, start}
use Rattle.ppm_code.specs.declared.code.CodeParts.{CodeParts}
use Rattle.ppm_code.specs.Capsules.{capsule_of}
use Rattle.ppm_code.specs.Code.{EndFits, IsCode}
use Rattle.ppm_code.specs.Locations.{Where, code_locations}
use Rattle.ppm_code.specs.Sizes.{procedure_at, size_at, slots_at}
use Rattle.ppm_code.specs.Strands.{Point, Result, opens, table_of, instrs_of}
use Rattle.ppm_depth.specs.Moves.{now_after, stack_after, waiting_after}
use Rattle.ppm_depth.specs.Stack.{Own, Strands, Above, tree_at}
use Rattle.ppm_depth.specs.Stack.{IsShown, IsShownAt}
use Rattle.ppm_depth.specs.Start.{words_of}
use Rattle.ppm_depth.specs.Store.{Shows}
use Rattle.ppm_depth.specs.Turns.{strands_over}
use Rattle.ppm_depth.specs.Whole.{IsWhole, Keeps, block_at}
use Rattle.ppm_depth.specs.declared.capsule.Done.{Done as Finished}
use Rattle.ppm_depth.specs.declared.frame.Frame.{Frame}
use Rattle.ppm_depth.specs.declared.frame.Now.TheVariants.{At}
use Rattle.ppm_depth.specs.declared.frame.Waiting.{Waiting}
use Rattle.ppm_depth.proofs.AdvanceLemmas.{began_shows, came_next, came_after, advanced_at}
use Rattle.ppm_depth.proofs.FollowLemmas.{above_after, leaf_after}
use Rattle.ppm_stamps.specs.Stamps.{Passes, Marks}
use Rattle.ppm_stamps.specs.Moments.{beside_of, Comes, Runs}
use Rattle.ppm_races.specs.Beside.{stands_beside, IsOneOf, stamps_of, meets, IsFirst, IsFirstMet, NoneMeets, AreMarked}
use Rattle.ppm_races.specs.Verdicts.{MomentOf, log_of, meets_at}
use Rattle.ppm_races.specs.Touches.{AreThere, words_in, touches_of}
use Rattle.ppm_races.specs.Walks.{rise, marks_of, opens_fork, marks_with, IsLogged, IsMeetingOf}
use Rattle.ppm_races.specs.declared.stamps.Mark.{Mark}
use Rattle.ppm_races.specs.declared.stamps.Met.{Met}
use Rattle.ppm_races.specs.declared.touch.Touch.{Touch}
use Rattle.ppm_races.proofs.AccessLemmas.{IsLogOf, is_log as touches_are_log}
use Rattle.ppm_races.proofs.StampLemmas.{word_there}
use Rattle.ppm_races.proofs.MarkLemmas.{same_beside, open_of, forks_after, entered, marks_entered}

module _ (code : CodeParts) (is_code : IsCode code) (frame : Frame) (block : ℕ) (before_blocks opened blocks words_before words : List ℕ) (done : Finished)
    (block_is : block ≡ length before_blocks)
    (opens_block : opened ≡ before_blocks ++ replicate (block_at code frame.capsule) 0)
    (whole : (m : Memory Where) → Shows (slots_at code frame.capsule) (block_at code frame.capsule)
    (record { frame = frame.base; block = block }) opened words_before m
    → IsWhole code frame.capsule (record { frame = frame.base; block = block }) blocks words m done)
    (keeps : Keeps (record { frame = frame.base; block = block }) (size_at code frame.capsule) opened blocks)
    (same_words : length words ≡ length words_before)
    (fits : EndFits code (procedure_at code frame.capsule) (instrs_of code frame.capsule) done.end)
    (log : List Touch)
    (is_log : (m : Memory Where) → Shows (slots_at code frame.capsule) (block_at code frame.capsule)
    (record { frame = frame.base; block = block }) opened words_before m
    → log ≡ touches_of (length words_before) (instrs_of code frame.capsule) m)
    (time : ℕ) (wrote touched wrote' touched' : List ℕ) (marks : List Mark)
    (root : Strands) (input : Words) (waiting : List Waiting) (above : Above) (leaf : Strands) (forks : List Mark)
    (at : IsShownAt code before_blocks waiting (At frame) above leaf)
    (come : Comes (strands_over code (length words_before)) root input (rise above forks) leaf (words_of words_before) (stamps_of time wrote touched))
    (marks_are : marks ≡ marks_of (rise above forks)) where
  abbrev c : Code Own Result
  c = strands_over code (length words_before)

  -- the strand's frame
  abbrev f : Own
  f = at.at.0

  -- the tree that is shown
  abbrev shown : IsShown code before_blocks waiting (At frame) (tree_at above leaf)
  shown = record { above = above; waits = at.waits; leaf = leaf; tree = refl; at = at.at }

  -- the memory with which the capsule begins
  abbrev before : Memory Where
  before = start code_locations (table_of code (length words_before)) f (words_of words_before)

  -- and the one that it leaves
  abbrev came : Memory Where
  came = leaves code_locations (capsule_of (length words) (instrs_of code frame.capsule)) before

  -- the stack shows the first
  shows : Shows (slots_at code frame.capsule) (block_at code frame.capsule) (record { frame = frame.base; block = block }) opened words_before before
  shows = began_shows code is_code frame block before_blocks opened blocks words_before words done block_is opens_block whole keeps same_words fits waiting
      (tree_at above leaf) shown

  -- the tree after it
  next_is : c.next f (words_of words_before) ≡ opens code done.end (own_of came) (new_of came)
  next_is = came_next code is_code frame block before_blocks opened blocks words_before words done block_is opens_block whole keeps same_words fits waiting
      (tree_at above leaf) shown

  -- the words after it
  after_is : c.after f (words_of words_before) ≡ words_of words
  after_is = came_after code is_code frame block before_blocks opened blocks words_before words done block_is opens_block whole keeps same_words fits waiting
      (tree_at above leaf) shown

  -- what is noted is what the strand's capsule touches
  log_is : log ≡ log_of code (length words_before) f (words_of words_before)
  log_is = is_log before shows
      ∙ ap (λ (p : Point). touches_of (length words_before) (instrs_of code p.capsule) before) (sym at.at.2.point)

  -- as sets of words
  logged : IsLogOf log (capsule_of (length words_before) (instrs_of code f.point.capsule)) before
  logged = subst (λ (l : List Touch). IsLogOf l (capsule_of (length words_before) (instrs_of code f.point.capsule)) before) (sym log_is)
      (touches_are_log (length words_before) (instrs_of code f.point.capsule) before)

  -- the words that are noted are those that the strand touches
  all_touched : (x : ℕ) → Has x (words_in log) → Has x (touches c f (words_of words_before))
  all_touched x h = elim ((logged.touched x).0 h) [
    | inl y ↦ has_left x (c.reads f (words_of words_before)) _ y
    | inr y ↦ has_right x (c.reads f (words_of words_before)) _ y
  ]

  -- and back
  touched_all : (x : ℕ) → Has x (touches c f (words_of words_before)) → Has x (words_in log)
  touched_all x h = (logged.touched x).1 (has_cases x (c.reads f (words_of words_before)) _ h)

  -- what stands beside, by the marks
  q_is : stands_beside marks ≡ beside_of (rise above forks)
  q_is = same_beside marks (rise above forks) marks_are

  -- an answer of the marks
  said : (b : Bool) (k : ℕ) → stands_beside marks k ≡ b → beside_of (rise above forks) k ≡ b
  said b k h = sym (ap (λ (q : ℕ → Bool). q k) q_is) ∙ h

  -- and back
  asked : (b : Bool) (k : ℕ) → beside_of (rise above forks) k ≡ b → stands_beside marks k ≡ b
  asked b k h = ap (λ (q : ℕ → Bool). q k) q_is ∙ h

  -- the moment, at a strand
  at_strand : Comes c root input (rise above forks) (Strand f) (words_of words_before) (stamps_of time wrote touched)
  at_strand = subst (λ (t : Strands). Comes c root input (rise above forks) t (words_of words_before) (stamps_of time wrote touched)) at.at.1 come

  -- the moment
  abbrev moment : MomentOf code root input (length words_before) time
  moment = record {
    above = rise above forks;
    frame = f;
    words = words_of words_before;
    stamps = stamps_of time wrote touched;
    come = at_strand;
    time = refl;
  }

  -- what was noted
  pub has_logged : IsLogged code root input (length words_before) time frame.capsule log
  has_logged = record { moment = moment; same = ap (λ (p : Point). p.capsule) at.at.2.point; all = log_is }

  -- a touch that meets something
  pub has_met : (met : Met) → AreThere (length words_before) log → IsFirstMet marks wrote touched log met
      → IsMeetingOf code root input (length words_before) (record { run = time; capsule = frame.capsule; met = met })
  has_met met there h =
      let fork = h.whom.fork in
      let some = fork.before in
      record {
        moment = moment;
        capsule = ap (λ (p : Point). p.capsule) at.at.2.point;
        first = subst (λ (l : List Touch). IsFirst (meets_at (beside_of (rise above forks)) (stamps_of time wrote touched)) l met.touch) log_is
            (subst (λ (q : ℕ → Bool). IsFirst (meets q wrote touched) log met.touch) q_is h.first);
        there = word_there (length words_before) h.first.front h.first.rest met.touch
            (subst (λ (l : List Touch). AreThere (length words_before) l) h.first.all there);
        left = h.whom.left ∙ ap (λ (q : ℕ → Bool). cond (q (get_or wrote met.touch.word 0)) (get_or wrote met.touch.word 0)
            (get_or touched met.touch.word 0)) q_is;
        beside = said true met.left fork.beside;
        fork = open_of (rise above forks) met.fork (omega (arith, some))
            (subst (λ (ms : List Mark). IsOneOf met.fork ms) marks_are fork.one_of);
        from = fork.from;
        before = fork.before;
      }

  module _ (none : NoneMeets (stands_beside marks) wrote touched log)
      (marked : AreMarked (stands_beside marks) wrote touched time log wrote' touched') where
    passes : Passes c (beside_of (rise above forks)) f (words_of words_before) (stamps_of time wrote touched)
    passes = record {
      unwritten = λ x h. said false (get_or wrote x 0) (none.unwritten x (touched_all x h));
      untouched = λ x h. said false (get_or touched x 0) (none.untouched x ((logged.written x).1 h));
    }

    -- and is marked
    leaves_marks : Marks c (beside_of (rise above forks)) f (words_of words_before) (stamps_of time wrote touched) (stamps_of (time + 1) wrote' touched')
    leaves_marks = record {
      time = omega arith;
      wrote = λ x h. marked.wrote x ((logged.written x).1 h);
      unwritten = λ x h. marked.unwritten x (λ y. h ((logged.written x).0 y));
      stays = λ x h b. marked.stays x (touched_all x h) (asked true (get_or touched x 0) b);
      touched = λ x h b. marked.touched x (touched_all x h) (asked false (get_or touched x 0) b);
      untouched = λ x h. marked.untouched x (λ y. h (all_touched x y));
    }

    -- the next moment, before it is entered
    opened_next : Comes c root input (rise above forks) (opens code done.end (own_of came) (new_of came)) (words_of words)
        (stamps_of (time + 1) wrote' touched')
    opened_next =
        subst (λ (t : Strands). Comes c root input (rise above forks) t (words_of words) (stamps_of (time + 1) wrote' touched')) next_is
        (subst (λ (a : Words). Comes c root input (rise above forks) (c.next f (words_of words_before)) a (stamps_of (time + 1) wrote' touched')) after_is
        (Runs at_strand passes leaves_marks))

    -- what stands above the strand then, and the moment
    abbrev pub above_then : Above
    above_then = above_after code frame block came above done.end

    -- the strand then
    abbrev pub leaf_then : Strands
    leaf_then = leaf_after code came done.end

    -- its forks
    abbrev pub forks_then : List Mark
    forks_then = forks_after (time + 1) done.end forks

    -- it is shown
    pub shown_then : IsShownAt code (stack_after block blocks done.end) (waiting_after code frame block waiting done.end)
        (now_after code frame block blocks done.end) above_then leaf_then
    shown_then = advanced_at code is_code frame block before_blocks opened blocks words_before words done block_is opens_block whole keeps same_words fits
        waiting
        (tree_at above leaf) shown

    -- it is a moment
    pub come_then : Comes (strands_over code (length words)) root input (rise above_then forks_then) leaf_then (words_of words)
        (stamps_of (time + 1) wrote' touched')
    come_then = subst (λ (n : ℕ). Comes (strands_over code n) root input (rise above_then forks_then) leaf_then (words_of words)
        (stamps_of (time + 1) wrote' touched')) (sym same_words)
        (entered c root input code frame block came above forks (words_of words) (stamps_of (time + 1) wrote' touched') done.end opened_next)

    -- and these are its marks
    pub marks_then : marks_with (opens_fork done.end) (time + 1) marks ≡ marks_of (rise above_then forks_then)
    marks_then = marks_entered code frame block came above forks (time + 1) done.end marks marks_are
