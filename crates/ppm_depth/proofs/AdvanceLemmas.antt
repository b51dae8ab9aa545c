-- One capsule of the strand is one step in turn of the tree that it shows.
use Rattle.std.proofs.Common.{◌≡◌, ◌<◌, ◌≤◌, ℕ, ◌+◌, List, [], ◌∷◌, ◌++◌, length, get_or, replicate, refl, sym, ap, ◌∙◌, subst, arith, None}
use Rattle.std.specs.Prelude.{◌⊎◌}
use Rattle.std.proofs.Math.Path.{fun_ext}
use Rattle.std.proofs.lemmas.List.{get_or_append_left, get_or-append-add, length-replicate}
use Rattle.std.proofs.Common.{length-append}
use Rattle.ppm_strands.specs.Tree.{Words, Strand, Code, forks_in}
use Rattle.ppm_strands.specs.Run.{Counts, none, of_capsule}
use Rattle.ppm_strands.specs.Ahead.{Capsule, Done}
use Rattle.ppm_depth.specs.Order.{StepsInOrder}
use Rattle.ppm_depth.proofs.OrderLemmas.{before}
use Rattle.ppm_strands.proofs.RunLemmas.{counts_path, plus_none, plus_comm}
use Rattle.ppm_strands.specs.Capsule.{Capsule as Asking, Memory, ending, leaves, asked}
use Rattle.ppm_strands.specs.Strand.{start, own_of, new_of, shared_of}
use Rattle.ppm_code.specs.declared.act.End.{End}
use Rattle.ppm_code.specs.declared.act.End.TheVariants.{Next, Finish, Trap, Call, Fork}
use Rattle.ppm_code.specs.Sizes.{right_at, procedure_at, size_at, slots_at}
use Rattle.ppm_depth.specs.declared.frame.For.TheVariants.{Callee, Left}
use Rattle.ppm_code.specs.declared.code.CodeParts.{CodeParts}
use Rattle.ppm_code.specs.declared.location.FrameWord.TheVariants.{Slot, Value}
use Rattle.ppm_code.specs.Capsules.{capsule_of}
use Rattle.ppm_code.specs.Code.{EndFits, IsCode}
use Rattle.ppm_code.specs.Locations.{Where, code_locations}
use Rattle.ppm_code.specs.Strands.{Point, Result, opens, table_of, instrs_of}
use Rattle.ppm_depth.specs.Moves.{now_after, stack_after, waiting_after, counts_by, pending, pending_for, moved, entry_at}
use Rattle.ppm_depth.specs.Stack.{Own, Strands, tree_at, end_of, Holds, IsLaidOut, IsShown, IsShownAt}
use Rattle.ppm_depth.specs.Start.{words_of}
use Rattle.ppm_depth.specs.Store.{Shows, own_at}
use Rattle.ppm_depth.specs.Turns.{strands_over}
use Rattle.ppm_depth.specs.Whole.{IsWhole, Keeps, block_at}
use Rattle.ppm_depth.specs.declared.capsule.Done.{Done as Finished}
use Rattle.ppm_depth.specs.declared.frame.Frame.{Frame}
use Rattle.ppm_depth.specs.declared.frame.Now.TheVariants.{At}
use Rattle.ppm_depth.specs.declared.frame.Waiting.{Waiting}
use Rattle.ppm_depth.specs.declared.store.Place.{Place}
use Rattle.ppm_depth.proofs.FollowLemmas.{followed, followed_at, forks_opened, above_after, leaf_after}
use Rattle.ppm_depth.proofs.StackLemmas.{laid_still, lifted}
use Rattle.ppm_depth.proofs.TurnLemmas.{zeros}

-- a step and nothing after it
pub one_step : (c : Code Own Result) (f : Own) (a : Words) → StepsInOrder c (of_capsule c f a) (Strand f) a (c.next f a) (c.after f a)
one_step c f a = subst (λ (k : Counts). StepsInOrder c k (Strand f) a (c.next f a) (c.after f a))
    (plus_comm (of_capsule c f a) none ∙ plus_none (of_capsule c f a)) (before c (Capsule f a) tt (Done (c.next f a) (c.after f a), tt))

module _ (code : CodeParts) (is_code : IsCode code) (frame : Frame) (block : ℕ) (before_blocks opened blocks words_before words : List ℕ) (done : Finished)
    (block_is : block ≡ length before_blocks)
    (opens_block : opened ≡ before_blocks ++ replicate (block_at code frame.capsule) 0)
    (whole : (m : Memory Where) → Shows (slots_at code frame.capsule) (block_at code frame.capsule)
    (record { frame = frame.base; block = block }) opened words_before m
    → IsWhole code frame.capsule (record { frame = frame.base; block = block }) blocks words m done)
    (keeps : Keeps (record { frame = frame.base; block = block }) (size_at code frame.capsule) opened blocks)
    (same_words : length words ≡ length words_before)
    (fits : EndFits code (procedure_at code frame.capsule) (instrs_of code frame.capsule) done.end) where
  abbrev place : Place
  place = record { frame = frame.base; block = block }

  abbrev size : ℕ
  size = block_at code frame.capsule

  abbrev c : Code Own Result
  c = strands_over code (length words_before)

  opened_length : length opened ≡ block + size
  opened_length = ap (λ (xs : List ℕ). length xs) opens_block ∙ length-append before_blocks (replicate size 0)
      ∙ ap (λ (n : ℕ). length before_blocks + n) (length-replicate size 0) ∙ ap (λ (n : ℕ). n + size) (sym block_is)

  blocks_length : block + size ≡ length blocks
  blocks_length = sym opened_length ∙ sym keeps.length

  -- below the new block the stack is as it was, but for the frame
  opened_still : (x : ℕ) → x < block → get_or opened x 0 ≡ get_or before_blocks x 0
  opened_still x less = ap (λ (xs : List ℕ). get_or xs x 0) opens_block ∙ get_or_append_left before_blocks (replicate size 0) 0 x (omega (arith, less, block_is))

  outside_still : (x : ℕ) → (x < frame.base) ⊎ (end_of code frame ≤ x) → x < block → get_or blocks x 0 ≡ get_or before_blocks x 0
  outside_still x out less = keeps.others x out less ∙ opened_still x less

  -- the memory with which the capsule begins
  module _ (f : Own) (holds : Holds code before_blocks frame None None f) (there : end_of code frame ≤ block) where
    abbrev memory : Memory Where
    memory = start code_locations (table_of code (length words_before)) f (words_of words_before)

    shows : Shows (slots_at code frame.capsule) size place opened words_before memory
    shows = record {
      slot = λ i less. holds.slot i less ∙ sym (opened_still (own_at frame.base (Slot i)) (omega (arith, less, there)));
      value = holds.value ∙ sym (opened_still (own_at frame.base Value) (omega (arith, there)));
      new = λ o less.
          sym (ap (λ (xs : List ℕ). get_or xs (block + o) 0) opens_block
          ∙ ap (λ (n : ℕ). get_or (before_blocks ++ replicate size 0) (n + o) 0) block_is
          ∙ get_or-append-add before_blocks (replicate size 0) o 0 ∙ zeros size o);
      shared = λ index. refl;
    }

    abbrev run : Asking Where End
    run = capsule_of (length words) (instrs_of code frame.capsule)

    -- the capsule of the frame
    run_is : capsule_of (length words_before) (instrs_of code f.point.capsule) ≡ run
    run_is = ap (λ (p : Point). capsule_of (length words_before) (instrs_of code p.capsule)) holds.point
        ∙ ap (λ (n : ℕ). capsule_of n (instrs_of code frame.capsule)) (sym same_words)

    abbrev after : Memory Where
    after = leaves code_locations run memory

    is_whole : IsWhole code frame.capsule place blocks words memory done
    is_whole = whole memory shows

    abbrev opens_next : Strands
    opens_next = opens code done.end (own_of after) (new_of after)

    next_is : c.next f (words_of words_before) ≡ opens_next
    next_is =
        ap (λ (p : Asking Where End). opens code (ending code_locations p memory) (own_of (leaves code_locations p memory))
        (new_of (leaves code_locations p memory))) run_is
        ∙ ap (λ (e : End). opens code e (own_of after) (new_of after)) (sym is_whole.end)

    after_is : c.after f (words_of words_before) ≡ words_of words
    after_is = ap (λ (p : Asking Where End). shared_of (leaves code_locations p memory)) run_is ∙ fun_ext is_whole.shows.shared

    counts_are : of_capsule c f (words_of words_before) ≡ counts_by done
    counts_are = counts_path refl
        (ap (λ (t : Strands). forks_in t) next_is ∙ forks_opened code done.end (own_of after) (new_of after))
        (ap (λ (p : Asking Where End). asked code_locations p memory) run_is ∙ sym is_whole.asks)

    one_capsule : StepsInOrder c (counts_by done) (Strand f) (words_of words_before) opens_next (words_of words)
    one_capsule =
        subst (λ (k : Counts). StepsInOrder c k (Strand f) (words_of words_before) opens_next (words_of words)) counts_are
        (subst (λ (t : Strands). StepsInOrder c (of_capsule c f (words_of words_before)) (Strand f) (words_of words_before) t (words_of words)) next_is
        (subst (λ (b : Words). StepsInOrder c (of_capsule c f (words_of words_before)) (Strand f) (words_of words_before)
        (c.next f (words_of words_before)) b) after_is (one_step c f (words_of words_before))))

  -- the whole tree makes a step, and the strand shows what is then
  pub advanced : (waiting : List Waiting) (t : Strands) → IsShown code before_blocks waiting (At frame) t
      → (next : Strands) × StepsInOrder (strands_over code (length words_before)) (counts_by done) t (words_of words_before) next (words_of words)
      × IsShown code (stack_after block blocks done.end) (waiting_after code frame block waiting done.end)
      (now_after code frame block blocks done.end) next
  advanced waiting t shown =
      let s = shown.above in
      let f = shown.at.0 in
      let holds = shown.at.2 in
      let there = subst (λ (n : ℕ). end_of code frame ≤ n) (sym block_is) shown.at.3 in
      let laid = laid_still code before_blocks blocks s frame.base (end_of code frame) block outside_still (omega arith) there
      (subst (λ (n : ℕ). IsLaidOut code before_blocks s frame.base (end_of code frame) n) (sym block_is) shown.at.4) in
      let tree : tree_at s (Strand f) ≡ t = ap (λ (u : Strands). tree_at s u) (sym shown.at.1) ∙ sym shown.tree in (
        tree_at s (opens_next f holds there),
        subst (λ (u : Strands). StepsInOrder c (counts_by done) u (words_of words_before) (tree_at s (opens_next f holds there)) (words_of words)) tree
            (lifted c s (one_capsule f holds there)),
        subst (λ (ws : List Waiting). IsShown code (stack_after block blocks done.end)
            (waiting_after code frame block ws done.end) (now_after code frame block blocks done.end)
            (tree_at s (opens_next f holds there))) shown.waits
            (followed code is_code frame block blocks words (after f holds there) (is_whole f holds there).shows there blocks_length s laid done.end fits),
      )

  -- a capsule, as what it touches is noted from the memory with which it begins
  module _ (waiting : List Waiting) (t : Strands) (shown : IsShown code before_blocks waiting (At frame) t) where
    abbrev pub there_at : end_of code frame ≤ block
    there_at = subst (λ (n : ℕ). end_of code frame ≤ n) (sym block_is) shown.at.3

    abbrev pub began : Memory Where
    began = start code_locations (table_of code (length words_before)) shown.at.0 (words_of words_before)

    abbrev pub came : Memory Where
    came = leaves code_locations (capsule_of (length words) (instrs_of code frame.capsule)) began

    pub began_shows : Shows (slots_at code frame.capsule) (block_at code frame.capsule) (record { frame = frame.base; block = block }) opened words_before began
    began_shows = shows shown.at.0 shown.at.2 there_at

    pub capsule_is : capsule_of (length words_before) (instrs_of code shown.at.0.point.capsule) ≡ capsule_of (length words_before) (instrs_of code frame.capsule)
    capsule_is = ap (λ (p : Point). capsule_of (length words_before) (instrs_of code p.capsule)) shown.at.2.point

    pub came_next : (strands_over code (length words_before)).next shown.at.0 (words_of words_before) ≡ opens code done.end (own_of came) (new_of came)
    came_next = next_is shown.at.0 shown.at.2 there_at

    pub came_after : (strands_over code (length words_before)).after shown.at.0 (words_of words_before) ≡ words_of words
    came_after = after_is shown.at.0 shown.at.2 there_at

    pub advanced_at : IsShownAt code (stack_after block blocks done.end) (waiting_after code frame block waiting done.end)
        (now_after code frame block blocks done.end) (above_after code frame block came shown.above done.end) (leaf_after code came done.end)
    advanced_at =
        let s = shown.above in
        let f = shown.at.0 in
        let holds = shown.at.2 in
        let laid = laid_still code before_blocks blocks s frame.base (end_of code frame) block outside_still (omega arith) there_at
        (subst (λ (n : ℕ). IsLaidOut code before_blocks s frame.base (end_of code frame) n) (sym block_is) shown.at.4) in
        subst (λ (ws : List Waiting). IsShownAt code (stack_after block blocks done.end)
        (waiting_after code frame block ws done.end) (now_after code frame block blocks done.end)
        (above_after code frame block came s done.end) (leaf_after code came done.end)) shown.waits
        (followed_at code is_code frame block blocks words (after f holds there_at) (is_whole f holds there_at).shows there_at blocks_length s laid done.end fits)

-- what waits after a capsule waits for little more
pub pending_push : (ws : List Waiting) (w : Waiting) → pending (ws ++ (w ∷ [])) ≡ pending ws + pending_for w.on
pending_push [] w = omega arith
pending_push (x ∷ ws) w = let rest = pending_push ws w in omega (arith, rest)

pub pending_after : (code : CodeParts) (frame : Frame) (block : ℕ) (ws : List Waiting) (e : End)
    → pending (waiting_after code frame block ws e) ≤ pending ws + 4
pending_after code frame block ws (Next k) = omega arith
pending_after code frame block ws Finish = omega arith
pending_after code frame block ws (Trap trap line) = omega arith
pending_after code frame block ws (Call q k to) =
    let more = pending_push ws (record { frame = moved frame k; block = block; on = Callee to }) in omega (arith, more)
pending_after code frame block ws (Fork q r k left_to right_to) =
    let more = pending_push ws (record { frame = moved frame k; block = block; on = Left (entry_at code r (block + right_at code q)) left_to right_to }) in
    omega (arith, more)
