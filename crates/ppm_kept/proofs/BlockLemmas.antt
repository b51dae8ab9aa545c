-- What stands in the words at the end of a capsule: the block that it built, and the tree that the
-- end opens.
use Rattle.std.proofs.Common.{◌≡◌, ◌⊎◌, ◌≤◌, ◌<◌, ℕ, zero, suc, ◌+◌, ◌^◌, List, [], ◌∷◌, ◌++◌, length, Option, Some, None, inl, inr, refl, sym, ap, ◌∙◌, subst, arith}
use Rattle.std.proofs.Math.Path.{fun_ext}
use Rattle.std.proofs.lemmas.Bool.{cases_lt}
use Rattle.std.proofs.lemmas.Option.{slice_get_past}
use Rattle.ppm_strands.specs.Tree.{Tree, Strand, Call as Calling, Fork as Forking, Over}
use Rattle.ppm_cells.specs.Finish.{finish_word, finish_of, IsFinish}
use Rattle.ppm_cells.specs.Link.{link_word, link_of, IsLink}
use Rattle.ppm_cells.specs.declared.cell.Cell.{Cell}
use Rattle.ppm_cells.specs.declared.cell.Cell.TheVariants.{RoomCounter, BlockWord}
use Rattle.ppm_cells.specs.declared.finish.Finish.{Finish}
use Rattle.ppm_cells.specs.declared.finish.Finish.TheVariants.{Ended, Trapped as TrappedBy}
use Rattle.ppm_cells.specs.declared.link.Link.{Link}
use Rattle.ppm_cells.specs.declared.link.LinkKind.{LinkKind}
use Rattle.ppm_cells.specs.declared.link.LinkKind.TheVariants.{Call as Called, Branch, Fork as Forked}
use Rattle.ppm_cells.specs.declared.shape.Shape.{Shape}
use Rattle.ppm_cells.specs.declared.side.Side.TheVariants.{Left, Right}
use Rattle.ppm_cells.proofs.ExactLemmas.{unpack-pack}
use Rattle.ppm_cells.proofs.FinishLemmas.{finishes_exact}
use Rattle.ppm_cells.proofs.LinkLemmas.{links_exact}
use Rattle.ppm_strands.specs.Capsule.{Capsule, Ends, Memory, Whole, In, ending, leaves, written}
use Rattle.ppm_strands.specs.Capsule as capsule
use Rattle.ppm_strands.specs.EndStores.{stored_at, after_stores}
use Rattle.ppm_strands.specs.Stopped.{Stands}
use Rattle.ppm_strands.specs.Strand.{New, Frame}
use Rattle.ppm_strands.proofs.EndStoresLemmas.{does_then_stores}
use Rattle.ppm_strands.proofs.StandsLemmas.{at_end}
use Rattle.ppm_code.specs.Capsules.{capsule_of}
use Rattle.ppm_code.specs.Code.{EndFits}
use Rattle.ppm_code.specs.Locations.{Where, code_locations}
use Rattle.ppm_code.specs.Sizes.{slots_of, frame_size, fork_size, slot_at, value_at, right_at, procedure_at, slots_at}
use Rattle.ppm_code.specs.Strands.{Point, Result, built, opens, at_capsule, entry_of, instrs_of}
use Rattle.ppm_code.specs.Tidy.{Builds}
use Rattle.ppm_code.specs.declared.act.End.{End}
use Rattle.ppm_code.specs.declared.act.End.TheVariants.{Next, Finish as Finishes, Trap, Call, Fork}
use Rattle.ppm_code.specs.declared.code.CodeParts.{CodeParts}
use Rattle.ppm_code.specs.declared.location.FrameWord.{FrameWord}
use Rattle.ppm_code.specs.declared.location.FrameWord.TheVariants.{Slot, Value}
use Rattle.ppm_code.proofs.CodeLemmas.{slots_small, procedure_is, entry_is}
use Rattle.ppm_slots.proofs.BlankLemmas.{writes_are_slots}
use Rattle.ppm_step.specs.Contents.{word_of}
use Rattle.ppm_step.specs.Frames.{other_copy, target_of}
use Rattle.ppm_step.specs.Points.{outcome_word, header_word}
use Rattle.ppm_step.specs.declared.content.Content.{Content}
use Rattle.ppm_step.specs.declared.frame.Home.{Home}
use Rattle.ppm_ends.specs.Ends.{block_stores, located, call_stores, fork_to_stores, fork_stores_by}
use Rattle.ppm_ends.proofs.TailLemmas.{AreElsewhere, passes, new_at}
use Rattle.ppm_frames.specs.Seen.{own_at}
use Rattle.ppm_frames.specs.Skeletons.{Begins, Over as IsOver, InPlace, Fresh, Leaf, Calling as Waits, Forking as Splits, header, named, result_by, tree_at}
use Rattle.ppm_frames.specs.Good.{ended, link_or, link_at}
use Rattle.ppm_frames.proofs.SeenLemmas.{choice, seen_in}
use Rattle.ppm_kept.specs.Running.{room_or, asked_of, outcome_by, IsFair, home_at, number_at, now, all_of, limit, HasRoom, IsClean}
use Rattle.ppm_kept.proofs.FitsLemmas.{AllBelow, below}
use Rattle.ppm_kept.proofs.RunLemmas.{fits}

-- stores at offsets that rise
abbrev pub Rising : ℕ → List (ℕ × Content) → Type 0
Rising b [] = Unit {0}
Rising b (p ∷ ps) = (b ≤ p.0) × Rising (p.0 + 1) ps

elsewhere : (o b : ℕ) (ps : List (ℕ × Content)) → o < b → Rising b ps → AreElsewhere o ps
elsewhere o b [] lt up = tt
elsewhere o b (p ∷ ps) lt up = (λ e. omega (arith, e, lt, up.0), elsewhere o (p.0 + 1) ps (omega (arith, lt, up.0)) up.1)

-- all of them stand
abbrev pub AllAt : Memory Where → List (ℕ × Content) → Type 0
AllAt n [] = Unit {0}
AllAt n (p ∷ ps) = (n (New p.0) ≡ word_of p.1) × AllAt n ps

all_at : (ps : List (ℕ × Content)) (m : Memory Where) (b : ℕ) → Rising b ps → AllAt (after_stores code_locations (located ps) m) ps
all_at [] m b up = tt
all_at (p ∷ ps) m b up = (
  passes p.0 ps (capsule.store code_locations m (New p.0) (word_of p.1)) (elsewhere p.0 (p.0 + 1) ps (omega arith) up.1) ∙ new_at m p.0 p.0 (word_of p.1) refl,
  all_at ps (capsule.store code_locations m (New p.0) (word_of p.1)) (p.0 + 1) up.1,
)

new_is : (o i : ℕ) → ◌≡◌ {A = Where} (New o) (New i) → o ≡ i
new_is o i e = ap number e
  where
    number : Where → ℕ
    number (New o) = o
    number _ = 0

stored_out : (o : ℕ) (ps : List (ℕ × Content)) → AreElsewhere o ps → In (New o) (stored_at (located ps)) → ⊥
stored_out o [] out h = h
stored_out o (p ∷ ps) out (inl e) = out.0 (new_is o p.0 e)
stored_out o (p ∷ ps) out (inr h) = stored_out o ps out.1 h

in_append : (l : Where) (us vs : List Where) → In l (us ++ vs) → In l us ⊎ In l vs
in_append l [] vs h = inr h
in_append l (u ∷ us) vs (inl e) = inl (inl e)
in_append l (u ∷ us) vs (inr h) = elim (in_append l us vs h) [ inl i ↦ inl (inr i) | inr i ↦ inr i ]

call_rises : (code : CodeParts) (home : Home) (q : ℕ) (to : Option ℕ) → Rising 0 (call_stores code home q to)
call_rises code home q None = (omega arith, (omega arith, (omega arith, tt)))
call_rises code home q (Some slot) = (omega arith, (omega arith, (omega arith, (omega arith, tt))))

fork_rises : (code : CodeParts) (home : Home) (l r : ℕ) (lt rt : Option ℕ) → Rising 0 (fork_stores_by code home l r lt rt)
fork_rises code home l r None None = (omega arith, (omega arith, (omega arith, (omega arith, (omega arith, (omega arith, (omega arith, (omega arith, tt))))))))
fork_rises code home l r None (Some b) = (omega arith, (omega arith, (omega arith, (omega arith, (omega arith, (omega arith, (omega arith, (omega arith, (omega arith, (omega arith, tt))))))))))
fork_rises code home l r (Some a) rt = (omega arith, (omega arith, (omega arith, (omega arith, (omega arith, (omega arith, (omega arith, (omega arith, (omega arith, (omega arith, tt))))))))))

rises : (code : CodeParts) (home : Home) (e : End) → Rising 0 (block_stores code home e)
rises code home (Next k) = tt
rises code home Finishes = tt
rises code home (Trap trap line) = tt
rises code home (Call q k to) = call_rises code home q to
rises code home (Fork l r k lt rt) = fork_rises code home l r lt rt

-- what was packed is read
pub finish_back : (v : Finish) → IsFinish v → finish_of (finish_word v) ≡ Some v
finish_back v fit = unpack-pack finish_word IsFinish finish_of finishes_exact v fit

pub link_back : (v : Link) → IsLink v → link_at (link_word v) ≡ v
link_back v fit = ap link_or (unpack-pack link_word IsLink link_of links_exact v fit)

pub named_is : (to : Option ℕ) → named (target_of to) ≡ to
named_is None = refl
named_is (Some slot) = let e : slot + 1 ≡ suc slot = omega arith in ap named e

-- the header of the copy that is not in use
pub header_is : (f y : ℕ) → y < 2 → header_word f y ≡ BlockWord (header f y)
header_is f zero low = ap BlockWord (omega arith)
header_is f (suc y) low = ap BlockWord (omega (arith, low))

module _ (s : Shape) (code : CodeParts) (fair : IsFair code) (m : Cell → ℕ) (p f y : ℕ) (room : HasRoom s code m p f y) (clean : IsClean s code m p f y)
    (e : End) (stands : Stands code_locations (all_of s code m p f y) (Ends e) (now s code m p f y)) where
  abbrev k : ℕ
  k = number_at s code m f y

  abbrev n : ℕ
  n = slots_at code k

  abbrev a : ℕ
  a = asked_of code k

  abbrev r : ℕ
  r = m (RoomCounter p)

  abbrev home : Home
  home = home_at s code m p f y

  abbrev mem : Memory Where
  mem = now s code m p f y

  abbrev all : Capsule Where End
  all = all_of s code m p f y

  abbrev base : Capsule Where End
  base = capsule_of s.arrays (instrs_of code k)

  pub end_fits : EndFits code (procedure_at code k) (instrs_of code k) e
  end_fits = fits s code fair m p f y (Ends e) stands

  done : capsule.whole code_locations all mem ≡ record { end = e; words = mem }
  done = at_end code_locations all e mem stands

  abbrev tails : End → List (Where × ℕ)
  tails d = located (block_stores code home d)

  pub came_to : ending code_locations base mem ≡ e
  came_to = sym (does_then_stores code_locations tails base mem).ends ∙ ap (λ (z : Whole Where End). z.end) done

  pub all_came : ending code_locations all mem ≡ e
  all_came = ap (λ (z : Whole Where End). z.end) done

  stored : after_stores code_locations (tails e) (leaves code_locations base mem) ≡ mem
  stored = ap (λ (d : End). after_stores code_locations (tails d) (leaves code_locations base mem)) (sym came_to)
      ∙ sym (does_then_stores code_locations tails base mem).words ∙ ap (λ (z : Whole Where End). z.words) done

  -- the stores into the block stand
  pub block_stands : AllAt mem (block_stores code home e)
  block_stands = subst (λ (o : Memory Where). AllAt o (block_stores code home e)) stored (all_at (block_stores code home e) (leaves code_locations base mem) 0 (rises code home e))

  pub new_word : (o : ℕ) → o < a → m (BlockWord (r + o)) ≡ mem (New o)
  new_word o lt = sym (seen_in m f n r a (New o) lt)

  none_past : length code.capsules ≤ k → instrs_of code k ≡ []
  none_past low = rw (slice_get_past code.capsules k low) refl

  -- what the capsule writes into its block is a slot of a frame that its end builds
  base_writes : (o : ℕ) → In (New o) (written code_locations base mem) → Builds code e o
  base_writes o h = elim (cases_lt k (length code.capsules)) [
    | inl less ↦ subst (λ (d : End). Builds code d o) came_to (writes_are_slots code s.arrays k o mem fair.code_is fair.tidy less h)
    | inr low ↦ absurd (subst (λ (is : List _). In (New o) (written code_locations (capsule_of s.arrays is) mem)) (none_past low) h)
  ]

  pub unwritten : (o : ℕ) → (Builds code e o → ⊥) → AreElsewhere o (block_stores code home e) → In (New o) (written code_locations all mem) → ⊥
  unwritten o none out h = elim (in_append (New o) (written code_locations base mem) (stored_at (tails (ending code_locations base mem)))
      (subst (λ (ls : List Where). In (New o) ls) (does_then_stores code_locations tails base mem).writes h)) [
        | inl i ↦ none (base_writes o i)
        | inr i ↦ stored_out o (block_stores code home e) out (subst (λ (d : End). In (New o) (stored_at (tails d))) came_to i)
      ]

  -- a word of the block that nobody stored is 0
  pub blank_word : (o : ℕ) → r + o < limit s code p → (Builds code e o → ⊥) → AreElsewhere o (block_stores code home e) → m (BlockWord (r + o)) ≡ 0
  blank_word o lt none out = clean.block o lt (unwritten o none out)

  all_elsewhere : (b o : ℕ) (ps : List (ℕ × Content)) → AllBelow code fair.code_is b ps → b ≤ o → AreElsewhere o ps
  all_elsewhere b o [] low le = tt
  all_elsewhere b o (q ∷ ps) low le = (λ d. omega (arith, d, low.0, le), all_elsewhere b o ps low.1 le)

  pub elsewhere_above : (o : ℕ) → a ≤ o → AreElsewhere o (block_stores code home e)
  elsewhere_above o le = all_elsewhere a o (block_stores code home e) (below code fair.code_is home (procedure_at code k) (instrs_of code k) e end_fits) le

  builds_below : (o : ℕ) → (d : End) → EndFits code (procedure_at code k) (instrs_of code k) d → Builds code d o → o < a
  builds_below o (Next c) h b = absurd b
  builds_below o Finishes h b = absurd b
  builds_below o (Trap trap line) h b = absurd b
  builds_below o (Call q c to) h b = let z = ap room_or h.3 in let lt = b.1 in omega (arith, z, lt)
  builds_below o (Fork l q c lt rt) h (inl b) = let z = ap room_or h.5 in let less = b.1 in omega (arith, z, less)
  builds_below o (Fork l q c lt rt) h (inr b) = let z = ap room_or h.5 in let less = b.1 in omega (arith, z, less)

  -- words after the block are 0
  pub blank_above : (o : ℕ) → a ≤ o → r + o < limit s code p → m (BlockWord (r + o)) ≡ 0
  blank_above o le lt = blank_word o lt (λ b. let less = builds_below o e end_fits b in omega (arith, less, le)) (elsewhere_above o le)

  -- a frame of the block has the words that were built
  pub built_is : (d g l : ℕ) → g ≡ r + d → d + 6 + l ≤ a → own_at m g l ≡ built l d (λ o. mem (New o))
  built_is d g l ge fit = fun_ext by
    where
      at : (c : ℕ) → c < 6 + l → m (BlockWord (g + c)) ≡ mem (New (d + c))
      at c lt = ap (λ (x : ℕ). m (BlockWord x)) (omega (arith, ge)) ∙ new_word (d + c) (omega (arith, fit, lt))

      by : (w : FrameWord) → own_at m g l w ≡ built l d (λ o. mem (New o)) w
      by (Slot j) = choice j l _ _ (λ lt. at (slot_at j) (omega (arith, lt)))
      by Value = at value_at (omega arith)

-- at each end
module _ (s : Shape) (code : CodeParts) (fair : IsFair code) (m : Cell → ℕ) (p f y : ℕ) (low : y < 2) (room : HasRoom s code m p f y) (clean : IsClean s code m p f y) where
  abbrev num : ℕ
  num = number_at s code m f y

  abbrev slots : ℕ
  slots = slots_at code num

  abbrev size : ℕ
  size = asked_of code num

  abbrev top_at : ℕ
  top_at = m (RoomCounter p)

  abbrev here : Home
  here = home_at s code m p f y

  abbrev Stood : End → Type 0
  Stood e = Stands code_locations (all_of s code m p f y) (Ends e) (now s code m p f y)

  abbrev New_ : ℕ → ℕ
  New_ o = now s code m p f y (New o)

  abbrev opened : End → Tree (Frame FrameWord Point) Result
  opened e = opens code e (own_at m f slots) New_

  other_low : other_copy y < 2
  other_low = omega (arith, low)

  pub header_then : (c : ℕ) → m (header_word f (other_copy y)) ≡ c → m (BlockWord (header f (other_copy y))) ≡ c
  header_then c e = ap m (sym (header_is f (other_copy y) other_low)) ∙ e

  -- the outcome word is as it was but for a trap
  pub still_open : (e : End) → outcome_by e ≡ ended → Stood e → m (outcome_word f) ≡ ended
  still_open e open_ stands = elim clean.outcome [ inl q ↦ q | inr q ↦ q ∙ ap outcome_by (all_came s code fair m p f y room clean e stands) ∙ open_ ]

  pub next_tree : (h : LinkKind) (c : ℕ) → Stood (Next c) → m (header_word f (other_copy y)) ≡ c → opened (Next c) ≡ tree_at m h (Leaf (InPlace p) (Begins (other_copy y)) f slots)
  next_tree h c stands own = ap (λ (z : ℕ). Strand (record { own = own_at m f slots; point = at_capsule z })) (sym (header_then c own))

  pub finish_tree : (h : LinkKind) → Stood Finishes → opened Finishes ≡ tree_at m h (Leaf (InPlace p) IsOver f slots)
  finish_tree h stands = ap (λ (o : Option Finish). Over (result_by (m (BlockWord (f + value_at))) o)) (sym (ap finish_of (still_open Finishes refl stands) ∙ finish_back Ended tt))

  pub trap_tree : (h : LinkKind) (trap : _) (line : ℕ) → Stood (Trap trap line) → m (outcome_word f) ≡ finish_word (TrappedBy trap line) → opened (Trap trap line) ≡ tree_at m h (Leaf (InPlace p) IsOver f slots)
  trap_tree h trap line stands own =
      let fit = end_fits s code fair m p f y room clean (Trap trap line) stands in
      ap (λ (o : Option Finish). Over (result_by (m (BlockWord (f + value_at))) o)) (sym (ap finish_of own ∙ finish_back (TrappedBy trap line) (fit.0, omega (arith, fit.1))))

  -- bounds of links: the frame's address and the pool's end
  module _ (small : f < 2 ^ 28) (pool_small : limit s code p ≤ 2 ^ 28) where
    size_small : (q : ℕ) → frame_size code q ≤ 31
    size_small q = let e = slots_small code fair.code_is q in omega (arith, e)

    entry_slots : (q : ℕ) → q < length code.procedures → slots_at code (entry_of code q) ≡ slots_of code q
    entry_slots q there = ap (slots_of code) (procedure_is code q (entry_of code q) (entry_is code fair.code_is q there))

    -- a call
    pub record CallStands (h : LinkKind) (q c : ℕ) (to : Option ℕ) : Type 0 where
      pub link : link_at (m (BlockWord top_at)) ≡ record { kind = Called f (other_copy y); size = frame_size code q }
      pub outcome : m (BlockWord (top_at + 1)) ≡ ended
      pub entry : m (BlockWord (top_at + 2)) ≡ entry_of code q
      pub sized : slots_at code (m (BlockWord (top_at + 2))) ≡ slots_of code q
      pub target : m (BlockWord (top_at + 5)) ≡ target_of to
      pub tree : opened (Call q c to) ≡ tree_at m h (Waits f slots (other_copy y) (Leaf (InPlace p) (Begins 0) top_at (slots_of code q)))

    call_parts : (q : ℕ) (to : Option ℕ) → AllAt (now s code m p f y) (call_stores code here q to)
        → (New_ 0 ≡ link_word (record { kind = Called f (other_copy y); size = frame_size code q })) × (New_ 1 ≡ ended) × (New_ 2 ≡ entry_of code q)
    call_parts q None b = (b.0, b.1.0, b.1.1.0)
    call_parts q (Some slot) b = (b.0, b.1.0, b.1.1.0)

    pub call_stands : (h : LinkKind) (q c : ℕ) (to : Option ℕ) → Stood (Call q c to) → m (header_word f (other_copy y)) ≡ c → CallStands h q c to
    call_stands h q c to stands own =
        let e = Call q c to in
        let fit = end_fits s code fair m p f y room clean e stands in
        let size_is : size ≡ frame_size code q = ap room_or fit.3 in
        let parts = call_parts q to (block_stands s code fair m p f y room clean e stands) in
        let word : (o v : ℕ) → o < frame_size code q → New_ o ≡ v → m (BlockWord (top_at + o)) ≡ v = λ o v lt q. new_word s code fair m p f y room clean e stands o (omega (arith, lt, size_is)) ∙ q in
        let entry = word 2 (entry_of code q) (omega arith) parts.2 in
        let target = by_target to stands size_is in
        record {
          link = ap link_at (ap (λ (x : ℕ). m (BlockWord x)) {x = top_at} {y = top_at + 0} (omega arith) ∙ word 0 _ (omega arith) parts.0)
              ∙ link_back (record { kind = Called f (other_copy y); size = frame_size code q }) ((small, (other_low, tt)), let b = size_small q in omega (arith, b));
          outcome = word 1 ended (omega arith) parts.1;
          entry = entry;
          sized = ap (slots_at code) entry ∙ entry_slots q fit.0;
          target = target;
          tree = (λ i. Calling (record { own = own_at m f slots; point = record { capsule = sym (header_then c own) i; left_to = None; to = sym (ap named target ∙ named_is to) i } })
              (Strand (record { own = sym (built_is s code fair m p f y room clean e stands 0 top_at (slots_of code q) (omega arith) (omega (arith, size_is))) i; point = at_capsule (sym entry i) })));
        }
      where
        by_target : (to : Option ℕ) → Stood (Call q c to) → size ≡ frame_size code q → m (BlockWord (top_at + 5)) ≡ target_of to
        by_target None stands size_is = blank_word s code fair m p f y room clean (Call q c None) stands 5 (let h = room in omega (arith, h, size_is)) (λ b. omega (arith, b.0))
            (λ e. omega (arith, e), (λ e. omega (arith, e), (λ e. omega (arith, e), tt)))
        by_target (Some slot) stands size_is = new_word s code fair m p f y room clean (Call q c (Some slot)) stands 5 (omega (arith, size_is))
            ∙ (block_stands s code fair m p f y room clean (Call q c (Some slot)) stands).1.1.1.0

    -- a fork
    pub record ForkWords (l r : ℕ) : Type 0 where
      pub link : New_ 0 ≡ link_word (record { kind = Forked f (other_copy y); size = fork_size code l r })
      pub offset : New_ 4 ≡ right_at code l
      pub left_link : New_ 5 ≡ link_word (record { kind = Branch Left top_at; size = frame_size code l })
      pub left_outcome : New_ 6 ≡ ended
      pub left_entry : New_ 7 ≡ entry_of code l
      pub right_link : New_ (right_at code l) ≡ link_word (record { kind = Branch Right top_at; size = frame_size code r })
      pub right_outcome : New_ (right_at code l + 1) ≡ ended
      pub right_entry : New_ (right_at code l + 2) ≡ entry_of code r

    fork_to_parts : (l r : ℕ) (x z : ℕ) → AllAt (now s code m p f y) (fork_to_stores code here l r x z) → ForkWords l r × (New_ 10 ≡ x) × (New_ (right_at code l + 5) ≡ z)
    fork_to_parts l r x z b = (
      record { link = b.0; offset = b.1.0; left_link = b.1.1.0; left_outcome = b.1.1.1.0; left_entry = b.1.1.1.1.0; right_link = b.1.1.1.1.1.1.0; right_outcome = b.1.1.1.1.1.1.1.0; right_entry = b.1.1.1.1.1.1.1.1.0 },
      b.1.1.1.1.1.0,
      b.1.1.1.1.1.1.1.1.1.0,
    )

    fork_parts : (l r : ℕ) (lt rt : Option ℕ) → AllAt (now s code m p f y) (fork_stores_by code here l r lt rt) → ForkWords l r
    fork_parts l r None None b = record { link = b.0; offset = b.1.0; left_link = b.1.1.0; left_outcome = b.1.1.1.0; left_entry = b.1.1.1.1.0; right_link = b.1.1.1.1.1.0; right_outcome = b.1.1.1.1.1.1.0; right_entry = b.1.1.1.1.1.1.1.0 }
    fork_parts l r None (Some x) b = (fork_to_parts l r (target_of None) (target_of (Some x)) b).0
    fork_parts l r (Some x) rt b = (fork_to_parts l r (target_of (Some x)) (target_of rt) b).0

    none_at_10 : (l r : ℕ) → AreElsewhere 10 (fork_stores_by code here l r None None)
    none_at_10 l r = (λ e. omega (arith, e), (λ e. omega (arith, e), (λ e. omega (arith, e), (λ e. omega (arith, e), (λ e. omega (arith, e), (λ e. omega (arith, e), (λ e. omega (arith, e), (λ e. omega (arith, e), tt))))))))

    none_at_right : (l r : ℕ) → AreElsewhere (right_at code l + 5) (fork_stores_by code here l r None None)
    none_at_right l r = (λ e. omega (arith, e), (λ e. omega (arith, e), (λ e. omega (arith, e), (λ e. omega (arith, e), (λ e. omega (arith, e), (λ e. omega (arith, e), (λ e. omega (arith, e), (λ e. omega (arith, e), tt))))))))

    none_at_1 : (l r : ℕ) (lt rt : Option ℕ) → AreElsewhere 1 (fork_stores_by code here l r lt rt)
    none_at_1 l r None None = (λ e. omega (arith, e), (λ e. omega (arith, e), (λ e. omega (arith, e), (λ e. omega (arith, e), (λ e. omega (arith, e), (λ e. omega (arith, e), (λ e. omega (arith, e), (λ e. omega (arith, e), tt))))))))
    none_at_1 l r None (Some b) = (λ e. omega (arith, e), (λ e. omega (arith, e), (λ e. omega (arith, e), (λ e. omega (arith, e), (λ e. omega (arith, e), (λ e. omega (arith, e), (λ e. omega (arith, e), (λ e. omega (arith, e), (λ e. omega (arith, e), (λ e. omega (arith, e), tt))))))))))
    none_at_1 l r (Some a) rt = (λ e. omega (arith, e), (λ e. omega (arith, e), (λ e. omega (arith, e), (λ e. omega (arith, e), (λ e. omega (arith, e), (λ e. omega (arith, e), (λ e. omega (arith, e), (λ e. omega (arith, e), (λ e. omega (arith, e), (λ e. omega (arith, e), tt))))))))))

    pub record ForkStands (h : LinkKind) (l r c : ℕ) (lt rt : Option ℕ) : Type 0 where
      pub link : link_at (m (BlockWord top_at)) ≡ record { kind = Forked f (other_copy y); size = fork_size code l r }
      pub order : m (BlockWord (top_at + 1)) ≡ 0
      pub offset : m (BlockWord (top_at + 4)) ≡ right_at code l
      pub left_link : link_at (m (BlockWord (top_at + 5))) ≡ record { kind = Branch Left top_at; size = frame_size code l }
      pub left_outcome : m (BlockWord (top_at + 6)) ≡ ended
      pub left_sized : slots_at code (m (BlockWord (top_at + 7))) ≡ slots_of code l
      pub right_link : link_at (m (BlockWord (top_at + right_at code l))) ≡ record { kind = Branch Right top_at; size = frame_size code r }
      pub right_outcome : m (BlockWord (top_at + (right_at code l + 1))) ≡ ended
      pub right_sized : slots_at code (m (BlockWord (top_at + (right_at code l + 2)))) ≡ slots_of code r
      pub left_target : m (BlockWord (top_at + 10)) ≡ target_of lt
      pub right_target : m (BlockWord (top_at + (right_at code l + 5))) ≡ target_of rt
      pub tree : opened (Fork l r c lt rt) ≡ tree_at m h (Splits f slots (other_copy y) top_at (Leaf (InPlace p) (Begins 0) (top_at + 5) (slots_of code l))
          (Leaf Fresh (Begins 0) (top_at + right_at code l) (slots_of code r)))

    targets : (l r c : ℕ) (lt rt : Option ℕ) → Stood (Fork l r c lt rt) → size ≡ fork_size code l r → (m (BlockWord (top_at + 10)) ≡ target_of lt) × (m (BlockWord (top_at + (right_at code l + 5))) ≡ target_of rt)
    targets l r c None None stands size_is = (
      blank_word s code fair m p f y room clean (Fork l r c None None) stands 10 (let h = room in omega (arith, h, size_is)) (λ b. omega (arith, b)) (none_at_10 l r),
      blank_word s code fair m p f y room clean (Fork l r c None None) stands (right_at code l + 5) (let h = room in omega (arith, h, size_is)) (λ b. omega (arith, b)) (none_at_right l r),
    )
    targets l r c None (Some x) stands size_is = let b = fork_to_parts l r (target_of None) (target_of (Some x)) (block_stands s code fair m p f y room clean (Fork l r c None (Some x)) stands) in (
      new_word s code fair m p f y room clean (Fork l r c None (Some x)) stands 10 (omega (arith, size_is)) ∙ b.1,
      new_word s code fair m p f y room clean (Fork l r c None (Some x)) stands (right_at code l + 5) (omega (arith, size_is)) ∙ b.2,
    )
    targets l r c (Some x) rt stands size_is = let b = fork_to_parts l r (target_of (Some x)) (target_of rt) (block_stands s code fair m p f y room clean (Fork l r c (Some x) rt) stands) in (
      new_word s code fair m p f y room clean (Fork l r c (Some x) rt) stands 10 (omega (arith, size_is)) ∙ b.1,
      new_word s code fair m p f y room clean (Fork l r c (Some x) rt) stands (right_at code l + 5) (omega (arith, size_is)) ∙ b.2,
    )

    fork_path : {own own' b b' c c' : FrameWord → ℕ} {k k' e e' g g' : ℕ} {lt lt' rt rt' : Option ℕ} → own ≡ own' → k ≡ k' → lt ≡ lt' → rt ≡ rt' → b ≡ b' → e ≡ e' → c ≡ c' → g ≡ g'
        → ◌≡◌ {A = Tree (Frame FrameWord Point) Result}
        (Forking (record { own = own; point = record { capsule = k; left_to = lt; to = rt } }) (Strand (record { own = b; point = at_capsule e })) (Strand (record { own = c; point = at_capsule g })))
        (Forking (record { own = own'; point = record { capsule = k'; left_to = lt'; to = rt' } }) (Strand (record { own = b'; point = at_capsule e' })) (Strand (record { own = c'; point = at_capsule g' })))
    fork_path p q r s b e c g = λ i. Forking (record { own = p i; point = record { capsule = q i; left_to = r i; to = s i } }) (Strand (record { own = b i; point = at_capsule (e i) })) (Strand (record { own = c i; point = at_capsule (g i) }))

    pub fork_stands : (h : LinkKind) (l r c : ℕ) (lt rt : Option ℕ) → Stood (Fork l r c lt rt) → m (header_word f (other_copy y)) ≡ c → ForkStands h l r c lt rt
    fork_stands h l r c lt rt stands own =
        let e = Fork l r c lt rt in
        let fit = end_fits s code fair m p f y room clean e stands in
        let size_is : size ≡ fork_size code l r = ap room_or fit.5 in
        let parts = fork_parts l r lt rt (block_stands s code fair m p f y room clean e stands) in
        let to = targets l r c lt rt stands size_is in
        let word : (o v : ℕ) → o < fork_size code l r → New_ o ≡ v → m (BlockWord (top_at + o)) ≡ v = λ o v lt q. new_word s code fair m p f y room clean e stands o (omega (arith, lt, size_is)) ∙ q in
        let at : (x z v : ℕ) → x ≡ z → m (BlockWord z) ≡ v → m (BlockWord x) ≡ v = λ x z v q e. ap (λ (x : ℕ). m (BlockWord x)) q ∙ e in
        let block_small : top_at < 2 ^ 28 = (let b = room in omega (arith, b, size_is, pool_small)) in
        let left_entry = word 7 (entry_of code l) (omega arith) parts.left_entry in
        let right_entry = word (right_at code l + 2) (entry_of code r) (omega arith) parts.right_entry in
        record {
          link = ap link_at (at top_at (top_at + 0) _ (omega arith) (word 0 _ (omega arith) parts.link))
              ∙ link_back (record { kind = Forked f (other_copy y); size = fork_size code l r }) ((small, (other_low, tt)), let b = size_small l in let d = size_small r in omega (arith, b, d));
          order = blank_word s code fair m p f y room clean e stands 1 (let h = room in omega (arith, h, size_is)) (λ b. omega (arith, b)) (none_at_1 l r lt rt);
          offset = word 4 (right_at code l) (omega arith) parts.offset;
          left_link = ap link_at (word 5 _ (omega arith) parts.left_link)
              ∙ link_back (record { kind = Branch Left top_at; size = frame_size code l }) ((block_small, (omega arith, tt)), let b = size_small l in omega (arith, b));
          left_outcome = word 6 ended (omega arith) parts.left_outcome;
          left_sized = ap (slots_at code) left_entry ∙ entry_slots l fit.0;
          right_link = ap link_at (word (right_at code l) _ (omega arith) parts.right_link)
              ∙ link_back (record { kind = Branch Right top_at; size = frame_size code r }) ((block_small, (omega arith, tt)), let b = size_small r in omega (arith, b));
          right_outcome = word (right_at code l + 1) ended (omega arith) parts.right_outcome;
          right_sized = ap (slots_at code) right_entry ∙ entry_slots r fit.1;
          left_target = to.0;
          right_target = to.1;
          tree = fork_path refl (sym (header_then c own))
              (sym (ap named (at (top_at + 5 + 5) (top_at + 10) (target_of lt) (omega arith) to.0) ∙ named_is lt))
              (sym (ap named (at (top_at + right_at code l + 5) (top_at + (right_at code l + 5)) (target_of rt) (omega arith) to.1) ∙ named_is rt))
              (sym (built_is s code fair m p f y room clean e stands 5 (top_at + 5) (slots_of code l) refl (omega (arith, size_is))))
              (sym (at (top_at + 5 + 2) (top_at + 7) (entry_of code l) (omega arith) left_entry))
              (sym (built_is s code fair m p f y room clean e stands (right_at code l) (top_at + right_at code l) (slots_of code r) refl (omega (arith, size_is))))
              (sym (at (top_at + right_at code l + 2) (top_at + (right_at code l + 2)) (entry_of code r) (omega arith) right_entry));
        }
