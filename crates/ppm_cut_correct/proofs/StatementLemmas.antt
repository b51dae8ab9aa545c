-- What the capsules of `let`, `x = e`, tests, `give` and the ends of blocks do.
use Rattle.std.proofs.Common.{◌≡◌, ℕ, suc, ◌+◌, ◌==◌, ℤ, pos, cond, Bool, true, false, List, [], ◌∷◌, ◌++◌, Some, None}
use Rattle.std.proofs.Common.{Result, Ok, Err, length, replicate, refl, sym, ap, ◌∙◌, subst, arith}
use Rattle.std.specs.Prelude.{slice_index, slice_set, not}
use Rattle.std.specs.List.{sum}
use Rattle.std.specs.Ordering.{int_eq}
use Rattle.ppm_words.specs.TwosComplement.{word_of}
use Rattle.ppm_strands.specs.Tree.{Words, Strand, Over}
use Rattle.ppm_strands.specs.Capsule.{Ends, Memory, store}
use Rattle.ppm_strands.specs.Strand.{Own}
use Rattle.ppm_code.specs.declared.act.Act.{Act}
use Rattle.ppm_code.specs.declared.act.Act.TheVariants.{Jumps, Passes}
use Rattle.ppm_code.specs.declared.act.End.{End}
use Rattle.ppm_code.specs.declared.act.End.TheVariants as ends
use Rattle.ppm_code.specs.declared.code.CodeParts.{CodeParts}
use Rattle.ppm_code.specs.declared.instr.Instr.{Instr}
use Rattle.ppm_code.specs.declared.instr.Instr.TheVariants as instr
use Rattle.ppm_code.specs.declared.location.FrameWord.{FrameWord}
use Rattle.ppm_code.specs.declared.location.FrameWord.TheVariants.{Slot, Value}
use Rattle.ppm_code.specs.declared.location.Location.TheVariants.{Frame as OwnWord}
use Rattle.ppm_code.specs.Acts.{held}
use Rattle.ppm_code.specs.Locations.{Where, code_locations}
use Rattle.ppm_code.specs.Capsules.{capsule_from, capsule_of}
use Rattle.ppm_code.specs.Strands.{Gave, with_value, instrs_of}
use Rattle.ppm_tree.specs.declared.mode.Mode.TheVariants as mode
use Rattle.ppm_tree.specs.Parts.{nodes}
use Rattle.ppm_tree.specs.Tree.{Expression}
use Rattle.ppm_tree.specs.Values.{holds}
use Rattle.ppm_tree.specs.State.{TrapAt, Frame, Arrays, with_local, evaluate}
use Rattle.ppm_tree.specs.Meaning.{Ended, end_of}
use Rattle.ppm_regions.specs.Scope.{Scope, plain}
use Rattle.ppm_cut_code.specs.Layout.{Layout, slot_of, register}
use Rattle.ppm_cut_code.specs.Expressions.{size_of, expression_code}
use Rattle.ppm_cut_code.specs.Fits.{FitsExpression}
use Rattle.ppm_cut_code.specs.Statements.{onward, test_code}
use Rattle.ppm_cut_correct.proofs.ChainLemmas.{cost, Chain, chain_then, chain_weaken}
use Rattle.ppm_cut_correct.proofs.Doing.{AreSmall, InHand, LetDoes, AssignDoes, TestDoes, GiveDoes, OnwardDoes, FinishDoes}
use Rattle.ppm_cut_correct.proofs.ExprLemmas.{Goes, goes_on, goes_equal, stores, loads, stops, jumps, passes, held_at, set_at}
use Rattle.ppm_cut_correct.proofs.ExprLemmas.{InReg, Meets, expr_meets, word_is, same_words, holds_number}
use Rattle.ppm_cut_correct.proofs.Holding.{HoldsValue, Reaches, Returns, Tested, at_work, strands, which}
use Rattle.ppm_cut_correct.proofs.HoldLemmas.{holds_delivered}
use Rattle.ppm_cut_correct.proofs.StoreLemmas.{stored_slot, holds_behind, holds_let}
use Rattle.ppm_cut_correct.proofs.StepLemmas.{start_at, sees, whole, Tried, tried}

-- in all registers stands 0 at first
abbrev pub zeros : List ℕ
zeros = replicate 64 0

pub zeros_count : length zeros ≡ 64
zeros_count = refl

-- a capsule goes on
pub onward_goes : (W n next : ℕ) (h : List ℕ) (m : Memory Where) → Goes (capsule_from W n 0 (onward next) h) m (Ends (ends.Next next)) m
onward_goes W n next h m = goes_equal _ _ m (stops W n (instr.Ends (ends.Next next)) [] h (ends.Next next) refl)

-- a value is stored in a slot
store_goes : (W n i : ℕ) (rest : List Instr) (g h : List ℕ) (m : Memory Where) (v : ℤ) → InReg 0 g v h
    → Goes (capsule_from W n 0 (instr.StoreCur i (register 0) ∷ rest) h) m (capsule_from W (n + 1) 0 rest h)
    (store code_locations m (Own (Slot i)) (word_of v))
store_goes W n i rest g h m v k =
    let is : held h (register 0) ≡ word_of v = held_at h 0 (omega arith) ∙ word_is (slice_index h 0) v k.value in
    subst (λ (w : ℕ). Goes (capsule_from W n 0 (instr.StoreCur i (register 0) ∷ rest) h) m (capsule_from W (n + 1) 0 rest h)
    (store code_locations m (Own (Slot i)) w))
    is (stores W n (instr.StoreCur i (register 0)) rest h (OwnWord (Slot i)) (held h (register 0)) m refl)

-- the word of a value that an expression has
of_word : {g h : List ℕ} {d : ℕ} (v : ℤ) → InReg d g v h → HoldsValue (word_of v) v
of_word {h = h} {d = d} v k = subst (λ (w : ℕ). HoldsValue w v) (word_is (slice_index h d) v k.value) k.value

module _ (lengths : List ℕ) (code : CodeParts) (scope : Scope) (layout : Layout) (f : Frame) (own : FrameWord → ℕ) (a : Words) (arrays : Arrays)
    (at next : ℕ) where
  abbrev now : Memory Where
  now = start_at lengths code own at a

  abbrev W : ℕ
  W = sum lengths

  -- an expression at the front of a capsule
  pub front : (e : Expression) (rest : List Instr) → InHand lengths code scope layout f own a arrays → FitsExpression scope layout e
      → AreSmall (nodes e)
      → Meets W (0 + size_of e) rest (λ v h. InReg 0 zeros v h) (capsule_of W (expression_code layout e 0 0 rest)) now (evaluate f arrays e)
  front e rest hand fits small =
      expr_meets lengths scope layout f arrays now (sees lengths code scope layout f own a arrays at hand) e 0 0 rest zeros fits small.each
      (omega (arith, small.count)) zeros_count

  -- an expression's value, and then a word stored or an end
  pub front_tried : (is : List Instr) (e : Expression) (rest : List Instr) → is ≡ expression_code layout e 0 0 rest → instrs_of code at ≡ is
      → InHand lengths code scope layout f own a arrays → FitsExpression scope layout e → AreSmall (nodes e)
      → (ends_at : ℤ → End) (m : ℤ → Memory Where)
      → ((v : ℤ) (h : List ℕ) → InReg 0 zeros v h → Goes (capsule_from W (0 + size_of e) 0 rest h) now (Ends (ends_at v)) (m v))
      → Tried lengths code 0 at ends_at m own a (evaluate f arrays e)
  front_tried is e rest same stands hand fits small ends_at m fin =
      let code_is = expression_code layout e 0 0 rest in
      tried lengths code at code_is (stands ∙ same) own a (capsule_of W code_is) 0 refl refl (omega arith)
      (0 + size_of e) rest (λ v h. InReg 0 zeros v h) (evaluate f arrays e) (front e rest hand fits small) ends_at m fin

  -- the value of an expression is one
  pub front_held : (e : Expression) → InHand lengths code scope layout f own a arrays → FitsExpression scope layout e → AreSmall (nodes e)
      → (v : ℤ) → evaluate f arrays e ≡ Ok v → HoldsValue (word_of v) v
  front_held e hand fits small v is = by (evaluate f arrays e) (front e [] hand fits small) is
    where
      by : (t : Result ℤ TrapAt) → Meets W (0 + size_of e) [] (λ v h. InReg 0 zeros v h) (capsule_of W (expression_code layout e 0 0 [])) now t
          → t ≡ Ok v → HoldsValue (word_of v) v
      by (Ok u) h is = let same : u ≡ v = cc in subst (λ (v : ℤ). HoldsValue (word_of v) v) same (of_word u h.2)
      by (Err stop) h is = cc

  -- the value of an expression goes into a slot
  pub kept : (i to : ℕ) (e : Expression) → instrs_of code at ≡ expression_code layout e 0 0 (instr.StoreCur i (register 0) ∷ onward to)
      → InHand lengths code scope layout f own a arrays → FitsExpression scope layout e → AreSmall (nodes e)
      → Tried lengths code 0 at (λ v. ends.Next to) (λ v. store code_locations now (Own (Slot i)) (word_of v)) own a (evaluate f arrays e)
  kept i to e stands hand fits small =
      let n = 0 + size_of e in
      front_tried (expression_code layout e 0 0 (instr.StoreCur i (register 0) ∷ onward to)) e
      (instr.StoreCur i (register 0) ∷ onward to) refl stands hand fits small
      (λ v. ends.Next to) (λ v. store code_locations now (Own (Slot i)) (word_of v)) (λ v h k.
      goes_on (store_goes W n i (onward to) zeros h now v k) (onward_goes W (n + 1) to h (store code_locations now (Own (Slot i)) (word_of v))))

  pub let_does : LetDoes lengths code scope layout f own a arrays at next
  let_does x e hand stands fits small new none =
      finish (evaluate f arrays e) (kept (length layout) next e stands hand fits small) (front_held e hand fits small)
    where
      finish : (t : Result ℤ TrapAt)
          → Tried lengths code 0 at (λ v. ends.Next next) (λ v. store code_locations now (Own (Slot (length layout))) (word_of v)) own a t
          → ((v : ℤ) → t ≡ Ok v → HoldsValue (word_of v) v)
          → Reaches lengths code (scope ++ plain mode.Int x ∷ []) (layout ++ x.name ∷ []) f (cost 1 1 0 0) (Strand (at_work own at)) a next
          (end_of t arrays (λ v. Ended (with_local f x.name v).locals arrays))
      finish (Ok v) c is = (
        with_value (Some (length layout)) (word_of v) own,
        a,
        holds_let lengths scope layout f own hand.holds x v (word_of v) new none (is v refl),
        hand.shows,
        c,
      )
      finish (Err stop) c is = (a, hand.shows, c)

  -- a test: past the first end where the value is 0
  test_goes : (e : Expression) (inside : ℕ) (v : ℤ) (h : List ℕ) → InReg 0 zeros v h
      → Goes (capsule_from W (0 + size_of e) 0 (instr.BranchZero (register 0) (suc (suc (size_of e))) ∷ instr.Ends (ends.Next inside) ∷ onward next)
      h) now
      (Ends (ends.Next (which (holds v) inside next))) now
  test_goes e inside v h k = by (int_eq v (pos 0)) refl
    where
      n : ℕ
      n = 0 + size_of e

      target : ℕ
      target = suc (suc (size_of e))

      branch : Instr
      branch = instr.BranchZero (register 0) target

      choice : Bool → Act
      choice b = cond b (Jumps target) Passes

      is_nought : (held h (register 0) == 0) ≡ int_eq v (pos 0)
      is_nought = ap (λ (w : ℕ). w == 0) (held_at h 0 (omega arith)) ∙ same_words (slice_index h 0) 0 v (pos 0) k.value (holds_number 0 (omega arith))

      by : (b : Bool) → int_eq v (pos 0) ≡ b
          → Goes (capsule_from W n 0 (branch ∷ instr.Ends (ends.Next inside) ∷ onward next) h) now (Ends (ends.Next (which (not b) inside next))) now
      by true t =
          goes_on (goes_equal _ _ now (jumps W n branch (instr.Ends (ends.Next inside) ∷ onward next) h target 1 (ap choice (is_nought ∙ t))
          (omega arith)))
          (onward_goes W (n + 1 + 1) next h now)
      by false t =
          goes_on (goes_equal _ _ now (passes W n branch (instr.Ends (ends.Next inside) ∷ onward next) h (ap choice (is_nought ∙ t))))
          (goes_equal _ _ now (stops W (n + 1) (instr.Ends (ends.Next inside)) (onward next) h (ends.Next inside) refl))

  pub test_does : TestDoes lengths code scope layout f own a arrays at next
  test_does inside e hand stands fits small =
      finish (evaluate f arrays e) (front_tried (test_code layout e inside next) e
      (instr.BranchZero (register 0) (suc (suc (size_of e))) ∷ instr.Ends (ends.Next inside) ∷ onward next) refl stands hand fits small
      (λ v. ends.Next (which (holds v) inside next)) (λ v. now) (test_goes e inside))
    where
      finish : (t : Result ℤ TrapAt) → Tried lengths code 0 at (λ v. ends.Next (which (holds v) inside next)) (λ v. now) own a t
          → Tested lengths code own a at inside next t
      finish (Ok v) c = c
      finish (Err stop) c = c

  give_nothing : InHand lengths code scope layout f own a arrays → instrs_of code at ≡ instr.Ends ends.Finish ∷ []
      → Returns lengths code (cost 1 1 0 0) (Strand (at_work own at)) a (Ended (pos 0) arrays)
  give_nothing hand stands = (
    own Value,
    a,
    subst (λ (w : ℕ). HoldsValue w (pos 0)) (sym hand.holds.value) (holds_number 0 (omega arith)),
    hand.shows,
    whole lengths code at (instr.Ends ends.Finish ∷ []) stands own a ends.Finish now 0 refl refl refl,
  )

  give_value : (e : Expression) → InHand lengths code scope layout f own a arrays
      → instrs_of code at ≡ expression_code layout e 0 0 (instr.Give (register 0) ∷ instr.Ends ends.Finish ∷ []) → FitsExpression scope layout e
      → AreSmall (nodes e)
      → Returns lengths code (cost 1 1 0 0) (Strand (at_work own at)) a (end_of (evaluate f arrays e) arrays (λ v. Ended v arrays))
  give_value e hand stands fits small =
      finish (evaluate f arrays e) (front_tried (expression_code layout e 0 0 rest) e rest refl stands hand fits small (λ v. ends.Finish) memory
      (λ v h k. goes_on (gives v h k) (goes_equal _ _ (memory v) (stops W (n + 1) (instr.Ends ends.Finish) [] h ends.Finish refl))))
      (front_held e hand fits small)
    where
      n : ℕ
      n = 0 + size_of e

      rest : List Instr
      rest = instr.Give (register 0) ∷ instr.Ends ends.Finish ∷ []

      memory : ℤ → Memory Where
      memory v = store code_locations now (Own Value) (word_of v)

      gives : (v : ℤ) (h : List ℕ) → InReg 0 zeros v h
          → Goes (capsule_from W n 0 rest h) now (capsule_from W (n + 1) 0 (instr.Ends ends.Finish ∷ []) h) (memory v)
      gives v h k =
          let is : held h (register 0) ≡ word_of v = held_at h 0 (omega arith) ∙ word_is (slice_index h 0) v k.value in
          subst (λ (w : ℕ). Goes (capsule_from W n 0 rest h) now (capsule_from W (n + 1) 0 (instr.Ends ends.Finish ∷ []) h)
          (store code_locations now (Own Value) w))
          is (stores W n (instr.Give (register 0)) (instr.Ends ends.Finish ∷ []) h (OwnWord Value) (held h (register 0)) now refl)

      finish : (t : Result ℤ TrapAt) → Tried lengths code 0 at (λ v. ends.Finish) memory own a t → ((v : ℤ) → t ≡ Ok v → HoldsValue (word_of v) v)
          → Returns lengths code (cost 1 1 0 0) (Strand (at_work own at)) a (end_of t arrays (λ v. Ended v arrays))
      finish (Ok v) c is = (word_of v, a, is v refl, hand.shows, c)
      finish (Err stop) c is = (a, hand.shows, c)

  pub give_does : GiveDoes lengths code scope layout f own a arrays at next
  give_does None hand stands fits = give_nothing hand stands
  give_does (Some g) hand stands fits = let both = fits g refl in give_value g.value hand stands both.0 both.1

  pub onward_does : OnwardDoes lengths code scope layout f own a arrays at next
  onward_does stands = whole lengths code at (onward next) stands own a (ends.Next next) now 0 refl refl refl

  pub finish_does : FinishDoes lengths code scope layout f own a arrays at next
  finish_does stands value =
      subst (λ (w : ℕ). Chain (strands lengths code) (cost 1 1 0 0) (Strand (at_work own at)) a (Over (Gave w)) a) value
      (whole lengths code at (instr.Ends ends.Finish ∷ []) stands own a ends.Finish now 0 refl refl refl)

  -- a word that lies in a slot goes into that of a name
  moved : (spare i : ℕ) (from : FrameWord → ℕ) (w : ℕ) → from (Slot spare) ≡ w
      → instrs_of code (suc at) ≡ instr.LoadSlot (register 0) spare ∷ instr.StoreCur i (register 0) ∷ onward next
      → Chain (strands lengths code) (cost 1 1 0 0) (Strand (at_work from (suc at))) a (Strand (at_work (with_value (Some i) w from) next)) a
  moved spare i from w is stands =
      whole lengths code (suc at) (load ∷ keep ∷ onward next) stands from a (ends.Next next) (store code_locations m (Own (Slot i)) w) 0
      goes.ends goes.left goes.asks
    where
      m : Memory Where
      m = start_at lengths code from (suc at) a

      load : Instr
      load = instr.LoadSlot (register 0) spare

      keep : Instr
      keep = instr.StoreCur i (register 0)

      h : List ℕ
      h = slice_set zeros (register 0).index (m (Own (Slot spare)))

      held_is : held h (register 0) ≡ w
      held_is = held_at h 0 (omega arith) ∙ set_at zeros 0 (m (Own (Slot spare))) zeros_count (omega arith) ∙ is

      goes : Goes (capsule_of W (load ∷ keep ∷ onward next)) m (Ends (ends.Next next)) (store code_locations m (Own (Slot i)) w)
      goes =
          goes_on (loads W 0 load (keep ∷ onward next) zeros (OwnWord (Slot spare)) (register 0) m refl)
          (goes_on (subst (λ (w : ℕ). Goes (capsule_from W (0 + 1) 0 (keep ∷ onward next) h) m (capsule_from W (0 + 1 + 1) 0 (onward next) h)
          (store code_locations m (Own (Slot i)) w)) held_is
          (stores W (0 + 1) keep (onward next) h (OwnWord (Slot i)) (held h (register 0)) m refl))
          (onward_goes W (0 + 1 + 1) next h (store code_locations m (Own (Slot i)) w)))

  pub assign_does : AssignDoes lengths code scope layout f own a arrays at next
  assign_does spare x e hand far stands moves is_local fits small =
      finish (evaluate f arrays e) (kept spare (suc at) e stands hand fits small) (front_held e hand fits small)
    where
      finish : (t : Result ℤ TrapAt)
          → Tried lengths code 0 at (λ v. ends.Next (suc at)) (λ v. store code_locations now (Own (Slot spare)) (word_of v)) own a t
          → ((v : ℤ) → t ≡ Ok v → HoldsValue (word_of v) v)
          → Reaches lengths code scope layout f (cost 1 2 0 0) (Strand (at_work own at)) a next
          (end_of t arrays (λ v. Ended (with_local f x.name v).locals arrays))
      finish (Ok v) c is =
          let w = word_of v in
          let from = with_value (Some spare) w own in (
            with_value (Some (slot_of layout x.name)) w from,
            a,
            holds_delivered lengths scope layout f from (Some x) w v is_local (is v refl)
                (holds_behind lengths scope layout f own hand.holds spare w far),
            hand.shows,
            chain_weaken (strands lengths code) (record { least = omega arith; most = omega arith; forks = refl; words = refl })
                (chain_then (strands lengths code) c (moved spare (slot_of layout x.name) from w (stored_slot own spare w) moves)),
          )
      finish (Err stop) c is = (
        a,
        hand.shows,
        chain_weaken (strands lengths code) (record { least = omega arith; most = omega arith; forks = refl; words = refl }) c,
      )
