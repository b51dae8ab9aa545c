-- What the capsules of `x[i] = e` do: index and value go into the spare slots, and the next capsule puts.
use Rattle.std.proofs.Common.{◌≡◌, ◌≤◌, ◌<◌, ℕ, suc, ◌+◌, ◌==◌, ℤ, pos, cond, List, [], ◌∷◌, ◌++◌, Some, Result, Ok, Err, length}
use Rattle.std.proofs.Common.{get_or, set, refl, sym, ap, ap₂, ◌∙◌, subst, subst₂, arith, inl, inr, get_or-set_same}
use Rattle.std.specs.Prelude.{slice_index, slice_set}
use Rattle.std.specs.List.{sum}
use Rattle.std.proofs.lemmas.Bool.{cases_eq, cases_lt, cond-true, cond-false, eq-eqb, ne_eqb}
use Rattle.std.proofs.lemmas.List.{get_or_past, length-append}
use Rattle.ppm_words.specs.TwosComplement.{word_of}
use Rattle.ppm_strands.specs.Tree.{Words, Strand}
use Rattle.ppm_strands.specs.Capsule.{Ends, Memory, store}
use Rattle.ppm_strands.specs.Strand.{Own, Shared}
use Rattle.ppm_code.specs.declared.act.Step.{Step}
use Rattle.ppm_code.specs.declared.act.Step.TheVariants.{Stores}
use Rattle.ppm_code.specs.declared.act.End.TheVariants as ends
use Rattle.ppm_code.specs.declared.code.CodeParts.{CodeParts}
use Rattle.ppm_code.specs.declared.instr.Instr.{Instr}
use Rattle.ppm_code.specs.declared.instr.Instr.TheVariants as instr
use Rattle.ppm_code.specs.declared.location.FrameWord.{FrameWord}
use Rattle.ppm_code.specs.declared.location.FrameWord.TheVariants.{Slot}
use Rattle.ppm_code.specs.declared.location.Location.TheVariants.{Frame as OwnWord, Array}
use Rattle.ppm_code.specs.Acts.{does, held, at_element, element_of}
use Rattle.ppm_code.specs.Locations.{Where, code_locations}
use Rattle.ppm_code.specs.Capsules.{capsule_from, capsule_of}
use Rattle.ppm_code.specs.Strands.{with_value, instrs_of}
use Rattle.ppm_tree.specs.declared.named.Named.{Named}
use Rattle.ppm_tree.specs.Limits.{IsNode}
use Rattle.ppm_tree.specs.Parts.{nodes}
use Rattle.ppm_tree.specs.Tree.{Expression}
use Rattle.ppm_tree.specs.State.{TrapAt, then_with, Region, Locals, Frame, Arrays, array_at, with_word, index_in, evaluate}
use Rattle.ppm_tree.specs.Meaning.{End as Ending, Ended, end_of}
use Rattle.ppm_ownership.proofs.WordLemmas.{index_below, put_lengths, put_other}
use Rattle.ppm_regions.specs.Scope.{Scope}
use Rattle.ppm_cut_code.specs.Layout.{Layout, slot_of, register}
use Rattle.ppm_cut_code.specs.Expressions.{size_of, expression_code}
use Rattle.ppm_cut_code.specs.Fits.{IsRegion, FitsExpression}
use Rattle.ppm_cut_code.specs.Statements.{onward, element_code, put_code}
use Rattle.ppm_cut_code.proofs.RegionWords.{one_address, offset_of, region_word}
use Rattle.ppm_cut_correct.proofs.ChainLemmas.{cost, Chain, chain_then, chain_weaken}
use Rattle.ppm_cut_correct.proofs.Doing.{AreSmall, InHand, PutDoes}
use Rattle.ppm_cut_correct.proofs.ExprLemmas.{Goes, goes_on, goes_equal, goes_same, stores, loads, stops, held_at, set_at, set_else, set_count, InReg}
use Rattle.ppm_cut_correct.proofs.ExprLemmas.{Meets, bind_meets, expr_meets, word_is, IsPlaced, at_index, element_acts, all_front, all_behind}
use Rattle.ppm_cut_correct.proofs.Holding.{HoldsValue, Holds, Shows, Reaches, at_work, strands}
use Rattle.ppm_cut_correct.proofs.StoreLemmas.{stored_slot, other_slot, holds_behind}
use Rattle.ppm_cut_correct.proofs.StatementLemmas.{zeros, zeros_count, onward_goes, front_held}
use Rattle.ppm_cut_correct.proofs.StepLemmas.{start_at, sees, whole, Tried, tried}

-- the words of the arrays with one at an address
abbrev pub with_shared : Words → (x w : ℕ) → Words
with_shared a x w y = cond (y == x) w (a y)

-- they are those of the arrays with the value there
module _ (lengths : List ℕ) (a : Words) (arrays : Arrays) (shows : Shows lengths a arrays) (n j : ℕ) (v : ℤ) (w : ℕ)
    (low : j < get_or lengths n 0) (is : HoldsValue w v) where
  abbrev changed : Arrays
  changed = set arrays n (set (array_at arrays n) j v)

  abbrev address : ℕ
  address = offset_of lengths n + j

  there : n < length arrays
  there = elim (cases_lt n (length arrays)) [
    | inl h ↦ h
    | inr past ↦
        let none : length (array_at arrays n) ≡ 0 = ap (λ (xs : List ℤ). length xs) (get_or_past arrays n [] past) in
        absurd (omega (arith, none, shows.shape n, low))
  ]

  put_here : get_or (array_at changed n) j (pos 0) ≡ v
  put_here =
      ap (λ (xs : List ℤ). get_or xs j (pos 0)) (get_or-set_same arrays n (set (array_at arrays n) j v) [] there)
      ∙ get_or-set_same (array_at arrays n) j v (pos 0) (omega (arith, shows.shape n, low))

  pub shows_put : Shows lengths (with_shared a address w) changed
  shows_put = record { shape = λ k. put_lengths arrays n j v k ∙ shows.shape k; word = held_word }
    where
      held_word : (k i : ℕ) → i < get_or lengths k 0
          → HoldsValue (with_shared a address w (offset_of lengths k + i)) (get_or (array_at changed k) i (pos 0))
      held_word k i below = elim (cases_eq (offset_of lengths k + i) address) [
        | inl e ↦
            let one = one_address lengths k n i j below low e in
            subst₂ HoldsValue (sym (cond-true (offset_of lengths k + i == address) w (a (offset_of lengths k + i))
            (eq-eqb (offset_of lengths k + i) address e)))
            (sym (ap₂ (λ (k i : ℕ). get_or (array_at changed k) i (pos 0)) one.0 one.1 ∙ put_here)) is
        | inr other ↦
            subst₂ HoldsValue
            (sym (cond-false (offset_of lengths k + i == address) w (a (offset_of lengths k + i)) (ne_eqb (offset_of lengths k + i) address other)))
            (sym (put_other arrays n j v k i (λ e f. other (ap₂ (λ (k i : ℕ). offset_of lengths k + i) e f)))) (shows.word k i below)
      ]

-- an index and a value in two registers
pub record InTwo (p : ℤ × ℤ) (h : List ℕ) : Type 0 where
  pub index : HoldsValue (slice_index h 0) p.0
  pub value : HoldsValue (slice_index h 1) p.1

module _ (lengths : List ℕ) (code : CodeParts) (scope : Scope) (layout : Layout) (f : Frame) (own : FrameWord → ℕ) (a : Words) (arrays : Arrays)
    (at next : ℕ) where
  abbrev W : ℕ
  W = sum lengths

  abbrev now : Memory Where
  now = start_at lengths code own at a

  -- the index and the value, in their order
  abbrev both_values : Expression → Expression → Result (ℤ × ℤ) TrapAt
  both_values i e = then_with (evaluate f arrays i) (λ i. then_with (evaluate f arrays e) (λ v. Ok (i, v)))

  module _ (spare : ℕ) (x : Named) (i e : Expression) (hand : InHand lengths code scope layout f own a arrays) (far : length layout ≤ spare)
      (is_region : IsRegion scope layout x) (fits_i : FitsExpression scope layout i) (fits_e : FitsExpression scope layout e)
      (small : AreSmall (nodes i ++ nodes e)) where
    abbrev rest : List Instr
    rest = instr.StoreCur spare (register 0) ∷ instr.StoreCur (suc spare) (register 1) ∷ onward (suc at)

    abbrev second : List Instr
    second = expression_code layout e 1 (size_of i) rest

    abbrev first_code : List Instr
    first_code = expression_code layout i 0 0 second

    abbrev n : ℕ
    n = size_of i + size_of e

    count : length (nodes i) + length (nodes e) ≤ 48
    count = omega (arith, small.count, length-append (nodes i) (nodes e))

    values_meet : Meets W n rest InTwo (capsule_of W first_code) now (both_values i e)
    values_meet =
        let seen = sees lengths code scope layout f own a arrays at hand in
        bind_meets W (0 + size_of i) n second rest (λ v h. InReg 0 zeros v h) InTwo (capsule_of W first_code) now (evaluate f arrays i) _
        (expr_meets lengths scope layout f arrays now seen i 0 0 second zeros fits_i (all_front IsNode (nodes i) (nodes e) small.each)
        (omega (arith, count)) zeros_count) (λ v h k.
        bind_meets W n n rest rest (λ v h'. InReg 1 h v h') InTwo (capsule_from W (0 + size_of i) 0 second h) now (evaluate f arrays e)
        (λ u. Ok (v, u))
        (meets_here h (expr_meets lengths scope layout f arrays now seen e 1 (size_of i) rest h fits_e
        (all_behind IsNode (nodes i) (nodes e) small.each)
        (omega (arith, count)) k.count)) (λ u h' j. (
          h',
          goes_same _ now,
          record { index = subst (λ (w : ℕ). HoldsValue w v) (sym (j.keeps 0 (omega arith))) k.value; value = j.value },
        )))
      where
        meets_here : (h : List ℕ) → Meets W n rest (λ v h'. InReg 1 h v h') (capsule_from W (size_of i) 0 second h) now (evaluate f arrays e)
            → Meets W n rest (λ v h'. InReg 1 h v h') (capsule_from W (0 + size_of i) 0 second h) now (evaluate f arrays e)
        meets_here h m =
            subst (λ (p : ℕ). Meets W n rest (λ v h'. InReg 1 h v h') (capsule_from W p 0 second h) now (evaluate f arrays e)) (omega arith) m

    -- index and value are stored
    abbrev spares : ℤ × ℤ → Memory Where
    spares p = store code_locations (store code_locations now (Own (Slot spare)) (word_of p.0)) (Own (Slot (suc spare))) (word_of p.1)

    stores_both : (p : ℤ × ℤ) (h : List ℕ) → InTwo p h → Goes (capsule_from W n 0 rest h) now (Ends (ends.Next (suc at))) (spares p)
    stores_both p h k =
        let is_index : held h (register 0) ≡ word_of p.0 = held_at h 0 (omega arith) ∙ word_is (slice_index h 0) p.0 k.index in
        let is_value : held h (register 1) ≡ word_of p.1 = held_at h 1 (omega arith) ∙ word_is (slice_index h 1) p.1 k.value in
        subst₂ (λ (w u : ℕ). Goes (capsule_from W n 0 rest h) now (Ends (ends.Next (suc at)))
        (store code_locations (store code_locations now (Own (Slot spare)) w) (Own (Slot (suc spare))) u)) is_index is_value
        (goes_on (stores W n (instr.StoreCur spare (register 0)) (instr.StoreCur (suc spare) (register 1) ∷ onward (suc at)) h (OwnWord (Slot spare))
        (held h (register 0)) now refl)
        (goes_on (stores W (n + 1) (instr.StoreCur (suc spare) (register 1)) (onward (suc at)) h (OwnWord (Slot (suc spare))) (held h (register 1))
        (store code_locations now (Own (Slot spare)) (held h (register 0))) refl)
        (onward_goes W (n + 1 + 1) (suc at) h _)))

    -- the frame with the spare slots filled
    abbrev filled : (w u : ℕ) → FrameWord → ℕ
    filled w u = with_value (Some (suc spare)) u (with_value (Some spare) w own)

    abbrev r : Region
    r = f.regions x.name

    -- the arrays with the word, or the trap
    abbrev behind_put : Result (ℕ × ℤ) TrapAt → Ending Locals
    behind_put t = end_of t arrays (λ p. Ended f.locals (with_word arrays r p.0 p.1))

    -- what is done with the value at an index
    abbrev placed_value : ℤ → Result ℕ TrapAt → Result (ℕ × ℤ) TrapAt
    placed_value v t = then_with t (λ k. Ok (k, v))

    -- the second capsule: the word at the index, or the trap
    module _ (j v : ℤ) (is_index : HoldsValue (word_of j) j) (is_value : HoldsValue (word_of v) v)
        (stands : instrs_of code (suc at) ≡ put_code layout spare x next) where
      abbrev from : FrameWord → ℕ
      from = filled (word_of j) (word_of v)

      abbrev at_second : Memory Where
      at_second = start_at lengths code from (suc at) a

      abbrev load : Instr
      load = instr.LoadSlot (register 0) (slot_of layout x.name)

      abbrev load_index : Instr
      load_index = instr.LoadSlot (register 1) spare

      abbrev load_value : Instr
      load_value = instr.LoadSlot (register 2) (suc spare)

      abbrev put : Instr
      put = instr.Put (register 0) (register 1) (register 2) x.line

      abbrev g : List ℕ
      g = slice_set zeros (register 0).index (from (Slot (slot_of layout x.name)))

      abbrev g' : List ℕ
      g' = slice_set g (register 1).index (from (Slot spare))

      abbrev h : List ℕ
      h = slice_set g' (register 2).index (from (Slot (suc spare)))

      g_count : length g ≡ 64
      g_count = set_count zeros 0 (from (Slot (slot_of layout x.name))) zeros_count

      g'_count : length g' ≡ 64
      g'_count = set_count g 1 (from (Slot spare)) g_count

      holds_from : Holds lengths scope layout f from
      holds_from = holds_behind lengths scope layout f (with_value (Some spare) (word_of j) own)
          (holds_behind lengths scope layout f own hand.holds spare (word_of j) far) (suc spare) (word_of v) (omega (arith, far))

      at_region : held h (register 0) ≡ region_word lengths r
      at_region =
          held_at h 0 (omega arith) ∙ set_else g' 2 (from (Slot (suc spare))) 0 (omega arith) (λ e. absurd (omega (arith, e)))
          ∙ set_else g 1 (from (Slot spare)) 0 (omega arith) (λ e. absurd (omega (arith, e)))
          ∙ set_at zeros 0 (from (Slot (slot_of layout x.name))) zeros_count (omega arith)
          ∙ holds_from.region x.name is_region.declaration is_region.found is_region.kind is_region.has

      at_place : held h (register 1) ≡ word_of j
      at_place =
          held_at h 1 (omega arith) ∙ set_else g' 2 (from (Slot (suc spare))) 1 (omega arith) (λ e. absurd (omega (arith, e)))
          ∙ set_at g 1 (from (Slot spare)) g_count (omega arith)
          ∙ other_slot (with_value (Some spare) (word_of j) own) (suc spare) (word_of v) spare (λ e. absurd (omega (arith, e)))
          ∙ stored_slot own spare (word_of j)

      at_value : held h (register 2) ≡ word_of v
      at_value =
          held_at h 2 (omega arith) ∙ set_at g' 2 (from (Slot (suc spare))) g'_count (omega arith)
          ∙ stored_slot (with_value (Some spare) (word_of j) own) (suc spare) (word_of v)

      placed : IsPlaced lengths r
      placed = record {
        small = hand.small;
        within = hand.lies.within x.name is_region.declaration is_region.found is_region.kind
            (is_region.seen refl);
      }

      abbrev step : ℕ → Step
      step y = Stores (Array y) (word_of v)

      act : does W put h ≡ at_index lengths r placed step (index_in x.line r j)
      act =
          ap (λ (w : ℕ). at_element x.line (element_of W (held h (register 0)) (held h (register 1))) (λ y. Stores (Array y) w)) at_value
          ∙ ap₂ (λ (q w : ℕ). at_element x.line (element_of W q w) step) at_region at_place
          ∙ element_acts lengths r placed x.line (word_of j) j step is_index

      loaded : Goes (capsule_of W (put_code layout spare x next)) at_second (capsule_from W (0 + 1 + 1 + 1) 0 (put ∷ onward next) h) at_second
      loaded =
          goes_on (loads W 0 load (load_index ∷ load_value ∷ put ∷ onward next) zeros (OwnWord (Slot (slot_of layout x.name)))
          (register 0) at_second refl)
          (goes_on (loads W (0 + 1) load_index (load_value ∷ put ∷ onward next) g (OwnWord (Slot spare)) (register 1) at_second refl)
          (loads W (0 + 1 + 1) load_value (put ∷ onward next) g' (OwnWord (Slot (suc spare))) (register 2) at_second refl))

      put_reaches : Reaches lengths code scope layout f (cost 1 1 0 0) (Strand (at_work from (suc at))) a next
          (behind_put (placed_value v (index_in x.line r j)))
      put_reaches = by (index_in x.line r j) refl
        where
          by : (t : Result ℕ TrapAt) → index_in x.line r j ≡ t
              → Reaches lengths code scope layout f (cost 1 1 0 0) (Strand (at_work from (suc at))) a next
              (behind_put (placed_value v t))
          by (Ok k) e =
              let y = offset_of lengths r.array + (r.start + k) in
              let below = index_below x.line r j k e in
              let m = store code_locations at_second (Shared y) (word_of v) in
              let goes = goes_on loaded (goes_on
              (stores W (0 + 1 + 1 + 1) put (onward next) h (Array y) (word_of v) at_second (act ∙ ap (at_index lengths r placed step) e))
              (onward_goes W (0 + 1 + 1 + 1 + 1) next h m)) in (
                from,
                with_shared a y (word_of v),
                holds_from,
                shows_put lengths a arrays hand.shows r.array (r.start + k) v (word_of v) (omega (arith, below, placed.within)) is_value,
                whole lengths code (suc at) (put_code layout spare x next) stands from a (ends.Next next) m 0 goes.ends goes.left goes.asks,
              )
          by (Err stop) e =
              let goes = goes_on loaded (goes_equal _ _ at_second
              (stops W (0 + 1 + 1 + 1) put (onward next) h (ends.Trap stop.0 stop.1) (act ∙ ap (at_index lengths r placed step) e))) in (
                a,
                hand.shows,
                whole lengths code (suc at) (put_code layout spare x next) stands from a
                    (ends.Trap stop.0 stop.1) at_second 0 goes.ends goes.left goes.asks,
              )

    -- both capsules
    module _ (first_stands : instrs_of code at ≡ element_code layout spare i e (suc at))
        (stands : instrs_of code (suc at) ≡ put_code layout spare x next) where
      small_index : AreSmall (nodes i)
      small_index = record { count = omega (arith, count); each = all_front IsNode (nodes i) (nodes e) small.each }

      small_value : AreSmall (nodes e)
      small_value = record { count = omega (arith, count); each = all_behind IsNode (nodes i) (nodes e) small.each }

      abbrev Done : Result ℤ TrapAt → Result ℤ TrapAt → Type 0
      Done s t = Reaches lengths code scope layout f (cost 1 2 0 0) (Strand (at_work own at)) a next
          (behind_put (then_with s (λ j. then_with t (λ v. placed_value v (index_in x.line r j)))))

      both_done : (j v : ℤ) (t : Result ℕ TrapAt)
          → Chain (strands lengths code) (cost 1 1 0 0) (Strand (at_work own at)) a (Strand (at_work (filled (word_of j) (word_of v)) (suc at))) a
          → Reaches lengths code scope layout f (cost 1 1 0 0) (Strand (at_work (filled (word_of j) (word_of v)) (suc at))) a next
          (behind_put (placed_value v t))
          → Reaches lengths code scope layout f (cost 1 2 0 0) (Strand (at_work own at)) a next
          (behind_put (placed_value v t))
      both_done j v (Ok k) c d = (
        d.0,
        d.1,
        d.2,
        d.3,
        chain_weaken (strands lengths code) (record { least = omega arith; most = omega arith; forks = refl; words = refl })
            (chain_then (strands lengths code) c d.4),
      )
      both_done j v (Err stop) c d = (
        d.0,
        d.1,
        chain_weaken (strands lengths code) (record { least = omega arith; most = omega arith; forks = refl; words = refl })
            (chain_then (strands lengths code) c d.2),
      )

      finish : (s t : Result ℤ TrapAt)
          → Tried lengths code 0 at (λ p. ends.Next (suc at)) spares own a (then_with s (λ j. then_with t (λ v. Ok (j, v))))
          → ((j : ℤ) → s ≡ Ok j → HoldsValue (word_of j) j) → ((v : ℤ) → t ≡ Ok v → HoldsValue (word_of v) v) → Done s t
      finish (Ok j) (Ok v) c is_j is_v = both_done j v (index_in x.line r j) c (put_reaches j v (is_j j refl) (is_v v refl) stands)
      finish (Ok j) (Err stop) c is_j is_v = (
        a,
        hand.shows,
        chain_weaken (strands lengths code) (record { least = omega arith; most = omega arith; forks = refl; words = refl }) c,
      )
      finish (Err stop) t c is_j is_v = (
        a,
        hand.shows,
        chain_weaken (strands lengths code) (record { least = omega arith; most = omega arith; forks = refl; words = refl }) c,
      )

      put_done : Done (evaluate f arrays i) (evaluate f arrays e)
      put_done =
          finish (evaluate f arrays i) (evaluate f arrays e)
          (tried lengths code at first_code first_stands own a (capsule_of W first_code) 0 refl refl (omega arith) n rest InTwo
          (both_values i e) values_meet
          (λ p. ends.Next (suc at)) spares stores_both)
          (front_held lengths code scope layout f own a arrays at next i hand fits_i small_index)
          (front_held lengths code scope layout f own a arrays at next e hand fits_e small_value)

  pub put_does : PutDoes lengths code scope layout f own a arrays at next
  put_does spare x i e hand far first_stands stands is_region fits_i fits_e small =
      put_done spare x i e hand far is_region fits_i fits_e small first_stands stands
