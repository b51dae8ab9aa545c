-- The root's frame with which a run begins, and what is said of its end.
use Rattle.std.proofs.Common.{◌≡◌, ◌<◌, ◌≤◌, ℕ, zero, suc, ◌+◌, ◌-◌, List, [], ◌∷◌, ◌++◌, length, get_or, map, take, drop, replicate, refl, sym, ap, ap₂, ◌∙◌, subst, arith, inl, inr, Option, Some, None, length-append, nat_lt, Bool, true, false}
use Rattle.std.specs.Prelude.{ℤ}
use Rattle.std.proofs.lemmas.Bool.{ltb-true, ltb-false}
use Rattle.std.proofs.lemmas.List.{get_or_append_left, get_or-append-add, length-map, length-replicate, get_or_past, drop-drop}
use Rattle.std.proofs.Math.Seq.{drop-cons}
use Rattle.std.proofs.lemmas.List.Sums.{sum-map, sum_by-cons}
use Rattle.std.proofs.lemmas.List.Concat.{flat_map-cons}
use Rattle.ppm_strands.specs.Tree.{Strand, Over}
use Rattle.ppm_strands.specs.Run.{Counts, End, none, plus, with_counts, of_capsule}
use Rattle.ppm_depth.specs.Order.{StepsInOrder}
use Rattle.ppm_strands.proofs.ChainLemmas.{chains_keep_ends, chains_count_no_more}
use Rattle.ppm_depth.proofs.OrderLemmas.{turns, then_steps, at_work}
use Rattle.ppm_words.specs.TwosComplement.{word_of, value_of}
use Rattle.ppm_words.specs.Inputs.{value_count}
use Rattle.ppm_words.specs.declared.named_array.NamedArray.{NamedArray}
use Rattle.ppm_code.specs.declared.code.CodeParts.{CodeParts}
use Rattle.ppm_code.specs.Code.{IsCode}
use Rattle.ppm_code.specs.Sizes.{slots_of, frame_size}
use Rattle.ppm_code.specs.Strands.{Result, Gave, Trapped, at_capsule, entry_of}
use Rattle.ppm_words.specs.declared.outcome.Outcome.TheVariants.{Ended}
use Rattle.ppm_depth.specs.declared.depth.DepthRun.{DepthRun}
use Rattle.ppm_depth.specs.declared.frame.Finish.{Finish}
use Rattle.ppm_depth.specs.declared.frame.Frame.{Frame}
use Rattle.ppm_depth.specs.declared.frame.Waiting.{Waiting}
use Rattle.ppm_depth.specs.declared.frame.Finish.TheVariants as finish
use Rattle.ppm_depth.specs.declared.strand.Strand.{Strand as StrandState}
use Rattle.ppm_depth.specs.Image.{arrays_in, root_frame, word_count, outcome_in}
use Rattle.ppm_depth.specs.Moves.{entry_at}
use Rattle.ppm_depth.specs.Run.{strands_of, values_at, arrays_at, ComesTo, BeginsWith, IsDepthRun}
use Rattle.ppm_depth.specs.Stack.{Own, Strands, Above, Root, tree_at, IsShown}
use Rattle.ppm_code.specs.Inputs.{words_in}
use Rattle.ppm_depth.specs.Start.{words_of, root_regions, root_own, root_strand, regions_from}
use Rattle.ppm_depth.specs.Turns.{strands_over, counts_of, HasCome}
use Rattle.ppm_depth.specs.declared.frame.Now.TheVariants.{At}
use Rattle.ppm_depth.proofs.AdvanceLemmas.{one_step}
use Rattle.ppm_depth.proofs.StackLemmas.{lifted}
use Rattle.ppm_code.proofs.CodeLemmas.{entry_is, procedure_is}
use Rattle.ppm_depth.proofs.TurnLemmas.{zeros}

-- the words of arrays, counted
pub counts_words : (input : List NamedArray) → value_count input ≡ word_count input
counts_words [] = refl
counts_words (a ∷ input) =
    let rest = counts_words input in
    let all = sum-map (λ (b : NamedArray). length b.values) (a ∷ input) in
    let behind = sum-map (λ (b : NamedArray). length b.values) input in
    let first = sum_by-cons (λ (b : NamedArray). length b.values) a input in
    omega (arith, rest, all, behind, first)

pub length_words : (input : List NamedArray) → length (words_in input) ≡ word_count input
length_words [] = refl
length_words (a ∷ input) =
    let one = ap (λ (ws : List ℕ). length ws) (flat_map-cons (λ (b : NamedArray). map word_of b.values) a input) in
    let both = length-append (map word_of a.values) (words_in input) in
    let few = length-map a.values word_of in
    let rest = length_words input in
    omega (arith, one, both, few, rest)

-- there is a region word for each array
pub length_regions : (start : ℕ) (input : List NamedArray) → length (regions_from start input) ≡ length input
length_regions start [] = refl
length_regions start (a ∷ input) = let rest = length_regions (start + length a.values) input in omega (arith, rest)

module _ (code : CodeParts) (input : List NamedArray) where
  -- the root's frame has its words, and no more
  pub root_length : length code.arrays ≤ slots_of code code.root → length (root_frame code input) ≡ frame_size code code.root
  root_length fits =
      let all = length-append (replicate 6 0 ++ root_regions code input) (replicate (slots_of code code.root - length code.arrays) 0) in
      let front = length-append (replicate 6 0) (root_regions code input) in
      let regions = length-map code.arrays (λ (a : ℕ). get_or (regions_from 0 input) a 0) in
      let six = length-replicate {A = ℕ} 6 0 in
      let spare = length-replicate {A = ℕ} (slots_of code code.root - length code.arrays) 0 in
      omega (arith, all, front, regions, six, spare, fits)

  -- its slots
  root_slot : (i : ℕ) → get_or (root_regions code input) i 0 ≡ get_or (root_frame code input) (6 + i) 0
  root_slot i = by (nat_lt i (length (root_regions code input))) refl
    where
      front : List ℕ
      front = replicate 6 0 ++ root_regions code input

      count : length (replicate 6 0 ++ root_regions code input) ≡ 6 + length (root_regions code input)
      count = length-append (replicate 6 0) (root_regions code input)

      by : (b : Bool) → nat_lt i (length (root_regions code input)) ≡ b → get_or (root_regions code input) i 0 ≡ get_or (root_frame code input) (6 + i) 0
      by true e =
          let less = ltb-true i (length (root_regions code input)) e in
          sym (get_or_append_left (replicate 6 0 ++ root_regions code input) (replicate (slots_of code code.root - length code.arrays) 0) 0 (6 + i)
          (omega (arith, less, count)) ∙ get_or-append-add (replicate 6 0) (root_regions code input) i 0)
      by false e =
          let past = ltb-false i (length (root_regions code input)) e in
          get_or_past (root_regions code input) i 0 past
          ∙ sym (ap (λ (n : ℕ). get_or (root_frame code input) n 0) (omega (arith, past, count))
          ∙ get_or-append-add (replicate 6 0 ++ root_regions code input) (replicate (slots_of code code.root - length code.arrays) 0)
          (i - length (root_regions code input)) 0
          ∙ zeros (slots_of code code.root - length code.arrays) (i - length (root_regions code input)))

  -- the strand begins with the root
  pub root_shown : IsCode code → IsShown code (root_frame code input) [] (At (entry_at code code.root 0)) (root_strand code input)
  root_shown is_code =
      let one = entry_is code is_code code.root is_code.root in
      let procedure = procedure_is code code.root (entry_of code code.root) one in
      let all = root_length is_code.root_slots in
      let size = ap (λ (q : ℕ). frame_size code q) procedure in
      record {
        above = Root;
        waits = refl;
        leaf = root_strand code input;
        tree = refl;
        at = (
          record { own = root_own code input; point = at_capsule (entry_of code code.root) },
          refl,
          record {
            there = one.1;
            point = refl;
            left_target = tt;
            target = tt;
            slot = λ i less. root_slot i ∙ ap (λ (n : ℕ). get_or (root_frame code input) n 0) (omega arith);
            value = refl;
          },
          omega (arith, all, size),
          tt,
        );
      }

-- the strand begins with the root, where stack, frames that wait and root are those
pub begins_shown : (code : CodeParts) (input : List NamedArray) → IsCode code → (blocks : List ℕ) (waiting : List Waiting) (root : Frame)
    → blocks ≡ root_frame code input → waiting ≡ [] → root ≡ entry_at code code.root 0 → IsShown code blocks waiting (At root) (root_strand code input)
begins_shown code input is_code blocks waiting root frame none entry = rw (frame, none, entry) (root_shown code input is_code)

-- the values that words have at an address
values_same : (ws : List ℕ) (start n : ℕ) → start + n ≤ length ws → values_at (words_of ws) start n ≡ map value_of (take n (drop start ws))
values_same ws start zero h = refl
values_same ws start (suc n) h =
    let next : start + 1 ≡ suc start = omega arith in
    let rest : values_at (words_of ws) (start + 1) n ≡ map value_of (take n (drop (suc start) ws)) =
    values_same ws (start + 1) n (omega (arith, h)) ∙ ap (λ (k : ℕ). map value_of (take n (drop k ws))) next in
    ap (λ (vs : List ℤ). value_of (get_or ws start 0) ∷ vs) rest
    ∙ sym (ap (λ (xs : List ℕ). map value_of (take (suc n) xs)) (drop-cons ws start 0 (omega (arith, h))))

-- and arrays
pub arrays_same : (ws : List ℕ) (start : ℕ) (input : List NamedArray) → start + word_count input ≤ length ws
    → arrays_at (words_of ws) start input ≡ arrays_in input (drop start ws)
arrays_same ws start [] h = refl
arrays_same ws start (a ∷ input) h =
    let n = length a.values in
    let values = values_same ws start n (omega (arith, h)) in
    let rest : arrays_at (words_of ws) (start + n) input ≡ arrays_in input (drop n (drop start ws)) =
    arrays_same ws (start + n) input (omega (arith, h)) ∙ ap (λ (xs : List ℕ). arrays_in input xs) (sym (drop-drop n start ws)) in
    ap₂ (λ (vs : List ℤ) (xs : List NamedArray). record { name = a.name; values = vs } ∷ xs) values rest

module _ (code : CodeParts) (input : List NamedArray) (ws words : List ℕ) (begins : ws ≡ words_in input) (k : Counts) where
  -- the strands of the code from the input's words
  chain : (u : Strands) → StepsInOrder (strands_over code (length ws)) k (root_strand code input) (words_of ws) u (words_of words)
      → StepsInOrder (strands_of code input) k (root_strand code input) (words_of (words_in input)) u (words_of words)
  chain u s = subst (λ (xs : List ℕ). StepsInOrder (strands_over code (length xs)) k (root_strand code input) (words_of xs) u (words_of words)) begins s

  -- a chain to an outcome is the end
  pub ends_there : (o : Result) → StepsInOrder (strands_over code (length ws)) k (root_strand code input) (words_of ws) (Over o) (words_of words)
      → ComesTo code input (with_counts k (record { outcome = o; words = words_of words; counts = none }))
  ends_there o s =
      let c = strands_of code input in
      let whole = turns c (chain (Over o) s) in
      let over : End Result = record { outcome = o; words = words_of words; counts = none } in
      (chains_keep_ends c k (root_strand code input) (Over o) (words_of (words_in input)) (words_of words) whole.0 whole.1 (with_counts k over)).1
      (over, (1, refl), refl)

  -- where one capsule more is to be run, each end has more
  pub more_to_come : (above : Above) (f : Own)
      → StepsInOrder (strands_over code (length ws)) k (root_strand code input) (words_of ws) (tree_at above (Strand f)) (words_of words)
      → (e : End Result) → ComesTo code input e → k.capsules < e.counts.capsules
  more_to_come above f s e comes =
      let c = strands_of code input in
      let whole = chain (tree_at above (Strand f)) s in
      let one = lifted c above (one_step c f (words_of words)) in
      let more = turns c (then_steps c whole.0 whole.1 one) in
      let most = (chains_count_no_more c (plus k (of_capsule c f (words_of words))) (root_strand code input) (tree_at above (c.next f (words_of words)))
      (words_of (words_in input)) (c.after f (words_of words)) more e comes).capsules in
      omega (arith, most)

  pub begins_there : (above : Above) (f : Own)
      → StepsInOrder (strands_over code (length ws)) k (root_strand code input) (words_of ws) (tree_at above (Strand f)) (words_of words)
      → BeginsWith code input k (tree_at above (Strand f)) (words_of words)
  begins_there above f s = chain (tree_at above (Strand f)) s

-- what is answered is the depth-first run
pub answered : (code : CodeParts) (input : List NamedArray) (ws : List ℕ) → ws ≡ words_in input → (limit : ℕ) (strand : StrandState) (finish : Option Finish)
    → HasCome code (length ws) limit (root_strand code input) (words_of ws) strand finish → strand.counts.capsules ≤ limit
    → word_count input ≤ length strand.store.words.items
    → (r : DepthRun) → r.outcome ≡ outcome_in input strand.store.words.items finish → r.capsules ≡ strand.counts.capsules
    → r.forks ≡ strand.counts.forks → r.pool_words ≡ frame_size code code.root + strand.counts.block_words → IsDepthRun code input limit r
answered code input ws begins limit strand None come few enough r says capsules forks words = inr (record {
  outcome = says;
  more = λ e comes. let more = more_to_come code input ws strand.store.words.items begins (counts_of strand.counts) come.0 come.1 come.2 e comes in
      let all = come.3 in omega (arith, more, all);
  front = counts_of strand.counts;
  left = tree_at come.0 (Strand come.1);
  words = words_of strand.store.words.items;
  begins = begins_there code input ws strand.store.words.items begins (counts_of strand.counts) come.0 come.1 come.2;
  all = come.3;
  next = at_work come.0 (Strand come.1) tt;
  counts = record { capsules = capsules; forks = forks; pool_words = words };
})
answered code input ws begins limit strand (Some (finish.Gave v)) come few enough r says capsules forks words = inl (record {
  end = with_counts (counts_of strand.counts) (record { outcome = Gave v; words = words_of strand.store.words.items; counts = none });
  comes = ends_there code input ws strand.store.words.items begins (counts_of strand.counts) (Gave v) come;
  within = omega (arith, few);
  outcome = says ∙ sym (ap (λ (xs : List NamedArray). Ended xs) (arrays_same strand.store.words.items 0 input (omega (arith, enough))));
  counts = record { capsules = omega (arith, capsules); forks = omega (arith, forks); pool_words = omega (arith, words) };
})
answered code input ws begins limit strand (Some (finish.Trapped trap line)) come few enough r says capsules forks words = inl (record {
  end = with_counts (counts_of strand.counts) (record { outcome = Trapped trap line; words = words_of strand.store.words.items; counts = none });
  comes = ends_there code input ws strand.store.words.items begins (counts_of strand.counts) (Trapped trap line) come;
  within = omega (arith, few);
  outcome = says;
  counts = record { capsules = omega (arith, capsules); forks = omega (arith, forks); pool_words = omega (arith, words) };
})
