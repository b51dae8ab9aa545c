-- What a walk has come to is what is said of the code.
use Rattle.std.proofs.Common.{◌≡◌, ◌≤◌, ◌<◌, inl, inr, ℕ, ◌+◌, List, [], ◌∷◌, ◌++◌, refl, sym, ap, ◌∙◌, subst, arith, length, get_or, replicate, Some}
use Rattle.std.proofs.Common.{Bool, true}
use Rattle.std.proofs.Math.Path.{fun_ext}
use Rattle.std.proofs.lemmas.Bool.{or_cases, and_parts}
use Rattle.std.proofs.lemmas.List.{length_push}
use Rattle.std.specs.Prelude.{◌&&◌}
use Rattle.ppm_words.specs.declared.named_array.NamedArray.{NamedArray}
use Rattle.ppm_words.specs.declared.outcome.Outcome.TheVariants.{NotWithin}
use Rattle.ppm_strands.proofs.StrandLemmas.{code_is_local}
use Rattle.ppm_strands.specs.Strand.{start}
use Rattle.ppm_code.specs.Code.{IsCode}
use Rattle.ppm_code.specs.Inputs.{words_in}
use Rattle.ppm_code.specs.Locations.{code_locations}
use Rattle.ppm_code.specs.Sizes.{frame_size}
use Rattle.ppm_code.specs.Strands.{instrs_of, table_of}
use Rattle.ppm_code.specs.declared.code.CodeParts.{CodeParts}
use Rattle.ppm_depth.specs.Image.{IsRunOf, outcome_in, root_frame, word_count}
use Rattle.ppm_depth.specs.Moves.{entry_at}
use Rattle.ppm_depth.specs.Run.{IsWithin}
use Rattle.ppm_depth.specs.Stack.{Own, Strands, Above as Standing, Root, On, listed, tree_at, IsNow, IsShown, IsShownAt}
use Rattle.ppm_depth.specs.Start.{words_of, root_strand}
use Rattle.ppm_depth.specs.Turns.{HasCome, strands_over}
use Rattle.ppm_depth.specs.declared.depth.DepthRun.{DepthRun}
use Rattle.ppm_depth.specs.declared.frame.Finish.{Finish}
use Rattle.ppm_depth.specs.declared.frame.Finish.TheVariants.{Gave, Trapped}
use Rattle.ppm_depth.specs.declared.frame.Frame.{Frame}
use Rattle.ppm_depth.specs.declared.frame.Now.{Now}
use Rattle.ppm_depth.specs.declared.frame.Now.TheVariants.{At}
use Rattle.ppm_depth.specs.declared.frame.Waiting.{Waiting}
use Rattle.ppm_depth.specs.declared.strand.Strand.{Strand as StrandState}
use Rattle.ppm_depth.proofs.EndLemmas.{answered, begins_shown}
use Rattle.ppm_depth.proofs.TurnLemmas.{zeros}
use Rattle.ppm_races.specs.Beside.{stamps_of}
use Rattle.ppm_races.specs.Touches.{words_in as words_of_log, written_in}
use Rattle.ppm_races.specs.Verdicts.{log_of, meets_at}
use Rattle.ppm_races.specs.Walks.{IsMeetingOf}
use Rattle.ppm_races.specs.declared.stamps.Mark.{Mark}
use Rattle.ppm_races.specs.declared.touch.Touch.{Touch}
use Rattle.ppm_races.specs.declared.walk.Meeting.{Meeting}
use Rattle.ppm_races.proofs.AccessLemmas.{is_log}
use Rattle.ppm_races.proofs.StampLemmas.{in_words, in_written}
use Rattle.ppm_races.proofs.ReturnLemmas.{Stands}
use Rattle.ppm_strands.specs.Tree.{Words, Tree, Strand, Over, Code, Local, Has}
use Rattle.ppm_strands.specs.Run.{End, Ends}
use Rattle.ppm_strands.specs.Calm.{touches, Calm}
use Rattle.ppm_strands.proofs.PartsLemmas.{over_end, has_left, has_right}
use Rattle.ppm_stamps.specs.Stamps.{Stamps, Passes, Meets, nothing, fresh}
use Rattle.ppm_stamps.specs.Moments.{Above, beside_of, Comes, Begins}
use Rattle.ppm_stamps.proofs.CountLemmas.{one_more}
use Rattle.ppm_stamps.proofs.MomentLemmas.{clean_back, found_back}
use Rattle.ppm_stamps.proofs.RaceLemmas.{clean, found}

module _ {F O : Type 0} (c : Code F O) (local : Local c) (root : Tree F O) (input : Words) where
  -- at its end
  pub ended_calm : (o : O) (a : Words) (s : Stamps) → Comes c root input [] (Over o) a s → Calm c root input
  ended_calm o a s come =
      let back = clean_back c come s (s, over_end o a, (1, refl), (1, refl), refl) in
      (clean c local back.2.0 nothing root input fresh back.0 (λ k none. absurd (cc)) (λ x. omega arith) (λ x. omega arith) back.2.1).calm

  -- and that is an end of its depth-first run
  pub ended_ends : (o : O) (a : Words) (s : Stamps) → Comes c root input [] (Over o) a s → (e : End O) × Ends c root input e
  ended_ends o a s come =
      let back = clean_back c come s (s, over_end o a, (1, refl), (1, refl), refl) in
      (clean c local back.2.0 nothing root input fresh back.0 (λ k none. absurd (cc)) (λ x. omega arith) (λ x. omega arith) back.2.1).end

  -- where the next capsule meets something
  pub met_not_calm : (above : List (Above F O)) (f : F) (a : Words) (s : Stamps) → Comes c root input above (Strand f) a s → Meets c (beside_of above) f a s
      → Calm c root input → ⊥
  met_not_calm above f a s come meets calm = elim (found_back c come (inl (1, inl meets))) [
    | inl it ↦ elim (found c local it.0 nothing root input fresh (λ k none. absurd (cc)) (λ x. omega arith) (λ x. omega arith) it.1 calm).1 [
      | inl y ↦ let e = y.1 in absurd (cc)
      | inr y ↦ let e = y.1 in absurd (cc)
    ]
    | inr it ↦ it.4
  ]

  -- where one more would be run
  pub more_come : (above : List (Above F O)) (f : F) (a : Words) (s : Stamps) (limit : ℕ) → Comes c root input above (Strand f) a s → s.time ≡ limit + 1
      → (e : End O) → Ends c root input e → limit < e.counts.capsules
  more_come above f a s limit come all e ends = let more = one_more c come e ends in omega (arith, more, all)

-- what meets nothing does not meet something
pub passes_not_meets : {F O : Type 0} (c : Code F O) (beside : ℕ → Bool) (f : F) (a : Words) (s : Stamps) → Passes c beside f a s → Meets c beside f a s → ⊥
passes_not_meets c beside f a s passes meets = elim meets.1 [
  | inl y ↦ let out = passes.unwritten meets.0 y.0 in let is = y.1 in cc
  | inr y ↦ let out = passes.untouched meets.0 y.0 in let is = y.1 in cc
]

module _ (code : CodeParts) (array_words : ℕ) where
  -- the words of a log are those that the capsule touches, and writes
  pub log_touches : (f : Own) (a : Words) (x : ℕ) → Has x (words_of_log (log_of code array_words f a)) → Has x (touches (strands_over code array_words) f a)
  log_touches f a x h =
      elim (((is_log array_words (instrs_of code f.point.capsule) (start code_locations (table_of code array_words) f a)).touched x).0 h) [
        | inl y ↦ has_left x ((strands_over code array_words).reads f a) _ y
        | inr y ↦ has_right x ((strands_over code array_words).reads f a) _ y
      ]

  -- the words that a log writes
  pub log_writes : (f : Own) (a : Words) (x : ℕ) → Has x (written_in (log_of code array_words f a)) → Has x ((strands_over code array_words).writes f a)
  log_writes f a x h = ((is_log array_words (instrs_of code f.point.capsule) (start code_locations (table_of code array_words) f a)).written x).0 h

  -- and back
  pub writes_log : (f : Own) (a : Words) (x : ℕ) → Has x ((strands_over code array_words).writes f a) → Has x (written_in (log_of code array_words f a))
  writes_log f a x h = ((is_log array_words (instrs_of code f.point.capsule) (start code_locations (table_of code array_words) f a)).written x).1 h

  -- a touch of a capsule that meets something is one by which the capsule does
  pub touch_meets : (f : Own) (a : Words) (beside : ℕ → Bool) (s : Stamps) (front rest : List Touch) (t : Touch)
      → log_of code array_words f a ≡ front ++ (t ∷ rest) → meets_at beside s t ≡ true → Meets (strands_over code array_words) beside f a s
  touch_meets f a beside s front rest t all is = (
    t.word,
    elim (or_cases (beside (s.wrote t.word)) (t.writes && beside (s.touched t.word)) is) [
      | inl y ↦ inl (log_touches f a t.word (subst (λ (l : List Touch). Has t.word (words_of_log l)) (sym all) (in_words front rest t)), y)
      | inr y ↦
          let parts = and_parts t.writes (beside (s.touched t.word)) y in
          inr (log_writes f a t.word (subst (λ (l : List Touch). Has t.word (written_in l)) (sym all) (in_written front rest t parts.0)), parts.1)
    ],
  )

  -- by a meeting
  pub meets_of : (root : Strands) (input : Words) (m : Meeting) (it : IsMeetingOf code root input array_words m)
      → Meets (strands_over code array_words) (beside_of it.moment.above) it.moment.frame it.moment.words it.moment.stamps
  meets_of root input m it = touch_meets it.moment.frame it.moment.words (beside_of it.moment.above) it.moment.stamps it.first.front it.first.rest
      m.met.touch it.first.all it.first.here

  -- by which the code is not calm
  pub meeting_not_calm : (root : Strands) (input : Words) (m : Meeting) → IsMeetingOf code root input array_words m
      → Calm (strands_over code array_words) root input → ⊥
  meeting_not_calm root input m it = met_not_calm (strands_over code array_words) (code_is_local code_locations (table_of code array_words)) root input
      it.moment.above it.moment.frame it.moment.words it.moment.stamps it.moment.come (meets_of root input m it)

-- where nothing waits, nothing stands above
shown_root : (code : CodeParts) (blocks : List ℕ) (current : Now) (t : Strands) → IsShown code blocks [] current t → IsShownAt code blocks [] current Root t
shown_root code blocks current t shown = by shown.above shown.waits shown.leaf shown.tree shown.at
  where
    by : (s : Standing) → listed s ≡ [] → (u : Strands) → t ≡ tree_at s u → IsNow code blocks current s u → IsShownAt code blocks [] current Root t
    by Root e u tree at = record { waits = refl; at = subst (λ (z : Strands). IsNow code blocks current Root z) (sym tree) at }
    by (On w v s) e u tree at = absurd (let n = ap (λ (xs : List Waiting). length xs) e in omega (arith, n, length_push (listed s) w))

-- the stamps at the beginning
fresh_is : (n : ℕ) → stamps_of 1 (replicate n 0) (replicate n 0) ≡ fresh
fresh_is n =
    let none : (λ (x : ℕ). get_or (replicate n 0) x 0) ≡ (λ (x : ℕ). 0) = fun_ext (zeros n) in
    ap (λ (f : ℕ → ℕ). record { time = 1; wrote = f; touched = f }) none

module _ (code : CodeParts) (input : List NamedArray) (is_code : IsCode code) where
  -- the run begins
  pub begins_at : (blocks : List ℕ) (waiting : List Waiting) (root : Frame) (words : List ℕ) (time n m : ℕ) (wrote touched : List ℕ) (marks : List Mark)
      → blocks ≡ root_frame code input → waiting ≡ [] → root ≡ entry_at code code.root 0 → words ≡ words_in input → time ≡ 1
      → wrote ≡ replicate n 0 → touched ≡ replicate n 0 → marks ≡ []
      → Stands code (length words) (root_strand code input) (words_of (words_in input)) blocks waiting (At root) marks (words_of words)
      (stamps_of time wrote touched)
  begins_at blocks waiting root words time n m wrote touched marks a b d e f g h i = rw (a, b, d, e, f, g, h, i) (record {
    above = Root;
    leaf = root_strand code input;
    forks = [];
    shown = shown_root code (root_frame code input) (At (entry_at code code.root 0)) (root_strand code input)
        (begins_shown code input is_code (root_frame code input) [] (entry_at code code.root 0) refl refl refl);
    come = subst (λ (s : Stamps). Comes (strands_over code (length (words_in input))) (root_strand code input) (words_of (words_in input)) []
        (root_strand code input) (words_of (words_in input)) s) (sym (fresh_is n)) Begins;
    marks_are = refl;
  })

-- a run that has come to its end is told so
module _ (code : CodeParts) (input : List NamedArray) (ws : List ℕ) (begins : ws ≡ words_in input) (limit : ℕ) (strand : StrandState) (r : DepthRun)
    (arrays : List NamedArray) (arrays_are : arrays ≡ input) (frame_words : ℕ) (frame_is : frame_words ≡ frame_size code code.root) where
  not_within : (finish : Finish) → r.outcome ≡ outcome_in input strand.store.words.items (Some finish) → r.outcome ≡ NotWithin → ⊥
  not_within (Gave value) is none = cc
  not_within (Trapped trap line) is none = cc

  -- within the limit
  pub within_of : (finish : Finish) → HasCome code (length ws) limit (root_strand code input) (words_of ws) strand (Some finish)
      → strand.counts.capsules ≤ limit → word_count input ≤ length strand.store.words.items → IsRunOf arrays strand frame_words (Some finish) r
      → IsWithin code input limit r
  within_of finish come few enough is =
      let outcome = is.outcome ∙ ap (λ (as_ : List NamedArray). outcome_in as_ strand.store.words.items (Some finish)) arrays_are in
      elim (answered code input ws begins limit strand (Some finish) come few enough r outcome is.capsules is.forks
      (is.pool_words ∙ ap (λ (n : ℕ). n + strand.counts.block_words) frame_is)) [
        | inl it ↦ it
        | inr it ↦ absurd (not_within finish outcome it.outcome)
      ]
