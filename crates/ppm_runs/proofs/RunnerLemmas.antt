-- Who runs a right branch that was forked has it in the tree, so nobody has it as one that is still to be run; and so it
-- was begun, which counts as its take.
use Rattle.std.proofs.Common.{◌≡◌, ℕ, ◌+◌, true, false, List, [], ◌++◌, inl, inr, refl, sym, ap, ◌∙◌, subst, arith}
use Rattle.std.specs.List.{AllByRecursion}
use Rattle.ppm_strands.specs.Tree.{Words, Tree}
use Rattle.ppm_strands.specs.Calm.{Calm}
use Rattle.ppm_words.specs.declared.named_array.NamedArray.{NamedArray}
use Rattle.ppm_cells.specs.declared.cell.Cell.TheVariants.{BlockWord}
use Rattle.ppm_cells.specs.declared.link.Link.{Link}
use Rattle.ppm_cells.specs.declared.link.LinkKind.TheVariants.{Root, Branch}
use Rattle.ppm_cells.specs.declared.restart.RestartKind.TheVariants.{Run}
use Rattle.ppm_cells.specs.declared.shape.Shape.{Shape}
use Rattle.ppm_cells.specs.declared.side.Side.TheVariants.{Right}
use Rattle.ppm_strands.specs.Strand.{Frame}
use Rattle.ppm_code.specs.Sizes.{slots_at}
use Rattle.ppm_code.specs.Strands.{Point, Result}
use Rattle.ppm_code.specs.declared.code.CodeParts.{CodeParts}
use Rattle.ppm_code.specs.declared.location.FrameWord.{FrameWord}
use Rattle.ppm_layout.specs.Correct.{Opens}
use Rattle.ppm_layout.specs.Root.{root_strand}
use Rattle.ppm_layout.specs.declared.images.Image.{Image}
use Rattle.ppm_step.specs.Among.{IsTurnAmong}
use Rattle.ppm_step.specs.State.{State as RunState, stand_of, happens, after, opening, forks_of, takes_of}
use Rattle.ppm_step.specs.declared.turn.Turn.{Turn}
use Rattle.ppm_tickets.specs.Along.{by_act, homes, forked as forked_in, taken as taken_in}
use Rattle.ppm_tickets.specs.Homes.{Home, Unborn, Pushing, Listed, Popping, Stolen, Inline, Begun}
use Rattle.ppm_tickets.specs.Words.{has}
use Rattle.ppm_frames.specs.Views.{view}
use Rattle.ppm_frames.specs.Seen.{arrays_at}
use Rattle.ppm_frames.specs.Skeletons.{Begins, Who, InPlace, Fresh, Waiting, Held, Skeleton, Leaf, header, count, hook_at}
use Rattle.ppm_frames.specs.Good.{link_at}
use Rattle.ppm_frames.proofs.SkeletonLemmas.{count_plug, inside_at, branch_from}
use Rattle.ppm_kept.specs.Running.{IsFair, strands}
use Rattle.ppm_kept.specs.Kept.{Setting, State, carried}
use Rattle.ppm_kept.specs.Fates.{Agrees}
use Rattle.ppm_kept.specs.Left.{Followed, left}
use Rattle.ppm_kept.specs.Places.{places_of}
use Rattle.ppm_kept.specs.Steps.{tree_after}
use Rattle.ppm_kept.specs.Unruns.{HasUnrun}
use Rattle.ppm_kept.proofs.FateLemmas.{fates_show}
use Rattle.ppm_kept.proofs.LeftLemmas.{kind_away}
use Rattle.ppm_kept.proofs.PlaceLemmas.{Runs, leaf, run_leaf}
use Rattle.ppm_kept.proofs.UnrunLemmas.{here_has}
use Rattle.ppm_runs.specs.Run.{setting, fate_of}
use Rattle.ppm_runs.specs.Follow.{IsHalves}
use Rattle.ppm_runs.specs.Legs.{last_state, all_homes, all_forked, all_taken}
use Rattle.ppm_runs.specs.Trees.{IsInRight, RunnersAreCounted, RunnersAreCountedOverLegs, BeginnersAreCounted}
use Rattle.ppm_runs.proofs.ForkLemmas.{has_both, has_either}
use Rattle.ppm_runs.proofs.HeiredLemmas.{heirs_lead_on, runs_stay_heired}
use Rattle.ppm_runs.proofs.LegLemmas.{legs_stay}
use Rattle.ppm_runs.proofs.MomentLemmas.{turns_lead_on, runs_stay}
use Rattle.ppm_runs.proofs.OrderlyLemmas.{how_or}
use Rattle.ppm_runs.proofs.ShownLemmas.{halves}
use Rattle.ppm_runs.proofs.LeftLemmas.{in_tree, open_away}

module _ (s : Shape) (code : CodeParts) (fair : IsFair code) (root : Tree (Frame FrameWord Point) Result) (input : Words) (state : RunState) (h : ℕ → Home) (forked taken : List ℕ) (l : List Followed) (t : Skeleton)
    (run : IsHalves s code root input state h forked taken l t) (agrees : Agrees t (λ r. fate_of (h r))) (r : ℕ) (was : has forked r ≡ true) where
  abbrev i : Setting
  i = setting s code

  abbrev z : State
  z = left i l (places_of s state)

  -- the right branch of the block is a place's
  module _ (a : IsInRight s state.words r) where
    kind : z.kind a.place ≡ Run a.frame a.copy
    kind = kind_away l (places_of s state).kind a.place (open_away s code root input state h forked taken l t run a.place a.is_open) ∙ a.runs

    at_leaf : Runs i z t a.place a.frame a.copy
    at_leaf = run_leaf i z t a.place a.frame a.copy kind (leaf i fair root input z t run.kept a.place (ap (carried z.words) kind))

    abbrev slots : ℕ
    slots = slots_at code (z.words (BlockWord (header a.frame a.copy)))

    abbrev own : Skeleton
    own = Leaf (InPlace a.place) (Begins a.copy) a.frame slots

    counted_there : count Root t a.frame ≡ 0 → ⊥
    counted_there none =
        let sum = ap (λ (u : Skeleton). count Root u a.frame) at_leaf.is ∙ count_plug Root at_leaf.around own a.frame in
        let one = inside_at a.frame (6 + slots) a.frame 0 (omega arith) (omega arith) in
        omega (arith, none, sum, one)

    hook : hook_at Root at_leaf.around ≡ Branch Right r
    hook = sym (ap (λ (k : Link). k.kind) at_leaf.framed)
        ∙ sym (ap (λ (w : ℕ). (link_at w).kind) (in_tree s code root input state h forked taken l t run a.frame counted_there)) ∙ a.hangs

    has_place : HasUnrun (InPlace a.place) r t
    has_place = elim (branch_from Root at_leaf.around r Right hook) [
      | inl top ↦ absurd (let e : Root ≡ Branch Right r = top.0 in cc)
      | inr b ↦ subst (HasUnrun (InPlace a.place) r) (sym (at_leaf.is ∙ b.is own)) (here_has (InPlace a.place) r b.frame b.slots b.copy b.beside own b.around refl)
    ]

    -- no other place is to run the right branch of the block
    none_to_run : (w : Who) → (w ≡ InPlace a.place → ⊥) → HasUnrun w r t → ⊥
    none_to_run w ne is = ne ((fates_show i fair root input z t run.kept (λ x. fate_of (h x)) agrees).once r w (InPlace a.place) is has_place)

    none_fresh : HasUnrun Fresh r t → ⊥
    none_fresh = none_to_run Fresh (λ e. cc)

    none_waits : HasUnrun Waiting r t → ⊥
    none_waits = none_to_run Waiting (λ e. cc)

    none_held : HasUnrun Held r t → ⊥
    none_held = none_to_run Held (λ e. cc)

    taken_by : (x : Home) → h r ≡ x → has taken r ≡ true
    taken_by Unborn e = absurd (run.lawful.1.counts.born r was e)
    taken_by (Pushing p) e = absurd (elim (agrees.to_push r (ap fate_of e)) [ inl is ↦ none_fresh is | inr is ↦ none_held is ])
    taken_by (Listed v x g) e = absurd (none_waits (agrees.offered r (ap fate_of e)))
    taken_by (Popping p) e = absurd (none_waits (agrees.offered r (ap fate_of e)))
    taken_by (Stolen p) e = absurd (none_waits (agrees.offered r (ap fate_of e)))
    taken_by Inline e = absurd (none_held (agrees.inline r (ap fate_of e)))
    taken_by Begun e = run.lawful.1.counts.counted r e

    pub was_taken : has taken r ≡ true
    was_taken = taken_by (h r) refl

module _ (code : CodeParts) (input : List NamedArray) (s : Shape) (keeper : ℕ) (im : Image) (fair : IsFair code) (opens : Opens code input s keeper im)
    (calm : Calm (strands s code) (root_strand code input) (arrays_at (view s im.words))) (turns : List Turn) (all : AllByRecursion (IsTurnAmong s.processors) turns) where
  abbrev root : Tree (Frame FrameWord Point) Result
  root = root_strand code input

  abbrev given : Words
  given = arrays_at (view s im.words)

  abbrev first : RunState
  first = opening im.words s.processors

  abbrev last : RunState
  last = after s code first turns

  abbrev h : ℕ → Home
  h = homes s code first (λ r. Unborn) turns

  abbrev f : List ℕ
  f = forked_in s code first [] turns

  abbrev tk : List ℕ
  tk = taken_in s code first [] turns

  runner : (r : ℕ) → has f r ≡ true → IsInRight s last.words r → has tk r ≡ true
  runner r was a = elim (how_or s.takeover) [
    | inl places ↦
        let run = runs_stay code input s keeper im places fair opens calm turns all in
        was_taken s code fair root given last h f tk [] run.0 (halves run.1) run.1.agrees r was a
    | inr ih ↦
        let run = runs_stay_heired code input s keeper im ih fair opens calm turns all in
        was_taken s code fair root given last h f tk run.0 run.1 run.2.halves run.2.joint.agrees r was a
  ]

  module _ (turn : Turn) (among : IsTurnAmong s.processors turn) where
    abbrev more : List ℕ
    more = forks_of last turn ++ f

    abbrev took : List ℕ
    took = takes_of last turn ++ tk

    next : (r : ℕ) → has more r ≡ true → IsInRight s (happens s code last turn).words r → has took r ≡ true
    next r was a = elim (how_or s.takeover) [
      | inl places ↦
          let run = runs_stay code input s keeper im places fair opens calm turns all in
          let on = turns_lead_on s code places fair root given last h f tk run.0 run.1 turn among in
          was_taken s code fair root given (happens s code last turn) (by_act s last.words turn.act (stand_of last turn.processor) h) more took [] (tree_after (setting s code) last turn run.0) (halves on) on.agrees r was a
      | inr ih ↦
          let run = runs_stay_heired code input s keeper im ih fair opens calm turns all in
          let on = heirs_lead_on s code ih fair root given last h f tk run.0 run.1 run.2 turn among in
          was_taken s code fair root given (happens s code last turn) (by_act s last.words turn.act (stand_of last turn.processor) h) more took on.0 on.1 on.2.halves on.2.joint.agrees r was a
    ]

pub runners_are_counted : RunnersAreCounted
runners_are_counted code input s keeper im fair opens calm turns all r was a = runner code input s keeper im fair opens calm turns all r was a

pub runners_are_counted_over_legs : RunnersAreCountedOverLegs
runners_are_counted_over_legs code input s keeper im places fair opens calm legs are turns all r was a =
    let run = legs_stay code input s keeper im places fair opens calm legs are turns all in
    was_taken s code fair (root_strand code input) (arrays_at (view s im.words)) (last_state s code im.words legs turns) (all_homes s code im.words legs turns) (all_forked s code im.words legs turns) (all_taken s code im.words legs turns) [] run.0 (halves run.1) run.1.agrees r was a

pub beginners_are_counted : BeginnersAreCounted
beginners_are_counted code input s keeper im fair opens calm turns all turn among r was out a =
    let last : RunState = after s code (opening im.words s.processors) turns in
    let f = forked_in s code (opening im.words s.processors) [] turns in
    let tk = taken_in s code (opening im.words s.processors) [] turns in
    elim (has_either r (takes_of last turn) tk (next code input s keeper im fair opens calm turns all turn among r (has_both r (forks_of last turn) f was) a)) [
      | inl now ↦ now
      | inr before ↦ absurd (let two : true ≡ false = sym before ∙ out in cc)
    ]
