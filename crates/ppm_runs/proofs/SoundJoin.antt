-- What the deques' rows ask of the frames, from a run's state.
use Rattle.std.proofs.Common.{◌≡◌, ◌≢◌, ◌≤◌, ◌<◌, ℕ, ◌+◌, ◌==◌, true, false, List, inl, inr, refl, sym, ap, ◌∙◌, subst, arith, []}
use Rattle.std.specs.Prelude.{nat_lt}
use Rattle.std.proofs.lemmas.Bool.{cases_lt, le-ltb, eq-eqb}
use Rattle.ppm_strands.specs.Tree.{Words, Tree}
use Rattle.ppm_cells.specs.Cells.{word_count}
use Rattle.ppm_cells.specs.Memory.{read}
use Rattle.ppm_cells.specs.Restart.{restart_of}
use Rattle.ppm_cells.specs.declared.cell.Cell.TheVariants.{RestartWord, BlockWord}
use Rattle.ppm_cells.specs.declared.link.LinkKind.TheVariants.{Root}
use Rattle.ppm_cells.specs.declared.restart.Restart.{Restart}
use Rattle.ppm_cells.specs.declared.restart.RestartKind.{RestartKind}
use Rattle.ppm_cells.specs.declared.restart.RestartKind.TheVariants.{Run, Bump, Push1, Push2, Unwind, Arrive, Join, Pop1, Pop2, Seek, Steal, Check, Take, Take2}
use Rattle.ppm_cells.specs.declared.shape.Shape.{Shape}
use Rattle.ppm_cells.specs.declared.shape.Takeover.{Takeover}
use Rattle.ppm_cells.specs.declared.shape.Takeover.TheVariants.{ByPlaces, ByEntries}
use Rattle.ppm_cells.proofs.CellLemmas.{place_end}
use Rattle.ppm_strands.specs.Strand.{Frame}
use Rattle.ppm_code.specs.Strands.{Point, Result}
use Rattle.ppm_code.specs.declared.code.CodeParts.{CodeParts}
use Rattle.ppm_code.specs.declared.location.FrameWord.{FrameWord}
use Rattle.ppm_step.specs.Points.{offset_word}
use Rattle.ppm_step.specs.Standings.{IsWithin}
use Rattle.ppm_step.specs.State.{State as RunState, stand_of}
use Rattle.ppm_step.specs.declared.row.Point.TheVariants.{Offset}
use Rattle.ppm_step.specs.declared.row.Row.TheVariants.{Now}
use Rattle.ppm_step.specs.declared.row.Seat.{Seat}
use Rattle.ppm_step.specs.declared.row.Then.TheVariants.{Load, Install}
use Rattle.ppm_tickets.specs.Along.{IsInlined}
use Rattle.ppm_tickets.specs.Heirs.{MayTake, IsTaker}
use Rattle.ppm_tickets.specs.Homes.{Home}
use Rattle.ppm_tickets.specs.Lawful.{Closed}
use Rattle.ppm_tickets.specs.View as spots
use Rattle.ppm_tickets.proofs.TakingRows.{heirs_take}
use Rattle.ppm_tickets.proofs.ViewLemmas.{if_false}
use Rattle.ppm_frames.specs.Views.{is_cell}
use Rattle.ppm_frames.specs.Skeletons.{Stand, Begins, Over, Arrives, InPlace, Waiting, Skeleton, Leaf, Forking, count, Around, plug, hook_at}
use Rattle.ppm_frames.specs.Good.{Match, Good}
use Rattle.ppm_frames.proofs.SkeletonLemmas.{inside_at}
use Rattle.ppm_frames.proofs.SwapLemmas.{good_here}
use Rattle.ppm_frames.proofs.ViewLemmas.{view_is}
use Rattle.ppm_kept.specs.Running.{IsFair}
use Rattle.ppm_kept.specs.Branches.{is_taker}
use Rattle.ppm_kept.specs.Fates.{Offered, Agrees}
use Rattle.ppm_kept.specs.Kept.{Setting, State, carried, IsKept}
use Rattle.ppm_kept.specs.Left.{Followed, left}
use Rattle.ppm_kept.specs.Places.{kind_or, kinds_of, is_in, places_of}
use Rattle.ppm_kept.proofs.FateLemmas.{fates_show}
use Rattle.ppm_kept.proofs.LeftLemmas.{kind_away}
use Rattle.ppm_kept.proofs.LoadLemmas.{in_part}
use Rattle.ppm_kept.proofs.PlaceLemmas.{leaf, counted}
use Rattle.ppm_kept.proofs.TakeRow.{find_wait}
use Rattle.ppm_runs.specs.Run.{setting, fate_of}
use Rattle.ppm_runs.specs.Follow.{IsHalves}
use Rattle.ppm_runs.specs.Laws.{Owes, IsTakers}
use Rattle.ppm_runs.specs.Deques.{DequesAreSound, DequesStaySound}
use Rattle.ppm_runs.proofs.CheckRows.{checks_sound}
use Rattle.ppm_runs.proofs.HeiredLemmas.{inlined_so as inlined_by_entries}
use Rattle.ppm_runs.proofs.JoinLemmas.{joint_of}
use Rattle.ppm_runs.proofs.OrderlyLemmas.{halves_owe}
use Rattle.ppm_runs.proofs.ShownLemmas.{away, halves, within, pool_is}
use Rattle.ppm_runs.proofs.SoundRows.{Blocks}
use Rattle.ppm_runs.proofs.SoundTurns.{turn_sound}
use Rattle.ppm_runs.proofs.StandLemmas.{kinds_same}
use Rattle.ppm_runs.proofs.TakerLemmas.{takers_have}
use Rattle.ppm_runs.proofs.WellLeft.{tree_same}

-- a cell of the pools is one of the words
pub cell_low : (s : Shape) (x : ℕ) → is_cell s (BlockWord x) ≡ true → x < word_count s
cell_low s x e = let a = pool_is s x e in let m = place_end s a.place a.is_place in let lt = a.ended in omega (arith, m, lt)

-- a taker's branch may be taken
taken_fate : (p : ℕ) (k : RestartKind) (x : Home) → is_taker k ≡ true → IsTakers p k x → fate_of x ≡ Offered
taken_fate p (Pop2 r) x e a = ap fate_of a
taken_fate p (Check v i) x e a = ap fate_of a
taken_fate p (Run f y) x e a = absurd (cc)
taken_fate p (Bump r) x e a = absurd (cc)
taken_fate p (Push1 r) x e a = absurd (cc)
taken_fate p (Push2 r) x e a = absurd (cc)
taken_fate p (Unwind f) x e a = absurd (cc)
taken_fate p (Arrive r d) x e a = absurd (cc)
taken_fate p (Join r d) x e a = absurd (cc)
taken_fate p Pop1 x e a = absurd (cc)
taken_fate p Seek x e a = absurd (cc)
taken_fate p (Steal v i) x e a = absurd (cc)
taken_fate p (Take v d) x e a = absurd (cc)
taken_fate p (Take2 v) x e a = absurd (cc)

module _ (s : Shape) (code : CodeParts) (fair : IsFair code) (root : Tree (Frame FrameWord Point) Result) (input : Words) (state : RunState) (h : ℕ → Home) (forked taken : List ℕ) (l : List Followed) (t : Skeleton)
    (run : IsHalves s code root input state h forked taken l t) where
  abbrev i : Setting
  i = setting s code

  abbrev z : State
  z = left i l (places_of s state)

  law : IsKept i root input z t
  law = run.kept

  -- the frame at which a place that pushes is about to begin
  left_there : (p r : ℕ) → p < s.processors → (k : RestartKind) → z.kind p ≡ k → carried z.words k ≡ 1
      → ((st : Stand) (c : _) (f : ℕ) → Match code z.words k c st f → f ≡ r + 5) → r + 5 < word_count s
  left_there p r lt k ke one at_ =
      let g = leaf i fair root input z t law p (ap (carried z.words) ke ∙ one) in
      let is : g.frame ≡ r + 5 = at_ g.stand (hook_at Root g.around) g.frame (subst (λ (k : RestartKind). Match code z.words k (hook_at Root g.around) g.stand g.frame) ke g.match) in
      cell_low s (r + 5) ((in_part i fair root input z t law p lt g.around (Leaf (InPlace p) g.stand g.frame g.slots) g.is (r + 5)
      (let a = inside_at g.frame (6 + g.slots) (r + 5) 0 (omega (arith, is)) (omega arith) in omega (arith, a))).cell_is)

  push1_at : (r : ℕ) (st : Stand) (c : _) (f : ℕ) → Match code z.words (Push1 r) c st f → f ≡ r + 5
  push1_at r (Begins y) c f a = a.2
  push1_at r Over c f a = absurd a
  push1_at r Arrives c f a = absurd a

  push2_at : (r : ℕ) (st : Stand) (c : _) (f : ℕ) → Match code z.words (Push2 r) c st f → f ≡ r + 5
  push2_at r (Begins y) c f a = a.2
  push2_at r Over c f a = absurd a
  push2_at r Arrives c f a = absurd a

  -- a place that is not there seeks
  seeks_out : (p : ℕ) (k : RestartKind) → kinds_of s state.words p ≡ k → (k ≢ Seek) → p < s.processors
  seeks_out p k ke ne = elim (cases_lt p s.processors) [
    | inl lt ↦ lt
    | inr ge ↦ absurd (ne (sym ke ∙ if_false (nat_lt p s.processors) (kind_or (restart_of (read s state.words (RestartWord p)))) Seek (le-ltb p s.processors ge)))
  ]

  pushes_at : (p r : ℕ) (k : RestartKind) → run.lawful.1.board.gone p ≡ false → spots.kinds s state.words p ≡ k → (k ≢ Seek) → carried z.words k ≡ 1
      → ((st : Stand) (c : _) (f : ℕ) → Match code z.words k c st f → f ≡ r + 5) → r + 5 < word_count s
  pushes_at p r k stays e ne one at_ =
      let ke : kinds_of s state.words p ≡ k = kinds_same s state.words p ∙ e in
      left_there p r (seeks_out p k ke ne) k (kind_away l (places_of s state).kind p (away l run.lawful.1.board.gone p run.gone stays) ∙ ke) one at_

  good_at : (c : Around) (u : Skeleton) → t ≡ plug c u → Good code z.words z.kind (hook_at Root c) u
  good_at c u is = good_here code z.words z.kind Root c u (subst (Good code z.words z.kind Root) is law.good)

  pub blocks : Agrees t (λ r. fate_of (h r)) → Blocks s code state.words run.lawful.1.board.gone h
  blocks agrees = record {
    pushes = λ p r stays which. elim which [
      | inl e ↦ pushes_at p r (Push1 r) stays e (λ q. cc) refl (push1_at r)
      | inr e ↦ pushes_at p r (Push2 r) stays e (λ q. cc) refl (push2_at r)
    ];
    offers = λ r fate.
        let waits = (fates_show i fair root input z t law (λ x. fate_of (h x)) agrees).waits r fate in
        let g = find_wait r 0 waits.0 Root t (law.apart r) waits.1 in
        let node = Forking g.frame g.slots g.copy r g.left (Leaf Waiting g.stand waits.0 g.low_slots) in
        let some = s.within.processors_least in
        let one4 : 1 ≤ count (hook_at Root g.around) node (r + 4) = (let one = inside_at (r + 4) 1 (r + 4) 0 (omega arith) (omega arith) in omega (arith, one)) in
        let at4 = (in_part i fair root input z t law 0 some g.around node g.is (r + 4) one4).cell_is in
        let low = (in_part i fair root input z t law 0 some g.around node g.is waits.0 (let one = inside_at waits.0 (6 + g.low_slots) waits.0 0 (omega arith) (omega arith) in omega (arith, one))).cell_is in
        let good = good_at g.around node g.is in
        let right : waits.0 ≡ r + z.words (BlockWord (r + 4)) = good.0.right in
        let sum = counted i fair root input z t law 0 g.around node (r + 4) g.is in
        let seen = tree_same i root input (places_of s state) l run.apart t law (r + 4) (λ none. omega (arith, none, sum, one4)) in
        let word : z.words (BlockWord (r + 4)) ≡ read s state.words (offset_word r) = seen ∙ view_is s state.words (BlockWord (r + 4)) at4 in
        let there = cell_low s waits.0 low in
        (cell_low s (r + 4) at4, omega (arith, right, word, there));
  }

-- With either takeover, where what joins the halves does so.
pub deques_stay_sound : DequesStaySound
deques_stay_sound s code fair root input state h forked taken l t run joint made few sound strands turn among =
    turn_sound s code state h forked taken run.lawful made few sound known strands owes.pooled
    (λ c seat r low e taker. fates s.takeover refl c seat r low e taker)
    (λ c d seat other row rest e ne f same.
    let w = within s code root input state h forked taken l t run c seat row e in
    let out : (other.place == seat.place) ≡ false = ap (is_in seat.place) (sym f) ∙ w.holds.others d ne in
    absurd (let z : true ≡ false = sym (eq-eqb other.place seat.place same) ∙ out in cc))
    (λ ih c seat point v i e ke u. checks_sound s code ih fair root input state h forked taken l t run joint.agrees made few sound known c seat point v i e ke u)
    turn among
  where
    known : Blocks s code state.words run.lawful.1.board.gone h
    known = blocks s code fair root input state h forked taken l t run joint.agrees

    inlined_so : (how : Takeover) → s.takeover ≡ how → (c : ℕ) (seat : Seat) (re : Restart) → stand_of state c ≡ IsWithin seat (Now (Install re)) → IsInlined s.takeover s state.words seat seat.restart.kind re.kind
    inlined_so ByPlaces e c seat re at = subst (λ (how : Takeover). IsInlined how s state.words seat seat.restart.kind re.kind) (sym e) tt
    inlined_so ByEntries e c seat re at = inlined_by_entries s code e fair root input state h forked taken l t run joint c seat re at

    owes : Owes s code root input state h forked taken t
    owes = halves_owe s code fair root input state h forked taken l t run joint.agrees (λ c seat re e. inlined_so s.takeover refl c seat re e)

    fates : (how : Takeover) → s.takeover ≡ how → (c : ℕ) (seat : Seat) (r low : ℕ) → stand_of state c ≡ IsWithin seat (Now (Load (Offset r low))) → is_taker seat.restart.kind ≡ true → fate_of (h r) ≡ Offered
    fates ByPlaces places c seat r low e taker = taken_fate seat.place seat.restart.kind (h r) taker ((takers_have s code places state h forked taken run.lawful).offsets c seat r low e)
    fates ByEntries ih c seat r low e taker = may_take (heirs_take s code ih state h forked taken run.lawful c seat (Now (Load (Offset r low))) r e refl (taker_is seat.restart.kind taker))
      where
        may_take : MayTake (Closed s.takeover (spots.view s state.words)) (spots.view s state.words) (spots.kinds s state.words) (spots.bottoms s state.words) h run.lawful.1.board seat.place r → fate_of (h r) ≡ Offered
        may_take (inl e) = ap fate_of e
        may_take (inr (inl e)) = ap fate_of e
        may_take (inr (inr it)) = elim it.1 [ inl e ↦ ap fate_of e | inr e ↦ ap fate_of e ]

        taker_is : (k : RestartKind) → is_taker k ≡ true → IsTaker k
        taker_is (Pop2 x) e = tt
        taker_is (Check x y) e = tt
        taker_is (Run f y) e = absurd (cc)
        taker_is (Bump x) e = absurd (cc)
        taker_is (Push1 x) e = absurd (cc)
        taker_is (Push2 x) e = absurd (cc)
        taker_is (Unwind f) e = absurd (cc)
        taker_is (Arrive x d) e = absurd (cc)
        taker_is (Join x d) e = absurd (cc)
        taker_is Pop1 e = absurd (cc)
        taker_is Seek e = absurd (cc)
        taker_is (Steal x y) e = absurd (cc)
        taker_is (Take x y) e = absurd (cc)
        taker_is (Take2 x) e = absurd (cc)

-- by places
pub deques_are_sound : DequesAreSound
deques_are_sound s code places fair root input state h forked taken t run made few sound strands turn among =
    deques_stay_sound s code fair root input state h forked taken [] t (halves run) (joint_of s code places root input state h forked taken t run) made few sound strands turn among
