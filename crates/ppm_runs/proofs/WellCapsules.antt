-- A capsule of a frame keeps a tree well: its stores, and its install.
use Rattle.std.proofs.Common.{◌≡◌, ◌≤◌, ◌<◌, ℕ, zero, suc, ◌+◌, ◌^◌, length, inl, inr, refl, sym, ap, ◌∙◌, subst, arith, Option}
use Rattle.std.proofs.lemmas.Bool.{cases_eq}
use Rattle.ppm_strands.specs.Tree.{Words, Tree}
use Rattle.ppm_strands.specs.Tree as tree
use Rattle.ppm_cells.specs.declared.cell.Cell.{Cell}
use Rattle.ppm_cells.specs.declared.cell.Cell.TheVariants.{RoomCounter, BlockWord}
use Rattle.ppm_cells.specs.declared.finish.Finish.TheVariants.{Trapped}
use Rattle.ppm_cells.specs.declared.link.Link.{Link}
use Rattle.ppm_cells.specs.declared.link.LinkKind.TheVariants.{Root}
use Rattle.ppm_cells.specs.declared.restart.RestartKind.{RestartKind}
use Rattle.ppm_cells.specs.declared.restart.RestartKind.TheVariants.{Run, Bump}
use Rattle.ppm_strands.specs.Capsule.{Ends}
use Rattle.ppm_strands.specs.Stopped.{Stands}
use Rattle.ppm_strands.specs.Strand.{Frame}
use Rattle.ppm_code.specs.Code.{EndFits}
use Rattle.ppm_code.specs.Locations.{code_locations}
use Rattle.ppm_code.specs.Sizes.{slots_at, procedure_at}
use Rattle.ppm_code.specs.Strands.{Point, Result, instrs_of, entry_of}
use Rattle.ppm_code.specs.declared.act.End.{End}
use Rattle.ppm_code.specs.declared.act.End.TheVariants.{Next, Finish, Trap, Call, Fork}
use Rattle.ppm_code.specs.declared.location.FrameWord.{FrameWord}
use Rattle.ppm_code.proofs.CodeLemmas.{entry_is}
use Rattle.ppm_step.specs.Contents.{word_of}
use Rattle.ppm_step.specs.Frames.{Rest, Stores, Installs, other_copy, installed}
use Rattle.ppm_step.specs.Points.{header_word}
use Rattle.ppm_step.specs.declared.content.Content.{Content}
use Rattle.ppm_ends.specs.Ends.{own_stores}
use Rattle.ppm_frames.specs.Good.{link_at}
use Rattle.ppm_frames.specs.Skeletons.{Stand, Begins, Over, InPlace, Skeleton, Leaf, header, count, grow, Around, Top, plug, hook_at}
use Rattle.ppm_frames.specs.Views.{written}
use Rattle.ppm_frames.proofs.SkeletonLemmas.{inside_at, grow_plug}
use Rattle.ppm_frames.proofs.WriteLemmas.{address}
use Rattle.ppm_kept.specs.Kept.{Setting, State, InRest, owner, ceiling, Free, Does, IsKept}
use Rattle.ppm_kept.specs.Moves.{by_install, opened}
use Rattle.ppm_kept.specs.Running.{AllStand, IsFair, IsClean, HasRoom, HasCome, home_at, number_at, all_of, now, limit, LiesApart, MayStore}
use Rattle.ppm_kept.proofs.BlockLemmas.{finish_back, header_then, still_open, end_fits, CallStands, call_stands, ForkStands, fork_stands}
use Rattle.ppm_kept.proofs.OwnerLemmas.{pool_low}
use Rattle.ppm_kept.proofs.PlaceLemmas.{counted, not_free}
use Rattle.ppm_kept.proofs.RunLemmas.{by_stores, by_installs}
use Rattle.ppm_runs.specs.Well.{SaysOutcome, IsWell}
use Rattle.ppm_runs.proofs.WellRuns.{at_leaf, runs as run_at, low}
use Rattle.ppm_runs.proofs.WellWords.{crit, crit_low, crit_none, none_at, well_written, well_swap, ended_says}

-- copies are 0 and 1
header_at : (f y : ℕ) → y < 2 → header f y ≡ f + (2 + y)
header_at f zero lt = omega arith
header_at f (suc y) lt = omega (arith, lt)

-- the capsules with which the branches of a fork begin
abbrev left_capsule : Tree (Frame FrameWord Point) Result → ℕ
left_capsule (tree.Fork g (tree.Strand h) b) = h.point.capsule
left_capsule _ = 0

abbrev right_capsule : Tree (Frame FrameWord Point) Result → ℕ
right_capsule (tree.Fork g a (tree.Strand h)) = h.point.capsule
right_capsule _ = 0

module _ (i : Setting) (fair : IsFair i.code) (root : Tree (Frame FrameWord Point) Result) (input : Words) (s : State) (t : Skeleton) (law : IsKept i root input s t) (well : IsWell i.code s.words Root t)
    (p : ℕ) (there : p < i.shape.processors) (f y : ℕ) (ke : s.kind p ≡ Run f y) where
  abbrev m : Cell → ℕ
  m = s.words

  abbrev number : ℕ
  number = number_at i.shape i.code m f y

  abbrev n : ℕ
  n = slots_at i.code number

  copy_low : y < 2
  copy_low = low i fair root input s t law p there f y ke

  abbrev c : Around
  c = (run_at i fair root input s t law p there f y ke).around

  abbrev u : Skeleton
  u = Leaf (InPlace p) (Begins y) f n

  is : t ≡ plug c u
  is = at_leaf i fair root input s t law p there f y ke

  roof : ceiling i m p (s.kind p) ≡ m (RoomCounter p)
  roof = ap (ceiling i m p) ke

  apart : LiesApart i.shape i.code m p f y
  apart o_ o below end same =
      not_free i fair root input s t law p c u (f + o_) o is (let a = inside_at f (6 + n) (f + o_) o_ refl below in omega (arith, a))
      (same ∙ ap (λ (x : ℕ). x + o) (sym roof)) (subst (λ (x : ℕ). x < limit i.shape i.code p) (sym same) end)

  come_of : (rest : Rest) → s.doing p ≡ InRest rest → HasCome i.shape i.code m p f y rest
  come_of rest de = subst (λ (d : _). Does i m p (Run f y) d) de (subst (λ (k : RestartKind). Does i m p k (s.doing p)) ke (law.does p))

  -- its stores are of words that don't say that the tree is well
  stored_none : (cell : Cell) → MayStore i.shape i.code m p f y cell → (x : ℕ) → cell ≡ BlockWord x → crit Root t x ≡ 0
  stored_none cell (inl own) x e =
      let at_ : x ≡ f + own.0 = ap address (sym e ∙ own.1) in
      let lt = own.2 in
      let one = inside_at f (6 + n) x own.0 at_ lt in
      let head = header_at f y copy_low in
      let other = own.5 in
      crit_none t c u x is (law.apart x) (omega (arith, one)) (none_at (header f y) x (λ h. other (omega (arith, h, head, at_))))
  stored_none cell (inr (inl free)) x e =
      let at_ : x ≡ m (RoomCounter p) + free.0 = ap address (sym e ∙ free.1) in
      elim (cases_eq (count Root t x) 0) [
        | inl none ↦ let a = crit_low Root t x in omega (arith, none, a)
        | inr some ↦ absurd (not_free i fair root input s t law p Top t x free.0 refl (omega (arith, some)) (at_ ∙ ap (λ (r : ℕ). r + free.0) (sym roof)) (subst (λ (z : ℕ). z < limit i.shape i.code p) (sym at_) free.2))
      ]
  stored_none cell (inr (inr array)) x e = absurd (let z = sym e ∙ array.1 in cc)

  pub store_well : (cell : Cell) (content : Content) (next : Rest) → s.doing p ≡ InRest (Stores cell content next) → IsWell i.code (written m cell (word_of content)) Root t
  store_well cell content next de =
      let on = by_stores i.shape i.code fair m p f y copy_low apart cell content next (come_of (Stores cell content next) de) in
      well_written i.code m cell (word_of content) Root t (stored_none cell on.spot) well

  -- the install
  abbrev Part : Skeleton → Type 0
  Part v = IsWell i.code m (hook_at Root c) v

  abbrev Whole : RestartKind → Type 0
  Whole k = IsWell i.code m Root (by_install i m p (Run f y) k t)

  clean : IsClean i.shape i.code m p f y
  clean = subst (Free i m p) ke (law.free p)

  grown : (g : Stand → ℕ → ℕ → Skeleton) → Part (g (Begins y) f n) → IsWell i.code m Root (grow p g t)
  grown g part = subst (IsWell i.code m Root) (sym (ap (grow p g) is ∙ grow_plug p g c (Begins y) f n (run_at i fair root input s t law p there f y ke).alone))
      (well_swap i.code m Root c u (g (Begins y) f n) (subst (IsWell i.code m Root) is well) part)

  abbrev Stood : End → Type 0
  Stood e = Stands code_locations (all_of i.shape i.code m p f y) (Ends e) (now i.shape i.code m p f y)

  abbrev Owns : End → Type 0
  Owns e = AllStand m (own_stores i.code (home_at i.shape i.code m p f y) e)

  -- an entry is a capsule
  entry_low : (q : ℕ) → q < length i.code.procedures → entry_of i.code q < length i.code.capsules
  entry_low q lt = (entry_is i.code fair.code_is q lt).1

  -- bounds of links
  small : f < 2 ^ 28
  small =
      let one = inside_at f (6 + n) f 0 (omega arith) (omega arith) in
      let sum = counted i fair root input s t law p c u f is in
      let some : count Root t f ≡ 0 → ⊥ = λ e. omega (arith, e, sum, one) in
      let b = law.below f some in
      let most = (law.rooms (owner i f)).1 in
      let low_ = pool_low i (owner i f) (law.there f some) in
      let under = b.1 in
      omega (arith, under, most, low_)

  pool_small : limit i.shape i.code p ≤ 2 ^ 28
  pool_small = pool_low i p there

  module _ (room : HasRoom i.shape i.code m p f y) where
    fit : (e : End) → Stood e → EndFits i.code (procedure_at i.code number) (instrs_of i.code number) e
    fit e stands = end_fits i.shape i.code fair m p f y room clean e stands

    goes_on : (d : ℕ) → m (header_word f (other_copy y)) ≡ d → d < length i.code.capsules → m (BlockWord (header f (other_copy y))) < length i.code.capsules
    goes_on d own lt = subst (λ (w : ℕ). w < length i.code.capsules) (sym (header_then i.shape i.code fair m p f y copy_low room clean d own)) lt

    call_well : (q d : ℕ) (to : Option ℕ) → Stood (Call q d to) → Owns (Call q d to) → Whole (Bump (m (RoomCounter p)))
    call_well q d to stands own =
        let fits = fit (Call q d to) stands in
        let r = m (RoomCounter p) in
        let block : CallStands i.shape i.code fair m p f y copy_low room clean small pool_small (hook_at Root c) q d to = call_stands i.shape i.code fair m p f y copy_low room clean small pool_small (hook_at Root c) q d to stands own.0 in
        grown (opened i m p r (link_at (m (BlockWord r))).kind)
        (subst (λ (l : Link). Part (opened i m p r l.kind (Begins y) f n)) (sym block.link)
        (goes_on d own.0 fits.1.1, subst (λ (w : ℕ). w < length i.code.capsules) (sym block.entry) (entry_low q fits.0)))

    fork_well : (a b d : ℕ) (lt rt : Option ℕ) → Stood (Fork a b d lt rt) → Owns (Fork a b d lt rt) → Whole (Bump (m (RoomCounter p)))
    fork_well a b d lt rt stands own =
        let fits = fit (Fork a b d lt rt) stands in
        let r = m (RoomCounter p) in
        let block : ForkStands i.shape i.code fair m p f y copy_low room clean small pool_small (hook_at Root c) a b d lt rt = fork_stands i.shape i.code fair m p f y copy_low room clean small pool_small (hook_at Root c) a b d lt rt stands own.0 in
        grown (opened i m p r (link_at (m (BlockWord r))).kind)
        (subst (λ (l : Link). Part (opened i m p r l.kind (Begins y) f n)) (sym block.link) (
          goes_on d own.0 fits.2.1,
          subst (λ (w : ℕ). w < length i.code.capsules) (ap left_capsule block.tree) (entry_low a fits.0),
          subst (λ (o : ℕ). m (BlockWord (r + o + 2)) < length i.code.capsules) (sym block.offset) (subst (λ (w : ℕ). w < length i.code.capsules) (ap right_capsule block.tree) (entry_low b fits.1)),
        ))

    ends_well : (e : End) → Stood e → Owns e → Whole (installed (home_at i.shape i.code m p f y) e)
    ends_well (Next d) stands own = grown (λ st f n. Leaf (InPlace p) (Begins (other_copy y)) f n) (goes_on d own.0 (fit (Next d) stands).1)
    ends_well Finish stands own = grown (λ st f n. Leaf (InPlace p) Over f n) (subst SaysOutcome (sym (still_open i.shape i.code fair m p f y copy_low room clean Finish refl stands)) (ended_says i.code m))
    ends_well (Trap trap line) stands own =
        let fits = fit (Trap trap line) stands in
        grown (λ st f n. Leaf (InPlace p) Over f n)
        (subst SaysOutcome (sym own.0) (Trapped trap line, finish_back (Trapped trap line) (fits.0, let b = fits.1 in omega (arith, b)), tt))
    ends_well (Call q d to) stands own = call_well q d to stands own
    ends_well (Fork a b d lt rt) stands own = fork_well a b d lt rt stands own

  pub install_well : (kind : RestartKind) → s.doing p ≡ InRest (Installs kind) → Whole kind
  install_well kind de =
      let op = by_installs i.shape i.code fair m p f y clean kind (come_of (Installs kind) de) in
      subst Whole (sym op.kind_is) (ends_well op.room op.end op.stands op.own)
