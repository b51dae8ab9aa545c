-- By entries each turn leads from a run's state whose tree is well to one whose tree is.
use Rattle.std.proofs.Common.{◌≡◌, ℕ, List, ◌++◌, inl, inr, refl, sym, ap, ◌∙◌, subst}
use Rattle.ppm_strands.specs.Tree.{Words, Tree}
use Rattle.ppm_cells.specs.declared.cell.Cell.{Cell}
use Rattle.ppm_cells.specs.declared.cell.Cell.TheVariants.{BlockWord}
use Rattle.ppm_cells.specs.declared.link.LinkKind.TheVariants.{Root}
use Rattle.ppm_cells.specs.declared.shape.Shape.{Shape}
use Rattle.ppm_cells.specs.declared.shape.Takeover.TheVariants.{ByEntries}
use Rattle.ppm_strands.specs.Strand.{Frame}
use Rattle.ppm_code.specs.Strands.{Point, Result}
use Rattle.ppm_code.specs.declared.code.CodeParts.{CodeParts}
use Rattle.ppm_code.specs.declared.location.FrameWord.{FrameWord}
use Rattle.ppm_step.specs.Among.{IsTurnAmong}
use Rattle.ppm_step.specs.Standings.{Standing, IsLost, IsPlaced, IsAt, IsWithin, IsRunning, IsBroken, IsDone}
use Rattle.ppm_step.specs.State.{State as RunState, stand_of, happens, step_by, row_by, fork_row, take_row}
use Rattle.ppm_step.specs.declared.row.Row.{Row}
use Rattle.ppm_step.specs.declared.row.Seat.{Seat}
use Rattle.ppm_step.specs.declared.turn.Act.{Act}
use Rattle.ppm_step.specs.declared.turn.Act.TheVariants.{Step, Soft, Hard, Quit}
use Rattle.ppm_step.specs.declared.turn.Turn.{Turn}
use Rattle.ppm_tickets.specs.Along.{by_act}
use Rattle.ppm_tickets.specs.Homes.{Home}
use Rattle.ppm_frames.specs.Skeletons.{Skeleton}
use Rattle.ppm_frames.specs.Views.{view}
use Rattle.ppm_kept.specs.Heirs.{handed}
use Rattle.ppm_kept.specs.HeirTurns.{and_followed}
use Rattle.ppm_kept.specs.Left.{Followed, left}
use Rattle.ppm_kept.specs.Places.{places_of}
use Rattle.ppm_kept.specs.Running.{IsFair}
use Rattle.ppm_kept.specs.Steps.{act_with}
use Rattle.ppm_runs.specs.Run.{setting}
use Rattle.ppm_runs.specs.Entries.{IsHeired}
use Rattle.ppm_runs.specs.Follow.{LooksOnly}
use Rattle.ppm_runs.specs.Well.{IsWell}
use Rattle.ppm_runs.proofs.BrokenLemmas.{broken_stays}
use Rattle.ppm_runs.proofs.FollowLemmas.{heirs_lead}
use Rattle.ppm_runs.proofs.HalvesLemmas.{acts_so, steps_away, halves_go_on}
use Rattle.ppm_runs.proofs.HeiredLemmas.{Inherits, looks_or, alone_of, inlined}
use Rattle.ppm_runs.proofs.HeirJoinLemmas.{view_same, heir_joint}
use Rattle.ppm_runs.proofs.JoinLemmas.{joints_stay}
use Rattle.ppm_runs.proofs.OrderlyLemmas.{halves_owe}
use Rattle.ppm_runs.proofs.WellTurns.{well_stays_left, heir_well}

module _ (s : Shape) (code : CodeParts) (ih : s.takeover ≡ ByEntries) (fair : IsFair code) (root : Tree (Frame FrameWord Point) Result) (input : Words) (state : RunState) (h : ℕ → Home) (forked taken : List ℕ) (l : List Followed) (t : Skeleton)
    (run : IsHeired s code root input state h forked taken l t) (well : IsWell code (view s state.words) Root t) where
  -- after an act, by where its processor stood
  pub record Leads (c : ℕ) (act : Act) (x : Standing) : Type 0 where
    pub left_out : List Followed
    pub tree : Skeleton
    pub heired : IsHeired s code root input (happens s code state (record { processor = c; act = act })) (by_act s state.words act x h) (step_by (row_by fork_row) act x ++ forked) (step_by (row_by take_row) act x ++ taken) left_out tree
    pub good : IsWell code (view s (happens s code state (record { processor = c; act = act })).words) Root tree

  others_lead : (c : ℕ) (act : Act) → IsTurnAmong s.processors (record { processor = c; act = act }) → LooksOnly act (stand_of state c) → Leads c act (stand_of state c)
  others_lead c act among looks =
      let turn : Turn = record { processor = c; act = act } in
      let agrees = run.joint.agrees in
      let orderly = (halves_owe s code fair root input state h forked taken l t run.halves agrees (λ d seat re e. inlined s code ih fair root input state h forked taken l t run d seat re e)).orderly turn among in
      let next = halves_go_on s code ih fair root input state h forked taken l t run.halves agrees run.broken turn among.processor orderly looks in record {
        left_out = l;
        tree = act_with (setting s code) (left (setting s code) l (places_of s state)).words state.words act (stand_of state c) t;
        heired = record {
          halves = next;
          joint = joints_stay s code fair root input state h forked taken l t run.halves run.joint turn among (alone_of s.takeover act (stand_of state c) looks) next;
          broken = broken_stays s code state h forked taken run.halves.lawful run.broken turn;
        };
        good = well_stays_left s code fair root input state l run.halves.apart t run.halves.kept well turn
            (acts_so s code ih fair root input state h forked taken l t run.halves agrees run.broken c act among.processor)
            (steps_away s code ih fair root input state h forked taken l t run.halves agrees run.broken c act looks) next.kept;
      }

  heirs_go : (c victim : ℕ) (seat : Seat) (row : Row) → stand_of state c ≡ IsWithin seat row → Inherits seat.restart.kind row → Leads c (Step victim) (IsWithin seat row)
  heirs_go c victim seat row e goes =
      let at = e ∙ ap (IsWithin seat) goes.4 in
      let lead = heirs_lead s code ih fair root input state h forked taken l t run.halves run.joint.agrees c victim seat goes.2 goes.0 goes.1 at goes.3 goes.5 run.joint.opens in
      let n = happens s code state (record { processor = c; act = Step victim }) in
      let same = view_same s code ih fair root input state h forked taken l t run.halves run.joint c victim seat goes.2 goes.0 goes.1 at goes.3 goes.5 lead.0 lead.1 lead.2 in
      subst (λ (x : Row). Leads c (Step victim) (IsWithin seat x)) (sym goes.4) (record {
        left_out = and_followed (setting s code) l (places_of s state) lead.0;
        tree = handed lead.0 seat.place t;
        heired = record {
          halves = lead.2;
          joint = heir_joint s code ih fair root input state h forked taken l t run.halves run.joint c victim seat goes.2 goes.0 goes.1 at goes.3 goes.5 lead.0 lead.1 lead.2;
          broken = broken_stays s code state h forked taken run.halves.lawful run.broken (record { processor = c; act = Step victim });
        };
        good = heir_well s code state n lead.0 seat.place t (λ x. ap (λ (m : Cell → ℕ). m (BlockWord x)) same) well;
      })

  steps_lead : (c victim : ℕ) → IsTurnAmong s.processors (record { processor = c; act = Step victim }) → (x : Standing) → stand_of state c ≡ x → Leads c (Step victim) x
  steps_lead c victim among x e = by x e
    where
      plainly : (x : Standing) → stand_of state c ≡ x → LooksOnly (Step victim) x → Leads c (Step victim) x
      plainly x e looks = subst (Leads c (Step victim)) e (others_lead c (Step victim) among (subst (LooksOnly (Step victim)) (sym e) looks))

      by : (x : Standing) → stand_of state c ≡ x → Leads c (Step victim) x
      by (IsWithin seat row) e = elim (looks_or seat.restart.kind row) [
        | inl looks ↦ plainly (IsWithin seat row) e looks
        | inr goes ↦ heirs_go c victim seat row e goes
      ]
      by IsLost e = plainly IsLost e tt
      by (IsPlaced p) e = plainly (IsPlaced p) e tt
      by (IsAt p re) e = plainly (IsAt p re) e tt
      by (IsRunning seat rest) e = plainly (IsRunning seat rest) e tt
      by (IsBroken p) e = plainly (IsBroken p) e tt
      by IsDone e = plainly IsDone e tt

  pub acts_lead : (c : ℕ) (act : Act) → IsTurnAmong s.processors (record { processor = c; act = act }) → Leads c act (stand_of state c)
  acts_lead c (Step victim) among = steps_lead c victim among (stand_of state c) refl
  acts_lead c Soft among = others_lead c Soft among tt
  acts_lead c Hard among = others_lead c Hard among tt
  acts_lead c (Quit why) among = others_lead c (Quit why) among tt
