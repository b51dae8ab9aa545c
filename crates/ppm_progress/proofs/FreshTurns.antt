-- After each turn a right branch that isn't pushed is beside a place that is to push it.
use Rattle.std.proofs.Common.{◌≡◌, ◌≢◌, ◌≤◌, ◌<◌, ℕ, zero, suc, List, [], ◌∷◌, ◌++◌, inl, inr, refl, sym, ap, ◌∙◌, subst, subst₂, Option, Some, None}
use Rattle.std.proofs.lemmas.Bool.{cases_eq}
use Rattle.ppm_strands.specs.Tree.{Words, Tree}
use Rattle.ppm_cells.specs.Link.{link_of}
use Rattle.ppm_cells.proofs.CellLemmas.{few_words}
use Rattle.ppm_cells.specs.declared.cell.Cell.{Cell}
use Rattle.ppm_cells.specs.declared.cell.Cell.TheVariants.{BlockWord}
use Rattle.ppm_cells.specs.declared.link.Link.{Link}
use Rattle.ppm_cells.specs.declared.link.LinkKind.{LinkKind}
use Rattle.ppm_cells.specs.declared.link.LinkKind.TheVariants.{Root, Call as Called, Branch, Fork as Forked}
use Rattle.ppm_cells.specs.declared.restart.Restart.{Restart}
use Rattle.ppm_cells.specs.declared.restart.RestartKind.{RestartKind}
use Rattle.ppm_cells.specs.declared.restart.RestartKind.TheVariants.{Run, Bump, Seek}
use Rattle.ppm_cells.specs.declared.shape.Shape.{Shape}
use Rattle.ppm_strands.specs.Strand.{Frame}
use Rattle.ppm_code.specs.Strands.{Point, Result}
use Rattle.ppm_code.specs.declared.code.CodeParts.{CodeParts}
use Rattle.ppm_code.specs.declared.location.FrameWord.{FrameWord}
use Rattle.ppm_step.specs.Among.{IsTurnAmong}
use Rattle.ppm_step.specs.Contents.{read_so}
use Rattle.ppm_step.specs.Frames.{Installs}
use Rattle.ppm_step.specs.Rows.{on_link, bumped, row_of}
use Rattle.ppm_step.specs.Standings.{Standing, IsWithin, IsRunning}
use Rattle.ppm_step.specs.State.{State as RunState, stand_of, acts, happens, forks_of, takes_of}
use Rattle.ppm_step.proofs.ThereLemmas.{restart_fits}
use Rattle.ppm_step.specs.declared.content.Content.TheVariants.{ALink}
use Rattle.ppm_step.specs.declared.row.Row.{Row}
use Rattle.ppm_step.specs.declared.row.Row.TheVariants.{Now}
use Rattle.ppm_step.specs.declared.row.Seat.{Seat}
use Rattle.ppm_step.specs.declared.row.Then.{Then}
use Rattle.ppm_step.specs.declared.row.Then.TheVariants.{Load, Install, Fork, Begin, Move, Enter, Again, Broken}
use Rattle.ppm_step.specs.declared.turn.Act.{Act}
use Rattle.ppm_step.specs.declared.turn.Act.TheVariants.{Step}
use Rattle.ppm_step.specs.declared.turn.Turn.{Turn}
use Rattle.ppm_tickets.specs.Along.{by_act}
use Rattle.ppm_tickets.specs.Homes.{Home, Unborn, Pushing}
use Rattle.ppm_tickets.specs.View as spots
use Rattle.ppm_tickets.specs.Words.{put}
use Rattle.ppm_tickets.proofs.ViewLemmas.{restart_here}
use Rattle.ppm_tickets.proofs.WriteLemmas.{put_here}
use Rattle.ppm_frames.specs.Skeletons.{Fresh, Skeleton, count}
use Rattle.ppm_frames.specs.Good.{link_or, link_at}
use Rattle.ppm_kept.specs.Running.{IsFair}
use Rattle.ppm_kept.specs.Counting.{is_fork, forks_with, opened_by}
use Rattle.ppm_kept.specs.Credit.{by_step}
use Rattle.ppm_kept.specs.Kept.{Setting, State, seat_at, owner, InRow, InRest, Reach, Under, Does}
use Rattle.ppm_kept.specs.Laws.{Ends}
use Rattle.ppm_kept.specs.Left.{Followed, left, left_kinds, IsAway}
use Rattle.ppm_kept.specs.Moves.{by_install}
use Rattle.ppm_kept.specs.Places.{places_of}
use Rattle.ppm_kept.specs.Steps.{act_with, tree_with}
use Rattle.ppm_kept.specs.Unruns.{HasUnrun, OneChanges, IsNone, Is}
use Rattle.ppm_kept.proofs.LeftLemmas.{kind_away}
use Rattle.ppm_kept.proofs.PutLemmas as kept_puts
use Rattle.ppm_runs.specs.Run.{setting}
use Rattle.ppm_runs.specs.Follow.{IsHalves}
use Rattle.ppm_runs.specs.Joint.{AreJoint, StepsAlone}
use Rattle.ppm_runs.proofs.AgreeLemmas.{home_or, Opened, on_opened, unruns}
use Rattle.ppm_runs.proofs.ForkLemmas.{has_both}
use Rattle.ppm_runs.proofs.JoinLemmas.{turns_open}
use Rattle.ppm_runs.proofs.OpenedLemmas.{owner_of}
use Rattle.ppm_runs.proofs.ShownLemmas.{within, Runs, runs}
use Rattle.ppm_runs.proofs.StandLemmas.{kinds_same}
use Rattle.ppm_progress.specs.Fresh.{FreshAtBump, FreshStay}
use Rattle.ppm_progress.proofs.FreshLemmas.{fresh_hook}
use Rattle.ppm_progress.proofs.RestartLemmas.{restart_goes_on}
use Rattle.ppm_progress.proofs.WriteLemmas.{Gives, turn_wrote}

-- a place that doesn't seek is followed by none
away_by : (l : List Followed) (k : ℕ → RestartKind) (w : ℕ) → left_kinds l k w ≢ Seek → IsAway l w
away_by [] k w ne = tt
away_by (v ∷ l) k w ne =
    let apart : w ≢ v.place = λ e. ne (ap (kept_puts_put (left_kinds l k) v.place) e ∙ kept_puts.put_here (left_kinds l k) v.place Seek) in
    (apart, away_by l k w (λ e. ne (kept_puts.put_else (left_kinds l k) v.place Seek w apart ∙ e)))
  where
    kept_puts_put : (ℕ → RestartKind) → ℕ → ℕ → RestartKind
    kept_puts_put f p = left_kinds (v ∷ l) k

-- Bump ends by the fork of its block, or by a call
module _ (i : Setting) (m : Cell → ℕ) (p q : ℕ) where
  abbrev EndsBy : Row → Type 0
  EndsBy (Now (Install re)) = (g : ℕ) × (y : ℕ) × ((link_at (m (BlockWord q))).kind ≡ Called g y)
  EndsBy (Now (Fork x)) = q ≡ x
  EndsBy (Now (Begin x f b)) = ⊥
  EndsBy row = Unit {0}

  module _ (b : ℕ) where
    abbrev seat : Seat
    seat = seat_at p (Bump q) b

    end_some : (k : LinkKind) (z n : ℕ) (rest : Row) → link_of (m (BlockWord q)) ≡ Some (record { kind = k; size = z })
        → Reach i m seat n (bumped seat q z k) rest
        → EndsBy rest
    end_some (Called g y) z zero rest e a = subst EndsBy a tt
    end_some (Called g y) z (suc zero) rest e a = subst EndsBy a.1 (g, y, ap (λ (o : Option Link). (link_or o).kind) e)
    end_some (Called g y) z (suc (suc n)) rest e a = absurd a.1
    end_some (Forked g y) z zero rest e a = subst EndsBy a tt
    end_some (Forked g y) z (suc zero) rest e a = subst EndsBy a.1 refl
    end_some (Forked g y) z (suc (suc n)) rest e a = absurd a.1
    end_some Root z zero rest e a = subst EndsBy a tt
    end_some Root z (suc n) rest e a = absurd a
    end_some (Branch d x) z zero rest e a = subst EndsBy a tt
    end_some (Branch d x) z (suc n) rest e a = absurd a

    end_by : (o : Option Link) → link_of (m (BlockWord q)) ≡ o → (n : ℕ) (rest : Row)
        → Reach i m seat n (on_link (read_so ALink o) (λ (l : Link). bumped seat q l.size l.kind)) rest
        → EndsBy rest
    end_by None e zero rest a = subst EndsBy a tt
    end_by None e (suc n) rest a = absurd a
    end_by (Some l) e n rest a = end_some l.kind l.size n rest e a

    end_reached : (n : ℕ) (rest : Row) → Reach i m seat n (row_of i.shape seat (Bump q)) rest → EndsBy rest
    end_reached zero rest a = subst EndsBy a tt
    end_reached (suc n) rest a = end_by (link_of (m (BlockWord q))) refl n rest a

module _ (s : Shape) (code : CodeParts) (fair : IsFair code) (root : Tree (Frame FrameWord Point) Result) (input : Words) (state : RunState)
    (h : ℕ → Home) (forked taken : List ℕ) (l : List Followed) (t : Skeleton) (run : IsHalves s code root input state h forked taken l t)
    (joint : AreJoint s code state h l t) where
  abbrev i : Setting
  i = setting s code

  abbrev K : ℕ → RestartKind
  K = spots.kinds s state.words

  abbrev z : State
  z = left i l (places_of s state)

  -- who leaves Bump of a fork's block forks it
  module _ (w r : ℕ) (kz : z.kind w ≡ Bump r) (fresh : HasUnrun Fresh r t) where
    leaves_within : (c v : ℕ) (seat : Seat) (next : Then) → stand_of state c ≡ IsWithin seat (Now next) → seat.place ≡ w → Ends next
        → by_act s state.words (Step v) (IsWithin seat (Now next)) h r ≡ Unborn → ⊥
    leaves_within c v seat next e at ends un =
        let a = within s code root input state h forked taken l t run c seat (Now next) e in
        let kind : seat.restart.kind ≡ Bump r = sym a.kind ∙ ap z.kind at ∙ kz in
        let under : Under i z.words seat.place (Bump r) (Now next) = subst (λ (k : RestartKind). Does i z.words seat.place k (InRow (Now next))) kind a.does in
        by next ends (end_reached i z.words seat.place r under.0 under.1 (Now next) under.2) un
      where
        by : (next : Then) → Ends next → EndsBy i z.words seat.place r (Now next) → by_act s state.words (Step v) (IsWithin seat (Now next)) h r ≡ Unborn → ⊥
        by (Install re) ends call un =
            let fork = fresh_hook i.code z.words z.kind Root t r run.kept.good fresh in
            let e : Called call.0 call.1 ≡ Forked fork.0 fork.1 = sym call.2 ∙ fork.2 in cc
        by (Fork x) ends is un =
            let e : Pushing seat.place ≡ Unborn = sym (ap (put h x (Pushing seat.place)) is ∙ put_here h x (Pushing seat.place)) ∙ un in cc
        by (Begin x f b) ends none un = none
        by (Load x) ends none un = ends
        by (Move x) ends none un = ends
        by (Enter x) ends none un = ends
        by Again ends none un = ends
        by Broken ends none un = ends

    leaves_by : (c : ℕ) (act : Act) (x : Standing) (re : Restart) → stand_of state c ≡ x → Gives act x w re → by_act s state.words act x h r ≡ Unborn → ⊥
    leaves_by c (Step v) (IsWithin seat (Now (Install re))) x e gives un = leaves_within c v seat (Install re) e gives.0 tt un
    leaves_by c (Step v) (IsWithin seat (Now (Fork q))) x e gives un = leaves_within c v seat (Fork q) e gives.0 tt un
    leaves_by c (Step v) (IsWithin seat (Now (Begin q f b))) x e gives un = leaves_within c v seat (Begin q f b) e gives.0 tt un
    leaves_by c (Step v) (IsRunning seat (Installs kind)) x e gives un =
        let a = runs s code root input state h forked taken l t run c seat (Installs kind) e in
        subst (λ (k : RestartKind). Does i z.words seat.place k (InRest (Installs kind))) (ap z.kind gives.0 ∙ kz) a.does
    leaves_by c act _ x e gives un = absurd gives

    kind_stays : (turn : Turn) → turn.processor < s.processors → by_act s state.words turn.act (stand_of state turn.processor) h r ≡ Unborn
        → spots.kinds s (happens s code state turn).words w ≡ K w
    kind_stays turn there un =
        let wrote = turn_wrote s code fair root input state h forked taken l t run joint.agrees turn there in
        elim (restart_goes_on s code state.words run.lawful.0 turn.act (stand_of state turn.processor) (happens s code state turn).words wrote w) [
          | inl same ↦ ap (λ (x : Restart). x.kind) same
          | inr new ↦ absurd (leaves_by turn.processor turn.act (stand_of state turn.processor) new.0 refl new.1 un)
        ]

    away_here : IsAway l w
    away_here = away_by l (places_of s state).kind w (λ e. let k : Bump r ≡ Seek = sym kz ∙ e in cc)

    bump_stays : (turn : Turn) → turn.processor < s.processors → by_act s state.words turn.act (stand_of state turn.processor) h r ≡ Unborn
        → (left i l (places_of s (happens s code state turn))).kind w ≡ Bump r
    bump_stays turn there un =
        kind_away l (places_of s (happens s code state turn)).kind w away_here
        ∙ kinds_same s (happens s code state turn).words w ∙ kind_stays turn there un
        ∙ sym (kinds_same s state.words w) ∙ sym (kind_away l (places_of s state).kind w away_here) ∙ kz

  -- which capsule opens a fork
  record Opens (c : ℕ) (act : Act) (x : Standing) : Type 0 where
    victim : ℕ
    act_is : act ≡ Step victim
    seat : Seat
    block : ℕ
    stands : x ≡ IsRunning seat (Installs (Bump block))
    fork : (g : ℕ) × (y : ℕ) × ((link_at (z.words (BlockWord block))).kind ≡ Forked g y)

  fork_by : (k : LinkKind) → is_fork k ≡ 1 → (g : ℕ) × (y : ℕ) × (k ≡ Forked g y)
  fork_by (Forked g y) e = (g, y, refl)
  fork_by (Called g y) e = absurd (cc)
  fork_by Root e = absurd (cc)
  fork_by (Branch d r) e = absurd (cc)

  opens_kind : (c v : ℕ) (seat : Seat) (kind : RestartKind) → forks_with z.words kind ≡ 1 → Opens c (Step v) (IsRunning seat (Installs kind))
  opens_kind c v seat (Bump q) e = record { victim = v; act_is = refl; seat = seat; block = q; stands = refl; fork = fork_by _ e }
  opens_kind c v seat _ e = absurd (cc)

  opens_by : (c : ℕ) (act : Act) (x : Standing) → by_step (opened_by z.words) act x ≡ 1 → Opens c act x
  opens_by c (Step v) (IsRunning seat (Installs kind)) e = opens_kind c v seat kind e
  opens_by c _ _ e = absurd (cc)

  module _ (so : FreshAtBump s code state h l t) (turn : Turn) (among : IsTurnAmong s.processors turn)
      (alone : StepsAlone s.takeover turn.act (stand_of state turn.processor)) where
    abbrev c : ℕ
    c = turn.processor

    abbrev u : Skeleton
    u = act_with i z.words state.words turn.act (stand_of state c) t

    abbrev g : ℕ → Home
    g = by_act s state.words turn.act (stand_of state c) h

    module _ (then_ : IsHalves s code root input (happens s code state turn) g (forks_of state turn ++ forked) (takes_of state turn ++ taken) l u) where
      unborn_was : (r : ℕ) → g r ≡ Unborn → h r ≡ Unborn
      unborn_was r un = elim (home_or (h r)) [
        | inl is ↦ is
        | inr ne ↦ absurd (then_.lawful.1.counts.born r (has_both r (forks_of state turn) forked (run.lawful.1.counts.listed r ne)) un)
      ]

      was_so : (r : ℕ) → HasUnrun Fresh r t → g r ≡ Unborn → (left i l (places_of s (happens s code state turn))).kind (owner i r) ≡ Bump r
      was_so r was un = bump_stays (owner i r) r (so r was (unborn_was r un)) was turn among.processor un

      abbrev next : State
      next = left i l (places_of s (happens s code state turn))

      opened : Opened s code fair root input state h forked taken l t run joint (by_step (opened_by z.words) turn.act (stand_of state c)) u g
      opened = turns_open s code fair root input state h forked taken l t run joint turn alone then_

      -- the place that opens a block is at Bump of it
      module _ (o : Opens c turn.act (stand_of state c)) where
        abbrev p : ℕ
        p = o.seat.place

        at_work : Runs s code root input state h forked taken l t run c o.seat (Installs (Bump o.block))
        at_work = runs s code root input state h forked taken l t run c o.seat (Installs (Bump o.block)) o.stands

        run_kind : (k : RestartKind) → Does i z.words p k (InRest (Installs (Bump o.block))) → (f : ℕ) × (y : ℕ) × (k ≡ Run f y)
        run_kind (Run f y) does = (f, y, refl)
        run_kind _ does = absurd does

        ran : (f : ℕ) × (y : ℕ) × (z.kind p ≡ Run f y)
        ran = run_kind (z.kind p) at_work.does

        u_is : u ≡ by_install i z.words p (Run ran.0 ran.1) (Bump o.block) t
        u_is = ap (λ (a : Act). act_with i z.words state.words a (stand_of state c) t) o.act_is
            ∙ ap (λ (x : Standing). tree_with i z.words state.words x t) o.stands
            ∙ ap (λ (k : RestartKind). by_install i z.words p k (Bump o.block) t) (sym at_work.kind ∙ ran.2)

        changes : OneChanges o.block IsNone (Is Fresh) t u
        changes = subst (OneChanges o.block IsNone (Is Fresh) t) (sym u_is)
            ((unruns s code fair root input state h forked taken l t run joint p).opens ran.0 ran.1 o.block o.fork.0 o.fork.1 ran.2 o.fork.2
            (subst (λ (v : Skeleton). (x : ℕ) → count Root v x ≤ 1) u_is then_.kept.apart))

        abbrev opened_restart : Restart
        opened_restart = record { kind = Bump o.block; bottom = o.seat.restart.bottom }

        kind_now : spots.kinds s (acts s code state c turn.act (stand_of state c)).words p ≡ Bump o.block
        kind_now = subst₂ (λ (a : Act) (x : Standing). spots.kinds s (acts s code state c a x).words p ≡ Bump o.block) (sym o.act_is) (sym o.stands)
            (ap (λ (x : Restart). x.kind) (restart_here s state.words p opened_restart run.lawful.0 at_work.place
            (restart_fits s (few_words s) opened_restart at_work.here)))

        away_there : IsAway l p
        away_there = away_by l (places_of s state).kind p (λ e. let k : Run ran.0 ran.1 ≡ Seek = sym ran.2 ∙ e in cc)

        bump_now : next.kind p ≡ Bump o.block
        bump_now =
            kind_away l (places_of s (happens s code state turn)).kind p away_there
            ∙ kinds_same s (acts s code state c turn.act (stand_of state c)).words p ∙ kind_now

        owner_is : owner i o.block ≡ p
        owner_is = owner_of s code fair root input (happens s code state turn) g (forks_of state turn ++ forked) (takes_of state turn ++ taken) l u then_
            (on_opened s code fair root input state h forked taken l t run joint _ u g opened).agrees p o.block bump_now

        newly : (r : ℕ) → HasUnrun Fresh r u → g r ≡ Unborn → next.kind (owner i r) ≡ Bump r
        newly r fresh un = elim (cases_eq r o.block) [
          | inl e ↦ ap (λ (x : ℕ). next.kind (owner i x)) e ∙ ap next.kind owner_is ∙ bump_now ∙ ap Bump (sym e)
          | inr ne ↦ was_so r ((changes.others Fresh tt r ne).1 fresh) un
        ]

      stays : FreshAtBump s code (happens s code state turn) g l u
      stays r fresh un = elim opened [
        | inl none ↦ elim (none.0.fresh r fresh) [ inl was ↦ was_so r was un | inr new ↦ absurd new.1 ]
        | inr one ↦ newly (opens_by c turn.act (stand_of state c) one.4) r fresh un
      ]

pub fresh_stay : FreshStay
fresh_stay s code fair root input state h forked taken l t run joint so turn among alone then_ =
    stays s code fair root input state h forked taken l t run joint so turn among alone then_
