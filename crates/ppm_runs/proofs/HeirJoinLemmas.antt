-- What joins the halves does so after the turn by which a place goes on with what it inherited.
use Rattle.std.proofs.Common.{◌≡◌, ◌≢◌, ◌-◌, ◌+◌, ℕ, true, List, ◌++◌, Some, inl, inr, refl, sym, ap, ◌∙◌, subst}
use Rattle.std.proofs.lemmas.Bool.{cases_eq}
use Rattle.ppm_strands.specs.Tree.{Words, Tree}
use Rattle.ppm_cells.specs.Memory.{write as store}
use Rattle.ppm_cells.specs.Restart.{restart_word}
use Rattle.ppm_cells.specs.declared.cell.Cell.TheVariants.{RestartWord, BlockWord}
use Rattle.ppm_cells.specs.declared.restart.Restart.{Restart}
use Rattle.ppm_cells.specs.declared.restart.RestartKind.{RestartKind}
use Rattle.ppm_cells.specs.declared.restart.RestartKind.TheVariants.{Run, Bump, Push1, Check}
use Rattle.ppm_cells.specs.declared.shape.Shape.{Shape}
use Rattle.ppm_cells.specs.declared.shape.Takeover.{Takeover}
use Rattle.ppm_cells.specs.declared.shape.Takeover.TheVariants.{ByEntries}
use Rattle.ppm_strands.specs.Strand.{Frame}
use Rattle.ppm_code.specs.Strands.{Point, Result}
use Rattle.ppm_code.specs.declared.code.CodeParts.{CodeParts}
use Rattle.ppm_code.specs.declared.location.FrameWord.{FrameWord}
use Rattle.ppm_step.proofs.ThereLemmas.{restart_fits}
use Rattle.ppm_step.specs.Standings.{Standing, IsAt, IsWithin, forked as forked_restart, wanted_row, row_is_there}
use Rattle.ppm_step.specs.State.{State as RunState, stand_of, happens, acts, words_after, fork_row, take_row}
use Rattle.ppm_step.specs.There.{restart_is_there}
use Rattle.ppm_step.specs.declared.row.Row.{Row}
use Rattle.ppm_step.specs.declared.row.Row.TheVariants.{Now}
use Rattle.ppm_step.specs.declared.row.Seat.{Seat}
use Rattle.ppm_step.specs.declared.row.Then.{Then}
use Rattle.ppm_step.specs.declared.row.Then.TheVariants.{Install, Fork}
use Rattle.ppm_step.specs.declared.turn.Act.TheVariants.{Step}
use Rattle.ppm_tickets.specs.Along.{by_row, by_install}
use Rattle.ppm_tickets.specs.Homes.{Home, Pushing}
use Rattle.ppm_tickets.specs.Lawful.{IsEmpty, AtBottom, Closed}
use Rattle.ppm_tickets.specs.Saw.{Carried, Sees}
use Rattle.ppm_tickets.specs.View as spots
use Rattle.ppm_tickets.specs.Words.{Slot, put}
use Rattle.ppm_cells.proofs.CellLemmas.{few_words}
use Rattle.ppm_tickets.proofs.EstateLemmas.{own as own_entry}
use Rattle.ppm_tickets.proofs.HeirRows.{heirs_see}
use Rattle.ppm_tickets.proofs.ViewLemmas.{bottoms_put, view_else}
use Rattle.ppm_tickets.proofs.WriteLemmas.{put_here, put_else}
use Rattle.ppm_frames.specs.Skeletons.{Fresh, Held, Skeleton}
use Rattle.ppm_frames.specs.Good.{link_at}
use Rattle.ppm_frames.specs.Views as frames
use Rattle.ppm_frames.proofs.ViewLemmas.{others_are_unseen}
use Rattle.ppm_kept.specs.Running.{IsFair}
use Rattle.ppm_kept.specs.Kept.{State, InRow}
use Rattle.ppm_kept.specs.Fates.{Agrees}
use Rattle.ppm_kept.specs.Heirs.{handed, OpensAs}
use Rattle.ppm_kept.specs.HeirTurns.{and_followed}
use Rattle.ppm_kept.specs.Laws.{kind_then}
use Rattle.ppm_kept.specs.Left.{Followed, left, IsAway}
use Rattle.ppm_kept.specs.Places.{kinds_of, places_of}
use Rattle.ppm_kept.specs.Unruns.{SameUnruns}
use Rattle.ppm_kept.proofs.LeftLemmas.{kind_away}
use Rattle.ppm_kept.proofs.LinkLemmas.{unrun_linked, called_or}
use Rattle.ppm_kept.proofs.UnrunUntaken.{handed_same}
use Rattle.ppm_runs.specs.Run.{setting, fate_of}
use Rattle.ppm_runs.specs.Follow.{IsHalves, CarriesOn, OpensBlock}
use Rattle.ppm_runs.specs.Joint.{IsCapped, AreJoint}
use Rattle.ppm_runs.proofs.StandLemmas.{kinds_same}
use Rattle.ppm_runs.proofs.ShownLemmas.{carried_away, Within, within}
use Rattle.ppm_runs.proofs.GoingLemmas.{Doer, doer}
use Rattle.ppm_runs.proofs.AgreeLemmas.{open_, pushing_place}
use Rattle.ppm_runs.proofs.OpenedLemmas.{opens_same, fork_fresh, closed_before}
use Rattle.ppm_runs.proofs.JoinLemmas.{stand_else, Installing, step_kinds, installs_at}

-- the restart that it installs
abbrev restart_then : Seat → Then → Restart
restart_then seat (Install re) = re
restart_then seat (Fork r) = forked_restart seat r
restart_then seat next = seat.restart

module _ (s : Shape) (code : CodeParts) (ih : s.takeover ≡ ByEntries) (fair : IsFair code) (root : Tree (Frame FrameWord Point) Result) (input : Words) (state : RunState) (h : ℕ → Home) (forked taken : List ℕ) (l : List Followed) (t : Skeleton)
    (run : IsHalves s code root input state h forked taken l t) (joint : AreJoint s code state h l t)
    (c victim : ℕ) (seat : Seat) (next : Then) (v slot : ℕ) (at : stand_of state c ≡ IsWithin seat (Now next)) (ke : seat.restart.kind ≡ Check v slot) (on : CarriesOn next) (w : ℕ)
    (agrees : Agrees (handed w seat.place t) (λ r. fate_of (by_row s state.words seat (Now next) h r)))
    (after : IsHalves s code root input (happens s code state (record { processor = c; act = Step victim })) (by_row s state.words seat (Now next) h) (fork_row (Now next) ++ forked) (take_row (Now next) ++ taken)
    (and_followed (setting s code) l (places_of s state) w) (handed w seat.place t)) where
  abbrev p : ℕ
  p = seat.place

  abbrev n : RunState
  n = happens s code state (record { processor = c; act = Step victim })

  abbrev g : ℕ → Home
  g = by_row s state.words seat (Now next) h

  abbrev l' : List Followed
  l' = and_followed (setting s code) l (places_of s state) w

  abbrev u : Skeleton
  u = handed w p t

  abbrev z : State
  z = left (setting s code) l (places_of s state)

  abbrev N : State
  N = left (setting s code) l' (places_of s n)

  same : SameUnruns t u
  same = handed_same w p t

  here : Within s code root input state h forked taken l t run c seat (Now next)
  here = within s code root input state h forked taken l t run c seat (Now next) at

  -- the words after it
  words_by : (x : Then) → CarriesOn x → words_after state.words (wanted_row s seat victim (Now x)) ≡ store s state.words (RestartWord p) (restart_word (restart_then seat x))
  words_by (Install re) on = refl
  words_by (Fork r) on = refl
  words_by _ on = absurd on

  words_are : n.words ≡ store s state.words (RestartWord p) (restart_word (restart_then seat next))
  words_are = ap (λ (x : Standing). (acts s code state c (Step victim) x).words) at ∙ words_by next on

  -- which frames don't see
  pub view_same : frames.view s n.words ≡ frames.view s state.words
  view_same = ap (frames.view s) words_are ∙ others_are_unseen s state.words (RestartWord p) (restart_word (restart_then seat next)) here.place refl

  restart_here : (x : Then) → CarriesOn x → row_is_there s seat (Now x) ≡ true → restart_is_there s (restart_then seat x) ≡ true
  restart_here (Install re) on e = e
  restart_here (Fork r) on e = e
  restart_here _ on e = absurd on

  -- each bottom is as it was
  low_then : (x : Then) → CarriesOn x → stand_of state c ≡ IsWithin seat (Now x) → (restart_then seat x).bottom ≡ spots.bottoms s state.words p
  low_then (Install re) on e = elim (heirs_see s code ih state h forked taken run.lawful c seat (Now (Install re)) v slot e ke) [
    | inl seeks ↦ absurd (on seeks)
    | inr a ↦ a.2
  ]
  low_then (Fork r) on e = sym here.sits.at.bottom
  low_then _ on e = absurd on

  bottom_same : (q : ℕ) → spots.bottoms s n.words q ≡ spots.bottoms s state.words q
  bottom_same q =
      let fits = restart_fits s (few_words s) (restart_then seat next) (restart_here next on here.here) in
      ap (λ (ws : List ℕ). spots.bottoms s ws q) words_are
      ∙ ap (λ (f : ℕ → ℕ). f q) (bottoms_put s state.words p (restart_then seat next) run.lawful.0 here.place fits)
      ∙ elim (cases_eq q p) [
        | inr ne ↦ put_else (spots.bottoms s state.words) p (restart_then seat next).bottom q ne
        | inl e ↦ ap (put (spots.bottoms s state.words) p (restart_then seat next).bottom) e ∙ put_here (spots.bottoms s state.words) p (restart_then seat next).bottom ∙ low_then next on at ∙ sym (ap (spots.bottoms s state.words) e)
      ]

  -- and each entry
  slot_same : (q j : ℕ) → spots.view s n.words (Slot q j) ≡ spots.view s state.words (Slot q j)
  slot_same q j = ap (λ (ws : List ℕ). spots.view s ws (Slot q j)) words_are ∙ view_else s state.words (RestartWord p) (restart_word (restart_then seat next)) (Slot q j) here.place (λ shown e. cc)

  -- above the bottom of a place that checks nothing is
  empty_here : IsEmpty (spots.view s state.words (Slot p (spots.bottoms s state.words p + 1)))
  empty_here =
      let estate = run.lawful.1.board in
      let b = spots.bottoms s state.words p in
      let deque = subst (λ (k : RestartKind). AtBottom k (estate.ghost (Slot p (b - 1))) (estate.ghost (Slot p b)) (estate.ghost (Slot p (b + 1)))) (here.sits.at.kind ∙ ke) (estate.board.deque p).here in
      subst IsEmpty (own_entry estate p (b + 1) (open_ s code root input state h forked taken l t run c p here.sits.carried)) deque.2

  empty_after : (q : ℕ) → IsEmpty (spots.view s state.words (Slot q (spots.bottoms s state.words q + 1))) → IsEmpty (spots.view s n.words (Slot q (spots.bottoms s n.words q + 1)))
  empty_after q e = subst (λ (b : ℕ). IsEmpty (spots.view s n.words (Slot q (b + 1)))) (sym (bottom_same q)) (subst IsEmpty (sym (slot_same q (spots.bottoms s state.words q + 1))) e)

  -- who pushes elsewhere did before
  put_home : (b r q : ℕ) → (q ≡ p → ⊥) → put h b (Pushing p) r ≡ Pushing q → h r ≡ Pushing q
  put_home b r q ne e = elim (cases_eq r b) [
    | inl rb ↦ absurd (ne (sym (pushing_place (sym (ap (put h b (Pushing p)) rb ∙ put_here h b (Pushing p)) ∙ e))))
    | inr nb ↦ sym (put_else h b (Pushing p) r nb) ∙ e
  ]

  kind_home : (k : RestartKind) (r q : ℕ) → (q ≡ p → ⊥) → by_install p (Check v slot) k h r ≡ Pushing q → h r ≡ Pushing q
  kind_home (Push1 b) r q ne e = put_home b r q ne e
  kind_home _ r q ne e = e

  home_before : (x : Then) → CarriesOn x → (r q : ℕ) → (q ≡ p → ⊥) → by_row s state.words seat (Now x) h r ≡ Pushing q → h r ≡ Pushing q
  home_before (Install re) on r q ne e = kind_home re.kind r q ne (subst (λ (k : RestartKind). by_install p k re.kind h r ≡ Pushing q) ke e)
  home_before (Fork b) on r q ne e = put_home b r q ne e
  home_before _ on r q ne e = absurd on

  -- who goes on is at its place
  goes_at : (x : Then) → CarriesOn x → Installing (IsWithin seat (Now x)) p
  goes_at (Install re) on = refl
  goes_at (Fork r) on = refl
  goes_at _ on = absurd on

  own_at : (re : Restart) × (stand_of n c ≡ IsAt p (Some re))
  own_at = installs_at s code fair root input state h forked taken l t run joint c victim (stand_of state c) p refl (subst (λ (x : Standing). Installing x p) (sym at) (goes_at next on))

  not_own : (d : ℕ) (o : Seat) (row : Row) → stand_of n d ≡ IsWithin o row → d ≢ c
  not_own d o row e same_one = let k : IsAt p (Some own_at.0) ≡ IsWithin o row = sym own_at.1 ∙ ap (stand_of n) (sym same_one) ∙ e in cc

  stood : (d : ℕ) (o : Seat) (row : Row) → stand_of n d ≡ IsWithin o row → stand_of state d ≡ IsWithin o row
  stood d o row e = sym (stand_else s code state c d (Step victim) (stand_of state c) (not_own d o row e)) ∙ e

  sees_after : (d : ℕ) (x : Standing) → stand_of n d ≡ x → Sees s (spots.view s n.words) (spots.kinds s n.words) (spots.bottoms s n.words) d x
  sees_after d x e = subst (Sees s (spots.view s n.words) (spots.kinds s n.words) (spots.bottoms s n.words) d) e (after.lawful.1.sees d)

  -- a place that another is in is at its kind still
  kind_before : (q r : ℕ) (row : Row) (d : Doer (stand_of n) q row) → N.kind q ≡ Push1 r → z.kind q ≡ Push1 r
  kind_before q r row d kn =
      let seen = sees_after d.processor (IsWithin d.seat row) d.stand in
      let carried = subst (Carried s (spots.view s n.words) d.processor) d.place seen.0.carried in
      let away = carried_away s code root input n g (fork_row (Now next) ++ forked) (take_row (Now next) ++ taken) l' u after d.processor q carried in
      ap z.kind (sym d.place) ∙ (within s code root input state h forked taken l t run d.processor d.seat row (stood d.processor d.seat row d.stand)).kind
      ∙ sym seen.0.at.kind ∙ ap (spots.kinds s n.words) d.place ∙ sym (kinds_same s n.words q) ∙ sym (kind_away l' (places_of s n).kind q away) ∙ kn

  doing_before : (q : ℕ) (row : Row) (d : Doer (stand_of n) q row) → (places_of s state).doing q ≡ InRow row
  doing_before q row d = ap (places_of s state).doing (sym d.place) ∙ (within s code root input state h forked taken l t run d.processor d.seat row (stood d.processor d.seat row d.stand)).doing

  -- a closed place is at its kind still
  closed_kind : (q : ℕ) → Closed s.takeover (spots.view s n.words) q → spots.kinds s n.words q ≡ spots.kinds s state.words q
  closed_kind q shut = step_kinds s code fair root input state h forked taken l t run joint c victim (stand_of state c) q refl (λ installs.
      let to = installs_at s code fair root input state h forked taken l t run joint c victim (stand_of state c) q refl installs in
      let sees = sees_after c (IsAt q (Some to.0)) to.1 in
      open_ s code root input n g (fork_row (Now next) ++ forked) (take_row (Now next) ++ taken) l' u after c q sees.0 shut)

  opens_after : (d : ℕ) (o : Seat) (x : Then) (a b : ℕ) → stand_of n d ≡ IsWithin o (Now x) → o.restart.kind ≡ Check a b → CarriesOn x
      → (q r : ℕ) → Closed s.takeover (spots.view s n.words) q → IsAway l' q → kinds_of s n.words q ≡ Bump r → OpensBlock r x → OpensAs r (link_at (N.words (BlockWord r))).kind (kind_then x)
  opens_after d o x a b stand ko goes q r shut aw kw by =
      let was : kinds_of s state.words q ≡ Bump r = kinds_same s state.words q ∙ sym (closed_kind q shut) ∙ sym (kinds_same s n.words q) ∙ kw in
      let kz : z.kind q ≡ Bump r = kind_away l (places_of s state).kind q aw.1 ∙ was in
      let kn : N.kind q ≡ Bump r = kind_away l' (places_of s n).kind q aw ∙ kw in
      let before = stood d o (Now x) stand in
      let closed = closed_before s code fair root input state h forked taken l t run joint.agrees ih q r kz d o x a b before ko goes by in
      opens_same r (kind_then x) (link_at (z.words (BlockWord r))).kind (link_at (N.words (BlockWord r))).kind
      (called_or (setting s code) fair root input N u after.kept q r kn)
      (λ f. unrun_linked (setting s code) fair root input N u after.kept Fresh r (same.on Fresh tt r (fork_fresh s code fair root input state h forked taken l t run joint.agrees q r kz f)))
      (λ f. unrun_linked (setting s code) fair root input z t run.kept Fresh r (same.back Fresh tt r (fork_fresh s code fair root input n g (fork_row (Now next) ++ forked) (take_row (Now next) ++ taken) l' u after agrees q r kn f)))
      (joint.opens d o x a b before ko goes q r closed aw.1 was by)

  pub heir_joint : AreJoint s code n g l' u
  heir_joint = record {
    agrees = agrees;
    last = λ r q held home. subst (λ (how : Takeover). IsCapped how s n.words q) (sym ih) (empty_after q (elim (cases_eq q p) [
      | inl e ↦ subst (λ (x : ℕ). IsEmpty (spots.view s state.words (Slot x (spots.bottoms s state.words x + 1)))) (sym e) empty_here
      | inr ne ↦ subst (λ (how : Takeover). IsCapped how s state.words q) ih (joint.last r q (same.back Held tt r held) (home_before next on r q ne home))
    ]));
    ready = λ q r f y b kn de.
        let d = doer (stand_of n) q (Now (Install (record { kind = Run f y; bottom = b }))) s.processors de in
        same.on Held tt r (joint.ready q r f y b (kind_before q r _ d kn) (doing_before q _ d));
    unheld = λ entries q r row kn de push held.
        let d = doer (stand_of n) q row s.processors de in
        joint.unheld entries q r row (kind_before q r row d kn) (doing_before q row d) push (same.back Held tt r held);
    opens = opens_after;
  }
