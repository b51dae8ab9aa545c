-- One capsule of the code as a chain, and frames that hold the locals.
use Rattle.std.proofs.Common.{◌≡◌, ℕ, ◌+◌, List, Result, Ok, Err, ap, ◌∙◌, subst, subst₂, arith}
use Rattle.std.specs.List.{sum}
use Rattle.ppm_strands.specs.Tree.{Words, Strand, Over, forks_in}
use Rattle.ppm_strands.specs.Run.{none, plus, of_capsule}
use Rattle.ppm_strands.specs.Ahead.{Capsule as OneCapsule, Done}
use Rattle.ppm_strands.proofs.OrderLemmas.{before}
use Rattle.ppm_strands.specs.Capsule.{Capsule, Ends, Memory, ending, leaves, asked}
use Rattle.ppm_strands.specs.Strand.{start, opened, shared_of}
use Rattle.ppm_code.specs.declared.act.End.{End}
use Rattle.ppm_code.specs.declared.act.End.TheVariants.{Trap as Trapping}
use Rattle.ppm_code.specs.declared.code.CodeParts.{CodeParts}
use Rattle.ppm_code.specs.declared.instr.Instr.{Instr}
use Rattle.ppm_code.specs.declared.location.FrameWord.{FrameWord}
use Rattle.ppm_code.specs.Locations.{Where, code_locations}
use Rattle.ppm_code.specs.Capsules.{capsule_of, capsule_from}
use Rattle.ppm_code.specs.Strands.{Trapped as TrappedAt, instrs_of, table_of, at_capsule}
use Rattle.ppm_tree.specs.State.{TrapAt, Frame, Arrays}
use Rattle.ppm_regions.specs.Scope.{Scope}
use Rattle.ppm_cut_code.specs.Layout.{Layout}
use Rattle.ppm_cut_correct.proofs.ChainLemmas.{cost, Chain}
use Rattle.ppm_cut_correct.proofs.Doing.{InHand}
use Rattle.ppm_cut_correct.proofs.ExprLemmas.{Goes, Meets, Sees}
use Rattle.ppm_cut_correct.proofs.Holding.{CodeTree, at_work, strands}

module _ (lengths : List ℕ) (code : CodeParts) where
  -- what the capsule of a frame at work finds
  abbrev pub start_at : (FrameWord → ℕ) → ℕ → Words → Memory Where
  start_at own at a = start code_locations (table_of code (sum lengths)) (at_work own at) a

  -- the tree that an end opens, by the words that a capsule leaves
  abbrev pub opens_at : ℕ → End → Memory Where → CodeTree lengths code
  opens_at at e m = opened code_locations (table_of code (sum lengths)) (at_capsule at) e m

  -- what is in hand is what expressions see
  pub sees : (scope : Scope) (layout : Layout) (f : Frame) (own : FrameWord → ℕ) (a : Words) (arrays : Arrays) (at : ℕ)
      → InHand lengths code scope layout f own a arrays → Sees lengths scope layout f arrays (start_at own at a)
  sees scope layout f own a arrays at h =
      record { small = h.small; local = h.holds.local; region = h.holds.region; word = h.shows.word; lies = h.lies }

  -- a whole capsule, of which the end, the memory and the ask are known
  pub whole : (at : ℕ) (is : List Instr) → instrs_of code at ≡ is → (own : FrameWord → ℕ) (a : Words) (e : End) (m : Memory Where) (w : ℕ)
      → ending code_locations (capsule_of (sum lengths) is) (start_at own at a) ≡ e
      → leaves code_locations (capsule_of (sum lengths) is) (start_at own at a) ≡ m
      → asked code_locations (capsule_of (sum lengths) is) (start_at own at a) ≡ w
      → Chain (strands lengths code) (cost 1 1 (forks_in (opens_at at e m)) w) (Strand (at_work own at)) a (opens_at at e m) (shared_of m)
  whole at is stands own a e m w is_e is_m is_w =
      let f = at_work own at in
      let P : End → Memory Where → ℕ → Type 0 =
      λ e m w. Chain (strands lengths code) (cost 1 1 (forks_in (opens_at at e m)) w) (Strand f) a (opens_at at e m) (shared_of m) in
      let s = start_at own at a in
      let Q : Capsule Where End → Type 0 = λ p. P (ending code_locations p s) (leaves code_locations p s) (asked code_locations p s) in
      let base : Q (capsule_of (sum lengths) (instrs_of code at)) = (
        plus (of_capsule (strands lengths code) f a) none,
        before (strands lengths code) (OneCapsule f a) tt (Done _ _, tt),
        record {
          least = omega arith;
          most = omega arith;
          forks = omega arith;
          words = omega arith;
        },
      ) in
      let q : Q (capsule_of (sum lengths) is) = subst Q (ap (capsule_of (sum lengths)) stands) base in
      subst (P e m) is_w (subst₂ (λ e m. P e m (asked code_locations (capsule_of (sum lengths) is) s)) is_e is_m q)

  -- a capsule that evaluates, and then goes on with what it got, or traps
  abbrev pub Tried : {A : Type 0} → (w at : ℕ) → (A → End) → (A → Memory Where) → (FrameWord → ℕ) → Words → Result A TrapAt → Type 0
  Tried w at e m own a (Ok v) =
      Chain (strands lengths code) (cost 1 1 (forks_in (opens_at at (e v) (m v))) w) (Strand (at_work own at)) a (opens_at at (e v) (m v))
      (shared_of (m v))
  Tried w at e m own a (Err stop) = Chain (strands lengths code) (cost 1 1 0 w) (Strand (at_work own at)) a (Over (TrappedAt stop.0 stop.1)) a

  -- p is the capsule after an ask for w words, if there is one in front
  pub tried : {A : Type 0} (at : ℕ) (is : List Instr) → instrs_of code at ≡ is → (own : FrameWord → ℕ) (a : Words) (p : Capsule Where End) (w : ℕ)
      → ending code_locations (capsule_of (sum lengths) is) (start_at own at a) ≡ ending code_locations p (start_at own at a)
      → leaves code_locations (capsule_of (sum lengths) is) (start_at own at a) ≡ leaves code_locations p (start_at own at a)
      → asked code_locations (capsule_of (sum lengths) is) (start_at own at a) ≡ w + asked code_locations p (start_at own at a)
      → (n : ℕ) (rest : List Instr) (K : A → List ℕ → Type 0) (t : Result A TrapAt) → Meets (sum lengths) n rest K p (start_at own at a) t
      → (e : A → End) (m : A → Memory Where)
      → ((v : A) (h : List ℕ) → K v h → Goes (capsule_from (sum lengths) n 0 rest h) (start_at own at a) (Ends (e v)) (m v))
      → Tried w at e m own a t
  tried at is stands own a p w is_e is_m is_w n rest K (Ok v) h e m fin =
      let g = fin v h.0 h.2 in
      whole at is stands own a (e v) (m v) w (is_e ∙ h.1.ends ∙ g.ends) (is_m ∙ h.1.left ∙ g.left)
      (is_w ∙ ap (λ (z : ℕ). w + z) (h.1.asks ∙ g.asks) ∙ omega arith)
  tried at is stands own a p w is_e is_m is_w n rest K (Err stop) h e m fin =
      whole at is stands own a (Trapping stop.0 stop.1) (start_at own at a) w (is_e ∙ h.ends) (is_m ∙ h.left)
      (is_w ∙ ap (λ (z : ℕ). w + z) h.asks ∙ omega arith)
