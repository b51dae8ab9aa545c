-- Stretches that follow one another, calls that return and forks that join.
use Rattle.std.proofs.Common.{◌≡◌, ℕ, ℤ, ◌++◌, List, Option, Some, None, refl, sym, subst, arith, [], append-nil}
use Rattle.ppm_strands.specs.Tree.{Words, Code, Strand, Call as Calling, Fork as Forking, Over}
use Rattle.ppm_code.specs.declared.code.CodeParts.{CodeParts}
use Rattle.ppm_code.specs.declared.location.FrameWord.{FrameWord}
use Rattle.ppm_code.specs.Strands.{Result as Outcome, Gave, Trapped as TrappedAt, with_value}
use Rattle.ppm_tree.specs.declared.named.Named.{Named}
use Rattle.ppm_tree.specs.Tree.{Statement, Block, Nil, Then}
use Rattle.ppm_tree.specs.State.{Frame, Locals, Arrays, with_locals, delivered}
use Rattle.ppm_tree.specs.Meaning.{End, Ended, Trapped, returned, joined, arrays_of, with_parts as parts_frame}
use Rattle.ppm_regions.specs.Scope.{Scope, declared, lets_of, split_scope, scope_behind}
use Rattle.ppm_ownership.proofs.ScopeLemmas.{seen_before}
use Rattle.ppm_cut_code.specs.Layout.{Layout, target_of}
use Rattle.ppm_cut_code.specs.Fits.{FitsTarget, layout_behind}
use Rattle.ppm_cut_code.specs.Statements.{with_lets, with_parts}
use Rattle.ppm_cut_correct.proofs.ChainLemmas.{Cost, cost, both_costs, IsWithinCost, within_cost, Chain, chain_then, chain_weaken}
use Rattle.ppm_cut_correct.proofs.ChainLemmas.{chain_under, chain_left, chain_right, chain_return, chain_join}
use Rattle.ppm_cut_correct.proofs.Holding.{CodeFrame, Lies, Shows, Holds, at_work, waits, strands, CodeTree, Reaches, Returns}
use Rattle.ppm_cut_correct.proofs.HoldLemmas.{holds_before, holds_whole, holds_delivered}

module _ (lengths : List ℕ) (code : CodeParts) where
  abbrev here : Code CodeFrame Outcome
  here = strands lengths code

  -- a stretch and a procedure that have been run, as records
  pub record Reached (scope : Scope) (layout : Layout) (f : Frame) (k : Cost) (t : CodeTree lengths code) (a : Words) (next : ℕ)
      (z : End Locals) : Type 0 where
    pub made : Reaches lengths code scope layout f k t a next z

  pub record Returned (k : Cost) (t : CodeTree lengths code) (a : Words) (z : End ℤ) : Type 0 where
    pub made : Returns lengths code k t a z

  -- a stretch after a chain
  pub chain_reaches : {scope : Scope} {layout : Layout} {f : Frame} {j k total : Cost} {t u : CodeTree lengths code} {a b : Words} {next : ℕ}
      (z : End Locals)
      → Chain here j t a u b → Reached scope layout f k u b next z → IsWithinCost (both_costs j k) total → Reached scope layout f total t a next z
  chain_reaches (Ended l arrays) p q w = let m = q.made in record { made = (m.0, m.1, m.2, m.3, chain_weaken here w (chain_then here p m.4)) }
  chain_reaches (Trapped stop arrays) p q w = let m = q.made in record { made = (m.0, m.1, chain_weaken here w (chain_then here p m.2)) }

  -- a capsule that only goes on, after a stretch that ended; after a trap it isn't run
  pub reaches_on : {scope : Scope} {layout : Layout} {f : Frame} {k total : Cost} {t : CodeTree lengths code} {a : Words} (at next : ℕ)
      (z : End Locals)
      → ((own : FrameWord → ℕ) (b : Words) → Chain here (cost 1 1 0 0) (Strand (at_work own at)) b (Strand (at_work own next)) b)
      → Reached scope layout f k t a at z → IsWithinCost (both_costs k (cost 0 1 0 0)) total → Reached scope layout f total t a next z
  reaches_on at next (Ended l arrays) go q w = let m = q.made in record {
    made = (
      m.0,
      m.1,
      m.2,
      m.3,
      chain_weaken here (within_cost (omega (arith, w.least)) (omega (arith, w.most)) (omega (arith, w.forks)) (omega (arith, w.words)))
          (chain_then here m.4 (go m.0 m.1)),
    );
  }
  reaches_on at next (Trapped stop arrays) go q w = let m = q.made in record {
    made = (
      m.0,
      m.1,
      chain_weaken here (within_cost (omega (arith, w.least)) (omega (arith, w.most)) (omega (arith, w.forks)) (omega (arith, w.words))) m.2,
    );
  }

  pub chain_returns : {j k total : Cost} {t u : CodeTree lengths code} {a b : Words} (z : End ℤ) → Chain here j t a u b → Returned k u b z
      → IsWithinCost (both_costs j k) total → Returned total t a z
  chain_returns (Ended v arrays) p q w = let m = q.made in record { made = (m.0, m.1, m.2, m.3, chain_weaken here w (chain_then here p m.4)) }
  chain_returns (Trapped stop arrays) p q w = let m = q.made in record { made = (m.0, m.1, chain_weaken here w (chain_then here p m.2)) }

  -- a procedure that has been run is over
  pub record IsOver (k : Cost) (t : CodeTree lengths code) (a : Words) (arrays : Arrays) : Type 0 where
    pub outcome : Outcome
    pub behind : Words
    pub shows : Shows lengths behind arrays
    pub chain : Chain here k t a (Over outcome) behind

  pub returned_over : {k : Cost} {t : CodeTree lengths code} {a : Words} (z : End ℤ) → Returned k t a z → IsOver k t a (arrays_of z)
  returned_over (Ended v arrays) q = let m = q.made in record { outcome = Gave m.0; behind = m.1; shows = m.3; chain = m.4 }
  returned_over (Trapped stop arrays) q = let m = q.made in record { outcome = TrappedAt stop.0 stop.1; behind = m.0; shows = m.1; chain = m.2 }

  -- a frame with a value delivered has its regions still
  as_locals : {scope : Scope} {layout : Layout} {own : FrameWord → ℕ} (f : Frame) (x : Option Named) (v : ℤ)
      → Holds lengths scope layout (delivered x v f) own
      → Holds lengths scope layout (with_locals f (delivered x v f).locals) own
  as_locals f None v h = record { local = h.local; region = h.region; value = h.value }
  as_locals f (Some x) v h = record { local = h.local; region = h.region; value = h.value }

  both_locals : {scope : Scope} {layout : Layout} {own : FrameWord → ℕ} (f : Frame) (x y : Option Named) (v w : ℤ)
      → Holds lengths scope layout (delivered y w (delivered x v f)) own
      → Holds lengths scope layout (with_locals f (delivered y w (delivered x v f)).locals) own
  both_locals f None None v w h = record { local = h.local; region = h.region; value = h.value }
  both_locals f None (Some y) v w h = record { local = h.local; region = h.region; value = h.value }
  both_locals f (Some x) None v w h = record { local = h.local; region = h.region; value = h.value }
  both_locals f (Some x) (Some y) v w h = record { local = h.local; region = h.region; value = h.value }

  -- a caller goes on after its callee
  pub call_reaches : {scope : Scope} {layout : Layout} {f : Frame} (own : FrameWord → ℕ)
      (x : Option Named) {k : Cost} {t : CodeTree lengths code} {a : Words} (next : ℕ) (y : End ℤ)
      → FitsTarget scope layout x → Holds lengths scope layout f own → Returned k t a y
      → Reached scope layout f k (Calling (waits own next None (target_of layout x)) t) a next (returned x f y)
  call_reaches {scope = scope} {layout = layout} {f = f} own x next (Ended v arrays) fits holds q =
      let g = waits own next None (target_of layout x) in
      let m = q.made in record {
        made = (
          with_value (target_of layout x) m.0 own,
          m.1,
          as_locals f x v (holds_delivered lengths scope layout f own x m.0 v fits m.2 holds),
          m.3,
          chain_return here g (Gave m.0) (Strand (at_work (with_value (target_of layout x) m.0 own) next)) refl (chain_under here g m.4),
        );
      }
  call_reaches {layout = layout} own x next (Trapped stop arrays) fits holds q =
      let g = waits own next None (target_of layout x) in
      let m = q.made in record {
        made = (
          m.0,
          m.1,
          chain_return here g (TrappedAt stop.0 stop.1) (Over (TrappedAt stop.0 stop.1)) refl (chain_under here g m.2),
        );
      }

  -- a frame goes on after both its branches
  pub fork_reaches : {scope : Scope} {layout : Layout} {f : Frame} (own : FrameWord → ℕ) (x y : Option Named) {j k : Cost}
      (left right : CodeTree lengths code) {a : Words} (next : ℕ)
      (u v : End ℤ) → FitsTarget scope layout x → FitsTarget scope layout y → Holds lengths scope layout f own → Returned j left a u
      → ((b : Words) → Shows lengths b (arrays_of u) → Returned k right b v)
      → Reached scope layout f (both_costs j k) (Forking (waits own next (target_of layout x) (target_of layout y)) left right) a next
      (joined x y f u v)
  fork_reaches {scope = scope} {layout = layout} {f = f} own x y left right next (Ended m arrays) (Ended n arrays') fits_x fits_y holds p more =
      let g = waits own next (target_of layout x) (target_of layout y) in
      let q = p.made in
      let r = (more q.1 q.3).made in record {
        made = (
          with_value (target_of layout y) r.0 (with_value (target_of layout x) q.0 own),
          r.1,
          both_locals f x y m n (holds_delivered lengths scope layout (delivered x m f) (with_value (target_of layout x) q.0 own) y r.0 n fits_y r.2
              (holds_delivered lengths scope layout f own x q.0 m fits_x q.2 holds)),
          r.3,
          chain_join here g (Gave q.0) (Gave r.0) (Strand
              (at_work (with_value (target_of layout y) r.0 (with_value (target_of layout x) q.0 own)) next)) refl
              (chain_then here (chain_left here g right q.4) (chain_right here g (Gave q.0) r.4)),
        );
      }
  fork_reaches {layout = layout} own x y left right next (Ended m arrays) (Trapped stop arrays') fits_x fits_y holds p more =
      let g = waits own next (target_of layout x) (target_of layout y) in
      let q = p.made in
      let r = (more q.1 q.3).made in record {
        made = (
          r.0,
          r.1,
          chain_join here g (Gave q.0) (TrappedAt stop.0 stop.1) (Over (TrappedAt stop.0 stop.1)) refl
              (chain_then here (chain_left here g right q.4) (chain_right here g (Gave q.0) r.2)),
        );
      }
  fork_reaches {layout = layout} own x y left right next (Trapped stop arrays) (Ended n arrays') fits_x fits_y holds p more =
      let g = waits own next (target_of layout x) (target_of layout y) in
      let q = p.made in
      let r = (more q.0 q.1).made in record {
        made = (
          r.1,
          r.3,
          chain_join here g (TrappedAt stop.0 stop.1) (Gave r.0) (Over (TrappedAt stop.0 stop.1)) refl
              (chain_then here (chain_left here g right q.2) (chain_right here g (TrappedAt stop.0 stop.1) r.4)),
        );
      }
  fork_reaches {layout = layout} own x y left right next (Trapped stop arrays) (Trapped stop' arrays') fits_x fits_y holds p more =
      let g = waits own next (target_of layout x) (target_of layout y) in
      let q = p.made in
      let r = (more q.0 q.1).made in record {
        made = (
          r.0,
          r.1,
          chain_join here g (TrappedAt stop.0 stop.1) (TrappedAt stop'.0 stop'.1) (Over (TrappedAt stop.0 stop.1)) refl
              (chain_then here (chain_left here g right q.2) (chain_right here g (TrappedAt stop.0 stop.1) r.2)),
        );
      }

  -- what is held after a block is held before it
  holds_front_of : (b : Block) (scope : Scope) (layout : Layout) (f : Frame) (own : FrameWord → ℕ)
      → Holds lengths (scope_behind scope b) (layout_behind layout b) f own
      → Holds lengths scope layout f own
  holds_front_of Nil scope layout f own h = h
  holds_front_of (Then s b) scope layout f own h =
      holds_before lengths s scope layout f own (holds_front_of b (scope ++ lets_of s) (with_lets layout s) f own h)

  pub reaches_front : (b : Block) {scope : Scope} {layout : Layout} {f : Frame} {k : Cost} {t : CodeTree lengths code} {a : Words} {next : ℕ}
      (z : End Locals)
      → Reached (scope_behind scope b) (layout_behind layout b) f k t a next z → Reached scope layout f k t a next z
  reaches_front b {scope = scope} {layout = layout} {f = f} (Ended l arrays) q =
      let m = q.made in record { made = (m.0, m.1, holds_front_of b scope layout (with_locals f l) m.0 m.2, m.3, m.4) }
  reaches_front b (Trapped stop arrays) q = let m = q.made in record { made = (m.0, m.1, m.2) }

  -- over the same regions the locals in front make no difference
  pub reaches_locals : {scope : Scope} {layout : Layout} (f : Frame) (l : Locals) {k : Cost} {t : CodeTree lengths code} {a : Words} {next : ℕ}
      (z : End Locals)
      → Reached scope layout (with_locals f l) k t a next z → Reached scope layout f k t a next z
  reaches_locals f l (Ended l' arrays) q = let m = q.made in record { made = (m.0, m.1, m.2, m.3, m.4) }
  reaches_locals f l (Trapped stop arrays) q = let m = q.made in record { made = (m.0, m.1, m.2) }

  -- a statement that declares nothing
  pub reaches_same : {scope : Scope} {layout : Layout} {f : Frame} {k : Cost} {t : CodeTree lengths code} {a : Words} {next : ℕ} (z : End Locals)
      → Reached scope layout f k t a next z → Reached (scope ++ []) layout f k t a next z
  reaches_same {scope = scope} {layout = layout} {f = f} {k = k} {t = t} {a = a} {next = next} z q =
      subst (λ (s : Scope). Reached s layout f k t a next z) (sym (append-nil scope)) q

  -- after a split
  pub reaches_whole : {scope : Scope} {layout : Layout} {f : Frame} (r x y : Named)
      (n : ℕ) {k : Cost} {t : CodeTree lengths code} {a : Words} {next : ℕ} (z : End Locals)
      → declared scope x.name ≡ None → declared scope y.name ≡ None
      → Reached (split_scope scope r x y) (with_parts layout x y) (parts_frame f (f.regions r.name) n x y) k t a next z
      → Reached scope layout f k t a next z
  reaches_whole {scope = scope} {layout = layout} {f = f} r x y n (Ended l arrays) new_x new_y q = let m = q.made in record {
    made = (m.0, m.1, holds_whole lengths scope layout f r x y (f.regions r.name) n l m.0 new_x new_y m.2, m.3, m.4);
  }
  reaches_whole r x y n (Trapped stop arrays) new_x new_y q = let m = q.made in record { made = (m.0, m.1, m.2) }

  -- after a statement the regions in force are those before it, so they lie in their arrays
  lies_behind : (s : Statement) (scope : Scope) (f : Frame) → Lies lengths scope f → Lies lengths (scope ++ lets_of s) f
  lies_behind s scope f h = record {
    within = λ x d found region shown.
        let seen = seen_before scope s x (record { declaration = d; found = found; region = region; shown = shown }) in
        h.within x seen.declaration seen.found seen.region seen.shown;
  }

  pub lies_at_end : (b : Block) (scope : Scope) (f : Frame) → Lies lengths scope f → Lies lengths (scope_behind scope b) f
  lies_at_end Nil scope f h = h
  lies_at_end (Then s b) scope f h = lies_at_end b (scope ++ lets_of s) f (lies_behind s scope f h)

  pub lies_locals : {scope : Scope} (f : Frame) (l : Locals) → Lies lengths scope f → Lies lengths scope (with_locals f l)
  lies_locals f l h = record { within = h.within }
