-- Steps of a run, for what the calls of each step answer.
use Rattle.std.proofs.Common.{◌≡◌, ◌<◌, ℕ, suc, ℤ, Bool, true, false, nat_lt, [], Result, Ok, refl, sym, ap, subst, arith, ◌∙◌}
use Rattle.std.specs.Prelude.{if◌then◌else◌}
use Rattle.std.proofs.lemmas.Bool.{ltb-false}
use Rattle.ppm_tree.specs.declared.named.Named.{Named}
use Rattle.ppm_tree.specs.Tree.{Expression, Block, Let}
use Rattle.ppm_tree.specs.State.{TrapAt, then_with, Frame, evaluate, with_local}
use Rattle.ppm_tree.specs.Meaning.{with_element}
use Rattle.ppm_by_name.specs.declared.stop.Stop.{Stop}
use Rattle.ppm_by_name.specs.Frames.{Bound, frame_of, with_bound}
use Rattle.ppm_standing.specs.Rests.{Sweep}
use Rattle.ppm_standing.specs.Rests as rest
use Rattle.ppm_standing.specs.Nexts.{Run}
use Rattle.ppm_standing.specs.Nexts as next
use Rattle.ppm_standing.specs.Standing.{Does, to, with_frame, inside, sweeping, swept_once, doing}
use Rattle.ppm_by_name.proofs.FrameLemmas.{bound_is}

-- a local gets its value
pub set_done : (x : Named) (e : Expression) (b : Block) (w u : Run) (v : ℤ) (f g : Bound) → w.frame ≡ frame_of f → evaluate w.frame w.store e ≡ Ok v
    → g ≡ with_bound f x.name v → u ≡ to (next.Block b) (with_frame (frame_of g) w) → doing [] (Let x e) b w ≡ Ok u
set_done x e b w u v f g same said is go =
    ap (λ (r : Result ℤ TrapAt). then_with r (λ v. ok_run (to (next.Block b) (with_frame (with_local w.frame x.name v) w)))) said
    ∙ ap (λ (h : Frame). ok_run (to (next.Block b) (with_frame h w))) (ap (λ (h : Frame). with_local h x.name v) same ∙ sym (bound_is f x.name v) ∙ sym (ap frame_of is))
    ∙ ap ok_run (sym go)
  where
    ok_run : Run → Result Run TrapAt
    ok_run w = Ok w

-- the next block of an `each`
sweeps_once : (q : Sweep) (w : Run) → q.next < q.region.length
    → inside q.block (rest.Sweeps (swept_once q)) (with_frame (with_element q.frame q.region q.next q.index q.part) w) ≡ sweeping q w
sweeps_once q w l = by (nat_lt q.next q.region.length) refl
  where
    by : (b : Bool) → nat_lt q.next q.region.length ≡ b
        → inside q.block (rest.Sweeps (swept_once q)) (with_frame (with_element q.frame q.region q.next q.index q.part) w) ≡ sweeping q w
    by true e = sym (ap (λ (b : Bool). if b
        then inside q.block (rest.Sweeps (swept_once q)) (with_frame (with_element q.frame q.region q.next q.index q.part) w)
        else to (next.Block q.rest) (with_frame q.frame w)) e)
    by false e = absurd (let m = ltb-false q.next q.region.length e in omega (arith, l, m))

-- the blocks of an `each` from an index on
abbrev from_index : Sweep → ℕ → Sweep
from_index q n = record { index = q.index; part = q.part; block = q.block; region = q.region; next = n; frame = q.frame; rest = q.rest }

pub sweep_done : {B : Type 0} (r : Result B Stop) (u : Run) (q : Sweep) (w : Run) (f : Frame) (n : ℕ) → q.next < q.region.length
    → f ≡ with_element q.frame q.region q.next q.index q.part → n ≡ suc q.next
    → Does r u (Ok (inside q.block (rest.Sweeps (from_index q n)) (with_frame f w))) → Does r u (Ok (sweeping q w))
sweep_done r u q w f n l is later d =
    subst (λ (v : Run). Does r u (Ok v)) (sweeps_once q w l)
    (subst (λ (f : Frame). Does r u (Ok (inside q.block (rest.Sweeps (swept_once q)) (with_frame f w)))) is
    (subst (λ (n : ℕ). Does r u (Ok (inside q.block (rest.Sweeps (from_index q n)) (with_frame f w)))) later d))

-- the block of a split
pub split_done : {B : Type 0} (r : Result B Stop) (u w : Run) (said : Result ℕ TrapAt) (n : ℕ) (s b : Block) (f g : Frame) (make : ℕ → Frame) → said ≡ Ok n
    → f ≡ w.frame → g ≡ make n → Does r u (Ok (inside s (rest.Parts f b) (with_frame g w)))
    → Does r u (then_with said (λ n. Ok (inside s (rest.Parts w.frame b) (with_frame (make n) w))))
split_done r u w said n s b f g make is same made d =
    subst (λ (o : Result ℕ TrapAt). Does r u (then_with o (λ n. Ok (inside s (rest.Parts w.frame b) (with_frame (make n) w))))) (sym is)
    (subst (λ (f : Frame). Does r u (Ok (inside s (rest.Parts f b) (with_frame (make n) w)))) same
    (subst (λ (g : Frame). Does r u (Ok (inside s (rest.Parts f b) (with_frame g w)))) made d))
