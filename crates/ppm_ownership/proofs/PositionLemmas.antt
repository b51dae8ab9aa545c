-- Where a run of the meaning is stopped is a place that a run may come to: by recursion on the run.
use Rattle.std.proofs.Common.{◌≡◌, ℕ, suc, ◌+◌, Bool, true, false, refl, sym, ap, subst, arith}
use Rattle.ppm_tree.specs.declared.named.Named.{Named}
use Rattle.ppm_tree.specs.Tree.{Expression, Statement, Block, Then, If, While, Each, Procedure, ProgramTree}
use Rattle.ppm_tree.specs.Values.{holds}
use Rattle.ppm_tree.specs.State.{Region, Locals, Frame, with_locals, Arrays, evaluate}
use Rattle.ppm_tree.specs.Meaning.{Form, End, chosen, with_element}
use Rattle.ppm_tree.specs.Begun.{Begins, BeginsBehind, BeginsLoop, BeginsBody, BeginsSweep}
use Rattle.ppm_tree.specs.Begun.{Here, BehindLet, BehindAssign, BehindPut, InIf, BehindIf, InWhile, BehindWhile, InCall, BehindCall, InLeft, InRight}
use Rattle.ppm_tree.specs.Begun.{BehindFork, InSplit, BehindSplit, InEach, BehindEach}
use Rattle.ppm_tree.specs.Begun.{Behind, AtLoop, InTurn, BehindTurn, AtEntry as Entry, InBody, AtEach, InBlock, BehindBlock}
use Rattle.ppm_regions.specs.Scope.{Scope, scope_of, each_scope}
use Rattle.ppm_ownership.specs.Coming.{ComesTo, Main, InHolds, InElse}
use Rattle.ppm_ownership.specs.Coming as coming
use Rattle.ppm_ownership.specs.Positions.{position, position_behind, position_in_loop, position_in_body, position_in_sweep}
use Rattle.ppm_ownership.specs.Positions.{IsComeTo, ToBlock, ToTest, ToEntry, ToElement, PositionsAreComeTo}
use Rattle.ppm_ownership.proofs.ChangeLemmas.{at_below}

module _ (form : Form) (t : ProgramTree) where
  -- a run comes to the block that a test chooses
  comes_chosen : (h : Bool) {p : Procedure} {g : Frame} {scope : Scope} {e : Expression} {s u b : Block} {f : Frame}
      → ComesTo t p g scope (Then (If e s u) b) f → ComesTo t p g scope (chosen h s u) f
  comes_chosen true {p = p} {g = g} {scope = scope} {e = e} {s = s} {u = u} {b = b} {f = f} c = InHolds p g scope e s u b f c
  comes_chosen false {p = p} {g = g} {scope = scope} {e = e} {s = s} {u = u} {b = b} {f = f} c = InElse p g scope e s u b f c

  -- and to the block of an `each` for an element
  element : {p : Procedure} {g : Frame} {scope : Scope} {i x r : Named} {s b : Block} {v : Region} {f : Frame} (k m : ℕ)
      → v ≡ f.regions r.name → k + suc m ≡ v.length → ComesTo t p g scope (Then (Each i x r s) b) f
      → ComesTo t p g (each_scope scope r i x) s (with_element f v k i x)
  element {p = p} {g = g} {scope = scope} {i = i} {x = x} {r = r} {s = s} {b = b} {v = v} {f = f} k m whole all c =
      let same = ap (λ (w : Region). w.length) whole in
      subst (λ (w : Region). ComesTo t p g (each_scope scope r i x) s (with_element f w k i x)) (sym whole)
      (coming.InEach p g scope i x r s b f k (omega (arith, same, all)) c)

  mutual
    in_block : {p : Procedure} {g : Frame} {scope : Scope} {n : ℕ} {b : Block} {f : Frame} {a : Arrays} → ComesTo t p g scope b f
        → (q : Begins form t.procedures n b f a) → IsComeTo t (position q)
    in_block {p = p} {g = g} {scope = scope} c (Here b f a) = ToBlock p g scope b f c
    in_block c (BehindLet x e b f a rest) = behind c rest
    in_block c (BehindAssign x e b f a rest) = behind c rest
    in_block c (BehindPut x i e b f a rest) = behind c rest
    in_block c (InIf e s u b f a v is inside) = in_block (comes_chosen (holds v) c) inside
    in_block c (BehindIf e s u b f a v is run rest) = behind c rest
    in_block c (InWhile e s b f a inside) = in_loop f.locals c inside
    in_block c (BehindWhile e s b f a run rest) = behind c rest
    in_block {p = p} {g = g} {scope = scope} c (InCall s b f h a is inside) = in_body (coming.InCall p g scope s b f h a is c) inside
    in_block c (BehindCall s b f h a is run rest) = behind c rest
    in_block {p = p} {g = g} {scope = scope} c (InLeft s u b f l r a is inside) = in_body (coming.InLeft p g scope s u b f l r a is c) inside
    in_block {p = p} {g = g} {scope = scope} c (InRight s u b f l r a is left on inside) =
        in_body (coming.InRight p g scope s u b f l r a is c) inside
    in_block c (BehindFork s u b f l r a is left on right rest) = behind c rest
    in_block {p = p} {g = g} {scope = scope} c (InSplit line r e x y s b f a m is inside) =
        in_block (coming.InSplit p g scope line r e x y s b f m (at_below line (f.regions r.name) (evaluate f a e) m is) c) inside
    in_block c (BehindSplit line r e x y s b f a m is run rest) = behind c rest
    in_block c (InEach i x r s b f a inside) = in_sweep r c inside refl (omega arith)
    in_block c (BehindEach i x r s b f a run rest) = behind c rest

    behind : {p : Procedure} {g : Frame} {scope : Scope} {n : ℕ} {s : Statement} {b : Block} {f : Frame} {u : End Locals}
        → ComesTo t p g scope (Then s b) f → (q : BeginsBehind form t.procedures n b f u) → IsComeTo t (position_behind q)
    behind {p = p} {g = g} {scope = scope} {s = s} c (Behind b f l a rest) = in_block (coming.Behind p g scope s b f l c) rest

    in_loop : {p : Procedure} {g : Frame} {scope : Scope} {n : ℕ} {e : Expression} {s b : Block} {f : Frame} {a : Arrays} (l : Locals)
        → ComesTo t p g scope (Then (While e s) b) f → (q : BeginsLoop form t.procedures n e s (with_locals f l) a) → IsComeTo t (position_in_loop q)
    in_loop {p = p} {g = g} {scope = scope} {b = b} {f = f} l c (AtLoop e s h a) = ToTest p g scope e s b f l c
    in_loop {p = p} {g = g} {scope = scope} {b = b} {f = f} l c (InTurn e s h a v is hold inside) =
        in_block (coming.InWhile p g scope e s b f l c) inside
    in_loop l c (BehindTurn e s h a d v m is hold run rest) = in_loop m c rest

    in_body : {n : ℕ} {p : Procedure} {f : Frame} {a : Arrays} → ComesTo t p f (scope_of p) p.body f
        → (q : BeginsBody form t.procedures n p f a) → IsComeTo t (position_in_body q)
    in_body c (Entry p f a) = ToEntry p f c
    in_body c (InBody p f a inside) = in_block c inside

    in_sweep : {p : Procedure} {g : Frame} {scope : Scope} {n : ℕ} {i x : Named} (r : Named) {s b : Block} {v : Region} {f : Frame} {k m : ℕ} {a : Arrays}
        → ComesTo t p g scope (Then (Each i x r s) b) f → (q : BeginsSweep form t.procedures n i x s v f k m a)
        → v ≡ f.regions r.name → k + m ≡ v.length → IsComeTo t (position_in_sweep q)
    in_sweep {p = p} {g = g} {scope = scope} r {b = b} c (AtEach i x s v f k m a) whole all =
        ToElement p g scope i x r s b v f k whole (omega (arith, all)) c
    in_sweep {p = p} {g = g} {scope = scope} r {b = b} c (InBlock i x s v f k m a inside) whole all =
        in_block (element k m whole all c) inside
    in_sweep r c (BehindBlock i x s v f k m a run on rest) whole all = in_sweep r c rest whole (omega (arith, all))

pub positions_everywhere : PositionsAreComeTo
positions_everywhere form t a n stopped = in_body form t Main stopped
