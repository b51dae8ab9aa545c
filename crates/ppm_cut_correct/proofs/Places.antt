-- Where a block of a program stands with a frame, a scope and a layout, and how one goes from there.
use Rattle.std.proofs.Common.{◌≤◌, ◌<◌, ℕ, ◌+◌, [], ◌∷◌, ◌++◌, length, arith, length-append}
use Rattle.std.specs.List.{AllByRecursion}
use Rattle.ppm_tree.specs.declared.named.Named.{Named}
use Rattle.ppm_tree.specs.Tree.{Expression, Statement, Block, Then, If, While, Split, Each, Procedure, ProgramTree}
use Rattle.ppm_tree.specs.Limits.{IsSmallStatement}
use Rattle.ppm_tree.specs.Parts.{statement_and_inner, statements_in}
use Rattle.ppm_tree.specs.State.{Frame, Locals, with_locals}
use Rattle.ppm_regions.specs.Scope.{Scope, split_scope, each_scope, lets_of}
use Rattle.ppm_regions.specs.Admission.{IsAdmitted}
use Rattle.ppm_cut_bounds.specs.declared.bound.Bound.TheVariants as bound
use Rattle.ppm_cut_bounds.specs.Bounds.{count_of}
use Rattle.ppm_cut_bounds.specs.Slots.{most_in_force}
use Rattle.ppm_cut_bounds.proofs.Keeping.{all-first, all-second}
use Rattle.ppm_ownership.specs.Coming.{ComesTo, Behind, InHolds, InElse, InWhile, InSplit, InEach, split_frame, each_frame}
use Rattle.ppm_ownership.proofs.Theorem.{apart_everywhere}
use Rattle.ppm_cut_code.specs.Layout.{Layout, caught}
use Rattle.ppm_cut_code.specs.Fits.{FitsBlock}
use Rattle.ppm_cut_code.specs.Slots.{hidden_named_slots}
use Rattle.ppm_cut_code.specs.Statements.{with_lets, with_parts, hidden_layout}
use Rattle.ppm_cut_code.proofs.LayoutLemmas.{lets_room}
use Rattle.ppm_cut_code.proofs.CaughtLemmas.{IsEachOnce, once_lets, once_parts, once_hidden, caught_is_counted}
use Rattle.ppm_cut_code.proofs.RegionWords.{lengths_of}
use Rattle.ppm_cut_correct.proofs.Holding.{Lies}

-- the statements of a block are small, and so are the hidden procedures in it
pub record IsModest (b : Block) : Type 0 where
  pub small : AllByRecursion IsSmallStatement (statements_in b)
  pub slots : AllByRecursion (λ s. count_of bound.Slots s ≤ 24) (statements_in b)

modest_behind : (s : Statement) (b : Block) → IsModest (Then s b) → IsModest b
modest_behind s b m = record {
  small = all-second IsSmallStatement (statement_and_inner s) (statements_in b) m.small;
  slots = all-second (λ s. count_of bound.Slots s ≤ 24) (statement_and_inner s) (statements_in b) m.slots;
}

pub modest_inner : (s : Statement) (b : Block) → IsModest (Then s b) → AllByRecursion IsSmallStatement (statement_and_inner s)
    × AllByRecursion (λ s. count_of bound.Slots s ≤ 24) (statement_and_inner s)
modest_inner s b m = (
  all-first IsSmallStatement (statement_and_inner s) (statements_in b) m.small,
  all-first (λ s. count_of bound.Slots s ≤ 24) (statement_and_inner s) (statements_in b) m.slots,
)

module _ (t : ProgramTree) where
  -- a run may come to the block in the frame; the names in force have slots below the spare ones
  pub record Place (scope : Scope) (layout : Layout) (spare : ℕ) (b : Block) (f : Frame) : Type 0 where
    pub p : Procedure
    pub g : Frame
    pub comes : ComesTo t p g scope b f
    pub fits : FitsBlock t.procedures scope layout b
    pub once : IsEachOnce layout
    pub room : length layout + most_in_force b ≤ spare
    pub few : spare ≤ 24
    pub modest : IsModest b

  -- after a statement: whatever the locals are there
  pub behind_place : (scope : Scope) (layout : Layout) (spare : ℕ) (s : Statement) (b : Block) (f : Frame) (l : Locals)
      → Place scope layout spare (Then s b) f
      → Place (scope ++ lets_of s) (with_lets layout s) spare b (with_locals f l)
  behind_place scope layout spare s b f l w = record {
    p = w.p;
    g = w.g;
    comes = Behind w.p w.g scope s b f l w.comes;
    fits = w.fits.1;
    once = once_lets t.procedures scope layout s w.fits.0 w.once;
    room = lets_room s b layout spare w.room;
    few = w.few;
    modest = modest_behind s b w.modest;
  }

  -- in the blocks of an `if` and of a loop
  pub holds_place : (scope : Scope) (layout : Layout) (spare : ℕ) (e : Expression) (s u b : Block) (f : Frame)
      → Place scope layout spare (Then (If e s u) b) f
      → Place scope layout spare s f
  holds_place scope layout spare e s u b f w = let m = modest_inner (If e s u) b w.modest in record {
    p = w.p;
    g = w.g;
    comes = InHolds w.p w.g scope e s u b f w.comes;
    fits = w.fits.0.1;
    once = w.once;
    room = omega (arith, w.room);
    few = w.few;
    modest = record {
      small = all-first IsSmallStatement (statements_in s) (statements_in u) m.0.1;
      slots = all-first (λ s. count_of bound.Slots s ≤ 24) (statements_in s) (statements_in u) m.1.1;
    };
  }

  pub else_place : (scope : Scope) (layout : Layout) (spare : ℕ) (e : Expression) (s u b : Block) (f : Frame)
      → Place scope layout spare (Then (If e s u) b) f
      → Place scope layout spare u f
  else_place scope layout spare e s u b f w = let m = modest_inner (If e s u) b w.modest in record {
    p = w.p;
    g = w.g;
    comes = InElse w.p w.g scope e s u b f w.comes;
    fits = w.fits.0.2;
    once = w.once;
    room = omega (arith, w.room);
    few = w.few;
    modest = record {
      small = all-second IsSmallStatement (statements_in s) (statements_in u) m.0.1;
      slots = all-second (λ s. count_of bound.Slots s ≤ 24) (statements_in s) (statements_in u) m.1.1;
    };
  }

  pub while_place : (scope : Scope) (layout : Layout) (spare : ℕ) (e : Expression) (s b : Block) (f : Frame) (l : Locals)
      → Place scope layout spare (Then (While e s) b) f
      → Place scope layout spare s (with_locals f l)
  while_place scope layout spare e s b f l w = let m = modest_inner (While e s) b w.modest in record {
    p = w.p;
    g = w.g;
    comes = InWhile w.p w.g scope e s b f l w.comes;
    fits = w.fits.0.1;
    once = w.once;
    room = omega (arith, w.room);
    few = w.few;
    modest = record { small = m.0.1; slots = m.1.1 };
  }

  -- in the block of a split
  pub split_place : (scope : Scope) (layout : Layout) (spare line : ℕ) (r : Named) (e : Expression) (x y : Named) (s b : Block) (f : Frame) (n : ℕ)
      → n ≤ (f.regions r.name).length → Place scope layout spare (Then (Split line r e x y s) b) f
      → Place (split_scope scope r x y) (with_parts layout x y) spare s (split_frame f r n x y)
  split_place scope layout spare line r e x y s b f n low w =
      let m = modest_inner (Split line r e x y s) b w.modest in
      let longer = length-append layout (x.name ∷ y.name ∷ []) in record {
        p = w.p;
        g = w.g;
        comes = InSplit w.p w.g scope line r e x y s b f n low w.comes;
        fits = w.fits.0.7;
        once = once_parts layout x y w.once w.fits.0.2 w.fits.0.3 w.fits.0.4;
        room = omega (arith, w.room, longer);
        few = w.few;
        modest = record { small = m.0.1; slots = m.1.1 };
      }

  -- in the block of an `each`, in its hidden procedure
  pub each_place : (scope : Scope) (layout : Layout) (spare : ℕ) (i x r : Named) (s b : Block) (f : Frame) (k : ℕ)
      → k < (f.regions r.name).length → Place scope layout spare (Then (Each i x r s) b) f
      → Place (each_scope scope r i x) (hidden_layout layout i x s) (hidden_named_slots (length (caught layout s)) s) s (each_frame f r k i x)
  each_place scope layout spare i x r s b f k low w =
      let m = modest_inner (Each i x r s) b w.modest in
      let count = caught_is_counted layout i x s w.once w.fits.0.1 w.fits.0.2 in record {
        p = w.p;
        g = w.g;
        comes = InEach w.p w.g scope i x r s b f k low w.comes;
        fits = w.fits.0.6;
        once = once_hidden layout i x s w.once w.fits.0.1 w.fits.0.2 w.fits.0.3;
        room = omega (arith);
        few = omega (arith, count, m.1.0);
        modest = record { small = m.0.1; slots = m.1.1 };
      }

  -- the regions in force lie in their arrays
  pub lies : (scope : Scope) (layout : Layout) (spare : ℕ) (b : Block) (f : Frame) → IsAdmitted t → Place scope layout spare b f
      → Lies (lengths_of t.arrays) scope f
  lies scope layout spare b f admitted w = record {
    within = λ x d found region shown. ((apart_everywhere t admitted).place w.p w.g scope b f w.comes).within.within x
        (record { declaration = d; found = found; region = region; shown = shown });
  }

  -- a hidden procedure has few names of outside
  pub each_few : (scope : Scope) (layout : Layout) (spare : ℕ) (i x r : Named) (s b : Block) (f : Frame)
      → Place scope layout spare (Then (Each i x r s) b) f
      → length (caught layout s) ≤ 24
  each_few scope layout spare i x r s b f w =
      let m = modest_inner (Each i x r s) b w.modest in
      let count = caught_is_counted layout i x s w.once w.fits.0.1 w.fits.0.2 in
      omega (arith, count, m.1.0)
