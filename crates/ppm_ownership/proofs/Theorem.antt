-- The laws, put together.
use Rattle.std.proofs.Common.{ℕ, List}
use Rattle.ppm_tree.specs.declared.named.Named.{Named}
use Rattle.ppm_tree.specs.Tree.{Block, Then, Each, Procedure, ProgramTree}
use Rattle.ppm_tree.specs.State.{Frame, procedure_named}
use Rattle.ppm_tree.specs.Meaning.{Form, Runs, Enters, Sweeps}
use Rattle.ppm_regions.specs.Scope.{Scope}
use Rattle.ppm_regions.specs.Admission.{IsAdmitted}
use Rattle.ppm_regions.proofs.Rules.{rules}
use Rattle.ppm_regions.specs.Scope.{scope_of, each_scope}
use Rattle.ppm_ownership.specs.Coming.{callee, each_frame, stretch, part_frame, ComesTo, InEach}
use Rattle.ppm_ownership.specs.Correct.{ComeToSites, OwnApart, IsWithin, StayWithin, RunInEitherOrder}
use Rattle.ppm_regions.proofs.SiteLemmas.{callee_sites}
use Rattle.ppm_ownership.proofs.PartLemmas.{owns_no_more, lie_still, stretch_in, element_of_stretch}
use Rattle.ppm_ownership.proofs.ComingLemmas.{came_in, stands, home_sites, at_home, split_comes, each_comes, each_sites, part_comes, part_apart, parts_beside}
use Rattle.ppm_ownership.proofs.ComingLemmas.{elements_beside, call_comes, left_comes, right_comes, sides_separate}
use Rattle.ppm_ownership.proofs.ChangeLemmas.{changes, changes_enters, changes_sweeps}
use Rattle.ppm_ownership.proofs.LocalLemmas.{local, local_enters, local_sweeps}
use Rattle.ppm_ownership.proofs.StretchLemmas.{owned_in, written_in, starts_so}
use Rattle.ppm_ownership.proofs.SwapLemmas.{unordered}

pub sites_everywhere : ComeToSites
sites_everywhere t p g scope b f admitted c = record {
  block = (stands t (rules t admitted) admitted c).sites.all;
  procedure = (home_sites t (rules t admitted) admitted c).all;
}

pub apart_everywhere : OwnApart
apart_everywhere t admitted =
    let keeps = rules t admitted in
    record {
      start = starts_so t admitted;
      place = λ p g scope b f c.
          let h = stands t keeps admitted c in
          record { within = h.within; apart = h.apart; home = at_home t keeps admitted c };
      entry = λ p g scope b f c. came_in c;
      split = λ p g scope line r e x y s b f n c short.
          owns_no_more (split_comes t keeps admitted scope line r e x y s b (stands t keeps admitted c).sites f n short);
      each = λ p g scope i x r s b f c.
          let h = stands t keeps admitted c in
          record {
            element = λ k short. owns_no_more (each_comes t keeps admitted scope i x r s b h.sites f k short);
            elements = λ k l short short' differ. elements_beside t keeps admitted scope i x r s b h.sites f k l h.apart short short' differ;
            within = λ q short. lie_still (part_comes t keeps admitted scope i x r s b h.sites f q short) t.arrays h.within;
            apart = λ q short. part_apart t keeps admitted scope i x r s b h.sites f q short h.apart;
            part = λ q short. owns_no_more (part_comes t keeps admitted scope i x r s b h.sites f q short);
            parts = λ q w short short' differ. parts_beside t keeps admitted scope i x r s b h.sites f q w h.apart short short' differ;
          };
      call = λ p g scope s b f h a c is. owns_no_more (call_comes t keeps admitted scope s b f h a (stands t keeps admitted c).sites is);
      fork = λ p g scope s u b f left right a c is.
          let o = stands t keeps admitted c in
          record {
            of_left = owns_no_more (left_comes t keeps admitted scope s u b f left right a o.sites is);
            of_right = owns_no_more (right_comes t keeps admitted scope s u b f left right a o.sites is);
            separate = sides_separate t keeps admitted scope s u b f left right a o.sites is o.apart;
          };
    }

module _ (form : Form) (t : ProgramTree) (admitted : IsAdmitted t) where
  -- the runs of a block that a run comes to
  block_within : {p : Procedure} {g : Frame} {scope : Scope} {b : Block} {f : Frame} → ComesTo t p g scope b f → IsWithin scope f (Runs form t.procedures b f)
  block_within {scope = scope} c =
      let keeps = rules t admitted in
      let sites = (stands t keeps admitted c).sites in
      record {
        changes = λ a k z r. changes form t keeps admitted r scope sites;
        local = λ a b k z r same. local form t keeps admitted r scope sites b same;
      }

  -- those of an `each` over some indices
  sweep_within : {p : Procedure} {g : Frame} (scope : Scope) (i x r : Named) (s b : Block) (f : Frame) (n m : ℕ) → ComesTo t p g scope (Then (Each i x r s) b) f
      → IsWithin (each_scope scope r i x) (part_frame f x (stretch n m (f.regions r.name))) (Sweeps form t.procedures i x s (f.regions r.name) f n m)
  sweep_within scope i x r s b f n m c =
      let keeps = rules t admitted in
      let sites = each_sites t keeps admitted scope i x r s b (stands t keeps admitted c).sites in
      let inner = each_scope scope r i x in
      let q = stretch n m (f.regions r.name) in
      let part = element_of_stretch (f.regions r.name) n m in
      record {
        changes = λ a k z d. changes_sweeps form t keeps admitted d inner inner (part_frame f x q).regions sites
            (λ k past short. written_in scope f r i x q k (part k past short) inner);
        local = λ a b k z d same. local_sweeps form t keeps admitted d inner inner (part_frame f x q).regions sites
            (λ k past short. owned_in scope f r i x q k (part k past short) inner) b same;
      }

  -- and those of a procedure
  procedure_within : (x : List ℕ) (f : Frame)
      → IsWithin (scope_of (procedure_named t.procedures x)) f (Enters form t.procedures (procedure_named t.procedures x) f)
  procedure_within x f =
      let keeps = rules t admitted in
      let sites = callee_sites t x in
      record {
        changes = λ a k z r. changes_enters form t keeps admitted r sites;
        local = λ a b k z r same. local_enters form t keeps admitted r sites b same;
      }

pub within_everywhere : StayWithin
within_everywhere form t admitted = record {
  block = λ p g scope b f c. block_within form t admitted c;
  sweep = λ p g scope i x r s b f n m c. sweep_within form t admitted scope i x r s b f n m c;
  procedure = procedure_within form t admitted;
}

pub either_order : RunInEitherOrder
either_order form t admitted =
    let frames = apart_everywhere t admitted in
    record {
      fork = λ p g scope s u b f left right a c is.
          unordered (Enters form t.procedures (callee t s) left) (Enters form t.procedures (callee t u) right) (scope_of (callee t s))
          (scope_of (callee t u)) left right (procedure_within form t admitted s.callee.name left) (procedure_within form t admitted u.callee.name right)
          (frames.fork p g scope s u b f left right a c is).separate;
      blocks = λ p g scope i x r s b f k l c short short' differ.
          unordered (Runs form t.procedures s (each_frame f r k i x)) (Runs form t.procedures s (each_frame f r l i x)) (each_scope scope r i x)
          (each_scope scope r i x) (each_frame f r k i x) (each_frame f r l i x) (block_within form t admitted (InEach p g scope i x r s b f k short c))
          (block_within form t admitted (InEach p g scope i x r s b f l short' c)) ((frames.each p g scope i x r s b f c).elements k l short short' differ);
      sweeps = λ p g scope i x r s b f n m k l c short short' differ.
          let whole = f.regions r.name in
          unordered (Sweeps form t.procedures i x s whole f n m) (Sweeps form t.procedures i x s whole f k l) (each_scope scope r i x)
          (each_scope scope r i x) (part_frame f x (stretch n m whole)) (part_frame f x (stretch k l whole))
          (sweep_within form t admitted scope i x r s b f n m c) (sweep_within form t admitted scope i x r s b f k l c)
          ((frames.each p g scope i x r s b f c).parts (stretch n m whole) (stretch k l whole) (stretch_in whole n m short)
          (stretch_in whole k l short') differ);
    }
