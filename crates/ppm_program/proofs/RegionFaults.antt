-- A tree is admitted, or has one fault of names and regions that is told.
use Rattle.std.proofs.Common.{◌≡◌, ◌≢◌, refl, ap, subst}
use Rattle.ppm_tree.specs.Tree.{ProgramTree}
use Rattle.ppm_regions.specs.declared.region_error.RegionError.{RegionError}
use Rattle.ppm_regions.specs.declared.region_error.RegionError.TheVariants as region_error
use Rattle.ppm_regions.specs.Scope.{Scope}
use Rattle.ppm_regions.specs.Uses.{Use}
use Rattle.ppm_regions.specs.Faults.{IsWrong, IsFault}
use Rattle.ppm_regions.specs.Admission.{IsFirst, IsAdmitted, IsRefused}
use Rattle.ppm_regions.specs.Correct.{HaveOneFault}
use Rattle.ppm_program.specs.Refusals.{region_refusal}

-- a refusal of a tree is its first fault
first_fault : (t : ProgramTree) (e : RegionError) → IsRefused t e → e ≢ region_error.NoMemory → IsFirst (IsFault t) e
first_fault t region_error.NoMemory h given = absurd (given refl)
first_fault t e h given = h

-- and the first fault is a refusal
is_refused : (t : ProgramTree) (e : RegionError) → IsFirst (IsFault t) e → IsRefused t e
is_refused t region_error.NoMemory h = tt
is_refused t e h = h

-- want of memory is no fault
not_wrong : (t : ProgramTree) (scope : Scope) (u : Use) → IsWrong t scope u region_error.NoMemory → ⊥
not_wrong t scope u h = elim h [ ]

-- the refusals for the faults that are told of a tree are one
pub one_region : HaveOneFault → (t : ProgramTree) (d e : RegionError) → IsRefused t d → IsRefused t e → d ≢ region_error.NoMemory →
    e ≢ region_error.NoMemory → region_refusal d ≡ region_refusal e
one_region law t d e h k g i = ap region_refusal ((law t).fault d e (first_fault t d h g) (first_fault t e k i))

-- a tree that is refused is not admitted
pub not_admitted : (t : ProgramTree) (e : RegionError) → IsRefused t e → e ≢ region_error.NoMemory → IsAdmitted t → ⊥
not_admitted t e h given a = a.faultless e (first_fault t e h given).here

-- a tree of which nothing is told is admitted
pub admitted_or_fault : HaveOneFault → (t : ProgramTree) → ((e : RegionError) → IsRefused t e → e ≢ region_error.NoMemory → ⊥) → IsAdmitted t
admitted_or_fault law t free = (law t).none (λ e h. free e (is_refused t e h) (λ same.
    not_wrong t h.here.site.scope h.here.site.made (subst (λ x. IsWrong t h.here.site.scope h.here.site.made x) same h.here.wrong)))
