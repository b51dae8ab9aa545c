-- All that the simulation stands on, once each construct's capsules do what it means.
use Rattle.ppm_tree.specs.Tree.{ProgramTree}
use Rattle.ppm_tree.specs.Limits.{IsWithin}
use Rattle.ppm_regions.specs.Admission.{IsAdmitted}
use Rattle.ppm_cut_bounds.specs.Bounds.{IsWithinBounds}
use Rattle.ppm_cut_code.specs.Routines.{code_of}
use Rattle.ppm_cut_code.proofs.FitsLemmas.{names_have_slots}
use Rattle.ppm_cut_code.proofs.PlaceLemmas.{procedures_have}
use Rattle.ppm_cut_code.proofs.RegionWords.{lengths_of}
use Rattle.ppm_cut_correct.proofs.CountLemmas.{counted}
use Rattle.ppm_cut_correct.proofs.Given.{AllDo, Given}
use Rattle.ppm_cut_correct.proofs.LimitLemmas.{modest_procedures, small_arrays}

pub all_given : (t : ProgramTree) → IsWithin t → IsAdmitted t → IsWithinBounds t → AllDo (lengths_of t.arrays) (code_of t) t.procedures
    → Given t (code_of t)
all_given t within admitted bounds does = record {
  does = does;
  stands = procedures_have t;
  fits = names_have_slots t admitted;
  modest = modest_procedures t within bounds;
  admitted = admitted;
  small = small_arrays t within;
  counted = counted t.procedures;
}
