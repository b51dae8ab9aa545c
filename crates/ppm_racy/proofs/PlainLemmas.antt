-- A code without exchanges has the strands of `ppm_filled`.
use Rattle.std.proofs.Common.{◌≡◌, ℕ, zero, suc, ◌+◌, ◌-◌, max, List, [], ◌∷◌, refl, ap, ◌∙◌, replicate, slice_set, Option, Some, None}
use Rattle.std.specs.Prelude.{slice_get, map}
use Rattle.std.specs.Option.{option_map}
use Rattle.std.proofs.lemmas.Option.{slice_get-map}
use Rattle.ppm_strands.specs.Capsule.{Capsule}
use Rattle.ppm_unseen.specs.Capsule.{Loads as LoadsOwn, Keeps, Reads as Finds, Changes, constant}
use Rattle.ppm_code.specs.declared.location.Location.TheVariants.{Frame, New, Array}
use Rattle.ppm_code.specs.declared.act.Act.{Act}
use Rattle.ppm_code.specs.declared.act.Act.TheVariants.{Sets, Passes, Jumps, Steps, Ends as Stops}
use Rattle.ppm_code.specs.declared.act.End.{End}
use Rattle.ppm_code.specs.declared.act.Step.{Step}
use Rattle.ppm_code.specs.declared.act.Step.TheVariants.{Loads, Stores, Asks}
use Rattle.ppm_code.specs.declared.code.Capsule.{Capsule as CodeCapsule}
use Rattle.ppm_code.specs.declared.code.CodeParts.{CodeParts}
use Rattle.ppm_code.specs.declared.instr.Instr.{Instr}
use Rattle.ppm_code.specs.Acts.{does as plainly}
use Rattle.ppm_code.specs.Capsules.{at_step as plain_step, at_act as plain_act, capsule_from as plain_from}
use Rattle.ppm_code.specs.Locations.{Where}
use Rattle.ppm_code.specs.Strands.{instrs_of as plain_instrs, instrs_in as plain_instrs_in}
use Rattle.ppm_filled.specs.Racing.{OwnWord, own_words, OfFrame, OfBlock, Place, At, HasTrapped, racing, racing_code, racing_of, built_by}
use Rattle.ppm_filled.specs.Racing.{beginning, builds_at, exit_opens, rejoining}
use Rattle.ppm_racy.specs.declared.instr.RacyInstr.{RacyInstr}
use Rattle.ppm_racy.specs.declared.instr.RacyInstr.TheVariants.{Plain}
use Rattle.ppm_racy.specs.declared.instr.RacyAct.TheVariants.{Plain as Acts}
use Rattle.ppm_racy.specs.Acts.{plain_of}
use Rattle.ppm_racy.specs.Code.{as_racy, racy_capsule, plain_capsule, plain_code, instrs_of, instrs_in}
use Rattle.ppm_racy.specs.Capsules.{Going, at_step, at_act, capsule_from, capsule_of, built}
use Rattle.ppm_racy.specs.Racing.{capsule_at}
use Rattle.ppm_racy.specs.Correct.{PlainCodesRaceAsBefore}

-- instructions, capsules and codes are those with puts in place of exchanges
same_instrs : (is : List Instr) → map plain_of (map Plain is) ≡ is
same_instrs [] = refl
same_instrs (i ∷ is) = ap (λ (js : List Instr). i ∷ js) (same_instrs is)

same_capsules : (cs : List CodeCapsule) → map plain_capsule (map racy_capsule cs) ≡ cs
same_capsules [] = refl
same_capsules (c ∷ cs) = λ i. record { procedure = c.procedure; instrs = same_instrs c.instrs i } ∷ same_capsules cs i

same_code : (code : CodeParts) → plain_code (as_racy code) ≡ code
same_code code = λ i.
    record { root = code.root; arrays = code.arrays; procedures = code.procedures; capsules = same_capsules code.capsules i }

module _ (block : List OwnWord) where
  -- a step, and an act, where both go on alike
  same_step : (go : Going) (going : ℕ → List ℕ → Capsule Where End) → ((t : ℕ) (h : List ℕ) → go t h ≡ racing block (going t h))
      → (next : ℕ) (s : Step) (g : List ℕ) → at_step go next s g ≡ racing block (plain_step going next s g)
  same_step go going same next (Loads (Frame k) d) g = λ i. LoadsOwn (OfFrame k) (λ v. same next (slice_set g d.index v) i)
  same_step go going same next (Loads (New o) d) g = λ i. LoadsOwn (OfBlock o) (λ v. same next (slice_set g d.index v) i)
  same_step go going same next (Loads (Array x) d) g = λ i. Finds x (λ v. same next (slice_set g d.index v) i)
  same_step go going same next (Stores (Frame k) v) g = λ i. Keeps (OfFrame k) v (same next g i)
  same_step go going same next (Stores (New o) v) g = λ i. Keeps (OfBlock o) v (same next g i)
  same_step go going same next (Stores (Array x) v) g = λ i. Changes x (constant v) (same next g i)
  same_step go going same next (Asks n) g = same next g

  same_act : (go : Going) (going : ℕ → List ℕ → Capsule Where End) → ((t : ℕ) (h : List ℕ) → go t h ≡ racing block (going t h))
      → (next : ℕ) (a : Act) (g : List ℕ) → at_act block go next (Acts a) g ≡ racing block (plain_act going next a g)
  same_act go going same next (Sets d v) g = same next (slice_set g d.index v)
  same_act go going same next Passes g = same next g
  same_act go going same next (Jumps t) g = same (max t next) g
  same_act go going same next (Steps s) g = same_step go going same next s g
  same_act go going same next (Stops e) g = refl

  same_capsule : (words here skip : ℕ) (is : List Instr) (g : List ℕ)
      → capsule_from block words here skip (map Plain is) g ≡ racing block (plain_from words here skip is g)
  same_capsule words here skip [] g = refl
  same_capsule words here (suc skip) (i ∷ is) g = same_capsule words (here + 1) skip is g
  same_capsule words here zero (i ∷ is) g =
      same_act (λ t h. capsule_from block words (here + 1) (t - (here + 1)) (map Plain is) h) (λ t h. plain_from words (here + 1) (t - (here + 1)) is h)
      (λ t h. same_capsule words (here + 1) (t - (here + 1)) is h) (here + 1) (plainly words i g) g

-- the capsule of plain instructions
same_whole : (words : ℕ) (is : List Instr) → capsule_of words (map Plain is) ≡ racing_of words is
same_whole words is =
    ap (λ (block : List OwnWord). capsule_from block words 0 0 (map Plain is) (replicate 64 0)) (ap built_by (same_instrs is))
    ∙ same_capsule (built_by is) words 0 0 is (replicate 64 0)

-- and of those with a number
numbered : (found : Option CodeCapsule) → instrs_in (option_map racy_capsule found) ≡ map Plain (plain_instrs_in found)
numbered None = refl
numbered (Some c) = refl

same_numbered : (code : CodeParts) (number : ℕ) → instrs_of (as_racy code) number ≡ map Plain (plain_instrs code number)
same_numbered code number = ap instrs_in (slice_get-map racy_capsule code.capsules number) ∙ numbered (slice_get code.capsules number)

same_at : (code : CodeParts) (words : ℕ) (place : Place) → capsule_at (as_racy code) words place ≡ (racing_code code words).capsule place
same_at code words (At point) =
    ap (capsule_of words) (same_numbered code point.capsule) ∙ same_whole words (plain_instrs code point.capsule)
same_at code words (HasTrapped result) = refl

-- the systems of a code without exchanges are one, part by part
pub plain_codes : PlainCodesRaceAsBefore
plain_codes = record {
  plain = same_code;
  systems = λ code words root arrays. λ i. record {
    code = record {
      names = own_words;
      capsule = λ place. same_at code words place i;
      builds = builds_at (same_code code i);
      opens = exit_opens (same_code code i);
      rejoin = λ f results. rejoining (same_code code i) f.own f.point results;
    };
    start = beginning (same_code code i) code.root root ∷ [];
    words = arrays;
  };
}
