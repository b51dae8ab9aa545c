-- Whether a capsule is ordered and filled does not hang on what its changes make of words: so an exchange is as a put there.
use Rattle.std.proofs.Common.{◌≡◌, ◌⊎◌, inl, inr, ℕ, zero, suc, ◌+◌, ◌-◌, max, Bool, true, false, List, [], ◌∷◌, Option, Some, None}
use Rattle.std.proofs.Common.{refl, sym, ap, ◌∙◌, subst, replicate, slice_set}
use Rattle.std.specs.Prelude.{slice_get, map}
use Rattle.std.specs.Option.{option_map}
use Rattle.std.proofs.lemmas.Option.{slice_get-map}
use Rattle.ppm_strands.specs.Capsule.{Capsule, Memory, In}
use Rattle.ppm_unseen.specs.Capsule.{Capsule as Racing, Loads as LoadsOwn, Keeps, Reads as Finds, Changes, Ends as Stops}
use Rattle.ppm_unseen.specs.Conditions.{HasNoChange, IsOrdered, FillsPast, IsFilled}
use Rattle.ppm_code.specs.declared.location.Location.TheVariants.{Frame, New, Array}
use Rattle.ppm_code.specs.declared.act.Act.{Act}
use Rattle.ppm_code.specs.declared.act.Act.TheVariants.{Sets, Passes, Jumps, Steps, Ends as Ending}
use Rattle.ppm_code.specs.declared.act.End.{End}
use Rattle.ppm_code.specs.declared.act.Step.TheVariants.{Loads, Stores, Asks}
use Rattle.ppm_code.specs.declared.instr.Instr.TheVariants.{Put}
use Rattle.ppm_code.specs.Acts.{does as plainly, held}
use Rattle.ppm_code.specs.Capsules.{at_act as plain_act, capsule_from as plain_from}
use Rattle.ppm_code.specs.Locations.{Where}
use Rattle.ppm_code.specs.Strands.{instrs_of as plain_instrs, instrs_in as plain_instrs_in}
use Rattle.ppm_filled.specs.Correct.{HasFilledPaths, FilledPathsAreFilled}
use Rattle.ppm_filled.specs.Racing.{OwnWord, OfFrame, OfBlock, Exit, Place, At, HasTrapped, ending, racing, racing_code, racing_of, builds_at}
use Rattle.ppm_racy.specs.declared.code.RacyCapsule.{RacyCapsule}
use Rattle.ppm_racy.specs.declared.code.RacyParts.{RacyParts}
use Rattle.ppm_racy.specs.declared.instr.RacyInstr.{RacyInstr}
use Rattle.ppm_racy.specs.declared.instr.RacyInstr.TheVariants.{Plain, Cam}
use Rattle.ppm_racy.specs.declared.instr.RacyAct.TheVariants.{Plain as Acts}
use Rattle.ppm_racy.specs.Acts.{plain_of, does, exchanging}
use Rattle.ppm_racy.specs.Code.{instrs_of, instrs_in, plain_capsule, plain_code}
use Rattle.ppm_racy.specs.Capsules.{Going, at_act, capsule_from, capsule_of, built}
use Rattle.ppm_racy.specs.Racing.{capsule_at, racy_code}
use Rattle.ppm_racy.specs.Correct.{RacyPathsAreFilled}

-- two capsules that differ in what their changes make of words alone
data Alike : Racing OwnWord Exit → Racing OwnWord Exit → Type 0 where
  LoadAlike : {go on : ℕ → Racing OwnWord Exit} (x : OwnWord) → ((v : ℕ) → Alike (go v) (on v)) → Alike (LoadsOwn x go) (LoadsOwn x on)
  KeepAlike : {c d : Racing OwnWord Exit} (x : OwnWord) (v : ℕ) → Alike c d → Alike (Keeps x v c) (Keeps x v d)
  ReadAlike : {go on : ℕ → Racing OwnWord Exit} (x : ℕ) → ((v : ℕ) → Alike (go v) (on v)) → Alike (Finds x go) (Finds x on)
  ChangeAlike : {c d : Racing OwnWord Exit} (x : ℕ) (g f : ℕ → ℕ) → Alike c d → Alike (Changes x g c) (Changes x f d)
  EndAlike : (e : Exit) → Alike (Stops e) (Stops e)

alike_self : (c : Racing OwnWord Exit) → Alike c c
alike_self (LoadsOwn x go) = LoadAlike x (λ v. alike_self (go v))
alike_self (Keeps x v c) = KeepAlike x v (alike_self c)
alike_self (Finds x go) = ReadAlike x (λ v. alike_self (go v))
alike_self (Changes x g c) = ChangeAlike x g g (alike_self c)
alike_self (Stops e) = EndAlike e

no_change : {c d : Racing OwnWord Exit} → Alike c d → HasNoChange c → HasNoChange d
no_change (LoadAlike x go) h = λ v. no_change (go v) (h v)
no_change (KeepAlike x v c) h = no_change c h
no_change (ReadAlike x go) h = λ v. no_change (go v) (h v)
no_change (ChangeAlike x g f c) h = h
no_change (EndAlike e) h = tt

ordered : {c d : Racing OwnWord Exit} → Alike c d → IsOrdered c → IsOrdered d
ordered (LoadAlike x go) h = λ v. ordered (go v) (h v)
ordered (KeepAlike x v c) h = ordered c h
ordered (ReadAlike x go) h = λ v. no_change (go v) (h v)
ordered (ChangeAlike x g f c) h = ordered c h
ordered (EndAlike e) h = tt

module _ (out : OwnWord → Bool) (o : Memory OwnWord) where
  fills : {c d : Racing OwnWord Exit} (w : List OwnWord) → Alike c d → FillsPast out o w c → FillsPast out o w d
  fills w (LoadAlike x go) (inl h) = inl (h.0, fills w (go (o x)) h.1)
  fills w (LoadAlike x go) (inr h) = inr (h.0, λ v. fills w (go v) (h.1 v))
  fills w (KeepAlike x v c) h = (h.0, fills (x ∷ w) c h.1)
  fills w (ReadAlike x go) h = λ v. fills w (go v) (h v)
  fills w (ChangeAlike x g f c) h = fills w c h
  fills w (EndAlike e) h = h

filled : (builds : OwnWord → Bool) (c d : Racing OwnWord Exit) → Alike c d → IsFilled builds c → IsFilled builds d
filled builds c d alike h = λ o. ((h o).0, fills (h o).0 o [] alike (h o).1, (h o).2)

module _ (block : List OwnWord) where
  module _ (go : Going) (going : ℕ → List ℕ → Capsule Where End) (same : (t : ℕ) (h : List ℕ) → Alike (racing block (going t h)) (go t h)) where
    -- an act of both
    acted : (next : ℕ) (a : Act) (g : List ℕ) → Alike (racing block (plain_act going next a g)) (at_act block go next (Acts a) g)
    acted next (Sets d v) g = same next (slice_set g d.index v)
    acted next Passes g = same next g
    acted next (Jumps t) g = same (max t next) g
    acted next (Steps (Loads (Frame k) d)) g = LoadAlike (OfFrame k) (λ v. same next (slice_set g d.index v))
    acted next (Steps (Loads (New n) d)) g = LoadAlike (OfBlock n) (λ v. same next (slice_set g d.index v))
    acted next (Steps (Loads (Array x) d)) g = ReadAlike x (λ v. same next (slice_set g d.index v))
    acted next (Steps (Stores (Frame k) v)) g = KeepAlike (OfFrame k) v (same next g)
    acted next (Steps (Stores (New n) v)) g = KeepAlike (OfBlock n) v (same next g)
    acted next (Steps (Stores (Array x) v)) g = ChangeAlike x _ _ (same next g)
    acted next (Steps (Asks n)) g = same next g
    acted next (Ending e) g = alike_self (ending block e)

    -- where a put would do this, an exchange does it, or exchanges
    exchanged : (next old : ℕ) (a : Act) (g : List ℕ) → Alike (racing block (plain_act going next a g)) (at_act block go next (exchanging old a) g)
    exchanged next old (Sets d v) g = acted next (Sets d v) g
    exchanged next old Passes g = acted next Passes g
    exchanged next old (Jumps t) g = acted next (Jumps t) g
    exchanged next old (Steps (Loads l d)) g = acted next (Steps (Loads l d)) g
    exchanged next old (Steps (Asks n)) g = acted next (Steps (Asks n)) g
    exchanged next old (Steps (Stores (Frame k) v)) g = acted next (Steps (Stores (Frame k) v)) g
    exchanged next old (Steps (Stores (New n) v)) g = acted next (Steps (Stores (New n) v)) g
    exchanged next old (Steps (Stores (Array x) v)) g = ChangeAlike x _ _ (same next g)
    exchanged next old (Ending e) g = acted next (Ending e) g

    -- an instruction with a put in place of an exchange does alike
    instructed : (words next : ℕ) (i : RacyInstr) (g : List ℕ)
        → Alike (racing block (plain_act going next (plainly words (plain_of i) g) g)) (at_act block go next (does words i g) g)
    instructed words next (Plain i) g = acted next (plainly words i g) g
    instructed words next (Cam region index old new line) g = exchanged next (held g old) (plainly words (Put region index new line) g) g

  along : (words here skip : ℕ) (is : List RacyInstr) (g : List ℕ)
      → Alike (racing block (plain_from words here skip (map plain_of is) g)) (capsule_from block words here skip is g)
  along words here skip [] g = alike_self (racing block (plain_from words here skip [] g))
  along words here (suc skip) (i ∷ is) g = along words (here + 1) skip is g
  along words here zero (i ∷ is) g =
      instructed (λ t h. capsule_from block words (here + 1) (t - (here + 1)) is h) (λ t h. plain_from words (here + 1) (t - (here + 1)) (map plain_of is) h)
      (λ t h. along words (here + 1) (t - (here + 1)) is h) words (here + 1) i g

-- the instructions of a capsule with puts
numbered : (found : Option RacyCapsule) → plain_instrs_in (option_map plain_capsule found) ≡ map plain_of (instrs_in found)
numbered None = refl
numbered (Some c) = refl

same_numbered : (code : RacyParts) (number : ℕ) → plain_instrs (plain_code code) number ≡ map plain_of (instrs_of code number)
same_numbered code number = ap plain_instrs_in (slice_get-map plain_capsule code.capsules number) ∙ numbered (slice_get code.capsules number)

-- at each place
alike_at : (code : RacyParts) (words : ℕ) (place : Place) → Alike ((racing_code (plain_code code) words).capsule place) (capsule_at code words place)
alike_at code words (At point) =
    subst (λ is. Alike (racing_of words is) (capsule_at code words (At point))) (sym (same_numbered code point.capsule))
    (along (built (instrs_of code point.capsule)) words 0 0 (instrs_of code point.capsule) (replicate 64 0))
alike_at code words (HasTrapped result) = alike_self (capsule_at code words (HasTrapped result))

pub racy_paths : FilledPathsAreFilled → RacyPathsAreFilled
racy_paths law code r words place =
    let both = law (plain_code code) r words place in (
      ordered (alike_at code words place) both.0,
      filled (builds_at (plain_code code) place) _ _ (alike_at code words place) both.1,
    )
