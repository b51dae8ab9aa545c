-- The end of a capsule: what it stores first, and how frames begin.
use Rattle.std.proofs.Common.{◌≡◌, ℕ, List, [], ◌∷◌, ◌++◌, reverse, refl, sym, ap, ◌∙◌, replicate}
use Rattle.ppm_strands.specs.Tree.{Words}
use Rattle.ppm_strands.specs.Capsule.{Memory, store}
use Rattle.ppm_strands.specs.Strand.{Frame}
use Rattle.ppm_unseen.specs.Capsule.{Ends as Stops}
use Rattle.ppm_unseen.specs.Run.{UnderWay, begun, nothing}
use Rattle.ppm_code.specs.declared.act.End.{End}
use Rattle.ppm_code.specs.declared.act.End.TheVariants.{Next, Finish, Trap, Call, Fork}
use Rattle.ppm_code.specs.declared.location.FrameWord.{FrameWord}
use Rattle.ppm_code.specs.Strands.{Result, at_capsule}
use Rattle.ppm_filled.specs.Racing.{OwnWord, OfEnd, OfTrap, OfCall, OfFork, own_words, Place, At, HasTrapped, Exit, Of, Tells as Telling, ending, dropping, exit_opens}
use Rattle.ppm_racy.specs.declared.code.RacyParts.{RacyParts}
use Rattle.ppm_racy.specs.Capsules.{capsule_from, built}
use Rattle.ppm_racy.specs.Code.{instrs_of, plain_code}
use Rattle.ppm_racy.specs.Racing.{capsule_at, racy_system}
use Rattle.ppm_interleaving.specs.declared.own.Own.{Own}
use Rattle.ppm_interleaving.specs.declared.running.Running.{Running}
use Rattle.ppm_interleaving.specs.Changes.{changes_of}
use Rattle.ppm_interleaving.specs.Steps.{IsBegun, BeginsFrame, asked_by, under_way}
use Rattle.ppm_interleaving.specs.Turns.{KeepsUpTo, Here, Before, Ready, AsItIs, AtEnd}

module _ (code : RacyParts) (array_words : ℕ) (root : FrameWord → ℕ) (arrays : Words) where
  -- what is left is kept, word by word
  pub record DropsTo (xs : List OwnWord) (e : Exit) (o : Memory OwnWord) : Type 0 where
    pub own : Memory OwnWord
    pub up : KeepsUpTo (racy_system code array_words root arrays) (dropping xs (Stops e)) o e own

  drops : (xs : List OwnWord) (e : Exit) (o : Memory OwnWord) → DropsTo xs e o
  drops [] e o = record { own = o; up = Here e o }
  drops (x ∷ xs) e o = let more = drops xs e (store own_words o x 0) in record { own = more.own; up = Before x 0 more.up }

  -- an end with all that it stores: it opens the same, since nobody reads what ends store
  pub record ReadyToOpen (k : Place) (block : List OwnWord) (end : End) (o : Memory OwnWord) : Type 0 where
    pub own : Memory OwnWord
    pub ready : Ready (racy_system code array_words root arrays) (UnderWay k (ending block end) o) (UnderWay k (Stops (Of end)) own)
    pub opens : exit_opens (plain_code code) (Of end) own ≡ exit_opens (plain_code code) (Of end) o

  pub ready_to_open : (k : Place) (block : List OwnWord) (end : End) (o : Memory OwnWord) → ReadyToOpen k block end o
  ready_to_open k block (Next capsule) o = record { own = o; ready = AsItIs refl; opens = refl }
  ready_to_open k block Finish o = record { own = o; ready = AsItIs refl; opens = refl }
  ready_to_open k block (Trap trap line) o =
      let more = drops block (Of (Trap trap line)) (store own_words o (OfEnd OfTrap) 1) in
      record { own = more.own; ready = AtEnd refl (Before (OfEnd OfTrap) 1 more.up); opens = refl }
  ready_to_open k block (Call callee capsule to) o =
      record { own = store own_words o (OfEnd (OfCall callee)) 1; ready = AtEnd refl (Before (OfEnd (OfCall callee)) 1 (Here _ _)); opens = refl }
  ready_to_open k block (Fork left right capsule left_to right_to) o = record {
    own = store own_words o (OfEnd (OfFork left right)) 1;
    ready = AtEnd refl (Before (OfEnd (OfFork left right)) 1 (Here _ _));
    opens = refl;
  }

  -- a frame that begins
  pub begun_state : (r : Running) (f : Frame OwnWord Place) → BeginsFrame r f
      → begun (racy_system code array_words root arrays) f ≡ under_way code array_words r f.own
  begun_state r f b =
      ap (λ (p : Place). UnderWay p (capsule_at code array_words p) f.own) b.point
      ∙ ap (λ (n : ℕ). UnderWay (At (at_capsule r.capsule)) (capsule_from (built (instrs_of code r.capsule)) array_words 0 n (instrs_of code r.capsule) (replicate 64 0)) f.own)
      (sym b.begun.at)
      ∙ ap (λ (g : List ℕ). UnderWay (At (at_capsule r.capsule)) (capsule_from (built (instrs_of code r.capsule)) array_words 0 r.at (instrs_of code r.capsule) g) f.own)
      (sym b.begun.registers)

  -- or tells the trap of a branch
  pub telling_state : (result : Result) (f : Frame OwnWord Place) → f.point ≡ HasTrapped result
      → begun (racy_system code array_words root arrays) f ≡ UnderWay (HasTrapped result) (Stops (Telling result)) f.own
  telling_state result f is = ap (λ (p : Place). UnderWay p (capsule_at code array_words p) f.own) is

-- a strand that begins has asked for nothing
pub begun_asks : (capsule : ℕ) (own : Own) (r : Running) → IsBegun capsule own r → asked_by r ≡ nothing
begun_asks capsule own r b = λ i. record { all = reverse (changes_of (b.settled i ++ b.since i)); settled = reverse (changes_of (b.settled i)) }
