-- The model with races is of the code: its capsules alone come to what those of the code come to, and their ends open the same.
use Rattle.std.specs.Prelude.{◌≡◌, ℕ, cond, List, [], ◌∷◌}
use Rattle.ppm_strands.specs.Tree.{Words, Tree, Strand, Call as Calling, Fork as Forking, Over}
use Rattle.ppm_strands.specs.Ahead.{put}
use Rattle.ppm_strands.specs.Capsule.{Capsule, Memory, store, ending, leaves}
use Rattle.ppm_strands.specs.Strand.{Frame, Own, New, Shared}
use Rattle.ppm_unseen.specs.Capsule.{Next as Opened, GoesOn, Forks, Closes}
use Rattle.ppm_unseen.specs.Capsule.{Capsule as Racing, Loads, Keeps, Reads as Finds, Changes, Ends as Stops}
use Rattle.ppm_code.specs.declared.location.FrameWord.{FrameWord}
use Rattle.ppm_code.specs.declared.act.End.{End}
use Rattle.ppm_code.specs.declared.act.End.TheVariants.{Trap}
use Rattle.ppm_code.specs.declared.code.CodeParts.{CodeParts}
use Rattle.ppm_code.specs.Locations.{Where, code_locations}
use Rattle.ppm_code.specs.Strands.{Result, Point, is_trap, opens, kept, resume}
use Rattle.ppm_filled.specs.Racing.{OwnWord, OfFrame, OfBlock, own_words, Place, At, HasTrapped, Of, racing, opening, rejoining, frame_words_in, block_in}

-- what a capsule comes to where no other strand does anything: its end, its own words and the shared ones
module _ {E : Type 0} where
  abbrev pub end_alone : Racing OwnWord E → Memory OwnWord → Words → E
  end_alone (Loads x go) own a = end_alone (go (own x)) own a
  end_alone (Keeps x v rest) own a = end_alone rest (store own_words own x v) a
  end_alone (Finds x go) own a = end_alone (go (a x)) own a
  end_alone (Changes x g rest) own a = end_alone rest own (put a x (g (a x)))
  end_alone (Stops e) own a = e

  abbrev pub own_alone : Racing OwnWord E → Memory OwnWord → Words → Memory OwnWord
  own_alone (Loads x go) own a = own_alone (go (own x)) own a
  own_alone (Keeps x v rest) own a = own_alone rest (store own_words own x v) a
  own_alone (Finds x go) own a = own_alone (go (a x)) own a
  own_alone (Changes x g rest) own a = own_alone rest own (put a x (g (a x)))
  own_alone (Stops e) own a = own

  abbrev pub words_alone : Racing OwnWord E → Memory OwnWord → Words → Words
  words_alone (Loads x go) own a = words_alone (go (own x)) own a
  words_alone (Keeps x v rest) own a = words_alone rest (store own_words own x v) a
  words_alone (Finds x go) own a = words_alone (go (a x)) own a
  words_alone (Changes x g rest) own a = words_alone rest own (put a x (g (a x)))
  words_alone (Stops e) own a = a

-- own and shared words are those of a memory of the code
pub record AreThose (m : Memory Where) (own : Memory OwnWord) (a : Words) : Type 0 where
  pub frame : (k : FrameWord) → own (OfFrame k) ≡ m (Own k)
  pub block : (n : ℕ) → own (OfBlock n) ≡ m (New n)
  pub shared : (x : ℕ) → a x ≡ m (Shared x)

-- a strand that traps has left its block
abbrev pub LeavesThose : End → Memory Where → Memory OwnWord → Words → Type 0
LeavesThose (Trap trap line) m own a = (x : ℕ) → a x ≡ m (Shared x)
LeavesThose e m own a = AreThose m own a

-- a capsule of the code, and what it is where strands may race, alone: they come to the same end and leave the same words
pub record ComesToTheSame (block : List OwnWord) (c : Capsule Where End) (m : Memory Where) (own : Memory OwnWord) (a : Words) : Type 0 where
  pub ends : end_alone (racing block c) own a ≡ Of (ending code_locations c m)
  pub left : LeavesThose (ending code_locations c m) (leaves code_locations c m) (own_alone (racing block c) own a) (words_alone (racing block c) own a)

-- a frame of the model as a frame of the code; as a strand of it, or one that is over
abbrev pub code_frame : Memory OwnWord → Point → Frame FrameWord Point
code_frame own point = record { own = frame_words_in own; point = point }

abbrev pub strand_at : Memory OwnWord → Place → Tree (Frame FrameWord Point) Result
strand_at own (At point) = Strand (code_frame own point)
strand_at own (HasTrapped result) = Over result

abbrev pub strand_in : Frame OwnWord Place → Tree (Frame FrameWord Point) Result
strand_in f = strand_at f.own f.point

-- the frame of the code that waits
abbrev pub waiting_at : Memory OwnWord → Place → List (Tree (Frame FrameWord Point) Result) → Tree (Frame FrameWord Point) Result
waiting_at own (At point) (callee ∷ []) = Calling (code_frame own point) callee
waiting_at own (At point) (left ∷ right ∷ []) = Forking (code_frame own point) left right
waiting_at own place branches = strand_at own place

abbrev pub strands_in : List (Frame OwnWord Place) → List (Tree (Frame FrameWord Point) Result)
strands_in [] = []
strands_in (f ∷ fs) = strand_in f ∷ strands_in fs

-- what an end opens in the model, as a tree of the code
abbrev pub tree_in : Opened OwnWord Place Result → Tree (Frame FrameWord Point) Result
tree_in (GoesOn f) = strand_in f
tree_in (Forks branches f) = waiting_at f.own f.point (strands_in branches)
tree_in (Closes result) = Over result

-- the model is of the code: its capsules, its ends, and how its frames go on after a callee and after two branches
pub record RacingCodeIsOfTheCode : Type 0 where
  pub capsules : (block : List OwnWord) (c : Capsule Where End) (m : Memory Where) (own : Memory OwnWord) (a : Words)
      → AreThose m own a → ComesToTheSame block c m own a
  pub ends : (code : CodeParts) (e : End) (own : Memory OwnWord) → tree_in (opening code e own) ≡ opens code e (frame_words_in own) (block_in own)
  pub calls : (code : CodeParts) (own : Memory OwnWord) (point : Point) (result : Result)
      → strand_in (rejoining code own (At point) (result ∷ [])) ≡ resume (code_frame own point) result
  pub forks : (code : CodeParts) (own : Memory OwnWord) (point : Point) (left right : Result)
      → strand_in (rejoining code own (At point) (left ∷ right ∷ [])) ≡ resume (kept (code_frame own point) left) (cond (is_trap left) left right)
