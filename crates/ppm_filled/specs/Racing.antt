-- The strands of a code as strands that may race: their capsules over own and shared words.
use Rattle.std.proofs.Common.{◌≡◌, ℕ, ◌==◌, Bool, true, false, cond, List, [], ◌∷◌, ◌++◌, None, refl, ap, subst}
use Rattle.std.proofs.lemmas.Bool.{eq-eqb, eqb-true}
use Rattle.ppm_strands.specs.Tree.{Tree, Strand, Over, Words}
use Rattle.ppm_strands.specs.Capsule.{Capsule, Reads, Writes, Asks, Ends, Equality, Memory, is_in}
use Rattle.ppm_strands.specs.Strand.{Frame, Own, New, Shared}
use Rattle.ppm_unseen.specs.Capsule.{Code, Next as Opened, GoesOn, Forks, Closes, constant}
use Rattle.ppm_unseen.specs.Capsule.{Capsule as Racing, Loads, Keeps, Reads as Finds, Changes, Ends as Stops}
use Rattle.ppm_unseen.specs.Run.{System}
use Rattle.ppm_code.specs.declared.location.FrameWord.{FrameWord}
use Rattle.ppm_code.specs.declared.location.FrameWord.TheVariants.{Value}
use Rattle.ppm_code.specs.declared.act.End.{End}
use Rattle.ppm_code.specs.declared.act.End.TheVariants.{Next, Finish, Trap, Call, Fork}
use Rattle.ppm_code.specs.declared.code.CodeParts.{CodeParts}
use Rattle.ppm_code.specs.declared.instr.Instr.{Instr}
use Rattle.ppm_code.specs.declared.instr.Instr.TheVariants.{StoreNew, Ends as Ending}
use Rattle.ppm_code.specs.Capsules.{capsule_of}
use Rattle.ppm_code.specs.Locations.{Where, same_frame_word, frame_word_is_one, frame_word_is_self}
use Rattle.ppm_code.specs.Sizes.{slots_of, left_at, right_at}
use Rattle.ppm_code.specs.Strands.{Result, Gave, Trapped, Point, at_capsule, built, entry_of, instrs_of, kept, resume}

-- what an end stores of its strand's own, all together: the outcome of a trap, or the words of a new block beside its slots
pub data EndWord : Type 0 where
  OfTrap : EndWord
  OfCall : (callee : ℕ) → EndWord
  OfFork : (left right : ℕ) → EndWord

-- what a strand has of its own: words of its frame, words of the block that it builds by their offset, and what ends store
pub data OwnWord : Type 0 where
  OfFrame : FrameWord → OwnWord
  OfBlock : ℕ → OwnWord
  OfEnd : EndWord → OwnWord

-- whether two of them are one
abbrev pub same_end_word : EndWord → EndWord → Bool
same_end_word OfTrap OfTrap = true
same_end_word (OfCall m) (OfCall n) = m == n
same_end_word (OfFork k l) (OfFork m n) = cond (k == m) (l == n) false
same_end_word OfTrap (OfCall n) = false
same_end_word OfTrap (OfFork m n) = false
same_end_word (OfCall m) OfTrap = false
same_end_word (OfCall k) (OfFork m n) = false
same_end_word (OfFork k l) OfTrap = false
same_end_word (OfFork k l) (OfCall n) = false

abbrev pub same_own_word : OwnWord → OwnWord → Bool
same_own_word (OfFrame k) (OfFrame l) = same_frame_word k l
same_own_word (OfBlock m) (OfBlock n) = m == n
same_own_word (OfEnd k) (OfEnd l) = same_end_word k l
same_own_word (OfFrame k) (OfBlock n) = false
same_own_word (OfFrame k) (OfEnd l) = false
same_own_word (OfBlock m) (OfFrame l) = false
same_own_word (OfBlock m) (OfEnd l) = false
same_own_word (OfEnd k) (OfFrame l) = false
same_own_word (OfEnd k) (OfBlock n) = false

-- a test is not both
false_is_not_true : false ≡ true → ⊥
false_is_not_true h = subst (λ (b : Bool). cond b ⊥ (Unit {0})) h tt

both_are : (s t : Bool) → cond s t false ≡ true → (s ≡ true) × (t ≡ true)
both_are true t h = (refl, h)
both_are false t h = absurd (false_is_not_true h)

pub end_word_is_one : (k l : EndWord) → same_end_word k l ≡ true → k ≡ l
end_word_is_one OfTrap OfTrap h = refl
end_word_is_one (OfCall m) (OfCall n) h = ap OfCall (eqb-true m n h)
end_word_is_one (OfFork k l) (OfFork m n) h =
    let both = both_are (k == m) (l == n) h in λ i. OfFork (eqb-true k m both.0 i) (eqb-true l n both.1 i)
end_word_is_one OfTrap (OfCall n) h = absurd (false_is_not_true h)
end_word_is_one OfTrap (OfFork m n) h = absurd (false_is_not_true h)
end_word_is_one (OfCall m) OfTrap h = absurd (false_is_not_true h)
end_word_is_one (OfCall k) (OfFork m n) h = absurd (false_is_not_true h)
end_word_is_one (OfFork k l) OfTrap h = absurd (false_is_not_true h)
end_word_is_one (OfFork k l) (OfCall n) h = absurd (false_is_not_true h)

pub end_word_is_self : (k : EndWord) → same_end_word k k ≡ true
end_word_is_self OfTrap = refl
end_word_is_self (OfCall n) = eq-eqb n n refl
end_word_is_self (OfFork m n) = rw (eq-eqb m m refl) (eq-eqb n n refl)

pub own_word_is_one : (k l : OwnWord) → same_own_word k l ≡ true → k ≡ l
own_word_is_one (OfFrame k) (OfFrame l) h = ap OfFrame (frame_word_is_one k l h)
own_word_is_one (OfBlock m) (OfBlock n) h = ap OfBlock (eqb-true m n h)
own_word_is_one (OfEnd k) (OfEnd l) h = ap OfEnd (end_word_is_one k l h)
own_word_is_one (OfFrame k) (OfBlock n) h = absurd (false_is_not_true h)
own_word_is_one (OfFrame k) (OfEnd l) h = absurd (false_is_not_true h)
own_word_is_one (OfBlock m) (OfFrame l) h = absurd (false_is_not_true h)
own_word_is_one (OfBlock m) (OfEnd l) h = absurd (false_is_not_true h)
own_word_is_one (OfEnd k) (OfFrame l) h = absurd (false_is_not_true h)
own_word_is_one (OfEnd k) (OfBlock n) h = absurd (false_is_not_true h)

pub own_word_is_self : (k : OwnWord) → same_own_word k k ≡ true
own_word_is_self (OfFrame k) = frame_word_is_self k
own_word_is_self (OfBlock n) = eq-eqb n n refl
own_word_is_self (OfEnd k) = end_word_is_self k

-- own words are told apart so
abbrev pub own_words : Equality OwnWord
own_words = record { same = same_own_word; is_one = own_word_is_one; is_self = own_word_is_self }

-- what an end stores of a new block
abbrev pub built_by_end : End → List OwnWord
built_by_end (Next capsule) = []
built_by_end Finish = []
built_by_end (Trap trap line) = []
built_by_end (Call callee capsule to) = OfEnd (OfCall callee) ∷ []
built_by_end (Fork left right capsule left_to right_to) = OfEnd (OfFork left right) ∷ []

-- what an instruction stores of it: a slot, or all that an end does
abbrev pub built_by_one : Instr → List OwnWord
built_by_one (StoreNew o a) = OfBlock o ∷ []
built_by_one (Ending e) = built_by_end e
built_by_one i = []

-- what a capsule may store of the block that it builds
abbrev pub built_by : List Instr → List OwnWord
built_by [] = []
built_by (i ∷ is) = built_by_one i ++ built_by is

-- where a strand is: at a capsule of the code, or over since a branch of it trapped
pub data Place : Type 0 where
  At : Point → Place
  HasTrapped : Result → Place

-- the end of a capsule of the code, or that of a strand of which a branch trapped
pub data Exit : Type 0 where
  Of : End → Exit
  Tells : Result → Exit

-- keeps 0 in these words
abbrev pub dropping : List OwnWord → Racing OwnWord Exit → Racing OwnWord Exit
dropping [] rest = rest
dropping (x ∷ xs) rest = Keeps x 0 (dropping xs rest)

-- an end: what it stores is kept, as one word; a strand that traps leaves the block that it was to build, and nobody reads that
abbrev pub ending : (block : List OwnWord) → End → Racing OwnWord Exit
ending block (Next capsule) = Stops (Of (Next capsule))
ending block Finish = Stops (Of Finish)
ending block (Trap trap line) = Keeps (OfEnd OfTrap) 1 (dropping block (Stops (Of (Trap trap line))))
ending block (Call callee capsule to) = Keeps (OfEnd (OfCall callee)) 1 (Stops (Of (Call callee capsule to)))
ending block (Fork left right capsule left_to right_to) =
    Keeps (OfEnd (OfFork left right)) 1 (Stops (Of (Fork left right capsule left_to right_to)))

-- a capsule that may race: words of its frame and of its block are its own, array words are shared, and a store of one is a put
abbrev pub racing : (block : List OwnWord) → Capsule Where End → Racing OwnWord Exit
racing block (Reads (Own k) go) = Loads (OfFrame k) (λ v. racing block (go v))
racing block (Reads (New o) go) = Loads (OfBlock o) (λ v. racing block (go v))
racing block (Reads (Shared x) go) = Finds x (λ v. racing block (go v))
racing block (Writes (Own k) v rest) = Keeps (OfFrame k) v (racing block rest)
racing block (Writes (New o) v rest) = Keeps (OfBlock o) v (racing block rest)
racing block (Writes (Shared x) v rest) = Changes x (constant v) (racing block rest)
racing block (Asks n rest) = racing block rest
racing block (Ends e) = ending block e

-- the capsule of instructions
abbrev pub racing_of : (array_words : ℕ) → List Instr → Racing OwnWord Exit
racing_of array_words is = racing (built_by is) (capsule_of array_words is)

-- the words of a frame, among own words; all others are 0
abbrev pub framed : (FrameWord → ℕ) → Memory OwnWord
framed own (OfFrame k) = own k
framed own (OfBlock n) = 0
framed own (OfEnd k) = 0

abbrev pub frame_words_in : Memory OwnWord → FrameWord → ℕ
frame_words_in own k = own (OfFrame k)

abbrev pub block_in : Memory OwnWord → ℕ → ℕ
block_in own n = own (OfBlock n)

-- a frame with these words at a point
abbrev pub standing : (FrameWord → ℕ) → Point → Frame OwnWord Place
standing own point = record { own = framed own; point = At point }

module _ (code : CodeParts) where
  -- the first frame of a procedure
  abbrev pub beginning : (procedure : ℕ) → (FrameWord → ℕ) → Frame OwnWord Place
  beginning procedure own = standing own (at_capsule (entry_of code procedure))

  -- what an end opens: as the code has it, with a new block of zeros for the next capsule
  abbrev pub opening : End → Memory OwnWord → Opened OwnWord Place Result
  opening (Next capsule) own = GoesOn (standing (frame_words_in own) (at_capsule capsule))
  opening Finish own = Closes (Gave (own (OfFrame Value)))
  opening (Trap trap line) own = Closes (Trapped trap line)
  opening (Call procedure capsule to) own =
      Forks (beginning procedure (built (slots_of code procedure) 0 (block_in own)) ∷ [])
      (standing (frame_words_in own) (record { capsule = capsule; left_to = None; to = to }))
  opening (Fork left right capsule left_to right_to) own =
      Forks (beginning left (built (slots_of code left) left_at (block_in own))
      ∷ beginning right (built (slots_of code right) (right_at code left) (block_in own)) ∷ [])
      (standing (frame_words_in own) (record { capsule = capsule; left_to = left_to; to = right_to }))

  abbrev pub exit_opens : Exit → Memory OwnWord → Opened OwnWord Place Result
  exit_opens (Of e) own = opening e own
  exit_opens (Tells result) own = Closes result

  -- a frame as the code has it
  abbrev pub plain : Memory OwnWord → Point → Frame FrameWord Point
  plain own point = record { own = frame_words_in own; point = point }

  -- how a frame goes on by what `resume` makes of it: as a strand, or to the end that tells the trap of a branch; `resume` makes no other tree, and the
  -- last line stands for the others, to which nothing comes
  abbrev pub going_on : Memory OwnWord → Tree (Frame FrameWord Point) Result → Frame OwnWord Place
  going_on own (Strand f) = standing f.own f.point
  going_on own (Over result) = record { own = own; point = HasTrapped result }
  going_on own t = record { own = own; point = HasTrapped (Gave 0) }

  -- a frame whose callee is over; a frame whose branches are over, of which a trap of the left one comes first
  abbrev pub called : Memory OwnWord → Point → Result → Frame OwnWord Place
  called own point result = going_on own (resume (plain own point) result)

  abbrev pub joined : Memory OwnWord → Point → (left right : Result) → Frame OwnWord Place
  joined own point (Trapped trap line) right = record { own = own; point = HasTrapped (Trapped trap line) }
  joined own point (Gave value) right = going_on own (resume (kept (plain own point) (Gave value)) right)

  -- how a frame goes on after its branches
  abbrev pub rejoining : Memory OwnWord → Place → List Result → Frame OwnWord Place
  rejoining own (At point) (callee ∷ []) = called own point callee
  rejoining own (At point) (left ∷ right ∷ []) = joined own point left right
  rejoining own place results = record { own = own; point = place }

  -- the capsule at a place, and what it builds
  abbrev pub capsule_at : (array_words : ℕ) → Place → Racing OwnWord Exit
  capsule_at array_words (At point) = racing_of array_words (instrs_of code point.capsule)
  capsule_at array_words (HasTrapped result) = Stops (Tells result)

  abbrev pub builds_at : Place → OwnWord → Bool
  builds_at (At point) word = is_in own_words word (built_by (instrs_of code point.capsule))
  builds_at (HasTrapped result) word = false

  -- the code of strands that may race
  abbrev pub racing_code : (array_words : ℕ) → Code OwnWord Place Exit Result
  racing_code array_words = record {
    names = own_words;
    capsule = capsule_at array_words;
    builds = builds_at;
    opens = exit_opens;
    rejoin = λ f results. rejoining f.own f.point results;
  }

  -- the root's strand alone, with its own words, and the array words
  abbrev pub racing_system : (array_words : ℕ) → (root : FrameWord → ℕ) → (arrays : Words) → System OwnWord Place Exit Result
  racing_system array_words root arrays =
      record { code = racing_code array_words; start = beginning code.root root ∷ []; words = arrays }
