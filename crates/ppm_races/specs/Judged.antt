-- What a walk tells of a code with its input, before the capsules of a race are looked up in the code.
use Rattle.std.specs.Prelude.{◌≡◌, ◌≤◌, ◌<◌, ◌↔◌, ℕ, true, List, length}
use Rattle.ppm_strands.specs.Tree.{Has}
use Rattle.ppm_strands.specs.Run.{End}
use Rattle.ppm_words.specs.declared.named_array.NamedArray.{NamedArray}
use Rattle.ppm_code.specs.declared.code.CodeParts.{CodeParts}
use Rattle.ppm_code.specs.Inputs.{words_in}
use Rattle.ppm_code.specs.Strands.{Result}
use Rattle.ppm_depth.specs.Run.{ComesTo, IsWithin}
use Rattle.ppm_depth.specs.Start.{words_of, root_strand}
use Rattle.ppm_depth.specs.Turns.{strands_over}
use Rattle.ppm_races.specs.Verdicts.{HasMetNothing, IsCalmWith, MomentOf}
use Rattle.ppm_races.specs.Walks.{IsMeetingOf}
use Rattle.ppm_races.specs.declared.judging.Judged.{Judged}
use Rattle.ppm_races.specs.declared.judging.Judged.TheVariants.{Calm, Meets, NotWithin}
use Rattle.ppm_races.specs.declared.race.Visit.{Visit}
use Rattle.ppm_races.specs.declared.walk.Meeting.{Meeting}

module _ (code : CodeParts) (input : List NamedArray) where
  -- a capsule of its depth-first run meets another one
  abbrev pub IsMeetingWith : Meeting → Type 0
  IsMeetingWith meeting = IsMeetingOf code (root_strand code input) (words_of (words_in input)) (length (words_in input)) meeting

  -- the moment of its depth-first run at which the capsule with a number is next
  abbrev pub MomentWith : (number : ℕ) → Type 0
  MomentWith number = MomentOf code (root_strand code input) (words_of (words_in input)) (length (words_in input)) number

  -- a verdict, but that the first capsule that meets another one is told as it was found
  abbrev pub IsJudged : (limit : ℕ) → Judged → Type 0
  IsJudged limit (Calm run) = IsCalmWith code input × IsWithin code input limit run
  IsJudged limit (Meets meeting) = (IsCalmWith code input → ⊥) × IsMeetingWith meeting × (meeting.run ≤ limit)
  IsJudged limit NotWithin = ((e : End Result) → ComesTo code input e → limit < e.counts.capsules) × HasMetNothing code input limit

  -- the capsule with a number, and whether it writes a word
  pub record IsVisitTo (run word : ℕ) (v : Visit) : Type 0 where
    pub number : v.run ≡ run
    pub moment : MomentWith run
    pub capsule : moment.frame.point.capsule ≡ v.capsule
    pub written : (v.writes ≡ true) ↔ Has word ((strands_over code (length (words_in input))).writes moment.frame moment.words)
