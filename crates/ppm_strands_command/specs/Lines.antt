-- What is written of a run of strands.
use Rattle.std.specs.Prelude.{ℕ, ◌==◌, if◌then◌else◌, List, [], ◌∷◌, ◌++◌, Option, Some, None, codes, decimal, length, map}
use Rattle.std.specs.Fmt.{signed_decimal}
use Rattle.ppm_words.specs.TwosComplement.{value_of}
use Rattle.ppm_words.specs.declared.named_array.NamedArray.{NamedArray}
use Rattle.ppm_naming.specs.Cells.{element_text}
use Rattle.ppm_depth.specs.declared.frame.Finish.{Finish}
use Rattle.ppm_depth.specs.declared.frame.Finish.TheVariants.{Gave, Trapped}
use Rattle.ppm_plan.specs.declared.strand_item.StrandAct.{StrandAct}
use Rattle.ppm_plan.specs.declared.strand_item.StrandAct.TheVariants.{Step, Fails}
use Rattle.ppm_plan.specs.declared.strand_item.StrandItem.{StrandItem}
use Rattle.ppm_interleaving.specs.declared.change.Change.{Change}
use Rattle.ppm_interleaving.specs.declared.change.Change.TheVariants.{Puts, Exchanges}
use Rattle.ppm_interleaving.specs.declared.deed.Deed.{Deed}
use Rattle.ppm_interleaving.specs.declared.deed.Deed.TheVariants.{Changed, Forked, Finished}
use Rattle.ppm_strand_runs.specs.declared.done.Done.{Done}
use Rattle.ppm_strand_runs.specs.declared.done.Fall.{Fall}
use Rattle.ppm_answers.specs.Texts.{trap_name}

-- how a strand is called
abbrev pub strand_text : ℕ → List ℕ
strand_text i = 115 ∷ decimal i

-- the name of a word of arrays that lie one after the other: that of its array, and its index there
abbrev pub word_text : List NamedArray → (word : ℕ) → List ℕ
word_text input word = element_text (map (λ a. a.name) input) (map (λ a. length a.values) input) word

-- the number that a word stands for
abbrev pub value_text : ℕ → List ℕ
value_text word = signed_decimal (value_of word)

-- what a word was, and what it is
abbrev pub change_text : (was is : ℕ) → List ℕ
change_text was is = value_text was ++ 62 ∷ value_text is

-- how a strand is over: the value that it gave, or its trap
abbrev pub finish_text : Finish → List ℕ
finish_text (Gave value) = value_text value
finish_text (Trapped trap line) = codes "trap(" ++ trap_name trap ++ 44 ∷ decimal line ++ codes ")"

-- what others saw of a turn: a word that is changed, with what it was and is; the first branch that is forked, with how many there are; or the end
abbrev pub deed_text : List NamedArray → Deed → List ℕ
deed_text input (Changed word was is) = codes "change " ++ word_text input word ++ 32 ∷ change_text was is
deed_text input (Forked first branches) = codes "fork " ++ strand_text first ++ 32 ∷ decimal branches
deed_text input (Finished f) = codes "end - " ++ finish_text f

-- a turn, and whose it was
abbrev pub turn_text : (turn strand : ℕ) → List ℕ
turn_text turn strand = decimal turn ++ 32 ∷ strand_text strand

-- the line of a turn of which others saw something, and those of all such turns
abbrev pub done_line : List NamedArray → Done → List ℕ
done_line input d = turn_text d.turn d.strand ++ 32 ∷ deed_text input d.deed ++ 10 ∷ []

abbrev pub done_lines : List NamedArray → List Done → List ℕ
done_lines input [] = []
done_lines input (d ∷ done) = done_line input d ++ done_lines input done

-- a change that was asked for: a put of a value, or an exchange
abbrev pub asked_text : List NamedArray → Change → List ℕ
asked_text input (Puts word value) = codes "put " ++ word_text input word ++ 32 ∷ value_text value
asked_text input (Exchanges word old new) = codes "cam " ++ word_text input word ++ 32 ∷ change_text old new

-- what others saw of a turn, if they saw something
abbrev pub told_text : List NamedArray → Option Deed → List ℕ
told_text input None = []
told_text input (Some d) = 32 ∷ deed_text input d

-- the two lines of a fall: in which turn which strand made the change that does not stand; and after which turn, with what others saw of that
abbrev pub by_text : List NamedArray → Fall → List ℕ
by_text input f = codes "by: " ++ turn_text f.turn f.strand ++ told_text input f.deed ++ 10 ∷ []

abbrev pub fall_text : List NamedArray → Fall → List ℕ
fall_text input f = codes "fallen: " ++ turn_text f.made f.fallen.strand ++ codes " change " ++ decimal f.fallen.number ++ 32 ∷ asked_text input f.fallen.change
    ++ 10 ∷ by_text input f

-- the text of an act, of an item, and of a schedule
abbrev pub act_text : StrandAct → List ℕ
act_text (Step c) = decimal c
act_text (Fails c) = decimal c ++ codes "!s"

abbrev pub item_text : StrandItem → List ℕ
item_text i = act_text i.act ++ (if i.times == 1 then [] else 42 ∷ decimal i.times)

abbrev pub more_items_text : List StrandItem → List ℕ
more_items_text [] = []
more_items_text (i ∷ items) = 44 ∷ item_text i ++ more_items_text items

abbrev pub items_text : List StrandItem → List ℕ
items_text [] = codes "none"
items_text (i ∷ items) = item_text i ++ more_items_text items

-- the line of a schedule that was drawn: its seed, and its text
abbrev pub drawn_line : (seed : ℕ) → List StrandItem → List ℕ
drawn_line seed items = codes "drawn: seed " ++ decimal seed ++ codes " schedule " ++ items_text items ++ 10 ∷ []
