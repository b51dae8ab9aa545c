-- A turn more.
use Rattle.std.proofs.Common.{◌≡◌, ◌∙◌, ℕ, ◌+◌, List, [], ◌∷◌, ◌++◌, length, Option, Some, None, refl, sym, ap, subst, arith, length-append}
use Rattle.std.proofs.lemmas.List.{length-reverse}
use Rattle.ppm_strands.specs.Tree.{Words}
use Rattle.ppm_unseen.specs.Run.{Change as Asking, Deed, settled}
use Rattle.ppm_code.specs.declared.location.FrameWord.{FrameWord}
use Rattle.ppm_code.specs.Strands.{Result}
use Rattle.ppm_filled.specs.Racing.{OwnWord, Place}
use Rattle.ppm_racy.specs.declared.code.RacyParts.{RacyParts}
use Rattle.ppm_interleaving.specs.declared.deed.Deed.{Deed as Told}
use Rattle.ppm_interleaving.specs.declared.deed.Turn.{Turn}
use Rattle.ppm_interleaving.specs.declared.fallen.Fallen.{Fallen}
use Rattle.ppm_interleaving.specs.declared.machine.Machine.{Machine}
use Rattle.ppm_interleaving.specs.Changes.{change_of}
use Rattle.ppm_interleaving.specs.Shows.{Shows, IsFirstFallen, IsTold, MakesTurn, TellsFallen, system}
use Rattle.ppm_interleaving.specs.Turns.{Moment, moment, came, deeds, strand_of}
use Rattle.ppm_strand_runs.specs.declared.done.Done.{Done}
use Rattle.ppm_strand_runs.specs.declared.done.Fall.{Fall}
use Rattle.ppm_strand_runs.specs.declared.made.Made.{Made}
use Rattle.ppm_strand_runs.specs.declared.run.StrandRun.{StrandRun}
use Rattle.ppm_strand_runs.specs.Made.{AreMade, IsMadeIn, count_in, made_in, made_now}
use Rattle.ppm_strand_runs.specs.Run.{AddsTurn, AreDone, HasCome, SeesTurn, Then, done_in}
use Rattle.ppm_strand_runs.proofs.MadeLemmas.{falls_in, made_more}

-- what is told of a machine at whatever moments it shows
abbrev pub TellsAlways : Machine → Option Fallen → Type 0
TellsAlways machine told = (code : RacyParts) (root : FrameWord → ℕ) (arrays : Words) (h : List Moment)
    → Shows code (length machine.words.items) root arrays h machine → TellsFallen code (length machine.words.items) root arrays h told

told_at : (machine : Machine) (told : Option Fallen) → TellsAlways machine told → (code : RacyParts) (array_words : ℕ) (root : FrameWord → ℕ)
    (arrays : Words) (h : List Moment) → Shows code array_words root arrays h machine → TellsFallen code array_words root arrays h told
told_at machine told tells code array_words root arrays h shows =
    subst (λ (n : ℕ). TellsFallen code n root arrays h told) shows.word_count
    (tells code root arrays h (subst (λ (n : ℕ). Shows code n root arrays h machine) (sym shows.word_count) shows))

-- what falls at some moments was made in the turn that notes tell
falls_made : (code : RacyParts) (array_words : ℕ) (root : FrameWord → ℕ) (arrays : Words) (h : List Moment) (made : List Made) (fallen : Fallen)
    → AreMade code array_words root arrays h made → IsFirstFallen code array_words root arrays h fallen
    → IsMadeIn code array_words root arrays fallen.strand fallen.number h (made_in made fallen.strand fallen.number 0)
falls_made code array_words root arrays h made fallen notes is =
    let turned = length-reverse (settled (came (system code array_words root arrays) is.comes)) in
    let parts = ap (λ (l : List Asking). length l) is.order in
    let whole = length-append is.front (change_of fallen.change ∷ is.later) in
    let number = is.number in
    falls_in code array_words root arrays h made notes fallen.strand fallen.number is.state is.comes (omega (arith, turned, parts, whole, number))

module _ (machine : Machine) (made : List Made) (number strand : ℕ) (told : Option Told) where
  -- the first fall stays the first
  pub sees_again : (fall : Fall) → SeesTurn machine made (Some fall) number strand told (Some fall)
  sees_again fall code array_words root arrays h turn d shows notes is who tells first = record {
    later = moment turn d ∷ first.later;
    turn = first.turn;
    deed = first.deed;
    before = first.before;
    order = ap (λ (l : List Moment). moment turn d ∷ l) first.order;
    stood = first.stood;
    is = first.is;
    made = first.made;
    number = first.number;
    strand = first.strand;
    told = first.told;
  }

  -- there is none before
  pub sees_fall : (fallen : Fallen) → TellsAlways machine (Some fallen)
      → SeesTurn machine made None number strand told
      (Some (record { fallen = fallen; made = made_in made fallen.strand fallen.number 0; turn = number; strand = strand; deed = told }))
  sees_fall fallen falls code array_words root arrays h turn d shows notes is who tells stood = record {
    later = [];
    turn = turn;
    deed = d;
    before = h;
    order = refl;
    stood = stood;
    is = told_at machine (Some fallen) falls code array_words root arrays (moment turn d ∷ h) shows;
    made = falls_made code array_words root arrays (moment turn d ∷ h) made fallen notes
        (told_at machine (Some fallen) falls code array_words root arrays (moment turn d ∷ h) shows);
    number = is;
    strand = who;
    told = tells;
  }

  -- and none now
  pub sees_none : TellsAlways machine None → SeesTurn machine made None number strand told None
  sees_none stands code array_words root arrays h turn d shows notes is who tells stood =
      (told_at machine None stands code array_words root arrays (moment turn d ∷ h) shows, stood)

-- a run with a turn more
pub adds : (code : RacyParts) (turn : Turn) (told : Option Told) (strand had has : ℕ) (old new : StrandRun)
    → ((root : FrameWord → ℕ) (arrays : Words) → MakesTurn code (length old.machine.words.items) root arrays turn told old.machine new.machine)
    → new.turns ≡ old.turns + 1 → strand ≡ strand_of turn → new.done.items ≡ old.done.items ++ done_in (old.turns + 1) strand told
    → had ≡ count_in old.machine.strands.items strand → has ≡ count_in new.machine.strands.items strand
    → new.made.items ≡ old.made.items ++ made_now (old.turns + 1) strand had has
    → (seen : List Made) → seen ≡ new.made.items → SeesTurn new.machine seen old.fall (old.turns + 1) strand told new.fall → AddsTurn code turn old new
adds code turn told strand had has old new makes turns who done was is noted seen same sees root arrays array_words h come = (made.0, now)
  where
    made : (d : Option (Deed OwnWord Place Result)) × Shows code (length old.machine.words.items) root arrays (moment turn d ∷ h) new.machine
        × IsTold code (length old.machine.words.items) root arrays (strand_of turn) told (deeds h) d
    made = makes root arrays h (subst (λ (n : ℕ). Shows code n root arrays h old.machine) (sym come.shows.word_count) come.shows)

    shows : Shows code array_words root arrays (moment turn made.0 ∷ h) new.machine
    shows = subst (λ (n : ℕ). Shows code n root arrays (moment turn made.0 ∷ h) new.machine) come.shows.word_count made.1

    tells : IsTold code array_words root arrays (strand_of turn) told (deeds h) made.0
    tells = subst (λ (n : ℕ). IsTold code n root arrays (strand_of turn) told (deeds h) made.0) come.shows.word_count made.2

    number : old.turns + 1 ≡ length h + 1
    number = ap (λ (n : ℕ). n + 1) come.turns

    notes : AreMade code array_words root arrays (moment turn made.0 ∷ h) new.made.items
    notes = subst (λ (l : List Made). AreMade code array_words root arrays (moment turn made.0 ∷ h) l)
        (sym (noted ∙ (λ i. old.made.items ++ made_now (number i) (who i) (was_so i) (is_so i))))
        (made_more code array_words root arrays h (moment turn made.0) old.machine new.machine come.shows shows old.made.items come.made)
      where
        was_so : had ≡ count_in old.machine.strands.items (strand_of turn)
        was_so = was ∙ ap (count_in old.machine.strands.items) who

        is_so : has ≡ count_in new.machine.strands.items (strand_of turn)
        is_so = is ∙ ap (count_in new.machine.strands.items) who

    now : HasCome code array_words root arrays (moment turn made.0 ∷ h) new
    now = record {
      shows = shows;
      turns = omega (arith, turns, come.turns);
      done = subst (λ (l : List Done). AreDone code array_words root arrays (moment turn made.0 ∷ h) l)
          (sym (done ∙ (λ i. old.done.items ++ done_in (number i) (who i) told))) (Then turn told made.0 come.done tells);
      made = notes;
      fall = sees code array_words root arrays h turn made.0 shows
          (subst (λ (l : List Made). AreMade code array_words root arrays (moment turn made.0 ∷ h) l) (sym same) notes) number who tells come.fall;
    }
