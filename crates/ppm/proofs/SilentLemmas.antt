-- The program's watchers show nothing: so its end is the top call's with lists of which nothing is known.
use Rattle.std.proofs.Common.{◌≡◌, ◌∙◌, ℕ, List, [], ◌∷◌, length, map, replicate, Option, None, inl, refl, ap, subst}
use Rattle.std.specs.String.{string_bytes}
use Rattle.std.specs.declared.string.String.{String}
use Rattle.std.specs.declared.alloc.Global.{Global}
use Rattle.ppm_ports.specs.Ports.{Port}
use Rattle.ppm_ports.specs.Outside.{ToldLists, outside}
use Rattle.ppm_answers.specs.declared.status.Status.{Status}
use Rattle.ppm_answers.specs.Statuses.{number_of}
use Rattle.ppm_top.specs.Causes.{IsAnswered}
use Rattle.ppm_top.specs.Rows.{ProgramRows}
use Rattle.ppm.specs.Ending.{Given, AreWords, silent, EndsWith}

-- of each of so many nothing is known
abbrev pub nothing : {W X : Type 0} → W → Option X
nothing w = None

all_silent : {W X : Type 0} (watch : List W) → map (nothing {W = W} {X = X}) watch ≡ replicate (length watch) None
all_silent [] = refl
all_silent {X = X} (w ∷ watch) = ap (λ (lists : List (Option X)). None ∷ lists) (all_silent {X = X} watch)

pub are_silent : {W X : Type 0} (watch : List W) (count : ℕ) → length watch ≡ count → map (nothing {W = W} {X = X}) watch ≡ replicate count None
are_silent watch count e = all_silent watch ∙ ap (λ n. replicate n None) e

module _ (given : Given) (source out err : Port) (number : ℕ) (words : List (String Global)) (status : Status) (before now : ToldLists)
    (was : before ≡ silent) (is : now ≡ silent) where
  untold : (P : ToldLists → ToldLists → Type 0) → P before now → P silent silent
  untold P h = subst (λ (l : ToldLists). P silent l) is (subst (λ (l : ToldLists). P l now) was h)

  -- the words were answered
  pub ends_answered : AreWords given words → IsAnswered (map string_bytes words) (outside source out err before now) status
      → ProgramRows (map string_bytes words) (outside source out err before now) status → number ≡ number_of status
      → EndsWith given source out err number
  ends_answered are answered rows own = inl (record {
    words = words;
    are_words = are;
    status = status;
    answered = untold (λ b n. IsAnswered (map string_bytes words) (outside source out err b n) status) answered;
    rows = untold (λ b n. ProgramRows (map string_bytes words) (outside source out err b n) status) rows;
    own_number = own;
  })
