-- A strand under way makes a step of the model.
use Rattle.std.proofs.Common.{◌≡◌, ℕ, List, ◌∷◌, refl, ap}
use Rattle.ppm_strands.specs.Tree.{Words}
use Rattle.ppm_strands.specs.Capsule.{Memory, store}
use Rattle.ppm_unseen.specs.Capsule.{Capsule as Racing, Loads as LoadsOwn, Keeps, Reads as Finds, Changes}
use Rattle.ppm_unseen.specs.Run.{Deed, UnderWay, Takes, Stores, Finds as FindsWord, Leaves, Alters, Changed as HasChanged, Change as Asking}
use Rattle.ppm_unseen.specs.Run.{Asked, change, now}
use Rattle.ppm_code.specs.declared.location.FrameWord.{FrameWord}
use Rattle.ppm_code.specs.Strands.{Result}
use Rattle.ppm_filled.specs.Racing.{OwnWord, OfFrame, OfBlock, own_words, Place, Exit}
use Rattle.ppm_racy.specs.declared.code.RacyParts.{RacyParts}
use Rattle.ppm_racy.specs.Racing.{racy_system}
use Rattle.ppm_interleaving.specs.Steps.{MovesUnseen, MovesSeen}

-- a change more
abbrev pub with_asked : Asking → Asked → Asked
with_asked k a = record { all = k ∷ a.all; settled = a.settled }

abbrev pub with_settled : Asking → Asked → Asked
with_settled k a = record { all = k ∷ a.all; settled = k ∷ a.all }

module _ (code : RacyParts) (array_words : ℕ) (root : FrameWord → ℕ) (arrays : Words) (t : List (Deed OwnWord Place Result)) (k : Place) (o : Memory OwnWord) where
  pub loads_frame : (w : FrameWord) (go : ℕ → Racing OwnWord Exit) (a : Asked)
      → MovesUnseen (racy_system code array_words root arrays) t (UnderWay k (LoadsOwn (OfFrame w) go) o) (UnderWay k (go (o (OfFrame w))) o) a a
  loads_frame w go a = record { no_end = refl; step = Takes (OfFrame w) go; asks = λ me c h. h }

  pub loads_block : (n : ℕ) (go : ℕ → Racing OwnWord Exit) (a : Asked)
      → MovesUnseen (racy_system code array_words root arrays) t (UnderWay k (LoadsOwn (OfBlock n) go) o) (UnderWay k (go (o (OfBlock n))) o) a a
  loads_block n go a = record { no_end = refl; step = Takes (OfBlock n) go; asks = λ me c h. h }

  pub reads : (x : ℕ) (go : ℕ → Racing OwnWord Exit) (a : Asked) → MovesUnseen (racy_system code array_words root arrays) t (UnderWay k (Finds x go) o)
      (UnderWay k (go (now (racy_system code array_words root arrays) t x)) o) a a
  reads x go a = record { no_end = refl; step = FindsWord x go; asks = λ me c h. h }

  pub keeps_frame : (w : FrameWord) (v : ℕ) (rest : Racing OwnWord Exit) (a : Asked)
      → MovesUnseen (racy_system code array_words root arrays) t (UnderWay k (Keeps (OfFrame w) v rest) o) (UnderWay k rest (store own_words o (OfFrame w) v)) a a
  keeps_frame w v rest a = record { no_end = refl; step = Stores (OfFrame w) v rest; asks = λ me c h. h }

  pub keeps_block : (n : ℕ) (v : ℕ) (rest : Racing OwnWord Exit) (a : Asked)
      → MovesUnseen (racy_system code array_words root arrays) t (UnderWay k (Keeps (OfBlock n) v rest) o) (UnderWay k rest (store own_words o (OfBlock n) v)) a a
  keeps_block n v rest a = record { no_end = refl; step = Stores (OfBlock n) v rest; asks = λ me c h. h }

  pub leaves : (x : ℕ) (g : ℕ → ℕ) (rest : Racing OwnWord Exit) (a : Asked)
      → g (now (racy_system code array_words root arrays) t x) ≡ now (racy_system code array_words root arrays) t x
      → MovesUnseen (racy_system code array_words root arrays) t (UnderWay k (Changes x g rest) o) (UnderWay k rest o) a (with_asked (change x g) a)
  leaves x g rest a same = record { no_end = refl; step = Leaves x g rest same; asks = λ me c h. ap (with_asked (change x g)) h }

  pub alters : (me x : ℕ) (g : ℕ → ℕ) (rest : Racing OwnWord Exit) (a : Asked)
      → (g (now (racy_system code array_words root arrays) t x) ≡ now (racy_system code array_words root arrays) t x → ⊥)
      → MovesSeen (racy_system code array_words root arrays) me t (UnderWay k (Changes x g rest) o)
      (HasChanged me x (g (now (racy_system code array_words root arrays) t x))) (UnderWay k rest o) a (with_settled (change x g) a)
  alters me x g rest a other = record { no_end = refl; step = Alters x g rest other; asks = λ c h. ap (with_settled (change x g)) h }
