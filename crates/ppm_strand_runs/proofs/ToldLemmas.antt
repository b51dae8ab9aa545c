-- What is told of moments is one.
use Rattle.std.proofs.Common.{◌≡◌, ℕ, ◌+◌, List, [], ◌∷◌, ◌++◌, length, Option, Some, None, refl, sym, ap, ◌∙◌}
use Rattle.std.proofs.lemmas.List.{ext_get_or}
use Rattle.ppm_strands.specs.Tree.{Words}
use Rattle.ppm_unseen.specs.Run.{Deed, count, now}
use Rattle.ppm_unseen.specs.Run.{Changed as HasChanged, Forked as HasForked, Finished as IsFinished}
use Rattle.ppm_code.specs.declared.location.FrameWord.{FrameWord}
use Rattle.ppm_code.specs.Strands.{Result, Gave, Trapped}
use Rattle.ppm_depth.specs.declared.frame.Finish.{Finish}
use Rattle.ppm_depth.specs.declared.frame.Finish.TheVariants as finish
use Rattle.ppm_filled.specs.Racing.{OwnWord, Place}
use Rattle.ppm_racy.specs.declared.code.RacyParts.{RacyParts}
use Rattle.ppm_interleaving.specs.declared.deed.Deed.{Deed as Told}
use Rattle.ppm_interleaving.specs.declared.deed.Deed.TheVariants.{Changed, Forked, Finished}
use Rattle.ppm_interleaving.specs.declared.machine.Machine.{Machine}
use Rattle.ppm_interleaving.specs.Shows.{FinishesAre, IsTold, Shows, system}
use Rattle.ppm_interleaving.specs.Steps.{result_of}
use Rattle.ppm_interleaving.specs.Turns.{Moment, deeds, strand_of}
use Rattle.ppm_strand_runs.specs.declared.done.Done.{Done}
use Rattle.ppm_strand_runs.specs.Run.{done_in, AreDone, Nothing, Then}

-- how a strand is over, from its outcome
abbrev finish_from : Result → Finish
finish_from (Gave value) = finish.Gave value
finish_from (Trapped trap line) = finish.Trapped trap line

finish_is : (f : Finish) → f ≡ finish_from (result_of f)
finish_is (finish.Gave value) = refl
finish_is (finish.Trapped trap line) = refl

pub one_result : (f g : Finish) → result_of f ≡ result_of g → f ≡ g
one_result f g same = finish_is f ∙ ap finish_from same ∙ sym (finish_is g)

none_is_not_some : {X : Type 0} (f : Finish) → None ≡ Some f → X
none_is_not_some f e = cc

-- strands are over in one way
pub one_finish : (p q : ℕ → Option Finish) (t : List (Deed OwnWord Place Result)) → FinishesAre p t → FinishesAre q t → (i : ℕ) → p i ≡ q i
one_finish p q t a b i = by (p i) refl
  where
    none : (o : Option Finish) → p i ≡ None → q i ≡ o → p i ≡ q i
    none None e k = e ∙ sym k
    none (Some g) e k = let w = a.alone i (result_of g) (b.told i g k) in none_is_not_some w.0 (sym e ∙ w.1)

    by : (o : Option Finish) → p i ≡ o → p i ≡ q i
    by None e = none (q i) e refl
    by (Some f) e = let w = b.alone i (result_of f) (a.told i f e) in e ∙ ap (λ (g : Finish). Some g) (one_result f w.0 w.2) ∙ sym w.1

module _ (code : RacyParts) (array_words : ℕ) (root : FrameWord → ℕ) (arrays : Words) where
  -- words of a run are one
  pub one_words : (h : List Moment) (m n : Machine) → Shows code array_words root arrays h m → Shows code array_words root arrays h n
      → m.words.items ≡ n.words.items
  one_words h m n a b =
      ext_get_or 0 m.words.items n.words.items (a.word_count ∙ sym b.word_count) (λ i less. sym (a.words i) ∙ b.words i)

  -- what is told of a deed
  abbrev pub told_of : List (Deed OwnWord Place Result) → Option (Deed OwnWord Place Result) → Option Told
  told_of t None = None
  told_of t (Some (HasChanged who x v)) = Some (Changed x (now (system code array_words root arrays) t x) v)
  told_of t (Some (HasForked who fs)) = Some (Forked (count (system code array_words root arrays) t) (length fs))
  told_of t (Some (IsFinished who result)) = Some (Finished (finish_from result))

  pub told_is : (who : ℕ) (told : Option Told) (t : List (Deed OwnWord Place Result)) (d : Option (Deed OwnWord Place Result))
      → IsTold code array_words root arrays who told t d → told ≡ told_of t d
  told_is who None t d h = sym (ap (told_of t) h)
  told_is who (Some (Changed word was is)) t d h =
      ap (λ (n : ℕ). Some (Changed word n is)) h.1 ∙ sym (ap (told_of t) h.0)
  told_is who (Some (Forked first branches)) t d h =
      ap (λ (n : ℕ). Some (Forked n branches)) h.2 ∙ ap (λ (n : ℕ). Some (Forked (count (system code array_words root arrays) t) n)) h.3
      ∙ sym (ap (told_of t) h.1)
  told_is who (Some (Finished f)) t d h = ap (λ (g : Finish). Some (Finished g)) (finish_is f) ∙ sym (ap (told_of t) h)

  pub one_told : (who : ℕ) (a b : Option Told) (t : List (Deed OwnWord Place Result)) (d : Option (Deed OwnWord Place Result))
      → IsTold code array_words root arrays who a t d → IsTold code array_words root arrays who b t d → a ≡ b
  one_told who a b t d p q = told_is who a t d p ∙ sym (told_is who b t d q)

  -- what is told of moments, by the last one
  record WasDone (m : Moment) (h : List Moment) (done : List Done) : Type 0 where
    before : List Done
    told : Option Told
    are : AreDone code array_words root arrays h before
    is : IsTold code array_words root arrays (strand_of m.turn) told (deeds h) m.deed
    all : done ≡ before ++ done_in (length h + 1) (strand_of m.turn) told

  abbrev DoneIs : List Moment → List Done → Type 0
  DoneIs [] done = done ≡ []
  DoneIs (m ∷ h) done = WasDone m h done

  done_is : {h : List Moment} {done : List Done} → AreDone code array_words root arrays h done → DoneIs h done
  done_is Nothing = refl
  done_is (Then {done = done} turn told d are is) = record { before = done; told = told; are = are; is = is; all = refl }

  pub one_done : (h : List Moment) (x y : List Done) → AreDone code array_words root arrays h x → AreDone code array_words root arrays h y → x ≡ y
  one_done [] x y a b = done_is a ∙ sym (done_is b)
  one_done (m ∷ h) x y a b =
      let p = done_is a in
      let q = done_is b in
      let same = one_told (strand_of m.turn) p.told q.told (deeds h) m.deed p.is q.is in
      p.all ∙ ap (λ (l : List Done). l ++ done_in (length h + 1) (strand_of m.turn) p.told) (one_done h p.before q.before p.are q.are)
      ∙ ap (λ (t : Option Told). q.before ++ done_in (length h + 1) (strand_of m.turn) t) same ∙ sym q.all
