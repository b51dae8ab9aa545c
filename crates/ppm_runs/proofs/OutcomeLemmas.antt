-- At an outcome of the root all is as the depth-first run has it.
use Rattle.std.proofs.Common.{◌≡◌, ◌⊎◌, ℕ, Bool, true, false, List, [], Option, Some, None, inl, inr, refl, sym, ◌∙◌, subst}
use Rattle.ppm_cells.specs.Fields.{number_of}
use Rattle.ppm_cells.specs.Finish.{finish_of, finish_word}
use Rattle.ppm_cells.specs.declared.finish.Finish.{Finish}
use Rattle.ppm_cells.specs.declared.finish.Finish.TheVariants.{Unset}
use Rattle.ppm_tickets.specs.Homes.{Home, Unborn, Pushing, Listed, Popping, Stolen, Inline, Begun}
use Rattle.ppm_tickets.specs.Lawful.{Counts}
use Rattle.ppm_tickets.specs.Words.{has}
use Rattle.ppm_frames.specs.Skeletons.{Over, InPlace, Skeleton}
use Rattle.ppm_kept.specs.Fates as fates
use Rattle.ppm_kept.specs.Fates.{ToPush, Offered, Agrees}
use Rattle.ppm_kept.specs.Places.{places_of}
use Rattle.ppm_kept.proofs.AnswerLemmas.{ends_as_meant}
use Rattle.ppm_kept.proofs.BlockLemmas.{finish_back}
use Rattle.ppm_kept.proofs.FateLemmas.{none_is_left}
use Rattle.ppm_kept.proofs.RoomLemmas.{room_is_bounded}
use Rattle.ppm_runs.specs.Run.{setting, fate_of}
use Rattle.ppm_runs.specs.Outcomes.{RunsEnd}
use Rattle.ppm_runs.proofs.LeftLemmas.{shows}
use Rattle.ppm_runs.proofs.ShownLemmas.{halves}

-- a branch of which nothing has come, or that was begun, is so in the deques too
pub unborn_is : (x : Home) → fate_of x ≡ fates.Unborn → x ≡ Unborn
unborn_is Unborn e = refl
unborn_is (Pushing p) e = absurd (let z : ToPush ≡ fates.Unborn = e in cc)
unborn_is (Listed v i t) e = absurd (let z : Offered ≡ fates.Unborn = e in cc)
unborn_is (Popping p) e = absurd (let z : Offered ≡ fates.Unborn = e in cc)
unborn_is (Stolen p) e = absurd (let z : Offered ≡ fates.Unborn = e in cc)
unborn_is Inline e = absurd (let z : fates.Inline ≡ fates.Unborn = e in cc)
unborn_is Begun e = absurd (let z : fates.Begun ≡ fates.Unborn = e in cc)

pub begun_is : (x : Home) → fate_of x ≡ fates.Begun → x ≡ Begun
begun_is Unborn e = absurd (let z : fates.Unborn ≡ fates.Begun = e in cc)
begun_is (Pushing p) e = absurd (let z : ToPush ≡ fates.Begun = e in cc)
begun_is (Listed v i t) e = absurd (let z : Offered ≡ fates.Begun = e in cc)
begun_is (Popping p) e = absurd (let z : Offered ≡ fates.Begun = e in cc)
begun_is (Stolen p) e = absurd (let z : Offered ≡ fates.Begun = e in cc)
begun_is Inline e = absurd (let z : fates.Inline ≡ fates.Begun = e in cc)
begun_is Begun e = refl

none_true : (b : Bool) → (b ≡ true → ⊥) → b ≡ false
none_true true never = absurd (never refl)
none_true false never = refl

-- a branch of which nothing has come, or that was begun, was forked where it was taken
pub same_lists : (h : ℕ → Home) (forked taken : List ℕ) → Counts h forked taken → (r : ℕ) → (h r ≡ Unborn) ⊎ (h r ≡ Begun) → has forked r ≡ has taken r
same_lists h forked taken counts r (inl e) =
    none_true (has forked r) (λ f. counts.born r f e)
    ∙ sym (none_true (has taken r) (λ k. let z : Unborn ≡ Begun = sym e ∙ counts.begun r k in cc))
same_lists h forked taken counts r (inr e) =
    counts.listed r (λ u. let z : Begun ≡ Unborn = sym e ∙ u in cc) ∙ sym (counts.counted r e)

pub runs_end : RunsEnd
runs_end s code root input state h forked taken t run finish says out =
    let answer = ends_as_meant (setting s code) root input state t run.kept finish says out in
    let counts = run.lawful.1.counts in
    let agrees = subst (λ (w : Skeleton). Agrees w (λ r. fate_of (h r))) answer.alone run.agrees in record {
      answer = answer;
      shown = shows s code root input state h forked taken [] t (halves run);
      all = λ r. same_lists h forked taken counts r (elim (none_is_left (InPlace answer.place) Over answer.frame answer.slots (λ r. fate_of (h r)) agrees r) [
        | inl e ↦ inl (unborn_is (h r) e)
        | inr e ↦ inr (begun_is (h r) e)
      ]);
      forked_once = counts.forked_once;
      taken_once = counts.once;
      room = room_is_bounded (setting s code) root input (places_of s state) t run.kept answer.end answer.ends;
    }

-- no finish word that says a stop is 0
pub unset_is : finish_word Unset ≡ 0
unfolding number_of
unset_is = refl

pub unset_stands : finish_of 0 ≡ Some Unset
unset_stands = subst (λ (w : ℕ). finish_of w ≡ Some Unset) unset_is (finish_back Unset tt)

abbrev pub finish_in : Finish → Option Finish → Finish
finish_in v None = v
finish_in v (Some w) = w
