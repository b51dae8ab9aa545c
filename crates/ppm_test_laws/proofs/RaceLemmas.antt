-- The races of the small instance, its endless branch, and a fork that is calm.
use Rattle.std.proofs.Common.{◌≡◌, ℕ, zero, suc, ◌+◌, ◌%◌, IsTrue, [], ◌∷◌, Some, inl, inr, refl, sym, ap, ◌∙◌, subst}
use Rattle.ppm_strands.specs.Tree.{Words, Strand, Has}
use Rattle.ppm_strands.specs.Run.{End, run}
use Rattle.ppm_strands.specs.Ahead.{Ahead, put, Capsule, InRight}
use Rattle.ppm_test_laws.specs.Sample.{address, capsule_at, resumed_tree, sample}
use Rattle.ppm_strands.specs.Regions.{HasFrame, IsSeparate, OwnsNoMore}
use Rattle.ppm_test_laws.specs.Races.{racing, RacesAreNotCalm, RacesBesideNoEndAreNotCalm, NoEndBeside, RacesLoseTheLaw}
use Rattle.ppm_test_laws.specs.Races.{EndsWithInB, RacesEndOtherwise, ApartByRegions, counts_then, right_first, words_then, start}
use Rattle.ppm_test_laws.specs.Races.{ApartIsCalm, SamplesAreLocal, apart_owns, apart_regions, apart_writes, fork_of, forking, is_apart}
use Rattle.ppm_test_laws.specs.declared.sample.Outcome.{Outcome}
use Rattle.ppm_test_laws.specs.declared.sample.Outcome.TheVariants.{Finished, Trapped}
use Rattle.ppm_strands.proofs.RunLemmas.{counted_some, one_end}
use Rattle.ppm_strands.proofs.PartsLemmas.{has_left, has_right, ends_by_parts}
use Rattle.ppm_strands.proofs.RegionLemmas.{separate_trees_are_calm}
use Rattle.ppm_strands.proofs.StepLemmas.{put_at, put_else}

-- within three of the bound the word A is written on the one side and touched on the other
pub races_are_not_calm : RacesAreNotCalm
races_are_not_calm a = (λ calm. (calm 3).3 0 (inl refl) (inl refl), λ calm. (calm 3).2 0 (inl refl) (inl refl))

-- within four of the bound it is A again: after the endless branch's own D four times, and in the right branch alone
pub races_beside_no_end_are_not_calm : RacesBesideNoEndAreNotCalm
races_beside_no_end_are_not_calm a = (
  λ calm. (calm 4).3 0 (inl refl) (inr (inr (inr (inr (inl refl))))),
  λ calm. (calm 4).1.3 0 (inl refl) (inl refl),
)

-- a capsule that goes on with itself has no end
endless : (n : ℕ) (a : Words) (e : End Outcome) → run (sample racing) n (Strand 5) a ≡ Some e → ⊥
endless zero a e h = cc
endless (suc n) a e h = let s = counted_some _ (run (sample racing) n (Strand 5) ((sample racing).after 5 a)) e h in endless n _ s.0 s.1

pub no_end_beside : NoEndBeside
no_end_beside a e =
    let parts = ends_by_parts (sample racing) in (
      λ h.
          let left = (parts.fork 1 (Strand 6) (Strand 4) a e).0 h in
          let inner = (parts.strand 6 a left.0).0 left.1 in
          let first = (parts.fork 1 (Strand 5) (Strand 0) ((sample racing).after 6 a) inner.0).0 inner.1 in
          endless first.1.0 ((sample racing).after 6 a) first.0 first.1.1,
      λ h. let left = (parts.fork 1 (Strand 5) (Strand 7) a e).0 h in endless left.1.0 a left.0 left.1.1,
    )

-- all are run
left_reads : EndsWithInB (fork_of 0 4) start 1
left_reads = (_, (5, refl), refl)

left_reads_after : EndsWithInB (right_first 0 4) (words_then 4) 2
left_reads_after = (_, (5, refl), refl)

left_writes : EndsWithInB (fork_of 4 0) start 2
left_writes = (_, (5, refl), refl)

left_writes_after : EndsWithInB (right_first 4 0) (words_then 0) 1
left_writes_after = (_, (5, refl), refl)

pub races_end_otherwise : RacesEndOtherwise
races_end_otherwise = ((left_reads, left_reads_after), (left_writes, left_writes_after))

one_is_not_two : ◌≡◌ {A = ℕ} 1 2 → ⊥
one_is_not_two h = cc

-- by the law both orders would end with the same value in B
not_ahead : (l r v w : ℕ) → EndsWithInB (fork_of l r) start v → EndsWithInB (right_first l r) (words_then r) w → (v ≡ w → ⊥)
    → Ahead (sample racing) (counts_then r) (fork_of l r) start (right_first l r) (words_then r) → ⊥
not_ahead l r v w first after differ ah =
    let m = (ah.ends first.0).0 first.1 in
    let same : m.0 ≡ after.0 = one_end (sample racing) (right_first l r) (words_then r) m.0 after.0 m.1 after.1 in
    let moved = ap (λ (e : End Outcome). e.words 1) m.2 ∙ ap (λ (e : End Outcome). e.words 1) same in
    differ (sym first.2 ∙ moved ∙ after.2)

pub races_lose_the_law : RacesLoseTheLaw
races_lose_the_law = (
  (InRight 1 (Strand 0) (Capsule 4 start), not_ahead 0 4 1 2 left_reads left_reads_after one_is_not_two),
  (InRight 1 (Strand 4) (Capsule 0 start), not_ahead 4 0 2 1 left_writes left_writes_after (λ h. one_is_not_two (sym h))),
)

-- a frame that goes on by its own capsule, or is over, owns no more
goes_on : (g : ℕ) (o : Outcome) → IsTrue (is_apart g) → OwnsNoMore apart_regions g (resumed_tree g o)
goes_on g Finished adm = record { separate = adm; owned = λ x h. h; written = λ x h. h }
goes_on g (Trapped n) adm = record { separate = tt; owned = λ x h. absurd h; written = λ x h. absurd h }

reads_own : (f : ℕ) (a : Words) → IsTrue (is_apart f) → (x : ℕ) → Has x ((sample racing).reads f a) → Has x (apart_owns f)
reads_own zero a adm x (inl e) = inl e
reads_own (suc zero) a adm x h = h
reads_own (suc (suc zero)) a adm x (inl e) = inl e
reads_own (suc (suc (suc zero))) a adm x h = has_right x (0 ∷ 1 ∷ 2 ∷ []) (3 ∷ []) h
reads_own (suc (suc (suc (suc f)))) a adm x h = absurd (cc)
reads_own zero a adm x (inr none) = absurd none
reads_own (suc (suc zero)) a adm x (inr none) = absurd none

writes_own : (f : ℕ) (a : Words) → IsTrue (is_apart f) → (x : ℕ) → Has x ((sample racing).writes f a) → Has x (apart_writes f)
writes_own zero a adm x h = h
writes_own (suc zero) a adm x h = h
writes_own (suc (suc zero)) a adm x (inl e) = inl e
writes_own (suc (suc zero)) a adm x (inr none) = absurd none
writes_own (suc (suc (suc zero))) a adm x h = has_right x (1 ∷ 2 ∷ []) (3 ∷ []) h
writes_own (suc (suc (suc (suc f)))) a adm x h = absurd (cc)

writes_owned : (f : ℕ) → IsTrue (is_apart f) → (x : ℕ) → Has x (apart_writes f) → Has x (apart_owns f)
writes_owned zero adm x h = inr h
writes_owned (suc zero) adm x h = h
writes_owned (suc (suc zero)) adm x h = h
writes_owned (suc (suc (suc f))) adm x h = inr h

-- no address of A and B is one of C and D
apart : (x : ℕ) → Has x (0 ∷ 1 ∷ []) → Has x (2 ∷ 3 ∷ []) → ⊥
apart x (inl e) (inl f) = cc
apart x (inl e) (inr (inl f)) = cc
apart x (inr (inl e)) (inl f) = cc
apart x (inr (inl e)) (inr (inl f)) = cc
apart x (inr (inr e)) h = absurd e
apart x h (inr (inr f)) = absurd f

fork_separate : IsSeparate apart_regions (fork_of 0 2)
fork_separate = (refl, refl, refl, λ x i j. apart x (inr i) j, λ x i j. apart x j i)

-- what that fork owns, the strand that makes it owns
fork_owned : (x : ℕ) → HasFrame apart_regions.Owns (fork_of 0 2) x → Has x (0 ∷ 1 ∷ 2 ∷ 3 ∷ [])
fork_owned x (inl h) = has_right x (0 ∷ 1 ∷ 2 ∷ []) (3 ∷ []) h
fork_owned x (inr (inl h)) = has_left x (0 ∷ 1 ∷ []) (2 ∷ 3 ∷ []) h
fork_owned x (inr (inr h)) = inr (inr h)

fork_written : (x : ℕ) → HasFrame apart_regions.MayWrite (fork_of 0 2) x → Has x (1 ∷ 2 ∷ 3 ∷ [])
fork_written x (inl h) = has_right x (1 ∷ 2 ∷ []) (3 ∷ []) h
fork_written x (inr (inl h)) = has_left x (1 ∷ []) (2 ∷ 3 ∷ []) h
fork_written x (inr (inr h)) = inr h

opens_no_more : (f : ℕ) (a : Words) → IsTrue (is_apart f) → OwnsNoMore apart_regions f ((sample racing).next f a)
opens_no_more zero a adm = record { separate = tt; owned = λ x h. absurd h; written = λ x h. absurd h }
opens_no_more (suc zero) a adm = record { separate = tt; owned = λ x h. absurd h; written = λ x h. absurd h }
opens_no_more (suc (suc zero)) a adm = record { separate = refl; owned = λ x h. inr h; written = λ x h. inr h }
opens_no_more (suc (suc (suc zero))) a adm = record { separate = fork_separate; owned = fork_owned; written = fork_written }
opens_no_more (suc (suc (suc (suc f)))) a adm = absurd (cc)

pub apart_by_regions : ApartByRegions
apart_by_regions = (
  record {
    reads = reads_own;
    writes = writes_own;
    owns_what_it_writes = writes_owned;
    opens = opens_no_more;
    resumes = goes_on;
    keeps = λ g o adm. record { separate = adm; owned = λ x h. h; written = λ x h. h };
  },
  fork_separate,
  refl,
)

pub apart_is_calm : ApartIsCalm
apart_is_calm a = (
  separate_trees_are_calm apart_regions (sample racing) apart_by_regions.0 (fork_of 0 2) a apart_by_regions.1,
  separate_trees_are_calm apart_regions (sample racing) apart_by_regions.0 forking a apart_by_regions.2,
)

-- a capsule of a table
pub samples_are_local : SamplesAreLocal
samples_are_local table = record {
  next = λ f a b on. refl;
  reads = λ f a b on. refl;
  writes = λ f a b on. refl;
  asks = λ f a b on. refl;
  values = λ f a b on x h. elim h [
    | inl e ↦
        let p = capsule_at table f in
        let same = ap (λ (n : ℕ). (n + p.plus) % 256) (on (address p.from) (inl refl)) in
        subst (λ (y : ℕ). put b (address p.to) ((b (address p.from) + p.plus) % 256) y ≡ put a (address p.to) ((a (address p.from) + p.plus) % 256) y) (sym e)
        (put_at b (address p.to) _ ∙ same ∙ sym (put_at a (address p.to) _))
    | inr none ↦ absurd none
  ];
  frame = λ f a x out. put_else a (address (capsule_at table f).to) _ x (λ e. out (inl e));
}
