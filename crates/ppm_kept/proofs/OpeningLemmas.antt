-- The invariant stands at the opening.
use Rattle.std.proofs.Common.{◌≡◌, ◌≢◌, ◌≤◌, ◌<◌, ℕ, ◌+◌, inl, inr, refl, sym, subst, arith}
use Rattle.std.proofs.lemmas.Bool.{cases_eq}
use Rattle.ppm_strands.specs.Run.{none}
use Rattle.ppm_strands.specs.Ahead.{Ahead}
use Rattle.ppm_strands.proofs.StepLemmas.{steps_ahead}
use Rattle.ppm_strands.specs.Ahead as ahead
use Rattle.ppm_strands.proofs.StrandLemmas.{code_is_local}
use Rattle.ppm_cells.specs.declared.link.LinkKind.TheVariants.{Root}
use Rattle.ppm_cells.specs.declared.restart.RestartKind.{RestartKind}
use Rattle.ppm_cells.specs.declared.restart.RestartKind.TheVariants.{Run, Seek}
use Rattle.ppm_code.specs.Locations.{code_locations}
use Rattle.ppm_code.specs.Sizes.{frame_size}
use Rattle.ppm_code.specs.Strands.{table_of}
use Rattle.ppm_frames.specs.Seen.{arrays_at}
use Rattle.ppm_frames.specs.Skeletons.{Begins, InPlace, Leaf, Skeleton, tree_of, at}
use Rattle.ppm_frames.specs.Good.{Match}
use Rattle.ppm_frames.proofs.SkeletonLemmas.{inside_one, inside_from}
use Rattle.ppm_kept.specs.Running.{strands}
use Rattle.ppm_kept.specs.Branches.{Unpushed, HasCopy}
use Rattle.ppm_kept.specs.Kept.{start, end_of, owner, put, ceiling, Free, Ordered, carried}
use Rattle.ppm_kept.specs.Openings.{OpeningsAreKept, opening_of}
use Rattle.ppm_kept.proofs.PutLemmas.{put_here, put_else}
use Rattle.ppm_kept.proofs.OwnerLemmas.{owned}
use Rattle.ppm_kept.proofs.PlaceLemmas.{is_at_own, is_at_other}

pub openings : OpeningsAreKept
openings i m p f n o = record {
  ahead = (none, steps_ahead (strands i.shape i.code) (code_is_local code_locations (table_of i.code i.shape.arrays)) (ahead.Done (tree_of m t) (arrays_at m)) o.calm);
  good = (o.link, o.entry, subst (λ (k : RestartKind). Match i.code m k Root (Begins 0) f) (sym (put_here (λ q. Seek) p (Run f 0))) (refl, refl));
  apart = λ x. let one = inside_one f (6 + n) x in omega (arith, one);
  below = λ x some.
      let within = inside_from f (6 + n) x (λ z. some (omega (arith, z))) in
      subst (λ (q : ℕ). (start i q ≤ x) × (x < ceiling i m q (put (λ q. Seek) p (Run f 0) q))) (sym (own x within.0 within.1))
      (let a = o.first in let b = within.0 in omega (arith, a, b), subst (λ (k : RestartKind). x < ceiling i m p k) (sym (put_here (λ q. Seek) p (Run f 0))) (let a = o.room in let b = within.1 in omega (arith, a, b)));
  there = λ x some. let within = inside_from f (6 + n) x (λ z. some (omega (arith, z))) in subst (λ (q : ℕ). q < i.shape.processors) (sym (own x within.0 within.1)) o.there;
  places = each (λ q k. at q t ≡ carried m k) (is_at_own p) (λ q ne. is_at_other p q ne);
  rooms = each (λ q k. (start i q ≤ ceiling i m q k) × (ceiling i m q k ≤ end_of i q)) (o.rooms p) (λ q ne. o.rooms q);
  free = each (λ q k. Free i m q k) (record { block = λ w lt out. o.blank p w lt; outcome = inl o.outcome }) (λ q ne. o.blank q);
  does = λ q. tt;
  finished = inl o.finish;
  orders = each (λ q k. Ordered i (opening_of m p f) t m k) tt (λ q ne. tt);
  copies = each (λ q k. HasCopy k) (omega arith) (λ q ne. tt);
  untaken = each (λ q k. Unpushed q t k) tt (λ q ne. tt);
  aims = λ q r g b taker about. absurd (cc);
  paid = each (λ q k. ceiling i m q k ≤ start i q + (frame_size i.code i.code.root + 0)) (let a = o.small p in omega (arith, a)) (λ q ne. let a = o.small q in omega (arith, a));
  counted = o.uncounted;
}
  where
    t : Skeleton
    t = Leaf (InPlace p) (Begins 0) f n

    own : (x : ℕ) → f ≤ x → x < f + (6 + n) → owner i x ≡ p
    own x low high = owned i p x (let a = o.first in omega (arith, a, low)) (let a = o.within in omega (arith, a, high))

    each : (P : ℕ → RestartKind → Type 0) → P p (Run f 0) → ((q : ℕ) → q ≢ p → P q Seek) → (q : ℕ) → P q (put (λ q. Seek) p (Run f 0) q)
    each P here there q = elim (cases_eq q p) [
      | inl e ↦ subst (λ (x : ℕ). P x (put (λ q. Seek) p (Run f 0) x)) (sym e) (subst (P p) (sym (put_here (λ q. Seek) p (Run f 0))) here)
      | inr ne ↦ subst (P q) (sym (put_else (λ q. Seek) p (Run f 0) q ne)) (there q ne)
    ]
