-- What a scene adds: past its words nothing leads anywhere, and there are no branches.
use Rattle.std.proofs.Common.{◌≡◌, ◌∙◌, ◌<◌, ◌≤◌, ℕ, List, [], ◌++◌, Bool, true, false, length, replicate, Option, Some, None, sym, ap, subst, refl, arith}
use Rattle.std.specs.List.{slice_get}
use Rattle.std.specs.Prelude.{if◌then◌else◌}
use Rattle.std.proofs.lemmas.Bool.{false≢true}
use Rattle.std.proofs.lemmas.List.{get_or_past}
use Rattle.std.proofs.lemmas.List.{get_or-replicate, length-replicate}
use Rattle.std.proofs.lemmas.Option.{none-some, get_or_from_slice_get, slice_get_within}
use Rattle.ppm_cells.specs.Cells.{word_count}
use Rattle.ppm_cells.specs.Exact.{unpacked}
use Rattle.ppm_cells.specs.Fields.{bits}
use Rattle.ppm_cells.specs.Link.{link_of}
use Rattle.ppm_lines.specs.Scene.{Scene, link_at, is_fork_link}
use Rattle.ppm_show.specs.Paths.{IsClosed, is_unset, to_mark}
use Rattle.ppm_show.specs.Routes.{branches, end_of_link, leads_to, left_branch, right_branch}
use Rattle.ppm_show.proofs.MarkLemmas.{some_is}
use Rattle.ppm_show.proofs.PathLemmas.{EndsPast, IsDone}

-- 0 is no link
unlinked : link_of 0 ≡ None
unfolding unpacked bits
unlinked = refl

-- past the words there is no link
no_link : (scene : Scene) → length scene.words ≡ word_count scene.shape → (at : ℕ) → word_count scene.shape ≤ at → link_at scene at ≡ None
no_link scene count at past = ap link_of (get_or_past scene.words at 0 (subst (λ n. n ≤ at) (sym count) past)) ∙ unlinked

-- past the words nothing leads anywhere
pub ends_past : (scene : Scene) → length scene.words ≡ word_count scene.shape → (ms : List Bool) → length ms ≡ word_count scene.shape
    → EndsPast (leads_to scene) ms
ends_past scene count ms long at past = ap end_of_link (no_link scene count at (subst (λ n. n ≤ at) long past))

-- and there are no branches
pub no_branches : (scene : Scene) → length scene.words ≡ word_count scene.shape → (at : ℕ) → word_count scene.shape ≤ at → branches scene at ≡ []
no_branches scene count at past =
    ap (λ link. if is_fork_link link then (left_branch scene at ++ right_branch scene at) else []) (no_link scene count at past)

-- what has still to be marked is there, and is not set
pub to_mark_is : (ms : List Bool) (from : Option ℕ) (at : ℕ) → to_mark ms from ≡ Some at → (from ≡ Some at) × (slice_get ms at ≡ Some false)
to_mark_is ms None at is = absurd (none-some at is)
to_mark_is ms (Some here) at is = by (slice_get ms here) refl
  where
    by : (o : Option Bool) → slice_get ms here ≡ o → (Some here ≡ Some at) × (slice_get ms at ≡ Some false)
    by None e = absurd (none-some at (sym (ap (λ m. if is_unset m then Some here else None) e) ∙ is))
    by (Some true) e = absurd (none-some at (sym (ap (λ m. if is_unset m then Some here else None) e) ∙ is))
    by (Some false) e =
        let same = sym (ap (λ m. if is_unset m then Some here else None) e) ∙ is in
        (same, ap (slice_get ms) (sym (some_is same)) ∙ e)

-- where nothing has to be marked, it is
pub to_mark_none : (ms : List Bool) (from : Option ℕ) → to_mark ms from ≡ None → IsDone ms from
to_mark_none ms None is at no_such unset = none-some at no_such
to_mark_none ms (Some here) is at same unset =
    none-some here (sym is ∙ ap (λ m. if is_unset m then Some here else None) (ap (slice_get ms) (some_is same) ∙ unset))

-- where nothing is marked, all that is marked leads on
pub none_closed : (next : ℕ → Option ℕ) (n : ℕ) → IsClosed next (replicate n false)
none_closed next n at to set leads within = absurd (false≢true (sym (get_or-replicate n at false false inside) ∙ get_or_from_slice_get (replicate n false) at true false set))
  where
    inside : at < n
    inside = let below = slice_get_within (replicate n false) at true set in omega (arith, below, length-replicate n false)
