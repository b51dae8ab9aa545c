-- Over legs, by places. Words that come back have the kinds, the bottoms and the entries of those before, nobody is dead, and each place is held by
-- its own processor; so what holds of a leg's last state holds where the next one begins.
use Rattle.std.proofs.Common.{◌≡◌, ◌<◌, ◌+◌, ℕ, Bool, true, false, List, [], ◌∷◌, refl, sym, ap, ◌∙◌, subst, arith}
use Rattle.std.specs.List.{AllByRecursion}
use Rattle.std.specs.Prelude.{nat_lt}
use Rattle.std.proofs.lemmas.Bool.{ltb-true}
use Rattle.ppm_strands.specs.Tree.{Words, Tree}
use Rattle.ppm_strands.specs.Calm.{Calm}
use Rattle.ppm_words.specs.declared.named_array.NamedArray.{NamedArray}
use Rattle.ppm_cells.specs.declared.cell.Cell.TheVariants as cells
use Rattle.ppm_cells.specs.declared.shape.Shape.{Shape}
use Rattle.ppm_cells.specs.declared.shape.Takeover.TheVariants.{ByPlaces}
use Rattle.ppm_strands.specs.Strand.{Frame}
use Rattle.ppm_code.specs.Strands.{Point, Result}
use Rattle.ppm_code.specs.declared.code.CodeParts.{CodeParts}
use Rattle.ppm_code.specs.declared.location.FrameWord.{FrameWord}
use Rattle.ppm_layout.specs.Correct.{Opens}
use Rattle.ppm_layout.specs.Root.{root_strand}
use Rattle.ppm_layout.specs.declared.images.Image.{Image}
use Rattle.ppm_step.specs.Among.{IsTurnAmong}
use Rattle.ppm_step.specs.Contents.{content_of}
use Rattle.ppm_step.specs.State.{State as RunState, opening, is_work}
use Rattle.ppm_step.specs.declared.content.Content.TheVariants.{AHolder}
use Rattle.ppm_step.specs.declared.content.Reading.TheVariants.{AsEntry, AsHolder}
use Rattle.ppm_step.specs.declared.turn.Turn.{Turn}
use Rattle.ppm_tickets.specs.Homes.{Home}
use Rattle.ppm_tickets.specs.Lawful.{IsDead, IsTaken}
use Rattle.ppm_tickets.specs.Renewal.{IsRenewal}
use Rattle.ppm_tickets.specs.View as spots
use Rattle.ppm_tickets.specs.Words.{Word, Held, Number, Slot, Holder, Dead}
use Rattle.ppm_tickets.proofs.ViewLemmas.{shown_cell, shows, again, if_false}
use Rattle.ppm_frames.specs.Views.{view}
use Rattle.ppm_frames.specs.Seen.{arrays_at}
use Rattle.ppm_frames.specs.Skeletons.{Skeleton}
use Rattle.ppm_kept.specs.Running.{IsFair, strands}
use Rattle.ppm_kept.specs.Kept.{owner}
use Rattle.ppm_runs.specs.Legs.{Leg, GoOn, words_then, state_then, AreLegs, homes_then, forked_then, taken_then, last_state}
use Rattle.ppm_runs.specs.Legs.{all_homes, all_forked, all_taken}
use Rattle.ppm_runs.specs.Run.{setting}
use Rattle.ppm_runs.proofs.BackLemmas.{kinds_back, bottoms_back}
use Rattle.ppm_runs.proofs.JoinLemmas.{joint_of}
use Rattle.ppm_runs.proofs.LegLemmas.{goes_on_back}
use Rattle.ppm_runs.proofs.ShownLemmas.{halves}
use Rattle.ppm_runs.proofs.StandLemmas.{kinds_same}
use Rattle.ppm_progress.specs.Idle.{IdleAreEmpty}
use Rattle.ppm_progress.specs.Legs.{SomePlaceIsAtWorkOverLegs, SomebodyWorksOverLegs}
use Rattle.ppm_progress.proofs.AdvanceRuns.{IsAdvancing, run_of}
use Rattle.ppm_progress.proofs.AliveLemmas.{AreAtHome, first_home}
use Rattle.ppm_progress.proofs.IdleRuns.{first_empty, all_places}
use Rattle.ppm_progress.proofs.ReadyLemmas.{advancing_first, ready_at}
use Rattle.ppm_progress.proofs.UnhurtRuns.{IsUnhurt}
use Rattle.ppm_progress.proofs.WorkLemmas.{somewhere}
use Rattle.ppm_progress.proofs.WorkRuns.{places_open, works_from}

-- words that come back
module _ (s : Shape) (ws back : List ℕ) (renewal : IsRenewal s ws back) where
  entry_back : (v i : ℕ) → spots.view s back (Slot v i) ≡ spots.view s ws (Slot v i)
  entry_back v i = by (spots.is_shown s (Slot v i)) refl
    where
      by : (y : Bool) → spots.is_shown s (Slot v i) ≡ y → spots.view s back (Slot v i) ≡ spots.view s ws (Slot v i)
      by true e =
          shows s back (Slot v i) e
          ∙ ap (λ (n : ℕ). spots.word_as (content_of AsEntry n)) (renewal.renewed (cells.EntryWord v i) (shown_cell s (Slot v i) e))
          ∙ sym (shows s ws (Slot v i) e)
      by false e =
          if_false (spots.is_shown s (Slot v i)) _ (spots.absent (Slot v i)) e ∙ sym (if_false (spots.is_shown s (Slot v i)) _ (spots.absent (Slot v i)) e)

  empty_back : IdleAreEmpty s ws → IdleAreEmpty s back
  empty_back empty p i idle lt =
      let kind = sym (kinds_same s back p) ∙ ap (λ (f : ℕ → _). f p) (kinds_back s ws back renewal) ∙ kinds_same s ws p in
      let was = ap is_work (sym kind) ∙ idle in
      subst IsTaken (sym (entry_back p i)) (empty p i was (subst (λ (n : ℕ). i < n) (bottoms_back s ws back renewal p) lt))

  alive_back : (c : ℕ) → spots.view s back (Dead c) ≡ Number 0
  alive_back c = by (nat_lt c s.processors) refl
    where
      by : (y : Bool) → nat_lt c s.processors ≡ y → spots.view s back (Dead c) ≡ Number 0
      by true e = shows s back (Dead c) e ∙ ap Number (renewal.renewed (cells.DeadWord c) (ltb-true c s.processors e))
      by false e = if_false (nat_lt c s.processors) _ (Number 0) e

  held_back : (v : ℕ) → (t : ℕ) × (spots.view s back (Holder v) ≡ Held t v)
  held_back v = by (nat_lt v s.processors) refl
    where
      by : (y : Bool) → nat_lt v s.processors ≡ y → (t : ℕ) × (spots.view s back (Holder v) ≡ Held t v)
      by true e =
          let lt = ltb-true v s.processors e in
          let few = s.within.processors_most in
          let r = renewal.renewed (cells.HolderWord v) lt in (
            r.0 + 1,
            shows s back (Holder v) e ∙ ap (λ (w : ℕ). spots.word_as (content_of AsHolder w)) r.4
                ∙ ap spots.word_as (again (AHolder (record { tag = r.0 + 1; processor = v })) tt (omega (arith, lt, few), (r.3, tt))),
          )
      by false e = (0, if_false (nat_lt v s.processors) _ (Held 0 v) e)

  home_back : AreAtHome (spots.view s back)
  home_back = record { alive = λ c. subst (λ (w : Word). IsDead w → ⊥) (sym (alive_back c)) (λ z. z); held = held_back }

-- a state of a run whose tree advances comes back as one
advancing_back : (s : Shape) (code : CodeParts) → s.takeover ≡ ByPlaces → IsFair code → (root : Tree (Frame FrameWord Point) Result) (input : Words)
    → (state : RunState) (h : ℕ → Home) (forked taken : List ℕ) (t : Skeleton) → IsAdvancing s code root input state h forked taken t
    → (back : List ℕ) → GoOn s state.words back → IsAdvancing s code root input (opening back s.processors) h forked taken t
advancing_back s code places fair root input state h forked taken t now back on =
    let was = run_of s code root input state h forked taken t now places in
    let run = goes_on_back s code places fair root input state h forked taken t was back on in
    record {
      run = record { halves = halves run; joint = joint_of s code places root input (opening back s.processors) h forked taken t run; broken = run.broken };
      advances = now.advances;
      fresh = λ r fresh un. ap (λ (f : ℕ → _). f (owner (setting s code) r)) (kinds_back s state.words back on.renewal) ∙ now.fresh r fresh un;
    }

module _ (code : CodeParts) (input : List NamedArray) (s : Shape) (keeper : ℕ) (im : Image) (places : s.takeover ≡ ByPlaces) (fair : IsFair code)
    (opens : Opens code input s keeper im) (calm : Calm (strands s code) (root_strand code input) (arrays_at (view s im.words))) where
  abbrev root : Tree (Frame FrameWord Point) Result
  root = root_strand code input

  abbrev arrays : Words
  arrays = arrays_at (view s im.words)

  -- where the run goes on after legs, and after turns of the next one
  abbrev Then : List Leg → Skeleton → Type 0
  Then legs t = IsAdvancing s code root arrays (state_then s code im.words legs) (homes_then s code im.words legs) (forked_then s code im.words legs)
      (taken_then s code im.words legs) t

  abbrev After : List Leg → List Turn → Skeleton → Type 0
  After legs turns t = IsAdvancing s code root arrays (last_state s code im.words legs turns) (all_homes s code im.words legs turns)
      (all_forked s code im.words legs turns) (all_taken s code im.words legs turns) t

  goes : (legs : List Leg) → (t : Skeleton) × Then legs t → (turns : List Turn) → AllByRecursion (IsTurnAmong s.processors) turns
      → (t : Skeleton) × After legs turns t
  goes legs now turns among =
      ready_at s code places fair root arrays (state_then s code im.words legs) (homes_then s code im.words legs) (forked_then s code im.words legs)
      (taken_then s code im.words legs) now.0 turns among now.1

  begins : (legs : List Leg) → AreLegs s code im.words legs → (t : Skeleton) × Then legs t
  begins [] are = (_, advancing_first code input s keeper im opens calm)
  begins (leg ∷ legs) are =
      let last = goes legs (begins legs are.0) leg.turns are.1 in (
        last.0,
        advancing_back s code places fair root arrays (last_state s code im.words legs leg.turns) (all_homes s code im.words legs leg.turns)
            (all_forked s code im.words legs leg.turns) (all_taken s code im.words legs leg.turns) last.0 last.1 leg.back are.2,
      )

  empty_after : (legs : List Leg) → AreLegs s code im.words legs → IdleAreEmpty s (words_then s code im.words legs)
      → (turns : List Turn) → AllByRecursion (IsTurnAmong s.processors) turns → IdleAreEmpty s (last_state s code im.words legs turns).words
  empty_after legs are empty turns among =
      let now = begins legs are in
      let state = state_then s code im.words legs in
      let h = homes_then s code im.words legs in
      let f = forked_then s code im.words legs in
      let tk = taken_then s code im.words legs in
      (all_places s code fair root arrays places state h f tk now.0 (run_of s code root arrays state h f tk now.0 now.1 places) turns among empty).0

  empty_then : (legs : List Leg) → AreLegs s code im.words legs → IdleAreEmpty s (words_then s code im.words legs)
  empty_then [] are = first_empty code input s keeper im opens calm
  empty_then (leg ∷ legs) are =
      empty_back s (last_state s code im.words legs leg.turns).words leg.back are.2.renewal (empty_after legs are.0 (empty_then legs are.0) leg.turns are.1)

  home_then : (legs : List Leg) → AreLegs s code im.words legs → AreAtHome (spots.view s (words_then s code im.words legs))
  home_then [] are = first_home code input s keeper im opens
  home_then (leg ∷ legs) are = home_back s (last_state s code im.words legs leg.turns).words leg.back are.2.renewal

  pub unhurt_then : (legs : List Leg) (are : AreLegs s code im.words legs)
      → (t : Skeleton) × IsUnhurt s code root arrays (state_then s code im.words legs) (homes_then s code im.words legs) (forked_then s code im.words legs)
      (taken_then s code im.words legs) t
  unhurt_then legs are =
      let now = begins legs are in
      (now.0, record { advancing = now.1; home = home_then legs are; empty = empty_then legs are })

pub some_place_over_legs : SomePlaceIsAtWorkOverLegs
some_place_over_legs code input s keeper im places fair opens calm legs are turns among =
    let last = last_state s code im.words legs turns in
    let now = goes code input s keeper im places fair opens calm legs (begins code input s keeper im places fair opens calm legs are) turns among in
    let first = empty_then code input s keeper im places fair opens calm legs are in
    let empty = empty_after code input s keeper im places fair opens calm legs are first turns among in
    somewhere s code (root_strand code input) (arrays_at (view s im.words)) last (all_homes s code im.words legs turns)
    (all_forked s code im.words legs turns) (all_taken s code im.words legs turns) now.0 now.1 empty
    (places_open s.takeover (spots.view s last.words) places)

pub somebody_over_legs : SomebodyWorksOverLegs
somebody_over_legs code input s keeper im places fair opens calm legs are turns among none unset =
    let now = unhurt_then code input s keeper im places fair opens calm legs are in
    works_from s code fair (root_strand code input) (arrays_at (view s im.words)) (words_then s code im.words legs) (homes_then s code im.words legs)
    (forked_then s code im.words legs) (taken_then s code im.words legs) now.0 now.1 turns among none unset
