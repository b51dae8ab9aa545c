-- A machine at the beginning, and after a fault.
use Rattle.std.proofs.Common.{◌≡◌, ℕ, zero, suc, List, [], ◌∷◌, length, get_or, refl, sym, ap, ◌∙◌, subst, Option, Some, None, Bool, cond, arith, ne_eqb}
use Rattle.std.specs.Prelude.{slice_get}
use Rattle.ppm_strands.specs.Tree.{Words}
use Rattle.ppm_strands.specs.Strand.{Frame}
use Rattle.ppm_unseen.specs.Run.{State, begun, numbered, begun_if_any}
use Rattle.ppm_code.specs.declared.location.FrameWord.{FrameWord}
use Rattle.ppm_code.specs.declared.location.FrameWord.TheVariants.{Slot, Value}
use Rattle.ppm_code.specs.Strands.{at_capsule, entry_of}
use Rattle.ppm_depth.specs.declared.frame.Finish.{Finish}
use Rattle.ppm_filled.specs.Racing.{OwnWord, OfFrame, Place, At, Exit, beginning, framed}
use Rattle.ppm_racy.specs.declared.code.RacyParts.{RacyParts}
use Rattle.ppm_racy.specs.Code.{plain_code}
use Rattle.ppm_interleaving.specs.declared.deed.Turn.TheVariants.{Fault}
use Rattle.ppm_interleaving.specs.declared.machine.Machine.{Machine}
use Rattle.ppm_interleaving.specs.declared.own.Own.{Own}
use Rattle.ppm_interleaving.specs.declared.running.Running.{Running}
use Rattle.ppm_interleaving.specs.declared.strand.Strand.{Strand}
use Rattle.ppm_interleaving.specs.declared.strand.Strand.TheVariants.{Running as IsRunning, Waiting as IsWaiting, Tells, Over}
use Rattle.ppm_interleaving.specs.Owns.{AreRootWords, ShowsOwn, frame_word_in}
use Rattle.ppm_interleaving.specs.Steps.{IsBegun, BeginsFrame}
use Rattle.ppm_interleaving.specs.Shows.{Shows, ShowsStrand, finish_in, system}
use Rattle.ppm_interleaving.specs.Turns.{Moment, moment, ComesBy, Begins, Fails, Spared, is_under_way}
use Rattle.ppm_interleaving.proofs.EndLemmas.{begun_state, begun_asks}

-- the words of the root's frame
root_own : (own : Own) (root : FrameWord → ℕ) → AreRootWords own.slots.items root → own.value ≡ 0 → own.block.items ≡ [] → ShowsOwn own (framed root)
root_own own root words value block = record { frame = by; block = λ n. ap (λ (ws : List ℕ). get_or ws n 0) (sym block) }
  where
    by : (k : FrameWord) → framed root (OfFrame k) ≡ frame_word_in own k
    by (Slot i) = words.slots i
    by Value = words.value ∙ sym value

module _ (code : RacyParts) (array_words : ℕ) (root : FrameWord → ℕ) (arrays : Words) where
  -- the root's strand alone
  pub starts : (m : Machine) (r : Running) → m.strands.items ≡ IsRunning r ∷ [] → IsBegun (entry_of (plain_code code) code.root) r.own r
      → AreRootWords r.own.slots.items root → r.own.value ≡ 0 → r.own.block.items ≡ [] → ((x : ℕ) → arrays x ≡ get_or m.words.items x 0)
      → length m.words.items ≡ array_words → Shows code array_words root arrays [] m
  starts m r strands begins words value block same word_count = record {
    words = same;
    word_count = word_count;
    strand_count = ap length (sym strands);
    strands = λ j. subst (λ (xs : List Strand). ShowsStrand code array_words root arrays (slice_get xs j) j []) (sym strands) (at j);
    finishes = record {
      told = λ j f is. absurd (none j f (ap (λ (xs : List Strand). finish_in xs j) (sym strands) ∙ is));
      alone = λ j result over. absurd over;
    };
  }
    where
      frame : Frame OwnWord Place
      frame = beginning (plain_code code) code.root root

      as_frame : BeginsFrame r frame
      as_frame = record {
        begun = record { capsule = refl; at = begins.at; registers = begins.registers; own = refl; settled = begins.settled; since = begins.since };
        point = ap (λ (n : ℕ). At (at_capsule n)) (sym begins.capsule);
        own = root_own r.own root words value block;
      }

      at : (j : ℕ) → ShowsStrand code array_words root arrays (slice_get (IsRunning r ∷ []) j) j []
      at zero = (
        begun (system code array_words root arrays) frame,
        Begins,
        (framed root, as_frame.own, begun_state code array_words root arrays r frame as_frame),
        sym (begun_asks r.capsule r.own r as_frame.begun),
      )
      at (suc j) =
          let other : numbered 0 (frame ∷ []) (suc j) ≡ None = ap (λ (t : Bool). cond t (Some frame) None) (ne_eqb (suc j) 0 (λ e. omega (arith, e))) in (
            begun_if_any (system code array_words root arrays) (numbered 0 (frame ∷ []) (suc j)),
            Begins,
            ap (begun_if_any (system code array_words root arrays)) other,
            refl,
          )

      none : (j : ℕ) (f : Finish) → finish_in (IsRunning r ∷ []) j ≡ Some f → ⊥
      none zero f is = cc
      none (suc j) f is = cc

  module _ (h : List Moment) (i : ℕ) where
    -- a fault of a strand under way
    pub fails : (old new : Running) → IsBegun old.capsule old.own new → ShowsStrand code array_words root arrays (Some (IsRunning old)) i h
        → ShowsStrand code array_words root arrays (Some (IsRunning new)) i (moment (Fault i) None ∷ h)
    fails old new begins shows =
        let at = subst (λ (σ : State OwnWord Place Exit). ComesBy (system code array_words root arrays) i h σ) shows.2.2 shows.1 in
        let as_frame : BeginsFrame new (record { own = shows.2.0; point = At (at_capsule old.capsule) }) = record {
          begun = record { capsule = refl; at = begins.at; registers = begins.registers; own = refl; settled = begins.settled; since = begins.since };
          point = ap (λ (n : ℕ). At (at_capsule n)) (sym begins.capsule);
          own = subst (λ (own : Own). ShowsOwn own shows.2.0) (sym begins.own) shows.2.1;
        } in (
          _,
          Fails at,
          (
            shows.2.0,
            as_frame.own,
            begun_state code array_words root arrays new (record { own = shows.2.0; point = At (at_capsule old.capsule) }) as_frame,
          ),
          sym (begun_asks new.capsule new.own new as_frame.begun),
        )

    -- of one that tells the trap of a branch, which begins that anew
    pub tells_again : (f : Finish) → ShowsStrand code array_words root arrays (Some (Tells f)) i h
        → ShowsStrand code array_words root arrays (Some (Tells f)) i (moment (Fault i) None ∷ h)
    tells_again f shows =
        let at = subst (λ (σ : State OwnWord Place Exit). ComesBy (system code array_words root arrays) i h σ) shows.2.1 shows.1 in
        (_, Fails at, (shows.2.0, refl), refl)

    -- and of all others
    pub spared : (found : Option Strand) → ((o : Running) → found ≡ Some (IsRunning o) → ⊥) → ((f : Finish) → found ≡ Some (Tells f) → ⊥)
        → ShowsStrand code array_words root arrays found i h → ShowsStrand code array_words root arrays found i (moment (Fault i) None ∷ h)
    spared None not_running not_telling shows =
        (shows.0, Spared shows.1 (ap is_under_way shows.2), shows.2, shows.3)
    spared (Some (IsRunning r)) not_running not_telling shows = absurd (not_running r refl)
    spared (Some (Tells f)) not_running not_telling shows = absurd (not_telling f refl)
    spared (Some (IsWaiting w)) not_running not_telling shows = (shows.0, Spared shows.1 (ap is_under_way shows.2.3), shows.2, shows.3)
    spared (Some (Over f)) not_running not_telling shows = (shows.0, Spared shows.1 (ap is_under_way shows.2), shows.2, shows.3)
