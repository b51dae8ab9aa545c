-- What register work comes to is a step of the model.
use Rattle.std.proofs.Common.{◌≡◌, ℕ, List, [], ◌∷◌, ◌++◌, length, get_or, set, sym, ap, ◌∙◌, subst, reverse, append_assoc, append-nil}
use Rattle.std.proofs.lemmas.List.{map-append, reverse-append}
use Rattle.ppm_strands.specs.Tree.{Words}
use Rattle.ppm_strands.specs.Capsule.{Memory, store}
use Rattle.ppm_strands.specs.Ahead.{put}
use Rattle.ppm_unseen.specs.Capsule.{Capsule as Racing, Keeps, Changes}
use Rattle.ppm_unseen.specs.Run.{System, Deed, State, UnderWay, Changed as HasChanged, Asked, now}
use Rattle.ppm_code.specs.declared.location.FrameWord.{FrameWord}
use Rattle.ppm_code.specs.Strands.{Result, at_capsule}
use Rattle.ppm_filled.specs.Racing.{OwnWord, OfFrame, OfBlock, own_words, Place, At, Exit}
use Rattle.ppm_racy.specs.declared.code.RacyParts.{RacyParts}
use Rattle.ppm_racy.specs.Capsules.{capsule_from, built}
use Rattle.ppm_racy.specs.Code.{instrs_of}
use Rattle.ppm_interleaving.specs.declared.change.Change.{Change as Asking}
use Rattle.ppm_interleaving.specs.declared.running.Running.{Running}
use Rattle.ppm_interleaving.specs.declared.running.Touched.TheVariants.{Goes, Changed}
use Rattle.ppm_interleaving.specs.Changes.{change_of, changes_of}
use Rattle.ppm_interleaving.specs.Owns.{ShowsOwn}
use Rattle.ppm_interleaving.specs.Steps.{AsksFor, MovesUnseen, MovesSeen, StoresOwn, TurnsTo, asked_by, under_way}
use Rattle.ppm_interleaving.specs.Shows.{system}
use Rattle.ppm_interleaving.proofs.StepLemmas.{with_asked, with_settled, leaves, alters, keeps_frame, keeps_block}

-- one change more, the last one first
more_asked : (settled since : List Asking) (k : Asking)
    → reverse (changes_of (settled ++ (since ++ k ∷ []))) ≡ change_of k ∷ reverse (changes_of (settled ++ since))
more_asked settled since k =
    ap (λ (ks : List Asking). reverse (changes_of ks)) (sym (append_assoc settled since (k ∷ [])))
    ∙ ap reverse (map-append change_of (settled ++ since) (k ∷ []))
    ∙ reverse-append (changes_of (settled ++ since)) (change_of k ∷ [])

asked_more : (old new : Running) (k : Asking) → new.settled.items ≡ old.settled.items → new.since.items ≡ old.since.items ++ k ∷ []
    → asked_by new ≡ with_asked (change_of k) (asked_by old)
asked_more old new k settled since =
    (λ i. record { all = reverse (changes_of (settled i ++ since i)); settled = reverse (changes_of (settled i)) })
    ∙ ap (λ (ks : List _). record { all = ks; settled = reverse (changes_of old.settled.items) }) (more_asked old.settled.items old.since.items k)

settled_more : (old new : Running) (k : Asking) → new.settled.items ≡ old.settled.items ++ (old.since.items ++ k ∷ []) → new.since.items ≡ []
    → asked_by new ≡ with_settled (change_of k) (asked_by old)
settled_more old new k settled since =
    (λ i. record { all = reverse (changes_of (settled i ++ since i)); settled = reverse (changes_of (settled i)) })
    ∙ ap (λ (ks : List Asking). record { all = reverse (changes_of ks); settled = reverse (changes_of (old.settled.items ++ (old.since.items ++ k ∷ []))) })
    (append-nil (old.settled.items ++ (old.since.items ++ k ∷ [])))
    ∙ ap (λ (ks : List _). record { all = ks; settled = ks }) (more_asked old.settled.items old.since.items k)

pub same_asked : (old new : Running) → new.settled.items ≡ old.settled.items → new.since.items ≡ old.since.items → asked_by new ≡ asked_by old
same_asked old new settled since = λ i. record { all = reverse (changes_of (settled i ++ since i)); settled = reverse (changes_of (settled i)) }

-- the strand before its touch, with the registers as they are then
pub record IsBefore (old mid : Running) (next : ℕ) (g : List ℕ) : Type 0 where
  pub capsule : mid.capsule ≡ old.capsule
  pub at : mid.at ≡ next
  pub registers : mid.registers ≡ g
  pub own : mid.own ≡ old.own
  pub settled : mid.settled.items ≡ old.settled.items
  pub since : mid.since.items ≡ old.since.items

module _ (code : RacyParts) (array_words : ℕ) where
  -- a strand at an instruction
  abbrev pub standing_at : (capsule at : ℕ) → List ℕ → Memory OwnWord → State OwnWord Place Exit
  standing_at capsule at g o = UnderWay (At (at_capsule capsule))
      (capsule_from (built (instrs_of code capsule)) array_words 0 at (instrs_of code capsule) g) o

  -- what follows in the capsule
  abbrev pub following : (old : Running) → ℕ → List ℕ → Racing OwnWord Exit
  following old next g = capsule_from (built (instrs_of code old.capsule)) array_words 0 next (instrs_of code old.capsule) g

  pub same_state : (old new : Running) (next : ℕ) (g : List ℕ) (o : Memory OwnWord) → new.capsule ≡ old.capsule → new.at ≡ next → new.registers ≡ g
      → under_way code array_words new o ≡ standing_at old.capsule next g o
  same_state old new next g o capsule at registers = λ i. standing_at (capsule i) (at i) (registers i) o

  module _ (root : FrameWord → ℕ) (arrays : Words) (t : List (Deed OwnWord Place Result)) where
    abbrev pub s : System OwnWord Place Exit Result
    s = system code array_words root arrays

    pub carried : {σ ρ τ υ : State OwnWord Place Exit} {a b c : Asked} → ρ ≡ σ → υ ≡ τ → c ≡ b → MovesUnseen s t σ τ a b → MovesUnseen s t ρ υ a c
    carried {σ = σ} {τ = τ} {υ = υ} {a = a} {b = b} {c = c} p q r m =
        subst (λ (x : State OwnWord Place Exit). MovesUnseen s t x υ a c) (sym p)
        (subst (λ (x : State OwnWord Place Exit). MovesUnseen s t σ x a c) (sym q) (subst (λ (x : Asked). MovesUnseen s t σ τ a x) (sym r) m))

    carried_seen : {me : ℕ} {d e : Deed OwnWord Place Result} {σ ρ τ υ : State OwnWord Place Exit} {a b c : Asked}
        → ρ ≡ σ → e ≡ d → υ ≡ τ → c ≡ b → MovesSeen s me t σ d τ a b → MovesSeen s me t ρ e υ a c
    carried_seen {me = me} {d = d} {e = e} {σ = σ} {τ = τ} {υ = υ} {a = a} {b = b} {c = c} p f q r m =
        subst (λ (x : State OwnWord Place Exit). MovesSeen s me t x e υ a c) (sym p)
        (subst (λ (x : Deed OwnWord Place Result). MovesSeen s me t σ x υ a c) (sym f)
        (subst (λ (x : State OwnWord Place Exit). MovesSeen s me t σ d x a c) (sym q) (subst (λ (x : Asked). MovesSeen s me t σ d τ a x) (sym r) m)))

  module _ (old mid : Running) (next : ℕ) (g : List ℕ) (before : IsBefore old mid next g) (words after : List ℕ) where
    -- a change is asked for
    pub asks_goes : (k : Asking) (new : Running)
        → following old old.at old.registers ≡ Changes (change_of k).at (change_of k).by (following old next g)
        → AsksFor mid k words (Goes new) after → TurnsTo code array_words old words (Goes new) after
    asks_goes k new left asks = (
      asks.1,
      λ root arrays t o shows same. (
        o,
        subst (λ own. ShowsOwn own o) (sym (asks.0.own ∙ before.own)) shows,
        carried root arrays t (ap (λ (c : Racing OwnWord Exit). UnderWay (At (at_capsule old.capsule)) c o) left)
            (same_state old new next g o (asks.0.capsule ∙ before.capsule) (asks.0.at ∙ before.at) (asks.0.registers ∙ before.registers))
            (asked_more old new k (asks.2 ∙ before.settled) (asks.3 ∙ ap (λ (ks : List Asking). ks ++ k ∷ []) before.since))
            (leaves code array_words root arrays t (At (at_capsule old.capsule)) o (change_of k).at (change_of k).by (following old next g) (asked_by old)
            (ap (change_of k).by (same (change_of k).at) ∙ asks.4 ∙ sym (same (change_of k).at))),
      ),
    )

    pub asks_changes : (k : Asking) (new : Running) (word was is : ℕ)
        → following old old.at old.registers ≡ Changes (change_of k).at (change_of k).by (following old next g)
        → ((x : ℕ) → get_or (set words word is) x 0 ≡ put (λ y. get_or words y 0) word is x)
        → length (set words word is) ≡ length words
        → AsksFor mid k words (Changed new word was is) after → TurnsTo code array_words old words (Changed new word was is) after
    asks_changes k new word was is left puts same_length asks = (
      asks.5,
      λ x. ap (λ (ws : List ℕ). get_or ws x 0) asks.1 ∙ puts x,
      ap length asks.1 ∙ same_length,
      λ root arrays t o shows same.
          let found : now (system code array_words root arrays) t (change_of k).at ≡ was = same (change_of k).at ∙ ap (λ (x : ℕ). get_or words x 0) (sym asks.4) ∙ sym asks.5 in
          let made : (change_of k).by (now (system code array_words root arrays) t (change_of k).at) ≡ is = ap (change_of k).by found ∙ sym asks.6 in (
            subst (λ own. ShowsOwn own o) (sym (asks.0.own ∙ before.own)) shows,
            λ me. carried_seen root arrays t (ap (λ (c : Racing OwnWord Exit). UnderWay (At (at_capsule old.capsule)) c o) left)
                (λ i. HasChanged me (asks.4 i) (sym made i))
                (same_state old new next g o (asks.0.capsule ∙ before.capsule) (asks.0.at ∙ before.at) (asks.0.registers ∙ before.registers))
                (settled_more old new k (asks.2 ∙ (λ i. before.settled i ++ (before.since i ++ k ∷ []))) asks.3)
                (alters code array_words root arrays t (At (at_capsule old.capsule)) o me (change_of k).at (change_of k).by (following old next g) (asked_by old)
                (λ e. asks.7 (sym made ∙ e ∙ found))),
          ),
    )

    -- a word of the strand's own is stored
    pub stores_frame : (w : FrameWord) (v : ℕ) (new : Running)
        → following old old.at old.registers ≡ Keeps (OfFrame w) v (following old next g)
        → StoresOwn mid (OfFrame w) v words (Goes new) after → TurnsTo code array_words old words (Goes new) after
    stores_frame w v new left stores = (
      stores.5,
      λ root arrays t o shows same. (
        store own_words o (OfFrame w) v,
        stores.6 o (subst (λ own. ShowsOwn own o) (sym before.own) shows),
        carried root arrays t (ap (λ (c : Racing OwnWord Exit). UnderWay (At (at_capsule old.capsule)) c o) left)
            (same_state old new next g (store own_words o (OfFrame w) v) (stores.0 ∙ before.capsule) (stores.1 ∙ before.at) (stores.2 ∙ before.registers))
            (same_asked old new (stores.3 ∙ before.settled) (stores.4 ∙ before.since))
            (keeps_frame code array_words root arrays t (At (at_capsule old.capsule)) o w v (following old next g) (asked_by old)),
      ),
    )

    pub stores_block : (n : ℕ) (v : ℕ) (new : Running)
        → following old old.at old.registers ≡ Keeps (OfBlock n) v (following old next g)
        → StoresOwn mid (OfBlock n) v words (Goes new) after → TurnsTo code array_words old words (Goes new) after
    stores_block n v new left stores = (
      stores.5,
      λ root arrays t o shows same. (
        store own_words o (OfBlock n) v,
        stores.6 o (subst (λ own. ShowsOwn own o) (sym before.own) shows),
        carried root arrays t (ap (λ (c : Racing OwnWord Exit). UnderWay (At (at_capsule old.capsule)) c o) left)
            (same_state old new next g (store own_words o (OfBlock n) v) (stores.0 ∙ before.capsule) (stores.1 ∙ before.at) (stores.2 ∙ before.registers))
            (same_asked old new (stores.3 ∙ before.settled) (stores.4 ∙ before.since))
            (keeps_block code array_words root arrays t (At (at_capsule old.capsule)) o n v (following old next g) (asked_by old)),
      ),
    )
