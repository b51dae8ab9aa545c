-- One turn: what is done to one processor and to the words is what the rules make of the state.
use Rattle.std.proofs.Common.{◌≡◌, ◌∙◌, ℕ, ◌+◌, Bool, true, false, if◌then◌else◌, List, [], ◌∷◌, length, map, set, slice_get, option_map, Option, Some, refl, sym, ap, subst}
use Rattle.std.proofs.lemmas.List.{map-set}
use Rattle.std.proofs.lemmas.Option.{slice_get-map}
use Rattle.ppm_cells.specs.declared.shape.Shape.{Shape}
use Rattle.ppm_code.specs.declared.code.CodeParts.{CodeParts}
use Rattle.ppm_words.specs.declared.event.Event.{Event}
use Rattle.ppm_step.specs.declared.local.Local.{Local}
use Rattle.ppm_step.specs.declared.turn.Act.{Act}
use Rattle.ppm_step.specs.declared.turn.Next.{Next}
use Rattle.ppm_step.specs.declared.turn.Turn.{Turn}
use Rattle.ppm_step.specs.Locals.{standing_of}
use Rattle.ppm_step.specs.Standings.{Standing, IsLost, IsPlaced, IsAt, IsWithin, IsRunning, IsBroken, IsDone}
use Rattle.ppm_step.specs.State.{State, stand_in, stand_of, acts, happens, next_of, forks_of, takes_of, work_of}
use Rattle.ppm_step.specs.Told.{event_by, is_work_turn, told_of}
use Rattle.ppm_core.specs.Acts.{words_acted, stand_acted, event_acted, forks_at, takes_at}
use Rattle.ppm_core.specs.Machine.{Holding, seen}
use Rattle.ppm_core.specs.Situation.{turned}
use Rattle.ppm_core.proofs.ListLemmas.{get_changed, set_same}

abbrev pub state_acted : Shape → CodeParts → State → (own : ℕ) → Act → Standing → State
state_acted s code state own act standing = record {
  words = words_acted s code own act state.words standing;
  stand = set state.stand own (stand_acted s code own act state.words standing);
}

-- the act of a processor that stands there
pub acts_are : (s : Shape) (code : CodeParts) (state : State) (own : ℕ) (act : Act) (standing : Standing) → slice_get state.stand own ≡ Some standing
    → acts s code state own act standing ≡ state_acted s code state own act standing
acts_are s code state own act IsLost e = refl
acts_are s code state own act (IsPlaced place) e = refl
acts_are s code state own act (IsAt place restart) e = refl
acts_are s code state own act (IsWithin seat row) e = refl
acts_are s code state own act (IsRunning seat rest) e = refl
acts_are s code state own act (IsBroken place) e = refl
acts_are s code state own act IsDone e = λ i. record { words = state.words; stand = sym (set_same state.stand own IsDone e) i }

pub event_is : (s : Shape) (code : CodeParts) (state : State) (turn : Turn) (standing : Standing)
    → event_acted s code turn.processor turn.act state.words standing ≡ event_by s code state turn standing
event_is s code state turn IsLost = refl
event_is s code state turn (IsPlaced place) = refl
event_is s code state turn (IsAt place restart) = refl
event_is s code state turn (IsWithin seat row) = refl
event_is s code state turn (IsRunning seat rest) = refl
event_is s code state turn (IsBroken place) = refl
event_is s code state turn IsDone = refl

-- a turn is work, or not
one_if : (processor : ℕ) (work : Bool) → (if work then 1 else 0) ≡ length (if work then processor ∷ [] else [])
one_if processor true = refl
one_if processor false = refl

pub work_is : (s : Shape) (code : CodeParts) (processor : ℕ) (act : Act) (standing : Standing)
    → (if is_work_turn s code act standing then 1 else 0) ≡ length (if is_work_turn s code act standing then processor ∷ [] else [])
work_is s code processor act standing = one_if processor (is_work_turn s code act standing)

-- where the processor of the turn stands
pub stands_at : (m : Holding) (n : ℕ) (old : Local) → slice_get m.locals n ≡ Some old
    → slice_get (seen m).state.stand n ≡ Some (standing_of m.shape m.code old)
stands_at m n old e = slice_get-map (standing_of m.shape m.code) m.locals n ∙ ap (λ found. option_map (standing_of m.shape m.code) found) e

-- the state after the turn
pub happens_is : (m : Holding) (turn : Turn) (old : Local) → slice_get m.locals turn.processor ≡ Some old
    → happens m.shape m.code (seen m).state turn
    ≡ state_acted m.shape m.code (seen m).state turn.processor turn.act (standing_of m.shape m.code old)
happens_is m turn old e =
    ap (λ found. acts m.shape m.code (seen m).state turn.processor turn.act (stand_in found)) (stands_at m turn.processor old e)
    ∙ acts_are m.shape m.code (seen m).state turn.processor turn.act (standing_of m.shape m.code old) (stands_at m turn.processor old e)

-- what was done to it and to the words
pub record HasActed (m : Holding) (turn : Turn) (old new : Local) (words : List ℕ) : Type 0 where
  pub at : slice_get m.locals turn.processor ≡ Some old
  pub words_are : words ≡ words_acted m.shape m.code turn.processor turn.act m.words (standing_of m.shape m.code old)
  pub stands : standing_of m.shape m.code new ≡ stand_acted m.shape m.code turn.processor turn.act m.words (standing_of m.shape m.code old)

pub has_acted : (m : Holding) (turn : Turn) (old new : Local) (words : List ℕ)
    → slice_get m.locals turn.processor ≡ Some old → old.own ≡ turn.processor
    → words ≡ words_acted m.shape m.code old.own turn.act m.words (standing_of m.shape m.code old)
    → standing_of m.shape m.code new ≡ stand_acted m.shape m.code old.own turn.act m.words (standing_of m.shape m.code old)
    → HasActed m turn old new words
has_acted m turn old new words at own w stands = record {
  at = at;
  words_are = subst (λ (n : ℕ). words ≡ words_acted m.shape m.code n turn.act m.words (standing_of m.shape m.code old)) own w;
  stands = subst
      (λ (n : ℕ). standing_of m.shape m.code new ≡ stand_acted m.shape m.code n turn.act m.words (standing_of m.shape m.code old)) own stands;
}

abbrev pub with_turn : Holding → (n : ℕ) → Local → List ℕ → (forks takes work : ℕ) → Holding
with_turn m n new words forks takes work = record {
  shape = m.shape;
  code = m.code;
  array_lengths = m.array_lengths;
  words = words;
  locals = set m.locals n new;
  forks = m.forks + forks;
  takes = m.takes + takes;
  work = m.work + work;
  turns = m.turns + 1;
}

pub stand_path : (m : Holding) (turn : Turn) (old new : Local) (words : List ℕ) → HasActed m turn old new words
    → map (standing_of m.shape m.code) (set m.locals turn.processor new)
    ≡ set (seen m).state.stand turn.processor
    (stand_acted m.shape m.code turn.processor turn.act m.words (standing_of m.shape m.code old))
stand_path m turn old new words h =
    map-set (standing_of m.shape m.code) m.locals turn.processor new
    ∙ ap (λ standing. set (seen m).state.stand turn.processor standing) h.stands

pub state_path : (m : Holding) (turn : Turn) (old new : Local) (words : List ℕ) → HasActed m turn old new words
    → record { words = words; stand = map (standing_of m.shape m.code) (set m.locals turn.processor new) }
    ≡ happens m.shape m.code (seen m).state turn
state_path m turn old new words h =
    (λ i. record { words = h.words_are i; stand = stand_path m turn old new words h i })
    ∙ sym (happens_is m turn old h.at)

-- the whole machine
pub turned_is : (m : Holding) (turn : Turn) (old new : Local) (words : List ℕ) (forks takes work : ℕ) → HasActed m turn old new words
    → forks ≡ forks_at turn.act (standing_of m.shape m.code old)
    → takes ≡ takes_at turn.act (standing_of m.shape m.code old)
    → work ≡ (if is_work_turn m.shape m.code turn.act (standing_of m.shape m.code old) then 1 else 0)
    → seen (with_turn m turn.processor new words forks takes work) ≡ turned (seen m) turn
turned_is m turn old new words forks takes work h f t w =
    let stands = stands_at m turn.processor old h.at in
    let fs : forks ≡ length (forks_of (seen m).state turn) = f ∙ sym (ap (λ found. forks_at turn.act (stand_in found)) stands) in
    let ts : takes ≡ length (takes_of (seen m).state turn) = t ∙ sym (ap (λ found. takes_at turn.act (stand_in found)) stands) in
    let ws : work ≡ length (work_of (seen m).state turn) =
    w ∙ work_is m.shape m.code turn.processor turn.act (standing_of m.shape m.code old)
    ∙ sym (ap (λ found. length (if is_work_turn m.shape m.code turn.act (stand_in found) then turn.processor ∷ [] else [])) stands) in
    λ i. record {
      shape = m.shape;
      code = m.code;
      array_lengths = m.array_lengths;
      state = state_path m turn old new words h i;
      forks = m.forks + fs i;
      takes = m.takes + ts i;
      work = m.work + ws i;
      turns = m.turns + 1;
    }

-- and what is told
pub told_is : (m : Holding) (turn : Turn) (old new : Local) (words : List ℕ) (event : Option Event) (work : Bool) (next : Next) → HasActed m turn old new words
    → old.own ≡ turn.processor
    → event ≡ event_acted m.shape m.code old.own turn.act m.words (standing_of m.shape m.code old)
    → work ≡ is_work_turn m.shape m.code turn.act (standing_of m.shape m.code old)
    → next ≡ next_of (standing_of m.shape m.code new)
    → record { event = event; work = work; next = next } ≡ told_of m.shape m.code (seen m).state turn
told_is m turn old new words event work next h own told w n =
    let stands = stands_at m turn.processor old h.at in
    let e = subst (λ (k : ℕ). event ≡ event_acted m.shape m.code k turn.act m.words (standing_of m.shape m.code old)) own told in
    let es = e ∙ event_is m.shape m.code (seen m).state turn (standing_of m.shape m.code old)
    ∙ sym (ap (λ found. event_by m.shape m.code (seen m).state turn (stand_in found)) stands) in
    let ws = w ∙ sym (ap (λ found. is_work_turn m.shape m.code turn.act (stand_in found)) stands) in
    let after = ap (λ found. next_of (stand_in found))
    (get_changed (seen m).state.stand turn.processor
    (stand_acted m.shape m.code turn.processor turn.act m.words (standing_of m.shape m.code old)) (standing_of m.shape m.code old) stands) in
    let ns = n ∙ ap (λ standing. next_of standing) h.stands ∙ sym after
    ∙ sym (ap (λ (state : State). next_of (stand_of state turn.processor)) (happens_is m turn old h.at)) in
    λ i. record { event = es i; work = ws i; next = ns i }
