-- What watchers were told where memory is wanting, as lists: nothing, a run up to where one refused, or a whole run.
use Rattle.std.proofs.Common.{◌≡◌, ◌⊎◌, ◌<◌, ◌≤◌, ℕ, zero, suc, List, [], ◌∷◌, length, map, slice_index_or, Option, Some, Result, Ok, Err, IfErr, refl, sym, ap, ◌∙◌, subst, inl, inr, arith}
use Rattle.ppm_words.specs.declared.event.Event.{Event}
use Rattle.ppm_ports.specs.Outside.{ToldLists}
use Rattle.ppm_plan.specs.Schedules.{Planned}
use Rattle.ppm_choice.specs.declared.limits.Limits.{Limits}
use Rattle.ppm_table.specs.declared.view.Opening.{Opening}
use Rattle.ppm_threads.specs.Driven.{WasRefused, IsToldOf, HasQuitIn}
use Rattle.ppm_answers.specs.declared.answer.Answer.{Answer}
use Rattle.ppm_answers.specs.declared.answer.Answer.TheVariants as answers
use Rattle.ppm_outcomes.specs.Watchers.{ToldAtWant, ToldNothing, ToldInPart, ToldWhole, IfWanting}

-- nobody was told anything
pub nothing_told : (R V : Type 0) (lists : ToldLists) → ToldAtWant R V lists lists
nothing_told R V lists = ToldNothing refl

-- of such runs, and so of such others
pub map_want : {R S V W : Type 0} {before now : ToldLists} → (R → S) → (V → W) → ToldAtWant R V before now → ToldAtWant S W before now
map_want refused whole (ToldNothing still) = ToldNothing still
map_want refused whole (ToldInPart r) = ToldInPart (refused r)
map_want refused whole (ToldWhole v) = ToldWhole (whole v)

pub map_wanting : {T S : Type 0} → (T → S) → (a : Answer) → IfWanting T a → IfWanting S a
map_wanting f answers.NoMemory t = f t
map_wanting f a t = tt

-- what holds in any case holds at `Err`
pub at_err : {A E P : Type 0} → P → (r : Result A E) → IfErr r (λ _. P)
at_err p (Ok a) = tt
at_err p (Err e) = p

module _ {W : Type 0} (told : W → Option (List Event)) where
  -- a list by its number
  slot_at : (ws : List W) (c : ℕ) (w : W) (d : Option (List Event)) → c < length ws → told (slice_index_or ws c w) ≡ slice_index_or (map told ws) c d
  slot_at [] c w d less = absurd (omega (arith, less))
  slot_at (v ∷ ws) zero w d less = refl
  slot_at (v ∷ ws) (suc c) w d less = slot_at ws c w d (omega (arith, less))

  module _ (plan : Planned) (limits : Limits) (k : Opening) (old new : List W) (w : W) (same : length new ≡ length old)
      (enough : k.shape.processors ≤ length old) where
    -- a sentence on a watcher before and after is one on its lists
    on_lists : (P : Option (List Event) → Option (List Event) → Type 0) (c : ℕ) (d : Option (List Event)) → c < k.shape.processors
        → P (told (slice_index_or old c w)) (told (slice_index_or new c w)) → P (slice_index_or (map told old) c d) (slice_index_or (map told new) c d)
    on_lists P c d less h =
        subst (λ (l : Option (List Event)). P l (slice_index_or (map told new) c d)) (slot_at old c w d (omega (arith, less, enough)))
        (subst (λ (l : Option (List Event)). P (told (slice_index_or old c w)) l) (slot_at new c w d (omega (arith, less, enough, same))) h)

    pub lists_refused : WasRefused told plan limits k old new → WasRefused (λ (l : Option (List Event)). l) plan limits k (map told old) (map told new)
    lists_refused r = record {
      turns = r.turns;
      each = λ c d less. on_lists (λ b n. IsToldOf told plan limits k r.turns c b n ⊎ HasQuitIn told plan limits k r.turns c b n) c d less (r.each c w less);
      refusing = r.refusing;
      is_there = r.is_there;
      has_quit = λ d. on_lists (λ b n. HasQuitIn told plan limits k r.turns r.refusing b n) r.refusing d r.is_there (r.has_quit w);
    }
