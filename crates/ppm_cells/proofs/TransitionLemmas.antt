-- Each transition is one change.
use Rattle.std.proofs.Common.{ℕ, ◌+◌, ◌<◌, inl, inr, refl, IfSome}
use Rattle.ppm_cells.specs.declared.entry.Entry.{Entry}
use Rattle.ppm_cells.specs.declared.entry.Entry.TheVariants.{Empty, Local, Job, Taken}
use Rattle.ppm_cells.specs.declared.shape.Takeover.{Takeover}
use Rattle.ppm_cells.specs.declared.shape.Takeover.TheVariants.{ByPlaces, ByEntries}
use Rattle.ppm_cells.specs.DequeChange.{Takes, Changes, BoardChanges}
use Rattle.ppm_cells.specs.Transitions.{pushed_above, pushed_job, popped_below, popped_above, stolen, inherited, posted, TriesTo}
use Rattle.ppm_cells.specs.DequeOrder.{Chain, Stays, Then, Later, LaterOnBoard}
use Rattle.ppm_cells.specs.DequeLaws.{TransitionsGoOn}

-- one change
once : (Change : Entry → Entry → Type 0) (old new : Entry) → Change old new → Chain Change old new
once Change old new change = Then old old new (Stays old) change

push_above : (how : Takeover) (seen : Entry) → IfSome (pushed_above seen) (Later how seen)
push_above how (Empty tag) = once (Changes how) (Empty tag) (Local (tag + 1) 0) (inl (refl, refl))
push_above how _ = tt

push_job : (how : Takeover) (seen : Entry) (block : ℕ) → IfSome (pushed_job seen block) (Later how seen)
push_job how (Local tag old) block = once (Changes how) (Local tag old) (Job (tag + 1) block) (inl refl)
push_job how _ block = tt

pop_below : (how : Takeover) (seen : Entry) → TriesTo (popped_below seen) (Later how seen)
pop_below how (Job tag block) = once (Changes how) (Job tag block) (Local (tag + 1) block) (inl (refl, refl))
pop_below how _ = tt

pop_above : (how : Takeover) (seen : Entry) → IfSome (popped_above seen) (Later how seen)
pop_above how (Local tag block) = once (Changes how) (Local tag block) (Empty (tag + 1)) (inl refl)
pop_above how _ = tt

-- a theft is a change with either takeover
theft : (how : Takeover) (tag block thief : ℕ) → Takes how thief (Job tag block) (Taken (tag + 1) thief)
theft ByPlaces tag block thief = (refl, refl)
theft ByEntries tag block thief = (refl, refl)

steal : (how : Takeover) (seen : Entry) (thief : ℕ) → thief < 64 → IfSome (stolen seen thief) (Later how seen)
steal how (Job tag block) thief small =
    once (Changes how) (Job tag block) (Taken (tag + 1) thief) (inr (thief, small, theft how tag block thief))
steal how _ thief small = tt

inherit : (seen : Entry) (heir : ℕ) → heir < 64 → IfSome (inherited seen heir) (Later ByEntries seen)
inherit (Local tag block) heir small =
    once (Changes ByEntries) (Local tag block) (Taken (tag + 1) (heir + 64)) (inr (heir, small, (refl, refl)))
inherit _ heir small = tt

post : (seen : Entry) (block : ℕ) → IfSome (posted seen block) (LaterOnBoard seen)
post (Empty tag) block = once BoardChanges (Empty tag) (Job (tag + 1) block) refl
post _ block = tt

steal_posted : (seen : Entry) (thief : ℕ) → thief < 64 → IfSome (stolen seen thief) (LaterOnBoard seen)
steal_posted (Job tag block) thief small = once BoardChanges (Job tag block) (Taken (tag + 1) thief) (refl, small)
steal_posted _ thief small = tt

pub transitions_go_on : TransitionsGoOn
transitions_go_on = record {
  push_above = push_above;
  push_job = push_job;
  pop_below = pop_below;
  pop_above = pop_above;
  steal = steal;
  inherit = inherit;
  post = post;
  steal_posted = steal_posted;
}
