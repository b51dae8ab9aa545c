-- The two steps of a place that looks for a job for which something is chosen.
use Rattle.std.proofs.Common.{◌≡◌, ◌≢◌, ◌∙◌, ◌==◌, ◌++◌, ◌∷◌, [], ℕ, Bool, true, false, if◌then◌else◌, List, Option, Some, sym, refl, ap, subst, eq-eqb}
use Rattle.ppm_cells.specs.Holder.{holder_of}
use Rattle.ppm_cells.specs.declared.holder.Holder.{Holder}
use Rattle.ppm_cells.specs.declared.restart.Restart.{Restart}
use Rattle.ppm_cells.specs.declared.restart.RestartKind.{RestartKind}
use Rattle.ppm_cells.specs.declared.restart.RestartKind.TheVariants.{Seek}
use Rattle.ppm_cells.specs.declared.shape.Shape.{Shape}
use Rattle.ppm_code.specs.declared.code.CodeParts.{CodeParts}
use Rattle.ppm_step.specs.Contents.{content_of, read_so}
use Rattle.ppm_step.specs.Rows.{found_at, row_of, seek_by, seek_holder}
use Rattle.ppm_step.specs.Standings.{Standing, IsAt, IsDone, IsWithin, at_finish, stands, wanted, went}
use Rattle.ppm_step.specs.State.{is_work_next, next_of}
use Rattle.ppm_step.specs.There.{restart_is_there}
use Rattle.ppm_step.specs.Told.{event, place_of}
use Rattle.ppm_step.specs.declared.ask.Want.{Want}
use Rattle.ppm_step.specs.declared.ask.Want.TheVariants.{Loads}
use Rattle.ppm_step.specs.declared.content.Content.TheVariants.{AHolder}
use Rattle.ppm_step.specs.declared.content.Reading.TheVariants.{AsHolder}
use Rattle.ppm_step.specs.declared.row.Point.{Point}
use Rattle.ppm_step.specs.declared.row.Point.TheVariants.{SeekHolder}
use Rattle.ppm_step.specs.declared.row.Row.{Row}
use Rattle.ppm_step.specs.declared.row.Row.TheVariants.{Now}
use Rattle.ppm_step.specs.declared.row.Seat.{Seat}
use Rattle.ppm_step.specs.declared.row.Then.TheVariants.{Again, Load}
use Rattle.ppm_step.specs.declared.turn.Act.TheVariants.{Step}
use Rattle.ppm_step.specs.declared.turn.Next.{Next}
use Rattle.ppm_step.specs.declared.turn.Told.{Told}
use Rattle.ppm_table.specs.Events.{HasActed, event_found}
use Rattle.ppm_table.specs.Run.{IsActAt, IsFound, IsSeat, IsToStep, Mine, deed_by, deeds_in, stands_by}
use Rattle.ppm_table.specs.declared.view.Opening.{Opening}
use Rattle.ppm_table.specs.declared.view.Deed.{Deed}
use Rattle.ppm_table.specs.declared.view.Deed.TheVariants.{Loaded}
use Rattle.ppm_stretch.specs.Looking.{LooksOn}
use Rattle.ppm_stretch.proofs.LookingLemmas.{stands_at}
use Rattle.ppm_stretch.proofs.SchedulingLemmas.{finish_goes_on}

-- after a finish word that is 0 a Seek is before the load of a holder word
pub seek_begins : (s : Shape) (code : CodeParts) (own place : ℕ) (restart : Restart) (found : ℕ) → found ≡ 0 → restart.kind ≡ Seek
    → restart_is_there s restart ≡ true
    → at_finish s code own place (Some restart) found ≡ IsWithin (record { own = own; place = place; restart = restart }) (Now (Load SeekHolder))
seek_begins s code own place restart found none kind there =
    let seat : Seat = record { own = own; place = place; restart = restart } in
    finish_goes_on s code seat found true none (sym there) ∙ ap (λ (k : RestartKind). stands s code seat (row_of s seat k)) kind

-- where a holder word leads, by the holder that it stands for
held : (s : Shape) (code : CodeParts) (place : Seat) (victim word : ℕ) (holder : Holder) → Some holder ≡ holder_of word
    → stands s code place (found_at s place victim SeekHolder (content_of AsHolder word)) ≡ stands s code place (seek_holder s place victim holder)
held s code place victim word holder is =
    ap (λ (h : Option Holder). stands s code place (found_at s place victim SeekHolder (read_so AHolder h))) (sym is)

-- the own place is no victim
pub own_again : (s : Shape) (code : CodeParts) (place : Seat) (victim word : ℕ) (holder : Holder) → Some holder ≡ holder_of word → victim ≡ place.place
    → stands s code place (found_at s place victim SeekHolder (content_of AsHolder word)) ≡ IsAt place.place (Some place.restart)
own_again s code place victim word holder is same =
    held s code place victim word holder is
    ∙ ap (λ (b : Bool). stands s code place (if b then Now Again else seek_by s place victim holder s.takeover)) (eq-eqb victim place.place same)

-- else the row goes on with a load
pub held_on : (s : Shape) (code : CodeParts) (place : Seat) (victim word : ℕ) (holder : Holder) (next : Point) → Some holder ≡ holder_of word
    → LooksOn s place (seek_holder s place victim holder) next
    → stands s code place (found_at s place victim SeekHolder (content_of AsHolder word)) ≡ IsWithin place (Now (Load next))
held_on s code place victim word holder next is on =
    held s code place victim word holder is ∙ ap (λ (r : Row). stands s code place r) on.1 ∙ stands_at s code place next on.0

-- a load that is a look, and what is told of it
pub acted_by : (s : Shape) (code : CodeParts) (own victim place at word : ℕ) (old new standing : Standing) (deeds deeds' : List Deed) (next : Next) (told : Told)
    → old ≡ standing → wanted s own victim standing ≡ Loads at → is_work_next (next_of standing) ≡ false → place_of standing ≡ place
    → deeds' ≡ deeds ++ Loaded at word ∷ [] → new ≡ went s code own victim word standing
    → told ≡ record { event = Some (event 1 place at word); work = false; next = next } → next ≡ next_of new
    → HasActed s code own (Step victim) old new deeds deeds' told
acted_by s code own victim place at word old new standing deeds deeds' next told old_is wants works place_is more goes told_is next_is =
    subst (λ (st : Standing). HasActed s code own (Step victim) st new deeds deeds' told) (sym old_is) (record {
      found = word;
      is_found = subst (λ (w : Want). IsFound w word) (sym wants) tt;
      deed = more ∙ ap (λ (w : Want). deeds ++ deed_by w word ∷ []) (sym wants);
      stands = goes;
      event = ap (λ (t : Told). t.event) told_is ∙ ap (λ (p : ℕ). Some (event_found p (Loads at) word)) (sym place_is)
          ∙ ap (λ (w : Want). Some (event_found (place_of standing) w word)) (sym wants);
      work = ap (λ (t : Told). t.work) told_is ∙ sym works;
      next = ap (λ (t : Told). t.next) told_is ∙ next_is;
    })

-- it comes next
pub to_load : (k : Opening) (s : Shape) → k.shape ≡ s → (own victim at : ℕ) (me : Mine) (standing : Standing) → IsSeat own me
    → stands_by k own (deeds_in me.0) ≡ standing → standing ≢ IsDone → IsActAt s standing (Step victim) → wanted s own victim standing ≡ Loads at
    → IsToStep k me (Loads at)
to_load k s shape own victim at me standing sits there lives may wants = record {
  own = own;
  victim = victim;
  does = record {
    seat = sits;
    lives = λ done. lives (sym there ∙ done);
    may = subst (λ (t : Shape). IsActAt t (stands_by k own (deeds_in me.0)) (Step victim)) (sym shape)
        (subst (λ (st : Standing). IsActAt s st (Step victim)) (sym there) may);
    wants = ap (λ (st : Standing). wanted k.shape own victim st) there ∙ ap (λ (t : Shape). wanted t own victim standing) shape ∙ wants;
  };
  asked = tt;
}
