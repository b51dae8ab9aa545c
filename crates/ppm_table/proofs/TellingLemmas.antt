-- What a watcher is told of one more deed.
use Rattle.std.proofs.Common.{◌≡◌, ℕ, List, [], ◌∷◌, ◌++◌, Option, None, Some, refl, sym, ap, subst, ◌∙◌, append_assoc, append-nil, drop, length}
use Rattle.ppm_cells.specs.declared.shape.Shape.{Shape}
use Rattle.ppm_code.specs.declared.code.CodeParts.{CodeParts}
use Rattle.ppm_ports.specs.Told.{AppendsList, KeepsFront, KeepsList}
use Rattle.ppm_words.specs.declared.event.Event.{Event}
use Rattle.ppm_step.specs.Standings.{Standing, IsLost}
use Rattle.ppm_step.specs.Told.{place_of}
use Rattle.ppm_step.specs.declared.ask.Want.{Want}
use Rattle.ppm_step.specs.declared.ask.Want.TheVariants.{Loads, Stores, Exchanges, Nothing}
use Rattle.ppm_table.specs.declared.view.Deed.{Deed}
use Rattle.ppm_table.specs.declared.view.Opening.{Opening}
use Rattle.ppm_table.specs.Run.{behind, stood, deed_by, seen, stands_by, deeds_in, Mine, IsSeat}
use Rattle.ppm_table.specs.Events.{event_found}
use Rattle.ppm_table.specs.Telling.{event_of_deed, shown, deeds_since, Shows}
use Rattle.ppm_table.proofs.StandLemmas.{deeds_seen}

some_same : (a b : List Event) → Some a ≡ Some b → a ≡ b
some_same a b e = cc

-- one event more
pub appended : (before now : Option (List Event)) (event : Event) (list : List Event) → AppendsList before now (event ∷ []) → before ≡ Some list → now ≡ Some (list ++ event ∷ [])
appended None now event list h e = absurd (cc)
appended (Some before) None event list h e = absurd h
appended (Some before) (Some now) event list h e = ap (λ (l : List Event). Some l) (h ∙ ap (λ (l : List Event). l ++ event ∷ []) (some_same before list e))

-- a known list that does so keeps its front
pub keeps_appended : (before now : Option (List Event)) (event : Event) → AppendsList before now (event ∷ []) → KeepsFront before now
keeps_appended None now event h = tt
keeps_appended (Some before) None event h = absurd h
keeps_appended (Some before) (Some now) event h = (event ∷ [], h)

pub keeps_same : (before now : Option (List Event)) → KeepsList before now → KeepsFront before now
keeps_same None now h = tt
keeps_same (Some before) None h = absurd h
keeps_same (Some before) (Some now) h = ([], h ∙ sym (append-nil before))

pub keeps_none : (before : Option (List Event)) → KeepsFront before before
keeps_none None = tt
keeps_none (Some before) = ([], sym (append-nil before))

pub keeps_still : {W : Type 0} (told : W → Option (List Event)) (w w' : W) → w' ≡ w → KeepsFront (told w) (told w')
keeps_still told w w' same = subst (λ (l : Option (List Event)). KeepsFront (told w) l) (ap told (sym same)) (keeps_none (told w))

pub keeps_both : (a b c : Option (List Event)) → KeepsFront a b → KeepsFront b c → KeepsFront a c
keeps_both None b c f g = tt
keeps_both (Some before) None c f g = absurd f
keeps_both (Some before) (Some now) None f g = absurd g
keeps_both (Some before) (Some now) (Some later) f g =
    (f.0 ++ g.0, g.1 ∙ ap (λ (l : List Event). l ++ g.0) f.1 ∙ append_assoc before f.0 g.0)

-- a list that has these events after it, whatever it was, keeps its front
pub keeps_known : (before now : Option (List Event)) (events : List Event) → ((list : List Event) → before ≡ Some list → now ≡ Some (list ++ events))
    → KeepsFront before now
keeps_known None now events h = tt
keeps_known (Some before) None events h = let e : None ≡ Some (before ++ events) = h before refl in cc
keeps_known (Some before) (Some now) events h = (events, some_same now (before ++ events) (h before refl))

-- the events of two lists of deeds, the one after the other
pub shown_both : (s : Shape) (code : CodeParts) (own : ℕ) (standing : Standing) (ds es : List Deed)
    → shown s code own standing (ds ++ es) ≡ shown s code own standing ds ++ shown s code own (stood s code own standing ds) es
shown_both s code own standing [] es = refl
shown_both s code own standing (d ∷ ds) es = ap (λ (l : List Event). event_of_deed s own standing d ∷ l) (shown_both s code own (behind s code own standing d) ds es)

drop_front : (xs ys : List Deed) → drop (length xs) (xs ++ ys) ≡ ys
drop_front [] ys = refl
drop_front (x ∷ xs) ys = drop_front xs ys

-- a seat keeps these deeds more
pub since_is : (me me' : Mine) (ds : List Deed) → deeds_in me'.0 ≡ deeds_in me.0 ++ ds → deeds_since me me' ≡ ds
since_is me me' ds more = ap (λ (l : List Deed). drop (length (deeds_in me.0)) l) more ∙ drop_front (deeds_in me.0) ds

-- the event of a step is that of its deed
event_is : (s : Shape) (own found : ℕ) (standing : Standing) (want : Want) → event_of_deed s own standing (deed_by want found) ≡ event_found (place_of standing) want found
event_is s own found standing (Loads at) = refl
event_is s own found standing (Stores at word) = refl
event_is s own found standing (Exchanges at old new) = refl
event_is s own found standing Nothing = refl

-- a deed, of which this event was told
pub shows_deed : (k : Opening) (own : ℕ) (me me' : Mine) (before now : Option (List Event)) (deed : Deed) (event : Event) → IsSeat own me → me' ≡ (seen me.0 deed, me.1)
    → event ≡ event_of_deed k.shape own (stands_by k own (deeds_in me.0)) deed → AppendsList before now (event ∷ []) → Shows k own before now me me'
shows_deed k own me me' before now deed event sits made is heard = λ list e.
    let more : deeds_in me'.0 ≡ deeds_in me.0 ++ deed ∷ [] = ap (λ (m : Mine). deeds_in m.0) made ∙ deeds_seen own me deed sits in
    let st = stands_by k own (deeds_in me.0) in
    let shows : shown k.shape k.code own st (deeds_since me me') ≡ event ∷ [] =
    ap (λ (l : List Deed). shown k.shape k.code own st l) (since_is me me' (deed ∷ []) more) ∙ ap (λ (x : Event). x ∷ []) (sym is) in
    appended before now event list heard e ∙ ap (λ (l : List Event). Some (list ++ l)) (sym shows)

pub shows_one : (k : Opening) (own place : ℕ) (me me' : Mine) (before now : Option (List Event)) (want : Want) (found : ℕ) (event : Event) → IsSeat own me
    → me' ≡ (seen me.0 (deed_by want found), me.1) → place_of (stands_by k own (deeds_in me.0)) ≡ place → event ≡ event_found place want found
    → AppendsList before now (event ∷ []) → Shows k own before now me me'
shows_one k own place me me' before now want found event sits made at is heard =
    shows_deed k own me me' before now (deed_by want found) event sits made
    (is ∙ ap (λ (p : ℕ). event_found p want found) (sym at) ∙ sym (event_is k.shape own found (stands_by k own (deeds_in me.0)) want)) heard
