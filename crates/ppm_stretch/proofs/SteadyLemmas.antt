-- Steps in a row.
use Rattle.std.proofs.Common.{◌≡◌, ◌≢◌, ℕ, ◌+◌, ◌<◌, ◌≤◌, Bool, Option, true, false, List, sym, refl, ap, ◌∙◌, subst}
use Rattle.ppm_cells.specs.declared.shape.Shape.{Shape}
use Rattle.ppm_step.specs.declared.ask.Want.{Want}
use Rattle.ppm_step.specs.declared.ask.Want.TheVariants.{Stores as WantsStore}
use Rattle.ppm_step.specs.declared.row.Seat.{Seat}
use Rattle.ppm_step.specs.Frames.{Rest, Loads, Stores, Full, Installs, Breaks}
use Rattle.ppm_ports.specs.Told.{KeepsFront}
use Rattle.ppm_words.specs.declared.event.Event.{Event}
use Rattle.ppm_step.specs.Standings.{Standing, IsDone, IsBroken, IsRunning, running, running_if, rest_is_there, wanted_rest, went_rest}
use Rattle.ppm_table.specs.declared.view.Opening.{Opening}
use Rattle.ppm_table.specs.Run.{stands_by, deeds_in, deed_by, seen, Mine, IsSeat, IsAsked, IsFound}
use Rattle.ppm_stretch.specs.Steady.{is_exchange, Goes, Moves, Lives, itself}
use Rattle.ppm_stretch.specs.declared.way.Steps.{Steps}
use Rattle.ppm_stretch.specs.Rows.{GivesUp, Makes, GivesUpIfRefused}
use Rattle.ppm_table.specs.Telling.{shown, deeds_since}
use Rattle.ppm_table.proofs.TellingLemmas.{keeps_both, keeps_known, keeps_same}
use Rattle.ppm_table.proofs.StandLemmas.{stands_on}
pub use Rattle.ppm_table.proofs.MovesLemmas.{as_told, of_told, deeds_more_in, sits_more, goes_one, goes_none, goes_both, from_none, moves_both, moves_then, moves_idle, moves_none, moves_behind, moves_same, refuses_one, refuses_both, refuses_then, refuses_within, no_looks}

module _ {W : Type 0} (told : W → Option (List Event)) where
  pub gives_up_within : (k : Opening) (own : ℕ) (a b : Mine) (w0 w1 : W) (n most : ℕ) → n ≤ most → GivesUp told k own a b w0 w1 n
      → GivesUp told k own a b w0 w1 most
  gives_up_within k own a b w0 w1 n most within g = record {
    lives = g.lives;
    behind = g.behind;
    refuses = refuses_within told k own a g.behind w0 w1 g.lives n most within g.refuses;
    quits = g.quits;
  }

  -- a processor that gives up behind steps that its watcher was told of
  pub gives_up_behind : (k : Opening) (own : ℕ) (a b c : Mine) (w0 w1 w2 : W) (m v x : ℕ) (p : Bool) (n most : ℕ) → m + n ≤ most
      → Moves told k own a b w0 w1 m v x p → GivesUp told k own b c w1 w2 n → GivesUp told k own a c w0 w2 most
  gives_up_behind k own a b c w0 w1 w2 m v x p n most within f g = record {
    lives = g.lives;
    behind = g.behind;
    refuses = refuses_both told k own a b g.behind w0 w1 w2 m v x p g.lives n most within f g.refuses;
    quits = g.quits;
  }

  -- steps of which none was refused, by their numbers
  pub row_makes : (k : Opening) (own : ℕ) (a b : Mine) (w0 w1 : W) (m v x : ℕ) (p : Bool) (steps : Steps)
      → steps ≡ record { made = m; work = v; looks = x; exchanged = p; refused = false } → Moves told k own a b w0 w1 m v x p → Makes told k own a b w0 w1 steps
  row_makes k own a b w0 w1 m v x p steps is f = λ fine. subst (λ (s : Steps). Moves told k own a b w0 w1 s.made s.work s.looks s.exchanged) (sym is) f

  pub row_stops : (k : Opening) (own : ℕ) (a b : Mine) (w0 w1 : W) (m v x : ℕ) (p : Bool) (most : ℕ) (steps : Steps)
      → steps ≡ record { made = m; work = v; looks = x; exchanged = p; refused = false } → GivesUpIfRefused told k own a b w0 w1 most steps
  row_stops k own a b w0 w1 m v x p most steps is = λ refused. let e : true ≡ false = sym refused ∙ ap (λ (s : Steps). s.refused) is in absurd cc

  pub row_few : (m v x : ℕ) (p : Bool) (most : ℕ) (steps : Steps) → steps ≡ record { made = m; work = v; looks = x; exchanged = p; refused = false }
      → m ≤ most → v ≤ m → x ≤ m → (steps.made ≤ most) × (steps.work ≤ steps.made) × (steps.looks ≤ steps.made)
  row_few m v x p most steps is few works looks = subst (λ (s : Steps). (s.made ≤ most) × (s.work ≤ s.made) × (s.looks ≤ s.made)) (sym is) (few, works, looks)

module _ {W : Type 0} (told : W → Option (List Event)) where
  -- so a known list keeps what it had in front
  moves_keep : (k : Opening) (own : ℕ) (me me' : Mine) (w w' : W) (m v x : ℕ) (p : Bool) → Moves told k own me me' w w' m v x p → KeepsFront (told w) (told w')
  moves_keep k own me me' w w' m v x p f =
      keeps_known (told w) (told w') (shown k.shape k.code own (stands_by k own (deeds_in me.0)) (deeds_since me me')) f.shows

module _ {W : Type 0} (told : W → Option (List Event)) where
  pub steps_keep : (k : Opening) (own : ℕ) (me me' : Mine) (w w' : W) (most : ℕ) (steps : Steps) → Makes told k own me me' w w' steps → GivesUpIfRefused told k own me me' w w' most steps
      → KeepsFront (told w) (told w')
  steps_keep k own me me' w w' most steps makes stops = by steps.refused refl
    where
      by : (b : Bool) → steps.refused ≡ b → KeepsFront (told w) (told w')
      by false e = moves_keep told k own me me' w w' steps.made steps.work steps.looks steps.exchanged (makes e)
      by true e =
          let r = (stops e).refuses in
          keeps_both (told w) r.mid (told w') (moves_keep itself k own me r.before (told w) r.mid r.made r.work r.looks r.exchanged r.moves)
          (keeps_same r.mid (told w') r.keeps)

-- a processor within a capsule isn't done
pub running_lives : (s : Shape) (seat : Seat) (rest : Rest) → running s seat rest ≢ IsDone
running_lives s seat rest = by (rest_is_there s seat rest)
  where
    by : (b : Bool) → running_if seat rest b ≢ IsDone
    by true e = cc
    by false e = cc

-- where it stands if what comes next is there, and if it isn't
pub stands_there : (s : Shape) (seat : Seat) (st : Standing) (rest : Rest) → st ≡ running s seat rest → true ≡ rest_is_there s seat rest → st ≡ IsRunning seat rest
stands_there s seat st rest stands there = stands ∙ sym (ap (λ (b : Bool). running_if seat rest b) there)

pub stands_broken : (s : Shape) (seat : Seat) (st : Standing) (rest : Rest) → st ≡ running s seat rest → false ≡ rest_is_there s seat rest → st ≡ IsBroken seat.place
stands_broken s seat st rest stands there = stands ∙ sym (ap (λ (b : Bool). running_if seat rest b) there)

-- the store of a word at an address
pub stores_same : (at at' word word' : ℕ) → at' ≡ at → word' ≡ word → WantsStore at word ≡ WantsStore at' word'
stores_same at at' word word' e f = ap (λ (n : ℕ). WantsStore n word) (sym e) ∙ ap (λ (n : ℕ). WantsStore at' n) (sym f)

pub went_lives : (s : Shape) (seat : Seat) (found : ℕ) (rest : Rest) → went_rest s seat found rest ≢ IsDone
went_lives s seat found (Loads cell go) = running_lives s seat (go found)
went_lives s seat found (Stores cell content rest) = running_lives s seat rest
went_lives s seat found Full = λ e. cc
went_lives s seat found (Installs kind) = λ e. cc
went_lives s seat found Breaks = λ e. cc

-- a step of a capsule under way
pub runs_one : (k : Opening) (s : Shape) → k.shape ≡ s → (seat : Seat) (rest : Rest) (me me' : Mine) (want : Want) (found : ℕ)
    → IsRunning seat rest ≡ stands_by k seat.own (deeds_in me.0) → IsSeat seat.own me → 0 < s.processors → wanted_rest s seat rest ≡ want → IsAsked want → IsFound want found
    → me' ≡ (seen me.0 (deed_by want found), me.1)
    → Goes k seat.own me me' 1 1 0 (is_exchange (deed_by want found)) × (stands_by k seat.own (deeds_in me'.0) ≡ went_rest s seat found rest)
runs_one k s shape seat rest me me' want found at sits some wants asked is_found made = (
  goes_one k seat.own true me me' want found (IsRunning seat rest) at sits (λ e. cc) refl (λ e. cc) (subst (λ (t : Shape). 0 < t.processors) (sym shape) some)
      (ap (λ (t : Shape). wanted_rest t seat rest) shape ∙ wants) asked refl made,
  sym (stands_on k s k.code shape refl seat.own 0 me me' want found (IsRunning seat rest) at sits (some, λ _. refl) wants asked is_found made),
)

-- it sits there, and isn't done
pub runs_lives : (k : Opening) (s : Shape) (seat : Seat) (rest : Rest) (me me' : Mine) (found : ℕ)
    → Goes k seat.own me me' 1 1 0 false × (stands_by k seat.own (deeds_in me'.0) ≡ went_rest s seat found rest) → Lives k seat.own me' true
runs_lives k s seat rest me me' found (g, e) = (g.sits, λ done. went_lives s seat found rest (sym e ∙ done))
