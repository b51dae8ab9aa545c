-- Steps that a seat keeps in a row.
use Rattle.std.proofs.Common.{◌≡◌, ◌≢◌, ℕ, zero, suc, ◌+◌, ◌==◌, ◌<◌, ◌≤◌, ◌&&◌, ◌||◌, Bool, Option, Some, ne_eqb, true, false, List, [], ◌∷◌, ◌++◌, length, sym, refl, ap, ◌∙◌, subst, arith, append_assoc, append-nil, if◌then◌else◌}
use Rattle.ppm_cells.specs.declared.shape.Shape.{Shape}
use Rattle.ppm_code.specs.declared.code.CodeParts.{CodeParts}
use Rattle.ppm_step.specs.declared.ask.Want.{Want}
use Rattle.ppm_step.specs.declared.ask.Want.TheVariants.{Stores as WantsStore}
use Rattle.ppm_step.specs.declared.row.Seat.{Seat}
use Rattle.ppm_step.specs.declared.turn.Next.TheVariants.{Seek}
use Rattle.ppm_step.specs.Frames.{Rest, Loads, Stores, Full, Installs, Breaks}
use Rattle.ppm_ports.specs.Told.{KeepsFront, KeepsList}
use Rattle.ppm_words.specs.declared.event.Event.{Event}
use Rattle.ppm_step.specs.Standings.{Standing, IsDone, IsBroken, IsRunning, running, running_if, rest_is_there, wanted, wanted_rest, went_rest}
use Rattle.ppm_step.specs.State.{seeks_holder, next_of}
use Rattle.ppm_step.specs.Told.{is_work_next}
use Rattle.ppm_table.specs.declared.view.Deed.{Deed}
use Rattle.ppm_table.specs.declared.view.Opening.{Opening}
use Rattle.ppm_table.specs.Run.{behind, stood, stands_by, deeds_in, deed_by, seen, seated, Mine, IsSeat, IsAsked, IsFound}
use Rattle.ppm_table.specs.Moves.{IsSteady, AreSteady, work_in, looks_in, looks_behind, is_exchange, exchanged_in, Goes, Moves, Lives, Refuses, itself}
use Rattle.ppm_table.specs.Telling.{shown, deeds_since, Shows}
use Rattle.ppm_table.proofs.TellingLemmas.{keeps_both, keeps_known, keeps_same, shown_both, since_is}
use Rattle.ppm_table.proofs.StandLemmas.{deeds_seen, stands_on, step_told}

-- the seat that keeps one more
pub deeds_more_in : (own : ℕ) (me me' : Mine) (deed : Deed) → IsSeat own me → me' ≡ (seen me.0 deed, me.1) → deeds_in me'.0 ≡ deeds_in me.0 ++ deed ∷ []
deeds_more_in own me me' deed sits made = ap (λ (m : Mine). deeds_in m.0) made ∙ deeds_seen own me deed sits

pub sits_more : (own : ℕ) (me me' : Mine) (deed : Deed) → IsSeat own me → me' ≡ (seen me.0 deed, me.1) → IsSeat own me'
sits_more own me me' deed sits made =
    made ∙ ap (λ (m : Mine). (seen m.0 deed, m.1)) sits
    ∙ ap (λ (l : List Deed). (seated own l, [])) (sym (deeds_more_in own me me' deed sits made))

-- the looks after one step
looked_one : (b : Bool) (before : ℕ) → (if b then 0 else before + 1) ≡ looks_behind before (if b then 1 else 0) (if b then 0 else 1)
looked_one true before = refl
looked_one false before = refl

none_more : (b : Bool) → (b || false) ≡ b
none_more true = refl
none_more false = refl

-- a step for which no victim is due
pub goes_one : (k : Opening) (own : ℕ) (b : Bool) (me me' : Mine) (want : Want) (found : ℕ) (standing : Standing)
    → standing ≡ stands_by k own (deeds_in me.0) → IsSeat own me → standing ≢ IsDone → seeks_holder standing ≡ false → next_of standing ≢ Seek → 0 < k.shape.processors
    → wanted k.shape own 0 standing ≡ want → IsAsked want → is_work_next k.shape k.code (next_of standing) ≡ b
    → me' ≡ (seen me.0 (deed_by want found), me.1) → Goes k own me me' 1 (if b then 1 else 0) (if b then 0 else 1) (is_exchange (deed_by want found))
goes_one k own b me me' want found standing at sits lives due seeks some wants asked works made =
    let deed = deed_by want found in
    let is : is_work_next k.shape k.code (next_of (stands_by k own (deeds_in me.0))) ≡ b = sym (ap (λ (st : Standing). is_work_next k.shape k.code (next_of st)) at) ∙ works in
    record {
      deeds = deed ∷ [];
      more = deeds_more_in own me me' deed sits made;
      count = refl;
      steady = (
        subst (λ (st : Standing). IsSteady k.shape st deed) at (record {
          lives = lives;
          due = due;
          seeks = seeks;
          act = step_told k.shape own 0 standing want found asked (some, λ _. refl) wants;
        }),
        tt,
      );
      works = ap (λ (c : Bool). (if c then 1 else 0) + 0) is ∙ (let e : (if b then 1 else 0) + 0 ≡ (if b then 1 else 0) = omega arith in e);
      looked = λ before. ap (λ (c : Bool). if c then 0 else before + 1) is ∙ looked_one b before;
      exchanges = none_more (is_exchange deed);
      sits = sits_more own me me' deed sits made;
    }

-- none
pub goes_none : (k : Opening) (own : ℕ) (me : Mine) → IsSeat own me → Goes k own me me 0 0 0 false
goes_none k own me sits = record {
  deeds = [];
  more = sym (append-nil _);
  count = refl;
  steady = tt;
  works = refl;
  looked = λ before. (let e : before ≡ before + 0 = omega arith in e);
  exchanges = refl;
  sits = sits;
}

-- those of two lists are those of the one after the other
steady_both : (s : Shape) (code : CodeParts) (own : ℕ) (st : Standing) (ds es : List Deed)
    → AreSteady s code own st ds → AreSteady s code own (stood s code own st ds) es → AreSteady s code own st (ds ++ es)
steady_both s code own st [] es a b = b
steady_both s code own st (d ∷ ds) es a b = (a.0, steady_both s code own (behind s code own st d) ds es a.1 b)

work_both : (s : Shape) (code : CodeParts) (own : ℕ) (st : Standing) (ds es : List Deed)
    → work_in s code own st (ds ++ es) ≡ work_in s code own st ds + work_in s code own (stood s code own st ds) es
work_both s code own st [] es = let n : ℕ = work_in s code own st es in (let e : n ≡ 0 + n = omega arith in e)
work_both s code own st (d ∷ ds) es =
    let hence = work_both s code own (behind s code own st d) ds es in
    omega (arith, hence)

stood_both : (s : Shape) (code : CodeParts) (own : ℕ) (st : Standing) (ds es : List Deed)
    → stood s code own st (ds ++ es) ≡ stood s code own (stood s code own st ds) es
stood_both s code own st [] es = refl
stood_both s code own st (d ∷ ds) es = stood_both s code own (behind s code own st d) ds es

length_both : (ds es : List Deed) → length (ds ++ es) ≡ length ds + length es
length_both [] es = let n : ℕ = length es in (let e : n ≡ 0 + n = omega arith in e)
length_both (d ∷ ds) es = let hence = length_both ds es in omega (arith, hence)

looks_both : (s : Shape) (code : CodeParts) (own before : ℕ) (st : Standing) (ds es : List Deed)
    → looks_in s code own before st (ds ++ es) ≡ looks_in s code own (looks_in s code own before st ds) (stood s code own st ds) es
looks_both s code own before st [] es = refl
looks_both s code own before st (d ∷ ds) es =
    looks_both s code own (if is_work_next s code (next_of st) then 0 else before + 1) (behind s code own st d) ds es

sum_zero : (v w : ℕ) → (v + w == 0) ≡ ((v == 0) && (w == 0))
sum_zero zero w = ap (λ (n : ℕ). n == 0) (let e : 0 + w ≡ w = omega arith in e)
sum_zero (suc v) w = ne_eqb (suc v + w) 0 (λ e. absurd (omega (arith, e))) ∙ sym (ap (λ (b : Bool). b && (w == 0)) (ne_eqb (suc v) 0 (λ e. absurd (omega (arith, e)))))

sum_by : (p q : Bool) (before a b : ℕ)
    → (if q then (if p then before + a else a) + b else b) ≡ (if p && q then before + (if q then a + b else b) else (if q then a + b else b))
sum_by true true before a b = omega arith
sum_by true false before a b = refl
sum_by false true before a b = refl
sum_by false false before a b = refl

looks_sum : (before v a w b : ℕ) → looks_behind (looks_behind before v a) w b ≡ looks_behind before (v + w) (looks_behind a w b)
looks_sum before v a w b = sum_by (v == 0) (w == 0) before a b ∙ ap (λ (c : Bool). if c then before + looks_behind a w b else looks_behind a w b) (sym (sum_zero v w))

exchanges_both : (ds es : List Deed) → exchanged_in (ds ++ es) ≡ (exchanged_in ds || exchanged_in es)
exchanges_both [] es = refl
exchanges_both (d ∷ ds) es = ap (λ (b : Bool). is_exchange d || b) (exchanges_both ds es) ∙ sym (or_assoc (is_exchange d) (exchanged_in ds) (exchanged_in es))
  where
    or_assoc : (a b c : Bool) → ((a || b) || c) ≡ (a || (b || c))
    or_assoc true b c = refl
    or_assoc false b c = refl

pub goes_both : (k : Opening) (own : ℕ) (a b c : Mine) (m n v w x y : ℕ) (p q : Bool) → Goes k own a b m v x p → Goes k own b c n w y q
    → Goes k own a c (m + n) (v + w) (looks_behind x w y) (p || q)
goes_both k own a b c m n v w x y p q f g =
    let s = k.shape in
    let code = k.code in
    let st = stands_by k own (deeds_in a.0) in
    let there : stands_by k own (deeds_in b.0) ≡ stood s code own st f.deeds =
    ap (λ (l : List Deed). stands_by k own l) f.more ∙ stood_both s code own _ (deeds_in a.0) f.deeds in
    record {
      deeds = f.deeds ++ g.deeds;
      more = g.more ∙ ap (λ (l : List Deed). l ++ g.deeds) f.more ∙ append_assoc (deeds_in a.0) f.deeds g.deeds;
      count = (let e = length_both f.deeds g.deeds in omega (arith, e, f.count, g.count));
      steady = steady_both s code own st f.deeds g.deeds f.steady (subst (λ (x : Standing). AreSteady s code own x g.deeds) there g.steady);
      works = (let e = work_both s code own st f.deeds g.deeds in
          let h : work_in s code own (stood s code own st f.deeds) g.deeds ≡ w = ap (λ (x : Standing). work_in s code own x g.deeds) (sym there) ∙ g.works in
          omega (arith, e, f.works, h));
      looked = λ before.
          looks_both s code own before st f.deeds g.deeds
          ∙ ap (λ (n : ℕ). looks_in s code own n (stood s code own st f.deeds) g.deeds) (f.looked before)
          ∙ ap (λ (z : Standing). looks_in s code own (looks_behind before v x) z g.deeds) (sym there)
          ∙ g.looked (looks_behind before v x)
          ∙ looks_sum before v x w y;
      exchanges = exchanges_both f.deeds g.deeds ∙ ap (λ (b : Bool). b || exchanged_in g.deeds) f.exchanges ∙ ap (λ (b : Bool). p || b) g.exchanges;
      sits = g.sits;
    }

-- what is told of deeds in two goes
shows_both : {W : Type 0} (told : W → Option (List Event)) (k : Opening) (own : ℕ) (a b c : Mine) (w0 w1 w2 : W) (ds es : List Deed)
    → deeds_in b.0 ≡ deeds_in a.0 ++ ds → deeds_in c.0 ≡ deeds_in b.0 ++ es
    → Shows k own (told w0) (told w1) a b → Shows k own (told w1) (told w2) b c → Shows k own (told w0) (told w2) a c
shows_both told k own a b c w0 w1 w2 ds es first second f g = λ list e.
    let s = k.shape in
    let code = k.code in
    let st = stands_by k own (deeds_in a.0) in
    let there : stands_by k own (deeds_in b.0) ≡ stood s code own st ds =
    ap (λ (l : List Deed). stands_by k own l) first ∙ stood_both s code own _ (deeds_in a.0) ds in
    let all : deeds_since a c ≡ ds ++ es = since_is a c (ds ++ es) (second ∙ ap (λ (l : List Deed). l ++ es) first ∙ append_assoc (deeds_in a.0) ds es) in
    let events : shown s code own st (deeds_since a b) ++ shown s code own (stands_by k own (deeds_in b.0)) (deeds_since b c) ≡ shown s code own st (deeds_since a c) =
    ap (λ (l : List Deed). shown s code own st l ++ shown s code own (stands_by k own (deeds_in b.0)) (deeds_since b c)) (since_is a b ds first)
    ∙ ap (λ (l : List Deed). shown s code own st ds ++ shown s code own (stands_by k own (deeds_in b.0)) l) (since_is b c es second)
    ∙ ap (λ (x : Standing). shown s code own st ds ++ shown s code own x es) there
    ∙ sym (shown_both s code own st ds es)
    ∙ ap (λ (l : List Deed). shown s code own st l) (sym all) in
    g (list ++ shown s code own st (deeds_since a b)) (f list e)
    ∙ ap (λ (l : List Event). Some l)
    (append_assoc list (shown s code own st (deeds_since a b)) (shown s code own (stands_by k own (deeds_in b.0)) (deeds_since b c)) ∙ ap (λ (l : List Event). list ++ l) events)

shows_none : {W : Type 0} (told : W → Option (List Event)) (k : Opening) (own : ℕ) (me : Mine) (w : W) → Shows k own (told w) (told w) me me
shows_none told k own me w = λ list e.
    let st = stands_by k own (deeds_in me.0) in
    e ∙ ap (λ (l : List Event). Some l) (sym (append-nil list))
    ∙ ap (λ (l : List Deed). Some (list ++ shown k.shape k.code own st l)) (sym (since_is me me [] (sym (append-nil _))))

-- no steps, no compare-and-modify
unexchanged : (k : Opening) (own : ℕ) (a b : Mine) (n w y : ℕ) (q : Bool) → n ≡ 0 → Goes k own a b n w y q → q ≡ false
unexchanged k own a b n w y q none g = sym g.exchanges ∙ by g.deeds (g.count ∙ none)
  where
    by : (ds : List Deed) → length ds ≡ 0 → exchanged_in ds ≡ false
    by [] e = refl
    by (d ∷ ds) e = absurd (omega (arith, e))

pub from_none : (n looks : ℕ) → looks_behind 0 n looks ≡ looks
from_none n looks = by (n == 0)
  where
    by : (b : Bool) → (if b then 0 + looks else looks) ≡ looks
    by true = omega arith
    by false = refl

module _ {W : Type 0} (told : W → Option (List Event)) where
  -- steps one after the other, with the sums by name, and with a watcher
  pub moves_both : (k : Opening) (own : ℕ) (a b c : Mine) (w0 w1 w2 : W) (m n v w x y made work looks : ℕ) (p q : Bool) → m + n ≡ made → v + w ≡ work → looks_behind x w y ≡ looks
      → Moves told k own a b w0 w1 m v x p → Moves told k own b c w1 w2 n w y q → Moves told k own a c w0 w2 made work looks (p || q)
  moves_both k own a b c w0 w1 w2 m n v w x y made work looks p q count works looked f g = record {
    goes = subst (λ (l : ℕ). Goes k own a c made work l (p || q)) looked
        (subst (λ (z : ℕ). Goes k own a c made z (looks_behind x w y) (p || q)) works
        (subst (λ (z : ℕ). Goes k own a c z (v + w) (looks_behind x w y) (p || q)) count (goes_both k own a b c m n v w x y p q f.goes g.goes)));
    shows = shows_both told k own a b c w0 w1 w2 f.goes.deeds g.goes.deeds f.goes.more g.goes.more f.shows g.shows;
  }

  -- of which none is a compare-and-modify
  pub moves_then : (k : Opening) (own : ℕ) (a b c : Mine) (w0 w1 w2 : W) (m n v w x y made work looks : ℕ) → m + n ≡ made → v + w ≡ work → looks_behind x w y ≡ looks
      → Moves told k own a b w0 w1 m v x false → Moves told k own b c w1 w2 n w y false → Moves told k own a c w0 w2 made work looks false
  moves_then k own a b c w0 w1 w2 m n v w x y made work looks count works looked f g =
      moves_both k own a b c w0 w1 w2 m n v w x y made work looks false false count works looked f g

  -- the second of them are none
  pub moves_idle : (k : Opening) (own : ℕ) (a b c : Mine) (w0 w1 w2 : W) (m n v w x y : ℕ) (p q : Bool) → n ≡ 0 → w ≤ n → y ≤ n
      → Moves told k own a b w0 w1 m v x p → Moves told k own b c w1 w2 n w y q → Moves told k own a c w0 w2 m v x p
  moves_idle k own a b c w0 w1 w2 m n v w x y p q none few_work few_looks f g =
      let count : m + n ≡ m = omega (arith, none) in
      let no_work : w ≡ 0 = omega (arith, none, few_work) in
      let works : v + w ≡ v = omega (arith, no_work) in
      let looked : x + y ≡ x = omega (arith, none, few_looks) in
      let same : (p || q) ≡ p = ap (λ (b : Bool). p || b) (unexchanged k own b c n w y q none g.goes) ∙ none_more p in
      subst (λ (b : Bool). Moves told k own a c w0 w2 m v x b) same
      (moves_both k own a b c w0 w1 w2 m n v w x y m v x p q count works (ap (λ (z : ℕ). looks_behind x z y) no_work ∙ looked) f g)

  pub moves_none : (k : Opening) (own : ℕ) (me : Mine) (w : W) → IsSeat own me → Moves told k own me me w w 0 0 0 false
  moves_none k own me w sits = record { goes = goes_none k own me sits; shows = shows_none told k own me w }

  -- the first of them are none
  pub moves_behind : (k : Opening) (own : ℕ) (a b c : Mine) (w0 w1 w2 : W) (m n v w x y : ℕ) (p q : Bool) → m ≤ 0 → v ≤ m → x ≤ m
      → Moves told k own a b w0 w1 m v x p → Moves told k own b c w1 w2 n w y q → Moves told k own a c w0 w2 n w y q
  moves_behind k own a b c w0 w1 w2 m n v w x y p q none few_work few_looks f g =
      let count : m + n ≡ n = omega (arith, none) in
      let works : v + w ≡ w = omega (arith, none, few_work) in
      let no_looks_yet : x ≡ 0 = omega (arith, none, few_looks) in
      let same : (p || q) ≡ q = ap (λ (b : Bool). b || q) (unexchanged k own a b m v x p (let e : m ≡ 0 = omega (arith, none) in e) f.goes) in
      subst (λ (b : Bool). Moves told k own a c w0 w2 n w y b) same
      (moves_both k own a b c w0 w1 w2 m n v w x y n w y p q count works (ap (λ (z : ℕ). looks_behind z w y) no_looks_yet ∙ from_none w y) f g)

  -- nothing changed after them
  pub moves_same : (k : Opening) (own : ℕ) (a b c : Mine) (w0 w1 w2 : W) (m v x : ℕ) → Moves told k own a b w0 w1 m v x false → c ≡ b → w2 ≡ w1 → Moves told k own a c w0 w2 m v x false
  moves_same k own a b c w0 w1 w2 m v x f same same_w =
      subst (λ (w : W). Moves told k own a c w0 w m v x false) (sym same_w) (subst (λ (z : Mine). Moves told k own a z w0 w1 m v x false) (sym same) f)

  -- by what the watcher shows
  pub as_told : (k : Opening) (own : ℕ) (a b : Mine) (w0 w1 : W) (m v x : ℕ) (p : Bool) → Moves told k own a b w0 w1 m v x p → Moves itself k own a b (told w0) (told w1) m v x p
  as_told k own a b w0 w1 m v x p f = record { goes = f.goes; shows = f.shows }

  pub of_told : (k : Opening) (own : ℕ) (a b : Mine) (w0 w1 : W) (m v x : ℕ) (p : Bool) → Moves itself k own a b (told w0) (told w1) m v x p → Moves told k own a b w0 w1 m v x p
  of_told k own a b w0 w1 m v x p f = record { goes = f.goes; shows = f.shows }

module _ {W : Type 0} (told : W → Option (List Event)) where
  -- a step of which a watcher refused to be told
  pub refuses_one : (k : Opening) (own : ℕ) (me me' : Mine) (w w' : W) (v x : ℕ) (p : Bool) (lives : Bool) (most : ℕ) → 0 < most → IsSeat own me → Goes k own me me' 1 v x p
      → KeepsList (told w) (told w') → Lives k own me' lives → Refuses told k own me me' w w' lives most
  refuses_one k own me me' w w' v x p lives most some sits goes keeps stays = record {
    before = me;
    mid = told w;
    made = 0;
    work = 0;
    looks = 0;
    exchanged = false;
    few = some;
    moves = moves_none itself k own me (told w) sits;
    last_work = v;
    last_looks = x;
    last_exchanged = p;
    last = goes;
    keeps = keeps;
    stays = stays;
  }

  -- after others
  pub refuses_both : (k : Opening) (own : ℕ) (a b c : Mine) (w0 w1 w2 : W) (m v x : ℕ) (p : Bool) (lives : Bool) (n most : ℕ) → m + n ≤ most
      → Moves told k own a b w0 w1 m v x p → Refuses told k own b c w1 w2 lives n → Refuses told k own a c w0 w2 lives most
  refuses_both k own a b c w0 w1 w2 m v x p lives n most within f r = record {
    before = r.before;
    mid = r.mid;
    made = m + r.made;
    work = v + r.work;
    looks = looks_behind x r.work r.looks;
    exchanged = p || r.exchanged;
    few = (let few = r.few in omega (arith, few, within));
    moves = moves_both itself k own a b r.before (told w0) (told w1) r.mid m r.made v r.work x r.looks (m + r.made) (v + r.work) (looks_behind x r.work r.looks) p r.exchanged refl refl refl (as_told told k own a b w0 w1 m v x p f) r.moves;
    last_work = r.last_work;
    last_looks = r.last_looks;
    last_exchanged = r.last_exchanged;
    last = r.last;
    keeps = r.keeps;
    stays = r.stays;
  }

  -- of which none is a compare-and-modify
  pub refuses_then : (k : Opening) (own : ℕ) (a b c : Mine) (w0 w1 w2 : W) (m v x : ℕ) (lives : Bool) (n most : ℕ) → m + n ≤ most
      → Moves told k own a b w0 w1 m v x false → Refuses told k own b c w1 w2 lives n → Refuses told k own a c w0 w2 lives most
  refuses_then k own a b c w0 w1 w2 m v x lives n most within f r = refuses_both k own a b c w0 w1 w2 m v x false lives n most within f r

  -- within more steps
  pub refuses_within : (k : Opening) (own : ℕ) (a b : Mine) (w0 w1 : W) (lives : Bool) (n most : ℕ) → n ≤ most → Refuses told k own a b w0 w1 lives n
      → Refuses told k own a b w0 w1 lives most
  refuses_within k own a b w0 w1 lives n most within r = record {
    before = r.before;
    mid = r.mid;
    made = r.made;
    work = r.work;
    looks = r.looks;
    exchanged = r.exchanged;
    few = (let few = r.few in omega (arith, few, within));
    moves = r.moves;
    last_work = r.last_work;
    last_looks = r.last_looks;
    last_exchanged = r.last_exchanged;
    last = r.last;
    keeps = r.keeps;
    stays = r.stays;
  }

-- no looks after work
pub no_looks : (n : ℕ) → looks_behind 0 n 0 ≡ 0
no_looks n = by (n == 0)
  where
    by : (b : Bool) → (if b then 0 + 0 else 0) ≡ 0
    by true = refl
    by false = refl
