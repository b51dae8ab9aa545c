-- Processors in two halves.
use Rattle.std.proofs.Common.{◌≡◌, ℕ, zero, suc, ◌+◌, ◌<◌, ◌≤◌, ◌⊎◌, inl, inr, ◌&&◌, Bool, true, false, Option, Some, List, [], ◌∷◌, ◌++◌, length, take, drop, get_or, sym, refl, ap, ◌∙◌, subst, arith, append-nil}
use Rattle.ppm_plan.specs.Schedules.{Planned}
use Rattle.ppm_words.specs.declared.event.Event.{Event}
use Rattle.ppm_step.specs.declared.turn.Turn.{Turn}
use Rattle.ppm_choice.specs.declared.limits.Limits.{Limits}
use Rattle.ppm_choice.specs.Obeying.{nothing_done, ObeysIn}
use Rattle.ppm_table.specs.declared.processor.Processor.{Processor}
use Rattle.ppm_table.specs.declared.processor.Shared.{Shared}
use Rattle.ppm_table.specs.declared.act_counts.ActCounts.{ActCounts}
use Rattle.ppm_table.specs.declared.view.Deed.{Deed}
use Rattle.ppm_table.specs.declared.view.Opening.{Opening}
use Rattle.ppm_table.specs.Run.{AllTold, start, behind_turns, deeds_in_run}
use Rattle.ppm_table.specs.Counting.{TellsTurns, none_counted, all_counts, counts_below}
use Rattle.ppm_table.specs.Shown.{InOrder, AllNew, AllIn, ClosedRun, deeds_of_processor, opening_of, counts_with}
use Rattle.ppm_ports.specs.Told.{KeepsFront}
use Rattle.ppm_table.proofs.RunLemmas.{lost_length}
use Rattle.ppm_table.proofs.SumLemmas.{tells_turns}
use Rattle.ppm_table.proofs.CountLemmas.{counts_in}
use Rattle.ppm_table.proofs.TellingLemmas.{keeps_still}
use Rattle.ppm_threads.specs.Going.{OwnObeys, HasQuit, told_of_deeds}
use Rattle.ppm_threads.specs.Driven.{AllBegin, Ends, AllEnd, AllKeep, IsToldOf, HasQuitIn, Driven, DrivenCounted, WasRefused}
use Rattle.ppm_threads.proofs.AmongLemmas.{are_among}
use Rattle.ppm_threads.proofs.ClosingLemmas.{obeys_in, tells_run}

pub some_of : {W : Type 0} (ws : List W) → 0 < length ws → W
some_of [] some = absurd (omega (arith, some))
some_of (w ∷ ws) some = w

pub begin_append : (s : Shared) (ps qs : List Processor) → AllBegin s (ps ++ qs) → AllBegin s ps × AllBegin s qs
begin_append s [] qs h = (tt, h)
begin_append s (p ∷ ps) qs h = let r = begin_append s ps qs h.1 in ((h.0, r.0), r.1)

pub in_order_begins : (s : Shared) (c : ℕ) (ps : List Processor) → InOrder s c ps → AllNew ps → AllBegin s ps
in_order_begins s c [] o n = tt
in_order_begins s c (p ∷ ps) o n = ((o.1, n.0), in_order_begins s (suc c) ps o.2 n.1)

and_true : (b : Bool) → b ≡ (b && true)
and_true true = refl
and_true false = refl

and_both : (a b c : Bool) → ((a && b) && c) ≡ (a && (b && c))
and_both true b c = refl
and_both false b c = refl

module _ {W : Type 0} (told : W → Option (List Event)) (plan : Planned) (limits : Limits) (s : Shared) where
  abbrev k : Opening
  k = opening_of s

  abbrev TurnsTold : List Turn → ℕ → Option (List Event) → Option (List Event) → Type 0
  TurnsTold turns c before now = IsToldOf told plan limits k turns c before now

  abbrev Quit : List Turn → ℕ → Option (List Event) → Option (List Event) → Type 0
  Quit turns c before now = HasQuitIn told plan limits k turns c before now

  -- one alone
  pub end_one : (x : Bool) (p : Processor) (w : W) (q : Processor) (v : W) → Ends told plan limits s x p w q v
      → AllEnd told plan limits s x (p ∷ []) (w ∷ []) (q ∷ []) (v ∷ [])
  end_one x p w q v e = (x, true, and_true x, e, (refl, refl))

  -- two halves, the first of which has a watcher for each processor
  pub end_append : (x y : Bool) (ps : List Processor) (ws : List W) (qs : List Processor) (vs : List W) (ps' : List Processor) (ws' : List W) (qs' : List Processor) (vs' : List W)
      → length ps ≡ length ws → AllEnd told plan limits s x ps ws qs vs → AllEnd told plan limits s y ps' ws' qs' vs'
      → AllEnd told plan limits s (x && y) (ps ++ ps') (ws ++ ws') (qs ++ qs') (vs ++ vs')
  end_append x y [] [] [] vs ps' ws' qs' vs' e h k =
      subst (λ (l : List W). AllEnd told plan limits s (x && y) ps' ws' qs' (l ++ vs')) h.0
      (subst (λ (b : Bool). AllEnd told plan limits s (b && y) ps' ws' qs' vs') (sym h.1) k)
  end_append x y [] (w ∷ ws) [] vs ps' ws' qs' vs' e h k = absurd (omega (arith, e))
  end_append x y [] ws (q ∷ qs) vs ps' ws' qs' vs' e h k = absurd h
  end_append x y (p ∷ ps) ws [] vs ps' ws' qs' vs' e h k = absurd h
  end_append x y (p ∷ ps) [] (q ∷ qs) vs ps' ws' qs' vs' e h k = absurd h
  end_append x y (p ∷ ps) (w ∷ ws) (q ∷ qs) [] ps' ws' qs' vs' e h k = absurd h
  end_append x y (p ∷ ps) (w ∷ ws) (q ∷ qs) (v ∷ vs) ps' ws' qs' vs' e h k = (
    h.0,
    h.1 && y,
    ap (λ (b : Bool). b && y) h.2 ∙ and_both h.0 h.1 y,
    h.3,
    end_append h.1 y ps ws qs vs ps' ws' qs' vs' (omega (arith, e)) h.4 k,
  )

  -- what two halves come to, by the lists that they are halves of
  pub end_joined : (x y taken : Bool) (ps : List Processor) (ws : List W) (qs : List Processor) (vs : List W) (ps' : List Processor) (ws' : List W) (qs' : List Processor) (vs' : List W)
      (processors : List Processor) (watch : List W) → length ps ≡ length ws → taken ≡ (x && y) → processors ≡ ps ++ ps' → watch ≡ ws ++ ws'
      → AllEnd told plan limits s x ps ws qs vs → AllEnd told plan limits s y ps' ws' qs' vs' → AllEnd told plan limits s taken processors watch (qs ++ qs') (vs ++ vs')
  end_joined x y taken ps ws qs vs ps' ws' qs' vs' processors watch e both halves watchers h k =
      subst (λ (b : Bool). AllEnd told plan limits s b processors watch (qs ++ qs') (vs ++ vs')) (sym both)
      (subst (λ (l : List Processor). AllEnd told plan limits s (x && y) l watch (qs ++ qs') (vs ++ vs')) (sym halves)
      (subst (λ (l : List W). AllEnd told plan limits s (x && y) (ps ++ ps') l (qs ++ qs') (vs ++ vs')) (sym watchers)
      (end_append x y ps ws qs vs ps' ws' qs' vs' e h k)))

  -- watchers after the last processor stay
  pub end_rest : (x : Bool) (ps : List Processor) (ws : List W) (qs : List Processor) (vs rest : List W) → length ps ≡ length ws → AllEnd told plan limits s x ps ws qs vs → AllEnd told plan limits s x ps (ws ++ rest) qs (vs ++ rest)
  end_rest x ps ws qs vs rest e h =
      subst (λ (l : List Processor). AllEnd told plan limits s x l (ws ++ rest) qs (vs ++ rest)) (append-nil ps)
      (subst (λ (l : List Processor). AllEnd told plan limits s x (ps ++ []) (ws ++ rest) l (vs ++ rest)) (append-nil qs)
      (subst (λ (b : Bool). AllEnd told plan limits s b (ps ++ []) (ws ++ rest) (qs ++ []) (vs ++ rest)) (sym (and_true x))
      (end_append x true ps ws qs vs [] rest [] rest e h (refl, refl))))

  -- the ends of processors and watchers, of vectors whose slices these were
  pub end_lent : (x : Bool) (ps : List Processor) (ws : List W) (qs : List Processor) (vs rest : List W) (processors : List Processor) (watch : List W) (processors' : List Processor) (watch' : List W)
      → length ps ≡ length ws → ps ≡ processors → ws ++ rest ≡ watch → processors' ≡ qs → watch' ≡ vs ++ rest
      → AllEnd told plan limits s x ps ws qs vs → AllEnd told plan limits s x processors watch processors' watch'
  end_lent x ps ws qs vs rest processors watch processors' watch' e old old_watch new new_watch h =
      subst (λ (l : List Processor). AllEnd told plan limits s x l watch processors' watch') old
      (subst (λ (l : List W). AllEnd told plan limits s x ps l processors' watch') old_watch
      (subst (λ (l : List Processor). AllEnd told plan limits s x ps (ws ++ rest) l watch') (sym new)
      (subst (λ (l : List W). AllEnd told plan limits s x ps (ws ++ rest) qs l) (sym new_watch)
      (end_rest x ps ws qs vs rest e h))))

  pub end_lengths : (x : Bool) (ps : List Processor) (ws : List W) (qs : List Processor) (vs : List W) → AllEnd told plan limits s x ps ws qs vs → (length qs ≡ length ps) × (length vs ≡ length ws)
  end_lengths x [] ws [] vs h = (refl, ap length (sym h.0))
  end_lengths x [] ws (q ∷ qs) vs h = absurd h
  end_lengths x (p ∷ ps) ws [] vs h = absurd h
  end_lengths x (p ∷ ps) [] (q ∷ qs) vs h = absurd h
  end_lengths x (p ∷ ps) (w ∷ ws) (q ∷ qs) [] h = absurd h
  end_lengths x (p ∷ ps) (w ∷ ws) (q ∷ qs) (v ∷ vs) h = let r = end_lengths h.1 ps ws qs vs h.4 in (ap suc r.0, ap suc r.1)

  pub end_order : (x : Bool) (c : ℕ) (ps : List Processor) (ws : List W) (qs : List Processor) (vs : List W) → InOrder s c ps → AllEnd told plan limits s x ps ws qs vs → InOrder s c qs
  end_order x c [] ws [] vs i h = tt
  end_order x c [] ws (q ∷ qs) vs i h = absurd h
  end_order x c (p ∷ ps) ws [] vs i h = absurd h
  end_order x c (p ∷ ps) [] (q ∷ qs) vs i h = absurd h
  end_order x c (p ∷ ps) (w ∷ ws) (q ∷ qs) [] i h = absurd h
  end_order x c (p ∷ ps) (w ∷ ws) (q ∷ qs) (v ∷ vs) i h = (h.3.own ∙ i.0, h.3.of, end_order h.1 (suc c) ps ws qs vs i.2 h.4)

  pub keep_still : (ws : List W) → AllKeep told ws ws
  keep_still ws j d = keeps_still told (get_or ws j d) (get_or ws j d) refl

  keep_at : (w v : W) (ws vs : List W) → KeepsFront (told w) (told v) → AllKeep told ws vs → AllKeep told (w ∷ ws) (v ∷ vs)
  keep_at w v ws vs h r zero d = h
  keep_at w v ws vs h r (suc j) d = r j d

  pub keep : (x : Bool) (ps : List Processor) (ws : List W) (qs : List Processor) (vs : List W) → AllEnd told plan limits s x ps ws qs vs → AllKeep told ws vs
  keep x [] ws [] vs h = λ j d. keeps_still told (get_or ws j d) (get_or vs j d) (ap (λ (l : List W). get_or l j d) (sym h.0))
  keep x [] ws (q ∷ qs) vs h = absurd h
  keep x (p ∷ ps) ws [] vs h = absurd h
  keep x (p ∷ ps) [] (q ∷ qs) vs h = absurd h
  keep x (p ∷ ps) (w ∷ ws) (q ∷ qs) [] h = absurd h
  keep x (p ∷ ps) (w ∷ ws) (q ∷ qs) (v ∷ vs) h = keep_at w v ws vs h.3.keeps (keep h.1 ps ws qs vs h.4)

  -- a processor whose watcher refused nothing obeys in the run, and it was told its record; one whose watcher refused has quit in it
  module _ (turns : List Turn) (c : ℕ) (p : Processor) (w : W) (q : Processor) (v : W) (all : AllTold k.shape k.code (start k) turns)
      (i : p.local.own ≡ c) (n : deeds_of_processor p ≡ []) (a : deeds_of_processor q ≡ deeds_in_run k q.local.own turns)
      (small : c < k.shape.processors) where
    deeds_are : (x : Bool) → Ends told plan limits s x p w q v → deeds_of_processor q ≡ deeds_in_run k c turns
    deeds_are x h = a ∙ ap (λ (m : ℕ). deeds_in_run k m turns) (h.own ∙ i)

    told_one : Ends told plan limits s true p w q v → TurnsTold turns c (told w) (told v)
    told_one h =
        let ds = deeds_are true h in (
          obeys_in plan limits k c turns small all
              (subst (λ (l : List Deed). OwnObeys plan limits k c l) ds (subst (λ (m : ℕ). OwnObeys plan limits k m (deeds_of_processor q)) i (h.obeys refl))),
          tells_run plan limits k c turns small all (told w) (told v)
              (λ list known.
              h.grows refl list (known ∙ ap (λ (l : List Event). Some l) (sym (append-nil list)) ∙ ap (λ (l : List Deed). Some (list ++ told_of_deeds plan limits k p.local.own l)) (sym n))
              ∙ ap (λ (m : ℕ). Some (list ++ told_of_deeds plan limits k m (deeds_of_processor q))) i ∙ ap (λ (l : List Deed). Some (list ++ told_of_deeds plan limits k c l)) ds),
        )

    quit_one : Ends told plan limits s false p w q v → Quit turns c (told w) (told v)
    quit_one h =
        subst (λ (l : List Deed). HasQuit plan limits k c (told w) (told v) [] l) (deeds_are false h)
        (subst (λ (l : List Deed). HasQuit plan limits k c (told w) (told v) (told_of_deeds plan limits k c l) (deeds_of_processor q)) n
        (subst (λ (m : ℕ). HasQuit plan limits k m (told w) (told v) (told_of_deeds plan limits k m (deeds_of_processor p)) (deeds_of_processor q)) i (h.quits refl)))

  abbrev Fares : (turns : List Turn) (x : Bool) → ℕ → Option (List Event) → Option (List Event) → Type 0
  Fares turns x c before now = (x ≡ true → TurnsTold turns c before now) × (TurnsTold turns c before now ⊎ Quit turns c before now)

  fares_first : (turns : List Turn) (c : ℕ) (p : Processor) (w : W) (q : Processor) (v : W) (x rest : Bool) → AllTold k.shape k.code (start k) turns
      → p.local.own ≡ c → deeds_of_processor p ≡ [] → deeds_of_processor q ≡ deeds_in_run k q.local.own turns → c < k.shape.processors
      → Ends told plan limits s x p w q v → Fares turns (x && rest) c (told w) (told v)
  fares_first turns c p w q v true rest all i n a small h = (λ _. told_one turns c p w q v all i n a small h, inl (told_one turns c p w q v all i n a small h))
  fares_first turns c p w q v false rest all i n a small h = (λ e. absurd (let f : false ≡ true = e in cc), inr (quit_one turns c p w q v all i n a small h))

  fares_further : (turns : List Turn) (c : ℕ) (before now : Option (List Event)) (first rest : Bool) → Fares turns rest c before now → Fares turns (first && rest) c before now
  fares_further turns c before now true rest f = f
  fares_further turns c before now false rest f = (λ e. absurd (let f : false ≡ true = e in cc), f.1)

  fares_at : (turns : List Turn) (x : Bool) (c : ℕ) (ps : List Processor) (ws : List W) (qs : List Processor) (vs : List W) → AllTold k.shape k.code (start k) turns → InOrder s c ps → AllBegin s ps → AllIn k turns qs
      → AllEnd told plan limits s x ps ws qs vs → (j : ℕ) (d : W) → j < length ps → c + j < k.shape.processors → Fares turns x (c + j) (told (get_or ws j d)) (told (get_or vs j d))
  fares_at turns x c [] ws qs vs all i n a h j d lt small = absurd (omega (arith, lt))
  fares_at turns x c (p ∷ ps) ws [] vs all i n a h j d lt small = absurd h
  fares_at turns x c (p ∷ ps) [] (q ∷ qs) vs all i n a h j d lt small = absurd h
  fares_at turns x c (p ∷ ps) (w ∷ ws) (q ∷ qs) [] all i n a h j d lt small = absurd h
  fares_at turns x c (p ∷ ps) (w ∷ ws) (q ∷ qs) (v ∷ vs) all i n a h zero d lt small =
      let e : p.local.own ≡ c + 0 = omega (arith, i.0) in
      subst (λ (b : Bool). Fares turns b (c + 0) (told w) (told v)) (sym h.2)
      (fares_first turns (c + 0) p w q v h.0 h.1 all e n.0.1 a.0 small h.3)
  fares_at turns x c (p ∷ ps) (w ∷ ws) (q ∷ qs) (v ∷ vs) all i n a h (suc j) d lt small =
      let e : suc c + j ≡ c + suc j = omega arith in
      subst (λ (b : Bool). Fares turns b (c + suc j) (told (get_or ws j d)) (told (get_or vs j d))) (sym h.2)
      (fares_further turns (c + suc j) (told (get_or ws j d)) (told (get_or vs j d)) h.0 h.1
      (subst (λ (m : ℕ). Fares turns h.1 m (told (get_or ws j d)) (told (get_or vs j d))) e
      (fares_at turns h.1 (suc c) ps ws qs vs all i.2 n.1 a.1 h.4 j d (omega (arith, lt)) (omega (arith, small)))))

  -- where one refused
  abbrev Refuses : (turns : List Turn) (c : ℕ) (count : ℕ) → List W → List W → Type 0
  Refuses turns c count ws vs = (j : ℕ) × (j < count) × ((d : W) → Quit turns (c + j) (told (get_or ws j d)) (told (get_or vs j d)))

  refuses_later : (turns : List Turn) (c count : ℕ) (w v : W) (ws vs : List W) → Refuses turns (suc c) count ws vs → Refuses turns c (suc count) (w ∷ ws) (v ∷ vs)
  refuses_later turns c count w v ws vs r =
      let e : suc c + r.0 ≡ c + suc r.0 = omega arith in (
        suc r.0,
        (let less = r.1 in omega (arith, less)),
        λ d. subst (λ (m : ℕ). Quit turns m (told (get_or ws r.0 d)) (told (get_or vs r.0 d))) e (r.2 d),
      )

  refuses_first : (turns : List Turn) (c count : ℕ) (p : Processor) (w : W) (q : Processor) (v : W) (ws vs : List W) (first rest : Bool)
      → AllTold k.shape k.code (start k) turns → p.local.own ≡ c → deeds_of_processor p ≡ [] → deeds_of_processor q ≡ deeds_in_run k q.local.own turns
      → c < k.shape.processors → Ends told plan limits s first p w q v → (rest ≡ false → Refuses turns (suc c) count ws vs) → (first && rest) ≡ false
      → Refuses turns c (suc count) (w ∷ ws) (v ∷ vs)
  refuses_first turns c count p w q v ws vs true rest all i n a small h further none = refuses_later turns c count w v ws vs (further none)
  refuses_first turns c count p w q v ws vs false rest all i n a small h further none =
      let e : p.local.own ≡ c + 0 = omega (arith, i) in
      let below : c + 0 < k.shape.processors = omega (arith, small) in
      (0, omega arith, λ d. quit_one turns (c + 0) p w q v all e n a below h)

  refuses_at : (turns : List Turn) (x : Bool) (c : ℕ) (ps : List Processor) (ws : List W) (qs : List Processor) (vs : List W) → AllTold k.shape k.code (start k) turns → InOrder s c ps → AllBegin s ps → AllIn k turns qs
      → AllEnd told plan limits s x ps ws qs vs → c + length ps ≤ k.shape.processors → x ≡ false → Refuses turns c (length ps) ws vs
  refuses_at turns x c [] ws [] vs all i n a h small none = absurd (let e : true ≡ false = sym h.1 ∙ none in cc)
  refuses_at turns x c [] ws (q ∷ qs) vs all i n a h small none = absurd h
  refuses_at turns x c (p ∷ ps) ws [] vs all i n a h small none = absurd h
  refuses_at turns x c (p ∷ ps) [] (q ∷ qs) vs all i n a h small none = absurd h
  refuses_at turns x c (p ∷ ps) (w ∷ ws) (q ∷ qs) [] all i n a h small none = absurd h
  refuses_at turns x c (p ∷ ps) (w ∷ ws) (q ∷ qs) (v ∷ vs) all i n a h small none =
      let here : c < k.shape.processors = omega (arith, small) in
      let behind : suc c + length ps ≤ k.shape.processors = omega (arith, small) in
      refuses_first turns c (length ps) p w q v ws vs h.0 h.1 all i.0 n.0.1 a.0 here h.3
      (λ rest. refuses_at turns h.1 (suc c) ps ws qs vs all i.2 n.1 a.1 h.4 behind rest) (sym h.2 ∙ none)

  pub rest_at : (x : Bool) (ps : List Processor) (ws : List W) (qs : List Processor) (vs : List W) → AllEnd told plan limits s x ps ws qs vs → (k : ℕ) (d : W) → length ps ≤ k → get_or vs k d ≡ get_or ws k d
  rest_at x [] ws [] vs h k d le = ap (λ (l : List W). get_or l k d) (sym h.0)
  rest_at x [] ws (q ∷ qs) vs h k d le = absurd h
  rest_at x (p ∷ ps) ws [] vs h k d le = absurd h
  rest_at x (p ∷ ps) [] (q ∷ qs) vs h k d le = absurd h
  rest_at x (p ∷ ps) (w ∷ ws) (q ∷ qs) [] h k d le = absurd h
  rest_at x (p ∷ ps) (w ∷ ws) (q ∷ qs) (v ∷ vs) h zero d le = absurd (omega (arith, le))
  rest_at x (p ∷ ps) (w ∷ ws) (q ∷ qs) (v ∷ vs) h (suc k) d le = rest_at h.1 ps ws qs vs h.4 k d (omega (arith, le))

  -- all of them, after a run
  module _ (words : List ℕ) (ps : List Processor) (ws : List W) (qs : List Processor) (vs : List W) (len : length ps ≡ k.shape.processors)
      (i : InOrder s 0 ps) (n : AllBegin s ps) (run : ClosedRun k words qs) where
    pub fares : (x : Bool) → AllEnd told plan limits s x ps ws qs vs → (c : ℕ) (d : W) → c < k.shape.processors
        → Fares run.turns x c (told (get_or ws c d)) (told (get_or vs c d))
    fares x h c d less =
        let e : 0 + c ≡ c = omega arith in
        subst (λ (m : ℕ). Fares run.turns x m (told (get_or ws c d)) (told (get_or vs c d))) e
        (fares_at run.turns x 0 ps ws qs vs run.told i n run.all h c d (omega (arith, len, less)) (omega (arith, less)))

    abbrev pub driven : plan.processors ≡ k.shape.processors → AllEnd told plan limits s true ps ws qs vs → length ps ≤ length ws
        → Driven told plan limits k words ws vs
    driven same h enough =
        let at : (c : ℕ) (d : W) → c < k.shape.processors → TurnsTold run.turns c (told (get_or ws c d)) (told (get_or vs c d)) = λ c d less. (fares true h c d less).0 refl in
        let obeys : (c : ℕ) → c < k.shape.processors → ObeysIn plan limits c k.shape k.code (start k) run.turns = λ c less. (at c (some_of ws (omega (arith, less, len, enough))) less).0 in
        record {
          turns = run.turns;
          words_are = run.words_are;
          obey = record {
            among = are_among plan limits k.shape k.code same (start k) (behind_turns k run.turns) run.turns (lost_length k.shape.processors) run.told
                (λ c less. (nothing_done, obeys c less));
            obeys = obeys;
          };
          told_are = λ c d less. (at c d less).1;
        }

    -- and so much was counted
    pub driven_counted : (counts : ActCounts) → s.counted ≡ true → counts ≡ counts_with none_counted qs → (same : plan.processors ≡ k.shape.processors)
        → (h : AllEnd told plan limits s true ps ws qs vs) → (enough : length ps ≤ length ws) → DrivenCounted told plan limits k words counts ws vs
    driven_counted counts on is same h enough =
        let all : counts ≡ all_counts k run.turns = is
        ∙ counts_in s run.turns 0 qs on (end_order true 0 ps ws qs vs i h) run.all
        ∙ ap (λ (c : ℕ). counts_below k run.turns c)
        (let e = (end_lengths true ps ws qs vs h).0 in let z : 0 + length qs ≡ k.shape.processors = omega (arith, e, len) in z) in
        record {
          driven = driven same h enough;
          counted = all;
          numbers = subst (λ (t : ActCounts). TellsTurns k run.turns t) (sym all) (tells_turns k run.turns run.told);
        }

    pub was_refused : AllEnd told plan limits s false ps ws qs vs → WasRefused told plan limits k ws vs
    was_refused h =
        let e : 0 + length ps ≤ k.shape.processors = omega (arith, len) in
        let r = refuses_at run.turns false 0 ps ws qs vs run.told i n run.all h e refl in
        let z : 0 + r.0 ≡ r.0 = omega arith in
        record {
          turns = run.turns;
          each = λ c d less. (fares false h c d less).1;
          refusing = r.0;
          is_there = (let less = r.1 in omega (arith, less, len));
          has_quit = λ d. subst (λ (m : ℕ). Quit run.turns m (told (get_or ws r.0 d)) (told (get_or vs r.0 d))) z (r.2 d);
        }

-- a vector whose slice was lent, once the loan ends
pub whole : {A : Type 0} (n : ℕ) (new old : List A) → length new ≡ n → length old ≡ n → take n (new ++ drop (length new) old) ≡ new
whole zero [] [] e f = refl
whole zero [] (y ∷ old) e f = absurd (omega arith)
whole zero (x ∷ new) old e f = absurd (omega arith)
whole (suc n) [] old e f = absurd (omega arith)
whole (suc n) (x ∷ new) [] e f = absurd (omega arith)
whole {A = A} (suc n) (x ∷ new) (y ∷ old) e f = ap (λ (l : List A). x ∷ l) (whole n new old (omega arith) (omega arith))
