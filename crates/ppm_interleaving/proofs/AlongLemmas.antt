-- A strand that comes along turns without faults comes along their deeds without faults, and its capsules have asked for the same.
use Rattle.std.proofs.Common.{◌≡◌, ℕ, List, ◌∷◌, Some, None, refl, sym, ap, ◌∙◌, subst}
use Rattle.ppm_strands.specs.Capsule.{Memory}
use Rattle.ppm_unseen.specs.Capsule.{Capsule as Racing, Ends as Stops}
use Rattle.ppm_unseen.specs.Run.{System, Deed, State, UnderWay, AllStill, Asked, asked, change, now}
use Rattle.ppm_unseen.specs.Run.{Unseen, Takes, Stores, Finds, Leaves, Opens, Joins, Faults, Seen, Alters, Splits, Finishes}
use Rattle.ppm_unseen.specs.Run.{Comes, Begins as BeginsAlone, Others as SeesDeed, Goes as GoesUnseen, Does as DoesSeen}
use Rattle.ppm_code.specs.Strands.{Result}
use Rattle.ppm_filled.specs.Racing.{OwnWord, Place, Exit}
use Rattle.ppm_interleaving.specs.declared.deed.Turn.TheVariants.{Step, Fault}
use Rattle.ppm_interleaving.specs.Falls.{HaveNoFault, FallsRefute}
use Rattle.ppm_interleaving.specs.Turns.{Moment, deeds, turns, ComesBy, Begins, Others, Goes, Does, Passes, Fails, Spared, KeepsUpTo, Here, Before, Ready, AsItIs, AtEnd}
use Rattle.ppm_interleaving.specs.Turns.{came, made_ready, kept_up, with_faults}

module _ (s : System OwnWord Place Exit Result) (me : ℕ) where
  -- without faults, with the same asked for as with them
  pub record Along (t : List (Deed OwnWord Place Result)) (σ : State OwnWord Place Exit) (a : Asked) : Type 0 where
    pub comes : Comes s ⊥ me t σ
    pub same : asked comes ≡ a

  -- a step
  stepped : {t : List (Deed OwnWord Place Result)} {σ τ : State OwnWord Place Exit} (c : Comes s (Unit {0}) me t σ) (u : Unseen s ⊥ t σ τ)
      → Along t σ (asked c) → Along t τ (asked (GoesUnseen c (with_faults s u)))
  stepped c (Takes x go) a = record { comes = GoesUnseen a.comes (Takes x go); same = a.same }
  stepped c (Stores x v rest) a = record { comes = GoesUnseen a.comes (Stores x v rest); same = a.same }
  stepped c (Finds x go) a = record { comes = GoesUnseen a.comes (Finds x go); same = a.same }
  stepped c (Leaves x g rest still) a = record {
    comes = GoesUnseen a.comes (Leaves x g rest still);
    same = ap (λ (b : Asked). record { all = change x g ∷ b.all; settled = b.settled }) a.same;
  }
  stepped c (Opens e f is) a = record { comes = GoesUnseen a.comes (Opens e f is); same = refl }
  stepped c (Joins g n fs os over) a = record { comes = GoesUnseen a.comes (Joins g n fs os over); same = refl }
  stepped c (Faults none o kept) a = absurd none

  done_by : {t : List (Deed OwnWord Place Result)} {σ τ : State OwnWord Place Exit} {d : Deed OwnWord Place Result} (c : Comes s (Unit {0}) me t σ)
      (u : Seen s me t σ d τ) → Along t σ (asked c) → Along (d ∷ t) τ (asked (DoesSeen c u))
  done_by c (Alters x g rest other) a = record {
    comes = DoesSeen a.comes (Alters x g rest other);
    same = ap (λ (b : Asked). record { all = change x g ∷ b.all; settled = change x g ∷ b.all }) a.same;
  }
  done_by c (Splits e fs g is) a = record { comes = DoesSeen a.comes (Splits e fs g is); same = refl }
  done_by c (Finishes e outcome is) a = record { comes = DoesSeen a.comes (Finishes e outcome is); same = refl }

  -- the stores of an end
  kept : {t : List (Deed OwnWord Place Result)} {k : Place} {rest : Racing OwnWord Exit} {o p : Memory OwnWord} {e : Exit}
      (c : Comes s (Unit {0}) me t (UnderWay k rest o)) (up : KeepsUpTo s rest o e p) → Along t (UnderWay k rest o) (asked c)
      → Along t (UnderWay k (Stops e) p) (asked (kept_up s c up))
  kept c (Here e o) a = a
  kept c (Before x v up) a = kept (GoesUnseen c (Stores x v _)) up (record { comes = GoesUnseen a.comes (Stores x v _); same = a.same })

  readied : {t : List (Deed OwnWord Place Result)} {σ ρ : State OwnWord Place Exit} (c : Comes s (Unit {0}) me t σ) (r : Ready s σ ρ)
      → Along t σ (asked c) → Along t ρ (asked (made_ready s c r))
  readied c (AsItIs elsewhere) a = a
  readied c (AtEnd there up) a = kept c up a

  pub along : {h : List Moment} {σ : State OwnWord Place Exit} (c : ComesBy s me h σ) → HaveNoFault (turns h) → Along (deeds h) σ (asked (came s c))
  along Begins free = record { comes = BeginsAlone; same = refl }
  along (Others (Step i) None other done c) free = let a = along c free in record { comes = a.comes; same = a.same }
  along (Others (Step i) (Some d) other done c) free =
      let a = along c free in record { comes = SeesDeed d (λ same. other (sym done ∙ same)) a.comes; same = a.same }
  along (Others (Fault i) d other done c) free = absurd free
  along (Goes c r u) free = stepped (made_ready s (came s c) r) u (readied (came s c) r (along c free))
  along (Does c r u) free = done_by (made_ready s (came s c) r) u (readied (came s c) r (along c free))
  along (Passes c still) free = let a = along c free in record { comes = a.comes; same = a.same }
  along (Fails c) free = absurd free
  along (Spared c elsewhere) free = absurd free

pub falls_refute : (s : System OwnWord Place Exit Result) → FallsRefute s
falls_refute s h i free run falls stands =
    let a = along s i falls.1 free in
    falls.2 (subst (λ (b : Asked). AllStill (now s (deeds h)) b.settled) a.same
    (stands i (deeds h) falls.0 a.comes (λ j. ((run j).0, (along s j (run j).1 free).comes))))
