-- Three conditions on a system: each capsule is ordered and filled, and what is done stands in runs without faults.
use Rattle.std.specs.Prelude.{◌≡◌, ◌⊎◌, ℕ, Bool, true, false, List, [], ◌∷◌}
use Rattle.ppm_strands.specs.Capsule.{Memory, In}
use Rattle.ppm_unseen.specs.Capsule.{Capsule, Loads, Keeps, Reads, Changes, Ends}
use Rattle.ppm_unseen.specs.Run.{System, Deed, State, Comes, IsHistory, AllStill, settled, now}

module _ {A E : Type 0} where
  -- no path has a change
  abbrev pub HasNoChange : Capsule A E → Type 0
  HasNoChange (Loads x go) = (v : ℕ) → HasNoChange (go v)
  HasNoChange (Keeps x v rest) = HasNoChange rest
  HasNoChange (Reads x go) = (v : ℕ) → HasNoChange (go v)
  HasNoChange (Changes x g rest) = ⊥
  HasNoChange (Ends e) = Unit {0}

  -- on each path, whatever it loads and reads, the changes come before the reads
  abbrev pub IsOrdered : Capsule A E → Type 0
  IsOrdered (Loads x go) = (v : ℕ) → IsOrdered (go v)
  IsOrdered (Keeps x v rest) = IsOrdered rest
  IsOrdered (Reads x go) = (v : ℕ) → HasNoChange (go v)
  IsOrdered (Changes x g rest) = IsOrdered rest
  IsOrdered (Ends e) = Unit {0}

  -- begun with the own words o, and with w kept already: on each path, whatever it reads, all words of `out` are kept, these alone, and none of
  -- them is loaded before
  abbrev pub FillsPast : (out : A → Bool) → (o : Memory A) → (w : List A) → Capsule A E → Type 0
  FillsPast out o w (Loads x go) = ((out x ≡ false) × FillsPast out o w (go (o x))) ⊎ (In x w × ((v : ℕ) → FillsPast out o w (go v)))
  FillsPast out o w (Keeps x v rest) = (out x ≡ true) × FillsPast out o (x ∷ w) rest
  FillsPast out o w (Reads x go) = (v : ℕ) → FillsPast out o w (go v)
  FillsPast out o w (Changes x g rest) = FillsPast out o w rest
  FillsPast out o w (Ends e) = (x : A) → out x ≡ true → In x w

  -- from whatever own words, it keeps some of them so, and among these all words of the block that its point builds, also where its end opens none
  abbrev pub IsFilled : (builds : A → Bool) → Capsule A E → Type 0
  IsFilled builds c = (o : Memory A) → (out : A → Bool) × FillsPast out o [] c × ((x : A) → builds x ≡ true → out x ≡ true)

module _ {A K E O : Type 0} (s : System A K E O) where
  -- each capsule makes its changes before its reads
  abbrev pub AreOrdered : Type 0
  AreOrdered = (k : K) → IsOrdered (s.code.capsule k)

  -- each capsule keeps the same own words whatever it reads
  abbrev pub AreFilled : Type 0
  AreFilled = (k : K) → IsFilled (s.code.builds k) (s.code.capsule k)

  -- at each moment of a run without faults, what the capsule under way has settled would, made again, change nothing
  abbrev pub Stands : Type 0
  Stands = (i : ℕ) (t : List (Deed A K O)) (σ : State A K E) (h : Comes s ⊥ i t σ) → IsHistory s ⊥ t → AllStill (now s t) (settled h)
