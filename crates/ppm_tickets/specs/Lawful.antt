-- What always holds of the words: the deques' shape, where each branch is, who holds a place; and
-- how words may go on by what others do.
use Rattle.std.specs.Prelude.{◌≡◌, ◌≢◌, ◌⊎◌, ◌<◌, ◌≤◌, ◌-◌, ◌+◌, if◌then◌else◌, ℕ, suc, List, [], ◌∷◌, Bool, true, false}
use Rattle.ppm_cells.specs.declared.restart.RestartKind.{RestartKind}
use Rattle.ppm_cells.specs.declared.restart.RestartKind.TheVariants.{Push1, Push2, Pop1, Pop2, Steal, Check, Take}
use Rattle.ppm_cells.specs.declared.shape.Takeover.{Takeover}
use Rattle.ppm_cells.specs.declared.shape.Takeover.TheVariants.{ByPlaces, ByEntries}
use Rattle.ppm_tickets.specs.Words.{Word, Empty, Local, Job, Taken, Held, Number, Linked, Restarts, Unread, Spot, Message, Bid, Top, Slot, Holder, Carry, Dead, Restart, Other, has}
use Rattle.ppm_tickets.specs.Homes.{Home, Unborn, Pushing, Listed, Popping, Stolen, Inline, Begun, Once}

-- the kinds of entries
abbrev pub IsEmpty : Word → Type 0
IsEmpty (Empty t) = Unit {0}
IsEmpty _ = ⊥

-- a local entry
abbrev pub IsLocal : Word → Type 0
IsLocal (Local t x) = Unit {0}
IsLocal _ = ⊥

-- a job
abbrev pub IsJob : Word → Type 0
IsJob (Job t x) = Unit {0}
IsJob _ = ⊥

-- a taken entry
abbrev pub IsTaken : Word → Type 0
IsTaken (Taken t x) = Unit {0}
IsTaken _ = ⊥

-- a dead word that is not 0: its processor takes no more steps
abbrev pub IsDead : Word → Type 0
IsDead (Number (suc n)) = Unit {0}
IsDead _ = ⊥

-- a holder word names this processor
abbrev pub Names : Word → ℕ → Type 0
Names (Held t x) c = x ≡ c
Names _ c = ⊥

-- the tag of a word, and the number of a number
abbrev pub tag : Word → ℕ
tag (Empty t) = t
tag (Local t x) = t
tag (Job t x) = t
tag (Taken t x) = t
tag (Held t x) = t
tag (Number n) = n
tag (Linked link) = 0
tag (Restarts kind bottom) = 0
tag Unread = 0

-- others have changed an entry of place v while p looked on
pub record Moved (p v : ℕ) (u w : Word) : Type 0 where
  pub free : IsTaken u → ⊥
  pub rise : tag u < tag w
  pub other : (t : ℕ) → w ≢ Taken t p
  pub heir : (t : ℕ) → w ≢ Taken t (p + 64)
  pub own : v ≡ p → IsJob u × IsTaken w

-- how the word of a spot may go on by what others do than processor o, which carries place p and
-- lives
abbrev pub May : (o p : ℕ) → Spot → Word → Word → Type 0
May o p (Message q) u w = q ≡ p → u ≡ w
May o p (Bid q) u w = q ≡ p → u ≡ w
May o p (Restart q) u w = q ≡ p → u ≡ w
May o p (Top v) u w = tag u ≤ tag w
May o p (Slot v i) u w = (u ≡ w) ⊎ Moved p v u w
May o p (Holder v) u w = (Names u o → u ≡ w) × (tag u ≤ tag w)
May o p (Carry d) u w = d ≡ o → u ≡ w
May o p (Dead d) u w = (d ≡ o → u ≡ w) × (IsDead u → IsDead w)
May o p Other u w = Unit {0}

-- where takeover is by entries a closed place is as it was left
abbrev pub Frozen : Takeover → (Spot → Word) → (Spot → Word) → Type 0
Frozen ByPlaces m n = Unit {0}
Frozen ByEntries m n = (q : ℕ) → IsDead (m (Dead q))
    → IsDead (n (Dead q)) × (m (Restart q) ≡ n (Restart q)) × (m (Message q) ≡ n (Message q))

-- how all words may go on by what others do
pub record Grows (how : Takeover) (o p : ℕ) (m n : Spot → Word) : Type 0 where
  pub each : (c : Spot) → May o p c (m c) (n c)
  pub frozen : Frozen how m n

-- a job, or one that was taken
abbrev pub IsTicket : Word → Type 0
IsTicket w = IsJob w ⊎ IsTaken w

-- a local entry with this payload
abbrev pub Gives : Word → ℕ → Type 0
Gives (Local t x) r = x ≡ r
Gives _ r = ⊥

-- the words of the slots below the bottom, at the bottom and above it
abbrev pub AtBottom : RestartKind → Word → Word → Word → Type 0
AtBottom (Push1 r) d w u = IsTicket d × IsLocal w × (IsEmpty u ⊎ IsLocal u)
AtBottom (Push2 r) d w u = IsTicket d × (IsLocal w ⊎ IsTicket w) × IsLocal u
AtBottom Pop1 d w u = (IsLocal d ⊎ IsTicket d) × IsLocal w × IsEmpty u
AtBottom (Pop2 r) d w u = ((IsTaken d × IsLocal w) ⊎ (Gives d r × (IsEmpty w ⊎ IsLocal w)))
    × Unit {0} × IsEmpty u
AtBottom _ d w u = IsTicket d × IsLocal w × IsEmpty u

-- the shape of a place's deque, by what the place is at: slot 0 is taken, jobs and taken ones below
-- the bottom, at the bottom by the kind, empty above
pub record Deque (k : RestartKind) (b : ℕ) (e : ℕ → Word) : Type 0 where
  pub start : 0 < b
  pub floor : IsTaken (e 0)
  pub below : (i : ℕ) → i + 1 < b → IsTicket (e i)
  pub here : AtBottom k (e (b - 1)) (e b) (e (b + 1))
  pub above : (i : ℕ) → b + 1 < i → IsEmpty (e i)

-- a place of this kind, with this word at its bottom, has still to make the job of r
abbrev pub Pushes : RestartKind → Word → ℕ → Type 0
Pushes (Push1 x) w r = x ≡ r
Pushes (Push2 x) w r = (x ≡ r) × IsLocal w
Pushes _ w r = ⊥

-- a place of this kind, with this word below its bottom, has got the job of r back
abbrev pub Pops : RestartKind → Word → ℕ → Type 0
Pops Pop1 d r = Gives d r
Pops (Pop2 x) d r = (x ≡ r) × IsLocal d
Pops _ d r = ⊥

-- the message is a job of slot i of place v, and the entry there is taken by this place with the
-- next tag
abbrev pub Wins : (Spot → Word) → (p v i r : ℕ) → Type 0
Wins m p v i r = (t : ℕ) × (m (Message p) ≡ Job t r) × (m (Slot v i) ≡ Taken (t + 1) p)

-- a place that steals, or checks what it stole, has won the job of r
abbrev pub Steals : (Spot → Word) → ℕ → RestartKind → ℕ → Type 0
Steals m p (Steal v i) r = Wins m p v i r
Steals m p (Check v i) r = Wins m p v i r
Steals m p _ r = ⊥

-- that a branch is there, by the words
abbrev pub Carries : (Spot → Word) → (ℕ → RestartKind) → (ℕ → ℕ) → Home → ℕ → Type 0
Carries m k b Unborn r = Unit {0}
Carries m k b (Pushing p) r = Pushes (k p) (m (Slot p (b p))) r
Carries m k b (Listed v i t) r = m (Slot v i) ≡ Job t r
Carries m k b (Popping p) r = Pops (k p) (m (Slot p (b p - 1))) r
Carries m k b (Stolen p) r = Steals m p (k p) r
Carries m k b Inline r = Unit {0}
Carries m k b Begun r = Unit {0}

-- the homes at which a place or a slot has the branch
abbrev pub IsCarrier : Home → Type 0
IsCarrier Unborn = ⊥
IsCarrier Inline = ⊥
IsCarrier Begun = ⊥
IsCarrier _ = Unit {0}

-- not at a place that another has followed
abbrev pub Stays : (gone : ℕ → Bool) → Home → Type 0
Stays gone (Pushing p) = gone p ≡ false
Stays gone (Popping p) = gone p ≡ false
Stays gone (Stolen p) = gone p ≡ false
Stays gone _ = Unit {0}

-- the deques have their shape; each branch is where its home says, by the words; and where they
-- show a branch, at a place that no other has followed, there is its home
pub record Board (m : Spot → Word) (k : ℕ → RestartKind) (b : ℕ → ℕ) (gone : ℕ → Bool) (h : ℕ → Home) : Type 0 where
  pub deque : (v : ℕ) → Deque (k v) (b v) (λ i. m (Slot v i))
  pub real : (r : ℕ) → Carries m k b (h r) r
  pub stays : (r : ℕ) → Stays gone (h r)
  pub only : (x : Home) (r : ℕ) → IsCarrier x → Stays gone x → Carries m k b x r → h r ≡ x

-- a place is closed, with takeover by entries, where its processor is dead
abbrev pub Closed : Takeover → (Spot → Word) → ℕ → Type 0
Closed ByPlaces m v = ⊥
Closed ByEntries m v = IsDead (m (Dead v))

-- taken by inheriting: takers of 64 and more
abbrev pub IsClaim : Word → Type 0
IsClaim (Taken t q) = 64 ≤ q
IsClaim _ = ⊥

-- an entry of a closed place that was local, and was taken so
pub record Inherited (shut : Type 0) (was now : Word) : Type 0 where
  pub is_shut : shut
  pub local : IsLocal was
  pub claim : IsClaim now

-- the words as they would be, had no entry been inherited
pub record Covers (shut : ℕ → Type 0) (g m : Spot → Word) : Type 0 where
  pub others : (d : Spot) → ((v i : ℕ) → Slot v i ≢ d) → g d ≡ m d
  pub slots : (v i : ℕ)
      → ((g (Slot v i) ≡ m (Slot v i)) × (IsClaim (m (Slot v i)) → ⊥))
      ⊎ Inherited (shut v) (g (Slot v i)) (m (Slot v i))

-- whether an entry is local
abbrev pub is_local : Word → Bool
is_local (Local t x) = true
is_local _ = false

-- the slot whose local entry stands for what a place is at: the bottom; of Push2 the one above,
-- once the job is made; of Pop1 and Pop2 the one below, once the job is got back
abbrev pub active : RestartKind → (bottom : ℕ) → (low here : Word) → ℕ
active (Push2 r) b low here = if is_local here then b else b + 1
active Pop1 b low here = if is_local low then b - 1 else b
active (Pop2 r) b low here = if is_local low then b - 1 else b
active _ b low here = b

-- of the place v, by these entries, kinds and bottoms
abbrev pub active_at : (Spot → Word) → (ℕ → RestartKind) → (ℕ → ℕ) → ℕ → ℕ
active_at g k b v = active (k v) (b v) (g (Slot v (b v - 1))) (g (Slot v (b v)))

-- a place is about to steal from a slot, or checks what it has there
abbrev pub IsThief : RestartKind → (v i : ℕ) → Type 0
IsThief k v i = (k ≡ Steal v i) ⊎ (k ≡ Check v i)

-- the board by the words as they would be, and which places another has followed: those whose
-- active entry is inherited, and not while the heir of that entry is there that is not followed
-- itself. An heir's message is the entry as it was
pub record Estate (shut : ℕ → Type 0) (m : Spot → Word) (k : ℕ → RestartKind) (b : ℕ → ℕ) (h : ℕ → Home) : Type 0 where
  pub ghost : Spot → Word
  pub gone : ℕ → Bool
  pub covers : Covers shut ghost m
  pub board : Board ghost k b gone h
  pub late : (v : ℕ) → gone v ≡ true
      → (t : ℕ) × (q : ℕ) × (m (Slot v (active_at ghost k b v)) ≡ Taken t (q + 64))
  pub told : (q v i t : ℕ) → IsThief (k q) v i → m (Slot v i) ≡ Taken t (q + 64)
      → (m (Message q) ≡ ghost (Slot v i))
      × (gone q ≡ false → i ≡ active_at ghost k b v → gone v ≡ false)
  pub meant : (q v i t x : ℕ) → IsThief (k q) v i → m (Message q) ≡ Local t x → shut v

-- q has inherited what the place w was at
pub record IsHeir (g m : Spot → Word) (k : ℕ → RestartKind) (b : ℕ → ℕ) (q w : ℕ) : Type 0 where
  pub slot : ℕ
  pub tag : ℕ
  pub thief : IsThief (k q) w slot
  pub taken : m (Slot w slot) ≡ Taken tag (q + 64)
  pub at : slot ≡ active_at g k b w

-- the first of these places, p if there is none
abbrev pub heir_from : (p : ℕ) → List ℕ → ℕ
heir_from p [] = p
heir_from p (v ∷ l) = v

-- each place of the list was inherited by the next one, and the last by p
abbrev pub IsTrail : (g m : Spot → Word) → (ℕ → RestartKind) → (ℕ → ℕ) → (p : ℕ) → List ℕ → Type 0
IsTrail g m k b p [] = Unit {0}
IsTrail g m k b p (w ∷ l) = IsHeir g m k b (heir_from p l) w × IsTrail g m k b p l

-- a thief's slot: all below it are taken
abbrev pub Aims : (Spot → Word) → RestartKind → Type 0
Aims m (Steal v i) = (j : ℕ) → j < i → IsTaken (m (Slot v j))
Aims m (Check v i) = (j : ℕ) → j < i → IsTaken (m (Slot v j))
Aims m _ = Unit {0}

-- jobs are taken from the top
pub record Order (m : Spot → Word) (k : ℕ → RestartKind) : Type 0 where
  pub passed : (v i : ℕ) → i < tag (m (Top v)) → IsTaken (m (Slot v i))
  pub first : (v i j : ℕ) → i < j → IsTaken (m (Slot v j)) → IsTaken (m (Slot v i))
  pub aimed : (p : ℕ) → Aims m (k p)

-- a branch was forked where it is not unborn any more, and taken where it was begun; none was forked
-- or taken twice
pub record Counts (h : ℕ → Home) (forked taken : List ℕ) : Type 0 where
  pub born : (r : ℕ) → has forked r ≡ true → h r ≢ Unborn
  pub listed : (r : ℕ) → h r ≢ Unborn → has forked r ≡ true
  pub begun : (r : ℕ) → has taken r ≡ true → h r ≡ Begun
  pub counted : (r : ℕ) → h r ≡ Begun → has taken r ≡ true
  pub once : Once taken
  pub forked_once : Once forked

-- the processor is not dead
abbrev pub IsAlive : (Spot → Word) → ℕ → Type 0
IsAlive m c = IsDead (m (Dead c)) → ⊥

-- who bids for a place bids for a dead processor's, or comes too late
abbrev pub Dooms : (Spot → Word) → ℕ → RestartKind → Type 0
Dooms m p (Take v h) = (t : ℕ) × (c : ℕ) × (m (Bid p) ≡ Held (t + 1) c) × (t ≤ tag (m (Holder v)))
    × (IsDead (m (Dead h)) ⊎ (t < tag (m (Holder v))))
Dooms m p _ = Unit {0}

-- with takeover by entries processors carry their own places
abbrev pub Rooted : Takeover → (Spot → Word) → Type 0
Rooted ByPlaces m = Unit {0}
Rooted ByEntries m = (c : ℕ) → m (Carry c) ≡ Number c

-- with takeover by entries the place of a processor is its own
abbrev pub IsHome : Takeover → (o p : ℕ) → Type 0
IsHome ByPlaces o p = Unit {0}
IsHome ByEntries o p = p ≡ o

-- the place that a living processor carries is held by it
pub record Holding (m : Spot → Word) (k : ℕ → RestartKind) : Type 0 where
  pub held : (c p : ℕ) → IsAlive m c → m (Carry c) ≡ Number p → Names (m (Holder p)) c
  pub carried : (c : ℕ) → (p : ℕ) × (m (Carry c) ≡ Number p)
  pub doomed : (p : ℕ) → Dooms m p (k p)

-- the lawful changes of an entry by kinds and tags, each raising its tag by one; with payloads they are `Changes` of
-- `ppm_cells`
abbrev pub Changes : Takeover → Word → Word → Type 0
Changes how (Empty t) (Local u x) = u ≡ t + 1
Changes how (Local t x) (Job u r) = u ≡ t + 1
Changes how (Local t x) (Empty u) = u ≡ t + 1
Changes how (Job t r) (Local u x) = u ≡ t + 1
Changes how (Job t r) (Taken u p) = u ≡ t + 1
Changes ByEntries (Local t x) (Taken u p) = u ≡ t + 1
Changes how _ _ = ⊥

-- a branch is at one place alone
abbrev pub HasOneHome : (Spot → Word) → (ℕ → RestartKind) → (ℕ → ℕ) → ℕ → Type 0
HasOneHome m k b r = (x : Home) × IsCarrier x × Carries m k b x r
    × ((y : Home) → IsCarrier y → Carries m k b y r → y ≡ x)
