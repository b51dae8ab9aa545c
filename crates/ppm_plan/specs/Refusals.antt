-- When a text has its items, and when each refusal comes: each is looked for over the whole text, one after the other.
use Rattle.std.specs.Prelude.{◌≡◌, ◌<◌, ◌≤◌, ℕ, ◌+◌, Bool, true, false, not, is_some, if◌then◌else◌, List, [], ◌∷◌, map, length, Option, Some, None}
use Rattle.std.specs.List.{list_any}
use Rattle.ppm_plan.specs.declared.plan_error.PlanError.{PlanError}
use Rattle.ppm_plan.specs.declared.plan_error.PlanError.TheVariants.{BadItem, NoSuchProcessor, TooManyFaults, AllKilled, NoMemory}
use Rattle.ppm_plan.specs.Pieces.{pieces_of}
use Rattle.ppm_plan.specs.Forms.{Form}

-- the most items of a plan or a schedule
abbrev pub item_limit : ℕ
item_limit = 4096

-- the place of the first that passes a test, counted from a number on
abbrev pub first_at : {A : Type 0} → (A → Bool) → ℕ → List A → Option ℕ
first_at test n [] = None
first_at test n (x ∷ xs) = if test x then Some n else first_at test (n + 1) xs

-- what the pieces of a text read as
abbrev pub readings : {A : Type 0} → Form A → List ℕ → List (Option A)
readings form text = map form.reading (pieces_of text)

abbrev pub is_missing : {A : Type 0} → Option A → Bool
is_missing a = not (is_some a)

-- a text has these items: each piece reads as one
abbrev pub HasItems : {A : Type 0} → Form A → List ℕ → List A → Type 0
HasItems form text items = readings form text ≡ map Some items

-- the first piece that reads as no item; that memory was refused is no refusal
abbrev pub IsBadItem : {A : Type 0} → Form A → List ℕ → PlanError → Type 0
IsBadItem form text (BadItem n) = first_at is_missing 1 (readings form text) ≡ Some n
IsBadItem form text (NoSuchProcessor n) = ⊥
IsBadItem form text TooManyFaults = ⊥
IsBadItem form text AllKilled = ⊥
IsBadItem form text NoMemory = Unit {0}

-- a processor is killed by some item
abbrev pub is_killed : {A : Type 0} → Form A → ℕ → List A → Bool
is_killed form c items = list_any (form.kills c) items

-- the keeper: the least processor that no item kills
pub record IsKeeper {A : Type 0} (form : Form A) (items : List A) (keeper : ℕ) : Type 0 where
  pub spared : is_killed form keeper items ≡ false
  pub least : (c : ℕ) → c < keeper → is_killed form c items ≡ true

-- items that may be obeyed by p processors: they name none else, are not too many, and spare the keeper
pub record MayBeObeyed {A : Type 0} (form : Form A) (p : ℕ) (items : List A) (keeper : ℕ) : Type 0 where
  pub there : first_at (form.is_outside p) 1 items ≡ None
  pub few : length items ≤ item_limit
  pub kept : IsKeeper form items keeper
  pub below : keeper < p

-- all processors are killed
pub record AreAllKilled {A : Type 0} (form : Form A) (p : ℕ) (items : List A) : Type 0 where
  pub there : first_at (form.is_outside p) 1 items ≡ None
  pub few : length items ≤ item_limit
  pub killed : (c : ℕ) → c < p → is_killed form c items ≡ true

-- why items may not be obeyed
abbrev pub MayNotBeObeyed : {A : Type 0} → Form A → ℕ → List A → PlanError → Type 0
MayNotBeObeyed form p items (BadItem n) = ⊥
MayNotBeObeyed form p items (NoSuchProcessor n) = first_at (form.is_outside p) 1 items ≡ Some n
MayNotBeObeyed form p items TooManyFaults = (first_at (form.is_outside p) 1 items ≡ None) × (item_limit < length items)
MayNotBeObeyed form p items AllKilled = AreAllKilled form p items
MayNotBeObeyed form p items NoMemory = ⊥

-- the text has items, and they may not be obeyed
pub record HasRefusedItems {A : Type 0} (form : Form A) (text : List ℕ) (p : ℕ) (error : PlanError) : Type 0 where
  pub items : List A
  pub has : HasItems form text items
  pub refused : MayNotBeObeyed form p items error

-- a refusal of a text: its first piece that reads as no item; else why its items may not be obeyed. That memory was refused is none
abbrev pub IsRefused : {A : Type 0} → Form A → List ℕ → ℕ → PlanError → Type 0
IsRefused form text p (BadItem n) = IsBadItem form text (BadItem n)
IsRefused form text p (NoSuchProcessor n) = HasRefusedItems form text p (NoSuchProcessor n)
IsRefused form text p TooManyFaults = HasRefusedItems form text p TooManyFaults
IsRefused form text p AllKilled = HasRefusedItems form text p AllKilled
IsRefused form text p NoMemory = Unit {0}

-- a text has items that may be obeyed by p processors
pub record IsAccepted {A : Type 0} (form : Form A) (text : List ℕ) (p : ℕ) (items : List A) : Type 0 where
  pub has : HasItems form text items
  pub keeper : ℕ
  pub obeyed : MayBeObeyed form p items keeper

-- the number of a refusal; 0 where memory was refused, which is no fault of the text
abbrev pub number_of : PlanError → ℕ
number_of (BadItem n) = 1
number_of (NoSuchProcessor n) = 2
number_of TooManyFaults = 3
number_of AllKilled = 4
number_of NoMemory = 0
