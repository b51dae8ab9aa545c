-- One step of a run over slots.
use Rattle.std.specs.Prelude.{ℕ, suc, ◌-◌, nat_lt, ℤ, pos, true, List, [], ◌∷◌, Option, Some, None, Result, Ok, Err, if◌then◌else◌, get_or}
use Rattle.ppm_tree.specs.Values.{holds}
use Rattle.ppm_tree.specs.State.{then_with, nowhere, first_part, second_part, part_at, index_in, split_at, with_word, Arrays}
use Rattle.ppm_serial.specs.declared.code.Stop.{Stop}
use Rattle.ppm_serial.specs.declared.code.Stop.TheVariants as stop
use Rattle.ppm_serial.specs.declared.code.Value.{Value}
use Rattle.ppm_serial.specs.declared.code.Passed.{Passed}
use Rattle.ppm_serial.specs.declared.code.Passed.TheVariants as passed
use Rattle.ppm_serial.specs.declared.code.Call.{Call}
use Rattle.ppm_serial.specs.declared.code.Parts.{Parts}
use Rattle.ppm_serial.specs.declared.code.Step.{Step}
use Rattle.ppm_serial.specs.declared.code.Step.TheVariants as step
use Rattle.ppm_serial.specs.declared.code.Place.{Place}
use Rattle.ppm_serial.specs.declared.stack.Rest.{Rest}
use Rattle.ppm_serial.specs.declared.stack.Rest.TheVariants as rest
use Rattle.ppm_serial.specs.declared.stack.Sweep.{Sweep}
use Rattle.ppm_serial.specs.declared.stack.Caller.{Caller}
use Rattle.ppm_serial.specs.declared.run.Run.{Run}
use Rattle.ppm_serial.specs.Slots.{Slots, fresh, with_local_at, with_region_at, with_regions}
use Rattle.ppm_serial.specs.Worth.{worth, stopped}
use Rattle.ppm_serial.specs.Code.{Laid, step_at, routine_at}

-- a run with other parts
abbrev pub with_frame : Run → Slots → Run
with_frame s f = record { frame = f; store = s.store; stack = s.stack; place = s.place; left = s.left; ended = s.ended }

abbrev pub with_store : Run → Arrays → Run
with_store s a = record { frame = s.frame; store = a; stack = s.stack; place = s.place; left = s.left; ended = s.ended }

abbrev pub with_stack : Run → List Rest → Run
with_stack s k = record { frame = s.frame; store = s.store; stack = k; place = s.place; left = s.left; ended = s.ended }

abbrev pub with_place : Run → Place → Run
with_place s p = record { frame = s.frame; store = s.store; stack = s.stack; place = p; left = s.left; ended = s.ended }

abbrev pub with_left : Run → ℕ → Run
with_left s n = record { frame = s.frame; store = s.store; stack = s.stack; place = s.place; left = n; ended = s.ended }

abbrev pub with_end : Run → Run
with_end s = record { frame = s.frame; store = s.store; stack = s.stack; place = s.place; left = s.left; ended = true }

-- so many turns are spent
abbrev pub spending : ℕ → Run → Result Run Stop
spending n s = if nat_lt s.left n then Err stop.NotWithin else Ok (with_left s (s.left - n))

-- from the first step of a block on
abbrev pub first_of : ℕ → Place
first_of b = record { block = b; at = 0 }

-- after a place
abbrev pub behind : Place → Place
behind p = record { block = p.block; at = suc p.at }

-- a block is entered, and another place comes after it
abbrev pub inside : ℕ → Place → Run → Run
inside b p s = with_place (with_stack s (rest.Block p ∷ s.stack)) (first_of b)

-- the frame of a callee, with what is passed
abbrev pub passing : Slots → Arrays → List Passed → Slots → Result Slots Stop
passing f a [] g = Ok g
passing f a (passed.Number k v ∷ ps) g = then_with (worth f a v) (λ x. passing f a ps (with_local_at g k x))
passing f a (passed.Region k j ∷ ps) g = passing f a ps (with_region_at g k (get_or f.regions j nowhere))
passing f a (passed.Nowhere k ∷ ps) g = passing f a ps (with_region_at g k nowhere)

-- the frame that a call makes
abbrev pub called : Laid → Slots → Arrays → Call → Result Slots Stop
called c f a call = passing f a call.passed.items (fresh (routine_at c call.callee).locals (routine_at c call.callee).regions)

-- a procedure begins in the frame that is there; its entry spends a turn
abbrev pub beginning : Laid → ℕ → Run → Result Run Stop
beginning c k s = spending 1 (with_place s (first_of (routine_at c k).body))

-- a procedure is called: who waits is put on the stack
abbrev pub entering : Laid → ℕ → Slots → Rest → Run → Result Run Stop
entering c k g r s = beginning c k (with_frame (with_stack s (r ∷ s.stack)) g)

-- who waits for a procedure, in the frame that is there
abbrev pub waiting : Run → Option ℕ → ℕ → Caller
waiting s x k = record { frame = s.frame; place = s.place; target = x; callee = k }

-- a value in a target's slot, if there is one
abbrev pub delivering : Option ℕ → ℤ → Slots → Slots
delivering None v f = f
delivering (Some k) v f = with_local_at f k v

-- the sweep after its next block
abbrev pub swept_once : Sweep → Sweep
swept_once w = record {
  index = w.index;
  part = w.part;
  block = w.block;
  region = w.region;
  next = suc w.next;
  frame = w.frame;
  place = w.place;
}

-- the frame of the next block of a sweep
abbrev pub element_frame : Sweep → Slots
element_frame w = with_region_at (with_local_at w.frame w.index (pos w.next)) w.part (part_at w.next w.region)

-- the next block of an `each`, or what follows it
abbrev pub sweeping : Sweep → Run → Result Run Stop
sweeping w s =
    if nat_lt w.next w.region.length
    then then_with (spending 8 s) (λ t. Ok (with_place (with_frame (with_stack t (rest.Sweep (swept_once w) ∷ t.stack)) (element_frame w)) (first_of w.block)))
    else Ok (with_place (with_frame s w.frame) w.place)

-- a local gets a value
abbrev pub setting : ℕ → Value → Run → Result Run Stop
setting k v s = then_with (worth s.frame s.store v) (λ x. Ok (with_frame s (with_local_at s.frame k x)))

-- an element gets a value
abbrev pub putting : ℕ → ℕ → Value → Value → Run → Result Run Stop
putting k line i v s =
    then_with (worth s.frame s.store i) (λ x. then_with (worth s.frame s.store v) (λ y.
    then_with (stopped (index_in line (get_or s.frame.regions k nowhere) x)) (λ j.
    Ok (with_store s (with_word s.store (get_or s.frame.regions k nowhere) j y)))))

-- one of two blocks is entered
abbrev pub choosing : Value → ℕ → ℕ → Run → Result Run Stop
choosing v p q s = then_with (worth s.frame s.store v) (λ x. Ok (if holds x then inside p s.place s else inside q s.place s))

-- the block of a loop is entered where its test holds, and the test comes again after it
abbrev pub testing : Value → ℕ → Run → Result Run Stop
testing v p s = then_with (worth s.frame s.store v) (λ x. Ok (if holds x then inside p (first_of s.place.block) s else s))

-- a call
abbrev pub calling : Laid → Call → Run → Result Run Stop
calling c d s = then_with (called c s.frame s.store d) (λ g. entering c d.callee g (rest.Call (waiting s d.target d.callee)) s)

-- a fork: both frames are made, and the left branch begins
abbrev pub forking : Laid → Call → Call → Run → Result Run Stop
forking c l r s =
    then_with (called c s.frame s.store l) (λ g. then_with (called c s.frame s.store r) (λ h.
    entering c l.callee g (rest.Left (waiting s l.target l.callee) r.target r.callee h) s))

-- the block of a split is entered, with both parts
abbrev pub parting : ℕ → ℕ → Parts → Run → Run
parting k n q s = with_place (with_frame (with_stack s (rest.Parts s.frame.regions s.place ∷ s.stack))
    (with_region_at (with_region_at s.frame q.first (first_part n (get_or s.frame.regions k nowhere))) q.second (second_part n (get_or s.frame.regions k nowhere))))
    (first_of q.block)

-- a split
abbrev pub splitting : ℕ → ℕ → Value → Parts → Run → Result Run Stop
splitting line k v q s =
    then_with (worth s.frame s.store v) (λ m. then_with (stopped (split_at line (get_or s.frame.regions k nowhere) m)) (λ n.
    Ok (parting k n q s)))

-- an `each`
abbrev pub sweep_begins : ℕ → ℕ → ℕ → ℕ → Run → Result Run Stop
sweep_begins i x k b s = then_with (spending 8 s) (λ t. sweeping (record {
  index = i;
  part = x;
  block = b;
  region = get_or t.frame.regions k nowhere;
  next = 0;
  frame = t.frame;
  place = t.place;
}) t)

-- a statement
abbrev pub doing : Laid → Step → Run → Result Run Stop
doing c (step.Set k v) s = setting k v s
doing c (step.Put k line i v) s = putting k line i v s
doing c (step.Choose v p q) s = choosing v p q s
doing c (step.Loop p) s = Ok (inside p s.place s)
doing c (step.Test v p) s = testing v p s
doing c (step.Call d) s = calling c d s
doing c (step.Fork l r) s = forking c l r s
doing c (step.Split line k v q) s = splitting line k v q s
doing c (step.Each i x k b) s = sweep_begins i x k b s

-- what is spent for a value that is given, if there is one
abbrev pub spending_some : Option Value → Run → Result Run Stop
spending_some None s = Ok s
spending_some (Some v) s = spending 1 s

-- what is given, 0 if there is nothing
abbrev pub worth_some : Option Value → Run → Result ℤ Stop
worth_some None s = Ok (pos 0)
worth_some (Some v) s = worth s.frame s.store v

-- a procedure gives its value: the turn, and the value
abbrev pub give_spending : Laid → ℕ → Run → Result Run Stop
give_spending c k s = spending_some (routine_at c k).give s

abbrev pub giving : Laid → ℕ → Run → Result ℤ Stop
giving c k s = worth_some (routine_at c k).give s

-- a called procedure gives its value
abbrev pub returning : Laid → Caller → Run → Result Run Stop
returning c q s = then_with (give_spending c q.callee s) (λ t. then_with (giving c q.callee t) (λ v.
    Ok (with_place (with_frame t (delivering q.target v q.frame)) q.place)))

-- a left branch does, and the right one begins
abbrev pub crossing : Laid → Caller → Option ℕ → ℕ → Slots → Run → Result Run Stop
crossing c q x l g s = then_with (give_spending c q.callee s) (λ t. then_with (giving c q.callee t) (λ v.
    entering c l g (rest.Right (record { frame = q.frame; place = q.place; target = x; callee = l }) q.target v) t))

-- a right branch does, and both values are stored
abbrev pub joining : Laid → Caller → Option ℕ → ℤ → Run → Result Run Stop
joining c q x v s = then_with (give_spending c q.callee s) (λ t. then_with (giving c q.callee t) (λ w.
    Ok (with_place (with_frame t (delivering q.target w (delivering x v q.frame))) q.place)))

-- `main` does, and the run has ended
abbrev pub ending : Laid → Run → Result Run Stop
ending c s = then_with (give_spending c c.main s) (λ t. then_with (giving c c.main t) (λ v. Ok (with_end t)))

-- what comes after a block
abbrev pub leaving : Laid → List Rest → Run → Result Run Stop
leaving c [] s = ending c s
leaving c (rest.Block p ∷ k) s = Ok (with_place (with_stack s k) p)
leaving c (rest.Parts r p ∷ k) s = Ok (with_place (with_frame (with_stack s k) (with_regions s.frame r)) p)
leaving c (rest.Sweep w ∷ k) s = sweeping w (with_stack s k)
leaving c (rest.Call q ∷ k) s = returning c q (with_stack s k)
leaving c (rest.Left q x l g ∷ k) s = crossing c q x l g (with_stack s k)
leaving c (rest.Right q x v ∷ k) s = joining c q x v (with_stack s k)

-- a statement at a place, or what comes after its block
abbrev pub stepping_at : Laid → Option Step → Run → Result Run Stop
stepping_at c None s = leaving c s.stack s
stepping_at c (Some st) s = then_with (spending 1 s) (λ t. doing c st (with_place t (behind t.place)))

-- one step: the statement at the place, or what comes after its block
abbrev pub stepping : Laid → Run → Result Run Stop
stepping c s = stepping_at c (step_at c s.place) s
