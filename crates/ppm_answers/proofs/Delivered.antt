-- What a status says of the delivery, whatever the answer is.
use Rattle.std.proofs.Common.{◌≡◌, ◌≢◌, ◌⊎◌, ℕ, List, [], Option, Some, None}
use Rattle.std.proofs.Common.{refl, ◌∙◌, subst, inl, inr, append-nil}
use Rattle.std.specs.Io.KnownBytes.{Keeps, Appends}
use Rattle.std.proofs.KnownBytes.{Keeps-refl}
use Rattle.ppm_ports.specs.Ports.{Port, port, Fails, Holds}
use Rattle.ppm_answers.specs.declared.answer.Answer.{Answer}
use Rattle.ppm_answers.specs.declared.answer.Answer.TheVariants as answers
use Rattle.ppm_answers.specs.declared.refused.Refused.{Refused}
use Rattle.ppm_answers.specs.declared.refused.Refused.TheVariants as refused
use Rattle.ppm_answers.specs.declared.status.Status.{Status}
use Rattle.ppm_answers.specs.declared.status.Status.TheVariants as statuses
use Rattle.ppm_answers.specs.declared.ran.Ran.{Ran}
use Rattle.ppm_answers.specs.declared.ran.Ran.TheVariants as ran
use Rattle.ppm_answers.specs.declared.run_counts.RunCounts.{RunCounts}
use Rattle.ppm_answers.specs.declared.sweep.Came.{Came}
use Rattle.ppm_answers.specs.declared.sweep.Came.TheVariants as came
use Rattle.ppm_answers.specs.Texts.{IsFixed, counted_out, out_text, ran_out, stood_out}
use Rattle.ppm_answers.specs.Statuses.{came_status, ran_status, refused_status, status_of}
use Rattle.ppm_answers.specs.Delivery.{IsWritten, Delivers}
use Rattle.ppm_answers.specs.Reading.{IsUnread, DeliversAnswer, TellsNothing, Answers}
use Rattle.ppm_ports.specs.Outside.{ToldLists, Outside, ports_of}

-- a status is 8, or the answer is written
pub own_or_fault : (out err : Port) (answer : Answer) (status : Status) → Delivers out err answer status →
    (status ≡ statuses.WriteFault) ⊎ IsWritten out err answer status
own_or_fault out err answer statuses.WriteFault d = inl refl
own_or_fault out err answer status d = inr d

-- at a status other than 8 the answer is written
pub written : (out err : Port) (answer : Answer) (status : Status) → Delivers out err answer status → status ≢ statuses.WriteFault →
    IsWritten out err answer status
written out err answer status d ne = elim (own_or_fault out err answer status d) [ inl e ↦ absurd (ne e) | inr w ↦ w ]

-- at status 8 out or err failed
pub write_failed : (out err : Port) (answer : Answer) (status : Status) → Delivers out err answer status → status ≡ statuses.WriteFault →
    Fails out ⊎ Fails err
write_failed out err answer status d e = go (subst (Delivers out err answer) e d) where
  go : Delivers out err answer statuses.WriteFault → Fails out ⊎ Fails err
  go (inl h) = inl h.out_fails.0
  go (inr h) = inr h.err_fails.0

-- where out or err failed, the status is 8
pub fault_makes_8 : (out err : Port) (answer : Answer) (status : Status) → Delivers out err answer status → (Holds out → Holds err → ⊥) →
    status ≡ statuses.WriteFault
fault_makes_8 out err answer status d f =
    elim (own_or_fault out err answer status d) [ inl e ↦ e | inr w ↦ absurd (f w.out_takes.1 w.err_takes.1) ]

-- what a replay came to is no read fault, and no refusal
pub came_no_fault : (c : Came) → came_status c ≡ statuses.ReadFault → ⊥
came_no_fault (came.Ended arrays) e = cc
came_no_fault (came.Trapped t line) e = cc
came_no_fault (came.Unfinished acts) e = cc
came_no_fault (came.OutOfRoom place) e = cc
came_no_fault (came.Broken place) e = cc

pub came_no_refusal : (c : Came) → came_status c ≡ statuses.WordsRefused → ⊥
came_no_refusal (came.Ended arrays) e = cc
came_no_refusal (came.Trapped t line) e = cc
came_no_refusal (came.Unfinished acts) e = cc
came_no_refusal (came.OutOfRoom place) e = cc
came_no_refusal (came.Broken place) e = cc

-- nor is what a run on threads came to
pub ran_no_fault : (r : Ran) → ran_status r ≡ statuses.ReadFault → ⊥
ran_no_fault (ran.Ended arrays) e = cc
ran_no_fault (ran.Trapped t line) e = cc
ran_no_fault (ran.OutOfTurns processor) e = cc
ran_no_fault (ran.OutOfRoom place) e = cc
ran_no_fault (ran.Broken place) e = cc

pub ran_no_refusal : (r : Ran) → ran_status r ≡ statuses.WordsRefused → ⊥
ran_no_refusal (ran.Ended arrays) e = cc
ran_no_refusal (ran.Trapped t line) e = cc
ran_no_refusal (ran.OutOfTurns processor) e = cc
ran_no_refusal (ran.OutOfRoom place) e = cc
ran_no_refusal (ran.Broken place) e = cc

-- neither is a refusal of a text
pub refused_no_fault : (r : Refused) → refused_status r ≡ statuses.ReadFault → ⊥
refused_no_fault (refused.Source r) e = cc
refused_no_fault (refused.Listing r) e = cc
refused_no_fault (refused.Conflict c) e = cc
refused_no_fault (refused.Input r) e = cc
refused_no_fault (refused.ConflictAt c read write) e = cc
refused_no_fault (refused.Untidy u) e = cc
refused_no_fault (refused.Saved r) e = cc
refused_no_fault (refused.Plan number) e = cc

-- and none but that of a plan or a schedule refuses words
pub is_plan : (r : Refused) → refused_status r ≡ statuses.WordsRefused → (number : ℕ) × (r ≡ refused.Plan number)
is_plan (refused.Source r) e = cc
is_plan (refused.Listing r) e = cc
is_plan (refused.Conflict c) e = cc
is_plan (refused.Input r) e = cc
is_plan (refused.ConflictAt c read write) e = cc
is_plan (refused.Untidy u) e = cc
is_plan (refused.Saved r) e = cc
is_plan (refused.Plan number) e = (number, refl)

-- a replay that has no end has no text on out, its counts included
no_counted : (c : Came) (counts : RunCounts) → came_status c ≢ statuses.Ended → came_status c ≢ statuses.Trapped → counted_out c counts ≡ []
no_counted (came.Ended arrays) counts n m = absurd (n refl)
no_counted (came.Trapped t line) counts n m = absurd (m refl)
no_counted (came.Unfinished acts) counts n m = refl
no_counted (came.OutOfRoom place) counts n m = refl
no_counted (came.Broken place) counts n m = refl

-- nor has a run on threads that has none
no_ran : (r : Ran) (counts : RunCounts) → ran_status r ≢ statuses.Ended → ran_status r ≢ statuses.Trapped → ran_out r counts ≡ []
no_ran (ran.Ended arrays) counts n m = absurd (n refl)
no_ran (ran.Trapped t line) counts n m = absurd (m refl)
no_ran (ran.OutOfTurns processor) counts n m = refl
no_ran (ran.OutOfRoom place) counts n m = refl
no_ran (ran.Broken place) counts n m = refl

-- nor has a run of strands, its turns included
no_stood : (lines : List ℕ) (c : Came) → came_status c ≢ statuses.Ended → came_status c ≢ statuses.Trapped → stood_out lines c ≡ []
no_stood lines (came.Ended arrays) n m = absurd (n refl)
no_stood lines (came.Trapped t line) n m = absurd (m refl)
no_stood lines (came.Unfinished acts) n m = refl
no_stood lines (came.OutOfRoom place) n m = refl
no_stood lines (came.Broken place) n m = refl

-- but for arrays, traps, sums, counts, listings, saved states in digits and in words, traces and `ok`, an answer has no text on out
no_text : (answer : Answer) (status : Status) → status ≡ status_of answer → status ≢ statuses.Ended → status ≢ statuses.Trapped →
    out_text answer ≡ []
no_text (answers.Ended arrays) status e n m = absurd (n e)
no_text (answers.Trapped t line) status e n m = absurd (m e)
no_text (answers.TrapExplained t line notes) status e n m = absurd (m e)
no_text (answers.EndedWith arrays tally) status e n m = absurd (n e)
no_text (answers.TrappedWith t line tally) status e n m = absurd (m e)
no_text (answers.Summed sums) status e n m = absurd (n e)
no_text (answers.Listed listing) status e n m = absurd (n e)
no_text (answers.Saved text) status e n m = absurd (n e)
no_text (answers.Traced text) status e n m = absurd (n e)
no_text (answers.Shown text) status e n m = absurd (n e)
no_text answers.Accepted status e n m = absurd (n e)
no_text (answers.Counted arrays counts) status e n m = absurd (n e)
no_text (answers.TrappedAfter t line counts) status e n m = absurd (m e)
no_text (answers.Sound counts) status e n m = absurd (n e)
no_text (answers.Swept sweep) status e n m = absurd (n e)
no_text (answers.ReplayedWith c counts) status e n m = no_counted c counts (λ is. n (e ∙ is)) (λ is. m (e ∙ is))
no_text (answers.RanWith r counts) status e n m = no_ran r counts (λ is. n (e ∙ is)) (λ is. m (e ∙ is))
no_text (answers.Stood lines c) status e n m = no_stood lines c (λ is. n (e ∙ is)) (λ is. m (e ∙ is))
no_text (answers.AllStood runs) status e n m = absurd (n e)
no_text answer status e n m = refl

appends_nothing : (before now : Option (List ℕ)) → Appends before now [] → Keeps before now
appends_nothing None now h = tt
appends_nothing (Some xs) None h = h
appends_nothing (Some xs) (Some ys) h = h ∙ append-nil xs

-- at each status but 0, 1 and 8 nothing is written on out
pub nothing_on_out : (out err : Port) (answer : Answer) (status : Status) → Delivers out err answer status → status ≢ statuses.Ended →
    status ≢ statuses.Trapped → status ≢ statuses.WriteFault → Keeps out.before out.now
nothing_on_out out err answer status d ended trapped fault =
    let w : IsWritten out err answer status = written out err answer status d fault in
    let e : out_text answer ≡ [] = no_text answer status w.own ended trapped in
    appends_nothing out.before out.now (subst (λ t. Appends out.before out.now t) e w.out_takes.0)

-- a port that is left alone is unread
pub left_alone : {K : Type 0} (bytes : K → Option (List ℕ)) (faults : K → ℕ) (k : K) → IsUnread (port bytes faults k k)
left_alone bytes faults k = record { kept = Keeps-refl (bytes k); holds = refl }

-- what was delivered of an answer with fixed texts is the answer
pub fixed_delivered : (may : Answer → Type 0) (Tells : Answer → ToldLists → ToldLists → Type 0) (o : Outside) (answer : Answer) (status : Status) →
    Tells answer o.told_before o.told_now → IsFixed answer → may answer →
    Delivers o.out o.err answer status ⊎ ((¬ IsFixed answer) × Delivers o.out o.err answers.NoMemory status) → Answers may Tells o status
fixed_delivered may Tells o answer status told fixed h (inl d) = record { answer = answer; cause = h; delivered = d; told = told }
fixed_delivered may Tells o answer status told fixed h (inr d) = absurd (d.0 fixed)

-- an answer that was delivered, without its watchers
pub of_answers : (may : Answer → Type 0) (Tells : Answer → ToldLists → ToldLists → Type 0) (o : Outside) (status : Status) →
    Answers may Tells o status → DeliversAnswer may (ports_of o) status
of_answers may Tells o status a = record { answer = a.answer; cause = a.cause; delivered = a.delivered }

-- and with watchers that were told nothing
pub tells_nothing : (may : Answer → Type 0) (o : Outside) (status : Status) → o.told_now ≡ o.told_before →
    DeliversAnswer may (ports_of o) status → Answers may TellsNothing o status
tells_nothing may o status told a = record { answer = a.answer; cause = a.cause; delivered = a.delivered; told = told }
