-- An answer on its way out.
use Rattle.std.specs.Prelude.{◌≡◌, ◌≢◌, ◌⊎◌, []}
use Rattle.ppm_ports.specs.Ports.{Port, Takes, FailsAt}
use Rattle.ppm_answers.specs.declared.answer.Answer.{Answer}
use Rattle.ppm_answers.specs.declared.status.Status.{Status}
use Rattle.ppm_answers.specs.declared.status.Status.TheVariants as statuses
use Rattle.ppm_answers.specs.Texts.{out_text, err_text, write_fault_text}
use Rattle.ppm_answers.specs.Statuses.{status_of}

-- both texts are written, no write failed, and the status is the answer's own
pub record IsWritten (out err : Port) (answer : Answer) (status : Status) : Type 0 where
  pub own : status ≡ status_of answer
  pub out_takes : Takes out (out_text answer)
  pub err_takes : Takes err (err_text answer)

-- out failed at its text, and err took `write fault`, or failed at that too
pub record OutFails (out err : Port) (answer : Answer) : Type 0 where
  pub given : out_text answer ≢ []
  pub out_fails : FailsAt out (out_text answer)
  pub err_ends : Takes err write_fault_text ⊎ FailsAt err write_fault_text

-- out took its text, and err failed at its own
pub record ErrFails (out err : Port) (answer : Answer) : Type 0 where
  pub given : err_text answer ≢ []
  pub out_takes : Takes out (out_text answer)
  pub err_fails : FailsAt err (err_text answer)

-- the answer is written, or a write failed
abbrev pub Delivers : Port → Port → Answer → Status → Type 0
Delivers out err answer statuses.WriteFault = OutFails out err answer ⊎ ErrFails out err answer
Delivers out err answer status = IsWritten out err answer status
