-- What is said of a call that ends by a `?`.
use Rattle.std.proofs.Common.{◌≡◌, Result, Ok, Err, IfErr, sym, subst}
use Rattle.std.specs.Result.{IsErrAnd}
use Rattle.ppm_saved_reader.specs.declared.saved_error.SavedError.{SavedError}

pub exit_err : {T : Type 0} (Q : SavedError → Type 0) (e : SavedError) (r : Result T SavedError) → IsErrAnd r (λ y. y ≡ e) → Q e → IfErr r Q
exit_err Q e (Ok x) is h = absurd is
exit_err Q e (Err y) is h = subst Q (sym is) h
