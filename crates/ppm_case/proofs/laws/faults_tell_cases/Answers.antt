use Rattle.ppm_case.proofs.LawLemmas.{excludes, one_case, one_fault, front}
use Rattle.ppm_case.proofs.CoverLemmas.{covers}
use Rattle.ppm_case.proofs.laws.faults_tell_cases.Goals as goal

-- by the law of listings
pub returns : goal.returns
returns c =
    let law = c.faults_tell_listings.ensures.law in
    record {
      law = record {
        excludes = λ text code input f line is has. excludes law code input f line is has;
        covers = covers law;
        short = λ text code input is. is.front.short;
        front = front;
        one_case = λ text c d xs ys is also. one_case law c d xs ys is also;
        one_fault = λ text f g line later has also. one_fault law f g line later has also;
      };
    }
