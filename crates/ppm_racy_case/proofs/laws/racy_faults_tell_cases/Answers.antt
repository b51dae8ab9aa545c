-- By the law of listings with exchanges.
use Rattle.ppm_racy_case.proofs.LawLemmas.{covers, excludes, one_case, one_fault}
use Rattle.ppm_racy_case.proofs.laws.racy_faults_tell_cases.Goals as goal

pub returns : goal.returns
returns c =
    let law = c.racy_faults_tell_listings.ensures in
    record {
      law = record {
        excludes = λ text code input f line is has. excludes law code input f line is has;
        covers = covers law;
        short = λ text code input is. is.front.short;
        one_case = λ text c d xs ys is also. one_case law c d xs ys is also;
        one_fault = λ text f g line later has also. one_fault law f g line later has also;
      };
    }
