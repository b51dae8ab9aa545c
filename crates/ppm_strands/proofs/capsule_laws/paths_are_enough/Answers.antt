use Rattle.std.proofs.Common.{IsTrue}
use Rattle.ppm_strands.proofs.PathLemmas.{paths_are_enough, paths_say_where}
use Rattle.ppm_strands.proofs.capsule_laws.paths_are_enough.Goals as goal

-- by induction on the capsule, along the path that the words take
pub returns : goal.returns
returns g c = record { free = λ eq p free m l i j. paths_are_enough eq p m free l i j; by_test = λ eq allows p. paths_say_where eq (λ l. IsTrue (allows l)) p }
