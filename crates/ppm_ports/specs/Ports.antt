-- A source or a sink before a call and after it.
use Rattle.std.specs.Prelude.{◌≡◌, ℕ, List, Option}
use Rattle.std.specs.Io.KnownBytes.{Appends}
use Rattle.ppm_ports.specs.Causes.{Rose}
use Rattle.ppm_ports.specs.Whole.{WritesFront}

-- the bytes that a port tells, and its count of faults, before a call and after it
pub record Port : Type 0 where
  pub before : Option (List ℕ)
  pub now : Option (List ℕ)
  pub faults_before : ℕ
  pub faults_now : ℕ

-- the port that tells these bytes and counts these faults
abbrev pub port : {K : Type 0} → (K → Option (List ℕ)) → (K → ℕ) → K → K → Port
port bytes faults old new = record { before = bytes old; now = bytes new; faults_before = faults old; faults_now = faults new }

-- no call of the port failed
abbrev pub Holds : Port → Type 0
Holds p = p.faults_now ≡ p.faults_before

-- the port failed
abbrev pub Fails : Port → Type 0
Fails p = Rose p.faults_before p.faults_now

-- the whole text went to the port
abbrev pub Gets : Port → List ℕ → Type 0
Gets p text = Appends p.before p.now text

-- the whole text went to the port, and none of its calls failed
abbrev pub Takes : Port → List ℕ → Type 0
Takes p text = Gets p text × Holds p

-- the port failed, and has a front of the text
abbrev pub FailsAt : Port → List ℕ → Type 0
FailsAt p text = Fails p × WritesFront p.before p.now text
