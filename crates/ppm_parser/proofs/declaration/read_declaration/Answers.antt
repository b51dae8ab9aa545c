use Rattle.std.proofs.Common.{rules}
use Rattle.ppm_parser.proofs.Exits.{exit_by}
use Rattle.ppm_parser.proofs.Declarations.{array_fails, array_declared, procedure_fails, procedure_declared, input_fails, input_declared}
use Rattle.ppm_parser.proofs.declaration.read_declaration.Goals as goal

-- the array stops
pub returns-in_err-found-in-Keyword-Array : goal.returns-in_err-found-in-Keyword-Array
returns-in_err-found-in-Keyword-Array c =
    exit_by _ _ _ c.from_residual-in_err-found-in-Keyword-Array.result c.from_residual-in_err-found-in-Keyword-Array.ensures.1
    (array_fails c.in-Some.ensures.cases.0 (search rules) c.in_ok-room-in-Keyword-Array.ensures c.in_err-found-in-Keyword-Array.ensures)

-- an array
pub returns-in_ok-found-in-Keyword-Array : goal.returns-in_ok-found-in-Keyword-Array
returns-in_ok-found-in-Keyword-Array c =
    array_declared c.in-Some.ensures.cases.0 (search rules) c.in_ok-room-in-Keyword-Array.ensures c.in_ok-found-in-Keyword-Array.ensures

-- the procedure stops
pub returns-in_err-found-in-Keyword-Proc : goal.returns-in_err-found-in-Keyword-Proc
returns-in_err-found-in-Keyword-Proc c =
    exit_by _ _ _ c.from_residual-in_err-found-in-Keyword-Proc.result c.from_residual-in_err-found-in-Keyword-Proc.ensures.1
    (procedure_fails c.in-Some.ensures.cases.0 (search rules) c.in_ok-room-in-Keyword-Proc.ensures c.in_err-found-in-Keyword-Proc.ensures)

-- a procedure
pub returns-in_ok-found-in-Keyword-Proc : goal.returns-in_ok-found-in-Keyword-Proc
returns-in_ok-found-in-Keyword-Proc c =
    procedure_declared c.in-Some.ensures.cases.0 (search rules) c.in_ok-room-in-Keyword-Proc.ensures c.in_ok-found-in-Keyword-Proc.ensures

-- the input stops
pub returns-in_err-found-in-Keyword-Input : goal.returns-in_err-found-in-Keyword-Input
returns-in_err-found-in-Keyword-Input c =
    exit_by _ _ _ c.from_residual-in_err-found-in-Keyword-Input.result c.from_residual-in_err-found-in-Keyword-Input.ensures.1
    (input_fails c.in-Some.ensures.cases.0 (search rules) c.in_err-found-in-Keyword-Input.ensures)

-- an input
pub returns-in_ok-found-in-Keyword-Input : goal.returns-in_ok-found-in-Keyword-Input
returns-in_ok-found-in-Keyword-Input c =
    rw c.in_ok-found-in-Keyword-Input.ensures.1 (input_declared c.in-Some.ensures.cases.0 (search rules) c.in_ok-found-in-Keyword-Input.ensures.0)
