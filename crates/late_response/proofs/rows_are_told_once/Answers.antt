use Rattle.late_response.proofs.Shared.LateLaws.{told-once, table-told-once}
use Rattle.late_response.proofs.rows_are_told_once.Goals as goal

pub returns-clause-row : goal.returns-clause-row
returns-clause-row c = told-once

pub returns-clause-table : goal.returns-clause-table
returns-clause-table c = table-told-once
